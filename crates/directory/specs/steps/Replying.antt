-- How the code replies, by the places that the other posted. No public contract names this.
use Rattle.std.specs.Prelude.{List, filter}
use Rattle.ma_geom.specs.Coordinates.{Coordinates, place_cmp}
use Rattle.ma_cells.specs.Ascending.{has}
use Rattle.letters.specs.declared.letter.Post.{Post}
use Rattle.letters.specs.declared.letter.Reply.{Reply}
use Rattle.part_phases.specs.Inboxes.{Inbox}
use Rattle.directory.specs.Posting.{least_corner, marks_posted, posters, shared_of}

-- what a home replies to a part that posted these places
abbrev pub reply_on : List Coordinates → Inbox Post → Reply
reply_on places posts = record {
  shared = shared_of (λ x. posters x posts) places;
  marks = filter (λ mark. has place_cmp (least_corner mark.cell) places) (marks_posted posts);
}
