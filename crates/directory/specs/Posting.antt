-- What parts post to the homes of their corners, and what a home replies.
use Rattle.std.specs.Prelude.{ℕ, ◌-◌, ◌^◌, ◌==◌, min, nat_le, List, [], length, filter, map, get_or, Option, Some, None, pos}
use Rattle.std.specs.List.{flat_map}
use Rattle.ma_geom.specs.Coordinates.{Coordinates, place_cmp}
use Rattle.ma_cells.specs.Ascending.{ascending_of, has}
use Rattle.ma_cells.specs.Cells.{CellMark, corners_of, mark_cmp}
use Rattle.ma_cells.specs.declared.cell.Cell.{Cell}
use Rattle.letters.specs.Sharing.{SharedPlace}
use Rattle.letters.specs.declared.letter.Post.{Post}
use Rattle.letters.specs.declared.letter.Reply.{Reply}
use Rattle.part_phases.specs.Inboxes.{Inbox, body_from}
use Rattle.part_store.specs.Labelled.{corner_set, marks_on}
use Rattle.part_store.specs.Stores.{StoreState}

-- the greatest number of tetrahedra that a post tells
abbrev pub most_told : ℕ
most_told = 2 ^ 32 - 1

abbrev pub told : ℕ → ℕ
told count = min count most_told

-- the first corner of a cell, which is the least
abbrev pub least_corner : Cell → Coordinates
least_corner cell = get_or (corners_of cell) 0 (record { x = pos 0; y = pos 0; z = pos 0 })

-- all that a part has to post: how many tetrahedra it has, their corners, and the marks on their cells
abbrev pub posted_by : StoreState → Post
posted_by s = record { count = told (length s.own); places = corner_set s.own; marks = marks_on s.own s.marks }

-- of that what one home is told: the places with this home, and the marks whose least corner has it
abbrev pub for_home : (Coordinates → ℕ) → ℕ → Post → Post
for_home home q post = record { count = post.count; places = filter (λ x. home x == q) post.places; marks = filter (λ mark. home (least_corner mark.cell) == q) post.marks }

-- what a part posts to q
abbrev pub post_of : (Coordinates → ℕ) → StoreState → ℕ → Post
post_of home s q = for_home home q (posted_by s)

-- the parts that posted a place, ascending
abbrev pub posters : Coordinates → Inbox Post → List ℕ
posters x posts = map (λ entry. entry.0) (filter (λ entry. has place_cmp x entry.1.places) posts)

abbrev pub places_in : Option Post → List Coordinates
places_in None = []
places_in (Some post) = post.places

-- the places that a part posted
abbrev pub places_from : ℕ → Inbox Post → List Coordinates
places_from q posts = places_in (body_from q posts)

-- all marks that were posted
abbrev pub marks_posted : Inbox Post → List CellMark
marks_posted posts = ascending_of mark_cmp (flat_map (λ entry. entry.1.marks) posts)

-- those of the places that two or more parts have, each with these parts
abbrev pub shared_of : (Coordinates → List ℕ) → List Coordinates → List SharedPlace
shared_of who places = map (λ x. record { place = x; parts = who x }) (filter (λ x. nat_le 2 (length (who x))) places)

-- what a home replies to q, by the posts that it got: the places of q that others have too, and the marks whose least corner q has
abbrev pub reply_of : Inbox Post → ℕ → Reply
reply_of posts q = record {
  shared = shared_of (λ x. posters x posts) (places_from q posts);
  marks = filter (λ mark. has place_cmp (least_corner mark.cell) (places_from q posts)) (marks_posted posts);
}
