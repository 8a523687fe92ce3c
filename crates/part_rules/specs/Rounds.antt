-- The rules of a round: what a part begins with, what it sends in each phase, and what the letters of the phase leave.
use Rattle.std.specs.Prelude.{ℕ, zero, suc, ◌-◌, ◌==◌, List, [], ◌∷◌, Result, Ok, if◌then◌else◌}
use Rattle.ma_geom.specs.Coordinates.{Coordinates}
use Rattle.ma_cells.specs.declared.batch.Batch.{Batch}
use Rattle.letters.specs.declared.letter.Body.{Body}
use Rattle.letters.specs.declared.letter.Body.TheVariants as bodies
use Rattle.directory.specs.Homes.{home_of}
use Rattle.directory.specs.Posting.{post_of, reply_of}
use Rattle.ghost_layer.specs.GhostRule.{batch_of, ghosts_for}
use Rattle.part_phases.specs.Inboxes.{Inbox}
use Rattle.part_phases.specs.Standings.{Rules, Standing}
use Rattle.part_store.specs.Stores.{StoreState}
use Rattle.part_rules.specs.Begins.{begins_with}
use Rattle.part_rules.specs.Bodies.{batches_in, first_off, is_of_phase, places_of, posts_in, replies_in}
use Rattle.part_rules.specs.Ends.{after_ghosts, after_posts, after_replies}
use Rattle.part_rules.specs.declared.course.Course.{Course}

-- the inbox that was kept last
abbrev pub latest : List (Inbox Body) → Inbox Body
latest [] = []
latest (inbox ∷ older) = inbox

-- a part shows nothing to itself
abbrev pub shown_to : StoreState → ℕ → Batch
shown_to s q = if q == s.part then batch_of [] [] else ghosts_for s q

-- what a part sends to q, by the phase in which it stands, where places have these homes
abbrev pub body_for : (Coordinates → ℕ) → ℕ → Standing StoreState Body → ℕ → Body
body_for home zero part q = bodies.Post (post_of home part.holds q)
body_for home (suc zero) part q = bodies.Reply (reply_of (posts_in (latest part.kept)) q)
body_for home (suc (suc n)) part q = bodies.Ghosts (shown_to part.holds q)

-- what the letters of its phase leave to a part
abbrev pub left_by : ℕ → Standing StoreState Body → Result StoreState ℕ
left_by zero part = after_posts part.holds (posts_in part.now)
left_by (suc zero) part = Ok (after_replies part.holds (replies_in part.now))
left_by (suc (suc n)) part = Ok (after_ghosts part.holds (batches_in part.now))

-- the posts are kept for the replies
abbrev pub rules : Course → Rules StoreState Body Coordinates
rules course = record {
  parts = course.parts;
  last = λ round. 2;
  fits = is_of_phase;
  wrong = λ round body. first_off (course.grid - round) (places_of body);
  begins = λ round part. begins_with course.field round part.holds;
  sends = λ part q. body_for (home_of (course.grid - part.round) course.parts) part.phase part q;
  ends = λ part. left_by part.phase part;
  keeps = λ part. part.phase == 0;
}
