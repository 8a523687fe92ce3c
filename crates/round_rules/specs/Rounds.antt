-- The rules of a round with passes: what a part sends in each phase, and what the letters of the phase leave.
use Rattle.std.specs.Prelude.{ℕ, ◌-◌, Bool, true, false, List, [], ◌∷◌, Result, Ok}
use Rattle.ma_geom.specs.Coordinates.{Coordinates}
use Rattle.cavity_rank.specs.Operations.{Operation}
use Rattle.letters.specs.declared.letter.Body.{Body}
use Rattle.letters.specs.declared.letter.Body.TheVariants as bodies
use Rattle.letters.specs.declared.letter.LetterKind.{LetterKind}
use Rattle.letters.specs.declared.letter.LetterKind.TheVariants as kinds
use Rattle.directory.specs.Homes.{home_of}
use Rattle.directory.specs.Posting.{post_of, reply_of}
use Rattle.part_gather.specs.Ordered.{after_orders, delivered_to}
use Rattle.part_phases.specs.Inboxes.{Inbox}
use Rattle.part_phases.specs.Standings.{Rules, Standing}
use Rattle.part_store.specs.Stores.{StoreState, view_in}
use Rattle.part_rules.specs.Begins.{begins_with}
use Rattle.part_rules.specs.Bodies.{batches_in, first_off, places_of, posts_in, replies_in}
use Rattle.part_rules.specs.Ends.{after_ghosts, after_posts, after_replies}
use Rattle.part_rules.specs.Rounds.{latest, shown_to}
use Rattle.part_rules.specs.declared.course.Course.{Course}
use Rattle.part_vote.specs.Voting.{ordered_to, proposed_to, voted_to}
use Rattle.round_rules.specs.Bodies.{deliveries_in, is_of_kind, orders_in, proposals_in, sent_by, votes_in}
use Rattle.round_rules.specs.Stages.{last_phase, pass_kind, passes_before, passes_in, phase_kind}

-- the inbox that was kept before the last one
abbrev pub latest_but_one : List (Inbox Body) → Inbox Body
latest_but_one [] = []
latest_but_one (inbox ∷ older) = latest older

-- what a part orders of q: of what it proposed, by the votes of all
abbrev pub ordered_of : Standing StoreState Body → ℕ → List Operation
ordered_of part q =
    ordered_to (view_in part.holds) (sent_by (proposals_in (latest_but_one part.kept)) part.holds.part) (sent_by (votes_in (latest part.kept)) part.holds.part) (votes_in (latest part.kept)) q

module _ (course : Course) (home : Coordinates → ℕ) where
  -- what a part sends to q in a phase of a kind, behind so many passes, where places have these homes
  abbrev pub body_for : LetterKind → ℕ → Standing StoreState Body → ℕ → Body
  body_for kinds.Post passes part q = bodies.Post (post_of home part.holds q)
  body_for kinds.Reply passes part q = bodies.Reply (reply_of (posts_in (latest part.kept)) q)
  body_for kinds.Ghosts passes part q = bodies.Ghosts (shown_to part.holds q)
  body_for kinds.Propose passes part q = bodies.Propose (proposed_to (pass_kind course passes) course.field (view_in part.holds) q)
  body_for kinds.Vote passes part q = bodies.Vote (voted_to (view_in part.holds) (proposals_in (latest part.kept)) q)
  body_for kinds.Order passes part q = bodies.Order (ordered_of part q)
  body_for kinds.Deliver passes part q = bodies.Deliver (delivered_to part.holds (orders_in (latest part.kept)) q)

-- what the letters of such a phase leave to a part. Proposals, votes and orders change nothing that it holds
abbrev pub left_by : LetterKind → Standing StoreState Body → Result StoreState ℕ
left_by kinds.Post part = after_posts part.holds (posts_in part.now)
left_by kinds.Reply part = Ok (after_replies part.holds (replies_in part.now))
left_by kinds.Ghosts part = Ok (after_ghosts part.holds (batches_in part.now))
left_by kinds.Deliver part = Ok (after_orders part.holds (orders_in (latest part.kept)) (deliveries_in part.now))
left_by _ part = Ok part.holds

-- whether the letters of such a phase are kept for the next ones: posts for the replies, and proposals, votes and orders until the deliveries have come
abbrev pub is_kept : LetterKind → Bool
is_kept kinds.Reply = false
is_kept kinds.Ghosts = false
is_kept kinds.Deliver = false
is_kept _ = true

abbrev pub rules : Course → Rules StoreState Body Coordinates
rules course = record {
  parts = course.parts;
  last = λ round. last_phase (passes_in course round);
  fits = λ phase body. is_of_kind (phase_kind phase) body;
  wrong = λ round body. first_off (course.grid - round) (places_of body);
  begins = λ round part. begins_with course.field round part.holds;
  sends = λ part q. body_for course (home_of (course.grid - part.round) course.parts) (phase_kind part.phase) (passes_before part.phase) part q;
  ends = λ part. left_by (phase_kind part.phase) part;
  keeps = λ part. is_kept (phase_kind part.phase);
}
