-- The bodies of letters by phase. Phase 0 of a round has posts, phase 1 replies and phase 2 ghosts.
use Rattle.std.specs.Prelude.{ℕ, zero, suc, Bool, true, false, List, [], ◌∷◌, ◌++◌, map, Option, Some, None, if◌then◌else◌}
use Rattle.std.specs.List.{flat_map}
use Rattle.ma_geom.specs.Coordinates.{Coordinates}
use Rattle.ma_cells.specs.Cells.{CellMark, corners_of}
use Rattle.ma_cells.specs.Grid.{is_on_grid}
use Rattle.ma_cells.specs.Tetrahedron.{Tetrahedron}
use Rattle.ma_cells.specs.declared.batch.Batch.{Batch}
use Rattle.cavity_rank.specs.Operations.{Operation}
use Rattle.letters.specs.declared.letter.Body.{Body}
use Rattle.letters.specs.declared.letter.Body.TheVariants as bodies
use Rattle.letters.specs.declared.letter.Post.{Post}
use Rattle.letters.specs.declared.letter.Reply.{Reply}
use Rattle.part_phases.specs.Inboxes.{Inbox}

-- whether a body is of the kind that letters of a phase have
abbrev pub is_of_phase : ℕ → Body → Bool
is_of_phase zero (bodies.Post post) = true
is_of_phase (suc zero) (bodies.Reply reply) = true
is_of_phase (suc (suc zero)) (bodies.Ghosts batch) = true
is_of_phase _ _ = false

-- the bodies of one kind in an inbox, with their senders
abbrev pub post_from : ℕ → Body → Inbox Post
post_from p (bodies.Post post) = (p, post) ∷ []
post_from p _ = []

abbrev pub reply_from : ℕ → Body → Inbox Reply
reply_from p (bodies.Reply reply) = (p, reply) ∷ []
reply_from p _ = []

abbrev pub batch_from : ℕ → Body → Inbox Batch
batch_from p (bodies.Ghosts batch) = (p, batch) ∷ []
batch_from p _ = []

abbrev pub posts_in : Inbox Body → Inbox Post
posts_in inbox = flat_map (λ entry. post_from entry.0 entry.1) inbox

abbrev pub replies_in : Inbox Body → Inbox Reply
replies_in inbox = flat_map (λ entry. reply_from entry.0 entry.1) inbox

abbrev pub batches_in : Inbox Body → Inbox Batch
batches_in inbox = flat_map (λ entry. batch_from entry.0 entry.1) inbox

-- the places in tetrahedra, marks and operations, in the order in which letters have them
abbrev pub tet_places : List Tetrahedron → List Coordinates
tet_places tets = flat_map (λ tet. tet.corners) tets

abbrev pub mark_places : List CellMark → List Coordinates
mark_places marks = flat_map (λ mark. corners_of mark.cell) marks

abbrev pub operation_places : List Operation → List Coordinates
operation_places ops = flat_map (λ op. op.at ++ op.apex ∷ []) ops

-- the places in a body, in the order of its spelling
abbrev pub places_of : Body → List Coordinates
places_of (bodies.Post post) = post.places ++ mark_places post.marks
places_of (bodies.Reply reply) = map (λ s. s.place) reply.shared ++ mark_places reply.marks
places_of (bodies.Ghosts batch) = tet_places batch.tets ++ mark_places batch.marks
places_of (bodies.Propose ops) = operation_places ops
places_of (bodies.Vote ops) = operation_places ops
places_of (bodies.Order ops) = operation_places ops
places_of (bodies.Deliver batch) = tet_places batch.tets ++ mark_places batch.marks

-- the first of some places that isn't on the grid of 2^k
abbrev pub first_off : ℕ → List Coordinates → Option Coordinates
first_off k [] = None
first_off k (p ∷ places) = if is_on_grid k p then first_off k places else Some p
