-- What the labelled mesh says of a phase: what each part holds in it, each letter, and what a part keeps.
use Rattle.std.specs.Prelude.{ℕ, List, [], ◌∷◌}
use Rattle.ma_geom.specs.Coordinates.{Coordinates}
use Rattle.ma_cells.specs.Cells.{CellMark}
use Rattle.letters.specs.declared.letter.Body.{Body}
use Rattle.letters.specs.declared.letter.Body.TheVariants as bodies
use Rattle.letters.specs.declared.letter.LetterKind.{LetterKind}
use Rattle.letters.specs.declared.letter.LetterKind.TheVariants as kinds
use Rattle.part_gather.specs.OwedGathering.{owed_deliveries}
use Rattle.part_phases.specs.Inboxes.{Inbox, gathered}
use Rattle.part_store.specs.Labelled.{LabelledMesh}
use Rattle.part_store.specs.Stores.{StoreState}
use Rattle.part_rules.specs.Owed as sharing
use Rattle.part_rules.specs.declared.course.Course.{Course}
use Rattle.part_vote.specs.OwedVotes.{owed_orders, owed_proposals, owed_votes}
use Rattle.round_rules.specs.Stages.{pass_kind}

-- by the mesh behind so many passes, what parts then carry of its marks, and where places have these homes
module _ (course : Course) (home : Coordinates → ℕ) (mesh : LabelledMesh) (carried : ℕ → List CellMark) (passes : ℕ) where
  -- what part q holds: before the replies its own tetrahedra and what it carries, then all marks on their cells and the shared places, and from the proposals on its view
  abbrev pub holding : LetterKind → ℕ → StoreState
  holding kinds.Post q = sharing.holding course.parts home mesh carried 0 q
  holding kinds.Reply q = sharing.holding course.parts home mesh carried 1 q
  holding kinds.Ghosts q = sharing.holding course.parts home mesh carried 2 q
  holding _ q = sharing.holding course.parts home mesh carried 3 q

  -- from p to q
  abbrev pub owed : LetterKind → ℕ → ℕ → Body
  owed kinds.Post p q = bodies.Post (sharing.owed_post course.parts home mesh carried p q)
  owed kinds.Reply p q = bodies.Reply (sharing.owed_reply course.parts home mesh carried p q)
  owed kinds.Ghosts p q = bodies.Ghosts (sharing.owed_ghosts course.parts home mesh carried p q)
  owed kinds.Propose p q = bodies.Propose (owed_proposals (pass_kind course passes) course.field mesh p q)
  owed kinds.Vote p q = bodies.Vote (owed_votes (pass_kind course passes) course.field mesh p q)
  owed kinds.Order p q = bodies.Order (owed_orders (pass_kind course passes) course.field mesh p q)
  owed kinds.Deliver p q = bodies.Deliver (owed_deliveries (pass_kind course passes) course.field mesh p q)

  -- all letters of a kind to q
  abbrev pub all_owed : LetterKind → ℕ → Inbox Body
  all_owed kind q = gathered course.parts (λ p. owed kind p q)

  -- those of earlier phases that q keeps, the latest first
  abbrev pub keeping : LetterKind → ℕ → List (Inbox Body)
  keeping kinds.Reply q = all_owed kinds.Post q ∷ []
  keeping kinds.Vote q = all_owed kinds.Propose q ∷ []
  keeping kinds.Order q = all_owed kinds.Vote q ∷ all_owed kinds.Propose q ∷ []
  keeping kinds.Deliver q = all_owed kinds.Order q ∷ all_owed kinds.Vote q ∷ all_owed kinds.Propose q ∷ []
  keeping _ q = []
