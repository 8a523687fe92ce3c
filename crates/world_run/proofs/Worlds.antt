-- What a world answers once its parts were run, where it had taken some letters before.
use Rattle.std.proofs.Common.{◌≡◌, ◌+◌, ℕ, true, List, [], ◌∷◌, length, arith, Option, None, Some, Ok, Err, sym, ap, subst, ◌∙◌}
use Rattle.std.specs.Prelude.{IfSome, Result, map}
use Rattle.std.specs.List.{AllByRecursion}
use Rattle.ma_cells.specs.Cells.{CellMark}
use Rattle.carrier.specs.Carried.{Carried, Letters}
use Rattle.carrier.specs.Schedule.{Picks}
use Rattle.letters.specs.declared.letter.Body.{Body}
use Rattle.part_core.specs.Parts.{PartState}
use Rattle.part_phases.specs.Standings.{Standing}
use Rattle.part_rules.specs.declared.course.Course.{Course}
use Rattle.part_store.specs.Labelled.{LabelledMesh}
use Rattle.part_store.specs.Stores.{StoreState}
use Rattle.phase_laws.specs.Truth.{Truth}
use Rattle.world_run.specs.Drawn.{Draws, EndsAlone, IfAllIsTold, drawn, picks_left}
use Rattle.world_run.specs.Replay.{all_done, all_next}
use Rattle.world_run.specs.Told.{RunTells, WorldState}
use Rattle.world_run.specs.declared.fault.RunFault.{RunFault}
use Rattle.world_run.specs.declared.fault.RunFault.TheVariants.{BadLetter, Link, Memory, Over, Starved}
use Rattle.world_run.specs.steps.Beginning.{AreKept, known_of}
use Rattle.world_run.specs.steps.Drawing.{BeginRight, ComesTo, RestsAlone}
use Rattle.world_run.specs.steps.Turns.{Runs}
use Rattle.world_run.proofs.Alone.{RestsSo, alone_err, alone_ok}
use Rattle.world_run.proofs.Closing.{BeginOn, CameSo, draws_err, draws_ok}
use Rattle.world_run.proofs.Opening.{courses_are}

-- ---- what it tells
abbrev Told : (first new : List PartState) → (given now : Option Letters) → Result ℕ RunFault → Type 0
Told first new given now result = IfSome given (λ before. Runs (all_next first) new before now result)

-- these are the parts that were run
module _ (first parts new : List PartState) (is : parts ≡ first) (taken : ℕ) where
  tells_err : (before : Letters) (now : Option Letters) (fault : RunFault) → Runs (all_next first) new before now (Err fault) → RunTells (all_next first) taken before now (Err fault)
  tells_err before now Link told = tt
  tells_err before now (BadLetter bytes) told = told
  tells_err before now (Starved part phase) told = told
  tells_err before now (Over round stage count) told = told
  tells_err before now Memory told = tt

  pub told_err : (given now : Option Letters) (fault : RunFault) → Told parts new given now (Err fault) → IfSome given (λ before. RunTells (all_next first) taken before now (Err fault))
  told_err None now fault told = tt
  told_err (Some before) now fault told = tells_err before now fault (subst (λ ps. Runs (all_next ps) new before now (Err fault)) is told)

  pub told_ok : (given now : Option Letters) (letters : ℕ) → Told parts new given now (Ok letters) → (world : WorldState) → world.parts ≡ new → world.letters ≡ taken + letters → IfSome given (λ before. RunTells (all_next first) taken before now (Ok world))
  told_ok None now letters told world parts_are letters_are = tt
  told_ok (Some before) now letters told world parts_are letters_are =
      let ran : Runs (all_next first) new before now (Ok letters) = subst (λ ps. Runs (all_next ps) new before now (Ok letters)) is told in
      (ran.0, ran.1, parts_are ∙ ran.2, subst (λ ps. all_done ps ≡ true) (sym parts_are) ran.3, letters_are ∙ ap (λ n. taken + n) ran.4)

-- ---- what is kept of parts
-- parts that are kept are of the same course
courses-kept : (course : Course) (old new : List PartState) → AllByRecursion (λ part. part.course ≡ course) old → AreKept old new → AllByRecursion (λ part. part.course ≡ course) new
courses-kept course [] [] courses kept = tt
courses-kept course [] (part ∷ new) courses kept = let none = ap length kept in absurd (omega (arith, none))
courses-kept course (part ∷ old) [] courses kept = let none = ap length kept in absurd (omega (arith, none))
courses-kept course (part ∷ old) (next ∷ new) courses kept =
    (ap (λ k. k.0) (head_is (known_of next) (known_of part) (map known_of new) (map known_of old) kept) ∙ courses.0, courses-kept course old new courses.1 (tail_is (known_of next) (known_of part) (map known_of new) (map known_of old) kept))
  where
    head_is : (a b : Course × ℕ × ℕ) (xs ys : List (Course × ℕ × ℕ)) → a ∷ xs ≡ b ∷ ys → a ≡ b
    head_is a b xs ys same = cc

    tail_is : (a b : Course × ℕ × ℕ) (xs ys : List (Course × ℕ × ℕ)) → a ∷ xs ≡ b ∷ ys → xs ≡ ys
    tail_is a b xs ys same = cc

-- ---- what it draws of a mesh
module _ (course : Course) (mesh : LabelledMesh) (carried : ℕ → List CellMark) (round : ℕ) (default : Standing StoreState Body) (first : List PartState) (on : BeginOn course mesh carried round default first)
    (parts new : List PartState) (is : parts ≡ first) (old now : Carried) where
  module _ (schedule : Picks) (taken : ℕ) (before : Letters) (held : old.held ≡ Some []) (given : old.given ≡ Some before) where
    abbrev pub DrawnSo : Result ℕ RunFault → Type 0
    DrawnSo result = (course : Course) (truth : Truth StoreState Body) (default : Standing StoreState Body) → BeginRight course truth default parts → IfAllIsTold old (λ before. ComesTo course truth default parts new before now schedule result)

    came : (result : Result ℕ RunFault) → DrawnSo result → CameSo course mesh carried round default first on new now schedule before taken result
    came result so truth begin = subst (λ ps. ComesTo course truth default ps new before now schedule result) is (so course truth default (subst (BeginRight course truth default) (sym is) begin) before held given)

    pub drawn_err : (fault : RunFault) → DrawnSo (Err fault) → Draws course round mesh (drawn course round first (picks_left schedule)) taken before now (Err fault)
    drawn_err fault so = draws_err course mesh carried round default first on new now schedule before taken fault (came (Err fault) so)

    pub drawn_ok : (letters : ℕ) → DrawnSo (Ok letters) → Told parts new old.given now.given (Ok letters) → AreKept (all_next parts) new → (world : WorldState) → world.parts ≡ new → world.letters ≡ taken + letters
        → Draws course round mesh (drawn course round first (picks_left schedule)) taken before now (Ok world)
    drawn_ok letters so told kept world parts_are letters_are =
        draws_ok course mesh carried round default first on new now schedule before taken letters (came (Ok letters) so)
        (subst (λ ps. Runs (all_next ps) new before now.given (Ok letters)) is (subst (λ o. IfSome o (λ before. Runs (all_next parts) new before now.given (Ok letters))) given told))
        (courses-kept course (all_next first) new (courses_are course round first on.courses) (subst (λ ps. AreKept (all_next ps) new) is kept)) world parts_are letters_are

  -- ---- one part alone
  module _ (one : course.parts ≡ 1) where
    abbrev pub AloneSo : Result ℕ RunFault → Type 0
    AloneSo result = (course : Course) (truth : Truth StoreState Body) (default : Standing StoreState Body) → course.parts ≡ 1 → BeginRight course truth default parts → RestsAlone course truth default parts new old now result

    rest : (result : Result ℕ RunFault) → AloneSo result → RestsSo course mesh carried round default first on one new old now result
    rest result so truth begin = subst (λ ps. RestsAlone course truth default ps new old now result) is (so course truth default one (subst (BeginRight course truth default) (sym is) begin))

    pub ends_err : (fault : RunFault) → AloneSo (Err fault) → EndsAlone course round mesh (all_next first) old now (Err fault)
    ends_err fault so = alone_err course mesh carried round default first on one new old now fault (rest (Err fault) so)

    pub ends_ok : (letters : ℕ) → AloneSo (Ok letters) → (world : WorldState) → world.parts ≡ new → EndsAlone course round mesh (all_next first) old now (Ok world)
    ends_ok letters so world parts_are = alone_ok course mesh carried round default first on one new old now letters (rest (Ok letters) so) world parts_are
