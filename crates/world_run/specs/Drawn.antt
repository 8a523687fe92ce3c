-- What a run draws by its picks, where the carrier tells all letters and held none.
use Rattle.std.specs.Prelude.{◌≡◌, ◌+◌, ◌<◌, ◌≤◌, ℕ, zero, suc, List, [], ◌++◌, drop, length, map, Some, Result, Ok, Err}
use Rattle.carrier.specs.Carried.{Carried, Letters}
use Rattle.carrier.specs.Schedule.{Picks, after_pick}
use Rattle.letters.specs.Letters.{spelling}
use Rattle.letters.specs.declared.letter.Body.{Body}
use Rattle.part_core.specs.Parts.{PartState, sent}
use Rattle.part_phases.specs.Standings as phases
use Rattle.part_rules.specs.Ends.{most_tets}
use Rattle.part_rules.specs.declared.course.Course.{Course}
use Rattle.part_store.specs.Labelled.{LabelledMesh}
use Rattle.part_store.specs.Stores.{StoreState}
use Rattle.phase_laws.specs.Drawing.{Drawing, all_begun, turns}
use Rattle.round_laws.specs.Ends.{letters_in}
use Rattle.round_laws.specs.Truths.{StaysWithinUpTo}
use Rattle.round_rules.specs.Rounds.{rules}
use Rattle.round_rules.specs.Stages.{passes_in}
use Rattle.staged_meshes.specs.Laws.{plan_of}
use Rattle.staged_meshes.specs.Staged.{passed_times}
use Rattle.world_run.specs.Rounds.{SeeMesh}
use Rattle.world_run.specs.Told.{WorldState}
use Rattle.world_run.specs.declared.fault.RunFault.{RunFault}
use Rattle.world_run.specs.declared.fault.RunFault.TheVariants.{Link, BadLetter, Starved, Over, Memory}

-- the picks that were not used yet
abbrev pub picks_left : Picks → List ℕ
picks_left schedule = drop schedule.next schedule.picks

-- a schedule of which so many more picks were used, or all
abbrev pub used : Picks → ℕ → Picks
used schedule zero = schedule
used schedule (suc n) = after_pick (used schedule n)

-- a round of parts: they begin it, and then letters are drawn by these picks, and handed on, until none waits
abbrev pub drawn : Course → ℕ → List PartState → List ℕ → Drawing StoreState Body
drawn course round parts picks = turns (rules course) (letters_in course round) picks (all_begun (rules course) round (map (λ part. part.standing) parts))

-- how many letters the rounds up to one have
abbrev pub letters_upto : Course → ℕ → ℕ
letters_upto course zero = letters_in course 0
letters_upto course (suc round) = letters_upto course round + letters_in course (suc round)

-- the bytes of a letter
abbrev pub spelled : phases.Letter Body → List ℕ
spelled letter = spelling (sent letter)

-- that a run over a carrier, which had handed out some letters before, drew just these, handed them on, and left none, where so many letters were taken before
pub record IsDrawn (drawing : Drawing StoreState Body) (taken : ℕ) (before : Letters) (now : Carried) (world : WorldState) : Type 0 where
  pub given : now.given ≡ Some (before ++ map spelled drawing.drawn)
  pub held : now.held ≡ Some []
  pub parts : map (λ part. part.standing) world.parts ≡ drawing.parts
  pub letters : world.letters ≡ taken + length drawing.drawn

-- that of a round which begins with this mesh, this stage is the first that leaves too many tetrahedra, and so many
pub record IsFirstExcess (course : Course) (round : ℕ) (mesh : LabelledMesh) (stage count : ℕ) : Type 0 where
  pub upto : stage ≤ passes_in course round
  pub count_is : count ≡ length (passed_times (plan_of course) mesh stage).tets
  pub much : most_tets < count
  pub earlier : StaysWithinUpTo course mesh stage

-- what a round of the parts of a mesh, of which its letters begin with this, then comes to: at `Ok` it drew the letters of the round, and each part sees its own of what all passes leave. No letter is bad and none is missing.
-- It ends with the number of tetrahedra just where they are too many at some stage
abbrev pub Draws : Course → (round : ℕ) → LabelledMesh → Drawing StoreState Body → (taken : ℕ) → (before : Letters) → (now : Carried) → Result WorldState RunFault → Type 0
Draws course round mesh drawing taken before now (Ok world) =
    StaysWithinUpTo course mesh (passes_in course round + 1) × IsDrawn drawing taken before now world × SeeMesh (passed_times (plan_of course) mesh (passes_in course round)) world.parts
Draws course round mesh drawing taken before now (Err Link) = Unit {0}
Draws course round mesh drawing taken before now (Err (BadLetter bytes)) = ⊥
Draws course round mesh drawing taken before now (Err (Starved part phase)) = ⊥
Draws course round mesh drawing taken before now (Err (Over over stage count)) = (over ≡ round) × IsFirstExcess course round mesh stage count
Draws course round mesh drawing taken before now (Err Memory) = Unit {0}

-- what is due where a carrier tells which letters wait, none, and which it has handed out
abbrev pub IfAllIsTold : Carried → (Letters → Type 0) → Type 0
IfAllIsTold carried due = (before : Letters) → carried.held ≡ Some [] → carried.given ≡ Some before → due before

-- what a round of one part, which has begun it so, comes to over any carrier, whatever this tells: it doesn't ask it, and the part ends the round by itself
abbrev pub EndsAlone : Course → (round : ℕ) → LabelledMesh → (begun : List PartState) → (old new : Carried) → Result WorldState RunFault → Type 0
EndsAlone course round mesh begun old new (Ok world) =
    (new ≡ old) × StaysWithinUpTo course mesh (passes_in course round + 1) × (world.parts ≡ begun) × SeeMesh (passed_times (plan_of course) mesh (passes_in course round)) world.parts
EndsAlone course round mesh begun old new (Err Link) = ⊥
EndsAlone course round mesh begun old new (Err (BadLetter bytes)) = ⊥
EndsAlone course round mesh begun old new (Err (Starved part phase)) = ⊥
EndsAlone course round mesh begun old new (Err (Over over stage count)) = (new ≡ old) × (over ≡ round) × IsFirstExcess course round mesh stage count
EndsAlone course round mesh begun old new (Err Memory) = Unit {0}
