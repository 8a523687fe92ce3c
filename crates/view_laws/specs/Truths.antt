-- A round of which the labelled mesh tells what each part holds and sends.
use Rattle.std.specs.Prelude.{◌≡◌, ◌≤◌, ◌<◌, ◌-◌, ℕ, true, List, length, Ok, Err}
use Rattle.ma_cells.specs.Cells.{CellMark}
use Rattle.ma_cells.specs.Grid.{are_on_grid, marks_are_on_grid}
use Rattle.std.specs.Prelude.{map}
use Rattle.letters.specs.declared.letter.Body.{Body}
use Rattle.directory.specs.Homes.{home_of}
use Rattle.directory.specs.Posting.{most_told}
use Rattle.part_rules.specs.Ends.{most_tets}
use Rattle.part_rules.specs.Owed.{AreCarried, IsLabelled, holding, keeping, owed}
use Rattle.part_rules.specs.Rounds.{rules}
use Rattle.part_rules.specs.declared.course.Course.{Course}
use Rattle.part_store.specs.Labelled.{LabelledMesh, tet_of}
use Rattle.part_store.specs.Stores.{StoreState}
use Rattle.phase_laws.specs.Truth.{Follows, Truth}

module _ (course : Course) (mesh : LabelledMesh) (carried : ℕ → List CellMark) (round : ℕ) where
  abbrev holds : ℕ → ℕ → StoreState
  holds = holding course.parts (home_of (course.grid - round) course.parts) mesh carried

  -- where the mesh has not too many tetrahedra
  abbrev pub mesh_truth : Truth StoreState Body
  mesh_truth = record {
    round = round;
    end = 2;
    outcome = λ q. Ok (holds 3 q);
    holds = holds;
    kept = keeping course.parts (home_of (course.grid - round) course.parts) mesh carried;
    letter = owed course.parts (home_of (course.grid - round) course.parts) mesh carried;
  }

  -- where it has too many, which the posts tell
  abbrev pub over_truth : Truth StoreState Body
  over_truth = record {
    round = round;
    end = 0;
    outcome = λ q. Err (length mesh.tets);
    holds = holds;
    kept = keeping course.parts (home_of (course.grid - round) course.parts) mesh carried;
    letter = owed course.parts (home_of (course.grid - round) course.parts) mesh carried;
  }

  -- that the mesh is labelled by the parts of the course, is on the grid of the round, and that its marks are carried so
  pub record IsShared : Type 0 where
    pub parts : 1 ≤ course.parts
    pub labelled : IsLabelled course.parts mesh
    pub known : AreCarried course.parts mesh carried
    pub tets : are_on_grid (course.grid - round) (map tet_of mesh.tets) ≡ true
    pub marks : marks_are_on_grid (course.grid - round) mesh.marks ≡ true

-- the rules of a part lead from what the mesh tells of a phase to what it tells of the next
abbrev pub RulesFollow : Type 0
RulesFollow = (course : Course) (mesh : LabelledMesh) (carried : ℕ → List CellMark) (round : ℕ)
    → IsShared course mesh carried round → length mesh.tets ≤ most_tets → Follows (rules course) (mesh_truth course mesh carried round)

-- and they stop at the posts where it has too many tetrahedra, unless these are more than a post tells
abbrev pub RulesStop : Type 0
RulesStop = (course : Course) (mesh : LabelledMesh) (carried : ℕ → List CellMark) (round : ℕ)
    → IsShared course mesh carried round → most_tets < length mesh.tets → length mesh.tets ≤ most_told → Follows (rules course) (over_truth course mesh carried round)
