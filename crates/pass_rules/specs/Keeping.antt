-- What a pass keeps of any mesh.
use Rattle.std.specs.Prelude.{ℕ, ◌≡◌, true}
use Rattle.ma_cells.specs.Grid.{mesh_is_on_grid}
use Rattle.ma_cells.specs.Tetrahedron.{are_tetrahedra}
use Rattle.ma_cells.specs.declared.batch.Batch.{Batch}
use Rattle.size_marks.specs.Field.{Field}
use Rattle.cavity_rank.specs.declared.verdict.Kind.{Kind}
use Rattle.pass_rules.specs.Passes.{passed}

-- no tetrahedron is flat afterwards
abbrev pub PassesAreNotFlat : Type 0
PassesAreNotFlat = (kind : Kind) (field : Field) (mesh : Batch) → are_tetrahedra mesh.tets ≡ true → are_tetrahedra (passed kind field mesh).tets ≡ true

-- a mesh on the grid of 2^k stays on it
abbrev pub PassesStayOnTheGrid : Type 0
PassesStayOnTheGrid = (k : ℕ) (kind : Kind) (field : Field) (mesh : Batch) → mesh_is_on_grid k mesh ≡ true → mesh_is_on_grid k (passed kind field mesh) ≡ true
