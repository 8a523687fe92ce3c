-- How many tetrahedra a pass leaves.
use Rattle.std.specs.Prelude.{◌*◌, ◌≤◌, length}
use Rattle.ma_cells.specs.declared.batch.Batch.{Batch}
use Rattle.size_marks.specs.Field.{Field}
use Rattle.cavity_rank.specs.declared.verdict.Kind.{Kind}
use Rattle.pass_rules.specs.Passes.{passed}

-- at most four times as many as there were, whatever the mesh
abbrev pub PassesAreAtMostFourfold : Type 0
PassesAreAtMostFourfold = (kind : Kind) (field : Field) (mesh : Batch) → length (passed kind field mesh).tets ≤ 4 * length mesh.tets
