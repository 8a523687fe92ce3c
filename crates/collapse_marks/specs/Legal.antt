-- Legal collapses keep the classification.
use Rattle.std.specs.Prelude.{ℕ, ◌≡◌, true, [], ◌∷◌}
use Rattle.ma_geom.specs.Coordinates.{Coordinates}
use Rattle.ma_cells.specs.Ascending.{are_distinct}
use Rattle.ma_cells.specs.Cells.{mark_cmp}
use Rattle.ma_cells.specs.Stars.{marks_at, star_of}
use Rattle.ma_cells.specs.declared.batch.Batch.{Batch}
use Rattle.ma_cover.specs.Classification.{KeepsClassification}
use Rattle.mesh_laws.specs.Adapted.{IsSoundMesh}
use Rattle.size_marks.specs.Field.{Field}
use Rattle.cavity_rank.specs.declared.verdict.Verdict.TheVariants.{Legal}
use Rattle.cavity_collapse.specs.Collapsing.{moved_marks}
use Rattle.cavity_collapse.specs.Judging.{judged_collapse}

-- where a collapse in a sound mesh, which has no mark twice, is judged legal, by the tetrahedra and the marks at a, the moved marks classify each point as the marks do
abbrev pub LegalCollapseKeepsClassification : Type 0
LegalCollapseKeepsClassification = (field : Field) (mesh : Batch) (a v : Coordinates) (worst : ℕ) → IsSoundMesh mesh → are_distinct mark_cmp mesh.marks ≡ true
    → judged_collapse field (star_of (a ∷ []) mesh.tets) (marks_at (a ∷ []) mesh.marks) a v ≡ Legal worst → KeepsClassification mesh.marks (moved_marks a v mesh.marks)
