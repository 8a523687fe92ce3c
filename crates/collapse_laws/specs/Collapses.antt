-- A mesh in which an edge is collapsed.
use Rattle.std.specs.Prelude.{ℕ, ◌≡◌, true, not, ◌∷◌, [], ◌++◌, filter}
use Rattle.ma_geom.specs.Coordinates.{Coordinates}
use Rattle.ma_cells.specs.Ascending.{are_distinct}
use Rattle.ma_cells.specs.Cells.{mark_cmp}
use Rattle.ma_cells.specs.Faces.{holds_all}
use Rattle.ma_cells.specs.Stars.{marks_at, star_of}
use Rattle.ma_cells.specs.declared.batch.Batch.{Batch}
use Rattle.size_marks.specs.Field.{Field}
use Rattle.cavity_rank.specs.declared.verdict.Verdict.TheVariants.{Legal}
use Rattle.cavity_collapse.specs.Collapsing.{collapsed, moved_marks}
use Rattle.cavity_collapse.specs.Judging.{judged_collapse}
use Rattle.mesh_laws.specs.Adapted.{IsAdapted, IsSoundMesh}
use Rattle.mesh_laws.specs.Covers.{CoverTheSame}

-- the mesh in which a vertex a goes to v: what fills its star stands in the place of its star, and each mark is changed
abbrev pub collapsed_mesh : (a v : Coordinates) → Batch → Batch
collapsed_mesh a v mesh = record {
  tets = filter (λ tet. not (holds_all tet.corners (a ∷ []))) mesh.tets ++ collapsed a v (star_of (a ∷ []) mesh.tets);
  marks = moved_marks a v mesh.marks;
}

-- a legal collapse of a sound mesh leaves a sound mesh with the same cover of each region
abbrev pub LegalCollapseKeepsMesh : Type 0
LegalCollapseKeepsMesh = (field : Field) (mesh : Batch) (a v : Coordinates) (worst : ℕ) → IsSoundMesh mesh
    → judged_collapse field (star_of (a ∷ []) mesh.tets) (marks_at (a ∷ []) mesh.marks) a v ≡ Legal worst
    → IsSoundMesh (collapsed_mesh a v mesh) × CoverTheSame mesh.tets (collapsed_mesh a v mesh).tets

-- and with the same classification, where no mark is listed twice
abbrev pub LegalCollapseAdapts : Type 0
LegalCollapseAdapts = (field : Field) (mesh : Batch) (a v : Coordinates) (worst : ℕ) → IsSoundMesh mesh → are_distinct mark_cmp mesh.marks ≡ true
    → judged_collapse field (star_of (a ∷ []) mesh.tets) (marks_at (a ∷ []) mesh.marks) a v ≡ Legal worst → IsAdapted mesh (collapsed_mesh a v mesh)
