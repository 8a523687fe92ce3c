-- A mesh in which a swap is made.
use Rattle.std.specs.Prelude.{ℕ, ◌≡◌, ◌≤◌, true, not, List, ◌++◌, filter, length}
use Rattle.ma_geom.specs.Coordinates.{Coordinates, place_cmp}
use Rattle.ma_cells.specs.Ascending.{are_ascending}
use Rattle.ma_cells.specs.Faces.{holds_all}
use Rattle.ma_cells.specs.Stars.{marks_at, star_of}
use Rattle.ma_cells.specs.declared.batch.Batch.{Batch}
use Rattle.cavity_rank.specs.declared.verdict.Verdict.TheVariants.{Legal}
use Rattle.cavity_swap.specs.Judging.{judged_swap}
use Rattle.cavity_swap.specs.Swapping.{swapped}
use Rattle.mesh_laws.specs.Adapted.{IsAdapted, IsSoundMesh}

-- the mesh in which all tetrahedra with these corners are taken away, and what the swap to v leaves stands in their place. Marks stay as they are
abbrev pub swapped_mesh : (at : List Coordinates) (v : Coordinates) → Batch → Batch
swapped_mesh at v mesh = record {
  tets = filter (λ tet. not (holds_all tet.corners at)) mesh.tets ++ swapped v (star_of at mesh.tets);
  marks = mesh.marks;
}

-- a legal swap of an edge or a face of a sound mesh leaves a sound mesh, with the same cover of each region and the same classification.
-- That the edge's tetrahedra are a ring, or the face's two, isn't asked for
abbrev pub LegalSwapAdapts : Type 0
LegalSwapAdapts = (mesh : Batch) (at : List Coordinates) (v : Coordinates) (worst : ℕ) → IsSoundMesh mesh → are_ascending place_cmp at ≡ true → 2 ≤ length at
    → judged_swap (star_of at mesh.tets) (marks_at at mesh.marks) at v ≡ Legal worst → IsAdapted mesh (swapped_mesh at v mesh)
