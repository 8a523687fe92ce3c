-- What refinement keeps.
use Rattle.std.specs.Prelude.{ℕ, suc, ◌≤◌, ◌≡◌, ℤ, true}
use Rattle.ma_geom.specs.Rational.{Rational}
use Rattle.ma_cells.specs.Grid.{mesh_is_on_grid}
use Rattle.ma_cells.specs.Tetrahedron.{are_tetrahedra}
use Rattle.ma_cells.specs.declared.batch.Batch.{Batch}
use Rattle.ma_cover.specs.Cover.{cover, whole_cover}
use Rattle.ma_cover.specs.OnFaces.{IsOffFaces}
use Rattle.size_marks.specs.Field.{Field}
use Rattle.refinement.specs.Refinement.{refine}

-- a point is within as many tetrahedra of n as of m: of each region, and of all
pub record IsCoveredAlike (p : Rational) (m n : Batch) : Type 0 where
  pub each : (phys elem : ℤ) → cover phys elem p n.tets ≡ cover phys elem p m.tets
  pub whole : whole_cover p n.tets ≡ whole_cover p m.tets

-- A mesh n made of a mesh m keeps its cover: so is each rational point that is on no closed face of m or n, and within at most one tetrahedron of m
abbrev pub KeepsCover : Batch → Batch → Type 0
KeepsCover m n = (p : Rational) → IsOffFaces p m.tets → IsOffFaces p n.tets → whole_cover p m.tets ≤ 1 → IsCoveredAlike p m n

-- A refined mesh has no flat tetrahedron
abbrev pub RefinementIsNotFlat : Type 0
RefinementIsNotFlat = (field : Field) (mesh : Batch) → are_tetrahedra mesh.tets ≡ true → are_tetrahedra (refine field mesh).tets ≡ true

abbrev pub RefinementKeepsCover : Type 0
RefinementKeepsCover = (field : Field) (mesh : Batch) → are_tetrahedra mesh.tets ≡ true → KeepsCover mesh (refine field mesh)

-- The faces of a mesh are made of faces of the refined one: what is on no closed face of that is on none of the mesh
abbrev pub RefinementKeepsFaces : Type 0
RefinementKeepsFaces = (field : Field) (mesh : Batch) (p : Rational) → are_tetrahedra mesh.tets ≡ true → IsOffFaces p (refine field mesh).tets → IsOffFaces p mesh.tets

-- a mesh on the grid of 2^(k+1) is on that of 2^k once it is refined
abbrev pub RefinementHalvesTheGrid : Type 0
RefinementHalvesTheGrid = (k : ℕ) (field : Field) (mesh : Batch) → mesh_is_on_grid (suc k) mesh ≡ true → mesh_is_on_grid k (refine field mesh) ≡ true
