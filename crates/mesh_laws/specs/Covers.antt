-- How often points are covered, on closed faces too, and from mesh to mesh.
use Rattle.std.specs.Prelude.{ℕ, ℤ, ◌≡◌, ◌≤◌, Bool, List}
use Rattle.ma_geom.specs.Rational.{Rational}
use Rattle.ma_cells.specs.Tetrahedron.{Tetrahedron}
use Rattle.ma_cover.specs.Cover.{cover, cover_by}
use Rattle.ma_cover.specs.OnFaces.{IsOffFaces}
use Rattle.mesh_laws.specs.Points.{NoneIsFlat}

-- where each point off the closed faces of some tetrahedra and of others is within at most n of the first, of whichever regions, so is every point
abbrev pub CoverStaysAtMost : Type 0
CoverStaysAtMost = (n : ℕ) (regions : ℤ → ℤ → Bool) (tets others : List Tetrahedron) → NoneIsFlat tets → NoneIsFlat others
    → ((p : Rational) → IsOffFaces p tets → IsOffFaces p others → cover_by regions p tets ≤ n) → (p : Rational) → cover_by regions p tets ≤ n

-- that two lists of tetrahedra cover the same, region by region, off the closed faces of both
abbrev pub CoverTheSame : List Tetrahedron → List Tetrahedron → Type 0
CoverTheSame tets others = (phys elem : ℤ) (p : Rational) → IsOffFaces p tets → IsOffFaces p others → cover phys elem p others ≡ cover phys elem p tets

-- what covers the same as a list between covers the same, also on the closed faces of the list between
abbrev pub SameCoverIsHandedOn : Type 0
SameCoverIsHandedOn = (tets between others : List Tetrahedron) → NoneIsFlat tets → NoneIsFlat between → NoneIsFlat others
    → CoverTheSame tets between → CoverTheSame between others → CoverTheSame tets others

-- where each region covers a point equally often, so do whichever regions together
abbrev pub RegionsGiveCover : Type 0
RegionsGiveCover = (regions : ℤ → ℤ → Bool) (p : Rational) (tets others : List Tetrahedron)
    → ((phys elem : ℤ) → cover phys elem p others ≡ cover phys elem p tets) → cover_by regions p others ≡ cover_by regions p tets

-- where each point off the closed faces of some tetrahedra is within at most n of them, every point is within at most n of others that cover the same
abbrev pub SameCoverStaysAtMost : Type 0
SameCoverStaysAtMost = (n : ℕ) (regions : ℤ → ℤ → Bool) (tets others : List Tetrahedron) → NoneIsFlat tets → NoneIsFlat others → CoverTheSame tets others
    → ((p : Rational) → IsOffFaces p tets → cover_by regions p tets ≤ n) → (p : Rational) → cover_by regions p others ≤ n
