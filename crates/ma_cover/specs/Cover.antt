-- How many tetrahedra have a point within them.
use Rattle.std.specs.Prelude.{ℕ, ℤ, Bool, true, ◌&&◌, List}
use Rattle.std.specs.List.{count_by}
use Rattle.std.specs.Ordering.{int_eq}
use Rattle.ma_geom.specs.Rational.{Rational}
use Rattle.ma_cells.specs.Tetrahedron.{Tetrahedron}
use Rattle.ma_cover.specs.Inside.{is_inside}

-- the number of tetrahedra that have p within them, of the regions (phys, elem) that pass a test
abbrev pub cover_by : (ℤ → ℤ → Bool) → Rational → List Tetrahedron → ℕ
cover_by regions p tets = count_by (λ tet. regions tet.phys tet.elem && is_inside p tet.corners) tets

-- of one region
abbrev pub cover : (phys elem : ℤ) → Rational → List Tetrahedron → ℕ
cover phys elem p tets = cover_by (λ u v. int_eq u phys && int_eq v elem) p tets

-- of all regions
abbrev pub whole_cover : Rational → List Tetrahedron → ℕ
whole_cover p tets = cover_by (λ _ _. true) p tets
