-- Cavities that are filled by the cones with their corners in any order, as tetrahedra are stored.
use Rattle.std.specs.Prelude.{◌≡◌, Bool, List, [], ◌∷◌, IsPermutation}
use Rattle.std.specs.List.{AllByRecursion, count_by}
use Rattle.ma_geom.specs.Coordinates.{Coordinates}
use Rattle.ma_geom.specs.Rational.{Rational}
use Rattle.ma_cover.specs.Inside.{is_inside}
use Rattle.ma_cover.specs.OnFaces.{IsOffFacesOf}
use Rattle.cavity_laws.specs.Cavity.{IsCavity, cones}

-- that two lists have the same tetrahedra one after another, each with its corners in any order
abbrev pub AreReordered : List (List Coordinates) → List (List Coordinates) → Type 0
AreReordered [] [] = Unit {0}
AreReordered (s ∷ ss) (t ∷ ts) = IsPermutation s t × AreReordered ss ts
AreReordered _ _ = ⊥

-- what fills a cavity has a point within it as often as what was there, off the closed faces of both
abbrev pub FillingKeepsCover : Type 0
FillingKeepsCover = (p : Rational) (v : Coordinates) (inner : List Coordinates → Bool) (tets filling : List (List Coordinates)) → IsCavity v inner tets
    → AreReordered (cones v inner tets) filling → AllByRecursion (IsOffFacesOf p) tets → AllByRecursion (IsOffFacesOf p) filling
    → count_by (is_inside p) filling ≡ count_by (is_inside p) tets
