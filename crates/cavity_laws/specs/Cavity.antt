-- Cavities: tetrahedra that are replaced by the cones from one place over their outer faces.
use Rattle.std.specs.Prelude.{◌≡◌, ℤ, pos, ◌+ℤ◌, Bool, true, false, ◌||◌, if◌then◌else◌, List, [], ◌∷◌}
use Rattle.std.specs.Cmp.Lexicographic.{slice_cmp}
use Rattle.std.specs.Int.{int_signum}
use Rattle.std.specs.List.{AllByRecursion, count_by, flat_map}
use Rattle.std.specs.Ordering.{eq_by_cmp}
use Rattle.ma_geom.specs.Coordinates.{Coordinates, place_cmp}
use Rattle.ma_geom.specs.Lines.{is_flat}
use Rattle.ma_geom.specs.Rational.{Rational}
use Rattle.ma_geom.specs.Volume.{vol6}
use Rattle.ma_cover.specs.Inside.{are_alike, is_inside}
use Rattle.ma_cover.specs.OnFaces.{IsOffFacesOf}

-- a face of a tetrahedron, with the corner across from it
pub record Facet : Type 0 where
  pub face : List Coordinates
  pub across : Coordinates

-- the four facets of a tetrahedron, which is given by its corners, in the order of its faces
abbrev pub facets_of : List Coordinates → List Facet
facets_of (a ∷ b ∷ c ∷ d ∷ []) =
    record { face = a ∷ b ∷ c ∷ []; across = d } ∷ record { face = a ∷ b ∷ d ∷ []; across = c } ∷ record { face = a ∷ c ∷ d ∷ []; across = b } ∷ record { face = b ∷ c ∷ d ∷ []; across = a } ∷ []
facets_of _ = []

-- the side of a triangle on which a place lies: 1 or -1, and 0 in its plane
abbrev pub side_number : List Coordinates → Coordinates → ℤ
side_number (a ∷ b ∷ c ∷ []) q = int_signum (vol6 a b c q)
side_number _ q = pos 0

abbrev pub total : {X : Type 0} → (X → ℤ) → List X → ℤ
total f [] = pos 0
total f (x ∷ xs) = f x +ℤ total f xs

-- how many of the facets with this face lie on one side of it, less those on the other
abbrev pub balance : List Coordinates → List Facet → ℤ
balance face facets = total (λ x. if eq_by_cmp (slice_cmp place_cmp) face x.face then side_number x.face x.across else pos 0) facets

-- whether two places lie strictly on one side of a triangle
abbrev pub AreOnOneSide : List Coordinates → Coordinates → Coordinates → Type 0
AreOnOneSide (a ∷ b ∷ c ∷ []) q r = are_alike (vol6 a b c q) (vol6 a b c r) ≡ true
AreOnOneSide _ q r = ⊥

-- the cone from v over a facet: the tetrahedron that v makes with the face. None where the face is an inner one or v lies in its plane
abbrev pub cone_of : Coordinates → (List Coordinates → Bool) → Facet → List (List Coordinates)
cone_of v inner x = if inner x.face || is_flat (v ∷ x.face) then [] else (v ∷ x.face) ∷ []

abbrev pub cones : Coordinates → (List Coordinates → Bool) → List (List Coordinates) → List (List Coordinates)
cones v inner tets = flat_map (cone_of v inner) (flat_map facets_of tets)

-- that tetrahedra can be replaced by the cones from v: none is flat; at each inner face as many lie on one side of it as on the other;
-- and v lies strictly on the tetrahedron's side of each other face, or in its plane
pub record IsCavity (v : Coordinates) (inner : List Coordinates → Bool) (tets : List (List Coordinates)) : Type 0 where
  pub solid : AllByRecursion (λ corners. is_flat corners ≡ false) tets
  pub balanced : (face : List Coordinates) → inner face ≡ true → balance face (flat_map facets_of tets) ≡ pos 0
  pub seen : AllByRecursion (λ x. (inner x.face || is_flat (v ∷ x.face)) ≡ false → AreOnOneSide x.face x.across v) (flat_map facets_of tets)

-- the cones have a point within them as often as the tetrahedra, off the closed faces of both
abbrev pub CavityKeepsCover : Type 0
CavityKeepsCover = (p : Rational) (v : Coordinates) (inner : List Coordinates → Bool) (tets : List (List Coordinates)) → IsCavity v inner tets
    → AllByRecursion (IsOffFacesOf p) tets → AllByRecursion (IsOffFacesOf p) (cones v inner tets)
    → count_by (is_inside p) (cones v inner tets) ≡ count_by (is_inside p) tets
