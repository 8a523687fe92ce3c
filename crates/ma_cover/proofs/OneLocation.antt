-- What is found of a point is one thing.
use Rattle.std.proofs.Common.{◌≡◌, ℕ, zero, suc, ◌+◌, ◌<◌, List, [], ◌∷◌, get_or, length, Option, None, Some, refl, subst, arith}
use Rattle.std.specs.List.{AllByRecursion, Any}
use Rattle.ma_geom.specs.Coordinates.{Coordinates}
use Rattle.ma_geom.specs.Rational.{Rational}
use Rattle.ma_cells.specs.Faces.{faces_of}
use Rattle.ma_cells.specs.Tetrahedron.{Tetrahedron}
use Rattle.ma_cover.specs.Laws.{LocationIsOne}
use Rattle.ma_cover.specs.Located.{IsOnFace, IsOnFaceOf, first_around}
use Rattle.ma_cover.specs.OnFaces.{IsOffFace, IsOffFaces, IsOffFacesOf}
use Rattle.ma_cover.specs.declared.locations.Found.{Found}
use Rattle.ma_cover.specs.declared.locations.Found.TheVariants.{Face, Outside, One, Many}

item_of : {X : Type 0} (P : X → Type 0) (xs : List X) (k : ℕ) (d : X) → AllByRecursion P xs → k < length xs → P (get_or xs k d)
item_of P [] k d all below = absurd (omega arith)
item_of P (x ∷ xs) zero d all below = all.0
item_of P (x ∷ xs) (suc k) d all below = item_of P xs k d all.1 (omega arith)

-- what holds of some item doesn't fail for all
not_both : {X : Type 0} (P Q : X → Type 0) → ((x : X) → P x → Q x → ⊥) → (xs : List X) → Any P xs → AllByRecursion Q xs → ⊥
not_both P Q differ xs some all = differ some.1 some.4 (subst Q some.3 (item_of Q xs some.0 some.1 all some.2))

off_or_on : (p : Rational) (face : List Coordinates) → IsOnFace p face → IsOffFace p face → ⊥
off_or_on p (a ∷ b ∷ c ∷ []) on off = off on
off_or_on p [] on off = on
off_or_on p (a ∷ []) on off = on
off_or_on p (a ∷ b ∷ []) on off = on
off_or_on p (a ∷ b ∷ c ∷ d ∷ l) on off = on

face_or_not : (tets : List Tetrahedron) (p : Rational) → Any (λ tet. IsOnFaceOf p tet.corners) tets → IsOffFaces p tets → ⊥
face_or_not tets p =
    not_both (λ tet. IsOnFaceOf p tet.corners) (λ tet. IsOffFacesOf p tet.corners)
    (λ tet. not_both (IsOnFace p) (IsOffFace p) (off_or_on p) (faces_of tet.corners)) tets

-- by the first index from each index on
module _ (first : ℕ → Option ℕ) where
  none_or_some : {f g : Found} (i : ℕ) → first 0 ≡ None → first 0 ≡ Some i → f ≡ g
  none_or_some i h k = cc

  one_one : (i j : ℕ) → first 0 ≡ Some i → first 0 ≡ Some j → One i ≡ One j
  one_one i j h k = cc

  one_many : {f g : Found} (i j k : ℕ) → first 0 ≡ Some i → first (i + 1) ≡ None → first 0 ≡ Some j → first (j + 1) ≡ Some k → f ≡ g
  one_many i j k h n l m = let same : i ≡ j = cc in let none : first (j + 1) ≡ None = subst (λ t. first (t + 1) ≡ None) same n in cc

  many_many : (i j k l : ℕ) → first 0 ≡ Some i → first (i + 1) ≡ Some j → first 0 ≡ Some k → first (k + 1) ≡ Some l → Many i j ≡ Many k l
  many_many i j k l h n m o = let same : i ≡ k = cc in let next : first (k + 1) ≡ Some j = subst (λ t. first (t + 1) ≡ Some j) same n in cc

pub location_is_one : LocationIsOne
location_is_one tets p Face Face h k = refl
location_is_one tets p Face Outside h k = absurd (face_or_not tets p h k.0)
location_is_one tets p Face (One i) h k = absurd (face_or_not tets p h k.0)
location_is_one tets p Face (Many i j) h k = absurd (face_or_not tets p h k.0)
location_is_one tets p Outside Face h k = absurd (face_or_not tets p k h.0)
location_is_one tets p Outside Outside h k = refl
location_is_one tets p Outside (One i) h k = none_or_some (λ n. first_around n p tets) i h.1 k.1
location_is_one tets p Outside (Many i j) h k = none_or_some (λ n. first_around n p tets) i h.1 k.1
location_is_one tets p (One i) Face h k = absurd (face_or_not tets p k h.0)
location_is_one tets p (One i) Outside h k = none_or_some (λ n. first_around n p tets) i k.1 h.1
location_is_one tets p (One i) (One j) h k = one_one (λ n. first_around n p tets) i j h.1 k.1
location_is_one tets p (One i) (Many j l) h k = one_many (λ n. first_around n p tets) i j l h.1 h.2 k.1 k.2
location_is_one tets p (Many i j) Face h k = absurd (face_or_not tets p k h.0)
location_is_one tets p (Many i j) Outside h k = none_or_some (λ n. first_around n p tets) i k.1 h.1
location_is_one tets p (Many i j) (One l) h k = one_many (λ n. first_around n p tets) l i j k.1 k.2 h.1 h.2
location_is_one tets p (Many i j) (Many k l) h m = many_many (λ n. first_around n p tets) i j k l h.1 h.2 m.1 m.2
