-- The least of a set, and of what comes one after the other.
use Rattle.std.proofs.Common.{◌≡◌, ℕ, min, Bool, true, false, cond, List, [], ◌∷◌, ◌++◌, map, Option, Some, None, refl, sym, ap, subst, ◌∙◌, arith}
use Rattle.std.specs.declared.cmp.Ordering.{Ordering}
use Rattle.std.specs.FinMap.{IsAntisymmetric}
use Rattle.std.specs.List.{flat_map}
use Rattle.std.specs.Option.{option_to_list}
use Rattle.std.specs.Ordering.{is_eq, is_lt}
use Rattle.ma_geom.specs.Coordinates.{Coordinates}
use Rattle.ma_geom.specs.Quality.{quality}
use Rattle.ma_cells.specs.Ascending.{ascending_of, put}
use Rattle.ma_cells.specs.Stars.{besides, cone}
use Rattle.ma_cells.specs.Tetrahedron.{Tetrahedron, tetrahedron_of}
use Rattle.ma_cells.specs.Worst.{least, worst}
use Rattle.ma_cells.proofs.CellOrders.{tet_cmp-IsAntisymmetric}
use Rattle.ma_cells.proofs.Members.{tied_is}
use Rattle.cavity_collapse.specs.Collapsing.{collapsed}
use Rattle.cavity_collapse.specs.Steps.{least_with, lesser, worst_with}

min_swap : (n m l : ℕ) → min n (min m l) ≡ min m (min n l)
min_swap n m l = omega arith

min_join : (n m l : ℕ) → min (min n m) l ≡ min n (min m l)
min_join n m l = omega arith

min_twice : (n l : ℕ) → min n l ≡ min n (min n l)
min_twice n l = omega arith

swapped : (n m : ℕ) (ns : List ℕ) → least (n ∷ m ∷ ns) ≡ least (m ∷ n ∷ ns)
swapped n m [] = omega arith
swapped n m (l ∷ ns) = min_swap n m (least (l ∷ ns))

twice : (n : ℕ) (ns : List ℕ) → least (n ∷ ns) ≡ least (n ∷ n ∷ ns)
twice n [] = omega arith
twice n (l ∷ ns) = min_twice n (least (l ∷ ns))

module _ {K : Type 0} {R : K → K → Ordering} (exact : IsAntisymmetric R) (f : K → ℕ) where
  more_put : (n : ℕ) (x : K) (ys : List K) → least (n ∷ map f (put R x ys)) ≡ min n (least (map f (put R x ys)))
  more_put n x [] = refl
  more_put n x (y ∷ ys) = by (is_lt (R x y)) (is_eq (R x y))
    where
      by : (lt eq : Bool) → least (n ∷ map f (cond lt (x ∷ y ∷ ys) (cond eq (y ∷ ys) (y ∷ put R x ys)))) ≡ min n (least (map f (cond lt (x ∷ y ∷ ys) (cond eq (y ∷ ys) (y ∷ put R x ys)))))
      by true eq = refl
      by false true = refl
      by false false = refl

  least_put : (x : K) (ys : List K) → least (map f (put R x ys)) ≡ least (f x ∷ map f ys)
  least_put x [] = refl
  least_put x (y ∷ ys) = by (least_put x ys) (is_lt (R x y)) (is_eq (R x y)) refl
    where
      by : least (map f (put R x ys)) ≡ least (f x ∷ map f ys) → (lt eq : Bool) → is_eq (R x y) ≡ eq → least (map f (cond lt (x ∷ y ∷ ys) (cond eq (y ∷ ys) (y ∷ put R x ys)))) ≡ least (f x ∷ f y ∷ map f ys)
      by rest true eq e = refl
      by rest false true e = subst (λ z. least (f z ∷ map f ys) ≡ least (f x ∷ f z ∷ map f ys)) (tied_is exact x y e) (twice (f x) (map f ys))
      by rest false false e = more_put (f y) x ys ∙ ap (min (f y)) rest ∙ swapped (f y) (f x) (map f ys)

  -- what occurs twice and the order change nothing
  pub least_set : (xs : List K) → least (map f (ascending_of R xs)) ≡ least (map f xs)
  least_set [] = refl
  least_set (x ∷ []) = refl
  least_set (x ∷ y ∷ xs) = least_put x (ascending_of R (y ∷ xs)) ∙ more_put (f x) y (ascending_of R xs) ∙ ap (min (f x)) (least_set (y ∷ xs))

abbrev pub new_tets : (a v : Coordinates) → List Tetrahedron → List Tetrahedron
new_tets a v star = flat_map (λ tet. cone v tet.phys tet.elem (besides (a ∷ []) tet.corners)) star

abbrev pub qualities : List Tetrahedron → List ℕ
qualities tets = map (λ tet. quality tet.corners) tets

pub worst_of_set : (a v : Coordinates) (star : List Tetrahedron) → least (qualities (new_tets a v star)) ≡ worst (collapsed a v star)
unfolding worst
worst_of_set a v star = sym (least_set tet_cmp-IsAntisymmetric (λ (tet : Tetrahedron). quality tet.corners) (new_tets a v star))

pub one_more : (w : Option ℕ) (n : ℕ) (ns : List ℕ) → least_with (Some (lesser w n)) ns ≡ least_with w (n ∷ ns)
one_more None n ns = refl
one_more (Some m) n [] = refl
one_more (Some m) n (l ∷ ns) = min_join m n (least (l ∷ ns))

-- the next tetrahedron of a star
pub next_worst : (a v : Coordinates) (w : Option ℕ) (tet : Tetrahedron) (star : List Tetrahedron)
    → least_with (worst_with w (tetrahedron_of (v ∷ besides (a ∷ []) tet.corners) tet.phys tet.elem)) (qualities (new_tets a v star)) ≡ least_with w (qualities (new_tets a v (tet ∷ star)))
next_worst a v w tet star =
    elim (tetrahedron_of (v ∷ besides (a ∷ []) tet.corners) tet.phys tet.elem) as (λ o. least_with (worst_with w o) (qualities (new_tets a v star)) ≡ least_with w (qualities (option_to_list o ++ new_tets a v star))) [
      | Some new ↦ one_more w (quality new.corners) (qualities (new_tets a v star))
      | None ↦ refl
    ]
