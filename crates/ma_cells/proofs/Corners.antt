-- The four corners of a tetrahedron, by their places and as a list.
use Rattle.std.proofs.Common.{◌≡◌, Bool, true, false, not, ◌&&◌, List, [], ◌∷◌, length, get_or, eqb, Option, Some, None, refl, sym, subst, ◌∙◌, arith}
use Rattle.std.specs.Prelude.{ℤ, pos}
use Rattle.std.proofs.lemmas.Bool.{false≢true}
use Rattle.std.specs.List.Sorted.{IsPermutation, IsSorted}
use Rattle.std.specs.Ordering.{int_eq}
use Rattle.ma_geom.specs.Coordinates.{Coordinates, place_cmp}
use Rattle.ma_geom.specs.Volume.{vol6}
use Rattle.ma_geom.proofs.PlaceOrder.{place_cmp_total, place_cmp-IsAntisymmetric}
use Rattle.ma_cells.specs.Ascending.{are_ascending, are_distinct, ascending_of}
use Rattle.ma_cells.specs.Tetrahedron.{Tetrahedron, are_corners, is_flat, tetrahedron_of}
use Rattle.ma_cells.proofs.Ascents.{ascending_from_distinct, ascending_of-IsPermutation, is-ascending_of, length-ascending_of, strict_from_ascending}

-- the corners of a tetrahedron ascend
pub corners_rise : (places : List Coordinates) → are_corners places ≡ true → are_ascending place_cmp places ≡ true
corners_rise places h =
    elim (are_ascending place_cmp places) as (λ b. (b && not (is_flat places)) ≡ true → b ≡ true) [ true ↦ λ _. refl | false ↦ λ k. absurd (false≢true k) ] h

-- and they aren't flat
pub corners_span : (places : List Coordinates) → are_corners places ≡ true → is_flat places ≡ false
corners_span places h =
    elim (is_flat places) as (λ b. (are_ascending place_cmp places && not b) ≡ true → b ≡ false) [
      | true ↦ λ k. absurd (false≢true (sym (never (are_ascending place_cmp places)) ∙ k))
      | false ↦ λ _. refl
    ] h
  where
    never : (b : Bool) → (b && false) ≡ false
    never true = refl
    never false = refl

-- a list of four by its places
pub is_flat-four : (places : List Coordinates) (a b c d : Coordinates) → length places ≡ 4
    → int_eq (vol6 (get_or places 0 a) (get_or places 1 b) (get_or places 2 c) (get_or places 3 d)) (pos 0) ≡ is_flat places
is_flat-four [] a b c d n = absurd (omega arith)
is_flat-four (v ∷ []) a b c d n = absurd (omega arith)
is_flat-four (v ∷ w ∷ []) a b c d n = absurd (omega arith)
is_flat-four (v ∷ w ∷ x ∷ []) a b c d n = absurd (omega arith)
is_flat-four (v ∷ w ∷ x ∷ y ∷ []) a b c d n = refl
is_flat-four (v ∷ w ∷ x ∷ y ∷ z ∷ zs) a b c d n = absurd (omega arith)

-- corners that aren't four are flat
is_flat-fewer : (places : List Coordinates) → eqb (length places) 4 ≡ false → is_flat places ≡ true
is_flat-fewer [] h = refl
is_flat-fewer (v ∷ []) h = refl
is_flat-fewer (v ∷ w ∷ []) h = refl
is_flat-fewer (v ∷ w ∷ x ∷ []) h = refl
is_flat-fewer (v ∷ w ∷ x ∷ y ∷ []) h = absurd (false≢true (sym h))
is_flat-fewer (v ∷ w ∷ x ∷ y ∷ z ∷ zs) h = refl

-- what places sort to is what `tetrahedron_of` takes as corners
pub sorted_corners : (places moved : List Coordinates) → IsPermutation places moved → ascending_of place_cmp places ≡ ascending_of place_cmp moved
sorted_corners places moved is = ascending_of-IsPermutation place_cmp_total place_cmp-IsAntisymmetric places moved is

pub ascending_is : (moved : List Coordinates) → are_ascending place_cmp moved ≡ true → ascending_of place_cmp moved ≡ moved
ascending_is moved rises = sym (is-ascending_of place_cmp_total place_cmp-IsAntisymmetric moved moved (strict_from_ascending place_cmp_total moved rises) (λ _. refl))

-- what the tetrahedron of these places is, if they sort to corners
pub tetrahedron_of-some : (places moved : List Coordinates) (phys elem phys' elem' : ℤ) → phys' ≡ phys → elem' ≡ elem → IsPermutation places moved
    → are_ascending place_cmp moved ≡ true → is_flat moved ≡ false
    → ◌≡◌ {A = Option Tetrahedron} (Some (record { corners = moved; phys = phys'; elem = elem' })) (tetrahedron_of places phys elem)
tetrahedron_of-some places moved phys elem phys' elem' p e is rises solid =
    rw (sorted_corners places moved is ∙ ascending_is moved rises, solid, p, e) refl

pub tetrahedron_of-flat : (places moved : List Coordinates) (phys elem : ℤ) → IsPermutation places moved
    → are_ascending place_cmp moved ≡ true → is_flat moved ≡ true
    → ◌≡◌ {A = Option Tetrahedron} None (tetrahedron_of places phys elem)
tetrahedron_of-flat places moved phys elem is rises flat =
    rw (sorted_corners places moved is ∙ ascending_is moved rises, flat) refl

-- four places that sort to no ascending list aren't four different ones
pub tetrahedron_of-twice : (places moved : List Coordinates) (phys elem : ℤ) → IsPermutation places moved → length moved ≡ 4
    → IsSorted place_cmp moved → are_ascending place_cmp moved ≡ false
    → ◌≡◌ {A = Option Tetrahedron} None (tetrahedron_of places phys elem)
tetrahedron_of-twice places moved phys elem is four sorted falls =
    let tied : are_distinct place_cmp moved ≡ false =
    elim (are_distinct place_cmp moved) as (λ b. are_distinct place_cmp moved ≡ b → b ≡ false) [
      | true ↦ λ e. absurd (false≢true (sym falls ∙ ascending_from_distinct place_cmp_total moved sorted e))
      | false ↦ λ _. refl
    ] refl in
    let fewer : eqb (length (ascending_of place_cmp moved)) 4 ≡ false =
    subst (λ n. eqb (length (ascending_of place_cmp moved)) n ≡ false) four ((length-ascending_of place_cmp_total moved).1 ∙ tied) in
    rw (sorted_corners places moved is, is_flat-fewer (ascending_of place_cmp moved) fewer) refl
