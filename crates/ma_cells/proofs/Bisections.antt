-- What bisecting a cell gives.
use Rattle.std.proofs.Common.{◌≡◌, ℕ, Bool, true, false, cond, not, ◌&&◌, ◌||◌, List, [], ◌∷◌, length, eqb, refl, sym, ap, ◌∙◌, arith}
use Rattle.std.specs.Prelude.{map}
use Rattle.std.specs.Cmp.{eq_by_cmp_equiv}
use Rattle.std.proofs.lemmas.Bool.{false≢true, or_parts}
use Rattle.std.proofs.lemmas.Bool.Decides.{nat_tests}
use Rattle.std.proofs.lemmas.List.{length-map}
use Rattle.std.specs.Ordering.{eq_by_cmp}
use Rattle.ma_geom.specs.Coordinates.{Coordinates, place_cmp}
use Rattle.ma_geom.proofs.PlaceOrder.{place_cmp_total}
use Rattle.ma_cells.specs.Ascending.{are_ascending, are_distinct, ascending_of, has}
use Rattle.ma_cells.specs.Bisection.{bisect, replaced}
use Rattle.ma_cells.specs.Faces.{holds_all}
use Rattle.ma_cells.proofs.Ascents.{ascending_from_strict, has-ascending_of, length-ascending_of, sorted-ascending_of}
use Rattle.ma_cells.proofs.Cornered.{distinct-ascending}
use Rattle.ma_cells.proofs.Permutations.{alone, same, tied}

-- a cell with the edge gives two
pub bisect-with : (a b m : Coordinates) (corners : List Coordinates) → holds_all corners (a ∷ b ∷ []) ≡ true
    → bisect a b m corners ≡ replaced a m corners ∷ replaced b m corners ∷ []
bisect-with a b m corners h = rw h refl

pub replaced-ascends : (a m : Coordinates) (corners : List Coordinates) → are_ascending place_cmp (replaced a m corners) ≡ true
replaced-ascends a m corners =
    let places = map (λ p. cond (eq_by_cmp place_cmp a p) m p) corners in
    ascending_from_strict place_cmp_total (ascending_of place_cmp places) (sorted-ascending_of place_cmp_total places)

as_many : (l m n : ℕ) → eqb l m ≡ true → m ≡ n → l ≡ n
as_many l m n e f = grind (arith, nat_tests)

-- the step of `has-places` at the corner a, and at another
at_corner : (s t k g : Bool) → (s || ((s && t) || (k && not g))) ≡ ((s && true) || ((g || k) && not g))
at_corner true t k g = refl
at_corner false t true true = refl
at_corner false t false true = refl
at_corner false t k false = refl

at_other : (u k f g : Bool) → (f ≡ true → g ≡ false) → (f || (u || (k && not g))) ≡ (u || ((f || k) && not g))
at_other u k true true h = absurd (false≢true (sym (h refl)))
at_other true k true false h = refl
at_other false k true false h = refl
at_other u k false g h = refl

none_of : (s g : Bool) → false ≡ ((s && false) || (false && not g))
none_of true g = refl
none_of false g = refl

-- what is p isn't a, where p isn't
apart : (q a p : Coordinates) → eq_by_cmp place_cmp a p ≡ false → eq_by_cmp place_cmp q p ≡ true → eq_by_cmp place_cmp q a ≡ false
apart q a p other here =
    elim (eq_by_cmp place_cmp q a) as (λ g. eq_by_cmp place_cmp q a ≡ g → g ≡ false) [
      | true ↦ λ there.
          let at_p : q ≡ p = same q p here in
          let at_a : q ≡ a = same q a there in
          let itself : eq_by_cmp place_cmp q q ≡ true = tied q in
          cc
      | false ↦ λ _. refl
    ] refl

has-places : (q a m : Coordinates) (corners : List Coordinates)
    → has place_cmp q (map (λ p. cond (eq_by_cmp place_cmp a p) m p) corners)
    ≡ ((eq_by_cmp place_cmp q m && has place_cmp a corners) || (has place_cmp q corners && not (eq_by_cmp place_cmp q a)))
has-places q a m [] = none_of (eq_by_cmp place_cmp q m) (eq_by_cmp place_cmp q a)
has-places q a m (p ∷ ps) =
    let s = eq_by_cmp place_cmp q m in
    let t = has place_cmp a ps in
    let k = has place_cmp q ps in
    let g = eq_by_cmp place_cmp q a in
    let more = has-places q a m ps in
    elim (eq_by_cmp place_cmp a p) as (λ d. eq_by_cmp place_cmp a p ≡ d
    → (eq_by_cmp place_cmp q (cond d m p) || has place_cmp q (map (λ r. cond (eq_by_cmp place_cmp a r) m r) ps)) ≡ ((s && (d || t)) || ((eq_by_cmp place_cmp q p || k) && not g))) [
      | true ↦ λ here.
          ap (λ b. s || b) more ∙ at_corner s t k g ∙ ap (λ r. (s && true) || ((eq_by_cmp place_cmp q r || k) && not g)) (same a p here)
      | false ↦ λ other. ap (λ b. eq_by_cmp place_cmp q p || b) more ∙ at_other (s && t) k (eq_by_cmp place_cmp q p) g (apart q a p other)
    ] refl

-- the places of a half: m, if a was a corner, and the corners other than a
pub has-replaced : (q a m : Coordinates) (corners : List Coordinates)
    → has place_cmp q (replaced a m corners)
    ≡ ((eq_by_cmp place_cmp q m && has place_cmp a corners) || (has place_cmp q corners && not (eq_by_cmp place_cmp q a)))
has-replaced q a m corners = has-ascending_of place_cmp_total q (map (λ p. cond (eq_by_cmp place_cmp a p) m p) corners) ∙ has-places q a m corners

turned : (p q : Coordinates) → eq_by_cmp place_cmp p q ≡ eq_by_cmp place_cmp q p
turned p q = (eq_by_cmp_equiv place_cmp_total).symm p q

-- one corner stays unlike the others once m, which is no corner, stands in the place of a
stays_apart : (a m x : Coordinates) (ps : List Coordinates) → has place_cmp x ps ≡ false → has place_cmp m (x ∷ ps) ≡ false
    → has place_cmp (cond (eq_by_cmp place_cmp a x) m x) (map (λ p. cond (eq_by_cmp place_cmp a p) m p) ps) ≡ false
stays_apart a m x ps alone new =
    let other = or_parts (eq_by_cmp place_cmp m x) (has place_cmp m ps) new in
    elim (eq_by_cmp place_cmp a x) as (λ d. eq_by_cmp place_cmp a x ≡ d → has place_cmp (cond d m x) (map (λ p. cond (eq_by_cmp place_cmp a p) m p) ps) ≡ false) [
      | true ↦ λ here.
          let gone : has place_cmp a ps ≡ false = ap (λ r. has place_cmp r ps) (same a x here) ∙ alone in
          has-places m a m ps ∙ ap (λ b. (eq_by_cmp place_cmp m m && b) || (has place_cmp m ps && not (eq_by_cmp place_cmp m a))) gone
          ∙ ap (λ b. (eq_by_cmp place_cmp m m && false) || (b && not (eq_by_cmp place_cmp m a))) other.1
          ∙ sym (none_of (eq_by_cmp place_cmp m m) (eq_by_cmp place_cmp m a))
      | false ↦ λ _.
          has-places x a m ps
          ∙ ap (λ b. (b && has place_cmp a ps) || (has place_cmp x ps && not (eq_by_cmp place_cmp x a))) (turned x m ∙ other.0)
          ∙ ap (λ b. b && not (eq_by_cmp place_cmp x a)) alone
    ] refl

stay_distinct : (a m : Coordinates) (ps : List Coordinates) → are_distinct place_cmp ps ≡ true → has place_cmp m ps ≡ false
    → are_distinct place_cmp (map (λ p. cond (eq_by_cmp place_cmp a p) m p) ps) ≡ true
stay_distinct a m [] distinct new = refl
stay_distinct a m (x ∷ ps) distinct new =
    let first = alone (has place_cmp x ps) (are_distinct place_cmp ps) distinct in
    rw (stays_apart a m x ps first.0 new) (stay_distinct a m ps first.1 (or_parts (eq_by_cmp place_cmp m x) (has place_cmp m ps) new).1)

-- a half has as many corners, where m is no corner of the cell
pub length-replaced : (a m : Coordinates) (corners : List Coordinates) → are_ascending place_cmp corners ≡ true → has place_cmp m corners ≡ false
    → length (replaced a m corners) ≡ length corners
length-replaced a m corners rises new =
    let places = map (λ p. cond (eq_by_cmp place_cmp a p) m p) corners in
    let whole : eqb (length (replaced a m corners)) (length places) ≡ true =
    (length-ascending_of place_cmp_total places).1 ∙ stay_distinct a m corners (distinct-ascending corners rises) new in
    as_many (length (replaced a m corners)) (length places) (length corners) whole (length-map corners (λ p. cond (eq_by_cmp place_cmp a p) m p))

both_turned : (b c : Bool) → (b && (c && true)) ≡ (c && (b && true))
both_turned true true = refl
both_turned true false = refl
both_turned false true = refl
both_turned false false = refl

-- an edge is the same from either end
pub holds_all-turned : (corners : List Coordinates) (a b : Coordinates) → holds_all corners (a ∷ b ∷ []) ≡ holds_all corners (b ∷ a ∷ [])
holds_all-turned corners a b = both_turned (has place_cmp a corners) (has place_cmp b corners)
