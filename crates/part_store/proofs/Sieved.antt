-- What a sieve lets pass.
use Rattle.std.proofs.Common.{◌≡◌, ℕ, zero, suc, ◌<◌, ◌-◌, Bool, true, false, List, [], ◌∷◌, bit_and, get_or, length, set, refl, sym, ap, subst, ◌∙◌, arith}
use Rattle.std.specs.List.{list_all}
use Rattle.std.proofs.lemmas.Bool.{and_from, false≢true, false_from_ne_true}
use Rattle.std.proofs.lemmas.List.{get_or-set_same, length-set}
use Rattle.std.proofs.lemmas.Nat.{and_le_r}
use Rattle.ma_geom.specs.Coordinates.{Coordinates, place_cmp}
use Rattle.ma_geom.proofs.PlaceOrder.{place_cmp-IsAntisymmetric}
use Rattle.ma_cells.specs.Ascending.{has}
use Rattle.ma_cells.proofs.Members.{at_member}
use Rattle.part_store.specs.steps.Sieves.{passes, raised, spot}

-- a flag is one of those that there are
pub bounded : (n count : ℕ) → 0 < count → bit_and n (count - 1) < count
bounded n count some = let le = and_le_r n (count - 1) in omega arith

-- other flags stay up
stays_up : (flags : List Bool) (i j : ℕ) → get_or flags j false ≡ true → get_or (set flags i true) j false ≡ true
stays_up [] i j h = h
stays_up (b ∷ flags) zero zero h = refl
stays_up (b ∷ flags) zero (suc j) h = h
stays_up (b ∷ flags) (suc i) zero h = h
stays_up (b ∷ flags) (suc i) (suc j) h = stays_up flags i j h

module _ (flags : List Bool) (place : Coordinates) where
  abbrev with_flag : List Bool
  with_flag = set flags (spot place (length flags)) true

  as_many : length with_flag ≡ length flags
  as_many = length-set flags (spot place (length flags)) true

  place_passes : 0 < length flags → passes with_flag place ≡ true
  place_passes some =
      ap (λ n. get_or with_flag (spot place n) false) as_many ∙ get_or-set_same flags (spot place (length flags)) true false (bounded _ (length flags) some)

  still_passes : (q : Coordinates) → passes flags q ≡ true → passes with_flag q ≡ true
  still_passes q h =
      ap (λ n. get_or with_flag (spot q n) false) as_many ∙ stays_up flags (spot place (length flags)) (spot q (length flags)) h

kept : (flags : List Bool) (places : List Coordinates) (q : Coordinates) → passes flags q ≡ true → passes (raised places flags) q ≡ true
kept flags [] q h = h
kept flags (place ∷ places) q h = kept (with_flag flags place) places q (still_passes flags place q h)

-- once the flags of places are up, these pass
pub all_pass : (flags : List Bool) (places : List Coordinates) → 0 < length flags → list_all (passes (raised places flags)) places ≡ true
all_pass flags [] some = refl
all_pass flags (place ∷ places) some =
    let flags' = with_flag flags place in
    and_from (passes (raised places flags') place) (list_all (passes (raised places flags')) places)
    (kept flags' places place (place_passes flags place some))
    (all_pass flags' places (subst (λ n. 0 < n) (sym (as_many flags place)) some))

pub as_many_raised : (flags : List Bool) (places : List Coordinates) → length (raised places flags) ≡ length flags
as_many_raised flags [] = refl
as_many_raised flags (place ∷ places) = as_many_raised (with_flag flags place) places ∙ as_many flags place

-- what does not pass is none of the places that do
pub held_back : (flags : List Bool) (places : List Coordinates) (place : Coordinates) → list_all (passes flags) places ≡ true → passes flags place ≡ false → has place_cmp place places ≡ false
held_back flags places place all out =
    false_from_ne_true (has place_cmp place places) (λ there. false≢true (sym out ∙ at_member place_cmp-IsAntisymmetric (passes flags) place places all there))
