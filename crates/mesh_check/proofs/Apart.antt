-- Places of a list that are found to overlap are places of the list.
use Rattle.std.proofs.Common.{◌≡◌, ℕ, suc, ◌<◌, List, [], ◌∷◌, length, Some, None, refl, subst, arith}
use Rattle.std.specs.Prelude.{Option, Ok, position}
use Rattle.std.specs.Option.{option_map, option_or}
use Rattle.std.proofs.lemmas.List.Quantifiers.{position-Some}
use Rattle.ma_cells.specs.Tetrahedron.{Tetrahedron}
use Rattle.overlap_check.specs.Overlap.{first_overlap_of, further, overlap}
use Rattle.mesh_check.specs.declared.fault.MeshFault.TheVariants.{Overlap}
use Rattle.mesh_check.specs.Accepted.{from_one, no_pair}

abbrev AreWithin : List Tetrahedron → ℕ × ℕ → Type 0
AreWithin ts pair = (pair.0 < length ts) × (pair.1 < length ts)

one_more : (t : Tetrahedron) (ts : List Tetrahedron) (pair : ℕ × ℕ) → AreWithin ts pair → AreWithin (t ∷ ts) (further pair)
one_more t ts pair h = (omega (arith, h.0), omega (arith, h.1))

pub places_within : (ts : List Tetrahedron) (pair : ℕ × ℕ) → first_overlap_of ts ≡ Some pair → AreWithin ts pair
places_within [] pair e = absurd cc
places_within (t ∷ ts) pair e =
    elim (position (overlap t) ts) as (λ o. position (overlap t) ts ≡ o → option_or (option_map (λ j. (0, suc j)) o) (option_map further (first_overlap_of ts)) ≡ Some pair → AreWithin (t ∷ ts) pair) [
      | Some j ↦ λ found e.
          let within = (position-Some (overlap t) ts j t found).0 in
          let is : (0, suc j) ≡ pair = some_is e in
          subst (AreWithin (t ∷ ts)) is (omega arith, omega (arith, within))
      | None ↦ λ _ e.
          elim (first_overlap_of ts) as (λ o. first_overlap_of ts ≡ o → option_map further o ≡ Some pair → AreWithin (t ∷ ts) pair) [
            | Some later ↦ λ found e. subst (AreWithin (t ∷ ts)) (some_is e) (one_more t ts later (places_within ts later found))
            | None ↦ λ _ e. absurd cc
          ] refl e
    ] refl e
  where
    some_is : {p q : ℕ × ℕ} → Some p ≡ Some q → p ≡ q
    some_is e = cc

-- what is apart has no two that overlap
pub none_overlaps : (found : Option (ℕ × ℕ)) → no_pair Overlap (option_map from_one found) ≡ Ok tt → found ≡ None
none_overlaps None e = refl
none_overlaps (Some pair) e = absurd cc
