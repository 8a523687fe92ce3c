-- A swap is a cavity filled.
use Rattle.std.proofs.Common.{◌≡◌, ◌≢◌, ℕ, Bool, true, false, ◌||◌, List, [], ◌∷◌, ◌++◌, refl, sym, ap, ap₂, subst, ◌∙◌, arith}
use Rattle.std.specs.Prelude.{ℤ, pos, neg_ℤ}
use Rattle.std.specs.List.{AllByRecursion, flat_map}
use Rattle.std.specs.Ordering.{eq_by_cmp, int_eq}
use Rattle.std.proofs.lemmas.Bool.{eqb-true, false≢true}
use Rattle.std.proofs.lemmas.Int.{ints}
use Rattle.ma_geom.specs.Coordinates.{Coordinates, place_cmp}
use Rattle.ma_geom.specs.Lines.{is_flat}
use Rattle.ma_geom.specs.Volume.{vol6}
use Rattle.ma_geom.proofs.Identities.{vol6_same_ab, vol6_same_ac, vol6_same_ad}
use Rattle.ma_cells.specs.Ascending.{has}
use Rattle.ma_cells.proofs.Permutations.{same as same_place}
use Rattle.mesh_laws.specs.Parity.{is_odd, listings}
use Rattle.mesh_laws.proofs.Weights.{alike_some, turned_a}
use Rattle.cavity_laws.specs.Balance.{had_by}
use Rattle.cavity_laws.specs.Cavity.{AreOnOneSide, Facet, IsCavity, cone_of, cones, facets_of}
use Rattle.cavity_laws.specs.Parity.{any_cone_of, sorted_faces}
use Rattle.cavity_laws.specs.Swap.{IsSwappable, SwapKeepsCover, SwapKeepsParity, is_between}
use Rattle.cavity_laws.proofs.Balance.{faces_are_balanced}
use Rattle.cavity_laws.proofs.Cavities.{cones_solid, filling_keeps_cover}
use Rattle.cavity_laws.proofs.Parity.{cavity_keeps_parity, reordered_same_oddly}

-- ---- the cone over a face
-- is flat from a corner of it
pub flat_over : (v : Coordinates) (face : List Coordinates) → has place_cmp v face ≡ true → is_flat (v ∷ face) ≡ true
flat_over v (a ∷ b ∷ c ∷ []) there = by (eq_by_cmp place_cmp v a) refl (eq_by_cmp place_cmp v b) refl (eq_by_cmp place_cmp v c) refl there
  where
    zero : (x : ℤ) → x ≡ pos 0 → int_eq x (pos 0) ≡ true
    zero x e = grind (arith, ints)

    by : (s : Bool) → eq_by_cmp place_cmp v a ≡ s → (t : Bool) → eq_by_cmp place_cmp v b ≡ t → (u : Bool) → eq_by_cmp place_cmp v c ≡ u → (s || (t || (u || false))) ≡ true → is_flat (v ∷ a ∷ b ∷ c ∷ []) ≡ true
    by true e t f u g h = zero (vol6 v a b c) (subst (λ w. vol6 v w b c ≡ pos 0) (same_place v a e) (vol6_same_ab v b c))
    by false e true f u g h = zero (vol6 v a b c) (subst (λ w. vol6 v a w c ≡ pos 0) (same_place v b f) (vol6_same_ac v a c))
    by false e false f true g h = zero (vol6 v a b c) (subst (λ w. vol6 v a b w ≡ pos 0) (same_place v c g) (vol6_same_ad v a b))
    by false e false f false g h = absurd (false≢true h)
flat_over v [] there = refl
flat_over v (a ∷ []) there = refl
flat_over v (a ∷ b ∷ []) there = refl
flat_over v (a ∷ b ∷ c ∷ d ∷ l) there = refl

-- and isn't from what lies on a side of it
pub not_flat_over : (v : Coordinates) (face : List Coordinates) (d : Coordinates) → AreOnOneSide face d v → is_flat (v ∷ face) ≡ false
not_flat_over v (a ∷ b ∷ c ∷ []) d h = by (vol6 v a b c) (vol6 a b c v) (turned_a v a b c) (alike_some (vol6 a b c d) (vol6 a b c v) h).1
  where
    by : (x y : ℤ) → y ≡ neg_ℤ x → y ≢ pos 0 → int_eq x (pos 0) ≡ false
    by x y e f = grind (arith, ints)
not_flat_over v [] d h = absurd h
not_flat_over v (a ∷ []) d h = absurd h
not_flat_over v (a ∷ b ∷ []) d h = absurd h
not_flat_over v (a ∷ b ∷ c ∷ e ∷ l) d h = absurd h

-- ---- a cavity without flat cones
module _ (v : Coordinates) (inner : List Coordinates → Bool) where
  abbrev pub IsSeen : Facet → Type 0
  IsSeen x = inner x.face ≡ false → has place_cmp v x.face ≡ false → AreOnOneSide x.face x.across v

  seen_or_flat : (facets : List Facet) → AllByRecursion IsSeen facets → AllByRecursion (λ x. (inner x.face || is_flat (v ∷ x.face)) ≡ false → AreOnOneSide x.face x.across v) facets
  seen_or_flat [] seen = tt
  seen_or_flat (x ∷ facets) seen = (by (inner x.face) refl (has place_cmp v x.face) refl, seen_or_flat facets seen.1)
    where
      by : (i : Bool) → inner x.face ≡ i → (h : Bool) → has place_cmp v x.face ≡ h → (inner x.face || is_flat (v ∷ x.face)) ≡ false → AreOnOneSide x.face x.across v
      by true e h f flat = absurd (false≢true (sym flat ∙ ap (λ b. b || is_flat (v ∷ x.face)) e))
      by false e true f flat = absurd (false≢true (sym flat ∙ ap₂ (λ a b. a || b) e (flat_over v x.face f)))
      by false e false f flat = seen.0 e f

  -- its cones are those over the faces without v
  all_cones : (facets : List Facet) → AllByRecursion IsSeen facets → flat_map (cone_of v inner) facets ≡ flat_map (any_cone_of v inner) facets
  all_cones [] seen = refl
  all_cones (x ∷ facets) seen = ap₂ (λ xs ys. xs ++ ys) (by (inner x.face) refl (has place_cmp v x.face) refl) (all_cones facets seen.1)
    where
      by : (i : Bool) → inner x.face ≡ i → (h : Bool) → has place_cmp v x.face ≡ h → cone_of v inner x ≡ any_cone_of v inner x
      by true e h f = rw (e) refl
      by false e true f = rw (e, f, flat_over v x.face f) refl
      by false e false f = rw (e, f, not_flat_over v x.face x.across (seen.0 e f)) refl

-- ---- swaps
pub is_cavity : (v : Coordinates) (tets : List (List Coordinates)) → IsSwappable v tets → IsCavity v (is_between tets) tets
is_cavity v tets s = record {
  solid = s.solid;
  balanced = λ face two. (faces_are_balanced tets s.solid s.sides face).1 (λ one. by (sym one ∙ eqb-true (had_by face tets) 2 two));
  seen = seen_or_flat v (is_between tets) (flat_map facets_of tets) s.seen;
}
  where
    by : ◌≡◌ {A = ℕ} 1 2 → ⊥
    by e = omega arith

pub swap_keeps_cover : SwapKeepsCover
swap_keeps_cover p v tets filling s = filling_keeps_cover p v (is_between tets) tets filling (is_cavity v tets s)

pub swap_keeps_parity : SwapKeepsParity
swap_keeps_parity v tets filling s reordered face =
    let inner = is_between tets in
    reordered_same_oddly (cones v inner tets) filling reordered (cones_solid v inner (flat_map facets_of tets)) face
    ∙ ap (λ l. is_odd (listings face (sorted_faces l))) (all_cones v inner (flat_map facets_of tets) s.seen)
    ∙ cavity_keeps_parity v inner tets s.solid (is_cavity v tets s).balanced face
