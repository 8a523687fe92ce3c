-- What holds of sound meshes, and how a mesh is told to be one.
use Rattle.std.proofs.Common.{◌≡◌, inl, inr, ℕ, zero, suc, ◌≤◌, Bool, true, false, cond, ◌&&◌, List, [], ◌∷◌, refl, sym, ap, ◌∙◌, arith}
use Rattle.std.specs.Prelude.{ℤ, neg_ℤ}
use Rattle.std.specs.declared.cmp.Ordering.{Ordering}
use Rattle.std.specs.Cmp.{IsTotalOrder}
use Rattle.std.specs.Cmp.Lexicographic.{slice_cmp}
use Rattle.std.specs.FinMap.{IsAntisymmetric}
use Rattle.std.specs.List.{AllByRecursion, count_by, list_any}
use Rattle.std.specs.Ordering.{eq_by_cmp, int_eq}
use Rattle.std.proofs.lemmas.Bool.{and_parts, false≢true, false_from_ne_true, or_from, or_parts, true_from_ne_false}
use Rattle.std.proofs.lemmas.Int.{ints}
use Rattle.std.proofs.lemmas.List.Sorted.{IsPermutation-refl, sum_by-IsPermutation}
use Rattle.ma_geom.specs.Coordinates.{Coordinates, place_cmp}
use Rattle.ma_geom.specs.Rational.{Rational}
use Rattle.ma_geom.specs.Volume.{vol6}
use Rattle.ma_cells.specs.Ascending.{are_distinct, ascending_of, has}
use Rattle.ma_cells.specs.Cells.{corners_of, mark_cmp}
use Rattle.ma_cells.specs.Faces.{faces_of}
use Rattle.ma_cells.specs.Incidence.{is_marked, is_on}
use Rattle.ma_cells.specs.Meshes.{corner_sets}
use Rattle.ma_cells.specs.Tetrahedron.{Tetrahedron, are_corners, are_tetrahedra, is_flat, tet_cmp}
use Rattle.ma_cells.proofs.CellOrders.{mark_cmp-IsAntisymmetric}
use Rattle.ma_cells.proofs.Corners.{corners_span}
use Rattle.ma_cells.proofs.Members.{all-at}
use Rattle.ma_cells.proofs.Passing.{all-map, all_pass, all_weaker, test_all}
use Rattle.ma_cells.proofs.Permutations.{distinct-permutes, listed_once-permutes}
use Rattle.ma_cells.proofs.SetItems.{all-ascending_of, from-ascending_of}
use Rattle.ma_cover.specs.Inside.{are_alike, is_inside}
use Rattle.ma_cover.specs.Sound.{IsPairedOrMarked, LieOnBothSides, holders}
use Rattle.ma_cover.proofs.SoundOrder.{sound_in_any_order}
use Rattle.mesh_laws.specs.Parity.{is_odd}
use Rattle.mesh_laws.specs.Points.{NoneIsFlat}
use Rattle.mesh_laws.specs.Sides.{whole_holders}
use Rattle.mesh_laws.specs.Sounds.{ConformingOddAreMarked, OddMarkedIsSound, SameCoverStaysSound, SoundAsSets, SoundCoversOnce, ConformingFaceHasTwo, ConformingIsListedOnce}
use Rattle.mesh_laws.proofs.BothSides.{BothSides, Pairs, no_face_has_three, once_lie_on_both_sides, once_pairs, pairs_from}
use Rattle.mesh_laws.proofs.Listings.{exact}
use Rattle.mesh_laws.proofs.Lists.{all_items, count-more}
use Rattle.mesh_laws.proofs.MovedOff.{NoneIsFlatBy, corners_of as corners_of_tet, cover_stays_at_most}
use Rattle.mesh_laws.proofs.Regions.{same_cover_stays_at_most}
use Rattle.mesh_laws.proofs.Weights.{by_four}

-- tetrahedra aren't flat
pub tetrahedra_not_flat : (tets : List Tetrahedron) → are_tetrahedra tets ≡ true → NoneIsFlat tets
tetrahedra_not_flat tets are =
    all_weaker (λ tet. are_corners tet.corners ≡ true) (λ tet. is_flat tet.corners ≡ false) (λ tet is. corners_span tet.corners is) tets (all_pass (λ tet. are_corners tet.corners) tets are)

-- ---- at most once
pub sound_covers_once : SoundCoversOnce
sound_covers_once tets marks sound solid = cover_stays_at_most 1 (λ _ _. true) tets [] solid tt (λ p off _. sound.once p off)

pub conforming_face_has_two : ConformingFaceHasTwo
conforming_face_has_two tets marks conforming solid = no_face_has_three tets solid conforming.sides

-- ---- listed once
never : (x : ℤ) → are_alike x (neg_ℤ x) ≡ true → ⊥
never x h = grind (arith, ints)

not_beside_itself : (corners : List Coordinates) → is_flat corners ≡ false → LieOnBothSides corners corners → ⊥
not_beside_itself = by_four (λ corners. LieOnBothSides corners corners → ⊥) (λ a b c d solid sides.
    never (vol6 a b c d) (sides a b c d d (IsPermutation-refl (a ∷ b ∷ c ∷ d ∷ [])) (IsPermutation-refl (a ∷ b ∷ c ∷ d ∷ []))))

both_sides_distinct : (ts : List (List Coordinates)) → NoneIsFlatBy (λ t. t) ts → Pairs LieOnBothSides ts → are_distinct (slice_cmp place_cmp) ts ≡ true
both_sides_distinct [] solid pairs = refl
both_sides_distinct (t ∷ ts) solid pairs =
    rw (false_from_ne_true (has (slice_cmp place_cmp) t ts) (λ h. not_beside_itself t solid.0 (all-at exact (LieOnBothSides t) t ts pairs.0 h))) (both_sides_distinct ts solid.1 pairs.1)

-- where no point is within two, all are distinct
pub once_distinct : (ts : List (List Coordinates)) → NoneIsFlatBy (λ t. t) ts → ((p : Rational) → count_by (is_inside p) ts ≤ 1) → are_distinct (slice_cmp place_cmp) ts ≡ true
once_distinct ts solid once = both_sides_distinct ts solid (once_pairs (λ t. t) ts solid once)

pairs_map : (tets : List Tetrahedron) → Pairs (BothSides corners_of_tet) tets → Pairs LieOnBothSides (corner_sets tets)
pairs_map [] h = tt
pairs_map (tet ∷ tets) h = (all-map (BothSides corners_of_tet tet) (LieOnBothSides tet.corners) corners_of_tet (λ t k. k) tets h.0, pairs_map tets h.1)

pub conforming_is_listed_once : ConformingIsListedOnce
conforming_is_listed_once tets marks conforming solid =
    both_sides_distinct (corner_sets tets) (all-map (λ tet. is_flat tet.corners ≡ false) (λ t. is_flat t ≡ false) corners_of_tet (λ t k. k) tets solid)
    (pairs_map tets (pairs_from (BothSides corners_of_tet) tets conforming.sides))

-- ---- sets
-- as many of a set pass a test as of the list, if its items are distinct
pub count-set : {K : Type 0} {R : K → K → Ordering} → IsTotalOrder R → (f : K → Bool) (xs : List K) → are_distinct R xs ≡ true → count_by f (ascending_of R xs) ≡ count_by f xs
count-set {R = R} o f xs distinct = sum_by-IsPermutation (λ x. cond (f x) 1 0) xs (ascending_of R xs) (distinct-permutes o xs distinct)

any_fails : {X : Type 0} (f : X → Bool) (xs : List X) → list_any f xs ≡ false → AllByRecursion (λ x. f x ≡ false) xs
any_fails f [] h = tt
any_fails f (x ∷ xs) h = let parts = or_parts (f x) (list_any f xs) h in (parts.0, any_fails f xs parts.1)

fails_any : {X : Type 0} (f : X → Bool) (xs : List X) → AllByRecursion (λ x. f x ≡ false) xs → list_any f xs ≡ false
fails_any f [] h = refl
fails_any f (x ∷ xs) h = or_from (f x) (list_any f xs) h.0 (fails_any f xs h.1)

-- what an item of a list passes, an item of its set does
pub any-ascending_of : {K : Type 0} {R : K → K → Ordering} → IsAntisymmetric R → (f : K → Bool) (xs : List K) → list_any f xs ≡ true → list_any f (ascending_of R xs) ≡ true
any-ascending_of {R = R} exact f xs h =
    true_from_ne_false (list_any f (ascending_of R xs)) (λ none.
    false≢true (sym (fails_any f xs (from-ascending_of exact (λ x. f x ≡ false) xs (any_fails f (ascending_of R xs) none))) ∙ h))

pub sound_as_sets : SoundAsSets
sound_as_sets tets marks sound solid =
    let set = sound_in_any_order tets (ascending_of tet_cmp tets) marks (listed_once-permutes tets (conforming_is_listed_once tets marks sound.conforming solid)) sound in
    record {
      conforming = record {
        sides = set.conforming.sides;
        faces = λ phys elem face. by _ face (set.conforming.faces phys elem face);
        on_cells = test_all (λ m. is_on (ascending_of tet_cmp tets) m.cell) (ascending_of mark_cmp marks)
            (all-ascending_of mark_cmp (λ m. is_on (ascending_of tet_cmp tets) m.cell ≡ true) marks (all_pass (λ m. is_on (ascending_of tet_cmp tets) m.cell) marks set.conforming.on_cells));
      };
      once = set.once;
    }
  where
    by : (n : ℕ) (face : List Coordinates) → IsPairedOrMarked n face marks → IsPairedOrMarked n face (ascending_of mark_cmp marks)
    by n face (inl e) = inl e
    by n face (inr (inl e)) = inr (inl e)
    by n face (inr (inr (e, m))) = inr (inr (e, any-ascending_of mark_cmp-IsAntisymmetric (λ mark. eq_by_cmp (slice_cmp place_cmp) (corners_of mark.cell) face) marks m))

-- ---- odd faces
pub conforming_odd_are_marked : ConformingOddAreMarked
conforming_odd_are_marked tets marks conforming phys elem face odd = was (holders phys elem face tets) (conforming.faces phys elem face) odd
  where
    was : (n : ℕ) → IsPairedOrMarked n face marks → is_odd n ≡ true → is_marked marks face ≡ true
    was n (inl e) h = absurd (false≢true (sym (ap is_odd e) ∙ h))
    was n (inr (inl e)) h = absurd (false≢true (sym (ap is_odd e) ∙ h))
    was n (inr (inr (e, m))) h = m

-- those of one region are at most all
pub holders_fewer : (phys elem : ℤ) (face : List Coordinates) (tets : List Tetrahedron) → holders phys elem face tets ≤ whole_holders face tets
holders_fewer phys elem face tets =
    count-more (λ tet. (int_eq tet.phys phys && int_eq tet.elem elem) && has (slice_cmp place_cmp) face (faces_of tet.corners)) (λ tet. has (slice_cmp place_cmp) face (faces_of tet.corners)) tets
    (all_items _ (λ tet h. (and_parts (int_eq tet.phys phys && int_eq tet.elem elem) (has (slice_cmp place_cmp) face (faces_of tet.corners)) h).1) tets)

pub odd_marked_is_sound : OddMarkedIsSound
odd_marked_is_sound tets marks solid once odd on =
    let sides = once_lie_on_both_sides tets solid once in
    record {
      conforming = record {
        sides = sides;
        faces = λ phys elem face. by face (holders phys elem face tets) _ (holders_fewer phys elem face tets) (no_face_has_three tets solid sides face) (odd phys elem face);
        on_cells = on;
      };
      once = once;
    }
  where
    by : (face : List Coordinates) (n m : ℕ) → n ≤ m → m ≤ 2 → (is_odd n ≡ true → is_marked marks face ≡ true) → IsPairedOrMarked n face marks
    by face zero m h k odd = inl refl
    by face (suc zero) m h k odd = inr (inr (refl, odd refl))
    by face (suc (suc zero)) m h k odd = inr (inl refl)
    by face (suc (suc (suc n))) m h k odd = absurd (omega arith)

pub same_cover_stays_sound : SameCoverStaysSound
same_cover_stays_sound tets others marks new sound solid others_solid same odd on =
    odd_marked_is_sound others new others_solid (λ p _. same_cover_stays_at_most 1 (λ _ _. true) tets others solid others_solid same sound.once p) odd on
