-- A refined labelled mesh has as many tetrahedra as without its labels.
use Rattle.std.proofs.Common.{◌≡◌, ℕ, zero, suc, ◌+◌, ◌≤◌, Bool, true, false, cond, ◌||◌, not, List, [], ◌∷◌, ◌++◌, length, refl, sym, ap, ap₂, subst, ◌∙◌, arith, eqb-true}
use Rattle.std.specs.Prelude.{map, pos}
use Rattle.std.specs.declared.cmp.Ordering.{Ordering}
use Rattle.std.specs.declared.cmp.Ordering.TheVariants.{Less, Equal, Greater}
use Rattle.std.specs.Cmp.{IsTotalOrder}
use Rattle.std.specs.Cmp.Lexicographic.{lists_total, slice_cmp}
use Rattle.std.specs.List.{count_by, flat_map}
use Rattle.std.specs.Ordering.{is_eq, is_lt}
use Rattle.std.proofs.lemmas.Bool.{and_parts, eq-eqb, false≢true, false_from_ne_true}
use Rattle.std.proofs.lemmas.List.{length-map, map-append}
use Rattle.ma_geom.specs.Coordinates.{Coordinates, place_cmp}
use Rattle.ma_geom.specs.Rational.{Rational}
use Rattle.ma_geom.proofs.PlaceOrder.{place_cmp_total}
use Rattle.ma_cells.specs.Ascending.{are_distinct, ascending_of, has, put}
use Rattle.ma_cells.specs.Tetrahedron.{Tetrahedron, are_corners, are_tetrahedra, is_flat, tet_cmp}
use Rattle.ma_cells.proofs.Ascents.{has-ascending_of, length-ascending_of}
use Rattle.ma_cells.proofs.CellOrders.{ghost_cmp-IsAntisymmetric, tet_cmp_total, tet_cmp-IsAntisymmetric}
use Rattle.ma_cells.proofs.Passing.{all-map, all_pass, test_all}
use Rattle.ma_cover.specs.Inside.{is_inside}
use Rattle.mesh_laws.specs.Adapted.{IsSoundMesh}
use Rattle.mesh_laws.proofs.Listings.{exact}
use Rattle.mesh_laws.proofs.MovedOff.{cover_stays_at_most}
use Rattle.mesh_laws.proofs.Sounds.{once_distinct, sound_covers_once, tetrahedra_not_flat}
use Rattle.refinement.specs.Refinement.{refined_tet}
use Rattle.refinement.proofs.Counts.{all_of_set, count-cons, count-map, count-set}
use Rattle.refinement.proofs.Covered.{IsNotFlat, IsOff, passes, refined_keep}
use Rattle.refinement.proofs.Keeping.{Keeps, keeps-each}
use Rattle.size_marks.specs.Field.{Field}
use Rattle.part_store.specs.Labelled.{LabelledMesh, tet_of}
use Rattle.part_store.proofs.Members.{from-has, in-has, in-map}
use Rattle.refined_views.specs.Repeated.{RefinedTimesIsAsMany, refined_times}
use Rattle.refined_views.specs.Refined.{refined_entry, refined_labelled, without_labels}
use Rattle.refined_views.proofs.RefinedItems.{without-label}
use Rattle.refined_views.proofs.RefinedMesh.{refined_is_not_flat}

-- how many of some tetrahedra have a point within them, each as often as it is listed
abbrev covers : Rational → List Tetrahedron → ℕ
covers p tets = count_by (passes (λ _ _. true) p) tets

-- that none of these tetrahedra is flat, and each point is within one of them at most
record AreApart (tets : List Tetrahedron) : Type 0 where
  solid : are_tetrahedra tets ≡ true
  once : (p : Rational) → covers p tets ≤ 1

-- ---- lists without repeats
none_from_not : (b : Bool) → not b ≡ true → b ≡ false
none_from_not true h = absurd (false≢true h)
none_from_not false h = refl

module _ {K : Type 0} {R : K → K → Ordering} (o : IsTotalOrder R) (f : K → Bool) where
  -- an item that ties with none is put in
  count-put : (x : K) (ys : List K) → has R x ys ≡ false → count_by f (put R x ys) ≡ cond (f x) 1 0 + count_by f ys
  count-put x [] none = count-cons f x []
  count-put x (y ∷ ys) none =
      let first = count-cons f x (y ∷ ys) in
      let rest = count-cons f y ys in
      elim (R x y) as (λ r. (is_eq r || has R x ys) ≡ false → count_by f (cond (is_lt r) (x ∷ y ∷ ys) (cond (is_eq r) (y ∷ ys) (y ∷ put R x ys))) ≡ cond (f x) 1 0 + count_by f (y ∷ ys)) [
        | Less ↦ λ _. first
        | Equal ↦ λ e. absurd (false≢true (sym e))
        | Greater ↦ λ e.
            let more = count-put x ys e in
            let put_in = count-cons f y (put R x ys) in
            omega arith
      ] none

  -- a list without repeats passes a test as often as its set
  count-distinct : (xs : List K) → are_distinct R xs ≡ true → count_by f (ascending_of R xs) ≡ count_by f xs
  count-distinct [] distinct = refl
  count-distinct (x ∷ xs) distinct =
      let parts = and_parts (not (has R x xs)) (are_distinct R xs) distinct in
      let there = count-put x (ascending_of R xs) (has-ascending_of o x xs ∙ none_from_not (has R x xs) parts.0) in
      let whole = count-cons f x xs in
      let more = count-distinct xs parts.1 in
      omega arith

-- ---- tetrahedra that are apart
abbrev corners_at : Tetrahedron → List Coordinates
corners_at tet = tet.corners

distinct_tets : (ts : List Tetrahedron) → are_distinct (slice_cmp place_cmp) (map corners_at ts) ≡ true → are_distinct tet_cmp ts ≡ true
distinct_tets [] distinct = refl
distinct_tets (t ∷ ts) distinct =
    let others = map corners_at ts in
    let parts = and_parts (not (has (slice_cmp place_cmp) t.corners others)) (are_distinct (slice_cmp place_cmp) others) distinct in
    let listed : has tet_cmp t ts ≡ true → has (slice_cmp place_cmp) t.corners others ≡ true =
    λ h. in-has (lists_total place_cmp_total) exact others t.corners (in-map corners_at ts t (from-has tet_cmp_total tet_cmp-IsAntisymmetric ts t h)) in
    let none : has tet_cmp t ts ≡ false = false_from_ne_true (has tet_cmp t ts) (λ h. false≢true (sym (ap not (listed h)) ∙ parts.0)) in
    rw (none, distinct_tets ts parts.1)

-- no two of them are the same
apart_distinct : (ts : List Tetrahedron) → AreApart ts → are_distinct tet_cmp ts ≡ true
apart_distinct ts apart =
    distinct_tets ts (once_distinct (map corners_at ts)
    (all-map (λ tet. is_flat tet.corners ≡ false) (λ t. is_flat t ≡ false) corners_at (λ t k. k) ts (tetrahedra_not_flat ts apart.solid))
    (λ p. let same = count-map (is_inside p) corners_at ts in let once = apart.once p in subst (λ n. n ≤ 1) (sym same) once))

as_many : (ts : List Tetrahedron) → AreApart ts → length (ascending_of tet_cmp ts) ≡ length ts
as_many ts apart = eqb-true _ _ ((length-ascending_of tet_cmp_total ts).1 ∙ apart_distinct ts apart)

-- ---- their pieces
module _ (field : Field) (ts : List Tetrahedron) (apart : AreApart ts) where
  abbrev pieces : List Tetrahedron
  pieces = flat_map (refined_tet field) ts

  kept : (p : Rational) → Keeps IsNotFlat (IsOff p) (passes (λ _ _. true) p) ts pieces
  kept p = keeps-each IsNotFlat (IsOff p) (passes (λ _ _. true) p) (refined_tet field) (refined_keep (λ _ _. true) p field) ts (all_pass (λ tet. are_corners tet.corners) ts apart.solid)

  -- which point it is doesn't matter
  anywhere : Rational
  anywhere = record { x = pos 0; y = pos 0; z = pos 0; w = pos 1 }

  pieces_once : (p : Rational) → covers p pieces ≤ 1
  pieces_once =
      let solid : are_tetrahedra pieces ≡ true = test_all (λ tet. are_corners tet.corners) pieces (kept anywhere).not_flat in
      cover_stays_at_most 1 (λ _ _. true) pieces [] (tetrahedra_not_flat pieces solid) tt (λ p off _. let same = (kept p).count (apart.once p) off in let once = apart.once p in subst (λ n. n ≤ 1) (sym same) once)

-- ---- with labels
entries_are : (field : Field) (es : List (Tetrahedron × ℕ)) → map tet_of (flat_map (refined_entry field) es) ≡ flat_map (refined_tet field) (map tet_of es)
entries_are field [] = refl
entries_are field (e ∷ es) =
    map-append tet_of (refined_entry field e) (flat_map (refined_entry field) es) ∙ ap₂ ◌++◌ (without-label e.1 (refined_tet field e.0)) (entries_are field es)

next_apart : (field : Field) (mesh : LabelledMesh) → AreApart (map tet_of mesh.tets) → AreApart (map tet_of (refined_labelled field mesh).tets)
next_apart field mesh apart =
    let entries = flat_map (refined_entry field) mesh.tets in
    record {
      solid = refined_is_not_flat field mesh apart.solid;
      once = λ p.
          let test = passes (λ _ _. true) p in
          let in_list : count_by (λ e. test (tet_of e)) entries ≡ covers p (pieces field (map tet_of mesh.tets) apart) = sym (count-map test tet_of entries) ∙ ap (covers p) (entries_are field mesh.tets) in
          let most : count_by (λ e. test (tet_of e)) entries ≤ 1 = subst (λ n. n ≤ 1) (sym in_list) (pieces_once field (map tet_of mesh.tets) apart p) in
          let same = count-map test tet_of (refined_labelled field mesh).tets ∙ count-set ghost_cmp-IsAntisymmetric (λ e. test (tet_of e)) entries most in
          subst (λ n. n ≤ 1) (sym same) most;
    }

first_apart : (mesh : LabelledMesh) → IsSoundMesh (without_labels mesh) → length mesh.tets ≡ length (without_labels mesh).tets → AreApart (map tet_of mesh.tets)
first_apart mesh sound long =
    let ts = map tet_of mesh.tets in
    let set = ascending_of tet_cmp ts in
    let same : length set ≡ length ts = sym long ∙ sym (length-map mesh.tets tet_of) in
    let distinct : are_distinct tet_cmp ts ≡ true = sym (length-ascending_of tet_cmp_total ts).1 ∙ eq-eqb (length set) (length ts) same in
    record {
      solid = test_all (λ tet. are_corners tet.corners) ts (all_of_set tet_cmp-IsAntisymmetric (λ tet. are_corners tet.corners ≡ true) ts (all_pass (λ tet. are_corners tet.corners) set sound.tetrahedra));
      once = λ p. subst (λ n. n ≤ 1) (count-distinct tet_cmp_total (passes (λ _ _. true) p) ts distinct) (sound_covers_once set mesh.marks sound.sound (tetrahedra_not_flat set sound.tetrahedra) p);
    }

times_apart : (field : Field) (mesh : LabelledMesh) (n : ℕ) → AreApart (map tet_of mesh.tets) → AreApart (map tet_of (refined_times n field mesh).tets)
times_apart field mesh zero apart = apart
times_apart field mesh (suc n) apart = next_apart field (refined_times n field mesh) (times_apart field mesh n apart)

pub refined_times_is_as_many : RefinedTimesIsAsMany
refined_times_is_as_many field mesh n sound long =
    let last = refined_times n field mesh in
    sym (as_many (map tet_of last.tets) (times_apart field mesh n (first_apart mesh sound long)) ∙ length-map last.tets tet_of)
