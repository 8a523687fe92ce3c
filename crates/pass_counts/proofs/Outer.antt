-- The law asks nothing of a mesh, so a tetrahedron may be listed with any number of corners. Where one of two has five or more besides a place that sees their outer faces, all tetrahedra from this place over its outer faces are flat.
use Rattle.std.proofs.Common.{◌≡◌, ◌≢◌, ◌≤◌, Bool, true, false, not, ◌&&◌, ◌||◌, List, [], ◌∷◌, filter, length, inl, inr, refl, sym, ap, subst, ◌∙◌, arith}
use Rattle.std.specs.List.{AllByRecursion}
use Rattle.std.specs.List.Sorted.{IsPermutation, IsStrictlySortedBy}
use Rattle.std.specs.Ordering.{eq_by_cmp, is_lt}
use Rattle.std.proofs.lemmas.Bool.{and_cases, and_parts, false≢true, not-true, or_parts, or_right, true_from_ne_false}
use Rattle.std.proofs.lemmas.Cmp.{tied_itself}
use Rattle.std.proofs.lemmas.List.Filters.{length-filter_both}
use Rattle.std.proofs.lemmas.List.Kept.{IsStrictlySortedBy-filter}
use Rattle.std.proofs.lemmas.List.Sorted.{IsPermutation-append_comm, IsPermutation-sym, IsPermutation-trans}
use Rattle.ma_geom.specs.Coordinates.{Coordinates, place_cmp}
use Rattle.ma_geom.specs.Lines.{is_flat}
use Rattle.ma_geom.specs.Signs.{side_of}
use Rattle.ma_geom.specs.Volume.{vol6}
use Rattle.ma_geom.specs.declared.signs.Sign.TheVariants.{Zero}
use Rattle.ma_geom.proofs.PlaceOrder.{place_cmp-IsAntisymmetric, place_cmp_total}
use Rattle.ma_cells.specs.Ascending.{are_distinct, ascending_of, has}
use Rattle.ma_cells.specs.Faces.{choices, holds_all}
use Rattle.ma_cells.specs.Stars.{besides}
use Rattle.ma_cells.proofs.Ascents.{ascending_from_strict, has-ascending_of, has-head, sorted-ascending_of}
use Rattle.ma_cells.proofs.Corners.{ascending_is}
use Rattle.ma_cells.proofs.Members.{has-filter, all_members}
use Rattle.ma_cells.proofs.Passing.{all_pass}
use Rattle.ma_cells.proofs.Permutations.{alone, ascending_of-permutes, tied}
use Rattle.ma_cells.proofs.Pieces.{solid_corners}
use Rattle.pass_counts.proofs.Counts.{set_within}
use Rattle.pass_counts.proofs.Cones.{IsFaceOf, all_differ}
use Rattle.pass_counts.proofs.Sides.{AreFive, IsSeen, five_ab, five_bc, in_plane, zero_ab, zero_bc, zero_sign}

differ : (p q : Coordinates) → eq_by_cmp place_cmp p q ≡ false → p ≢ q
differ p q e k = false≢true (sym e ∙ subst (λ x. eq_by_cmp place_cmp p x ≡ true) k (tied p))

-- a place that is none of three
off_each : (x a b c : Coordinates) → has place_cmp x (a ∷ b ∷ c ∷ []) ≡ false → (x ≢ a) × (x ≢ b) × (x ≢ c)
off_each x a b c h =
    let first = or_parts (eq_by_cmp place_cmp x a) (eq_by_cmp place_cmp x b || (eq_by_cmp place_cmp x c || false)) h in
    let second = or_parts (eq_by_cmp place_cmp x b) (eq_by_cmp place_cmp x c || false) first.1 in
    let third = or_parts (eq_by_cmp place_cmp x c) false second.1 in
    (differ x a first.0, differ x b second.0, differ x c third.0)

module _ (v : Coordinates) (corners other : List Coordinates) where
  abbrev further : List Coordinates
  further = ascending_of place_cmp (besides (v ∷ []) corners)

  -- ---- corners besides those of a face
  module _ (face : List Coordinates) (three : length face ≡ 3) where
    abbrev on : Coordinates → Bool
    on p = has place_cmp p face

    abbrev rest : List Coordinates
    rest = filter (λ p. not (on p)) further

    sorted : IsStrictlySortedBy place_cmp rest
    sorted = IsStrictlySortedBy-filter place_cmp (λ p. not (on p)) further (sorted-ascending_of place_cmp_total (besides (v ∷ []) corners))

    few_on : length (filter on further) ≤ 3
    few_on =
        let kept = filter on further in
        let strict = IsStrictlySortedBy-filter place_cmp on further (sorted-ascending_of place_cmp_total (besides (v ∷ []) corners)) in
        let within : length (ascending_of place_cmp kept) ≤ length face =
        set_within place_cmp_total place_cmp-IsAntisymmetric kept face
        (all_pass on kept (all_members place_cmp_total on kept (λ q there. (and_parts (has place_cmp q further) (on q) (sym (has-filter place_cmp-IsAntisymmetric on q further) ∙ there)).1))) in
        let same : ascending_of place_cmp kept ≡ kept = ascending_is kept (ascending_from_strict place_cmp_total kept strict) in
        let bound : length kept ≤ length face = subst (λ l. length l ≤ length face) same within in
        omega (arith, bound, three)

    -- of five or more, two at least are left
    two_left : 5 ≤ length further → 2 ≤ length rest
    two_left many =
        let parts = length-filter_both on (λ p. not (on p)) (λ p. refl) further in
        let few = few_on in
        omega (arith, parts, few, many)

    record IsLeft (p : Coordinates) : Type 0 where
      there : has place_cmp p corners ≡ true
      off : v ≢ p
      apart : has place_cmp p face ≡ false

    left : (p : Coordinates) → has place_cmp p rest ≡ true → IsLeft p
    left p h =
        let first = and_parts (has place_cmp p further) (not (on p)) (sym (has-filter place_cmp-IsAntisymmetric (λ q. not (on q)) p further) ∙ h) in
        let second = and_parts (has place_cmp p corners) (not (has place_cmp p (v ∷ [])))
        (sym (has-filter place_cmp-IsAntisymmetric (λ q. not (has place_cmp q (v ∷ []))) p corners) ∙ sym (has-ascending_of place_cmp_total p (besides (v ∷ []) corners)) ∙ first.0) in
        let other_than = or_parts (eq_by_cmp place_cmp p v) false (not-true (has place_cmp p (v ∷ [])) second.1) in
        record { there = second.0; off = λ k. differ p v other_than.0 (sym k); apart = not-true (on p) first.1 }

    -- two of them
    record TwoLeft : Type 0 where
      d : Coordinates
      e : Coordinates
      of_d : IsLeft d
      of_e : IsLeft e
      de : d ≢ e

    two : (l : List Coordinates) → rest ≡ l → 2 ≤ length l → IsStrictlySortedBy place_cmp l → TwoLeft
    unfolding IsStrictlySortedBy
    two [] is long s = absurd (omega (arith, long))
    two (d ∷ []) is long s = absurd (omega (arith, long))
    two (d ∷ e ∷ l) is long s = record {
      d = d;
      e = e;
      of_d = left d (ap (has place_cmp d) is ∙ has-head place_cmp_total d (e ∷ l));
      of_e = left e (ap (has place_cmp e) is ∙ or_right (eq_by_cmp place_cmp e d) (has place_cmp e (e ∷ l)) (has-head place_cmp_total e l));
      de = λ k. false≢true (sym (ap is_lt (tied_itself place_cmp_total d)) ∙ ap (λ x. is_lt (place_cmp d x)) k ∙ ap is_lt s.0.0);
    }

  -- ---- faces over which there is nothing
  module _ (seen : AllByRecursion (IsSeen v corners other) (choices 3 corners)) (many : 5 ≤ length further) where
    in_one_plane : (x y z : Coordinates) → IsFaceOf corners (x ∷ y ∷ z ∷ []) → are_distinct place_cmp (v ∷ x ∷ y ∷ z ∷ []) ≡ true → holds_all other (x ∷ y ∷ z ∷ []) ≡ false → side_of (x ∷ y ∷ z ∷ []) v ≡ Zero
    in_one_plane x y z is distinct outer =
        let face : List Coordinates = x ∷ y ∷ z ∷ [] in
        let first = alone (has place_cmp v face) (are_distinct place_cmp face) distinct in
        let second = alone (has place_cmp x (y ∷ z ∷ [])) (are_distinct place_cmp (y ∷ z ∷ [])) first.1 in
        let third = alone (has place_cmp y (z ∷ [])) (are_distinct place_cmp (z ∷ [])) second.1 in
        let from_v = off_each v x y z first.0 in
        let from_x = or_parts (eq_by_cmp place_cmp x y) (eq_by_cmp place_cmp x z || false) second.0 in
        let more = two face is.three (rest face is.three) refl (two_left face is.three many) (sorted face is.three) in
        let from_d = off_each more.d x y z more.of_d.apart in
        let from_e = off_each more.e x y z more.of_e.apart in
        let five : AreFive v corners other x y z more.d more.e = record {
          vp = from_v.0;
          vq = from_v.1;
          vr = from_v.2;
          vd = more.of_d.off;
          ve = more.of_e.off;
          pq = differ x y from_x.0;
          pr = differ x z (or_parts (eq_by_cmp place_cmp x z) false from_x.1).0;
          qr = differ y z (or_parts (eq_by_cmp place_cmp y z) false third.0).0;
          dp = from_d.0;
          dq = from_d.1;
          dr = from_d.2;
          ep = from_e.0;
          eq = from_e.1;
          er = from_e.2;
          de = more.de;
          p_there = is.within.0;
          q_there = is.within.1.0;
          r_there = is.within.1.1.0;
          d_there = more.of_d.there;
          e_there = more.of_e.there;
        } in
        elim (and_cases (has place_cmp x other) (has place_cmp y other && (has place_cmp z other && true)) outer) [
          | inl gone ↦ in_plane v corners other seen x y z more.d more.e five gone
          | inr later ↦ elim (and_cases (has place_cmp y other) (has place_cmp z other && true) later) [
            | inl gone ↦ zero_ab x y z v (in_plane v corners other seen y x z more.d more.e (five_ab v corners other x y z more.d more.e five) gone)
            | inr last ↦ zero_bc x y z v (zero_ab x z y v (in_plane v corners other seen z x y more.d more.e
                (five_ab v corners other x z y more.d more.e (five_bc v corners other x y z more.d more.e five)) (and_true_false (has place_cmp z other) last)))
          ]
        ]
      where
        and_true_false : (b : Bool) → (b && true) ≡ false → b ≡ false
        and_true_false true e = e
        and_true_false false e = refl

    pub flat_over : (face : List Coordinates) → IsFaceOf corners face → holds_all other face ≡ false → is_flat (ascending_of place_cmp (v ∷ face)) ≡ true
    flat_over [] is outer = absurd (omega (arith, is.three))
    flat_over (x ∷ []) is outer = absurd (omega (arith, is.three))
    flat_over (x ∷ y ∷ []) is outer = absurd (omega (arith, is.three))
    flat_over (x ∷ y ∷ z ∷ []) is outer = true_from_ne_false (is_flat (ascending_of place_cmp (v ∷ x ∷ y ∷ z ∷ []))) (λ solid.
        let all : List Coordinates = v ∷ x ∷ y ∷ z ∷ [] in
        let distinct = all_differ v (x ∷ y ∷ z ∷ []) is.three solid in
        let moved : IsPermutation (ascending_of place_cmp all) (x ∷ y ∷ z ∷ v ∷ []) =
        IsPermutation-trans (ascending_of place_cmp all) all (x ∷ y ∷ z ∷ v ∷ []) (IsPermutation-sym all (ascending_of place_cmp all) (ascending_of-permutes all distinct)) (IsPermutation-append_comm (v ∷ []) (x ∷ y ∷ z ∷ [])) in
        solid_corners (ascending_of place_cmp all) x y z v moved solid (zero_sign (vol6 x y z v) (in_one_plane x y z is distinct outer)))
    flat_over (x ∷ y ∷ z ∷ t ∷ l) is outer = absurd (omega (arith, is.three))
