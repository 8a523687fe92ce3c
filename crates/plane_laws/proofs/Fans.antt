-- A point of a plane stays on the triangles around a vertex that goes to another place of the plane.
use Rattle.std.proofs.Common.{◌≡◌, ◌≢◌, ◌⊎◌, inl, inr, ⊎_elim, Bool, true, false, cond, not, ◌||◌, List, [], ◌∷◌, ◌++◌, refl, sym, ap, subst, ◌∙◌, arith}
use Rattle.std.specs.Prelude.{◌↔◌, ℤ, pos, ◌+ℤ◌}
use Rattle.std.specs.Int.{int_signum}
use Rattle.std.specs.List.{AllByRecursion, flat_map}
use Rattle.std.specs.Ordering.{eq_by_cmp}
use Rattle.std.proofs.lemmas.Bool.{false≢true}
use Rattle.std.proofs.lemmas.Int.{ints}
use Rattle.ma_geom.specs.Coordinates.{Coordinates, place_cmp}
use Rattle.ma_geom.specs.Lines.{collinear}
use Rattle.ma_geom.specs.Rational.{IsPoint, Rational, offset, side}
use Rattle.ma_geom.specs.Turns.{same_turn}
use Rattle.ma_geom.specs.Volume.{dot, vol6}
use Rattle.ma_geom.proofs.Identities.{vol6_exchange_ab, vol6_same_ab, vol6_same_ac, vol6_turn_abc}
use Rattle.ma_cells.specs.Faces.{faces_of}
use Rattle.ma_cells.proofs.Choices.{all-append}
use Rattle.ma_cells.proofs.Passing.{all_weaker}
use Rattle.ma_cells.proofs.Permutations.{same, tied}
use Rattle.ma_cover.specs.Classification.{AnyByRecursion}
use Rattle.ma_cover.specs.Inside.{are_alike, is_inside}
use Rattle.ma_cover.specs.OnFaces.{IsOnTriangle}
use Rattle.mesh_laws.specs.Points.{IsMovedOffPlane, IsOffPlane}
use Rattle.mesh_laws.proofs.Lists.{all_parts}
use Rattle.mesh_laws.proofs.MovedOff.{bent}
use Rattle.mesh_laws.proofs.Weights.{alike_some, is_or_not}
use Rattle.plane_laws.specs.Planes.{AreOpposite, CanMoveInPlane, Edge, IsInnerOrOnLine, IsOnFan, PlaneKeepsPoints, link_without, thirds}
use Rattle.plane_laws.proofs.InPlane.{Lies, a_lies, flat_in_plane, side_in_plane, solid_above, top, turn_above}
use Rattle.plane_laws.proofs.Items.{IsIn, all_in, any, any-filter, each, witness}
use Rattle.plane_laws.proofs.Near.{closed, near}
use Rattle.plane_laws.proofs.OverLinks.{AreEven, IsGood, IsOff, over_alike, signs_cancel, some_inside, sum, turn_at}

abbrev eq : Coordinates → Coordinates → Bool
eq = eq_by_cmp place_cmp

module _ (n a v : Coordinates) (link : List Edge) (m : CanMoveInPlane n a v link) where
  q : Coordinates
  q = top n a m.plane

  abbrev In : Coordinates → Type 0
  In = Lies n a m.plane

  in_a : In a
  in_a = a_lies n a m.plane

  corners_in : (e : Edge) → IsIn e link → In e.x × In e.y
  corners_in e i = each (λ e. In e.x × In e.y) e link m.corners i

  solid_a : (e : Edge) → IsIn e link → vol6 a e.x e.y q ≢ pos 0
  unfolding q
  solid_a e i = let in_e = corners_in e i in solid_above n a m.plane a e.x e.y in_a in_e.0 in_e.1 (each (λ e. collinear a e.x e.y ≡ false) e link m.bent i)

  turned : (e : Edge) → IsIn e link → (e.x ≢ v) → (e.y ≢ v) → are_alike (vol6 a e.x e.y q) (vol6 v e.x e.y q) ≡ true
  unfolding q
  turned e i x_v y_v =
      let in_e = corners_in e i in
      turn_above n a m.plane a e.x e.y v e.x e.y in_a in_e.0 in_e.1 m.target in_e.0 in_e.1 (each (λ e. e.x ≢ v → e.y ≢ v → same_turn (a ∷ e.x ∷ e.y ∷ []) (v ∷ e.x ∷ e.y ∷ []) ≡ true) e link m.turns i x_v y_v)

  good : (e : Edge) → IsIn e link → IsGood a v q e
  good e i = record {
    solid = solid_a e i;
    flat = let in_e = corners_in e i in flat_in_plane n a m.plane v a e.x m.target in_a in_e.0 e.y in_e.1;
    turn = by (eq e.x v) (eq e.y v) refl refl;
  }
    where
      differ : (x : Coordinates) → eq x v ≡ false → x ≢ v
      differ x e f = false≢true (sym e ∙ subst (λ t. eq t v ≡ true) (sym f) (tied v))

      by : (s t : Bool) → eq e.x v ≡ s → eq e.y v ≡ t → (vol6 v e.x e.y q ≡ pos 0) ⊎ (are_alike (vol6 a e.x e.y q) (vol6 v e.x e.y q) ≡ true)
      by true t f g = inl (subst (λ t. vol6 v t e.y q ≡ pos 0) (sym (same e.x v f)) (vol6_same_ab v e.y q))
      by false true f g = inl (subst (λ t. vol6 v e.x t q ≡ pos 0) (sym (same e.y v g)) (vol6_same_ac v e.x q))
      by false false f g = inr (turned e i (differ e.x f) (differ e.y g))

  -- ---- the edges at a
  thirds_in : (z : Coordinates) (es : List Edge) → AllByRecursion (λ e. In e.x × In e.y) es → AllByRecursion (λ y. In z × In y) (thirds z es)
  thirds_in z [] h = tt
  thirds_in z (e ∷ es) h = all-append (λ y. In z × In y) (cond (eq z e.x) (e.y ∷ []) (cond (eq z e.y) (e.x ∷ []) [])) (thirds z es) (by (eq z e.x) (eq z e.y) refl refl) (thirds_in z es h.1)
    where
      by : (s t : Bool) → eq z e.x ≡ s → eq z e.y ≡ t → AllByRecursion (λ y. In z × In y) (cond s (e.y ∷ []) (cond t (e.x ∷ []) []))
      by true t f g = ((subst In (sym (same z e.x f)) h.0.0, h.0.1), tt)
      by false true f g = ((subst In (sym (same z e.y g)) h.0.1, h.0.0), tt)
      by false false f g = tt

  -- an edge of none of the triangles has no third corners
  inner_or_none : (z : Coordinates) (es : List Edge) → AllByRecursion (λ e. IsInnerOrOnLine a v link e.x × IsInnerOrOnLine a v link e.y) es → IsInnerOrOnLine a v link z ⊎ (thirds z es ≡ [])
  inner_or_none z [] h = inr refl
  inner_or_none z (e ∷ es) h = by (eq z e.x) (eq z e.y) refl refl (inner_or_none z es h.1)
    where
      by : (s t : Bool) → eq z e.x ≡ s → eq z e.y ≡ t → IsInnerOrOnLine a v link z ⊎ (thirds z es ≡ []) → IsInnerOrOnLine a v link z ⊎ (cond s (e.y ∷ []) (cond t (e.x ∷ []) []) ++ thirds z es ≡ [])
      by true t f g rest = inl (subst (IsInnerOrOnLine a v link) (sym (same z e.x f)) h.0.0)
      by false true f g rest = inl (subst (IsInnerOrOnLine a v link) (sym (same z e.y g)) h.0.1)
      by false false f g rest = rest

  opposite_even : (z : Coordinates) (ys : List Coordinates) → AllByRecursion (λ y. In z × In y) ys → AreOpposite a z ys → sum (turn_at a v q z) ys ≡ pos 0
  unfolding q
  opposite_even z [] h two = absurd two
  opposite_even z (x ∷ []) h two = absurd two
  opposite_even z (x ∷ y ∷ []) h two =
      ap (λ t. int_signum (vol6 a z x q) +ℤ t) (last (int_signum (vol6 a z y q)))
      ∙ signs_cancel (vol6 a z x q) (vol6 z a y q) (vol6 a z y q) (turn_above n a m.plane a z x z a y in_a h.0.0 h.0.1 h.0.0 in_a h.1.0.1 two) (vol6_exchange_ab a z y q)
    where
      last : (s : ℤ) → s +ℤ pos 0 ≡ s
      last s = omega (arith, ints)
  opposite_even z (x ∷ y ∷ w ∷ l) h two = absurd two

  even : (s : Rational) → AreEven a v q s link
  even s z =
      ⊎_elim (λ none. ⊎_elim (λ line. inl (nothing (is_inside s (v ∷ a ∷ z ∷ q ∷ [])) (on_line line))) (λ two. inr (opposite_even z (thirds z link) (thirds_in z link m.corners) two)) none)
      (λ none. inr (ap (sum (turn_at a v q z)) none))
      (inner_or_none z link m.edges)
    where
      nothing : (b : Bool) {w : ℤ} → w ≡ pos 0 → cond b (int_signum w) (pos 0) ≡ pos 0
      nothing true e = ap int_signum e
      nothing false e = refl

      on_line : collinear a z v ≡ true → vol6 v a z q ≡ pos 0
      on_line line = sym (vol6_turn_abc v a z q) ∙ ⊎_elim (λ none. none) (λ some. absurd (false≢true (sym (bent a z v q some) ∙ line))) (is_or_not (vol6 a z v q))

  -- ---- a point of the plane
  five : Edge → List (List Coordinates)
  five e = faces_of (v ∷ a ∷ e.x ∷ e.y ∷ q ∷ [])

  module _ (p : Rational) (is_point : IsPoint p) (in_p : dot n (offset p a) ≡ pos 0) where
    abbrev Moved : Rational → Edge → Type 0
    Moved s e = AllByRecursion (IsMovedOffPlane p s) (five e)

    alike : (s : Rational) → AllByRecursion (Moved s) link → AnyByRecursion (λ e. is_inside s (a ∷ e.x ∷ e.y ∷ q ∷ []) ≡ true) link ↔ AnyByRecursion (λ e. is_inside s (v ∷ e.x ∷ e.y ∷ q ∷ []) ≡ true) link
    unfolding five
    alike s moved = over_alike a v q s link (all_in (IsGood a v q) link good) (all_weaker (Moved s) (IsOff a v q s) (λ e. all_weaker (IsMovedOffPlane p s) (IsOffPlane s) (λ _ h. h.off) (five e)) link moved) (even s)

    flat : (b : Coordinates) → In b → (e : Edge) → IsIn e link → side b e.x e.y p ≡ pos 0
    flat b in_b e i = let in_e = corners_in e i in side_in_plane n a m.plane b e.x e.y in_b in_e.0 in_e.1 p in_p

    forth : IsOnFan a link p → IsOnFan v (link_without v link) p
    unfolding five
    forth on =
        let w = witness (λ e. IsOnTriangle a e.x e.y p) link on in
        let s = near a w.0.x w.0.y q (solid_a w.0 w.1) p is_point w.2 (flat_map five link) in
        let moved = all_parts (IsMovedOffPlane p s.0) five link s.2 in
        let u = witness (λ e. is_inside s.0 (v ∷ e.x ∷ e.y ∷ q ∷ []) ≡ true) link ((alike s.0 moved).0 (any (λ e. is_inside s.0 (a ∷ e.x ∷ e.y ∷ q ∷ []) ≡ true) w.0 link w.1 s.1)) in
        let solid = some_inside a v q s.0 v u.0.x u.0.y q u.2 in
        let at = each (Moved s.0) u.0 link moved u.1 in
        (any-filter (λ e. IsOnTriangle v e.x e.y p) (λ e. not (eq v e.x || eq v e.y)) link).1
        (any (λ e. (not (eq v e.x || eq v e.y) ≡ true) × IsOnTriangle v e.x e.y p) u.0 link u.1 (
          without u.0 (eq v u.0.x) (eq v u.0.y) refl refl solid,
          closed v u.0.x u.0.y q solid p s.0 (flat v m.target u.0 u.1) at.1.1.1.1.1.1.1.1.1.0.kept at.1.1.1.1.1.0.kept at.1.1.1.1.0.kept u.2,
        ))
      where
        without : (e : Edge) (s t : Bool) → eq v e.x ≡ s → eq v e.y ≡ t → vol6 v e.x e.y q ≢ pos 0 → not (s || t) ≡ true
        without e true t f g solid = absurd (solid (subst (λ t. vol6 v t e.y q ≡ pos 0) (same v e.x f) (vol6_same_ab v e.y q)))
        without e false true f g solid = absurd (solid (subst (λ t. vol6 v e.x t q ≡ pos 0) (same v e.y g) (vol6_same_ac v e.x q)))
        without e false false f g solid = refl

    back : IsOnFan v (link_without v link) p → IsOnFan a link p
    unfolding five
    back on =
        let w = witness (λ e. (not (eq v e.x || eq v e.y) ≡ true) × IsOnTriangle v e.x e.y p) link ((any-filter (λ e. IsOnTriangle v e.x e.y p) (λ e. not (eq v e.x || eq v e.y)) link).0 on) in
        let away = neither (eq v w.0.x) (eq v w.0.y) w.2.0 in
        let solid = (alike_some (vol6 a w.0.x w.0.y q) (vol6 v w.0.x w.0.y q) (turned w.0 w.1 (differ w.0.x away.0) (differ w.0.y away.1))).1 in
        let s = near v w.0.x w.0.y q solid p is_point w.2.1 (flat_map five link) in
        let moved = all_parts (IsMovedOffPlane p s.0) five link s.2 in
        let u = witness (λ e. is_inside s.0 (a ∷ e.x ∷ e.y ∷ q ∷ []) ≡ true) link ((alike s.0 moved).1 (any (λ e. is_inside s.0 (v ∷ e.x ∷ e.y ∷ q ∷ []) ≡ true) w.0 link w.1 s.1)) in
        let at = each (Moved s.0) u.0 link moved u.1 in
        any (λ e. IsOnTriangle a e.x e.y p) u.0 link u.1
        (closed a u.0.x u.0.y q (solid_a u.0 u.1) p s.0 (flat a in_a u.0 u.1) at.1.1.1.1.1.1.1.1.1.0.kept at.1.1.1.1.1.1.1.1.0.kept at.1.1.1.1.1.1.1.0.kept u.2)
      where
        neither : (s t : Bool) → not (s || t) ≡ true → (s ≡ false) × (t ≡ false)
        neither true t h = absurd (false≢true h)
        neither false true h = absurd (false≢true h)
        neither false false h = (refl, refl)

        differ : (x : Coordinates) → eq v x ≡ false → x ≢ v
        differ x e f = false≢true (sym e ∙ subst (λ t. eq v t ≡ true) (sym f) (tied v))

pub plane_keeps_points : PlaneKeepsPoints
plane_keeps_points n a v link m p is_point in_p = (forth n a v link m p is_point in_p, back n a v link m p is_point in_p)
