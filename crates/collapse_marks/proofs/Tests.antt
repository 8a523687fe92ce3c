-- Where the tests of a collapse that look at marks pass, the marked cells let the vertex go.
use Rattle.std.proofs.Common.{◌≡◌, ◌≢◌, inl, inr, ⊎_elim, ℕ, Bool, true, false, cond, not, ◌&&◌, ◌||◌, List, [], ◌∷◌, ◌++◌, Option, Some, None, refl, sym, ap, ap₂, subst, ◌∙◌}
use Rattle.std.specs.Prelude.{ℤ, pos, map, ◌==◌}
use Rattle.std.specs.Cmp.Lexicographic.{slice_cmp}
use Rattle.std.specs.List.{AllByRecursion, flat_map, list_all}
use Rattle.std.specs.Option.{option_to_list}
use Rattle.std.specs.Ordering.{eq_by_cmp, int_eq}
use Rattle.std.proofs.lemmas.Bool.{and_parts, false≢true, or_cases}
use Rattle.std.proofs.lemmas.List.Concat.{flat_map-append}
use Rattle.ma_geom.specs.Coordinates.{Coordinates, place_cmp}
use Rattle.ma_geom.specs.Lines.{collinear, coplanar}
use Rattle.ma_geom.specs.Turns.{same_turn}
use Rattle.ma_geom.specs.Volume.{vol6}
use Rattle.ma_geom.proofs.Identities.{vol6_exchange_bc, vol6_same_bd, vol6_same_cd}
use Rattle.ma_cells.specs.Ascending.{are_distinct, has}
use Rattle.ma_cells.specs.Cells.{CellMark, corners_of, is_cell}
use Rattle.ma_cells.specs.declared.cell.Cell.{Cell}
use Rattle.ma_cells.specs.declared.cell.Cell.TheVariants.{Point, Seg, Tri}
use Rattle.ma_cells.proofs.Passing.{all_pass}
use Rattle.ma_cells.proofs.Permutations.{apart, has-permutation, tied}
use Rattle.ma_cover.specs.Classification.{dimension, marked_cells}
use Rattle.ma_cover.proofs.Anys.{test_any}
use Rattle.mesh_laws.proofs.Listings.{same_itself}
use Rattle.cavity_collapse.specs.Curves.{curve_ends, end_across, far_end, is_segment_at, run_straight, tagged_end}
use Rattle.cavity_collapse.specs.Surfaces.{across, edge_is_kept, are_on_both_sides, is_triangle_at, lies_in_plane, wings}
use Rattle.plane_laws.specs.Planes.{CanMoveInPlanes, Edge, IsInnerOrOnLine, in_plane, thirds}
use Rattle.plane_laws.proofs.Items.{IsIn, all_in, any, each, filter-alike, from_flat_map, in_filter, in_flat_map}
use Rattle.collapse_marks.specs.Marks.{MarksAllow, is_bent_cell}
use Rattle.moved_cells.specs.Segments.{AreStraight, ends_of}
use Rattle.moved_cells.specs.Triangles.{edge_of, link_of}
use Rattle.collapse_marks.proofs.Classified.{CellsAllow, one}
use Rattle.collapse_marks.proofs.Corners.{IsAt, at_or_away, distinct_three, exchanged_sign}
use Rattle.moved_cells.proofs.Moved.{distinct-permutation, eq_turned}
use Rattle.collapse_marks.proofs.Opposite.{opposite}
use Rattle.collapse_marks.proofs.Wings.{HasTag, distinct_corners, edges, tag_is, tags_alike, thirds_of, wings_are, wings_distinct}

abbrev eq : Coordinates → Coordinates → Bool
eq = eq_by_cmp place_cmp

last_none : {X : Type 0} (xs : List X) → xs ≡ xs ++ []
last_none [] = refl
last_none (x ∷ xs) = ap (λ ys. x ∷ ys) (last_none xs)

after_not : (s t : Bool) → (not s || t) ≡ true → s ≡ true → t ≡ true
after_not true t h e = h
after_not false t h e = absurd (false≢true e)

not_is : (s : Bool) → not s ≡ true → s ≡ false
not_is true h = absurd (false≢true h)
not_is false h = refl

-- ---- a marked cell
record Marked (d : ℕ) (phys elem : ℤ) (marks : List CellMark) (s : List Coordinates) : Type 0 where
  pub m : CellMark
  pub is_in : IsIn m marks
  pub dim : (dimension m.cell == d) ≡ true
  pub tags : HasTag phys elem m
  pub corners : s ≡ corners_of m.cell

marked : (d : ℕ) (phys elem : ℤ) (marks : List CellMark) (s : List Coordinates) → IsIn s (marked_cells d phys elem marks) → Marked d phys elem marks s
marked d phys elem marks s i = let w = from_flat_map (one d phys elem) s marks i in by w.0 w.1 (dimension w.0.cell == d) (int_eq w.0.phys phys && int_eq w.0.elem elem) refl refl w.2
  where
    by : (m : CellMark) → IsIn m marks → (b c : Bool) → (dimension m.cell == d) ≡ b → (int_eq m.phys phys && int_eq m.elem elem) ≡ c → IsIn s (cond (b && c) (corners_of m.cell ∷ []) []) → Marked d phys elem marks s
    by m j true true e f (inl is) = record { m = m; is_in = j; dim = e; tags = tag_is phys elem m f; corners = is }
    by m j true true e f (inr k) = absurd k
    by m j true false e f k = absurd k
    by m j false c e f k = absurd k

-- ---- segments
one_end : (a : Coordinates) (phys elem : ℤ) (m n : CellMark) → HasTag phys elem m → option_to_list (tagged_end a m n) ≡ ends_of a (one 1 phys elem n)
one_end a phys elem m n tag = ap (λ b. option_to_list (cond b (far_end a n.cell) None)) (tags_alike phys elem m n tag) ∙ by n.cell (int_eq n.phys phys && int_eq n.elem elem)
  where
    by : (c : Cell) (b : Bool) → option_to_list (cond b (far_end a c) None) ≡ ends_of a (cond ((dimension c == 1) && b) (corners_of c ∷ []) [])
    by (Point p) true = refl
    by (Point p) false = refl
    by (Seg s) true = last_none (option_to_list (end_across a s))
    by (Seg s) false = refl
    by (Tri t) true = refl
    by (Tri t) false = refl

ends_alike : (a : Coordinates) (phys elem : ℤ) (m : CellMark) → HasTag phys elem m → (ns : List CellMark) → curve_ends ns a m ≡ ends_of a (marked_cells 1 phys elem ns)
ends_alike a phys elem m tag [] = refl
ends_alike a phys elem m tag (n ∷ ns) =
    ap₂ (λ xs ys. xs ++ ys) (one_end a phys elem m n tag) (ends_alike a phys elem m tag ns)
    ∙ sym (flat_map-append (λ s. option_to_list (end_across a s)) (one 1 phys elem n) (marked_cells 1 phys elem ns))

end_has : (a e : Coordinates) (s : List Coordinates) → IsIn e (option_to_list (end_across a s)) → has place_cmp a s ≡ true
end_has a e [] i = absurd i
end_has a e (p ∷ []) i = absurd i
end_has a e (p ∷ q ∷ r ∷ l) i = absurd i
end_has a e (p ∷ q ∷ []) i = by (eq p a) (eq q a) refl refl i
  where
    by : (s t : Bool) → eq p a ≡ s → eq q a ≡ t → IsIn e (option_to_list (cond s (Some q) (cond t (Some p) None))) → (eq a p || (eq a q || false)) ≡ true
    by true t f g i = ap (λ b. b || (eq a q || false)) (eq_turned a p ∙ f)
    by false true f g i = ap₂ (λ b c. b || (c || false)) (eq_turned a p ∙ f) (eq_turned a q ∙ g)
    by false false f g i = absurd i

module _ (a v : Coordinates) (marks : List CellMark) (allow : MarksAllow a v marks) where
  abbrev ends : ℤ → ℤ → List Coordinates
  ends phys elem = ends_of a (marked_cells 1 phys elem marks)

  straight : (phys elem : ℤ) → (e : Coordinates) → IsIn e (ends phys elem) → run_straight a v (ends phys elem) ≡ true
  straight phys elem e i =
      let w = from_flat_map (λ s. option_to_list (end_across a s)) e (marked_cells 1 phys elem marks) i in
      let at = marked 1 phys elem marks w.0 w.1 in
      let test = each (λ m. (not (is_segment_at a m.cell) || run_straight a v (curve_ends marks a m)) ≡ true) at.m marks (all_pass (λ m. not (is_segment_at a m.cell) || run_straight a v (curve_ends marks a m)) marks allow.curves) at.is_in in
      subst (λ l. run_straight a v l ≡ true) (ends_alike a phys elem at.m at.tags marks)
      (after_not (is_segment_at a at.m.cell) (run_straight a v (curve_ends marks a at.m)) test (by at.m.cell at.dim (subst (λ s. has place_cmp a s ≡ true) at.corners (end_has a e w.0 w.2))))
    where
      by : (c : Cell) → (dimension c == 1) ≡ true → has place_cmp a (corners_of c) ≡ true → is_segment_at a c ≡ true
      by (Point p) d h = absurd (false≢true d)
      by (Seg s) d h = h
      by (Tri t) d h = absurd (false≢true d)

  segments : (phys elem : ℤ) → AreStraight a v (ends phys elem)
  segments phys elem = by (ends phys elem) (straight phys elem)
    where
      by : (l : List Coordinates) → ((e : Coordinates) → IsIn e l → run_straight a v l ≡ true) → AreStraight a v l
      by [] h = inl refl
      by (e ∷ l) h = inr (h e (inl refl))

  points : AllByRecursion (λ m. m.cell ≢ Point a) marks
  points = all_in (λ m. m.cell ≢ Point a) marks (λ m i e.
      let there = test_any at_a marks (any (λ m. at_a m ≡ true) m marks i (subst (λ c. eq_by_cmp (slice_cmp place_cmp) (corners_of c) (a ∷ []) ≡ true) (sym e) (same_itself (a ∷ [])))) in
      false≢true (sym (ap not there) ∙ allow.points))
    where
      at_a : CellMark → Bool
      at_a mark = eq_by_cmp (slice_cmp place_cmp) (corners_of mark.cell) (a ∷ [])

-- ---- triangles
module _ (a v : Coordinates) (marks : List CellMark) (are : AllByRecursion (λ m. is_cell m.cell ≡ true) marks)
    (allow : MarksAllow a v marks) (phys elem : ℤ) where
  abbrev link : List Edge
  link = link_of a (marked_cells 2 phys elem marks)

  record Source (e : Edge) : Type 0 where
    pub m : CellMark
    pub is_in : IsIn m marks
    pub tags : HasTag phys elem m
    pub t : List Coordinates
    pub cell : m.cell ≡ Tri t
    pub corners : are_distinct place_cmp t ≡ true
    pub at : IsAt a e t

  source : (e : Edge) → IsIn e link → Source e
  source e i =
      let w = from_flat_map (edges a) e (marked_cells 2 phys elem marks) i in
      let from = marked 2 phys elem marks w.0 w.1 in
      let cell = triangle w.0 from.m.cell from.dim from.corners in
      let corners = distinct_corners w.0 (subst (λ c. is_cell c ≡ true) cell (each (λ m. is_cell m.cell ≡ true) from.m marks are from.is_in)) in
      record {
        m = from.m;
        is_in = from.is_in;
        tags = from.tags;
        t = w.0;
        cell = cell;
        corners = corners;
        at = ⊎_elim (λ at. only w.0 at.0 at.1 (subst (λ o. IsIn e (map edge_of (option_to_list o))) at.1.across w.2)) (λ away. absurd (subst (λ o. IsIn e (map edge_of (option_to_list o))) away.across w.2)) (at_or_away a w.0 corners);
      }
    where
      triangle : (t : List Coordinates) (c : Cell) → (dimension c == 2) ≡ true → t ≡ corners_of c → c ≡ Tri t
      triangle t (Point p) d is = absurd (false≢true d)
      triangle t (Seg s) d is = absurd (false≢true d)
      triangle t (Tri u) d is = ap Tri (sym is)

      only : (t : List Coordinates) (f : Edge) → IsAt a f t → IsIn e (f ∷ []) → IsAt a e t
      only t f at (inl is) = subst (λ g. IsAt a g t) (sym is) at
      only t f at (inr j) = absurd j

  -- what a test says of a marked triangle
  tested : (f : CellMark → Bool) → list_all f marks ≡ true → (e : Edge) (s : Source e) → f s.m ≡ true
  tested f h e s = each (λ m. f m ≡ true) s.m marks (all_pass f marks h) s.is_in

  has_a : (e : Edge) (s : Source e) → has place_cmp a s.t ≡ true
  has_a e s = sym (has-permutation a (a ∷ e.x ∷ e.y ∷ []) s.t s.at.order) ∙ ap (λ b. b || has place_cmp a (e.x ∷ e.y ∷ [])) (tied a)

  apart_three : (e : Edge) (s : Source e) → (eq a e.x ≡ false) × (eq a e.y ≡ false) × (eq e.x e.y ≡ false)
  apart_three e s = distinct_three a e.x e.y (distinct-permutation (a ∷ e.x ∷ e.y ∷ []) s.t s.at.order ∙ s.corners)

  plane : (e : Edge) → IsIn e link → coplanar a e.x e.y v ≡ true
  plane e i =
      let s = source e i in
      let test = subst (λ c. (not (is_triangle_at a c) || lies_in_plane v (corners_of c)) ≡ true) s.cell (tested (λ m. not (is_triangle_at a m.cell) || lies_in_plane v (corners_of m.cell)) allow.planes e s) in
      sym (s.at.plane v) ∙ after_not (has place_cmp a s.t) (lies_in_plane v s.t) test (has_a e s)

  is_bent : (e : Edge) → IsIn e link → collinear a e.x e.y ≡ false
  is_bent e i =
      let s = source e i in
      not_is (collinear a e.x e.y) (sym s.at.bent ∙ subst (λ c. is_bent_cell c ≡ true) s.cell (tested (λ m. is_bent_cell m.cell) allow.bent e s))

  turn : (e : Edge) → IsIn e link → e.x ≢ v → e.y ≢ v → same_turn (a ∷ e.x ∷ e.y ∷ []) (v ∷ e.x ∷ e.y ∷ []) ≡ true
  turn e i x_v y_v =
      let s = source e i in
      let keeps = λ (rim : Coordinates × Coordinates). has place_cmp v (rim.0 ∷ rim.1 ∷ []) || same_turn (a ∷ rim.0 ∷ rim.1 ∷ []) (v ∷ rim.0 ∷ rim.1 ∷ []) in
      let Test : Option (Coordinates × Coordinates) → Type 0 = λ o. list_all keeps (option_to_list o) ≡ true in
      let test = subst Test s.at.across (subst (λ c. Test (across a c)) s.cell (tested (λ m. list_all keeps (option_to_list (across a m.cell))) allow.turns e s)) in
      rest (eq v e.x) (eq v e.y) (same_turn (a ∷ e.x ∷ e.y ∷ []) (v ∷ e.x ∷ e.y ∷ [])) (apart v e.x (λ f. x_v (sym f))) (apart v e.y (λ f. y_v (sym f))) test
    where
      rest : (b c d : Bool) → b ≡ false → c ≡ false → (((b || (c || false)) || d) && true) ≡ true → d ≡ true
      rest true c d e f h = absurd (false≢true (sym e))
      rest false true d e f h = absurd (false≢true (sym f))
      rest false false true e f h = refl
      rest false false false e f h = absurd (false≢true h)

  -- an edge at a, from either triangle's side
  inner : (e : Edge) (s : Source e) (z w : Coordinates) → eq a z ≡ false → coplanar a e.x e.y z ≡ true → ((b : Coordinates) → coplanar a z w b ≡ coplanar a e.x e.y b) → IsIn w (thirds z (in_plane a e link)) → edge_is_kept marks a v s.m z w ≡ true
      → IsInnerOrOnLine a v (in_plane a e link) z
  inner e s z w a_z passes planes here kept =
      let K = coplanar a e.x e.y in
      let other : a ≢ z = λ f. false≢true (sym a_z ∙ subst (λ t. eq a t ≡ true) f (tied a)) in
      let is : thirds z (in_plane a e link) ≡ wings marks a z w s.m =
      wings_are a z other phys elem s.m s.tags K passes marks are ∙ sym (filter-alike (coplanar a z w) K planes (flat_map (thirds_of a z other phys elem s.m s.tags K passes) marks)) in
      let once = subst (λ ws. are_distinct place_cmp ws ≡ true) (sym (wings_are a z other phys elem s.m s.tags K passes marks are)) (wings_distinct a z other phys elem s.m s.tags K passes marks are allow.distinct) in
      ⊎_elim inl (λ both. inr (opposite a z w (thirds z (in_plane a e link)) once here (subst (λ ws. are_on_both_sides a z w ws ≡ true) (sym is) both))) (or_cases (collinear a z v) (are_on_both_sides a z w (wings marks a z w s.m)) kept)

  abbrev T : Coordinates → Edge → List Coordinates
  T z e = cond (eq z e.x) (e.y ∷ []) (cond (eq z e.y) (e.x ∷ []) [])

  edges_inner : (e : Edge) → IsIn e link → IsInnerOrOnLine a v (in_plane a e link) e.x × IsInnerOrOnLine a v (in_plane a e link) e.y
  edges_inner e i =
      let s = source e i in
      let (a_x, a_y, x_y) = apart_three e s in
      let Test : Option (Coordinates × Coordinates) → Type 0 = λ o. list_all (λ rim. edge_is_kept marks a v s.m rim.0 rim.1 && edge_is_kept marks a v s.m rim.1 rim.0) (option_to_list o) ≡ true in
      let test = subst Test s.at.across (subst (λ c. Test (across a c)) s.cell (tested (λ m. list_all (λ rim. edge_is_kept marks a v m rim.0 rim.1 && edge_is_kept marks a v m rim.1 rim.0) (option_to_list (across a m.cell))) allow.surfaces e s)) in
      let kept = and_parts (edge_is_kept marks a v s.m e.x e.y) (edge_is_kept marks a v s.m e.y e.x) (and_parts (edge_is_kept marks a v s.m e.x e.y && edge_is_kept marks a v s.m e.y e.x) true test).0 in
      let at_x = ap (λ t. int_eq t (pos 0)) (vol6_same_bd a e.x e.y) in
      let at_y = ap (λ t. int_eq t (pos 0)) (vol6_same_cd a e.x e.y) in
      let itself = in_filter (λ f. coplanar a e.x e.y f.x && coplanar a e.x e.y f.y) e link i (ap₂ (λ s t. s && t) at_x at_y) in (
        inner e s e.x e.y a_x at_x (λ b. refl) (in_flat_map (T e.x) e e.y (in_plane a e link) itself (first e.x e.y)) kept.0,
        inner e s e.y e.x a_y at_y (λ b. exchanged_sign (vol6 a e.y e.x b) (vol6 a e.x e.y b) (vol6_exchange_bc a e.x e.y b))
            (in_flat_map (T e.y) e e.x (in_plane a e link) itself (second e.x e.y (eq_turned e.y e.x ∙ x_y))) kept.1,
      )
    where
      first : (x y : Coordinates) → IsIn y (cond (eq x x) (y ∷ []) (cond (eq x y) (x ∷ []) []))
      first x y = rw (tied x) (inl refl)

      second : (x y : Coordinates) → eq y x ≡ false → IsIn x (cond (eq y x) (y ∷ []) (cond (eq y y) (x ∷ []) []))
      second x y e = rw (e, tied y) (inl refl)

  triangles : CanMoveInPlanes a v link
  triangles = record {
    planes = all_in (λ e. coplanar a e.x e.y v ≡ true) link plane;
    bent = all_in (λ e. collinear a e.x e.y ≡ false) link is_bent;
    edges = all_in (λ e. IsInnerOrOnLine a v (in_plane a e link) e.x × IsInnerOrOnLine a v (in_plane a e link) e.y) link edges_inner;
    turns = all_in (λ e. e.x ≢ v → e.y ≢ v → same_turn (a ∷ e.x ∷ e.y ∷ []) (v ∷ e.x ∷ e.y ∷ []) ≡ true) link turn;
  }

pub cells_allow : (a v : Coordinates) (marks : List CellMark) → AllByRecursion (λ m. is_cell m.cell ≡ true) marks → MarksAllow a v marks → CellsAllow a v marks
cells_allow a v marks are allow = record {
  points = points a v marks allow;
  segments = segments a v marks allow;
  triangles = triangles a v marks are allow;
}
