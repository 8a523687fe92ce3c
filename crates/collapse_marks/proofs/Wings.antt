-- The third corners of marked triangles at an edge, by the link of the vertex.
use Rattle.std.proofs.Common.{◌≡◌, ◌≢◌, inl, inr, ⊎_elim, Bool, true, false, cond, ◌&&◌, List, [], ◌∷◌, ◌++◌, filter, length, Option, Some, None, refl, sym, ap, ap₂, subst, ◌∙◌, arith}
use Rattle.std.specs.Prelude.{ℤ, map, ◌==◌}
use Rattle.std.specs.List.{AllByRecursion, flat_map}
use Rattle.std.specs.Option.{option_to_list}
use Rattle.std.specs.List.Sorted.{IsPermutation}
use Rattle.std.specs.Ordering.{eq_by_cmp, int_eq}
use Rattle.std.proofs.lemmas.Bool.{and_parts, false≢true, false_from_ne_true, or_right}
use Rattle.std.proofs.lemmas.Int.{ints}
use Rattle.std.proofs.lemmas.List.Concat.{flat_map-append}
use Rattle.std.proofs.lemmas.List.Elements.{filter-append}
use Rattle.std.proofs.lemmas.List.Sorted.{IsPermutation-swap, IsPermutation-sym, IsPermutation-trans}
use Rattle.ma_geom.specs.Coordinates.{Coordinates, place_cmp}
use Rattle.ma_cells.specs.Ascending.{are_ascending, are_distinct, has}
use Rattle.ma_cells.specs.Cells.{CellMark, corners_of, is_cell, mark_cmp}
use Rattle.ma_cells.specs.declared.cell.Cell.{Cell}
use Rattle.ma_cells.specs.declared.cell.Cell.TheVariants.{Point, Seg, Tri}
use Rattle.ma_cells.proofs.Ascents.{has-head}
use Rattle.ma_cells.proofs.CellOrders.{mark_cmp_total}
use Rattle.ma_cells.proofs.Corners.{ascending_is, sorted_corners}
use Rattle.ma_cells.proofs.Permutations.{same}
use Rattle.ma_cover.specs.Classification.{dimension, marked_cells}
use Rattle.ma_cover.proofs.Anys.{any_pass, any_weaker}
use Rattle.cavity_collapse.specs.Curves.{same_tag}
use Rattle.cavity_collapse.specs.Surfaces.{corner_beyond, corners_across, tagged_third, third}
use Rattle.plane_laws.specs.Planes.{Edge, thirds}
use Rattle.plane_laws.proofs.Items.{IsIn, each, from_filter, from_flat_map}
use Rattle.moved_cells.specs.Triangles.{edge_of, link_of}
use Rattle.collapse_marks.proofs.Classified.{one}
use Rattle.collapse_marks.proofs.Corners.{at_or_away, beyond}
use Rattle.moved_cells.proofs.Moved.{ascending-distinct, not_and}

abbrev eq : Coordinates → Coordinates → Bool
eq = eq_by_cmp place_cmp

abbrev pub edges : Coordinates → List Coordinates → List Edge
edges a t = map edge_of (option_to_list (corners_across a t))

-- ---- tags
pub record HasTag (u w : ℤ) (m : CellMark) : Type 0 where
  pub phys : m.phys ≡ u
  pub elem : m.elem ≡ w

pub tag_is : (phys elem : ℤ) (m : CellMark) → (int_eq m.phys phys && int_eq m.elem elem) ≡ true → HasTag phys elem m
tag_is phys elem m h = let both = and_parts (int_eq m.phys phys) (int_eq m.elem elem) h in record { phys = is m.phys phys both.0; elem = is m.elem elem both.1 }
  where
    is : (s t : ℤ) → int_eq s t ≡ true → s ≡ t
    is s t h = grind (arith, ints)

pub tags_alike : (phys elem : ℤ) (m n : CellMark) → HasTag phys elem m → same_tag m n ≡ (int_eq n.phys phys && int_eq n.elem elem)
tags_alike phys elem m n tag = ap₂ (λ s t. s && t) (turned m.phys n.phys ∙ ap (int_eq n.phys) tag.phys) (turned m.elem n.elem ∙ ap (int_eq n.elem) tag.elem)
  where
    turned : (s t : ℤ) → int_eq s t ≡ int_eq t s
    turned s t = grind (arith, ints)

pub distinct_corners : (t : List Coordinates) → is_cell (Tri t) ≡ true → are_distinct place_cmp t ≡ true
distinct_corners t h = ascending-distinct t (and_parts (length t == 3) (are_ascending place_cmp t) h).1

last_none : {X : Type 0} (xs : List X) → xs ++ [] ≡ xs
last_none [] = refl
last_none (x ∷ xs) = ap (λ ys. x ∷ ys) (last_none xs)

module _ (a z : Coordinates) (differ : a ≢ z) (phys elem : ℤ) (m : CellMark) (tag : HasTag phys elem m) (K : Coordinates → Bool) (passes : K z ≡ true) where
  abbrev both_pass : Edge → Bool
  both_pass f = K f.x && K f.y

  abbrev pub thirds_of : CellMark → List Coordinates
  thirds_of n = option_to_list (tagged_third a z m n)

  -- of one edge
  of_edge : (e : Edge) → thirds z (filter both_pass (e ∷ [])) ≡ filter K (option_to_list (beyond z e))
  of_edge e = by (eq z e.x) (eq z e.y) (K e.x) (K e.y) refl refl refl refl
    where
      by : (s t k l : Bool) → eq z e.x ≡ s → eq z e.y ≡ t → K e.x ≡ k → K e.y ≡ l → thirds z (filter both_pass (e ∷ [])) ≡ filter K (option_to_list (beyond z e))
      by true t true true f g h i = rw (f, h, i) (rw f refl)
      by true t true false f g h i = rw (f, h, i) refl
      by true t false l f g h i = absurd (false≢true (sym h ∙ ap K (sym (same z e.x f)) ∙ passes))
      by false true true true f g h i = rw (f, g, h, i) (rw (f, g) refl)
      by false true false true f g h i = rw (f, g, h) refl
      by false true k false f g h i = absurd (false≢true (sym i ∙ ap K (sym (same z e.y g)) ∙ passes))
      by false false true true f g h i = rw (f, g, h, i) (rw (f, g) refl)
      by false false true false f g h i = rw (f, g, h, i) refl
      by false false false l f g h i = rw (f, g, h) refl

  of_triangle : (t : List Coordinates) → is_cell (Tri t) ≡ true → thirds z (filter both_pass (edges a t ++ [])) ≡ filter K (option_to_list (corner_beyond a z t))
  of_triangle t h =
      ⊎_elim (λ at.
      ap (λ o. thirds z (filter both_pass (map edge_of (option_to_list o) ++ []))) at.1.across ∙ of_edge at.0 ∙ ap (λ o. filter K (option_to_list o)) (sym (at.1.thirds z differ)))
      (λ away. ap (λ o. thirds z (filter both_pass (map edge_of (option_to_list o) ++ []))) away.across ∙ ap (λ o. filter K (option_to_list o)) (sym (away.thirds z)))
      (at_or_away a t (distinct_corners t h))

  of_mark : (n : CellMark) → is_cell n.cell ≡ true → thirds z (filter both_pass (link_of a (one 2 phys elem n))) ≡ filter K (thirds_of n)
  of_mark n h = by n.cell (int_eq n.phys phys && int_eq n.elem elem) h ∙ ap (λ b. filter K (option_to_list (cond b (third a z n.cell) None))) (sym (tags_alike phys elem m n tag))
    where
      by : (c : Cell) (b : Bool) → is_cell c ≡ true → thirds z (filter both_pass (link_of a (cond ((dimension c == 2) && b) (corners_of c ∷ []) []))) ≡ filter K (option_to_list (cond b (third a z c) None))
      by (Point p) true h = refl
      by (Point p) false h = refl
      by (Seg s) true h = refl
      by (Seg s) false h = refl
      by (Tri t) true h = of_triangle t h
      by (Tri t) false h = refl

  pub wings_are : (ns : List CellMark) → AllByRecursion (λ n. is_cell n.cell ≡ true) ns → thirds z (filter both_pass (link_of a (marked_cells 2 phys elem ns))) ≡ filter K (flat_map thirds_of ns)
  wings_are [] h = refl
  wings_are (n ∷ ns) h =
      ap (λ l. thirds z (filter both_pass l)) (flat_map-append (edges a) (one 2 phys elem n) (marked_cells 2 phys elem ns))
      ∙ ap (thirds z) (filter-append both_pass (link_of a (one 2 phys elem n)) (link_of a (marked_cells 2 phys elem ns)))
      ∙ flat_map-append (λ e. cond (eq z e.x) (e.y ∷ []) (cond (eq z e.y) (e.x ∷ []) [])) (filter both_pass (link_of a (one 2 phys elem n))) (filter both_pass (link_of a (marked_cells 2 phys elem ns)))
      ∙ ap₂ (λ xs ys. xs ++ ys) (of_mark n h.0) (wings_are ns h.1)
      ∙ sym (filter-append K (thirds_of n) (flat_map thirds_of ns))

  -- ---- each third corner is that of one mark
  record Has (w : Coordinates) (n : CellMark) : Type 0 where
    pub t : List Coordinates
    pub cell : n.cell ≡ Tri t
    pub tags : HasTag phys elem n
    pub order : IsPermutation (a ∷ z ∷ w ∷ []) t

  beyond_order : (w : Coordinates) (t : List Coordinates) → is_cell (Tri t) ≡ true → IsIn w (option_to_list (corner_beyond a z t)) → IsPermutation (a ∷ z ∷ w ∷ []) t
  beyond_order w t h i =
      ⊎_elim (λ at. by at.0 (eq z at.0.x) (eq z at.0.y) refl refl at.1.order (subst (λ o. IsIn w (option_to_list o)) (at.1.thirds z differ) i))
      (λ away. absurd (subst (λ o. IsIn w (option_to_list o)) (away.thirds z) i)) (at_or_away a t (distinct_corners t h))
    where
      turned : (x y : Coordinates) → IsPermutation (a ∷ y ∷ x ∷ []) (a ∷ x ∷ y ∷ [])
      turned x y = IsPermutation-swap (a ∷ y ∷ x ∷ []) (a ∷ x ∷ y ∷ []) 1 2 (omega arith) (omega arith) refl

      by : (e : Edge) (s k : Bool) → eq z e.x ≡ s → eq z e.y ≡ k → IsPermutation (a ∷ e.x ∷ e.y ∷ []) t → IsIn w (option_to_list (cond s (Some e.y) (cond k (Some e.x) None))) → IsPermutation (a ∷ z ∷ w ∷ []) t
      by e true k f g order (inl is) = subst (λ u. IsPermutation (a ∷ z ∷ u ∷ []) t) (sym is) (subst (λ u. IsPermutation (a ∷ u ∷ e.y ∷ []) t) (sym (same z e.x f)) order)
      by e true k f g order (inr j) = absurd j
      by e false true f g order (inl is) =
          subst (λ u. IsPermutation (a ∷ z ∷ u ∷ []) t) (sym is)
          (subst (λ u. IsPermutation (a ∷ u ∷ e.x ∷ []) t) (sym (same z e.y g)) (IsPermutation-trans (a ∷ e.y ∷ e.x ∷ []) (a ∷ e.x ∷ e.y ∷ []) t (turned e.x e.y) order))
      by e false true f g order (inr j) = absurd j
      by e false false f g order j = absurd j

  has_third : (w : Coordinates) (n : CellMark) → is_cell n.cell ≡ true → IsIn w (thirds_of n) → Has w n
  has_third w n h i =
      let is = subst (λ b. IsIn w (option_to_list (cond b (third a z n.cell) None))) (tags_alike phys elem m n tag) i in
      by n.cell (int_eq n.phys phys && int_eq n.elem elem) refl refl h is
    where
      by : (c : Cell) (b : Bool) → n.cell ≡ c → (int_eq n.phys phys && int_eq n.elem elem) ≡ b → is_cell c ≡ true → IsIn w (option_to_list (cond b (third a z c) None)) → Has w n
      by (Point p) true e f h i = absurd i
      by (Point p) false e f h i = absurd i
      by (Seg s) true e f h i = absurd i
      by (Seg s) false e f h i = absurd i
      by (Tri t) true e f h i = record { t = t; cell = e; tags = tag_is phys elem n f; order = beyond_order w t h i }
      by (Tri t) false e f h i = absurd i

  one_mark : (w : Coordinates) (n o : CellMark) → is_cell n.cell ≡ true → is_cell o.cell ≡ true → Has w n → Has w o → n ≡ o
  one_mark w n o h k at too =
      let t_rises = (and_parts (length at.t == 3) (are_ascending place_cmp at.t) (subst (λ c. is_cell c ≡ true) at.cell h)).1 in
      let u_rises = (and_parts (length too.t == 3) (are_ascending place_cmp too.t) (subst (λ c. is_cell c ≡ true) too.cell k)).1 in
      let cells : at.t ≡ too.t =
      sym (ascending_is at.t t_rises) ∙ sorted_corners at.t too.t (IsPermutation-trans at.t (a ∷ z ∷ w ∷ []) too.t (IsPermutation-sym (a ∷ z ∷ w ∷ []) at.t at.order) too.order) ∙ ascending_is too.t u_rises in
      mark (at.cell ∙ ap Tri cells ∙ sym too.cell) (at.tags.phys ∙ sym too.tags.phys) (at.tags.elem ∙ sym too.tags.elem)
    where
      mark : n.cell ≡ o.cell → n.phys ≡ o.phys → n.elem ≡ o.elem → n ≡ o
      mark e f g = λ i. record { cell = e i; phys = f i; elem = g i }

  -- so no third corner comes twice
  pub wings_distinct : (ns : List CellMark) → AllByRecursion (λ n. is_cell n.cell ≡ true) ns → are_distinct mark_cmp ns ≡ true → are_distinct place_cmp (filter K (flat_map thirds_of ns)) ≡ true
  wings_distinct [] h distinct = refl
  wings_distinct (n ∷ ns) h distinct =
      let first = not_and (has mark_cmp n ns) (are_distinct mark_cmp ns) distinct in
      subst (λ ws. are_distinct place_cmp ws ≡ true) (sym (filter-append K (thirds_of n) (flat_map thirds_of ns)))
      (by (tagged_third a z m n) (λ w i. has_third w n h.0 i) first.0 (wings_distinct ns h.1 first.1))
    where
      in_marks : (x : CellMark) (xs : List CellMark) → IsIn x xs → has mark_cmp x xs ≡ true
      in_marks x [] i = absurd i
      in_marks x (y ∷ xs) (inl e) = subst (λ u. has mark_cmp x (u ∷ xs) ≡ true) e (has-head mark_cmp_total x xs)
      in_marks x (y ∷ xs) (inr i) = or_right (eq_by_cmp mark_cmp x y) (has mark_cmp x xs) (in_marks x xs i)

      new : (w : Coordinates) → Has w n → has mark_cmp n ns ≡ false → has place_cmp w (filter K (flat_map thirds_of ns)) ≡ false
      new w at fresh = false_from_ne_true (has place_cmp w (filter K (flat_map thirds_of ns))) (λ there.
          let i : IsIn w (filter K (flat_map thirds_of ns)) = any_weaker (λ u. eq w u ≡ true) (λ u. w ≡ u) (λ u e. same w u e) (filter K (flat_map thirds_of ns)) (any_pass (eq w) (filter K (flat_map thirds_of ns)) there) in
          let from = from_flat_map thirds_of w ns (from_filter K w (flat_map thirds_of ns) i).0 in
          let cell = each (λ n. is_cell n.cell ≡ true) from.0 ns h.1 from.1 in
          let is = one_mark w n from.0 h.0 cell at (has_third w from.0 cell from.2) in
          false≢true (sym fresh ∙ in_marks n ns (subst (λ u. IsIn u ns) (sym is) from.1)))

      by : (o : Option Coordinates) → ((w : Coordinates) → IsIn w (option_to_list o) → Has w n) → has mark_cmp n ns ≡ false → are_distinct place_cmp (filter K (flat_map thirds_of ns)) ≡ true
          → are_distinct place_cmp (filter K (option_to_list o) ++ filter K (flat_map thirds_of ns)) ≡ true
      by None at fresh more = more
      by (Some w) at fresh more = pick (K w)
        where
          pick : (b : Bool) → are_distinct place_cmp (cond b (w ∷ []) [] ++ filter K (flat_map thirds_of ns)) ≡ true
          pick true = rw (new w (at w (inl refl)) fresh) more
          pick false = more
