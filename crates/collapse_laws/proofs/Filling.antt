-- The star of a vertex, region by region, is a cavity that the cones from the other end of an edge fill.
use Rattle.std.proofs.Common.{◌≡◌, ◌≢◌, ◌⊎◌, inl, inr, ℕ, ◌+◌, Bool, true, false, cond, not, ◌&&◌, ◌||◌, List, [], ◌∷◌, ◌++◌, filter, Some, None, refl, sym, ap, ap₂, subst, ◌∙◌, arith}
use Rattle.std.specs.Prelude.{ℤ, pos, map}
use Rattle.std.specs.Cmp.Lexicographic.{slice_cmp}
use Rattle.std.specs.List.{AllByRecursion, AllPairs, count_by, flat_map}
use Rattle.std.specs.Option.{option_to_list}
use Rattle.std.specs.Ordering.{eq_by_cmp, int_eq}
use Rattle.std.proofs.lemmas.Bool.{and_parts, false≢true, or_parts}
use Rattle.std.proofs.lemmas.Grind.{flat_map-append}
use Rattle.std.proofs.lemmas.List.{append-nil, map-append}
use Rattle.std.proofs.lemmas.List.Elements.{filter-append}
use Rattle.std.proofs.lemmas.List.Kept.{AllPairs-filter}
use Rattle.ma_geom.specs.Coordinates.{Coordinates, place_cmp}
use Rattle.ma_geom.specs.Lines.{is_flat}
use Rattle.ma_geom.proofs.PlaceOrder.{place_cmp-IsAntisymmetric}
use Rattle.ma_cells.specs.Ascending.{ascending_of, has}
use Rattle.ma_cells.specs.Cells.{CellMark}
use Rattle.ma_cells.specs.Faces.{faces_of, holds_all}
use Rattle.ma_cells.specs.Incidence.{is_marked}
use Rattle.ma_cells.specs.Meshes.{corner_sets}
use Rattle.ma_cells.specs.Stars.{besides, cone, star_of}
use Rattle.ma_cells.specs.Tetrahedron.{Tetrahedron}
use Rattle.ma_cells.proofs.Members.{has-filter}
use Rattle.ma_cells.proofs.Passing.{all-filter, all-flat_map, all-map, all_weaker}
use Rattle.ma_cells.proofs.Permutations.{apart, has-permutation}
use Rattle.ma_cover.specs.Sound.{IsConforming, LieOnBothSides, holders}
use Rattle.mesh_laws.specs.Points.{NoneIsFlat}
use Rattle.mesh_laws.proofs.BothSides.{BothSides, IsFaceOf, Pairs, is_face, pairs_from, pairs_to}
use Rattle.mesh_laws.proofs.Lists.{all_two, count-alike, count-cons}
use Rattle.mesh_laws.proofs.MovedOff.{corners_of}
use Rattle.cavity_laws.specs.Balance.{had_by}
use Rattle.cavity_laws.specs.Cavity.{AreOnOneSide, Facet, IsCavity, balance, cone_of, cones, facets_of}
use Rattle.cavity_laws.specs.Filled.{AreReordered}
use Rattle.cavity_laws.proofs.Balance.{faces_are_balanced}
use Rattle.cavity_laws.proofs.Swaps.{flat_over}
use Rattle.collapse_laws.proofs.Stars.{cone_reordered, only_across, opposite, split}

-- that a can go to v: v lies in the plane of each marked face at a, and each tetrahedron at a without v keeps its side of the face across from a
pub record CanCollapse (a v : Coordinates) (tets : List Tetrahedron) (marks : List CellMark) : Type 0 where
  pub differ : a ≢ v
  pub planes : (face : List Coordinates) → has place_cmp a face ≡ true → is_marked marks face ≡ true → is_flat (v ∷ face) ≡ true
  pub seen : AllByRecursion (λ tet. has place_cmp a tet.corners ≡ true → has place_cmp v tet.corners ≡ false → AreOnOneSide (besides (a ∷ []) tet.corners) a v) tets

-- ---- lists
pub count-filter : {X : Type 0} (p f : X → Bool) (xs : List X) → count_by f (filter p xs) ≡ count_by (λ x. p x && f x) xs
count-filter p f [] = refl
count-filter p f (x ∷ xs) =
    elim (p x) as (λ b. count_by f (cond b (x ∷ filter p xs) (filter p xs)) ≡ cond (b && f x) 1 0 + count_by (λ x. p x && f x) xs) [
      | true ↦ count-cons f x (filter p xs) ∙ ap (λ (n : ℕ). cond (f x) 1 0 + n) (count-filter p f xs)
      | false ↦ count-filter p f xs ∙ none (count_by (λ x. p x && f x) xs)
    ] ∙ sym (count-cons (λ x. p x && f x) x xs)
  where
    none : (n : ℕ) → n ≡ 0 + n
    none n = omega arith

pub count-map : {X Y : Type 0} (f : Y → Bool) (h : X → Y) (xs : List X) → count_by f (map h xs) ≡ count_by (λ x. f (h x)) xs
count-map f h [] = refl
count-map f h (x ∷ xs) = count-cons f (h x) (map h xs) ∙ ap (λ (n : ℕ). cond (f (h x)) 1 0 + n) (count-map f h xs) ∙ sym (count-cons (λ x. f (h x)) x xs)

pub filter_passes : {X : Type 0} (p : X → Bool) (xs : List X) → AllByRecursion (λ x. p x ≡ true) (filter p xs)
filter_passes p [] = tt
filter_passes p (x ∷ xs) =
    elim (p x) as (λ b. p x ≡ b → AllByRecursion (λ x. p x ≡ true) (cond b (x ∷ filter p xs) (filter p xs))) [ true ↦ λ e. (e, filter_passes p xs) | false ↦ λ _. filter_passes p xs ] refl

-- a corner of a face is one of the tetrahedron
pub face_corner : (p : Coordinates) (corners face : List Coordinates) → is_flat corners ≡ false → has (slice_cmp place_cmp) face (faces_of corners) ≡ true → has place_cmp p face ≡ true → has place_cmp p corners ≡ true
face_corner p corners face solid there held = by face (is_face corners solid face there) held
  where
    by : (face : List Coordinates) → IsFaceOf face corners → has place_cmp p face ≡ true → has place_cmp p corners ≡ true
    by (u ∷ w ∷ x ∷ []) (d, order) held = sym (has-permutation p (u ∷ w ∷ x ∷ d ∷ []) corners order) ∙ more (eq_by_cmp place_cmp p u) (eq_by_cmp place_cmp p w) (eq_by_cmp place_cmp p x) (eq_by_cmp place_cmp p d) held
      where
        more : (s t u r : Bool) → (s || (t || (u || false))) ≡ true → (s || (t || (u || (r || false)))) ≡ true
        more true t u r h = refl
        more false true u r h = refl
        more false false true r h = refl
        more false false false r h = absurd (false≢true h)
    by [] is held = absurd is
    by (u ∷ []) is held = absurd is
    by (u ∷ w ∷ []) is held = absurd is
    by (u ∷ w ∷ x ∷ y ∷ l) is held = absurd is

pairs_map : (tets : List Tetrahedron) → Pairs (BothSides corners_of) tets → Pairs LieOnBothSides (corner_sets tets)
pairs_map [] h = tt
pairs_map (tet ∷ tets) h = (all-map (BothSides corners_of tet) (LieOnBothSides tet.corners) corners_of (λ t k. k) tets h.0, pairs_map tets h.1)

pub and_true : (b : Bool) → (b && true) ≡ b
and_true true = refl
and_true false = refl

-- what fills the place of a tetrahedron at a
abbrev pub fill : (a v : Coordinates) → Tetrahedron → List Tetrahedron
fill a v tet = cone v tet.phys tet.elem (besides (a ∷ []) tet.corners)

-- whether a tetrahedron is of a region
abbrev pub is_of : (phys elem : ℤ) → Tetrahedron → Bool
is_of phys elem tet = int_eq tet.phys phys && int_eq tet.elem elem

-- what fills the place of those of a region is of the region
pub fills_of : (phys elem : ℤ) (a v : Coordinates) (tets : List Tetrahedron) → filter (is_of phys elem) (flat_map (fill a v) tets) ≡ flat_map (fill a v) (filter (is_of phys elem) tets)
fills_of phys elem a v [] = refl
fills_of phys elem a v (tet ∷ tets) =
    filter-append (is_of phys elem) (fill a v tet) (flat_map (fill a v) tets)
    ∙ ap₂ (λ xs ys. xs ++ ys) (one (is_flat (ascending_of place_cmp (v ∷ besides (a ∷ []) tet.corners)))) (fills_of phys elem a v tets)
    ∙ by (is_of phys elem tet)
  where
    one : (b : Bool)
        → filter (is_of phys elem) (option_to_list (cond b None (Some (record { corners = ascending_of place_cmp (v ∷ besides (a ∷ []) tet.corners); phys = tet.phys; elem = tet.elem }))))
        ≡ cond (is_of phys elem tet) (option_to_list (cond b None (Some (record { corners = ascending_of place_cmp (v ∷ besides (a ∷ []) tet.corners); phys = tet.phys; elem = tet.elem })))) []
    one false = refl
    one true = none (is_of phys elem tet)
      where
        none : (b : Bool) → ◌≡◌ {A = List Tetrahedron} [] (cond b [] [])
        none true = refl
        none false = refl

    by : (b : Bool) → (cond b (fill a v tet) [] ++ flat_map (fill a v) (filter (is_of phys elem) tets)) ≡ flat_map (fill a v) (cond b (tet ∷ filter (is_of phys elem) tets) (filter (is_of phys elem) tets))
    by true = refl
    by false = refl

module _ (a v : Coordinates) (tets : List Tetrahedron) (marks : List CellMark) (solid : NoneIsFlat tets) (conforming : IsConforming tets marks) (can : CanCollapse a v tets marks) where
  -- a face at a that isn't marked
  abbrev pub inner : List Coordinates → Bool
  inner face = has place_cmp a face && not (is_marked marks face)

  -- that a tetrahedron is at a
  pub record IsAt (tet : Tetrahedron) : Type 0 where
    pub proper : is_flat tet.corners ≡ false
    pub corner : has place_cmp a tet.corners ≡ true
    pub seen : has place_cmp v tet.corners ≡ false → AreOnOneSide (besides (a ∷ []) tet.corners) a v

  pub star_at : AllByRecursion IsAt (star_of (a ∷ []) tets)
  star_at =
      all_two (λ tet. holds_all tet.corners (a ∷ []) ≡ true) (λ tet. (is_flat tet.corners ≡ false) × (has place_cmp a tet.corners ≡ true → has place_cmp v tet.corners ≡ false → AreOnOneSide (besides (a ∷ []) tet.corners) a v)) IsAt
      (λ tet at both. let h = sym (and_true (has place_cmp a tet.corners)) ∙ at in record { proper = both.0; corner = h; seen = both.1 h })
      (star_of (a ∷ []) tets) (filter_passes (λ tet. holds_all tet.corners (a ∷ [])) tets)
      (all-filter _ (λ tet. holds_all tet.corners (a ∷ [])) tets
      (all_two (λ tet. is_flat tet.corners ≡ false) (λ tet. has place_cmp a tet.corners ≡ true → has place_cmp v tet.corners ≡ false → AreOnOneSide (besides (a ∷ []) tet.corners) a v)
      (λ tet. (is_flat tet.corners ≡ false) × (has place_cmp a tet.corners ≡ true → has place_cmp v tet.corners ≡ false → AreOnOneSide (besides (a ∷ []) tet.corners) a v))
      (λ tet s t. (s, t)) tets solid can.seen))

  -- v is on the face across from a where it is a corner
  pub v_across : (corners : List Coordinates) → has place_cmp v corners ≡ true → has place_cmp v (besides (a ∷ []) corners) ≡ true
  v_across corners there =
      has-filter place_cmp-IsAntisymmetric (λ p. not (has place_cmp p (a ∷ []))) v corners ∙ ap₂ (λ s t. s && not (t || false)) there (apart v a (λ e. can.differ (sym e)))

  seen_at : (tet : Tetrahedron) → IsAt tet → AllByRecursion (λ x. (inner x.face || is_flat (v ∷ x.face)) ≡ false → AreOnOneSide x.face x.across v) (facets_of tet.corners)
  seen_at tet at =
      all_weaker (λ x. has place_cmp a x.face ≡ false → x ≡ opposite a tet.corners) (λ x. (inner x.face || is_flat (v ∷ x.face)) ≡ false → AreOnOneSide x.face x.across v)
      (λ x is h. by x is (has place_cmp a x.face) refl (is_marked marks x.face) refl h) (facets_of tet.corners) (split a tet.corners at.proper at.corner).each
    where
      across : (b : Bool) → has place_cmp v tet.corners ≡ b → is_flat (v ∷ besides (a ∷ []) tet.corners) ≡ false → AreOnOneSide (besides (a ∷ []) tet.corners) a v
      across true e solid = absurd (false≢true (sym solid ∙ flat_over v (besides (a ∷ []) tet.corners) (v_across tet.corners e)))
      across false e solid = at.seen e

      by : (x : Facet) → (has place_cmp a x.face ≡ false → x ≡ opposite a tet.corners) → (s : Bool) → has place_cmp a x.face ≡ s → (m : Bool) → is_marked marks x.face ≡ m
          → (inner x.face || is_flat (v ∷ x.face)) ≡ false → AreOnOneSide x.face x.across v
      by x is true e true f h = absurd (false≢true (sym (or_parts (inner x.face) (is_flat (v ∷ x.face)) h).1 ∙ can.planes x.face e f))
      by x is true e false f h = absurd (false≢true (sym (or_parts (inner x.face) (is_flat (v ∷ x.face)) h).0 ∙ ap₂ (λ s m. s && not m) e f))
      by x is false e m f h =
          let k = is e in
          subst (λ y. AreOnOneSide y.face y.across v) (sym k)
          (across (has place_cmp v tet.corners) refl (subst (λ y. is_flat (v ∷ y.face) ≡ false) k (or_parts (inner x.face) (is_flat (v ∷ x.face)) h).1))

  -- ---- one region
  module _ (phys elem : ℤ) where
    abbrev pub here : List Tetrahedron
    here = filter (is_of phys elem) (star_of (a ∷ []) tets)

    pub here_at : AllByRecursion IsAt here
    here_at = all-filter IsAt (is_of phys elem) (star_of (a ∷ []) tets) star_at

    pub here_solid : AllByRecursion (λ corners. is_flat corners ≡ false) (corner_sets here)
    here_solid = all-map IsAt (λ corners. is_flat corners ≡ false) (λ tet. tet.corners) (λ tet at. at.proper) here here_at

    -- those that have a face at a are at a
    had_here : (face : List Coordinates) → has place_cmp a face ≡ true → had_by face (corner_sets here) ≡ holders phys elem face tets
    had_here face held =
        count-map (λ corners. has (slice_cmp place_cmp) face (faces_of corners)) (λ (tet : Tetrahedron). tet.corners) here
        ∙ count-filter (is_of phys elem) (λ tet. has (slice_cmp place_cmp) face (faces_of tet.corners)) (star_of (a ∷ []) tets)
        ∙ count-filter (λ tet. holds_all tet.corners (a ∷ [])) (λ tet. is_of phys elem tet && has (slice_cmp place_cmp) face (faces_of tet.corners)) tets
        ∙ count-alike (λ tet. holds_all tet.corners (a ∷ []) && (is_of phys elem tet && has (slice_cmp place_cmp) face (faces_of tet.corners))) (λ tet. is_of phys elem tet && has (slice_cmp place_cmp) face (faces_of tet.corners)) tets
        (all_weaker (λ tet. is_flat tet.corners ≡ false) (λ tet. (holds_all tet.corners (a ∷ []) && (is_of phys elem tet && has (slice_cmp place_cmp) face (faces_of tet.corners))) ≡ (is_of phys elem tet && has (slice_cmp place_cmp) face (faces_of tet.corners)))
        (λ tet s. by (holds_all tet.corners (a ∷ [])) (is_of phys elem tet) (has (slice_cmp place_cmp) face (faces_of tet.corners))
        (λ there. and_true (has place_cmp a tet.corners) ∙ face_corner a tet.corners face s there held)) tets solid)
      where
        by : (s t u : Bool) → (u ≡ true → s ≡ true) → (s && (t && u)) ≡ (t && u)
        by true t u h = refl
        by false true true h = h refl
        by false true false h = refl
        by false false u h = refl

    here_sides : AllPairs LieOnBothSides (corner_sets here)
    here_sides =
        pairs_to LieOnBothSides (corner_sets here)
        (pairs_map here (pairs_from (BothSides corners_of) here
        (AllPairs-filter (BothSides corners_of) (is_of phys elem) (star_of (a ∷ []) tets) (AllPairs-filter (BothSides corners_of) (λ tet. holds_all tet.corners (a ∷ [])) tets conforming.sides))))

    pub here_balanced : (face : List Coordinates) → inner face ≡ true → balance face (flat_map facets_of (corner_sets here)) ≡ pos 0
    here_balanced face h =
        let parts = and_parts (has place_cmp a face) (not (is_marked marks face)) h in
        (faces_are_balanced (corner_sets here) here_solid here_sides face).1
        (λ one. by (holders phys elem face tets) (is_marked marks face) parts.1 (sym (had_here face parts.0) ∙ one) (conforming.faces phys elem face))
      where
        by : (n : ℕ) (m : Bool) → not m ≡ true → n ≡ 1 → (n ≡ 0) ⊎ ((n ≡ 2) ⊎ ((n ≡ 1) × (m ≡ true))) → ⊥
        by n m g e (inl f) = omega (arith, e, f)
        by n m g e (inr (inl f)) = omega (arith, e, f)
        by n m g e (inr (inr (f, k))) = false≢true (ap not (sym k) ∙ g)

    pub here_is_cavity : IsCavity v inner (corner_sets here)
    here_is_cavity = record {
      solid = here_solid;
      balanced = here_balanced;
      seen = all-flat_map (λ corners. AllByRecursion (λ x. (inner x.face || is_flat (v ∷ x.face)) ≡ false → AreOnOneSide x.face x.across v) (facets_of corners))
          (λ x. (inner x.face || is_flat (v ∷ x.face)) ≡ false → AreOnOneSide x.face x.across v) facets_of (λ corners h. h) (corner_sets here)
          (all-map IsAt (λ corners. AllByRecursion (λ x. (inner x.face || is_flat (v ∷ x.face)) ≡ false → AreOnOneSide x.face x.across v) (facets_of corners)) (λ tet. tet.corners) seen_at here here_at);
    }

  -- ---- the cones are what fills
  bare_cone : Facet → List (List Coordinates)
  bare_cone x = cond (is_flat (v ∷ x.face)) [] ((v ∷ x.face) ∷ [])

  cone_is : (x : Facet) → cone_of v inner x ≡ cond (has place_cmp a x.face) [] (bare_cone x)
  unfolding bare_cone
  cone_is x = by (has place_cmp a x.face) refl (is_marked marks x.face) refl
    where
      by : (s : Bool) → has place_cmp a x.face ≡ s → (m : Bool) → is_marked marks x.face ≡ m → cone_of v inner x ≡ cond s [] (bare_cone x)
      by true e true f = rw (e, f, can.planes x.face e f) refl
      by true e false f = rw (e, f) refl
      by false e m f = rw (e) refl

  reordered_append : (ss ts ss' ts' : List (List Coordinates)) → AreReordered ss ts → AreReordered ss' ts' → AreReordered (ss ++ ss') (ts ++ ts')
  reordered_append [] [] ss' ts' h k = k
  reordered_append [] (t ∷ ts) ss' ts' h k = absurd h
  reordered_append (s ∷ ss) [] ss' ts' h k = absurd h
  reordered_append (s ∷ ss) (t ∷ ts) ss' ts' h k = (h.0, reordered_append ss ts ss' ts' h.1 k)

  pub cones_reordered : (ts : List Tetrahedron) → AllByRecursion IsAt ts → AreReordered (cones v inner (corner_sets ts)) (corner_sets (flat_map (fill a v) ts))
  unfolding bare_cone
  cones_reordered [] at = tt
  cones_reordered (t ∷ ts) at =
      let is = split a t.corners at.0.proper at.0.corner in
      let first = ap (λ f. flat_map f (facets_of t.corners)) (λ i x. cone_is x i) ∙ only_across a t.corners is bare_cone ∙ append-nil (bare_cone (opposite a t.corners)) in
      subst (λ l. AreReordered l (corner_sets (flat_map (fill a v) (t ∷ ts))))
      (sym (flat_map-append (cone_of v inner) (facets_of t.corners) (flat_map facets_of (corner_sets ts)) ∙ ap (λ l. l ++ cones v inner (corner_sets ts)) first))
      (subst (λ l. AreReordered (bare_cone (opposite a t.corners) ++ cones v inner (corner_sets ts)) l) (sym (map-append (λ (tet : Tetrahedron). tet.corners) (fill a v t) (flat_map (fill a v) ts)))
      (reordered_append (bare_cone (opposite a t.corners)) (corner_sets (fill a v t)) (cones v inner (corner_sets ts)) (corner_sets (flat_map (fill a v) ts))
      (cone_reordered v t.phys t.elem (besides (a ∷ []) t.corners) is.three) (cones_reordered ts at.1)))
