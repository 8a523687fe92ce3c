-- A point that is moved off the closed faces of tetrahedra stays within each or without, and so the cover stays at most.
use Rattle.std.proofs.Common.{◌≡◌, ◌≢◌, ◌⊎◌, inl, inr, ⊎_elim, ℕ, ◌≤◌, Bool, true, false, ◌&&◌, List, [], ◌++◌, sym, ap, ◌∙◌, arith}
use Rattle.std.specs.Prelude.{ℤ, pos, ◌+ℤ◌, ◌*ℤ◌, ◌<ℤ◌}
use Rattle.std.specs.List.{AllByRecursion, count_by, flat_map}
use Rattle.std.specs.Ordering.{int_eq}
use Rattle.std.proofs.lemmas.Bool.{and_parts, and_right, false_from_ne_true}
use Rattle.std.proofs.lemmas.Int.{ints}
use Rattle.ma_geom.specs.Coordinates.{Coordinates}
use Rattle.ma_geom.specs.Lines.{collinear, is_zero, normal}
use Rattle.ma_geom.specs.Rational.{IsPoint, Rational}
use Rattle.ma_geom.specs.Volume.{dot, minus, vol6}
use Rattle.ma_cells.specs.Faces.{faces_of}
use Rattle.ma_cells.specs.Tetrahedron.{Tetrahedron, is_flat}
use Rattle.ma_cells.proofs.Choices.{all-append}
use Rattle.ma_cells.proofs.Passing.{all_weaker}
use Rattle.ma_cover.specs.Inside.{is_inside}
use Rattle.ma_cover.specs.OnFaces.{IsOffFacesOf}
use Rattle.ma_cover.proofs.OffFaces.{inside_is_off_faces, on_side}
use Rattle.mesh_laws.specs.Covers.{CoverStaysAtMost, SameCoverIsHandedOn}
use Rattle.mesh_laws.specs.Points.{IsMovedOffFaces, IsMovedOffPlane, PointsMoveOffFaces}
use Rattle.mesh_laws.proofs.Lists.{all_items, all_parts, all_split, all_two, count-alike, count-more, count-none}
use Rattle.mesh_laws.proofs.Moved.{points_move_off_planes}
use Rattle.mesh_laws.proofs.Weights.{by_four, inside_is_point, inside_kept, some_a, some_b, some_c}

-- ---- the corners of a face of what isn't flat aren't on one line
pub bent : (a b c d : Coordinates) → vol6 a b c d ≢ pos 0 → collinear a b c ≡ false
unfolding vol6 normal
bent a b c d solid = false_from_ne_true (collinear a b c) (λ h. solid (flat (normal a b c) (minus d a) h))
  where
    none : (x : ℤ) → int_eq x (pos 0) ≡ true → x ≡ pos 0
    none x h = grind (arith, ints)

    sum : (x y z s t u : ℤ) → x ≡ pos 0 → y ≡ pos 0 → z ≡ pos 0 → ((x *ℤ s) +ℤ (y *ℤ t)) +ℤ (z *ℤ u) ≡ pos 0
    sum x y z s t u e f g = rw (e, f, g) (by s t u)
      where
        by : (s t u : ℤ) → ((pos 0 *ℤ s) +ℤ (pos 0 *ℤ t)) +ℤ (pos 0 *ℤ u) ≡ pos 0
        by s t u = omega (arith, ints)

    flat : (n v : Coordinates) → is_zero n ≡ true → dot n v ≡ pos 0
    flat n v h =
        let two = and_parts (int_eq n.x (pos 0) && int_eq n.y (pos 0)) (int_eq n.z (pos 0)) h in
        let one = and_parts (int_eq n.x (pos 0)) (int_eq n.y (pos 0)) two.0 in
        sum n.x n.y n.z v.x v.y v.z (none n.x one.0) (none n.y one.1) (none n.z two.1)

-- ---- one tetrahedron
module _ (p q : Rational) where
  pub moved_off : (corners : List Coordinates) → is_flat corners ≡ false → AllByRecursion (IsMovedOffPlane p q) (faces_of corners) → IsMovedOffFaces p q corners
  moved_off = by_four (λ corners. AllByRecursion (IsMovedOffPlane p q) (faces_of corners) → IsMovedOffFaces p q corners) (λ a b c d solid near. record {
    off = (
      (λ on. near.0.off (bent a b c d solid) (on_side a b c q on)),
      (
        (λ on. near.1.0.off (bent a b d c (some_c a b c d solid)) (on_side a b d q on)),
        ((λ on. near.1.1.0.off (bent a c d b (some_b a b c d solid)) (on_side a c d q on)), ((λ on. near.1.1.1.0.off (bent b c d a (some_a a b c d solid)) (on_side b c d q on)), tt)),
      ),
    );
    inside = λ off. inside_kept a b c d p q solid off near.1.1.1.0.kept near.1.1.0.kept near.1.0.kept near.0.kept;
  })

pub point_or_not : (p : Rational) → IsPoint p ⊎ (IsPoint p → ⊥)
point_or_not p = by (either p.w)
  where
    either : (w : ℤ) → (pos 0 <ℤ w) ⊎ (pos 0 <ℤ w → ⊥)
    either w = grind (arith, ints)

    by : (pos 0 <ℤ p.w) ⊎ (pos 0 <ℤ p.w → ⊥) → IsPoint p ⊎ (IsPoint p → ⊥)
    by (inl h) = inl (record { positive = h })
    by (inr h) = inr (λ is. h is.positive)

-- ---- a list of what has corners
module _ {X : Type 0} (corners : X → List Coordinates) where
  abbrev pub NoneIsFlatBy : List X → Type 0
  NoneIsFlatBy xs = AllByRecursion (λ x. is_flat (corners x) ≡ false) xs

  abbrev pub AreOff : Rational → List X → Type 0
  AreOff p xs = AllByRecursion (λ x. IsOffFacesOf p (corners x)) xs

  abbrev pub AreMovedOff : Rational → Rational → List X → Type 0
  AreMovedOff p q xs = AllByRecursion (λ x. IsMovedOffFaces p q (corners x)) xs

  pub move_off : (p : Rational) → IsPoint p → (xs : List X) (triangles : List (List Coordinates)) → NoneIsFlatBy xs → (q : Rational) × IsPoint q × AreMovedOff p q xs × AllByRecursion (IsMovedOffPlane p q) triangles
  move_off p is_point xs triangles solid =
      let faces = flat_map (λ x. faces_of (corners x)) xs in
      let near = points_move_off_planes p is_point (faces ++ triangles) in
      let parts = all_split (IsMovedOffPlane p near.0) faces triangles near.2 in (
        near.0,
        near.1,
        all_two (λ x. is_flat (corners x) ≡ false) (λ x. AllByRecursion (IsMovedOffPlane p near.0) (faces_of (corners x))) (λ x. IsMovedOffFaces p near.0 (corners x)) (λ x. moved_off p near.0 (corners x)) xs solid
            (all_parts (IsMovedOffPlane p near.0) (λ x. faces_of (corners x)) xs parts.0),
        parts.1,
      )

  -- it is off the faces
  pub off_after : (p q : Rational) (xs : List X) → AreMovedOff p q xs → AreOff q xs
  off_after p q = all_weaker (λ x. IsMovedOffFaces p q (corners x)) (λ x. IsOffFacesOf q (corners x)) (λ x moved. moved.off)

  -- and within what it was within
  still_inside : (p q : Rational) (x : X) → IsMovedOffFaces p q (corners x) → is_inside p (corners x) ≡ true → is_inside q (corners x) ≡ true
  still_inside p q x moved h = moved.inside (inside_is_off_faces p (corners x) h) ∙ h

  -- ---- how many that pass a test have a point within them
  module _ (g : X → Bool) where
    abbrev pub covered : Rational → List X → ℕ
    covered p xs = count_by (λ x. g x && is_inside p (corners x)) xs

    pub covered_more : (p q : Rational) (xs : List X) → AreMovedOff p q xs → covered p xs ≤ covered q xs
    covered_more p q xs moved =
        count-more (λ x. g x && is_inside p (corners x)) (λ x. g x && is_inside q (corners x)) xs
        (all_weaker (λ x. IsMovedOffFaces p q (corners x)) (λ x. (g x && is_inside p (corners x)) ≡ true → (g x && is_inside q (corners x)) ≡ true)
        (λ x m h. let parts = and_parts (g x) (is_inside p (corners x)) h in rw (parts.0) (still_inside p q x m parts.1)) xs moved)

    pub covered_alike : (p q : Rational) (xs : List X) → AreOff p xs → AreMovedOff p q xs → covered q xs ≡ covered p xs
    covered_alike p q xs off moved =
        count-alike (λ x. g x && is_inside q (corners x)) (λ x. g x && is_inside p (corners x)) xs
        (all_two (λ x. IsOffFacesOf p (corners x)) (λ x. IsMovedOffFaces p q (corners x)) (λ x. (g x && is_inside q (corners x)) ≡ (g x && is_inside p (corners x)))
        (λ x off m. ap (λ b. g x && b) (m.inside off)) xs off moved)

    pub covered_nowhere : (p : Rational) → (IsPoint p → ⊥) → (xs : List X) → covered p xs ≡ 0
    covered_nowhere p no_point xs =
        count-none (λ x. g x && is_inside p (corners x)) xs
        (all_items (λ x. (g x && is_inside p (corners x)) ≡ false) (λ x. and_right (g x) (is_inside p (corners x)) (false_from_ne_true (is_inside p (corners x)) (λ h. no_point (inside_is_point p (corners x) h)))) xs)

    -- where at most n have each point within them that is off closed faces, at most n have any
    pub covered_at_most : (n : ℕ) (xs ys : List X) → NoneIsFlatBy xs → NoneIsFlatBy ys → ((q : Rational) → AreOff q xs → AreOff q ys → covered q xs ≤ n) → (p : Rational) → covered p xs ≤ n
    covered_at_most n xs ys solid solid_ys most p =
        ⊎_elim (λ is_point.
        let near = move_off p is_point (xs ++ ys) [] (all-append (λ x. is_flat (corners x) ≡ false) xs ys solid solid_ys) in
        let moved = all_split (λ x. IsMovedOffFaces p near.0 (corners x)) xs ys near.2 in
        by _ _ (covered_more p near.0 xs moved.0) (most near.0 (off_after p near.0 xs moved.0) (off_after p near.0 ys moved.1)))
        (λ no_point. none _ (covered_nowhere p no_point xs)) (point_or_not p)
      where
        by : (k l : ℕ) → k ≤ l → l ≤ n → k ≤ n
        by k l e f = omega arith

        none : (k : ℕ) → k ≡ 0 → k ≤ n
        none k e = omega arith

    -- what is the same from the first list to the second and from there to the third, is the same from the first to the third
    pub covered_on : (xs ys zs : List X) → NoneIsFlatBy xs → NoneIsFlatBy ys → NoneIsFlatBy zs
        → ((q : Rational) → AreOff q xs → AreOff q ys → covered q ys ≡ covered q xs) → ((q : Rational) → AreOff q ys → AreOff q zs → covered q zs ≡ covered q ys)
        → (p : Rational) → AreOff p xs → AreOff p zs → covered p zs ≡ covered p xs
    covered_on xs ys zs solid_xs solid_ys solid_zs first second p off_xs off_zs =
        ⊎_elim (λ is_point.
        let Solid : X → Type 0 = λ x. is_flat (corners x) ≡ false in
        let near = move_off p is_point (xs ++ (ys ++ zs)) [] (all-append Solid xs (ys ++ zs) solid_xs (all-append Solid ys zs solid_ys solid_zs)) in
        let q = near.0 in
        let Moved : X → Type 0 = λ x. IsMovedOffFaces p q (corners x) in
        let parts = all_split Moved xs (ys ++ zs) near.2 in
        let rest = all_split Moved ys zs parts.1 in
        sym (covered_alike p q zs off_zs rest.1)
        ∙ second q (off_after p q ys rest.0) (off_after p q zs rest.1)
        ∙ first q (off_after p q xs parts.0) (off_after p q ys rest.0)
        ∙ covered_alike p q xs off_xs parts.0)
        (λ no_point. covered_nowhere p no_point zs ∙ sym (covered_nowhere p no_point xs)) (point_or_not p)

-- ---- tetrahedra
abbrev pub corners_of : Tetrahedron → List Coordinates
corners_of tet = tet.corners

pub points_move_off_faces : PointsMoveOffFaces
points_move_off_faces = move_off corners_of

pub cover_stays_at_most : CoverStaysAtMost
cover_stays_at_most n regions tets others = covered_at_most corners_of (λ tet. regions tet.phys tet.elem) n tets others

pub same_cover_is_handed_on : SameCoverIsHandedOn
same_cover_is_handed_on tets between others solid solid_between solid_others first second phys elem =
    covered_on corners_of (λ tet. int_eq tet.phys phys && int_eq tet.elem elem) tets between others solid solid_between solid_others (first phys elem) (second phys elem)
