-- What is off the closed faces of both halves of a tetrahedron is off its own.
use Rattle.std.proofs.Common.{◌≡◌, ◌≢◌, ◌⊎◌, ⊎_elim, true, false, cond, List, [], ◌∷◌, refl, ◌∙◌, arith}
use Rattle.std.specs.Prelude.{ℤ, pos, ◌+ℤ◌, ◌-ℤ◌, ◌*ℤ◌, ◌≤ℤ◌}
use Rattle.std.specs.List.{AllByRecursion}
use Rattle.std.specs.List.Sorted.{IsPermutation}
use Rattle.std.proofs.lemmas.Int.{ints}
use Rattle.std.proofs.lemmas.List.Sorted.{IsPermutation-sym, length_permutation}
use Rattle.ma_geom.specs.Coordinates.{Coordinates}
use Rattle.ma_geom.specs.Rational.{Rational, IsMiddle}
use Rattle.ma_geom.proofs.Identities.{IsMiddle-exchange}
use Rattle.ma_geom.proofs.Ring.{var, ◌⊕◌, ◌⊖◌, ◌⊗◌, entry, ring}
use Rattle.ma_cells.specs.Bisection.{bisect, replaced}
use Rattle.ma_cells.specs.Faces.{holds_all}
use Rattle.ma_cells.specs.Tetrahedron.{are_corners}
use Rattle.ma_cover.specs.OnFaces.{IsOffFacesOf, IsOffTriangle, IsOnTriangle}
use Rattle.ma_cells.proofs.FourPlaces.{OfFour, in_any_order}
use Rattle.ma_cover.proofs.Halves.{on_turned, on_exchanged}
use Rattle.ma_cells.proofs.Pieces.{has_edge, replaced_first, replaced_second}

-- ---- off the faces, in any order of the corners
off_exchanged : (a b c : Coordinates) (p : Rational) → IsOffTriangle a b c p → IsOffTriangle b a c p
off_exchanged a b c p off on = off (on_exchanged a b c p on)

off_turned : (a b c : Coordinates) (p : Rational) → IsOffTriangle a b c p → IsOffTriangle a c b p
off_turned a b c p off on = off (on_turned a b c p on)

module _ (p : Rational) where
  abbrev OffAll : Coordinates → Coordinates → Coordinates → Coordinates → Type 0
  OffAll a b c d = IsOffFacesOf p (a ∷ b ∷ c ∷ d ∷ [])

  off_ab : (a b c d : Coordinates) → OffAll a b c d → OffAll b a c d
  off_ab a b c d h = (off_exchanged a b c p h.0, (off_exchanged a b d p h.1.0, (h.1.1.1.0, (h.1.1.0, tt))))

  off_bc : (a b c d : Coordinates) → OffAll a b c d → OffAll a c b d
  off_bc a b c d h = (off_turned a b c p h.0, (h.1.1.0, (h.1.0, (off_exchanged b c d p h.1.1.1.0, tt))))

  off_cd : (a b c d : Coordinates) → OffAll a b c d → OffAll a b d c
  off_cd a b c d h = (h.1.0, (h.0, (off_turned a c d p h.1.1.0, (off_turned b c d p h.1.1.1.0, tt))))

  -- from corners in another order to four that are listed
  off_listed : (a b c d : Coordinates) (others : List Coordinates) → IsPermutation (a ∷ b ∷ c ∷ d ∷ []) others → IsOffFacesOf p others → OffAll a b c d
  off_listed a b c d (w ∷ x ∷ y ∷ z ∷ []) moved off =
      in_any_order OffAll off_ab off_bc off_cd w x y z (a ∷ b ∷ c ∷ d ∷ []) (IsPermutation-sym (a ∷ b ∷ c ∷ d ∷ []) (w ∷ x ∷ y ∷ z ∷ []) moved) off
  off_listed a b c d [] moved off = let long = length_permutation (a ∷ b ∷ c ∷ d ∷ []) [] moved in absurd (omega arith)
  off_listed a b c d (w ∷ []) moved off = let long = length_permutation (a ∷ b ∷ c ∷ d ∷ []) (w ∷ []) moved in absurd (omega arith)
  off_listed a b c d (w ∷ x ∷ []) moved off = let long = length_permutation (a ∷ b ∷ c ∷ d ∷ []) (w ∷ x ∷ []) moved in absurd (omega arith)
  off_listed a b c d (w ∷ x ∷ y ∷ []) moved off = let long = length_permutation (a ∷ b ∷ c ∷ d ∷ []) (w ∷ x ∷ y ∷ []) moved in absurd (omega arith)
  off_listed a b c d (w ∷ x ∷ y ∷ z ∷ t ∷ l) moved off = let long = length_permutation (a ∷ b ∷ c ∷ d ∷ []) (w ∷ x ∷ y ∷ z ∷ t ∷ l) moved in absurd (omega arith)

  off_four : (corners : List Coordinates) → OfFour OffAll corners → IsOffFacesOf p corners
  off_four [] h = absurd h
  off_four (a ∷ []) h = absurd h
  off_four (a ∷ b ∷ []) h = absurd h
  off_four (a ∷ b ∷ c ∷ []) h = absurd h
  off_four (a ∷ b ∷ c ∷ d ∷ []) h = h
  off_four (a ∷ b ∷ c ∷ d ∷ e ∷ l) h = absurd h

  -- from four corners that are listed to another order
  off_moved : (a b c d : Coordinates) (others : List Coordinates) → IsPermutation (a ∷ b ∷ c ∷ d ∷ []) others → OffAll a b c d → IsOffFacesOf p others
  off_moved a b c d others moved off = off_four others (in_any_order OffAll off_ab off_bc off_cd a b c d others moved off)

  -- the triangle of the corner that is listed first and the last two
  pub off_between : (a b c d : Coordinates) (others : List Coordinates) → IsPermutation (a ∷ b ∷ c ∷ d ∷ []) others → IsOffFacesOf p others → IsOffTriangle a c d p
  off_between a b c d others moved off = (off_listed a b c d others moved off).1.1.0

-- ---- a triangle, parted at the middle of an edge
parted : (v i j k a b c m : ℤ) → m +ℤ m ≡ a +ℤ b → v ≡ ((i *ℤ a) +ℤ (j *ℤ b)) +ℤ (k *ℤ c) → v ≡ (((i -ℤ j) *ℤ a) +ℤ ((j +ℤ j) *ℤ m)) +ℤ (k *ℤ c)
parted v i j k a b c m middle sum =
    let end : b ≡ (m +ℤ m) -ℤ a = omega (arith, ints) in
    let start : v ≡ ((i *ℤ a) +ℤ (j *ℤ ((m +ℤ m) -ℤ a))) +ℤ (k *ℤ c) = rw end at sum in
    start ∙ ring (entry (i ∷ j ∷ k ∷ a ∷ c ∷ m ∷ []))
    (((var 0 ⊗ var 3) ⊕ (var 1 ⊗ ((var 5 ⊕ var 5) ⊖ var 3))) ⊕ (var 2 ⊗ var 4))
    ((((var 0 ⊖ var 1) ⊗ var 3) ⊕ ((var 1 ⊕ var 1) ⊗ var 5)) ⊕ (var 2 ⊗ var 4)) tt

parted_weights : (v i j k : ℤ) → v ≡ (i +ℤ j) +ℤ k → v ≡ ((i -ℤ j) +ℤ (j +ℤ j)) +ℤ k
parted_weights v i j k e = omega (arith, ints)

rest_of_weight : (i j : ℤ) → j ≤ℤ i → pos 0 ≤ℤ (i -ℤ j)
rest_of_weight i j h = omega (arith, ints)

twice_weight : (j : ℤ) → pos 0 ≤ℤ j → pos 0 ≤ℤ (j +ℤ j)
twice_weight j h = omega (arith, ints)

-- the half with a has the points that weigh a no less than b
on_nearer : (m a b c : Coordinates) (p : Rational) → IsMiddle m a b → (on : IsOnTriangle a b c p) → on.j ≤ℤ on.i → IsOnTriangle a m c p
on_nearer m a b c p middle on less = record {
  i = on.i -ℤ on.j;
  j = on.j +ℤ on.j;
  k = on.k;
  n = on.n;
  first = rest_of_weight on.i on.j less;
  second = twice_weight on.j on.second;
  third = on.third;
  positive = on.positive;
  w = parted_weights (on.n *ℤ p.w) on.i on.j on.k on.w;
  x = parted (on.n *ℤ p.x) on.i on.j on.k a.x b.x c.x m.x middle.x on.x;
  y = parted (on.n *ℤ p.y) on.i on.j on.k a.y b.y c.y m.y middle.y on.y;
  z = parted (on.n *ℤ p.z) on.i on.j on.k a.z b.z c.z m.z middle.z on.z;
}

either_less : (i j : ℤ) → (j ≤ℤ i) ⊎ (i ≤ℤ j)
either_less i j = grind (arith, ints)

off_parted : (m a b c : Coordinates) (p : Rational) → IsMiddle m a b → IsOffTriangle m b c p → IsOffTriangle a m c p → IsOffTriangle a b c p
unfolding on_exchanged
off_parted m a b c p middle off_b off_a on =
    ⊎_elim (λ less. off_a (on_nearer m a b c p middle on less))
    (λ less. off_b (on_exchanged m b c p (on_nearer m b a c p (IsMiddle-exchange m a b middle) (on_exchanged b a c p on) less)))
    (either_less on.i on.j)

-- ---- a tetrahedron
off_whole : (p : Rational) (m a b c d : Coordinates) → IsMiddle m a b → IsOffFacesOf p (m ∷ b ∷ c ∷ d ∷ []) → IsOffFacesOf p (a ∷ m ∷ c ∷ d ∷ []) → IsOffFacesOf p (a ∷ b ∷ c ∷ d ∷ [])
off_whole p m a b c d middle first second =
    (off_parted m a b c p middle first.0 second.0, (off_parted m a b d p middle first.1.0 second.1.0, (second.1.1.0, (first.1.1.1.0, tt))))

pub off_pieces_is_off_whole : (p : Rational) (m a b : Coordinates) (corners : List Coordinates) → IsMiddle m a b → a ≢ b → are_corners corners ≡ true
    → AllByRecursion (IsOffFacesOf p) (bisect a b m corners) → IsOffFacesOf p corners
off_pieces_is_off_whole p m a b corners middle differ are off =
    elim (holds_all corners (a ∷ b ∷ [])) as (λ h. holds_all corners (a ∷ b ∷ []) ≡ h
    → AllByRecursion (IsOffFacesOf p) (cond h (replaced a m corners ∷ replaced b m corners ∷ []) (corners ∷ [])) → IsOffFacesOf p corners) [
      | true ↦ λ there off.
          let edge = has_edge a b corners differ are there in
          off_moved p a b edge.c edge.d corners edge.order
          (off_whole p m a b edge.c edge.d middle
          (off_listed p m b edge.c edge.d (replaced a m corners) (replaced_first m a b edge.c edge.d corners edge.order middle edge.solid) off.0)
          (off_listed p a m edge.c edge.d (replaced b m corners) (replaced_second m a b edge.c edge.d corners edge.order middle edge.solid) off.1.0))
      | false ↦ λ _ off. off.0
    ] refl off
