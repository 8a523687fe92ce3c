-- A closed segment or triangle has the points of its closed halves.
use Rattle.std.proofs.Common.{◌≡◌, ◌⊎◌, inl, inr, List, [], ◌∷◌, ap₂, ◌∙◌, arith}
use Rattle.std.specs.Prelude.{ℤ, pos, ◌+ℤ◌, ◌-ℤ◌, ◌*ℤ◌, ◌≤ℤ◌, ◌<ℤ◌}
use Rattle.std.proofs.lemmas.Int.{ints}
use Rattle.ma_geom.specs.Coordinates.{Coordinates}
use Rattle.ma_geom.specs.Rational.{IsMiddle, Rational}
use Rattle.ma_geom.proofs.Identities.{IsMiddle-exchange}
use Rattle.ma_geom.proofs.Ring.{var, ◌⊕◌, ◌⊖◌, ◌⊗◌, entry, ring}
use Rattle.ma_cover.specs.Classification.{IsOnCell, IsOnSegment}
use Rattle.ma_cover.specs.OnFaces.{IsOnTriangle}
use Rattle.ma_cover.proofs.Halves.{on_exchanged}

-- ---- one coordinate, of which m is halfway between a and b
other_end : (a b m : ℤ) → m +ℤ m ≡ a +ℤ b → a ≡ (m +ℤ m) -ℤ b
other_end a b m e = omega (arith, ints)

-- from the whole to the half at b
nearer : (i j a b m : ℤ) → m +ℤ m ≡ a +ℤ b → (i *ℤ a) +ℤ (j *ℤ b) ≡ ((i +ℤ i) *ℤ m) +ℤ ((j -ℤ i) *ℤ b)
nearer i j a b m middle =
    rw (other_end a b m middle) (ring (entry (i ∷ j ∷ b ∷ m ∷ []))
    ((var 0 ⊗ ((var 3 ⊕ var 3) ⊖ var 2)) ⊕ (var 1 ⊗ var 2))
    (((var 0 ⊕ var 0) ⊗ var 3) ⊕ ((var 1 ⊖ var 0) ⊗ var 2)) tt)

-- and back
farther : (i j a b m : ℤ) → m +ℤ m ≡ a +ℤ b → ((i *ℤ m) +ℤ (j *ℤ b)) +ℤ ((i *ℤ m) +ℤ (j *ℤ b)) ≡ (i *ℤ a) +ℤ ((i +ℤ (j +ℤ j)) *ℤ b)
farther i j a b m middle =
    rw (other_end a b m middle) (ring (entry (i ∷ j ∷ b ∷ m ∷ []))
    (((var 0 ⊗ var 3) ⊕ (var 1 ⊗ var 2)) ⊕ ((var 0 ⊗ var 3) ⊕ (var 1 ⊗ var 2)))
    ((var 0 ⊗ ((var 3 ⊕ var 3) ⊖ var 2)) ⊕ ((var 0 ⊕ (var 1 ⊕ var 1)) ⊗ var 2)) tt)

doubled : (n x v : ℤ) → n *ℤ x ≡ v → (n +ℤ n) *ℤ x ≡ v +ℤ v
doubled n x v e = ring (entry (n ∷ x ∷ [])) ((var 0 ⊕ var 0) ⊗ var 1) ((var 0 ⊗ var 1) ⊕ (var 0 ⊗ var 1)) tt ∙ ap₂ (λ s t. s +ℤ t) e e

-- with a third corner
with_third : (k c s t : ℤ) → s +ℤ s ≡ t → (s +ℤ (k *ℤ c)) +ℤ (s +ℤ (k *ℤ c)) ≡ t +ℤ ((k +ℤ k) *ℤ c)
with_third k c s t e = ring (entry (s ∷ k ∷ c ∷ [])) ((var 0 ⊕ (var 1 ⊗ var 2)) ⊕ (var 0 ⊕ (var 1 ⊗ var 2))) ((var 0 ⊕ var 0) ⊕ ((var 1 ⊕ var 1) ⊗ var 2)) tt ∙ ap₂ (λ r v. r +ℤ v) e (λ _. (k +ℤ k) *ℤ c)

-- ---- weights
rest_weight : (i j : ℤ) → i ≤ℤ j → pos 0 ≤ℤ (j -ℤ i)
rest_weight i j h = omega (arith, ints)

twice_weight : (j : ℤ) → pos 0 ≤ℤ j → pos 0 ≤ℤ (j +ℤ j)
twice_weight j h = omega (arith, ints)

more_weight : (i j : ℤ) → pos 0 ≤ℤ i → pos 0 ≤ℤ j → pos 0 ≤ℤ (i +ℤ (j +ℤ j))
more_weight i j h k = omega (arith, ints)

twice_positive : (n : ℤ) → pos 0 <ℤ n → pos 0 <ℤ (n +ℤ n)
twice_positive n h = omega (arith, ints)

parted_weights : (v i j k : ℤ) → v ≡ (i +ℤ j) +ℤ k → v ≡ ((i +ℤ i) +ℤ (j -ℤ i)) +ℤ k
parted_weights v i j k e = omega (arith, ints)

joined_weights : (n w i j k : ℤ) → n *ℤ w ≡ (i +ℤ j) +ℤ k → (n +ℤ n) *ℤ w ≡ (i +ℤ (i +ℤ (j +ℤ j))) +ℤ (k +ℤ k)
joined_weights n w i j k e = doubled n w ((i +ℤ j) +ℤ k) e ∙ by i j k
  where
    by : (i j k : ℤ) → ((i +ℤ j) +ℤ k) +ℤ ((i +ℤ j) +ℤ k) ≡ (i +ℤ (i +ℤ (j +ℤ j))) +ℤ (k +ℤ k)
    by i j k = omega (arith, ints)

parted_two : (v i j : ℤ) → v ≡ i +ℤ j → v ≡ (i +ℤ i) +ℤ (j -ℤ i)
parted_two v i j e = omega (arith, ints)

joined_two : (n w i j : ℤ) → n *ℤ w ≡ i +ℤ j → (n +ℤ n) *ℤ w ≡ i +ℤ (i +ℤ (j +ℤ j))
joined_two n w i j e = doubled n w (i +ℤ j) e ∙ by i j
  where
    by : (i j : ℤ) → (i +ℤ j) +ℤ (i +ℤ j) ≡ i +ℤ (i +ℤ (j +ℤ j))
    by i j = omega (arith, ints)

either_less : (i j : ℤ) → (i ≤ℤ j) ⊎ (j ≤ℤ i)
either_less i j = grind (arith, ints)

module _ (p : Rational) where
  -- ---- segments
  pub on_segment_turned : (a b : Coordinates) → IsOnSegment a b p → IsOnSegment b a p
  on_segment_turned a b on = record {
    i = on.j;
    j = on.i;
    n = on.n;
    first = on.second;
    second = on.first;
    positive = on.positive;
    w = on.w ∙ turned on.i on.j;
    x = on.x ∙ turned (on.i *ℤ a.x) (on.j *ℤ b.x);
    y = on.y ∙ turned (on.i *ℤ a.y) (on.j *ℤ b.y);
    z = on.z ∙ turned (on.i *ℤ a.z) (on.j *ℤ b.z);
  }
    where
      turned : (r s : ℤ) → r +ℤ s ≡ s +ℤ r
      turned r s = omega (arith, ints)

  segment_half : (m a b : Coordinates) → IsMiddle m a b → (on : IsOnSegment a b p) → on.i ≤ℤ on.j → IsOnSegment m b p
  segment_half m a b middle on less = record {
    i = on.i +ℤ on.i;
    j = on.j -ℤ on.i;
    n = on.n;
    first = twice_weight on.i on.first;
    second = rest_weight on.i on.j less;
    positive = on.positive;
    w = parted_two (on.n *ℤ p.w) on.i on.j on.w;
    x = on.x ∙ nearer on.i on.j a.x b.x m.x middle.x;
    y = on.y ∙ nearer on.i on.j a.y b.y m.y middle.y;
    z = on.z ∙ nearer on.i on.j a.z b.z m.z middle.z;
  }

  segment_whole : (m a b : Coordinates) → IsMiddle m a b → IsOnSegment m b p → IsOnSegment a b p
  segment_whole m a b middle on = record {
    i = on.i;
    j = on.i +ℤ (on.j +ℤ on.j);
    n = on.n +ℤ on.n;
    first = on.first;
    second = more_weight on.i on.j on.first on.second;
    positive = twice_positive on.n on.positive;
    w = joined_two on.n p.w on.i on.j on.w;
    x = doubled on.n p.x _ on.x ∙ farther on.i on.j a.x b.x m.x middle.x;
    y = doubled on.n p.y _ on.y ∙ farther on.i on.j a.y b.y m.y middle.y;
    z = doubled on.n p.z _ on.z ∙ farther on.i on.j a.z b.z m.z middle.z;
  }

  -- ---- triangles
  triangle_half : (m a b c : Coordinates) → IsMiddle m a b → (on : IsOnTriangle a b c p) → on.i ≤ℤ on.j → IsOnTriangle m b c p
  triangle_half m a b c middle on less = record {
    i = on.i +ℤ on.i;
    j = on.j -ℤ on.i;
    k = on.k;
    n = on.n;
    first = twice_weight on.i on.first;
    second = rest_weight on.i on.j less;
    third = on.third;
    positive = on.positive;
    w = parted_weights (on.n *ℤ p.w) on.i on.j on.k on.w;
    x = on.x ∙ ap₂ (λ s t. s +ℤ t) (nearer on.i on.j a.x b.x m.x middle.x) (λ _. on.k *ℤ c.x);
    y = on.y ∙ ap₂ (λ s t. s +ℤ t) (nearer on.i on.j a.y b.y m.y middle.y) (λ _. on.k *ℤ c.y);
    z = on.z ∙ ap₂ (λ s t. s +ℤ t) (nearer on.i on.j a.z b.z m.z middle.z) (λ _. on.k *ℤ c.z);
  }

  triangle_whole : (m a b c : Coordinates) → IsMiddle m a b → IsOnTriangle m b c p → IsOnTriangle a b c p
  triangle_whole m a b c middle on = record {
    i = on.i;
    j = on.i +ℤ (on.j +ℤ on.j);
    k = on.k +ℤ on.k;
    n = on.n +ℤ on.n;
    first = on.first;
    second = more_weight on.i on.j on.first on.second;
    third = twice_weight on.k on.third;
    positive = twice_positive on.n on.positive;
    w = joined_weights on.n p.w on.i on.j on.k on.w;
    x = doubled on.n p.x _ on.x ∙ with_third on.k c.x _ _ (farther on.i on.j a.x b.x m.x middle.x);
    y = doubled on.n p.y _ on.y ∙ with_third on.k c.y _ _ (farther on.i on.j a.y b.y m.y middle.y);
    z = doubled on.n p.z _ on.z ∙ with_third on.k c.z _ _ (farther on.i on.j a.z b.z m.z middle.z);
  }

  -- ---- cells with their first two corners exchanged, and halved between them
  pub on_ends_turned : (a b : Coordinates) (rest : List Coordinates) → IsOnCell p (a ∷ b ∷ rest) → IsOnCell p (b ∷ a ∷ rest)
  on_ends_turned a b [] on = on_segment_turned a b on
  on_ends_turned a b (c ∷ []) on = on_exchanged b a c p on
  on_ends_turned a b (c ∷ d ∷ rest) on = absurd on

  pub on_whole : (m a b : Coordinates) (rest : List Coordinates) → IsMiddle m a b → IsOnCell p (m ∷ b ∷ rest) → IsOnCell p (a ∷ b ∷ rest)
  on_whole m a b [] middle on = segment_whole m a b middle on
  on_whole m a b (c ∷ []) middle on = triangle_whole m a b c middle on
  on_whole m a b (c ∷ d ∷ rest) middle on = absurd on

  pub on_half : (m a b : Coordinates) (rest : List Coordinates) → IsMiddle m a b → IsOnCell p (a ∷ b ∷ rest) → IsOnCell p (m ∷ b ∷ rest) ⊎ IsOnCell p (m ∷ a ∷ rest)
  unfolding on_segment_turned on_exchanged
  on_half m a b [] middle on = by (either_less on.i on.j)
    where
      by : (on.i ≤ℤ on.j) ⊎ (on.j ≤ℤ on.i) → IsOnSegment m b p ⊎ IsOnSegment m a p
      by (inl less) = inl (segment_half m a b middle on less)
      by (inr less) = inr (segment_half m b a (IsMiddle-exchange m a b middle) (on_segment_turned a b on) less)
  on_half m a b (c ∷ []) middle on = by (either_less on.i on.j)
    where
      by : (on.i ≤ℤ on.j) ⊎ (on.j ≤ℤ on.i) → IsOnTriangle m b c p ⊎ IsOnTriangle m a c p
      by (inl less) = inl (triangle_half m a b c middle on less)
      by (inr less) = inr (triangle_half m b a c (IsMiddle-exchange m a b middle) (on_exchanged b a c p on) less)
  on_half m a b (c ∷ d ∷ rest) middle on = absurd on
