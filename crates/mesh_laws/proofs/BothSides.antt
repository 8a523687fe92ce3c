-- Where no point is within two tetrahedra, those that share a face lie on both sides of it, and so no face has three.
use Rattle.std.proofs.Common.{◌≡◌, ◌≢◌, ℕ, suc, ◌+◌, ◌≤◌, ◌⊎◌, ⊎_elim, Bool, true, false, cond, List, [], ◌∷◌, refl, ◌∙◌, arith}
use Rattle.std.specs.Prelude.{ℤ, pos, neg_ℤ}
use Rattle.std.specs.Cmp.Lexicographic.{slice_cmp}
use Rattle.std.specs.List.{AllByRecursion, AllPairs, count_by}
use Rattle.std.specs.List.Sorted.{IsPermutation}
use Rattle.std.proofs.lemmas.Bool.{false_from_ne_true, false≢true}
use Rattle.std.proofs.lemmas.Int.{ints}
use Rattle.std.proofs.lemmas.List.Elements.{All-from_recursion, recursion_from_All}
use Rattle.std.proofs.lemmas.List.Kept.{AllPairs-cons}
use Rattle.std.proofs.lemmas.List.Sorted.{IsPermutation-append_comm, IsPermutation-cons, IsPermutation-refl, IsPermutation-sym}
use Rattle.ma_geom.specs.Coordinates.{Coordinates, place_cmp}
use Rattle.ma_geom.specs.Rational.{Rational}
use Rattle.ma_geom.specs.Volume.{vol6}
use Rattle.ma_cells.specs.Ascending.{has}
use Rattle.ma_cells.specs.Faces.{faces_of}
use Rattle.ma_cells.specs.Tetrahedron.{is_flat}
use Rattle.ma_cells.proofs.Members.{all-at}
use Rattle.ma_cells.proofs.Pieces.{solid_corners}
use Rattle.ma_cover.specs.Inside.{are_alike, is_inside}
use Rattle.ma_cover.specs.Sound.{LieOnBothSides}
use Rattle.ma_cover.proofs.Exchanges.{inside_in_any_order}
use Rattle.mesh_laws.specs.Sides.{NoFaceHasThree, OnceLieOnBothSides}
use Rattle.mesh_laws.proofs.Listings.{exact}
use Rattle.mesh_laws.proofs.Lists.{count-cons, count-none}
use Rattle.mesh_laws.proofs.MovedOff.{NoneIsFlatBy, corners_of, cover_stays_at_most}
use Rattle.mesh_laws.proofs.OneSide.{one_side}
use Rattle.mesh_laws.proofs.Weights.{by_four}

-- ---- each two items
-- R of each item and each later one
abbrev pub Pairs : {X : Type 0} → (X → X → Type 0) → List X → Type 0
Pairs R [] = Unit {0}
Pairs R (x ∷ xs) = AllByRecursion (R x) xs × Pairs R xs

module _ {X : Type 0} (R : X → X → Type 0) where
  pub pairs_from : (xs : List X) → AllPairs R xs → Pairs R xs
  pairs_from [] h = tt
  pairs_from (x ∷ xs) h =
      (recursion_from_All (R x) xs (λ j d below. h 0 (suc j) d (omega arith) (omega arith)), pairs_from xs (λ i j d before below. h (suc i) (suc j) d (omega arith) (omega arith)))

  pub pairs_to : (xs : List X) → Pairs R xs → AllPairs R xs
  pairs_to [] h i j d before below = absurd (omega arith)
  pairs_to (x ∷ xs) h i j d before below = AllPairs-cons R x xs (All-from_recursion (R x) xs h.0) (pairs_to xs h.1) i j d before below

-- where no three items that pass a test are related, at most two of related items pass
module _ {X : Type 0} (P : X → Type 0) (R : X → X → Type 0) (test : X → Bool)
    (three : (x y z : X) → P x → P y → P z → test x ≡ true → test y ≡ true → test z ≡ true → R x y → R x z → R y z → ⊥) where
  none_more : (x y : X) → P x → P y → test x ≡ true → test y ≡ true → R x y → (zs : List X) → AllByRecursion P zs → AllByRecursion (R x) zs → AllByRecursion (R y) zs → count_by test zs ≡ 0
  none_more x y is_x is_y at_x at_y xy zs is to_x to_y = count-none test zs (each zs is to_x to_y)
    where
      each : (zs : List X) → AllByRecursion P zs → AllByRecursion (R x) zs → AllByRecursion (R y) zs → AllByRecursion (λ z. test z ≡ false) zs
      each [] is to_x to_y = tt
      each (z ∷ zs) is to_x to_y = (false_from_ne_true (test z) (λ at_z. three x y z is_x is_y is.0 at_x at_y at_z xy to_x.0 to_y.0), each zs is.1 to_x.1 to_y.1)

  one_more : (x : X) → P x → test x ≡ true → (ys : List X) → AllByRecursion P ys → AllByRecursion (R x) ys → Pairs R ys → count_by test ys ≤ 1
  one_more x is_x at_x [] is to_x pairs = omega arith
  one_more x is_x at_x (y ∷ ys) is to_x pairs =
      by (test y) _ _ (count-cons test y ys) (one_more x is_x at_x ys is.1 to_x.1 pairs.1) (λ at_y. none_more x y is_x is.0 at_x at_y to_x.0 ys is.1 to_x.1 pairs.0)
    where
      by : (b : Bool) (n m : ℕ) → m ≡ cond b 1 0 + n → n ≤ 1 → (b ≡ true → n ≡ 0) → m ≤ 1
      by true n m e f none = let k : n ≡ 0 = none refl in omega arith
      by false n m e f none = omega arith

  pub at_most_two : (xs : List X) → AllByRecursion P xs → Pairs R xs → count_by test xs ≤ 2
  at_most_two [] is pairs = omega arith
  at_most_two (x ∷ xs) is pairs = by (test x) _ _ (count-cons test x xs) (at_most_two xs is.1 pairs.1) (λ at_x. one_more x is.0 at_x xs is.1 pairs.0 pairs.1)
    where
      by : (b : Bool) (n m : ℕ) → m ≡ cond b 1 0 + n → n ≤ 2 → (b ≡ true → n ≤ 1) → m ≤ 2
      by true n m e f one = let k : n ≤ 1 = one refl in omega arith
      by false n m e f one = omega arith

-- ---- both sides
alike_or_apart : (x y : ℤ) → x ≢ pos 0 → y ≢ pos 0 → (are_alike x y ≡ true) ⊎ (are_alike x (neg_ℤ y) ≡ true)
alike_or_apart x y f g = grind (arith, ints)

pub lie_on_both_sides : (s t : List Coordinates) → is_flat s ≡ false → is_flat t ≡ false
    → ((p : Rational) → is_inside p s ≡ true → is_inside p t ≡ true → ⊥) → LieOnBothSides s t
lie_on_both_sides s t s_solid t_solid apart u v w d e here there =
    ⊎_elim (λ alike.
    let c = one_side u v w d e alike in
    absurd (apart c.p (inside_in_any_order c.p (u ∷ v ∷ w ∷ d ∷ []) s here ∙ c.first) (inside_in_any_order c.p (u ∷ v ∷ w ∷ e ∷ []) t there ∙ c.second)))
    (λ opposite. opposite)
    (alike_or_apart (vol6 u v w d) (vol6 u v w e)
    (solid_corners s u v w d (IsPermutation-sym (u ∷ v ∷ w ∷ d ∷ []) s here) s_solid)
    (solid_corners t u v w e (IsPermutation-sym (u ∷ v ∷ w ∷ e ∷ []) t there) t_solid))

module _ {X : Type 0} (corners : X → List Coordinates) where
  abbrev pub BothSides : X → X → Type 0
  BothSides x y = LieOnBothSides (corners x) (corners y)

  pub once_pairs : (xs : List X) → NoneIsFlatBy corners xs → ((p : Rational) → count_by (λ x. is_inside p (corners x)) xs ≤ 1) → Pairs BothSides xs
  once_pairs [] solid once = tt
  once_pairs (x ∷ xs) solid once = (each xs solid.1 once, once_pairs xs solid.1 (λ p. fewer (inside p x) _ _ (count-cons (inside p) x xs) (once p)))
    where
      inside : Rational → X → Bool
      inside p y = is_inside p (corners y)

      fewer : (b : Bool) (n m : ℕ) → m ≡ cond b 1 0 + n → m ≤ 1 → n ≤ 1
      fewer true n m e f = omega arith
      fewer false n m e f = omega arith

      twice : (a b : Bool) (k n m : ℕ) → a ≡ true → b ≡ true → m ≡ cond a 1 0 + n → n ≡ cond b 1 0 + k → m ≤ 1 → ⊥
      twice true true k n m e f g h l = omega arith
      twice true false k n m e f g h l = false≢true f
      twice false b k n m e f g h l = false≢true e

      without : (a b : Bool) (k n m l : ℕ) → m ≡ cond a 1 0 + n → n ≡ cond b 1 0 + k → l ≡ cond a 1 0 + k → m ≤ 1 → l ≤ 1
      without a true k n m l e f g h = omega arith
      without a false k n m l e f g h = omega arith

      each : (ys : List X) → NoneIsFlatBy corners ys → ((p : Rational) → count_by (λ x. is_inside p (corners x)) (x ∷ ys) ≤ 1) → AllByRecursion (BothSides x) ys
      each [] solid_ys once_ys = tt
      each (y ∷ ys) solid_ys once_ys = (
        lie_on_both_sides (corners x) (corners y) solid.0 solid_ys.0 (λ p first second. twice _ _ _ _ _ first second (count-cons (inside p) x (y ∷ ys)) (count-cons (inside p) y ys) (once_ys p)),
        each ys solid_ys.1 (λ p. without (inside p x) (inside p y) _ _ _ _ (count-cons (inside p) x (y ∷ ys)) (count-cons (inside p) y ys) (count-cons (inside p) x ys) (once_ys p)),
      )

pub once_lie_on_both_sides : OnceLieOnBothSides
once_lie_on_both_sides tets solid once =
    pairs_to (BothSides corners_of) tets (once_pairs corners_of tets solid (cover_stays_at_most 1 (λ _ _. true) tets [] solid tt (λ p off _. once p off)))

-- ---- no face has three
-- that corners have a face, and another place
abbrev pub IsFaceOf : List Coordinates → List Coordinates → Type 0
IsFaceOf (u ∷ v ∷ w ∷ []) corners = (d : Coordinates) × IsPermutation (u ∷ v ∷ w ∷ d ∷ []) corners
IsFaceOf _ corners = ⊥

pub is_face : (corners : List Coordinates) → is_flat corners ≡ false → (face : List Coordinates) → has (slice_cmp place_cmp) face (faces_of corners) ≡ true → IsFaceOf face corners
is_face = by_four (λ corners. (face : List Coordinates) → has (slice_cmp place_cmp) face (faces_of corners) ≡ true → IsFaceOf face corners) (λ a b c d solid face there.
    all-at exact (λ f. IsFaceOf f (a ∷ b ∷ c ∷ d ∷ [])) face (faces_of (a ∷ b ∷ c ∷ d ∷ [])) (
      (d, IsPermutation-refl (a ∷ b ∷ c ∷ d ∷ [])),
      (
        (c, IsPermutation-cons a (b ∷ d ∷ c ∷ []) (b ∷ c ∷ d ∷ []) (IsPermutation-cons b (d ∷ c ∷ []) (c ∷ d ∷ []) (IsPermutation-append_comm (d ∷ []) (c ∷ [])))),
        ((b, IsPermutation-cons a (c ∷ d ∷ b ∷ []) (b ∷ c ∷ d ∷ []) (IsPermutation-append_comm (c ∷ d ∷ []) (b ∷ []))), ((a, IsPermutation-append_comm (b ∷ c ∷ d ∷ []) (a ∷ [])), tt)),
      ),
    ) there)

three_apart : (face r s t : List Coordinates) → IsFaceOf face r → IsFaceOf face s → IsFaceOf face t → LieOnBothSides r s → LieOnBothSides r t → LieOnBothSides s t → ⊥
three_apart (u ∷ v ∷ w ∷ []) r s t (d, at_r) (e, at_s) (f, at_t) rs rt st =
    by (vol6 u v w d) (vol6 u v w e) (vol6 u v w f) (rs u v w d e at_r at_s) (rt u v w d f at_r at_t) (st u v w e f at_s at_t)
  where
    by : (x y z : ℤ) → are_alike x (neg_ℤ y) ≡ true → are_alike x (neg_ℤ z) ≡ true → are_alike y (neg_ℤ z) ≡ true → ⊥
    by x y z h k l = grind (arith, ints)
three_apart [] r s t at_r at_s at_t rs rt st = at_r
three_apart (u ∷ []) r s t at_r at_s at_t rs rt st = at_r
three_apart (u ∷ v ∷ []) r s t at_r at_s at_t rs rt st = at_r
three_apart (u ∷ v ∷ w ∷ x ∷ l) r s t at_r at_s at_t rs rt st = at_r

pub no_face_has_three : NoFaceHasThree
no_face_has_three tets solid sides face =
    at_most_two (λ tet. is_flat tet.corners ≡ false) (BothSides corners_of) (λ tet. has (slice_cmp place_cmp) face (faces_of tet.corners))
    (λ r s t r_solid s_solid t_solid at_r at_s at_t.
    three_apart face r.corners s.corners t.corners (is_face r.corners r_solid face at_r) (is_face s.corners s_solid face at_s) (is_face t.corners t_solid face at_t))
    tets solid (pairs_from (BothSides corners_of) tets sides)
