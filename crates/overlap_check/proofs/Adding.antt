-- What lists of touches have after touches were added.
use Rattle.std.proofs.Common.{◌≡◌, ◌⊎◌, ◌<◌, ◌≤◌, ◌+◌, inl, inr, ℕ, max, List, [], ◌∷◌, ◌++◌, length, get_or, refl, ap, ◌∙◌, subst, sym, arith}
use Rattle.std.specs.List.{Contains}
use Rattle.std.specs.List.Sorted.{IsPermutation}
use Rattle.std.proofs.lemmas.Bool.{cases_lt}
use Rattle.std.proofs.lemmas.List.{get_or_default}
use Rattle.std.proofs.lemmas.List.Elements.{Contains-append_left, Contains-push, Contains-push_cases}
use Rattle.std.proofs.lemmas.List.Sorted.{Contains-permutation, IsPermutation-sym}
use Rattle.overlap_check.specs.declared.boxes.BoundingBox.{BoundingBox}
use Rattle.overlap_check.specs.declared.cubes.Touch.{Touch}
use Rattle.overlap_check.specs.steps.Cubes.{Adds, IsInBlock, IsTouchBefore, Touches, first_touched, last_touched}

adds_none : (old : List Touch) (wanted : Touch → Type 0) → ((t : Touch) → wanted t → ⊥) → Adds old old wanted
adds_none old wanted none = record { kept = λ t h. h; added = λ t h. absurd (none t h); only = λ t h. inl h }

adds_one : (old new : List Touch) (u : Touch) → new ≡ old ++ u ∷ [] → Adds old new (λ t. u ≡ t)
adds_one old new u e = record {
  kept = λ t h. subst (λ (l : List Touch). Contains l t) (sym e) (Contains-append_left old (u ∷ []) t h);
  added = λ t same. subst (λ (v : Touch). Contains new v) same (subst (λ (l : List Touch). Contains l u) (sym e) (Contains-push old u));
  only = λ t h. Contains-push_cases old u t (subst (λ (l : List Touch). Contains l t) e h);
}

-- first these, then those, which are all that is wanted
adds_both : (old mid new : List Touch) (these those wanted : Touch → Type 0) → Adds old mid these → Adds mid new those
    → ((t : Touch) → wanted t → these t ⊎ those t) → ((t : Touch) → these t → wanted t) → ((t : Touch) → those t → wanted t) → Adds old new wanted
adds_both old mid new these those wanted first second either from_these from_those = record {
  kept = λ t h. second.kept t (first.kept t h);
  added = λ t h. elim (either t h) [ inl k ↦ second.kept t (first.added t k) | inr k ↦ second.added t k ];
  only = λ t h. elim (second.only t h) [
    | inl k ↦ elim (first.only t k) [ inl m ↦ inl m | inr m ↦ inr (from_these t m) ]
    | inr k ↦ inr (from_those t k)
  ];
}

-- the same in other words
adds_same : (old new : List Touch) (these wanted : Touch → Type 0) → Adds old new these → ((t : Touch) → wanted t → these t) → ((t : Touch) → these t → wanted t) → Adds old new wanted
adds_same old new these wanted first back forth = record {
  kept = first.kept;
  added = λ t h. first.added t (back t h);
  only = λ t h. elim (first.only t h) [ inl k ↦ inl k | inr k ↦ inr (forth t k) ];
}

pub adds_moved : (old mid new : List Touch) (wanted : Touch → Type 0) → Adds old mid wanted → IsPermutation mid new → Adds old new wanted
adds_moved old mid new wanted first moved = record {
  kept = λ t h. Contains-permutation mid new t moved (first.kept t h);
  added = λ t h. Contains-permutation mid new t moved (first.added t h);
  only = λ t h. first.only t (Contains-permutation new mid t (IsPermutation-sym mid new moved) h);
}

-- the same block but along one axis
along_x : {x x' y y' z z' tet : ℕ} {t : Touch} (m n : ℕ) → IsInBlock x x' y y' z z' tet t → m ≤ t.cube.x → t.cube.x < n → IsInBlock m n y y' z z' tet t
along_x m n h low high = record { x_from = low; x_before = high; y_from = h.y_from; y_before = h.y_before; z_from = h.z_from; z_before = h.z_before; by = h.by }

along_y : {x x' y y' z z' tet : ℕ} {t : Touch} (m n : ℕ) → IsInBlock x x' y y' z z' tet t → m ≤ t.cube.y → t.cube.y < n → IsInBlock x x' m n z z' tet t
along_y m n h low high = record { x_from = h.x_from; x_before = h.x_before; y_from = low; y_before = high; z_from = h.z_from; z_before = h.z_before; by = h.by }

along_z : {x x' y y' z z' tet : ℕ} {t : Touch} (m n : ℕ) → IsInBlock x x' y y' z z' tet t → m ≤ t.cube.z → t.cube.z < n → IsInBlock x x' y y' m n tet t
along_z m n h low high = record { x_from = h.x_from; x_before = h.x_before; y_from = h.y_from; y_before = h.y_before; z_from = low; z_before = high; by = h.by }

-- a row with one more cube, a slab with one more row, a block with one more slab
pub row_more : (old mid new : List Touch) (u : Touch) (x y first z tet : ℕ) → Adds old mid (IsInBlock x (x + 1) y (y + 1) first z tet) → new ≡ mid ++ u ∷ [] → first ≤ z
    → u ≡ record { cube = record { x = x; y = y; z = z }; tet = tet } → Adds old new (IsInBlock x (x + 1) y (y + 1) first (z + 1) tet)
row_more old mid new u x y first z tet so_far pushed low is =
    adds_both old mid new (IsInBlock x (x + 1) y (y + 1) first z tet) (λ t. u ≡ t) (IsInBlock x (x + 1) y (y + 1) first (z + 1) tet) so_far (adds_one mid new u pushed)
    (λ t h. elim (cases_lt t.cube.z z) [ inl k ↦ inl (along_z first z h h.z_from k) | inr k ↦ inr (is ∙ here t h k) ])
    (λ t h. let before = h.z_before in along_z first (z + 1) h h.z_from (omega arith))
    (λ t e. subst (IsInBlock x (x + 1) y (y + 1) first (z + 1) tet) (sym is ∙ e) (record { x_from = omega arith; x_before = omega arith; y_from = omega arith; y_before = omega arith; z_from = low; z_before = omega arith; by = refl }))
  where
    here : (t : Touch) → IsInBlock x (x + 1) y (y + 1) first (z + 1) tet t → z ≤ t.cube.z → record { cube = record { x = x; y = y; z = z }; tet = tet } ≡ t
    here t h k =
        let at_x : x ≡ t.cube.x = (let from = h.x_from in let before = h.x_before in omega arith) in
        let at_y : y ≡ t.cube.y = (let from = h.y_from in let before = h.y_before in omega arith) in
        let at_z : z ≡ t.cube.z = (let before = h.z_before in omega arith) in
        λ i. record { cube = record { x = at_x i; y = at_y i; z = at_z i }; tet = sym h.by i }

pub slab_more : (old mid new : List Touch) (x first y z z' tet : ℕ) → Adds old mid (IsInBlock x (x + 1) first y z z' tet) → Adds mid new (IsInBlock x (x + 1) y (y + 1) z z' tet) → first ≤ y
    → Adds old new (IsInBlock x (x + 1) first (y + 1) z z' tet)
slab_more old mid new x first y z z' tet so_far row low =
    adds_both old mid new (IsInBlock x (x + 1) first y z z' tet) (IsInBlock x (x + 1) y (y + 1) z z' tet) (IsInBlock x (x + 1) first (y + 1) z z' tet) so_far row
    (λ t h. elim (cases_lt t.cube.y y) [ inl k ↦ inl (along_y first y h h.y_from k) | inr k ↦ inr (along_y y (y + 1) h k h.y_before) ])
    (λ t h. let before = h.y_before in along_y first (y + 1) h h.y_from (omega arith))
    (λ t h. let from = h.y_from in along_y first (y + 1) h (omega arith) h.y_before)

pub block_more : (old mid new : List Touch) (first x y y' z z' tet : ℕ) → Adds old mid (IsInBlock first x y y' z z' tet) → Adds mid new (IsInBlock x (x + 1) y y' z z' tet) → first ≤ x
    → Adds old new (IsInBlock first (x + 1) y y' z z' tet)
block_more old mid new first x y y' z z' tet so_far slab low =
    adds_both old mid new (IsInBlock first x y y' z z' tet) (IsInBlock x (x + 1) y y' z z' tet) (IsInBlock first (x + 1) y y' z z' tet) so_far slab
    (λ t h. elim (cases_lt t.cube.x x) [ inl k ↦ inl (along_x first x h h.x_from k) | inr k ↦ inr (along_x x (x + 1) h k h.x_before) ])
    (λ t h. let before = h.x_before in along_x first (x + 1) h h.x_from (omega arith))
    (λ t h. let from = h.x_from in along_x first (x + 1) h (omega arith) h.x_before)

-- where a row, a slab or a block ends
pub row_ends : (old new : List Touch) (x x' y y' first z end tet : ℕ) → Adds old new (IsInBlock x x' y y' first z tet) → end ≤ z → z ≤ max first end → Adds old new (IsInBlock x x' y y' first end tet)
row_ends old new x x' y y' first z end tet so_far past bound =
    adds_same old new (IsInBlock x x' y y' first z tet) (IsInBlock x x' y y' first end tet) so_far
    (λ t h. let before = h.z_before in along_z first z h h.z_from (omega arith))
    (λ t h. let from = h.z_from in let before = h.z_before in along_z first end h from (omega arith))

pub slab_ends : (old new : List Touch) (x x' first y end z z' tet : ℕ) → Adds old new (IsInBlock x x' first y z z' tet) → end ≤ y → y ≤ max first end → Adds old new (IsInBlock x x' first end z z' tet)
slab_ends old new x x' first y end z z' tet so_far past bound =
    adds_same old new (IsInBlock x x' first y z z' tet) (IsInBlock x x' first end z z' tet) so_far
    (λ t h. let before = h.y_before in along_y first y h h.y_from (omega arith))
    (λ t h. let from = h.y_from in let before = h.y_before in along_y first end h from (omega arith))

pub block_ends : (old new : List Touch) (first x end y y' z z' tet : ℕ) → Adds old new (IsInBlock first x y y' z z' tet) → end ≤ x → x ≤ max first end → Adds old new (IsInBlock first end y y' z z' tet)
block_ends old new first x end y y' z z' tet so_far past bound =
    adds_same old new (IsInBlock first x y y' z z' tet) (IsInBlock first end y y' z z' tet) so_far
    (λ t h. let before = h.x_before in along_x first x h h.x_from (omega arith))
    (λ t h. let from = h.x_from in let before = h.x_before in along_x first end h from (omega arith))

-- a block that is empty yet
pub empty_row : (old : List Touch) (x x' y y' z tet : ℕ) → Adds old old (IsInBlock x x' y y' z z tet)
empty_row old x x' y y' z tet = adds_none old (IsInBlock x x' y y' z z tet) (λ t h. let from = h.z_from in let before = h.z_before in omega arith)

pub empty_slab : (old : List Touch) (x x' y z z' tet : ℕ) → Adds old old (IsInBlock x x' y y z z' tet)
empty_slab old x x' y z z' tet = adds_none old (IsInBlock x x' y y z z' tet) (λ t h. let from = h.y_from in let before = h.y_before in omega arith)

pub empty_block : (old : List Touch) (x y y' z z' tet : ℕ) → Adds old old (IsInBlock x x y y' z z' tet)
empty_block old x y y' z z' tet = adds_none old (IsInBlock x x y y' z z' tet) (λ t h. let from = h.x_from in let before = h.x_before in omega arith)

-- the block of a box
pub box_added : (old new : List Touch) (k : ℕ) (r : BoundingBox) (x x' y y' z z' tet : ℕ) → Adds old new (IsInBlock x x' y y' z z' tet)
    → x ≡ first_touched k r.x → x' ≡ last_touched k r.x + 1 → y ≡ first_touched k r.y → y' ≡ last_touched k r.y + 1 → z ≡ first_touched k r.z → z' ≡ last_touched k r.z + 1
    → Adds old new (λ t. Touches k r t.cube × (t.tet ≡ tet))
box_added old new k r x x' y y' z z' tet block x_is x'_is y_is y'_is z_is z'_is =
    adds_same old new (IsInBlock x x' y y' z z' tet) (λ t. Touches k r t.cube × (t.tet ≡ tet)) block
    (λ t h. let xs = h.0.x in let ys = h.0.y in let zs = h.0.z in
    record { x_from = omega arith; x_before = omega arith; y_from = omega arith; y_before = omega arith; z_from = omega arith; z_before = omega arith; by = h.1 })
    (λ t h. (
      let a = h.x_from in let b = h.x_before in let d = h.y_from in let e = h.y_before in let f = h.z_from in let g = h.z_before in
          record { x = record { low = omega arith; high = omega arith }; y = record { low = omega arith; high = omega arith }; z = record { low = omega arith; high = omega arith } },
      h.by,
    ))

-- the touches of one more box
pub boxes_more : (mid new : List Touch) (k n : ℕ) (boxes : List BoundingBox) (r : BoundingBox) → Adds [] mid (IsTouchBefore k n boxes) → Adds mid new (λ t. Touches k r t.cube × (t.tet ≡ n))
    → n < length boxes → r ≡ get_or boxes n r → Adds [] new (IsTouchBefore k (n + 1) boxes)
boxes_more mid new k n boxes r so_far one within is =
    adds_both [] mid new (IsTouchBefore k n boxes) (λ t. Touches k r t.cube × (t.tet ≡ n)) (IsTouchBefore k (n + 1) boxes) so_far one
    (λ t h. elim (cases_lt t.tet n) [
      | inl low ↦ inl (record { before = low; touches = h.touches })
      | inr high ↦ (
          let before = h.before in
          let at : t.tet ≡ n = omega arith in
          let same : get_or boxes t.tet r ≡ r = ap (λ i. get_or boxes i r) at ∙ sym is in
          inr (subst (λ (q : BoundingBox). Touches k q t.cube) same (h.touches r), at)
          )
    ])
    (λ t h. let before = h.before in record { before = omega arith; touches = h.touches })
    (λ t h. let at = h.1 in record {
      before = omega arith;
      touches = λ d. (
          let same : r ≡ get_or boxes t.tet d = is ∙ get_or_default boxes n r d within ∙ ap (λ i. get_or boxes i d) (sym at) in
          subst (λ (q : BoundingBox). Touches k q t.cube) same h.0
          );
    })

pub boxes_none : (k : ℕ) (boxes : List BoundingBox) → Adds [] [] (IsTouchBefore k 0 boxes)
boxes_none k boxes = adds_none [] (IsTouchBefore k 0 boxes) (λ t h. let before = h.before in omega arith)
