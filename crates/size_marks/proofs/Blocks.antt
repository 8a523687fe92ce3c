-- Boxes in blocks of 64.
use Rattle.std.proofs.Common.{ℕ, ◌≡◌, ◌+◌, ◌*◌, ◌/◌, ◌%◌, ◌<◌, ◌≤◌, Bool, true, false, cond, List, [], ◌∷◌, ◌++◌, length, get_or, take, drop, map, filter, min, bit_and, refl, sym, ap, subst, ◌∙◌, arith, ⊎_elim}
use Rattle.std.specs.Prelude.{ℤ}
use Rattle.std.specs.Int.{bit_at}
use Rattle.std.proofs.lemmas.Bool.{and_parts, cases_lt}
use Rattle.std.proofs.lemmas.List.{take-append-drop}
use Rattle.std.proofs.lemmas.Nat.Bits.{bit_at_above, bit_at_and}
use Rattle.ma_geom.specs.Coordinates.{Coordinates}
use Rattle.size_marks.specs.declared.looking.BoxIndex.{BoxIndex}
use Rattle.size_marks.specs.declared.slabs.Axis.{Axis}
use Rattle.size_marks.specs.declared.slabs.Axis.TheVariants.{X, Y, Z}
use Rattle.size_marks.specs.Field.{BoxedSize, holds, is_in_extent, last_or, sizes_at}
use Rattle.size_marks.specs.steps.Slabs.{common_word, coordinate, HasSlab, IsIndexAlong, IsIndexed, IsMarked, MasksHolders}

-- a box that has the place's coordinate in its extent is marked in the row of the place's slab
marked_along : (boxes : List BoxedSize) (axis : Axis) (cuts : List ℤ) (rows : List (List ℕ)) (c : ℤ) (row : List ℕ) → IsIndexAlong boxes axis cuts rows → HasSlab cuts rows c row
    → (k : ℕ) (d : BoxedSize) → k < length boxes → is_in_extent (coordinate axis (get_or boxes k d).low) (coordinate axis (get_or boxes k d).high) c ≡ true → IsMarked row k
marked_along boxes axis cuts rows c row index slab k d within met =
    let Marked : List ℕ → Type 0 = λ r. IsMarked r k in
    subst Marked (sym slab.3) (index.marks slab.0 row slab.1 k within d c slab.2 met)

all_three : (a b c j : ℕ) → bit_at a j ≡ 1 → bit_at b j ≡ 1 → bit_at c j ≡ 1 → bit_at (bit_and (bit_and a b) c) j ≡ 1
all_three a b c j p q r =
    bit_at_and (bit_and a b) c j ∙ ap (λ (n : ℕ). min n (bit_at c j)) (bit_at_and a b j ∙ ap (λ (n : ℕ). min n (bit_at b j)) p ∙ ap (min 1) q) ∙ ap (min 1) r

-- a box that holds the place is marked in the rows of the place's three slabs
all_marked : (boxes : List BoxedSize) (index : BoxIndex) (p : Coordinates) (x y z : List ℕ) → IsIndexed boxes index
    → HasSlab index.x.cuts.items index.x.rows.items p.x x → HasSlab index.y.cuts.items index.y.rows.items p.y y → HasSlab index.z.cuts.items index.z.rows.items p.z z
    → (k : ℕ) (d : BoxedSize) → k < length boxes → holds (get_or boxes k d) p ≡ true → bit_at (common_word x y z (k / 64)) (k % 64) ≡ 1
all_marked boxes index p x y z indexed in_x in_y in_z k d inside held =
    let b = get_or boxes k d in
    let parts = and_parts (is_in_extent b.low.x b.high.x p.x) _ held in
    let rest = and_parts (is_in_extent b.low.y b.high.y p.y) _ parts.1 in
    all_three (get_or x (k / 64) 0) (get_or y (k / 64) 0) (get_or z (k / 64) 0) (k % 64)
    (marked_along boxes X index.x.cuts.items index.x.rows.items p.x x indexed.x in_x k d inside parts.0)
    (marked_along boxes Y index.y.cuts.items index.y.rows.items p.y y indexed.y in_y k d inside rest.0)
    (marked_along boxes Z index.z.cuts.items index.z.rows.items p.z z indexed.z in_z k d inside rest.1)

-- a bit that is set in the word of number 64 * n + j, where all words behind word n are 0, is bit j of word n
bit_of_first : (word : ℕ → ℕ) (n j last : ℕ) → ((m : ℕ) → n < m → m ≤ last → word m ≡ 0) → 64 * n + j < 64 * last + 64
    → bit_at (word ((64 * n + j) / 64)) ((64 * n + j) % 64) ≡ 1 → bit_at (word n) j ≡ 1
bit_of_first word n j last none within set =
    let m = (64 * n + j) / 64 in
    let i = (64 * n + j) % 64 in
    let Set : ℕ → ℕ → Type 0 = λ w b. bit_at w b ≡ 1 in
    ⊎_elim
    (λ (first : j < 64).
    let same : m ≡ n = omega arith in
    let bit : i ≡ j = omega arith in
    subst (λ (b : ℕ). bit_at (word n) b ≡ 1) bit (subst (λ (k : ℕ). bit_at (word k) i ≡ 1) same set))
    (λ (later : 64 ≤ j).
    let zeros : word m ≡ 0 = none m (omega arith) (omega arith) in
    absurd (omega (arith, subst (λ (w : ℕ). bit_at w i ≡ 1) zeros set, bit_at_above 0 0 i (omega arith) (omega arith))))
    (cases_lt j 64)

-- the mask of a block masks the boxes from the block on that hold the place, where no later block up to the last has a bit in all three rows
pub holders_masked : (boxes back : List BoxedSize) (index : BoxIndex) (p : Coordinates) (x y z : List ℕ) (n last : ℕ) → IsIndexed boxes index
    → HasSlab index.x.cuts.items index.x.rows.items p.x x → HasSlab index.y.cuts.items index.y.rows.items p.y y → HasSlab index.z.cuts.items index.z.rows.items p.z z
    → ((j : ℕ) (d : BoxedSize) → j < length back → get_or back j d ≡ get_or boxes (64 * n + j) d) → 64 * n + length back ≤ length boxes → 64 * n + length back ≤ 64 * last + 64
    → ((m : ℕ) → n < m → m ≤ last → common_word x y z m ≡ 0) → MasksHolders back (common_word x y z n) p
holders_masked boxes back index p x y z n last indexed in_x in_y in_z same within short none j d below held =
    let Holds : BoxedSize → Type 0 = λ a. holds a p ≡ true in
    let here : holds (get_or boxes (64 * n + j) d) p ≡ true = subst Holds (same j d below) held in
    bit_of_first (common_word x y z) n j last none (omega arith) (all_marked boxes index p x y z indexed in_x in_y in_z (64 * n + j) d (omega arith) here)

sizes_append : (front back : List BoxedSize) (p : Coordinates) (d : ℕ) → last_or d (sizes_at (front ++ back) p) ≡ last_or (last_or d (sizes_at front p)) (sizes_at back p)
sizes_append [] back p d = refl
sizes_append (b ∷ bs) back p d =
    elim (holds b p) as (λ (test : Bool). last_or d (map (λ (a : BoxedSize). a.size) (cond test (b ∷ filter (λ a. holds a p) (bs ++ back)) (filter (λ a. holds a p) (bs ++ back))))
    ≡ last_or (last_or d (map (λ (a : BoxedSize). a.size) (cond test (b ∷ filter (λ a. holds a p) bs) (filter (λ a. holds a p) bs)))) (sizes_at back p)) [
      | true ↦ sizes_append bs back p b.size
      | false ↦ sizes_append bs back p d
    ]

-- the size behind a place of the list, where it is decided there
pub size_behind : (boxes : List BoxedSize) (n : ℕ) (p : Coordinates) (d size : ℕ) → ((e : ℕ) → last_or e (sizes_at (drop n boxes) p) ≡ size) → last_or d (sizes_at boxes p) ≡ size
size_behind boxes n p d size decided =
    ap (λ (bs : List BoxedSize). last_or d (sizes_at bs p)) (sym (take-append-drop n boxes)) ∙ sizes_append (take n boxes) (drop n boxes) p d ∙ decided (last_or d (sizes_at (take n boxes) p))

-- and before it, where no box behind it holds the place
pub size_before : (boxes : List BoxedSize) (n : ℕ) (p : Coordinates) (d : ℕ) → sizes_at (drop n boxes) p ≡ [] → last_or d (sizes_at (take n boxes) p) ≡ last_or d (sizes_at boxes p)
size_before boxes n p d none =
    sym (ap (λ (bs : List BoxedSize). last_or d (sizes_at bs p)) (sym (take-append-drop n boxes)) ∙ sizes_append (take n boxes) (drop n boxes) p d ∙ ap (last_or (last_or d (sizes_at (take n boxes) p))) none)
