use Rattle.std.proofs.Common.{ℕ, ◌≡◌, ◌-◌, ◌*◌, ◌%◌, ◌^◌, ◌<◌, bit_and, refl, sym, ap, subst, pow_pos, mod-lt, arith}
use Rattle.std.proofs.lemmas.Nat.{and_mask, one_shl}
use Rattle.size_marks.specs.steps.Slabs.{MasksHolders}
use Rattle.size_marks.proofs.Holders.{IsTop, decides_last, decides_none, masks_less, top_of}
use Rattle.size_marks.proofs.looking.size_in_block.Goals as goal

-- the mask of the bits below one, as the code makes it
below_is : (n : ℕ) → n < 64 → 1 * 2 ^ n % 18446744073709551616 - 1 ≡ 2 ^ n - 1
below_is n small = ap (λ (k : ℕ). k - 1) (one_shl n 64 small)

falls : (mask n : ℕ) → IsTop mask n → bit_and mask (2 ^ n - 1) < mask
falls mask n top =
    let least = top.low in
    let some : 0 < 2 ^ n = pow_pos n in
    omega (arith, and_mask mask n, mod-lt mask some)

pub returns-in-Some : goal.returns-in-Some
returns-in-Some c =
    let left = c.loop-left.left in
    decides_last c.args.boxes.now left c.args.p _ c.in-Some.size c.loop-left.invariant (top_of left _ (omega arith) (omega arith) refl) c.in-Some.ensures

pub loop-left-smaller : goal.loop-left-smaller
loop-left-smaller c =
    let left = c.loop-left.left in
    let top = top_of left _ (omega arith) (omega arith) refl in
    let Falls : ℕ → Type 0 = λ k. bit_and left k < left in
    subst Falls (sym (below_is _ top.within)) (falls left _ top)

pub loop-left-preserved : goal.loop-left-preserved
loop-left-preserved c =
    let left = c.loop-left.left in
    let top = top_of left _ (omega arith) (omega arith) refl in
    let Masks : ℕ → Type 0 = λ k. MasksHolders c.args.boxes.now (bit_and left k) c.args.p in
    subst Masks (sym (below_is _ top.within)) (masks_less c.args.boxes.now left c.args.p _ c.loop-left.invariant top c.in_default.ensures)

pub returns : goal.returns
returns c = decides_none c.args.boxes.now c.loop-left.left c.args.p c.loop-left.invariant c.loop-left-test.false
