use Rattle.std.proofs.Common.{ℕ, ℤ, ◌≡◌, ◌+◌, ◌-◌, ◌*◌, ◌/◌, ◌<◌, List, length, get_or, take, drop, length-take, length-drop, sym, ap, subst, ◌∙◌, arith}
use Rattle.std.proofs.lemmas.List.{get_or-drop, get_or-take}
use Rattle.size_marks.specs.Field.{BoxedSize, last_or, sizes_at}
use Rattle.size_marks.specs.steps.Slabs.{HasSlab, MasksHolders}
use Rattle.size_marks.proofs.Blocks.{holders_masked, size_behind, size_before}
use Rattle.size_marks.proofs.looking.size_by_index.Goals as goal

abbrev Fronts : List BoxedSize → List BoxedSize → Type 0
Fronts front boxes = (k : ℕ) (d : BoxedSize) → k < length front → get_or front k d ≡ get_or boxes k d

block_at : (n : ℕ) (before boxes : List BoxedSize) → Fronts before boxes → (j : ℕ) (d : BoxedSize) → j < length (drop n before) → get_or (drop n before) j d ≡ get_or boxes (n + j) d
block_at n before boxes same j d within = get_or-drop n before j d ∙ same (n + j) d (omega (arith, length-drop n before))

front_at : (n : ℕ) (before boxes : List BoxedSize) → Fronts before boxes → Fronts (take n before) boxes
front_at n before boxes same k d within = get_or-take n before k d (omega (arith, length-take n before)) ∙ same k d (omega (arith, length-take n before))

pub size_in_block-requires : goal.size_in_block-requires
size_in_block-requires c =
    let before = c.loop-x.before.now in
    let boxes = c.args.boxes.now in
    let last = (length before - 1) / 64 in
    let n = c.last_met-number.result in
    let back = c.split_at.result.1.now in
    let Same : List BoxedSize → Type 0 = λ bs. (j : ℕ) (d : BoxedSize) → j < length bs → get_or bs j d ≡ get_or boxes (64 * n + j) d in
    let same = subst Same (sym c.split_at.ensures.back) (block_at (64 * n) before boxes c.loop-x.invariant.first) in
    let long = ap length c.split_at.ensures.back ∙ length-drop (64 * n) before in
    let index = c.args.index.now in
    let p = c.args.p in
    let In : List ℤ → List (List ℕ) → ℤ → List ℕ → Type 0 = HasSlab in
    let in_x = subst (In index.x.cuts.items index.x.rows.items p.x) (sym c.words-x.ensures) c.row_at.ensures in
    let in_y = subst (In index.y.cuts.items index.y.rows.items p.y) (sym c.words-y.ensures) c.row_at-2.ensures in
    let in_z = subst (In index.z.cuts.items index.z.rows.items p.z) (sym c.words-z.ensures) c.row_at-3.ensures in
    let up_to = c.last_met-number.ensures in
    let Masks : ℕ → Type 0 = λ mask. MasksHolders back mask p in
    subst Masks (sym c.mask_of.ensures)
    (holders_masked boxes back index p c.words-x.result.now c.words-y.result.now c.words-z.result.now n last c.requires.indexed in_x in_y in_z same
    (omega (arith, long, c.loop-x.invariant.within)) (omega (arith, long)) up_to.behind)

pub returns-in-Some-clause-value : goal.returns-in-Some-clause-value
returns-in-Some-clause-value c =
    let before = c.loop-x.before.now in
    let Decides : List BoxedSize → Type 0 = λ bs. (d : ℕ) → last_or d (sizes_at bs c.args.p) ≡ c.in-Some.size in
    let decided = subst Decides c.split_at.ensures.back c.in-Some.ensures.0 in
    sym (size_behind before (64 * c.last_met-number.result) c.args.p c.args.default c.in-Some.size decided) ∙ c.loop-x.invariant.size

pub loop-x-preserved : goal.loop-x-preserved
loop-x-preserved c =
    let before = c.loop-x.before.now in
    let n = 64 * c.last_met-number.result in
    let front = c.split_at.ensures.front in
    let First : List BoxedSize → Type 0 = λ bs. Fronts bs c.args.boxes.now in
    record {
      within = omega (arith, ap length front, length-take n before, c.loop-x.invariant.within);
      first = subst First (sym front) (front_at n before c.args.boxes.now c.loop-x.invariant.first);
      size = ap (λ (bs : List BoxedSize). last_or c.args.default (sizes_at bs c.args.p)) front
          ∙ size_before before n c.args.p c.args.default (ap (λ (bs : List BoxedSize). sizes_at bs c.args.p) (sym c.split_at.ensures.back) ∙ c.in_default.ensures)
          ∙ c.loop-x.invariant.size;
    }
