use Rattle.std.proofs.Common.{◌≡◌, ◌<◌, ℕ, List, [], length, get_or, subst, sym, arith}
use Rattle.std.proofs.lemmas.List.{get_or_default}
use Rattle.overlap_check.specs.declared.cubes.Touch.{Touch}
use Rattle.overlap_check.specs.steps.Cubes.{Adds, IsTouchBefore, no_box}
use Rattle.overlap_check.proofs.Adding.{adds_moved, boxes_more, boxes_none}
use Rattle.overlap_check.proofs.CubeOrder.{in_order}
use Rattle.overlap_check.proofs.cubes.touches.Goals as goal

pub loop-place-init : goal.loop-place-init
loop-place-init c = subst (λ (l : List Touch). Adds [] l (IsTouchBefore c.args.cubes.now.shift 0 c.args.boxes.now)) (sym c.in_ok-touches.ensures.items) (boxes_none c.args.cubes.now.shift c.args.boxes.now)

pub loop-place-preserved : goal.loop-place-preserved
loop-place-preserved c =
    let boxes = c.args.boxes.now in
    let place = c.loop-place.place in
    let r = get_or boxes place no_box in
    let within : place < length boxes = omega arith in
    boxes_more _ _ c.args.cubes.now.shift place boxes r c.loop-place.invariant c.in_ok-push_touched.ensures within (get_or_default boxes place no_box r within)

pub returns-clause-touches : goal.returns-clause-touches
returns-clause-touches c =
    let boxes = c.args.boxes.now in
    let ended : c.loop-place.place ≡ length boxes = omega arith in
    adds_moved [] c.loop-place.touches.items _ _ (subst (λ (n : ℕ). Adds [] c.loop-place.touches.items (IsTouchBefore c.args.cubes.now.shift n boxes)) ended c.loop-place.invariant) c.sort_unstable.ensures.permutation

pub returns-clause-order : goal.returns-clause-order
returns-clause-order c = in_order _ c.sort_unstable.ensures.sorted
