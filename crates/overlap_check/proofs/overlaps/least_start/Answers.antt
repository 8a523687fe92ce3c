use Rattle.std.proofs.Common.{◌≡◌, ◌+◌, ◌-◌, inr, drop, length, subst, sym, arith}
use Rattle.std.proofs.lemmas.List.{length-drop, take_all}
use Rattle.overlap_check.specs.steps.Cubes.{touch_at}
use Rattle.overlap_check.specs.steps.Pairs.{IsStart}
use Rattle.overlap_check.proofs.Looking.{looked_more, none_found}
use Rattle.overlap_check.proofs.overlaps.least_start.Goals as goal
use Rattle.overlap_check.proofs.overlaps.least_start.Goals.{then-start-least+then-overlaps_later, else-start-least, else-start-least-via-then-start-least+else-overlaps_later, else-start-least-via-else-start-least}

pub loop-i-preserved : goal.loop-i-preserved
loop-i-preserved c =
    let k = c.args.cubes.now.shift in
    let tets = c.args.tets.now in
    let boxes = c.args.boxes.now in
    let touches = c.args.touches.now in
    let i = c.loop-i.i in
    elim c.if-start-least.branch [
      | then-start-least+then-overlaps_later w ↦ (
          let is : c.if-start-least.least ≡ (touch_at touches i).tet = w.least-is in
          record {
            start = subst (IsStart tets) (sym is) (inr (w.overlaps_later.ensures.found w.if-overlaps_later.true));
            least = looked_more k tets boxes touches i c.loop-i.least c.if-start-least.least c.loop-i.invariant.least (omega arith) (λ q found. omega arith);
          }
          )
      | else-start-least w ↦ record {
        start = subst (IsStart tets) (sym w.least-is) c.loop-i.invariant.start;
        least = looked_more k tets boxes touches i c.loop-i.least c.if-start-least.least c.loop-i.invariant.least (omega arith) (λ q found. elim w.else-start-least.branch [
          | else-start-least-via-then-start-least+else-overlaps_later v ↦ absurd (none_found k tets boxes touches _ i q (take_all (length touches - (i + 1)) (drop (i + 1) touches) (omega (arith, length-drop (i + 1) touches))) (v.overlaps_later.ensures.missed v.if-overlaps_later.false) found)
          | else-start-least-via-else-start-least v ↦ (let above = v.if-start-least.false in omega arith)
        ]);
      }
    ]
