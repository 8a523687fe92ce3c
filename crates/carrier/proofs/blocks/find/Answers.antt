use Rattle.std.proofs.Common.{◌≡◌, [], length, take, ap, arith}
use Rattle.std.proofs.Math.Seq.{take-length}
use Rattle.std.proofs.lemmas.List.{get_or_read}
use Rattle.carrier.specs.steps.Kept.{all_of}
use Rattle.carrier.proofs.Cutting.{one_more}
use Rattle.carrier.proofs.blocks.find.Goals as goal

pub returns-then-left-count : goal.returns-then-left-count
returns-then-left-count c =
    let read = get_or_read c.args.blocks.now c.loop-number.number c.index-blocks-number.result c.loop-number-test.true c.index-blocks-number.is [] in
    (c.loop-number-test.true, omega (arith, ap length read), c.loop-number.invariant)

pub loop-number-preserved : goal.loop-number-preserved
loop-number-preserved c =
    let more = one_more c.args.blocks.now c.loop-number.number c.index-blocks-number.result c.loop-number-test.true c.index-blocks-number.is in
    omega (arith, more, c.loop-number.invariant)

pub unreachable-requires : goal.unreachable-requires
unreachable-requires c =
    let blocks = c.args.blocks.now in
    let at_end : c.loop-number.number ≡ length blocks = omega arith in
    let all = ap (λ n. length (all_of (take n blocks))) at_end in
    let whole = ap (λ bs. length (all_of bs)) (take-length blocks) in
    omega (arith, all, whole, c.loop-number.invariant, c.requires)
