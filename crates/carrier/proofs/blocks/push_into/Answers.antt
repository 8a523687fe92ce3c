use Rattle.std.proofs.Common.{◌-◌, arith}
use Rattle.carrier.proofs.Cutting.{push_last}
use Rattle.carrier.proofs.blocks.push_into.Goals as goal

pub returns-then-len-lt-BLOCK-clause-done : goal.returns-then-len-lt-BLOCK-clause-done
returns-then-len-lt-BLOCK-clause-done c =
    push_last c.args.blocks.now.items (c.len-count.result - 1) c.index_mut-last.result.now c.push.new.self c.args.waiting (omega arith) c.index_mut-last.ensures.value c.in_ok-push.ensures.done
