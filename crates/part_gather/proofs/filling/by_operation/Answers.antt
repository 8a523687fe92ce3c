use Rattle.std.proofs.Common.{◌<◌, ◌≤◌, ◌⊎◌, inl, inr, length, rules, subst}
use Rattle.std.specs.List.Sorted.{IsStrictlySortedBy}
use Rattle.ma_cells.specs.contracts.cell.MarkOrd.TheImpl as MarkOrder
use Rattle.part_gather.proofs.Changing.{all_stay}
use Rattle.part_gather.proofs.Found.{rises_here}
use Rattle.part_gather.proofs.filling.by_operation.Goals.{in_default-via-then-at-lt1, in_default-via-else-at-lt1+else-this-lt2}
use Rattle.part_gather.proofs.filling.by_operation.Goals as goal

pub returns-in_ok-by_swap-in_default-clause-marks :
    goal.returns-in_ok-by_swap-in_default-clause-marks
returns-in_ok-by_swap-in_default-clause-marks c =
    let two : (length c.args.op.now.at < 1) ⊎ (2 ≤ length c.args.op.now.at) = elim c.in_default.branch [
      | in_default-via-then-at-lt1 w ↦ inl (search rules)
      | in_default-via-else-at-lt1+else-this-lt2 w ↦ inr (search rules)
    ] in
    all_stay c.args.op.now.at c.args.op.now.apex c.args.marks two (rises_here c.args.marks (subst (λ marks. IsStrictlySortedBy MarkOrder.ghosts.cmp marks) c.marks.view_is c.marks.invariant))
