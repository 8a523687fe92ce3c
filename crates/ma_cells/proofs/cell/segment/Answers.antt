use Rattle.std.proofs.Common.{◌≡◌, ◌∙◌, sym, length, arith}
use Rattle.ma_cells.proofs.Cornered.{cell_of-sorted, cell_of-twice, cell_on-two}
use Rattle.ma_cells.proofs.cell.segment.Goals as goal

pub returns-then-are_ascending : goal.returns-then-are_ascending
returns-then-are_ascending c =
    let whole : length c.sort_unstable.new.self ≡ 2 = omega arith in
    cell_on-two c.sort_unstable.new.self whole
    ∙ sym (cell_of-sorted c.args.ends c.sort_unstable.new.self c.sort_unstable.ensures.permutation (sym c.are_ascending.ensures ∙ c.if-are_ascending.true))

pub returns-else-are_ascending : goal.returns-else-are_ascending
returns-else-are_ascending c =
    cell_of-twice c.args.ends c.sort_unstable.new.self c.sort_unstable.ensures.permutation c.sort_unstable.ensures.sorted
    (sym c.are_ascending.ensures ∙ c.if-are_ascending.false)
