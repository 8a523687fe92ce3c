use Rattle.std.proofs.Common.{◌&&◌, rules}
use Rattle.std.proofs.lemmas.Fn.{filter_same}
use Rattle.ma_cells.specs.Ascending.{has}
use Rattle.ma_cells.specs.Cells.{cell_cmp}
use Rattle.mesh_check.proofs.marks.keep_found.Goals as goal

pub returns : goal.returns
returns c test flags =
    filter_same _ (λ mark. has cell_cmp mark.cell c.args.wanted.now && test mark.cell) _ (λ mark b f' k. search (rules, flags)) c.args.marks.items c.retain.new.self.items c.retain.ensures.filtered
