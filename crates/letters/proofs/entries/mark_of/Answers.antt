use Rattle.std.proofs.Common.{sym, ◌∙◌, w32}
use Rattle.std.proofs.lemmas.Int.{to_z-of_z}
use Rattle.letters.proofs.Marks.{cell_is, mark_is}
use Rattle.letters.proofs.entries.mark_of.Goals as goal

pub unreachable-requires : goal.unreachable-requires
unreachable-requires c = let e = sym c.in-None.is ∙ c.new.ensures.value ∙ cell_is c.args.corners.now c.requires.least c.requires.most c.requires.rises in absurd cc

pub returns : goal.returns
returns c =
    mark_is c.args.corners.now c.in-Some.cell c.args.phys c.args.elem _ _ c.new-in-Some.result (sym c.in-Some.is ∙ c.new.ensures.value ∙ cell_is c.args.corners.now c.requires.least c.requires.most c.requires.rises)
    (to_z-of_z w32 c.args.phys c.ranges.phys) (to_z-of_z w32 c.args.elem c.ranges.elem) c.new-in-Some.ensures
