use Rattle.std.proofs.Common.{w32, refl, ◌∙◌}
use Rattle.std.proofs.lemmas.Int.{to_z-of_z}
use Rattle.ma_cells.proofs.Corners.{ascending_is}
use Rattle.letters.proofs.entries.tet_of.Goals as goal

pub returns : goal.returns
returns c =
    let phys = to_z-of_z w32 c.args.phys c.ranges.phys in
    let elem = to_z-of_z w32 c.args.elem c.ranges.elem in
    c.new.ensures ∙ rw (phys, elem, c.four_of.ensures, ascending_is c.args.corners.now c.requires.rises) refl
