use Rattle.std.proofs.Common.{ap, ◌∙◌}
use Rattle.msh_write.specs.PartText.{member_cmp}
use Rattle.ma_cells.specs.Ascending.{ascending_of}
use Rattle.msh_write.proofs.Holding.{member_cmp-IsAntisymmetric, members-added}
use Rattle.msh_write.proofs.members.members.Goals as goal

pub returns : goal.returns
returns c =
    c.gather.ensures.is member_cmp-IsAntisymmetric
    ∙ ap (ascending_of member_cmp) (members-added _ _ _ _ _ _ _ c.new-members.ensures.items c.as_slice.ensures.items c.as_slice-2.ensures.items c.in_ok-add_own.ensures c.in_ok-add_ghosts.ensures)
