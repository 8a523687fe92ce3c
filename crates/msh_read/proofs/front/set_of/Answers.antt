use Rattle.std.proofs.Common.{◌∙◌}
use Rattle.msh_read.specs.GroupNames.{name_cmp}
use Rattle.msh_read.proofs.Dimensions.{set_keeps}
use Rattle.msh_read.proofs.NameOrder.{name_cmp-IsAntisymmetric}
use Rattle.msh_read.proofs.front.set_of.Goals as goal

pub returns-clause-dimensions : goal.returns-clause-dimensions
returns-clause-dimensions c =
    set_keeps name_cmp c.args.names.items c.into_vec.result.items (c.into_vec.ensures.items ∙ c.gather.ensures.is name_cmp-IsAntisymmetric) c.requires

pub returns-clause-value : goal.returns-clause-value
returns-clause-value c = c.into_vec.ensures.items ∙ c.gather.ensures.is name_cmp-IsAntisymmetric
