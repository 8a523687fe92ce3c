use Rattle.std.proofs.Common.{◌∙◌, ap}
use Rattle.mesh_check.specs.steps.Ties.{lowest_tie}
use Rattle.mesh_check.proofs.Tied.{lowest_tie-is, numbered_cmp-IsAntisymmetric}
use Rattle.mesh_check.proofs.pairs.first_pair.Goals as goal

pub returns : goal.returns
returns g c exact =
    c.lowest_tie.ensures ∙ ap (lowest_tie g.K.Ord.cmp) (c.as_slice-2.ensures.items ∙ c.gather.ensures.is (numbered_cmp-IsAntisymmetric exact)) ∙ lowest_tie-is g.met.K.Ord.total c.args.items.items c.requires
