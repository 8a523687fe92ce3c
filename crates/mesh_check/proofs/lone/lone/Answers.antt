use Rattle.std.proofs.Common.{◌∙◌, ap, None}
use Rattle.mesh_check.specs.steps.Neighbours.{lone_after}
use Rattle.mesh_check.proofs.Alone.{lone-sorted}
use Rattle.mesh_check.proofs.lone.lone.Goals as goal

pub returns : goal.returns
returns g c test =
    lone-sorted g.met.T.Ord.total test c.args.items.items _ c.in_ok-found.found.items c.sort_unstable.ensures.permutation c.sort_unstable.ensures.sorted (c.in_ok-found.ensures ∙ ap (lone_after g.T.Ord.cmp None) c.as_slice.ensures.value)
