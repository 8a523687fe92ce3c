use Rattle.std.proofs.Common.{ap, ◌∙◌}
use Rattle.std.specs.List.{list_all}
use Rattle.cavity_collapse.specs.Steps.{edge_stays_short}
use Rattle.cavity_collapse.proofs.Ends.{by_ends}
use Rattle.cavity_collapse.proofs.stars.edges_to_others_stay_short.Goals as goal

pub returns : goal.returns
returns c =
    c.all_stay_short.ensures ∙ ap (list_all (edge_stays_short c.args.field.now c.args.star.now c.args.v)) c.requires ∙ by_ends c.args.field.now c.args.a c.args.v c.args.star.now
