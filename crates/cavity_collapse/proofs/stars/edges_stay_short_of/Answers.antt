use Rattle.std.proofs.Common.{not}
use Rattle.size_marks.specs.Field.{is_long}
use Rattle.cavity_collapse.proofs.Across.{all_across}
use Rattle.cavity_collapse.proofs.stars.edges_stay_short_of.Goals as goal

pub returns-else-has : goal.returns-else-has
returns-else-has c =
    rw (← c.corners-corners.ensures.value, ← c.has.ensures, c.if-has.false, ← all_across (λ x. not (is_long c.args.field.now c.args.v x)) c.args.a c.corners-corners.result) c.stays_short.ensures
