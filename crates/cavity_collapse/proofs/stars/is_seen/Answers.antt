use Rattle.std.proofs.Common.{◌≡◌, length, arith}
use Rattle.cavity_collapse.proofs.Across.{on_no_face}
use Rattle.cavity_collapse.proofs.stars.is_seen.Goals as goal

pub returns-in-None : goal.returns-in-None
returns-in-None c =
    let four : length c.args.corners ≡ 4 = omega arith in
    on_no_face c.args.a c.args.v c.args.corners four c.in-None.ensures.none
