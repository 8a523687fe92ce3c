use Rattle.std.proofs.Common.{rules, ◌≡◌, length, map, ap, ◌∙◌, arith}
use Rattle.std.specs.Prelude.{FitsSigned}
use Rattle.std.specs.Int.{w128}
use Rattle.ma_geom.specs.Volume.{dot}
use Rattle.overlap_check.proofs.Values.{four_values, stored}
use Rattle.overlap_check.proofs.pairs.values.Goals as goal

pub returns : goal.returns
returns c =
    let long : length c.corners.result ≡ 4 = omega arith in
    let first : FitsSigned w128 c.at.result = search rules in
    let second : FitsSigned w128 c.at-2.result = search rules in
    let third : FitsSigned w128 c.at-3.result = search rules in
    let fourth : FitsSigned w128 c.at-4.result = search rules in
    four_values (dot c.args.n) c.corners.result c.index-corners-0.result c.index-corners-1.result c.index-corners-2.result c.index-corners-3.result _ _ _ _ long
    (stored c.at.result first ∙ c.at.ensures)
    (stored c.at-2.result second ∙ c.at-2.ensures)
    (stored c.at-3.result third ∙ c.at-3.ensures)
    (stored c.at-4.result fourth ∙ c.at-4.ensures)
    ∙ ap (map (dot c.args.n)) c.corners.ensures.value
