use Rattle.std.proofs.Common.{◌≡◌, length, map, get_or, ap, ◌∙◌, arith}
use Rattle.ma_geom.specs.Volume.{dot}
use Rattle.overlap_check.specs.Forms.{x_axis}
use Rattle.overlap_check.proofs.Values.{four_values, widened_x}
use Rattle.overlap_check.proofs.pairs.xs.Goals as goal

pub returns : goal.returns
returns c =
    let corners = c.corners.result in
    let long : length corners ≡ 4 = omega arith in
    four_values (dot x_axis) corners c.index-corners-0.result c.index-corners-1.result c.index-corners-2.result c.index-corners-3.result _ _ _ _ long
    (widened_x (get_or corners 0 c.index-corners-0.result) _ c.x.ensures.value c.x.ensures.range)
    (widened_x (get_or corners 1 c.index-corners-1.result) _ c.x-2.ensures.value c.x-2.ensures.range)
    (widened_x (get_or corners 2 c.index-corners-2.result) _ c.x-3.ensures.value c.x-3.ensures.range)
    (widened_x (get_or corners 3 c.index-corners-3.result) _ c.x-4.ensures.value c.x-4.ensures.range)
    ∙ ap (map (dot x_axis)) c.corners.ensures.value
