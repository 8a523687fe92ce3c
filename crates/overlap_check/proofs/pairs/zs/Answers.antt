use Rattle.std.proofs.Common.{◌≡◌, length, map, get_or, ap, ◌∙◌, arith}
use Rattle.ma_geom.specs.Volume.{dot}
use Rattle.overlap_check.specs.Forms.{z_axis}
use Rattle.overlap_check.proofs.Values.{four_values, widened_z}
use Rattle.overlap_check.proofs.pairs.zs.Goals as goal

pub returns : goal.returns
returns c =
    let corners = c.corners.result in
    let long : length corners ≡ 4 = omega arith in
    four_values (dot z_axis) corners c.index-corners-0.result c.index-corners-1.result c.index-corners-2.result c.index-corners-3.result _ _ _ _ long
    (widened_z (get_or corners 0 c.index-corners-0.result) _ c.z.ensures.value c.z.ensures.range)
    (widened_z (get_or corners 1 c.index-corners-1.result) _ c.z-2.ensures.value c.z-2.ensures.range)
    (widened_z (get_or corners 2 c.index-corners-2.result) _ c.z-3.ensures.value c.z-3.ensures.range)
    (widened_z (get_or corners 3 c.index-corners-3.result) _ c.z-4.ensures.value c.z-4.ensures.range)
    ∙ ap (map (dot z_axis)) c.corners.ensures.value
