use Rattle.std.proofs.Common.{◌≡◌, length, get_or, subst, arith}
use Rattle.ma_geom.specs.Coordinates.{Coordinates}
use Rattle.std.specs.Prelude.{List}
use Rattle.overlap_check.specs.Forms.{z_axis}
use Rattle.overlap_check.specs.steps.Boxes.{IsSpan}
use Rattle.overlap_check.proofs.Spans.{spanned, within_z}
use Rattle.overlap_check.proofs.boxes.z_span.Goals as goal

pub returns : goal.returns
returns c =
    let corners = c.corners.result in
    let span = c.around.result in
    let long : length corners ≡ 4 = omega arith in
    subst (λ (places : List Coordinates). IsSpan z_axis places span) c.corners.ensures.value
    (spanned z_axis corners c.index-corners-0.result c.index-corners-1.result c.index-corners-2.result c.index-corners-3.result span long
    (within_z (get_or corners 0 c.index-corners-0.result) c.z.result span c.z.ensures.value c.z.ensures.range c.around.ensures.first)
    (within_z (get_or corners 1 c.index-corners-1.result) c.z-2.result span c.z-2.ensures.value c.z-2.ensures.range c.around.ensures.second)
    (within_z (get_or corners 2 c.index-corners-2.result) c.z-3.result span c.z-3.ensures.value c.z-3.ensures.range c.around.ensures.third)
    (within_z (get_or corners 3 c.index-corners-3.result) c.z-4.result span c.z-4.ensures.value c.z-4.ensures.range c.around.ensures.fourth)
    c.around.ensures.stored)
