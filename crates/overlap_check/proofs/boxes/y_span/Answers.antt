use Rattle.std.proofs.Common.{◌≡◌, length, get_or, subst, arith}
use Rattle.ma_geom.specs.Coordinates.{Coordinates}
use Rattle.std.specs.Prelude.{List}
use Rattle.overlap_check.specs.Forms.{y_axis}
use Rattle.overlap_check.specs.steps.Boxes.{IsSpan}
use Rattle.overlap_check.proofs.Spans.{spanned, within_y}
use Rattle.overlap_check.proofs.boxes.y_span.Goals as goal

pub returns : goal.returns
returns c =
    let corners = c.corners.result in
    let span = c.around.result in
    let long : length corners ≡ 4 = omega arith in
    subst (λ (places : List Coordinates). IsSpan y_axis places span) c.corners.ensures.value
    (spanned y_axis corners c.index-corners-0.result c.index-corners-1.result c.index-corners-2.result c.index-corners-3.result span long
    (within_y (get_or corners 0 c.index-corners-0.result) c.y.result span c.y.ensures.value c.y.ensures.range c.around.ensures.first)
    (within_y (get_or corners 1 c.index-corners-1.result) c.y-2.result span c.y-2.ensures.value c.y-2.ensures.range c.around.ensures.second)
    (within_y (get_or corners 2 c.index-corners-2.result) c.y-3.result span c.y-3.ensures.value c.y-3.ensures.range c.around.ensures.third)
    (within_y (get_or corners 3 c.index-corners-3.result) c.y-4.result span c.y-4.ensures.value c.y-4.ensures.range c.around.ensures.fourth)
    c.around.ensures.stored)
