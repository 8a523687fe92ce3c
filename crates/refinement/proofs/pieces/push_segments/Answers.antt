use Rattle.std.proofs.Common.{◌≡◌, ◌<◌, ◌≤◌, ◌++◌, length, map, ap, ◌∙◌, arith}
use Rattle.std.specs.Prelude.{List}
use Rattle.std.proofs.lemmas.List.{take_all}
use Rattle.ma_geom.specs.Coordinates.{Coordinates}
use Rattle.ma_cells.specs.Cells.{CellMark}
use Rattle.ma_cells.specs.declared.cell.Cell.TheVariants.{Seg}
use Rattle.split_templates.specs.Pieces.{pieces_of}
use Rattle.refinement.specs.Refinement.{long_edges}
use Rattle.refinement.proofs.Rising.{its_corners_rise, piece_at, pieces_rise}
use Rattle.refinement.proofs.pieces.push_segments.Goals as goal

pub split_seg-halves-requires : goal.split_seg-halves-requires
split_seg-halves-requires c = its_corners_rise 2 c.args.s c.requires

pub segment-requires : goal.segment-requires
segment-requires c =
    let cells = c.as_slice-cells.result.now in
    let within : c.loop-half.half-index < length cells = omega arith in
    let same : cells ≡ pieces_of (long_edges c.args.field.now c.args.s) c.args.s
    = c.as_slice-cells.ensures.value ∙ c.split_seg-halves.ensures ∙ ap (λ edges. pieces_of edges c.args.s) c.marked_seg.ensures.long in
    piece_at cells (pieces_of (long_edges c.args.field.now c.args.s) c.args.s) c.loop-half.half-index c.half-item.result same within c.half-item.is
    (pieces_rise (long_edges c.args.field.now c.args.s) c.args.s (its_corners_rise 2 c.args.s c.requires))

pub returns : goal.returns
returns c =
    let cells = c.as_slice-cells.result.now in
    let ended : length cells ≤ c.loop-half.half-index = omega arith in
    let marked : List Coordinates → CellMark = λ half. record c.args.mark.now { cell = Seg half } in
    let same : cells ≡ pieces_of (long_edges c.args.field.now c.args.s) c.args.s
    = c.as_slice-cells.ensures.value ∙ c.split_seg-halves.ensures ∙ ap (λ edges. pieces_of edges c.args.s) c.marked_seg.ensures.long in
    c.loop-half.invariant ∙ ap (λ ps. c.args.pieces.now.items ++ map marked ps) (take_all c.loop-half.half-index cells ended ∙ same)
