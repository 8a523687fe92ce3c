use Rattle.std.proofs.Common.{◌≡◌, ◌<◌, ◌≤◌, ◌++◌, length, map, ap, ◌∙◌, arith}
use Rattle.std.specs.Prelude.{List}
use Rattle.std.proofs.lemmas.List.{take_all}
use Rattle.ma_geom.specs.Coordinates.{Coordinates}
use Rattle.ma_cells.specs.Cells.{CellMark}
use Rattle.ma_cells.specs.declared.cell.Cell.TheVariants.{Tri}
use Rattle.split_templates.specs.Pieces.{pieces_of}
use Rattle.refinement.specs.Refinement.{long_edges}
use Rattle.refinement.proofs.Rising.{its_corners_rise, piece_at, pieces_rise}
use Rattle.refinement.proofs.pieces.push_triangles.Goals as goal

pub triangle-requires : goal.triangle-requires
triangle-requires c =
    let cells = c.as_slice-cells.result.now in
    let within : c.loop-part.part-index < length cells = omega arith in
    let same : cells ≡ pieces_of (long_edges c.args.field.now c.args.t) c.args.t
    = c.as_slice-cells.ensures.value ∙ c.split_tri-parts.ensures ∙ ap (λ edges. pieces_of edges c.args.t) c.marked_tri.ensures.long in
    piece_at cells (pieces_of (long_edges c.args.field.now c.args.t) c.args.t) c.loop-part.part-index c.part-item.result same within c.part-item.is
    (pieces_rise (long_edges c.args.field.now c.args.t) c.args.t (its_corners_rise 3 c.args.t c.requires.cell))

pub returns : goal.returns
returns c =
    let cells = c.as_slice-cells.result.now in
    let ended : length cells ≤ c.loop-part.part-index = omega arith in
    let marked : List Coordinates → CellMark = λ part. record c.args.mark.now { cell = Tri part } in
    let same : cells ≡ pieces_of (long_edges c.args.field.now c.args.t) c.args.t
    = c.as_slice-cells.ensures.value ∙ c.split_tri-parts.ensures ∙ ap (λ edges. pieces_of edges c.args.t) c.marked_tri.ensures.long in
    c.loop-part.invariant ∙ ap (λ ps. c.args.pieces.now.items ++ map marked ps) (take_all c.loop-part.part-index cells ended ∙ same)
