use Rattle.std.proofs.Common.{◌≡◌, ◌∙◌, ap, filter}
use Rattle.std.proofs.lemmas.Result.{IfOk-weaker}
use Rattle.ma_cells.specs.Cells.{corners_of}
use Rattle.part_store.specs.Labelled.{marks_on}
use Rattle.part_store.specs.steps.Boxes.{are_within}
use Rattle.part_store.proofs.BoxedPlaces.{far_on_none}
use Rattle.part_store.proofs.marks.drop_far.Goals as goal

pub returns : goal.returns
returns c =
    let tets = c.args.tets.now in
    let marks = c.args.marks.now in
    IfOk-weaker c.marks_within.result (λ near. near.items ≡ filter (λ mark. are_within c.of_tets.result (corners_of mark.cell)) marks) (λ near. marks_on tets near.items ≡ marks_on tets marks)
    (λ near is. ap (marks_on tets) is ∙ far_on_none c.of_tets.result tets marks c.of_tets.ensures) c.marks_within.ensures
