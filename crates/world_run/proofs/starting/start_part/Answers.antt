use Rattle.std.proofs.Common.{◌≡◌, ◌∙◌, ap}
use Rattle.std.proofs.lemmas.Result.{IfOk-weaker}
use Rattle.part_core.specs.Parts.{PartState, first_part}
use Rattle.part_store.specs.Labelled.{own_of}
use Rattle.world_run.specs.Meshes.{labelled_mesh}
use Rattle.world_run.proofs.Beginnings.{listed, same_part}
use Rattle.world_run.proofs.starting.start_part.Goals as goal

pub returns : goal.returns
returns c =
    let number = c.args.number in
    let course = c.args.course.now in
    let mesh = c.args.mesh.now in
    let labels = c.args.labels.now in
    let own : c.in_ok-own.own.items ≡ listed mesh.tets labels number = c.in_ok-own.ensures ∙ ap (λ tets. listed tets labels number) c.tets.ensures.value in
    let made : first_part number c.in_ok-copy.copy c.deref.result.now c.marks.result.now ≡ first_part number course c.in_ok-own.own.items mesh.marks
    = (λ i. first_part number (c.in_ok-copy.ensures i) (c.deref.ensures.value i) (c.marks.ensures.value i)) in
    let whole = labelled_mesh mesh labels in
    IfOk-weaker c.start.result (λ (part : PartState). part ≡ first_part number c.in_ok-copy.copy c.deref.result.now c.marks.result.now) (λ part. part ≡ first_part number course (own_of whole number) whole.marks)
    (λ part is. is ∙ made ∙ same_part mesh labels number course c.in_ok-own.own.items own) c.start.ensures
