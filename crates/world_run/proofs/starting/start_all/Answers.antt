use Rattle.std.proofs.Common.{rules, ◌≡◌, ◌∙◌, ℕ, List, [], ◌∷◌, ◌++◌, ap₂, sym}
use Rattle.part_core.specs.Parts.{PartState, first_part}
use Rattle.part_store.specs.Labelled.{own_of}
use Rattle.world_run.specs.Meshes.{labelled_mesh}
use Rattle.world_run.proofs.Beginnings.{parts_more}
use Rattle.world_run.proofs.starting.start_all.Goals as goal

pub loop-number-preserved : goal.loop-number-preserved
loop-number-preserved c =
    let whole = labelled_mesh c.args.mesh.now c.args.labels.now in
    let first : ℕ → PartState = λ p. first_part p c.args.course.now (own_of whole p) whole.marks in
    let parts : List PartState = c.loop-number.parts.items in
    let grown : c.push.new.self.items ≡ parts ++ c.in_ok-part.part ∷ [] = search rules in
    grown ∙ ap₂ (λ (ps : List PartState) (p : PartState). ps ++ p ∷ []) c.loop-number.invariant c.in_ok-part.ensures ∙ sym (parts_more first c.loop-number.number)
