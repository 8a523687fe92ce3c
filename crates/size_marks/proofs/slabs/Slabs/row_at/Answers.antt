use Rattle.std.proofs.Common.{ℤ, List, subst, ◌∙◌, to_z, of_z, w32, arith}
use Rattle.size_marks.specs.steps.Slabs.{IsInSlab}
use Rattle.size_marks.proofs.Stored.{stored}
use Rattle.size_marks.proofs.slabs.Slabs.row_at.Goals as goal

pub returns : goal.returns
returns c =
    let slab = c.slab_of-slab.result in
    let Cut : List ℤ → Type 0 = λ cuts. IsInSlab cuts slab (to_z w32 (of_z w32 c.coordinate.result)) in
    let Lies : ℤ → Type 0 = λ x. IsInSlab c.args.self.now.cuts.items slab x in
    let lies = subst Lies (stored c.coordinate.result c.coordinate.ensures.range ∙ c.coordinate.ensures.value) (subst Cut c.deref.ensures.value c.slab_of-slab.ensures) in
    (slab, omega (arith, lies.within, c.requires), lies, c.index.ensures)
