use Rattle.std.proofs.Common.{List, ℕ, sym, subst, rules}
use Rattle.size_marks.specs.steps.Slabs.{IsMarked}
use Rattle.size_marks.proofs.Bits.{kept, marked}
use Rattle.size_marks.proofs.slabs.Row.mark.Goals as goal

pub returns-clause-kept : goal.returns-clause-kept
returns-clause-kept c = λ i was.
    let P : List ℕ → Type 0 = λ row. IsMarked row i in
    kept c.self.inside.words.items _ c.index_mut.result.now _ c.index_mut.ensures.value (search rules) i (subst P (sym c.self.view_is) was)

pub returns-clause-marked : goal.returns-clause-marked
returns-clause-marked c = marked c.self.inside.words.items c.args.k c.index_mut.result.now (search rules)
