use Rattle.std.proofs.Common.{◌++◌, ◌∙◌, ap}
use Rattle.std.proofs.lemmas.Result.{IfOk-equal}
use Rattle.msh_write.specs.PartText.{resident_tags}
use Rattle.msh_write.proofs.Holding.{tags-from-first}
use Rattle.msh_write.proofs.part.add_holder_tags.Goals as goal

pub returns-in_ok-parts-in-Some : goal.returns-in_ok-parts-in-Some
returns-in_ok-parts-in-Some c =
    let found = c.in-Some.ensures.found in
    IfOk-equal _ _ _ _ c.add_residents.ensures
    (ap (λ parts. c.args.tags.now.items ++ resident_tags parts) (c.as_slice.ensures.items ∙ c.in_ok-parts-in-Some.ensures)
    ∙ ap (λ tags. c.args.tags.now.items ++ tags) (tags-from-first c.args.part c.args.holders.now c.args.cell c.in-Some.first c.requires found.0 found.1))
