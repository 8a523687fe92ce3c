use Rattle.std.proofs.Common.{sym, ◌∙◌, arith}
use Rattle.mesh_check.proofs.Apart.{places_within}
use Rattle.mesh_check.proofs.acceptance.apart.Goals as goal

pub overflow_add-result : goal.overflow_add-result
overflow_add-result c =
    let within = places_within c.args.tets.now (c.in-Ok-Some.first, c.in-Ok-Some.second) (sym c.in-Ok-Some.ensures ∙ c.in-Ok-Some.field-0-is) in
    omega (arith, within.0)

pub overflow_add-result-in-Ok-Some : goal.overflow_add-result-in-Ok-Some
overflow_add-result-in-Ok-Some c =
    let within = places_within c.args.tets.now (c.in-Ok-Some.first, c.in-Ok-Some.second) (sym c.in-Ok-Some.ensures ∙ c.in-Ok-Some.field-0-is) in
    omega (arith, within.1)
