use Rattle.std.proofs.Common.{◌∙◌, ap, sym, rules, FitsSigned, Some, None, Ok}
use Rattle.std.specs.Int.{w64}
use Rattle.std.proofs.lemmas.Int.{to_z-of_z}
use Rattle.msh_read.proofs.ElementNumbers.{looked_up}
use Rattle.msh_read.proofs.elements.position.Goals as goal

pub returns-in-Ok : goal.returns-in-Ok
returns-in-Ok c =
    let fits : FitsSigned w64 c.args.number = search rules in
    looked_up c.args.known.now.keys c.args.number _ (Some c.in-Some.index) (to_z-of_z w64 c.args.number fits) c.in-Some.ensures.index ∙ ap (λ i. Ok i) (sym c.in-Ok.ensures.1)

pub returns-in-None : goal.returns-in-None
returns-in-None c =
    let fits : FitsSigned w64 c.args.number = search rules in
    looked_up c.args.known.now.keys c.args.number _ None (to_z-of_z w64 c.args.number fits) c.in-None.ensures.index
