use Rattle.std.proofs.Common.{◌≡◌, ◌∙◌, ap, sym, true, Some, pos, get_or, rules, FitsSigned}
use Rattle.std.specs.Int.{w64}
use Rattle.std.proofs.lemmas.Int.{to_z-of_z}
use Rattle.msh_read.specs.Lines.{is_number, natural}
use Rattle.msh_read.proofs.ElementNumbers.{element_is}
use Rattle.msh_read.proofs.elements.element_from.Goals as goal

pub returns-in_ok-count-in-len3-up : goal.returns-in_ok-count-in-len3-up
returns-in_ok-count-in-len3-up c =
    let xs = c.args.numbers.now in
    let f0 : FitsSigned w64 (get_or xs 0 (pos 0)) = search rules in
    let f1 : FitsSigned w64 (get_or xs 1 (pos 0)) = search rules in
    let f2 : FitsSigned w64 (get_or xs 2 (pos 0)) = search rules in
    let e0 = to_z-of_z w64 (get_or xs 0 (pos 0)) f0 in
    let e1 = to_z-of_z w64 (get_or xs 1 (pos 0)) f1 in
    let e2 = to_z-of_z w64 (get_or xs 2 (pos 0)) f2 in
    let known : c.is_number.result ≡ true = search rules in
    let number : is_number (get_or xs 0 (pos 0)) ≡ true = ap is_number (sym e0) ∙ sym c.is_number.ensures ∙ known in
    let tags : natural (get_or xs 2 (pos 0)) ≡ Some c.in_ok-count-in-len3-up.count = ap natural (sym e2) ∙ sym c.natural.ensures.value ∙ c.in_ok-count-in-len3-up.ensures.ok_part in
    let it = element_is c.args.known.now.keys xs c.in_ok-count-in-len3-up.count c.in-len3-up.len_at_least number tags in
    rw it (rw e1 at c.element_at.ensures)
