use Rattle.std.proofs.Common.{◌∷◌, [], ◌++◌, ap, ◌∙◌, arith, flat_map}
use Rattle.std.proofs.lemmas.List.{take_all}
use Rattle.msh_write.specs.Text.{name_line}
use Rattle.msh_write.proofs.TextLines.{ended-map}
use Rattle.msh_write.proofs.lines.put_name_lines.Goals as goal

pub returns : goal.returns
returns c =
    c.loop-name.invariant
    ∙ ap (λ names. c.args.out.now.items ++ flat_map (λ name. name_line name ++ 10 ∷ []) names) (take_all c.loop-name.name-index c.args.names.now (omega arith))
    ∙ ap (λ r. c.args.out.now.items ++ r) (ended-map name_line c.args.names.now)
