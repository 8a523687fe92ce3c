use Rattle.std.proofs.Common.{◌++◌, codes, ap, ◌∙◌, map, sym}
use Rattle.std.proofs.lemmas.List.{length-map}
use Rattle.std.proofs.lemmas.Result.{IfOk-equal}
use Rattle.msh_write.specs.Text.{ended, name_line}
use Rattle.msh_write.proofs.TextLines.{no-names, section-written, some-names}
use Rattle.msh_write.proofs.lines.put_names.Goals as goal

pub returns-then-is_empty : goal.returns-then-is_empty
returns-then-is_empty c = no-names c.args.names.now _ (sym c.is_empty.ensures ∙ c.if-is_empty.true)

pub returns : goal.returns
returns c =
    IfOk-equal _ _ _ _ c.put_bytes-3.ensures
    (section-written (codes "PhysicalNames") (map name_line c.args.names.now) _ _ _ _ _ _ (length-map c.args.names.now name_line)
    c.in_ok-put_bytes.ensures c.in_ok-put_number.ensures c.in_ok-put_bytes-2.ensures c.in_ok-put_name_lines.ensures
    ∙ ap (λ lines. c.args.out.now.items ++ ended lines) (some-names c.args.names.now (sym c.is_empty.ensures ∙ c.if-is_empty.false)))
