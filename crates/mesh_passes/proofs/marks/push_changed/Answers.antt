use Rattle.std.proofs.Common.{◌≡◌, ◌<◌, ◌++◌, length, IfSome, OnOk, sym, ap, subst, ◌∙◌}
use Rattle.ma_cells.specs.Cells.{corners_of}
use Rattle.mesh_passes.specs.Marking.{first_at, moved_by}
use Rattle.mesh_passes.proofs.Numbered.{is_within, moved_first}
use Rattle.mesh_passes.proofs.marks.push_changed.Goals as goal

pub push_by-requires : goal.push_by-requires
push_by-requires c =
    let ops = c.args.ops.now in
    subst (λ first. IfSome first (λ i. i < length ops)) (sym (c.first_on-first.ensures ∙ (λ i. first_at (c.requires i) (corners_of (c.cell.ensures.value i)))))
    (is_within (corners_of c.args.mark.now.cell) ops)

pub returns : goal.returns
returns c =
    let ops = c.args.ops.now in
    let mark = c.args.mark.now in
    subst (λ marks. OnOk c.push_by.result (c.push_by.new.marks.items ≡ c.args.marks.now.items ++ marks))
    (ap (λ first. moved_by first ops mark) (c.first_on-first.ensures ∙ (λ i. first_at (c.requires i) (corners_of (c.cell.ensures.value i)))) ∙ moved_first mark ops)
    c.push_by.ensures
