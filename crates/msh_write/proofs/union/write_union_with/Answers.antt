use Rattle.std.proofs.Common.{◌≡◌, ◌∙◌, ◌++◌, [], ap, map}
use Rattle.std.specs.List.{filter}
use Rattle.msh_write.specs.Text.{elements_of, is_tagged, mark_element, tet_element}
use Rattle.msh_write.proofs.MeshBack.{reads_back-from_text}
use Rattle.msh_write.proofs.TextLines.{text-written}
use Rattle.msh_write.proofs.union.write_union_with.Goals as goal

pub returns : goal.returns
returns c =
    let marks : c.as_slice-4.result.now ≡ filter is_tagged c.args.mesh.now.marks = c.as_slice-4.ensures.value ∙ c.in_ok-marks.ensures ∙ ap (filter is_tagged) c.as_slice.ensures.items in
    let text = text-written c.args.names.now c.args.mesh.now.tets (elements_of c.args.mesh.now) _ _ _ _ _ (c.as_slice-2.ensures.items ∙ c.requires) (c.as_slice-3.ensures.items ∙ c.requires)
    (ap (λ ms. map (mark_element []) ms ++ map (tet_element []) c.as_slice-5.result.now) marks
    ∙ ap (λ ts. map (mark_element []) (filter is_tagged c.args.mesh.now.marks) ++ map (tet_element []) ts) c.as_slice-5.ensures.items)
    c.in_ok-out.ensures c.in_ok-put_elements.ensures in
    record { text = text; reads_back = reads_back-from_text c.args.mesh.now c.args.names.now _ text }
