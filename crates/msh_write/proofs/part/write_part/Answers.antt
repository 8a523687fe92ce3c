use Rattle.std.proofs.Common.{◌≡◌, true, All, ◌∙◌, ◌++◌, ap, map, subst, sym}
use Rattle.std.specs.List.{filter}
use Rattle.ma_geom.specs.Coordinates.{place_cmp}
use Rattle.ma_cells.specs.Ascending.{are_ascending}
use Rattle.msh_write.specs.PartText.{member_element, members_of, part_elements, resident_element, tets_of_members}
use Rattle.msh_write.specs.Text.{is_tagged, nodes_of}
use Rattle.msh_write.proofs.Sets.{All-from_map}
use Rattle.msh_write.proofs.TextLines.{text-written}
use Rattle.msh_write.proofs.part.write_part.Goals as goal

pub put_elements-requires-clause-corners : goal.put_elements-requires-clause-corners
put_elements-requires-clause-corners c =
    let same : c.as_slice-2.result.now ≡ tets_of_members c.as_slice-6.result.now = c.as_slice-2.ensures.value ∙ c.in_ok-tets.ensures ∙ ap tets_of_members (c.as_slice.ensures.items ∙ sym c.as_slice-6.ensures.items) in
    All-from_map (λ t. are_ascending place_cmp t.corners ≡ true) (λ m. m.0) c.as_slice-6.result.now (subst (λ ts. All (λ t. are_ascending place_cmp t.corners ≡ true) ts) same c.in_ok-nodes.ensures.corners)

pub returns : goal.returns
returns c =
    let view = c.args.view.now in
    let gathered : c.in_ok-nodes.nodes ≡ nodes_of (tets_of_members (members_of view))
    = c.in_ok-nodes.ensures.nodes ∙ ap nodes_of (c.as_slice-2.ensures.value ∙ c.in_ok-tets.ensures ∙ ap tets_of_members (c.as_slice.ensures.items ∙ c.in_ok-members.ensures)) in
    let marks : c.as_slice-7.result.now ≡ filter is_tagged view.marks = c.as_slice-7.ensures.value ∙ c.in_ok-marks.ensures ∙ ap (filter is_tagged) c.as_slice-3.ensures.items in
    let members : c.as_slice-6.result.now ≡ members_of view = c.as_slice-6.ensures.items ∙ c.in_ok-members.ensures in
    text-written c.args.names.now (tets_of_members (members_of view)) (part_elements view) _ _ _ _ _ (c.as_slice-4.ensures.items ∙ gathered) (c.as_slice-5.ensures.items ∙ gathered)
    (ap (λ ms. map (resident_element view.part c.as_slice-6.result.now) ms ++ map (member_element view.part) c.as_slice-6.result.now) marks
    ∙ ap (λ all. map (resident_element view.part all) (filter is_tagged view.marks) ++ map (member_element view.part) all) members)
    c.in_ok-out.ensures c.in_ok-put_elements.ensures
