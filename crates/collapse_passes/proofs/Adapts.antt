-- A pass of collapses keeps a mesh, and its collapses go in any order.
use Rattle.std.proofs.Common.{◌≡◌, true, List, [], ◌∷◌, refl, sym, ap, ap₂, subst, ◌∙◌}
use Rattle.std.specs.Prelude.{map}
use Rattle.std.specs.List.Sorted.{IsPermutation}
use Rattle.std.proofs.lemmas.List.Sorted.{IsPermutation-map, IsPermutation-refl, IsPermutation-sym, sum_by-IsPermutation}
use Rattle.ma_cells.specs.Ascending.{are_ascending, ascending_of}
use Rattle.ma_cells.specs.Cells.{CellMark, mark_cmp}
use Rattle.ma_cells.specs.Stars.{marks_at, star_of}
use Rattle.ma_cells.specs.Tetrahedron.{Tetrahedron, are_corners, tet_cmp}
use Rattle.ma_cells.specs.declared.batch.Batch.{Batch}
use Rattle.ma_cells.proofs.Ascents.{strict_from_ascending}
use Rattle.ma_cells.proofs.CellOrders.{mark_cmp_total}
use Rattle.ma_cells.proofs.Passing.{all-permutation, all_pass, test_all}
use Rattle.ma_cells.proofs.Permutations.{listed_once-permutes}
use Rattle.ma_cells.proofs.SetItems.{all-ascending_of}
use Rattle.ma_cover.specs.OnFaces.{IsOffFacesOf}
use Rattle.ma_cover.proofs.SoundOrder.{sound_in_any_order}
use Rattle.mesh_laws.specs.Adapted.{IsAdapted, IsSoundMesh}
use Rattle.mesh_laws.proofs.Adapted.{sound_not_flat}
use Rattle.mesh_laws.proofs.Lists.{all_items}
use Rattle.mesh_laws.proofs.Sounds.{conforming_is_listed_once}
use Rattle.size_marks.specs.Field.{Field}
use Rattle.cavity_rank.specs.declared.verdict.Kind.TheVariants.{Collapse}
use Rattle.pass_rules.specs.Passes.{applied, change_of, chosen, made_in_turn}
use Rattle.pass_rules.proofs.AnyOrder.{any_order_is_at_once}
use Rattle.collapse_passes.specs.CollapsePasses.{CollapsePassAdapts, CollapsesGoInAnyOrder}
use Rattle.collapse_passes.proofs.AllAtOnce.{are_free, changes_are_applied}
use Rattle.collapse_passes.proofs.Chosen.{are_collapses}
use Rattle.collapse_passes.proofs.Fitting.{Fit, are_clear, are_marks, chosen_fit, listed_again, some_have_one}
use Rattle.collapse_passes.proofs.MarksAtOnce.{marks_in_any_order}
use Rattle.collapse_passes.proofs.Removals.{Removal, operation, removal}
use Rattle.collapse_passes.proofs.Turns.{Stand, adapts, after_all, changed_marks, changed_tets}

-- ---- a mesh as a set
as_set : (m n : Batch) → IsAdapted m n → IsAdapted m (record { tets = ascending_of tet_cmp n.tets; marks = n.marks })
as_set m n is =
    let set = ascending_of tet_cmp n.tets in
    let order = listed_once-permutes n.tets (conforming_is_listed_once n.tets n.marks is.sound.sound.conforming (sound_not_flat n is.sound)) in
    record {
      sound = record {
        tetrahedra = test_all (λ tet. are_corners tet.corners) set (all-ascending_of tet_cmp (λ tet. are_corners tet.corners ≡ true) n.tets (all_pass (λ tet. are_corners tet.corners) n.tets is.sound.tetrahedra));
        cells = is.sound.cells;
        sound = sound_in_any_order n.tets set n.marks order is.sound.sound;
      };
      cover = λ phys elem p off off_set.
          sum_by-IsPermutation _ n.tets set order ∙ is.cover phys elem p off (all-permutation (λ tet. IsOffFacesOf p tet.corners) set n.tets (IsPermutation-sym n.tets set order) off_set);
      classification = is.classification;
    }

abbrev batch : List Tetrahedron → List CellMark → Batch
batch tets marks = record { tets = tets; marks = marks }

-- ---- one after the other
module _ (field : Field) (mesh : Batch) (sound : IsSoundMesh mesh) (rises : are_ascending mark_cmp mesh.marks ≡ true) where
  begin : (cs : List Removal) → Fit field mesh cs → Stand mesh mesh cs
  begin cs fit = record {
    sound = sound;
    rises = strict_from_ascending mark_cmp_total mesh.marks rises;
    tets = some_have_one field mesh cs fit;
    marks = are_marks field mesh cs sound fit;
    stars = all_items (λ c. star_of (c.at ∷ []) mesh.tets ≡ star_of (c.at ∷ []) mesh.tets) (λ c. refl) cs;
    at = all_items (λ c. marks_at (c.at ∷ []) mesh.marks ≡ marks_at (c.at ∷ []) mesh.marks) (λ c. refl) cs;
  }

  in_turn_adapts : (cs : List Removal) → Fit field mesh cs → IsAdapted mesh (made_in_turn (map operation cs) mesh)
  in_turn_adapts cs fit =
      let clear = are_clear field mesh cs fit in
      let stand = begin cs fit in
      subst (IsAdapted mesh) (ap₂ batch (changed_tets field mesh cs mesh fit.legal clear stand) (changed_marks field mesh cs mesh fit.legal clear stand))
      (as_set mesh (after_all cs mesh) (adapts field mesh cs mesh fit.legal clear stand))

  -- in any order they leave what all leave at once
  in_turn_is : (cs ds : List Removal) → IsPermutation cs ds → Fit field mesh cs → Fit field mesh ds → made_in_turn (map operation ds) mesh ≡ applied (map operation cs) mesh
  in_turn_is cs ds moved fit fit_too =
      let clear = are_clear field mesh ds fit_too in
      ap₂ batch
      (any_order_is_at_once (map (change_of mesh.tets) (map operation cs)) (map (change_of mesh.tets) (map operation ds)) mesh.tets
      (IsPermutation-map (change_of mesh.tets) (map operation cs) (map operation ds) (IsPermutation-map operation cs ds moved)) (are_free mesh.tets ds clear (some_have_one field mesh ds fit_too))
      ∙ changes_are_applied (map operation cs) mesh)
      (marks_in_any_order cs ds mesh.marks moved clear (are_marks field mesh cs sound fit) (are_marks field mesh ds sound fit_too) (strict_from_ascending mark_cmp_total mesh.marks rises))

-- ---- the laws
pub collapses_go_in_any_order : CollapsesGoInAnyOrder
collapses_go_in_any_order field mesh ops sound rises moved =
    let first = chosen Collapse field mesh in
    let still = IsPermutation-refl first in
    ap (λ os. made_in_turn os mesh) (sym (listed_again field mesh ops (are_collapses field mesh ops moved)))
    ∙ in_turn_is field mesh sound rises (map removal first) (map removal ops) (IsPermutation-map removal first ops moved) (chosen_fit field mesh first still) (chosen_fit field mesh ops moved)
    ∙ ap (λ os. applied os mesh) (listed_again field mesh first (are_collapses field mesh first still))

pub collapse_pass_adapts : CollapsePassAdapts
collapse_pass_adapts field mesh sound rises =
    let first = chosen Collapse field mesh in
    let still = IsPermutation-refl first in
    subst (IsAdapted mesh) (collapses_go_in_any_order field mesh first sound rises still)
    (subst (λ os. IsAdapted mesh (made_in_turn os mesh)) (listed_again field mesh first (are_collapses field mesh first still))
    (in_turn_adapts field mesh sound rises (map removal first) (chosen_fit field mesh first still)))
