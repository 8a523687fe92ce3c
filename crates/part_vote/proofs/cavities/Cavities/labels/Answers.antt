use Rattle.std.proofs.Common.{◌≡◌, map, sym, ap, ◌∙◌}
use Rattle.std.specs.FinMap.{nat_cmp-IsAntisymmetric}
use Rattle.std.specs.Ordering.{nat_cmp}
use Rattle.ma_cells.specs.Ascending.{ascending_of}
use Rattle.part_store.specs.Agreement.{around}
use Rattle.part_store.specs.Labelled.{label_of, tet_of}
use Rattle.part_vote.proofs.LabelsFound.{labels_found}
use Rattle.part_vote.proofs.cavities.Cavities.labels.Goals as goal

pub returns : goal.returns
returns c =
    let entries = c.as_slice-2.result.now in
    let tets = c.as_slice.result.now in
    let same : entries ≡ c.args.self.now = c.as_slice-2.ensures.value ∙ c.self.view_is in
    let plain : tets ≡ map tet_of entries = c.as_slice.ensures.value ∙ c.self.invariant.0 ∙ ap (map tet_of) (sym c.as_slice-2.ensures.value) in
    c.gather.ensures.is nat_cmp-IsAntisymmetric
    ∙ ap (ascending_of nat_cmp) (labels_found c.at.result.now entries tets c.as_slice-3.result.now c.in_ok-labels.labels.items plain (c.as_slice-3.ensures.value ∙ c.in_ok-at.ensures.value) c.in_ok-labels.ensures)
    ∙ (λ i. ascending_of nat_cmp (map label_of (around (c.at.ensures.value i) (same i))))
