use Rattle.std.proofs.Common.{◌≡◌, filter, rules, subst, sym}
use Rattle.std.specs.List.Sorted.{IsStrictlySortedBy}
use Rattle.std.proofs.lemmas.List.Kept.{IsStrictlySortedBy-filter}
use Rattle.ma_cells.specs.Tetrahedron.{tet_cmp}
use Rattle.part_store.specs.Labelled.{touches}
use Rattle.ghost_layer.proofs.touching.touching.Goals as goal

pub from_vec-requires : goal.from_vec-requires
from_vec-requires c =
    let kept : c.in_ok-kept.kept.items ≡ filter (touches c.args.places.now) c.as_slice.result.now = search rules in
    subst (λ tets. IsStrictlySortedBy tet_cmp tets) (sym kept) (IsStrictlySortedBy-filter tet_cmp (touches c.args.places.now) c.as_slice.result.now c.as_slice.ensures.rises)
