use Rattle.std.proofs.Common.{sym, subst, ◌∙◌}
use Rattle.std.specs.List.Sorted.{IsStrictlySortedBy}
use Rattle.std.proofs.lemmas.List.Kept.{IsStrictlySortedBy-filter}
use Rattle.ma_cells.specs.Faces.{holds_all}
use Rattle.ma_cells.specs.Tetrahedron.{Tetrahedron, tet_cmp}
use Rattle.mesh_passes.proofs.cavities.push_fillings.Goals as goal

pub push_filling-requires : goal.push_filling-requires
push_filling-requires c =
    subst (λ star. IsStrictlySortedBy tet_cmp star) (sym (c.as_slice.ensures.value ∙ c.in_ok-star.ensures))
    (IsStrictlySortedBy-filter tet_cmp (λ (tet : Tetrahedron). holds_all tet.corners c.at.result.now) c.args.tets.now c.requires.rises)
