use Rattle.std.proofs.Common.{ap, sym, ◌∙◌}
use Rattle.std.specs.Cmp.Lexicographic.{slice_cmp}
use Rattle.ma_geom.specs.Coordinates.{place_cmp}
use Rattle.ma_cells.specs.Tetrahedron.{are_corners}
use Rattle.ma_cells.specs.Meshes.{are_listed_once, corner_sets}
use Rattle.mesh_check.specs.Pairs.{first_pair}
use Rattle.mesh_check.proofs.Numbered.{distinct-no_pair, each-pass, numbered_tet-corners, numbered-rise}
use Rattle.mesh_check.proofs.tetrahedra.distinct_tets.Goals as goal

pub first_with_same_corners-requires : goal.first_with_same_corners-requires
first_with_same_corners-requires c = rw c.in_ok-sets.ensures (numbered-rise 1 _)

pub returns-in-None-clause-once : goal.returns-in-None-clause-once
returns-in-None-clause-once c =
    ap are_listed_once (sym c.as_slice-3.ensures.value)
    ∙ distinct-no_pair (slice_cmp place_cmp) 1 (corner_sets c.as_slice-3.result.now) (ap (first_pair (slice_cmp place_cmp)) (sym c.in_ok-sets.ensures) ∙ sym c.first_with_same_corners.ensures ∙ c.in-None.is)

pub returns-in-None-clause-not_flat : goal.returns-in-None-clause-not_flat
returns-in-None-clause-not_flat c =
    each-pass (λ tet. are_corners tet.corners) _ (numbered_tet-corners _ c.args.shift) _ c.in_ok-tetrahedra.tetrahedra.items c.in_ok-tetrahedra.ensures
