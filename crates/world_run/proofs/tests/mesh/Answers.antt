use Rattle.std.proofs.Common.{◌≡◌, ◌∙◌, true, ap₂, subst, sym}
use Rattle.std.specs.Cmp.Lexicographic.{slice_cmp}
use Rattle.std.specs.declared.cmp.Ordering.TheVariants.{Less}
use Rattle.ma_geom.specs.Coordinates.{place_cmp}
use Rattle.ma_cells.specs.Meshes.{are_listed_once}
use Rattle.world_run.proofs.TestMeshes.{listed_once}
use Rattle.world_run.proofs.tests.mesh.Goals as goal

pub new-requires-in-Less : goal.new-requires-in-Less
new-requires-in-Less c =
    let first = c.in_ok-first.first in
    let second = c.in_ok-second.second in
    let below : slice_cmp place_cmp first.corners second.corners ≡ Less = ap₂ (slice_cmp place_cmp) (sym c.corners.ensures.value) (sym c.corners-2.ensures.value) ∙ sym c.cmp.ensures ∙ c.in-Less.is in
    subst (λ tets. are_listed_once tets ≡ true) (sym c.in_ok-tets-in-Less.ensures.items) (listed_once first second below)
