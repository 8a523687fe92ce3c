use Rattle.std.proofs.Common.{◌≡◌, false, subst}
use Rattle.ma_cells.proofs.CellOrders.{ghost_cmp_total, ghost_cmp-IsAntisymmetric}
use Rattle.cavity_rank.proofs.Ranked.{rank_total, rank-IsAntisymmetric}
use Rattle.part_store.proofs.Members.{from-has}
use Rattle.part_vote.specs.OwedVotes.{chosen_in}
use Rattle.part_gather.specs.OwedGathering.{mesh_after}
use Rattle.gather_laws.proofs.Filled.{loses, none_left}
use Rattle.gather_laws.proofs.laws.none_is_left.Goals as goal

pub returns : goal.returns
returns c = λ kind field mesh op a chosen is tet label there.
    subst (λ at. loses at tet.corners ≡ false) is
    (none_left kind field mesh tet label op (from-has ghost_cmp_total ghost_cmp-IsAntisymmetric (mesh_after kind field mesh).tets (tet, label) there) (from-has rank_total rank-IsAntisymmetric (chosen_in kind field mesh) op chosen))
