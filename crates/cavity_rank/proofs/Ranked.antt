-- The rank is a total order, and only one operation ties with another.
use Rattle.std.proofs.Common.{◌≡◌, subst, sym}
use Rattle.std.specs.declared.cmp.Ordering.TheVariants.{Equal}
use Rattle.std.specs.Cmp.{IsTotalOrder, nat_cmp_total}
use Rattle.std.specs.Cmp.Lexicographic.{slice_cmp, lists_total}
use Rattle.std.specs.FinMap.{IsAntisymmetric, nat_cmp-IsAntisymmetric, slice_cmp-IsAntisymmetric}
use Rattle.std.specs.Ordering.{nat_cmp}
use Rattle.std.proofs.lemmas.Cmp.{back_total, on_total, then_total, tied_itself}
use Rattle.ma_geom.specs.Coordinates.{place_cmp}
use Rattle.ma_geom.proofs.PlaceOrder.{both_tie, place_cmp-IsAntisymmetric, place_cmp_total}
use Rattle.cavity_rank.specs.Operations.{Operation, rank}

pub rank_total : IsTotalOrder rank
rank_total =
    then_total (back_total (on_total (λ (o : Operation). o.worst) nat_cmp_total)) (then_total (on_total (λ (o : Operation). o.at) (lists_total place_cmp_total)) (on_total (λ (o : Operation). o.apex) place_cmp_total))

pub rank-IsAntisymmetric : IsAntisymmetric rank
rank-IsAntisymmetric o p e =
    let first = both_tie (nat_cmp p.worst o.worst) _ e in
    let second = both_tie (slice_cmp place_cmp o.at p.at) _ first.1 in
    let worsts = sym (nat_cmp-IsAntisymmetric p.worst o.worst first.0) in
    let ats = slice_cmp-IsAntisymmetric place_cmp-IsAntisymmetric o.at p.at second.0 in
    let apexes = place_cmp-IsAntisymmetric o.apex p.apex second.1 in
    λ i. record { at = ats i; apex = apexes i; worst = worsts i }

-- and each ties with itself
pub ties : (o p : Operation) → (rank o p ≡ Equal → o ≡ p) × (o ≡ p → rank o p ≡ Equal)
ties o p = (rank-IsAntisymmetric o p, λ e. subst (λ q. rank o q ≡ Equal) e (tied_itself rank_total o))
