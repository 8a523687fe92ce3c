-- The order of places is total, and only equal places tie.
use Rattle.std.proofs.Common.{◌≡◌, refl}
use Rattle.std.specs.Cmp.{IsTotalOrder, int_cmp_total}
use Rattle.std.specs.FinMap.{IsAntisymmetric, int_cmp-IsAntisymmetric}
use Rattle.std.specs.declared.cmp.Ordering.{Ordering}
use Rattle.std.specs.declared.cmp.Ordering.TheVariants.{Less, Equal, Greater}
use Rattle.std.specs.Ordering.{int_cmp, ordering_then}
use Rattle.std.proofs.lemmas.Cmp.{on_total, then_total}
use Rattle.ma_geom.specs.Coordinates.{Coordinates, place_cmp}

pub place_cmp_total : IsTotalOrder place_cmp
place_cmp_total =
    then_total (on_total (λ (p : Coordinates). p.x) int_cmp_total) (then_total (on_total (λ (p : Coordinates). p.y) int_cmp_total) (on_total (λ (p : Coordinates). p.z) int_cmp_total))

-- where one order and then another tie, each ties
pub both_tie : (a b : Ordering) → ordering_then a b ≡ Equal → (a ≡ Equal) × (b ≡ Equal)
both_tie Less b e = absurd (cc)
both_tie Equal b e = (refl, e)
both_tie Greater b e = absurd (cc)

pub place_cmp-IsAntisymmetric : IsAntisymmetric place_cmp
place_cmp-IsAntisymmetric p q e =
    let first = both_tie (int_cmp p.x q.x) _ e in
    let second = both_tie (int_cmp p.y q.y) _ first.1 in
    let xs = int_cmp-IsAntisymmetric p.x q.x first.0 in
    let ys = int_cmp-IsAntisymmetric p.y q.y second.0 in
    let zs = int_cmp-IsAntisymmetric p.z q.z second.1 in
    λ i. record { x = xs i; y = ys i; z = zs i }
