-- Only equal names tie.
use Rattle.std.specs.FinMap.{IsAntisymmetric, nat_cmp-IsAntisymmetric, int_cmp-IsAntisymmetric, slice_cmp-IsAntisymmetric}
use Rattle.std.specs.Ordering.{nat_cmp, int_cmp}
use Rattle.ma_geom.proofs.PlaceOrder.{both_tie}
use Rattle.msh_read.specs.GroupNames.{name_cmp}

pub name_cmp-IsAntisymmetric : IsAntisymmetric name_cmp
name_cmp-IsAntisymmetric m n e =
    let first = both_tie (nat_cmp m.dimension n.dimension) _ e in
    let second = both_tie (int_cmp m.number n.number) _ first.1 in
    let dimensions = nat_cmp-IsAntisymmetric m.dimension n.dimension first.0 in
    let numbers = int_cmp-IsAntisymmetric m.number n.number second.0 in
    let texts = slice_cmp-IsAntisymmetric nat_cmp-IsAntisymmetric m.text n.text second.1 in
    λ i. record { dimension = dimensions i; number = numbers i; text = texts i }
