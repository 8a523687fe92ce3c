use Rattle.std.proofs.Common.{◌^◌, ◌≤◌, sym, subst}
use Rattle.std.specs.Prelude.{ℤ, unsigned_abs}
use Rattle.ma_geom.proofs.Products.{product_bound, product_value}
use Rattle.ma_cover.proofs.exact.rectangle.Goals as goal

pub returns-clause-value : goal.returns-clause-value
returns-clause-value c = product_value c.args.p c.args.q c.ranges.p c.ranges.q c.requires.p_in c.requires.q_in

pub returns-clause-bound : goal.returns-clause-bound
returns-clause-bound c =
    subst (λ (z : ℤ). unsigned_abs z ≤ 2 ^ 62) (sym (product_value c.args.p c.args.q c.ranges.p c.ranges.q c.requires.p_in c.requires.q_in))
    (product_bound c.args.p c.args.q (2 ^ 31) (2 ^ 31) c.requires.p_in c.requires.q_in)
