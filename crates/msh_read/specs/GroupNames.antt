-- Names of physical groups, and their order.
use Rattle.std.specs.Prelude.{ℕ, Bool, nat_le, ℤ, List}
use Rattle.std.specs.declared.cmp.Ordering.{Ordering}
use Rattle.std.specs.Ordering.{nat_cmp, int_cmp, on, then_cmp}
use Rattle.std.specs.Cmp.{IsTotalOrder, int_cmp_total, nat_cmp_total, on_total, then_total}
use Rattle.std.specs.Cmp.Lexicographic.{slice_cmp, nat_list_cmp_total}

pub record GroupName : Type 0 where
  pub dimension : ℕ
  pub number : ℤ
  pub text : List ℕ

-- from 0 for points to 3 for solids
abbrev pub has_dimension : GroupName → Bool
has_dimension name = nat_le name.dimension 3

-- by dimension, then number, then text
abbrev pub name_cmp : GroupName → GroupName → Ordering
name_cmp = then_cmp (on (λ n. n.dimension) nat_cmp) (then_cmp (on (λ n. n.number) int_cmp) (on (λ n. n.text) (slice_cmp nat_cmp)))

pub name_cmp_total : IsTotalOrder name_cmp
name_cmp_total =
    then_total (on_total (λ (n : GroupName). n.dimension) nat_cmp_total) (then_total (on_total (λ (n : GroupName). n.number) int_cmp_total) (on_total (λ (n : GroupName). n.text) nat_list_cmp_total))
