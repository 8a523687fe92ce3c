-- Items that stand once in a list.
use Rattle.std.specs.Prelude.{◌==◌, List, count_by}
use Rattle.std.specs.declared.cmp.Ordering.{Ordering}
use Rattle.std.specs.List.{filter}
use Rattle.std.specs.Ordering.{eq_by_cmp}

-- the items that stand once
abbrev pub lone : {K : Type 0} → (K → K → Ordering) → List K → List K
lone R items = filter (λ x. count_by (eq_by_cmp R x) items == 1) items
