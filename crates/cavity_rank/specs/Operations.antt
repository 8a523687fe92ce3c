-- Operations on a mesh and their rank.
use Rattle.std.specs.Prelude.{ℕ, Bool, ◌&&◌, nat_le, length, List, Option, Some, None, if◌then◌else◌}
use Rattle.std.specs.declared.cmp.Ordering.{Ordering}
use Rattle.std.specs.Cmp.Lexicographic.{slice_cmp}
use Rattle.std.specs.Ordering.{nat_cmp, ordering_then}
use Rattle.ma_geom.specs.Coordinates.{Coordinates, place_cmp}
use Rattle.ma_cells.specs.Ascending.{are_ascending}

-- what is taken away, a vertex, an edge or a face; the place from which the cavity is filled; and the least quality of what fills it
pub record Operation : Type 0 where
  pub at : List Coordinates
  pub apex : Coordinates
  pub worst : ℕ

-- whether places are those of a vertex, an edge or a face: one to three, each below the next
abbrev pub is_spot : List Coordinates → Bool
is_spot places = nat_le 1 (length places) && (nat_le (length places) 3 && are_ascending place_cmp places)

-- the operation at these places, if they are those of a vertex, an edge or a face
abbrev pub operation_at : List Coordinates → Coordinates → ℕ → Option Operation
operation_at at apex worst = if is_spot at then Some (record { at = at; apex = apex; worst = worst }) else None

-- the greater quality first, then the lesser vertex, edge or face, by its places in turn, then the lesser apex
abbrev pub rank : Operation → Operation → Ordering
rank o p = ordering_then (nat_cmp p.worst o.worst) (ordering_then (slice_cmp place_cmp o.at p.at) (place_cmp o.apex p.apex))
