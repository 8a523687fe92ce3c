-- What the parts of a run see.
use Rattle.std.specs.Prelude.{ℕ, List, Option, slice_get}
use Rattle.std.specs.Option.{option_map}
use Rattle.ma_cells.specs.declared.view.View.{View}
use Rattle.part_core.specs.Parts.{PartState}
use Rattle.part_store.specs.Stores.{view_in}

-- what the part of a number sees, if there is one
abbrev pub seen_at : List PartState → ℕ → Option View
seen_at parts number = option_map (λ part. view_in part.standing.holds) (slice_get parts number)
