-- No promise: steps of the code, which no public contract names. The places of nodes after a shift.
use Rattle.std.specs.Prelude.{ℕ, ◌+◌, if◌then◌else◌, List, Option, Some, None, Result, Ok}
use Rattle.ma_geom.specs.Coordinates.{Coordinates}
use Rattle.msh_read.specs.Raw.{node_at}
use Rattle.msh_read.specs.Trying.{◌>>=◌, or_fault}
use Rattle.mesh_check.specs.declared.fault.MeshFault.{MeshFault}
use Rattle.mesh_check.specs.declared.fault.MeshFault.TheVariants.{TooFar}
use Rattle.mesh_check.specs.Places.{is_in_range, shifted}

-- the place, if it is in range
abbrev pub within_range : Coordinates → Option Coordinates
within_range p = if is_in_range p then Some p else None

-- the place of a node after the shift, if it is in range
unfoldable pub place_of : List Coordinates → ℕ → ℕ → Option Coordinates
place_of nodes shift at = within_range (shifted shift (node_at nodes at))

-- the place of a node with its number, counted from 1
unfoldable pub numbered_place : List Coordinates → ℕ → ℕ → Result (Coordinates × ℕ) MeshFault
numbered_place nodes shift at = do
  place ← or_fault (TooFar (at + 1)) (place_of nodes shift at)
  Ok (place, at + 1)
