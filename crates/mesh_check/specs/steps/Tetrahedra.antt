-- No promise: steps of the code, which no public contract names. The steps by which tetrahedra are accepted. Each gives what is found on the way, or the first fault.
use Rattle.std.specs.Prelude.{ℕ, List, [], ◌∷◌, Option, Some, Result, Ok, length, nat_lt, not, ◌==◌}
use Rattle.std.specs.Option.{option_and_then}
use Rattle.std.specs.Cmp.Lexicographic.{slice_cmp}
use Rattle.ma_geom.specs.Coordinates.{Coordinates, place_cmp}
use Rattle.ma_cells.specs.Meshes.{corner_sets}
use Rattle.ma_cells.specs.Tetrahedron.{Tetrahedron, tetrahedron_of}
use Rattle.msh_read.specs.declared.raw.RawTet.{RawTet}
use Rattle.msh_read.specs.Raw.{Raw}
use Rattle.msh_read.specs.Trying.{◌>>=◌, ◌>>◌, check, each, or_fault}
use Rattle.mesh_check.specs.declared.fault.MeshFault.{MeshFault}
use Rattle.mesh_check.specs.declared.fault.MeshFault.TheVariants.{NoTets, TooManyTets, SamePlace, Flat, Repeated}
use Rattle.mesh_check.specs.Accepted.{most_accepted_tets, no_pair}
use Rattle.mesh_check.specs.Pairs.{numbered_from, first_pair}
use Rattle.mesh_check.specs.Places.{corner_positions}
use Rattle.mesh_check.specs.steps.ShiftedPlaces.{numbered_place, place_of}

-- the places of nodes after the shift, if all are in range
abbrev pub places_of : List Coordinates → ℕ → List ℕ → Option (List Coordinates)
places_of nodes shift [] = Some []
places_of nodes shift (at ∷ rest) =
    option_and_then (λ place. option_and_then (λ places. Some (place ∷ places)) (places_of nodes shift rest)) (place_of nodes shift at)

-- a tetrahedron after the shift, unless it is flat. Its corners are in range, as is tested before
unfoldable pub found_tet : List Coordinates → ℕ → RawTet → Option Tetrahedron
found_tet nodes shift tet =
    option_and_then (λ corners. tetrahedron_of corners tet.phys tet.elem) (places_of nodes shift tet.at)

-- the same, where the tetrahedron has this number
abbrev pub numbered_tet : List Coordinates → ℕ → RawTet × ℕ → Result Tetrahedron MeshFault
numbered_tet nodes shift tet = or_fault (Flat tet.1) (found_tet nodes shift tet.0)

-- whether there are tetrahedra, and not too many
unfoldable pub counted : List RawTet → Result (Unit {0}) MeshFault
counted tets = do
  check NoTets (not (length tets == 0))
  check (TooManyTets (length tets)) (not (nat_lt most_accepted_tets (length tets)))

-- no node of a tetrahedron is out of range, and no two are at one place
unfoldable pub placed : Raw → ℕ → Result (Unit {0}) MeshFault
placed raw shift = do
  corners ← each (numbered_place raw.nodes shift) (corner_positions raw.tets)
  no_pair SamePlace (first_pair place_cmp corners)

-- the tetrahedra in file order, none of which is flat, and no two of which have the same corners
unfoldable pub distinct_tets : Raw → ℕ → Result (List Tetrahedron) MeshFault
distinct_tets raw shift = do
  tetrahedra ← each (numbered_tet raw.nodes shift) (numbered_from 1 raw.tets)
  no_pair Repeated (first_pair (slice_cmp place_cmp) (numbered_from 1 (corner_sets tetrahedra)))
  Ok tetrahedra

-- the tetrahedra, or the first fault
unfoldable pub found_tets : Raw → ℕ → Result (List Tetrahedron) MeshFault
found_tets raw shift = do
  counted raw.tets
  placed raw shift
  distinct_tets raw shift
