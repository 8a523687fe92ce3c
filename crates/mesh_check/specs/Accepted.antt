-- What a raw mesh is accepted as: the mesh after the shift, or its first fault.
use Rattle.std.specs.Prelude.{ℕ, ℤ, ◌≡◌, ◌≤◌, true, ◌+◌, nat_lt, ◌==◌, not, if◌then◌else◌, List, ◌++◌, length, map, count_by, Option, Some, None, Result, Ok, Err}
use Rattle.std.specs.Cmp.Lexicographic.{slice_cmp}
use Rattle.std.specs.List.{filter_map, find}
use Rattle.std.specs.Option.{is_none, option_and_then, option_map}
use Rattle.ma_geom.specs.Coordinates.{Coordinates, place_cmp}
use Rattle.ma_geom.specs.Rational.{Rational}
use Rattle.ma_cells.specs.Ascending.{ascending_of, has}
use Rattle.ma_cells.specs.Cells.{CellMark, mark_cmp, mark_on}
use Rattle.ma_cells.specs.Meshes.{MarkedMesh, corner_sets}
use Rattle.ma_cells.specs.Tetrahedron.{Tetrahedron, is_flat}
use Rattle.msh_read.specs.declared.raw.RawMark.{RawMark}
use Rattle.msh_read.specs.declared.raw.RawTet.{RawTet}
use Rattle.msh_read.specs.Raw.{Raw, node_at}
use Rattle.msh_read.specs.Trying.{◌>>◌, check}
use Rattle.mesh_check.specs.declared.fault.MeshFault.{MeshFault}
use Rattle.mesh_check.specs.declared.fault.MeshFault.TheVariants.{NoTets, TooManyTets, TooFar, SamePlace, Flat, Repeated, Overlap}
use Rattle.overlap_check.specs.Overlap.{first_overlap_of}
use Rattle.mesh_check.specs.Pairs.{first_pair, numbered_from}
use Rattle.mesh_check.specs.Places.{corner_positions, is_in_range, shifted}
use Rattle.ma_cells.specs.Incidence.{is_on}
use Rattle.ma_cover.specs.Cover.{whole_cover}
use Rattle.ma_cover.specs.Sound.{holders}
use Rattle.mesh_check.specs.Marks.{outer_mark, outer_marks}

-- how many tetrahedra a mesh may have
abbrev pub most_accepted_tets : ℕ
most_accepted_tets = 200000

-- the place of a node after the shift
abbrev pub place_at : Raw → ℕ → ℕ → Coordinates
place_at raw shift at = shifted shift (node_at raw.nodes at)

abbrev pub places_at : Raw → ℕ → List ℕ → List Coordinates
places_at raw shift at = map (place_at raw shift) at

-- the places of the nodes of tetrahedra, each node with its number
abbrev pub corner_places : Raw → ℕ → List (Coordinates × ℕ)
corner_places raw shift = map (λ at. (place_at raw shift at, at + 1)) (corner_positions raw.tets)

-- a tetrahedron after the shift
abbrev pub tetrahedron_at : Raw → ℕ → RawTet → Tetrahedron
tetrahedron_at raw shift tet = record { corners = ascending_of place_cmp (places_at raw shift tet.at); phys = tet.phys; elem = tet.elem }

-- all tetrahedra, in file order
abbrev pub tetrahedra_at : Raw → ℕ → List Tetrahedron
tetrahedra_at raw shift = map (tetrahedron_at raw shift) raw.tets

-- a mark after the shift, if its places are those of a corner, an edge or a face of a tetrahedron
abbrev pub mark_at : Raw → ℕ → RawMark → Option CellMark
mark_at raw shift mark =
    option_and_then (λ moved. if is_on (tetrahedra_at raw shift) moved.cell then Some moved else None) (mark_on (places_at raw shift mark.at.items) mark.phys mark.elem)

-- the marks of the file that are on cells of tetrahedra, and those on outer faces, as a set
abbrev pub accepted_marks : Raw → ℕ → List CellMark
accepted_marks raw shift = ascending_of mark_cmp (filter_map (mark_at raw shift) raw.marks ++ outer_marks (tetrahedra_at raw shift))

-- the mesh after the shift, and how many marks of the file are on no cell of a tetrahedron
abbrev pub mesh_at : Raw → ℕ → MarkedMesh
mesh_at raw shift = record {
  tets = tetrahedra_at raw shift;
  marks = accepted_marks raw shift;
  loose = count_by (λ mark. is_none (mark_at raw shift mark)) raw.marks;
}

-- nothing, or the fault of what has a number
abbrev pub no_item : {X : Type 0} → (ℕ → MeshFault) → Option (X × ℕ) → Result (Unit {0}) MeshFault
no_item fault None = Ok tt
no_item fault (Some item) = Err (fault item.1)

-- nothing, or the fault of two numbers
abbrev pub no_pair : (ℕ → ℕ → MeshFault) → Option (ℕ × ℕ) → Result (Unit {0}) MeshFault
no_pair fault None = Ok tt
no_pair fault (Some pair) = Err (fault pair.0 pair.1)

-- two places that count from 0, counted from 1
abbrev pub from_one : ℕ × ℕ → ℕ × ℕ
from_one pair = (pair.0 + 1, pair.1 + 1)

-- nothing, or the fault that two tetrahedra overlap
abbrev pub apart : List Tetrahedron → Result (Unit {0}) MeshFault
apart tets = no_pair Overlap (option_map from_one (first_overlap_of tets))

-- the faults in their order, each with the least numbers, and then the mesh
unfoldable pub accepted_of : Raw → ℕ → Result MarkedMesh MeshFault
accepted_of raw shift = do
  check NoTets (not (length raw.tets == 0))
  check (TooManyTets (length raw.tets)) (not (nat_lt most_accepted_tets (length raw.tets)))
  no_item TooFar (find (λ corner. not (is_in_range corner.0)) (corner_places raw shift))
  no_pair SamePlace (first_pair place_cmp (corner_places raw shift))
  no_item Flat (find (λ tetrahedron. is_flat tetrahedron.0.corners) (numbered_from 1 (tetrahedra_at raw shift)))
  no_pair Repeated (first_pair (slice_cmp place_cmp) (numbered_from 1 (corner_sets (tetrahedra_at raw shift))))
  apart (tetrahedra_at raw shift)
  Ok (mesh_at raw shift)

-- What holds of an accepted mesh beyond soundness
pub record IsAcceptedMesh (tets : List Tetrahedron) (marks : List CellMark) : Type 0 where
  -- each face that exactly one tetrahedron of a region has carries the mark of an outer face
  pub outer : (phys elem : ℤ) (face : List Coordinates) → holders phys elem face tets ≡ 1 → has mark_cmp (outer_mark face) marks ≡ true
  -- no rational point, also on a face, is within two of the tetrahedra
  pub once : (p : Rational) → whole_cover p tets ≤ 1
