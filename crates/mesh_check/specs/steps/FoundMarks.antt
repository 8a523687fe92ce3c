-- No promise: steps of the code, which no public contract names. The steps by which marks are accepted, with the tetrahedra at hand.
use Rattle.std.specs.Prelude.{ℕ, Bool, if◌then◌else◌, List, ◌++◌, Option, Some, None, count_by, Result, Ok}
use Rattle.std.specs.List.{filter_map}
use Rattle.std.specs.Option.{is_none, option_and_then}
use Rattle.ma_geom.specs.Coordinates.{Coordinates}
use Rattle.ma_cells.specs.Ascending.{ascending_of}
use Rattle.ma_cells.specs.Cells.{CellMark, mark_cmp, mark_on}
use Rattle.ma_cells.specs.Meshes.{MarkedMesh}
use Rattle.ma_cells.specs.Tetrahedron.{Tetrahedron}
use Rattle.ma_cells.specs.declared.cell.Cell.{Cell}
use Rattle.msh_read.specs.declared.raw.RawMark.{RawMark}
use Rattle.msh_read.specs.Raw.{Raw}
use Rattle.msh_read.specs.Trying.{◌>>=◌, ◌>>◌}
use Rattle.mesh_check.specs.Accepted.{apart}
use Rattle.mesh_check.specs.declared.fault.MeshFault.{MeshFault}
use Rattle.ma_cells.specs.Incidence.{is_on}
use Rattle.mesh_check.specs.Marks.{outer_marks}
use Rattle.mesh_check.specs.steps.Tetrahedra.{places_of, found_tets}

-- a mark after the shift, if its places are in range and differ
unfoldable pub shifted_mark : List Coordinates → ℕ → RawMark → Option CellMark
shifted_mark nodes shift mark = option_and_then (λ corners. mark_on corners mark.phys mark.elem) (places_of nodes shift mark.at.items)

-- a mark after the shift, if its cell passes the test
abbrev pub kept_mark : (Cell → Bool) → List Coordinates → ℕ → RawMark → Option CellMark
kept_mark test nodes shift mark = option_and_then (λ moved. if test moved.cell then Some moved else None) (shifted_mark nodes shift mark)

-- the set of the marks on cells of tetrahedra, and of those on outer faces
abbrev pub found_marks : Raw → ℕ → List Tetrahedron → List CellMark
found_marks raw shift tets = ascending_of mark_cmp (filter_map (kept_mark (is_on tets) raw.nodes shift) raw.marks ++ outer_marks tets)

-- how many marks of the file are on no cell of a tetrahedron
abbrev pub found_loose : Raw → ℕ → List Tetrahedron → ℕ
found_loose raw shift tets = count_by (λ mark. is_none (kept_mark (is_on tets) raw.nodes shift mark)) raw.marks

-- the mesh, or its first fault
unfoldable pub found_of : Raw → ℕ → Result MarkedMesh MeshFault
found_of raw shift = do
  tets ← found_tets raw shift
  apart tets
  Ok (record { tets = tets; marks = found_marks raw shift tets; loose = found_loose raw shift tets })
