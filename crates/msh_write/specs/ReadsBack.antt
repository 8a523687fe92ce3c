-- The text of a mesh reads as this mesh.
use Rattle.std.specs.Prelude.{◌≡◌, ℕ, ◌-◌, ◌^◌, ◌<◌, ◌≤◌, Bool, true, not, ◌&&◌, ◌==◌, List, length, map, Option, Some, Ok, All}
use Rattle.std.specs.List.{filter, list_all}
use Rattle.std.specs.List.Sorted.{IsStrictlySortedBy}
use Rattle.ma_geom.specs.Coordinates.{Coordinates, IsInRange}
use Rattle.ma_cells.specs.Cells.{CellMark, corners_of, is_cell, mark_on}
use Rattle.ma_cells.specs.Incidence.{is_on}
use Rattle.ma_cells.specs.Tetrahedron.{Tetrahedron, are_corners, tetrahedron_of}
use Rattle.ma_cells.specs.declared.batch.Batch.{Batch}
use Rattle.msh_read.specs.GroupNames.{GroupName, has_dimension, name_cmp}
use Rattle.msh_read.specs.Lines.{is_tag}
use Rattle.msh_read.specs.Raw.{Raw, node_at}
use Rattle.msh_read.specs.Reading.{read_of}
use Rattle.msh_read.specs.declared.raw.RawMark.{RawMark}
use Rattle.msh_read.specs.declared.raw.RawTet.{RawTet}
use Rattle.msh_write.specs.Text.{elements_of, is_tagged, nodes_of, number_among, oriented, text_of}

-- What a mesh has to be for its text to be read. The first five hold of every batch.
pub record IsReadable (mesh : Batch) : Type 0 where
  pub corners : All (λ tet. are_corners tet.corners ≡ true) mesh.tets
  pub in_range : All (λ tet. All IsInRange tet.corners) mesh.tets
  pub regions : All (λ tet. (is_tag tet.phys && is_tag tet.elem) ≡ true) mesh.tets
  pub cells : All (λ mark. is_cell mark.cell ≡ true) mesh.marks
  pub tags : All (λ mark. (is_tag mark.phys && is_tag mark.elem) ≡ true) mesh.marks
  -- each mark is on a cell of a tetrahedron
  pub on_tets : All (λ mark. is_on mesh.tets mark.cell ≡ true) mesh.marks
  pub some : 0 < length mesh.tets
  -- nodes and elements have numbers of 32 bits
  pub few_nodes : length (nodes_of mesh.tets) ≤ 2147483647
  pub few_elements : length (elements_of mesh) ≤ 2147483647

-- neither a '"' (34) nor a line feed (10)
abbrev pub may_be_quoted : ℕ → Bool
may_be_quoted byte = not (byte == 34) && not (byte == 10)

-- What names have to be for it: a set, with texts that can stand between quotation marks on one line.
pub record AreReadable (names : List GroupName) : Type 0 where
  pub rise : IsStrictlySortedBy name_cmp names
  pub few : length names < 2 ^ 63
  pub dimensions : All (λ name. has_dimension name ≡ true) names
  pub numbers : All (λ name. is_tag name.number ≡ true) names
  pub texts : All (λ name. list_all may_be_quoted name.text ≡ true) names

-- the positions of places among the nodes, which count from 0
abbrev pub positions_among : List Coordinates → List Coordinates → List ℕ
positions_among nodes places = map (λ p. number_among nodes p - 1) places

abbrev pub raw_tet : List Coordinates → Tetrahedron → RawTet
raw_tet nodes tet = record { at = positions_among nodes (oriented tet.corners); phys = tet.phys; elem = tet.elem }

abbrev pub raw_mark : List Coordinates → CellMark → RawMark
raw_mark nodes mark = record { at = record { items = positions_among nodes (corners_of mark.cell) }; phys = mark.phys; elem = mark.elem }

-- a mesh and names as a file has them
abbrev pub raw_of : Batch → List GroupName → Raw
raw_of mesh names = record {
  nodes = nodes_of mesh.tets;
  tets = map (raw_tet (nodes_of mesh.tets)) mesh.tets;
  marks = map (raw_mark (nodes_of mesh.tets)) (filter is_tagged mesh.marks);
  names = names;
}

-- the text reads as the mesh and the names
abbrev pub ReadsBack : Batch → List GroupName → List ℕ → Type 0
ReadsBack mesh names text = IsReadable mesh → AreReadable names → read_of text ≡ Ok (raw_of mesh names)

abbrev pub TextReadsBack : Type 0
TextReadsBack = (mesh : Batch) (names : List GroupName) → ReadsBack mesh names (text_of mesh names)

-- ---- what is read, as tetrahedra and marks again

-- the places at these positions
abbrev pub corners_at : List Coordinates → List ℕ → List Coordinates
corners_at nodes at = map (node_at nodes) at

-- the tetrahedra that a file has, where it has any with these corners
abbrev pub tets_in : Raw → List (Option Tetrahedron)
tets_in raw = map (λ tet. tetrahedron_of (corners_at raw.nodes tet.at) tet.phys tet.elem) raw.tets

abbrev pub marks_in : Raw → List (Option CellMark)
marks_in raw = map (λ mark. mark_on (corners_at raw.nodes mark.at.items) mark.phys mark.elem) raw.marks

-- They are those of the mesh, where a mark with the tag 0 0 is left out.
pub record IsMeshAgain (mesh : Batch) (raw : Raw) : Type 0 where
  pub tets : tets_in raw ≡ map (λ tet. Some tet) mesh.tets
  pub marks : marks_in raw ≡ map (λ mark. Some mark) (filter is_tagged mesh.marks)

abbrev pub RawIsMesh : Type 0
RawIsMesh = (mesh : Batch) (names : List GroupName) → IsReadable mesh → IsMeshAgain mesh (raw_of mesh names)
