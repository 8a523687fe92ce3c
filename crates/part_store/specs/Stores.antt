-- What a part keeps of a mesh, and what becomes of it.
use Rattle.std.specs.Prelude.{ℕ, not, List, [], ◌++◌, filter, map}
use Rattle.std.specs.List.{flat_map}
use Rattle.letters.specs.Sharing.{SharedPlace}
use Rattle.ma_cells.specs.Ascending.{ascending_of, has}
use Rattle.ma_cells.specs.Cells.{CellMark, mark_cmp}
use Rattle.ma_cells.specs.Tetrahedron.{Tetrahedron, tet_cmp}
use Rattle.ma_cells.specs.Views.{ghost_cmp}
use Rattle.ma_cells.specs.declared.batch.Batch.{Batch}
use Rattle.ma_cells.specs.declared.view.View.{View}
use Rattle.part_store.specs.Labelled.{labelled, marks_on, tet_of}

-- the tetrahedra of a part, those of others with their labels, marks, and the places that it shares
pub record StoreState : Type 0 where
  pub part : ℕ
  pub own : List Tetrahedron
  pub ghosts : List (Tetrahedron × ℕ)
  pub marks : List CellMark
  pub shared : List SharedPlace

-- what the part sees
abbrev pub view_in : StoreState → View
view_in s = record { part = s.part; own = s.own; ghosts = s.ghosts; marks = s.marks }

-- a store of these tetrahedra and of the marks on their cells
abbrev pub started : ℕ → List Tetrahedron → List CellMark → StoreState
started part own marks = record { part = part; own = ascending_of tet_cmp own; ghosts = []; marks = ascending_of mark_cmp (marks_on own marks); shared = [] }

abbrev pub with_shared : StoreState → List SharedPlace → StoreState
with_shared s shared = record s { shared = shared }

-- of the old marks and these the ones on cells of own tetrahedra
abbrev pub with_marks : StoreState → List CellMark → StoreState
with_marks s marks = record s { marks = ascending_of mark_cmp (marks_on s.own (s.marks ++ marks)) }

-- the tetrahedra of batches, each with the label of its batch
abbrev pub tets_got : List (ℕ × Batch) → List (Tetrahedron × ℕ)
tets_got batches = flat_map (λ batch. labelled batch.0 batch.1.tets) batches

abbrev pub marks_got : List (ℕ × Batch) → List CellMark
marks_got batches = flat_map (λ batch. batch.1.marks) batches

-- the tetrahedra of batches in place of the old ghosts. Of the old marks those on cells of own tetrahedra stay, and of the marks of batches those on cells of own tetrahedra or ghosts come
abbrev pub with_ghosts : StoreState → List (ℕ × Batch) → StoreState
with_ghosts s batches = record s {
  ghosts = ascending_of ghost_cmp (tets_got batches);
  marks = ascending_of mark_cmp (marks_on s.own s.marks ++ marks_on (s.own ++ map tet_of (tets_got batches)) (marks_got batches));
}

-- own tetrahedra without these, and others in their place
abbrev pub own_after : StoreState → List Tetrahedron → Batch → List Tetrahedron
own_after s ended added = ascending_of tet_cmp (filter (λ tet. not (has tet_cmp tet ended)) s.own ++ added.tets)

-- the store with those own tetrahedra alone. Of the marks that stood on own cells, and of the added ones, it has those on cells of its tetrahedra
abbrev pub replaced : StoreState → List Tetrahedron → Batch → StoreState
replaced s ended added = record {
  part = s.part;
  own = own_after s ended added;
  ghosts = [];
  marks = ascending_of mark_cmp (marks_on (own_after s ended added) (marks_on s.own s.marks ++ added.marks));
  shared = [];
}
