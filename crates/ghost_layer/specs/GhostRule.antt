-- How parts come to see the tetrahedra of others around their own.
use Rattle.std.specs.Prelude.{ℕ, Bool, ◌&&◌, ◌==◌, List, filter, map}
use Rattle.std.specs.List.{list_any}
use Rattle.std.specs.Ordering.{eq_by_cmp}
use Rattle.ma_geom.specs.Coordinates.{Coordinates, place_cmp}
use Rattle.ma_cells.specs.Cells.{CellMark}
use Rattle.ma_cells.specs.Tetrahedron.{Tetrahedron}
use Rattle.ma_cells.specs.declared.batch.Batch.{Batch}
use Rattle.letters.specs.Sharing.{SharedPlace}
use Rattle.part_store.specs.Labelled.{corner_set, marks_on, touches}
use Rattle.part_store.specs.Stores.{StoreState, with_ghosts}

-- whether one of the shared places is this one, and q is among the parts that share it
abbrev pub is_shared_with : List SharedPlace → ℕ → Coordinates → Bool
is_shared_with shared q x = list_any (λ s. eq_by_cmp place_cmp x s.place && list_any (λ part. part == q) s.parts) shared

-- the part's own tetrahedra that have a corner which it shares with q
abbrev pub bordering : StoreState → ℕ → List Tetrahedron
bordering s q = filter (λ tet. list_any (is_shared_with s.shared q) tet.corners) s.own

-- tetrahedra, and of these marks those on their cells
abbrev pub batch_of : List Tetrahedron → List CellMark → Batch
batch_of tets marks = record { tets = tets; marks = marks_on tets marks }

-- what a part shows to q
abbrev pub ghosts_for : StoreState → ℕ → Batch
ghosts_for s q = batch_of (bordering s q) s.marks

-- of a batch the tetrahedra that have one of these places as a corner
abbrev pub near : List Coordinates → ℕ × Batch → ℕ × Batch
near corners got = (got.0, record { tets = filter (touches corners) got.1.tets; marks = got.1.marks })

-- the store with the tetrahedra of others that share a corner with one of its own as its ghosts, and with the marks on cells of these and of its own
abbrev pub rebuilt : StoreState → List (ℕ × Batch) → StoreState
rebuilt s got = with_ghosts s (map (near (corner_set s.own)) got)
