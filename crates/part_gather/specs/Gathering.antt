-- How the cavities of operations come together at the part that leads them and are filled there, by what a part holds and what was sent to it.
use Rattle.std.specs.Prelude.{List, [], ◌∷◌, ◌++◌, filter}
use Rattle.std.specs.List.{flat_map}
use Rattle.ma_cells.specs.Ascending.{ascending_of}
use Rattle.ma_cells.specs.Cells.{CellMark, mark_cmp}
use Rattle.ma_cells.specs.Stars.{star_of}
use Rattle.ma_cells.specs.Tetrahedron.{Tetrahedron, tet_cmp}
use Rattle.ma_cells.specs.declared.batch.Batch.{Batch}
use Rattle.cavity_rank.specs.Operations.{Operation}
use Rattle.part_store.specs.Labelled.{marks_on}
use Rattle.part_store.specs.Stores.{StoreState, replaced}
use Rattle.pass_rules.specs.Choosing.{is_taken}
use Rattle.pass_rules.specs.Passes.{changed_by, filling}

-- the own tetrahedra in the cavities of operations, and the marks on their cells
abbrev pub deliveries : StoreState → List Operation → Batch
deliveries s ordered = let tets : List Tetrahedron = filter (is_taken ordered) s.own in record { tets = tets; marks = marks_on tets s.marks }

-- own tetrahedra and those that came, as a set
abbrev pub tets_with : StoreState → List Batch → List Tetrahedron
tets_with s got = ascending_of tet_cmp (s.own ++ flat_map (λ batch. batch.tets) got)

-- the marks on cells of own tetrahedra and those that came, as a set
abbrev pub marks_with : StoreState → List Batch → List CellMark
marks_with s got = ascending_of mark_cmp (marks_on s.own s.marks ++ flat_map (λ batch. batch.marks) got)

-- of some tetrahedra the cavity of an operation
abbrev pub cavity : List Tetrahedron → Operation → List Tetrahedron
cavity tets op = star_of op.at tets

-- the marks on cells of a cavity, as the operation leaves them
abbrev pub marks_by : List Tetrahedron → List CellMark → Operation → List CellMark
marks_by tets marks op = flat_map (changed_by (op ∷ [])) (marks_on (cavity tets op) marks)

-- what fills the cavities of all operations, with the marks
abbrev pub filled : List Tetrahedron → List CellMark → List Operation → Batch
filled tets marks won = record { tets = ascending_of tet_cmp (flat_map (filling tets) won); marks = ascending_of mark_cmp (flat_map (marks_by tets marks) won) }

-- the store in which all cavities are filled at once, and without the tetrahedra that are given to others. Ghosts are not looked at
abbrev pub applied_to : StoreState → List Operation → List Batch → List Tetrahedron → StoreState
applied_to s won got given = replaced s (given ++ flat_map (cavity (tets_with s got)) won) (filled (tets_with s got) (marks_with s got) won)
