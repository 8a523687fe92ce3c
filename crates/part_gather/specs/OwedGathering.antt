-- What each part delivers to each other in a pass over a mesh with labels, and the mesh with labels that the pass leaves, by the mesh alone.
use Rattle.std.specs.Prelude.{◌≡◌, ℕ, true, not, ◌==◌, List, [], ◌++◌, filter, if◌then◌else◌}
use Rattle.std.specs.List.{AllByRecursion, flat_map}
use Rattle.std.specs.Option.{option_to_list}
use Rattle.ma_cells.specs.Ascending.{ascending_of}
use Rattle.ma_cells.specs.Cells.{CellMark, mark_cmp}
use Rattle.ma_cells.specs.Incidence.{is_on}
use Rattle.ma_cells.specs.Tetrahedron.{Tetrahedron}
use Rattle.ma_cells.specs.Views.{ghost_cmp}
use Rattle.ma_cells.specs.declared.batch.Batch.{Batch}
use Rattle.size_marks.specs.Field.{Field}
use Rattle.cavity_rank.specs.Operations.{Operation}
use Rattle.cavity_rank.specs.declared.verdict.Kind.{Kind}
use Rattle.part_store.specs.Labelled.{LabelledMesh, labelled, marks_on, own_of}
use Rattle.pass_rules.specs.Choosing.{is_taken}
use Rattle.pass_rules.specs.Passes.{filling, passed}
use Rattle.part_vote.specs.Leading.{leader, leads, without_labels}
use Rattle.part_vote.specs.OwedVotes.{chosen_in}
use Rattle.part_gather.specs.Gathering.{marks_by}

-- what fills the cavity of an operation, with the label of the part that leads it
abbrev pub labelled_filling : LabelledMesh → Operation → List (Tetrahedron × ℕ)
labelled_filling mesh op = flat_map (λ label. labelled label (filling (without_labels mesh).tets op)) (option_to_list (leader mesh.tets op))

module _ (kind : Kind) (field : Field) (mesh : LabelledMesh) where
  -- the chosen operations that a part leads
  abbrev pub led_by : ℕ → List Operation
  led_by part = filter (leads mesh.tets part) (chosen_in kind field mesh)

  -- the tetrahedra of p in the cavities of those that q leads
  abbrev pub owed_tets : ℕ → ℕ → List Tetrahedron
  owed_tets p q = filter (is_taken (led_by q)) (own_of mesh p)

  -- from p to q, these and the marks on their cells, and to oneself nothing
  abbrev pub owed_deliveries : ℕ → ℕ → Batch
  owed_deliveries p q = if q == p then record { tets = []; marks = [] } else record { tets = owed_tets p q; marks = marks_on (owed_tets p q) mesh.marks }

  -- the mesh after the pass: tetrahedra in no chosen cavity keep their labels
  abbrev pub mesh_after : LabelledMesh
  mesh_after = record {
    tets = ascending_of ghost_cmp (filter (λ entry. not (is_taken (chosen_in kind field mesh) entry.0)) mesh.tets ++ flat_map (labelled_filling mesh) (chosen_in kind field mesh));
    marks = (passed kind field (without_labels mesh)).marks;
  }

  -- what a part knows then of the marks: of those that stood on its tetrahedra, and of those of the cavities that it filled, as the operations leave them, the ones on cells of its tetrahedra
  abbrev pub carried_after : ℕ → List CellMark
  carried_after p = ascending_of mark_cmp (marks_on (own_of mesh_after p) (marks_on (own_of mesh p) mesh.marks ++ flat_map (marks_by (without_labels mesh).tets mesh.marks) (led_by p)))

  -- that the marks of each chosen cavity, as the operation leaves them, are on cells of what fills it
  abbrev pub MarksStay : Type 0
  MarksStay = AllByRecursion (λ op. AllByRecursion (λ mark. is_on (filling (without_labels mesh).tets op) mark.cell ≡ true) (marks_by (without_labels mesh).tets mesh.marks op)) (chosen_in kind field mesh)
