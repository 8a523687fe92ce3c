-- A mesh that is handed out to parts by labels.
use Rattle.std.specs.Prelude.{◌≡◌, ℕ, List, length}
use Rattle.std.specs.List.{zip}
use Rattle.ma_cells.specs.Ascending.{ascending_of}
use Rattle.ma_cells.specs.Meshes.{MarkedMesh}
use Rattle.ma_cells.specs.Tetrahedron.{tet_cmp}
use Rattle.ma_cells.specs.Views.{ghost_cmp}
use Rattle.part_store.specs.Labelled.{LabelledMesh, marks_on}
use Rattle.refined_views.specs.Refined.{without_labels}

-- the tetrahedra of a mesh, each with its label, as a set, and the marks on their cells
abbrev pub labelled_mesh : MarkedMesh → List ℕ → LabelledMesh
labelled_mesh mesh labels = record { tets = ascending_of ghost_cmp (zip mesh.tets labels); marks = marks_on mesh.tets mesh.marks }

-- without the labels it is the mesh, as sets, whatever the labels
abbrev pub LabelledMeshIsMesh : Type 0
LabelledMeshIsMesh = (mesh : MarkedMesh) (labels : List ℕ) → length labels ≡ length mesh.tets
    → without_labels (labelled_mesh mesh labels) ≡ record { tets = ascending_of tet_cmp mesh.tets; marks = marks_on mesh.tets mesh.marks }
