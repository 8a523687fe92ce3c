-- The mesh as a whole.
use Rattle.std.proofs.Common.{◌≡◌, ℕ, List, sym, ap, ◌∙◌}
use Rattle.std.specs.Prelude.{Ok}
use Rattle.ma_cells.specs.Cells.{CellMark}
use Rattle.ma_cells.specs.Meshes.{MarkedMesh}
use Rattle.ma_cells.specs.Tetrahedron.{Tetrahedron}
use Rattle.msh_read.specs.Raw.{Raw}
use Rattle.msh_read.specs.Trying.{◌>>=◌, ◌>>◌}
use Rattle.mesh_check.specs.Accepted.{apart}
use Rattle.mesh_check.specs.steps.FoundMarks.{found_of, found_loose, found_marks}
use Rattle.mesh_check.specs.steps.Tetrahedra.{found_tets}

-- the mesh with these tetrahedra, read once as a slice, and with its marks
pub found-is : (raw : Raw) (shift : ℕ) (tets slice : List Tetrahedron) (marks : List CellMark) (loose : ℕ) (mesh : MarkedMesh) → found_tets raw shift ≡ Ok tets → apart tets ≡ Ok tt → slice ≡ tets
    → marks ≡ found_marks raw shift slice → loose ≡ found_loose raw shift slice → mesh ≡ record { tets = tets; marks = marks; loose = loose } → found_of raw shift ≡ Ok mesh
unfolding found_of
found-is raw shift tets slice marks loose mesh found parted same m l is =
    let whole : List Tetrahedron → MarkedMesh = λ ts. record { tets = ts; marks = found_marks raw shift ts; loose = found_loose raw shift ts } in
    let marks' = m ∙ ap (found_marks raw shift) same in
    let loose' = l ∙ ap (found_loose raw shift) same in
    ap (λ r. r >>= λ ts. apart ts >> Ok (whole ts)) found ∙ ap (λ t. t >> Ok (whole tets)) parted ∙ ap (λ w. Ok w) (sym (is ∙ λ i. record { tets = tets; marks = marks' i; loose = loose' i }))
