-- A mesh whose tetrahedra don't overlap, and whose outer faces are marked, is sound.
use Rattle.std.proofs.Common.{◌≡◌, get_or, ℕ, true, List, None, sym, ap, subst, ◌∙◌, arith}
use Rattle.std.specs.List.{AllPairs}
use Rattle.std.proofs.lemmas.List.Sums.{AllPass-from_list_all}
use Rattle.ma_cells.specs.Cells.{CellMark}
use Rattle.ma_cells.specs.Meshes.{MarkedMesh}
use Rattle.ma_cells.specs.Tetrahedron.{Tetrahedron, are_corners, are_tetrahedra}
use Rattle.overlap_check.specs.Overlap.{first_overlap_of}
use Rattle.overlap_check.proofs.NoOverlap.{all_separated, no_overlap_covers_once}
use Rattle.msh_read.specs.Raw.{Raw}
use Rattle.mesh_check.specs.steps.FoundMarks.{found_marks}
use Rattle.ma_cover.specs.Sound.{IsSound}
use Rattle.mesh_check.specs.Accepted.{IsAcceptedMesh}
use Rattle.mesh_check.proofs.FaceCounts.{AreApart, AreNotFlat, faces_met, lie_apart, outer_face}
use Rattle.mesh_check.proofs.MarksOn.{marks_on_cells}

all_apart : (tets : List Tetrahedron) → AreNotFlat tets → first_overlap_of tets ≡ None → AllPairs AreApart tets
all_apart tets not_flat none = λ i j d low high. (not_flat i d (omega (arith, low, high)), (not_flat j d high, all_separated tets none i j d low high))

pub mesh_is_sound : (raw : Raw) (shift : ℕ) (tets : List Tetrahedron) → are_tetrahedra tets ≡ true → first_overlap_of tets ≡ None
    → IsSound tets (found_marks raw shift tets)
mesh_is_sound raw shift tets are none =
    let not_flat = AllPass-from_list_all (λ tet. are_corners tet.corners) tets are in
    let apart = all_apart tets not_flat none in
    record {
      conforming = record {
        sides = λ i j d low high. lie_apart (get_or tets i d) (get_or tets j d) (apart i j d low high);
        faces = λ phys elem face. faces_met raw shift tets not_flat apart phys elem face;
        on_cells = marks_on_cells raw shift tets;
      };
      once = λ p _. no_overlap_covers_once p tets none;
    }

pub mesh_is_accepted : (raw : Raw) (shift : ℕ) (tets : List Tetrahedron) → are_tetrahedra tets ≡ true → first_overlap_of tets ≡ None
    → IsAcceptedMesh tets (found_marks raw shift tets)
mesh_is_accepted raw shift tets are none = record {
  outer = λ phys elem face once. outer_face raw shift tets (AllPass-from_list_all (λ tet. are_corners tet.corners) tets are) phys elem face once;
  once = λ p. no_overlap_covers_once p tets none;
}

-- the mesh with these tetrahedra, read once as a slice, and with its marks
pub whole_mesh : (P : List Tetrahedron → List CellMark → Type 0) (raw : Raw) (shift : ℕ) (tets slice : List Tetrahedron) (marks : List CellMark) (loose : ℕ) (mesh : MarkedMesh)
    → slice ≡ tets → marks ≡ found_marks raw shift slice → mesh ≡ record { tets = tets; marks = marks; loose = loose } → P tets (found_marks raw shift tets) → P mesh.tets mesh.marks
whole_mesh P raw shift tets slice marks loose mesh same found is h =
    subst (λ (m : MarkedMesh). P m.tets m.marks) (sym is) (subst (P tets) (sym (found ∙ ap (found_marks raw shift) same)) h)
