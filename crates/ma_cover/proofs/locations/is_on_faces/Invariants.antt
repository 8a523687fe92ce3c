use Rattle.std.proofs.Common.{ℕ, ◌<◌, get_or}
use Rattle.ma_cells.specs.Tetrahedron.{Tetrahedron}
use Rattle.ma_cover.specs.OnFaces.{IsOffFacesOf}
use Rattle.ma_cover.proofs.locations.is_on_faces.Given as goal

abbrev pub invariant-loop-tet : goal.invariant-loop-tet
invariant-loop-tet l = (k : ℕ) (d : Tetrahedron) → k < l.tet-index → IsOffFacesOf l.spot (get_or l.tets k d).corners
