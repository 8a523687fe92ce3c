-- The labels of a cavity, by the positions of its tetrahedra.
use Rattle.std.proofs.Common.{◌≡◌, ℕ, ◌+◌, Bool, List, [], ◌∷◌, if◌then◌else◌, map, refl, ap, ◌∙◌}
use Rattle.ma_geom.specs.Coordinates.{Coordinates}
use Rattle.ma_cells.specs.Faces.{holds_all}
use Rattle.ma_cells.specs.Tetrahedron.{Tetrahedron}
use Rattle.corner_tables.specs.Tables.{positions_from}
use Rattle.corner_tables.specs.steps.Near.{picked}
use Rattle.corner_tables.proofs.Tables.{picked_all}
use Rattle.part_store.specs.Agreement.{around}
use Rattle.part_store.specs.Labelled.{label_of, tet_of}

-- tetrahedra stand where they stand with their labels
positions-labelled : (k : ℕ) (test : Tetrahedron → Bool) (entries : List (Tetrahedron × ℕ)) → positions_from k test (map tet_of entries) ≡ positions_from k (λ entry. test (tet_of entry)) entries
positions-labelled k test [] = refl
positions-labelled k test (entry ∷ entries) = ap (λ later. if test (tet_of entry) then k ∷ later else later) (positions-labelled (k + 1) test entries)

pub labels_found : (at : List Coordinates) (entries : List (Tetrahedron × ℕ)) (tets : List Tetrahedron) (positions labels : List ℕ) → tets ≡ map tet_of entries
    → positions ≡ positions_from 0 (λ tet. holds_all tet.corners at) tets → labels ≡ map label_of (picked entries positions) → labels ≡ map label_of (around at entries)
labels_found at entries tets positions labels plain there made =
    let holds = λ (tet : Tetrahedron). holds_all tet.corners at in
    made ∙ ap (λ is. map label_of (picked entries is)) (there ∙ ap (positions_from 0 holds) plain ∙ positions-labelled 0 holds entries) ∙ ap (map label_of) (picked_all (λ entry. (tet_of entry).corners) entries at)
