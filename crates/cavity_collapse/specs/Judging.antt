-- Which collapses of a vertex a to v are legal, by the tetrahedra of its star and by marks, of which those at a count.
use Rattle.std.specs.Prelude.{ℕ, ◌^◌, Bool, not, ◌&&◌, ◌||◌, nat_le, List, [], ◌∷◌, Option, Some, None}
use Rattle.std.specs.List.{list_all, list_any}
use Rattle.ma_geom.specs.Coordinates.{Coordinates, place_cmp}
use Rattle.ma_geom.specs.Signs.{same_sign, side_of}
use Rattle.ma_cells.specs.Ascending.{has}
use Rattle.ma_cells.specs.Cells.{CellMark}
use Rattle.ma_cells.specs.Faces.{holds_all}
use Rattle.ma_cells.specs.Stars.{besides}
use Rattle.ma_cells.specs.Tetrahedron.{Tetrahedron}
use Rattle.ma_cells.specs.Worst.{worst}
use Rattle.size_marks.specs.Field.{Field, is_long, is_short}
use Rattle.cavity_rank.specs.Verdicts.{first_failing, verdict_of}
use Rattle.cavity_rank.specs.declared.verdict.Verdict.{Verdict}
use Rattle.cavity_rank.specs.declared.verdict.Verdict.TheVariants.{Legal, Illegal}
use Rattle.cavity_collapse.specs.Collapsing.{collapsed, is_same}
use Rattle.cavity_collapse.specs.Curves.{curves_are_kept, is_free_point}
use Rattle.cavity_collapse.specs.Surfaces.{planes_are_kept, surfaces_are_kept, turns_are_kept}

-- a and v are the ends of an edge, and it is short
abbrev pub is_short_edge : Field → List Tetrahedron → (a v : Coordinates) → Bool
is_short_edge field star a v = not (is_same a v) && (is_short field a v && list_any (λ tet. holds_all tet.corners (a ∷ v ∷ [])) star)

-- each tetrahedron either has v, or v lies on the same side of the face across from a as a
abbrev pub faces_are_seen : List Tetrahedron → (a v : Coordinates) → Bool
faces_are_seen star a v =
    list_all (λ tet. has place_cmp v tet.corners || same_sign (side_of (besides (a ∷ []) tet.corners) v) (side_of (besides (a ∷ []) tet.corners) a)) star

-- no edge from v of a new tetrahedron is long
abbrev pub edges_stay_short : Field → List Tetrahedron → (a v : Coordinates) → Bool
edges_stay_short field star a v = list_all (λ tet. has place_cmp v tet.corners || list_all (λ x. not (is_long field v x)) (besides (a ∷ []) tet.corners)) star

-- the least quality doesn't fall, or not below a sixty-fourth
abbrev pub quality_is_kept : (old new : ℕ) → Bool
quality_is_kept old new = nat_le old new || nat_le (2 ^ 24) new

-- the nine tests
abbrev pub collapse_tests : Field → List Tetrahedron → List CellMark → (a v : Coordinates) → List Bool
collapse_tests field star marks a v =
    is_short_edge field star a v ∷ is_free_point marks a ∷ curves_are_kept marks a v ∷ planes_are_kept marks a v ∷ surfaces_are_kept marks a v
    ∷ turns_are_kept marks a v ∷ faces_are_seen star a v ∷ edges_stay_short field star a v ∷ quality_is_kept (worst star) (worst (collapsed a v star)) ∷ []

-- the number of the first test that fails, else the least quality of the new tetrahedra
abbrev pub judged_collapse : Field → List Tetrahedron → List CellMark → (a v : Coordinates) → Verdict
judged_collapse field star marks a v = verdict_of (worst (collapsed a v star)) (first_failing 1 (collapse_tests field star marks a v))

-- the quality that a verdict tells of a legal operation
abbrev pub legal_quality : Verdict → Option ℕ
legal_quality (Legal worst) = Some worst
legal_quality (Illegal n) = None
