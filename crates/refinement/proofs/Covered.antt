-- Refinement keeps cover: of a tetrahedron, and of a mesh.
use Rattle.std.proofs.Common.{◌≡◌, ◌≢◌, ◌+◌, ◌≤◌, Bool, true, false, cond, ◌&&◌, List, [], ◌∷◌, ◌∙◌, arith}
use Rattle.std.specs.Prelude.{ℤ, map}
use Rattle.std.specs.FinMap.{slice_cmp-IsAntisymmetric}
use Rattle.std.specs.List.{AllByRecursion, count_by, flat_map}
use Rattle.std.specs.Ordering.{int_eq}
use Rattle.std.proofs.lemmas.Bool.{false≢true}
use Rattle.ma_geom.specs.Coordinates.{Coordinates}
use Rattle.ma_geom.specs.Rational.{IsMiddle, Rational}
use Rattle.ma_geom.proofs.PlaceOrder.{place_cmp-IsAntisymmetric}
use Rattle.ma_cells.specs.Bisection.{bisect}
use Rattle.ma_cells.specs.Tetrahedron.{Tetrahedron, are_corners, are_tetrahedra}
use Rattle.ma_cells.specs.declared.batch.Batch.{Batch}
use Rattle.ma_cells.proofs.CellOrders.{tet_cmp-IsAntisymmetric}
use Rattle.ma_cells.proofs.Corners.{corners_rise}
use Rattle.ma_cover.specs.Inside.{is_inside}
use Rattle.ma_cover.specs.OnFaces.{IsOffFacesOf}
use Rattle.ma_cover.proofs.Covers.{bisect_inside}
use Rattle.ma_cells.proofs.Pieces.{pieces_are_corners}
use Rattle.ma_cover.proofs.WholeFaces.{off_pieces_is_off_whole}
use Rattle.size_marks.specs.Field.{Field}
use Rattle.split_templates.specs.Pieces.{bisected_along, pieces_of}
use Rattle.refinement.specs.Laws.{RefinementKeepsCover, RefinementKeepsFaces}
use Rattle.refinement.specs.Refinement.{long_edges, refine, refined_tet}
use Rattle.refinement.proofs.Counts.{all_of_map, count-map, count-none, count-weaker}
use Rattle.ma_cells.proofs.Passing.{all-map, all_pass}
use Rattle.refinement.proofs.Bisecting.{bisected, own_edges, own_edges_rise, so_along}
use Rattle.refinement.proofs.Rising.{Rises}
use Rattle.refinement.proofs.Keeping.{Keeps, keeps-append, keeps-each, keeps-itself, keeps-next, keeps-set}

-- ---- the pieces of four corners
abbrev pub AreCorners : List Coordinates → Type 0
AreCorners corners = are_corners corners ≡ true

pub halves_are_corners : (m a b : Coordinates) → IsMiddle m a b → a ≢ b → (corners : List Coordinates) → AreCorners corners → AllByRecursion AreCorners (bisect a b m corners)
halves_are_corners m a b middle differ corners are = all_pass are_corners (bisect a b m corners) (pieces_are_corners m a b corners middle differ are)

module _ (p : Rational) where
  abbrev pub KeepsInside : List (List Coordinates) → List (List Coordinates) → Type 0
  KeepsInside = Keeps AreCorners (IsOffFacesOf p) (is_inside p)

  whole_cell : (corners : List Coordinates) → AreCorners corners → KeepsInside (corners ∷ []) (corners ∷ [])
  whole_cell corners are = keeps-itself AreCorners (IsOffFacesOf p) (is_inside p) (corners ∷ []) (are, tt)

  halved_keep : (m a b : Coordinates) → IsMiddle m a b → a ≢ b → (corners : List Coordinates) → AreCorners corners → KeepsInside (corners ∷ []) (bisect a b m corners)
  halved_keep m a b middle differ corners are = record {
    not_flat = halves_are_corners m a b middle differ corners are;
    off = λ off. (off_pieces_is_off_whole p m a b corners middle differ are off, tt);
    count = λ _ off. bisect_inside p m a b corners middle differ are off;
  }

  pub bisected_keep : (edges : List (List Coordinates)) → AllByRecursion Rises edges → (cells : List (List Coordinates)) → AllByRecursion AreCorners cells
      → KeepsInside cells (bisected_along edges cells)
  bisected_keep =
      so_along AreCorners halves_are_corners KeepsInside (keeps-itself AreCorners (IsOffFacesOf p) (is_inside p) [] tt) whole_cell
      (keeps-append AreCorners (IsOffFacesOf p) (is_inside p)) (keeps-next AreCorners (IsOffFacesOf p) (is_inside p)) halved_keep

  pieces_keep : (field : Field) (corners : List Coordinates) → AreCorners corners → KeepsInside (corners ∷ []) (pieces_of (long_edges field corners) corners)
  pieces_keep field corners are =
      keeps-set AreCorners (IsOffFacesOf p) (is_inside p) (slice_cmp-IsAntisymmetric place_cmp-IsAntisymmetric) (corners ∷ []) (bisected field corners)
      (bisected_keep (own_edges field corners) (own_edges_rise field corners (corners_rise corners are)) (corners ∷ []) (are, tt))

-- ---- the pieces of a tetrahedron, with its region
abbrev pub with_corners : Tetrahedron → List Coordinates → Tetrahedron
with_corners tet corners = record tet { corners = corners }

abbrev pub IsNotFlat : Tetrahedron → Type 0
IsNotFlat tet = are_corners tet.corners ≡ true

abbrev pub IsOff : Rational → Tetrahedron → Type 0
IsOff p tet = IsOffFacesOf p tet.corners

-- the test of a tetrahedron by its region and a point
abbrev pub passes : (ℤ → ℤ → Bool) → Rational → Tetrahedron → Bool
passes g p tet = g tet.phys tet.elem && is_inside p tet.corners

pub at_most_one : (b : Bool) → 0 + cond b 1 0 ≤ 1
at_most_one true = omega arith
at_most_one false = omega arith

module _ (g : ℤ → ℤ → Bool) (p : Rational) where
  abbrev pub KeepsPassing : List Tetrahedron → List Tetrahedron → Type 0
  KeepsPassing = Keeps IsNotFlat (IsOff p) (passes g p)

  -- where the region is of no matter, or not the one that is asked for
  region_count : (b : Bool) (corners : List Coordinates) (pieces : List (List Coordinates)) → count_by (is_inside p) pieces ≡ count_by (is_inside p) (corners ∷ [])
      → count_by (λ piece. b && is_inside p piece) pieces ≡ count_by (λ piece. b && is_inside p piece) (corners ∷ [])
  region_count true corners pieces h = h
  region_count false corners pieces h = count-none pieces

  tets_keep : (tet : Tetrahedron) (pieces : List (List Coordinates)) → KeepsInside p (tet.corners ∷ []) pieces → KeepsPassing (tet ∷ []) (map (with_corners tet) pieces)
  tets_keep tet pieces kept = record {
    not_flat = all-map AreCorners IsNotFlat (with_corners tet) (λ _ are. are) pieces kept.not_flat;
    off = λ off. kept.off (all_of_map (IsOff p) (with_corners tet) pieces off);
    count = λ _ off.
        count-map (passes g p) (with_corners tet) pieces
        ∙ region_count (g tet.phys tet.elem) tet.corners pieces (kept.count (at_most_one (is_inside p tet.corners)) (all_of_map (IsOff p) (with_corners tet) pieces off));
  }

  pub refined_keep : (field : Field) (tet : Tetrahedron) → IsNotFlat tet → KeepsPassing (tet ∷ []) (refined_tet field tet)
  refined_keep field tet are =
      tets_keep tet (pieces_of (long_edges field tet.corners) tet.corners) (pieces_keep p field tet.corners are)

  -- ---- a mesh
  mesh_keep : (field : Field) (mesh : Batch) → are_tetrahedra mesh.tets ≡ true → KeepsPassing mesh.tets (refine field mesh).tets
  mesh_keep field mesh are =
      keeps-set IsNotFlat (IsOff p) (passes g p) tet_cmp-IsAntisymmetric mesh.tets (flat_map (refined_tet field) mesh.tets)
      (keeps-each IsNotFlat (IsOff p) (passes g p) (refined_tet field) (refined_keep field) mesh.tets (all_pass (λ tet. are_corners tet.corners) mesh.tets are))

  -- a region has no more tetrahedra with the point within them than all have
  pub fewer : (tets : List Tetrahedron) → count_by (λ tet. is_inside p tet.corners) tets ≤ 1 → count_by (passes g p) tets ≤ 1
  fewer tets most = let less = count-weaker (passes g p) (λ tet. is_inside p tet.corners) (λ tet. second (g tet.phys tet.elem) (is_inside p tet.corners)) tets in omega arith
    where
      second : (s t : Bool) → (s && t) ≡ true → t ≡ true
      second true t h = h
      second false t h = absurd (false≢true h)

-- ---- as the laws say it
pub refinement_keeps_faces : RefinementKeepsFaces
refinement_keeps_faces field mesh p are = (mesh_keep (λ _ _. true) p field mesh are).off

pub refinement_keeps_cover : RefinementKeepsCover
refinement_keeps_cover field mesh are p old_off off most = record {
  each = λ phys elem.
      let g = λ (u v : ℤ). int_eq u phys && int_eq v elem in
      (mesh_keep g p field mesh are).count (fewer g p mesh.tets most) off;
  whole = (mesh_keep (λ _ _. true) p field mesh are).count most off;
}
