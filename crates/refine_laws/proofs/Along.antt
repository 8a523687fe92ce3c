-- The faces of the pieces of tetrahedra that are bisected at edges, one after the other, are the pieces of their faces, but for those between pieces.
use Rattle.std.proofs.Common.{◌≡◌, Bool, true, false, List, [], ◌∷◌, ◌++◌, refl, sym, ap, ap₂, ◌∙◌}
use Rattle.std.specs.List.{AllByRecursion, flat_map}
use Rattle.ma_geom.specs.Coordinates.{Coordinates}
use Rattle.ma_cells.specs.Faces.{faces_of}
use Rattle.ma_cells.proofs.Corners.{corners_rise}
use Rattle.ma_cells.proofs.Passing.{all-flat_map}
use Rattle.size_marks.specs.Field.{Field}
use Rattle.split_templates.specs.Pieces.{bisected_along, halves}
use Rattle.split_templates.proofs.Sets.{bisected_along-append}
use Rattle.mesh_laws.proofs.Listings.{same, same_is, same_itself}
use Rattle.mesh_laws.proofs.Oddly.{odd-alike, odd-each, odd-flat_map, odd_of, xor}
use Rattle.refinement.proofs.Bisecting.{bisected, by_halves, kind_halves, own_edges, own_edges_rise}
use Rattle.refinement.proofs.Covered.{AreCorners, halves_are_corners}
use Rattle.refinement.proofs.Rising.{Rises}
use Rattle.refine_laws.proofs.HalvedFaces.{IsWithin, faces_rise, halves_keep_parity, within_faces}
use Rattle.refine_laws.proofs.Own.{own_pieces}

-- that two lists have the same triangles an odd number of times
abbrev pub Oddly : List (List Coordinates) → List (List Coordinates) → Type 0
Oddly xs ys = (g : List Coordinates) → odd_of (same g) xs ≡ odd_of (same g) ys

last : (b : Bool) → xor b false ≡ b
last true = refl
last false = refl

-- ---- one edge
one_edge : (edge : List Coordinates) → Rises edge → (corners : List Coordinates) → AreCorners corners → Oddly (flat_map faces_of (halves edge corners)) (flat_map (halves edge) (faces_of corners))
one_edge edge rises corners are =
    by_halves (λ parts. Oddly (flat_map faces_of (parts corners)) (flat_map parts (faces_of corners))) whole
    (λ m a b middle differ. halves_keep_parity m a b middle differ corners are) edge rises
  where
    whole : Oddly (flat_map faces_of (corners ∷ [])) (flat_map (λ f. f ∷ []) (faces_of corners))
    whole g =
        odd-flat_map (same g) faces_of (corners ∷ [])
        ∙ last (odd_of (same g) (faces_of corners))
        ∙ each (faces_of corners)
        ∙ sym (odd-flat_map (same g) (λ f. f ∷ []) (faces_of corners))
      where
        each : (fs : List (List Coordinates)) → odd_of (same g) fs ≡ odd_of (λ f. xor (same g f) false) fs
        each [] = refl
        each (f ∷ fs) = ap₂ xor (sym (last (same g f))) (each fs)

-- ---- several tetrahedra
at_edge : (edge : List Coordinates) → Rises edge → (tets : List (List Coordinates)) → AllByRecursion AreCorners tets → Oddly (flat_map faces_of (flat_map (halves edge) tets)) (flat_map (halves edge) (flat_map faces_of tets))
at_edge edge rises tets are g =
    odd-flat_map (same g) faces_of (flat_map (halves edge) tets)
    ∙ odd-flat_map (λ s. odd_of (same g) (faces_of s)) (halves edge) tets
    ∙ odd-each (λ t. odd_of (λ s. odd_of (same g) (faces_of s)) (halves edge t)) (λ t. odd_of (λ f. odd_of (same g) (halves edge f)) (faces_of t)) tets (each tets are)
    ∙ sym (odd-flat_map (same g) (halves edge) (flat_map faces_of tets) ∙ odd-flat_map (λ f. odd_of (same g) (halves edge f)) faces_of tets)
  where
    each : (ts : List (List Coordinates)) → AllByRecursion AreCorners ts
        → AllByRecursion (λ t. odd_of (λ s. odd_of (same g) (faces_of s)) (halves edge t) ≡ odd_of (λ f. odd_of (same g) (halves edge f)) (faces_of t)) ts
    each [] are = tt
    each (t ∷ ts) are = (
      sym (odd-flat_map (same g) faces_of (halves edge t)) ∙ one_edge edge rises t are.0 g ∙ odd-flat_map (same g) (halves edge) (faces_of t),
      each ts are.1,
    )

-- ---- several edges
-- what is listed an odd number of times alike is so once it is bisected
along_alike : (edges : List (List Coordinates)) (xs ys : List (List Coordinates)) → Oddly xs ys → Oddly (bisected_along edges xs) (bisected_along edges ys)
along_alike [] xs ys alike = alike
along_alike (edge ∷ edges) xs ys alike =
    along_alike edges (flat_map (halves edge) xs) (flat_map (halves edge) ys)
    (λ g. odd-flat_map (same g) (halves edge) xs ∙ odd-alike (λ (f : List Coordinates). f) same same_is same_itself (λ f. odd_of (same g) (halves edge f)) xs ys alike ∙ sym (odd-flat_map (same g) (halves edge) ys))

along : (edges : List (List Coordinates)) → AllByRecursion Rises edges → (tets : List (List Coordinates)) → AllByRecursion AreCorners tets
    → Oddly (flat_map faces_of (bisected_along edges tets)) (bisected_along edges (flat_map faces_of tets))
along [] rise tets are g = refl
along (edge ∷ edges) rise tets are g =
    let parts = flat_map (halves edge) tets in
    along edges rise.1 parts (all-flat_map AreCorners AreCorners (halves edge) (kind_halves AreCorners halves_are_corners edge rise.0) tets are) g
    ∙ along_alike edges (flat_map faces_of parts) (flat_map (halves edge) (flat_map faces_of tets)) (at_edge edge rise.0 tets are) g

-- each cell by itself
along_each : (edges cells : List (List Coordinates)) → bisected_along edges cells ≡ flat_map (λ c. bisected_along edges (c ∷ [])) cells
along_each edges [] = none edges
  where
    none : (es : List (List Coordinates)) → bisected_along es [] ≡ []
    none [] = refl
    none (e ∷ es) = none es
along_each edges (c ∷ cells) = bisected_along-append edges (c ∷ []) cells ∙ ap (λ rest. bisected_along edges (c ∷ []) ++ rest) (along_each edges cells)

-- ---- one tetrahedron at its own long edges
pub nothing_after : (xs : List (List Coordinates)) → xs ++ [] ≡ xs
nothing_after [] = refl
nothing_after (x ∷ xs) = ap (λ rest. x ∷ rest) (nothing_after xs)

module _ (field : Field) (corners : List Coordinates) (are : AreCorners corners) where
  each_own : (fs : List (List Coordinates)) → AllByRecursion Rises fs → AllByRecursion (IsWithin corners) fs → flat_map (λ f. bisected_along (own_edges field corners) (f ∷ [])) fs ≡ flat_map (bisected field) fs
  each_own [] rise within = refl
  each_own (f ∷ fs) rise within = ap₂ (λ xs ys. xs ++ ys) (own_pieces field corners f are rise.0 within.0) (each_own fs rise.1 within.1)

  pub pieces_oddly : Oddly (flat_map faces_of (bisected field corners)) (flat_map (bisected field) (faces_of corners))
  pieces_oddly g =
      along (own_edges field corners) (own_edges_rise field corners (corners_rise corners are)) (corners ∷ []) (are, tt) g
      ∙ ap (λ fs. odd_of (same g) (bisected_along (own_edges field corners) fs)) (nothing_after (faces_of corners))
      ∙ ap (odd_of (same g)) (along_each (own_edges field corners) (faces_of corners) ∙ each_own (faces_of corners) (faces_rise corners are) (within_faces corners))
