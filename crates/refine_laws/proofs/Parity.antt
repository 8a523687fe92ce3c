-- How many tetrahedra of a region have a face, before and after a refinement: odd or even alike.
use Rattle.std.proofs.Common.{◌≡◌, ℕ, ◌+◌, Bool, true, false, cond, ◌&&◌, List, [], ◌∷◌, ◌++◌, refl, sym, ap, ap₂, ◌∙◌}
use Rattle.std.specs.Prelude.{ℤ, pos, map}
use Rattle.std.specs.Cmp.Lexicographic.{slice_cmp, lists_total}
use Rattle.std.specs.List.{AllByRecursion, count_by, flat_map}
use Rattle.std.specs.Ordering.{int_eq}
use Rattle.std.proofs.lemmas.List.Concat.{flat_map-append}
use Rattle.ma_geom.specs.Coordinates.{Coordinates, place_cmp}
use Rattle.ma_geom.specs.Rational.{Rational}
use Rattle.ma_geom.proofs.PlaceOrder.{place_cmp_total}
use Rattle.ma_cells.specs.Ascending.{are_distinct, has}
use Rattle.ma_cells.specs.Faces.{faces_of}
use Rattle.ma_cells.specs.Meshes.{corner_sets}
use Rattle.ma_cells.specs.Tetrahedron.{Tetrahedron, are_corners, is_flat, tet_cmp}
use Rattle.ma_cells.specs.declared.batch.Batch.{Batch}
use Rattle.ma_cells.proofs.CellOrders.{tet_cmp_total}
use Rattle.ma_cells.proofs.Corners.{corners_rise, corners_span}
use Rattle.ma_cells.proofs.Passing.{all-flat_map, all-map, all_pass, all_weaker}
use Rattle.ma_cells.proofs.Permutations.{listed_once-distinct}
use Rattle.ma_cover.specs.Inside.{is_inside}
use Rattle.ma_cover.specs.Sound.{holders}
use Rattle.mesh_laws.specs.Adapted.{IsSoundMesh}
use Rattle.mesh_laws.specs.Parity.{is_odd, region_faces}
use Rattle.mesh_laws.proofs.Listings.{holders_are_listings, same}
use Rattle.mesh_laws.proofs.MovedOff.{corners_of, covered_at_most}
use Rattle.mesh_laws.proofs.Oddly.{odd-append, odd-flat_map, odd_is, odd_of, xor}
use Rattle.mesh_laws.proofs.Sounds.{count-set, once_distinct, sound_covers_once}
use Rattle.mesh_laws.proofs.Adapted.{sound_not_flat}
use Rattle.size_marks.specs.Field.{Field}
use Rattle.split_templates.specs.Pieces.{pieces_of}
use Rattle.refinement.specs.Refinement.{long_edges, refine, refined_tet}
use Rattle.refinement.proofs.Bisecting.{bisected, own_edges, own_edges_rise}
use Rattle.refinement.proofs.Counts.{count-append, count-map}
use Rattle.refinement.proofs.Covered.{AreCorners, IsNotFlat, IsOff, at_most_one, bisected_keep, passes, refined_keep, with_corners}
use Rattle.refinement.proofs.Keeping.{as_few, keeps-each}
use Rattle.refinement.proofs.NotFlat.{refined_tet_is_not_flat}
use Rattle.refine_laws.proofs.Along.{nothing_after, pieces_oddly}

not_flat : (tets : List Tetrahedron) → AllByRecursion IsNotFlat tets → AllByRecursion (λ (tet : Tetrahedron). is_flat tet.corners ≡ false) tets
not_flat = all_weaker IsNotFlat (λ tet. is_flat tet.corners ≡ false) (λ tet are. corners_span tet.corners are)

module _ (field : Field) where
  -- ---- the pieces of one tetrahedron are different
  module _ (corners : List Coordinates) (are : AreCorners corners) where
    pub pieces_not_flat : AllByRecursion AreCorners (bisected field corners)
    pieces_not_flat = (bisected_keep (record { x = pos 0; y = pos 0; z = pos 0; w = pos 1 }) (own_edges field corners) (own_edges_rise field corners (corners_rise corners are)) (corners ∷ []) (are, tt)).not_flat

    pieces_distinct : are_distinct (slice_cmp place_cmp) (bisected field corners) ≡ true
    pieces_distinct =
        let none_flat = all_weaker AreCorners (λ c. is_flat c ≡ false) corners_span (bisected field corners) pieces_not_flat in
        once_distinct (bisected field corners) none_flat
        (covered_at_most (λ (c : List Coordinates). c) (λ _. true) 1 (bisected field corners) (corners ∷ []) none_flat (corners_span corners are, tt)
        (λ q off _. as_few _ _ ((bisected_keep q (own_edges field corners) (own_edges_rise field corners (corners_rise corners are)) (corners ∷ []) (are, tt)).count (at_most_one (is_inside q corners)) off) (at_most_one (is_inside q corners))))

    pieces_counted : (f : List Coordinates → Bool) → count_by f (pieces_of (long_edges field corners) corners) ≡ count_by f (bisected field corners)
    pieces_counted f = count-set (lists_total place_cmp_total) f (bisected field corners) pieces_distinct

  -- ---- a mesh, with its pieces in the order in which they come
  abbrev pub parts_of : Tetrahedron → List Tetrahedron
  parts_of tet = map (with_corners tet) (bisected field tet.corners)

  parts_counted : (f : Tetrahedron → Bool) (tets : List Tetrahedron) → AllByRecursion IsNotFlat tets → count_by f (flat_map (refined_tet field) tets) ≡ count_by f (flat_map parts_of tets)
  parts_counted f [] are = refl
  parts_counted f (tet ∷ tets) are =
      count-append f (refined_tet field tet) (flat_map (refined_tet field) tets)
      ∙ ap₂ (λ (m n : ℕ). m + n)
      (count-map f (with_corners tet) (pieces_of (long_edges field tet.corners) tet.corners) ∙ pieces_counted tet.corners are.0 (λ c. f (with_corners tet c)) ∙ sym (count-map f (with_corners tet) (bisected field tet.corners)))
      (parts_counted f tets are.1)
      ∙ sym (count-append f (parts_of tet) (flat_map parts_of tets))

  module _ (mesh : Batch) (is : IsSoundMesh mesh) where
    abbrev pieces : List Tetrahedron
    pieces = flat_map (refined_tet field) mesh.tets

    pub are_not_flat : AllByRecursion IsNotFlat mesh.tets
    are_not_flat = all_pass (λ tet. are_corners tet.corners) mesh.tets is.tetrahedra

    pieces_distinct_all : are_distinct tet_cmp pieces ≡ true
    pieces_distinct_all =
        let none_flat = not_flat pieces (all-flat_map IsNotFlat IsNotFlat (refined_tet field) (refined_tet_is_not_flat field) mesh.tets are_not_flat) in
        let once = sound_covers_once mesh.tets mesh.marks is.sound (sound_not_flat mesh is) in
        let kept = λ (q : Rational). keeps-each IsNotFlat (IsOff q) (passes (λ _ _. true) q) (refined_tet field) (refined_keep (λ _ _. true) q field) mesh.tets are_not_flat in
        listed_once-distinct pieces (once_distinct (corner_sets pieces) (all-map (λ (tet : Tetrahedron). is_flat tet.corners ≡ false) (λ c. is_flat c ≡ false) corners_of (λ t h. h) pieces none_flat)
        (λ p. as_few _ _ (count-map (is_inside p) corners_of pieces)
        (covered_at_most corners_of (λ _. true) 1 pieces mesh.tets none_flat (sound_not_flat mesh is) (λ q off _. as_few _ _ ((kept q).count (once q) off) (once q)) p)))

    -- as many tetrahedra of the refined mesh pass a test as of the pieces in their order
    refined_counted : (f : Tetrahedron → Bool) → count_by f (refine field mesh).tets ≡ count_by f (flat_map parts_of mesh.tets)
    refined_counted f = count-set tet_cmp_total f pieces pieces_distinct_all ∙ parts_counted f mesh.tets are_not_flat

  -- ---- a region
  module _ (phys elem : ℤ) (g : List Coordinates) where
    pub holders_are_odd : (tets : List Tetrahedron) → AllByRecursion IsNotFlat tets → is_odd (holders phys elem g tets) ≡ odd_of (same g) (region_faces phys elem tets)
    holders_are_odd tets are = ap is_odd (holders_are_listings tets (not_flat tets are) phys elem g) ∙ odd_is (same g) (region_faces phys elem tets)

    abbrev pub gives_it : List Coordinates → Bool
    gives_it f = odd_of (same g) (bisected field f)

    of_parts : (tet : Tetrahedron) (cs : List (List Coordinates)) → region_faces phys elem (map (with_corners tet) cs) ≡ cond (int_eq tet.phys phys && int_eq tet.elem elem) (flat_map faces_of cs) []
    of_parts tet [] = none (int_eq tet.phys phys && int_eq tet.elem elem)
      where
        none : (b : Bool) → ◌≡◌ {A = List (List Coordinates)} [] (cond b [] [])
        none true = refl
        none false = refl
    of_parts tet (c ∷ cs) = ap (λ rest. cond (int_eq tet.phys phys && int_eq tet.elem elem) (faces_of c) [] ++ rest) (of_parts tet cs) ∙ by (int_eq tet.phys phys && int_eq tet.elem elem)
      where
        by : (b : Bool) → cond b (faces_of c) [] ++ cond b (flat_map faces_of cs) [] ≡ cond b (faces_of c ++ flat_map faces_of cs) []
        by true = refl
        by false = refl

    of_tet : (tet : Tetrahedron) → IsNotFlat tet → odd_of (same g) (region_faces phys elem (parts_of tet)) ≡ odd_of gives_it (region_faces phys elem (tet ∷ []))
    of_tet tet are = ap (odd_of (same g)) (of_parts tet (bisected field tet.corners)) ∙ by (int_eq tet.phys phys && int_eq tet.elem elem)
      where
        by : (b : Bool) → odd_of (same g) (cond b (flat_map faces_of (bisected field tet.corners)) []) ≡ odd_of gives_it (cond b (faces_of tet.corners) [] ++ [])
        by true =
            pieces_oddly field tet.corners are g ∙ odd-flat_map (same g) (bisected field) (faces_of tet.corners) ∙ ap (odd_of gives_it) (sym (nothing_after (faces_of tet.corners)))
        by false = refl

    of_all : (tets : List Tetrahedron) → AllByRecursion IsNotFlat tets → odd_of (same g) (region_faces phys elem (flat_map parts_of tets)) ≡ odd_of gives_it (region_faces phys elem tets)
    of_all [] are = refl
    of_all (tet ∷ tets) are =
        let test = λ (tet : Tetrahedron). cond (int_eq tet.phys phys && int_eq tet.elem elem) (faces_of tet.corners) [] in
        ap (odd_of (same g)) (flat_map-append test (parts_of tet) (flat_map parts_of tets))
        ∙ odd-append (same g) (region_faces phys elem (parts_of tet)) (region_faces phys elem (flat_map parts_of tets))
        ∙ ap₂ xor (of_tet tet are.0 ∙ ap (odd_of gives_it) (nothing_after (test tet))) (of_all tets are.1)
        ∙ sym (odd-append gives_it (test tet) (region_faces phys elem tets))

    -- an odd number of the tetrahedra of a region of a refined mesh have a face just where it is a piece of an odd number of the region's faces
    pub refined_oddly : (mesh : Batch) → IsSoundMesh mesh → is_odd (holders phys elem g (refine field mesh).tets) ≡ odd_of gives_it (region_faces phys elem mesh.tets)
    refined_oddly mesh is =
        let parts = flat_map parts_of mesh.tets in
        ap is_odd (refined_counted mesh is (λ tet. (int_eq tet.phys phys && int_eq tet.elem elem) && has (slice_cmp place_cmp) g (faces_of tet.corners)))
        ∙ holders_are_odd parts (all-flat_map IsNotFlat IsNotFlat parts_of (λ tet are. all-map AreCorners IsNotFlat (with_corners tet) (λ c k. k) (bisected field tet.corners) (pieces_not_flat tet.corners are)) mesh.tets (are_not_flat mesh is))
        ∙ of_all mesh.tets (are_not_flat mesh is)
