-- What a swap leaves is what the law of swaps has, with the corners in another order.
use Rattle.std.proofs.Common.{◌≡◌, ◌==◌, Bool, true, false, not, cond, ◌||◌, List, [], ◌∷◌, ◌++◌, filter, length, refl, sym, subst}
use Rattle.std.specs.Prelude.{ℤ, map}
use Rattle.std.specs.List.{AllByRecursion, flat_map}
use Rattle.std.proofs.lemmas.Bool.{false≢true}
use Rattle.std.proofs.lemmas.Grind.{flat_map-append}
use Rattle.std.proofs.lemmas.List.{map-append}
use Rattle.ma_geom.specs.Coordinates.{Coordinates}
use Rattle.ma_geom.specs.Lines.{is_flat}
use Rattle.ma_cells.specs.Faces.{faces_of}
use Rattle.ma_cells.specs.Meshes.{corner_sets}
use Rattle.ma_cells.specs.Stars.{cone}
use Rattle.ma_cells.specs.Tetrahedron.{Tetrahedron}
use Rattle.mesh_laws.proofs.Weights.{by_four}
use Rattle.cavity_laws.specs.Cavity.{Facet, cone_of, cones, facets_of}
use Rattle.cavity_laws.specs.Filled.{AreReordered}
use Rattle.cavity_laws.specs.Swap.{is_between}
use Rattle.cavity_laws.proofs.Cavities.{all_split}
use Rattle.cavity_swap.specs.Swapping.{had_by, outer_faces}
use Rattle.collapse_laws.proofs.Stars.{cone_reordered}

-- that one alone has a face just if it isn't between two
pub record IsCounted (all : List Tetrahedron) (x : Facet) : Type 0 where
  pub outer : (had_by all x.face == 1) ≡ not (is_between (corner_sets all) x.face)
  pub three : length x.face ≡ 3

reordered_append : (ss ts ss' ts' : List (List Coordinates)) → AreReordered ss ts → AreReordered ss' ts' → AreReordered (ss ++ ss') (ts ++ ts')
reordered_append [] [] ss' ts' h k = k
reordered_append [] (t ∷ ts) ss' ts' h k = absurd h
reordered_append (s ∷ ss) [] ss' ts' h k = absurd h
reordered_append (s ∷ ss) (t ∷ ts) ss' ts' h k = (h.0, reordered_append ss ts ss' ts' h.1 k)

module _ (v : Coordinates) (phys elem : ℤ) (all : List Tetrahedron) where
  abbrev here : List (List Coordinates) → List Tetrahedron
  here faces = flat_map (cone v phys elem) (filter (λ face. had_by all face == 1) faces)

  abbrev face_of : Facet → List Coordinates
  face_of x = x.face

  one_list : (xs : List Facet) → AllByRecursion (IsCounted all) xs → AreReordered (flat_map (cone_of v (is_between (corner_sets all))) xs) (corner_sets (here (map face_of xs)))
  one_list [] h = tt
  one_list (x ∷ xs) h = by (is_between (corner_sets all) x.face) (had_by all x.face == 1) h.0.outer (one_list xs h.1)
    where
      by : (b o : Bool) → o ≡ not b → AreReordered (flat_map (cone_of v (is_between (corner_sets all))) xs) (corner_sets (here (map face_of xs)))
          → AreReordered (cond (b || is_flat (v ∷ x.face)) [] ((v ∷ x.face) ∷ []) ++ flat_map (cone_of v (is_between (corner_sets all))) xs)
          (corner_sets (flat_map (cone v phys elem) (cond o (x.face ∷ filter (λ face. had_by all face == 1) (map face_of xs)) (filter (λ face. had_by all face == 1) (map face_of xs)))))
      by true true e k = absurd (false≢true (sym e))
      by true false e k = k
      by false true e k =
          subst (λ l. AreReordered (cond (is_flat (v ∷ x.face)) [] ((v ∷ x.face) ∷ []) ++ flat_map (cone_of v (is_between (corner_sets all))) xs) l)
          (sym (map-append (λ (tet : Tetrahedron). tet.corners) (cone v phys elem x.face) (here (map face_of xs))))
          (reordered_append (cond (is_flat (v ∷ x.face)) [] ((v ∷ x.face) ∷ [])) (corner_sets (cone v phys elem x.face)) (flat_map (cone_of v (is_between (corner_sets all))) xs) (corner_sets (here (map face_of xs)))
          (cone_reordered v phys elem x.face h.0.three) k)
      by false false e k = absurd (false≢true e)

  faces_are : (corners : List Coordinates) → is_flat corners ≡ false → faces_of corners ≡ map face_of (facets_of corners)
  faces_are = by_four (λ corners. faces_of corners ≡ map face_of (facets_of corners)) (λ a b c d solid. refl)

  pub cones_reordered : (tets : List Tetrahedron) → AllByRecursion (λ tet. is_flat tet.corners ≡ false) tets → AllByRecursion (IsCounted all) (flat_map facets_of (corner_sets tets))
      → AreReordered (cones v (is_between (corner_sets all)) (corner_sets tets)) (corner_sets (flat_map (λ tet. flat_map (cone v phys elem) (outer_faces all tet)) tets))
  cones_reordered [] solid h = tt
  cones_reordered (tet ∷ tets) solid h =
      let parts = all_split (IsCounted all) (facets_of tet.corners) (flat_map facets_of (corner_sets tets)) h in
      let inner = is_between (corner_sets all) in
      let others = flat_map (λ t. flat_map (cone v phys elem) (outer_faces all t)) tets in
      subst (λ l. AreReordered l (corner_sets (here (faces_of tet.corners) ++ others))) (sym (flat_map-append (cone_of v inner) (facets_of tet.corners) (flat_map facets_of (corner_sets tets))))
      (subst (λ l. AreReordered (flat_map (cone_of v inner) (facets_of tet.corners) ++ cones v inner (corner_sets tets)) l) (sym (map-append (λ (t : Tetrahedron). t.corners) (here (faces_of tet.corners)) others))
      (reordered_append (flat_map (cone_of v inner) (facets_of tet.corners)) (corner_sets (here (faces_of tet.corners))) (cones v inner (corner_sets tets)) (corner_sets others)
      (subst (λ fs. AreReordered (flat_map (cone_of v inner) (facets_of tet.corners)) (corner_sets (here fs))) (sym (faces_are tet.corners solid.0)) (one_list (facets_of tet.corners) parts.0)) (cones_reordered tets solid.1 parts.1)))
