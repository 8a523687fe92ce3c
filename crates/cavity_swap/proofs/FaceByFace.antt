-- What fills a cavity, face by face.
use Rattle.std.proofs.Common.{◌≡◌, ℕ, ◌==◌, ◌≤◌, ◌-◌, true, false, not, cond, ◌&&◌, ◌||◌, min, List, [], ◌∷◌, ◌++◌, length, get_or, take, drop, filter, Option, Some, None, refl, sym, ap, subst, ◌∙◌, arith}
use Rattle.std.specs.List.{flat_map, list_all}
use Rattle.std.specs.Option.{option_to_list, unwrap_or}
use Rattle.std.proofs.lemmas.List.{map-append, take_all}
use Rattle.ma_geom.specs.Coordinates.{Coordinates, place_cmp}
use Rattle.ma_geom.specs.Quality.{quality}
use Rattle.ma_geom.specs.Signs.{same_sign, side_of}
use Rattle.ma_cells.specs.Ascending.{ascending_of, has}
use Rattle.ma_cells.specs.Faces.{faces_of}
use Rattle.ma_cells.specs.Stars.{besides, cone}
use Rattle.ma_cells.specs.Tetrahedron.{Tetrahedron, tet_cmp, tetrahedron_of}
use Rattle.ma_cells.specs.Worst.{least, worst}
use Rattle.ma_cells.proofs.CellOrders.{tet_cmp-IsAntisymmetric}
use Rattle.cavity_collapse.specs.Steps.{least_with, lesser, worst_with}
use Rattle.cavity_collapse.proofs.Listed.{all_kept}
use Rattle.cavity_collapse.proofs.Worsts.{least_set, qualities}
use Rattle.cavity_swap.specs.Judging.{outer_faces_are_seen}
use Rattle.cavity_swap.specs.Steps.{are_seen, is_beside, is_seen_from, outer_cone, worst_over, worst_over_faces}
use Rattle.cavity_swap.specs.Swapping.{had_by, outer_faces, swapped}

-- a slice by its first item and the rest
pub front_is : {X : Type 0} (x : X) (xs : List X) → 1 ≤ length xs → x ≡ get_or xs 0 x → xs ≡ x ∷ take (length xs - 1) (drop 1 xs)
front_is x [] h e = absurd (omega (arith, h))
front_is x (y ∷ ys) h e =
    let whole : take (length (y ∷ ys) - 1) ys ≡ ys = take_all (length (y ∷ ys) - 1) ys (omega arith) in
    λ i. sym e i ∷ sym whole i

min_join : (n m l : ℕ) → min (min n m) l ≡ min n (min m l)
min_join n m l = omega arith

one_more : (w : Option ℕ) (n : ℕ) (ns : List ℕ) → least_with (Some (lesser w n)) ns ≡ least_with w (n ∷ ns)
one_more None n ns = refl
one_more (Some m) n [] = refl
one_more (Some m) n (l ∷ ns) = min_join m n (least (l ∷ ns))

with_one : (w : Option ℕ) (o : Option Tetrahedron) (ns : List ℕ) → least_with (worst_with w o) ns ≡ least_with w (qualities (option_to_list o) ++ ns)
with_one w None ns = refl
with_one w (Some tet) ns = one_more w (quality tet.corners) ns

regroup : (o : Option Tetrahedron) (tets : List Tetrahedron) (ns : List ℕ) → qualities (option_to_list o) ++ (qualities tets ++ ns) ≡ qualities (option_to_list o ++ tets) ++ ns
regroup None tets ns = refl
regroup (Some tet) tets ns = refl

module _ (cavity : List Tetrahedron) (first : Tetrahedron) (v : Coordinates) where
  abbrev pub cones_over : List (List Coordinates) → List Tetrahedron
  cones_over faces = flat_map (λ face. option_to_list (outer_cone cavity first v face)) faces

  -- what isn't outer has no cone
  pub over_outer : (faces : List (List Coordinates)) → cones_over faces ≡ flat_map (cone v first.phys first.elem) (filter (λ face. had_by cavity face == 1) faces)
  over_outer [] = refl
  over_outer (face ∷ faces) =
      elim (had_by cavity face == 1) as (λ b. option_to_list (cond b (tetrahedron_of (v ∷ face) first.phys first.elem) None) ++ cones_over faces ≡ flat_map (cone v first.phys first.elem) (cond b (face ∷ filter (λ face. had_by cavity face == 1) faces) (filter (λ face. had_by cavity face == 1) faces))) [
        | true ↦ ap (λ tets. cone v first.phys first.elem face ++ tets) (over_outer faces)
        | false ↦ over_outer faces
      ]

  over_faces : (w : Option ℕ) (faces : List (List Coordinates)) (ns : List ℕ) → least_with (worst_over_faces cavity first v w faces) ns ≡ least_with w (qualities (cones_over faces) ++ ns)
  over_faces w [] ns = refl
  over_faces w (face ∷ faces) ns =
      over_faces (worst_with w (outer_cone cavity first v face)) faces ns ∙ with_one w (outer_cone cavity first v face) (qualities (cones_over faces) ++ ns)
      ∙ ap (least_with w) (regroup (outer_cone cavity first v face) (cones_over faces) ns)

  over_tets : (w : Option ℕ) (tets : List Tetrahedron) → least_with (worst_over cavity first v w tets) [] ≡ least_with w (qualities (flat_map (λ tet. cones_over (faces_of tet.corners)) tets))
  over_tets w [] = refl
  over_tets w (tet ∷ tets) =
      over_tets (worst_over_faces cavity first v w (faces_of tet.corners)) tets ∙ over_faces w (faces_of tet.corners) (qualities (flat_map (λ tet. cones_over (faces_of tet.corners)) tets))
      ∙ ap (least_with w) (sym (map-append (λ (tet : Tetrahedron). quality tet.corners) (cones_over (faces_of tet.corners)) (flat_map (λ tet. cones_over (faces_of tet.corners)) tets)))

  all_outer : (tets : List Tetrahedron) → flat_map (λ tet. cones_over (faces_of tet.corners)) tets ≡ flat_map (λ tet. flat_map (cone v first.phys first.elem) (outer_faces cavity tet)) tets
  all_outer [] = refl
  all_outer (tet ∷ tets) = (λ i. over_outer (faces_of tet.corners) i ++ all_outer tets i)

told : (o : Option ℕ) → unwrap_or o 0 ≡ least_with o []
told (Some n) = refl
told None = refl

least_over : (first : Tetrahedron) (rest : List Tetrahedron) (v : Coordinates) → unwrap_or (worst_over (first ∷ rest) first v None (first ∷ rest)) 0 ≡ worst (swapped v (first ∷ rest))
unfolding worst
least_over first rest v =
    told (worst_over (first ∷ rest) first v None (first ∷ rest)) ∙ over_tets (first ∷ rest) first v None (first ∷ rest) ∙ ap (λ tets. least (qualities tets)) (all_outer (first ∷ rest) first v (first ∷ rest))
    ∙ sym (least_set tet_cmp-IsAntisymmetric (λ (tet : Tetrahedron). quality tet.corners) (flat_map (λ tet. flat_map (cone v first.phys first.elem) (outer_faces (first ∷ rest) tet)) (first ∷ rest)))

-- of a cavity by its first tetrahedron
module _ (cavity : List Tetrahedron) (first : Tetrahedron) (v : Coordinates) (front : cavity ≡ first ∷ drop 1 cavity) where
  pub worst_is : unwrap_or (worst_over cavity first v None cavity) 0 ≡ worst (swapped v cavity)
  worst_is = subst (λ tets. unwrap_or (worst_over tets first v None tets) 0 ≡ worst (swapped v tets)) (sym front) (least_over first (drop 1 cavity) v)

  pub swapped_is : ascending_of tet_cmp (flat_map (λ tet. flat_map (cone v first.phys first.elem) (outer_faces cavity tet)) cavity) ≡ swapped v cavity
  swapped_is = subst (λ tets. ascending_of tet_cmp (flat_map (λ tet. flat_map (cone v first.phys first.elem) (outer_faces tets tet)) tets) ≡ swapped v tets) (sym front) refl

-- ---- the corners besides a face
pub beside_all : (face : List Coordinates) (v : Coordinates) (corners : List Coordinates) → list_all (is_beside face v) corners ≡ list_all (λ d. same_sign (side_of face v) (side_of face d)) (besides face corners)
beside_all face v [] = refl
beside_all face v (d ∷ corners) =
    elim (has place_cmp d face) as (λ b. ((b || same_sign (side_of face v) (side_of face d)) && list_all (is_beside face v) corners) ≡ list_all (λ d. same_sign (side_of face v) (side_of face d)) (cond (not b) (d ∷ besides face corners) (besides face corners))) [
      | true ↦ beside_all face v corners
      | false ↦ ap (λ b. same_sign (side_of face v) (side_of face d) && b) (beside_all face v corners)
    ]

seen_of_tet : (cavity : List Tetrahedron) (v : Coordinates) (tet : Tetrahedron)
    → list_all (λ face. not (had_by cavity face == 1) || is_seen_from v tet.corners face) (faces_of tet.corners)
    ≡ list_all (λ face. has place_cmp v face || list_all (λ d. same_sign (side_of face v) (side_of face d)) (besides face tet.corners)) (outer_faces cavity tet)
seen_of_tet cavity v tet =
    (λ i. list_all (λ face. not (had_by cavity face == 1) || (has place_cmp v face || beside_all face v tet.corners i)) (faces_of tet.corners))
    ∙ sym (all_kept (λ face. had_by cavity face == 1) (λ face. has place_cmp v face || list_all (λ d. same_sign (side_of face v) (side_of face d)) (besides face tet.corners)) (faces_of tet.corners))

pub seen_by_steps : (cavity : List Tetrahedron) (v : Coordinates) → are_seen cavity v ≡ outer_faces_are_seen cavity v
seen_by_steps cavity v = λ i. list_all (λ tet. seen_of_tet cavity v tet i) cavity
