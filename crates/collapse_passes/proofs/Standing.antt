-- A collapse leaves the stars of vertices that share no tetrahedron with its own.
use Rattle.std.proofs.Common.{◌≡◌, true, false, not, ◌&&◌, List, [], ◌∷◌, ◌++◌, filter, sym, ap, ap₂, subst, ◌∙◌}
use Rattle.std.specs.List.{AllByRecursion, flat_map}
use Rattle.std.proofs.lemmas.List.Elements.{filter-append}
use Rattle.std.proofs.lemmas.List.{append-nil}
use Rattle.ma_geom.specs.Coordinates.{Coordinates, place_cmp}
use Rattle.ma_geom.proofs.PlaceOrder.{place_cmp-IsAntisymmetric}
use Rattle.ma_cells.specs.Ascending.{has}
use Rattle.ma_cells.specs.Faces.{holds_all}
use Rattle.ma_cells.specs.Stars.{besides, cone, star_of}
use Rattle.ma_cells.specs.Tetrahedron.{Tetrahedron, tet_cmp}
use Rattle.ma_cells.proofs.Choices.{all-append}
use Rattle.ma_cells.proofs.Members.{has-filter}
use Rattle.ma_cells.proofs.Passing.{all-filter, all-flat_map, all_weaker}
use Rattle.ma_cells.proofs.SetItems.{all-ascending_of}
use Rattle.mesh_laws.proofs.Lists.{all_two}
use Rattle.cavity_collapse.specs.Collapsing.{collapsed}
use Rattle.collapse_laws.proofs.Filling.{and_true, filter_passes}
use Rattle.collapse_laws.proofs.Stars.{IsCone, cones_are}
use Rattle.collapse_passes.proofs.Each.{filter_none, filter_still, transposed}
use Rattle.collapse_passes.proofs.Removals.{HasOne, IsClear, Lack, Removal, lack_one, lack_with_apex, others_lack}

-- the tetrahedra that a collapse leaves
abbrev pub tets_after : Removal → List Tetrahedron → List Tetrahedron
tets_after c tets = filter (λ tet. not (holds_all tet.corners (c.at ∷ []))) tets ++ collapsed c.at c.apex (star_of (c.at ∷ []) tets)

abbrev pub AllLack : List Removal → List Tetrahedron → Type 0
AllLack cs tets = AllByRecursion (λ (tet : Tetrahedron). Lack cs tet.corners) tets

abbrev pub AllHaveOne : List Removal → List Tetrahedron → Type 0
AllHaveOne cs tets = AllByRecursion (λ (tet : Tetrahedron). HasOne cs tet.corners) tets

besides_lack : (a : Coordinates) (cs : List Removal) (l : List Coordinates) → Lack cs l → Lack cs (besides (a ∷ []) l)
besides_lack a cs l lack =
    all_weaker (λ d. has place_cmp d.at l ≡ false) (λ d. has place_cmp d.at (besides (a ∷ []) l) ≡ false)
    (λ d e. has-filter place_cmp-IsAntisymmetric (λ p. not (has place_cmp p (a ∷ []))) d.at l ∙ ap (λ b. b && not (has place_cmp d.at (a ∷ []))) e) cs lack

module _ (c : Removal) (cs : List Removal) (clear : IsClear c cs) where
  -- what fills a star has corners of it and the place that the vertex goes to
  pub collapsed_lack : (star : List Tetrahedron) → AllLack cs star → AllLack cs (collapsed c.at c.apex star)
  collapsed_lack star lack =
      all-ascending_of tet_cmp Lacks (flat_map over star) (all-flat_map Lacks Lacks over each star lack)
    where
      Lacks : Tetrahedron → Type 0
      Lacks tet = Lack cs tet.corners

      over : Tetrahedron → List Tetrahedron
      over tet = cone c.apex tet.phys tet.elem (besides (c.at ∷ []) tet.corners)

      each : (tet : Tetrahedron) → Lack cs tet.corners → AllByRecursion (λ (t : Tetrahedron). Lack cs t.corners) (cone c.apex tet.phys tet.elem (besides (c.at ∷ []) tet.corners))
      each tet h =
          let face = besides (c.at ∷ []) tet.corners in
          all_weaker (IsCone c.apex tet.phys tet.elem face) (λ t. Lack cs t.corners)
          (λ t is. subst (λ (u : Tetrahedron). Lack cs u.corners) (sym is.is) (lack_with_apex c cs face clear (besides_lack c.at cs tet.corners h))) (cone c.apex tet.phys tet.elem face) (cones_are c.apex tet.phys tet.elem face)

  -- a star lacks the other vertices
  pub star_lacks : (tets : List Tetrahedron) → AllHaveOne (c ∷ cs) tets → AllLack cs (star_of (c.at ∷ []) tets)
  star_lacks tets one =
      all_two (λ (tet : Tetrahedron). holds_all tet.corners (c.at ∷ []) ≡ true) (λ tet. HasOne (c ∷ cs) tet.corners) (λ tet. Lack cs tet.corners)
      (λ tet e h. others_lack c cs tet.corners h (sym (and_true (has place_cmp c.at tet.corners)) ∙ e)) (star_of (c.at ∷ []) tets)
      (filter_passes (λ (tet : Tetrahedron). holds_all tet.corners (c.at ∷ [])) tets)
      (all-filter (λ (tet : Tetrahedron). HasOne (c ∷ cs) tet.corners) (λ tet. holds_all tet.corners (c.at ∷ [])) tets one)

  pub new_lack : (tets : List Tetrahedron) → AllHaveOne (c ∷ cs) tets → AllLack cs (collapsed c.at c.apex (star_of (c.at ∷ []) tets))
  new_lack tets one = collapsed_lack (star_of (c.at ∷ []) tets) (star_lacks tets one)

  pub still_one : (tets : List Tetrahedron) → AllHaveOne (c ∷ cs) tets → AllHaveOne cs (tets_after c tets)
  still_one tets one =
      let new = collapsed c.at c.apex (star_of (c.at ∷ []) tets) in
      let gone = λ (tet : Tetrahedron). not (holds_all tet.corners (c.at ∷ [])) in
      all-append (λ (tet : Tetrahedron). HasOne cs tet.corners) (filter gone tets) new
      (all-filter (λ (tet : Tetrahedron). HasOne cs tet.corners) gone tets (all_weaker (λ (tet : Tetrahedron). HasOne (c ∷ cs) tet.corners) (λ tet. HasOne cs tet.corners) (λ tet h. h.1) tets one))
      (all_weaker (λ (tet : Tetrahedron). Lack cs tet.corners) (λ tet. HasOne cs tet.corners) (λ tet h. lack_one cs tet.corners h) new (new_lack tets one))

  -- the stars of the others stand, as lists
  pub stars_stand : (tets : List Tetrahedron) → AllHaveOne (c ∷ cs) tets → AllByRecursion (λ d. star_of (d.at ∷ []) (tets_after c tets) ≡ star_of (d.at ∷ []) tets) cs
  stars_stand tets one =
      let new = collapsed c.at c.apex (star_of (c.at ∷ []) tets) in
      all_two (λ d. AllByRecursion (λ (tet : Tetrahedron). has place_cmp c.at tet.corners ≡ true → has place_cmp d.at tet.corners ≡ false) tets)
      (λ d. AllByRecursion (λ (tet : Tetrahedron). has place_cmp d.at tet.corners ≡ false) new) (λ d. star_of (d.at ∷ []) (tets_after c tets) ≡ star_of (d.at ∷ []) tets) each cs
      (transposed (λ (tet : Tetrahedron) d. has place_cmp c.at tet.corners ≡ true → has place_cmp d.at tet.corners ≡ false) tets cs
      (all_weaker (λ (tet : Tetrahedron). HasOne (c ∷ cs) tet.corners) (λ tet. AllByRecursion (λ d. has place_cmp c.at tet.corners ≡ true → has place_cmp d.at tet.corners ≡ false) cs) (λ tet h. h.0) tets one))
      (transposed (λ (tet : Tetrahedron) d. has place_cmp d.at tet.corners ≡ false) new cs (new_lack tets one))
    where
      each : (d : Removal) → AllByRecursion (λ (tet : Tetrahedron). has place_cmp c.at tet.corners ≡ true → has place_cmp d.at tet.corners ≡ false) tets
          → AllByRecursion (λ (tet : Tetrahedron). has place_cmp d.at tet.corners ≡ false) (collapsed c.at c.apex (star_of (c.at ∷ []) tets)) → star_of (d.at ∷ []) (tets_after c tets) ≡ star_of (d.at ∷ []) tets
      each d apart none =
          let at = λ (a : Coordinates) (tet : Tetrahedron). holds_all tet.corners (a ∷ []) in
          let new = collapsed c.at c.apex (star_of (c.at ∷ []) tets) in
          filter-append (at d.at) (filter (λ tet. not (at c.at tet)) tets) new
          ∙ ap₂ (λ k l. k ++ l)
          (filter_still (at d.at) (at c.at) tets
          (all_weaker (λ (tet : Tetrahedron). has place_cmp c.at tet.corners ≡ true → has place_cmp d.at tet.corners ≡ false) (λ tet. at c.at tet ≡ true → at d.at tet ≡ false)
          (λ tet k e. and_true (has place_cmp d.at tet.corners) ∙ k (sym (and_true (has place_cmp c.at tet.corners)) ∙ e)) tets apart))
          (filter_none (at d.at) new (all_weaker (λ (tet : Tetrahedron). has place_cmp d.at tet.corners ≡ false) (λ tet. at d.at tet ≡ false) (λ tet e. and_true (has place_cmp d.at tet.corners) ∙ e) new none))
          ∙ append-nil (star_of (d.at ∷ []) tets)
