-- The test of lengths by the other corners around a vertex, each asked once.
use Rattle.std.proofs.Common.{◌≡◌, Bool, true, false, not, ◌||◌, List, [], ◌∷◌, refl, sym, ap, ◌∙◌}
use Rattle.std.specs.Cmp.{both_ways}
use Rattle.std.specs.List.{flat_map, list_all, list_any}
use Rattle.std.specs.Ordering.{eq_by_cmp}
use Rattle.std.proofs.lemmas.Bool.{false≢true, and_from, and_parts}
use Rattle.std.proofs.lemmas.List.Folds.{list_all-append, list_any-append}
use Rattle.ma_geom.specs.Coordinates.{Coordinates, place_cmp}
use Rattle.ma_geom.proofs.PlaceOrder.{place_cmp-IsAntisymmetric, place_cmp_total}
use Rattle.ma_cells.specs.Ascending.{has}
use Rattle.ma_cells.specs.Stars.{besides}
use Rattle.ma_cells.specs.Tetrahedron.{Tetrahedron}
use Rattle.ma_cells.proofs.Ascents.{has-ascending_of}
use Rattle.ma_cells.proofs.CellOrders.{tet_cmp-IsAntisymmetric, tet_cmp_total}
use Rattle.ma_cells.proofs.Members.{all_members, any-at, at_member, has-filter}
use Rattle.size_marks.specs.Field.{Field, is_long}
use Rattle.cavity_collapse.specs.Facing.{others_of}
use Rattle.cavity_collapse.specs.Judging.{edges_stay_short}
use Rattle.cavity_collapse.specs.Steps.{edge_stays_short}
use Rattle.cavity_collapse.proofs.Listed.{all_kept}

any-flat : {X Y : Type 0} (f : Y → Bool) (h : X → List Y) (xs : List X) → list_any f (flat_map h xs) ≡ list_any (λ x. list_any f (h x)) xs
any-flat f h [] = refl
any-flat f h (x ∷ xs) = list_any-append f (h x) (flat_map h xs) ∙ ap (λ b. list_any f (h x) || b) (any-flat f h xs)

all_true : {X : Type 0} (test : X → Bool) → ((x : X) → test x ≡ true) → (xs : List X) → list_all test xs ≡ true
all_true test h [] = refl
all_true test h (x ∷ xs) = and_from _ _ (h x) (all_true test h xs)

or_from : (b c : Bool) → (b ≡ false → c ≡ true) → (b || c) ≡ true
or_from true c h = refl
or_from false c h = h refl

first_of : (b c : Bool) → (b || c) ≡ true → (c ≡ true → b ≡ true) → b ≡ true
first_of true c h k = refl
first_of false c h k = k h

second_of : (b c : Bool) → (b || c) ≡ true → b ≡ false → c ≡ true
second_of true c h e = absurd (false≢true (sym e))
second_of false c h e = h

-- what a filter leaves passes its test
all_pass_filter : {X : Type 0} (test : X → Bool) (xs : List X) → list_all (λ x. not (test x) || test x) xs ≡ true
all_pass_filter test = all_true (λ x. not (test x) || test x) (λ x. either (test x))
  where
    either : (b : Bool) → (not b || b) ≡ true
    either true = refl
    either false = refl

module _ (field : Field) (a v : Coordinates) where
  abbrev is_other : Coordinates → Bool
  is_other p = not (has place_cmp p (a ∷ []))

  abbrev rest_of : Tetrahedron → List Coordinates
  rest_of tet = besides (a ∷ []) tet.corners

  abbrev fits : Coordinates → Bool
  fits x = not (is_long field v x)

  abbrev stays : Tetrahedron → Bool
  stays tet = has place_cmp v tet.corners || list_all fits (rest_of tet)

  abbrev lacks : Coordinates → Tetrahedron → Bool
  lacks x tet = has place_cmp v tet.corners || not (has place_cmp x tet.corners)

  all_other : (star : List Tetrahedron) → list_all is_other (flat_map rest_of star) ≡ true
  all_other [] = refl
  all_other (tet ∷ star) =
      list_all-append is_other (rest_of tet) (flat_map rest_of star)
      ∙ and_from _ _ (all_kept is_other is_other tet.corners ∙ all_pass_filter is_other tet.corners) (all_other star)

  -- a corner besides a
  corner_of : (x : Coordinates) (tet : Tetrahedron) → has place_cmp x (rest_of tet) ≡ true → has place_cmp x tet.corners ≡ true
  corner_of x tet inside = (and_parts (has place_cmp x tet.corners) (is_other x) (sym (has-filter place_cmp-IsAntisymmetric is_other x tet.corners) ∙ inside)).0

  module _ (star : List Tetrahedron) where
    each_tet : list_all (edge_stays_short field star v) (others_of (a ∷ []) star) ≡ true → list_all stays star ≡ true
    each_tet all =
        all_members tet_cmp_total stays star (λ tet there. or_from (has place_cmp v tet.corners) (list_all fits (rest_of tet)) (λ gone.
        all_members place_cmp_total fits (rest_of tet) (λ x inside.
        let end : has place_cmp x (others_of (a ∷ []) star) ≡ true
        = has-ascending_of place_cmp_total x (flat_map rest_of star) ∙ any-flat (eq_by_cmp place_cmp x) rest_of star ∙ any-at tet_cmp-IsAntisymmetric (λ t. has place_cmp x (rest_of t)) tet star there inside in
        first_of (fits x) (list_all (lacks x) star) (at_member place_cmp-IsAntisymmetric (edge_stays_short field star v) x (others_of (a ∷ []) star) all end)
        (λ every. absurd (false≢true (sym (λ i. gone i || not (corner_of x tet inside i)) ∙ at_member tet_cmp-IsAntisymmetric (lacks x) tet star every there))))))

    each_end : list_all stays star ≡ true → list_all (edge_stays_short field star v) (others_of (a ∷ []) star) ≡ true
    each_end all =
        all_members place_cmp_total (edge_stays_short field star v) (others_of (a ∷ []) star) (λ x end. or_from (fits x) (list_all (lacks x) star) (λ long.
        let other : is_other x ≡ true = at_member place_cmp-IsAntisymmetric is_other x (flat_map rest_of star) (all_other star) (sym (has-ascending_of place_cmp_total x (flat_map rest_of star)) ∙ end) in
        all_members tet_cmp_total (lacks x) star (λ tet there. or_from (has place_cmp v tet.corners) (not (has place_cmp x tet.corners)) (λ gone.
        elim (has place_cmp x tet.corners) as (λ b. has place_cmp x tet.corners ≡ b → not b ≡ true) [
          | true ↦ λ corner.
              let inside : has place_cmp x (rest_of tet) ≡ true = has-filter place_cmp-IsAntisymmetric is_other x tet.corners ∙ and_from _ _ corner other in
              let fit : list_all fits (rest_of tet) ≡ true = second_of (has place_cmp v tet.corners) (list_all fits (rest_of tet)) (at_member tet_cmp-IsAntisymmetric stays tet star all there) gone in
              absurd (false≢true (sym long ∙ at_member place_cmp-IsAntisymmetric fits x (rest_of tet) fit inside))
          | false ↦ λ _. refl
        ] refl))))

    pub by_ends : list_all (edge_stays_short field star v) (others_of (a ∷ []) star) ≡ edges_stay_short field star a v
    by_ends = both_ways _ _ each_tet each_end
