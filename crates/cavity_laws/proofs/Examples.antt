-- Premises of the laws that are met: a ring of three tetrahedra at an edge that is swapped, and an edge whose middle goes to one of its ends.
use Rattle.std.proofs.Common.{◌≡◌, ℕ, Bool, true, false, List, [], ◌∷◌, refl, subst, arith}
use Rattle.std.specs.Prelude.{ℤ, pos, neg_ℤ, map}
use Rattle.std.specs.List.{AllByRecursion, flat_map}
use Rattle.std.proofs.lemmas.Bool.{true≢false}
use Rattle.std.proofs.lemmas.Int.{ints}
use Rattle.std.proofs.lemmas.List.Sorted.{IsPermutation-append_comm, IsPermutation-append_left, IsPermutation-refl}
use Rattle.ma_geom.specs.Coordinates.{Coordinates}
use Rattle.ma_geom.specs.Lines.{is_flat}
use Rattle.ma_geom.specs.Rational.{Rational, side}
use Rattle.ma_geom.specs.Volume.{vol6}
use Rattle.ma_cells.specs.Cells.{CellMark}
use Rattle.ma_cells.specs.Tetrahedron.{Tetrahedron}
use Rattle.ma_cells.specs.declared.cell.Cell.TheVariants.{Tri}
use Rattle.ma_cover.specs.Inside.{are_alike, is_beside, is_inside}
use Rattle.ma_cover.specs.Sound.{LieOnBothSides}
use Rattle.ma_cover.proofs.OffFaces.{all_four}
use Rattle.mesh_laws.proofs.BothSides.{lie_on_both_sides, pairs_to}
use Rattle.mesh_laws.proofs.Listings.{same, same_is}
use Rattle.cavity_laws.specs.Balance.{had_by}
use Rattle.cavity_laws.specs.Cavity.{IsCavity, balance, cones, facets_of}
use Rattle.cavity_laws.specs.Parity.{any_cones}
use Rattle.cavity_laws.specs.Replaced.{CanReplace}
use Rattle.cavity_laws.specs.Swap.{IsSwappable, is_between}
use Rattle.cavity_laws.proofs.Replaced.{swap_can_replace}

abbrev at : ℕ → ℕ → ℕ → Coordinates
at x y z = record { x = pos x; y = pos y; z = pos z }

-- ---- three tetrahedra at the edge from a to b
abbrev a : Coordinates
a = at 0 0 0

abbrev t : Coordinates
t = at 0 8 8

abbrev s : Coordinates
s = at 8 0 8

abbrev r : Coordinates
r = at 8 8 0

abbrev b : Coordinates
b = at 8 8 8

abbrev ring : List (List Coordinates)
ring = (a ∷ s ∷ r ∷ b ∷ []) ∷ (a ∷ t ∷ s ∷ b ∷ []) ∷ (a ∷ t ∷ r ∷ b ∷ []) ∷ []

-- no point lies on the sides of both of two places that are on different sides
apart : (p : Rational) (u v w d e : Coordinates) → are_alike (vol6 u v w d) (neg_ℤ (vol6 u v w e)) ≡ true → is_beside u v w d p ≡ true → is_beside u v w e p ≡ true → ⊥
apart p u v w d e = by (vol6 u v w d) (vol6 u v w e) (side u v w p)
  where
    by : (x y z : ℤ) → are_alike x (neg_ℤ y) ≡ true → are_alike x z ≡ true → are_alike y z ≡ true → ⊥
    by x y z h k l = grind (arith, ints)

-- a point within is on the side of each corner
sides_of : (p : Rational) (u v w x : Coordinates) → is_inside p (u ∷ v ∷ w ∷ x ∷ []) ≡ true
    → (is_beside v w x u p ≡ true) × (is_beside u w x v p ≡ true) × (is_beside u v x w p ≡ true) × (is_beside u v w x p ≡ true)
sides_of p u v w x = all_four (is_beside v w x u p) (is_beside u w x v p) (is_beside u v x w p) (is_beside u v w x p)

ring_solid : AllByRecursion (λ corners. is_flat corners ≡ false) ring
unfolding vol6
ring_solid = (refl, (refl, (refl, tt)))

-- the ring can be swapped for the tetrahedra from t
pub ring_is_swappable : IsSwappable t ring
unfolding vol6
ring_is_swappable = record {
  solid = ring_solid;
  sides = pairs_to LieOnBothSides ring (
    (
      lie_on_both_sides (a ∷ s ∷ r ∷ b ∷ []) (a ∷ t ∷ s ∷ b ∷ []) refl refl (λ p first second. apart p a s b r t refl (sides_of p a s r b first).2 (sides_of p a t s b second).1),
      (lie_on_both_sides (a ∷ s ∷ r ∷ b ∷ []) (a ∷ t ∷ r ∷ b ∷ []) refl refl (λ p first second. apart p a r b s t refl (sides_of p a s r b first).1 (sides_of p a t r b second).1), tt),
    ),
    ((lie_on_both_sides (a ∷ t ∷ s ∷ b ∷ []) (a ∷ t ∷ r ∷ b ∷ []) refl refl (λ p first second. apart p a t b s r refl (sides_of p a t s b first).2 (sides_of p a t r b second).2), tt), (tt, tt)),
  );
  seen = (
    (λ _ _. refl),
    (
      (λ h _. absurd (true≢false h)),
      (
        (λ h _. absurd (true≢false h)),
        (
          (λ _ _. refl),
          (
            (λ _ h. absurd (true≢false h)),
            (
              (λ _ h. absurd (true≢false h)),
              (
                (λ h _. absurd (true≢false h)),
                ((λ _ h. absurd (true≢false h)), ((λ _ h. absurd (true≢false h)), ((λ _ h. absurd (true≢false h)), ((λ h _. absurd (true≢false h)), ((λ _ h. absurd (true≢false h)), tt))))),
              ),
            ),
          ),
        ),
      ),
    ),
  );
}

-- of which there are two
pub ring_becomes : cones t (is_between ring) ring ≡ (t ∷ a ∷ s ∷ r ∷ []) ∷ (t ∷ s ∷ r ∷ b ∷ []) ∷ []
unfolding vol6
ring_becomes = refl

-- two of the ring have a face at the edge, one has an outer one
pub ring_faces : (had_by (a ∷ s ∷ b ∷ []) ring ≡ 2) × (had_by (a ∷ s ∷ r ∷ []) ring ≡ 1)
ring_faces = (refl, refl)

-- they can stand in its place in any mesh whose marks are on the outer faces of the ring
abbrev tet : List Coordinates → Tetrahedron
tet corners = record { corners = corners; phys = pos 1; elem = pos 1 }

abbrev ring_marks : List CellMark
ring_marks =
    map (λ face. record { cell = Tri face; phys = pos 2; elem = pos 7 })
    ((a ∷ s ∷ r ∷ []) ∷ (s ∷ r ∷ b ∷ []) ∷ (a ∷ t ∷ s ∷ []) ∷ (t ∷ s ∷ b ∷ []) ∷ (a ∷ t ∷ r ∷ []) ∷ (t ∷ r ∷ b ∷ []) ∷ [])

pub ring_can_be_replaced : CanReplace (map tet ring) (tet (a ∷ t ∷ s ∷ r ∷ []) ∷ tet (t ∷ s ∷ r ∷ b ∷ []) ∷ []) ring_marks
unfolding vol6
ring_can_be_replaced =
    swap_can_replace t (pos 1) (pos 1) (map tet ring) (tet (a ∷ t ∷ s ∷ r ∷ []) ∷ tet (t ∷ s ∷ r ∷ b ∷ []) ∷ []) ring_marks
    ((refl, refl), ((refl, refl), ((refl, refl), tt))) ((refl, refl), ((refl, refl), tt)) refl refl ring_is_swappable
    (IsPermutation-append_left (s ∷ r ∷ []) (t ∷ a ∷ []) (a ∷ t ∷ []) (IsPermutation-append_comm (t ∷ []) (a ∷ [])), (IsPermutation-refl (t ∷ s ∷ r ∷ b ∷ []), tt))
    ((λ _. refl), ((λ _. refl), ((λ _. refl), ((λ _. refl), ((λ _. refl), ((λ _. refl), tt))))))

-- ---- two tetrahedra at m, the middle of the edge from o to x
abbrev o : Coordinates
o = at 0 0 0

abbrev z : Coordinates
z = at 0 0 2

abbrev y : Coordinates
y = at 0 2 0

abbrev m : Coordinates
m = at 1 0 0

abbrev x : Coordinates
x = at 2 0 0

abbrev star : List (List Coordinates)
star = (o ∷ z ∷ y ∷ m ∷ []) ∷ (z ∷ y ∷ m ∷ x ∷ []) ∷ []

-- the face between them is inner
abbrev inner : List Coordinates → Bool
inner = same (z ∷ y ∷ m ∷ [])

-- m can go to o: z m x and y m x are in a plane with it, and z y x is seen
pub star_is_cavity : IsCavity o inner star
unfolding vol6
star_is_cavity = record {
  solid = (refl, (refl, tt));
  balanced = λ face h. subst (λ f. balance f (flat_map facets_of star) ≡ pos 0) (same_is (z ∷ y ∷ m ∷ []) face h) refl;
  seen = (
    (λ h. absurd (true≢false h)),
    (
      (λ h. absurd (true≢false h)),
      (
        (λ h. absurd (true≢false h)),
        ((λ h. absurd (true≢false h)), ((λ h. absurd (true≢false h)), ((λ _. refl), ((λ h. absurd (true≢false h)), ((λ h. absurd (true≢false h)), tt))))),
      ),
    ),
  );
}

-- one tetrahedron is left, and two that are flat
pub star_becomes : (cones o inner star ≡ (o ∷ z ∷ y ∷ x ∷ []) ∷ []) × (any_cones o inner star ≡ (o ∷ z ∷ y ∷ x ∷ []) ∷ (o ∷ z ∷ m ∷ x ∷ []) ∷ (o ∷ y ∷ m ∷ x ∷ []) ∷ [])
unfolding vol6
star_becomes = (refl, refl)
