-- Premises of the laws that are met: three tetrahedra around an edge, which a pass swaps for two, and a pass of two swaps.
use Rattle.std.proofs.Common.{◌≡◌, ℕ, ◌+◌, ◌≤◌, Bool, true, false, cond, ◌&&◌, List, [], ◌∷◌, ◌++◌, map, refl, sym, subst, ◌∙◌, arith}
use Rattle.std.specs.Prelude.{ℤ, pos, neg_ℤ, ◌+ℤ◌}
use Rattle.std.specs.Cmp.Lexicographic.{slice_cmp}
use Rattle.std.specs.List.{AllByRecursion}
use Rattle.std.specs.Ordering.{int_eq}
use Rattle.std.proofs.lemmas.Bool.{and_parts, false≢true}
use Rattle.std.proofs.lemmas.Int.{ints}
use Rattle.std.proofs.lemmas.List.Sorted.{IsPermutation-refl}
use Rattle.ma_geom.specs.Coordinates.{Coordinates, place_cmp}
use Rattle.ma_geom.specs.Lengths.{len2}
use Rattle.ma_geom.specs.Lines.{normal}
use Rattle.ma_geom.specs.Quality.{longest2, quality_of, root}
use Rattle.ma_geom.specs.Rational.{Rational, side}
use Rattle.ma_geom.specs.Volume.{vol6}
use Rattle.ma_cells.specs.Ascending.{has}
use Rattle.ma_cells.specs.Cells.{CellMark, corners_of}
use Rattle.ma_cells.specs.Faces.{faces_of}
use Rattle.ma_cells.specs.Incidence.{is_marked}
use Rattle.ma_cells.specs.Tetrahedron.{Tetrahedron, are_tetrahedra}
use Rattle.ma_cells.specs.Worst.{worst}
use Rattle.ma_cells.specs.declared.batch.Batch.{Batch}
use Rattle.ma_cells.specs.declared.cell.Cell.TheVariants.{Tri}
use Rattle.ma_cells.proofs.Members.{all-at}
use Rattle.ma_cover.specs.Cover.{whole_cover}
use Rattle.ma_cover.specs.Inside.{are_alike, is_beside, is_inside}
use Rattle.ma_cover.specs.Sound.{holders}
use Rattle.ma_cover.proofs.OffFaces.{all_four}
use Rattle.mesh_laws.specs.Adapted.{IsAdapted, IsSoundMesh}
use Rattle.mesh_laws.specs.Parity.{is_odd}
use Rattle.mesh_laws.specs.Sounds.{OddAreMarked}
use Rattle.mesh_laws.proofs.Listings.{exact}
use Rattle.mesh_laws.proofs.Lists.{count-cons}
use Rattle.mesh_laws.proofs.Oddly.{odd_is, odd_some}
use Rattle.mesh_laws.proofs.Sounds.{odd_marked_is_sound, tetrahedra_not_flat}
use Rattle.size_marks.specs.Field.{Field}
use Rattle.cavity_rank.specs.Operations.{Operation}
use Rattle.cavity_rank.specs.declared.verdict.Kind.TheVariants.{Swap}
use Rattle.pass_rules.specs.Passes.{chosen, made_in_turn, passed}
use Rattle.swap_passes.proofs.Adapts.{swap_pass_adapts}
use Rattle.swap_passes.proofs.InTurn.{swaps_go_in_any_order}

-- ---- three tetrahedra around an edge from one corner of a cube to the other, at any place along
abbrev at : ℕ → ℕ → ℕ → Coordinates
at x y z = record { x = pos x; y = pos y; z = pos z }

abbrev tet : (a b c d : Coordinates) → Tetrahedron
tet a b c d = record { corners = a ∷ b ∷ c ∷ d ∷ []; phys = pos 1; elem = pos 1 }

abbrev mark : (a b c : Coordinates) → CellMark
mark a b c = record { cell = Tri (a ∷ b ∷ c ∷ []); phys = pos 2; elem = pos 7 }

abbrev a : Coordinates
a = at 0 0 0

abbrev t : Coordinates
t = at 0 8 8

abbrev s : Coordinates
s = at 8 0 8

abbrev r : Coordinates
r = at 8 8 0

abbrev b : Coordinates
b = at 8 8 8

abbrev tets : List Tetrahedron
tets = tet a t s b ∷ tet a t r b ∷ tet a s r b ∷ []

-- the faces that one of them alone has
abbrev marks : List CellMark
marks = mark a t s ∷ mark a t r ∷ mark a s r ∷ mark t s b ∷ mark t r b ∷ mark s r b ∷ []

abbrev mesh : Batch
mesh = record { tets = tets; marks = marks }

-- ---- it is sound
proper : are_tetrahedra tets ≡ true
unfolding vol6
proper = refl

-- a point within is on the side of each corner
sides_of : (p : Rational) (u v w x : Coordinates) → is_inside p (u ∷ v ∷ w ∷ x ∷ []) ≡ true
    → (is_beside v w x u p ≡ true) × (is_beside u w x v p ≡ true) × (is_beside u v x w p ≡ true) × (is_beside u v w x p ≡ true)
sides_of p u v w x = all_four (is_beside v w x u p) (is_beside u w x v p) (is_beside u v x w p) (is_beside u v w x p)

-- no point lies on the sides of both of two places that are on different sides
differ : (p : Rational) (u v w d e : Coordinates) → are_alike (vol6 u v w d) (neg_ℤ (vol6 u v w e)) ≡ true → is_beside u v w d p ≡ true → is_beside u v w e p ≡ true → ⊥
differ p u v w d e = by (vol6 u v w d) (vol6 u v w e) (side u v w p)
  where
    by : (x y z : ℤ) → are_alike x (neg_ℤ y) ≡ true → are_alike x z ≡ true → are_alike y z ≡ true → ⊥
    by x y z h k l = grind (arith, ints)

once : (p : Rational) → whole_cover p tets ≤ 1
unfolding vol6
once p =
    at_most (is_inside p (a ∷ t ∷ s ∷ b ∷ [])) (is_inside p (a ∷ t ∷ r ∷ b ∷ [])) (is_inside p (a ∷ s ∷ r ∷ b ∷ []))
    (λ first second. differ p a t b s r refl (sides_of p a t s b first).2 (sides_of p a t r b second).2)
    (λ first third. differ p a s b t r refl (sides_of p a t s b first).1 (sides_of p a s r b third).2)
    (λ second third. differ p a r b t s refl (sides_of p a t r b second).1 (sides_of p a s r b third).1)
    (whole_cover p tets) _ _ (count-cons inside (tet a t s b) (tet a t r b ∷ tet a s r b ∷ [])) (count-cons inside (tet a t r b) (tet a s r b ∷ [])) (count-cons inside (tet a s r b) [])
  where
    inside : Tetrahedron → Bool
    inside tet = is_inside p tet.corners

    at_most : (x y z : Bool) → (x ≡ true → y ≡ true → ⊥) → (x ≡ true → z ≡ true → ⊥) → (y ≡ true → z ≡ true → ⊥)
        → (l m n : ℕ) → l ≡ cond x 1 0 + m → m ≡ cond y 1 0 + n → n ≡ cond z 1 0 + 0 → l ≤ 1
    at_most true true z f g h l m n d e k = absurd (f refl refl)
    at_most true false true f g h l m n d e k = absurd (g refl refl)
    at_most true false false f g h l m n d e k = omega arith
    at_most false true true f g h l m n d e k = absurd (h refl refl)
    at_most false true false f g h l m n d e k = omega arith
    at_most false false true f g h l m n d e k = omega arith
    at_most false false false f g h l m n d e k = omega arith

abbrev IsMarkedIfOdd : List Coordinates → Type 0
IsMarkedIfOdd face = is_odd (holders (pos 1) (pos 1) face tets) ≡ true → is_marked marks face ≡ true

odd_marked : OddAreMarked tets marks
odd_marked phys elem face odd = by (odd_some (holds phys elem) Fits tets faces (sym (odd_is (holds phys elem) tets) ∙ odd))
  where
    holds : (phys elem : ℤ) → Tetrahedron → Bool
    holds phys elem tet = (int_eq tet.phys phys && int_eq tet.elem elem) && has (slice_cmp place_cmp) face (faces_of tet.corners)

    Fits : Tetrahedron → Type 0
    Fits tet = AllByRecursion IsMarkedIfOdd (faces_of tet.corners) × (tet.phys ≡ pos 1) × (tet.elem ≡ pos 1)

    even : false ≡ true → {A : Type 0} → A
    even h = absurd (false≢true h)

    faces : AllByRecursion Fits tets
    faces = (
      (((λ _. refl), ((λ h. even h), ((λ h. even h), ((λ _. refl), tt)))), refl, refl),
      ((((λ _. refl), ((λ h. even h), ((λ h. even h), ((λ _. refl), tt)))), refl, refl), ((((λ _. refl), ((λ h. even h), ((λ h. even h), ((λ _. refl), tt)))), refl, refl), tt)),
    )

    int_is : (x y : ℤ) → int_eq x y ≡ true → x ≡ y
    int_is x y h = grind (arith, ints)

    by : (found : (tet : Tetrahedron) × (holds phys elem tet ≡ true) × Fits tet) → is_marked marks face ≡ true
    by found =
        let parts = and_parts (int_eq found.0.phys phys && int_eq found.0.elem elem) (has (slice_cmp place_cmp) face (faces_of found.0.corners)) found.1 in
        let tags = and_parts (int_eq found.0.phys phys) (int_eq found.0.elem elem) parts.0 in
        let u = sym (int_is found.0.phys phys tags.0) ∙ found.2.1 in
        let w = sym (int_is found.0.elem elem tags.1) ∙ found.2.2 in
        all-at exact IsMarkedIfOdd face (faces_of found.0.corners) found.2.0 parts.1 (subst (λ k. is_odd (holders (pos 1) k face tets) ≡ true) w (subst (λ k. is_odd (holders k elem face tets) ≡ true) u odd))

sound : IsSoundMesh mesh
sound = record { tetrahedra = proper; cells = refl; sound = odd_marked_is_sound tets marks (tetrahedra_not_flat tets proper) (λ p _. once p) odd_marked refl }

-- ---- a pass swaps the edge
abbrev field : Field
field = record { default = 16; boxes = [] }

abbrev swap : (a b v : Coordinates) → Operation
swap a b v = record { at = a ∷ b ∷ []; apex = v; worst = 390451572 }

pub is_chosen : chosen Swap field mesh ≡ swap a b t ∷ []
unfolding worst quality_of root longest2 vol6 len2 normal
is_chosen = refl

pub pass_adapts : IsAdapted mesh (passed Swap field mesh)
pass_adapts = swap_pass_adapts field mesh sound

-- two tetrahedra are left, with the same marks
pub is_left : passed Swap field mesh ≡ record { tets = tet a t s r ∷ tet t s r b ∷ []; marks = marks }
unfolding worst quality_of root longest2 vol6 len2 normal
is_left = refl

pub goes_in_turn : made_in_turn (chosen Swap field mesh) mesh ≡ passed Swap field mesh
goes_in_turn = swaps_go_in_any_order field mesh (chosen Swap field mesh) sound refl (IsPermutation-refl (chosen Swap field mesh))

-- ---- two of these, far from one another: both swaps are made, and either may be first. That this mesh is sound isn't shown
abbrev far : Coordinates → Coordinates
far p = record { x = p.x +ℤ pos 64; y = p.y; z = p.z }

abbrev two : Batch
two = record {
  tets = tets ++ map (λ (tet : Tetrahedron). record { corners = map far tet.corners; phys = tet.phys; elem = tet.elem }) tets;
  marks = marks ++ map (λ (m : CellMark). record { cell = Tri (map far (corners_of m.cell)); phys = m.phys; elem = m.elem }) marks;
}

abbrev two_left : Batch
two_left = record {
  tets = tet a t s r ∷ tet t s r b ∷ tet (far a) (far t) (far s) (far r) ∷ tet (far t) (far s) (far r) (far b) ∷ [];
  marks = two.marks;
}

pub both_chosen : chosen Swap field two ≡ swap a b t ∷ swap (far a) (far b) (far t) ∷ []
unfolding worst quality_of root longest2 vol6 len2 normal
both_chosen = refl

pub all_at_once : passed Swap field two ≡ two_left
unfolding worst quality_of root longest2 vol6 len2 normal
all_at_once = refl

pub near_first : made_in_turn (swap a b t ∷ swap (far a) (far b) (far t) ∷ []) two ≡ two_left
unfolding vol6
near_first = refl

pub far_first : made_in_turn (swap (far a) (far b) (far t) ∷ swap a b t ∷ []) two ≡ two_left
unfolding vol6
far_first = refl
