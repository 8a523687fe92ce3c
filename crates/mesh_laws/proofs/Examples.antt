-- Premises of the laws that are met: a tetrahedron, its halves, a point off all planes.
use Rattle.std.proofs.Common.{◌≡◌, ◌≢◌, ℕ, suc, Bool, true, false, ◌&&◌, List, [], ◌∷◌, refl, sym, ap, ap₂, ◌∙◌, arith}
use Rattle.std.specs.Prelude.{ℤ, pos, negsuc, map}
use Rattle.std.specs.Cmp.Lexicographic.{slice_cmp}
use Rattle.std.specs.List.{AllByRecursion}
use Rattle.std.specs.Ordering.{int_eq}
use Rattle.std.proofs.lemmas.Bool.{false≢true}
use Rattle.std.proofs.lemmas.Int.{ints}
use Rattle.std.proofs.lemmas.List.Sums.{count_by-le-length}
use Rattle.ma_geom.specs.Coordinates.{Coordinates, place_cmp}
use Rattle.ma_geom.specs.Rational.{Rational, side}
use Rattle.ma_geom.specs.Volume.{vol6}
use Rattle.ma_cells.specs.Ascending.{has}
use Rattle.ma_cells.specs.Cells.{CellMark}
use Rattle.ma_cells.specs.Faces.{faces_of}
use Rattle.ma_cells.specs.Incidence.{is_marked}
use Rattle.ma_cells.specs.Tetrahedron.{Tetrahedron, are_tetrahedra}
use Rattle.ma_cells.proofs.Members.{all-at}
use Rattle.ma_cells.specs.declared.cell.Cell.TheVariants.{Tri}
use Rattle.ma_cover.specs.Inside.{are_alike, is_inside}
use Rattle.ma_cover.specs.Sound.{IsSound}
use Rattle.ma_cover.proofs.Covers.{bisection_keeps_cover}
use Rattle.mesh_laws.specs.Covers.{CoverTheSame}
use Rattle.mesh_laws.specs.FivePlaces.{enclosed}
use Rattle.mesh_laws.specs.Parity.{AreSameOddly}
use Rattle.mesh_laws.specs.Points.{NoneIsFlat, IsOffPlane}
use Rattle.mesh_laws.specs.Sides.{whole_holders}
use Rattle.mesh_laws.specs.Sounds.{OddAreMarked}
use Rattle.mesh_laws.proofs.Listings.{exact, same}
use Rattle.mesh_laws.proofs.Oddly.{odd_is, odd_of, odd_some, xor}
use Rattle.mesh_laws.proofs.Sounds.{odd_marked_is_sound, same_cover_stays_sound, tetrahedra_not_flat}

-- ---- a tetrahedron, and its halves at the middle of an edge
abbrev at : ℤ → ℤ → ℤ → Coordinates
at x y z = record { x = x; y = y; z = z }

abbrev o : Coordinates
o = at (pos 0) (pos 0) (pos 0)

abbrev z : Coordinates
z = at (pos 0) (pos 0) (pos 2)

abbrev y : Coordinates
y = at (pos 0) (pos 2) (pos 0)

abbrev m : Coordinates
m = at (pos 1) (pos 0) (pos 0)

abbrev x : Coordinates
x = at (pos 2) (pos 0) (pos 0)

abbrev tet : List Coordinates → Tetrahedron
tet corners = record { corners = corners; phys = pos 1; elem = pos 1 }

abbrev pub whole : List Tetrahedron
whole = tet (o ∷ z ∷ y ∷ x ∷ []) ∷ []

abbrev pub halves : List Tetrahedron
halves = tet (z ∷ y ∷ m ∷ x ∷ []) ∷ tet (o ∷ z ∷ y ∷ m ∷ []) ∷ []

abbrev marks_on : List (List Coordinates) → List CellMark
marks_on faces = map (λ face. record { cell = Tri face; phys = pos 2; elem = pos 7 }) faces

abbrev pub marks : List CellMark
marks = marks_on (faces_of (o ∷ z ∷ y ∷ x ∷ []))

-- all faces of the halves but the one between them
abbrev pub half_marks : List CellMark
half_marks = marks_on ((z ∷ y ∷ x ∷ []) ∷ (z ∷ m ∷ x ∷ []) ∷ (y ∷ m ∷ x ∷ []) ∷ (o ∷ z ∷ y ∷ []) ∷ (o ∷ z ∷ m ∷ []) ∷ (o ∷ y ∷ m ∷ []) ∷ [])

pub whole_tetrahedra : are_tetrahedra whole ≡ true
unfolding vol6
whole_tetrahedra = refl

pub halves_tetrahedra : are_tetrahedra halves ≡ true
unfolding vol6
halves_tetrahedra = refl

pub whole_not_flat : NoneIsFlat whole
whole_not_flat = tetrahedra_not_flat whole whole_tetrahedra

pub halves_not_flat : NoneIsFlat halves
halves_not_flat = tetrahedra_not_flat halves halves_tetrahedra

-- ---- odd faces of tetrahedra of one region are marked if each of their faces is, or is had by an even number
abbrev IsMarkedIfOdd : List Tetrahedron → List CellMark → List Coordinates → Type 0
IsMarkedIfOdd tets marks face = odd_of (λ tet. has (slice_cmp place_cmp) face (faces_of tet.corners)) tets ≡ true → is_marked marks face ≡ true

odd_marked : (tets : List Tetrahedron) (marks : List CellMark) → AllByRecursion (λ tet. (tet.phys ≡ pos 1) × (tet.elem ≡ pos 1)) tets
    → AllByRecursion (λ tet. AllByRecursion (IsMarkedIfOdd tets marks) (faces_of tet.corners)) tets → OddAreMarked tets marks
odd_marked tets marks region all phys elem face odd =
    elim (int_eq (pos 1) phys && int_eq (pos 1) elem) as (λ b. odd_of (λ (tet : Tetrahedron). b && has (slice_cmp place_cmp) face (faces_of tet.corners)) tets ≡ true → is_marked marks face ≡ true) [
      | true ↦ λ h.
          let one = odd_some (λ (tet : Tetrahedron). has (slice_cmp place_cmp) face (faces_of tet.corners)) (λ tet. AllByRecursion (IsMarkedIfOdd tets marks) (faces_of tet.corners)) tets all h in
          all-at exact (IsMarkedIfOdd tets marks) face (faces_of one.0.corners) one.2 one.1 h
      | false ↦ λ h. absurd (false≢true (sym (none tets) ∙ h))
    ] (sym (alike tets region) ∙ sym (odd_is _ tets) ∙ odd)
  where
    none : (tets : List Tetrahedron) → odd_of (λ (tet : Tetrahedron). false) tets ≡ false
    none [] = refl
    none (tet ∷ tets) = none tets

    alike : (tets : List Tetrahedron) → AllByRecursion (λ tet. (tet.phys ≡ pos 1) × (tet.elem ≡ pos 1)) tets
        → odd_of (λ tet. (int_eq tet.phys phys && int_eq tet.elem elem) && has (slice_cmp place_cmp) face (faces_of tet.corners)) tets
        ≡ odd_of (λ (tet : Tetrahedron). (int_eq (pos 1) phys && int_eq (pos 1) elem) && has (slice_cmp place_cmp) face (faces_of tet.corners)) tets
    alike [] h = refl
    alike (tet ∷ tets) h =
        ap₂ xor (ap₂ (λ u w. (int_eq u phys && int_eq w elem) && has (slice_cmp place_cmp) face (faces_of tet.corners)) h.0.0 h.0.1) (alike tets h.1)

-- ---- both are sound
pub whole_is_sound : IsSound whole marks
whole_is_sound =
    odd_marked_is_sound whole marks whole_not_flat (λ p _. count_by-le-length (λ tet. is_inside p tet.corners) whole)
    (odd_marked whole marks ((refl, refl), tt) (((λ _. refl), ((λ _. refl), ((λ _. refl), ((λ _. refl), tt)))), tt)) refl

pub same_cover : CoverTheSame whole halves
same_cover phys elem p _ off = bisection_keeps_cover (λ u w. int_eq u phys && int_eq w elem) p m o x whole (record { x = refl; y = refl; z = refl }) (λ e. differ (ap (λ q. q.x) e)) whole_tetrahedra off
  where
    differ : pos 0 ≡ pos 2 → ⊥
    differ e = omega (arith, ints)

pub halves_are_sound : IsSound halves half_marks
halves_are_sound =
    same_cover_stays_sound whole halves marks half_marks whole_is_sound whole_not_flat halves_not_flat same_cover
    (odd_marked halves half_marks ((refl, refl), ((refl, refl), tt))
    (((λ even. absurd (false≢true even)), ((λ _. refl), ((λ _. refl), ((λ _. refl), tt)))), (((λ _. refl), ((λ _. refl), ((λ _. refl), ((λ even. absurd (false≢true even)), tt)))), tt))) refl

-- the halves lie on both sides of the face between them, which they alone have
pub between : whole_holders (z ∷ y ∷ m ∷ []) halves ≡ 2
between = refl

-- ---- a point within one of the halves, off all planes of five places
abbrev inner : Rational
inner = record { x = pos 1; y = pos 1; z = pos 1; w = pos 4 }

abbrev v : Coordinates
v = at (pos 3) (pos 5) (pos 9)

pub off_planes : AllByRecursion (IsOffPlane inner) (faces_of (o ∷ z ∷ y ∷ m ∷ v ∷ []))
unfolding side
off_planes =
    (λ _. below 3, (λ _. above 1, (λ _. below 3, (λ _. below 1, (λ _. above 11, (λ _. below 3, (λ _. above 7, (λ _. above 59, (λ _. below 37, (λ _. above 53, tt))))))))))
  where
    above : (n : ℕ) → pos (suc n) ≢ pos 0
    above n e = omega (arith, ints)

    below : (n : ℕ) → negsuc n ≢ pos 0
    below n e = omega (arith, ints)

-- two of the five tetrahedra have it within them
pub two_enclose : (enclosed inner o z y m ≡ negsuc 0) × (enclosed inner o y m v ≡ negsuc 0) × (enclosed inner z y m v ≡ pos 0)
unfolding side vol6
two_enclose = (refl, refl, refl)

-- ---- tetrahedra over the face z y m, with o and another place on one side of it
pub on_one_side : are_alike (vol6 z y m o) (vol6 z y m (at (negsuc 0) (negsuc 2) (pos 0))) ≡ true
unfolding vol6
on_one_side = refl

-- ---- a face that is listed twice falls away
pub twice_falls_away : (face : List Coordinates) (faces : List (List Coordinates)) → AreSameOddly (face ∷ face ∷ faces) faces
twice_falls_away face faces f = odd_is (same f) (face ∷ face ∷ faces) ∙ by (same f face) (odd_of (same f) faces) ∙ sym (odd_is (same f) faces)
  where
    by : (s t : Bool) → xor s (xor s t) ≡ t
    by true true = refl
    by true false = refl
    by false t = refl
