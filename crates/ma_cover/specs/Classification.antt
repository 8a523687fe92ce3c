-- Classification: which points lie on marked cells.
use Rattle.std.specs.Prelude.{ℕ, ℤ, pos, ◌≡◌, ◌⊎◌, ◌↔◌, ◌+ℤ◌, ◌*ℤ◌, ◌≤ℤ◌, ◌<ℤ◌, ◌&&◌, ◌==◌, List, [], ◌∷◌, if◌then◌else◌}
use Rattle.std.specs.List.{flat_map}
use Rattle.std.specs.Ordering.{int_eq}
use Rattle.ma_geom.specs.Coordinates.{Coordinates}
use Rattle.ma_geom.specs.Rational.{IsPoint, Rational}
use Rattle.ma_cells.specs.Cells.{CellMark, corners_of}
use Rattle.ma_cells.specs.declared.cell.Cell.{Cell}
use Rattle.ma_cells.specs.declared.cell.Cell.TheVariants.{Point, Seg, Tri}
use Rattle.ma_cover.specs.OnFaces.{IsOnTriangle}

-- that p is at a place
pub record IsAt (a : Coordinates) (p : Rational) : Type 0 where
  pub x : p.x ≡ p.w *ℤ a.x
  pub y : p.y ≡ p.w *ℤ a.y
  pub z : p.z ≡ p.w *ℤ a.z

-- that p lies on the closed segment a b: it is a mean of the ends, with the weights i / n and j / n, neither of them negative
pub record IsOnSegment (a b : Coordinates) (p : Rational) : Type 0 where
  pub i : ℤ
  pub j : ℤ
  pub n : ℤ
  pub first : pos 0 ≤ℤ i
  pub second : pos 0 ≤ℤ j
  pub positive : pos 0 <ℤ n
  pub w : n *ℤ p.w ≡ i +ℤ j
  pub x : n *ℤ p.x ≡ (i *ℤ a.x) +ℤ (j *ℤ b.x)
  pub y : n *ℤ p.y ≡ (i *ℤ a.y) +ℤ (j *ℤ b.y)
  pub z : n *ℤ p.z ≡ (i *ℤ a.z) +ℤ (j *ℤ b.z)

-- that p lies on the closed cell with these corners
abbrev pub IsOnCell : Rational → List Coordinates → Type 0
IsOnCell p (a ∷ []) = IsAt a p
IsOnCell p (a ∷ b ∷ []) = IsOnSegment a b p
IsOnCell p (a ∷ b ∷ c ∷ []) = IsOnTriangle a b c p
IsOnCell p _ = ⊥

-- that P holds of an item
abbrev pub AnyByRecursion : {X : Type 0} → (X → Type 0) → List X → Type 0
AnyByRecursion P [] = ⊥
AnyByRecursion P (x ∷ xs) = P x ⊎ AnyByRecursion P xs

abbrev pub dimension : Cell → ℕ
dimension (Point p) = 0
dimension (Seg s) = 1
dimension (Tri t) = 2

-- the marked cells of dimension d with the tag (phys, elem), by their corners
abbrev pub marked_cells : (d : ℕ) (phys elem : ℤ) → List CellMark → List (List Coordinates)
marked_cells d phys elem marks = flat_map (λ m. if dimension m.cell == d && (int_eq m.phys phys && int_eq m.elem elem) then corners_of m.cell ∷ [] else []) marks

-- that p lies on one of them
abbrev pub IsOn : List CellMark → (d : ℕ) (phys elem : ℤ) → Rational → Type 0
IsOn marks d phys elem p = AnyByRecursion (IsOnCell p) (marked_cells d phys elem marks)

-- that others classify each rational point as marks do: with each tag, the same points lie on marked points, the same on marked segments, and the same on marked triangles
abbrev pub KeepsClassification : (marks others : List CellMark) → Type 0
KeepsClassification marks others = (d : ℕ) (phys elem : ℤ) (p : Rational) → IsPoint p → IsOn marks d phys elem p ↔ IsOn others d phys elem p
