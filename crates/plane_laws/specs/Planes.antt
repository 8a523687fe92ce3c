-- Triangles around a vertex a that goes to another place v, in one plane and in several: the edges across from a are its link.
use Rattle.std.specs.Prelude.{pos, ◌≡◌, ◌≢◌, ◌⊎◌, ◌↔◌, true, false, not, ◌&&◌, ◌||◌, List, [], ◌∷◌, if◌then◌else◌}
use Rattle.std.specs.List.{AllByRecursion, filter, flat_map}
use Rattle.std.specs.Ordering.{eq_by_cmp}
use Rattle.ma_geom.specs.Coordinates.{Coordinates, place_cmp}
use Rattle.ma_geom.specs.Lines.{collinear, coplanar, is_zero}
use Rattle.ma_geom.specs.Rational.{IsPoint, Rational, offset}
use Rattle.ma_geom.specs.Turns.{same_turn}
use Rattle.ma_geom.specs.Volume.{dot, minus}
use Rattle.ma_cover.specs.Classification.{AnyByRecursion}
use Rattle.ma_cover.specs.OnFaces.{IsOnTriangle}

-- an edge across from a vertex in a triangle that has it. Those of all its triangles are the link of the vertex
pub record Edge : Type 0 where
  pub x : Coordinates
  pub y : Coordinates

-- the link without the edges that have v
abbrev pub link_without : Coordinates → List Edge → List Edge
link_without v link = filter (λ e. not (eq_by_cmp place_cmp v e.x || eq_by_cmp place_cmp v e.y)) link

-- that p lies on one of the triangles from a to the edges of a link
abbrev pub IsOnFan : Coordinates → List Edge → Rational → Type 0
IsOnFan a link p = AnyByRecursion (λ e. IsOnTriangle a e.x e.y p) link

-- the third corners of the triangles with the edge from a to z, one for each triangle
abbrev pub thirds : Coordinates → List Edge → List Coordinates
thirds z link = flat_map (λ e. if eq_by_cmp place_cmp z e.x then e.y ∷ [] else if eq_by_cmp place_cmp z e.y then e.x ∷ [] else []) link

-- that triangles with the edge from a to z and these third corners are two, on opposite sides of it: from a to z to the one corner turns as from z to a to the other
abbrev pub AreOpposite : (a z : Coordinates) → List Coordinates → Type 0
AreOpposite a z (x ∷ y ∷ []) = same_turn (a ∷ z ∷ x ∷ []) (z ∷ a ∷ y ∷ []) ≡ true
AreOpposite a z _ = ⊥

-- that the edge from a to z lies on the line of a and v, or has two triangles, on opposite sides
abbrev pub IsInnerOrOnLine : (a v : Coordinates) → List Edge → Coordinates → Type 0
IsInnerOrOnLine a v link z = (collinear a z v ≡ true) ⊎ AreOpposite a z (thirds z link)

-- that a vertex a with this link may go to v in the plane through a at right angles to n: its triangles and v lie in the plane, none of them on a line; each of their edges at a is such an edge;
-- and each triangle without v keeps its turn
pub record CanMoveInPlane (n a v : Coordinates) (link : List Edge) : Type 0 where
  pub plane : is_zero n ≡ false
  pub target : dot n (minus v a) ≡ pos 0
  pub corners : AllByRecursion (λ e. (dot n (minus e.x a) ≡ pos 0) × (dot n (minus e.y a) ≡ pos 0)) link
  pub bent : AllByRecursion (λ e. collinear a e.x e.y ≡ false) link
  pub edges : AllByRecursion (λ e. IsInnerOrOnLine a v link e.x × IsInnerOrOnLine a v link e.y) link
  pub turns : AllByRecursion (λ e. e.x ≢ v → e.y ≢ v → same_turn (a ∷ e.x ∷ e.y ∷ []) (v ∷ e.x ∷ e.y ∷ []) ≡ true) link

-- then each point of the plane is on a triangle from a just if it is on one from v
abbrev pub PlaneKeepsPoints : Type 0
PlaneKeepsPoints = (n a v : Coordinates) (link : List Edge) → CanMoveInPlane n a v link
    → (p : Rational) → IsPoint p → dot n (offset p a) ≡ pos 0 → IsOnFan a link p ↔ IsOnFan v (link_without v link) p

-- the edges of a link whose triangles lie in the plane of a and an edge
abbrev pub in_plane : Coordinates → Edge → List Edge → List Edge
in_plane a e link = filter (λ f. coplanar a e.x e.y f.x && coplanar a e.x e.y f.y) link

-- the same of triangles in whichever planes: v lies in the plane of each. Only triangles of one plane are two at an edge
pub record CanMoveInPlanes (a v : Coordinates) (link : List Edge) : Type 0 where
  pub planes : AllByRecursion (λ e. coplanar a e.x e.y v ≡ true) link
  pub bent : AllByRecursion (λ e. collinear a e.x e.y ≡ false) link
  pub edges : AllByRecursion (λ e. IsInnerOrOnLine a v (in_plane a e link) e.x × IsInnerOrOnLine a v (in_plane a e link) e.y) link
  pub turns : AllByRecursion (λ e. e.x ≢ v → e.y ≢ v → same_turn (a ∷ e.x ∷ e.y ∷ []) (v ∷ e.x ∷ e.y ∷ []) ≡ true) link

-- then each point is on a triangle from a just if it is on one from v
abbrev pub PlanesKeepPoints : Type 0
PlanesKeepPoints = (a v : Coordinates) (link : List Edge) → CanMoveInPlanes a v link → (p : Rational) → IsPoint p → IsOnFan a link p ↔ IsOnFan v (link_without v link) p
