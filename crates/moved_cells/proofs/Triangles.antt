-- Points stay on triangles around a vertex that goes to a place of all their planes.
use Rattle.std.proofs.Common.{◌≡◌, Bool, true, false, not, ◌||◌, List, [], ◌∷◌, length, refl, sym, ap₂, subst, ◌∙◌, arith}
use Rattle.std.specs.Prelude.{◌↔◌, map}
use Rattle.std.specs.Option.{option_to_list}
use Rattle.std.specs.List.Sorted.{IsPermutation}
use Rattle.std.specs.Ordering.{eq_by_cmp}
use Rattle.std.proofs.lemmas.Bool.{false≢true}
use Rattle.std.proofs.lemmas.List.Sorted.{IsPermutation-refl, IsPermutation-swap, IsPermutation-trans}
use Rattle.ma_geom.specs.Coordinates.{Coordinates, place_cmp}
use Rattle.ma_geom.specs.Rational.{Rational}
use Rattle.ma_cells.specs.Ascending.{has}
use Rattle.ma_cells.proofs.Permutations.{same}
use Rattle.ma_cover.specs.OnFaces.{IsOnTriangle}
use Rattle.ma_cover.proofs.Anys.{any_alike, then_either}
use Rattle.ma_cells.proofs.Passing.{all_anyway}
use Rattle.cavity_collapse.specs.Surfaces.{corners_across}
use Rattle.plane_laws.specs.Planes.{Edge, IsOnFan, link_without}
use Rattle.plane_laws.proofs.Items.{any-filter}
use Rattle.plane_laws.proofs.Planes.{planes_keep_points}
use Rattle.moved_cells.specs.Triangles.{TrianglesKeepPoints, edge_of, link_of}
use Rattle.moved_cells.proofs.Moved.{HasPart, IsOnKept, eq_turned, keeps_points}

abbrev eq : Coordinates → Coordinates → Bool
eq = eq_by_cmp place_cmp

abbrev ends : Edge → List Coordinates
ends e = e.x ∷ e.y ∷ []

abbrev edges : Coordinates → List Coordinates → List Edge
edges a t = map edge_of (option_to_list (corners_across a t))

part : (a v : Coordinates) (s : List Coordinates) → length s ≡ 3 → HasPart a v ends (edges a) s
part a v [] long = absurd (omega (arith, long))
part a v (b ∷ []) long = absurd (omega (arith, long))
part a v (b ∷ c ∷ []) long = absurd (omega (arith, long))
part a v (b ∷ c ∷ d ∷ e ∷ l) long = absurd (omega (arith, long))
part a v (b ∷ c ∷ d ∷ []) long = by (eq b a) (eq c a) (eq d a) refl refl refl
  where
    second : IsPermutation (c ∷ b ∷ d ∷ []) (b ∷ c ∷ d ∷ [])
    second = IsPermutation-swap (c ∷ b ∷ d ∷ []) (b ∷ c ∷ d ∷ []) 0 1 (omega arith) (omega arith) refl

    third : IsPermutation (d ∷ b ∷ c ∷ []) (b ∷ c ∷ d ∷ [])
    third =
        IsPermutation-trans (d ∷ b ∷ c ∷ []) (b ∷ d ∷ c ∷ []) (b ∷ c ∷ d ∷ [])
        (IsPermutation-swap (d ∷ b ∷ c ∷ []) (b ∷ d ∷ c ∷ []) 0 1 (omega arith) (omega arith) refl)
        (IsPermutation-swap (b ∷ d ∷ c ∷ []) (b ∷ c ∷ d ∷ []) 1 2 (omega arith) (omega arith) refl)

    by : (s t u : Bool) → eq b a ≡ s → eq c a ≡ t → eq d a ≡ u → HasPart a v ends (edges a) (b ∷ c ∷ d ∷ [])
    by true t u e f g = HasPart.at (record { x = c; y = d }) (rw e refl) (subst (λ q. IsPermutation (q ∷ c ∷ d ∷ []) (b ∷ c ∷ d ∷ [])) (same b a e) (IsPermutation-refl (b ∷ c ∷ d ∷ [])))
    by false true u e f g = HasPart.at (record { x = b; y = d }) (rw (e, f) refl) (subst (λ q. IsPermutation (q ∷ b ∷ d ∷ []) (b ∷ c ∷ d ∷ [])) (same c a f) second)
    by false false true e f g = HasPart.at (record { x = b; y = c }) (rw (e, f, g) refl) (subst (λ q. IsPermutation (q ∷ b ∷ c ∷ []) (b ∷ c ∷ d ∷ [])) (same d a g) third)
    by false false false e f g = HasPart.away (ap₂ (λ s t. s || t) (eq_turned a b ∙ e) (ap₂ (λ s t. s || (t || false)) (eq_turned a c ∙ f) (eq_turned a d ∙ g))) (rw (e, f, g) refl)

-- the triangles that are kept are those to the link without v
kept : (a v : Coordinates) (link : List Edge) (p : Rational) → IsOnFan v (link_without v link) p ↔ IsOnKept a v ends (edges a) p link
kept a v link p =
    then_either (any-filter (λ e. IsOnTriangle v e.x e.y p) (λ e. not (eq v e.x || eq v e.y)) link)
    (any_alike (λ _. Unit {0}) (λ e. (not (eq v e.x || eq v e.y) ≡ true) × IsOnTriangle v e.x e.y p) (λ e. (has place_cmp v (ends e) ≡ false) × IsOnTriangle v e.x e.y p)
    (λ e _. ((λ h. (to_has (eq v e.x) (eq v e.y) h.0, h.1)), (λ h. (from_has (eq v e.x) (eq v e.y) h.0, h.1)))) link (all_anyway link))
  where
    to_has : (s t : Bool) → not (s || t) ≡ true → (s || (t || false)) ≡ false
    to_has true t h = absurd (false≢true h)
    to_has false true h = absurd (false≢true h)
    to_has false false h = refl

    from_has : (s t : Bool) → (s || (t || false)) ≡ false → not (s || t) ≡ true
    from_has true t h = absurd (false≢true (sym h))
    from_has false true h = absurd (false≢true (sym h))
    from_has false false h = refl

pub triangles_keep_points : TrianglesKeepPoints
triangles_keep_points a v triangles are m p is_point =
    keeps_points a v ends (edges a) 3 (part a v) triangles are p (then_either (planes_keep_points a v (link_of a triangles) m p is_point) (kept a v (link_of a triangles) p))
