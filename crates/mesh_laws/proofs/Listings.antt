-- How often a face is listed among those of tetrahedra.
use Rattle.std.proofs.Common.{◌≡◌, ◌≢◌, ℕ, ◌+◌, Bool, true, false, cond, not, ◌&&◌, ◌||◌, List, [], ◌∷◌, get_or, refl, sym, ap, ap₂, subst, ◌∙◌}
use Rattle.std.specs.Prelude.{pos}
use Rattle.std.specs.Cmp.{tied_itself}
use Rattle.std.specs.Cmp.Lexicographic.{lists_total, slice_cmp}
use Rattle.std.specs.FinMap.{IsAntisymmetric, slice_cmp-IsAntisymmetric}
use Rattle.std.specs.Ordering.{eq_by_cmp, int_eq, is_eq}
use Rattle.std.proofs.lemmas.Bool.{false_from_ne_true}
use Rattle.std.proofs.lemmas.List.Sums.{sum_by-append}
use Rattle.ma_geom.specs.Coordinates.{Coordinates, place_cmp}
use Rattle.ma_geom.specs.Volume.{vol6}
use Rattle.ma_geom.proofs.PlaceOrder.{place_cmp-IsAntisymmetric, place_cmp_total}
use Rattle.ma_geom.proofs.Identities.{vol6_same_ab, vol6_same_bc, vol6_same_cd}
use Rattle.ma_cells.specs.Ascending.{are_distinct, has}
use Rattle.ma_cells.specs.Faces.{faces_of}
use Rattle.ma_cells.specs.Tetrahedron.{is_flat}
use Rattle.ma_cells.proofs.Members.{tied_is}
use Rattle.ma_cells.proofs.Permutations.{alone}
use Rattle.mesh_laws.specs.Parity.{HoldersAreListings, region_faces, listings}
use Rattle.mesh_laws.proofs.Lists.{count-cons}
use Rattle.mesh_laws.proofs.Weights.{by_four}

-- ---- lists of places that tie are equal
abbrev pub same : List Coordinates → List Coordinates → Bool
same = eq_by_cmp (slice_cmp place_cmp)

pub exact : IsAntisymmetric (slice_cmp place_cmp)
exact = slice_cmp-IsAntisymmetric place_cmp-IsAntisymmetric

pub same_is : (f g : List Coordinates) → same f g ≡ true → f ≡ g
same_is = tied_is exact

pub same_itself : (f : List Coordinates) → same f f ≡ true
same_itself f = ap is_eq (tied_itself (lists_total place_cmp_total) f)

-- ---- what is distinct is listed once or not at all
pub times_distinct : (face : List Coordinates) (faces : List (List Coordinates)) → are_distinct (slice_cmp place_cmp) faces ≡ true → listings face faces ≡ cond (has (slice_cmp place_cmp) face faces) 1 0
times_distinct face [] distinct = refl
times_distinct face (f ∷ faces) distinct =
    let first = alone (has (slice_cmp place_cmp) f faces) (are_distinct (slice_cmp place_cmp) faces) distinct in
    count-cons (same face) f faces ∙ ap (λ (n : ℕ). cond (same face f) 1 0 + n) (times_distinct face faces first.1)
    ∙ by (same face f) (has (slice_cmp place_cmp) face faces) (λ e. subst (λ g. has (slice_cmp place_cmp) g faces ≡ false) (sym (same_is face f e)) first.0)
  where
    by : (s t : Bool) → (s ≡ true → t ≡ false) → ◌≡◌ {A = ℕ} (cond s 1 0 + cond t 1 0) (cond (s || t) 1 0)
    by true t h = ap (λ t. 1 + cond t 1 0) (h refl)
    by false true h = refl
    by false false h = refl

-- ---- so are the faces of a tetrahedron
pub faces_distinct : (corners : List Coordinates) → is_flat corners ≡ false → are_distinct (slice_cmp place_cmp) (faces_of corners) ≡ true
faces_distinct = by_four (λ corners. are_distinct (slice_cmp place_cmp) (faces_of corners) ≡ true) four
  where
    four : (a b c d : Coordinates) → vol6 a b c d ≢ pos 0 → are_distinct (slice_cmp place_cmp) (faces_of (a ∷ b ∷ c ∷ d ∷ [])) ≡ true
    four a b c d solid =
        all (same (a ∷ b ∷ c ∷ []) (a ∷ b ∷ d ∷ [])) (same (a ∷ b ∷ c ∷ []) (a ∷ c ∷ d ∷ [])) (same (a ∷ b ∷ c ∷ []) (b ∷ c ∷ d ∷ [])) (same (a ∷ b ∷ d ∷ []) (a ∷ c ∷ d ∷ [])) (same (a ∷ b ∷ d ∷ []) (b ∷ c ∷ d ∷ [])) (same (a ∷ c ∷ d ∷ []) (b ∷ c ∷ d ∷ []))
        (apart 2 (a ∷ b ∷ c ∷ []) (a ∷ b ∷ d ∷ []) cd) (apart 1 (a ∷ b ∷ c ∷ []) (a ∷ c ∷ d ∷ []) bc) (apart 0 (a ∷ b ∷ c ∷ []) (b ∷ c ∷ d ∷ []) ab)
        (apart 1 (a ∷ b ∷ d ∷ []) (a ∷ c ∷ d ∷ []) bc) (apart 0 (a ∷ b ∷ d ∷ []) (b ∷ c ∷ d ∷ []) ab) (apart 0 (a ∷ c ∷ d ∷ []) (b ∷ c ∷ d ∷ []) ab)
      where
        apart : (i : ℕ) (f g : List Coordinates) → get_or f i a ≢ get_or g i a → same f g ≡ false
        apart i f g differ = false_from_ne_true (same f g) (λ h. differ (ap (λ l. get_or l i a) (same_is f g h)))

        ab : a ≢ b
        ab e = solid (subst (λ t. vol6 a t c d ≡ pos 0) e (vol6_same_ab a c d))

        bc : b ≢ c
        bc e = solid (subst (λ t. vol6 a b t d ≡ pos 0) e (vol6_same_bc a b d))

        cd : c ≢ d
        cd e = solid (subst (λ t. vol6 a b c t ≡ pos 0) e (vol6_same_cd a b c))

        all : (s t u v w x : Bool) → s ≡ false → t ≡ false → u ≡ false → v ≡ false → w ≡ false → x ≡ false
            → (not (s || (t || (u || false))) && (not (v || (w || false)) && (not (x || false) && (not false && true)))) ≡ true
        all s t u v w x e f g h k l = rw (e, f, g, h, k, l) refl

pub holders_are_listings : HoldersAreListings
holders_are_listings [] solid phys elem face = refl
holders_are_listings (tet ∷ tets) solid phys elem face =
    count-cons (λ t. (int_eq t.phys phys && int_eq t.elem elem) && has (slice_cmp place_cmp) face (faces_of t.corners)) tet tets
    ∙ ap₂ (λ (m n : ℕ). m + n) (one (int_eq tet.phys phys && int_eq tet.elem elem)) (holders_are_listings tets solid.1 phys elem face)
    ∙ sym (sum_by-append (λ f. cond (same face f) 1 0) (cond (int_eq tet.phys phys && int_eq tet.elem elem) (faces_of tet.corners) []) (region_faces phys elem tets))
  where
    one : (b : Bool) → cond (b && has (slice_cmp place_cmp) face (faces_of tet.corners)) 1 0 ≡ listings face (cond b (faces_of tet.corners) [])
    one true = sym (times_distinct face (faces_of tet.corners) (faces_distinct tet.corners solid.0))
    one false = refl
