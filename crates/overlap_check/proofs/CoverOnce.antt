-- Of tetrahedra of which every two are separated, no more than one has a point within it.
use Rattle.std.proofs.Common.{◌≡◌, ℕ, suc, ◌+◌, ◌≤◌, true, false, cond, List, [], ◌∷◌, slice_index_or, refl, ap, arith}
use Rattle.std.specs.List.{All, AllPairs}
use Rattle.std.proofs.lemmas.List.Sums.{sum_by-cons}
use Rattle.ma_geom.specs.Rational.{Rational}
use Rattle.ma_cells.specs.Tetrahedron.{Tetrahedron}
use Rattle.ma_cover.specs.Cover.{whole_cover}
use Rattle.ma_cover.specs.Inside.{is_inside}
use Rattle.overlap_check.specs.Overlap.{are_separated}
use Rattle.overlap_check.proofs.InnerPoints.{separated_share_no_point}

abbrev pub AreSeparated : Tetrahedron → Tetrahedron → Type 0
AreSeparated t u = are_separated t.corners u.corners ≡ true

-- 1 for a tetrahedron that has the point within it
abbrev counted : Rational → Tetrahedron → ℕ
counted p t = cond (is_inside p t.corners) 1 0

first_counted : (p : Rational) (t : Tetrahedron) (ts : List Tetrahedron) → whole_cover p (t ∷ ts) ≡ counted p t + whole_cover p ts
first_counted p t ts = sum_by-cons (counted p) t ts

outside : (p : Rational) (t u : Tetrahedron) → AreSeparated t u → is_inside p t.corners ≡ true → is_inside p u.corners ≡ false
outside p t u apart within =
    elim (is_inside p u.corners) as (λ b. is_inside p u.corners ≡ b → b ≡ false) [
      | true ↦ λ also. absurd (separated_share_no_point p t.corners u.corners apart within also)
      | false ↦ λ _. refl
    ] refl

none : (c f r : ℕ) → c ≡ f + r → f ≡ 0 → r ≡ 0 → c ≡ 0
none c f r e g h = omega arith

none_within : (p : Rational) (ts : List Tetrahedron) → All (λ u. is_inside p u.corners ≡ false) ts → whole_cover p ts ≡ 0
none_within p [] all = refl
none_within p (t ∷ ts) all =
    none (whole_cover p (t ∷ ts)) (counted p t) (whole_cover p ts) (first_counted p t ts) (ap (λ b. cond b 1 0) (all 0 t (omega arith)))
    (none_within p ts (λ k d h. all (suc k) d (omega arith)))

one : (c f r : ℕ) → c ≡ f + r → f ≡ 1 → r ≡ 0 → c ≤ 1
one c f r e g h = omega arith

no_more : (c f r : ℕ) → c ≡ f + r → f ≡ 0 → r ≤ 1 → c ≤ 1
no_more c f r e g h = omega arith

pub separated_cover_once : (p : Rational) (tets : List Tetrahedron) → AllPairs AreSeparated tets → whole_cover p tets ≤ 1
separated_cover_once p [] apart = omega arith
separated_cover_once p (t ∷ ts) apart =
    elim (is_inside p t.corners) as (λ b. is_inside p t.corners ≡ b → whole_cover p (t ∷ ts) ≤ 1) [
      | true ↦ λ within.
          one (whole_cover p (t ∷ ts)) (counted p t) (whole_cover p ts) (first_counted p t ts) (ap (λ b. cond b 1 0) within)
          (none_within p ts (λ k d h. outside p t (slice_index_or ts k d) (apart 0 (suc k) d (omega arith) (omega arith)) within))
      | false ↦ λ out.
          no_more (whole_cover p (t ∷ ts)) (counted p t) (whole_cover p ts) (first_counted p t ts) (ap (λ b. cond b 1 0) out)
          (separated_cover_once p ts (λ i j d h k. apart (suc i) (suc j) d (omega arith) (omega arith)))
    ] refl
