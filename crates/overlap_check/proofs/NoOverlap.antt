-- Where no two tetrahedra of a list overlap, every two are separated.
use Rattle.std.proofs.Common.{◌≡◌, ℕ, suc, ◌<◌, ◌≤◌, Bool, true, false, not, List, [], ◌∷◌, get_or, length, refl, sym, arith}
use Rattle.std.specs.Prelude.{Option, None, Some}
use Rattle.std.specs.List.{AllPairs, position, position_or_len}
use Rattle.std.specs.Option.{option_map, option_or}
use Rattle.std.proofs.lemmas.Bool.{false≢true}
use Rattle.std.proofs.lemmas.Grind.{common_steps}
use Rattle.std.proofs.lemmas.List.Kept.{AllPairs-cons}
use Rattle.std.proofs.lemmas.List.Sums.{fails_before_first}
use Rattle.ma_geom.specs.Rational.{Rational}
use Rattle.ma_cells.specs.Tetrahedron.{Tetrahedron}
use Rattle.ma_cover.specs.Cover.{whole_cover}
use Rattle.overlap_check.specs.Overlap.{are_separated, first_overlap_of, further, overlap}
use Rattle.overlap_check.proofs.CoverOnce.{AreSeparated, separated_cover_once}

none_passes : {X : Type 0} (p : X → Bool) (xs : List X) → position p xs ≡ None → (k : ℕ) (d : X) → k < length xs → p (get_or xs k d) ≡ false
none_passes p xs e k d within =
    let past : length xs ≤ position_or_len p xs = grind (arith, common_steps) in
    fails_before_first p xs k d (omega arith)

separated_from : (t u : Tetrahedron) → overlap t u ≡ false → AreSeparated t u
separated_from t u h = turned (are_separated t.corners u.corners) h
  where
    turned : (b : Bool) → not b ≡ false → b ≡ true
    turned true e = refl
    turned false e = absurd (false≢true (sym e))

neither : (o : Option ℕ) (p : Option (ℕ × ℕ)) (f : ℕ → ℕ × ℕ) (g : ℕ × ℕ → ℕ × ℕ) → option_or (option_map f o) (option_map g p) ≡ None → (o ≡ None) × (p ≡ None)
neither None None f g e = (refl, refl)
neither None (Some y) f g e = absurd (grind arith)
neither (Some x) p f g e = absurd (grind arith)

pub all_separated : (tets : List Tetrahedron) → first_overlap_of tets ≡ None → AllPairs AreSeparated tets
all_separated [] e = λ i j d h k. absurd (omega arith)
all_separated (t ∷ ts) e =
    let parts = neither (position (overlap t) ts) (first_overlap_of ts) (λ j. (0, suc j)) further e in
    AllPairs-cons AreSeparated t ts (λ k d within. separated_from t (get_or ts k d) (none_passes (overlap t) ts parts.0 k d within)) (all_separated ts parts.1)

pub no_overlap_covers_once : (p : Rational) (tets : List Tetrahedron) → first_overlap_of tets ≡ None → whole_cover p tets ≤ 1
no_overlap_covers_once p tets e = separated_cover_once p tets (all_separated tets e)
