-- The grid of a mesh is the greatest that it is on.
use Rattle.std.proofs.Common.{◌≡◌, ℕ, zero, suc, Bool, true, false, cond, ◌≤◌, eqb, List, [], ◌∷◌, refl, arith, ap}
use Rattle.std.specs.Prelude.{ℤ, unsigned_abs}
use Rattle.std.specs.List.{list_all}
use Rattle.std.proofs.Math.Nat.{mod-one}
use Rattle.std.proofs.lemmas.Bool.{false≢true}
use Rattle.ma_geom.specs.Coordinates.{Coordinates}
use Rattle.ma_cells.specs.Grid.{IsGreatest, are_on_grid, greatest, is_multiple, is_on_grid}
use Rattle.ma_cells.specs.Tetrahedron.{Tetrahedron}

-- where 0 passes a test, what `greatest` finds is the greatest that does
greatest-is : (n : ℕ) (test : ℕ → Bool) → test 0 ≡ true → IsGreatest n test (greatest n test)
greatest-is zero test first = record { within = omega arith; passes = first; no_other = λ k within passed. within }
greatest-is (suc n) test first =
    elim (test (suc n)) as (λ b. test (suc n) ≡ b → IsGreatest (suc n) test (cond b (suc n) (greatest n test))) [
      | true ↦ λ passed. record { within = omega arith; passes = passed; no_other = λ k within _. within }
      | false ↦ λ fails.
          let rest = greatest-is n test first in
          record {
            within = omega (arith, rest.within);
            passes = rest.passes;
            no_other = λ k within passed. rest.no_other k (below k within (λ e. absurd (false≢true (λ i. fails_at k e fails passed i)))) passed;
          }
    ] refl
  where
    below : (k : ℕ) → k ≤ suc n → (k ≡ suc n → ⊥) → k ≤ n
    below k within other = grind arith

    fails_at : (k : ℕ) → k ≡ suc n → test (suc n) ≡ false → test k ≡ true → false ≡ true
    fails_at k e fails passed = cc

-- every coordinate is a multiple of 1
one_multiple : (c : ℤ) → is_multiple 0 c ≡ true
unfolding is_multiple
one_multiple c = ap (λ n. eqb n 0) (mod-one (unsigned_abs c))

one_corners : (corners : List Coordinates) → list_all (is_on_grid 0) corners ≡ true
one_corners [] = refl
one_corners (p ∷ ps) = rw (one_multiple p.x, one_multiple p.y, one_multiple p.z) (one_corners ps)

one_grid : (tets : List Tetrahedron) → are_on_grid 0 tets ≡ true
one_grid [] = refl
one_grid (t ∷ ts) = rw (one_corners t.corners) (one_grid ts)

pub grid_is_greatest : (tets : List Tetrahedron) → IsGreatest 30 (λ k. are_on_grid k tets) (greatest 30 (λ k. are_on_grid k tets))
grid_is_greatest tets = greatest-is 30 (λ k. are_on_grid k tets) (one_grid tets)
