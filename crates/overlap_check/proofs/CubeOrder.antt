-- Touches in order: those of one cube stand together, and ascend by tetrahedra.
use Rattle.std.proofs.Common.{◌≡◌, ◌<◌, ◌≤◌, ◌&&◌, ℕ, true, false, eqb, List, get_or, length, refl, sym, ap, ◌∙◌, arith}
use Rattle.std.specs.Cmp.{IsTotalOrder, nat_cmp_total, tied_itself}
use Rattle.std.specs.FinMap.{IsAntisymmetric, nat_cmp-IsAntisymmetric}
use Rattle.std.specs.declared.cmp.Ordering.{Ordering}
use Rattle.std.specs.declared.cmp.Ordering.TheVariants.{Less, Equal, Greater}
use Rattle.std.specs.List.Sorted.{IsSorted}
use Rattle.std.specs.Ordering.{is_lt, nat_cmp, ordering_reverse, ordering_then}
use Rattle.std.proofs.lemmas.Bool.{false≢true}
use Rattle.std.proofs.lemmas.Bool.Decides.{nat_tests}
use Rattle.std.proofs.lemmas.Cmp.{on_total, then_total}
use Rattle.std.proofs.lemmas.List.Sorted.{ranks_by, sorted_far}
use Rattle.ma_geom.proofs.PlaceOrder.{both_tie}
use Rattle.overlap_check.specs.contracts.cubes.TouchOrd.TheImpl as TouchOrder
use Rattle.overlap_check.specs.declared.cubes.Cube.{Cube}
use Rattle.overlap_check.specs.declared.cubes.Touch.{Touch}
use Rattle.overlap_check.specs.steps.Cubes.{AreInOrder}

abbrev cube_cmp : Cube → Cube → Ordering
cube_cmp b c = ordering_then (nat_cmp b.x c.x) (ordering_then (nat_cmp b.y c.y) (nat_cmp b.z c.z))

abbrev touch_cmp : Touch → Touch → Ordering
touch_cmp s t = ordering_then (cube_cmp s.cube t.cube) (nat_cmp s.tet t.tet)

cube_cmp_total : IsTotalOrder cube_cmp
cube_cmp_total = then_total (on_total (λ (c : Cube). c.x) nat_cmp_total) (then_total (on_total (λ (c : Cube). c.y) nat_cmp_total) (on_total (λ (c : Cube). c.z) nat_cmp_total))

touch_cmp_total : IsTotalOrder touch_cmp
touch_cmp_total = then_total (on_total (λ (t : Touch). t.cube) cube_cmp_total) (on_total (λ (t : Touch). t.tet) nat_cmp_total)

cube_cmp-IsAntisymmetric : IsAntisymmetric cube_cmp
cube_cmp-IsAntisymmetric b c e =
    let first = both_tie (nat_cmp b.x c.x) _ e in
    let second = both_tie (nat_cmp b.y c.y) _ first.1 in
    let xs = nat_cmp-IsAntisymmetric b.x c.x first.0 in
    let ys = nat_cmp-IsAntisymmetric b.y c.y second.0 in
    let zs = nat_cmp-IsAntisymmetric b.z c.z second.1 in
    λ i. record { x = xs i; y = ys i; z = zs i }

first_differs : (o p : Ordering) → is_lt (ordering_then o p) ≡ false → is_lt o ≡ false
first_differs Less p h = h
first_differs Equal p h = refl
first_differs Greater p h = refl

tie : (o p : Ordering) → o ≡ ordering_reverse p → is_lt o ≡ false → is_lt p ≡ false → o ≡ Equal
tie Less p e h k = absurd (cc)
tie Equal p e h k = refl
tie Greater Less e h k = absurd (cc)
tie Greater Equal e h k = e
tie Greater Greater e h k = absurd (cc)

not_above : (o : Ordering) (m n : ℕ) → o ≡ Equal → is_lt (ordering_then o (nat_cmp n m)) ≡ false → m ≤ n
not_above o m n e h = let k : is_lt (nat_cmp n m) ≡ false = ap (λ p. is_lt (ordering_then p (nat_cmp n m))) (sym e) ∙ h in grind (arith, nat_tests)

pub in_order : (touches : List Touch) → IsSorted TouchOrder.ghosts.cmp touches → AreInOrder touches
in_order touches up = record {
  together = λ i j k d low high within same.
      let before : is_lt (cube_cmp (get_or touches j d).cube (get_or touches i d).cube) ≡ false = first_differs _ _ (far i j d low (omega arith)) in
      let after : is_lt (cube_cmp (get_or touches k d).cube (get_or touches j d).cube) ≡ false = first_differs _ _ (far j k d high within) in
      let turned : is_lt (cube_cmp (get_or touches i d).cube (get_or touches j d).cube) ≡ false = ap (λ c. is_lt (cube_cmp c (get_or touches j d).cube)) same ∙ after in
      cube_cmp-IsAntisymmetric _ _ (tie _ _ (cube_cmp_total.antisymm (get_or touches j d).cube (get_or touches i d).cube) before turned);
  rising = λ i j d low within same.
      let tied : cube_cmp (get_or touches j d).cube (get_or touches i d).cube ≡ Equal = ap (λ c. cube_cmp (get_or touches j d).cube c) same ∙ tied_itself cube_cmp_total (get_or touches j d).cube in
      not_above _ (get_or touches i d).tet (get_or touches j d).tet tied (far i j d low within);
}
  where
    far : (i j : ℕ) (d : Touch) → i ≤ j → j < length touches → is_lt (touch_cmp (get_or touches j d) (get_or touches i d)) ≡ false
    far i j d low within = sorted_far (λ s t. is_lt (touch_cmp s t)) (ranks_by touch_cmp_total (λ (t : Touch). t)) touches up i j d low within

-- ---- the test of two cubes
itself : (n : ℕ) → eqb n n ≡ true
itself n = grind (arith, nat_tests)

pub differ_not : (b c : Cube) → (eqb b.x c.x && (eqb b.y c.y && eqb b.z c.z)) ≡ false → b ≡ c → ⊥
differ_not b c h e = false≢true (sym h ∙ ap (λ (d : Cube). eqb d.x c.x && (eqb d.y c.y && eqb d.z c.z)) e ∙ (λ i. itself c.x i && (itself c.y i && itself c.z i)))
