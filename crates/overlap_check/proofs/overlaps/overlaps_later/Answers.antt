use Rattle.std.proofs.Common.{◌≡◌, inl, inr, ℕ, sym, ap, ◌∙◌, arith}
use Rattle.std.proofs.lemmas.Bool.{cases_lt, not-true}
use Rattle.overlap_check.specs.steps.Cubes.{home_of, touch_at}
use Rattle.overlap_check.specs.steps.Pairs.{are_overlapping}
use Rattle.overlap_check.proofs.CubeOrder.{differ_not}
use Rattle.overlap_check.proofs.overlaps.overlaps_later.Goals as goal

pub returns-then-ne-clause-missed : goal.returns-then-ne-clause-missed
returns-then-ne-clause-missed c h m within same home = elim (cases_lt m c.loop-other.other-index) [
  | inl low ↦ c.loop-other.invariant m low same home
  | inr high ↦ absurd (differ_not _ _ (not-true _ (sym c.ne.ensures ∙ c.if-ne.true)) (same c.loop-other.other-index high))
]

pub loop-other-preserved : goal.loop-other-preserved
loop-other-preserved c m within same home = elim (cases_lt m c.loop-other.other-index) [
  | inl low ↦ c.loop-other.invariant m low same home
  | inr high ↦ (
      let at : c.loop-other.other-index ≡ m = omega arith in
      let other = λ (n : ℕ). (touch_at c.args.later.now n).tet in
      ap (λ (n : ℕ). are_overlapping c.args.tets.now c.args.touch.now.tet (other n)) (sym at)
      ∙ c.overlap.ensures.missed c.if-overlap.false (ap (λ (n : ℕ). home_of c.args.cubes.now.shift c.args.boxes.now c.args.touch.now.tet (other n)) at ∙ home)
      )
]
