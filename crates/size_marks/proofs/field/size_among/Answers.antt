use Rattle.std.proofs.Common.{◌≡◌, ℕ, zero, suc, ◌+◌, ◌-◌, Bool, true, false, cond, List, [], ◌∷◌, length, get_or, map, filter, sym, ap, ◌∙◌, arith}
use Rattle.ma_geom.specs.Coordinates.{Coordinates}
use Rattle.size_marks.specs.Field.{BoxedSize, holds, last_or, sizes_at}
use Rattle.size_marks.proofs.field.size_among.Goals as goal

-- where the last box holds the place, its size is the last
last_size : (boxes : List BoxedSize) (n : ℕ) (b : BoxedSize) (d : ℕ) (p : Coordinates) → length boxes ≡ n + 1 → b ≡ get_or boxes n b → holds b p ≡ true → last_or d (sizes_at boxes p) ≡ b.size
last_size [] n b d p long is_last held = absurd (omega arith)
last_size (x ∷ []) zero b d p long is_last held =
    ap (λ (test : Bool). last_or d (map (λ (a : BoxedSize). a.size) (cond test (x ∷ []) []))) (ap (λ (a : BoxedSize). holds a p) (sym is_last) ∙ held)
    ∙ ap (λ (a : BoxedSize). a.size) (sym is_last)
last_size (x ∷ []) (suc n) b d p long is_last held = absurd (omega arith)
last_size (x ∷ y ∷ ys) zero b d p long is_last held = absurd (omega arith)
last_size (x ∷ y ∷ ys) (suc n) b d p long is_last held =
    let rest = filter (λ (a : BoxedSize). holds a p) (y ∷ ys) in
    elim (holds x p) as (λ (test : Bool). last_or d (map (λ (a : BoxedSize). a.size) (cond test (x ∷ rest) rest)) ≡ b.size) [
      | true ↦ last_size (y ∷ ys) n b x.size p (omega arith) is_last held
      | false ↦ last_size (y ∷ ys) n b d p (omega arith) is_last held
    ]

pub returns-then-holds-clause-value : goal.returns-then-holds-clause-value
returns-then-holds-clause-value c =
    c.size.ensures.value
    ∙ sym (last_size c.loop-before.before.now (length c.loop-before.before.now - 1) c.last-item.result c.args.default c.args.p (omega arith) c.last-item.is (sym c.holds.ensures ∙ c.if-holds.true))
    ∙ c.loop-before.invariant.size
