use Rattle.std.proofs.Common.{◌≡◌, ℕ, List, ◌++◌, w32, ap, ◌∙◌, arith, ◌^◌, ◌≤◌}
use Rattle.std.specs.Prelude.{ℤ, FitsSigned, unsigned_abs}
use mir.Val.{of_z, to_z}
use Rattle.std.proofs.lemmas.Int.{ints, to_z-of_z}
use Rattle.letters.specs.Fields.{signed}
use Rattle.letters.proofs.Joining.{three}
use Rattle.letters.proofs.spelling.put_place.Goals as goal

-- a coordinate, read through its bits
read : (x z : ℤ) → unsigned_abs x ≤ 2 ^ 30 → x ≡ z → to_z w32 (of_z w32 x) ≡ z
read x z range e = to_z-of_z w32 x (fits x range) ∙ e
  where
    fits : (x : ℤ) → unsigned_abs x ≤ 2 ^ 30 → FitsSigned w32 x
    fits x range = omega (arith, ints)

pub returns-clause-text : goal.returns-clause-text
returns-clause-text c =
    let p = c.args.p in
    let put : List ℕ → ℤ → List ℕ = λ old z. old ++ signed.spelling z in
    three c.args.out.now.items (signed.spelling p.x) (signed.spelling p.y) (signed.spelling p.z) c.put_signed.new.out.items c.put_signed-2.new.out.items c.put_signed-3.new.out.items
    (c.in_ok-put_signed.ensures.text ∙ ap (put c.args.out.now.items) (read c.x.result p.x c.x.ensures.range c.x.ensures.value))
    (c.in_ok-put_signed-2.ensures.text ∙ ap (put c.put_signed.new.out.items) (read c.y.result p.y c.y.ensures.range c.y.ensures.value))
    (c.in_ok-put_signed-3.ensures.text ∙ ap (put c.put_signed-2.new.out.items) (read c.z.result p.z c.z.ensures.range c.z.ensures.value))
