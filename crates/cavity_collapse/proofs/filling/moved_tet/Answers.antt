use Rattle.std.proofs.Common.{◌≡◌, true, false, length, sym, subst, ◌∙◌, arith}
use Rattle.std.proofs.Math.Bool.{and-true}
use Rattle.ma_geom.specs.Coordinates.{place_cmp}
use Rattle.ma_cells.specs.Ascending.{has}
use Rattle.ma_cells.specs.Tetrahedron.{are_corners}
use Rattle.cavity_collapse.proofs.Moving.{left_out, stays}
use Rattle.cavity_collapse.proofs.filling.moved_tet.Goals as goal

pub returns-then-holds : goal.returns-then-holds
returns-then-holds c =
    let four : length c.corners.result ≡ 4 = omega arith in
    stays c.args.tet.now c.args.a c.args.v (subst (λ l. are_corners l ≡ true) c.corners.ensures.value c.corners.ensures.corners) (subst (λ l. length l ≡ 4) c.corners.ensures.value four)
    (subst (λ l. has place_cmp c.args.a l ≡ false) c.corners.ensures.value c.in-None.ensures.none) (sym (and-true _) ∙ sym c.holds.ensures ∙ c.if-holds.true)

pub returns-else-holds : goal.returns-else-holds
returns-else-holds c =
    let four : length c.corners.result ≡ 4 = omega arith in
    left_out c.args.tet.now c.args.a c.args.v (subst (λ l. are_corners l ≡ true) c.corners.ensures.value c.corners.ensures.corners) (subst (λ l. length l ≡ 4) c.corners.ensures.value four)
    (subst (λ l. has place_cmp c.args.a l ≡ false) c.corners.ensures.value c.in-None.ensures.none) (sym (and-true _) ∙ sym c.holds.ensures ∙ c.if-holds.false)
