-- The face across from a corner of a tetrahedron.
use Rattle.std.proofs.Common.{◌≡◌, Bool, true, false, not, cond, ◌&&◌, ◌||◌, List, [], ◌∷◌, length, refl, sym, ap, subst, ◌∙◌, arith}
use Rattle.std.specs.List.{list_all}
use Rattle.std.specs.Ordering.{eq_by_cmp}
use Rattle.std.proofs.lemmas.Bool.{false≢true}
use Rattle.ma_geom.specs.Coordinates.{Coordinates, place_cmp}
use Rattle.ma_geom.specs.Signs.{same_sign, side_of}
use Rattle.ma_geom.specs.declared.signs.Sign.TheVariants.{Zero}
use Rattle.ma_cells.specs.Ascending.{are_ascending, has}
use Rattle.ma_cells.specs.Stars.{besides}
use Rattle.cavity_collapse.specs.Collapsing.{is_same}
use Rattle.ma_cells.proofs.Cornered.{distinct-ascending}
use Rattle.ma_cells.proofs.Permutations.{alone, apart, same, tied}

away : (a b : Coordinates) → eq_by_cmp place_cmp a b ≡ false → eq_by_cmp place_cmp b a ≡ false
away a b h = apart b a (λ e. false≢true (sym h ∙ subst (λ x. eq_by_cmp place_cmp a x ≡ true) (sym e) (tied a)))

pub or_neither : (s t : Bool) → (s || t) ≡ false → (s ≡ false) × (t ≡ false)
or_neither true t h = absurd (false≢true (sym h))
or_neither false t h = (refl, h)

none1 : (s : Bool) → (s || false) ≡ false → s ≡ false
none1 true h = absurd (false≢true (sym h))
none1 false h = refl

none2 : (s t : Bool) → (s || (t || false)) ≡ false → (s ≡ false) × (t ≡ false)
none2 true t h = absurd (false≢true (sym h))
none2 false t h = (refl, none1 t h)

none3 : (s t u : Bool) → (s || (t || (u || false))) ≡ false → (s ≡ false) × (t ≡ false) × (u ≡ false)
none3 true t u h = absurd (false≢true (sym h))
none3 false t u h = let rest = none2 t u h in (refl, rest.0, rest.1)

module _ (p q r s : Coordinates) (rise : are_ascending place_cmp (p ∷ q ∷ r ∷ s ∷ []) ≡ true) where
  at_p : (has place_cmp p (q ∷ r ∷ s ∷ []) ≡ false) × ((not (has place_cmp q (r ∷ s ∷ [])) && (not (has place_cmp r (s ∷ [])) && (true && true))) ≡ true)
  at_p = alone (has place_cmp p (q ∷ r ∷ s ∷ [])) _ (distinct-ascending (p ∷ q ∷ r ∷ s ∷ []) rise)

  at_q : (has place_cmp q (r ∷ s ∷ []) ≡ false) × ((not (has place_cmp r (s ∷ [])) && (true && true)) ≡ true)
  at_q = alone (has place_cmp q (r ∷ s ∷ [])) _ at_p.1

  with_p : (eq_by_cmp place_cmp p q ≡ false) × (eq_by_cmp place_cmp p r ≡ false) × (eq_by_cmp place_cmp p s ≡ false)
  with_p = none3 _ _ _ at_p.0

  with_q : (eq_by_cmp place_cmp q r ≡ false) × (eq_by_cmp place_cmp q s ≡ false)
  with_q = none2 _ _ at_q.0

  rs : eq_by_cmp place_cmp r s ≡ false
  rs = none1 _ (alone (has place_cmp r (s ∷ [])) _ at_q.1).0

  pub across_first : (a : Coordinates) → is_same p a ≡ true → q ∷ r ∷ s ∷ [] ≡ besides (a ∷ []) (p ∷ q ∷ r ∷ s ∷ [])
  across_first a e = subst (λ a. q ∷ r ∷ s ∷ [] ≡ besides (a ∷ []) (p ∷ q ∷ r ∷ s ∷ [])) (same p a e) (rw (tied p, away p q with_p.0, away p r with_p.1, away p s with_p.2) refl)

  pub across_second : (a : Coordinates) → is_same q a ≡ true → p ∷ r ∷ s ∷ [] ≡ besides (a ∷ []) (p ∷ q ∷ r ∷ s ∷ [])
  across_second a e = subst (λ a. p ∷ r ∷ s ∷ [] ≡ besides (a ∷ []) (p ∷ q ∷ r ∷ s ∷ [])) (same q a e) (rw (with_p.0, tied q, away q r with_q.0, away q s with_q.1) refl)

  pub across_third : (a : Coordinates) → is_same r a ≡ true → p ∷ q ∷ s ∷ [] ≡ besides (a ∷ []) (p ∷ q ∷ r ∷ s ∷ [])
  across_third a e = subst (λ a. p ∷ q ∷ s ∷ [] ≡ besides (a ∷ []) (p ∷ q ∷ r ∷ s ∷ [])) (same r a e) (rw (with_p.1, with_q.0, tied r, away r s rs) refl)

  pub across_fourth : (a : Coordinates) → is_same s a ≡ true → p ∷ q ∷ r ∷ [] ≡ besides (a ∷ []) (p ∷ q ∷ r ∷ s ∷ [])
  across_fourth a e = subst (λ a. p ∷ q ∷ r ∷ [] ≡ besides (a ∷ []) (p ∷ q ∷ r ∷ s ∷ [])) (same s a e) (rw (with_p.2, with_q.1, rs, tied s) refl)

pub none_is : (p q r s a : Coordinates) → is_same p a ≡ false → is_same q a ≡ false → is_same r a ≡ false → is_same s a ≡ false → has place_cmp a (p ∷ q ∷ r ∷ s ∷ []) ≡ false
none_is p q r s a e f g h = rw (away p a e, away q a f, away r a g, away s a h) refl

-- without a, all corners are besides a
pub all_besides : (a : Coordinates) (corners : List Coordinates) → has place_cmp a corners ≡ false → besides (a ∷ []) corners ≡ corners
all_besides a [] h = refl
all_besides a (p ∷ corners) h =
    let both = or_neither (eq_by_cmp place_cmp a p) (has place_cmp a corners) h in
    rw (away a p both.0) (ap (λ l. p ∷ l) (all_besides a corners both.1))

-- and four corners are no face
no_side : (corners : List Coordinates) (p : Coordinates) → length corners ≡ 4 → side_of corners p ≡ Zero
no_side [] p h = refl
no_side (a ∷ []) p h = refl
no_side (a ∷ b ∷ []) p h = refl
no_side (a ∷ b ∷ c ∷ []) p h = absurd (omega (arith, h))
no_side (a ∷ b ∷ c ∷ d ∷ corners) p h = refl

pub on_no_face : (a v : Coordinates) (corners : List Coordinates) → length corners ≡ 4 → has place_cmp a corners ≡ false
    → true ≡ same_sign (side_of (besides (a ∷ []) corners) v) (side_of (besides (a ∷ []) corners) a)
on_no_face a v corners four h = rw (all_besides a corners h, no_side corners v four, no_side corners a four) refl

-- a test of all corners besides a
pub all_across : (test : Coordinates → Bool) (a : Coordinates) (corners : List Coordinates) → list_all (λ x. is_same x a || test x) corners ≡ list_all test (besides (a ∷ []) corners)
all_across test a [] = refl
all_across test a (x ∷ corners) =
    elim (is_same x a) as (λ b. ((b || test x) && list_all (λ x. is_same x a || test x) corners) ≡ list_all test (cond (not (b || false)) (x ∷ besides (a ∷ []) corners) (besides (a ∷ []) corners))) [
      | true ↦ all_across test a corners
      | false ↦ ap (λ b. test x && b) (all_across test a corners)
    ]
