-- What is within a tetrahedron, with its corners in another order.
use Rattle.std.proofs.Common.{◌≡◌, ◌≢◌, ℕ, Bool, true, false, ◌&&◌, List, [], ◌∷◌, length, refl, sym, ap, ◌∙◌, arith}
use Rattle.std.specs.Prelude.{ℤ, neg_ℤ}
use Rattle.std.specs.List.Sorted.{IsPermutation}
use Rattle.std.proofs.lemmas.List.Sorted.{length_permutation}
use Rattle.std.proofs.lemmas.Int.{ints}
use Rattle.ma_geom.specs.Coordinates.{Coordinates}
use Rattle.ma_geom.specs.Rational.{Rational, side}
use Rattle.ma_geom.specs.Volume.{vol6}
use Rattle.ma_geom.proofs.Identities.{vol6_exchange_ab, vol6_exchange_bc, side_exchange_ab, side_exchange_bc}
use Rattle.ma_cells.proofs.FourPlaces.{OfFour, in_any_order}
use Rattle.ma_cover.specs.Inside.{are_alike, is_beside, is_inside}

turned_alike : (x y s t : ℤ) → s ≡ neg_ℤ x → t ≡ neg_ℤ y → are_alike s t ≡ are_alike x y
turned_alike x y s t e f = grind (arith, ints)

beside_ab : (a b c q : Coordinates) (p : Rational) → is_beside b a c q p ≡ is_beside a b c q p
beside_ab a b c q p = turned_alike (vol6 a b c q) (side a b c p) (vol6 b a c q) (side b a c p) (vol6_exchange_ab a b c q) (side_exchange_ab a b c p)

beside_bc : (a b c q : Coordinates) (p : Rational) → is_beside a c b q p ≡ is_beside a b c q p
beside_bc a b c q p = turned_alike (vol6 a b c q) (side a b c p) (vol6 a c b q) (side a c b p) (vol6_exchange_bc a b c q) (side_exchange_bc a b c p)

four_ab : (s t u v u' v' : Bool) → u' ≡ u → v' ≡ v → (t && s && u' && v') ≡ (s && t && u && v)
four_ab true true u v u' v' e f = rw (e, f) refl
four_ab true false u v u' v' e f = refl
four_ab false true u v u' v' e f = refl
four_ab false false u v u' v' e f = refl

and_turned : (x u v : Bool) → ((x && v) && u) ≡ ((x && u) && v)
and_turned true true true = refl
and_turned true true false = refl
and_turned true false true = refl
and_turned true false false = refl
and_turned false u v = refl

four_bc : (s t u v s' v' : Bool) → s' ≡ s → v' ≡ v → (s' && u && t && v') ≡ (s && t && u && v)
four_bc s t u v s' v' e f = rw (e, f) (ap (λ b. b && v) (and_turned s t u))

four_cd : (s t u v s' t' : Bool) → s' ≡ s → t' ≡ t → (s' && t' && v && u) ≡ (s && t && u && v)
four_cd s t u v s' t' e f = rw (e, f) (and_turned (s && t) u v)

inside_ab : (p : Rational) (a b c d : Coordinates) → is_inside p (b ∷ a ∷ c ∷ d ∷ []) ≡ is_inside p (a ∷ b ∷ c ∷ d ∷ [])
inside_ab p a b c d =
    four_ab (is_beside b c d a p) (is_beside a c d b p) (is_beside a b d c p) (is_beside a b c d p) (is_beside b a d c p) (is_beside b a c d p)
    (beside_ab a b d c p) (beside_ab a b c d p)

inside_bc : (p : Rational) (a b c d : Coordinates) → is_inside p (a ∷ c ∷ b ∷ d ∷ []) ≡ is_inside p (a ∷ b ∷ c ∷ d ∷ [])
inside_bc p a b c d =
    four_bc (is_beside b c d a p) (is_beside a c d b p) (is_beside a b d c p) (is_beside a b c d p) (is_beside c b d a p) (is_beside a c b d p)
    (beside_ab b c d a p) (beside_bc a b c d p)

pub inside_cd : (p : Rational) (a b c d : Coordinates) → is_inside p (a ∷ b ∷ d ∷ c ∷ []) ≡ is_inside p (a ∷ b ∷ c ∷ d ∷ [])
inside_cd p a b c d =
    four_cd (is_beside b c d a p) (is_beside a c d b p) (is_beside a b d c p) (is_beside a b c d p) (is_beside b d c a p) (is_beside a d c b p)
    (beside_bc b c d a p) (beside_bc a c d b p)

-- only four corners have a point within them
inside_fewer : (p : Rational) (corners : List Coordinates) → length corners ≢ 4 → is_inside p corners ≡ false
inside_fewer p [] n = refl
inside_fewer p (a ∷ []) n = refl
inside_fewer p (a ∷ b ∷ []) n = refl
inside_fewer p (a ∷ b ∷ c ∷ []) n = refl
inside_fewer p (a ∷ b ∷ c ∷ d ∷ []) n = absurd (n refl)
inside_fewer p (a ∷ b ∷ c ∷ d ∷ e ∷ l) n = refl

of_four : (p : Rational) (v : Bool) (corners : List Coordinates) → OfFour (λ a b c d. is_inside p (a ∷ b ∷ c ∷ d ∷ []) ≡ v) corners → is_inside p corners ≡ v
of_four p v [] h = absurd h
of_four p v (a ∷ []) h = absurd h
of_four p v (a ∷ b ∷ []) h = absurd h
of_four p v (a ∷ b ∷ c ∷ []) h = absurd h
of_four p v (a ∷ b ∷ c ∷ d ∷ []) h = h
of_four p v (a ∷ b ∷ c ∷ d ∷ e ∷ l) h = absurd h

same_length : (m n : ℕ) → m ≡ n → n ≢ 4 → m ≢ 4
same_length m n e h f = h (sym e ∙ f)

pub inside_in_any_order : (p : Rational) (corners others : List Coordinates) → IsPermutation corners others → is_inside p others ≡ is_inside p corners
inside_in_any_order p (a ∷ b ∷ c ∷ d ∷ []) others moved =
    of_four p (is_inside p (a ∷ b ∷ c ∷ d ∷ [])) others
    (in_any_order (λ w x y z. is_inside p (w ∷ x ∷ y ∷ z ∷ []) ≡ is_inside p (a ∷ b ∷ c ∷ d ∷ []))
    (λ w x y z h. inside_ab p w x y z ∙ h) (λ w x y z h. inside_bc p w x y z ∙ h) (λ w x y z h. inside_cd p w x y z ∙ h)
    a b c d others moved refl)
inside_in_any_order p [] others moved = inside_fewer p others (same_length (length others) 0 (length_permutation [] others moved) (λ e. absurd (omega arith)))
inside_in_any_order p (a ∷ []) others moved =
    inside_fewer p others (same_length (length others) 1 (length_permutation (a ∷ []) others moved) (λ e. absurd (omega arith)))
inside_in_any_order p (a ∷ b ∷ []) others moved =
    inside_fewer p others (same_length (length others) 2 (length_permutation (a ∷ b ∷ []) others moved) (λ e. absurd (omega arith)))
inside_in_any_order p (a ∷ b ∷ c ∷ []) others moved =
    inside_fewer p others (same_length (length others) 3 (length_permutation (a ∷ b ∷ c ∷ []) others moved) (λ e. absurd (omega arith)))
inside_in_any_order p (a ∷ b ∷ c ∷ d ∷ e ∷ l) others moved =
    inside_fewer p others (same_length (length others) (length (a ∷ b ∷ c ∷ d ∷ e ∷ l)) (length_permutation (a ∷ b ∷ c ∷ d ∷ e ∷ l) others moved) (λ f. absurd (omega arith)))
