-- Faces that are seen from a place. No place sees all faces at one corner of a cell with five corners besides, but in their plane: the sides of three of these faces contradict each other.
use Rattle.std.proofs.Common.{◌≡◌, ◌≢◌, suc, ℤ, pos, negsuc, zero, neg_ℤ, Bool, true, false, ◌&&◌, ◌||◌, List, [], ◌∷◌, refl, sym, ap, ◌∙◌}
use Rattle.std.specs.List.{AllByRecursion}
use Rattle.std.specs.Ordering.{eq_by_cmp}
use Rattle.std.proofs.lemmas.Bool.{and_left, false≢true}
use Rattle.ma_geom.specs.Coordinates.{Coordinates, place_cmp}
use Rattle.ma_geom.specs.Signs.{same_sign, side_of, sign_of}
use Rattle.ma_geom.specs.Volume.{vol6}
use Rattle.ma_geom.specs.declared.signs.Sign.{Sign}
use Rattle.ma_geom.specs.declared.signs.Sign.TheVariants.{Minus, Zero, Plus}
use Rattle.ma_geom.proofs.Identities.{vol6_exchange_ab, vol6_exchange_bc, vol6_exchange_cd}
use Rattle.ma_cells.specs.Ascending.{has}
use Rattle.ma_cells.specs.Faces.{choices, holds_all}
use Rattle.ma_cells.proofs.Permutations.{apart}
use Rattle.pass_counts.proofs.Triples.{any_three}

-- ---- signs
abbrev flip : Sign → Sign
flip Minus = Plus
flip Zero = Zero
flip Plus = Minus

flip_twice : (s : Sign) → flip (flip s) ≡ s
flip_twice Minus = refl
flip_twice Zero = refl
flip_twice Plus = refl

is_plus : Sign → Bool
is_plus Minus = false
is_plus Zero = false
is_plus Plus = true

is_zero : Sign → Bool
is_zero Minus = false
is_zero Zero = true
is_zero Plus = false

-- only zero is its own opposite
own_opposite : (s : Sign) → s ≡ flip s → s ≡ Zero
unfolding is_plus
own_opposite Minus e = absurd (false≢true (ap is_plus e))
own_opposite Zero e = refl
own_opposite Plus e = absurd (false≢true (sym (ap is_plus e)))

sign_of-neg : (n : ℤ) → sign_of (neg_ℤ n) ≡ flip (sign_of n)
sign_of-neg (pos zero) = refl
sign_of-neg (pos (suc n)) = refl
sign_of-neg (negsuc n) = refl

pub same_signs : (s t : Sign) → same_sign s t ≡ true → s ≡ t
same_signs Minus Minus h = refl
same_signs Minus Zero h = absurd (false≢true h)
same_signs Minus Plus h = absurd (false≢true h)
same_signs Zero Minus h = absurd (false≢true h)
same_signs Zero Zero h = refl
same_signs Zero Plus h = absurd (false≢true h)
same_signs Plus Minus h = absurd (false≢true h)
same_signs Plus Zero h = absurd (false≢true h)
same_signs Plus Plus h = refl

-- the side of a place, with two places exchanged
turned_ab : (a b c p : Coordinates) → side_of (b ∷ a ∷ c ∷ []) p ≡ flip (side_of (a ∷ b ∷ c ∷ []) p)
turned_ab a b c p = ap sign_of (vol6_exchange_ab a b c p) ∙ sign_of-neg (vol6 a b c p)

turned_bc : (a b c p : Coordinates) → side_of (a ∷ c ∷ b ∷ []) p ≡ flip (side_of (a ∷ b ∷ c ∷ []) p)
turned_bc a b c p = ap sign_of (vol6_exchange_bc a b c p) ∙ sign_of-neg (vol6 a b c p)

turned_cd : (a b c d : Coordinates) → side_of (a ∷ b ∷ d ∷ []) c ≡ flip (side_of (a ∷ b ∷ c ∷ []) d)
turned_cd a b c d = ap sign_of (vol6_exchange_cd a b c d) ∙ sign_of-neg (vol6 a b c d)

pub zero_ab : (a b c p : Coordinates) → side_of (b ∷ a ∷ c ∷ []) p ≡ Zero → side_of (a ∷ b ∷ c ∷ []) p ≡ Zero
zero_ab a b c p e = turned_ab b a c p ∙ ap flip e

pub zero_bc : (a b c p : Coordinates) → side_of (a ∷ c ∷ b ∷ []) p ≡ Zero → side_of (a ∷ b ∷ c ∷ []) p ≡ Zero
zero_bc a b c p e = turned_bc a c b p ∙ ap flip e

-- where the sign is zero, the number is
pub zero_sign : (n : ℤ) → sign_of n ≡ Zero → n ≡ pos 0
unfolding is_zero
zero_sign (pos zero) e = refl
zero_sign (pos (suc n)) e = absurd (false≢true (ap is_zero e))
zero_sign (negsuc n) e = absurd (false≢true (ap is_zero e))

-- ---- faces that are seen
or_first_two : (s t u : Bool) → (t || (s || u)) ≡ (s || (t || u))
or_first_two true true u = refl
or_first_two true false u = refl
or_first_two false t u = refl

and_first_two : (s t u : Bool) → (t && (s && u)) ≡ (s && (t && u))
and_first_two true t u = refl
and_first_two false true u = refl
and_first_two false false u = refl

-- v, and the corners of a cell and of another one
module _ (v : Coordinates) (corners other : List Coordinates) where
  -- a face without v that the other cell doesn't have: v is on the side of each corner that the face has not
  abbrev pub IsSeen : List Coordinates → Type 0
  IsSeen face =
      has place_cmp v face ≡ false → holds_all other face ≡ false → (d : Coordinates) → has place_cmp d corners ≡ true → has place_cmp d face ≡ false → side_of face v ≡ side_of face d

  seen_ab : (a b c : Coordinates) → IsSeen (a ∷ b ∷ c ∷ []) → IsSeen (b ∷ a ∷ c ∷ [])
  seen_ab a b c h off outer d there apart =
      let side = h (sym (or_first_two (eq_by_cmp place_cmp v a) (eq_by_cmp place_cmp v b) (eq_by_cmp place_cmp v c || false)) ∙ off)
      (sym (and_first_two (has place_cmp a other) (has place_cmp b other) (has place_cmp c other && true)) ∙ outer) d there
      (sym (or_first_two (eq_by_cmp place_cmp d a) (eq_by_cmp place_cmp d b) (eq_by_cmp place_cmp d c || false)) ∙ apart) in
      turned_ab a b c v ∙ ap flip side ∙ sym (turned_ab a b c d)

  seen_bc : (a b c : Coordinates) → IsSeen (a ∷ b ∷ c ∷ []) → IsSeen (a ∷ c ∷ b ∷ [])
  seen_bc a b c h off outer d there apart =
      let side = h (ap (λ t. eq_by_cmp place_cmp v a || t) (sym (or_first_two (eq_by_cmp place_cmp v b) (eq_by_cmp place_cmp v c) false)) ∙ off)
      (ap (λ t. has place_cmp a other && t) (sym (and_first_two (has place_cmp b other) (has place_cmp c other) true)) ∙ outer) d there
      (ap (λ t. eq_by_cmp place_cmp d a || t) (sym (or_first_two (eq_by_cmp place_cmp d b) (eq_by_cmp place_cmp d c) false)) ∙ apart) in
      turned_bc a b c v ∙ ap flip side ∙ sym (turned_bc a b c d)

  -- five different corners besides v
  pub record AreFive (p q r d e : Coordinates) : Type 0 where
    pub vp : v ≢ p
    pub vq : v ≢ q
    pub vr : v ≢ r
    pub vd : v ≢ d
    pub ve : v ≢ e
    pub pq : p ≢ q
    pub pr : p ≢ r
    pub qr : q ≢ r
    pub dp : d ≢ p
    pub dq : d ≢ q
    pub dr : d ≢ r
    pub ep : e ≢ p
    pub eq : e ≢ q
    pub er : e ≢ r
    pub de : d ≢ e
    pub p_there : has place_cmp p corners ≡ true
    pub q_there : has place_cmp q corners ≡ true
    pub r_there : has place_cmp r corners ≡ true
    pub d_there : has place_cmp d corners ≡ true
    pub e_there : has place_cmp e corners ≡ true

  pub five_ab : (p q r d e : Coordinates) → AreFive p q r d e → AreFive q p r d e
  five_ab p q r d e f = record {
    vp = f.vq;
    vq = f.vp;
    vr = f.vr;
    vd = f.vd;
    ve = f.ve;
    pq = λ k. f.pq (sym k);
    pr = f.qr;
    qr = f.pr;
    dp = f.dq;
    dq = f.dp;
    dr = f.dr;
    ep = f.eq;
    eq = f.ep;
    er = f.er;
    de = f.de;
    p_there = f.q_there;
    q_there = f.p_there;
    r_there = f.r_there;
    d_there = f.d_there;
    e_there = f.e_there;
  }

  pub five_bc : (p q r d e : Coordinates) → AreFive p q r d e → AreFive p r q d e
  five_bc p q r d e f = record {
    vp = f.vp;
    vq = f.vr;
    vr = f.vq;
    vd = f.vd;
    ve = f.ve;
    pq = f.pr;
    pr = f.pq;
    qr = λ k. f.qr (sym k);
    dp = f.dp;
    dq = f.dr;
    dr = f.dq;
    ep = f.ep;
    eq = f.er;
    er = f.eq;
    de = f.de;
    p_there = f.p_there;
    q_there = f.r_there;
    r_there = f.q_there;
    d_there = f.d_there;
    e_there = f.e_there;
  }

  off_three : (x a b c : Coordinates) → x ≢ a → x ≢ b → x ≢ c → has place_cmp x (a ∷ b ∷ c ∷ []) ≡ false
  off_three x a b c xa xb xc = rw (apart x a xa, apart x b xb, apart x c xc) refl

  -- v sees each face at p, where the other cell hasn't p
  module _ (seen : AllByRecursion IsSeen (choices 3 corners)) where
    on_side : (p a b d : Coordinates) → has place_cmp p other ≡ false → p ≢ a → p ≢ b → a ≢ b → v ≢ p → v ≢ a → v ≢ b → d ≢ p → d ≢ a → d ≢ b
        → has place_cmp p corners ≡ true → has place_cmp a corners ≡ true → has place_cmp b corners ≡ true → has place_cmp d corners ≡ true
        → side_of (p ∷ a ∷ b ∷ []) v ≡ side_of (p ∷ a ∷ b ∷ []) d
    on_side p a b d gone pa pb ab vp va vb dp da db p_there a_there b_there d_there =
        any_three IsSeen seen_ab seen_bc p a b pa pb ab corners seen p_there a_there b_there
        (off_three v p a b vp va vb) (and_left (has place_cmp p other) (has place_cmp a other && (has place_cmp b other && true)) gone) d d_there (off_three d p a b dp da db)

    -- so it lies in the plane of p, q and r
    pub in_plane : (p q r d e : Coordinates) → AreFive p q r d e → has place_cmp p other ≡ false → side_of (p ∷ q ∷ r ∷ []) v ≡ Zero
    in_plane p q r d e f gone =
        let first_d = on_side p q r d gone f.pq f.pr f.qr f.vp f.vq f.vr f.dp f.dq f.dr f.p_there f.q_there f.r_there f.d_there in
        let first_e = on_side p q r e gone f.pq f.pr f.qr f.vp f.vq f.vr f.ep f.eq f.er f.p_there f.q_there f.r_there f.e_there in
        let pd = λ (k : p ≡ d). f.dp (sym k) in
        let qd = λ (k : q ≡ d). f.dq (sym k) in
        let rd = λ (k : r ≡ d). f.dr (sym k) in
        let pe = λ (k : p ≡ e). f.ep (sym k) in
        let qe = λ (k : q ≡ e). f.eq (sym k) in
        let re = λ (k : r ≡ e). f.er (sym k) in
        let rp = λ (k : r ≡ p). f.pr (sym k) in
        let rq = λ (k : r ≡ q). f.qr (sym k) in
        let ed = λ (k : e ≡ d). f.de (sym k) in
        let second_r = on_side p q d r gone f.pq pd qd f.vp f.vq f.vd rp rq rd f.p_there f.q_there f.d_there f.r_there in
        let second_e = on_side p q d e gone f.pq pd qd f.vp f.vq f.vd f.ep f.eq ed f.p_there f.q_there f.d_there f.e_there in
        let third_r = on_side p q e r gone f.pq pe qe f.vp f.vq f.ve rp rq re f.p_there f.q_there f.e_there f.r_there in
        let third_d = on_side p q e d gone f.pq pe qe f.vp f.vq f.ve f.dp f.dq f.de f.p_there f.q_there f.e_there f.d_there in
        -- s is the side of p q r on which d and e lie. Its opposite is the side of p q d on which e lies, and also that of p q e on which d lies, and these two are opposite
        let s = side_of (p ∷ q ∷ r ∷ []) v in
        let of_e : side_of (p ∷ q ∷ d ∷ []) e ≡ flip s = sym second_e ∙ second_r ∙ turned_cd p q r d ∙ ap flip (sym first_d) in
        let of_d : side_of (p ∷ q ∷ e ∷ []) d ≡ flip s = sym third_d ∙ third_r ∙ turned_cd p q r e ∙ ap flip (sym first_e) in
        own_opposite s (sym (flip_twice s) ∙ ap flip (sym of_e) ∙ sym (turned_cd p q d e) ∙ of_d)
