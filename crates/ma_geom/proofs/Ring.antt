-- Identities over whole numbers, proved by computation: `ring` compares two expressions in +, -, * and any whole numbers.
--
-- Write both sides as an `Expr` over variables 0, 1, 2 .., list what the variables stand for, and end by `tt`. The values of the
-- two expressions compute to the statement's sides. For (a + b) * (a - b) ≡ a * a - b * b:
--
--     squares : (a b : ℤ) → (a +ℤ b) *ℤ (a -ℤ b) ≡ (a *ℤ a) -ℤ (b *ℤ b)
--     squares a b = ring (entry (a ∷ b ∷ [])) ((var 0 ⊕ var 1) ⊗ (var 0 ⊖ var 1)) ((var 0 ⊗ var 0) ⊖ (var 1 ⊗ var 1)) tt
--
-- A false identity is refused at `tt`. A variable may stand for any term, as `vol6 a b c d`. Degree 9 in twelve variables takes
-- some seconds and 1 GB: above it let variables stand for inner sums and differences.
use Rattle.std.proofs.Common.{◌≡◌, ℕ, zero, suc, Bool, true, false, cond, ◌&&◌, T, eqb, leb, List, [], ◌∷◌, refl, sym, ap, ap₂, ◌∙◌, arith, eqb→eq}
use Rattle.std.specs.Prelude.{ℤ, pos, negsuc, ◌+ℤ◌, ◌-ℤ◌, ◌*ℤ◌, neg_ℤ}
use Rattle.std.proofs.lemmas.Int.{ints}
use Rattle.std.proofs.Math.IntN.{*ℤ_comm, *ℤ-zero, +ℤ_idr, +ℤ_assoc}
use Rattle.ma_geom.proofs.Integers.{*ℤ-+ℤ, +ℤ-*ℤ, *ℤ_assoc}

infixl 6 ◌⊕◌ ◌⊖◌
infixl 7 ◌⊗◌
pub data Expr : Type 0 where
  var : ℕ → Expr
  con : ℤ → Expr
  neg : Expr → Expr
  ◌⊕◌ : Expr → Expr → Expr
  ◌⊗◌ : Expr → Expr → Expr

abbrev pub ◌⊖◌ : Expr → Expr → Expr
e ⊖ f = e ⊕ neg f

-- the value of an expression
abbrev pub eval : (ℕ → ℤ) → Expr → ℤ
eval env (var i) = env i
eval env (con c) = c
eval env (neg e) = neg_ℤ (eval env e)
eval env (e ⊕ f) = eval env e +ℤ eval env f
eval env (e ⊗ f) = eval env e *ℤ eval env f

-- the variables that a list gives
abbrev pub entry : List ℤ → ℕ → ℤ
entry [] i = pos 0
entry (x ∷ xs) zero = x
entry (x ∷ xs) (suc i) = entry xs i

-- an expression multiplied out: a number, or x_i * p + q
pub data Poly : Type 0 where
  leaf : ℤ → Poly
  node : ℕ → Poly → Poly → Poly

abbrev pub value : (ℕ → ℤ) → Poly → ℤ
value env (leaf c) = c
value env (node i p q) = (env i *ℤ value env p) +ℤ value env q

-- ---- sums
abbrev pub add_number : ℤ → Poly → Poly
add_number c (leaf d) = leaf (c +ℤ d)
add_number c (node i p q) = node i p (add_number c q)

-- x_i * p + q and the last argument, by what adds p and what adds q
abbrev pub merge : ℕ → Poly → Poly → (Poly → Poly) → (Poly → Poly) → Poly → Poly
merge i p q add_p add_q (leaf c) = node i p (add_q (leaf c))
merge i p q add_p add_q (node j r s) =
    let same = node i (add_p r) (add_q s) in
    let first = node i p (add_q (node j r s)) in
    let second = node j r (merge i p q add_p add_q s) in
    cond (eqb i j) same (cond (leb i j) first second)

abbrev pub add : Poly → Poly → Poly
add (leaf c) h = add_number c h
add (node i p q) h = merge i p q (add p) (add q) h

-- ---- products
abbrev pub scale : ℤ → Poly → Poly
scale c (leaf d) = leaf (c *ℤ d)
scale c (node i p q) = node i (scale c p) (scale c q)

abbrev pub by_var : ℕ → Poly → Poly
by_var i (leaf (pos zero)) = leaf (pos zero)
by_var i (leaf (pos (suc n))) = node i (leaf (pos (suc n))) (leaf (pos zero))
by_var i (leaf (negsuc n)) = node i (leaf (negsuc n)) (leaf (pos zero))
by_var i (node j p q) =
    let front = node i (node j p q) (leaf (pos zero)) in
    let behind = node j (by_var i p) (by_var i q) in
    cond (leb i j) front behind

abbrev pub times : Expr → Poly → Poly
times (var i) h = by_var i h
times (con c) h = scale c h
times (neg e) h = scale (negsuc zero) (times e h)
times (e ⊕ f) h = add (times e h) (times f h)
times (e ⊗ f) h = times e (times f h)

abbrev pub is_zero : Poly → Bool
is_zero (leaf (pos zero)) = true
is_zero (leaf (pos (suc n))) = false
is_zero (leaf (negsuc n)) = false
is_zero (node i p q) = is_zero p && is_zero q

-- ---- that each has the value it is to have. Sums are regrouped over variables alone
second_third : (a b c d : ℤ) → (a +ℤ b) +ℤ (c +ℤ d) ≡ (a +ℤ c) +ℤ (b +ℤ d)
second_third a b c d = omega (arith, ints)

second_first : (a b c : ℤ) → a +ℤ (b +ℤ c) ≡ b +ℤ (a +ℤ c)
second_first a b c = omega (arith, ints)

add_number_value : (env : ℕ → ℤ) (c : ℤ) (h : Poly) → value env (add_number c h) ≡ c +ℤ value env h
add_number_value env c (leaf d) = refl
add_number_value env c (node i p q) =
    ap (λ t. (env i *ℤ value env p) +ℤ t) (add_number_value env c q) ∙ second_first (env i *ℤ value env p) c (value env q)

same_value : (x y p q r s u v : ℤ) → x ≡ y → u ≡ p +ℤ r → v ≡ q +ℤ s → (x *ℤ u) +ℤ v ≡ ((x *ℤ p) +ℤ q) +ℤ ((y *ℤ r) +ℤ s)
same_value x y p q r s u v xs us vs =
    ap₂ (λ a b. (x *ℤ a) +ℤ b) us vs
    ∙ ap (λ a. a +ℤ (q +ℤ s)) (*ℤ-+ℤ x p r)
    ∙ second_third (x *ℤ p) (x *ℤ r) q s
    ∙ ap (λ z. ((x *ℤ p) +ℤ q) +ℤ ((z *ℤ r) +ℤ s)) xs

merge_value : (env : ℕ → ℤ) (i : ℕ) (p q : Poly) (add_p add_q : Poly → Poly)
    → ((h : Poly) → value env (add_p h) ≡ value env p +ℤ value env h)
    → ((h : Poly) → value env (add_q h) ≡ value env q +ℤ value env h)
    → (h : Poly) → value env (merge i p q add_p add_q h) ≡ ((env i *ℤ value env p) +ℤ value env q) +ℤ value env h
merge_value env i p q add_p add_q with_p with_q (leaf c) =
    ap (λ t. (env i *ℤ value env p) +ℤ t) (with_q (leaf c)) ∙ sym (+ℤ_assoc (env i *ℤ value env p) (value env q) c)
merge_value env i p q add_p add_q with_p with_q (node j r s) =
    by (eqb i j) (leb i j) (eqb→eq i j) (merge_value env i p q add_p add_q with_p with_q s)
  where
    by : (t u : Bool) → (T t → i ≡ j)
        → value env (merge i p q add_p add_q s) ≡ ((env i *ℤ value env p) +ℤ value env q) +ℤ value env s
        → value env (cond t (node i (add_p r) (add_q s)) (cond u (node i p (add_q (node j r s))) (node j r (merge i p q add_p add_q s))))
        ≡ ((env i *ℤ value env p) +ℤ value env q) +ℤ ((env j *ℤ value env r) +ℤ value env s)
    by true u is rest =
        same_value (env i) (env j) (value env p) (value env q) (value env r) (value env s) (value env (add_p r)) (value env (add_q s)) (ap env (is tt)) (with_p r) (with_q s)
    by false true is rest =
        ap (λ t. (env i *ℤ value env p) +ℤ t) (with_q (node j r s))
        ∙ sym (+ℤ_assoc (env i *ℤ value env p) (value env q) ((env j *ℤ value env r) +ℤ value env s))
    by false false is rest =
        ap (λ t. (env j *ℤ value env r) +ℤ t) rest
        ∙ second_first (env j *ℤ value env r) ((env i *ℤ value env p) +ℤ value env q) (value env s)

add_value : (env : ℕ → ℤ) (p h : Poly) → value env (add p h) ≡ value env p +ℤ value env h
add_value env (leaf c) h = add_number_value env c h
add_value env (node i p q) h = merge_value env i p q (add p) (add q) (add_value env p) (add_value env q) h

exchanged : (a b c : ℤ) → a *ℤ (b *ℤ c) ≡ b *ℤ (a *ℤ c)
exchanged a b c = sym (*ℤ_assoc a b c) ∙ ap (λ t. t *ℤ c) (*ℤ_comm a b) ∙ *ℤ_assoc b a c

scale_value : (env : ℕ → ℤ) (c : ℤ) (h : Poly) → value env (scale c h) ≡ c *ℤ value env h
scale_value env c (leaf d) = refl
scale_value env c (node i p q) =
    ap₂ (λ a b. (env i *ℤ a) +ℤ b) (scale_value env c p) (scale_value env c q)
    ∙ ap (λ a. a +ℤ (c *ℤ value env q)) (exchanged (env i) c (value env p))
    ∙ sym (*ℤ-+ℤ c (env i *ℤ value env p) (value env q))

by_var_value : (env : ℕ → ℤ) (i : ℕ) (h : Poly) → value env (by_var i h) ≡ env i *ℤ value env h
by_var_value env i (leaf (pos zero)) = sym (*ℤ-zero (env i))
by_var_value env i (leaf (pos (suc n))) = +ℤ_idr (env i *ℤ pos (suc n))
by_var_value env i (leaf (negsuc n)) = +ℤ_idr (env i *ℤ negsuc n)
by_var_value env i (node j p q) = by (leb i j) (by_var_value env i p) (by_var_value env i q)
  where
    by : (t : Bool) → value env (by_var i p) ≡ env i *ℤ value env p → value env (by_var i q) ≡ env i *ℤ value env q
        → value env (cond t (node i (node j p q) (leaf (pos zero))) (node j (by_var i p) (by_var i q))) ≡ env i *ℤ ((env j *ℤ value env p) +ℤ value env q)
    by true with_p with_q = +ℤ_idr (env i *ℤ ((env j *ℤ value env p) +ℤ value env q))
    by false with_p with_q =
        ap₂ (λ a b. (env j *ℤ a) +ℤ b) with_p with_q
        ∙ ap (λ a. a +ℤ (env i *ℤ value env q)) (exchanged (env j) (env i) (value env p))
        ∙ sym (*ℤ-+ℤ (env i) (env j *ℤ value env p) (value env q))

less_one : (a : ℤ) → negsuc zero *ℤ a ≡ neg_ℤ a
less_one a = omega (arith, ints)

times_value : (env : ℕ → ℤ) (e : Expr) (h : Poly) → value env (times e h) ≡ eval env e *ℤ value env h
times_value env (var i) h = by_var_value env i h
times_value env (con c) h = scale_value env c h
times_value env (neg e) h =
    scale_value env (negsuc zero) (times e h)
    ∙ ap (λ t. negsuc zero *ℤ t) (times_value env e h)
    ∙ sym (*ℤ_assoc (negsuc zero) (eval env e) (value env h))
    ∙ ap (λ t. t *ℤ value env h) (less_one (eval env e))
times_value env (e ⊕ f) h =
    add_value env (times e h) (times f h)
    ∙ ap₂ (λ a b. a +ℤ b) (times_value env e h) (times_value env f h)
    ∙ sym (+ℤ-*ℤ (eval env e) (eval env f) (value env h))
times_value env (e ⊗ f) h =
    times_value env e (times f h)
    ∙ ap (λ t. eval env e *ℤ t) (times_value env f h)
    ∙ sym (*ℤ_assoc (eval env e) (eval env f) (value env h))

both_true : (s t : Bool) → T (s && t) → T s × T t
both_true true t h = (tt, h)
both_true false t h = absurd h

is_zero_value : (env : ℕ → ℤ) (p : Poly) → T (is_zero p) → value env p ≡ pos 0
is_zero_value env (leaf (pos zero)) h = refl
is_zero_value env (leaf (pos (suc n))) h = absurd h
is_zero_value env (leaf (negsuc n)) h = absurd h
is_zero_value env (node i p q) h =
    let parts = both_true (is_zero p) (is_zero q) h in
    ap₂ (λ a b. (env i *ℤ a) +ℤ b) (is_zero_value env p parts.0) (is_zero_value env q parts.1) ∙ nothing (env i)
  where
    nothing : (a : ℤ) → (a *ℤ pos 0) +ℤ pos 0 ≡ pos 0
    nothing a = omega (arith, ints)

no_difference : (a b d : ℤ) → d ≡ (a -ℤ b) *ℤ pos 1 → d ≡ pos 0 → a ≡ b
no_difference a b d is nought = omega (arith, ints)

-- two expressions whose difference multiplies out to nothing have one value
pub ring : (env : ℕ → ℤ) (e f : Expr) → T (is_zero (times (e ⊖ f) (leaf (pos 1)))) → eval env e ≡ eval env f
ring env e f nought =
    no_difference (eval env e) (eval env f) (value env (times (e ⊖ f) (leaf (pos 1)))) (times_value env (e ⊖ f) (leaf (pos 1))) (is_zero_value env (times (e ⊖ f) (leaf (pos 1))) nought)
