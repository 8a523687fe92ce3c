-- The five tetrahedra of five places enclose a point by signs alone: a check of all signs that the ten sides can have.
use Rattle.std.proofs.Common.{◌≡◌, Bool, true, false, cond, ◌&&◌, ◌||◌, List, [], ◌∷◌, refl, arith}
use Rattle.std.specs.Prelude.{not, ℤ, pos, negsuc, ◌+ℤ◌, ◌-ℤ◌}
use Rattle.std.specs.List.{AllByRecursion, list_all, list_any}
use Rattle.std.specs.Ordering.{int_eq}
use Rattle.std.proofs.lemmas.Bool.{and_parts, false≢true}
use Rattle.std.proofs.lemmas.Int.{ints}
use Rattle.ma_geom.specs.declared.signs.Sign.{Sign}
use Rattle.ma_geom.specs.declared.signs.Sign.TheVariants.{Minus, Zero, Plus}

-- ---- signs
abbrev pub is_minus : Sign → Bool
is_minus Minus = true
is_minus _ = false

abbrev pub is_null : Sign → Bool
is_null Zero = true
is_null _ = false

abbrev pub is_plus : Sign → Bool
is_plus Plus = true
is_plus _ = false

abbrev pub turned : Sign → Sign
turned Minus = Plus
turned Zero = Zero
turned Plus = Minus

abbrev pub product : Sign → Sign → Sign
product Minus t = turned t
product Zero t = Zero
product Plus t = t

-- whether numbers with these signs can sum to zero
abbrev pub can_cancel : List Sign → Bool
can_cancel ss = (list_any is_plus ss && list_any is_minus ss) || list_all is_null ss

-- ---- tests of signs
-- whether each item of the list can have any sign, so that f passes
abbrev over : List Sign → (List Sign → Bool) → Bool
over [] f = f []
over (s ∷ ss) f = over ss (λ ts. f (Minus ∷ ts)) && (over ss (λ ts. f (Zero ∷ ts)) && over ss (λ ts. f (Plus ∷ ts)))

three : (a b c : Bool) → (a && (b && c)) ≡ true → (a ≡ true) × (b ≡ true) × (c ≡ true)
three a b c h = let first = and_parts a (b && c) h in let rest = and_parts b c first.1 in (first.0, rest.0, rest.1)

over_passes : (ss : List Sign) (f : List Sign → Bool) → over ss f ≡ true → f ss ≡ true
over_passes [] f h = h
over_passes (Minus ∷ ss) f h = over_passes ss (λ ts. f (Minus ∷ ts)) (three _ (over ss (λ ts. f (Zero ∷ ts))) (over ss (λ ts. f (Plus ∷ ts))) h).0
over_passes (Zero ∷ ss) f h = over_passes ss (λ ts. f (Zero ∷ ts)) (three (over ss (λ ts. f (Minus ∷ ts))) _ (over ss (λ ts. f (Plus ∷ ts))) h).1
over_passes (Plus ∷ ss) f h = over_passes ss (λ ts. f (Plus ∷ ts)) (three (over ss (λ ts. f (Minus ∷ ts))) (over ss (λ ts. f (Zero ∷ ts))) _ h).2

-- a test that counts only where others pass, none of which is tried after one that fails
abbrev given : Bool → (Unit {0} → Bool) → Bool
given true f = f tt
given false f = true

abbrev guarded : List (Unit {0} → Bool) → (Unit {0} → Bool) → Bool
guarded [] f = f tt
guarded (t ∷ ts) f = given (t tt) (λ _. guarded ts f)

guarded_passes : (ts : List (Unit {0} → Bool)) (f : Unit {0} → Bool) → guarded ts f ≡ true → AllByRecursion (λ t. t tt ≡ true) ts → f tt ≡ true
guarded_passes [] f h all = h
guarded_passes (t ∷ ts) f h all = guarded_passes ts f (by (t tt) h all.0) all.1
  where
    by : (b : Bool) → given b (λ _. guarded ts f) ≡ true → b ≡ true → guarded ts f ≡ true
    by true h e = h
    by false h e = absurd (false≢true e)

-- ---- 1 or -1 where the four sides have the signs of a point within a tetrahedron that turns to the left or to the right
abbrev pub within : (bcd acd abd abc : Sign) → ℤ
within Minus Plus Minus Plus = pos 1
within Plus Minus Plus Minus = negsuc 0
within s t u v = pos 0

-- of the places a, b, c, d and e
abbrev pub sum_of : (abc abd abe acd ace ade bcd bce bde cde : Sign) → ℤ
sum_of abc abd abe acd ace ade bcd bce bde cde =
    (((within cde bde bce bcd -ℤ within cde ade ace acd) +ℤ within bde ade abe abd) -ℤ within bce ace abe abc) +ℤ within bcd acd abd abc

-- that no side of a tetrahedron is zero, or its volume is
abbrev pub is_strict_or_flat : (bcd acd abd abc : Sign) → Bool
is_strict_or_flat bcd acd abd abc = not (list_any is_null (bcd ∷ acd ∷ abd ∷ abc ∷ [])) || can_cancel (abc ∷ turned abd ∷ acd ∷ turned bcd ∷ [])

-- what the sides of five places fulfil
abbrev pub tests : (abc abd abe acd ace ade bcd bce bde cde : Sign) → List (Unit {0} → Bool)
tests abc abd abe acd ace ade bcd bce bde cde =
    (λ _. can_cancel (product abc ade ∷ turned (product abd ace) ∷ product abe acd ∷ [])) ∷
    (λ _. can_cancel (product abc bde ∷ turned (product abd bce) ∷ product abe bcd ∷ [])) ∷
    (λ _. can_cancel (product abc cde ∷ turned (product acd bce) ∷ product ace bcd ∷ [])) ∷
    (λ _. can_cancel (product abd cde ∷ turned (product acd bde) ∷ product ade bcd ∷ [])) ∷
    (λ _. can_cancel (product abe cde ∷ turned (product ace bde) ∷ product ade bce ∷ [])) ∷
    (λ _. is_strict_or_flat bcd acd abd abc) ∷
    (λ _. is_strict_or_flat bce ace abe abc) ∷
    (λ _. is_strict_or_flat bde ade abe abd) ∷
    (λ _. is_strict_or_flat cde ade ace acd) ∷
    (λ _. is_strict_or_flat cde bde bce bcd) ∷ []

check : List Sign → Bool
check (abc ∷ abd ∷ abe ∷ acd ∷ ace ∷ ade ∷ bcd ∷ bce ∷ bde ∷ cde ∷ []) =
    guarded (tests abc abd abe acd ace ade bcd bce bde cde) (λ _. int_eq (sum_of abc abd abe acd ace ade bcd bce bde cde) (pos 0))
check _ = true

all_pass : (abc abd abe acd ace ade bcd bce bde cde : Sign) → over (abc ∷ abd ∷ abe ∷ acd ∷ ace ∷ ade ∷ bcd ∷ bce ∷ bde ∷ cde ∷ []) check ≡ true
unfolding check
all_pass abc abd abe acd ace ade bcd bce bde cde = refl

pub signs_cancel : (abc abd abe acd ace ade bcd bce bde cde : Sign) → AllByRecursion (λ t. t tt ≡ true) (tests abc abd abe acd ace ade bcd bce bde cde)
    → sum_of abc abd abe acd ace ade bcd bce bde cde ≡ pos 0
unfolding check
signs_cancel abc abd abe acd ace ade bcd bce bde cde all =
    zero_is (sum_of abc abd abe acd ace ade bcd bce bde cde)
    (guarded_passes (tests abc abd abe acd ace ade bcd bce bde cde) (λ _. int_eq (sum_of abc abd abe acd ace ade bcd bce bde cde) (pos 0))
    (over_passes (abc ∷ abd ∷ abe ∷ acd ∷ ace ∷ ade ∷ bcd ∷ bce ∷ bde ∷ cde ∷ []) check (all_pass abc abd abe acd ace ade bcd bce bde cde)) all)
  where
    zero_is : (x : ℤ) → int_eq x (pos 0) ≡ true → x ≡ pos 0
    zero_is x h = grind (arith, ints)

-- ---- one tetrahedron
abbrev pub alike : Sign → Sign → Bool
alike s t = (is_plus s && is_plus t) || (is_minus s && is_minus t)

abbrev pub number : Sign → ℤ
number Minus = negsuc 0
number Zero = pos 0
number Plus = pos 1

-- whether four sides aren't those of a point within a tetrahedron that turns the other way than one with the sign s
abbrev pub turns : (s bcd acd abd abc : Sign) → Bool
turns s bcd acd abd abc =
    (not (is_minus bcd && is_plus acd && is_minus abd && is_plus abc) || is_plus s) && (not (is_plus bcd && is_minus acd && is_plus abd && is_minus abc) || is_minus s)

abbrev pub number_within : (s bcd acd abd abc : Sign) → ℤ
number_within s bcd acd abd abc = cond (alike (turned s) bcd && alike s acd && alike (turned s) abd && alike s abc) (number s) (pos 0)

check_one : List Sign → Bool
check_one (s ∷ bcd ∷ acd ∷ abd ∷ abc ∷ []) = given (turns s bcd acd abd abc) (λ _. int_eq (number_within s bcd acd abd abc) (within bcd acd abd abc))
check_one _ = true

one_passes : (s bcd acd abd abc : Sign) → over (s ∷ bcd ∷ acd ∷ abd ∷ abc ∷ []) check_one ≡ true
unfolding check_one
one_passes s bcd acd abd abc = refl

pub within_is : (s bcd acd abd abc : Sign) → turns s bcd acd abd abc ≡ true → number_within s bcd acd abd abc ≡ within bcd acd abd abc
unfolding check_one
within_is s bcd acd abd abc h =
    equal _ _ (guarded_passes ((λ _. turns s bcd acd abd abc) ∷ []) (λ _. int_eq (number_within s bcd acd abd abc) (within bcd acd abd abc))
    (over_passes (s ∷ bcd ∷ acd ∷ abd ∷ abc ∷ []) check_one (one_passes s bcd acd abd abc)) (h, tt))
  where
    equal : (x y : ℤ) → int_eq x y ≡ true → x ≡ y
    equal x y h = grind (arith, ints)
