-- Elements from the numbers of their lines, as the code reads them.
use Rattle.std.proofs.Common.{◌≡◌, ℕ, ◌+◌, ◌-◌, ◌<◌, ◌≤◌, true, List, [], ◌∷◌, ◌++◌, length, take, drop, get_or, refl, sym, ap, ◌∙◌, arith, add-one, drop-cons}
use Rattle.std.specs.Prelude.{ℤ, pos, position, Option, Some, Result, Ok}
use Rattle.std.specs.Ordering.{int_eq}
use Rattle.std.proofs.lemmas.List.{take_rest}
use Rattle.msh_read.specs.declared.fault.Fault.{Fault}
use Rattle.msh_read.specs.declared.fault.Fault.TheVariants.{Kind, NoMemory}
use Rattle.msh_read.specs.declared.fault.MshKind.{MshKind}
use Rattle.msh_read.specs.declared.fault.MshKind.TheVariants.{NoSuchNode}
use Rattle.msh_read.specs.steps.LineAnswers.{Fails}
use Rattle.msh_read.specs.ElementLines.{position_of, element_at, element_from}
use Rattle.msh_read.specs.Lines.{is_number, natural}
use Rattle.msh_read.specs.Trying.{each, or_fault}
use Rattle.msh_read.proofs.Each.{behind, each_on, each_stops}

-- a look-up of the number
pub looked_up : (known : List ℤ) (number u : ℤ) (found : Option ℕ) → u ≡ number → found ≡ position (int_eq u) known → position_of known number ≡ or_fault NoSuchNode found
looked_up known number u found same at =
    ap (λ z. or_fault NoSuchNode (position (int_eq z) known)) (sym same) ∙ ap (or_fault NoSuchNode) (sym at)

next : (xs : List ℤ) (i : ℕ) → i < length xs → drop i xs ≡ get_or xs i (pos 0) ∷ drop (i + 1) xs
next xs i h = rw (add-one, drop-cons xs i (pos 0)) refl

-- a step of a loop over numbers
pub walks_on : {B E : Type 0} (read : ℤ → Result B E) (front : List B) (xs : List ℤ) (i : ℕ) (y : B) (total : Result (List B) E) → i < length xs → read (get_or xs i (pos 0)) ≡ Ok y
    → behind front (each read (drop i xs)) ≡ total → behind (front ++ y ∷ []) (each read (drop (i + 1) xs)) ≡ total
walks_on read front xs i y total within ok so_far =
    each_on read front (get_or xs i (pos 0)) (drop (i + 1) xs) y total ok (ap (λ ys. behind front (each read ys)) (sym (next xs i within)) ∙ so_far)

-- the step at which it stops
pub walk_stops : {B : Type 0} (read : ℤ → Result B MshKind) (fault : Fault) (front : List B) (xs : List ℤ) (i : ℕ) (total : Result (List B) MshKind) → i < length xs → Fails fault (read (get_or xs i (pos 0)))
    → behind front (each read (drop i xs)) ≡ total → Fails fault total
walk_stops read NoMemory front xs i total within err so_far = tt
walk_stops read (Kind kind) front xs i total within err so_far =
    each_stops read front (get_or xs i (pos 0)) (drop (i + 1) xs) kind total err (ap (λ ys. behind front (each read ys)) (sym (next xs i within)) ∙ so_far)

-- three numbers or more
pub element_is : (known xs : List ℤ) (count : ℕ) → 3 ≤ length xs → is_number (get_or xs 0 (pos 0)) ≡ true → natural (get_or xs 2 (pos 0)) ≡ Some count
    → element_from known xs ≡ element_at known (get_or xs 1 (pos 0)) count (take (length xs - 3) (drop 3 xs))
element_is known [] count least number tags = absurd (omega arith)
element_is known (i ∷ []) count least number tags = absurd (omega arith)
element_is known (i ∷ k ∷ []) count least number tags = absurd (omega arith)
element_is known (i ∷ k ∷ t ∷ rest) count least number tags =
    rw (number, tags) (ap (element_at known k count) (sym (take_rest (i ∷ k ∷ t ∷ rest) 3)))
