-- Parts of which some have begun their next round.
use Rattle.std.proofs.Common.{◌≡◌, ◌+◌, ◌<◌, ◌≤◌, ℕ, zero, suc, List, [], ◌∷◌, ◌++◌, drop, get_or, length, set, take, Option, refl, sym, ap, subst, ◌∙◌, arith}
use Rattle.std.specs.Prelude.{map}
use Rattle.std.specs.Option.{option_or}
use Rattle.std.proofs.lemmas.Grind.{flat_map-append}
use Rattle.std.proofs.lemmas.List.{append-nil, append_assoc, map-append, take_all}
use Rattle.std.proofs.Math.Seq.{take-suc}
use Rattle.letters.specs.declared.letter.Letter.{Letter}
use Rattle.part_core.specs.Parts.{MayBegin, PartState, sent}
use Rattle.world_run.specs.Replay.{all_next, next_begun, next_outcome}
use Rattle.world_run.specs.declared.excess.Excess.{Excess}
use Rattle.world_run.specs.steps.Beginning.{MayAllBegin, Says, SaysAll, letters_next}
use Rattle.world_run.proofs.Beginnings.{says_more}

-- the first so many have begun it
abbrev pub partly : List PartState → ℕ → List PartState
partly parts i = all_next (take i parts) ++ drop i parts

pub partly-at : (parts : List PartState) (i : ℕ) (d : PartState) → get_or (partly parts i) i d ≡ get_or parts i d
partly-at [] zero d = refl
partly-at [] (suc i) d = refl
partly-at (x ∷ parts) zero d = refl
partly-at (x ∷ parts) (suc i) d = partly-at parts i d

partly-suc : (parts : List PartState) (i : ℕ) (d : PartState) → i < length parts → set (partly parts i) i (next_begun (get_or parts i d)) ≡ partly parts (suc i)
partly-suc [] i d within = absurd (omega (arith, within))
partly-suc (x ∷ parts) zero d within = refl
partly-suc (x ∷ parts) (suc i) d within = ap (λ rest. next_begun x ∷ rest) (partly-suc parts i d (omega (arith, within)))

pub partly-more : (parts : List PartState) (i : ℕ) (d new : PartState) → i < length parts → new ≡ next_begun (get_or parts i d) → set (partly parts i) i new ≡ partly parts (i + 1)
partly-more parts i d new within is =
    let next : suc i ≡ i + 1 = omega arith in
    ap (set (partly parts i) i) is ∙ partly-suc parts i d within ∙ ap (partly parts) next

pub partly-all : (parts : List PartState) (i : ℕ) → length parts ≤ i → partly parts i ≡ all_next parts
partly-all [] zero past = refl
partly-all [] (suc i) past = refl
partly-all (x ∷ parts) zero past = absurd (omega (arith, past))
partly-all (x ∷ parts) (suc i) past = ap (λ rest. next_begun x ∷ rest) (partly-all parts i (omega (arith, past)))

pub may-at : (parts : List PartState) (i : ℕ) (d : PartState) → MayAllBegin parts → i < length parts → MayBegin (get_or parts i d) (get_or parts i d).begun
may-at [] i d may within = absurd (omega (arith, within))
may-at (x ∷ parts) zero d may within = may.0
may-at (x ∷ parts) (suc i) d may within = may-at parts i d may.1 (omega (arith, within))

-- one more of them
take_more : (parts : List PartState) (i : ℕ) (d : PartState) → i < length parts → take (i + 1) parts ≡ take i parts ++ get_or parts i d ∷ []
take_more parts i d within = let next : suc i ≡ i + 1 = omega arith in ap (λ n. take n parts) (sym next) ∙ take-suc parts i d within

pub next_more : (parts : List PartState) (i : ℕ) (d : PartState) → i < length parts → all_next (take (i + 1) parts) ≡ all_next (take i parts) ++ next_begun (get_or parts i d) ∷ []
next_more parts i d within = ap all_next (take_more parts i d within) ∙ map-append next_begun (take i parts) (get_or parts i d ∷ [])

pub says_next : (parts : List PartState) (i : ℕ) (d new : PartState) (excess said : Option Excess) → i < length parts → new ≡ next_begun (get_or parts i d) → SaysAll (all_next (take i parts)) excess → Says new said
    → SaysAll (all_next (take (i + 1) parts)) (option_or excess said)
says_next parts i d new excess said within is so_far one =
    subst (λ ps. SaysAll ps (option_or excess said)) (ap (λ p. all_next (take i parts) ++ p ∷ []) is ∙ sym (next_more parts i d within)) (says_more (all_next (take i parts)) new excess said so_far one)

pub letters_more : (parts : List PartState) (i : ℕ) (d : PartState) (before out new : List Letter) → i < length parts → out ≡ before ++ letters_next (take i parts)
    → new ≡ out ++ map sent (next_outcome (get_or parts i d)).letters → new ≡ before ++ letters_next (take (i + 1) parts)
letters_more parts i d before out new within so_far is =
    let part = get_or parts i d in
    let letters_of : PartState → List Letter = λ p. map sent (next_outcome p).letters in
    is ∙ ap (λ ls. ls ++ letters_of part) so_far ∙ append_assoc before (letters_next (take i parts)) (letters_of part)
    ∙ ap (λ ls. before ++ ls) (sym (ap letters_next (take_more parts i d within) ∙ flat_map-append letters_of (take i parts) (part ∷ []) ∙ ap (λ l. letters_next (take i parts) ++ l) (append-nil (letters_of part))))

pub letters_all : (parts : List PartState) (i : ℕ) → length parts ≤ i → letters_next (take i parts) ≡ letters_next parts
letters_all parts i past = ap letters_next (take_all i parts past)

pub says_all : (parts : List PartState) (i : ℕ) (excess : Option Excess) → length parts ≤ i → SaysAll (all_next (take i parts)) excess → SaysAll (all_next parts) excess
says_all parts i excess past = subst (λ ps. SaysAll (all_next ps) excess) (take_all i parts past)
