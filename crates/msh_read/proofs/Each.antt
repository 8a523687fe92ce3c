-- Reading the items of a list one after the other, as a loop does.
use Rattle.std.proofs.Common.{◌≡◌, List, [], ◌∷◌, ◌++◌, refl, sym, ap, ◌∙◌, append_assoc}
use Rattle.std.specs.Prelude.{Result, Ok, Err}
use Rattle.msh_read.specs.Trying.{◌>>=◌, each}

-- what was read before, and what is still read
abbrev pub behind : {A E : Type 0} → List A → Result (List A) E → Result (List A) E
behind front read = read >>= λ xs. Ok (front ++ xs)

regroup : {A E : Type 0} (front : List A) (y : A) (read : Result (List A) E) → behind front (read >>= λ ys. Ok (y ∷ ys)) ≡ behind (front ++ y ∷ []) read
regroup front y (Err e) = refl
regroup front y (Ok ys) = ap (λ zs. Ok zs) (sym (append_assoc front (y ∷ []) ys))

nothing_before : {A E : Type 0} (read : Result (List A) E) → behind [] read ≡ read
nothing_before (Err e) = refl
nothing_before (Ok xs) = refl

pub each_on : {A B E : Type 0} (read : A → Result B E) (front : List B) (x : A) (xs : List A) (y : B) (total : Result (List B) E) → read x ≡ Ok y → behind front (each read (x ∷ xs)) ≡ total
    → behind (front ++ y ∷ []) (each read xs) ≡ total
each_on read front x xs y total ok so_far =
    sym (regroup front y (each read xs)) ∙ ap (λ o. behind front (o >>= λ first. each read xs >>= λ others. Ok (first ∷ others))) (sym ok) ∙ so_far

pub each_stops : {A B E : Type 0} (read : A → Result B E) (front : List B) (x : A) (xs : List A) (e : E) (total : Result (List B) E) → read x ≡ Err e → behind front (each read (x ∷ xs)) ≡ total → total ≡ Err e
each_stops read front x xs e total err so_far =
    sym so_far ∙ ap (λ o. behind front (o >>= λ first. each read xs >>= λ others. Ok (first ∷ others))) err

pub each_starts : {A B E : Type 0} (read : A → Result B E) (front : List B) (xs : List A) → front ≡ [] → behind front (each read xs) ≡ each read xs
each_starts read front xs none = ap (λ ys. behind ys (each read xs)) none ∙ nothing_before (each read xs)
