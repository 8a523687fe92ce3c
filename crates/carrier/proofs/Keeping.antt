-- Letters that are kept by their numbers, as more are posted and as they are taken.
use Rattle.std.proofs.Common.{◌≡◌, ℕ, zero, suc, ◌+◌, ◌<◌, ◌%◌, List, [], ◌∷◌, ◌++◌, map, length, get_or, Some, refl, sym, ap, subst, ◌∙◌, mod-lt, arith}
use Rattle.std.specs.Prelude.{slice_get}
use Rattle.std.specs.List.{remove}
use Rattle.std.proofs.lemmas.List.{get_or_append_left, get_or_at, length-append, length-map, map-append}
use Rattle.carrier.specs.Carried.{Letters}
use Rattle.carrier.specs.Take.{place_of}
use Rattle.carrier.specs.steps.Kept.{AreBelow, AreKept, IsKept, Kept, letters_at, letters_of}

kept_on : (posted : Letters) (x : List ℕ) (k : Kept) → IsKept posted k → IsKept (posted ++ x ∷ []) k
kept_on posted x k is =
    let long = length-append posted (x ∷ []) in
    let within = is.0 in
    (omega arith, get_or_append_left posted (x ∷ []) [] k.number is.0 ∙ is.1)

kept_last : (posted : Letters) (x : List ℕ) (n : ℕ) → n ≡ length posted → IsKept (posted ++ x ∷ []) (record { number = n; bytes = x })
kept_last posted x n is =
    let long = length-append posted (x ∷ []) in
    (omega arith, get_or_at posted x [] [] n (sym is))

-- one more that is posted waits
pub all_kept : (posted : Letters) (x : List ℕ) (n : ℕ) → n ≡ length posted → (held : List Kept) → AreKept posted held → AreKept (posted ++ x ∷ []) (held ++ record { number = n; bytes = x } ∷ [])
all_kept posted x n is [] all = (kept_last posted x n is, tt)
all_kept posted x n is (k ∷ held) all = (kept_on posted x k all.0, all_kept posted x n is held all.1)

pub all_below : (bound : ℕ) (numbers : List ℕ) → AreBelow bound numbers → AreBelow (bound + 1) numbers
all_below bound [] all = tt
all_below bound (n ∷ ns) all = (let below = all.0 in omega arith, all_below bound ns all.1)

-- what was handed out stays
pub letters_stay : (posted : Letters) (x : List ℕ) (numbers : List ℕ) → AreBelow (length posted) numbers → letters_at (posted ++ x ∷ []) numbers ≡ letters_at posted numbers
letters_stay posted x [] all = refl
letters_stay posted x (n ∷ ns) all = λ i. get_or_append_left posted (x ∷ []) [] n all.0 i ∷ letters_stay posted x ns all.1 i

pub map-remove : {X Y : Type 0} (f : X → Y) (xs : List X) (k : ℕ) → map f (remove xs k) ≡ remove (map f xs) k
map-remove f [] zero = refl
map-remove f [] (suc k) = refl
map-remove f (x ∷ xs) zero = refl
map-remove f (x ∷ xs) (suc k) = ap (λ r. f x ∷ r) (map-remove f xs k)

pub slice_get-map : {X Y : Type 0} (f : X → Y) (xs : List X) (k : ℕ) (d : X) → k < length xs → slice_get (map f xs) k ≡ Some (f (get_or xs k d))
slice_get-map f [] k d l = absurd (omega arith)
slice_get-map f (x ∷ xs) zero d l = refl
slice_get-map f (x ∷ xs) (suc k) d l = slice_get-map f xs k d (omega arith)

kept_at : (posted : Letters) (held : List Kept) (i : ℕ) (d : Kept) → AreKept posted held → i < length held → IsKept posted (get_or held i d)
kept_at posted [] i d all within = absurd (omega arith)
kept_at posted (k ∷ held) zero d all within = all.0
kept_at posted (k ∷ held) (suc i) d all within = kept_at posted held i d all.1 (omega arith)

-- one more is handed out, of those that wait
pub hands_out : (posted : Letters) (held : List Kept) (given : List ℕ) (i : ℕ) (k : Kept) → AreKept posted held → i < length held → k ≡ get_or held i k → letters_at posted (given ++ k.number ∷ []) ≡ letters_at posted given ++ k.bytes ∷ []
hands_out posted held given i k all within is =
    let kept : IsKept posted k = subst (IsKept posted) (sym is) (kept_at posted held i k all within) in
    map-append (λ (n : ℕ). get_or posted n []) given (k.number ∷ []) ∙ ap (λ (letter : List ℕ). letters_at posted given ++ letter ∷ []) kept.1

-- the letters that a take by pick leaves, and the one that it hands out
pub letters_left : (held left : List Kept) (pick count : ℕ) → count ≡ length held → left ≡ remove held (pick % count) → letters_of left ≡ remove (letters_of held) (place_of pick (letters_of held))
letters_left held left pick count long is =
    let same : count ≡ length (letters_of held) = long ∙ sym (length-map held (λ (k : Kept). k.bytes)) in
    ap letters_of is ∙ map-remove (λ (k : Kept). k.bytes) held (pick % count) ∙ ap (λ (n : ℕ). remove (letters_of held) (pick % n)) same

pub letter_left : (held : List Kept) (k : Kept) (pick count : ℕ) → 0 < count → count ≡ length held → k ≡ get_or held (pick % count) k → slice_get (letters_of held) (place_of pick (letters_of held)) ≡ Some k.bytes
letter_left held k pick count some long is =
    let same : count ≡ length (letters_of held) = long ∙ sym (length-map held (λ (k : Kept). k.bytes)) in
    let within : pick % count < length held = omega (arith, mod-lt pick some) in
    ap (λ (n : ℕ). slice_get (letters_of held) (pick % n)) (sym same) ∙ slice_get-map (λ (k : Kept). k.bytes) held (pick % count) k within ∙ ap (λ (k : Kept). Some k.bytes) (sym is)
