-- Letters in blocks.
use Rattle.std.proofs.Common.{ℕ, zero, suc, ◌≡◌, ◌+◌, ◌<◌, List, [], ◌∷◌, ◌++◌, length, get_or, set, take, refl, sym, ap, ◌∙◌, append_assoc, append-nil, zero-add, length-append, arith}
use Rattle.std.specs.List.{remove}
use Rattle.std.proofs.lemmas.Grind.{flat_map-append}
use Rattle.std.proofs.lemmas.List.{take_more}
use Rattle.std.proofs.lemmas.List.Edits.{remove-append_left, remove-append_right}
use Rattle.carrier.specs.steps.Kept.{Kept, all_of}

-- a letter more in the last block
pub push_last : (blocks : List (List Kept)) (n : ℕ) (b b' : List Kept) (x : Kept) → n + 1 ≡ length blocks → b ≡ get_or blocks n b → b' ≡ b ++ x ∷ [] → all_of (set blocks n b') ≡ all_of blocks ++ x ∷ []
push_last [] n b b' x long is more = absurd (omega arith)
push_last (c ∷ []) zero b b' x long is more = append-nil b' ∙ more ∙ ap (λ bs. bs ++ x ∷ []) (is ∙ sym (append-nil c))
push_last (c ∷ []) (suc n) b b' x long is more = absurd (omega arith)
push_last (c ∷ d ∷ cs) zero b b' x long is more = absurd (omega arith)
push_last (c ∷ d ∷ cs) (suc n) b b' x long is more =
    ap (λ bs. c ++ bs) (push_last (d ∷ cs) n b b' x (omega arith) is more) ∙ sym (append_assoc c (all_of (d ∷ cs)) (x ∷ []))

-- a letter less in one block
pub removed : (blocks : List (List Kept)) (n k : ℕ) → n < length blocks → k < length (get_or blocks n [])
    → all_of (set blocks n (remove (get_or blocks n []) k)) ≡ remove (all_of blocks) (length (all_of (take n blocks)) + k)
removed [] n k within inside = absurd (omega arith)
removed (b ∷ bs) zero k within inside = sym (remove-append_left b (all_of bs) k inside) ∙ ap (remove (b ++ all_of bs)) (sym (zero-add k))
removed (b ∷ bs) (suc n) k within inside =
    let front = all_of (take n bs) in
    let at = length (b ++ front) + k in
    let long : length (b ++ front) ≡ length b + length front = length-append b front in
    ap (λ rest. b ++ rest) (removed bs n k (omega arith) inside)
    ∙ ap (λ i. b ++ remove (all_of bs) i) (omega arith)
    ∙ sym (remove-append_right b (all_of bs) (length b) at refl (omega arith))

-- without an empty block
pub dropped : (blocks : List (List Kept)) (n : ℕ) → n < length blocks → get_or blocks n [] ≡ [] → all_of (remove blocks n) ≡ all_of blocks
dropped [] n within empty = absurd (omega arith)
dropped (b ∷ bs) zero within empty = ap (λ c. c ++ all_of bs) (sym empty)
dropped (b ∷ bs) (suc n) within empty = ap (λ rest. b ++ rest) (dropped bs n (omega arith) empty)

-- the letters of one block more
pub one_more : (blocks : List (List Kept)) (n : ℕ) (b : List Kept) → n < length blocks → b ≡ get_or blocks n b → length (all_of (take (n + 1) blocks)) ≡ length (all_of (take n blocks)) + length b
one_more blocks n b within is =
    ap (λ bs. length (all_of bs)) (take_more blocks n b within ∙ ap (λ c. take n blocks ++ c ∷ []) (sym is))
    ∙ ap length (flat_map-append (λ c. c) (take n blocks) (b ∷ []) ∙ ap (λ c. all_of (take n blocks) ++ c) (append-nil b))
    ∙ length-append (all_of (take n blocks)) b
