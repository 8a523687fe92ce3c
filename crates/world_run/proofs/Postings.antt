-- Letters that are posted one after the other.
use Rattle.std.proofs.Common.{◌≡◌, ◌+◌, ◌<◌, ◌≤◌, ◌∙◌, ℕ, List, [], ◌∷◌, ◌++◌, get_or, length, take, Option, Some, None, sym, ap, subst}
use Rattle.std.specs.Prelude.{IfSome, map}
use Rattle.std.specs.List.{AllByRecursion}
use Rattle.std.proofs.lemmas.List.{append-nil, append_assoc, map-append, take_all, take_more}
use Rattle.ma_cells.proofs.Choices.{all-append}
use Rattle.carrier.specs.Carried.{Letters}
use Rattle.letters.specs.Letters.{IsLetter, spelling}
use Rattle.letters.specs.declared.letter.Letter.{Letter}

-- that these letters wait behind those before, where a carrier tells which wait
abbrev pub Wait : Option Letters → List Letter → Option Letters → Type 0
Wait first sent now = IfSome first (λ held. (now ≡ Some (held ++ map spelling sent)) × AllByRecursion IsLetter sent)

pub none_more : (first : Option Letters) → Wait first [] first
none_more None = tt
none_more (Some held) = (ap Some (sym (append-nil held)), tt)

pub one_waits : (first now : Option Letters) (letter : Letter) (bytes : List ℕ) → bytes ≡ spelling letter → IsLetter letter → IfSome first (λ held. now ≡ Some (held ++ bytes ∷ [])) → Wait first (letter ∷ []) now
one_waits None now letter bytes is right posted = tt
one_waits (Some held) now letter bytes is right posted = (posted ∙ ap (λ b. Some (held ++ b ∷ [])) is, (right, tt))

pub one_more : (first mid now : Option Letters) (letters : List Letter) (i : ℕ) (letter : Letter) → i < length letters → letter ≡ get_or letters i letter → Wait first (take i letters) mid → Wait mid (letter ∷ []) now → Wait first (take (i + 1) letters) now
one_more None mid now letters i letter within is so_far next = tt
one_more (Some held) mid now letters i letter within is so_far next =
    let front : List Letter = take i letters in
    let one : Wait (Some (held ++ map spelling front)) (letter ∷ []) now = subst (λ m. Wait m (letter ∷ []) now) so_far.0 next in
    let more : take (i + 1) letters ≡ front ++ letter ∷ [] = take_more letters i letter within ∙ ap (λ (l : Letter). front ++ l ∷ []) (sym is) in
    let joined = append_assoc held (map spelling front) (spelling letter ∷ []) ∙ ap (λ l. held ++ l) (sym (map-append spelling front (letter ∷ []))) in
    subst (λ sent. Wait (Some held) sent now) (sym more) (one.0 ∙ ap Some joined, all-append IsLetter front (letter ∷ []) so_far.1 one.1)

pub all_wait : (first now : Option Letters) (letters : List Letter) (i : ℕ) → length letters ≤ i → Wait first (take i letters) now → Wait first letters now
all_wait first now letters i past so_far = subst (λ sent. Wait first sent now) (take_all i letters past) so_far
