-- The grammar of letters.
use Rattle.std.specs.Prelude.{◌≡◌, ℕ, ◌==◌, ◌++◌, true, length, List, [], Result, Ok, Err, if◌then◌else◌}
use Rattle.letters.specs.declared.fault.LetterFault.{LetterFault}
use Rattle.letters.specs.declared.fault.LetterFault.TheVariants.{Long, Memory}
use Rattle.letters.specs.declared.letter.Letter.{Letter}
use Rattle.letters.specs.Bodies.{body_of, kind, kind_of}
use Rattle.letters.specs.Grammar.{◌>>=◌, Grammar, chain, number, renamed, ◌then◌}

-- a letter: its kind, round, phase, sender and target, and what it carries
abbrev pub letter : Grammar Letter
letter =
    renamed (λ p. record { round = p.1.0; phase = p.1.1.0; sender = p.1.1.1.0; target = p.1.1.1.1.0; body = p.1.1.1.1.1 })
    (λ l. (kind_of l.body, (l.round, (l.phase, (l.sender, (l.target, l.body))))))
    (chain kind (λ k. number 4 then number 4 then number 1 then number 1 then body_of k))

-- that a letter has a spelling
abbrev pub IsLetter : Letter → Type 0
IsLetter l = letter.fits l ≡ true

abbrev pub spelling : Letter → List ℕ
spelling l = letter.spelling l

-- what bytes are read as, all of them: a letter, or the first fault
abbrev pub read : List ℕ → Result Letter LetterFault
read bytes = letter.reading (length bytes) bytes >>= λ l. if length l.1 == 0 then Ok l.0 else Err Long

-- what stands before the body of a letter
abbrev pub head_spelling : Letter → List ℕ
head_spelling l = kind.spelling (kind_of l.body) ++ ((number 4).spelling l.round ++ ((number 4).spelling l.phase ++ ((number 1).spelling l.sender ++ (number 1).spelling l.target)))

-- that what a function gave is what the bytes are read as, unless memory ran out
abbrev pub Fails : {Y : Type 0} → LetterFault → Result Y LetterFault → Type 0
Fails Memory reading = Unit {0}
Fails fault reading = reading ≡ Err fault

abbrev pub Gives : {X Y : Type 0} → (X → Y) → Result X LetterFault → Result Y LetterFault → Type 0
Gives view (Ok x) reading = reading ≡ Ok (view x)
Gives view (Err fault) reading = Fails fault reading

-- no spelling begins another
abbrev pub NoSpellingBeginsAnother : Type 0
NoSpellingBeginsAnother = (l m : Letter) (rest : List ℕ) → IsLetter l → IsLetter m → spelling m ≡ spelling l ++ rest → (rest ≡ []) × (m ≡ l)
