-- The words of a line.
use Rattle.std.specs.Prelude.{ℕ, if◌then◌else◌, List, [], ◌∷◌, Option, Some, None, length, nat_lt, filter}
use Rattle.std.specs.List.{slice_split}
use Rattle.ma_text.specs.Blanks.{is_blank}

-- what stands between blanks, where it is anything
unfoldable pub words_of : List ℕ → List (List ℕ)
words_of bytes = filter (λ part. nat_lt 0 (length part)) (slice_split is_blank bytes)

-- what is left when the blanks in front are taken away
abbrev pub without_blanks : List ℕ → List ℕ
without_blanks [] = []
without_blanks (byte ∷ bytes) = if is_blank byte then without_blanks bytes else byte ∷ bytes

-- what stands in front of the first blank, and what begins there
abbrev pub before_blank : List ℕ → List ℕ
before_blank [] = []
before_blank (byte ∷ bytes) = if is_blank byte then [] else byte ∷ before_blank bytes

abbrev pub from_blank : List ℕ → List ℕ
from_blank [] = []
from_blank (byte ∷ bytes) = if is_blank byte then byte ∷ bytes else from_blank bytes

-- bytes without blanks in front, as their word and what stands right behind it
abbrev pub parted : List ℕ → Option (List ℕ × List ℕ)
parted [] = None
parted (byte ∷ bytes) = Some (before_blank (byte ∷ bytes), from_blank (byte ∷ bytes))

-- the first word, and what stands right behind it
unfoldable pub cut_word : List ℕ → Option (List ℕ × List ℕ)
cut_word bytes = parted (without_blanks bytes)
