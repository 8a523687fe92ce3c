-- What holds of grammars.
use Rattle.std.specs.Prelude.{◌≡◌, ℕ, ◌++◌, ◌<◌, slice_index, true, List, Ok}
use Rattle.letters.specs.Grammar.{Grammar}

abbrev pub AreBytes : List ℕ → Type 0
AreBytes bytes = (i : ℕ) → slice_index bytes i < 256

-- that a grammar reads what it spells, and nothing else
pub record IsLawful {X : Type 0} (g : Grammar X) : Type 0 where
  pub read : (end : ℕ) (bytes : List ℕ) (x : X) (rest : List ℕ) → AreBytes bytes → g.reading end bytes ≡ Ok (x, rest) → (bytes ≡ g.spelling x ++ rest) × (g.fits x ≡ true)
  pub again : (end : ℕ) (x : X) (rest : List ℕ) → g.fits x ≡ true → g.reading end (g.spelling x ++ rest) ≡ Ok (x, rest)
