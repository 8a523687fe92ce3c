-- What any exchange of two neighbours keeps of four places, each order of them keeps.
use Rattle.std.proofs.Common.{ℕ, zero, suc, ◌<◌, List, [], ◌∷◌, length, arith}
use Rattle.std.specs.List.{swap}
use Rattle.std.specs.List.Sorted.{IsPermutation}
use Rattle.std.proofs.lemmas.List.Sorted.{IsPermutation-keeps}
use Rattle.ma_geom.specs.Coordinates.{Coordinates}

-- P of four places
abbrev pub OfFour : (Coordinates → Coordinates → Coordinates → Coordinates → Type 0) → List Coordinates → Type 0
OfFour P (a ∷ b ∷ c ∷ d ∷ []) = P a b c d
OfFour P _ = ⊥

module _ (P : Coordinates → Coordinates → Coordinates → Coordinates → Type 0)
    (ab : (a b c d : Coordinates) → P a b c d → P b a c d)
    (bc : (a b c d : Coordinates) → P a b c d → P a c b d)
    (cd : (a b c d : Coordinates) → P a b c d → P a b d c) where
  ac : (a b c d : Coordinates) → P a b c d → P c b a d
  ac a b c d h = ab b c a d (bc b a c d (ab a b c d h))

  bd : (a b c d : Coordinates) → P a b c d → P a d c b
  bd a b c d h = bc a c d b (cd a c b d (bc a b c d h))

  ad : (a b c d : Coordinates) → P a b c d → P d b c a
  ad a b c d h = ab b d c a (bd b a c d (ab a b c d h))

  exchange_keeps : (l : List Coordinates) (i j : ℕ) → i < length l → j < length l → OfFour P l → OfFour P (swap l i j)
  exchange_keeps [] i j _ _ h = absurd h
  exchange_keeps (a ∷ []) i j _ _ h = absurd h
  exchange_keeps (a ∷ b ∷ []) i j _ _ h = absurd h
  exchange_keeps (a ∷ b ∷ c ∷ []) i j _ _ h = absurd h
  exchange_keeps (a ∷ b ∷ c ∷ d ∷ []) zero zero _ _ h = h
  exchange_keeps (a ∷ b ∷ c ∷ d ∷ []) zero (suc zero) _ _ h = ab a b c d h
  exchange_keeps (a ∷ b ∷ c ∷ d ∷ []) zero (suc (suc zero)) _ _ h = ac a b c d h
  exchange_keeps (a ∷ b ∷ c ∷ d ∷ []) zero (suc (suc (suc zero))) _ _ h = ad a b c d h
  exchange_keeps (a ∷ b ∷ c ∷ d ∷ []) zero (suc (suc (suc (suc k)))) _ below h = absurd (omega arith)
  exchange_keeps (a ∷ b ∷ c ∷ d ∷ []) (suc zero) zero _ _ h = ab a b c d h
  exchange_keeps (a ∷ b ∷ c ∷ d ∷ []) (suc zero) (suc zero) _ _ h = h
  exchange_keeps (a ∷ b ∷ c ∷ d ∷ []) (suc zero) (suc (suc zero)) _ _ h = bc a b c d h
  exchange_keeps (a ∷ b ∷ c ∷ d ∷ []) (suc zero) (suc (suc (suc zero))) _ _ h = bd a b c d h
  exchange_keeps (a ∷ b ∷ c ∷ d ∷ []) (suc zero) (suc (suc (suc (suc k)))) _ below h = absurd (omega arith)
  exchange_keeps (a ∷ b ∷ c ∷ d ∷ []) (suc (suc zero)) zero _ _ h = ac a b c d h
  exchange_keeps (a ∷ b ∷ c ∷ d ∷ []) (suc (suc zero)) (suc zero) _ _ h = bc a b c d h
  exchange_keeps (a ∷ b ∷ c ∷ d ∷ []) (suc (suc zero)) (suc (suc zero)) _ _ h = h
  exchange_keeps (a ∷ b ∷ c ∷ d ∷ []) (suc (suc zero)) (suc (suc (suc zero))) _ _ h = cd a b c d h
  exchange_keeps (a ∷ b ∷ c ∷ d ∷ []) (suc (suc zero)) (suc (suc (suc (suc k)))) _ below h = absurd (omega arith)
  exchange_keeps (a ∷ b ∷ c ∷ d ∷ []) (suc (suc (suc zero))) zero _ _ h = ad a b c d h
  exchange_keeps (a ∷ b ∷ c ∷ d ∷ []) (suc (suc (suc zero))) (suc zero) _ _ h = bd a b c d h
  exchange_keeps (a ∷ b ∷ c ∷ d ∷ []) (suc (suc (suc zero))) (suc (suc zero)) _ _ h = cd a b c d h
  exchange_keeps (a ∷ b ∷ c ∷ d ∷ []) (suc (suc (suc zero))) (suc (suc (suc zero))) _ _ h = h
  exchange_keeps (a ∷ b ∷ c ∷ d ∷ []) (suc (suc (suc zero))) (suc (suc (suc (suc k)))) _ below h = absurd (omega arith)
  exchange_keeps (a ∷ b ∷ c ∷ d ∷ []) (suc (suc (suc (suc k)))) j below _ h = absurd (omega arith)
  exchange_keeps (a ∷ b ∷ c ∷ d ∷ e ∷ l) i j _ _ h = absurd h

  pub in_any_order : (a b c d : Coordinates) (others : List Coordinates) → IsPermutation (a ∷ b ∷ c ∷ d ∷ []) others → P a b c d → OfFour P others
  in_any_order a b c d others moved h = IsPermutation-keeps (a ∷ b ∷ c ∷ d ∷ []) (OfFour P) h exchange_keeps others moved
