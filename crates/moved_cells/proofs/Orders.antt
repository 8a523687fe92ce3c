-- Cells with their corners in any order.
use Rattle.std.proofs.Common.{ℕ, zero, suc, ◌<◌, List, [], ◌∷◌, length, arith}
use Rattle.std.specs.List.{swap}
use Rattle.std.specs.List.Sorted.{IsPermutation}
use Rattle.std.proofs.lemmas.List.Sorted.{IsPermutation-keeps}
use Rattle.ma_geom.specs.Coordinates.{Coordinates}
use Rattle.ma_geom.specs.Rational.{Rational}
use Rattle.ma_cover.specs.Classification.{IsOnCell}
use Rattle.plane_laws.proofs.Lines.{on_segment_turned}
use Rattle.ma_cover.proofs.Halves.{on_exchanged, on_turned}

module _ (p : Rational) where
  ends_turned : (a b c : Coordinates) → IsOnCell p (a ∷ b ∷ c ∷ []) → IsOnCell p (c ∷ b ∷ a ∷ [])
  ends_turned a b c h = on_exchanged c b a p (on_turned b c a p (on_exchanged b a c p h))

  swapped : (l : List Coordinates) (i j : ℕ) → i < length l → j < length l → IsOnCell p l → IsOnCell p (swap l i j)
  swapped [] i j _ _ h = absurd h
  swapped (a ∷ []) zero zero _ _ h = h
  swapped (a ∷ []) zero (suc j) _ below h = absurd (omega arith)
  swapped (a ∷ []) (suc i) j below _ h = absurd (omega arith)
  swapped (a ∷ b ∷ []) zero zero _ _ h = h
  swapped (a ∷ b ∷ []) zero (suc zero) _ _ h = on_segment_turned p a b h
  swapped (a ∷ b ∷ []) zero (suc (suc j)) _ below h = absurd (omega arith)
  swapped (a ∷ b ∷ []) (suc zero) zero _ _ h = on_segment_turned p a b h
  swapped (a ∷ b ∷ []) (suc zero) (suc zero) _ _ h = h
  swapped (a ∷ b ∷ []) (suc zero) (suc (suc j)) _ below h = absurd (omega arith)
  swapped (a ∷ b ∷ []) (suc (suc i)) j below _ h = absurd (omega arith)
  swapped (a ∷ b ∷ c ∷ []) zero zero _ _ h = h
  swapped (a ∷ b ∷ c ∷ []) zero (suc zero) _ _ h = on_exchanged b a c p h
  swapped (a ∷ b ∷ c ∷ []) zero (suc (suc zero)) _ _ h = ends_turned a b c h
  swapped (a ∷ b ∷ c ∷ []) zero (suc (suc (suc j))) _ below h = absurd (omega arith)
  swapped (a ∷ b ∷ c ∷ []) (suc zero) zero _ _ h = on_exchanged b a c p h
  swapped (a ∷ b ∷ c ∷ []) (suc zero) (suc zero) _ _ h = h
  swapped (a ∷ b ∷ c ∷ []) (suc zero) (suc (suc zero)) _ _ h = on_turned a c b p h
  swapped (a ∷ b ∷ c ∷ []) (suc zero) (suc (suc (suc j))) _ below h = absurd (omega arith)
  swapped (a ∷ b ∷ c ∷ []) (suc (suc zero)) zero _ _ h = ends_turned a b c h
  swapped (a ∷ b ∷ c ∷ []) (suc (suc zero)) (suc zero) _ _ h = on_turned a c b p h
  swapped (a ∷ b ∷ c ∷ []) (suc (suc zero)) (suc (suc zero)) _ _ h = h
  swapped (a ∷ b ∷ c ∷ []) (suc (suc zero)) (suc (suc (suc j))) _ below h = absurd (omega arith)
  swapped (a ∷ b ∷ c ∷ []) (suc (suc (suc i))) j below _ h = absurd (omega arith)
  swapped (a ∷ b ∷ c ∷ d ∷ l) i j _ _ h = absurd h

  pub on_reordered : (xs ys : List Coordinates) → IsPermutation xs ys → IsOnCell p xs → IsOnCell p ys
  on_reordered xs ys moved h = IsPermutation-keeps xs (IsOnCell p) h swapped ys moved
