-- Lines that are put together from pieces.
use Rattle.std.proofs.Common.{◌≡◌, ℕ, List, ◌++◌, append_assoc}

pub nine_pieces : (a n b t c p d w e : List ℕ) → (((((((a ++ n) ++ b) ++ t) ++ c) ++ p) ++ d) ++ w) ++ e ≡ a ++ (n ++ (b ++ (t ++ (c ++ (p ++ (d ++ (w ++ e)))))))
nine_pieces a n b t c p d w e = simp append_assoc
