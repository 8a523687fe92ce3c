-- Bytes put one after the other.
use Rattle.std.proofs.Common.{◌≡◌, ℕ, List, ◌++◌, ap, ◌∙◌, append_assoc}

pub two : (o a b m n : List ℕ) → m ≡ o ++ a → n ≡ m ++ b → n ≡ o ++ (a ++ b)
two o a b m n e f = f ∙ ap (λ (t : List ℕ). t ++ b) e ∙ append_assoc o a b

pub three : (o a b c l m n : List ℕ) → l ≡ o ++ a → m ≡ l ++ b → n ≡ m ++ c → n ≡ o ++ (a ++ (b ++ c))
three o a b c l m n e f g = two o a (b ++ c) l n e (two l b c m n f g)
