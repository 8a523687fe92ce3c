-- What a sink means.
--     Received      the bytes put so far, where it tells them; and how many puts answered `Failed`
use Rattle.std.specs.Prelude.{ℕ, List, Option}

pub record Received : Type 0 where
  pub written : Option (List ℕ)
  pub faults : ℕ
