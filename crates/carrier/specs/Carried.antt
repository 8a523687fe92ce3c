-- What a carrier means.
--     Letters      letters in the order in which something was done with them
--     Carried      the letters posted, those that wait and those handed out, each where it tells it;
--                  how many posts and takes answered `Failed`, and how many takes answered `None`
use Rattle.std.specs.Prelude.{ℕ, List, Option}

abbrev pub Letters : Type 0
Letters = List (List ℕ)

pub record Carried : Type 0 where
  pub posted : Option Letters
  pub held : Option Letters
  pub given : Option Letters
  pub faults : ℕ
  pub dry : ℕ
