-- What a depot means.
--     Held      its files, where it tells them; how many fetches and how many stores answered `Failed`;
--               and how many fetches answered `Absent` or `TooLong`
use Rattle.std.specs.Prelude.{ℕ, Option}
use Rattle.ma_io.specs.Files.{Files}

pub record Held : Type 0 where
  pub files : Option Files
  pub fetch_faults : ℕ
  pub store_faults : ℕ
  pub denied : ℕ
