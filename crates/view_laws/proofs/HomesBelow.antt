-- The home of a place is a part.
use Rattle.std.proofs.Common.{ℕ, ◌<◌, ◌≤◌, arith}
use Rattle.std.specs.Prelude.{ℤ, pos, negsuc, ◌+ℤ◌, ◌*ℤ◌, ◌^◌, int_div, unsigned_abs}
use Rattle.std.specs.Int.{int_rem_euclid}
use Rattle.std.proofs.lemmas.Nat.{mod_below}
use Rattle.ma_geom.specs.Coordinates.{Coordinates}
use Rattle.directory.specs.Homes.{home_of}

rest_below : (z : ℤ) (n : ℕ) → 0 < n → unsigned_abs (int_rem_euclid z (pos n)) < n
rest_below (pos a) n h = mod_below a n h
rest_below (negsuc a) n h = let within = mod_below a n h in omega arith

pub home_below : (j parts : ℕ) (x : Coordinates) → 1 ≤ parts → home_of j parts x < parts
unfolding home_of
home_below j parts x h = rest_below (int_div ((x.x +ℤ pos 3 *ℤ x.y) +ℤ pos 5 *ℤ x.z) (pos (2 ^ j))) parts h
