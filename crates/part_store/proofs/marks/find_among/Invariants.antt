use Rattle.std.proofs.Common.{◌≡◌, ◌++◌, drop, filter}
use Rattle.ma_geom.specs.Coordinates.{place_cmp}
use Rattle.ma_cells.specs.Ascending.{has}
use Rattle.part_store.proofs.marks.find_among.Given as goal

-- those so far, and those of the places that are left
abbrev pub invariant-loop-place : goal.invariant-loop-place
invariant-loop-place l = l.near.items ++ filter (λ place. has place_cmp place l.others) (drop l.place-index l.places) ≡ filter (λ place. has place_cmp place l.others) l.places
