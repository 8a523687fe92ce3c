use Rattle.std.proofs.Common.{◌≡◌, ◌==◌, ◌++◌, drop, filter}
use Rattle.directory.specs.Homes.{home_of}
use Rattle.directory.proofs.posts.places_for.Given as goal

-- those so far, and those of the places that are left
abbrev pub invariant-loop-place : goal.invariant-loop-place
invariant-loop-place l =
    l.kept.items ++ filter (λ x. home_of l.j l.parts x == l.target) (drop l.place-index l.place-items) ≡ filter (λ x. home_of l.j l.parts x == l.target) l.places
