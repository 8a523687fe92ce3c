use Rattle.std.proofs.Common.{◌≡◌, ◌++◌, map, take, drop, cond}
use Rattle.std.specs.Ordering.{eq_by_cmp}
use Rattle.ma_geom.specs.Coordinates.{place_cmp}
use Rattle.split_templates.proofs.pieces.replace_all.Given as goal

-- the corners so far are moved, and the others as they were
abbrev pub invariant-loop-place : goal.invariant-loop-place
invariant-loop-place l =
    l.places ≡ map (λ p. cond (eq_by_cmp place_cmp l.old p) l.new p) (take l.place-index l.fn.places) ++ drop l.place-index l.fn.places
