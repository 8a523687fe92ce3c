use Rattle.std.proofs.Common.{◌≡◌, drop}
use Rattle.part_store.specs.steps.Boxes.{with_all}
use Rattle.part_store.proofs.bounds.Bounds.with_all.Given as goal

-- the box so far, with the places that are left
abbrev pub invariant-loop-place : goal.invariant-loop-place
invariant-loop-place l = with_all l.bounds (drop l.place-index l.places) ≡ with_all l.fn.self l.places
