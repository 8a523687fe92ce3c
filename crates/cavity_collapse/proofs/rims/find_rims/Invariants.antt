use Rattle.std.proofs.Common.{◌≡◌, ◌++◌, drop}
use Rattle.std.specs.List.{flat_map}
use Rattle.cavity_collapse.specs.Rims.{rims_across, rims_of}
use Rattle.cavity_collapse.specs.Surfaces.{across}
use Rattle.cavity_collapse.proofs.rims.find_rims.Given as goal

-- the rims so far, and those of the marks that are left
abbrev pub invariant-loop-m : goal.invariant-loop-m
invariant-loop-m l = l.rims.items ++ flat_map (λ m. rims_across l.marks l.a m (across l.a m.cell)) (drop l.m-index l.marks) ≡ rims_of l.marks l.a
