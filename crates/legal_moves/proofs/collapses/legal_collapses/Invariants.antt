use Rattle.std.proofs.Common.{◌≡◌, [], ◌∷◌, ◌++◌, drop}
use Rattle.std.specs.List.{flat_map}
use Rattle.legal_moves.specs.Around.{legal_around}
use Rattle.legal_moves.proofs.collapses.legal_collapses.Given as goal

-- the collapses so far, and those of the vertices that are left
abbrev pub invariant-loop-a : goal.invariant-loop-a
invariant-loop-a l =
    l.ops.items ++ flat_map (λ a. legal_around l.field l.mesh (a ∷ [])) (drop l.a-index l.places) ≡ flat_map (λ a. legal_around l.field l.mesh (a ∷ [])) l.places
