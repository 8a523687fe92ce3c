use Rattle.std.proofs.Common.{◌≡◌, ◌+◌, ◌++◌, ◌∷◌, length, map, take}
use Rattle.std.specs.Prelude.{pos}
use Rattle.msh_write.proofs.part.add_residents.Given as goal

abbrev pub invariant-loop-part : goal.invariant-loop-part
invariant-loop-part l =
    l.tags.items ≡ l.fn.tags.items ++ (pos (length l.parts) ∷ map (λ part. pos (part + 1)) (take l.part-index l.parts))
