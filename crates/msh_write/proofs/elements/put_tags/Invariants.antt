use Rattle.std.proofs.Common.{◌≡◌, ◌∷◌, ◌++◌, flat_map, take}
use Rattle.std.specs.Fmt.{signed_decimal}
use Rattle.msh_write.proofs.elements.put_tags.Given as goal

abbrev pub invariant-loop-tag : goal.invariant-loop-tag
invariant-loop-tag l =
    l.out.items ≡ l.fn.out.items ++ flat_map (λ tag. 32 ∷ signed_decimal tag) (take l.tag-index l.tags)
