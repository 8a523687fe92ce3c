use Rattle.std.proofs.Common.{◌≡◌, ◌++◌}
use Rattle.std.specs.List.{flat_map}
use Rattle.part_rules.specs.Bodies.{replies_in}
use Rattle.part_core.proofs.ends.take_replies.Given as goal

-- those so far, and what is left of the others
abbrev pub invariant-loop-sender : goal.invariant-loop-sender
invariant-loop-sender l =
    (l.shared.items ++ flat_map (λ entry. entry.1.shared) (replies_in l.sender-iterator) ≡ flat_map (λ entry. entry.1.shared) (replies_in l.fn.replies))
    × (l.marks.items ++ flat_map (λ entry. entry.1.marks) (replies_in l.sender-iterator) ≡ flat_map (λ entry. entry.1.marks) (replies_in l.fn.replies))
