use Rattle.std.proofs.Common.{◌≡◌, ◌++◌, ◌∙◌, false, ap, sym}
use Rattle.std.specs.List.{list_any}
use Rattle.std.proofs.lemmas.List.{append-nil}
use Rattle.cavity_swap.specs.Outer.{may_be_taken, outer_of, sees}
use Rattle.legal_moves.proofs.Near.{none_sees}
use Rattle.legal_moves.proofs.Taken.{to_none}
use Rattle.legal_moves.proofs.swaps.push_legal.Goals as goal

pub returns-then-not-some_sees : goal.returns-then-not-some_sees
returns-then-not-some_sees c =
    let none : list_any (sees (outer_of c.args.star.now)) c.args.apexes.now ≡ false
    = ap (λ outer. list_any (sees outer) c.args.apexes.now) (sym (c.as_slice.ensures.value ∙ c.in_ok-find_outer.ensures)) ∙ sym c.some_sees.ensures ∙ c.if-not-some_sees.true in
    sym (append-nil c.args.ops.now.items) ∙ ap (λ ops. c.args.ops.now.items ++ ops) (none_sees c.args.star.now c.args.marks.now c.args.at.now c.args.apexes.now none)

pub returns-then-not-may_be_taken : goal.returns-then-not-may_be_taken
returns-then-not-may_be_taken c =
    let none : may_be_taken c.args.star.now c.args.marks.now c.args.at.now ≡ false = sym c.may_be_taken.ensures ∙ c.if-not-may_be_taken.true in
    sym (append-nil c.args.ops.now.items) ∙ ap (λ ops. c.args.ops.now.items ++ ops) (to_none c.args.star.now c.args.marks.now c.args.at.now none c.args.apexes.now)
