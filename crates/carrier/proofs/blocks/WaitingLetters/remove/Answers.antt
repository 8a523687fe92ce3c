use Rattle.std.proofs.Common.{ℕ, ◌≡◌, ◌-◌, ◌<◌, [], List, length, get_or, set, sym, ap, subst, ◌∙◌, arith}
use Rattle.std.specs.List.{remove}
use Rattle.std.proofs.lemmas.List.Concat.{get_or-flat_map}
use Rattle.std.proofs.lemmas.List.Edits.{length-remove}
use Rattle.carrier.specs.steps.Kept.{Kept, IsAt, all_of}
use Rattle.carrier.proofs.Cutting.{removed}
use Rattle.carrier.proofs.blocks.WaitingLetters.remove.Goals as goal

taken : (blocks new : List (List Kept)) (place n k : ℕ) → IsAt blocks place n k → all_of new ≡ all_of (set blocks n (remove (get_or blocks n []) k)) → all_of new ≡ remove (all_of blocks) place
taken blocks new place n k at rest = rest ∙ removed blocks n k at.0 at.1 ∙ ap (remove (all_of blocks)) (sym at.2)

letter_at : (blocks : List (List Kept)) (place n k : ℕ) (w : Kept) → IsAt blocks place n k → w ≡ get_or (get_or blocks n []) k w → w ≡ get_or (all_of blocks) place w
letter_at blocks place n k w at is = is ∙ sym (get_or-flat_map (λ b. b) blocks n k [] w at.0 at.1) ∙ ap (λ (i : ℕ). get_or (all_of blocks) i w) (sym at.2)

one_less : (letters left : List Kept) (place count : ℕ) → place < length letters → left ≡ remove letters place → count ≡ length letters → count - 1 ≡ length left
one_less letters left place count within is same = omega (arith, length-remove letters place within, ap length is)

pub invariant_of-self : goal.invariant_of-self
invariant_of-self c =
    let blocks = c.self.inside.blocks.items in
    let At : List (List Kept) → Type 0 = λ bs. IsAt bs c.args.place c.find-number.result.0 c.find-number.result.1 in
    let at = subst At c.deref.ensures.value c.find-number.ensures in
    let left = taken blocks c.remove_from-waiting.new.blocks.items c.args.place c.find-number.result.0 c.find-number.result.1 at c.remove_from-waiting.ensures.rest in
    one_less (all_of blocks) (all_of c.remove_from-waiting.new.blocks.items) c.args.place c.self.inside.count (omega (arith, ap length c.self.view_is, c.requires)) left c.self.invariant

pub returns-clause-letter : goal.returns-clause-letter
returns-clause-letter c =
    let At : List (List Kept) → Type 0 = λ blocks. IsAt blocks c.args.place c.find-number.result.0 c.find-number.result.1 in
    let at = subst At c.deref.ensures.value c.find-number.ensures in
    letter_at c.self.inside.blocks.items c.args.place c.find-number.result.0 c.find-number.result.1 c.remove_from-waiting.result at c.remove_from-waiting.ensures.letter
    ∙ ap (λ (all : List Kept). get_or all c.args.place c.remove_from-waiting.result) c.self.view_is

pub returns-clause-rest : goal.returns-clause-rest
returns-clause-rest c =
    let At : List (List Kept) → Type 0 = λ blocks. IsAt blocks c.args.place c.find-number.result.0 c.find-number.result.1 in
    let at = subst At c.deref.ensures.value c.find-number.ensures in
    taken c.self.inside.blocks.items c.remove_from-waiting.new.blocks.items c.args.place c.find-number.result.0 c.find-number.result.1 at c.remove_from-waiting.ensures.rest
    ∙ ap (λ (all : List Kept). remove all c.args.place) c.self.view_is
