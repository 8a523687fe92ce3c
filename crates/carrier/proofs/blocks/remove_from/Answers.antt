use Rattle.std.proofs.Common.{◌≡◌, ◌<◌, [], List, length, length-set, set, ap, ◌∙◌, arith, get_or-set_same}
use Rattle.std.specs.List.{remove}
use Rattle.std.proofs.lemmas.List.{get_or_read, nil_from_length}
use Rattle.carrier.specs.steps.Kept.{Kept, all_of}
use Rattle.carrier.proofs.Cutting.{dropped}
use Rattle.carrier.proofs.blocks.remove_from.Goals as goal

pub returns-then-len-eq0-clause-rest : goal.returns-then-len-eq0-clause-rest
returns-then-len-eq0-clause-rest c =
    let blocks = c.args.blocks.now.items in
    let n = c.args.number in
    let left = c.remove-waiting.new.self in
    let read = get_or_read blocks n c.index_mut-block.result.now c.requires.block c.index_mut-block.ensures.value [] in
    let same = c.remove-waiting.ensures.rest ∙ ap (λ (b : List Kept). remove b c.args.within) read in
    let empty : left ≡ [] = nil_from_length left (omega arith) in
    let within : n < length (set blocks n left) = omega (arith, c.requires.block, length-set {A = List Kept}) in
    ap all_of c.remove-empty.ensures.items
    ∙ dropped (set blocks n left) n within (get_or-set_same blocks n left [] c.requires.block ∙ empty)
    ∙ ap (λ (b : List Kept). all_of (set blocks n b)) same
