use Rattle.std.proofs.Common.{rules, ◌≡◌, ◌<◌, ◌∙◌, false, get_or, length, Some, refl, subst, sym, arith}
use Rattle.std.proofs.lemmas.Option.{same_Some, slice_get-get_or, slice_get_read}
use Rattle.world_run.specs.Replay.{is_done, letter_in}
use Rattle.world_run.proofs.Handings.{hands}
use Rattle.world_run.proofs.Outgoing.{hands_out}
use Rattle.world_run.proofs.handing.hand.Goals as goal

pub returns-clause-hands : goal.returns-clause-hands
returns-clause-hands c =
    let parts = c.args.parts.now in
    let letter = c.in-Ok-Some.letter in
    let is : Some letter ≡ letter_in c.args.bytes.now = search rules in
    let within : letter.target < length parts = omega arith in
    let first = c.index-parts-target.result in
    let second = get_or parts letter.target c.index-parts-target-2.result in
    let there = slice_get-get_or parts letter.target c.index-parts-target-2.result within in
    let same = same_Some first second (sym (slice_get_read parts (length parts) letter.target first refl within c.index-parts-target.is) ∙ there) in
    let waits : is_done first ≡ false = search rules in
    let still : is_done second ≡ false = subst (λ p. is_done p ≡ false) same waits in
    hands parts c.args.bytes.now letter (sym is) second there still c.give.result c.give.new.part c.requires c.give.ensures.gives

pub returns-clause-out : goal.returns-clause-out
returns-clause-out c =
    let parts = c.args.parts.now in
    let letter = c.in-Ok-Some.letter in
    let is : Some letter ≡ letter_in c.args.bytes.now = search rules in
    let within : letter.target < length parts = omega arith in
    let first = c.index-parts-target.result in
    let second = get_or parts letter.target c.index-parts-target-2.result in
    let there = slice_get-get_or parts letter.target c.index-parts-target-2.result within in
    let same = same_Some first second (sym (slice_get_read parts (length parts) letter.target first refl within c.index-parts-target.is) ∙ there) in
    let waits : is_done first ≡ false = search rules in
    let still : is_done second ≡ false = subst (λ p. is_done p ≡ false) same waits in
    hands_out parts c.args.bytes.now letter (sym is) second there still c.give.result c.args.out.now.items c.give.new.out.items c.give.ensures.out
