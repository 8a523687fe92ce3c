use Rattle.std.proofs.Common.{ℕ, ◌≡◌, ◌<◌, ◌%◌, List, [], ◌∷◌, ◌++◌, length, Some, ap, sym, subst, ◌∙◌, mod-lt, arith}
use Rattle.std.specs.Prelude.{slice_get}
use Rattle.std.specs.List.{remove}
use Rattle.std.proofs.lemmas.List.{length-map}
use Rattle.ma_io.specs.Count.{raised}
use Rattle.carrier.specs.Carried.{Letters}
use Rattle.carrier.specs.Take.{place_of}
use Rattle.carrier.specs.steps.Kept.{bytes_of, letters_at}
use Rattle.carrier.proofs.Keeping.{hands_out, letter_left, letters_left}
use Rattle.carrier.proofs.queue.QueueCarrierCarrier.take.Goals as goal

pub returns-clause-after : goal.returns-clause-after
returns-clause-after c =
    let inside = c.self.inside in
    let view = c.self.view_is in
    let count = c.len-waiting.result in
    let some : 0 < count = omega arith in
    let within : c.args.pick % count < length inside.held = omega (arith, mod-lt c.args.pick some) in
    let held_is = letters_left inside.held c.remove-letter.new.self c.args.pick count c.len-waiting.ensures c.remove-letter.ensures.rest ∙ ap (λ s. remove s.held (place_of c.args.pick s.held)) view in
    let given_is = ap (letters_at (bytes_of inside.posted.items)) c.put_last.ensures.items
    ∙ ap (λ (n : ℕ). letters_at (bytes_of inside.posted.items) (inside.given.items ++ n ∷ [])) c.into_parts-number.ensures.number
    ∙ hands_out (bytes_of inside.posted.items) inside.held inside.given.items (c.args.pick % count) c.remove-letter.result c.self.invariant.0 within c.remove-letter.ensures.letter
    ∙ ap (λ (b : List ℕ). letters_at (bytes_of inside.posted.items) inside.given.items ++ b ∷ []) (sym c.into_parts-number.ensures.bytes)
    ∙ ap (λ s. s.given ++ c.into_parts-number.result.1.items ∷ []) view in
    let takes_is = c.saturating_add-number.ensures ∙ ap (λ s. raised s.takes) view in
    λ i. record { posted = (view i).posted; held = held_is i; given = given_is i; fail_posts = (view i).fail_posts; fail_takes = (view i).fail_takes; posts = (view i).posts; takes = takes_is i; faults = (view i).faults; dry = (view i).dry }

pub returns-clause-held : goal.returns-clause-held
returns-clause-held c =
    let inside = c.self.inside in
    let view = c.self.view_is in
    let count = c.len-waiting.result in
    let some : 0 < count = omega arith in
    let Some_wait : Letters → Type 0 = λ held. 0 < length held in
    let Handed : Letters → Type 0 = λ held. slice_get held (place_of c.args.pick held) ≡ Some c.into_parts-number.result.1.items in
    let held_is = letters_left inside.held c.remove-letter.new.self c.args.pick count c.len-waiting.ensures c.remove-letter.ensures.rest ∙ ap (λ s. remove s.held (place_of c.args.pick s.held)) view in (
      subst Some_wait (ap (λ s. s.held) view) (simp length-map (omega arith)),
      subst Handed (ap (λ s. s.held) view) (letter_left inside.held c.remove-letter.result c.args.pick count some c.len-waiting.ensures c.remove-letter.ensures.letter ∙ ap Some (sym c.into_parts-number.ensures.bytes)),
      ap Some held_is,
    )
