use Rattle.std.proofs.Common.{◌≡◌, ◌+◌, cond, [], ◌∷◌, Ok, sym, ap, ◌∙◌}
use Rattle.letters.specs.declared.letter.LetterKind.TheVariants as kinds
use Rattle.part_core.specs.Parts.{PartState}
use Rattle.part_core.specs.steps.Going.{standing_at}
use Rattle.part_gather.specs.Ordered.{after_orders}
use Rattle.round_rules.specs.Bodies.{deliveries_in}
use Rattle.round_rules.specs.Rounds.{is_kept, left_by}
use Rattle.round_rules.specs.Stages.{phase_kind}
use Rattle.part_core.proofs.part.Part.end_deliveries.Goals as goal

pub returns : goal.returns
returns c =
    let old = c.args.self.now in
    let s = old.standing in
    let new = c.take_deliveries.new.store in
    let turned = c.self.view_is ∙ c.turn-letters.ensures.leaves in
    let store : c.self.inside.store ≡ s.holds = ap (λ (p : PartState). p.standing.holds) turned in
    let kept : is_kept (phase_kind s.phase) ≡ is_kept kinds.Deliver = ap is_kept c.requires.kind in
    let filled : new ≡ after_orders c.self.inside.store c.in_ok-orders.orders.items (deliveries_in c.turn-letters.result) = c.in_ok-take_deliveries.ensures in (
      ap (λ k. left_by k s) c.requires.kind ∙ sym (ap Ok (filled ∙ (λ i. after_orders (store i) (c.in_ok-orders.ensures i) (deliveries_in (c.turn-letters.ensures.letters i))))),
      ap (λ (p : PartState). record { course = p.course; standing = record p.standing { holds = new }; begun = p.begun; spent = p.spent }) turned
          ∙ ap (λ b. standing_at old (record { me = s.me; round = s.round; phase = s.phase + 1; holds = new; now = s.early; early = []; kept = cond b (s.now ∷ s.kept) [] })) (sym kept),
    )
