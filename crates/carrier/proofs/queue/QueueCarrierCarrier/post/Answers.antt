use Rattle.std.proofs.Common.{ℕ, ◌≡◌, ◌+◌, List, [], ◌∷◌, ◌++◌, length, ap, sym, subst, ◌∙◌}
use Rattle.std.proofs.lemmas.List.{length-append, length-map, map-append}
use Rattle.ma_io.specs.Count.{raised}
use Rattle.carrier.specs.Carried.{Letters}
use Rattle.carrier.specs.steps.Kept.{AreBelow, AreKept, Kept, bytes_of, letters_at, letters_of}
use Rattle.carrier.proofs.Keeping.{all_below, all_kept, letters_stay}
use Rattle.carrier.proofs.queue.QueueCarrierCarrier.post.Goals as goal

pub invariant_of-self-in-Ok : goal.invariant_of-self-in-Ok
invariant_of-self-in-Ok c =
    let inside = c.self.inside in
    let posted = bytes_of inside.posted.items in
    let x = c.args.bytes.items in
    let n = length inside.posted.items in
    let long : length posted ≡ n = simp length-map in
    let more : bytes_of c.keep.new.posted.items ≡ posted ++ x ∷ [] = c.in-Ok.ensures.posted in
    let same : length (bytes_of c.keep.new.posted.items) ≡ length c.keep.new.posted.items = simp length-map in
    let Kept_in : Letters → Type 0 = λ ps. AreKept ps c.keep.new.held in
    let Kept_of : List Kept → Type 0 = λ ks. AreKept (posted ++ x ∷ []) ks in
    let one_longer : length c.keep.new.posted.items ≡ n + 1 =
    sym same ∙ ap length more ∙ length-append posted (x ∷ []) ∙ ap (λ (k : ℕ). k + 1) long in
    let Below : ℕ → Type 0 = λ k. AreBelow k c.keep.new.given.items in
    let Below_of : List ℕ → Type 0 = λ ns. AreBelow (n + 1) ns in (
      subst Kept_in (sym more) (subst Kept_of (sym c.in-Ok.ensures.held) (all_kept posted x n (sym long) inside.held c.self.invariant.0)),
      subst Below (sym one_longer) (subst Below_of (sym c.keep.ensures.items) (all_below n inside.given.items c.self.invariant.1)),
      c.in-Ok.ensures.room,
    )

pub returns-in-Ok-clause-after : goal.returns-in-Ok-clause-after
returns-in-Ok-clause-after c =
    let inside = c.self.inside in
    let view = c.self.view_is in
    let posted = bytes_of inside.posted.items in
    let x = c.args.bytes.items in
    let long : length posted ≡ length inside.posted.items = simp length-map in
    let Below : ℕ → Type 0 = λ k. AreBelow k inside.given.items in
    let posted_is = c.in-Ok.ensures.posted ∙ ap (λ s. s.posted ++ x ∷ []) view in
    let held_is = ap letters_of c.in-Ok.ensures.held ∙ map-append (λ (k : Kept). k.bytes) inside.held _ ∙ ap (λ s. s.held ++ x ∷ []) view in
    let given_is = ap (λ (ps : Letters). letters_at ps c.keep.new.given.items) c.in-Ok.ensures.posted ∙ ap (letters_at (posted ++ x ∷ [])) c.keep.ensures.items
    ∙ letters_stay posted x inside.given.items (subst Below (sym long) c.self.invariant.1) ∙ ap (λ s. s.given) view in
    let posts_is = c.saturating_add-number.ensures ∙ ap (λ s. raised s.posts) view in
    λ i. record { posted = posted_is i; held = held_is i; given = given_is i; fail_posts = (view i).fail_posts; fail_takes = (view i).fail_takes; posts = posts_is i; takes = (view i).takes; faults = (view i).faults; dry = (view i).dry }
