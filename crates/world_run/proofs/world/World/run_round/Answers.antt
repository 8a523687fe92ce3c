use Rattle.std.proofs.Common.{rules, ◌≡◌, ◌+◌, ◌<◌, ◌^◌, ◌∙◌, true, false, List, length, ap, subst, sym, Ok}
use Rattle.std.specs.Vec.{with_items}
use Rattle.std.proofs.lemmas.List.{with_items_is}
use Rattle.std.proofs.lemmas.Result.{err_from_is_err_and}
use Rattle.part_core.specs.Parts.{PartState}
use Rattle.staged_meshes.specs.Laws.{plan_of}
use Rattle.staged_meshes.specs.Staged.{carried_at, opened}
use Rattle.world_run.specs.Drawn.{used}
use Rattle.world_run.specs.Replay.{all_done, all_next}
use Rattle.world_run.specs.Rounds.{AreBetween, AreDone}
use Rattle.world_run.specs.Told.{WorldState}
use Rattle.world_run.specs.steps.Beginning.{AreKept, AreUnspent, MayAllBegin, owed_all, letters_next}
use Rattle.world_run.proofs.Between.{between_next, few_owed, may_all, sum_fits}
use Rattle.world_run.proofs.DoneRounds.{next-of, owed_next-done}
use Rattle.world_run.proofs.FromRounds.{begin_next_on, first}
use Rattle.world_run.proofs.Worlds.{drawn_err, drawn_ok, ends_err, ends_ok, told_err, told_ok}
use Rattle.world_run.specs.steps.Tracking.{RunTracks}
use Rattle.world_run.proofs.Begun.{is_drawn}
use Rattle.world_run.proofs.world.World.run_round.Goals as goal

pub run_next-requires-clause-may : goal.run_next-requires-clause-may
run_next-requires-clause-may g c =
    let world = c.args.self.now in
    let between : AreBetween world = subst AreBetween c.self.view_is (c.self.invariant (ap (λ w. w.spent) c.self.view_is ∙ c.requires.may.unspent)) in
    let parts = c.as_mut_slice.result.now in
    let is : parts ≡ world.parts = c.as_mut_slice.ensures.value ∙ ap (λ w. w.parts) c.self.view_is in
    subst MayAllBegin (sym is) (may_all world between c.requires.may.finer)

pub run_next-requires-clause-few : goal.run_next-requires-clause-few
run_next-requires-clause-few g c =
    let world = c.args.self.now in
    let between : AreBetween world = subst AreBetween c.self.view_is (c.self.invariant (ap (λ w. w.spent) c.self.view_is ∙ c.requires.may.unspent)) in
    let parts = c.as_mut_slice.result.now in
    let is : parts ≡ world.parts = c.as_mut_slice.ensures.value ∙ ap (λ w. w.parts) c.self.view_is in
    subst (λ ps. owed_all (all_next ps) < 2 ^ 64) (sym is) (few_owed world between)

pub overflow_add-self : goal.overflow_add-self
overflow_add-self g c =
    let world = c.args.self.now in
    let between : AreBetween world = subst AreBetween c.self.view_is (c.self.invariant (ap (λ w. w.spent) c.self.view_is ∙ c.requires.may.unspent)) in
    let parts = c.as_mut_slice.result.now in
    let is : parts ≡ world.parts = c.as_mut_slice.ensures.value ∙ ap (λ w. w.parts) c.self.view_is in
    let letters = c.in_ok-letters.letters in
    let owed : letters ≡ owed_all (all_next world.parts) = c.in_ok-letters.ensures.letters ∙ ap (λ ps. owed_all (all_next ps)) is in
    let fits : c.self.inside.letters + letters < 2 ^ 64 = subst (λ n. n + letters < 2 ^ 64) (sym (ap (λ w. w.letters) c.self.view_is)) (sum_fits world between c.requires.may.finer letters owed) in
    search (rules, fits)

pub invariant_of-self-2 : goal.invariant_of-self-2
invariant_of-self-2 g c _ =
    let world = c.args.self.now in
    let between : AreBetween world = subst AreBetween c.self.view_is (c.self.invariant (ap (λ w. w.spent) c.self.view_is ∙ c.requires.may.unspent)) in
    let parts = c.as_mut_slice.result.now in
    let is : parts ≡ world.parts = c.as_mut_slice.ensures.value ∙ ap (λ w. w.parts) c.self.view_is in
    let new = c.run_next.new.parts in
    let all : List PartState = (with_items c.self.inside.parts new).items in
    let as_long : length new ≡ c.self.inside.parts.len = search rules in
    let kept : all ≡ new = with_items_is c.self.inside.parts new as_long in
    let letters = c.in_ok-letters.letters in
    let next : WorldState = record { parts = all; letters = c.self.inside.letters + letters; spent = false } in
    let all_letters : next.letters ≡ world.letters + letters = ap (λ w. w.letters + letters) c.self.view_is in
    let owed : letters ≡ owed_all (all_next world.parts) = c.in_ok-letters.ensures.letters ∙ ap (λ ps. owed_all (all_next ps)) is in
    let keeps = subst (λ ps. AreKept (all_next world.parts) ps) (sym kept) (subst (λ ps. AreKept (all_next ps) new) is c.in_ok-letters.ensures.kept) in
    let done = subst (λ ps. all_done ps ≡ true) (sym kept) c.in_ok-letters.ensures.done in
    let unspent = subst AreUnspent (sym kept) c.in_ok-letters.ensures.unspent in
    between_next world between c.requires.may.finer letters owed next keeps done unspent all_letters

pub returns-clause-told : goal.returns-clause-told
returns-clause-told g c =
    let world = c.args.self.now in
    let parts = c.as_mut_slice.result.now in
    let is : parts ≡ world.parts = c.as_mut_slice.ensures.value ∙ ap (λ w. w.parts) c.self.view_is in
    let new = c.run_next.new.parts in
    let all : List PartState = (with_items c.self.inside.parts new).items in
    let as_long : length new ≡ c.self.inside.parts.len = search rules in
    let kept : all ≡ new = with_items_is c.self.inside.parts new as_long in
    let letters = c.in_ok-letters.letters in
    let next : WorldState = record { parts = all; letters = c.self.inside.letters + letters; spent = false } in
    let all_letters : next.letters ≡ world.letters + letters = ap (λ w. w.letters + letters) c.self.view_is in
    let old = g.C.Carrier.carried c.args.carrier.now in
    let now = g.C.Carrier.carried c.run_next.new.carrier in
    told_ok world.parts parts new is world.letters old.given now.given letters c.in_ok-letters.ensures.told next kept all_letters

pub returns-in_err-letters-clause-told : goal.returns-in_err-letters-clause-told
returns-in_err-letters-clause-told g c =
    let world = c.args.self.now in
    let parts = c.as_mut_slice.result.now in
    let is : parts ≡ world.parts = c.as_mut_slice.ensures.value ∙ ap (λ w. w.parts) c.self.view_is in
    let new = c.run_next.new.parts in
    let old = g.C.Carrier.carried c.args.carrier.now in
    let now = g.C.Carrier.carried c.run_next.new.carrier in
    let p = err_from_is_err_and c.from_residual.result c.from_residual.ensures.1 in
    rw (p.1, p.2) (told_err world.parts parts new is world.letters old.given now.given c.in_err-letters.field-0.0 c.in_err-letters.ensures.told)

pub returns-clause-drawn : goal.returns-clause-drawn
returns-clause-drawn g c before held given course mesh round whole once have =
    let world = c.args.self.now in
    let parts = c.as_mut_slice.result.now in
    let is : parts ≡ world.parts = c.as_mut_slice.ensures.value ∙ ap (λ w. w.parts) c.self.view_is in
    let new = c.run_next.new.parts in
    let all : List PartState = (with_items c.self.inside.parts new).items in
    let as_long : length new ≡ c.self.inside.parts.len = search rules in
    let kept : all ≡ new = with_items_is c.self.inside.parts new as_long in
    let letters = c.in_ok-letters.letters in
    let next : WorldState = record { parts = all; letters = c.self.inside.letters + letters; spent = false } in
    let all_letters : next.letters ≡ world.letters + letters = ap (λ w. w.letters + letters) c.self.view_is in
    let old = g.C.Carrier.carried c.args.carrier.now in
    let now = g.C.Carrier.carried c.run_next.new.carrier in
    let on = begin_next_on course mesh round world.parts whole once have c.requires.may.finer in
    let default = first course mesh round world.parts whole once have in
    drawn_ok course (opened (plan_of course) mesh (round + 1)) (carried_at (plan_of course) mesh (round + 1)) (round + 1) default world.parts on parts new is old now
    c.args.schedule.now world.letters before held given letters c.in_ok-letters.ensures.drawn c.in_ok-letters.ensures.told c.in_ok-letters.ensures.kept next kept all_letters

pub returns-in_err-letters-clause-drawn : goal.returns-in_err-letters-clause-drawn
returns-in_err-letters-clause-drawn g c before held given course mesh round whole once have =
    let world = c.args.self.now in
    let parts = c.as_mut_slice.result.now in
    let is : parts ≡ world.parts = c.as_mut_slice.ensures.value ∙ ap (λ w. w.parts) c.self.view_is in
    let new = c.run_next.new.parts in
    let old = g.C.Carrier.carried c.args.carrier.now in
    let now = g.C.Carrier.carried c.run_next.new.carrier in
    let p = err_from_is_err_and c.from_residual.result c.from_residual.ensures.1 in
    let on = begin_next_on course mesh round world.parts whole once have c.requires.may.finer in
    let default = first course mesh round world.parts whole once have in
    rw (p.1, p.2)
    (drawn_err course (opened (plan_of course) mesh (round + 1)) (carried_at (plan_of course) mesh (round + 1)) (round + 1) default world.parts on parts new is old now
    c.args.schedule.now world.letters before held given c.in_err-letters.field-0.0 c.in_err-letters.ensures.drawn)

pub returns-clause-alone : goal.returns-clause-alone
returns-clause-alone g c course mesh round one whole once have =
    let world = c.args.self.now in
    let parts = c.as_mut_slice.result.now in
    let is : parts ≡ world.parts = c.as_mut_slice.ensures.value ∙ ap (λ w. w.parts) c.self.view_is in
    let new = c.run_next.new.parts in
    let all : List PartState = (with_items c.self.inside.parts new).items in
    let as_long : length new ≡ c.self.inside.parts.len = search rules in
    let kept : all ≡ new = with_items_is c.self.inside.parts new as_long in
    let letters = c.in_ok-letters.letters in
    let next : WorldState = record { parts = all; letters = c.self.inside.letters + letters; spent = false } in
    let all_letters : next.letters ≡ world.letters + letters = ap (λ w. w.letters + letters) c.self.view_is in
    let old = g.C.Carrier.carried c.args.carrier.now in
    let now = g.C.Carrier.carried c.run_next.new.carrier in
    let on = begin_next_on course mesh round world.parts whole once have c.requires.may.finer in
    let default = first course mesh round world.parts whole once have in
    ends_ok course (opened (plan_of course) mesh (round + 1)) (carried_at (plan_of course) mesh (round + 1)) (round + 1) default world.parts on parts new is old now
    one letters c.in_ok-letters.ensures.alone next kept

pub returns-in_err-letters-clause-alone : goal.returns-in_err-letters-clause-alone
returns-in_err-letters-clause-alone g c course mesh round one whole once have =
    let world = c.args.self.now in
    let parts = c.as_mut_slice.result.now in
    let is : parts ≡ world.parts = c.as_mut_slice.ensures.value ∙ ap (λ w. w.parts) c.self.view_is in
    let new = c.run_next.new.parts in
    let old = g.C.Carrier.carried c.args.carrier.now in
    let now = g.C.Carrier.carried c.run_next.new.carrier in
    let p = err_from_is_err_and c.from_residual.result c.from_residual.ensures.1 in
    let on = begin_next_on course mesh round world.parts whole once have c.requires.may.finer in
    let default = first course mesh round world.parts whole once have in
    rw (p.1, p.2)
    (ends_err course (opened (plan_of course) mesh (round + 1)) (carried_at (plan_of course) mesh (round + 1)) (round + 1) default world.parts on parts new is old now
    one c.in_err-letters.field-0.0 c.in_err-letters.ensures.alone)

pub returns-clause-done : goal.returns-clause-done
returns-clause-done g c course rounds are =
    let world = c.args.self.now in
    let parts = c.as_mut_slice.result.now in
    let is : parts ≡ world.parts = c.as_mut_slice.ensures.value ∙ ap (λ w. w.parts) c.self.view_is in
    let new = c.run_next.new.parts in
    let all : List PartState = (with_items c.self.inside.parts new).items in
    let as_long : length new ≡ c.self.inside.parts.len = search rules in
    let kept : all ≡ new = with_items_is c.self.inside.parts new as_long in
    let letters = c.in_ok-letters.letters in
    let next : WorldState = record { parts = all; letters = c.self.inside.letters + letters; spent = false } in
    let all_letters : next.letters ≡ world.letters + letters = ap (λ w. w.letters + letters) c.self.view_is in
    subst (AreDone course (rounds + 1)) (sym kept) (next-of course rounds world.parts are parts new is c.in_ok-letters.ensures.kept c.in_ok-letters.ensures.done c.in_ok-letters.ensures.unspent)

pub returns-clause-letters : goal.returns-clause-letters
returns-clause-letters g c course rounds are =
    let world = c.args.self.now in
    let parts = c.as_mut_slice.result.now in
    let is : parts ≡ world.parts = c.as_mut_slice.ensures.value ∙ ap (λ w. w.parts) c.self.view_is in
    let letters = c.in_ok-letters.letters in
    let owed : letters ≡ owed_all (all_next world.parts) = c.in_ok-letters.ensures.letters ∙ ap (λ ps. owed_all (all_next ps)) is in
    ap (λ w. w.letters + letters) c.self.view_is ∙ ap (λ n. world.letters + n) (owed ∙ owed_next-done course rounds world.parts are)

pub returns-clause-used : goal.returns-clause-used
returns-clause-used g c course rounds are =
    let world = c.args.self.now in
    let parts = c.as_mut_slice.result.now in
    let is : parts ≡ world.parts = c.as_mut_slice.ensures.value ∙ ap (λ w. w.parts) c.self.view_is in
    let letters = c.in_ok-letters.letters in
    let owed : letters ≡ owed_all (all_next world.parts) = c.in_ok-letters.ensures.letters ∙ ap (λ ps. owed_all (all_next ps)) is in
    c.in_ok-letters.ensures.used ∙ ap (used c.args.schedule.now) (owed ∙ owed_next-done course rounds world.parts are)

pub returns-clause-follows : goal.returns-clause-follows
returns-clause-follows g c before held given course rounds done =
    let first = c.args.self.now.parts in
    let parts = c.as_mut_slice.result.now in
    let is : parts ≡ first = search rules in
    let new = c.run_next.new.parts in
    let old = g.C.Carrier.carried c.args.carrier.now in
    let now = g.C.Carrier.carried c.run_next.new.carrier in
    let all : List PartState = (with_items c.self.inside.parts new).items in
    let as_long : length new ≡ c.self.inside.parts.len = search rules in
    let kept : all ≡ new = with_items_is c.self.inside.parts new as_long in
    let letters = c.in_ok-letters.letters in
    let so_far : c.self.inside.letters ≡ c.args.self.now.letters = search rules in
    let world : WorldState = record { parts = all; letters = c.self.inside.letters + letters; spent = false } in
    let tracks : RunTracks course (all_next first) new (letters_next first) old now c.args.schedule.now (Ok letters)
    = subst (λ ps. RunTracks course (all_next ps) new (letters_next ps) old now c.args.schedule.now (Ok letters)) is (c.in_ok-letters.ensures.tracks course) in
    is_drawn course rounds first done new old now c.args.schedule.now before c.args.self.now.letters letters world held given tracks kept (ap (λ n. n + letters) so_far)
