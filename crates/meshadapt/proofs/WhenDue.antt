-- When each status comes, from what each leaves.
use Rattle.std.proofs.Common.{◌≡◌, ℕ, ◌-◌, ◌≤◌, List, Option, Some, None, length, inl, inr, refl, sym, subst, ap, ◌∙◌, arith}
use Rattle.std.specs.Prelude.{◌⊎◌, Result, Ok, Err, IfSome}
use Rattle.std.proofs.lemmas.Bool.{cases_lt}
use Rattle.ma_cells.specs.declared.batch.Batch.{Batch}
use Rattle.ma_io.specs.Files.{Files}
use Rattle.one_mesh.specs.Adaptation.{IsFirstPast, IsFirstStagePast, Plan, StaysWithin, adapted, staged}
use Rattle.world_run.specs.declared.fault.RunFault.{RunFault}
use Rattle.world_run.specs.declared.fault.RunFault.TheVariants as run
use Rattle.meshadapt.specs.Outcome.{AcceptedIsDone, IsQuiet, IsVerdict, Leaves, LeavesParts, LettersArrive, MayFail, RefusalIsAnswered, Seen, TooManyIsAnswered, UsageIsAnswered}
use Rattle.meshadapt.specs.Verdict.{Inputs, plan_of, verdict}
use Rattle.meshadapt.specs.Words.{Job}
use Rattle.meshadapt.specs.declared.status.Refusal.{Refusal}
use Rattle.meshadapt.specs.declared.status.Status.{Status}
use Rattle.meshadapt.specs.declared.status.Status.TheVariants.{Done, Usage, ReadFault, WriteFault, Refused, TooMany, Memory, LinkFault, BadLetter, Starved}
use Rattle.std.proofs.lemmas.Option.{none-some, same_Some}

ok_not_err : {A E : Type 0} (x : A) (e : E) → ◌≡◌ {A = Result A E} (Ok x) (Err e) → ⊥
ok_not_err x e h = absurd cc

ok_is : {A E : Type 0} {x y : A} → ◌≡◌ {A = Result A E} (Ok x) (Ok y) → x ≡ y
ok_is e = cc

err_is : {A E : Type 0} {x y : E} → ◌≡◌ {A = Result A E} (Err x) (Err y) → x ≡ y
err_is e = cc

-- the verdict on the job of the words, where the files are told
told : (s : Seen) (words : Option Job) (job other : Job) (files : Files) (v : Result Inputs Refusal) → words ≡ Some job → words ≡ Some other → s.depot.files ≡ Some files → IsVerdict s other v → (other ≡ job) × (verdict files job ≡ v)
told s words job other files v is are there h =
    let same : other ≡ job = same_Some other job (sym are ∙ is) in
    (same, subst (λ (j : Job). verdict files j ≡ v) same (subst (λ (o : Option Files). IfSome o (λ fs. verdict fs other ≡ v)) there h))

-- ---- there is one first stage past the limit
no_later : (plan : Plan) (start : Batch) (n m b c : ℕ) → IsFirstStagePast plan start n b → IsFirstStagePast plan start m c → m ≤ n
no_later plan start n m b c h k =
    elim (cases_lt n m) [
      | inl less ↦ let few = k.earlier n less in let past = h.past in let count_is = h.count_is in absurd (omega (arith, few, past, count_is))
      | inr not_less ↦ omega arith
    ]

module _ (plan : Plan) (mesh : Batch) where
  no_later_round : (rounds q r n m b c : ℕ) → IsFirstPast plan rounds mesh q n b → IsFirstPast plan rounds mesh r m c → r ≤ q
  no_later_round rounds q r n m b c h k =
      elim (cases_lt q r) [
        | inl less ↦
            let few = k.before q n h.least (omega arith) h.in_round.stage_is in
            let past = h.in_round.past in
            let count_is = h.in_round.count_is in
            absurd (omega (arith, few, past, count_is))
        | inr not_less ↦ omega arith
      ]

  only_first : (rounds q r n m b c : ℕ) → IsFirstPast plan rounds mesh q n b → IsFirstPast plan rounds mesh r m c → (q ≡ r) × (n ≡ m) × (b ≡ c)
  only_first rounds q r n m b c h k =
      let e : q ≡ r = let one = no_later_round rounds q r n m b c h k in let other = no_later_round rounds r q m n c b k h in omega arith in
      let start : Batch = adapted plan (q - 1) mesh in
      let there : IsFirstStagePast plan start m c = subst (λ (i : ℕ). IsFirstStagePast plan (adapted plan (i - 1) mesh) m c) (sym e) k.in_round in
      let f : n ≡ m = both_least n m b c start h.in_round there in
      (e, f, h.in_round.count_is ∙ (ap (λ (i : ℕ). length (staged plan i start).tets) f ∙ sym there.count_is))
    where
      both_least : (n m b c : ℕ) (start : Batch) → IsFirstStagePast plan start n b → IsFirstStagePast plan start m c → n ≡ m
      both_least n m b c start h k = let one = no_later plan start n m b c h k in let other = no_later plan start m n c b k h in omega arith

module _ (words : Option Job) (s t : Seen) (job : Job) (files : Files) (is : words ≡ Some job) (there : s.depot.files ≡ Some files) (quiet : IsQuiet s t) where
  -- ---- a refusal is due
  module _ (refusal : Refusal) (due : verdict files job ≡ Err refusal) where
    not_accepted : (other : Job) (inputs : Inputs) → words ≡ Some other → IsVerdict s other (Ok inputs) → ⊥
    not_accepted other inputs are v = ok_not_err inputs refusal (sym (told s words job other files (Ok inputs) is are there v).1 ∙ due)

    pub refused : (status : Status) → Leaves status words s t → (status ≡ Refused refusal) ⊎ (status ≡ Memory)
    refused Done h = absurd (not_accepted h.job h.inputs h.words_are h.verdict)
    refused Usage h = absurd (none-some job (sym h.words_are ∙ is))
    refused ReadFault h = absurd (quiet.0 h.counted)
    refused WriteFault (inl h) = absurd (quiet.1 h.counted)
    refused WriteFault (inr h) = absurd (quiet.3 h.printed.0)
    refused (Refused r) h = inl (ap Refused (err_is (sym (told s words job h.job files (Err r) is h.words_are there h.verdict).1 ∙ due)))
    refused (TooMany round stage count) (inl h) = absurd (not_accepted h.job h.inputs h.words_are h.verdict)
    refused (TooMany round stage count) (inr h) = absurd (not_accepted h.job h.inputs h.words_are h.verdict)
    refused Memory h = inr refl
    refused LinkFault h = absurd (not_accepted h.job h.inputs h.words_are h.verdict)
    refused (BadLetter bytes) h = absurd (not_accepted h.job h.inputs h.words_are h.verdict)
    refused (Starved part phase) h = absurd (not_accepted h.job h.inputs h.words_are h.verdict)

  -- ---- the job is accepted
  module _ (inputs : Inputs) (due : verdict files job ≡ Ok inputs) where
    not_refused : (other : Job) (refusal : Refusal) → words ≡ Some other → IsVerdict s other (Err refusal) → ⊥
    not_refused other refusal are v = ok_not_err inputs refusal (sym due ∙ (told s words job other files (Err refusal) is are there v).1)

    same_run : (other : Job) (found : Inputs) → words ≡ Some other → IsVerdict s other (Ok found) → (other ≡ job) × (found ≡ inputs)
    same_run other found are v = let same = told s words job other files (Ok found) is are there v in (same.0, ok_is (sym same.1 ∙ due))

    -- all letters arrive
    module _ (arrive : LettersArrive s.carrier inputs.handout) where
      arrived : (found : Inputs) → found ≡ inputs → LettersArrive s.carrier found.handout
      arrived found f = subst (LettersArrive s.carrier) (sym (ap (λ (i : Inputs). i.handout) f)) arrive

      -- what the parts may come to then
      may_fail : (fault : RunFault) (line : List ℕ) (h : LeavesParts fault line words s t) → MayFail h.job h.inputs fault
      may_fail fault line h =
          let same = same_run h.job h.inputs h.words_are h.verdict in
          (h.meant (subst (LettersArrive s.carrier) h.handed (arrived h.inputs same.1))).0

      first_so : (other : Job) (found : Inputs) (r n c : ℕ) → other ≡ job → found ≡ inputs → IsFirstPast (plan_of other found) other.rounds found.mesh r n c → IsFirstPast (plan_of job inputs) job.rounds inputs.mesh r n c
      first_so other found r n c e f past =
          subst (λ (i : Inputs). IsFirstPast (plan_of job i) job.rounds i.mesh r n c) f (subst (λ (j : Job). IsFirstPast (plan_of j found) j.rounds found.mesh r n c) e past)

      -- a fault is of the carrier or of memory, or there are too many tetrahedra
      abbrev IsTold : RunFault → Type 0
      IsTold run.Link = ⊥
      IsTold (run.BadLetter bytes) = ⊥
      IsTold (run.Starved part phase) = ⊥
      IsTold (run.Over round stage count) = IsFirstPast (plan_of job inputs) job.rounds inputs.mesh round stage count
      IsTold run.Memory = Unit {0}

      is_told : (fault : RunFault) (line : List ℕ) → LeavesParts fault line words s t → IsTold fault
      is_told run.Link line h = quiet.2 h.cause
      is_told (run.BadLetter bytes) line h = may_fail (run.BadLetter bytes) line h
      is_told (run.Starved part phase) line h = may_fail (run.Starved part phase) line h
      is_told (run.Over round stage count) line h =
          let same = same_run h.job h.inputs h.words_are h.verdict in
          first_so h.job h.inputs round stage count same.0 same.1 (may_fail (run.Over round stage count) line h)
      is_told run.Memory line h = tt

      -- the mesh stays within the limit
      module _ (within : StaysWithin (plan_of job inputs) job.rounds inputs.mesh) where
        not_past : (round stage count : ℕ) → IsFirstPast (plan_of job inputs) job.rounds inputs.mesh round stage count → ⊥
        not_past round stage count at =
            let few = within round stage at.least at.greatest at.in_round.stage_is in
            let past = at.in_round.past in
            let count_is = at.in_round.count_is in
            absurd (omega (arith, few, past, count_is))

        pub done : (status : Status) → Leaves status words s t → (status ≡ Done) ⊎ (status ≡ Memory)
        done Done h = inl refl
        done Usage h = absurd (none-some job (sym h.words_are ∙ is))
        done ReadFault h = absurd (quiet.0 h.counted)
        done WriteFault (inl h) = absurd (quiet.1 h.counted)
        done WriteFault (inr h) = absurd (quiet.3 h.printed.0)
        done (Refused r) h = absurd (not_refused h.job r h.words_are h.verdict)
        done (TooMany round stage count) (inl h) = let same = same_run h.job h.inputs h.words_are h.verdict in absurd (not_past round stage count (first_so h.job h.inputs round stage count same.0 same.1 h.first))
        done (TooMany round stage count) (inr h) = absurd (not_past round stage count (is_told (run.Over round stage count) _ h))
        done Memory h = inr refl
        done LinkFault h = absurd (is_told run.Link _ h)
        done (BadLetter bytes) h = absurd (is_told (run.BadLetter bytes) _ h)
        done (Starved part phase) h = absurd (is_told (run.Starved part phase) _ h)

      -- there are too many tetrahedra
      module _ (round stage count : ℕ) (first : IsFirstPast (plan_of job inputs) job.rounds inputs.mesh round stage count) where
        not_within : StaysWithin (plan_of job inputs) job.rounds inputs.mesh → ⊥
        not_within within =
            let most = within round stage first.least first.greatest first.in_round.stage_is in
            let past = first.in_round.past in
            let count_is = first.in_round.count_is in
            absurd (omega (arith, most, past, count_is))

        within_so : (other : Job) (found : Inputs) → other ≡ job → found ≡ inputs → StaysWithin (plan_of other found) other.rounds found.mesh → StaysWithin (plan_of job inputs) job.rounds inputs.mesh
        within_so other found e f within =
            subst (λ (i : Inputs). StaysWithin (plan_of job i) job.rounds i.mesh) f (subst (λ (j : Job). StaysWithin (plan_of j found) j.rounds found.mesh) e within)

        the_first : (r n c : ℕ) → IsFirstPast (plan_of job inputs) job.rounds inputs.mesh r n c → TooMany r n c ≡ TooMany round stage count
        the_first r n c past = let one = only_first (plan_of job inputs) inputs.mesh job.rounds r round n stage c count past first in rw (one.0, one.1, one.2) refl

        pub too_many : (status : Status) → Leaves status words s t → (status ≡ TooMany round stage count) ⊎ (status ≡ Memory)
        too_many Done h = let same = same_run h.job h.inputs h.words_are h.verdict in absurd (not_within (within_so h.job h.inputs same.0 same.1 (h.within (arrived h.inputs same.1))))
        too_many Usage h = absurd (none-some job (sym h.words_are ∙ is))
        too_many ReadFault h = absurd (quiet.0 h.counted)
        too_many WriteFault (inl h) = absurd (quiet.1 h.counted)
        too_many WriteFault (inr h) = absurd (quiet.3 h.printed.0)
        too_many (Refused r) h = absurd (not_refused h.job r h.words_are h.verdict)
        too_many (TooMany r n c) (inl h) = let same = same_run h.job h.inputs h.words_are h.verdict in inl (the_first r n c (first_so h.job h.inputs r n c same.0 same.1 h.first))
        too_many (TooMany r n c) (inr h) = inl (the_first r n c (is_told (run.Over r n c) _ h))
        too_many Memory h = inr refl
        too_many LinkFault h = absurd (is_told run.Link _ h)
        too_many (BadLetter bytes) h = absurd (is_told (run.BadLetter bytes) _ h)
        too_many (Starved part phase) h = absurd (is_told (run.Starved part phase) _ h)

-- ---- the words are of another form
module _ (words : Option Job) (s t : Seen) (none : words ≡ None) where
  no_job : (job : Job) → words ≡ Some job → ⊥
  no_job job is = none-some job (sym none ∙ is)

  no_parts_either : (fault : RunFault) (line : List ℕ) → LeavesParts fault line words s t → ⊥
  no_parts_either fault line h = no_job h.job h.words_are

  usage : (status : Status) → Leaves status words s t → (status ≡ Usage) ⊎ (status ≡ Memory)
  usage Done h = absurd (no_job h.job h.words_are)
  usage Usage h = inl refl
  usage ReadFault h = absurd (no_job h.job h.words_are)
  usage WriteFault (inl h) = absurd (no_job h.job h.comes.words_are)
  usage WriteFault (inr h) = absurd (no_job h.job h.comes.words_are)
  usage (Refused r) h = absurd (no_job h.job h.words_are)
  usage (TooMany round stage count) (inl h) = absurd (no_job h.job h.words_are)
  usage (TooMany round stage count) (inr h) = absurd (no_parts_either _ _ h)
  usage Memory h = inr refl
  usage LinkFault h = absurd (no_parts_either _ _ h)
  usage (BadLetter bytes) h = absurd (no_parts_either _ _ h)
  usage (Starved part phase) h = absurd (no_parts_either _ _ h)

-- ---- the clauses
pub usage_is_answered : (status : Status) (words : Option Job) (s t : Seen) → Leaves status words s t → UsageIsAnswered status words
usage_is_answered status words s t h = λ none. usage words s t none status h

pub refusal_is_answered : (status : Status) (words : Option Job) (s t : Seen) → Leaves status words s t → RefusalIsAnswered status words s t
refusal_is_answered status words s t h = λ job files refusal is there due quiet. refused words s t job files is there quiet refusal due status h

pub accepted_is_done : (status : Status) (words : Option Job) (s t : Seen) → Leaves status words s t → AcceptedIsDone status words s t
accepted_is_done status words s t h = λ job files inputs is there due within arrive quiet. done words s t job files is there quiet inputs due arrive within status h

pub too_many_is_answered : (status : Status) (words : Option Job) (s t : Seen) → Leaves status words s t → TooManyIsAnswered status words s t
too_many_is_answered status words s t h = λ job files inputs round stage count is there due arrive first quiet. too_many words s t job files is there quiet inputs due arrive round stage count first status h
