-- What a run keeps from letter to letter, and how it ends.
use Rattle.std.proofs.Common.{◌≡◌, ◌+◌, ℕ, suc, List, [], ◌∷◌, ◌++◌, Option, Some, None, Ok, Err, refl, sym, ap, subst, ◌∙◌, arith}
use Rattle.std.specs.Prelude.{IfSome}
use Rattle.std.proofs.lemmas.List.{append-nil, append_assoc, length-append}
use Rattle.carrier.specs.Carried.{Letters}
use Rattle.carrier.specs.Schedule.{Picks, after_pick}
use Rattle.part_core.specs.Parts.{PartState}
use Rattle.world_run.specs.Drawn.{used}
use Rattle.world_run.specs.Replay.{first_waiting, handed_all, handed_bytes, is_bad}
use Rattle.world_run.specs.Told.{IsOver, RunTells}
use Rattle.world_run.specs.declared.fault.RunFault.{RunFault}
use Rattle.world_run.specs.declared.fault.RunFault.TheVariants.{Link, BadLetter, Starved, Over, Memory}
use Rattle.world_run.specs.steps.Turns.{Ran, Runs, Turns}
use Rattle.world_run.proofs.Handings.{none_waits}

handed_all-append : (parts : List PartState) (letters more : Letters) → handed_all parts (letters ++ more) ≡ handed_all (handed_all parts letters) more
handed_all-append parts [] more = refl
handed_all-append parts (bytes ∷ letters) more = handed_all-append (handed_bytes parts bytes) letters more

module _ (old parts parts' : List PartState) (before : Letters) (mid now : Option Letters) (letters : ℕ) (ran : Ran old parts before mid letters) where
  one_more : {X : Type 0} (x : X) → IfSome mid (λ given. Turns parts parts' given now (Ok x)) → Ran old parts' before now (letters + 1)
  one_more x turned =
      let grown = ran.0 in
      let turn : Turns parts parts' (before ++ grown) now (Ok x) = subst (λ m. IfSome m (λ given. Turns parts parts' given now (Ok x))) ran.1 turned in
      let bytes = turn.0 in
      let long = length-append grown (bytes ∷ []) in (
        grown ++ bytes ∷ [],
        turn.1 ∙ ap Some (append_assoc before grown (bytes ∷ [])),
        turn.2 ∙ ap (λ p. handed_bytes p bytes) ran.2 ∙ sym (handed_all-append old grown (bytes ∷ [])),
        omega (arith, ran.3, long),
      )

  ends : (X : Type 0) (fault : RunFault) → IfSome mid (λ given. Turns {X = X} parts parts' given now (Err fault)) → RunTells old 0 before now (Err fault)
  ends X Link turned = tt
  ends X Memory turned = tt
  ends X (BadLetter bytes) turned =
      let grown = ran.0 in
      let turn : Turns {X = X} parts parts' (before ++ grown) now (Err (BadLetter bytes)) = subst (λ m. IfSome m (λ given. Turns {X = X} parts parts' given now (Err (BadLetter bytes)))) ran.1 turned in
      (grown, turn.0 ∙ ap Some (append_assoc before grown (bytes.items ∷ [])), ap (λ p. is_bad p bytes.items) (sym ran.2) ∙ turn.1)
  ends X (Starved part phase) turned =
      let grown = ran.0 in
      let turn : Turns {X = X} parts parts' (before ++ grown) now (Err (Starved part phase)) = subst (λ m. IfSome m (λ given. Turns {X = X} parts parts' given now (Err (Starved part phase)))) ran.1 turned in
      (grown, turn.0, ap first_waiting (sym ran.2) ∙ turn.1)
  ends X (Over round stage count) turned =
      let grown = ran.0 in
      let turn : Turns {X = X} parts parts' (before ++ grown) now (Err (Over round stage count)) = subst (λ m. IfSome m (λ given. Turns {X = X} parts parts' given now (Err (Over round stage count)))) ran.1 turned in
      let bytes = turn.0 in (
        grown ++ bytes ∷ [],
        turn.1 ∙ ap Some (append_assoc before grown (bytes ∷ [])),
        subst (λ ps. IsOver ps round stage count) (ap (λ p. handed_bytes p bytes) ran.2 ∙ sym (handed_all-append old grown (bytes ∷ []))) turn.2,
      )

module _ (old parts parts' : List PartState) (letters : ℕ) where
  pub kept : {X : Type 0} (first mid now : Option Letters) (x : X) → IfSome first (λ before. Ran old parts before mid letters) → IfSome mid (λ given. Turns parts parts' given now (Ok x)) → IfSome first (λ before. Ran old parts' before now (letters + 1))
  kept None mid now x ran turned = tt
  kept (Some before) mid now x ran turned = one_more old parts parts' before mid now letters ran x turned

  pub ended : (X : Type 0) (first mid now : Option Letters) (fault : RunFault) → IfSome first (λ before. Ran old parts before mid letters) → IfSome mid (λ given. Turns {X = X} parts parts' given now (Err fault)) → IfSome first (λ before. Runs old parts' before now (Err fault))
  ended X None mid now fault ran turned = tt
  ended X (Some before) mid now fault ran turned = ends old parts parts' before mid now letters ran X fault turned

-- once none waits
pub finished : (old parts : List PartState) (letters : ℕ) (first now : Option Letters) → first_waiting parts ≡ None → IfSome first (λ before. Ran old parts before now letters) → IfSome first (λ before. Runs old parts before now (Ok letters))
finished old parts letters None now none ran = tt
finished old parts letters (Some before) now none ran = (ran.0, ran.1, ran.2, none_waits parts none, ran.3)

-- one more pick is used
pub used_more : (schedule : Picks) (n : ℕ) → after_pick (used schedule n) ≡ used schedule (n + 1)
used_more schedule n = let next : suc n ≡ n + 1 = omega arith in subst (λ m. after_pick (used schedule n) ≡ used schedule m) next refl

-- a part finds too many tetrahedra as it begins
pub ends_at_first : (parts new : List PartState) (given : Option Letters) (round stage count : ℕ) → IsOver parts round stage count → IfSome given (λ before. Runs parts new before given (Err (Over round stage count)))
ends_at_first parts new None round stage count over = tt
ends_at_first parts new (Some before) round stage count over = ([], ap Some (sym (append-nil before)), over)
