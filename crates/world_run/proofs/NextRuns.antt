-- What comes of parts that begin their next round and are then run.
use Rattle.std.proofs.Common.{◌≡◌, ℕ, List, [], Option, None, Some, Ok, Err, refl, sym, ap, subst, ◌∙◌}
use Rattle.std.specs.Prelude.{IfSome, Result}
use Rattle.carrier.specs.Carried.{Carried, Letters}
use Rattle.carrier.specs.Schedule.{Picks}
use Rattle.letters.specs.declared.letter.Body.{Body}
use Rattle.letters.specs.declared.letter.Letter.{Letter}
use Rattle.part_core.specs.Parts.{PartState}
use Rattle.part_phases.specs.Standings.{Standing}
use Rattle.part_rules.specs.declared.course.Course.{Course}
use Rattle.part_store.specs.Stores.{StoreState}
use Rattle.phase_laws.specs.Truth.{Truth}
use Rattle.world_run.specs.Drawn.{IfAllIsTold}
use Rattle.world_run.specs.Replay.{all_next, first_waiting}
use Rattle.world_run.specs.Told.{IsOver}
use Rattle.world_run.specs.declared.excess.Excess.{Excess}
use Rattle.world_run.specs.declared.fault.RunFault.{RunFault}
use Rattle.world_run.specs.declared.fault.RunFault.TheVariants.{Over}
use Rattle.world_run.specs.steps.Beginning.{AreUnspent, SaysAll, letters_next}
use Rattle.world_run.specs.steps.Drawing.{BeginRight, ComesTo, RestsAlone, RunDraws, ends_over, opening}
use Rattle.world_run.specs.steps.Turns.{Rests, Runs}
use Rattle.world_run.proofs.Alone.{rests_alone, rests_first}
use Rattle.world_run.proofs.Opening.{opens, opens_over}
use Rattle.world_run.proofs.Runnings.{ends_at_first}

-- ---- where a part finds too many tetrahedra as it begins
module _ (old begun new : List PartState) (is : begun ≡ all_next old) (excess : Excess) (fault : RunFault) (fault_is : fault ≡ Over excess.round excess.stage excess.count) (says : SaysAll begun (Some excess)) where
  over : IsOver (all_next old) excess.round excess.stage excess.count
  over = subst (λ ps. IsOver ps excess.round excess.stage excess.count) is says

  pub over_told : (given : Option Letters) → IfSome given (λ before. Runs (all_next old) new before given (Err fault))
  over_told given = subst (λ f. IfSome given (λ before. Runs (all_next old) new before given (Err f))) (sym fault_is) (ends_at_first (all_next old) new given excess.round excess.stage excess.count over)

  module _ (course : Course) (truth : Truth StoreState Body) (default : Standing StoreState Body) (begin : BeginRight course truth default old) where
    ended : ends_over course truth default excess.round excess.stage excess.count
    ended = opens_over course truth default old begin excess.round excess.stage excess.count over

    pub over_drawn : (base : Letters) (now : Carried) (schedule : Picks) → ComesTo course truth default old new base now schedule (Err fault)
    over_drawn base now schedule = subst (λ f. ComesTo course truth default old new base now schedule (Err f)) (sym fault_is) ended

    pub over_alone : (now : Carried) → RestsAlone course truth default old new now now (Err fault)
    over_alone now = subst (λ f. RestsAlone course truth default old new now now (Err f)) (sym fault_is) (refl, ended)

-- ---- where none does
module _ (old begun new : List PartState) (is : begun ≡ all_next old) (says : SaysAll begun None) (before now : Carried) (result : Result ℕ RunFault) where
  unspent : AreUnspent (all_next old)
  unspent = subst AreUnspent is says

  pub run_told : IfSome before.given (λ given. Runs begun new given now.given result) → IfSome before.given (λ given. Runs (all_next old) new given now.given result)
  run_told told = subst (λ ps. IfSome before.given (λ given. Runs ps new given now.given result)) is told

  module _ (course : Course) (truth : Truth StoreState Body) (default : Standing StoreState Body) (begin : BeginRight course truth default old) where
    came : (base : Letters) (schedule : Picks) → before.held ≡ Some [] → before.given ≡ Some base → (result : Result ℕ RunFault) → RunDraws course truth default (all_next old) new (letters_next old) before now schedule result
        → ComesTo course truth default old new base now schedule result
    came base schedule held given (Ok letters) draws = draws base (opening course truth default old) begin.follows (opens course truth default old begin before base held given unspent)
    came base schedule held given (Err fault) draws = draws base (opening course truth default old) begin.follows (opens course truth default old begin before base held given unspent)

    pub run_drawn : (sent : List Letter) → sent ≡ letters_next old → (schedule : Picks) → RunDraws course truth default begun new sent before now schedule result → IfAllIsTold before (λ base. ComesTo course truth default old new base now schedule result)
    run_drawn sent sent_is schedule draws base held given =
        came base schedule held given result
        (subst (λ ps. RunDraws course truth default ps new (letters_next old) before now schedule result) is (subst (λ ls. RunDraws course truth default begun new ls before now schedule result) sent_is draws))

    pub run_alone : course.parts ≡ 1 → (first_waiting begun ≡ None → Rests begun new before now result) → RestsAlone course truth default old new before now result
    run_alone one rests =
        rests_alone course truth default old one begin unspent new before now result
        (subst (λ ps. Rests ps new before now result) is (rests (ap first_waiting is ∙ rests_first course truth default old one begin unspent)))
