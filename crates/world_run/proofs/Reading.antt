-- Bytes that spell a letter are read as this letter.
use Rattle.std.proofs.Common.{◌≡◌, List, [], ◌∷◌, ◌++◌, ℕ, Option, Some, None, Ok, sym, ap, subst, ◌∙◌}
use Rattle.std.specs.Prelude.{IfSome, Vec}
use Rattle.std.proofs.lemmas.List.{append_cancel_left}
use Rattle.carrier.specs.Carried.{Letters}
use Rattle.phase_laws.proofs.Staying.{same_some}
use Rattle.world_run.specs.steps.Handing.{Reads, ReadsLast}
use Rattle.world_run.specs.steps.Turns.{Takes}

first_of : List ℕ → Letters → List ℕ
first_of default [] = default
first_of default (bytes ∷ letters) = bytes

same_last : (given : Letters) (a b : List ℕ) → given ++ a ∷ [] ≡ given ++ b ∷ [] → a ≡ b
unfolding first_of
same_last given a b e = ap (first_of a) (append_cancel_left given (a ∷ []) (b ∷ []) e)

-- the bytes that were taken are the last that were handed out
pub reads_last : {A : Type 0} (first same now : Option Letters) (turn : ℕ × ℕ) (bytes : Vec ℕ A) → same ≡ first → IfSome same (λ given. Takes given now turn (Ok bytes)) → Reads bytes.items
    → IfSome first (λ given. ReadsLast given now)
reads_last None same now turn bytes is took reads = tt
reads_last {A} (Some given) same now turn bytes is took reads =
    let out : Takes {A = A} given now turn (Ok bytes) = subst (λ m. IfSome m (λ before. Takes {A = A} before now turn (Ok bytes))) is took in
    λ last e. subst Reads (same_last given bytes.items last (same_some (given ++ bytes.items ∷ []) (given ++ last ∷ []) (sym out ∙ e))) reads
