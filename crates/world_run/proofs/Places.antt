-- What stands at a place of a list, and what is left without it.
use Rattle.std.proofs.Common.{◌≡◌, ◌+◌, ℕ, zero, suc, List, [], ◌∷◌, ◌++◌, length, map, take, drop, get_or, set, min, Some, refl, sym, ap, ap₂, subst, ◌∙◌, arith}
use Rattle.std.specs.Prelude.{slice_get}
use Rattle.std.specs.List.{AllByRecursion, remove}
use Rattle.std.proofs.lemmas.List.{drop-map, map-append, take-map}
use Rattle.std.proofs.lemmas.Option.{slice_get-map}
use Rattle.std.specs.Option.{option_map}
use Rattle.carrier.specs.Schedule.{Picks, after_pick, next_of}
use Rattle.part_phases.proofs.Gathered.{none≢some}
use Rattle.phase_laws.specs.Drawing.{first_pick, other_picks}
use Rattle.phase_laws.proofs.Staying.{same_some}
use Rattle.world_run.specs.Drawn.{picks_left}

-- ---- the picks
first_left : (k : ℕ) (picks : List ℕ) → first_pick (drop k picks) ≡ get_or picks k 0
first_left zero [] = refl
first_left (suc k) [] = refl
first_left zero (pick ∷ picks) = refl
first_left (suc k) (pick ∷ picks) = first_left k picks

drop-nil : {X : Type 0} (k : ℕ) → drop {A = X} k [] ≡ []
drop-nil zero = refl
drop-nil (suc k) = refl

others_left : (k : ℕ) (picks : List ℕ) → other_picks (drop k picks) ≡ drop (min (k + 1) (length picks)) picks
others_left k [] = ap other_picks (drop-nil k) ∙ sym (drop-nil (min (k + 1) 0))
others_left zero (pick ∷ picks) = let next : min (0 + 1) (suc (length picks)) ≡ suc zero = omega arith in ap (λ n. drop n (pick ∷ picks)) (sym next)
others_left (suc k) (pick ∷ picks) = let next : min (suc k + 1) (suc (length picks)) ≡ suc (min (k + 1) (length picks)) = omega arith in others_left k picks ∙ ap (λ n. drop n (pick ∷ picks)) (sym next)

-- a pick that is used is the first of those that are left
pub picks_next : (schedule : Picks) → (first_pick (picks_left schedule) ≡ next_of schedule) × (other_picks (picks_left schedule) ≡ picks_left (after_pick schedule))
picks_next schedule = (first_left schedule.next schedule.picks, others_left schedule.next schedule.picks)

-- ---- places
pub from_map : {X Y : Type 0} (f : X → Y) (xs : List X) (k : ℕ) (y : Y) → slice_get (map f xs) k ≡ Some y → (x : X) × (slice_get xs k ≡ Some x) × (y ≡ f x)
from_map f [] k y e = absurd (none≢some y e)
from_map f (x ∷ xs) zero y e = (x, refl, sym (same_some (f x) y e))
from_map f (x ∷ xs) (suc k) y e = from_map f xs k y e

pub to_map : {X Y : Type 0} (f : X → Y) (xs : List X) (k : ℕ) (x : X) → slice_get xs k ≡ Some x → slice_get (map f xs) k ≡ Some (f x)
to_map f xs k x e = slice_get-map f xs k ∙ ap (option_map f) e

pub all_at : {X : Type 0} (P : X → Type 0) (xs : List X) (k : ℕ) (x : X) → AllByRecursion P xs → slice_get xs k ≡ Some x → P x
all_at P [] k x all e = absurd (none≢some x e)
all_at P (y ∷ xs) zero x all e = subst P (same_some y x e) all.0
all_at P (y ∷ xs) (suc k) x all e = all_at P xs k x all.1 e

pub all_set : {X : Type 0} (P : X → Type 0) (xs : List X) (k : ℕ) (x : X) → AllByRecursion P xs → P x → AllByRecursion P (set xs k x)
all_set P [] k x all one = tt
all_set P (y ∷ xs) zero x all one = (one, all.1)
all_set P (y ∷ xs) (suc k) x all one = (all.0, all_set P xs k x all.1 one)

pub all_removed : {X : Type 0} (P : X → Type 0) (xs : List X) (k : ℕ) → AllByRecursion P xs → AllByRecursion P (remove xs k)
all_removed P [] zero all = tt
all_removed P [] (suc k) all = tt
all_removed P (x ∷ xs) zero all = all.1
all_removed P (x ∷ xs) (suc k) all = (all.0, all_removed P xs k all.1)

pub remove-map : {X Y : Type 0} (f : X → Y) (xs : List X) (k : ℕ) → remove (map f xs) k ≡ map f (remove xs k)
remove-map f xs k = ap₂ ◌++◌ (take-map f k xs) (drop-map f (suc k) xs) ∙ sym (map-append f (take k xs) (drop (suc k) xs))
