-- Whatever is drawn, all stands right, and after as many turns as letters are owed no letter waits.
use Rattle.std.proofs.Common.{◌≡◌, ℕ, zero, suc, ◌+◌, ◌<◌, ◌≤◌, ◌%◌, List, [], ◌∷◌, ◌++◌, length, take, drop, get_or, set, Some, None, ◌⊎◌, inl, inr, refl, sym, ap, subst, ◌∙◌, arith}
use Rattle.std.specs.Prelude.{slice_get}
use Rattle.std.specs.List.{remove, sum_by}
use Rattle.std.proofs.lemmas.List.{get_or-set_same, get_or-set_other, length-set}
use Rattle.std.proofs.lemmas.List.Sums.{sum_by-set}
use Rattle.std.proofs.lemmas.Nat.{mod_below}
use Rattle.std.proofs.lemmas.Option.{get_or_from_slice_get, slice_get-get_or, slice_get_within}
use Rattle.part_phases.specs.Owed.{letters_owed}
use Rattle.part_phases.specs.Phases.{handed}
use Rattle.part_phases.specs.Standings.{Letter, Rules, Standing}
use Rattle.part_phases.proofs.Gathered.{none≢some}
use Rattle.part_phases.proofs.Owed.{taken_letter_lowers_what_is_owed}
use Rattle.part_phases.specs.Balance.{IsWith}
use Rattle.phase_laws.specs.Drawing.{Drawing, IsRight, TurnsStayRight, first_pick, other_picks, part_at, turn, turns, with_drawn, with_part}
use Rattle.phase_laws.specs.Truth.{Follows, IsTrueLetter, Right, Truth}
use Rattle.phase_laws.proofs.Staying.{same_some}
use Rattle.phase_laws.proofs.Events.{middle, right_event}

-- a list taken apart at a place
split_at : {X : Type 0} (xs : List X) (k : ℕ) (x : X) → slice_get xs k ≡ Some x → xs ≡ take k xs ++ x ∷ drop (suc k) xs
split_at [] k x e = absurd (none≢some x e)
split_at (y ∷ ys) zero x e = ap (λ z. z ∷ ys) (same_some y x e)
split_at (y ∷ ys) (suc k) x e = ap (λ r. y ∷ r) (split_at ys k x e)

-- a sum of which one term is lowered by one
lowered : (sum_now sum_then f_then f_now : ℕ) → sum_now + f_then ≡ sum_then + f_now → f_now + 1 ≡ f_then → sum_now + 1 ≡ sum_then
lowered a b c d e f = omega arith

module _ {S B W : Type 0} (r : Rules S B W) where
  -- how many letters all parts are owed
  abbrev pub all_owed : List (Standing S B) → ℕ
  all_owed parts = sum_by (letters_owed r) parts

  module _ (t : Truth S B) (d : Standing S B) where
    at_place : (w : Drawing S B) (k : ℕ) (l : Letter B) → slice_get w.waiting k ≡ Some l → IsRight r t d w → Right r t (part_at d w.parts) (take k w.waiting ++ l ∷ drop (suc k) w.waiting)
    at_place w k l there right = subst (λ ws. Right r t (part_at d w.parts) ws) (split_at w.waiting k l there) right.1

    is_with : (parts : List (Standing S B)) (q : ℕ) (s s' : Standing S B) → slice_get parts q ≡ Some s → IsWith (part_at d parts) q s' (part_at d (set parts q s'))
    is_with parts q s s' e = (get_or-set_same parts q s' d (slice_get_within parts q s e), λ x other. get_or-set_other parts q x s' d other)

    -- a letter that waits is handed to its part
    right_letter : Follows r t → (w : Drawing S B) (k : ℕ) (l : Letter B) → slice_get w.waiting k ≡ Some l → IsRight r t d w → IsRight r t d (with_part r w k l (slice_get w.parts l.target))
    right_letter follows w k l there right =
        elim (slice_get w.parts l.target) as (λ o. slice_get w.parts l.target ≡ o → IsRight r t d (with_part r w k l o)) [
          | None ↦ λ e. right
          | Some s ↦ λ e.
              let here : part_at d w.parts l.target ≡ s = get_or_from_slice_get w.parts l.target s d e in
              let changed : IsWith (part_at d w.parts) l.target (handed r (part_at d w.parts l.target) l).part (part_at d (set w.parts l.target (handed r s l).part))
              = subst (λ z. IsWith (part_at d w.parts) l.target (handed r z l).part (part_at d (set w.parts l.target (handed r s l).part))) (sym here) (is_with w.parts l.target s (handed r s l).part e) in
              let after = right_event r t follows (part_at d w.parts) (part_at d (set w.parts l.target (handed r s l).part)) (take k w.waiting) (drop (suc k) w.waiting) l (at_place w k l there right) changed in (
                length-set w.parts l.target (handed r s l).part ∙ right.0,
                subst (λ z. Right r t (part_at d (set w.parts l.target (handed r s l).part)) (remove w.waiting k ++ (handed r z l).letters)) here after.2,
              )
        ] refl

    pub right_turn : Follows r t → (x : ℕ) (w : Drawing S B) → IsRight r t d w → IsRight r t d (turn r x w)
    right_turn follows x w right =
        elim (slice_get w.waiting (x % length w.waiting)) as (λ o. slice_get w.waiting (x % length w.waiting) ≡ o → IsRight r t d (with_drawn r w (x % length w.waiting) o)) [
          | None ↦ λ e. right
          | Some l ↦ λ e. right_letter follows w (x % length w.waiting) l e right
        ] refl

    -- after every list of picks
    pub right_turns : Follows r t → (n : ℕ) (picks : List ℕ) (w : Drawing S B) → IsRight r t d w → IsRight r t d (turns r n picks w)
    right_turns follows zero picks w right = right
    right_turns follows (suc n) picks w right = right_turns follows n (other_picks picks) (turn r (first_pick picks) w) (right_turn follows (first_pick picks) w right)

    -- a letter that is drawn lowers by one what all are owed
    owed-letter : Follows r t → (w : Drawing S B) (k : ℕ) (l : Letter B) → slice_get w.waiting k ≡ Some l → IsRight r t d w → all_owed (with_part r w k l (slice_get w.parts l.target)).parts + 1 ≡ all_owed w.parts
    owed-letter follows w k l there right =
        let before = at_place w k l there right in
        let is_true = (middle r t (λ m. IsTrueLetter r t m) (take k w.waiting) l (drop (suc k) w.waiting) before.all_true).0 in
        let within : l.target < length w.parts = let e = right.0 in let i = is_true.3 in omega arith in
        let s = part_at d w.parts l.target in
        let is : slice_get w.parts l.target ≡ Some s = slice_get-get_or w.parts l.target d within in
        let after = right_event r t follows (part_at d w.parts) (part_at d (set w.parts l.target (handed r s l).part)) (take k w.waiting) (drop (suc k) w.waiting) l before (is_with w.parts l.target s (handed r s l).part is) in
        ap (λ o. all_owed (with_part r w k l o).parts + 1) is
        ∙ lowered _ _ _ _ (sum_by-set (letters_owed r) w.parts l.target (handed r s l).part d within) (taken_letter_lowers_what_is_owed r s l after.0 after.1)

    owed-turn : Follows r t → (x : ℕ) (w : Drawing S B) → IsRight r t d w → (w.waiting ≡ []) ⊎ (all_owed (turn r x w).parts + 1 ≡ all_owed w.parts)
    owed-turn follows x w right =
        let k = x % length w.waiting in
        elim (w.waiting) as (λ ws. w.waiting ≡ ws → (ws ≡ []) ⊎ (all_owed (turn r x w).parts + 1 ≡ all_owed w.parts)) [
          | [] ↦ λ e. inl refl
          | l ∷ ls ↦ λ e.
              let some : 0 < length w.waiting = subst (λ ws. 0 < length ws) (sym e) (omega arith) in
              let there : slice_get w.waiting k ≡ Some (get_or w.waiting k l) = slice_get-get_or w.waiting k l (mod_below x (length w.waiting) some) in
              inr (ap (λ o. all_owed (with_drawn r w k o).parts + 1) there ∙ owed-letter follows w k (get_or w.waiting k l) there right)
        ] refl

    idle_turn : (x : ℕ) (w : Drawing S B) → w.waiting ≡ [] → (turn r x w).waiting ≡ []
    idle_turn x w none =
        let nothing : slice_get w.waiting (x % length w.waiting) ≡ None = ap (λ ws. slice_get ws (x % length w.waiting)) none in
        ap (λ o. (with_drawn r w (x % length w.waiting) o).waiting) nothing ∙ none

    -- where no letter waits, or no more are owed than there are turns, none waits after these
    pub none_after : Follows r t → (n : ℕ) (picks : List ℕ) (w : Drawing S B) → IsRight r t d w → (w.waiting ≡ []) ⊎ (all_owed w.parts ≤ n) → (turns r n picks w).waiting ≡ []
    none_after follows zero picks w right few = elim few as (λ _. w.waiting ≡ []) [
      | inl none ↦ none
      | inr owed ↦ elim (owed-turn follows 0 w right) as (λ _. w.waiting ≡ []) [
        | inl none ↦ none
        | inr lower ↦ absurd (omega arith)
      ]
    ]
    none_after follows (suc n) picks w right few =
        let x = first_pick picks in
        none_after follows n (other_picks picks) (turn r x w) (right_turn follows x w right) (elim few as (λ _. ((turn r x w).waiting ≡ []) ⊎ (all_owed (turn r x w).parts ≤ n)) [
          | inl none ↦ inl (idle_turn x w none)
          | inr owed ↦ elim (owed-turn follows x w right) as (λ _. ((turn r x w).waiting ≡ []) ⊎ (all_owed (turn r x w).parts ≤ n)) [
            | inl none ↦ inl (idle_turn x w none)
            | inr lower ↦ inr (omega arith)
          ]
        ])

pub turns_stay_right : {S B W : Type 0} → TurnsStayRight S B W
turns_stay_right r t d follows n picks w right = right_turns r t d follows n picks w right
