-- Where all stands right: what is so of a letter that is drawn, and of parts where none waits.
use Rattle.std.proofs.Common.{◌≡◌, ◌+◌, ◌<◌, ◌≤◌, ◌%◌, ℕ, zero, suc, Bool, true, false, not, ◌&&◌, nat_lt, List, [], ◌∷◌, ◌++◌, length, take, drop, set, Some, None, Ok, Err, refl, sym, ap, subst, ◌∙◌, arith}
use Rattle.std.specs.Prelude.{slice_get}
use Rattle.std.proofs.lemmas.Bool.{false≢true}
use Rattle.std.proofs.lemmas.Bool.Decides.{nat_tests}
use Rattle.std.proofs.lemmas.List.{get_or-set_other, get_or-set_same}
use Rattle.std.proofs.lemmas.Option.{get_or_from_slice_get, slice_get-get_or, slice_get_within}
use Rattle.part_phases.specs.Inboxes.{lacks}
use Rattle.part_phases.specs.Phases.{handed, is_complete, is_owed}
use Rattle.part_phases.specs.Standings.{Letter, Rules, Standing}
use Rattle.part_phases.proofs.Gathered.{none≢some}
use Rattle.part_phases.proofs.Owed.{in_phase, owed_parts}
use Rattle.phase_laws.specs.Drawing.{Drawing, IsRight, part_at, turn, with_drawn, with_part}
use Rattle.phase_laws.specs.Truth.{Follows, HasEnded, IsTrueLetter, Right, Tells, Truth}
use Rattle.phase_laws.proofs.Ends.{none_waits_just_at_the_end}
use Rattle.phase_laws.proofs.Events.{middle, right_event}
use Rattle.phase_laws.proofs.Staying.{same_some}
use Rattle.world_run.proofs.Resting.{could_go_on}

-- a list taken apart at a place
split_at : {X : Type 0} (xs : List X) (k : ℕ) (x : X) → slice_get xs k ≡ Some x → xs ≡ take k xs ++ x ∷ drop (suc k) xs
split_at [] k x e = absurd (none≢some x e)
split_at (y ∷ ys) zero x e = ap (λ z. z ∷ ys) (same_some y x e)
split_at (y ∷ ys) (suc k) x e = ap (λ r. y ∷ r) (split_at ys k x e)

second_holds : (a b : Bool) → a ≡ true → (a && not b) ≡ false → b ≡ true
second_holds true true e h = refl
second_holds true false e h = absurd (false≢true (sym h))
second_holds false b e h = absurd (false≢true e)

not_past : (phase last : ℕ) → phase ≤ last → nat_lt last phase ≡ false
not_past phase last below = grind (arith, nat_tests)

past : (phase last : ℕ) → last < phase → nat_lt last phase ≡ true
past phase last above = grind (arith, nat_tests)

is_past : (phase last : ℕ) → nat_lt last phase ≡ true → last < phase
is_past phase last h = grind (arith, nat_tests)

-- that a letter waits for this part, which is owed it
pub record IsFor {S B W : Type 0} (r : Rules S B W) (t : Truth S B) (w : Drawing S B) (l : Letter B) (s : Standing S B) : Type 0 where
  pub there : slice_get w.parts l.target ≡ Some s
  pub within : l.target < r.parts
  pub waits : nat_lt (r.last s.round) s.phase ≡ false
  pub owed : is_owed r s l ≡ true
  pub right : r.wrong s.round l.body ≡ None
  pub round : (handed r s l).part.round ≡ t.round
  pub tells : Tells r t l.target (handed r s l).part (handed r s l).answer

module _ {S B W : Type 0} (r : Rules S B W) (t : Truth S B) (d : Standing S B) where
  -- any letter that waits does so for the part that it names
  pub drawn_for : Follows r t → (w : Drawing S B) (k : ℕ) (l : Letter B) → slice_get w.waiting k ≡ Some l → IsRight r t d w → IsFor r t w l (part_at d w.parts l.target)
  drawn_for follows w k l there right =
      let before = subst (λ ws. Right r t (part_at d w.parts) ws) (split_at w.waiting k l there) right.1 in
      let is_true = (middle r t (λ m. IsTrueLetter r t m) (take k w.waiting) l (drop (suc k) w.waiting) before.all_true).0 in
      let within : l.target < r.parts = is_true.3 in
      let inside : l.target < length w.parts = let e = right.0 in omega arith in
      let s : Standing S B = part_at d w.parts l.target in
      let at' : ℕ → Standing S B = part_at d (set w.parts l.target (handed r s l).part) in
      let now : at' l.target ≡ (handed r s l).part = get_or-set_same w.parts l.target (handed r s l).part d inside in
      let after = right_event r t follows (part_at d w.parts) at' (take k w.waiting) (drop (suc k) w.waiting) l before (now, λ x other. get_or-set_other w.parts l.target x (handed r s l).part d other) in
      let stays = after.2 in
      let owed = owed_parts r s l after.0 in
      record {
        there = slice_get-get_or w.parts l.target d inside;
        within = within;
        waits = not_past s.phase (r.last s.round) (in_phase l.phase s.phase (r.last s.round) (lacks s.now l.sender) (lacks s.early l.sender) owed.3 owed.2);
        owed = after.0;
        right = after.1;
        round = sym (ap (λ z. z.round) now) ∙ ap (λ z. z.round) (stays.stands l.target within).is;
        tells = subst (λ z. Tells r t l.target z (handed r s l).answer) now after.3;
      }

  -- what a turn then leaves
  pub turn_is : (x : ℕ) (w : Drawing S B) (l : Letter B) (s : Standing S B) → slice_get w.waiting (x % length w.waiting) ≡ Some l → slice_get w.parts l.target ≡ Some s
      → turn r x w ≡ with_part r w (x % length w.waiting) l (Some s)
  turn_is x w l s there here = ap (with_drawn r w (x % length w.waiting)) there ∙ ap (with_part r w (x % length w.waiting) l) here

  -- where none waits, a part that can't go on is done
  pub done_at_end : Follows r t → (w : Drawing S B) → IsRight r t d w → w.waiting ≡ [] → (q : ℕ) (s : Standing S B) → slice_get w.parts q ≡ Some s → could_go_on r s ≡ false
      → nat_lt (r.last s.round) s.phase ≡ true
  done_at_end follows w right none q s there rested =
      let inside = slice_get_within w.parts q s there in
      let within : q < r.parts = let e = right.0 in omega arith in
      let here : part_at d w.parts q ≡ s = get_or_from_slice_get w.parts q s d there in
      let all = right.1 in
      let has = (none_waits_just_at_the_end r t follows (part_at d w.parts) w.waiting all).0 none q within in
      let round : s.round ≡ t.round = ap (λ z. z.round) (sym here) ∙ ap (λ z. z.round) (all.stands q within).is in
      let same : r.last s.round ≡ r.last t.round = ap r.last round in
      elim (t.outcome q) as (λ o. t.outcome q ≡ o → HasEnded r t.end s o → nat_lt (r.last s.round) s.phase ≡ true) [
        | Ok held ↦ λ o e. let last = (follows.final q within held o).0 in let phase = e.0 in past s.phase (r.last s.round) (omega (arith, same, last, phase))
        | Err total ↦ λ o e. second_holds (is_complete r s) (nat_lt (r.last s.round) s.phase) e.1 rested
      ] refl (subst (λ z. HasEnded r t.end z (t.outcome q)) here has)

  -- where all parts are done, none waits
  pub none_waits_for_done : Follows r t → (w : Drawing S B) → IsRight r t d w → ((q : ℕ) (s : Standing S B) → slice_get w.parts q ≡ Some s → nat_lt (r.last s.round) s.phase ≡ true)
      → w.waiting ≡ []
  none_waits_for_done follows w right done =
      let all = right.1 in
      (none_waits_just_at_the_end r t follows (part_at d w.parts) w.waiting all).1 (λ q within.
      let s : Standing S B = part_at d w.parts q in
      let inside : q < length w.parts = let e = right.0 in omega arith in
      let stands = all.stands q within in
      let above = is_past s.phase (r.last s.round) (done q s (slice_get-get_or w.parts q d inside)) in
      let same : r.last s.round ≡ r.last t.round = ap r.last (ap (λ z. z.round) stands.is) in
      let at_end : s.phase ≡ t.end + 1 = omega (arith, above, same, follows.upto, stands.upto) in
      subst (λ o. HasEnded r t.end s o) (sym (stands.done at_end)) (at_end, ap (λ z. z.holds) stands.is ∙ ap (λ n. t.holds n q) at_end))
