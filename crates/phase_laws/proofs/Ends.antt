-- No letter waits just where all parts have ended the round.
use Rattle.std.proofs.Common.{◌≡◌, ◌≢◌, ℕ, zero, suc, ◌+◌, ◌<◌, ◌≤◌, Bool, true, false, cond, List, [], ◌∷◌, nat_le, nat_lt, Result, Ok, Err, is_err, refl, sym, ap, subst, ◌∙◌, arith}
use Rattle.std.specs.Prelude.{◌==◌}
use Rattle.std.proofs.lemmas.Bool.{false≢true}
use Rattle.std.proofs.lemmas.Bool.Decides.{nat_tests}
use Rattle.part_phases.specs.Inboxes.{lacks, missing}
use Rattle.part_phases.specs.Phases.{is_complete}
use Rattle.part_phases.specs.Standings.{Letter, Rules, Standing}
use Rattle.part_phases.proofs.Inboxes.{missing-all, missing-none}
use Rattle.part_phases.specs.Balance.{got, had, sent}
use Rattle.phase_laws.specs.Truth.{Follows, HasEnded, NoneWaitsJustAtTheEnd, Right, Truth}
use Rattle.phase_laws.proofs.Events.{there_once, within_last}

alone : (g h s : ℕ) → 0 + g ≡ s → g ≡ h → s ≡ 1 → h ≡ 1
alone g h s a b c = omega arith

had_one : (b : Bool) → ◌≡◌ {A = ℕ} (cond b 0 1) 1 → b ≡ false
had_one true e = absurd (omega arith)
had_one false e = refl

too_many : (w g : ℕ) (b : Bool) → 0 < w → g ≡ 1 → w + g ≡ cond b 1 0 → ⊥
too_many w g true some one e = omega arith
too_many w g false some one e = omega arith

module _ {S B W : Type 0} (r : Rules S B W) (t : Truth S B) where
  -- a part has the letters of its phase where nothing waits and the others have gone as far
  has_all : (at : ℕ → Standing S B) → Right r t at [] → (q : ℕ) → q < r.parts → (at q).phase ≤ t.end → ((p : ℕ) → p < r.parts → (at q).phase ≤ (at p).phase) → is_complete r (at q) ≡ true
  has_all at right q within below as_far =
      let m = (at q).phase in
      let me : (at q).me ≡ q = ap (λ z. z.me) (right.stands q within).is in
      let all : (p : ℕ) → p < r.parts → p ≢ (at q).me → lacks (at q).now p ≡ false = λ p inside other.
      let even = right.balance p q m inside within (λ g. other (g ∙ sym me)) below in
      let entered_it : nat_le m (at p).phase ≡ true = within_last m (at p).phase (as_far p inside) in
      let not_before : nat_lt m (at q).phase ≡ false = grind (arith, nat_tests) in
      let here : (m == (at q).phase) ≡ true = grind (arith, nat_tests) in
      let got_is : got (at q) p m ≡ had (at q).now p = ap (λ b. cond b 1 (cond (m == (at q).phase) (had (at q).now p) (cond (m == (at q).phase + 1) (had (at q).early p) 0))) not_before ∙ ap (λ b. cond b (had (at q).now p) (cond (m == (at q).phase + 1) (had (at q).early p) 0)) here in
      let sent_is : sent (at p) m ≡ 1 = ap (λ b. cond {A = ℕ} b 1 0) entered_it in
      had_one (lacks (at q).now p) (alone _ _ _ even got_is sent_is) in
      ap (λ k. k == 0) (missing-all (at q).now r.parts (at q).me all)

  -- where nothing waits, all have gone as far as any phase up to the end
  as_far : (at : ℕ → Standing S B) → Right r t at [] → (m : ℕ) → m ≤ t.end → (q : ℕ) → q < r.parts → m ≤ (at q).phase
  as_far at right zero upto q within = omega arith
  as_far at right (suc m) upto q within =
      let before = as_far at right m (omega arith) in
      elim ((at q).phase == m) as (λ k. ((at q).phase == m) ≡ k → suc m ≤ (at q).phase) [
        | true ↦ λ e.
            let is : (at q).phase ≡ m = grind (arith, nat_tests) in
            let complete = has_all at right q within (omega arith) (λ p inside. let far = before p inside in omega arith) in
            let at_end = (right.rests q within (omega arith) complete).0 in
            omega arith
        | false ↦ λ e. let old = before q within in grind (arith, nat_tests)
      ] refl

  ended : Follows r t → (at : ℕ → Standing S B) → Right r t at [] → (q : ℕ) → q < r.parts → HasEnded r t.end (at q) (t.outcome q)
  ended follows at right q within =
      let stands = right.stands q within in
      let far = as_far at right t.end (omega arith) q within in
      let upto = stands.upto in
      elim ((at q).phase == t.end) as (λ k. ((at q).phase == t.end) ≡ k → HasEnded r t.end (at q) (t.outcome q)) [
        | true ↦ λ e.
            let is : (at q).phase ≡ t.end = grind (arith, nat_tests) in
            let complete = has_all at right q within (omega arith) (λ p inside. let other = as_far at right t.end (omega arith) p inside in omega arith) in
            let over = (right.rests q within (omega arith) complete).1 in
            elim (t.outcome q) as (λ o. is_err o ≡ true → HasEnded r t.end (at q) o) [
              | Ok held ↦ λ f. absurd (false≢true f)
              | Err total ↦ λ f. (is, complete)
            ] over
        | false ↦ λ e.
            let is : (at q).phase ≡ t.end + 1 = grind (arith, nat_tests) in
            subst (λ o. HasEnded r t.end (at q) o) (sym (stands.done is)) (is, ap (λ z. z.holds) stands.is ∙ ap (λ n. t.holds n q) is)
      ] refl

  -- a part that has ended has got all letters
  got_all : (s : Standing S B) (q p n : ℕ) (o : Result S ℕ) → s.me ≡ q → HasEnded r t.end s o → p < r.parts → p ≢ q → n ≤ t.end → got s p n ≡ 1
  got_all s q p n (Ok held) me has within other below =
      let phase = has.0 in
      let before : nat_lt n s.phase ≡ true = grind (arith, nat_tests) in
      ap (λ b. cond b 1 (cond (n == s.phase) (had s.now p) (cond (n == s.phase + 1) (had s.early p) 0))) before
  got_all s q p n (Err total) me has within other below =
      let phase = has.0 in
      let complete = has.1 in
      let none : missing r.parts s.me s.now ≡ 0 = grind (arith, nat_tests) in
      let there : had s.now p ≡ 1 = ap (λ b. cond {A = ℕ} b 0 1) (missing-none s.now r.parts s.me p none within (λ g. other (g ∙ me))) in
      elim (nat_lt n s.phase) as (λ k. nat_lt n s.phase ≡ k → cond k 1 (cond (n == s.phase) (had s.now p) (cond (n == s.phase + 1) (had s.early p) 0)) ≡ 1) [
        | true ↦ λ e. refl
        | false ↦ λ e.
            let here : (n == s.phase) ≡ true = grind (arith, nat_tests) in
            ap (λ b. cond b (had s.now p) (cond (n == s.phase + 1) (had s.early p) 0)) here ∙ there
      ] refl

  none_waits : (at : ℕ → Standing S B) (waiting : List (Letter B)) → Right r t at waiting → ((q : ℕ) → q < r.parts → HasEnded r t.end (at q) (t.outcome q)) → waiting ≡ []
  none_waits at [] right all = refl
  none_waits at (l ∷ ls) right all =
      let is_true = right.all_true.0 in
      let even = right.balance l.sender l.target l.phase is_true.2 is_true.3 is_true.4 is_true.1 in
      let was = got_all (at l.target) l.target l.sender l.phase (t.outcome l.target) (ap (λ z. z.me) (right.stands l.target is_true.3).is) (all l.target is_true.3) is_true.2 is_true.4 is_true.1 in
      absurd (too_many _ _ (nat_le l.phase (at l.sender).phase) (there_once r t [] l ls) was even)

pub none_waits_just_at_the_end : {S B W : Type 0} → NoneWaitsJustAtTheEnd S B W
none_waits_just_at_the_end r t follows at waiting right =
    (λ none q within. ended r t follows at (subst (λ w. Right r t at w) none right) q within, none_waits r t at waiting right)
