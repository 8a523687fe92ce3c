-- Balance is kept while a part takes a letter and goes on.
use Rattle.std.proofs.Common.{◌≡◌, ◌≢◌, ℕ, zero, suc, ◌+◌, ◌≤◌, Bool, true, false, cond, not, ◌&&◌, List, [], ◌++◌, eqb, nat_lt, Ok, Err, refl, sym, ap, subst, ◌∙◌, arith}
use Rattle.std.specs.Prelude.{◌==◌}
use Rattle.std.proofs.lemmas.Bool.{false≢true}
use Rattle.std.proofs.lemmas.Bool.Decides.{nat_tests}
use Rattle.std.proofs.lemmas.List.{append_assoc, append-nil}
use Rattle.part_phases.specs.Inboxes.{lacks, put_in}
use Rattle.part_phases.specs.Phases.{after_entering, entered, gone_on, handed, if_complete, if_owed, is_complete, letters_of, moved, phases_left, stays, with_letter}
use Rattle.part_phases.specs.Standings.{Letter, Outcome, Over, Rules, Standing, Stepped, Waiting}
use Rattle.part_phases.proofs.Inboxes.{lacks-put_in, test_key}
use Rattle.part_phases.proofs.Owed.{owed_parts}
use Rattle.part_phases.specs.Balance.{BalanceIsKept, Balanced, IsWith, got, had, is_from_to, sent, tally}
use Rattle.part_phases.proofs.Balances.{balanced-moved, balanced-taken, tally-append, tally-late}

fewer : (all w ls g sp : ℕ) → all ≡ w + ls → ls ≡ 0 → all + g ≡ sp → w + g ≡ sp
fewer all w ls g sp a b c = omega arith

module _ {S B : Type 0} where
  -- with s in place of part q
  pub replaced : (ℕ → Standing S B) → ℕ → Standing S B → ℕ → Standing S B
  replaced at q s x = cond (x == q) s (at x)

  pub replaced-here : (at : ℕ → Standing S B) (q : ℕ) (s : Standing S B) → replaced at q s q ≡ s
  unfolding replaced
  replaced-here at q s = let same : (q == q) ≡ true = grind (arith, nat_tests) in ap (λ b. cond b s (at q)) same

  pub replaced-there : (at : ℕ → Standing S B) (q : ℕ) (s : Standing S B) (x : ℕ) → x ≢ q → replaced at q s x ≡ at x
  unfolding replaced
  replaced-there at q s x other = let apart : (x == q) ≡ false = grind (arith, nat_tests) in ap (λ b. cond b s (at x)) apart

  -- where the one part stands as before, all do
  pub everywhere : (at at' : ℕ → Standing S B) (q : ℕ) → IsWith at q (at q) at' → (x : ℕ) → at' x ≡ at x
  everywhere at at' q changed x = elim (x == q) as (λ k. (x == q) ≡ k → at' x ≡ at x) [
    | true ↦ λ e. let is : x ≡ q = grind (arith, nat_tests) in ap at' is ∙ changed.0 ∙ ap at (sym is)
    | false ↦ λ e. changed.1 x (λ g. false≢true (grind (arith, nat_tests)))
  ] refl

  -- a letter leaves number and round as they are
  pub same_part : (s : Standing S B) (l : Letter B) → ((with_letter s l).me ≡ s.me) × ((with_letter s l).round ≡ s.round) × ((with_letter s l).phase ≡ s.phase)
  same_part s l = elim (l.phase == s.phase) as (λ b. let z : Standing S B = cond b (record s { now = put_in l.sender l.body s.now }) (record s { early = put_in l.sender l.body s.early }) in (z.me ≡ s.me) × (z.round ≡ s.round) × (z.phase ≡ s.phase)) [
    | true ↦ (refl, refl, refl)
    | false ↦ (refl, refl, refl)
  ]

module _ {S B W : Type 0} (r : Rules S B W) where
  -- the own body is no letter
  got-entered : (s : Standing S B) (p n : ℕ) → p ≢ s.me → got (entered r s) p n ≡ got s p n
  got-entered s p n other =
      let apart : eqb p s.me ≡ false = grind (arith, nat_tests) in
      ap (λ b. cond (nat_lt n s.phase) 1 (cond (n == s.phase) (cond b 0 1) (cond (n == s.phase + 1) (had s.early p) 0)))
      (lacks-put_in s.me (r.sends s s.me) s.now p ∙ ap (λ z. not z && lacks s.now p) (test_key p s.me ∙ apart))

  -- what comes of a part whose phase leaves something
  pub opened : (n : ℕ) (s : Standing S B) (b : Bool) (held : S) → is_complete r s ≡ true → r.ends s ≡ Ok held → (s.phase == r.last s.round) ≡ b
      → gone_on r (suc n) s ≡ if_complete true (Ok held) b s (moved r s) (λ h. after_entering r (moved r s h) (gone_on r n (entered r (moved r s h))))
  opened n s b held c e f =
      let more : S → Outcome S B W = λ h. after_entering r (moved r s h) (gone_on r n (entered r (moved r s h))) in
      ap (λ z. if_complete z (r.ends s) (s.phase == r.last s.round) s (moved r s) more) c ∙ ap (λ z. if_complete true z (s.phase == r.last s.round) s (moved r s) more) e ∙ ap (λ z. if_complete true (Ok held) z s (moved r s) more) f

  pub still_open : (n : ℕ) (s : Standing S B) → is_complete r s ≡ false → gone_on r (suc n) s ≡ stays s (Stepped Waiting)
  still_open n s c = ap (λ b. if_complete b (r.ends s) (s.phase == r.last s.round) s (moved r s) (λ h. after_entering r (moved r s h) (gone_on r n (entered r (moved r s h))))) c

  pub gone_over : (n : ℕ) (s : Standing S B) (total : ℕ) → is_complete r s ≡ true → r.ends s ≡ Err total → gone_on r (suc n) s ≡ stays s (Stepped (Over s.phase total))
  gone_over n s total c e =
      let more : S → Outcome S B W = λ h. after_entering r (moved r s h) (gone_on r n (entered r (moved r s h))) in
      ap (λ z. if_complete z (r.ends s) (s.phase == r.last s.round) s (moved r s) more) c ∙ ap (λ z. if_complete true z (s.phase == r.last s.round) s (moved r s) more) e

  pub balanced_same : (last : ℕ) (at at' : ℕ → Standing S B) (waiting : List (Letter B)) → ((x : ℕ) → at' x ≡ at x) → Balanced r.parts last at waiting → Balanced r.parts last at' (waiting ++ [])
  balanced_same last at at' waiting same even p q n a b c d =
      ap (λ w. tally (is_from_to p q n) w + got (at' q) p n) (append-nil waiting) ∙ ap (λ z. tally (is_from_to p q n) waiting + got z p n) (same q) ∙ even p q n a b c d ∙ ap (λ z. sent z n) (sym (same p))

  -- one phase on, with the letters of the next
  pub balanced_entered : (last : ℕ) (at at' : ℕ → Standing S B) (waiting : List (Letter B)) (q : ℕ) (held : S) → Balanced r.parts last at waiting → is_complete r (at q) ≡ true → (at q).me ≡ q
      → IsWith at q (entered r (moved r (at q) held)) at' → Balanced r.parts last at' (waiting ++ letters_of r (moved r (at q) held))
  balanced_entered last at at' waiting q held even complete me changed p x n a b c d =
      let s : Standing S B = moved r (at q) held in
      let here = changed.0 in
      let there = changed.1 in
      let old = balanced-moved r at (replaced at q s) waiting q held last even complete me (replaced-here at q s) (replaced-there at q s) p x n a b c d in
      let sent_same : sent (at' p) n ≡ sent (replaced at q s p) n = elim (p == q) as (λ k. (p == q) ≡ k → sent (at' p) n ≡ sent (replaced at q s p) n) [
        | true ↦ λ e. let is : p ≡ q = grind (arith, nat_tests) in ap (λ z. sent (at' z) n) is ∙ ap (λ z. sent z n) here ∙ ap (λ z. sent z n) (sym (replaced-here at q s)) ∙ ap (λ z. sent (replaced at q s z) n) (sym is)
        | false ↦ λ e. let other : p ≢ q = λ g. false≢true (grind (arith, nat_tests)) in ap (λ z. sent z n) (there p other ∙ sym (replaced-there at q s p other))
      ] refl in
      let got_same : got (at' x) p n ≡ got (replaced at q s x) p n = elim (x == q) as (λ k. (x == q) ≡ k → got (at' x) p n ≡ got (replaced at q s x) p n) [
        | true ↦ λ e. let is : x ≡ q = grind (arith, nat_tests) in
            ap (λ z. got (at' z) p n) is ∙ ap (λ z. got z p n) here ∙ got-entered s p n (λ g. c (g ∙ me ∙ sym is)) ∙ ap (λ z. got z p n) (sym (replaced-here at q s)) ∙ ap (λ z. got (replaced at q s z) p n) (sym is)
        | false ↦ λ e. let other : x ≢ q = λ g. false≢true (grind (arith, nat_tests)) in ap (λ z. got z p n) (there x other ∙ sym (replaced-there at q s x other))
      ] refl in
      ap (λ k. tally (is_from_to p x n) (waiting ++ letters_of r s) + k) got_same ∙ old ∙ sym sent_same

  -- past the last phase, with no letters
  pub balanced_done : (last : ℕ) (at at' : ℕ → Standing S B) (waiting : List (Letter B)) (q : ℕ) (held : S) → Balanced r.parts last at waiting → is_complete r (at q) ≡ true → (at q).me ≡ q
      → last ≤ (at q).phase → IsWith at q (moved r (at q) held) at' → Balanced r.parts last at' (waiting ++ [])
  balanced_done last at at' waiting q held even complete me past changed p x n a b c d =
      let s : Standing S B = moved r (at q) held in
      let late : ((at q).phase + 1 == n) ≡ false = grind (arith, nat_tests) in
      ap (λ w. tally (is_from_to p x n) w + got (at' x) p n) (append-nil waiting)
      ∙ fewer _ _ _ _ _ (tally-append (is_from_to p x n) waiting (letters_of r s)) (tally-late r s p x n late) (balanced-moved r at at' waiting q held last even complete me changed.0 changed.1 p x n a b c d)

  pub balanced_gone_on : (n last : ℕ) (at at' : ℕ → Standing S B) (waiting : List (Letter B)) (q : ℕ) → Balanced r.parts last at waiting → (at q).me ≡ q → last ≡ r.last (at q).round
      → IsWith at q (gone_on r n (at q)).part at' → Balanced r.parts last at' (waiting ++ (gone_on r n (at q)).letters)
  balanced_gone_on zero last at at' waiting q even me is_last changed = balanced_same last at at' waiting (everywhere at at' q changed) even
  balanced_gone_on (suc n) last at at' waiting q even me is_last changed =
      let s : Standing S B = at q in
      elim (is_complete r s) as (λ c. is_complete r s ≡ c → Balanced r.parts last at' (waiting ++ (gone_on r (suc n) s).letters)) [
        | false ↦ λ c.
            let is = still_open n s c in
            subst (λ o. Balanced r.parts last at' (waiting ++ o.letters)) (sym is) (balanced_same last at at' waiting (everywhere at at' q (changed.0 ∙ ap (λ o. o.part) is, changed.1)) even)
        | true ↦ λ c. elim (r.ends s) as (λ e. r.ends s ≡ e → Balanced r.parts last at' (waiting ++ (gone_on r (suc n) s).letters)) [
          | Err total ↦ λ e.
              let is = gone_over n s total c e in
              subst (λ o. Balanced r.parts last at' (waiting ++ o.letters)) (sym is) (balanced_same last at at' waiting (everywhere at at' q (changed.0 ∙ ap (λ o. o.part) is, changed.1)) even)
          | Ok held ↦ λ e. elim (s.phase == r.last s.round) as (λ b. (s.phase == r.last s.round) ≡ b → Balanced r.parts last at' (waiting ++ (gone_on r (suc n) s).letters)) [
            | true ↦ λ b.
                let is = opened n s true held c e b in
                let past : last ≤ s.phase = grind (arith, nat_tests) in
                subst (λ o. Balanced r.parts last at' (waiting ++ o.letters)) (sym is) (balanced_done last at at' waiting q held even c me past (changed.0 ∙ ap (λ o. o.part) is, changed.1))
            | false ↦ λ b.
                let is = opened n s false held c e b in
                let s' : Standing S B = entered r (moved r s held) in
                let at1 = replaced at q s' in
                let now : at1 q ≡ s' = replaced-here at q s' in
                let even1 = balanced_entered last at at1 waiting q held even c me (now, replaced-there at q s') in
                let rest = balanced_gone_on n last at1 at' (waiting ++ letters_of r (moved r s held)) q even1 (ap (λ z. z.me) now ∙ me) (is_last ∙ ap (λ z. r.last z.round) (sym now))
                (changed.0 ∙ ap (λ o. o.part) is ∙ ap (λ z. (gone_on r n z).part) (sym now), λ x other. changed.1 x other ∙ sym (replaced-there at q s' x other)) in
                subst (λ w. Balanced r.parts last at' w) (ap (λ z. (waiting ++ letters_of r (moved r s held)) ++ (gone_on r n z).letters) now ∙ append_assoc waiting (letters_of r (moved r s held)) (gone_on r n s').letters ∙ ap (λ o. waiting ++ o.letters) (sym is)) rest
          ] refl
        ] refl
      ] refl

pub balance_is_kept : {S B W : Type 0} → BalanceIsKept S B W
balance_is_kept r at at' xs ys l even me owed right changed =
    let q = l.target in
    let s = at q in
    let last = r.last s.round in
    let is : handed r s l ≡ gone_on r (phases_left r s) (with_letter s l) = ap (λ z. if_owed z (r.wrong s.round l.body) s (gone_on r (phases_left r s) (with_letter s l))) owed ∙ ap (λ z. if_owed true z s (gone_on r (phases_left r s) (with_letter s l))) right in
    let at1 = replaced at q (with_letter s l) in
    let now : at1 q ≡ with_letter s l = replaced-here at q (with_letter s l) in
    let even1 = balanced-taken r at at1 xs ys l last even (owed_parts r s l owed).3 now (replaced-there at q (with_letter s l)) in
    let rest = balanced_gone_on r (phases_left r s) last at1 at' (xs ++ ys) q even1 (ap (λ z. z.me) now ∙ (same_part s l).0 ∙ me) (ap r.last (sym (ap (λ z. z.round) now ∙ (same_part s l).1)))
    (changed.0 ∙ ap (λ o. o.part) is ∙ ap (λ z. (gone_on r (phases_left r s) z).part) (sym now), λ x other. changed.1 x other ∙ sym (replaced-there at q (with_letter s l) x other)) in
    subst (λ w. Balanced r.parts last at' w) (ap (λ z. (xs ++ ys) ++ (gone_on r (phases_left r s) z).letters) now ∙ ap (λ o. (xs ++ ys) ++ o.letters) (sym is)) rest
