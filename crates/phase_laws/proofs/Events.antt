-- Each event leaves all parts where the truth says.
use Rattle.std.proofs.Common.{◌≡◌, ◌≢◌, ℕ, zero, suc, ◌+◌, ◌-◌, ◌<◌, ◌≤◌, Bool, true, false, cond, not, List, [], ◌∷◌, ◌++◌, nat_le, nat_lt, None, Ok, Err, is_err, refl, sym, ap, subst, ◌∙◌, arith}
use Rattle.std.specs.Prelude.{◌==◌}
use Rattle.std.specs.List.{AllByRecursion}
use Rattle.std.proofs.lemmas.Bool.{false≢true, and_from}
use Rattle.std.proofs.lemmas.Bool.Decides.{nat_tests}
use Rattle.std.proofs.lemmas.List.{append_assoc, append-nil}
use Rattle.part_phases.specs.Inboxes.{lacks}
use Rattle.part_phases.specs.Phases.{after_entering, answer_after, entered, gone_on, handed, if_complete, if_owed, is_complete, is_owed, letters_of, moved, phases_left, with_letter}
use Rattle.part_phases.specs.Standings.{Answer, Letter, Moved, NotExpected, Over, RoundDone, Rules, Standing, Stepped, Waiting, Wrong}
use Rattle.part_phases.proofs.Gathered.{all-append}
use Rattle.part_phases.proofs.Owed.{in_phase}
use Rattle.part_phases.specs.Balance.{Balanced, IsWith, is_from_to, tally}
use Rattle.phase_laws.specs.Truth.{EventStaysRight, Follows, IsTrueLetter, Rests, Right, Stands, Tells, Truth}
use Rattle.part_phases.proofs.Balances.{balanced-taken, tally-append, tally-cons, waits_owed}
use Rattle.part_phases.proofs.Kept.{balanced_done, balanced_entered, balanced_same, everywhere, gone_over, opened, replaced, replaced-here, replaced-there, same_part, still_open}
use Rattle.phase_laws.proofs.Staying.{outcome_is, sends_true, stands-done, stands-moved, stands-taken}

not_same : (a q me : ℕ) → a ≢ q → me ≡ q → (a == me) ≡ false
not_same a q me other is = elim (a == me) as (λ k. (a == me) ≡ k → k ≡ false) [
  | true ↦ λ e. absurd (other (grind (arith, nat_tests)))
  | false ↦ λ e. refl
] refl

pub within_last : (n last : ℕ) → n ≤ last → nat_le n last ≡ true
within_last n last l = grind (arith, nat_tests)

is_waiting : {W : Type 0} → Answer W → Bool
is_waiting (Stepped Waiting) = true
is_waiting (Stepped (Moved n)) = false
is_waiting (Stepped RoundDone) = false
is_waiting (Stepped (Over n total)) = false
is_waiting (NotExpected n) = false
is_waiting (Wrong w) = false

module _ {S B W : Type 0} (r : Rules S B W) where
  entering_says : (s : Standing S B) (a : Answer W) → is_waiting (answer_after s a) ≡ false
  unfolding is_waiting
  entering_says s (Stepped Waiting) = refl
  entering_says s (Stepped (Moved n)) = refl
  entering_says s (Stepped RoundDone) = refl
  entering_says s (Stepped (Over n total)) = refl
  entering_says s (NotExpected n) = refl
  entering_says s (Wrong w) = refl

  -- a part that only waits is as it was
  waiting_stays : (n : ℕ) (s : Standing S B) → is_waiting (gone_on r n s).answer ≡ true → (gone_on r n s).part ≡ s
  unfolding is_waiting
  waiting_stays zero s = λ waits. refl
  waiting_stays (suc n) s =
      elim (is_complete r s) as (λ c. is_waiting (if_complete c (r.ends s) (s.phase == r.last s.round) s (moved r s) (λ h. after_entering r (moved r s h) (gone_on r n (entered r (moved r s h))))).answer ≡ true
      → (if_complete c (r.ends s) (s.phase == r.last s.round) s (moved r s) (λ h. after_entering r (moved r s h) (gone_on r n (entered r (moved r s h))))).part ≡ s) [
        | false ↦ λ _. refl
        | true ↦ elim (r.ends s) as (λ e. is_waiting (if_complete true e (s.phase == r.last s.round) s (moved r s) (λ h. after_entering r (moved r s h) (gone_on r n (entered r (moved r s h))))).answer ≡ true
            → (if_complete true e (s.phase == r.last s.round) s (moved r s) (λ h. after_entering r (moved r s h) (gone_on r n (entered r (moved r s h))))).part ≡ s) [
              | Err total ↦ λ h. refl
              | Ok held ↦ elim (s.phase == r.last s.round) as (λ b. is_waiting (if_complete true (Ok held) b s (moved r s) (λ h. after_entering r (moved r s h) (gone_on r n (entered r (moved r s h))))).answer ≡ true
                  → (if_complete true (Ok held) b s (moved r s) (λ h. after_entering r (moved r s h) (gone_on r n (entered r (moved r s h))))).part ≡ s) [
                    | true ↦ λ h. absurd (false≢true h)
                    | false ↦ λ h. absurd (false≢true (sym (entering_says (moved r s held) (gone_on r n (entered r (moved r s held))).answer) ∙ h))
                  ]
            ]
      ]

  module _ (t : Truth S B) where
    -- all but that each part has gone on as far as it can
    pub record Agrees (at : ℕ → Standing S B) (waiting : List (Letter B)) : Type 0 where
      pub balance : Balanced r.parts t.end at waiting
      pub stands : (q : ℕ) → q < r.parts → Stands r t q (at q)
      pub all_true : AllByRecursion (λ l. IsTrueLetter r t l) waiting

    -- what an answer tells stays told where a phase was entered before
    tells_after : (q : ℕ) (before part : Standing S B) (a : Answer W) → (is_waiting a ≡ true → before.phase ≡ part.phase) → Tells r t q part a → Tells r t q part (answer_after before a)
    unfolding is_waiting
    tells_after q before part (Stepped Waiting) same tells = (same refl, tells.0, tells.1)
    tells_after q before part (Stepped (Moved n)) same tells = tells
    tells_after q before part (Stepped RoundDone) same tells = tells
    tells_after q before part (Stepped (Over n total)) same tells = tells
    tells_after q before part (NotExpected n) same tells = tells
    tells_after q before part (Wrong w) same tells = tells

    pub rests_told : (q : ℕ) (part : Standing S B) (a : Answer W) → Tells r t q part a → Rests r t q part
    rests_told q part (Stepped Waiting) tells below complete = absurd (false≢true (sym tells.1 ∙ complete))
    rests_told q part (Stepped (Moved n)) tells below complete = absurd (false≢true (sym tells.2 ∙ complete))
    rests_told q part (Stepped RoundDone) tells below complete = absurd (omega arith)
    rests_told q part (Stepped (Over n total)) tells below complete = (tells.1, ap is_err tells.2)
    rests_told q part (NotExpected n) tells below complete = absurd tells
    rests_told q part (Wrong w) tells below complete = absurd tells

    agrees_same : (at at' : ℕ → Standing S B) (waiting : List (Letter B)) → ((x : ℕ) → at' x ≡ at x) → Agrees at waiting → Agrees at' (waiting ++ [])
    agrees_same at at' waiting same agrees = record {
      balance = balanced_same r t.end at at' waiting same agrees.balance;
      stands = λ q within. subst (λ z. Stands r t q z) (sym (same q)) (agrees.stands q within);
      all_true = subst (λ w. AllByRecursion (λ l. IsTrueLetter r t l) w) (sym (append-nil waiting)) agrees.all_true;
    }

    -- all stand so where the one does that changed
    all_stand : (at at' : ℕ → Standing S B) (q : ℕ) (s : Standing S B) → IsWith at q s at' → Stands r t q s → ((x : ℕ) → x < r.parts → Stands r t x (at x)) → (x : ℕ) → x < r.parts → Stands r t x (at' x)
    all_stand at at' q s changed stands all x inside = elim (x == q) as (λ k. (x == q) ≡ k → Stands r t x (at' x)) [
      | true ↦ λ e. let is : x ≡ q = grind (arith, nat_tests) in
          subst (λ z. Stands r t z (at' z)) (sym is) (subst (λ z. Stands r t q z) (sym changed.0) stands)
      | false ↦ λ e. let other : x ≢ q = λ g. false≢true (grind (arith, nat_tests)) in subst (λ z. Stands r t x z) (sym (changed.1 x other)) (all x inside)
    ] refl

    -- one phase on, with the letters of the next
    agrees_moved : Follows r t → (at at' : ℕ → Standing S B) (waiting : List (Letter B)) (q : ℕ) → q < r.parts → Agrees at waiting → (at q).phase < t.end → is_complete r (at q) ≡ true
        → IsWith at q (entered r (moved r (at q) (t.holds ((at q).phase + 1) q))) at' → Agrees at' (waiting ++ letters_of r (moved r (at q) (t.holds ((at q).phase + 1) q)))
    agrees_moved follows at at' waiting q within agrees before complete changed =
        let held = t.holds ((at q).phase + 1) q in
        let s : Standing S B = moved r (at q) held in
        let me : (at q).me ≡ q = ap (λ z. z.me) (agrees.stands q within).is in
        let next = stands-moved r t follows q (at q) within (agrees.stands q within) before complete in
        record {
          balance = balanced_entered r t.end at at' waiting q held agrees.balance complete me changed;
          stands = all_stand at at' q (entered r s) changed next.1 agrees.stands;
          all_true = all-append _ waiting (letters_of r s) agrees.all_true (sends_true r t follows q s within (omega arith) next.2);
        }

    -- the end of the round for one part
    agrees_done : Follows r t → (at at' : ℕ → Standing S B) (waiting : List (Letter B)) (q : ℕ) → q < r.parts → Agrees at waiting → (at q).phase ≡ t.end → is_complete r (at q) ≡ true → t.outcome q ≡ Ok (t.holds (t.end + 1) q)
        → IsWith at q (moved r (at q) (t.holds ((at q).phase + 1) q)) at' → Agrees at' (waiting ++ [])
    agrees_done follows at at' waiting q within agrees at_last complete well changed =
        let held = t.holds ((at q).phase + 1) q in
        let me : (at q).me ≡ q = ap (λ z. z.me) (agrees.stands q within).is in
        record {
          balance = balanced_done r t.end at at' waiting q held agrees.balance complete me (omega arith) changed;
          stands = all_stand at at' q (moved r (at q) held) changed (stands-done r t follows q (at q) within (agrees.stands q within) at_last complete well).1 agrees.stands;
          all_true = subst (λ w. AllByRecursion (λ l. IsTrueLetter r t l) w) (sym (append-nil waiting)) agrees.all_true;
        }

    -- where a part goes on, all stand right afterwards
    pub agrees_gone_on : Follows r t → (n : ℕ) (at at' : ℕ → Standing S B) (waiting : List (Letter B)) (q : ℕ) → q < r.parts → Agrees at waiting → (at q).phase ≤ t.end → (at q).phase + n ≡ r.last t.round + 1
        → IsWith at q (gone_on r n (at q)).part at'
        → Agrees at' (waiting ++ (gone_on r n (at q)).letters) × Tells r t q (at' q) (gone_on r n (at q)).answer
    agrees_gone_on follows zero at at' waiting q within agrees below fuel changed = let upto = follows.upto in absurd (omega arith)
    agrees_gone_on follows (suc n) at at' waiting q within agrees below fuel changed =
        let upto = follows.upto in
        let round : (at q).round ≡ t.round = ap (λ z. z.round) (agrees.stands q within).is in
        let s : Standing S B = at q in
        elim (is_complete r s) as (λ c. is_complete r s ≡ c → Agrees at' (waiting ++ (gone_on r (suc n) s).letters) × Tells r t q (at' q) (gone_on r (suc n) s).answer) [
          | false ↦ λ c.
              let is = still_open r n s c in
              let same : at' q ≡ at q = changed.0 ∙ ap (λ o. o.part) is in (
                subst (λ o. Agrees at' (waiting ++ o.letters)) (sym is) (agrees_same at at' waiting (everywhere at at' q (same, changed.1)) agrees),
                subst (λ a. Tells r t q (at' q) a) (sym (ap (λ o. o.answer) is)) (subst (λ z. z.phase ≤ t.end) (sym same) below, ap (is_complete r) same ∙ c),
              )
          | true ↦ λ c. elim (s.phase == t.end) as (λ b. (s.phase == t.end) ≡ b → Agrees at' (waiting ++ (gone_on r (suc n) s).letters) × Tells r t q (at' q) (gone_on r (suc n) s).answer) [
            | true ↦ λ b.
                let at_last : s.phase ≡ t.end = grind (arith, nat_tests) in
                let ends = outcome_is r t follows q s within (agrees.stands q within) at_last c in
                elim (t.outcome q) as (λ o. t.outcome q ≡ o → Agrees at' (waiting ++ (gone_on r (suc n) s).letters) × Tells r t q (at' q) (gone_on r (suc n) s).answer) [
                  | Err total ↦ λ o.
                      let is = gone_over r n s total c (ends ∙ o) in
                      let same : at' q ≡ at q = changed.0 ∙ ap (λ z. z.part) is in (
                        subst (λ z. Agrees at' (waiting ++ z.letters)) (sym is) (agrees_same at at' waiting (everywhere at at' q (same, changed.1)) agrees),
                        subst (λ a. Tells r t q (at' q) a) (sym (ap (λ z. z.answer) is)) (at_last, ap (λ z. z.phase) same ∙ at_last, o),
                      )
                  | Ok held' ↦ λ o.
                      let last = follows.final q within held' o in
                      let well : t.outcome q ≡ Ok (t.holds (t.end + 1) q) = o ∙ ap Ok last.1 in
                      let held = t.holds (s.phase + 1) q in
                      let done = stands-done r t follows q s within (agrees.stands q within) at_last c well in
                      let at_end : (s.phase == r.last t.round) ≡ true = let l = last.0 in grind (arith, nat_tests) in
                      let is = opened r n s true held c done.0 (ap (λ z. s.phase == r.last z) round ∙ at_end) in
                      let here : at' q ≡ moved r s held = changed.0 ∙ ap (λ z. z.part) is in (
                        subst (λ z. Agrees at' (waiting ++ z.letters)) (sym is) (agrees_done follows at at' waiting q within agrees at_last c well (here, changed.1)),
                        subst (λ a. Tells r t q (at' q) a) (sym (ap (λ z. z.answer) is)) (ap (λ z. z.phase) here ∙ ap (λ k. k + 1) at_last),
                      )
                ] refl
            | false ↦ λ b.
                let before : s.phase < t.end = grind (arith, nat_tests) in
                let held = t.holds (s.phase + 1) q in
                let next = stands-moved r t follows q s within (agrees.stands q within) before c in
                let s' : Standing S B = entered r (moved r s held) in
                let at1 = replaced at q s' in
                let now : at1 q ≡ s' = replaced-here at q s' in
                let not_last : (s.phase == r.last t.round) ≡ false = grind (arith, nat_tests) in
                let is = opened r n s false held c next.0 (ap (λ z. s.phase == r.last z) round ∙ not_last) in
                let agrees1 = agrees_moved follows at at1 waiting q within agrees before c (now, replaced-there at q s') in
                let phase1 : (at1 q).phase ≡ s.phase + 1 = ap (λ z. z.phase) now in
                let here : at' q ≡ (gone_on r n s').part = changed.0 ∙ ap (λ o. o.part) is in
                let rest = agrees_gone_on follows n at1 at' (waiting ++ letters_of r (moved r s held)) q within agrees1 (omega arith) (omega arith)
                (here ∙ ap (λ z. (gone_on r n z).part) (sym now), λ x other. changed.1 x other ∙ sym (replaced-there at q s' x other)) in (
                  subst (λ w. Agrees at' w) (ap (λ z. (waiting ++ letters_of r (moved r s held)) ++ (gone_on r n z).letters) now ∙ append_assoc waiting (letters_of r (moved r s held)) (gone_on r n s').letters ∙ ap (λ o. waiting ++ o.letters) (sym is)) rest.0,
                  subst (λ a. Tells r t q (at' q) a) (sym (ap (λ z. z.answer) is))
                      (tells_after q (moved r s held) (at' q) (gone_on r n s').answer (λ waits. sym (ap (λ z. z.phase) (here ∙ waiting_stays n s' waits)))
                      (subst (λ z. Tells r t q (at' q) (gone_on r n z).answer) now rest.1)),
                )
          ] refl
        ] refl

    -- the letter in the middle is true, and so are the others
    pub middle : (P : Letter B → Type 0) (xs : List (Letter B)) (l : Letter B) (ys : List (Letter B)) → AllByRecursion P (xs ++ l ∷ ys) → P l × AllByRecursion P (xs ++ ys)
    middle P [] l ys h = (h.0, h.1)
    middle P (x ∷ xs) l ys h = let rest = middle P xs l ys h.1 in (rest.0, (h.0, rest.1))

    pub there_once : (xs : List (Letter B)) (l : Letter B) (ys : List (Letter B)) → 0 < tally (is_from_to l.sender l.target l.phase) (xs ++ l ∷ ys)
    there_once xs l ys =
        let split = tally-append (is_from_to l.sender l.target l.phase) xs (l ∷ ys) ∙ ap (λ k. tally (is_from_to l.sender l.target l.phase) xs + k) (tally-cons (is_from_to l.sender l.target l.phase) l ys) in
        let a : (l.sender == l.sender) ≡ true = grind (arith, nat_tests) in
        let b : (l.target == l.target) ≡ true = grind (arith, nat_tests) in
        let c : (l.phase == l.phase) ≡ true = grind (arith, nat_tests) in
        let here : is_from_to l.sender l.target l.phase l ≡ true = rw (a, b, c) refl in
        let one : cond {A = ℕ} (is_from_to l.sender l.target l.phase l) 1 0 ≡ 1 = ap (λ k. cond {A = ℕ} k 1 0) here in
        omega arith

    -- where the parts that did not change rest, and an answer tells of the one that did, all stands right
    pub all_right : (at at' : ℕ → Standing S B) (waiting : List (Letter B)) (q : ℕ) (s : Standing S B) (a : Answer W) → IsWith at q s at' → Agrees at' waiting → Tells r t q (at' q) a
        → ((x : ℕ) → x < r.parts → x ≢ q → Rests r t x (at x)) → Right r t at' waiting
    all_right at at' waiting q s a changed agrees tells rests = record {
      balance = agrees.balance;
      stands = agrees.stands;
      all_true = agrees.all_true;
      rests = λ x inside. elim (x == q) as (λ k. (x == q) ≡ k → Rests r t x (at' x)) [
        | true ↦ λ e. let is : x ≡ q = grind (arith, nat_tests) in subst (λ z. Rests r t z (at' z)) (sym is) (rests_told q (at' q) a tells)
        | false ↦ λ e. let other : x ≢ q = λ g. false≢true (grind (arith, nat_tests)) in subst (λ z. Rests r t x z) (sym (changed.1 x other)) (rests x inside other)
      ] refl;
    }

    -- an event: a letter that waits is handed to the part that it names
    pub right_event : Follows r t → (at at' : ℕ → Standing S B) (xs ys : List (Letter B)) (l : Letter B) → Right r t at (xs ++ l ∷ ys) → IsWith at l.target (handed r (at l.target) l).part at'
        → (is_owed r (at l.target) l ≡ true) × (r.wrong (at l.target).round l.body ≡ None) × Right r t at' ((xs ++ ys) ++ (handed r (at l.target) l).letters)
        × Tells r t l.target (at' l.target) (handed r (at l.target) l).answer
    right_event follows at at' xs ys l right changed =
        let upto = follows.upto in
        let q = l.target in
        let s : Standing S B = at q in
        let both = middle (λ m. IsTrueLetter r t m) xs l ys right.all_true in
        let is_true = both.0 in
        let within : q < r.parts = is_true.3 in
        let stands = right.stands q within in
        let me : s.me ≡ q = ap (λ z. z.me) stands.is in
        let round : s.round ≡ t.round = ap (λ z. z.round) stands.is in
        let open_now = waits_owed r at (xs ++ l ∷ ys) (t.end) l.sender q l.phase right.balance is_true.2 within is_true.4 is_true.1 (there_once xs l ys) (right.stands l.sender is_true.2).upto in
        let fits : r.fits l.phase l.body ≡ true = ap (r.fits l.phase) is_true.5 ∙ follows.fits l.phase l.sender q is_true.1 is_true.2 within in
        let right_body : r.wrong s.round l.body ≡ None = ap (λ z. r.wrong z l.body) round ∙ ap (r.wrong t.round) is_true.5 ∙ follows.right l.phase l.sender q is_true.1 is_true.2 within in
        let a : (l.round == s.round) ≡ true = let e = is_true.0 in grind (arith, nat_tests) in
        let b : (q == s.me) ≡ true = grind (arith, nat_tests) in
        let c : nat_lt l.sender r.parts ≡ true = let e = is_true.2 in grind (arith, nat_tests) in
        let d : not (l.sender == s.me) ≡ true = ap not (let e = is_true.4 in not_same l.sender q s.me e me) in
        let e : nat_le l.phase (r.last s.round) ≡ true = ap (λ z. nat_le l.phase (r.last z)) round ∙ (let g = is_true.1 in within_last l.phase (r.last t.round) (omega arith)) in
        let owed : is_owed r s l ≡ true = and_from _ _ a (and_from _ _ b (and_from _ _ c (and_from _ _ d (and_from _ _ e (and_from _ _ fits open_now))))) in
        let is : handed r s l ≡ gone_on r (phases_left r s) (with_letter s l) = ap (λ z. if_owed z (r.wrong s.round l.body) s (gone_on r (phases_left r s) (with_letter s l))) owed ∙ ap (λ z. if_owed true z s (gone_on r (phases_left r s) (with_letter s l))) right_body in
        let at1 = replaced at q (with_letter s l) in
        let now : at1 q ≡ with_letter s l = replaced-here at q (with_letter s l) in
        let there = replaced-there at q (with_letter s l) in
        let agrees1 : Agrees at1 (xs ++ ys) = record {
          balance = balanced-taken r at at1 xs ys l (t.end) right.balance open_now now there;
          stands = all_stand at at1 q (with_letter s l) (now, there) (stands-taken r t q s l stands is_true refl open_now) right.stands;
          all_true = both.1;
        } in
        let below : s.phase ≤ t.end = in_phase l.phase s.phase (t.end) (lacks s.now l.sender) (lacks s.early l.sender) open_now is_true.1 in
        let phase1 : (at1 q).phase ≡ s.phase = ap (λ z. z.phase) now ∙ (same_part s l).2 in
        let left_is : phases_left r s ≡ (r.last t.round + 1) - s.phase = ap (λ z. (r.last z + 1) - s.phase) round in
        let rest = agrees_gone_on follows (phases_left r s) at1 at' (xs ++ ys) q within agrees1 (omega arith) (omega arith)
        (changed.0 ∙ ap (λ o. o.part) is ∙ ap (λ z. (gone_on r (phases_left r s) z).part) (sym now), λ x other. changed.1 x other ∙ sym (there x other)) in
        let tells : Tells r t q (at' q) (handed r s l).answer = subst (λ a. Tells r t q (at' q) a) (ap (λ z. (gone_on r (phases_left r s) z).answer) now ∙ ap (λ o. o.answer) (sym is)) rest.1 in
        let agrees : Agrees at' ((xs ++ ys) ++ (handed r s l).letters) = subst (λ w. Agrees at' w) (ap (λ z. (xs ++ ys) ++ (gone_on r (phases_left r s) z).letters) now ∙ ap (λ o. (xs ++ ys) ++ o.letters) (sym is)) rest.0 in
        (owed, right_body, all_right at at' ((xs ++ ys) ++ (handed r s l).letters) q (handed r s l).part (handed r s l).answer changed agrees tells (λ x inside other. right.rests x inside), tells)

pub event_stays_right : {S B W : Type 0} → EventStaysRight S B W
event_stays_right r t follows at at' xs ys l right changed = right_event r t follows at at' xs ys l right changed
