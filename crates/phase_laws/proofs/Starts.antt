-- Where all parts have begun a round, all stands right; and all end it, whatever is drawn.
use Rattle.std.proofs.Common.{◌≡◌, ◌≢◌, ℕ, zero, suc, ◌+◌, ◌-◌, ◌*◌, ◌<◌, ◌≤◌, Bool, true, false, cond, not, ◌&&◌, List, [], ◌∷◌, ◌++◌, get_or, length, map, take, nat_le, nat_lt, Some, None, inr, refl, sym, ap, subst, ◌∙◌, arith}
use Rattle.std.specs.Prelude.{◌==◌}
use Rattle.std.specs.List.{AllByRecursion, flat_map, sum_by}
use Rattle.std.specs.Ordering.{nat_cmp, is_eq}
use Rattle.std.specs.Cmp.{nat_cmp_total, tied_itself}
use Rattle.std.specs.FinMap.Entries.{find-put}
use Rattle.std.proofs.lemmas.Bool.{false≢true}
use Rattle.std.proofs.lemmas.Bool.Decides.{nat_tests}
use Rattle.std.proofs.lemmas.Grind.{flat_map-append}
use Rattle.std.proofs.lemmas.List.{append-nil, get_or-map, length-map}
use Rattle.std.proofs.lemmas.List.Concat.{flat_map-cons}
use Rattle.std.proofs.lemmas.List.Sums.{sum_by-cons}
use Rattle.std.proofs.Math.Nat.{suc-mul}
use Rattle.std.proofs.Math.Seq.{take-suc}
use Rattle.part_phases.specs.Inboxes.{Inbox, lacks, missing, others, put_in}
use Rattle.part_phases.specs.Owed.{letters_owed}
use Rattle.part_phases.specs.Phases.{after_entering, begins_at, begun, entered, gone_on, is_complete, letters_of, phases_left, stays}
use Rattle.part_phases.specs.Standings.{Letter, Outcome, Rules, Standing, Stepped, Waiting}
use Rattle.part_phases.proofs.Gathered.{all-append}
use Rattle.part_phases.proofs.Inboxes.{lacks-put_in, length-others, missing-empty, missing-own, test_key}
use Rattle.part_phases.proofs.Owed.{round_begun_owes_all_letters}
use Rattle.part_phases.specs.Balance.{IsWith, got, is_from_to, sent, tally}
use Rattle.phase_laws.specs.Drawing.{AllEndWhateverIsDrawn, BeginSo, StartIsRight, all_begun, part_at}
use Rattle.phase_laws.specs.Truth.{Follows, IsTrueLetter, Rests, Right, Stands, Truth, standing}
use Rattle.part_phases.proofs.Balances.{tally-append, tally-letters_of, tally-of_others}
use Rattle.phase_laws.proofs.Draws.{all_owed, none_after, right_turns}
use Rattle.phase_laws.proofs.Ends.{none_waits_just_at_the_end}
use Rattle.phase_laws.proofs.Events.{Agrees, agrees_gone_on, all_right}
use Rattle.part_phases.proofs.Kept.{replaced, replaced-here, replaced-there, still_open}
use Rattle.phase_laws.proofs.Staying.{none_true, sends_true, true_put_in}

grown : (p m : ℕ) (z : Bool) → cond (nat_lt p m && z) 1 0 + cond ((m == p) && z) 1 0 ≡ cond (nat_lt p (suc m) && z) 1 0
grown p m true = grind (arith, nat_tests)
grown p m false = grind (arith, nat_tests)

same_number : (a b : ℕ) → (a == b) ≡ true → a ≡ b
same_number a b e = grind (arith, nat_tests)

is_same : (a b : ℕ) → a ≡ b → (a == b) ≡ true
is_same a b e = grind (arith, nat_tests)

differ : (a b : ℕ) → a ≢ b → (a == b) ≡ false
differ a b h = elim (a == b) as (λ k. (a == b) ≡ k → k ≡ false) [ true ↦ λ e. absurd (h (same_number a b e)) | false ↦ λ e. refl ] refl

below_zero : (n : ℕ) → nat_le n 0 ≡ (0 == n)
below_zero n = grind (arith, nat_tests)

nothing : (a b c x : Bool) → x ≡ true → a ≡ false → ◌≡◌ {A = ℕ} (cond a 1 (cond b (cond x 0 1) (cond c 0 0))) 0
nothing true b c x e f = absurd (false≢true (sym f))
nothing false true c x e f = ap (λ z. cond {A = ℕ} z 0 1) e
nothing false false true x e f = refl
nothing false false false x e f = refl

start_even : (w g s n : ℕ) → w ≡ cond (0 == n) 1 0 → g ≡ 0 → s ≡ cond (0 == n) 1 0 → w + g ≡ s
start_even w g s n a b c = omega arith

-- lists one after the other, as many as a number says
abbrev upto : {X : Type 0} → (ℕ → List X) → ℕ → List X
upto lists zero = []
upto lists (suc n) = upto lists n ++ lists n

upto-same : {X : Type 0} (f g : ℕ → List X) (n : ℕ) → ((q : ℕ) → q < n → f q ≡ g q) → upto f n ≡ upto g n
upto-same f g zero same = refl
upto-same f g (suc n) same = ap (λ xs. xs ++ f n) (upto-same f g n (λ q l. same q (omega arith))) ∙ ap (λ xs. upto g n ++ xs) (same n (omega arith))

taken-upto : {X Y : Type 0} (f : X → List Y) (xs : List X) (d : X) (k : ℕ) → k ≤ length xs → flat_map f (take k xs) ≡ upto (λ q. f (get_or xs q d)) k
taken-upto f xs d zero within = refl
taken-upto f xs d (suc k) within =
    ap (flat_map f) (take-suc xs k d (omega arith)) ∙ flat_map-append f (take k xs) (get_or xs k d ∷ [])
    ∙ ap (λ ys. ys ++ flat_map f (get_or xs k d ∷ [])) (taken-upto f xs d k (omega arith))
    ∙ ap (λ ys. upto (λ q. f (get_or xs q d)) k ++ ys) (flat_map-cons f (get_or xs k d) [] ∙ append-nil (f (get_or xs k d)))

take_all : {X : Type 0} (xs : List X) → take (length xs) xs ≡ xs
take_all [] = refl
take_all (x ∷ xs) = ap (λ r. x ∷ r) (take_all xs)

sum_of_same : {X : Type 0} (f : X → ℕ) (c : ℕ) (d : X) (xs : List X) → ((i : ℕ) → i < length xs → f (get_or xs i d) ≡ c) → sum_by f xs ≡ length xs * c
sum_of_same f c d [] same = omega arith
sum_of_same f c d (x ∷ xs) same =
    let rest = sum_of_same f c d xs (λ i l. same (suc i) (omega arith)) in
    sum_by-cons f x xs ∙ ap (λ n. n + sum_by f xs) (same 0 (omega arith)) ∙ ap (λ n. c + n) rest ∙ sym (suc-mul (length xs) c ∙ omega arith)

module _ {S B W : Type 0} (r : Rules S B W) (t : Truth S B) where
  -- a part in the first phase, without a body
  abbrev first : ℕ → Standing S B
  first q = standing t 0 q [] []

  -- the letters of all parts below n, parts ascending
  abbrev letters_upto : ℕ → List (Letter B)
  letters_upto n = upto (λ q. letters_of r (first q)) n

  tally-upto : (m p q n : ℕ) → q < r.parts → p ≢ q → tally (is_from_to p q n) (letters_upto m) ≡ cond (nat_lt p m && (0 == n)) 1 0
  tally-upto zero p q n within apart = let none : nat_lt p 0 ≡ false = grind (arith, nat_tests) in rw none refl
  tally-upto (suc m) p q n within apart =
      let rest = tally-upto m p q n within apart in
      let last : tally (is_from_to p q n) (letters_of r (first m)) ≡ cond ((m == p) && (0 == n)) 1 0 = elim (q == m) as (λ b. (q == m) ≡ b → tally (is_from_to p q n) (letters_of r (first m)) ≡ cond ((m == p) && (0 == n)) 1 0) [
        | true ↦ λ e.
            let other : p ≢ m = λ g. apart (g ∙ sym (same_number q m e)) in
            let not_p : (m == p) ≡ false = differ m p (λ g. other (sym g)) in
            tally-of_others r (first m) p q n other ∙ ap (λ b. cond {A = ℕ} (b && (0 == n)) 1 0) (sym not_p)
        | false ↦ λ e. tally-letters_of r (first m) p q n within (λ g. false≢true (sym e ∙ is_same q m g))
      ] refl in
      tally-append (is_from_to p q n) (letters_upto m) (letters_of r (first m)) ∙ ap (λ k. k + tally (is_from_to p q n) (letters_of r (first m))) rest ∙ ap (λ k. cond (nat_lt p m && (0 == n)) 1 0 + k) last ∙ grown p m (0 == n)

  first_stands : Follows r t → (q : ℕ) → q < r.parts → Stands r t q (entered r (first q))
  first_stands follows q within =
      let own : r.sends (first q) q ≡ t.letter 0 q q = follows.sends 0 q q [] [] (omega arith) within within in
      record {
        is = refl;
        now = true_put_in r t 0 q q (r.sends (first q) q) [] within own (none_true r t 0 q);
        early = none_true r t 1 q;
        own = λ _. find-put nat_cmp nat_cmp_total q q (r.sends (first q) q) [] ∙ ap (λ b. cond b (Some (r.sends (first q) q)) None) (ap is_eq (tied_itself nat_cmp_total q)) ∙ ap Some own;
        none_early = λ _. refl;
        upto = omega arith;
        done = λ over. absurd (omega arith);
      }

  letters_true : Follows r t → (n : ℕ) → n ≤ r.parts → AllByRecursion (λ l. IsTrueLetter r t l) (letters_upto n)
  letters_true follows zero upto = tt
  letters_true follows (suc n) upto = all-append _ (letters_upto n) (letters_of r (first n)) (letters_true follows n (omega arith)) (sends_true r t follows n (first n) (omega arith) (omega arith) refl)

  agrees_start : Follows r t → Agrees r t (λ q. entered r (first q)) (letters_upto r.parts)
  agrees_start follows = record {
    balance = λ p q n below_p below_q apart within.
        let all : nat_lt p r.parts ≡ true = grind (arith, nat_tests) in
        let sends : tally (is_from_to p q n) (letters_upto r.parts) ≡ cond (0 == n) 1 0 = tally-upto r.parts p q n below_q apart ∙ ap (λ b. cond {A = ℕ} (b && (0 == n)) 1 0) all in
        let lacking : lacks (put_in q (r.sends (first q) q) []) p ≡ true = lacks-put_in q (r.sends (first q) q) [] p ∙ ap (λ b. not b && true) (test_key p q ∙ differ p q apart) in
        let none : got (entered r (first q)) p n ≡ 0 = nothing (nat_lt n 0) (n == 0) (n == 0 + 1) (lacks (put_in q (r.sends (first q) q) []) p) lacking (grind (arith, nat_tests)) in
        start_even _ _ _ n sends none (ap (λ b. cond {A = ℕ} b 1 0) (below_zero n));
    stands = first_stands follows;
    all_true = letters_true follows r.parts (omega arith);
  }

  right_within : (at at' : ℕ → Standing S B) (waiting : List (Letter B)) → ((x : ℕ) → x < r.parts → at' x ≡ at x) → Right r t at waiting → Right r t at' waiting
  right_within at at' waiting same right = record {
    balance = λ p q n a b c e. ap (λ z. tally (is_from_to p q n) waiting + got z p n) (same q b) ∙ right.balance p q n a b c e ∙ ap (λ z. sent z n) (sym (same p a));
    stands = λ q within. subst (λ z. Stands r t q z) (sym (same q within)) (right.stands q within);
    all_true = right.all_true;
    rests = λ q within. subst (λ z. Rests r t q z) (sym (same q within)) (right.rests q within);
  }

  -- with another part, a part that enters the first phase waits
  is_open : (q : ℕ) → q < r.parts → 1 < r.parts → is_complete r (entered r (first q)) ≡ false
  is_open q within more =
      let others_are = length-others r.parts q within in
      let some : missing r.parts q (put_in q (r.sends (first q) q) []) ≡ length (others r.parts q) = missing-own q (r.sends (first q) q) [] r.parts ∙ missing-empty B r.parts q in
      ap (λ n. n == 0) some ∙ differ (length (others r.parts q)) 0 (λ e. absurd (omega arith))

  -- what comes of a part that has entered the first phase
  abbrev out : ℕ → Outcome S B W
  out q = gone_on r (r.last t.round + 1) (entered r (first q))

  out_waits : (q : ℕ) → q < r.parts → 1 < r.parts → out q ≡ stays (entered r (first q)) (Stepped Waiting)
  out_waits q within more =
      let one : r.last t.round + 1 ≡ suc (r.last t.round) = omega arith in
      ap (λ n. gone_on r n (entered r (first q))) one ∙ still_open r (r.last t.round) (entered r (first q)) (is_open q within more)

  abbrev made : ℕ → S → List (Inbox B) → Standing S B
  made m h k = record { me = m; round = t.round; phase = 0; holds = h; now = []; early = []; kept = k }

  module _ (d : Standing S B) (parts : List (Standing S B)) (begin : BeginSo r t d parts) where
    begun_is : (q : ℕ) → q < r.parts → begun r t.round (part_at d parts q) ≡ after_entering r (first q) (out q)
    begun_is q within =
        let s = part_at d parts q in
        let is : begins_at r t.round s ≡ first q = ap (λ m. made m (r.begins t.round s) []) (begin.numbers q within) ∙ ap (λ h. made q h []) (begin.holds q within) ∙ ap (λ k. made q (t.holds 0 q) k) (sym (begin.kept q within)) in
        let fuel : phases_left r (first q) ≡ r.last t.round + 1 = omega arith in
        ap (λ f. after_entering r f (gone_on r (phases_left r f) (entered r f))) is ∙ ap (λ n. after_entering r (first q) (gone_on r n (entered r (first q)))) fuel

    abbrev begun_parts : List (Standing S B)
    begun_parts = map (λ s. (begun r t.round s).part) parts

    part_is : (q : ℕ) → q < r.parts → part_at d begun_parts q ≡ (out q).part
    part_is q within = get_or-map (λ s. (begun r t.round s).part) parts q d d (subst (λ n. q < n) (sym begin.all) within) ∙ ap (λ o. o.part) (begun_is q within)

    abbrev begun_letters : List (Letter B)
    begun_letters = flat_map (λ s. (begun r t.round s).letters) parts

    letters_are : begun_letters ≡ upto (λ q. letters_of r (first q) ++ (out q).letters) r.parts
    letters_are =
        ap (flat_map (λ s. (begun r t.round s).letters)) (sym (take_all parts)) ∙ taken-upto (λ s. (begun r t.round s).letters) parts d (length parts) (omega arith)
        ∙ ap (λ n. upto (λ q. (begun r t.round (part_at d parts q)).letters) n) begin.all
        ∙ upto-same (λ q. (begun r t.round (part_at d parts q)).letters) (λ q. letters_of r (first q) ++ (out q).letters) r.parts (λ q within. ap (λ o. o.letters) (begun_is q within))

    -- no part
    right_none : r.parts ≡ 0 → Right r t (part_at d begun_parts) begun_letters
    right_none none = record {
      balance = λ p q n a b c e. absurd (omega arith);
      stands = λ q within. absurd (omega arith);
      all_true = subst (λ w. AllByRecursion (λ l. IsTrueLetter r t l) w) (sym (letters_are ∙ ap (λ n. upto (λ q. letters_of r (first q) ++ (out q).letters) n) none)) tt;
      rests = λ q within. absurd (omega arith);
    }

    -- one part, which runs through the round
    right_one : Follows r t → r.parts ≡ 1 → Right r t (part_at d begun_parts) begun_letters
    right_one follows one =
        let within : 0 < r.parts = omega arith in
        let at0 : ℕ → Standing S B = λ q. entered r (first q) in
        let at1 = replaced at0 0 (out 0).part in
        let changed : IsWith at0 0 (out 0).part at1 = (replaced-here at0 0 (out 0).part, replaced-there at0 0 (out 0).part) in
        let agrees0 : Agrees r t at0 (letters_of r (first 0)) = subst (λ n. Agrees r t at0 (letters_upto n)) one (agrees_start follows) in
        let told = agrees_gone_on r t follows (r.last t.round + 1) at0 at1 (letters_of r (first 0)) 0 within agrees0 (omega arith) (omega arith) changed in
        let right1 : Right r t at1 (letters_of r (first 0) ++ (out 0).letters) = all_right r t at0 at1 (letters_of r (first 0) ++ (out 0).letters) 0 (out 0).part (out 0).answer changed told.0 told.1 (λ x inside other. absurd (other (omega arith))) in
        let waits : begun_letters ≡ letters_of r (first 0) ++ (out 0).letters = letters_are ∙ ap (λ n. upto (λ q. letters_of r (first q) ++ (out q).letters) n) one in
        subst (λ w. Right r t (part_at d begun_parts) w) (sym waits) (right_within at1 (part_at d begun_parts) (letters_of r (first 0) ++ (out 0).letters) (λ x inside.
        let zero_is : x ≡ 0 = omega arith in
        part_is x inside ∙ ap (λ y. (out y).part) zero_is ∙ sym (ap at1 zero_is ∙ changed.0)) right1)

    -- several parts, which wait for each other
    right_several : Follows r t → 1 < r.parts → Right r t (part_at d begun_parts) begun_letters
    right_several follows more =
        let agrees0 = agrees_start follows in
        let at0 : ℕ → Standing S B = λ q. entered r (first q) in
        let right0 : Right r t at0 (letters_upto r.parts) = record {
          balance = agrees0.balance;
          stands = agrees0.stands;
          all_true = agrees0.all_true;
          rests = λ q within below complete. absurd (false≢true (sym (is_open q within more) ∙ complete));
        } in
        let waits : begun_letters ≡ letters_upto r.parts = letters_are ∙ upto-same (λ q. letters_of r (first q) ++ (out q).letters) (λ q. letters_of r (first q)) r.parts (λ q within.
        ap (λ o. letters_of r (first q) ++ o.letters) (out_waits q within more) ∙ append-nil (letters_of r (first q))) in
        subst (λ w. Right r t (part_at d begun_parts) w) (sym waits)
        (right_within at0 (part_at d begun_parts) (letters_upto r.parts) (λ x inside. part_is x inside ∙ ap (λ o. o.part) (out_waits x inside more)) right0)

    right_begun : Follows r t → Right r t (part_at d begun_parts) begun_letters
    right_begun follows =
        elim (nat_lt 1 r.parts) as (λ b. nat_lt 1 r.parts ≡ b → Right r t (part_at d begun_parts) begun_letters) [
          | true ↦ λ e. right_several follows (grind (arith, nat_tests))
          | false ↦ λ e. elim (r.parts == 0) as (λ b. (r.parts == 0) ≡ b → Right r t (part_at d begun_parts) begun_letters) [
            | true ↦ λ f. right_none (grind (arith, nat_tests))
            | false ↦ λ f. right_one follows (grind (arith, nat_tests))
          ] refl
        ] refl

    -- what all are owed at the start
    owed_begun : all_owed r begun_parts ≡ r.parts * ((r.last t.round + 1) * (r.parts - 1))
    owed_begun =
        let f : Standing S B → Standing S B = λ s. (begun r t.round s).part in
        sum_of_same (letters_owed r) ((r.last t.round + 1) * (r.parts - 1)) d begun_parts (λ i inside.
        let within : i < length parts = subst (λ n. i < n) (length-map parts f) inside in
        let below : i < r.parts = subst (λ n. i < n) begin.all within in
        let count : length (others r.parts i) ≡ r.parts - 1 = let one = length-others r.parts i below in omega arith in
        ap (letters_owed r) (get_or-map f parts i d d within) ∙ round_begun_owes_all_letters r t.round (part_at d parts i)
        ∙ ap (λ m. (r.last t.round + 1) * length (others r.parts m)) (begin.numbers i below) ∙ ap (λ n. (r.last t.round + 1) * n) count)
        ∙ ap (λ n. n * ((r.last t.round + 1) * (r.parts - 1))) (length-map parts f ∙ begin.all)

pub start_is_right : {S B W : Type 0} → StartIsRight S B W
start_is_right r t d parts follows begin = (length-map parts (λ s. (begun r t.round s).part) ∙ begin.all, right_begun r t d parts begin follows)

pub all_end_whatever_is_drawn : {S B W : Type 0} → AllEndWhateverIsDrawn S B W
all_end_whatever_is_drawn r t d parts follows begin n picks enough =
    let right = start_is_right r t d parts follows begin in
    let owed = owed_begun r t d parts begin in
    let none = none_after r t d follows n picks (all_begun r t.round parts) right (inr (omega arith)) in
    let after = right_turns r t d follows n picks (all_begun r t.round parts) right in
    (none, (none_waits_just_at_the_end r t follows _ _ after.1).0 none)
