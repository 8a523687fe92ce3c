-- Letters that wait and letters that were got stay in balance.
use Rattle.std.proofs.Common.{◌≡◌, ◌≢◌, ℕ, zero, suc, ◌+◌, ◌<◌, ◌≤◌, Bool, true, false, cond, not, ◌&&◌, ◌||◌, List, [], ◌∷◌, ◌++◌, length, map, eqb, nat_le, nat_lt, refl, sym, ap, ◌∙◌, arith}
use Rattle.std.specs.Prelude.{◌==◌}
use Rattle.std.proofs.lemmas.Bool.{false≢true, and_parts}
use Rattle.std.proofs.lemmas.Bool.Decides.{nat_tests}
use Rattle.part_phases.specs.Inboxes.{Inbox, below, lacks, missing, others, put_in}
use Rattle.part_phases.specs.Standings.{Letter, Rules, Standing}
use Rattle.part_phases.specs.Phases.{with_letter, letters_of, is_complete, moved}
use Rattle.part_phases.specs.Balance.{tally, is_from_to, had, got, sent, Balanced}
use Rattle.std.specs.List.{filter}
use Rattle.std.proofs.lemmas.List.{length-append}
use Rattle.std.proofs.lemmas.List.Elements.{filter-append}
use Rattle.part_phases.proofs.Owed.{first_of_two}
use Rattle.part_phases.proofs.Inboxes.{others-suc, missing-none, lacks-put_in, test_key}

pub tally-append : {X : Type 0} (test : X → Bool) (xs ys : List X) → tally test (xs ++ ys) ≡ tally test xs + tally test ys
tally-append test xs ys = ap length (filter-append test xs ys) ∙ length-append (filter test xs) (filter test ys)

tally-one : {X : Type 0} (test : X → Bool) (x : X) → tally test (x ∷ []) ≡ cond (test x) 1 0
tally-one test x = elim (test x) as (λ b. length (cond b (x ∷ []) []) ≡ cond b 1 0) [ true ↦ refl | false ↦ refl ]

pub tally-cons : {X : Type 0} (test : X → Bool) (x : X) (xs : List X) → tally test (x ∷ xs) ≡ cond (test x) 1 0 + tally test xs
tally-cons test x xs = tally-append test (x ∷ []) xs ∙ ap (λ n. n + tally test xs) (tally-one test x)

tally-map : {X Y : Type 0} (test : Y → Bool) (f : X → Y) (xs : List X) → tally test (map f xs) ≡ tally (λ x. test (f x)) xs
tally-map test f [] = refl
tally-map test f (x ∷ xs) = tally-cons test (f x) (map f xs) ∙ ap (λ n. cond (test (f x)) 1 0 + n) (tally-map test f xs) ∙ sym (tally-cons (λ y. test (f y)) x xs)

tally-none : {X : Type 0} (test : X → Bool) → ((x : X) → test x ≡ false) → (xs : List X) → tally test xs ≡ 0
tally-none test none [] = refl
tally-none test none (x ∷ xs) = tally-cons test x xs ∙ ap (λ b. cond b 1 0 + tally test xs) (none x) ∙ ap (λ n. 0 + n) (tally-none test none xs)

never : (a b : Bool) → (a && (b && false)) ≡ false
never true true = refl
never true false = refl
never false b = refl

-- among the others each stands once
tally-among : (q : ℕ) (u : Bool) (n me : ℕ) → q ≢ me → tally (λ x. (x == q) && u) (others n me) ≡ cond (nat_lt q n && u) 1 0
tally-among q u zero me other = let none : nat_lt q 0 ≡ false = grind (arith, nat_tests) in rw none refl
tally-among q u (suc n) me other =
    let rest = tally-among q u n me other in
    ap (tally (λ x. (x == q) && u)) (others-suc n me) ∙ tally-append (λ x. (x == q) && u) (others n me) (cond (n == me) [] (n ∷ []))
    ∙ elim (n == me) as (λ b. (n == me) ≡ b → tally (λ x. (x == q) && u) (others n me) + tally (λ x. (x == q) && u) (cond b [] (n ∷ [])) ≡ cond (nat_lt q (suc n) && u) 1 0) [
      | true ↦ λ e.
          let same : nat_lt q (suc n) ≡ nat_lt q n = grind (arith, nat_tests) in
          rw (rest, same) (omega arith)
      | false ↦ λ e. ap (λ k. tally (λ x. (x == q) && u) (others n me) + k) (tally-one (λ x. (x == q) && u) n)
          ∙ elim (n == q) as (λ b. (n == q) ≡ b → tally (λ x. (x == q) && u) (others n me) + cond (b && u) 1 0 ≡ cond (nat_lt q (suc n) && u) 1 0) [
            | true ↦ λ f.
                let now : nat_lt q (suc n) ≡ true = grind (arith, nat_tests) in
                let before : nat_lt q n ≡ false = grind (arith, nat_tests) in
                rw (rest, now, before) (omega arith)
            | false ↦ λ f.
                let same : nat_lt q (suc n) ≡ nat_lt q n = grind (arith, nat_tests) in
                rw (rest, same) (omega arith)
          ] refl
    ] refl

tally-others : (q : ℕ) (t u : Bool) (n me : ℕ) → q ≢ me → tally (λ x. t && ((x == q) && u)) (others n me) ≡ cond (t && (nat_lt q n && u)) 1 0
tally-others q true u n me other = tally-among q u n me other
tally-others q false u n me other = tally-none (λ x. false) (λ x. refl) (others n me)

-- sums of letters that wait, were got and were sent: where more are sent, where none are, and where one is taken out
sends_more : (all w ls gt' gt sp' sp sq c : ℕ) → all ≡ w + ls → ls ≡ c → gt' ≡ gt → sp' ≡ c + sq → sp ≡ sq → w + gt ≡ sp → all + gt' ≡ sp'
sends_more all w ls gt' gt sp' sp sq c a b d e f g = omega arith

sends_none : (all w ls gt' gt sp' sp : ℕ) → all ≡ w + ls → ls ≡ 0 → gt' ≡ gt → sp' ≡ sp → w + gt ≡ sp → all + gt' ≡ sp'
sends_none all w ls gt' gt sp' sp a b d e g = omega arith

zero_and : (a : Bool) (n : ℕ) → n ≡ cond (a && false) 1 0 + n
zero_and true n = omega arith
zero_and false n = omega arith

taken_out : (all x k y both gt gt' sp : ℕ) {sp' : ℕ} → all ≡ x + (k + y) → both ≡ x + y → gt' ≡ k + gt → sp' ≡ sp → all + gt ≡ sp → both + gt' ≡ sp'
taken_out all x k y both gt gt' sp a b c d e = omega arith

-- what is got once a letter of this phase is taken, and once one of the next is: a is 'in an earlier phase', b 'in this one', c 'in the next'
taken_now : (a b c k : Bool) (now' now early : ℕ) → now' ≡ cond k 1 0 + now → (b ≡ true → a ≡ false) → cond a 1 (cond b now' (cond c early 0)) ≡ cond (k && b) 1 0 + cond a 1 (cond b now (cond c early 0))
taken_now true true c k now' now early e f = absurd (false≢true (sym (f refl)))
taken_now true false c true now' now early e f = refl
taken_now true false c false now' now early e f = refl
taken_now false true c true now' now early e f = e
taken_now false true c false now' now early e f = e
taken_now false false c true now' now early e f = omega arith
taken_now false false c false now' now early e f = omega arith

taken_early : (a b c k : Bool) (early' now early : ℕ) → early' ≡ cond k 1 0 + early → (c ≡ true → a ≡ false) → (c ≡ true → b ≡ false) → cond a 1 (cond b now (cond c early' 0)) ≡ cond (k && c) 1 0 + cond a 1 (cond b now (cond c early 0))
taken_early true b true k early' now early e f g = absurd (false≢true (sym (f refl)))
taken_early true b false true early' now early e f g = refl
taken_early true b false false early' now early e f g = refl
taken_early false true true k early' now early e f g = absurd (false≢true (sym (g refl)))
taken_early false true false true early' now early e f g = omega arith
taken_early false true false false early' now early e f g = omega arith
taken_early false false true true early' now early e f g = e
taken_early false false true false early' now early e f g = e
taken_early false false false true early' now early e f g = refl
taken_early false false false false early' now early e f g = refl

-- a body that was lacking is one more
had-put_in : {B : Type 0} (s : ℕ) (b : B) (inbox : Inbox B) (p : ℕ) → lacks inbox s ≡ true → had (put_in s b inbox) p ≡ cond (s == p) 1 0 + had inbox p
had-put_in s b inbox p lacking =
    let now : lacks (put_in s b inbox) p ≡ (not (eqb p s) && lacks inbox p) = lacks-put_in s b inbox p ∙ ap (λ t. not t && lacks inbox p) (test_key p s) in
    ap (λ t. cond {A = ℕ} t 0 1) now
    ∙ elim (eqb p s) as (λ t. eqb p s ≡ t → cond {A = ℕ} (not t && lacks inbox p) 0 1 ≡ cond (s == p) 1 0 + had inbox p) [
      | true ↦ λ e.
          let is : s ≡ p = grind (arith, nat_tests) in
          let test : (s == p) ≡ true = grind (arith, nat_tests) in
          let was : lacks inbox p ≡ true = ap (lacks inbox) (sym is) ∙ lacking in
          rw (test, was) refl
      | false ↦ λ e.
          let test : (s == p) ≡ false = grind (arith, nat_tests) in
          rw test (omega arith)
    ] refl

-- nobody is two phases ahead: where each phase before a is entered at b
one_ahead : (a b : ℕ) → ((m : ℕ) → a ≡ suc m → m ≤ b) → a ≤ b + 1
one_ahead zero b h = omega arith
one_ahead (suc m) b h = let l = h m refl in omega arith

-- what was sent and not got is lacking, in this phase or the next
open_now : (a b c x y : Bool) → ◌≡◌ {A = ℕ} (cond a 1 (cond b (cond x 0 1) (cond c (cond y 0 1) 0))) 0 → (a ≡ false → b ≡ false → c ≡ true) → (b && x || c && y) ≡ true
open_now true b c x y none step = absurd (omega arith)
open_now false true c true y none step = refl
open_now false true c false y none step = absurd (omega arith)
open_now false false true x true none step = refl
open_now false false true x false none step = absurd (omega arith)
open_now false false false x y none step = absurd (false≢true (step refl refl))

-- the tests a: below phase + 1, b: below phase, c: at phase, d: at phase + 1, e: at phase + 2
shifted : (a b c d e : Bool) (now early : ℕ) → now ≡ 1 → (b ≡ false → c ≡ false → a ≡ false) → (b ≡ true → a ≡ true) → (c ≡ true → a ≡ true)
    → cond a 1 (cond d early (cond e 0 0)) ≡ cond b 1 (cond c now (cond d early 0))
shifted a true c d e now early had_it out below at = rw (below refl) refl
shifted a false true d e now early had_it out below at = rw (at refl, had_it) refl
shifted a false false true e now early had_it out below at = rw (out refl refl) refl
shifted a false false false true now early had_it out below at = rw (out refl refl) refl
shifted a false false false false now early had_it out below at = rw (out refl refl) refl

module _ {S B W : Type 0} (r : Rules S B W) where
  pub tally-letters_of : (s : Standing S B) (p q n : ℕ) → q < r.parts → q ≢ s.me → tally (is_from_to p q n) (letters_of r s) ≡ cond ((s.me == p) && (s.phase == n)) 1 0
  tally-letters_of s p q n within other =
      let inside : nat_lt q r.parts ≡ true = grind (arith, nat_tests) in
      tally-map (is_from_to p q n) _ (others r.parts s.me) ∙ tally-others q (s.me == p) (s.phase == n) r.parts s.me other ∙ ap (λ b. cond ((s.me == p) && (b && (s.phase == n))) 1 0) inside

  -- a sender of no letter of p
  pub tally-of_others : (s : Standing S B) (p q n : ℕ) → p ≢ s.me → tally (is_from_to p q n) (letters_of r s) ≡ 0
  tally-of_others s p q n other =
      let apart : (s.me == p) ≡ false = grind (arith, nat_tests) in
      tally-map (is_from_to p q n) _ (others r.parts s.me) ∙ ap (λ b. tally (λ x. b && ((x == q) && (s.phase == n))) (others r.parts s.me)) apart ∙ tally-none (λ x. false) (λ x. refl) (others r.parts s.me)

  -- letters of another phase
  pub tally-late : (s : Standing S B) (p q n : ℕ) → (s.phase == n) ≡ false → tally (is_from_to p q n) (letters_of r s) ≡ 0
  tally-late s p q n late =
      tally-map (is_from_to p q n) _ (others r.parts s.me) ∙ ap (λ b. tally (λ x. (s.me == p) && ((x == q) && b)) (others r.parts s.me)) late ∙ tally-none (λ x. (s.me == p) && ((x == q) && false)) (λ x. never (s.me == p) (x == q)) (others r.parts s.me)

  got-moved : (s : Standing S B) (held : S) (p n : ℕ) → lacks s.now p ≡ false → got (moved r s held) p n ≡ got s p n
  got-moved s held p n has =
      shifted (nat_lt n (s.phase + 1)) (nat_lt n s.phase) (n == s.phase) (n == s.phase + 1) (n == (s.phase + 1) + 1) (had s.now p) (had s.early p) (ap (λ b. cond b 0 1) has)
      (λ e f. grind (arith, nat_tests)) (λ e. grind (arith, nat_tests)) (λ e. grind (arith, nat_tests))

  sent-moved : (s : Standing S B) (held : S) (n : ℕ) → sent (moved r s held) n ≡ cond (s.phase + 1 == n) 1 0 + sent s n
  sent-moved s held n = grind (arith, nat_tests)

  -- to move on and send the letters of the next phase keeps the balance
  pub balanced-moved : (at at' : ℕ → Standing S B) (waiting : List (Letter B)) (q : ℕ) (held : S) (last : ℕ)
      → Balanced r.parts last at waiting → is_complete r (at q) ≡ true → (at q).me ≡ q
      → at' q ≡ moved r (at q) held → ((x : ℕ) → x ≢ q → at' x ≡ at x)
      → Balanced r.parts last at' (waiting ++ letters_of r (moved r (at q) held))
  balanced-moved at at' waiting q held last even complete me here there p t n below_p below_t apart within =
      let old = even p t n below_p below_t apart within in
      let none : missing r.parts (at q).me (at q).now ≡ 0 = grind (arith, nat_tests) in
      let s : Standing S B = moved r (at q) held in
      let sum = tally-append (is_from_to p t n) waiting (letters_of r s) in
      elim (p == q) as (λ b. (p == q) ≡ b → tally (is_from_to p t n) (waiting ++ letters_of r s) + got (at' t) p n ≡ sent (at' p) n) [
        | true ↦ λ e.
            let is : p ≡ q = grind (arith, nat_tests) in
            let not_q : t ≢ q = λ f. apart (is ∙ sym f) in
            let mine : (s.me == p) ≡ true = grind (arith, nat_tests) in
            let sends : tally (is_from_to p t n) (letters_of r s) ≡ cond ((at q).phase + 1 == n) 1 0
            = tally-letters_of s p t n below_t (λ f. not_q (f ∙ me)) ∙ ap (λ b. cond (b && ((at q).phase + 1 == n)) 1 0) mine in
            let got_same : got (at' t) p n ≡ got (at t) p n = ap (λ z. got z p n) (there t not_q) in
            let sent_now : sent (at' p) n ≡ cond ((at q).phase + 1 == n) 1 0 + sent (at q) n = ap (λ z. sent z n) (ap at' is ∙ here) ∙ sent-moved (at q) held n in
            let sent_old : sent (at p) n ≡ sent (at q) n = ap (λ z. sent (at z) n) is in
            sends_more _ _ _ _ _ _ _ _ _ sum sends got_same sent_now sent_old old
        | false ↦ λ e.
            let not_q : p ≢ q = λ f. false≢true (grind (arith, nat_tests)) in
            let sends : tally (is_from_to p t n) (letters_of r s) ≡ 0 = tally-of_others s p t n (λ f. not_q (f ∙ me)) in
            let sent_same : sent (at' p) n ≡ sent (at p) n = ap (λ z. sent z n) (there p not_q) in
            let got_same : got (at' t) p n ≡ got (at t) p n = elim (t == q) as (λ b. (t == q) ≡ b → got (at' t) p n ≡ got (at t) p n) [
              | true ↦ λ f.
                  let is : t ≡ q = grind (arith, nat_tests) in
                  ap (λ z. got z p n) (ap at' is ∙ here) ∙ got-moved (at q) held p n (missing-none (at q).now r.parts (at q).me p none below_p (λ g. not_q (g ∙ me))) ∙ ap (λ z. got (at z) p n) (sym is)
              | false ↦ λ f. ap (λ z. got z p n) (there t (λ g. false≢true (grind (arith, nat_tests))))
            ] refl in
            sends_none _ _ _ _ _ _ _ sum sends got_same sent_same old
      ] refl

  -- a letter that waits is owed: its part has not got it, and stands in its phase or the one before
  pub waits_owed : (at : ℕ → Standing S B) (waiting : List (Letter B)) (last : ℕ) (p q n : ℕ) → Balanced r.parts last at waiting
      → p < r.parts → q < r.parts → p ≢ q → n ≤ last → 0 < tally (is_from_to p q n) waiting
      → (at p).phase ≤ last + 1
      → ((n == (at q).phase) && lacks (at q).now p || (n == (at q).phase + 1) && lacks (at q).early p) ≡ true
  waits_owed at waiting last p q n even below_p below_q apart within some upto =
      let here = even p q n below_p below_q apart within in
      let entered : n ≤ (at p).phase = elim (nat_le n (at p).phase) as (λ b. (nat_le n (at p).phase) ≡ b → tally (is_from_to p q n) waiting + got (at q) p n ≡ cond b 1 0 → n ≤ (at p).phase) [
        | true ↦ λ e f. grind (arith, nat_tests)
        | false ↦ λ e f. absurd (omega arith)
      ] refl here in
      let not_got : got (at q) p n ≡ 0 = elim (nat_le n (at p).phase) as (λ b. tally (is_from_to p q n) waiting + got (at q) p n ≡ cond b 1 0 → got (at q) p n ≡ 0) [
        | true ↦ λ f. omega arith
        | false ↦ λ f. omega arith
      ] here in
      let behind : (at p).phase ≤ (at q).phase + 1 = one_ahead (at p).phase (at q).phase (λ m is.
      let back = even q p m below_q below_p (λ e. apart (sym e)) (omega arith) in
      let was : got (at p) q m ≡ 1 = let t : nat_lt m (at p).phase ≡ true = grind (arith, nat_tests) in ap (λ b. cond b 1 (cond (m == (at p).phase) (had (at p).now q) (cond (m == (at p).phase + 1) (had (at p).early q) 0))) t in
      elim (nat_le m (at q).phase) as (λ b. (nat_le m (at q).phase) ≡ b → tally (is_from_to q p m) waiting + got (at p) q m ≡ cond b 1 0 → m ≤ (at q).phase) [
        | true ↦ λ e f. grind (arith, nat_tests)
        | false ↦ λ e f. absurd (omega arith)
      ] refl back) in
      open_now (nat_lt n (at q).phase) (n == (at q).phase) (n == (at q).phase + 1) (lacks (at q).now p) (lacks (at q).early p) not_got (λ a b. grind (arith, nat_tests))

  got-taken : (s : Standing S B) (l : Letter B) (p n : ℕ) → ((l.phase == s.phase) && lacks s.now l.sender || (l.phase == s.phase + 1) && lacks s.early l.sender) ≡ true
      → got (with_letter s l) p n ≡ cond ((l.sender == p) && (l.phase == n)) 1 0 + got s p n
  got-taken s l p n owed =
      elim (l.phase == s.phase) as (λ b. (l.phase == s.phase) ≡ b → (b && lacks s.now l.sender || (l.phase == s.phase + 1) && lacks s.early l.sender) ≡ true
      → got (cond b (record s { now = put_in l.sender l.body s.now }) (record s { early = put_in l.sender l.body s.early })) p n ≡ cond ((l.sender == p) && (l.phase == n)) 1 0 + got s p n) [
        | true ↦ λ e f.
            let apart : (l.phase == s.phase + 1) ≡ false = grind (arith, nat_tests) in
            let lacking : lacks s.now l.sender ≡ true = first_of_two (lacks s.now l.sender) (l.phase == s.phase + 1) (lacks s.early l.sender) apart f in
            let at : (l.phase == n) ≡ (n == s.phase) = grind (arith, nat_tests) in
            taken_now (nat_lt n s.phase) (n == s.phase) (n == s.phase + 1) (l.sender == p) _ _ _ (had-put_in l.sender l.body s.now p lacking) (λ g. grind (arith, nat_tests))
            ∙ ap (λ b. cond ((l.sender == p) && b) 1 0 + got s p n) (sym at)
        | false ↦ λ e f.
            let both = and_parts (l.phase == s.phase + 1) _ f in
            let next = both.0 in
            let at : (l.phase == n) ≡ (n == s.phase + 1) = grind (arith, nat_tests) in
            taken_early (nat_lt n s.phase) (n == s.phase) (n == s.phase + 1) (l.sender == p) _ _ _ (had-put_in l.sender l.body s.early p both.1) (λ g. grind (arith, nat_tests)) (λ g. grind (arith, nat_tests))
            ∙ ap (λ b. cond ((l.sender == p) && b) 1 0 + got s p n) (sym at)
      ] refl owed

  sent-taken : (s : Standing S B) (l : Letter B) (n : ℕ) → sent (with_letter s l) n ≡ sent s n
  sent-taken s l n = elim (l.phase == s.phase) as (λ b. sent (cond b (record s { now = put_in l.sender l.body s.now }) (record s { early = put_in l.sender l.body s.early })) n ≡ sent s n) [ true ↦ refl | false ↦ refl ]

  -- to take a letter that waits keeps the balance
  pub balanced-taken : (at at' : ℕ → Standing S B) (xs ys : List (Letter B)) (l : Letter B) (last : ℕ) → Balanced r.parts last at (xs ++ l ∷ ys)
      → ((l.phase == (at l.target).phase) && lacks (at l.target).now l.sender || (l.phase == (at l.target).phase + 1) && lacks (at l.target).early l.sender) ≡ true
      → at' l.target ≡ with_letter (at l.target) l → ((x : ℕ) → x ≢ l.target → at' x ≡ at x) → Balanced r.parts last at' (xs ++ ys)
  balanced-taken at at' xs ys l last even owed here there p q n below_p below_q apart within =
      let old = even p q n below_p below_q apart within in
      let split = tally-append (is_from_to p q n) xs (l ∷ ys) ∙ ap (λ k. tally (is_from_to p q n) xs + k) (tally-cons (is_from_to p q n) l ys) in
      let joined = tally-append (is_from_to p q n) xs ys in
      let phase_same : (x : ℕ) → sent (at' x) n ≡ sent (at x) n = λ x. elim (x == l.target) as (λ b. (x == l.target) ≡ b → sent (at' x) n ≡ sent (at x) n) [
        | true ↦ λ e. let is : x ≡ l.target = grind (arith, nat_tests) in
            ap (λ z. sent z n) (ap at' is ∙ here) ∙ sent-taken (at l.target) l n ∙ ap (λ z. sent (at z) n) (sym is)
        | false ↦ λ e. ap (λ z. sent z n) (there x (λ g. false≢true (grind (arith, nat_tests))))
      ] refl in
      let got_now : got (at' q) p n ≡ cond (is_from_to p q n l) 1 0 + got (at q) p n = elim (l.target == q) as (λ b. (l.target == q) ≡ b → got (at' q) p n ≡ cond ((l.sender == p) && (b && (l.phase == n))) 1 0 + got (at q) p n) [
        | true ↦ λ e. let is : q ≡ l.target = grind (arith, nat_tests) in
            ap (λ z. got z p n) (ap at' is ∙ here) ∙ got-taken (at l.target) l p n owed ∙ ap (λ z. cond ((l.sender == p) && (l.phase == n)) 1 0 + got (at z) p n) (sym is)
        | false ↦ λ e. ap (λ z. got z p n) (there q (λ g. false≢true (grind (arith, nat_tests)))) ∙ zero_and (l.sender == p) (got (at q) p n)
      ] refl in
      taken_out _ _ _ _ _ _ _ _ split joined got_now (phase_same p) old
