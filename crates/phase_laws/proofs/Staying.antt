-- A part that stands where the truth says goes on to stand so.
use Rattle.std.proofs.Common.{◌≡◌, ◌≢◌, ℕ, zero, suc, ◌+◌, ◌<◌, ◌≤◌, Bool, true, false, cond, ◌&&◌, ◌||◌, List, [], ◌∷◌, ◌++◌, map, eqb, Some, Ok, refl, sym, ap, subst, ◌∙◌, arith}
use Rattle.std.specs.Prelude.{◌==◌}
use Rattle.std.specs.Ordering.{nat_cmp, is_eq}
use Rattle.std.specs.Cmp.{nat_cmp_total, tied_itself}
use Rattle.std.specs.FinMap.Entries.{find-put, is_sorted-put}
use Rattle.std.proofs.lemmas.Bool.{false≢true, and_parts}
use Rattle.std.specs.Option.{unwrap_or}
use Rattle.std.specs.List.{AllByRecursion}
use Rattle.std.proofs.lemmas.Bool.Decides.{nat_tests}
use Rattle.part_phases.specs.Inboxes.{Inbox, below, body_from, lacks, missing, others, put_in}
use Rattle.part_phases.specs.Standings.{Letter, Rules, Standing}
use Rattle.part_phases.specs.Phases.{with_letter, letters_of, entered, is_complete, moved}
use Rattle.phase_laws.specs.Truth.{Truth, standing, full, Follows, AreTrue, Stands, IsTrueLetter}
use Rattle.part_phases.proofs.Inboxes.{others-suc, test_key}
use Rattle.part_phases.proofs.Gathered.{is_gathered, none≢some}

pub same_some : {A : Type 0} (x y : A) → Some x ≡ Some y → x ≡ y
same_some x y e = ap (λ o. unwrap_or o x) e

second_of_two : (a x y : Bool) → a ≡ false → (a && x || y) ≡ true → y ≡ true
second_of_two true x y e f = absurd (false≢true (sym e))
second_of_two false x y e f = f

all-map-append : {X Y : Type 0} (P : Y → Type 0) (f : X → Y) (xs ys : List X) → AllByRecursion P (map f xs) → AllByRecursion P (map f ys) → AllByRecursion P (map f (xs ++ ys))
all-map-append P f [] ys a b = b
all-map-append P f (x ∷ xs) ys a b = (a.0, all-map-append P f xs ys a.1 b)

module _ {S B W : Type 0} (r : Rules S B W) (t : Truth S B) where
  -- one more true body
  pub true_put_in : (n q p : ℕ) (b : B) (inbox : Inbox B) → p < r.parts → b ≡ t.letter n p q → AreTrue r t n q inbox → AreTrue r t n q (put_in p b inbox)
  true_put_in n q p b inbox within is old = (
    is_sorted-put nat_cmp nat_cmp_total p b inbox old.0,
    λ x c e.
        let found : body_from x (put_in p b inbox) ≡ cond (eqb x p) (Some b) (body_from x inbox) = find-put nat_cmp nat_cmp_total x p b inbox ∙ ap (λ k. cond k (Some b) (body_from x inbox)) (test_key x p) in
        elim (eqb x p) as (λ k. eqb x p ≡ k → cond k (Some b) (body_from x inbox) ≡ Some c → (x < r.parts) × (c ≡ t.letter n x q)) [
          | true ↦ λ g h.
              let same : x ≡ p = grind (arith, nat_tests) in
              (subst (λ z. z < r.parts) (sym same) within, sym (same_some b c h) ∙ is ∙ ap (λ z. t.letter n z q) (sym same))
          | false ↦ λ g h. old.1 x c h
        ] refl (sym found ∙ e),
  )

  pub none_true : (n q : ℕ) → AreTrue r t n q []
  none_true n q = (tt, λ p b e. absurd (none≢some b e))

  -- all letters of its phase are in
  pub complete_is : (q : ℕ) (s : Standing S B) → Stands r t q s → s.phase ≤ t.end → is_complete r s ≡ true → s ≡ standing t s.phase q (full r t s.phase q) s.early
  complete_is q s stands below complete =
      let me : s.me ≡ q = ap (λ z. z.me) stands.is in
      let none : missing r.parts s.me s.now ≡ 0 = grind (arith, nat_tests) in
      let all : s.now ≡ full r t s.phase q = is_gathered (λ p. t.letter s.phase p q) r.parts q s.now stands.now.0 (subst (λ z. missing r.parts z s.now ≡ 0) me none) (stands.own below) stands.now.1 in
      stands.is ∙ ap (λ inbox. standing t s.phase q inbox s.early) all

  -- to move on, where there is a phase to come
  pub stands-moved : Follows r t → (q : ℕ) (s : Standing S B) → q < r.parts → Stands r t q s → s.phase < t.end → is_complete r s ≡ true
      → (r.ends s ≡ Ok (t.holds (s.phase + 1) q)) × Stands r t q (entered r (moved r s (t.holds (s.phase + 1) q)))
      × (moved r s (t.holds (s.phase + 1) q) ≡ standing t (s.phase + 1) q s.early [])
  stands-moved follows q s within stands before complete =
      let is = complete_is q s stands (omega arith) complete in
      let ends = ap r.ends is ∙ follows.ends s.phase q s.early before within in
      let held = t.holds (s.phase + 1) q in
      let next : moved r s held ≡ standing t (s.phase + 1) q s.early [] = ap (λ z. moved r z held) is ∙ ap (λ k. record { me = q; round = t.round; phase = s.phase + 1; holds = held; now = s.early; early = []; kept = k }) (follows.keeps s.phase q s.early (omega arith) within) in
      let own : r.sends (moved r s held) (moved r s held).me ≡ t.letter (s.phase + 1) q q = ap (λ z. r.sends z z.me) next ∙ follows.sends (s.phase + 1) q q s.early [] (omega arith) within within in
      let me : s.me ≡ q = ap (λ z. z.me) stands.is in
      let inbox : put_in s.me (r.sends (moved r s held) s.me) s.early ≡ put_in q (t.letter (s.phase + 1) q q) s.early = ap (λ z. put_in z (r.sends (moved r s held) s.me) s.early) me ∙ ap (λ z. put_in q z s.early) own in (
        ends,
        record {
          is = ap (entered r) next ∙ ap (λ z. standing t (s.phase + 1) q z []) (ap (λ z. put_in q z s.early) (ap (λ z. r.sends z q) (sym next) ∙ ap (λ z. r.sends (moved r s held) z) (sym me) ∙ own)) ∙ ap (λ z. standing t (s.phase + 1) q z []) (sym inbox);
          now = subst (λ z. AreTrue r t (s.phase + 1) q z) (sym inbox) (true_put_in (s.phase + 1) q q _ s.early within refl stands.early);
          early = none_true _ q;
          own = λ _. ap (body_from q) inbox ∙ find-put nat_cmp nat_cmp_total q q (t.letter (s.phase + 1) q q) s.early ∙ ap (λ b. cond b (Some (t.letter (s.phase + 1) q q)) (body_from q s.early)) (ap is_eq (tied_itself nat_cmp_total q));
          none_early = λ _. refl;
          upto = omega arith;
          done = λ over. absurd (omega arith);
        },
        next,
      )

  -- to end the last phase
  pub stands-done : Follows r t → (q : ℕ) (s : Standing S B) → q < r.parts → Stands r t q s → s.phase ≡ t.end → is_complete r s ≡ true → t.outcome q ≡ Ok (t.holds (t.end + 1) q)
      → (r.ends s ≡ Ok (t.holds (s.phase + 1) q)) × Stands r t q (moved r s (t.holds (s.phase + 1) q))
  stands-done follows q s within stands at_last complete well =
      let below : s.phase ≤ t.end = omega arith in
      let is = complete_is q s stands below complete in
      let ends = ap r.ends is ∙ ap (λ n. r.ends (standing t n q (full r t n q) s.early)) at_last ∙ follows.outcomes q s.early within ∙ well ∙ ap (λ n. Ok (t.holds (n + 1) q)) (sym at_last) in
      let held = t.holds (s.phase + 1) q in
      let next : moved r s held ≡ standing t (s.phase + 1) q s.early [] = ap (λ z. moved r z held) is ∙ ap (λ k. record { me = q; round = t.round; phase = s.phase + 1; holds = held; now = s.early; early = []; kept = k }) (follows.keeps s.phase q s.early below within) in (
        ends,
        record {
          is = next;
          now = stands.early;
          early = none_true _ q;
          own = λ l. absurd (omega arith);
          none_early = λ _. refl;
          upto = omega arith;
          done = λ _. well;
        },
      )

  -- what the last phase leaves
  pub outcome_is : Follows r t → (q : ℕ) (s : Standing S B) → q < r.parts → Stands r t q s → s.phase ≡ t.end → is_complete r s ≡ true → r.ends s ≡ t.outcome q
  outcome_is follows q s within stands at_last complete =
      ap r.ends (complete_is q s stands (omega arith) complete) ∙ ap (λ n. r.ends (standing t n q (full r t n q) s.early)) at_last ∙ follows.outcomes q s.early within

  letters_true : Follows r t → (n q : ℕ) (now early : Inbox B) (k : ℕ) → n ≤ t.end → q < r.parts → k ≤ r.parts
      → AllByRecursion (λ l. IsTrueLetter r t l) (map (λ x. record { round = t.round; phase = n; sender = q; target = x; body = r.sends (standing t n q now early) x }) (others k q))
  letters_true follows n q now early zero below within upto = tt
  letters_true follows n q now early (suc k) below within upto =
      subst (λ xs. AllByRecursion (λ l. IsTrueLetter r t l) (map (λ x. record { round = t.round; phase = n; sender = q; target = x; body = r.sends (standing t n q now early) x }) xs)) (sym (others-suc k q))
      (all-map-append _ _ (others k q) (cond (k == q) [] (k ∷ [])) (letters_true follows n q now early k below within (omega arith))
      (elim (k == q) as (λ b. (k == q) ≡ b → AllByRecursion (λ l. IsTrueLetter r t l) (map (λ x. record { round = t.round; phase = n; sender = q; target = x; body = r.sends (standing t n q now early) x }) (cond b [] (k ∷ [])))) [
        | true ↦ λ e. tt
        | false ↦ λ e.
            let other : q ≢ k = λ g. false≢true (grind (arith, nat_tests)) in
            let inside : k < r.parts = omega arith in
            ((refl, below, within, inside, other, follows.sends n q k now early below within inside), tt)
      ] refl))

  pub sends_true : Follows r t → (q : ℕ) (s : Standing S B) → q < r.parts → s.phase ≤ t.end → s ≡ standing t s.phase q s.now s.early → AllByRecursion (λ l. IsTrueLetter r t l) (letters_of r s)
  sends_true follows q s within below is = subst (λ z. AllByRecursion (λ l. IsTrueLetter r t l) (letters_of r z)) (sym is) (letters_true follows s.phase q s.now s.early r.parts below within (omega arith))

  -- to take a true letter that is owed
  pub stands-taken : (q : ℕ) (s : Standing S B) (l : Letter B) → Stands r t q s → IsTrueLetter r t l → l.target ≡ q
      → ((l.phase == s.phase) && lacks s.now l.sender || (l.phase == s.phase + 1) && lacks s.early l.sender) ≡ true → Stands r t q (with_letter s l)
  stands-taken q s l stands is_true to_q owed =
      elim (l.phase == s.phase) as (λ b. (l.phase == s.phase) ≡ b → Stands r t q (cond b (record s { now = put_in l.sender l.body s.now }) (record s { early = put_in l.sender l.body s.early }))) [
        | true ↦ λ e.
            let at : l.phase ≡ s.phase = grind (arith, nat_tests) in
            let body : l.body ≡ t.letter s.phase l.sender q = is_true.5 ∙ ap (λ z. t.letter z l.sender l.target) at ∙ ap (t.letter s.phase l.sender) to_q in
            let apart : l.sender ≢ q = λ g. is_true.4 (g ∙ sym to_q) in
            let test : eqb q l.sender ≡ false = grind (arith, nat_tests) in
            record {
              is = ap {A = Standing S B} {B = Standing S B} (λ z. record z { now = put_in l.sender l.body s.now }) stands.is;
              now = true_put_in s.phase q l.sender l.body s.now is_true.2 body stands.now;
              early = stands.early;
              own = λ below. find-put nat_cmp nat_cmp_total q l.sender l.body s.now ∙ ap (λ k. cond k (Some l.body) (body_from q s.now)) (test_key q l.sender ∙ test) ∙ stands.own below;
              none_early = stands.none_early;
              upto = stands.upto;
              done = stands.done;
            }
        | false ↦ λ e.
            let next : l.phase ≡ s.phase + 1 = let f = (and_parts (l.phase == s.phase + 1) (lacks s.early l.sender) (second_of_two (l.phase == s.phase) (lacks s.now l.sender) _ e owed)).0 in grind (arith, nat_tests) in
            let body : l.body ≡ t.letter (s.phase + 1) l.sender q = is_true.5 ∙ ap (λ z. t.letter z l.sender l.target) next ∙ ap (t.letter (s.phase + 1) l.sender) to_q in
            let within : l.phase ≤ t.end = is_true.1 in
            record {
              is = ap {A = Standing S B} {B = Standing S B} (λ z. record z { early = put_in l.sender l.body s.early }) stands.is;
              now = stands.now;
              early = true_put_in (s.phase + 1) q l.sender l.body s.early is_true.2 body stands.early;
              own = stands.own;
              none_early = λ over. absurd (omega arith);
              upto = stands.upto;
              done = stands.done;
            }
      ] refl
