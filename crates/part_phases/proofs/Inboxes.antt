-- Inboxes as finite maps: bodies come in any order, and each counts once.
use Rattle.std.proofs.Common.{◌≡◌, ◌≢◌, ℕ, zero, suc, ◌+◌, ◌<◌, ◌≤◌, Bool, true, false, cond, not, ◌&&◌, List, [], ◌∷◌, ◌++◌, length, eqb, Option, Some, is_some, refl, sym, ap, subst, ◌∙◌, arith}
use Rattle.std.specs.Prelude.{◌==◌}
use Rattle.std.specs.Ordering.{nat_cmp, eq_by_cmp, is_eq}
use Rattle.std.specs.Cmp.{nat_cmp_total, Equal-is, tied_itself, both_ways}
use Rattle.std.specs.FinMap.{find, nat_cmp-IsAntisymmetric}
use Rattle.std.specs.FinMap.Entries.{same_entries, find-put, is_sorted-put}
use Rattle.std.proofs.lemmas.Bool.{false≢true}
use Rattle.std.proofs.lemmas.Bool.Decides.{nat_tests}
use Rattle.std.proofs.lemmas.List.{length-append}
use Rattle.std.proofs.lemmas.List.Elements.{filter-append}
use Rattle.std.specs.List.{filter}
use Rattle.part_phases.specs.Inboxes.{BodiesComeInAnyOrder, Inbox, below, lacks, missing, others, put_in}

swapped_conds : {A : Type 0} (a b : Bool) (x y z : A) → (a ≡ true → b ≡ true → ⊥) → cond a x (cond b y z) ≡ cond b y (cond a x z)
swapped_conds true true x y z apart = absurd (apart refl refl)
swapped_conds true false x y z apart = refl
swapped_conds false b x y z apart = refl

pub same_key : (q k : ℕ) → eq_by_cmp nat_cmp q k ≡ true → q ≡ k
same_key q k e = nat_cmp-IsAntisymmetric q k ((Equal-is (nat_cmp q k)).0 e)

-- bodies of two senders may come in either order
pub put_in-order : {B : Type 0} → BodiesComeInAnyOrder B
put_in-order s t b c inbox sorted apart =
    same_entries nat_cmp nat_cmp_total nat_cmp-IsAntisymmetric _ _
    (is_sorted-put nat_cmp nat_cmp_total s b _ (is_sorted-put nat_cmp nat_cmp_total t c inbox sorted))
    (is_sorted-put nat_cmp nat_cmp_total t c _ (is_sorted-put nat_cmp nat_cmp_total s b inbox sorted))
    (λ q. find-put nat_cmp nat_cmp_total q s b _
    ∙ ap (cond (eq_by_cmp nat_cmp q s) (Some b)) (find-put nat_cmp nat_cmp_total q t c inbox)
    ∙ swapped_conds (eq_by_cmp nat_cmp q s) (eq_by_cmp nat_cmp q t) (Some b) (Some c) (find nat_cmp q inbox) (λ e f. apart (sym (same_key q s e) ∙ same_key q t f))
    ∙ sym (find-put nat_cmp nat_cmp_total q t c _ ∙ ap (cond (eq_by_cmp nat_cmp q t) (Some c)) (find-put nat_cmp nat_cmp_total q s b inbox)))

lacks_by_test : {B : Type 0} (b : B) (t : Bool) (o : Option B) → not (is_some (cond t (Some b) o)) ≡ (not t && not (is_some o))
lacks_by_test b true o = refl
lacks_by_test b false o = refl

-- what an inbox lacks once one more body is in
pub lacks-put_in : {B : Type 0} (s : ℕ) (b : B) (inbox : Inbox B) (q : ℕ) → lacks (put_in s b inbox) q ≡ (not (eq_by_cmp nat_cmp q s) && lacks inbox q)
lacks-put_in s b inbox q = ap (λ o. not (is_some o)) (find-put nat_cmp nat_cmp_total q s b inbox) ∙ lacks_by_test b (eq_by_cmp nat_cmp q s) _

pub test_key : (q s : ℕ) → eq_by_cmp nat_cmp q s ≡ eqb q s
test_key q s = both_ways (eq_by_cmp nat_cmp q s) (eqb q s)
    (λ e. let is = same_key q s e in grind (arith, nat_tests))
    (λ e. let is : q ≡ s = grind (arith, nat_tests) in rw is (ap is_eq (tied_itself nat_cmp_total s)))

-- the numbers of the others, with one part more
pub others-suc : (n me : ℕ) → others (suc n) me ≡ others n me ++ cond (n == me) [] (n ∷ [])
others-suc n me = filter-append (λ x. not (x == me)) (below n) (n ∷ []) ∙ ap (λ l. others n me ++ l) (elim (n == me) as (λ b. cond (not b) (n ∷ []) [] ≡ cond b [] (n ∷ [])) [ true ↦ refl | false ↦ refl ])

-- each part is one of the others, but for one
others-past : (n me : ℕ) → n ≤ me → length (others n me) ≡ n
others-past zero me past = refl
others-past (suc n) me past =
    let apart : (n == me) ≡ false = grind (arith, nat_tests) in
    ap length (others-suc n me) ∙ length-append (others n me) _ ∙ ap (λ b. length (others n me) + length (cond b [] (n ∷ []))) apart ∙ ap (λ k. k + 1) (others-past n me (omega arith)) ∙ omega arith

pub length-others : (n me : ℕ) → me < n → length (others n me) + 1 ≡ n
length-others zero me within = absurd (omega arith)
length-others (suc n) me within =
    ap (λ l. length l + 1) (others-suc n me) ∙ ap (λ k. k + 1) (length-append (others n me) _)
    ∙ elim (n == me) as (λ b. (n == me) ≡ b → (length (others n me) + length (cond b [] (n ∷ []))) + 1 ≡ suc n) [
      | true ↦ λ e. let rest = others-past n me (grind (arith, nat_tests)) in omega arith
      | false ↦ λ e. let rest = length-others n me (grind (arith, nat_tests)) in omega arith
    ] refl

kept_of_one : (x : ℕ) (b t : Bool) (test : ℕ → Bool) → test x ≡ t → length (filter test (cond b [] (x ∷ []))) ≡ cond (not b && t) 1 0
kept_of_one x true t test is = refl
kept_of_one x false true test is = ap (λ b. length (cond b (x ∷ []) [])) is
kept_of_one x false false test is = ap (λ b. length (cond b (x ∷ []) [])) is

-- from how many nothing has come, with one part more
pub missing-suc : {B : Type 0} (n me : ℕ) (inbox : Inbox B) → missing (suc n) me inbox ≡ cond (not (n == me) && lacks inbox n) 1 0 + missing n me inbox
missing-suc n me inbox =
    ap (λ l. length (filter (lacks inbox) l)) (others-suc n me) ∙ ap length (filter-append (lacks inbox) (others n me) (cond (n == me) [] (n ∷ [])))
    ∙ length-append (filter (lacks inbox) (others n me)) _ ∙ ap (λ k. missing n me inbox + k) (kept_of_one n (n == me) (lacks inbox n) (lacks inbox) refl) ∙ omega arith

all_kept : (xs : List ℕ) → filter (λ x. true) xs ≡ xs
all_kept [] = refl
all_kept (x ∷ xs) = ap (λ l. x ∷ l) (all_kept xs)

-- an inbox without bodies lacks those of all others
pub missing-empty : (B : Type 0) (n me : ℕ) → missing {B = B} n me [] ≡ length (others n me)
missing-empty B n me = ap length (all_kept (others n me))

-- bodies of later senders change nothing
missing-past : {B : Type 0} (s : ℕ) (b : B) (inbox : Inbox B) (n me : ℕ) → n ≤ s → missing n me (put_in s b inbox) ≡ missing n me inbox
missing-past s b inbox zero me past = refl
missing-past s b inbox (suc n) me past =
    let apart : eqb n s ≡ false = grind (arith, nat_tests) in
    let same : lacks (put_in s b inbox) n ≡ lacks inbox n = lacks-put_in s b inbox n ∙ ap (λ t. not t && lacks inbox n) (test_key n s ∙ apart) in
    rw (missing-suc n me (put_in s b inbox), missing-suc n me inbox, same, missing-past s b inbox n me (omega arith)) refl

-- one body that was missing is in
pub missing-put_in : {B : Type 0} (s : ℕ) (b : B) (inbox : Inbox B) (n me : ℕ) → s < n → s ≢ me → lacks inbox s ≡ true → missing n me (put_in s b inbox) + 1 ≡ missing n me inbox
missing-put_in s b inbox zero me within other lacking = absurd (omega arith)
missing-put_in s b inbox (suc n) me within other lacking =
    let now : lacks (put_in s b inbox) n ≡ (not (eqb n s) && lacks inbox n) = lacks-put_in s b inbox n ∙ ap (λ t. not t && lacks inbox n) (test_key n s) in
    rw (missing-suc n me (put_in s b inbox), missing-suc n me inbox) (elim (eqb n s) as (λ t. eqb n s ≡ t → (cond (not (eqb n me) && lacks (put_in s b inbox) n) 1 0 + missing n me (put_in s b inbox)) + 1 ≡ cond (not (eqb n me) && lacks inbox n) 1 0 + missing n me inbox) [
      | true ↦ λ e.
          let is : n ≡ s = grind (arith, nat_tests) in
          let not_me : eqb n me ≡ false = grind (arith, nat_tests) in
          let gone : lacks (put_in s b inbox) n ≡ false = now ∙ ap (λ t. not t && lacks inbox n) e in
          let was : lacks inbox n ≡ true = ap (lacks inbox) is ∙ lacking in
          let rest = missing-past s b inbox n me (omega arith) in
          rw (not_me, gone, was, rest) (omega arith)
      | false ↦ λ e.
          let rest = missing-put_in s b inbox n me (grind (arith, nat_tests)) other lacking in
          let same : lacks (put_in s b inbox) n ≡ lacks inbox n = now ∙ ap (λ t. not t && lacks inbox n) e in
          rw same (omega arith)
    ] refl)

-- the own body counts for nothing
own_at : (b x y : Bool) (m n : ℕ) → (b ≡ false → x ≡ y) → m ≡ n → cond (not b && x) 1 0 + m ≡ cond (not b && y) 1 0 + n
own_at true x y m n same e = ap (λ k. 0 + k) e
own_at false x y m n same e = rw (same refl) (ap (λ k. cond y 1 0 + k) e)

pub missing-own : {B : Type 0} (me : ℕ) (b : B) (inbox : Inbox B) (n : ℕ) → missing n me (put_in me b inbox) ≡ missing n me inbox
missing-own me b inbox zero = refl
missing-own me b inbox (suc n) =
    missing-suc n me (put_in me b inbox) ∙ own_at (n == me) (lacks (put_in me b inbox) n) (lacks inbox n) _ _ (λ e. lacks-put_in me b inbox n ∙ ap (λ t. not t && lacks inbox n) (test_key n me ∙ e)) (missing-own me b inbox n) ∙ sym (missing-suc n me inbox)

none_here : (b : Bool) (m : ℕ) → cond b 1 0 + m ≡ 0 → b ≡ false
none_here true m e = absurd (omega arith)
none_here false m e = refl

-- where none is missing, no other is
pub missing-none : {B : Type 0} (inbox : Inbox B) (n me p : ℕ) → missing n me inbox ≡ 0 → p < n → p ≢ me → lacks inbox p ≡ false
missing-none inbox zero me p none within other = absurd (omega arith)
missing-none inbox (suc n) me p none' within other =
    let none : cond (not (n == me) && lacks inbox n) 1 0 + missing n me inbox ≡ 0 = sym (missing-suc n me inbox) ∙ none' in
    elim (eqb p n) as (λ t. eqb p n ≡ t → lacks inbox p ≡ false) [
      | true ↦ λ e.
          let is : n ≡ p = grind (arith, nat_tests) in
          let not_me : eqb n me ≡ false = grind (arith, nat_tests) in
          ap (lacks inbox) (sym is) ∙ none_here (lacks inbox n) (missing n me inbox) (subst (λ t. cond (not t && lacks inbox n) 1 0 + missing n me inbox ≡ 0) not_me none)
      | false ↦ λ e. missing-none inbox n me p (omega arith) (grind (arith, nat_tests)) other
    ] refl

pub missing-all : {B : Type 0} (inbox : Inbox B) (n me : ℕ) → ((p : ℕ) → p < n → p ≢ me → lacks inbox p ≡ false) → missing n me inbox ≡ 0
missing-all inbox zero me all = refl
missing-all inbox (suc n) me all =
    let rest = missing-all inbox n me (λ p l o. all p (omega arith) o) in
    missing-suc n me inbox ∙ elim (n == me) as (λ b. (n == me) ≡ b → cond (not b && lacks inbox n) 1 0 + missing n me inbox ≡ 0) [
      | true ↦ λ e. ap (λ k. 0 + k) rest
      | false ↦ λ e. ap (λ b. cond b 1 0 + missing n me inbox) (all n (omega arith) (λ g. false≢true (grind (arith, nat_tests)))) ∙ ap (λ k. 0 + k) rest
    ] refl
