-- An inbox in which all are is what these sent, in whatever order it came.
use Rattle.std.proofs.Common.{◌≡◌, ◌≢◌, ℕ, zero, suc, ◌<◌, Bool, true, false, cond, not, List, [], ◌∷◌, ◌++◌, map, eqb, nat_lt, Some, None, is_some, refl, sym, ap, subst, ◌∙◌, arith}
use Rattle.std.specs.Prelude.{T}
use Rattle.std.specs.List.{AllByRecursion, filter}
use Rattle.std.specs.declared.cmp.Ordering.TheVariants.{Greater}
use Rattle.std.proofs.lemmas.List.{map-append}
use Rattle.std.specs.Ordering.{nat_cmp}
use Rattle.std.specs.Cmp.{nat_cmp_is, nat_cmp_total}
use Rattle.std.specs.FinMap.{find, put, is_sorted, nat_cmp-IsAntisymmetric}
use Rattle.std.specs.FinMap.Entries.{by_order, same_entries, find-put, is_sorted-put}
use Rattle.std.proofs.lemmas.Bool.{false≢true}
use Rattle.std.proofs.lemmas.Bool.Decides.{nat_tests}
use Rattle.part_phases.specs.Inboxes.{FullInboxIsWhatAllSent, Inbox, below, body_from, gathered, missing, put_in}
use Rattle.part_phases.proofs.Inboxes.{test_key, missing-none}

pub none≢some : {A : Type 0} (x : A) → None ≡ Some x → ⊥
none≢some x e = false≢true (ap is_some e)

pub all-append : {X : Type 0} (P : X → Type 0) (xs ys : List X) → AllByRecursion P xs → AllByRecursion P ys → AllByRecursion P (xs ++ ys)
all-append P [] ys a b = b
all-append P (x ∷ xs) ys a b = (a.0, all-append P xs ys a.1 b)

all-weaker : {X : Type 0} (P Q : X → Type 0) → ((x : X) → P x → Q x) → (xs : List X) → AllByRecursion P xs → AllByRecursion Q xs
all-weaker P Q w [] a = tt
all-weaker P Q w (x ∷ xs) a = (w x a.0, all-weaker P Q w xs a.1)

-- a sender above all goes last
put-last : {B : Type 0} (n : ℕ) (b : B) (es : Inbox B) → AllByRecursion {X = ℕ × B} (λ e. e.0 < n) es → put_in n b es ≡ es ++ (n, b) ∷ []
put-last n b [] low = refl
put-last n b (e ∷ es) low =
    let above : Greater ≡ nat_cmp n e.0 = nat_cmp_is n e.0 Greater low.0 in
    ap (λ o. by_order o ((n, b) ∷ e ∷ es) ((e.0, b) ∷ es) (e ∷ put nat_cmp n b es)) (sym above) ∙ ap (λ r. e ∷ r) (put-last n b es low.1)

module _ {B : Type 0} (f : ℕ → B) where
  low-listed : (n : ℕ) → AllByRecursion {X = ℕ × B} (λ e. e.0 < n) (map (λ p. (p, f p)) (below n))
  low-listed zero = tt
  low-listed (suc n) = subst (λ l. AllByRecursion {X = ℕ × B} (λ e. e.0 < suc n) l) (sym (map-append (λ p. (p, f p)) (below n) (n ∷ [])))
      (all-append {X = ℕ × B} (λ e. e.0 < suc n) (map (λ p. (p, f p)) (below n)) ((n, f n) ∷ []) (all-weaker {X = ℕ × B} (λ e. e.0 < n) (λ e. e.0 < suc n) (λ e l. omega arith) _ (low-listed n)) (omega arith, tt))

  -- the body of one sender more
  gathered-suc : (n : ℕ) → gathered (suc n) f ≡ put_in n (f n) (gathered n f)
  gathered-suc n = map-append (λ p. (p, f p)) (below n) (n ∷ []) ∙ sym (put-last n (f n) (gathered n f) (low-listed n))

  pub sorted-gathered : (n : ℕ) → T (is_sorted nat_cmp (gathered n f))
  sorted-gathered zero = tt
  sorted-gathered (suc n) = subst (λ l. T (is_sorted nat_cmp l)) (sym (gathered-suc n)) (is_sorted-put nat_cmp nat_cmp_total n (f n) (gathered n f) (sorted-gathered n))

  pub find-gathered : (n q : ℕ) → body_from q (gathered n f) ≡ cond (nat_lt q n) (Some (f q)) None
  find-gathered zero q = let none : nat_lt q 0 ≡ false = grind (arith, nat_tests) in rw none refl
  find-gathered (suc n) q =
      ap (body_from q) (gathered-suc n) ∙ find-put nat_cmp nat_cmp_total q n (f n) (gathered n f)
      ∙ ap (λ b. cond b (Some (f n)) (body_from q (gathered n f))) (test_key q n)
      ∙ elim (eqb q n) as (λ b. eqb q n ≡ b → cond b (Some (f n)) (body_from q (gathered n f)) ≡ cond (nat_lt q (suc n)) (Some (f q)) None) [
        | true ↦ λ g.
            let is : q ≡ n = grind (arith, nat_tests) in
            let all : nat_lt q (suc n) ≡ true = grind (arith, nat_tests) in
            ap (λ x. Some (f x)) (sym is) ∙ ap (λ b. cond b (Some (f q)) None) (sym all)
        | false ↦ λ g.
            let same : nat_lt q (suc n) ≡ nat_lt q n = grind (arith, nat_tests) in
            find-gathered n q ∙ ap (λ b. cond b (Some (f q)) None) (sym same)
      ] refl

  -- where none is missing, the own body is in, and each body is its sender's, the inbox is what all sent
  pub is_gathered : (n me : ℕ) (inbox : Inbox B) → T (is_sorted nat_cmp inbox) → missing n me inbox ≡ 0 → body_from me inbox ≡ Some (f me)
      → ((q : ℕ) (b : B) → body_from q inbox ≡ Some b → (q < n) × (b ≡ f q)) → inbox ≡ gathered n f
  is_gathered n me inbox sorted none own true_to =
      same_entries nat_cmp nat_cmp_total nat_cmp-IsAntisymmetric inbox (gathered n f) sorted (sorted-gathered n)
      (λ q. elim (body_from q inbox) as (λ o. body_from q inbox ≡ o → o ≡ find nat_cmp q (gathered n f)) [
        | None ↦ λ e. elim (nat_lt q n) as (λ b. nat_lt q n ≡ b → None ≡ cond b (Some (f q)) None) [
          | true ↦ λ g.
              let within : q < n = grind (arith, nat_tests) in
              let other : q ≢ me = λ h. none≢some (f me) (sym e ∙ ap (λ x. body_from x inbox) h ∙ own) in
              let there = missing-none inbox n me q none within other in
              absurd (false≢true (sym there ∙ ap (λ o. not (is_some o)) e))
          | false ↦ λ g. refl
        ] refl ∙ sym (find-gathered n q)
        | Some b ↦ λ e.
            let is = true_to q b e in
            let all : nat_lt q n ≡ true = let w = is.0 in grind (arith, nat_tests) in
            ap Some is.1 ∙ ap (λ t. cond t (Some (f q)) None) (sym all) ∙ sym (find-gathered n q)
      ] refl)

  -- the senders whose bodies pass a test
  pub senders_where : (t : B → Bool) (ps : List ℕ) → map {A = ℕ × B} {B = ℕ} (λ e. e.0) (filter (λ e. t e.1) (map (λ p. (p, f p)) ps)) ≡ filter (λ p. t (f p)) ps
  senders_where t [] = refl
  senders_where t (p ∷ ps) = elim (t (f p)) as (λ b. map {A = ℕ × B} {B = ℕ} (λ e. e.0) (cond b ((p, f p) ∷ filter (λ e. t e.1) (map (λ p. (p, f p)) ps)) (filter (λ e. t e.1) (map (λ p. (p, f p)) ps))) ≡ cond b (p ∷ filter (λ p. t (f p)) ps) (filter (λ p. t (f p)) ps)) [
    | true ↦ ap (λ r. p ∷ r) (senders_where t ps)
    | false ↦ senders_where t ps
  ]

pub full_inbox_is_what_all_sent : {B : Type 0} → FullInboxIsWhatAllSent B
full_inbox_is_what_all_sent = is_gathered
