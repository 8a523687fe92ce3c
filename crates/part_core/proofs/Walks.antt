-- Walks over the bodies of an inbox.
use Rattle.std.proofs.Common.{◌≡◌, ◌≢◌, ℕ, zero, suc, ◌<◌, true, false, cond, not, List, [], ◌∷◌, ◌++◌, filter, length, get_or, refl, sym, ap, subst, ◌∙◌, arith, append_assoc}
use Rattle.std.specs.Prelude.{◌==◌}
use Rattle.std.proofs.lemmas.Bool.{false≢true}
use Rattle.std.proofs.lemmas.Bool.Decides.{nat_tests}
use Rattle.std.specs.declared.cmp.Ordering.TheVariants.{Less, Greater}
use Rattle.std.proofs.lemmas.List.{append-nil}
use Rattle.std.specs.List.{AllByRecursion}
use Rattle.std.specs.List.Sorted.{IsStrictlySortedBy}
use Rattle.std.specs.Map.{keys_of}
use Rattle.std.specs.Ordering.{nat_cmp}
use Rattle.std.specs.Cmp.{nat_cmp_is}
use Rattle.std.specs.FinMap.{put}
use Rattle.std.specs.FinMap.Entries.{by_order}
use Rattle.letters.specs.declared.letter.Body.{Body}
use Rattle.letters.specs.declared.letter.Body.TheVariants as bodies
use Rattle.letters.specs.declared.letter.Post.{Post}
use Rattle.part_phases.specs.Inboxes.{Inbox, put_in}
use Rattle.ma_cells.specs.declared.batch.Batch.{Batch}
use Rattle.part_rules.specs.Bodies.{batches_in, post_from, posts_in}
use Rattle.part_core.proofs.Bodies.{less}

-- a body of a later sender goes to the end
pub put_behind : {B : Type 0} (k : ℕ) (v : B) (es : List (ℕ × B)) → AllByRecursion (λ e. e.0 < k) es → put_in k v es ≡ es ++ (k, v) ∷ []
put_behind k v [] all = refl
put_behind k v (e ∷ es) all =
    let later : nat_cmp k e.0 ≡ Greater = sym (nat_cmp_is k e.0 Greater all.0) in
    ap (λ o. by_order o ((k, v) ∷ e ∷ es) ((e.0, v) ∷ es) (e ∷ put nat_cmp k v es)) later ∙ ap (λ r. e ∷ r) (put_behind k v es all.1)

before-more : {C : Type 0} (k n : ℕ) (ds xs : List (ℕ × C)) → AllByRecursion (λ x. x.0 ≡ k) xs → k < n → AllByRecursion (λ d. d.0 < n) ds → AllByRecursion (λ d. d.0 < n) (ds ++ xs)
before-more k n [] [] are lt h = tt
before-more k n [] (x ∷ xs) are lt h = (let is = are.0 in omega arith, before-more k n [] xs are.1 lt tt)
before-more k n (d ∷ ds) xs are lt h = (h.0, before-more k n ds xs are lt h.1)

-- what is behind some is behind one more that it is behind
behind-more : {B C : Type 0} (k : ℕ) (ds xs : List (ℕ × C)) (es : List (ℕ × B)) → AllByRecursion (λ x. x.0 ≡ k) xs → AllByRecursion (λ y. nat_cmp k y ≡ Less) (keys_of es) → AllByRecursion (λ e. AllByRecursion (λ d. d.0 < e.0) ds) es
    → AllByRecursion (λ e. AllByRecursion (λ d. d.0 < e.0) (ds ++ xs)) es
behind-more k ds xs [] are rises all = tt
behind-more k ds xs (e ∷ es) are rises all = (before-more k e.0 ds xs are (less k e.0 rises.0) all.0, behind-more k ds xs es are rises.1 all.1)

-- a body is from its sender
post_is_from : (k : ℕ) (b : Body) → AllByRecursion (λ x. x.0 ≡ k) (post_from k b)
post_is_from k (bodies.Post post) = (refl, tt)
post_is_from k (bodies.Reply reply) = tt
post_is_from k (bodies.Ghosts batch) = tt
post_is_from k (bodies.Propose ops) = tt
post_is_from k (bodies.Vote ops) = tt
post_is_from k (bodies.Order ops) = tt
post_is_from k (bodies.Deliver batch) = tt

-- that these posts, with those of an inbox that come behind, are all
abbrev pub IsWalk : (rest : Inbox Body) (posts all : Inbox Post) → Type 0
IsWalk rest posts all =
    (posts ++ posts_in rest ≡ all) × IsStrictlySortedBy nat_cmp (keys_of rest) × AllByRecursion (λ entry. entry.0 < 64) rest × AllByRecursion (λ entry. AllByRecursion (λ post. post.0 < entry.0) posts) rest

pub walk_at : (it : Inbox Body) (k : ℕ) (b : Body) (rest : Inbox Body) (posts all : Inbox Post) → it ≡ (k, b) ∷ rest → IsWalk it posts all → (k < 64) × AllByRecursion (λ d. d.0 < k) posts
walk_at it k b rest posts all is walk = let w : IsWalk ((k, b) ∷ rest) posts all = subst (λ i. IsWalk i posts all) is walk in (w.2.0, w.3.0)

pub walk_on : (it : Inbox Body) (k : ℕ) (b : Body) (rest : Inbox Body) (posts all : Inbox Post) → it ≡ (k, b) ∷ rest → IsWalk it posts all → IsWalk rest (posts ++ post_from k b) all
unfolding IsStrictlySortedBy
walk_on it k b rest posts all is walk =
    let w : IsWalk ((k, b) ∷ rest) posts all = subst (λ i. IsWalk i posts all) is walk in
    (append_assoc posts (post_from k b) (posts_in rest) ∙ w.0, w.1.1, w.2.1, behind-more k posts (post_from k b) rest (post_is_from k b) w.1.0 w.3.1)

apart : (a b : ℕ) → (a == b) ≡ false → a ≢ b
apart a b e same = false≢true (grind (arith, nat_tests))

-- those of others are others'
pub are_others : {B : Type 0} (me : ℕ) (es : List (ℕ × B)) → AllByRecursion (λ e. e.0 ≢ me) (filter (λ e. not (e.0 == me)) es)
are_others me [] = tt
are_others me (e ∷ es) = elim (e.0 == me) as (λ b. (e.0 == me) ≡ b → AllByRecursion (λ e. e.0 ≢ me) (cond (not b) (e ∷ filter (λ e. not (e.0 == me)) es) (filter (λ e. not (e.0 == me)) es))) [
  | true ↦ λ is. are_others me es
  | false ↦ λ is. ((λ same. apart e.0 me is same), are_others me es)
] refl

at_each : {X : Type 0} (P : X → Type 0) (xs : List X) → AllByRecursion P xs → (k : ℕ) (d : X) → k < length xs → P (get_or xs k d)
at_each P [] all k d lt = absurd (omega arith)
at_each P (x ∷ xs) all zero d lt = all.0
at_each P (x ∷ xs) all (suc k) d lt = at_each P xs all.1 k d (omega arith)

-- all that was shown is of others
pub shown_all : (me : ℕ) (it batches : Inbox Body) (got : Inbox Batch) → it ≡ [] → got ++ filter (λ e. not (e.0 == me)) (batches_in it) ≡ filter (λ e. not (e.0 == me)) (batches_in batches)
    → (k : ℕ) (d : ℕ × Batch) → k < length got → (get_or got k d).0 ≢ me
shown_all me it batches got is joined =
    let all : got ≡ filter (λ e. not (e.0 == me)) (batches_in batches) = sym (append-nil got) ∙ sym (ap (λ i. got ++ filter (λ e. not (e.0 == me)) (batches_in i)) is) ∙ joined in
    subst (λ (l : Inbox Batch). (k : ℕ) (d : ℕ × Batch) → k < length l → (get_or l k d).0 ≢ me) (sym all) (at_each (λ e. e.0 ≢ me) (filter (λ e. not (e.0 == me)) (batches_in batches)) (are_others me (batches_in batches)))
