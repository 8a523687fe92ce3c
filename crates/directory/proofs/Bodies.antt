-- What a tree map answers, as the definitions of inboxes have it.
use Rattle.std.proofs.Common.{◌≡◌, ℕ, cond, List, [], ◌∷◌, Option, Some, Result, Ok, Err, IfOk, OnOk, OnErr, refl, sym, ap, subst, ◌∙◌}
use Rattle.std.specs.List.{AllByRecursion}
use Rattle.std.specs.declared.cmp.Ordering.TheVariants.{Less, Equal, Greater}
use Rattle.std.specs.Ordering.{nat_cmp, is_eq, match_ordering}
use Rattle.std.specs.Map.{lookup}
use Rattle.std.specs.BTreeMap.{is_at, insert_entry}
use Rattle.std.specs.FinMap.{find, put}
use Rattle.std.specs.FinMap.Entries.{by_order}
use Rattle.ma_geom.specs.Coordinates.{Coordinates}
use Rattle.letters.specs.declared.letter.Post.{Post}
use Rattle.letters.specs.declared.letter.Reply.{Reply}
use Rattle.part_phases.specs.Inboxes.{Inbox}
use Rattle.directory.specs.Posting.{places_in, reply_of}
use Rattle.directory.specs.steps.Replying.{reply_on}

pub lookup_is : {B : Type 0} (q : ℕ) (es : List (ℕ × B)) → lookup (is_at (nat_cmp q)) es ≡ find nat_cmp q es
lookup_is q [] = refl
lookup_is q (e ∷ es) = ap (cond (is_eq (nat_cmp q e.0)) (Some e.1)) (lookup_is q es)

pub insert_is : {B : Type 0} (es : List (ℕ × B)) (k : ℕ) (v : B) → insert_entry nat_cmp es k v ≡ put nat_cmp k v es
insert_is [] k v = refl
insert_is (e ∷ es) k v = elim (nat_cmp k e.0) as (λ o. match_ordering o ((k, v) ∷ e ∷ es) ((e.0, v) ∷ es) (e ∷ insert_entry nat_cmp es k v) ≡ by_order o ((k, v) ∷ e ∷ es) ((e.0, v) ∷ es) (e ∷ put nat_cmp k v es)) [
  | Less ↦ refl
  | Equal ↦ refl
  | Greater ↦ ap (λ r. e ∷ r) (insert_is es k v)
]

module _ {B : Type 0} (P : ℕ → Type 0) where
  all-insert_entry : (es : List (ℕ × B)) (k : ℕ) (v : B) → P k → AllByRecursion (λ (e : ℕ × B). P e.0) es → AllByRecursion (λ (e : ℕ × B). P e.0) (insert_entry nat_cmp es k v)
  all-insert_entry [] k v p h = (p, tt)
  all-insert_entry (e ∷ es) k v p h =
      elim (nat_cmp k e.0) as (λ o. AllByRecursion (λ (f : ℕ × B). P f.0) (match_ordering o ((k, v) ∷ e ∷ es) ((e.0, v) ∷ es) (e ∷ insert_entry nat_cmp es k v))) [
        | Less ↦ (p, h)
        | Equal ↦ h
        | Greater ↦ (h.0, all-insert_entry es k v p h.1)
      ]

  -- what holds of all keys and of the key of an entry holds of all keys after the entry was put in, or wasn't for want of memory
  pub all-inserted : {X E : Type 0} (result : Result X E) (before after : List (ℕ × B)) (k : ℕ) (v : B) → OnOk result (after ≡ insert_entry nat_cmp before k v) → OnErr result (after ≡ before)
      → P k → AllByRecursion (λ (e : ℕ × B). P e.0) before → AllByRecursion (λ (e : ℕ × B). P e.0) after
  all-inserted (Ok x) before after k v put same p h = subst (λ es. AllByRecursion (λ (e : ℕ × B). P e.0) es) (sym put) (all-insert_entry before k v p h)
  all-inserted (Err e) before after k v put same p h = subst (λ es. AllByRecursion (λ (f : ℕ × B). P f.0) es) (sym same) h

-- the reply to a part, from the one on the places that a look-up found
pub reply_found : {E : Type 0} (result : Result Reply E) (target : ℕ) (posts : Inbox Post) (found : Option Post) (places : List Coordinates)
    → found ≡ lookup (is_at (nat_cmp target)) posts → places ≡ places_in found → IfOk result (λ reply. reply ≡ reply_on places posts) → IfOk result (λ reply. reply ≡ reply_of posts target)
reply_found result target posts found places is from told =
    subst (λ (ps : List Coordinates). IfOk result (λ reply. reply ≡ reply_on ps posts)) (from ∙ ap places_in (is ∙ lookup_is target posts)) told
