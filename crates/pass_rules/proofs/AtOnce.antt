-- Changes that are made one after the other, and all at once.
use Rattle.std.proofs.Common.{◌≡◌, Bool, true, false, not, ◌&&◌, ◌||◌, List, [], ◌∷◌, ◌++◌, refl, sym, ap, ◌∙◌}
use Rattle.std.specs.declared.cmp.Ordering.{Ordering}
use Rattle.std.specs.Cmp.{IsTotalOrder}
use Rattle.std.specs.FinMap.{IsAntisymmetric}
use Rattle.std.specs.List.{AllByRecursion, flat_map}
use Rattle.std.specs.List.Sorted.{IsStrictlySortedBy}
use Rattle.std.proofs.lemmas.Bool.{false≢true}
use Rattle.std.specs.Ordering.{eq_by_cmp}
use Rattle.std.proofs.lemmas.List.Folds.{list_any-append}
use Rattle.ma_cells.specs.Ascending.{ascending_of, has}
use Rattle.ma_cells.proofs.Ascents.{has-ascending_of, sorted-ascending_of, is-ascending_of}
use Rattle.pass_rules.specs.Changes.{AreFree, Change, changed, changed_at_once, changed_in_turn, without}
use Rattle.ma_cells.proofs.Members.{has-filter}

merged : (y e es a b : Bool) → (a ≡ true → es ≡ false) → ((((y && not e) || a) && not es) || b) ≡ ((y && not (e || es)) || (a || b))
merged y e es true b free = finish y e es b (free refl)
  where
    finish : (y e es b : Bool) → es ≡ false → ((((y && not e) || true) && not es) || b) ≡ ((y && not (e || es)) || true)
    finish true true true b h = absurd (false≢true (sym h))
    finish true true false b h = refl
    finish true false true b h = absurd (false≢true (sym h))
    finish true false false b h = refl
    finish false e true b h = absurd (false≢true (sym h))
    finish false e false b h = refl
merged true true es false b free = refl
merged true false true false b free = refl
merged true false false false b free = refl
merged false e es false b free = refl

plain : (h : Bool) → h ≡ ((h && true) || false)
plain true = refl
plain false = refl

module _ {K : Type 0} {R : K → K → Ordering} (o : IsTotalOrder R) (exact : IsAntisymmetric R) where
  abbrev ended_by : List (Change K) → List K
  ended_by cs = flat_map (λ c. c.ended) cs

  abbrev added_by : List (Change K) → List K
  added_by cs = flat_map (λ c. c.added) cs

  -- members of what a change leaves
  pub has-without : (q : K) (others xs added : List K) → has R q (without R others xs ++ added) ≡ ((has R q xs && not (has R q others)) || has R q added)
  has-without q others xs added = list_any-append (eq_by_cmp R q) (without R others xs) added ∙ ap (λ b. b || has R q added) (has-filter exact (λ x. not (has R x others)) q xs)

  free_of : (q : K) (added : List K) (cs : List (Change K)) → AllByRecursion (λ (d : Change K). (q : K) → has R q added ≡ true → has R q d.ended ≡ false) cs
      → has R q added ≡ true → has R q (ended_by cs) ≡ false
  free_of q added [] h m = refl
  free_of q added (c ∷ cs) h m = list_any-append (eq_by_cmp R q) c.ended (ended_by cs) ∙ rw (h.0 q m) (free_of q added cs h.1 m)

  pub has-in_turn : (q : K) (cs : List (Change K)) (ys : List K) → AreFree R cs → has R q (changed_in_turn R cs ys) ≡ ((has R q ys && not (has R q (ended_by cs))) || has R q (added_by cs))
  has-in_turn q [] ys free = plain (has R q ys)
  has-in_turn q (c ∷ cs) ys free =
      has-in_turn q cs (changed R c ys) free.1
      ∙ ap (λ b. (b && not (has R q (ended_by cs))) || has R q (added_by cs)) (has-ascending_of o q (without R c.ended ys ++ c.added) ∙ has-without q c.ended ys c.added)
      ∙ merged (has R q ys) (has R q c.ended) (has R q (ended_by cs)) (has R q c.added) (has R q (added_by cs)) (free_of q c.added cs free.0)
      ∙ ap (λ b. (has R q ys && not b) || (has R q c.added || has R q (added_by cs))) (sym (list_any-append (eq_by_cmp R q) c.ended (ended_by cs)))
      ∙ ap (λ b. (has R q ys && not (has R q (c.ended ++ ended_by cs))) || b) (sym (list_any-append (eq_by_cmp R q) c.added (added_by cs)))

  sorted-in_turn : (cs : List (Change K)) (ys : List K) → IsStrictlySortedBy R ys → IsStrictlySortedBy R (changed_in_turn R cs ys)
  sorted-in_turn [] ys s = s
  sorted-in_turn (c ∷ cs) ys s = sorted-in_turn cs (changed R c ys) (sorted-ascending_of o (without R c.ended ys ++ c.added))

  pub in_turn : (cs : List (Change K)) (xs : List K) → AreFree R cs → changed_in_turn R cs (ascending_of R xs) ≡ changed_at_once R cs xs
  in_turn cs xs free =
      is-ascending_of o exact _ (without R (ended_by cs) xs ++ added_by cs) (sorted-in_turn cs (ascending_of R xs) (sorted-ascending_of o xs))
      (λ q. has-in_turn q cs (ascending_of R xs) free
      ∙ ap (λ b. (b && not (has R q (ended_by cs))) || has R q (added_by cs)) (has-ascending_of o q xs)
      ∙ sym (has-without q (ended_by cs) xs (added_by cs)))
