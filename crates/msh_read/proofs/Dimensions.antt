-- Names keep their dimensions as they are gathered.
use Rattle.std.proofs.Common.{◌≡◌, ◌≤◌, Bool, true, false, cond, ◌&&◌, List, [], ◌∷◌, ◌++◌, refl, ap, ◌∙◌}
use Rattle.std.specs.declared.cmp.Ordering.{Ordering}
use Rattle.std.specs.declared.cmp.Ordering.TheVariants.{Less, Equal, Greater}
use Rattle.std.specs.List.{All, list_all}
use Rattle.std.specs.Ordering.{is_lt, is_eq}
use Rattle.std.proofs.lemmas.Bool.{and_from, leb-true}
use Rattle.std.proofs.lemmas.List.Folds.{list_all-append}
use Rattle.std.proofs.lemmas.List.Sums.{AllPass-from_list_all}
use Rattle.ma_cells.specs.Ascending.{put, ascending_of}
use Rattle.msh_read.specs.GroupNames.{GroupName, has_dimension}

first : (a b : Bool) → (a && b) ≡ true → a ≡ true
first true b e = refl
first false b e = absurd (cc)

second : (a b : Bool) → (a && b) ≡ true → b ≡ true
second true b e = e
second false b e = absurd (cc)

-- one more name
pub dimensions_kept : (names : List GroupName) (name : GroupName) → list_all has_dimension names ≡ true → has_dimension name ≡ true → list_all has_dimension (names ++ name ∷ []) ≡ true
dimensions_kept names name all one = list_all-append has_dimension names (name ∷ []) ∙ and_from _ _ all (and_from _ _ one refl)

module _ {K : Type 0} (R : K → K → Ordering) (p : K → Bool) where
  all_put : (x : K) (ys : List K) → p x ≡ true → list_all p ys ≡ true → list_all p (put R x ys) ≡ true
  all_put x [] one all = and_from _ _ one refl
  all_put x (y ∷ ys) one all =
      elim (R x y) as (λ r. list_all p (cond (is_lt r) (x ∷ y ∷ ys) (cond (is_eq r) (y ∷ ys) (y ∷ put R x ys))) ≡ true) [
        | Less ↦ and_from _ _ one all
        | Equal ↦ all
        | Greater ↦ and_from _ _ (first _ _ all) (all_put x ys one (second _ _ all))
      ]

  -- the set of items that pass a test
  pub all_ascending : (xs : List K) → list_all p xs ≡ true → list_all p (ascending_of R xs) ≡ true
  all_ascending [] all = refl
  all_ascending (x ∷ xs) all = all_put x (ascending_of R xs) (first _ _ all) (all_ascending xs (second _ _ all))

pub set_keeps : (R : GroupName → GroupName → Ordering) (names set : List GroupName) → set ≡ ascending_of R names → list_all has_dimension names ≡ true → All (λ name. name.dimension ≤ 3) set
set_keeps R names set e all k d h =
    leb-true _ _ (AllPass-from_list_all has_dimension set (ap (list_all has_dimension) e ∙ all_ascending R has_dimension names all) k d h)
