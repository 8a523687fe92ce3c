-- Tests of lists that are made of what there may be for each item.
use Rattle.std.proofs.Common.{◌≡◌, Bool, true, false, not, cond, ◌&&◌, ◌||◌, List, [], ◌∷◌, ◌++◌, filter, Option, Some, None, refl, ap}
use Rattle.std.proofs.Math.Bool.{and-true}
use Rattle.std.specs.List.{flat_map, list_all, list_any}
use Rattle.std.specs.Option.{option_to_list}
use Rattle.cavity_collapse.specs.Steps.{each_passes, some_passes}

module _ {X Y : Type 0} (test : Y → Bool) (g : X → Option Y) where
  pub any_listed : (xs : List X) → list_any test (flat_map (λ x. option_to_list (g x)) xs) ≡ list_any (λ x. some_passes test (g x)) xs
  any_listed [] = refl
  any_listed (x ∷ xs) =
      elim (g x) as (λ o. list_any test (option_to_list o ++ flat_map (λ x. option_to_list (g x)) xs) ≡ (some_passes test o || list_any (λ x. some_passes test (g x)) xs)) [
        | Some y ↦ ap (λ b. test y || b) (any_listed xs)
        | None ↦ any_listed xs
      ]

  pub all_listed : (xs : List X) → list_all test (flat_map (λ x. option_to_list (g x)) xs) ≡ list_all (λ x. each_passes test (g x)) xs
  all_listed [] = refl
  all_listed (x ∷ xs) =
      elim (g x) as (λ o. list_all test (option_to_list o ++ flat_map (λ x. option_to_list (g x)) xs) ≡ (each_passes test o && list_all (λ x. each_passes test (g x)) xs)) [
        | Some y ↦ ap (λ b. test y && b) (all_listed xs)
        | None ↦ all_listed xs
      ]

-- the same of what there may be once
pub all_option : {Y : Type 0} (test : Y → Bool) (o : Option Y) → list_all test (option_to_list o) ≡ each_passes test o
all_option test (Some y) = and-true (test y)
all_option test None = refl

-- the same of those that pass another test
module _ {Y : Type 0} (kept test : Y → Bool) where
  pub any_kept : (ys : List Y) → list_any test (filter kept ys) ≡ list_any (λ y. kept y && test y) ys
  any_kept [] = refl
  any_kept (y ∷ ys) =
      elim (kept y) as (λ b. list_any test (cond b (y ∷ filter kept ys) (filter kept ys)) ≡ ((b && test y) || list_any (λ y. kept y && test y) ys)) [
        | true ↦ ap (λ b. test y || b) (any_kept ys)
        | false ↦ any_kept ys
      ]

  pub all_kept : (ys : List Y) → list_all test (filter kept ys) ≡ list_all (λ y. not (kept y) || test y) ys
  all_kept [] = refl
  all_kept (y ∷ ys) =
      elim (kept y) as (λ b. list_all test (cond b (y ∷ filter kept ys) (filter kept ys)) ≡ ((not b || test y) && list_all (λ y. not (kept y) || test y) ys)) [
        | true ↦ ap (λ b. test y && b) (all_kept ys)
        | false ↦ all_kept ys
      ]
