-- What a list has once something was pushed for each item of another.
use Rattle.std.proofs.Common.{◌≡◌, ℕ, ◌≤◌, List, ◌++◌, length, get_or, drop, drop_of_length-le, ◌+◌, ◌<◌, append_assoc, sym, ap, ◌∙◌}
use Rattle.std.specs.List.{flat_map}
use Rattle.std.proofs.lemmas.List.{append-nil, drop_more}

module _ {X Y : Type 0} (f : X → List Y) (xs : List X) where
  pub all_pushed : (i : ℕ) (now wanted : List Y) → length xs ≤ i → now ++ flat_map f (drop i xs) ≡ wanted → now ≡ wanted
  all_pushed i now wanted over e = sym (append-nil now) ∙ ap (λ ys. now ++ flat_map f ys) (sym (drop_of_length-le xs over)) ∙ e

  pub one_pushed : (i : ℕ) (x : X) (before now wanted : List Y) → i < length xs → x ≡ get_or xs i x → now ≡ before ++ f x → before ++ flat_map f (drop i xs) ≡ wanted → now ++ flat_map f (drop (i + 1) xs) ≡ wanted
  one_pushed i x before now wanted within is pushed e =
      ap (λ ys. ys ++ flat_map f (drop (i + 1) xs)) (pushed ∙ ap (λ y. before ++ f y) is)
      ∙ append_assoc before (f (get_or xs i x)) (flat_map f (drop (i + 1) xs)) ∙ ap (λ ys. before ++ flat_map f ys) (sym (drop_more xs i x within)) ∙ e
