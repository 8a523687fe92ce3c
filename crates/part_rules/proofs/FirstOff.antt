-- The first place off the grid, in two lists one after the other.
use Rattle.std.proofs.Common.{◌≡◌, ℕ, ◌+◌, ◌<◌, true, false, List, [], ◌∷◌, ◌++◌, length, get_or, drop, Some, None, refl, sym, ap, ◌∙◌}
use Rattle.std.proofs.lemmas.List.{at_drop_more}
use Rattle.std.specs.List.{flat_map}
use Rattle.std.specs.Prelude.{if◌then◌else◌}
use Rattle.ma_geom.specs.Coordinates.{Coordinates}
use Rattle.ma_cells.specs.Grid.{is_on_grid}
use Rattle.part_rules.specs.Bodies.{first_off}

-- one in the first list
pub off_first : (k : ℕ) (xs ys : List Coordinates) (p : Coordinates) → first_off k xs ≡ Some p → first_off k (xs ++ ys) ≡ Some p
off_first k [] ys p e = absurd (cc)
off_first k (x ∷ xs) ys p e =
    elim (is_on_grid k x) as (λ b. (if b then first_off k xs else Some x) ≡ Some p → (if b then first_off k (xs ++ ys) else Some x) ≡ Some p) [
      | true ↦ λ e. off_first k xs ys p e
      | false ↦ λ e. e
    ] e

-- none in the first list
pub off_behind : (k : ℕ) (xs ys : List Coordinates) → first_off k xs ≡ None → first_off k (xs ++ ys) ≡ first_off k ys
off_behind k [] ys e = refl
off_behind k (x ∷ xs) ys e =
    elim (is_on_grid k x) as (λ b. (if b then first_off k xs else Some x) ≡ None → (if b then first_off k (xs ++ ys) else Some x) ≡ first_off k ys) [
      | true ↦ λ e. off_behind k xs ys e
      | false ↦ λ e. absurd (cc)
    ] e

-- one in the item at i, where none is before it
pub found : {X : Type 0} (f : X → List Coordinates) (k : ℕ) (xs : List X) (i : ℕ) (x : X) (p : Coordinates) → i < length xs → x ≡ get_or xs i x
    → first_off k (flat_map f (drop i xs)) ≡ first_off k (flat_map f xs) → Some p ≡ first_off k (f x) → Some p ≡ first_off k (flat_map f xs)
found f k xs i x p lt is kept here =
    sym (off_first k (f x) (flat_map f (drop (i + 1) xs)) p (sym here))
    ∙ ap (λ y. first_off k (f y ++ flat_map f (drop (i + 1) xs))) is
    ∙ sym (at_drop_more (λ ys. first_off k (flat_map f ys)) xs i x lt)
    ∙ kept

-- none in the item at i
pub passed : {X : Type 0} (f : X → List Coordinates) (k : ℕ) (xs : List X) (i : ℕ) (x : X) → i < length xs → x ≡ get_or xs i x
    → first_off k (flat_map f (drop i xs)) ≡ first_off k (flat_map f xs) → None ≡ first_off k (f x) → first_off k (flat_map f (drop (i + 1) xs)) ≡ first_off k (flat_map f xs)
passed f k xs i x lt is kept here =
    sym (off_behind k (f x) (flat_map f (drop (i + 1) xs)) (sym here))
    ∙ ap (λ y. first_off k (f y ++ flat_map f (drop (i + 1) xs))) is
    ∙ sym (at_drop_more (λ ys. first_off k (flat_map f ys)) xs i x lt)
    ∙ kept
