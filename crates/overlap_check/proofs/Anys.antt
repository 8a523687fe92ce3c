-- Tests on the forms, taken one kind after the other.
use Rattle.std.proofs.Common.{◌≡◌, Bool, true, false, ◌||◌, List, [], ◌∷◌, ◌++◌, map, refl, sym, ap, ◌∙◌}
use Rattle.std.specs.List.{list_any}
use Rattle.std.proofs.lemmas.List.Folds.{list_any-append}
use Rattle.ma_geom.specs.Coordinates.{Coordinates}
use Rattle.ma_geom.specs.Volume.{cross}
use Rattle.overlap_check.specs.Forms.{products}
use Rattle.ma_cells.proofs.Passing.{any-map}

-- a test on products is one on each vector of the one list with each of the other
pub list_any-products : (p : Coordinates → Bool) (us vs : List Coordinates) → list_any p (products us vs) ≡ list_any (λ u. list_any (λ v. p (cross u v)) vs) us
list_any-products p [] vs = refl
list_any-products p (u ∷ us) vs =
    list_any-append p (map (cross u) vs) (products us vs)
    ∙ ap (λ b. b || list_any p (products us vs)) (any-map p (cross u) vs)
    ∙ ap (λ b. list_any (λ v. p (cross u v)) vs || b) (list_any-products p us vs)

-- the test of two lists, the first of which settles it
pub among_first : {X : Type 0} (p : X → Bool) (xs ys : List X) (b : Bool) → b ≡ list_any p xs → b ≡ true → b ≡ list_any p (xs ++ ys)
among_first p xs ys b e h = h ∙ sym (list_any-append p xs ys ∙ ap (λ c. c || list_any p ys) (sym e ∙ h))

-- and of which it doesn't
pub among_rest : {X : Type 0} (p : X → Bool) (xs ys : List X) (b c : Bool) → b ≡ list_any p xs → b ≡ false → c ≡ list_any p ys → c ≡ list_any p (xs ++ ys)
among_rest p xs ys b c e h k = k ∙ sym (list_any-append p xs ys ∙ ap (λ d. d || list_any p ys) (sym e ∙ h))
