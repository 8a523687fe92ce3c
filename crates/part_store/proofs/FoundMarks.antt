-- Which marks are on cells of tetrahedra, by the cells that were found.
use Rattle.std.proofs.Common.{◌≡◌, ℕ, ◌+◌, ◌<◌, Bool, true, false, cond, ◌&&◌, ◌||◌, List, [], ◌∷◌, ◌++◌, drop, filter, get_or, length, map, refl, sym, ap, subst, ◌∙◌}
use Rattle.std.specs.Cmp.{tied_itself}
use Rattle.std.specs.List.{AllByRecursion, flat_map}
use Rattle.std.specs.Ordering.{eq_by_cmp, is_eq}
use Rattle.std.proofs.lemmas.Bool.{false≢true, or_right}
use Rattle.std.proofs.lemmas.List.{drop_more}
use Rattle.std.proofs.lemmas.List.Folds.{list_any-append}
use Rattle.ma_geom.specs.Coordinates.{Coordinates, place_cmp}
use Rattle.ma_geom.proofs.PlaceOrder.{place_cmp-IsAntisymmetric, place_cmp_total}
use Rattle.ma_cells.specs.Ascending.{ascending_of, has}
use Rattle.ma_cells.specs.Cells.{CellMark, cell_cmp, corners_of, is_cell}
use Rattle.ma_cells.specs.Faces.{holds_all}
use Rattle.ma_cells.specs.Incidence.{is_on}
use Rattle.ma_cells.specs.Tetrahedron.{Tetrahedron}
use Rattle.ma_cells.specs.declared.cell.Cell.{Cell}
use Rattle.ma_cells.specs.declared.cell.Cell.TheVariants.{Point, Seg, Tri}
use Rattle.ma_cells.proofs.Ascents.{has-ascending_of}
use Rattle.ma_cells.proofs.CellOrders.{cell_cmp-IsAntisymmetric, cell_cmp_total}
use Rattle.ma_cells.proofs.Members.{all_alike, has-filter, tied_is}
use Rattle.ma_cells.proofs.Passing.{all_weaker}

-- ---- the corners of wanted cells
module _ (wanted : List Cell) where
  abbrev pub corner_list : List Coordinates
  corner_list = flat_map (λ cell. corners_of cell) wanted

  abbrev pub corners_wanted : List Coordinates
  corners_wanted = ascending_of place_cmp corner_list

-- each corner of a wanted cell is among them
corners_listed : (wanted : List Cell) (cell : Cell) (place : Coordinates) → has cell_cmp cell wanted ≡ true → has place_cmp place (corners_of cell) ≡ true → has place_cmp place (corner_list wanted) ≡ true
corners_listed [] cell place there at = absurd (false≢true there)
corners_listed (c ∷ wanted) cell place there at =
    list_any-append (eq_by_cmp place_cmp place) (corners_of c) (corner_list wanted)
    ∙ elim (eq_by_cmp cell_cmp cell c) as (λ b. eq_by_cmp cell_cmp cell c ≡ b → (b || has cell_cmp cell wanted) ≡ true → (has place_cmp place (corners_of c) || has place_cmp place (corner_list wanted)) ≡ true) [
      | true ↦ λ tied _. ap (λ b. b || has place_cmp place (corner_list wanted)) (subst (λ k. has place_cmp place (corners_of k) ≡ true) (tied_is cell_cmp-IsAntisymmetric cell c tied) at)
      | false ↦ λ _ later. or_right (has place_cmp place (corners_of c)) (has place_cmp place (corner_list wanted)) (corners_listed wanted cell place later at)
    ] refl there

-- so a wanted cell has all its corners in some places just where it has them in those of the places that are corners of wanted cells
holds_near : (wanted : List Cell) (places near : List Coordinates) (cell : Cell) → near ≡ filter (λ place. has place_cmp place (corners_wanted wanted)) places → has cell_cmp cell wanted ≡ true
    → holds_all near (corners_of cell) ≡ holds_all places (corners_of cell)
holds_near wanted places near cell is there =
    all_alike place_cmp_total (λ place. has place_cmp place near) (λ place. has place_cmp place places) (corners_of cell) (λ place at.
    ap (has place_cmp place) is
    ∙ (has-filter place_cmp-IsAntisymmetric (λ x. has place_cmp x (corners_wanted wanted)) place places
    ∙ with_true (has place_cmp place places) (has place_cmp place (corners_wanted wanted)) (has-ascending_of place_cmp_total place (corner_list wanted) ∙ corners_listed wanted cell place there at)))
  where
    with_true : (b t : Bool) → t ≡ true → (b && t) ≡ b
    with_true true t is = is
    with_true false t is = refl

-- the wanted cells of a tetrahedron with these corners
pub found_near : (wanted found more own : List Cell) (corners places near : List Coordinates) → corners ≡ corners_wanted wanted → near ≡ filter (λ place. has place_cmp place corners) places
    → more ≡ found ++ filter (λ c. holds_all near (corners_of c) && has cell_cmp c wanted) own → ((cell : Cell) → is_cell cell ≡ true → has cell_cmp cell own ≡ holds_all places (corners_of cell))
    → (cell : Cell) → is_cell cell ≡ true → has cell_cmp cell more ≡ (has cell_cmp cell found || (holds_all places (corners_of cell) && has cell_cmp cell wanted))
found_near wanted found more own corners places near are is pushed held cell real =
    ap (has cell_cmp cell) pushed
    ∙ (list_any-append (eq_by_cmp cell_cmp cell) found (filter (λ c. holds_all near (corners_of c) && has cell_cmp c wanted) own)
    ∙ ap (λ b. has cell_cmp cell found || b)
    (has-filter cell_cmp-IsAntisymmetric (λ c. holds_all near (corners_of c) && has cell_cmp c wanted) cell own
    ∙ (ap (λ b. b && (holds_all near (corners_of cell) && has cell_cmp cell wanted)) (held cell real)
    ∙ both (holds_all places (corners_of cell)) (holds_all near (corners_of cell)) (has cell_cmp cell wanted) (λ there. holds_near wanted places near cell (is ∙ ap (λ cs. filter (λ place. has place_cmp place cs) places) are) there))))
  where
    both : (h n w : Bool) → (w ≡ true → n ≡ h) → (h && (n && w)) ≡ (h && w)
    both true n true same = ap (λ b. b && true) (same refl)
    both true true false same = refl
    both true false false same = refl
    both false n w same = refl

-- a tetrahedron with no corner of a wanted cell has none of the wanted cells
pub found_none : (wanted found : List Cell) (corners places near : List Coordinates) → corners ≡ corners_wanted wanted → near ≡ filter (λ place. has place_cmp place corners) places → near ≡ []
    → (cell : Cell) → is_cell cell ≡ true → has cell_cmp cell found ≡ (has cell_cmp cell found || (holds_all places (corners_of cell) && has cell_cmp cell wanted))
found_none wanted found corners places near are is none cell real =
    neither (has cell_cmp cell found) (holds_all places (corners_of cell)) (has cell_cmp cell wanted) (λ there.
    sym (holds_near wanted places near cell (is ∙ ap (λ cs. filter (λ place. has place_cmp place cs) places) are) there)
    ∙ ap (λ ps. holds_all ps (corners_of cell)) none
    ∙ cornered cell real)
  where
    cornered : (c : Cell) → is_cell c ≡ true → holds_all [] (corners_of c) ≡ false
    cornered (Point p) h = refl
    cornered (Seg []) h = absurd (false≢true h)
    cornered (Seg (a ∷ s)) h = refl
    cornered (Tri []) h = absurd (false≢true h)
    cornered (Tri (a ∷ s)) h = refl

    neither : (f h w : Bool) → (w ≡ true → h ≡ false) → f ≡ (f || (h && w))
    neither true h w out = refl
    neither false true true out = sym (out refl)
    neither false true false out = refl
    neither false false w out = refl

-- one more tetrahedron whose cells were looked up
pub found_next : (wanted found more : List Cell) (tets : List Tetrahedron) (i : ℕ) (tet : Tetrahedron) (all : Bool) (cell : Cell) → i < length tets → tet ≡ get_or tets i tet
    → has cell_cmp cell more ≡ (has cell_cmp cell found || (holds_all tet.corners (corners_of cell) && has cell_cmp cell wanted))
    → (has cell_cmp cell found || (has cell_cmp cell wanted && is_on (drop i tets) cell)) ≡ all
    → (has cell_cmp cell more || (has cell_cmp cell wanted && is_on (drop (i + 1) tets) cell)) ≡ all
found_next wanted found more tets i tet all cell within at added before =
    ap (λ b. b || (has cell_cmp cell wanted && is_on (drop (i + 1) tets) cell)) added
    ∙ regroup (has cell_cmp cell found) (holds_all tet.corners (corners_of cell)) (has cell_cmp cell wanted) (is_on (drop (i + 1) tets) cell)
    ∙ ap (λ rest. has cell_cmp cell found || (has cell_cmp cell wanted && is_on rest cell)) (sym (drop_more tets i tet within ∙ ap (λ t. t ∷ drop (i + 1) tets) (sym at)))
    ∙ before
  where
    regroup : (f h w r : Bool) → ((f || (h && w)) || (w && r)) ≡ (f || (w && (h || r)))
    regroup true h w r = refl
    regroup false true true r = refl
    regroup false true false r = refl
    regroup false false w r = refl

-- at the end nothing is left to be found
pub found_all : (found wanted : List Cell) (rest : List Tetrahedron) (all : Bool) (cell : Cell) → rest ≡ [] → (has cell_cmp cell found || (has cell_cmp cell wanted && is_on rest cell)) ≡ all → has cell_cmp cell found ≡ all
found_all found wanted rest all cell none is =
    none_left (has cell_cmp cell found) (has cell_cmp cell wanted) ∙ ap (λ r. has cell_cmp cell found || (has cell_cmp cell wanted && is_on r cell)) (sym none) ∙ is
  where
    none_left : (f w : Bool) → f ≡ (f || (w && false))
    none_left true w = refl
    none_left false true = refl
    none_left false false = refl

-- the cells that are found, as a set
pub found_set : (found set wanted : List Cell) (tets : List Tetrahedron) → set ≡ ascending_of cell_cmp found
    → ((cell : Cell) → is_cell cell ≡ true → has cell_cmp cell found ≡ (has cell_cmp cell wanted && is_on tets cell))
    → (cell : Cell) → is_cell cell ≡ true → has cell_cmp cell set ≡ (has cell_cmp cell wanted && is_on tets cell)
found_set found set wanted tets is each cell real = ap (has cell_cmp cell) is ∙ has-ascending_of cell_cmp_total cell found ∙ each cell real

filter-alike : {X : Type 0} (f g : X → Bool) (xs : List X) → AllByRecursion (λ x. f x ≡ g x) xs → filter f xs ≡ filter g xs
filter-alike f g [] h = refl
filter-alike f g (x ∷ xs) h = ap (λ b. cond b (x ∷ filter f xs) (filter f xs)) h.0 ∙ ap (λ rest. cond (g x) (x ∷ rest) rest) (filter-alike f g xs h.1)

each_wanted : (marks : List CellMark) → AllByRecursion (λ mark. has cell_cmp mark.cell (map (λ m. m.cell) marks) ≡ true) marks
each_wanted [] = tt
each_wanted (mark ∷ marks) = (
  ap (λ r. is_eq r || has cell_cmp mark.cell (map (λ m. m.cell) marks)) (tied_itself cell_cmp_total mark.cell),
  all_weaker (λ m. has cell_cmp m.cell (map (λ k. k.cell) marks) ≡ true) (λ m. has cell_cmp m.cell (map (λ k. k.cell) (mark ∷ marks)) ≡ true) (λ m later. or_right (eq_by_cmp cell_cmp m.cell mark.cell) (has cell_cmp m.cell (map (λ k. k.cell) marks)) later) marks (each_wanted marks),
)

-- each mark's own cell was looked for
pub all_looked_for : (marks : List CellMark) (cells wanted : List Cell) (tets : List Tetrahedron) → cells ≡ map (λ mark. mark.cell) marks → wanted ≡ ascending_of cell_cmp cells
    → filter (λ mark. has cell_cmp mark.cell wanted && is_on tets mark.cell) marks ≡ filter (λ mark. is_on tets mark.cell) marks
all_looked_for marks cells wanted tets of set =
    filter-alike (λ mark. has cell_cmp mark.cell wanted && is_on tets mark.cell) (λ mark. is_on tets mark.cell) marks
    (all_weaker (λ mark. has cell_cmp mark.cell (map (λ m. m.cell) marks) ≡ true) (λ mark. (has cell_cmp mark.cell wanted && is_on tets mark.cell) ≡ is_on tets mark.cell)
    (λ mark there. ap (λ b. b && is_on tets mark.cell) (ap (has cell_cmp mark.cell) set ∙ has-ascending_of cell_cmp_total mark.cell cells ∙ ap (has cell_cmp mark.cell) of ∙ there)) marks (each_wanted marks))
