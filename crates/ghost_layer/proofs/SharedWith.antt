-- The places that are shared with a part, and the tetrahedra that have one.
use Rattle.std.proofs.Common.{◌≡◌, ℕ, Bool, true, false, cond, ◌&&◌, ◌||◌, ◌==◌, List, [], ◌∷◌, filter, length, map, refl, sym, ap, ◌∙◌, arith}
use Rattle.std.specs.List.{list_any}
use Rattle.std.specs.Ordering.{eq_by_cmp}
use Rattle.ma_geom.specs.Coordinates.{Coordinates, place_cmp}
use Rattle.ma_geom.proofs.PlaceOrder.{place_cmp_total}
use Rattle.ma_cells.specs.Ascending.{ascending_of, has}
use Rattle.ma_cells.specs.Cells.{CellMark}
use Rattle.ma_cells.specs.Incidence.{is_on}
use Rattle.ma_cells.specs.Tetrahedron.{Tetrahedron}
use Rattle.ma_cells.specs.declared.batch.Batch.{Batch}
use Rattle.ma_cells.proofs.Ascents.{has-ascending_of}
use Rattle.letters.specs.Sharing.{SharedPlace}
use Rattle.part_store.specs.Labelled.{marks_on, touches}
use Rattle.part_store.specs.Stores.{StoreState}
use Rattle.ghost_layer.specs.GhostRule.{batch_of, bordering, ghosts_for, is_shared_with}

-- whether q is among the parts that share a place
abbrev pub is_with : ℕ → SharedPlace → Bool
is_with q s = list_any (λ part. part == q) s.parts

-- the places that are shared with q
abbrev pub places_with : ℕ → List SharedPlace → List Coordinates
places_with q shared = map (λ s. s.place) (filter (is_with q) shared)

has-places_with : (q : ℕ) (shared : List SharedPlace) (x : Coordinates) → has place_cmp x (places_with q shared) ≡ is_shared_with shared q x
has-places_with q [] x = refl
has-places_with q (s ∷ shared) x =
    elim (is_with q s) as (λ b. has place_cmp x (map (λ t. t.place) (cond b (s ∷ filter (is_with q) shared) (filter (is_with q) shared))) ≡ ((eq_by_cmp place_cmp x s.place && b) || is_shared_with shared q x)) [
      | true ↦ ap (λ b. eq_by_cmp place_cmp x s.place || b) (has-places_with q shared x) ∙ ap (λ b. b || is_shared_with shared q x) (sym (and_true (eq_by_cmp place_cmp x s.place)))
      | false ↦ has-places_with q shared x ∙ ap (λ b. b || is_shared_with shared q x) (sym (and_false (eq_by_cmp place_cmp x s.place)))
    ]
  where
    and_true : (b : Bool) → (b && true) ≡ b
    and_true true = refl
    and_true false = refl

    and_false : (b : Bool) → (b && false) ≡ false
    and_false true = refl
    and_false false = refl

-- a place is in the set of them just where it is shared with q
pub has-set : (q : ℕ) (shared : List SharedPlace) (places set : List Coordinates) → places ≡ places_with q shared → set ≡ ascending_of place_cmp places
    → (x : Coordinates) → has place_cmp x set ≡ is_shared_with shared q x
has-set q shared places set are is x = ap (has place_cmp x) is ∙ has-ascending_of place_cmp_total x places ∙ ap (has place_cmp x) are ∙ has-places_with q shared x

-- tests that agree everywhere keep the same
filter-touching : (places : List Coordinates) (test : Coordinates → Bool) → ((x : Coordinates) → has place_cmp x places ≡ test x) → (tets : List Tetrahedron)
    → filter (touches places) tets ≡ filter (λ tet. list_any test tet.corners) tets
filter-touching places test same tets = ap (λ (f : Coordinates → Bool). filter (λ (tet : Tetrahedron). list_any f tet.corners) tets) (λ i x. same x i)

-- the tetrahedra that have one of these places, and the marks on their cells
pub shown_is : (s : StoreState) (q : ℕ) (own tets : List Tetrahedron) (places : List Coordinates) (marks : List CellMark) → own ≡ s.own → ((x : Coordinates) → has place_cmp x places ≡ is_shared_with s.shared q x)
    → tets ≡ filter (touches places) own → marks ≡ marks_on tets s.marks → record { tets = tets; marks = marks } ≡ ghosts_for s q
shown_is s q own tets places marks of same are on =
    let bordering_are : tets ≡ bordering s q = are ∙ ap (filter (touches places)) of ∙ filter-touching places (is_shared_with s.shared q) same s.own in
    ap (λ (ms : List CellMark). record { tets = tets; marks = ms }) on ∙ ap (λ ts. batch_of ts s.marks) bordering_are

-- where no place is shared with q nothing is shown
pub nothing_shown : (s : StoreState) (q : ℕ) (places : List Coordinates) (tets : List Tetrahedron) (marks : List CellMark) → ((x : Coordinates) → has place_cmp x places ≡ is_shared_with s.shared q x) → length places ≡ 0
    → tets ≡ [] → marks ≡ [] → record { tets = tets; marks = marks } ≡ ghosts_for s q
nothing_shown s q places tets marks same none no_tets no_marks =
    shown_is s q s.own tets places marks refl same (no_tets ∙ sym (untouched places none s.own)) (no_marks ∙ sym (ap (λ ts. marks_on ts s.marks) no_tets ∙ on_none s.marks))
  where
    no_place : (corners : List Coordinates) → list_any (λ corner. has place_cmp corner []) corners ≡ false
    no_place [] = refl
    no_place (x ∷ xs) = no_place xs

    untouched : (places : List Coordinates) → length places ≡ 0 → (tets : List Tetrahedron) → filter (touches places) tets ≡ []
    untouched places none [] = refl
    untouched [] none (tet ∷ tets) = ap (λ b. cond b (tet ∷ filter (touches []) tets) (filter (touches []) tets)) (no_place tet.corners) ∙ untouched [] none tets
    untouched (x ∷ places) none (tet ∷ tets) = absurd (omega (arith, none))

    on_none : (marks : List CellMark) → marks_on [] marks ≡ []
    on_none [] = refl
    on_none (mark ∷ marks) = on_none marks
