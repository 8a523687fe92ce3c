-- One step of cutting a cell: the first edge, and what is left to do with its halves.
use Rattle.std.proofs.Common.{◌≡◌, ℕ, suc, ◌+◌, ◌-◌, ◌≤◌, Bool, true, ◌&&◌, List, [], ◌∷◌, ◌++◌, length, take, drop, get_or, eqb, refl, sym, ap, ◌∙◌, append-nil, take_all, length-append, arith}
use Rattle.std.specs.Prelude.{map}
use Rattle.std.specs.Cmp.Lexicographic.{slice_cmp}
use Rattle.std.specs.List.{list_all}
use Rattle.std.proofs.lemmas.Bool.{and_parts, eqb-true}
use Rattle.ma_geom.specs.Coordinates.{Coordinates, place_cmp}
use Rattle.ma_cells.specs.Ascending.{ascending_of}
use Rattle.split_templates.specs.declared.edges.Edge.{Edge}
use Rattle.split_templates.specs.steps.Kept.{keeps_corners}
use Rattle.split_templates.specs.Pieces.{bisected_along, halves}
use Rattle.split_templates.specs.steps.Putting.{put_all}
use Rattle.split_templates.proofs.Sets.{put_all-append, put_all-nothing, length-put_all, bisected_along-append}

-- a list that isn't empty, by its first item and the rest
pub head_and_rest : {X : Type 0} (xs : List X) (x : X) → 1 ≤ length xs → x ≡ get_or xs 0 x → xs ≡ x ∷ take (length xs - 1) (drop 1 xs)
head_and_rest [] x some is = absurd (omega arith)
head_and_rest (y ∷ ys) x some is =
    let n : suc (length ys) - 1 ≡ length ys = omega arith in
    let whole : length ys ≤ length ys = omega arith in
    rw (n, is) (ap (λ zs. y ∷ zs) (sym (take_all (length ys) ys whole)))

pub two_items : {X : Type 0} (xs : List X) (x y : X) → length xs ≡ 2 → xs ≡ get_or xs 0 x ∷ get_or xs 1 y ∷ []
two_items [] x y n = absurd (omega arith)
two_items (v ∷ []) x y n = absurd (omega arith)
two_items (v ∷ w ∷ []) x y n = refl
two_items (v ∷ w ∷ u ∷ us) x y n = absurd (omega arith)

abbrev pub ends_of : List Edge → List (List Coordinates)
ends_of edges = map (λ edge. edge.ends) edges

abbrev pub rest_of : List Edge → List Edge
rest_of edges = take (length edges - 1) (drop 1 edges)

-- the ends of the first edge, and of the rest
pub first_ends : (edges : List Edge) (first : Edge) (a b : Coordinates) → 1 ≤ length edges → first ≡ get_or edges 0 first → length first.ends ≡ 2
    → ends_of edges ≡ (get_or first.ends 0 a ∷ get_or first.ends 1 b ∷ []) ∷ ends_of (rest_of edges)
first_ends edges first a b some is n =
    ap ends_of (head_and_rest edges first some is) ∙ ap (λ ends. ends ∷ ends_of (rest_of edges)) (two_items first.ends a b n)

pub record IsKept (edges : List (List Coordinates)) (half corners : List Coordinates) : Type 0 where
  pub size : length half ≡ length corners
  pub rest : keeps_corners edges half ≡ true

abbrev kept_test : List (List Coordinates) → List Coordinates → List Coordinates → Bool
kept_test edges corners half = eqb (length half) (length corners) && keeps_corners edges half

kept_one : (edges : List (List Coordinates)) (corners half : List Coordinates) → kept_test edges corners half ≡ true → IsKept edges half corners
kept_one edges corners half h =
    let both = and_parts (eqb (length half) (length corners)) (keeps_corners edges half) h in
    record { size = eqb-true (length half) (length corners) both.0; rest = both.1 }

pub kept_halves : (edge : List Coordinates) (edges : List (List Coordinates)) (corners p q : List Coordinates) → halves edge corners ≡ p ∷ q ∷ []
    → keeps_corners (edge ∷ edges) corners ≡ true → IsKept edges p corners × IsKept edges q corners
kept_halves edge edges corners p q is kept =
    let all : list_all (kept_test edges corners) (p ∷ q ∷ []) ≡ true = ap (list_all (kept_test edges corners)) (sym is) ∙ kept in
    let first = and_parts (kept_test edges corners p) (list_all (kept_test edges corners) (q ∷ [])) all in
    let second = and_parts (kept_test edges corners q) true first.1 in
    (kept_one edges corners p first.0, kept_one edges corners q second.0)

pub kept_whole : (edge : List Coordinates) (edges : List (List Coordinates)) (corners : List Coordinates) → halves edge corners ≡ corners ∷ []
    → keeps_corners (edge ∷ edges) corners ≡ true → keeps_corners edges corners ≡ true
kept_whole edge edges corners is kept =
    let all : list_all (kept_test edges corners) (corners ∷ []) ≡ true = ap (list_all (kept_test edges corners)) (sym is) ∙ kept in
    let first = and_parts (kept_test edges corners corners) true all in
    (kept_one edges corners corners first.0).rest

pub pieces_of_halves : (edge : List Coordinates) (edges : List (List Coordinates)) (corners p q : List Coordinates) → halves edge corners ≡ p ∷ q ∷ []
    → bisected_along (edge ∷ edges) (corners ∷ []) ≡ bisected_along edges (p ∷ []) ++ bisected_along edges (q ∷ [])
pieces_of_halves edge edges corners p q is =
    ap (bisected_along edges) (append-nil (halves edge corners) ∙ is) ∙ bisected_along-append edges (p ∷ []) (q ∷ [])

pub pieces_of_whole : (edge : List Coordinates) (edges : List (List Coordinates)) (corners : List Coordinates) → halves edge corners ≡ corners ∷ []
    → bisected_along (edge ∷ edges) (corners ∷ []) ≡ bisected_along edges (corners ∷ [])
pieces_of_whole edge edges corners is = ap (bisected_along edges) (append-nil (halves edge corners) ∙ is)

-- the first edge of all, at which the corners have the halves p and q
pub record IsStep (all : List (List Coordinates)) (edge : List Coordinates) (edges : List (List Coordinates)) (corners p q : List Coordinates) : Type 0 where
  pub whole : all ≡ edge ∷ edges
  pub split : halves edge corners ≡ p ∷ q ∷ []

module _ (all : List (List Coordinates)) (edge : List Coordinates) (edges : List (List Coordinates)) (corners p q : List Coordinates) (step : IsStep all edge edges corners p q) where
  pub step_kept : keeps_corners all corners ≡ true → IsKept edges p corners × IsKept edges q corners
  step_kept kept = kept_halves edge edges corners p q step.split (ap (λ es. keeps_corners es corners) (sym step.whole) ∙ kept)

  step_pieces : bisected_along all (corners ∷ []) ≡ bisected_along edges (p ∷ []) ++ bisected_along edges (q ∷ [])
  step_pieces = ap (λ es. bisected_along es (corners ∷ [])) step.whole ∙ pieces_of_halves edge edges corners p q step.split

  step_count : length (bisected_along all (corners ∷ [])) ≡ length (bisected_along edges (p ∷ [])) + length (bisected_along edges (q ∷ []))
  step_count = ap length step_pieces ∙ length-append (bisected_along edges (p ∷ [])) (bisected_along edges (q ∷ []))

  -- there is room for the pieces of both halves
  pub room_for_other : (old : List (List Coordinates)) (cap : ℕ) → length old + length (bisected_along all (corners ∷ [])) ≤ cap
      → length old + length (bisected_along edges (q ∷ [])) ≤ cap
  room_for_other old cap room = let count = step_count in omega arith

  pub room_for_one : (old now : List (List Coordinates)) (cap : ℕ) → length old + length (bisected_along all (corners ∷ [])) ≤ cap
      → now ≡ put_all (slice_cmp place_cmp) (bisected_along edges (q ∷ [])) old
      → length now + length (bisected_along edges (p ∷ [])) ≤ cap
  room_for_one old now cap room is =
      let count = step_count in
      let more = length-put_all (slice_cmp place_cmp) (bisected_along edges (q ∷ [])) old in
      let size : length now ≡ length (put_all (slice_cmp place_cmp) (bisected_along edges (q ∷ [])) old) = ap length is in
      omega arith

  -- and what is there at the end
  pub step_end : (old now last : List (List Coordinates))
      → now ≡ put_all (slice_cmp place_cmp) (bisected_along edges (q ∷ [])) old
      → last ≡ put_all (slice_cmp place_cmp) (bisected_along edges (p ∷ [])) now
      → last ≡ put_all (slice_cmp place_cmp) (bisected_along all (corners ∷ [])) old
  step_end old now last first second =
      second ∙ ap (put_all (slice_cmp place_cmp) (bisected_along edges (p ∷ []))) first
      ∙ sym (put_all-append (slice_cmp place_cmp) (bisected_along edges (p ∷ [])) (bisected_along edges (q ∷ [])) old)
      ∙ ap (λ ps. put_all (slice_cmp place_cmp) ps old) (sym step_pieces)

-- the first edge of all, which the corners don't have
module _ (all : List (List Coordinates)) (edge : List Coordinates) (edges : List (List Coordinates)) (corners : List Coordinates) (whole : all ≡ edge ∷ edges) (stays : halves edge corners ≡ corners ∷ []) where
  pub whole_kept : keeps_corners all corners ≡ true → keeps_corners edges corners ≡ true
  whole_kept kept = kept_whole edge edges corners stays (ap (λ es. keeps_corners es corners) (sym whole) ∙ kept)

  pub whole_pieces : bisected_along all (corners ∷ []) ≡ bisected_along edges (corners ∷ [])
  whole_pieces = ap (λ es. bisected_along es (corners ∷ [])) whole ∙ pieces_of_whole edge edges corners stays

-- the pieces of a cell, put into an empty list
module _ (edges es : List (List Coordinates)) (corners : List Coordinates) (same : edges ≡ es) where
  pub kept_by_all : keeps_corners es corners ≡ true → keeps_corners edges corners ≡ true
  kept_by_all kept = ap (λ e. keeps_corners e corners) same ∙ kept

  pub room_for_all : (old : List (List Coordinates)) (cap : ℕ) → old ≡ [] → length (bisected_along es (corners ∷ [])) ≤ cap → length old + length (bisected_along edges (corners ∷ [])) ≤ cap
  room_for_all old cap none room =
      let nothing : length old ≡ 0 = ap length none in
      let count : length (bisected_along edges (corners ∷ [])) ≡ length (bisected_along es (corners ∷ [])) = ap (λ e. length (bisected_along e (corners ∷ []))) same in
      omega arith

  pub gathered_all : (old new : List (List Coordinates)) → old ≡ [] → new ≡ put_all (slice_cmp place_cmp) (bisected_along edges (corners ∷ [])) old
      → new ≡ ascending_of (slice_cmp place_cmp) (bisected_along es (corners ∷ []))
  gathered_all old new none is =
      is ∙ (λ i. put_all (slice_cmp place_cmp) (bisected_along (same i) (corners ∷ [])) (none i)) ∙ put_all-nothing (slice_cmp place_cmp) (bisected_along es (corners ∷ []))
