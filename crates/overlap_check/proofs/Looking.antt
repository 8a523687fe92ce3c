-- The scan of the touches in order: what it has looked at, and that it looks at each pair that overlaps.
use Rattle.std.proofs.Common.{◌≡◌, ◌<◌, ◌≤◌, ◌+◌, ◌-◌, ℕ, inl, inr, true, List, [], get_or, drop, length, refl, sym, subst, ap, ◌∙◌, arith}
use Rattle.std.specs.List.{All, Contains}
use Rattle.std.proofs.lemmas.Bool.{cases_lt}
use Rattle.std.proofs.lemmas.List.{get_or-drop, get_or_default, length-drop}
use Rattle.std.proofs.lemmas.List.Elements.{All-from_get_or, Contains-get_or}
use Rattle.ma_cells.specs.Tetrahedron.{Tetrahedron}
use Rattle.overlap_check.specs.declared.boxes.BoundingBox.{BoundingBox}
use Rattle.overlap_check.specs.declared.cubes.Cube.{Cube}
use Rattle.overlap_check.specs.declared.cubes.Touch.{Touch}
use Rattle.overlap_check.specs.steps.Boxes.{AreBoxes, boxes_meet}
use Rattle.overlap_check.specs.steps.Cubes.{Adds, AreInOrder, AreNoPartners, AreNotBefore, IsFoundAt, IsTouchBefore, Touches, home_of, no_box, no_touch, touch_at}
use Rattle.overlap_check.specs.steps.Pairs.{are_overlapping, corners_at}
use Rattle.overlap_check.proofs.AtPlaces.{differ, if_not_false, overlap_tells}
use Rattle.overlap_check.proofs.BoxesApart.{boxes_apart}
use Rattle.overlap_check.proofs.Heights.{home_touched}

-- one more touch
pub looked_more : (k : ℕ) (tets : List Tetrahedron) (boxes : List BoundingBox) (touches : List Touch) (i least next : ℕ) → AreNotBefore k tets boxes touches i least → next ≤ least
    → ((q : ℕ) → IsFoundAt k tets boxes touches i q → next ≤ (touch_at touches i).tet) → AreNotBefore k tets boxes touches (i + 1) next
looked_more k tets boxes touches i least next so_far lower here p q before found = elim (cases_lt p i) [
  | inl low ↦ (let bound = so_far p q low found in omega arith)
  | inr high ↦ (
      let at : i ≡ p = omega arith in
      subst (λ (n : ℕ). next ≤ (touch_at touches n).tet) at (here q (subst (λ (n : ℕ). IsFoundAt k tets boxes touches n q) (sym at) found))
      )
]

-- a touch without a partner begins no pair
pub none_found : (k : ℕ) (tets : List Tetrahedron) (boxes : List BoundingBox) (touches later : List Touch) (i q : ℕ) → later ≡ drop (i + 1) touches
    → AreNoPartners k tets boxes (touch_at touches i) later (length later) → IsFoundAt k tets boxes touches i q → ⊥
none_found k tets boxes touches later i q is none found =
    let before = found.before in
    let within = found.within in
    let m = q - (i + 1) in
    let long : length later ≡ length touches - (i + 1) = ap length is ∙ length-drop (i + 1) touches in
    let at : i + 1 + m ≡ q = omega arith in
    let there : (n : ℕ) → touch_at later n ≡ touch_at touches (i + 1 + n) = λ n. ap (λ (l : List Touch). touch_at l n) is ∙ get_or-drop (i + 1) touches n no_touch in
    let last : touch_at later m ≡ touch_at touches q = there m ∙ ap (touch_at touches) at in
    differ (are_overlapping tets (touch_at touches i).tet (touch_at touches q).tet) found.overlap
    (ap (λ (t : Touch). are_overlapping tets (touch_at touches i).tet t.tet) (sym last)
    ∙ none m (omega arith) (λ l low. ap (λ (t : Touch). t.cube) (there l) ∙ found.together (i + 1 + l) (omega arith) (omega arith))
    (ap (λ (t : Touch). home_of k boxes (touch_at touches i).tet t.tet) last ∙ found.at_home))

-- the boxes of two that overlap meet
meets : (tets : List Tetrahedron) (boxes : List BoundingBox) (i j : ℕ) → AreBoxes tets boxes → are_overlapping tets i j ≡ true → boxes_meet (get_or boxes i no_box) (get_or boxes j no_box) ≡ true
meets tets boxes i j around overlaps =
    let told = overlap_tells tets i j overlaps in
    if_not_false (boxes_meet (get_or boxes i no_box) (get_or boxes j no_box))
    (λ h. differ _ (boxes_apart (corners_at tets i) (corners_at tets j) (get_or boxes i no_box) (get_or boxes j no_box) (around.each i no_box (omega arith)) (around.each j no_box told.1) h).0 told.2)

-- the touch of a cube by a box
touched : (k : ℕ) (boxes : List BoundingBox) (touches : List Touch) (i : ℕ) (c : Cube) → Adds [] touches (IsTouchBefore k (length boxes) boxes) → i < length boxes
    → Touches k (get_or boxes i no_box) c → Contains touches (record { cube = c; tet = i })
touched k boxes touches i c all within h =
    all.added (record { cube = c; tet = i }) (record { before = within; touches = λ d. subst (λ (r : BoundingBox). Touches k r c) (get_or_default boxes i no_box d within) h })

-- where the touches of two tetrahedra stand that overlap
found : (k : ℕ) (tets : List Tetrahedron) (boxes : List BoundingBox) (touches : List Touch) (i j : ℕ) → AreBoxes tets boxes → Adds [] touches (IsTouchBefore k (length boxes) boxes) → AreInOrder touches
    → are_overlapping tets i j ≡ true → (p : ℕ) × (q : ℕ) × IsFoundAt k tets boxes touches p q × ((touch_at touches p).tet ≡ i)
found k tets boxes touches i j around all order overlaps =
    let told = overlap_tells tets i j overlaps in
    let count = around.count in
    let c = home_of k boxes i j in
    let both = home_touched k (corners_at tets i) (corners_at tets j) (get_or boxes i no_box) (get_or boxes j no_box) (around.each i no_box (omega arith)) (around.each j no_box told.1) (meets tets boxes i j around overlaps) in
    let first = touched k boxes touches i c all (omega arith) both.0 in
    let second = touched k boxes touches j c all (omega arith) both.1 in
    let p = first.0 in
    let q = second.0 in
    let at_p : touch_at touches p ≡ record { cube = c; tet = i } = get_or_default touches p no_touch (record { cube = c; tet = i }) first.1 ∙ first.2 in
    let at_q : touch_at touches q ≡ record { cube = c; tet = j } = get_or_default touches q no_touch (record { cube = c; tet = j }) second.1 ∙ second.2 in
    let one_cube : (touch_at touches q).cube ≡ (touch_at touches p).cube = ap (λ (t : Touch). t.cube) (at_q ∙ refl) ∙ sym (ap (λ (t : Touch). t.cube) at_p) in
    let p_is : (touch_at touches p).tet ≡ i = ap (λ (t : Touch). t.tet) at_p in
    let q_is : (touch_at touches q).tet ≡ j = ap (λ (t : Touch). t.tet) at_q in
    let before : p < q = elim (cases_lt p q) [ inl h ↦ h | inr h ↦ (let rising = order.rising q p no_touch h first.1 one_cube in absurd (omega (arith, p_is, q_is))) ] in (
      p,
      q,
      record {
        before = before;
        within = second.1;
        together = λ l low high. order.together p l q no_touch low high second.1 (sym one_cube);
        at_home = (λ t. home_of k boxes (p_is t) (q_is t)) ∙ sym (ap (λ (t : Touch). t.cube) at_p);
        overlap = (λ t. are_overlapping tets (p_is t) (q_is t)) ∙ overlaps;
      },
      p_is,
    )

-- all touches were looked at
pub looked_all : (k : ℕ) (tets : List Tetrahedron) (boxes : List BoundingBox) (touches : List Touch) (least : ℕ) → AreBoxes tets boxes → Adds [] touches (IsTouchBefore k (length boxes) boxes) → AreInOrder touches
    → AreNotBefore k tets boxes touches (length touches) least → (i j : ℕ) → are_overlapping tets i j ≡ true → least ≤ i
looked_all k tets boxes touches least around all order looked i j overlaps =
    let at = found k tets boxes touches i j around all order overlaps in
    let before = at.2.before in
    let within = at.2.within in
    let bound = looked at.0 at.1 (omega arith) at.2 in
    omega (arith, at.3)

-- each touch is of a tetrahedron of the list
pub touches_within : (k n : ℕ) (boxes : List BoundingBox) (touches : List Touch) → Adds [] touches (IsTouchBefore k (length boxes) boxes) → length boxes ≡ n → All (λ t. t.tet < n) touches
touches_within k n boxes touches all count =
    All-from_get_or (λ (t : Touch). t.tet < n) touches no_touch (λ i within. elim (all.only (touch_at touches i) (Contains-get_or touches i no_touch within)) [
      | inl none ↦ absurd (omega (arith, none.1))
      | inr h ↦ (let before = h.before in omega arith)
    ])
