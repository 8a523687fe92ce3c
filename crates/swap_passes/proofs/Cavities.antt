-- A mesh in parts, the cavities that are taken and what is left, and cavities that are filled one after the other.
use Rattle.std.proofs.Common.{◌≡◌, Bool, true, false, not, cond, ◌&&◌, ◌||◌, List, [], ◌∷◌, ◌++◌, filter, refl, sym, ap, subst, ◌∙◌}
use Rattle.std.specs.List.{AllByRecursion, flat_map}
use Rattle.std.specs.List.Sorted.{IsPermutation}
use Rattle.std.specs.declared.cmp.Ordering.{Ordering}
use Rattle.std.specs.Cmp.{IsTotalOrder}
use Rattle.std.specs.Ordering.{eq_by_cmp}
use Rattle.std.proofs.lemmas.Bool.{or_from, or_right}
use Rattle.std.proofs.lemmas.List.{append-nil, append_assoc}
use Rattle.std.proofs.lemmas.List.Sorted.{IsPermutation-append_comm, IsPermutation-append_left, IsPermutation-append_right, IsPermutation-filter_both, IsPermutation-refl, IsPermutation-sym, IsPermutation-trans, sum_by-IsPermutation}
use Rattle.ma_cells.specs.Ascending.{has}
use Rattle.ma_cells.specs.Cells.{CellMark}
use Rattle.ma_cells.specs.Stars.{star_of}
use Rattle.ma_cells.specs.Tetrahedron.{Tetrahedron, is_flat, tet_cmp}
use Rattle.ma_cells.proofs.Ascents.{has-head}
use Rattle.ma_cells.proofs.CellOrders.{tet_cmp_total}
use Rattle.ma_cells.proofs.Choices.{all-append}
use Rattle.ma_cells.proofs.Passing.{all-permutation}
use Rattle.ma_cover.specs.OnFaces.{IsOffFacesOf}
use Rattle.ma_cover.specs.Sound.{IsSound}
use Rattle.ma_cover.proofs.SoundOrder.{sound_in_any_order}
use Rattle.mesh_laws.specs.Covers.{CoverTheSame}
use Rattle.mesh_laws.specs.Points.{NoneIsFlat}
use Rattle.mesh_laws.proofs.BothSides.{Pairs}
use Rattle.mesh_laws.proofs.Lists.{all_split}
use Rattle.mesh_laws.proofs.MovedOff.{same_cover_is_handed_on}
use Rattle.cavity_laws.specs.Replaced.{CanReplace}
use Rattle.cavity_laws.proofs.Replaced.{replaced_stays_sound}
use Rattle.cavity_rank.specs.Operations.{Operation}
use Rattle.pass_rules.specs.Choosing.{is_in, is_taken}
use Rattle.swap_passes.proofs.Chosen.{AreApart}

-- ---- lists
-- what holds of each member holds of all items
pub all_from_members : {K : Type 0} {R : K → K → Ordering} → IsTotalOrder R → (P : K → Type 0) (xs : List K) → ((q : K) → has R q xs ≡ true → P q) → AllByRecursion P xs
all_from_members o P [] each = tt
all_from_members {R = R} o P (x ∷ xs) each = (each x (has-head o x xs), all_from_members o P xs (λ q there. each q (or_right (eq_by_cmp R q x) (has R q xs) there)))

-- tests that agree on all items leave the same
pub filter-alike : {X : Type 0} (f g : X → Bool) (xs : List X) → AllByRecursion (λ x. f x ≡ g x) xs → filter f xs ≡ filter g xs
filter-alike f g [] h = refl
filter-alike f g (x ∷ xs) h = ap (λ b. cond b (x ∷ filter f xs) (filter f xs)) h.0 ∙ ap (λ l. cond (g x) (x ∷ l) l) (filter-alike f g xs h.1)

filter-twice : {X : Type 0} (f g : X → Bool) (xs : List X) → filter f (filter g xs) ≡ filter (λ x. g x && f x) xs
filter-twice f g [] = refl
filter-twice f g (x ∷ xs) =
    elim (g x) as (λ b. filter f (cond b (x ∷ filter g xs) (filter g xs)) ≡ cond (b && f x) (x ∷ filter (λ x. g x && f x) xs) (filter (λ x. g x && f x) xs)) [
      | true ↦ ap (λ l. cond (f x) (x ∷ l) l) (filter-twice f g xs)
      | false ↦ filter-twice f g xs
    ]

all_kept : {X : Type 0} (xs : List X) → filter (λ x. true) xs ≡ xs
all_kept [] = refl
all_kept (x ∷ xs) = ap (λ l. x ∷ l) (all_kept xs)

-- one of three parts goes to the end
to_end : {X : Type 0} (rest part others : List X) → IsPermutation (rest ++ (part ++ others)) ((rest ++ others) ++ part)
to_end rest part others =
    subst (λ l. IsPermutation (rest ++ (part ++ others)) l) (sym (append_assoc rest others part)) (IsPermutation-append_right rest (part ++ others) (others ++ part) (IsPermutation-append_comm part others))

-- ---- a mesh in parts
module _ (tets : List Tetrahedron) where
  -- the tetrahedra of operations' cavities
  abbrev pub cavities : List Operation → List Tetrahedron
  cavities ops = flat_map (λ op. star_of op.at tets) ops

  -- those that none of the operations takes
  abbrev pub left_by : List Operation → List Tetrahedron
  left_by ops = filter (λ tet. not (is_taken ops tet)) tets

  taken_by_none : (tet : Tetrahedron) (op : Operation) → has tet_cmp tet tets ≡ true → is_in op tet ≡ true → (ops : List Operation) → AllByRecursion (AreApart tets op) ops → is_taken ops tet ≡ false
  taken_by_none tet op there inside [] apart = refl
  taken_by_none tet op there inside (o ∷ ops) apart = or_from (is_in o tet) (is_taken ops tet) (apart.0 tet there inside) (taken_by_none tet op there inside ops apart.1)

  -- the cavity of an operation that is apart from others is among what they leave
  still_there : (op : Operation) (ops : List Operation) → AllByRecursion (AreApart tets op) ops → filter (is_in op) (left_by ops) ≡ star_of op.at tets
  still_there op ops apart =
      filter-twice (is_in op) (λ tet. not (is_taken ops tet)) tets
      ∙ filter-alike (λ tet. not (is_taken ops tet) && is_in op tet) (is_in op) tets
      (all_from_members tet_cmp_total (λ tet. (not (is_taken ops tet) && is_in op tet) ≡ is_in op tet) tets
      (λ tet there. by (is_taken ops tet) (is_in op tet) (λ inside. taken_by_none tet op there inside ops apart)))
    where
      by : (taken inside : Bool) → (inside ≡ true → taken ≡ false) → (not taken && inside) ≡ inside
      by true true h = ap (λ b. not b) (h refl)
      by true false h = refl
      by false inside h = refl

  left_by_more : (op : Operation) (ops : List Operation) → filter (λ tet. not (is_in op tet)) (left_by ops) ≡ left_by (op ∷ ops)
  left_by_more op ops =
      filter-twice (λ tet. not (is_in op tet)) (λ tet. not (is_taken ops tet)) tets
      ∙ filter-alike (λ tet. not (is_taken ops tet) && not (is_in op tet)) (λ tet. not (is_taken (op ∷ ops) tet)) tets
      (all_from_members tet_cmp_total (λ tet. (not (is_taken ops tet) && not (is_in op tet)) ≡ not (is_taken (op ∷ ops) tet)) tets (λ tet _. by (is_taken ops tet) (is_in op tet)))
    where
      by : (taken inside : Bool) → (not taken && not inside) ≡ not (inside || taken)
      by true true = refl
      by true false = refl
      by false true = refl
      by false false = refl

  -- cavities that are apart, and what is left, are all tetrahedra
  pub in_parts : (ops : List Operation) → Pairs (AreApart tets) ops → IsPermutation tets (left_by ops ++ cavities ops)
  in_parts [] apart = subst (λ l. IsPermutation tets l) (sym (append-nil (left_by []) ∙ all_kept tets)) (IsPermutation-refl tets)
  in_parts (op ∷ ops) apart =
      let star = star_of op.at tets in
      let two : IsPermutation (left_by ops) (star ++ left_by (op ∷ ops))
      = subst (λ l. IsPermutation (left_by ops) (star ++ l)) (left_by_more op ops)
      (subst (λ l. IsPermutation (left_by ops) (l ++ filter (λ tet. not (is_in op tet)) (left_by ops))) (still_there op ops apart.0)
      (IsPermutation-filter_both (is_in op) (λ tet. not (is_in op tet)) (λ _. refl) (left_by ops))) in
      let turned = IsPermutation-trans (left_by ops) (star ++ left_by (op ∷ ops)) (left_by (op ∷ ops) ++ star) two (IsPermutation-append_comm star (left_by (op ∷ ops))) in
      IsPermutation-trans tets (left_by ops ++ cavities ops) (left_by (op ∷ ops) ++ cavities (op ∷ ops)) (in_parts ops apart.1)
      (subst (λ l. IsPermutation (left_by ops ++ cavities ops) l) (append_assoc (left_by (op ∷ ops)) star (cavities ops)) (IsPermutation-append_left (cavities ops) (left_by ops) (left_by (op ∷ ops) ++ star) turned))

-- ---- one after the other
-- lists cover the same in any order
pub same_in_any_order : (tets others now now_others : List Tetrahedron) → IsPermutation tets now → IsPermutation others now_others → CoverTheSame tets others → CoverTheSame now now_others
same_in_any_order tets others now now_others first second same phys elem p off off_others =
    sum_by-IsPermutation _ others now_others second
    ∙ same phys elem p (all-permutation (λ tet. IsOffFacesOf p tet.corners) now tets (IsPermutation-sym tets now first) off)
    (all-permutation (λ tet. IsOffFacesOf p tet.corners) now_others others (IsPermutation-sym others now_others second) off_others)
    ∙ sym (sum_by-IsPermutation _ tets now first)

-- what replacing cavities keeps
pub record IsKept (tets others : List Tetrahedron) (marks : List CellMark) : Type 0 where
  pub solid : NoneIsFlat others
  pub sound : IsSound others marks
  pub cover : CoverTheSame tets others

module _ {X : Type 0} (cavity filling : X → List Tetrahedron) (marks : List CellMark) where
  pub replaced_in_turn : (xs : List X) (rest : List Tetrahedron) → AllByRecursion (λ x. CanReplace (cavity x) (filling x) marks) xs
      → IsSound (rest ++ flat_map cavity xs) marks → NoneIsFlat (rest ++ flat_map cavity xs) → IsKept (rest ++ flat_map cavity xs) (rest ++ flat_map filling xs) marks
  replaced_in_turn [] rest can sound solid = record { solid = solid; sound = sound; cover = λ phys elem p _ _. refl }
  replaced_in_turn (x ∷ xs) rest can sound solid =
      let others = flat_map cavity xs in
      let before = rest ++ (cavity x ++ others) in
      let between = (rest ++ filling x) ++ others in
      let IsSolid = λ (tet : Tetrahedron). is_flat tet.corners ≡ false in
      let out = to_end rest (cavity x) others in
      let apart_solid = all-permutation IsSolid before ((rest ++ others) ++ cavity x) out solid in
      let one = replaced_stays_sound (cavity x) (filling x) (rest ++ others) marks (sound_in_any_order before ((rest ++ others) ++ cavity x) marks out sound) apart_solid can.0 in
      let back : IsPermutation ((rest ++ others) ++ filling x) between
      = subst (λ l. IsPermutation ((rest ++ others) ++ filling x) l) (sym (append_assoc rest (filling x) others))
      (IsPermutation-sym (rest ++ (filling x ++ others)) ((rest ++ others) ++ filling x) (to_end rest (filling x) others)) in
      let between_solid = all-permutation IsSolid ((rest ++ others) ++ filling x) between back
      (all-append IsSolid (rest ++ others) (filling x) (all_split IsSolid (rest ++ others) (cavity x) apart_solid).0 can.0.solid) in
      let more = replaced_in_turn xs (rest ++ filling x) can.1 (sound_in_any_order ((rest ++ others) ++ filling x) between marks back one.0) between_solid in
      let first = same_in_any_order ((rest ++ others) ++ cavity x) ((rest ++ others) ++ filling x) before between (IsPermutation-sym before ((rest ++ others) ++ cavity x) out) back one.1 in
      subst (λ l. IsKept before l marks) (append_assoc rest (filling x) (flat_map filling xs)) (record {
        solid = more.solid;
        sound = more.sound;
        cover = same_cover_is_handed_on before between ((rest ++ filling x) ++ flat_map filling xs) solid between_solid more.solid first more.cover;
      })
