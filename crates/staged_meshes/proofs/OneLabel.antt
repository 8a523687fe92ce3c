-- No tetrahedron comes to have two labels.
use Rattle.std.proofs.Common.{◌≡◌, ℕ, zero, suc, inl, inr, true, false, not, List, [], ◌∷◌, ◌++◌, length, Option, Some, None, refl, sym, ap, subst, ◌∙◌, eqb-true}
use Rattle.std.specs.Prelude.{◌==◌, filter, map}
use Rattle.std.specs.List.{flat_map}
use Rattle.std.specs.List.Sorted.{IsStrictlySortedBy}
use Rattle.std.specs.Cmp.{tied_itself}
use Rattle.std.specs.declared.cmp.Ordering.TheVariants.{Less}
use Rattle.std.specs.Option.{option_map_or}
use Rattle.std.specs.Ordering.{is_eq}
use Rattle.std.proofs.lemmas.Bool.{and_from, and_parts, eq-eqb, false≢true, false_from_ne_true, not_from_false}
use Rattle.std.proofs.lemmas.List.{length-map}
use Rattle.ma_cells.specs.Ascending.{are_distinct, ascending_of, has}
use Rattle.ma_cells.specs.Tetrahedron.{Tetrahedron, tet_cmp}
use Rattle.ma_cells.specs.Views.{ghost_cmp}
use Rattle.ma_cells.proofs.Ascents.{length-ascending_of, sorted-ascending_of}
use Rattle.ma_cells.proofs.CellOrders.{ghost_cmp_total, tet_cmp_total, tet_cmp-IsAntisymmetric}
use Rattle.mesh_laws.specs.Adapted.{IsSoundMesh}
use Rattle.size_marks.specs.Field.{Field}
use Rattle.cavity_rank.specs.Operations.{Operation}
use Rattle.cavity_rank.specs.declared.verdict.Kind.{Kind}
use Rattle.cavity_rank.proofs.Ranked.{rank_total, rank-IsAntisymmetric}
use Rattle.cavity_fillings.specs.Fillings.{FillsAlone}
use Rattle.cavity_fillings.proofs.Apart.{fillings_are_apart}
use Rattle.one_mesh.specs.Adaptation.{Plan, kind_of_pass, last_stage}
use Rattle.part_store.specs.Labelled.{LabelledMesh, label_of, tet_of}
use Rattle.part_store.proofs.Members.{In, all-in, any-in, from-filter, from-has, from-map, in-has, in-map}
use Rattle.pass_rules.specs.Choosing.{is_in, is_taken}
use Rattle.pass_rules.specs.Passes.{filling}
use Rattle.part_vote.specs.Leading.{leader, leads}
use Rattle.part_vote.specs.OwedVotes.{chosen_in}
use Rattle.part_gather.specs.OwedGathering.{labelled_filling, led_by, mesh_after}
use Rattle.vote_laws.proofs.Seen.{in-all}
use Rattle.gather_laws.proofs.After.{from-after}
use Rattle.refined_views.specs.Refined.{refined_labelled, without_labels}
use Rattle.refined_views.proofs.AsMany.{refined_times_is_as_many}
use Rattle.staged_meshes.specs.Laws.{StagesAreAsMany}
use Rattle.staged_meshes.specs.Staged.{adapted_times, opened, passed_times}
use Rattle.staged_meshes.proofs.OneStage.{rounds_are_adapted, stages_are_adapted}

-- that each of these tetrahedra has one label
abbrev HaveOneLabel : List (Tetrahedron × ℕ) → Type 0
HaveOneLabel es = (t : Tetrahedron) (r s : ℕ) → In (t, r) es → In (t, s) es → r ≡ s

-- that a mesh has as many tetrahedra as without its labels
abbrev IsAsMany : LabelledMesh → Type 0
IsAsMany mesh = length mesh.tets ≡ length (without_labels mesh).tets

-- ---- where a mesh has as many tetrahedra as without its labels, none is listed twice
distinct_if_as_many : (mesh : LabelledMesh) → IsAsMany mesh → are_distinct tet_cmp (map tet_of mesh.tets) ≡ true
distinct_if_as_many mesh long =
    let ts = map tet_of mesh.tets in
    sym (length-ascending_of tet_cmp_total ts).1 ∙ eq-eqb (length (ascending_of tet_cmp ts)) (length ts) (sym long ∙ sym (length-map mesh.tets tet_of))

as_many_if_distinct : (mesh : LabelledMesh) → are_distinct tet_cmp (map tet_of mesh.tets) ≡ true → IsAsMany mesh
as_many_if_distinct mesh distinct =
    let ts = map tet_of mesh.tets in
    sym (length-map mesh.tets tet_of) ∙ sym (eqb-true (length (ascending_of tet_cmp ts)) (length ts) ((length-ascending_of tet_cmp_total ts).1 ∙ distinct))

-- ---- and each has one label
listed_too : (t : Tetrahedron) (s : ℕ) (es : List (Tetrahedron × ℕ)) → In (t, s) es → has tet_cmp t (map tet_of es) ≡ true
listed_too t s es h = in-has tet_cmp_total tet_cmp-IsAntisymmetric (map tet_of es) t (in-map tet_of es (t, s) h)

one_if_distinct : (es : List (Tetrahedron × ℕ)) → are_distinct tet_cmp (map tet_of es) ≡ true → HaveOneLabel es
one_if_distinct [] distinct t r s h k = absurd h
one_if_distinct (e ∷ es) distinct t r s h k =
    let parts = and_parts (not (has tet_cmp (tet_of e) (map tet_of es))) (are_distinct tet_cmp (map tet_of es)) distinct in
    let repeated : (n : ℕ) → tet_of e ≡ t → In (t, n) es → ⊥ = λ n same j. false≢true (sym (ap not (ap (λ u. has tet_cmp u (map tet_of es)) same ∙ listed_too t n es j)) ∙ parts.0) in
    elim h [
      | inl a ↦ elim k [
        | inl b ↦ ap label_of (a ∙ sym b)
        | inr j ↦ absurd (repeated s (sym (ap tet_of a)) j)
      ]
      | inr i ↦ elim k [
        | inl b ↦ absurd (repeated r (sym (ap tet_of b)) i)
        | inr j ↦ one_if_distinct es parts.1 t r s i j
      ]
    ]

distinct_if_one : (es : List (Tetrahedron × ℕ)) → IsStrictlySortedBy ghost_cmp es → HaveOneLabel es → are_distinct tet_cmp (map tet_of es) ≡ true
unfolding IsStrictlySortedBy
distinct_if_one [] rises one = refl
distinct_if_one (e ∷ es) rises one =
    and_from (not (has tet_cmp (tet_of e) (map tet_of es))) (are_distinct tet_cmp (map tet_of es))
    (not_from_false (has tet_cmp (tet_of e) (map tet_of es)) (false_from_ne_true (has tet_cmp (tet_of e) (map tet_of es)) (λ h.
    let f = from-map tet_of es (tet_of e) (from-has tet_cmp_total tet_cmp-IsAntisymmetric (map tet_of es) (tet_of e) h) in
    let again : In (tet_of e, label_of f.0) es = subst (λ z. In z es) (λ i. (sym f.2 i, label_of f.0)) f.1 in
    let label : label_of e ≡ label_of f.0 = one (tet_of e) (label_of e) (label_of f.0) (inl refl) (inr again) in
    let same : In e es = subst (λ n. In (tet_of e, n) es) (sym label) again in
    false≢true (ap is_eq (sym (all-in (λ z. ghost_cmp e z ≡ Less) es e rises.0 same) ∙ tied_itself ghost_cmp_total e)))))
    (distinct_if_one es rises.1 (λ t r s h k. one t r s (inr h) (inr k)))

-- ---- a pass
-- one part leads an operation
one_leader : (first : Option ℕ) (r s : ℕ) → option_map_or (λ label. label == r) first false ≡ true → option_map_or (λ label. label == s) first false ≡ true → r ≡ s
one_leader None r s h k = absurd (false≢true h)
one_leader (Some n) r s h k = sym (eqb-true n r h) ∙ eqb-true n s k

module _ (kind : Kind) (field : Field) (mesh : LabelledMesh) (sound : IsSoundMesh (without_labels mesh)) where
  abbrev ops : List Operation
  ops = chosen_in kind field mesh

  abbrev all : List Tetrahedron
  all = (without_labels mesh).tets

  fills_alone : (op : Operation) (t : Tetrahedron) → In op ops → In t (filling all op) → FillsAlone kind field (without_labels mesh) op t
  fills_alone op t there fills =
      fillings_are_apart kind field (without_labels mesh) sound op t (in-has rank_total rank-IsAntisymmetric ops op there) (in-has tet_cmp_total tet_cmp-IsAntisymmetric (filling all op) t fills)

  chosen_too : (r : ℕ) (op : Operation) → In op (led_by kind field mesh r) → In op ops × (leads mesh.tets r op ≡ true)
  chosen_too r op h = from-filter (leads mesh.tets r) ops op h

  -- a tetrahedron in no chosen cavity fills none
  kept_or_new : (t : Tetrahedron) (r s : ℕ) (op : Operation) → In (t, r) mesh.tets → is_taken ops t ≡ false → In op (led_by kind field mesh s) → In t (filling all op) → ⊥
  kept_or_new t r s op there untaken led fills =
      let chosen = (chosen_too s op led).0 in
      let inside = (fills_alone op t chosen fills).within (in-has tet_cmp_total tet_cmp-IsAntisymmetric all t (in-all mesh (t, r) there)) in
      false≢true (sym untaken ∙ any-in (λ o. is_in o t) ops op chosen inside)

  -- and what fills a cavity has the label of the part that leads its operation
  both_new : (t : Tetrahedron) (r s : ℕ) (op other : Operation) → In op (led_by kind field mesh r) → In t (filling all op) → In other (led_by kind field mesh s) → In t (filling all other) → r ≡ s
  both_new t r s op other led fills led_too fills_too =
      let first = chosen_too r op led in
      let second = chosen_too s other led_too in
      let same : other ≡ op = (fills_alone op t first.0 fills).alone other (in-has rank_total rank-IsAntisymmetric ops other second.0) (in-has tet_cmp_total tet_cmp-IsAntisymmetric (filling all other) t fills_too) in
      one_leader (leader mesh.tets op) r s first.1 (subst (λ o. leads mesh.tets s o ≡ true) same second.1)

  one_after : HaveOneLabel mesh.tets → HaveOneLabel (mesh_after kind field mesh).tets
  one_after one t r s h k = elim (from-after kind field mesh t r h) [
    | inl a ↦ elim (from-after kind field mesh t s k) [
      | inl b ↦ one t r s a.0 b.0
      | inr b ↦ absurd (kept_or_new t r s b.0 a.0 a.1 b.1 b.2)
    ]
    | inr a ↦ elim (from-after kind field mesh t s k) [
      | inl b ↦ absurd (kept_or_new t s r a.0 b.0 b.1 a.1 a.2)
      | inr b ↦ both_new t r s a.0 b.0 a.1 a.2 b.1 b.2
    ]
  ]

  as_many_after : IsAsMany mesh → IsAsMany (mesh_after kind field mesh)
  as_many_after long =
      let after = mesh_after kind field mesh in
      as_many_if_distinct after (distinct_if_one after.tets
      (sorted-ascending_of ghost_cmp_total (filter (λ (entry : Tetrahedron × ℕ). not (is_taken ops entry.0)) mesh.tets ++ flat_map (labelled_filling mesh) ops))
      (one_after (one_if_distinct mesh.tets (distinct_if_as_many mesh long))))

-- ---- passes and rounds
passes_as_many : (plan : Plan) (mesh : LabelledMesh) (passes : ℕ) → ((before : ℕ) → IsSoundMesh (without_labels (passed_times plan mesh before))) → IsAsMany mesh → IsAsMany (passed_times plan mesh passes)
passes_as_many plan mesh zero sound long = long
passes_as_many plan mesh (suc before) sound long = as_many_after (kind_of_pass plan before) plan.field (passed_times plan mesh before) (sound before) (passes_as_many plan mesh before sound long)

module _ (plan : Plan) (mesh : LabelledMesh) (sound : IsSoundMesh (without_labels mesh)) where
  round_as_many : (round passes : ℕ) → IsAsMany (adapted_times plan mesh round) → IsAsMany (passed_times plan (refined_labelled plan.field (adapted_times plan mesh round)) passes)
  round_as_many round passes long =
      passes_as_many plan (opened plan mesh (suc round)) passes (λ before. (stages_are_adapted plan mesh round before sound).sound)
      (refined_times_is_as_many plan.field (adapted_times plan mesh round) (suc zero) (rounds_are_adapted plan mesh round sound).sound long)

  rounds_as_many : (rounds : ℕ) → IsAsMany mesh → IsAsMany (adapted_times plan mesh rounds)
  rounds_as_many zero long = long
  rounds_as_many (suc round) long = round_as_many round (last_stage plan) (rounds_as_many round long)

pub stages_are_as_many : StagesAreAsMany
stages_are_as_many plan mesh round passes sound long = round_as_many plan mesh sound round passes (rounds_as_many plan mesh sound round long)
