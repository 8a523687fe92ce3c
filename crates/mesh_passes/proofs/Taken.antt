-- What is taken, operation by operation.
use Rattle.std.proofs.Common.{◌≡◌, ℕ, ◌+◌, ◌<◌, Bool, true, false, cond, not, ◌&&◌, ◌||◌, if◌then◌else◌, List, [], ◌∷◌, ◌++◌, map, filter, length, get_or, drop, refl, sym, ap, subst, ◌∙◌, append_assoc, length-append, replicate, take, take-append-drop}
use Rattle.std.proofs.Math.Seq.{get_or-append_seam, set-append_seam}
use Rattle.std.specs.declared.cmp.Ordering.TheVariants.{Less}
use Rattle.std.specs.Cmp.{tied_itself}
use Rattle.std.specs.List.{AllByRecursion, list_all}
use Rattle.std.specs.List.Sorted.{IsStrictlySortedBy}
use Rattle.std.specs.Ordering.{is_lt, ordering_reverse}
use Rattle.std.proofs.lemmas.List.{drop_more, take_more, take-append-drop}
use Rattle.std.proofs.lemmas.List.Elements.{filter-append}
use Rattle.std.proofs.lemmas.List.Folds.{list_any-append}
use Rattle.ma_cells.specs.Tetrahedron.{Tetrahedron}
use Rattle.cavity_rank.specs.Operations.{Operation, rank}
use Rattle.pass_rules.specs.Choosing.{is_in, is_first_on, is_taken, wins}
use Rattle.mesh_passes.specs.Taking.{are_free, taken_at}
use Rattle.corner_tables.specs.Tables.{positions_from}
use Rattle.cavity_rank.proofs.Ranked.{rank_total}

-- ---- what is taken at positions
module _ {X : Type 0} (f g : X → Bool) where
  longer : (pre : List Bool) (b : Bool) → length (pre ++ b ∷ []) ≡ length pre + 1
  longer pre b = length-append pre (b ∷ [])

  regrouped : (pre : List Bool) (b : Bool) (bs : List Bool) → (pre ++ b ∷ []) ++ bs ≡ pre ++ b ∷ bs
  regrouped pre b bs = append_assoc pre (b ∷ []) bs

  pub free_there : (pre : List Bool) (xs : List X) → are_free (pre ++ map g xs) (positions_from (length pre) f xs) ≡ list_all (λ x. not (f x) || not (g x)) xs
  free_there pre [] = refl
  free_there pre (x ∷ xs) =
      let later = free_there (pre ++ g x ∷ []) xs in
      let rest : are_free (pre ++ g x ∷ map g xs) (positions_from (length pre + 1) f xs) ≡ list_all (λ x. not (f x) || not (g x)) xs
      = subst (λ t. are_free t (positions_from (length pre + 1) f xs) ≡ list_all (λ x. not (f x) || not (g x)) xs) (regrouped pre (g x) (map g xs))
      (subst (λ n. are_free ((pre ++ g x ∷ []) ++ map g xs) (positions_from n f xs) ≡ list_all (λ x. not (f x) || not (g x)) xs) (longer pre (g x)) later) in
      elim (f x) as (λ b. are_free (pre ++ g x ∷ map g xs) (cond b (length pre ∷ positions_from (length pre + 1) f xs) (positions_from (length pre + 1) f xs)) ≡ ((not b || not (g x)) && list_all (λ x. not (f x) || not (g x)) xs)) [
        | true ↦ rw (get_or-append_seam pre (g x) (map g xs) true) (ap (λ b. not (g x) && b) rest)
        | false ↦ rest
      ]

  either : (b c : Bool) → b ≡ true → (c || b) ≡ true
  either b true e = refl
  either b false e = e

  none : (b c : Bool) → b ≡ false → (c || b) ≡ c
  none b true e = refl
  none b false e = e

  pub taken_there : (pre : List Bool) (xs : List X) → taken_at (positions_from (length pre) f xs) (pre ++ map g xs) ≡ pre ++ map (λ x. g x || f x) xs
  taken_there pre [] = refl
  taken_there pre (x ∷ xs) =
      let rest : (b : Bool) → taken_at (positions_from (length pre + 1) f xs) (pre ++ b ∷ map g xs) ≡ pre ++ b ∷ map (λ x. g x || f x) xs
      = λ b. subst (λ n. taken_at (positions_from n f xs) (pre ++ b ∷ map g xs) ≡ pre ++ b ∷ map (λ x. g x || f x) xs) (longer pre b)
      (subst (λ t. taken_at (positions_from (length (pre ++ b ∷ [])) f xs) t ≡ pre ++ b ∷ map (λ x. g x || f x) xs) (regrouped pre b (map g xs))
      (taken_there (pre ++ b ∷ []) xs ∙ regrouped pre b (map (λ x. g x || f x) xs))) in
      elim (f x) as (λ b. f x ≡ b → taken_at (cond b (length pre ∷ positions_from (length pre + 1) f xs) (positions_from (length pre + 1) f xs)) (pre ++ g x ∷ map g xs) ≡ pre ++ (g x || f x) ∷ map (λ x. g x || f x) xs) [
        | true ↦ λ e. ap (λ t. taken_at (positions_from (length pre + 1) f xs) t) (set-append_seam pre (g x) (map g xs) true) ∙ rest true ∙ ap (λ b. pre ++ b ∷ map (λ x. g x || f x) xs) (sym (either (f x) (g x) e))
        | false ↦ λ e. rest (g x) ∙ ap (λ b. pre ++ b ∷ map (λ x. g x || f x) xs) (sym (none (f x) (g x) e))
      ] refl

-- ---- an operation is first on a tetrahedron where none of those before it has it
behind : (b : Bool) (o p : Operation) → rank p o ≡ Less → not (b && is_lt (rank p o)) ≡ not b
behind true o p e = rw (e) refl
behind false o p e = refl

ahead : (b : Bool) (o p : Operation) → rank o p ≡ Less → not (b && is_lt (rank p o)) ≡ true
ahead true o p e = ap (λ r. not (is_lt r)) (rank_total.antisymm p o ∙ ap ordering_reverse e)
ahead false o p e = refl

self : (b : Bool) (o : Operation) → not (b && is_lt (rank o o)) ≡ true
self true o = ap (λ r. not (is_lt r)) (tied_itself rank_total o)
self false o = refl

all_ahead : (o : Operation) (tet : Tetrahedron) (rest : List Operation) → AllByRecursion (λ p. rank o p ≡ Less) rest → is_first_on rest o tet ≡ true
all_ahead o tet [] h = refl
all_ahead o tet (p ∷ rest) h = rw (ahead (is_in p tet) o p h.0) (all_ahead o tet rest h.1)

neither : (a b : Bool) → not (a || b) ≡ (not a && not b)
neither true b = refl
neither false b = refl

at_seam : (P : Operation → Type 0) (o : Operation) (done rest : List Operation) → AllByRecursion P (done ++ o ∷ rest) → P o
at_seam P o [] rest h = h.0
at_seam P o (p ∷ done) rest h = at_seam P o done rest h.1

pub first_is_untaken : (done rest : List Operation) (o : Operation) (tet : Tetrahedron) → IsStrictlySortedBy rank (done ++ o ∷ rest) → is_first_on (done ++ o ∷ rest) o tet ≡ not (is_taken done tet)
unfolding IsStrictlySortedBy
first_is_untaken [] rest o tet s = rw (self (is_in o tet) o) (all_ahead o tet rest s.0)
first_is_untaken (p ∷ done) rest o tet s =
    rw (behind (is_in p tet) o p (at_seam (λ q. rank p q ≡ Less) o done rest s.0)) (ap (λ b. not (is_in p tet) && b) (first_is_untaken done rest o tet s.1) ∙ sym (neither (is_in p tet) (is_taken done tet)))

-- ---- one step of the loop
pub wins_there : (done rest : List Operation) (o : Operation) (tets : List Tetrahedron) → IsStrictlySortedBy rank (done ++ o ∷ rest)
    → are_free (map (is_taken done) tets) (positions_from 0 (is_in o) tets) ≡ wins (done ++ o ∷ rest) tets o
wins_there done rest o tets s =
    free_there (is_in o) (is_taken done) [] tets ∙ ap (λ f. list_all f tets) (λ k tet. not (is_in o tet) || sym (first_is_untaken done rest o tet s) k)

pub taken_after : (done : List Operation) (o : Operation) (tets : List Tetrahedron) → taken_at (positions_from 0 (is_in o) tets) (map (is_taken done) tets) ≡ map (is_taken (done ++ o ∷ [])) tets
taken_after done o tets =
    taken_there (is_in o) (is_taken done) [] tets ∙ ap (λ f. map f tets) (λ k tet. sym (list_any-append (λ op. is_in op tet) done (o ∷ []) ∙ ap (λ b. is_taken done tet || b) (only (is_in o tet))) k)
  where
    only : (b : Bool) → (b || false) ≡ b
    only true = refl
    only false = refl

pub none_taken : (tets : List Tetrahedron) → map (is_taken []) tets ≡ replicate (length tets) false
none_taken [] = refl
none_taken (t ∷ tets) = ap (λ bs. false ∷ bs) (none_taken tets)

-- the operations up to one, that one, and those after it
pub parted : (ops : List Operation) (i : ℕ) (o : Operation) → i < length ops → o ≡ get_or ops i o → ops ≡ take i ops ++ o ∷ drop (i + 1) ops
parted ops i o within at = sym (take-append-drop i ops) ∙ ap (λ rest. take i ops ++ rest) (drop_more ops i o within ∙ ap (λ p. p ∷ drop (i + 1) ops) (sym at))

pub won_step : (ops : List Operation) (tets : List Tetrahedron) (i : ℕ) (o : Operation) (won after : List Operation) (free : Bool) → IsStrictlySortedBy rank ops → i < length ops → o ≡ get_or ops i o
    → won ≡ filter (wins ops tets) (take i ops) → free ≡ are_free (map (is_taken (take i ops)) tets) (positions_from 0 (is_in o) tets) → after ≡ won ++ (if free then o ∷ [] else [])
    → after ≡ filter (wins ops tets) (take (i + 1) ops)
won_step ops tets i o won after free sorted within at before is pushed =
    let split = parted ops i o within at in
    let first : free ≡ wins ops tets o = is ∙ subst (λ all. are_free (map (is_taken (take i ops)) tets) (positions_from 0 (is_in o) tets) ≡ wins all tets o) (sym split)
    (wins_there (take i ops) (drop (i + 1) ops) o tets (subst (λ all. IsStrictlySortedBy rank all) split sorted)) in
    pushed ∙ rw (before, first) (sym (ap (filter (wins ops tets)) (take_more ops i o within ∙ ap (λ p. take i ops ++ p ∷ []) (sym at)) ∙ filter-append (wins ops tets) (take i ops) (o ∷ [])))

pub taken_step : (ops : List Operation) (tets : List Tetrahedron) (i : ℕ) (o : Operation) (taken after : List Bool) → i < length ops → o ≡ get_or ops i o
    → taken ≡ map (is_taken (take i ops)) tets → after ≡ taken_at (positions_from 0 (is_in o) tets) taken → after ≡ map (is_taken (take (i + 1) ops)) tets
taken_step ops tets i o taken after within at before is =
    is ∙ ap (λ t. taken_at (positions_from 0 (is_in o) tets) t) before ∙ taken_after (take i ops) o tets ∙ ap (λ done. map (is_taken done) tets) (sym (take_more ops i o within ∙ ap (λ p. take i ops ++ p ∷ []) (sym at)))
