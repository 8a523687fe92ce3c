-- Which parts have a tetrahedron in a cavity, and which of them leads it.
use Rattle.std.proofs.Common.{◌≡◌, ℕ, inl, true, false, List, [], ◌∷◌, refl, sym, subst, eqb-true}
use Rattle.std.specs.Prelude.{◌==◌, map}
use Rattle.std.specs.Option.{option_map_or}
use Rattle.std.specs.Cmp.{nat_cmp_total}
use Rattle.std.specs.FinMap.{nat_cmp-IsAntisymmetric}
use Rattle.std.proofs.lemmas.Bool.{false≢true, eq-eqb}
use Rattle.ma_cells.specs.Tetrahedron.{Tetrahedron}
use Rattle.cavity_rank.specs.Operations.{Operation}
use Rattle.part_store.specs.Agreement.{around, first_of}
use Rattle.part_store.specs.Labelled.{label_of}
use Rattle.part_store.proofs.Members.{In, in-filter, from-filter, in-map, from-map, in-has, from-has, in-ascending_of, from-ascending_of}
use Rattle.pass_rules.specs.Choosing.{is_in}
use Rattle.part_vote.specs.Leading.{cavity_labels, leads, reaches}

-- that a label comes first
abbrev IsFirst : List ℕ → ℕ → Type 0
IsFirst labels q = option_map_or (λ label. label == q) (first_of labels) false ≡ true

first-in : (labels : List ℕ) (q : ℕ) → IsFirst labels q → In q labels
first-in [] q h = absurd (false≢true h)
first-in (n ∷ labels) q h = inl (sym (eqb-true n q h))

-- of some labels one comes first
some_first : (labels : List ℕ) (r : ℕ) → In r labels → (q : ℕ) × IsFirst labels q
some_first [] r h = absurd h
some_first (n ∷ labels) r h = (n, eq-eqb n n refl)

module _ (tets : List (Tetrahedron × ℕ)) (op : Operation) where
  -- the labels of a cavity are those of its tetrahedra
  pub in-labels : (t : Tetrahedron) (q : ℕ) → In (t, q) tets → is_in op t ≡ true → In q (cavity_labels tets op)
  in-labels t q there inside =
      in-ascending_of nat_cmp_total nat_cmp-IsAntisymmetric (map label_of (around op.at tets)) q
      (in-map label_of (around op.at tets) (t, q) (in-filter (λ entry. is_in op entry.0) tets (t, q) there inside))

  pub from-labels : (q : ℕ) → In q (cavity_labels tets op) → (t : Tetrahedron) × In (t, q) tets × (is_in op t ≡ true)
  from-labels q h =
      let e = from-map label_of (around op.at tets) q (from-ascending_of nat_cmp_total nat_cmp-IsAntisymmetric (map label_of (around op.at tets)) q h) in
      let kept = from-filter (λ entry. is_in op entry.0) tets e.0 e.1 in
      (e.0.0, subst (λ z. In z tets) (λ i. (e.0.0, sym e.2 i)) kept.0, kept.1)

  pub in-reaches : (q : ℕ) → In q (cavity_labels tets op) → reaches tets q op ≡ true
  in-reaches = in-has nat_cmp_total nat_cmp-IsAntisymmetric (cavity_labels tets op)

  pub from-reaches : (q : ℕ) → reaches tets q op ≡ true → In q (cavity_labels tets op)
  from-reaches = from-has nat_cmp_total nat_cmp-IsAntisymmetric (cavity_labels tets op)

  -- who leads an operation has a tetrahedron in its cavity
  pub leads-in : (q : ℕ) → leads tets q op ≡ true → In q (cavity_labels tets op)
  leads-in = first-in (cavity_labels tets op)

  -- an operation with some cavity is led
  pub some_leader : (r : ℕ) → In r (cavity_labels tets op) → (q : ℕ) × (leads tets q op ≡ true)
  some_leader = some_first (cavity_labels tets op)
