-- Which operations are legal, item by item.
use Rattle.std.proofs.Common.{◌≡◌, ℕ, suc, inl, inr, true, List, [], ◌∷◌, refl, sym, ap, subst}
use Rattle.std.specs.Prelude.{map}
use Rattle.std.specs.List.{flat_map}
use Rattle.std.specs.List.Sorted.{IsStrictlySortedBy}
use Rattle.std.specs.Option.{option_to_list}
use Rattle.ma_geom.specs.Coordinates.{Coordinates, place_cmp}
use Rattle.ma_geom.proofs.PlaceOrder.{place_cmp-IsAntisymmetric, place_cmp_total}
use Rattle.ma_cells.specs.Ascending.{has}
use Rattle.ma_cells.specs.Faces.{choices, holds_all}
use Rattle.ma_cells.specs.Stars.{besides, marks_at, star_of}
use Rattle.ma_cells.specs.Tetrahedron.{Tetrahedron}
use Rattle.ma_cells.specs.declared.batch.Batch.{Batch}
use Rattle.ma_cells.proofs.Ascents.{sorted-ascending_of}
use Rattle.ma_cells.proofs.Choices.{all-choices}
use Rattle.ma_cells.proofs.Passing.{test_all}
use Rattle.size_marks.specs.Field.{Field}
use Rattle.cavity_rank.specs.Operations.{Operation, rank}
use Rattle.cavity_rank.specs.declared.verdict.Kind.{Kind}
use Rattle.cavity_rank.specs.declared.verdict.Kind.TheVariants.{Collapse, Swap}
use Rattle.cavity_rank.proofs.Ranked.{rank-IsAntisymmetric, rank_total}
use Rattle.part_store.proofs.Members.{In, all-in, all-from_in, from-map, in-flat_map, from-flat_map, from-append, in-has, in-ascending_of, from-ascending_of}
use Rattle.pass_rules.specs.Moves.{legal_from, legal_operations, legal_within, quality_at, spots_of}

-- what is chosen from corners, at least one of them
chosen-held : (n : ℕ) (corners at : List Coordinates) → In at (choices n corners) → holds_all corners at ≡ true
chosen-held n corners at h =
    test_all (λ x. has place_cmp x corners) at
    (all-in _ (choices n corners) at (all-choices (λ x. has place_cmp x corners ≡ true) n corners (all-from_in (λ x. has place_cmp x corners ≡ true) corners (in-has place_cmp_total place_cmp-IsAntisymmetric corners))) h)

some-chosen : (n : ℕ) (corners at : List Coordinates) → In at (choices (suc n) corners) → (x : Coordinates) × In x at
some-chosen n [] at h = absurd h
some-chosen n (x ∷ corners) at h = elim (from-append (map (λ rest. x ∷ rest) (choices n corners)) (choices (suc n) corners) at h) [
  | inl first ↦ let rest = from-map (λ rest. x ∷ rest) (choices n corners) at first in (x, subst (λ z. In x z) (sym rest.2) (inl refl))
  | inr later ↦ some-chosen n corners at later
]

-- a tetrahedron has the places that a pass may take away of it, of which there is one
pub spot-held : (kind : Kind) (corners at : List Coordinates) → In at (spots_of kind corners) → (holds_all corners at ≡ true) × ((x : Coordinates) × In x at)
spot-held Collapse corners at h = (chosen-held 1 corners at h, some-chosen 0 corners at h)
spot-held Swap corners at h = elim (from-append (choices 2 corners) (choices 3 corners) at h) [
  | inl edge ↦ (chosen-held 2 corners at edge, some-chosen 1 corners at edge)
  | inr face ↦ (chosen-held 3 corners at face, some-chosen 2 corners at face)
]

-- an operation takes away and is filled from what it is made of
made-at : (field : Field) (mesh : Batch) (at : List Coordinates) (v : Coordinates) (op : Operation) → In op (legal_from field mesh at v) → (at ≡ op.at) × (v ≡ op.apex)
made-at field mesh at v op h =
    let made = from-map (λ worst. record { at = at; apex = v; worst = worst }) (option_to_list (quality_at field (star_of at mesh.tets) (marks_at at mesh.marks) at v)) op h in
    (sym (ap (λ (o : Operation). o.at) made.2), sym (ap (λ (o : Operation). o.apex) made.2))

module _ (kind : Kind) (field : Field) (mesh : Batch) where
  pub sorted-legal : IsStrictlySortedBy rank (legal_operations kind field mesh)
  sorted-legal = sorted-ascending_of rank_total (flat_map (legal_within kind field mesh) mesh.tets)

  -- a legal operation takes away something of a tetrahedron, and fills the cavity from another of its corners
  pub from-legal : (op : Operation) → In op (legal_operations kind field mesh)
      → (t : Tetrahedron) × In t mesh.tets × In op.at (spots_of kind t.corners) × In op.apex (besides op.at t.corners) × In op (legal_from field mesh op.at op.apex)
  from-legal op h =
      let t = from-flat_map (legal_within kind field mesh) mesh.tets op (from-ascending_of rank_total rank-IsAntisymmetric (flat_map (legal_within kind field mesh) mesh.tets) op h) in
      let at = from-flat_map (λ at. flat_map (legal_from field mesh at) (besides at t.0.corners)) (spots_of kind t.0.corners) op t.2 in
      let v = from-flat_map (legal_from field mesh at.0) (besides at.0 t.0.corners) op at.2 in
      let same = made-at field mesh at.0 v.0 op v.2 in
      (t.0, t.1, subst (λ z. In z (spots_of kind t.0.corners)) same.0 at.1, subst (λ (z : List Coordinates × Coordinates). In z.1 (besides z.0 t.0.corners)) (λ i. (same.0 i, same.1 i)) v.1, subst (λ (z : List Coordinates × Coordinates). In op (legal_from field mesh z.0 z.1)) (λ i. (same.0 i, same.1 i)) v.2)

  pub in-legal : (op : Operation) (t : Tetrahedron) → In t mesh.tets → In op.at (spots_of kind t.corners) → In op.apex (besides op.at t.corners) → In op (legal_from field mesh op.at op.apex)
      → In op (legal_operations kind field mesh)
  in-legal op t there spot apex legal =
      in-ascending_of rank_total rank-IsAntisymmetric (flat_map (legal_within kind field mesh) mesh.tets) op
      (in-flat_map (legal_within kind field mesh) mesh.tets t op there
      (in-flat_map (λ at. flat_map (legal_from field mesh at) (besides at t.corners)) (spots_of kind t.corners) op.at op spot (in-flat_map (legal_from field mesh op.at) (besides op.at t.corners) op.apex op apex legal)))
