use Rattle.std.proofs.Common.{◌≡◌, suc, true, ap, sym, subst}
use Rattle.ma_cells.specs.declared.batch.Batch.{Batch}
use Rattle.ma_cells.specs.Ascending.{are_ascending}
use Rattle.ma_cells.specs.Cells.{mark_cmp}
use Rattle.ma_cells.specs.Grid.{mesh_is_on_grid}
use Rattle.one_mesh.specs.Holding.{Holding}
use Rattle.ma_cells.specs.Tetrahedron.{are_tetrahedra}
use Rattle.refinement.specs.Laws.{KeepsCover}
use Rattle.mesh_laws.specs.Adapted.{IsAdapted, IsSoundMesh}
use Rattle.refine_laws.proofs.Sound.{refinement_adapts}
use Rattle.refinement.proofs.Covered.{refinement_keeps_cover}
use Rattle.refinement.proofs.Gridded.{refinement_halves_the_grid}
use Rattle.refinement.proofs.NotFlat.{refinement_is_not_flat}
use Rattle.one_mesh.proofs.Rounds.{refined_rises}
use Rattle.one_mesh.proofs.store.OneMesh.refine.Goals as goal

pub invariant_of-self : goal.invariant_of-self
invariant_of-self c = (
  subst (λ (mesh : Batch). are_tetrahedra mesh.tets ≡ true) (sym c.in_ok-self-inside.ensures) (refinement_is_not_flat c.args.field.now c.self.inside.mesh c.self.invariant.0),
  subst (λ (mesh : Batch). are_ascending mark_cmp mesh.marks ≡ true) (sym c.in_ok-self-inside.ensures) (refined_rises c.args.field.now c.self.inside.mesh),
)

pub returns-clause-cover : goal.returns-clause-cover
returns-clause-cover c =
    let old : c.self.inside.mesh ≡ c.args.self.now.mesh = ap (λ (h : Holding). h.mesh) c.self.view_is in
    subst (λ (mesh : Batch). KeepsCover mesh c.in_ok-self-inside.field-0) old
    (subst (λ (mesh : Batch). KeepsCover c.self.inside.mesh mesh) (sym c.in_ok-self-inside.ensures) (refinement_keeps_cover c.args.field.now c.self.inside.mesh c.self.invariant.0))

pub returns-clause-not_flat : goal.returns-clause-not_flat
returns-clause-not_flat c =
    subst (λ (mesh : Batch). are_tetrahedra mesh.tets ≡ true) (sym c.in_ok-self-inside.ensures) (refinement_is_not_flat c.args.field.now c.self.inside.mesh c.self.invariant.0)

pub returns-clause-grid : goal.returns-clause-grid
returns-clause-grid c k on =
    let old : c.self.inside.mesh ≡ c.args.self.now.mesh = ap (λ (h : Holding). h.mesh) c.self.view_is in
    subst (λ (mesh : Batch). mesh_is_on_grid k mesh ≡ true) (sym c.in_ok-self-inside.ensures)
    (refinement_halves_the_grid k c.args.field.now c.self.inside.mesh (subst (λ (mesh : Batch). mesh_is_on_grid (suc k) mesh ≡ true) (sym old) on))

pub returns-clause-adapts : goal.returns-clause-adapts
returns-clause-adapts c is =
    let old : c.self.inside.mesh ≡ c.args.self.now.mesh = ap (λ (h : Holding). h.mesh) c.self.view_is in
    subst (λ (mesh : Batch). IsAdapted mesh c.in_ok-self-inside.field-0) old
    (subst (λ (mesh : Batch). IsAdapted c.self.inside.mesh mesh) (sym c.in_ok-self-inside.ensures) (refinement_adapts c.args.field.now c.self.inside.mesh (subst IsSoundMesh (sym old) is)))
