use Rattle.std.proofs.Common.{◌≡◌, true, ap, sym, subst}
use Rattle.ma_cells.specs.Ascending.{are_ascending}
use Rattle.ma_cells.specs.Cells.{mark_cmp}
use Rattle.ma_cells.specs.Grid.{mesh_is_on_grid}
use Rattle.ma_cells.specs.Tetrahedron.{are_tetrahedra}
use Rattle.ma_cells.specs.declared.batch.Batch.{Batch}
use Rattle.mesh_laws.specs.Adapted.{IsAdapted, IsSoundMesh}
use Rattle.pass_rules.proofs.Kept.{passes_are_not_flat, passes_stay_on_the_grid}
use Rattle.one_mesh.specs.Holding.{Holding}
use Rattle.one_mesh.proofs.Rounds.{pass_adapts, passed_rises}
use Rattle.one_mesh.proofs.store.OneMesh.pass.Goals as goal

pub invariant_of-self : goal.invariant_of-self
invariant_of-self c = (
  subst (λ (mesh : Batch). are_tetrahedra mesh.tets ≡ true) (sym c.in_ok-after.ensures.mesh) (passes_are_not_flat c.args.kind c.args.field.now c.self.inside.mesh c.self.invariant.0),
  subst (λ (mesh : Batch). are_ascending mark_cmp mesh.marks ≡ true) (sym c.in_ok-after.ensures.mesh) (passed_rises c.args.kind c.args.field.now c.self.inside.mesh),
)

pub returns-clause-not_flat : goal.returns-clause-not_flat
returns-clause-not_flat c = (invariant_of-self c).0

pub returns-clause-grid : goal.returns-clause-grid
returns-clause-grid c k on =
    let old : c.self.inside.mesh ≡ c.args.self.now.mesh = ap (λ (h : Holding). h.mesh) c.self.view_is in
    subst (λ (mesh : Batch). mesh_is_on_grid k mesh ≡ true) (sym c.in_ok-after.ensures.mesh)
    (passes_stay_on_the_grid k c.args.kind c.args.field.now c.self.inside.mesh (subst (λ (mesh : Batch). mesh_is_on_grid k mesh ≡ true) (sym old) on))

pub returns-clause-adapts : goal.returns-clause-adapts
returns-clause-adapts c is =
    let old : c.self.inside.mesh ≡ c.args.self.now.mesh = ap (λ (h : Holding). h.mesh) c.self.view_is in
    subst (λ (mesh : Batch). IsAdapted mesh c.in_ok-after.after.mesh) old
    (subst (λ (mesh : Batch). IsAdapted c.self.inside.mesh mesh) (sym c.in_ok-after.ensures.mesh)
    (pass_adapts c.args.kind c.args.field.now c.self.inside.mesh (subst IsSoundMesh (sym old) is) c.self.invariant.1))
