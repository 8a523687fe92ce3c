-- A sound mesh in which one chosen operation is made is sound and covers the same.
use Rattle.std.proofs.Common.{◌≡◌, true, not, List, ◌++◌, filter, sym, subst}
use Rattle.ma_cells.specs.Ascending.{has}
use Rattle.ma_cells.specs.Cells.{CellMark}
use Rattle.ma_cells.specs.Stars.{star_of}
use Rattle.ma_cells.specs.Tetrahedron.{Tetrahedron}
use Rattle.ma_cells.specs.declared.batch.Batch.{Batch}
use Rattle.ma_cells.proofs.Members.{all-at}
use Rattle.mesh_laws.specs.Adapted.{IsSoundMesh}
use Rattle.mesh_laws.specs.Covers.{CoverTheSame}
use Rattle.size_marks.specs.Field.{Field}
use Rattle.cavity_rank.specs.Operations.{Operation, rank}
use Rattle.cavity_rank.specs.declared.verdict.Kind.{Kind}
use Rattle.cavity_rank.specs.declared.verdict.Kind.TheVariants.{Collapse, Swap}
use Rattle.cavity_rank.proofs.Ranked.{rank-IsAntisymmetric}
use Rattle.collapse_laws.proofs.Collapses.{legal_collapse_keeps_mesh}
use Rattle.pass_rules.specs.Choosing.{is_in}
use Rattle.pass_rules.specs.Passes.{chosen, filling}
use Rattle.swap_laws.proofs.Adapts.{legal_swap_adapts}
use Rattle.collapse_laws.specs.Collapses.{collapsed_mesh}
use Rattle.collapse_passes.proofs.Chosen.{IsCollapse, chosen_collapse}
use Rattle.collapse_passes.proofs.Removals.{removal}
use Rattle.swap_passes.proofs.Adapts.{filled_by_swap}
use Rattle.swap_passes.proofs.Chosen.{IsLegalSwap, chosen_are_legal}

module _ (mesh : Batch) (op : Operation) where
  -- the tetrahedra outside of its cavity
  abbrev pub outside : List Tetrahedron
  outside = filter (λ tet. not (is_in op tet)) mesh.tets

  -- these, and what fills it
  abbrev pub made : List Tetrahedron
  made = outside ++ filling mesh.tets op

  pub record StaysSound : Type 0 where
    pub marks : List CellMark
    pub sound : IsSoundMesh (record { tets = made; marks = marks })
    pub cover : CoverTheSame mesh.tets made

module _ (field : Field) (mesh : Batch) (sound : IsSoundMesh mesh) where
  after_collapse : (op : Operation) → IsCollapse field mesh op → StaysSound mesh op
  after_collapse op is =
      let c = removal op in
      let kept = legal_collapse_keeps_mesh field mesh c.at c.apex c.worst sound is.legal in
      subst (StaysSound mesh) (sym is.is) (record { marks = (collapsed_mesh c.at c.apex mesh).marks; sound = kept.0; cover = kept.1 })

  after_swap : (op : Operation) → IsLegalSwap mesh op → StaysSound mesh op
  after_swap op is =
      let adapted = legal_swap_adapts mesh op.at op.apex op.worst sound is.spot.rise is.spot.long is.legal in
      let same = sym (filled_by_swap op.at op.apex (star_of op.at mesh.tets) is.spot.long) in
      record {
        marks = mesh.marks;
        sound = subst (λ l. IsSoundMesh (record { tets = outside mesh op ++ l; marks = mesh.marks })) same adapted.sound;
        cover = subst (λ l. CoverTheSame mesh.tets (outside mesh op ++ l)) same adapted.cover;
      }

  pub stays_sound : (kind : Kind) (op : Operation) → has rank op (chosen kind field mesh) ≡ true → StaysSound mesh op
  stays_sound Collapse op there = after_collapse op (all-at rank-IsAntisymmetric (IsCollapse field mesh) op (chosen Collapse field mesh) (chosen_collapse field mesh) there)
  stays_sound Swap op there = after_swap op (all-at rank-IsAntisymmetric (IsLegalSwap mesh) op (chosen Swap field mesh) (chosen_are_legal field mesh sound.tetrahedra) there)
