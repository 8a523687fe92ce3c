use Rattle.std.proofs.Common.{◌≡◌, ◌++◌, drop}
use Rattle.std.specs.List.{flat_map}
use Rattle.part_store.specs.Stores.{view_in}
use Rattle.view_laws.specs.Views.{owned_marks}
use Rattle.world_run.proofs.uniting.reassemble.Given as goal

-- those of the parts so far are there
abbrev pub invariant-loop-part : goal.invariant-loop-part
invariant-loop-part l = record {
  tets : l.tets.items ++ flat_map (λ part. part.standing.holds.own) (drop l.part-index l.parts) ≡ flat_map (λ part. part.standing.holds.own) l.parts;
  marks : l.marks.items ++ flat_map (λ part. owned_marks (view_in part.standing.holds)) (drop l.part-index l.parts) ≡ flat_map (λ part. owned_marks (view_in part.standing.holds)) l.parts;
}
