use Rattle.std.proofs.Common.{◌≡◌, ℕ, ◌≤◌, false, length}
use Rattle.one_mesh.specs.Adaptation.{Plan, most_adapted_tets, staged}
use Rattle.one_mesh.proofs.store.OneMesh.adapt.Given as goal

-- the mesh is that of the last stage so far, and no stage so far was past the limit
abbrev pub invariant-loop-before : goal.invariant-loop-before
invariant-loop-before l =
    let plan : Plan = record { field = l.field; collapses = l.collapse; swaps = l.swap } in
    record {
      held : l.self ≡ record { mesh = staged plan l.before l.fn.self.mesh; spent = false };
      within : (stage : ℕ) → stage ≤ l.before → length (staged plan stage l.fn.self.mesh).tets ≤ most_adapted_tets;
    }
