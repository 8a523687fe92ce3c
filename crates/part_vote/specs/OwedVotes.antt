-- What each part owes each other in a pass over a mesh with labels, by the mesh alone.
use Rattle.std.specs.Prelude.{ℕ, List, filter}
use Rattle.size_marks.specs.Field.{Field}
use Rattle.cavity_rank.specs.Operations.{Operation}
use Rattle.cavity_rank.specs.declared.verdict.Kind.{Kind}
use Rattle.part_store.specs.Labelled.{LabelledMesh, own_of}
use Rattle.pass_rules.specs.Choosing.{wins}
use Rattle.pass_rules.specs.Passes.{chosen}
use Rattle.part_vote.specs.Leading.{leads, legal_in, reaches, without_labels}

module _ (kind : Kind) (field : Field) (mesh : LabelledMesh) where
  -- the chosen operations of a pass
  abbrev pub chosen_in : List Operation
  chosen_in = chosen kind field (without_labels mesh)

  -- from p to q, the legal operations that p leads and that have a tetrahedron of q in their cavity
  abbrev pub owed_proposals : ℕ → ℕ → List Operation
  owed_proposals p q = filter (reaches mesh.tets q) (filter (leads mesh.tets p) (legal_in kind field mesh))

  -- from p to q, of the legal operations that q leads and that have a tetrahedron of p in their cavity, those that are first of all legal ones on each such tetrahedron
  abbrev pub owed_votes : ℕ → ℕ → List Operation
  owed_votes p q = filter (wins (legal_in kind field mesh) (own_of mesh p)) (owed_proposals q p)

  -- from p to q, the chosen operations that p leads and that have a tetrahedron of q in their cavity
  abbrev pub owed_orders : ℕ → ℕ → List Operation
  owed_orders p q = filter (reaches mesh.tets q) (filter (leads mesh.tets p) chosen_in)
