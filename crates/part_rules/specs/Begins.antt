-- What a part holds that begins a round.
use Rattle.std.specs.Prelude.{ℕ, zero, suc}
use Rattle.ma_cells.specs.declared.batch.Batch.{Batch}
use Rattle.size_marks.specs.Field.{Field}
use Rattle.refinement.specs.Refinement.{refine}
use Rattle.ghost_layer.specs.GhostRule.{batch_of}
use Rattle.part_store.specs.Stores.{StoreState, started}

-- the store of a part that refines its own tetrahedra and the marks on their cells by itself, with no ghosts and no shared places
abbrev pub refined_store : Field → StoreState → StoreState
refined_store field s = let pieces : Batch = refine field (batch_of s.own s.marks) in started s.part pieces.tets pieces.marks

-- in round 0 a part holds what it has, and in a later round that refined
abbrev pub begins_with : Field → ℕ → StoreState → StoreState
begins_with field zero s = s
begins_with field (suc round) s = refined_store field s
