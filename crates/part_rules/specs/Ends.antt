-- What the letters of a phase leave.
use Rattle.std.specs.Prelude.{ℕ, ◌+◌, ◌==◌, not, nat_le, [], ◌∷◌, filter, length, Result, Ok, Err, if◌then◌else◌}
use Rattle.std.specs.List.{flat_map}
use Rattle.ma_cells.specs.declared.batch.Batch.{Batch}
use Rattle.letters.specs.declared.letter.Post.{Post}
use Rattle.letters.specs.declared.letter.Reply.{Reply}
use Rattle.ghost_layer.specs.GhostRule.{rebuilt}
use Rattle.part_phases.specs.Inboxes.{Inbox}
use Rattle.part_store.specs.Stores.{StoreState, with_marks, with_shared}

-- how many tetrahedra a mesh may have
abbrev pub most_tets : ℕ
most_tets = 1000000

-- how many tetrahedra the other parts tell
abbrev pub counted : ℕ → Inbox Post → ℕ
counted me [] = 0
counted me (entry ∷ posts) = (if entry.0 == me then 0 else entry.1.count) + counted me posts

-- how many all have. The part's own number isn't cut
abbrev pub total_by : StoreState → Inbox Post → ℕ
total_by s posts = length s.own + counted s.part posts

-- the store, unless a total is too much
abbrev pub if_within : ℕ → StoreState → Result StoreState ℕ
if_within total s = if nat_le total most_tets then Ok s else Err total

-- after the posts the store is as it was, if all together have not too many tetrahedra
abbrev pub after_posts : StoreState → Inbox Post → Result StoreState ℕ
after_posts s posts = if_within (total_by s posts) s

-- after the replies it has all places that they share with it, in the order of their senders, and their marks on cells of its own tetrahedra
abbrev pub after_replies : StoreState → Inbox Reply → StoreState
after_replies s replies = with_marks (with_shared s (flat_map (λ entry. entry.1.shared) replies)) (flat_map (λ entry. entry.1.marks) replies)

-- after the ghosts it has what the others showed
abbrev pub after_ghosts : StoreState → Inbox Batch → StoreState
after_ghosts s batches = rebuilt s (filter (λ entry. not (entry.0 == s.part)) batches)
