-- The steps by which the code begins a round.
use Rattle.std.specs.Prelude.{ℕ, [], ◌+◌}
use Rattle.letters.specs.declared.letter.Body.{Body}
use Rattle.part_phases.specs.Standings as phases
use Rattle.part_store.specs.Stores.{StoreState}
use Rattle.part_core.specs.Parts.{PartState}
use Rattle.part_core.specs.steps.Going.{standing_at}

-- a part that holds this
abbrev pub holding : PartState → StoreState → PartState
holding part store = standing_at part (record part.standing { holds = store })

-- a standing in the first phase of a round, without a body
abbrev pub opened_at : ℕ → phases.Standing StoreState Body → phases.Standing StoreState Body
opened_at round part = record { me = part.me; round = round; phase = 0; holds = part.holds; now = []; early = []; kept = [] }

-- a part that opens a round with what it holds
abbrev pub opening : PartState → ℕ → PartState
opening part round = record { course = part.course; standing = opened_at round part.standing; begun = round + 1; spent = part.spent }
