use Rattle.part_phases.proofs.Owed.{taken_letter_lowers_what_is_owed}
use Rattle.part_phases.proofs.laws.taken_letter_lowers_what_is_owed.Goals as goal

pub returns : goal.returns
returns g c = taken_letter_lowers_what_is_owed
