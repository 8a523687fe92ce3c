use Rattle.part_phases.proofs.Owed.{round_begun_owes_all_letters}
use Rattle.part_phases.proofs.laws.round_begun_owes_all_letters.Goals as goal

pub returns : goal.returns
returns g c = round_begun_owes_all_letters
