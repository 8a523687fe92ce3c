use Rattle.part_phases.proofs.Gathered.{full_inbox_is_what_all_sent}
use Rattle.part_phases.proofs.laws.full_inbox_is_what_all_sent.Goals as goal

pub returns : goal.returns
returns g c = full_inbox_is_what_all_sent
