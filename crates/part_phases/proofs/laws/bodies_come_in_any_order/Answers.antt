use Rattle.part_phases.proofs.Inboxes.{put_in-order}
use Rattle.part_phases.proofs.laws.bodies_come_in_any_order.Goals as goal

pub returns : goal.returns
returns g c = put_in-order
