use Rattle.mesh_check.proofs.Numbered.{places-rise}
use Rattle.mesh_check.proofs.tetrahedra.placed.Goals as goal

pub first_at_one_place-requires : goal.first_at_one_place-requires
first_at_one_place-requires c = places-rise _ c.args.shift _ c.in_ok-places.places.items c.in_ok-places.ensures c.as_slice-3.ensures.rises
