use Rattle.legal_moves.proofs.Closed.{found_none, found_ring}
use Rattle.legal_moves.proofs.swaps.make_a_ring.Goals as goal

pub returns-in-Some : goal.returns-in-Some
returns-in-Some c = found_ring c.args.star.now c.args.a c.args.b c.requires.star c.requires.ends c.in-Some.field-0 c.in-Some.ensures.ring c.in-Some.ensures.ends

pub returns-in-None : goal.returns-in-None
returns-in-None c = found_none c.args.star.now c.args.a c.args.b c.requires.star c.requires.ends c.in-None.ensures.none
