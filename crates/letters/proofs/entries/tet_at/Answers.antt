use Rattle.std.proofs.Common.{w32, of_z, to_z}
use Rattle.std.specs.Prelude.{None, Some}
use Rattle.std.proofs.lemmas.Int.{to_z-of_z}
use Rattle.letters.proofs.Tetrahedra.{solid_is, tet_none, tet_some}
use Rattle.letters.proofs.entries.tet_at.Goals as goal

pub returns-in-Some : goal.returns-in-Some
returns-in-Some c =
    let phys = c.in_ok-phys.phys in
    let elem = c.in_ok-phys.elem in
    let made = solid_is c.in-Ok.read.0.items c.deref.result.now phys elem (to_z w32 (of_z w32 phys)) (to_z w32 (of_z w32 elem)) c.tet_of.result (Some c.in-Some.t) c.deref.ensures.0
    (to_z-of_z w32 phys c.in_ok-phys.ensures.phys) (to_z-of_z w32 elem c.in_ok-phys.ensures.elem) c.tet_of.ensures c.in-Some.is in
    tet_some 4 c.args.end c.args.bytes.now c.in-Ok.read.0.items c.in-Ok.read.1.now (phys, elem) c.in_ok-phys.rest.now c.in-Some.t c.in-Ok.ensures.gives c.in_ok-phys.ensures.gives made

pub returns-in-None : goal.returns-in-None
returns-in-None c =
    let phys = c.in_ok-phys.phys in
    let elem = c.in_ok-phys.elem in
    let made = solid_is c.in-Ok.read.0.items c.deref.result.now phys elem (to_z w32 (of_z w32 phys)) (to_z w32 (of_z w32 elem)) c.tet_of.result None c.deref.ensures.0
    (to_z-of_z w32 phys c.in_ok-phys.ensures.phys) (to_z-of_z w32 elem c.in_ok-phys.ensures.elem) c.tet_of.ensures c.in-None.is in
    rw c.place_of.ensures (tet_none 4 c.args.end c.args.bytes.now c.in-Ok.read.0.items c.in-Ok.read.1.now (phys, elem) c.in_ok-phys.rest.now c.in-Ok.ensures.gives c.in_ok-phys.ensures.gives made)
