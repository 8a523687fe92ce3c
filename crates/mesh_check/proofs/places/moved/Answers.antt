use Rattle.std.proofs.Common.{rules, w32, FitsSigned}
use Rattle.std.proofs.lemmas.Int.{to_z-of_z}
use Rattle.mesh_check.proofs.Ranges.{moved_is}
use Rattle.mesh_check.proofs.places.moved.Goals as goal

pub returns : goal.returns
returns c =
    let fx : FitsSigned w32 c.x.result = search rules in
    let fy : FitsSigned w32 c.y.result = search rules in
    let fz : FitsSigned w32 c.z.result = search rules in
    let gx : FitsSigned w32 c.in_ok-x.x = search rules in
    let gy : FitsSigned w32 c.in_ok-y.y = search rules in
    let gz : FitsSigned w32 c.in_ok-z.z = search rules in
    moved_is c.args.place c.args.shift c.x.result c.y.result c.z.result c.in_ok-x.x c.in_ok-y.y c.in_ok-z.z c.place_with.result
    c.x.ensures.value c.y.ensures.value c.z.ensures.value
    (simp to_z-of_z at c.in_ok-x.ensures) (simp to_z-of_z at c.in_ok-y.ensures) (simp to_z-of_z at c.in_ok-z.ensures)
    (simp to_z-of_z at c.place_with.ensures)
