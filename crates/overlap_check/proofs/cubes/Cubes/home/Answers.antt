use Rattle.std.proofs.Common.{◌≡◌, arith}
use Rattle.std.proofs.lemmas.Int.{to_z-of_z}
use Rattle.overlap_check.specs.steps.Cubes.{meeting}
use Rattle.overlap_check.proofs.cubes.Cubes.home.Goals as goal

pub returns : goal.returns
returns c =
    let x : c.number.result ≡ meeting c.args.self.now.shift c.args.a.now.x c.args.b.now.x = grind (arith, to_z-of_z, c.number.ensures, c.max.ensures.value) in
    let y : c.number-2.result ≡ meeting c.args.self.now.shift c.args.a.now.y c.args.b.now.y = grind (arith, to_z-of_z, c.number-2.ensures, c.max-2.ensures.value) in
    let z : c.number-3.result ≡ meeting c.args.self.now.shift c.args.a.now.z c.args.b.now.z = grind (arith, to_z-of_z, c.number-3.ensures, c.max-3.ensures.value) in
    λ i. record { x = x i; y = y i; z = z i }
