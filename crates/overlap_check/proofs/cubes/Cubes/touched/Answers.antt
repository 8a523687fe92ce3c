use Rattle.std.proofs.Common.{◌<◌, ◌^◌, ◌≤◌, arith, rules}
use Rattle.overlap_check.proofs.Heights.{number_fits}
use Rattle.overlap_check.proofs.cubes.Cubes.touched.Goals as goal

pub overflow_add-result : goal.overflow_add-result
overflow_add-result c =
    let stored : c.max.result < 2 ^ 32 = omega arith in
    let one : 1 ≤ c.args.self.now.shift = omega arith in
    let fits = number_fits c.max.result c.args.self.now.shift stored one in
    search (rules, fits)
