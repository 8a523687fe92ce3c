use Rattle.std.proofs.Common.{rules, arith}
use Rattle.std.specs.Prelude.{FitsSigned}
use mir.Syntax.{w32}
use Rattle.std.proofs.lemmas.Int.{ints}
use Rattle.overlap_check.proofs.Spans.{within_ends}
use Rattle.overlap_check.proofs.boxes.Span.around.Goals as goal

pub returns-clause-first : goal.returns-clause-first
returns-clause-first c =
    let low_fits : FitsSigned w32 c.min-3.result = search rules in
    let high_fits : FitsSigned w32 c.max-3.result = search rules in
    within_ends c.min-3.result c.max-3.result c.args.a low_fits high_fits (omega (arith, ints)) (omega (arith, ints))

pub returns-clause-second : goal.returns-clause-second
returns-clause-second c =
    let low_fits : FitsSigned w32 c.min-3.result = search rules in
    let high_fits : FitsSigned w32 c.max-3.result = search rules in
    within_ends c.min-3.result c.max-3.result c.args.b low_fits high_fits (omega (arith, ints)) (omega (arith, ints))

pub returns-clause-third : goal.returns-clause-third
returns-clause-third c =
    let low_fits : FitsSigned w32 c.min-3.result = search rules in
    let high_fits : FitsSigned w32 c.max-3.result = search rules in
    within_ends c.min-3.result c.max-3.result c.args.c low_fits high_fits (omega (arith, ints)) (omega (arith, ints))

pub returns-clause-fourth : goal.returns-clause-fourth
returns-clause-fourth c =
    let low_fits : FitsSigned w32 c.min-3.result = search rules in
    let high_fits : FitsSigned w32 c.max-3.result = search rules in
    within_ends c.min-3.result c.max-3.result c.args.d low_fits high_fits (omega (arith, ints)) (omega (arith, ints))
