use Rattle.std.proofs.Common.{◌≤◌, ◌-◌, ap, ◌∙◌, drop, length, arith}
use Rattle.std.proofs.lemmas.List.{length-drop, take_all}
use Rattle.overlap_check.specs.steps.Pairs.{pair_from}
use Rattle.overlap_check.proofs.Pinned.{pinned}
use Rattle.overlap_check.proofs.overlaps.first_overlap.Goals as goal

pub returns : goal.returns
returns c =
    let tets = c.args.tets.now in
    let first = c.in_ok-first.first in
    let whole : length (drop first tets) ≤ length tets - first = omega (arith, length-drop first tets) in
    c.pair_from.ensures ∙ ap (pair_from first) (take_all (length tets - first) (drop first tets) whole) ∙ pinned tets first c.in_ok-first.ensures.start c.in_ok-first.ensures.least
