use Rattle.std.proofs.Common.{List, not, length, ap, ◌∙◌}
use Rattle.std.specs.Prelude.{◌==◌}
use Rattle.ma_cells.specs.Stars.{star_of}
use Rattle.ma_cells.specs.Tetrahedron.{Tetrahedron}
use Rattle.pass_rules.specs.Choosing.{is_in}
use Rattle.part_vote.proofs.Kept.{some_kept}
use Rattle.part_vote.proofs.balloting.has_some.Goals as goal

pub returns : goal.returns
returns c =
    ap not c.is_empty.ensures
    ∙ ap (λ (cavity : List Tetrahedron). not (length cavity == 0)) (c.as_slice.ensures.value ∙ c.in_ok-star.ensures ∙ ap (λ at. star_of at c.args.tets.now) c.at.ensures.value)
    ∙ some_kept (is_in c.args.op.now) c.args.tets.now
