use Rattle.std.proofs.Common.{◌≡◌, [], ◌∷◌, rules, ap, ◌∙◌}
use Rattle.std.specs.List.{flat_map}
use Rattle.ma_cells.specs.Ascending.{ascending_of}
use Rattle.cavity_rank.specs.Operations.{rank}
use Rattle.cavity_rank.proofs.Ranked.{rank-IsAntisymmetric}
use Rattle.legal_moves.specs.Around.{legal_around, vertices_of}
use Rattle.legal_moves.proofs.ByVertex.{legal_by_vertices}
use Rattle.legal_moves.proofs.Pushing.{all_pushed}
use Rattle.legal_moves.proofs.collapses.legal_collapses.Goals as goal

pub returns : goal.returns
returns c =
    let field = c.args.field.now in
    let places = c.as_slice-places.result.now in
    let are : places ≡ vertices_of c.args.mesh.now.tets = search rules in
    c.gather.ensures.is rank-IsAntisymmetric
    ∙ ap (ascending_of rank) (all_pushed (λ a. legal_around field c.args.mesh.now (a ∷ [])) places c.loop-a.a-index c.loop-a.ops.items _ c.loop-a-test.false c.loop-a.invariant)
    ∙ ap (λ vs. ascending_of rank (flat_map (λ a. legal_around field c.args.mesh.now (a ∷ [])) vs)) are
    ∙ legal_by_vertices field c.args.mesh.now
