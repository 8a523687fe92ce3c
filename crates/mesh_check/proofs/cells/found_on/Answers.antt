use Rattle.std.proofs.Common.{◌∙◌, drop, length, sym, take, rules}
use Rattle.ma_cells.specs.Incidence.{is_on}
use Rattle.mesh_check.proofs.FoundCells.{found_more, none_found, written_back}
use Rattle.mesh_check.proofs.cells.found_on.Goals as goal

pub loop-tet-init : goal.loop-tet-init
loop-tet-init c = c.in_ok-found.ensures.items_if_clones_equal (λ y same. search rules) ∙ none_found c.args.wanted.now

pub loop-tet-preserved : goal.loop-tet-preserved
loop-tet-preserved c =
    written_back c.loop-tet.found.len c.note_all.new.found (drop (length c.note_all.new.found) c.loop-tet.found.items) (sym (c.note_all.auto.found ∙ c.as_mut_slice.ensures.len))
    ∙ c.note_all.ensures (is_on (take c.loop-tet.tet-index c.args.tets.now)) (c.as_mut_slice.ensures.value ∙ c.loop-tet.invariant)
    ∙ found_more c.args.wanted.now c.cells.result c.args.tets.now c.loop-tet.tet-index c.tet-item.result c.requires.cells c.loop-tet-test.true c.tet-item.is c.cells.ensures.has
