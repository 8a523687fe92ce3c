use Rattle.std.proofs.Common.{ℕ, ◌+◌, List, [], arith}
use Rattle.ma_cells.specs.Tetrahedron.{Tetrahedron}
use Rattle.msh_write.specs.Text.{element_line, tet_element}
use Rattle.msh_write.proofs.TextLines.{lines-end, lines-step}
use Rattle.msh_write.proofs.union.put_tets.Goals as goal

pub loop-index-preserved : goal.loop-index-preserved
loop-index-preserved c =
    let line : ℕ → Tetrahedron → List ℕ = λ number tet. element_line c.args.nodes.now (c.args.before + number) (tet_element [] tet) in
    lines-step line c.args.tets.now c.loop-index.index c.index-tets-index.result _ _ _ c.loop-index-test.true c.index-tets-index.is c.loop-index.invariant c.in_ok-put_plain_tet.ensures

pub returns : goal.returns
returns c =
    let line : ℕ → Tetrahedron → List ℕ = λ number tet. element_line c.args.nodes.now (c.args.before + number) (tet_element [] tet) in
    lines-end line c.args.tets.now c.loop-index.index _ _ (omega arith) c.loop-index.invariant
