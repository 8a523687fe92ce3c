use Rattle.std.proofs.Common.{◌≡◌, ℕ, ◌+◌, List, [], ◌++◌}
use Rattle.ma_cells.specs.Tetrahedron.{Tetrahedron}
use Rattle.msh_write.specs.Text.{element_line, ended, tet_element, item_lines}
use Rattle.msh_write.proofs.TextLines.{lines_from}
use Rattle.msh_write.proofs.union.put_tets.Given as goal

abbrev pub invariant-loop-index : goal.invariant-loop-index
invariant-loop-index l =
    let line : ℕ → Tetrahedron → List ℕ = λ number tet. element_line l.nodes (l.before + number) (tet_element [] tet) in
    l.out.items ++ ended (lines_from line l.tets l.index) ≡ l.fn.out.items ++ ended (item_lines line l.tets)
