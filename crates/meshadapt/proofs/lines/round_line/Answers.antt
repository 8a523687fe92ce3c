use Rattle.std.proofs.Common.{[], ◌∷◌, length, codes, decimal, sym}
use Rattle.ma_cells.specs.Worst.{worst}
use Rattle.meshadapt.specs.Printed.{round_line}
use Rattle.msh_write.specs.Text.{nodes_of}
use Rattle.meshadapt.proofs.Pieces.{nine_pieces}
use Rattle.meshadapt.proofs.lines.round_line.Goals as goal

pub returns : goal.returns
unfolding round_line
returns c =
    rw (c.in_ok-format.ensures.ok, c.len-tets.ensures, c.requires, c.worst-worst.ensures, c.as_slice.ensures.items)
    (sym (nine_pieces (codes "round ") (decimal c.args.round) (codes ": tets ") (decimal (length c.args.mesh.now.tets)) (codes " nodes ") (decimal (length (nodes_of c.args.mesh.now.tets))) (codes " worst ") (decimal (worst c.args.mesh.now.tets)) (10 ∷ [])))
