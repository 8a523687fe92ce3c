use Rattle.std.proofs.Common.{[], ◌∷◌, length, codes, decimal, sym}
use Rattle.std.specs.List.{count_by}
use Rattle.msh_write.specs.Text.{is_tagged, nodes_of}
use Rattle.meshadapt.specs.Printed.{mesh_line}
use Rattle.meshadapt.proofs.Pieces.{nine_pieces}
use Rattle.meshadapt.proofs.lines.mesh_line.Goals as goal

pub returns : goal.returns
unfolding mesh_line
returns c =
    rw (c.in_ok-format.ensures.ok, c.len-tets.ensures, c.requires, c.tagged_count-marks.ensures, c.as_slice.ensures.items)
    (sym (nine_pieces (codes "mesh: tets ") (decimal (length c.args.mesh.now.tets)) (codes " nodes ") (decimal (length (nodes_of c.args.mesh.now.tets))) (codes " marks ") (decimal (count_by is_tagged c.args.mesh.now.marks)) (codes " loose ") (decimal c.args.loose) (10 ∷ [])))
