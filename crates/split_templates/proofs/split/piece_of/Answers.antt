use Rattle.std.proofs.Common.{rules, ◌∙◌, w32, FitsSigned}
use Rattle.std.proofs.lemmas.Int.{to_z-of_z}
use Rattle.split_templates.proofs.Tetrahedra.{tetrahedron_is}
use Rattle.split_templates.proofs.split.piece_of.Goals as goal

pub unreachable-requires : goal.unreachable-requires
unreachable-requires c =
    let phys : FitsSigned w32 c.phys.result = search rules in
    let elem : FitsSigned w32 c.elem.result = search rules in
    let is = tetrahedron_is c.args.corners c.args.t.now.phys c.args.t.now.elem _ _ (to_z-of_z w32 c.phys.result phys ∙ c.phys.ensures) (to_z-of_z w32 c.elem.result elem ∙ c.elem.ensures) c.requires in
    let none = c.new.ensures in
    let here = c.in-None.is in
    cc

pub returns : goal.returns
returns c =
    let phys : FitsSigned w32 c.phys.result = search rules in
    let elem : FitsSigned w32 c.elem.result = search rules in
    let is = tetrahedron_is c.args.corners c.args.t.now.phys c.args.t.now.elem _ _ (to_z-of_z w32 c.phys.result phys ∙ c.phys.ensures) (to_z-of_z w32 c.elem.result elem ∙ c.elem.ensures) c.requires in
    let some = c.new.ensures in
    let here = c.in-Some.is in
    cc
