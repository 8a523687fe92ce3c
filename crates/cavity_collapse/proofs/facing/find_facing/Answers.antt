use Rattle.std.proofs.Common.{◌≡◌, true, sym, ap, ◌∙◌}
use Rattle.std.proofs.lemmas.List.{take_all}
use Rattle.ma_geom.specs.Coordinates.{place_cmp}
use Rattle.ma_cells.specs.Ascending.{has}
use Rattle.ma_cells.specs.Tetrahedron.{Tetrahedron, are_tetrahedra}
use Rattle.cavity_collapse.specs.Facing.{facing, facing_of, have_sides}
use Rattle.cavity_collapse.proofs.Seen.{all_off, all_put_down, passed_at}
use Rattle.cavity_collapse.proofs.facing.find_facing.Goals as goal

pub push_facing-requires : goal.push_facing-requires
push_facing-requires c = passed_at (λ (tet : Tetrahedron). has place_cmp c.args.a tet.corners) c.args.star.now c.loop-tet.tet-index c.tet-item.result c.requires c.loop-tet-test.true c.tet-item.is

pub returns : goal.returns
returns c =
    let star = c.args.star.now in
    let all : c.loop-tet.faces.items ≡ facing_of star c.args.a = all_put_down (facing c.args.a) star c.loop-tet.tet-index c.loop-tet.faces.items (facing_of star c.args.a) c.loop-tet-test.false c.loop-tet.invariant.faces in
    let solid : are_tetrahedra star ≡ true = ap are_tetrahedra (sym (take_all c.loop-tet.tet-index star c.loop-tet-test.false)) ∙ c.loop-tet.invariant.solid in
    (all, ap have_sides all ∙ all_off star c.args.a solid c.requires)
