use Rattle.std.proofs.Common.{◌≡◌, true, subst}
use Rattle.std.specs.List.{list_all}
use Rattle.ma_cells.specs.Tetrahedron.{are_corners}
use Rattle.letters.specs.Fields.{place}
use Rattle.letters.proofs.Fitting.{handed_on, on_ok, tag_fits, tet_fits}
use Rattle.letters.proofs.entries.TetEntry.put.Goals as goal

pub returns-clause-fits : goal.returns-clause-fits
returns-clause-fits c =
    let t = c.args.self.now in
    on_ok c.put_tag.result (tet_fits t (subst (λ ps. are_corners ps ≡ true) c.corners.ensures.value c.corners.ensures.corners)
    (subst (λ ps. list_all place.fits ps ≡ true) c.corners.ensures.value c.in_ok-put_places.ensures.fits)
    (tag_fits _ _ t.phys t.elem (handed_on c.phys.result t.phys c.phys.type_inv c.phys.ensures) (handed_on c.elem.result t.elem c.elem.type_inv c.elem.ensures) c.put_tag.ensures.fits))
