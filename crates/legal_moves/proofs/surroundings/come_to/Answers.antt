use Rattle.std.proofs.Common.{[], ◌∷◌, refl, sym, ap, subst, ◌∙◌}
use Rattle.std.specs.List.Sorted.{IsStrictlySortedBy}
use Rattle.std.proofs.lemmas.List.Kept.{IsStrictlySortedBy-filter}
use Rattle.ma_cells.specs.Faces.{holds_all}
use Rattle.ma_cells.specs.Stars.{marks_at, star_of}
use Rattle.ma_cells.specs.Tetrahedron.{Tetrahedron, tet_cmp}
use Rattle.legal_moves.proofs.Near.{at_hand}
use Rattle.legal_moves.proofs.surroundings.come_to.Goals as goal

pub returns-then-is_at : goal.returns-then-is_at
returns-then-is_at c =
    at_hand c.args.mesh.now c.args.around.now.first c.args.a c.args.around.now.tets_at_first.items c.args.around.now.marks_at_first.items (sym c.is_at.ensures ∙ c.if-is_at.true) c.requires.near

pub returns : goal.returns
returns c =
    let a = c.args.a in
    let sorted : IsStrictlySortedBy tet_cmp (star_of (a ∷ []) c.as_slice.result.now)
    = IsStrictlySortedBy-filter tet_cmp (λ (tet : Tetrahedron). holds_all tet.corners (a ∷ [])) c.as_slice.result.now c.as_slice.ensures.rises in (
      refl,
      (
        c.in_ok-star.ensures ∙ ap (star_of (a ∷ [])) c.as_slice.ensures.items,
        subst (λ tets. IsStrictlySortedBy tet_cmp tets) (sym c.in_ok-star.ensures) sorted,
        c.in_ok-marks_at.ensures ∙ ap (marks_at (a ∷ [])) c.as_slice-2.ensures.items,
      ),
    )
