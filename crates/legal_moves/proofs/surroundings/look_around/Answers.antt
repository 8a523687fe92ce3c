use Rattle.std.proofs.Common.{◌≡◌, [], ◌∷◌, drop, sym, ap, subst, ◌∙◌}
use Rattle.std.proofs.Math.Seq.{drop-cons}
use Rattle.std.specs.List.Sorted.{IsStrictlySortedBy}
use Rattle.std.proofs.lemmas.List.Kept.{IsStrictlySortedBy-filter}
use Rattle.ma_cells.specs.Faces.{holds_all}
use Rattle.ma_cells.specs.Stars.{marks_at, star_of}
use Rattle.ma_cells.specs.Tetrahedron.{Tetrahedron, tet_cmp}
use Rattle.legal_moves.proofs.Near.{marks_within, star_within}
use Rattle.legal_moves.proofs.surroundings.look_around.Goals as goal

pub returns-clause-star : goal.returns-clause-star
returns-clause-star c =
    let at = c.args.at.now in
    let rest = drop 1 at in
    let a = c.index-at-0.result in
    let near = c.in_ok-come_to.ensures.1 in
    let front : at ≡ a ∷ rest = drop-cons at 0 a c.requires.some ∙ ap (λ p. p ∷ rest) (sym c.index-at-0.is) in
    c.in_ok-find_star.ensures ∙ ap (star_of at) (c.as_slice.ensures.value ∙ near.0)
    ∙ subst (λ at. star_of at (star_of (a ∷ []) c.args.mesh.now.tets) ≡ star_of at c.args.mesh.now.tets) (sym front) (star_within a rest c.args.mesh.now.tets)

pub returns-clause-rises : goal.returns-clause-rises
returns-clause-rises c =
    let at = c.args.at.now in
    let near = c.in_ok-come_to.ensures.1 in
    subst (λ tets. IsStrictlySortedBy tet_cmp tets) (sym c.in_ok-find_star.ensures)
    (IsStrictlySortedBy-filter tet_cmp (λ (tet : Tetrahedron). holds_all tet.corners at) c.as_slice.result.now (subst (λ tets. IsStrictlySortedBy tet_cmp tets) (sym c.as_slice.ensures.value) near.1))

pub returns-clause-marked : goal.returns-clause-marked
returns-clause-marked c =
    let at = c.args.at.now in
    let rest = drop 1 at in
    let a = c.index-at-0.result in
    let near = c.in_ok-come_to.ensures.1 in
    let front : at ≡ a ∷ rest = drop-cons at 0 a c.requires.some ∙ ap (λ p. p ∷ rest) (sym c.index-at-0.is) in
    c.in_ok-find_marks.ensures ∙ ap (marks_at at) (c.as_slice-2.ensures.value ∙ near.2)
    ∙ subst (λ at. marks_at at (marks_at (a ∷ []) c.args.mesh.now.marks) ≡ marks_at at c.args.mesh.now.marks) (sym front) (marks_within a rest c.args.mesh.now.marks)
