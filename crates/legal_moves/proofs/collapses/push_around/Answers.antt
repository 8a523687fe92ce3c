use Rattle.std.proofs.Common.{◌≡◌, ◌++◌, [], ◌∷◌, false, rules, sym, ap, subst, ◌∙◌}
use Rattle.std.specs.Prelude.{OnOk}
use Rattle.std.specs.List.{flat_map, list_all, list_any}
use Rattle.std.proofs.lemmas.List.{append-nil}
use Rattle.ma_geom.specs.Coordinates.{place_cmp}
use Rattle.ma_cells.specs.Ascending.{has}
use Rattle.ma_cells.specs.Stars.{marks_at, star_of}
use Rattle.ma_cells.specs.Tetrahedron.{Tetrahedron}
use Rattle.size_marks.specs.Field.{is_short}
use Rattle.pass_rules.specs.Moves.{operations_from, quality_at}
use Rattle.legal_moves.specs.Around.{others_of}
use Rattle.legal_moves.proofs.ByVertex.{none_is_short}
use Rattle.legal_moves.proofs.Near.{all_have}
use Rattle.legal_moves.proofs.collapses.push_around.Goals as goal

pub returns-then-not-some_is_short : goal.returns-then-not-some_is_short
returns-then-not-some_is_short c =
    let a = c.args.a in
    let field = c.args.field.now in
    let ends : c.as_slice-3.result.now ≡ others_of (a ∷ []) (star_of (a ∷ []) c.args.mesh.now.tets)
    = c.as_slice-3.ensures.value ∙ c.in_ok-find_others.ensures ∙ ap (others_of (a ∷ [])) (c.as_slice-2.ensures.value ∙ c.in_ok-star.ensures ∙ ap (star_of (a ∷ [])) c.as_slice.ensures.items) in
    let off : c.some_is_short.result ≡ false = search rules in
    sym (append-nil c.args.ops.now.items)
    ∙ ap (λ ops. c.args.ops.now.items ++ ops) (sym (none_is_short field c.args.mesh.now a (others_of (a ∷ []) (star_of (a ∷ []) c.args.mesh.now.tets)) (ap (list_any (λ v. is_short field a v)) (sym ends) ∙ sym c.some_is_short.ensures ∙ off)))

pub find_facing-requires : goal.find_facing-requires
find_facing-requires c =
    ap (list_all (λ (tet : Tetrahedron). has place_cmp c.args.a tet.corners)) (c.as_slice-6.ensures.value ∙ c.in_ok-star.ensures) ∙ all_have c.args.a c.as_slice.result.now

pub returns : goal.returns
returns c =
    let a = c.args.a in
    let mesh = c.args.mesh.now in
    let star : c.as_slice-7.result.now ≡ star_of (a ∷ []) mesh.tets = c.as_slice-7.ensures.value ∙ c.in_ok-star.ensures ∙ ap (star_of (a ∷ [])) c.as_slice.ensures.items in
    let marks : c.as_slice-10.result.now ≡ marks_at (a ∷ []) mesh.marks = c.as_slice-10.ensures.value ∙ c.in_ok-marks_at.ensures ∙ ap (marks_at (a ∷ [])) c.as_slice-4.ensures.items in
    let others : c.as_slice-8.result.now ≡ others_of (a ∷ []) (star_of (a ∷ []) mesh.tets)
    = c.as_slice-8.ensures.value ∙ c.in_ok-find_others.ensures ∙ ap (others_of (a ∷ [])) (c.as_slice-2.ensures.value ∙ c.in_ok-star.ensures ∙ ap (star_of (a ∷ [])) c.as_slice.ensures.items) in
    subst (λ ops. OnOk c.push_legal.result (c.push_legal.new.ops.items ≡ c.args.ops.now.items ++ ops))
    (λ i. flat_map (λ v. operations_from (a ∷ []) v (quality_at c.args.field.now (star i) (marks i) (a ∷ []) v)) (others i)) c.push_legal.ensures
