use Rattle.std.proofs.Common.{◌≡◌, ◌∷◌, ◌++◌, List, length, take, drop, suc, sym, subst, ◌∙◌, arith}
use Rattle.std.specs.List.Sorted.{IsStrictlySortedBy}
use Rattle.std.proofs.lemmas.Bool.{eqb-true}
use Rattle.ma_cells.specs.Ascending.{put}
use Rattle.ma_cells.specs.Tetrahedron.{Tetrahedron, tet_cmp}
use Rattle.ma_cells.proofs.CellOrders.{tet_cmp_total}
use Rattle.cavity_swap.proofs.Growing.{longer_missed, put_found, put_missed}
use Rattle.cavity_swap.proofs.sets.put.Goals as goal

pub returns-in-Ok-clause-put : goal.returns-in-Ok-clause-put
returns-in-Ok-clause-put c = λ _.
    subst (λ (ys : List Tetrahedron). ys ≡ put tet_cmp c.args.tet.now ys) c.as_slice.ensures.value
    (sym (put_found tet_cmp_total c.args.tet.now c.as_slice.result.now _ (subst (IsStrictlySortedBy tet_cmp) (sym c.as_slice.ensures.value) c.requires) c.in-Ok.ensures.bound c.in-Ok.ensures.position))

pub returns-in-Err-clause-full : goal.returns-in-Err-clause-full
returns-in-Err-clause-full c = λ _.
    let grown : length (put tet_cmp c.args.tet.now c.args.cavity.now.items) ≡ suc (length c.args.cavity.now.items)
    = subst (λ (ys : List Tetrahedron). length (put tet_cmp c.args.tet.now ys) ≡ suc (length ys)) c.as_slice.ensures.value
    (longer_missed tet_cmp_total c.args.tet.now c.as_slice.result.now _ (subst (IsStrictlySortedBy tet_cmp) (sym c.as_slice.ensures.value) c.requires) c.in-Err.ensures.bound c.in-Err.ensures.position) in
    let full : length c.args.cavity.now.items ≡ 7 = eqb-true _ _ (sym c.is_full.ensures.value ∙ c.if-is_full.true) in
    omega (arith, grown, full)

pub returns-in-Err-2-clause-put : goal.returns-in-Err-2-clause-put
returns-in-Err-2-clause-put c = λ _.
    c.insert.ensures.items ∙ subst (λ (ys : List Tetrahedron). take c.in-Err.field-0 ys ++ c.args.tet.now ∷ drop c.in-Err.field-0 ys ≡ put tet_cmp c.args.tet.now ys) c.as_slice.ensures.value
    (sym (put_missed tet_cmp_total c.args.tet.now c.as_slice.result.now c.in-Err.field-0 (subst (IsStrictlySortedBy tet_cmp) (sym c.as_slice.ensures.value) c.requires) c.in-Err.ensures.bound c.in-Err.ensures.position))
