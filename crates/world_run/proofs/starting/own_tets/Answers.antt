use Rattle.std.proofs.Common.{rules, ◌≡◌, ◌≤◌, ◌∙◌, true, false, cond, List, [], ◌∷◌, ◌++◌, get_or, length, ap, sym, arith}
use Rattle.std.specs.Prelude.{◌==◌}
use Rattle.std.proofs.lemmas.Bool.Decides.{nat_tests}
use Rattle.std.proofs.lemmas.List.{append-nil}
use Rattle.ma_cells.specs.Tetrahedron.{Tetrahedron}
use Rattle.world_run.proofs.Beginnings.{front, front_more, front_whole}
use Rattle.world_run.proofs.starting.own_tets.Goals as goal
use Rattle.world_run.proofs.starting.own_tets.Goals.{then-labels-place+in_ok-push, else-labels-place}

pub loop-place-preserved : goal.loop-place-preserved
loop-place-preserved c =
    let tets = c.args.tets.now in
    let labels = c.args.labels.now in
    let place = c.loop-place.place in
    let tet : Tetrahedron = c.index-tets-place.result in
    let before = front tets labels c.args.number place in
    let step = front_more tets labels c.args.number place tet c.requires c.loop-place-test.true c.index-tets-place.is in
    elim c.if-labels-place.branch [
      | then-labels-place+in_ok-push w ↦
          let test = w.if-labels-place.true in
          let same : (get_or labels place 0 == c.args.number) ≡ true = grind (arith, nat_tests) in
          let grown : c.if-labels-place.own.items ≡ c.loop-place.own.items ++ tet ∷ [] = search rules in
          grown ∙ ap (λ (own : List Tetrahedron). own ++ tet ∷ []) c.loop-place.invariant ∙ sym (step ∙ ap (λ b. before ++ cond b (tet ∷ []) []) same)
      | else-labels-place w ↦
          let test = w.if-labels-place.false in
          let other : (get_or labels place 0 == c.args.number) ≡ false = grind (arith, nat_tests) in
          let kept : c.if-labels-place.own.items ≡ c.loop-place.own.items = search rules in
          kept ∙ c.loop-place.invariant ∙ sym (step ∙ ap (λ b. before ++ cond b (tet ∷ []) []) other ∙ append-nil before)
    ]

pub returns : goal.returns
returns c =
    let end = c.loop-place-test.false in
    let past : length c.args.tets.now ≤ c.loop-place.place = omega (arith, end) in
    c.loop-place.invariant ∙ front_whole c.args.tets.now c.args.labels.now c.args.number c.loop-place.place c.requires past
