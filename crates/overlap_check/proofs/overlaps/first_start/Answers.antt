use Rattle.std.proofs.Common.{◌<◌, List, [], length, subst}
use Rattle.std.proofs.lemmas.List.Elements.{All-same}
use Rattle.overlap_check.specs.declared.boxes.BoundingBox.{BoundingBox}
use Rattle.overlap_check.specs.declared.cubes.Touch.{Touch}
use Rattle.overlap_check.specs.steps.Cubes.{Adds, AreNotBefore, IsTouchBefore}
use Rattle.overlap_check.proofs.AtPlaces.{start_within}
use Rattle.overlap_check.proofs.Looking.{looked_all, touches_within}
use Rattle.overlap_check.proofs.overlaps.first_start.Goals as goal

pub least_start-requires-clause-touches : goal.least_start-requires-clause-touches
least_start-requires-clause-touches c =
    let k = c.for_boxes-cubes.result.shift in
    let touches = c.in_ok-touches.touches.items in
    All-same (λ (t : Touch). t.tet < length c.args.tets.now) _ _ c.deref-4.ensures.value
    (touches_within k (length c.args.tets.now) c.in_ok-boxes.boxes.items touches
    (subst (λ (l : List BoundingBox). Adds [] touches (IsTouchBefore k (length l) l)) c.deref-2.ensures.value c.in_ok-touches.ensures.touches) c.in_ok-boxes.ensures.count)

pub returns-clause-within : goal.returns-clause-within
returns-clause-within c = start_within _ _ c.least_start.ensures.start

pub returns-clause-least : goal.returns-clause-least
returns-clause-least c =
    let k = c.for_boxes-cubes.result.shift in
    let tets = c.args.tets.now in
    let boxes = c.in_ok-boxes.boxes.items in
    let touches = c.in_ok-touches.touches.items in
    let least = c.least_start.result in
    looked_all k tets boxes touches least c.in_ok-boxes.ensures
    (subst (λ (l : List BoundingBox). Adds [] touches (IsTouchBefore k (length l) l)) c.deref-2.ensures.value c.in_ok-touches.ensures.touches)
    c.in_ok-touches.ensures.order
    (subst (λ (l : List Touch). AreNotBefore k tets boxes l (length l) least) c.deref-4.ensures.value
    (subst (λ (l : List BoundingBox). AreNotBefore k tets l c.deref-4.result.now (length c.deref-4.result.now) least) c.deref-3.ensures.value c.least_start.ensures.least))
