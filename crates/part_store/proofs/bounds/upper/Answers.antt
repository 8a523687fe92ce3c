use Rattle.std.proofs.Common.{◌≡◌, ◌∙◌}
use Rattle.std.specs.Int.{int_max}
use mir.Syntax.{w32}
use mir.Val.{to_z, of_z}
use Rattle.part_store.proofs.BoxedPlaces.{near_max, stored_max}
use Rattle.part_store.proofs.bounds.upper.Goals as goal

pub place_at-requires-clause-x_in : goal.place_at-requires-clause-x_in
place_at-requires-clause-x_in c = near_max c.x.result c.x-2.result c.max.result c.x.ensures.range c.x-2.ensures.range c.max.ensures.value

pub place_at-requires-clause-y_in : goal.place_at-requires-clause-y_in
place_at-requires-clause-y_in c = near_max c.y.result c.y-2.result c.max-2.result c.y.ensures.range c.y-2.ensures.range c.max-2.ensures.value

pub place_at-requires-clause-z_in : goal.place_at-requires-clause-z_in
place_at-requires-clause-z_in c = near_max c.z.result c.z-2.result c.max-3.result c.z.ensures.range c.z-2.ensures.range c.max-3.ensures.value

pub returns : goal.returns
returns c =
    let same_x : to_z w32 (of_z w32 c.max.result) ≡ int_max c.args.p.x c.args.q.x
    = stored_max c.args.p.x c.args.q.x c.x.result c.x-2.result c.max.result c.x.ensures.value c.x-2.ensures.value c.x.ensures.range c.x-2.ensures.range c.max.ensures.value in
    let same_y : to_z w32 (of_z w32 c.max-2.result) ≡ int_max c.args.p.y c.args.q.y
    = stored_max c.args.p.y c.args.q.y c.y.result c.y-2.result c.max-2.result c.y.ensures.value c.y-2.ensures.value c.y.ensures.range c.y-2.ensures.range c.max-2.ensures.value in
    let same_z : to_z w32 (of_z w32 c.max-3.result) ≡ int_max c.args.p.z c.args.q.z
    = stored_max c.args.p.z c.args.q.z c.z.result c.z-2.result c.max-3.result c.z.ensures.value c.z-2.ensures.value c.z.ensures.range c.z-2.ensures.range c.max-3.ensures.value in
    c.place_at.ensures ∙ (λ i. record { x = same_x i; y = same_y i; z = same_z i })
