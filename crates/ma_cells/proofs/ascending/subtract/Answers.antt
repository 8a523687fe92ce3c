use Rattle.std.proofs.Common.{◌<◌, ◌⊎◌, inl, inr, length, sym, ap, ◌++◌, ◌∙◌}
use Rattle.std.proofs.lemmas.Map.Keys.{sorted_tail}
use Rattle.ma_cells.proofs.SetOperations.{difference-end, difference-higher, difference-lower, difference-tied, head_and_tail, head_moved}
use Rattle.ma_cells.proofs.ascending.subtract.Goals as goal
use Rattle.ma_cells.proofs.ascending.subtract.Goals.{in_default, in-len1-up+in_default-second}

pub loop-first-preserved-in-Less : goal.loop-first-preserved-in-Less
loop-first-preserved-in-Less g c =
    let kept = c.loop-first.invariant in
    let first = head_and_tail c.loop-first.first.now c.x-item.result c.in-len1-up.len_at_least c.x-item.is in
    let second = head_and_tail c.loop-first.second.now c.y-item.result c.in-len1-up-second.len_at_least c.y-item.is in
    record {
      first = sorted_tail g.T.Ord.cmp c.x-item.result _ (rw first at kept.first);
      second = kept.second;
      rest = head_moved c.loop-first.rest.items c.x-item.result c.in_ok-push-in-Less.ensures.items
          (difference-lower g.met.T.Ord.total c.x-item.result c.y-item.result _ _ first second kept.first kept.second c.in-Less.ensures) kept.rest;
    }

pub loop-first-preserved-in-Equal : goal.loop-first-preserved-in-Equal
loop-first-preserved-in-Equal g c =
    let kept = c.loop-first.invariant in
    let first = head_and_tail c.loop-first.first.now c.x-item.result c.in-len1-up.len_at_least c.x-item.is in
    let second = head_and_tail c.loop-first.second.now c.y-item.result c.in-len1-up-second.len_at_least c.y-item.is in
    record {
      first = sorted_tail g.T.Ord.cmp c.x-item.result _ (rw first at kept.first);
      second = kept.second;
      rest = ap (λ items. c.loop-first.rest.items ++ items) (sym (difference-tied g.met.T.Ord.total c.x-item.result c.y-item.result _ _ first second kept.first kept.second c.in-Equal.ensures)) ∙ kept.rest;
    }

pub loop-first-preserved : goal.loop-first-preserved
loop-first-preserved g c =
    let kept = c.loop-first.invariant in
    let first = head_and_tail c.loop-first.first.now c.x-item.result c.in-len1-up.len_at_least c.x-item.is in
    let second = head_and_tail c.loop-first.second.now c.y-item.result c.in-len1-up-second.len_at_least c.y-item.is in
    record {
      first = kept.first;
      second = sorted_tail g.T.Ord.cmp c.y-item.result _ (rw second at kept.second);
      rest = ap (λ items. c.loop-first.rest.items ++ items) (sym (difference-higher g.met.T.Ord.total c.x-item.result c.y-item.result _ _ first second kept.first kept.second c.in-Greater.ensures)) ∙ kept.rest;
    }

pub returns : goal.returns
returns g c =
    let kept = c.loop-first.invariant in
    let ended : (length c.loop-first.first.now < 1) ⊎ (length c.loop-first.second.now < 1) =
    elim c.if-first-lt1.branch [ in_default w ↦ inl w.in_default.len_below | in-len1-up+in_default-second w ↦ inr w.in_default-second.len_below ] in
    c.in_ok-extend_from_slice.ensures.items
    ∙ ap (λ items. c.loop-first.rest.items ++ items) (sym (difference-end g.T.Ord.cmp c.loop-first.first.now c.loop-first.second.now ended))
    ∙ kept.rest
