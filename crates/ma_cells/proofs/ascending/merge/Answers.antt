use Rattle.std.proofs.Common.{◌<◌, ◌⊎◌, inl, inr, length, sym, ap, ◌++◌, ◌∙◌}
use Rattle.std.proofs.lemmas.List.{append_assoc}
use Rattle.std.proofs.lemmas.Map.Keys.{sorted_tail}
use Rattle.ma_cells.proofs.SetOperations.{head_and_tail, head_moved, union-end, union-higher, union-lower, union-tied}
use Rattle.ma_cells.proofs.ascending.merge.Goals as goal
use Rattle.ma_cells.proofs.ascending.merge.Goals.{in_default, in-len1-up+in_default-second}

pub loop-first-preserved-in-Less : goal.loop-first-preserved-in-Less
loop-first-preserved-in-Less g c =
    let kept = c.loop-first.invariant in
    let first = head_and_tail c.loop-first.first.now c.x-item.result c.in-len1-up.len_at_least c.x-item.is in
    let second = head_and_tail c.loop-first.second.now c.y-item.result c.in-len1-up-second.len_at_least c.y-item.is in
    record {
      first = sorted_tail g.T.Ord.cmp c.x-item.result _ (rw first at kept.first);
      second = kept.second;
      both = head_moved c.loop-first.both.items c.x-item.result c.in_ok-push-in-Less.ensures.items
          (union-lower g.met.T.Ord.total c.x-item.result c.y-item.result _ _ first second kept.first kept.second c.in-Less.ensures) kept.both;
    }

pub loop-first-preserved-in-Equal : goal.loop-first-preserved-in-Equal
loop-first-preserved-in-Equal g c =
    let kept = c.loop-first.invariant in
    let first = head_and_tail c.loop-first.first.now c.x-item.result c.in-len1-up.len_at_least c.x-item.is in
    let second = head_and_tail c.loop-first.second.now c.y-item.result c.in-len1-up-second.len_at_least c.y-item.is in
    record {
      first = sorted_tail g.T.Ord.cmp c.x-item.result _ (rw first at kept.first);
      second = sorted_tail g.T.Ord.cmp c.y-item.result _ (rw second at kept.second);
      both = head_moved c.loop-first.both.items c.y-item.result c.in_ok-push-in-Equal.ensures.items
          (union-tied g.met.T.Ord.total c.x-item.result c.y-item.result _ _ first second kept.first kept.second c.in-Equal.ensures) kept.both;
    }

pub loop-first-preserved : goal.loop-first-preserved
loop-first-preserved g c =
    let kept = c.loop-first.invariant in
    let first = head_and_tail c.loop-first.first.now c.x-item.result c.in-len1-up.len_at_least c.x-item.is in
    let second = head_and_tail c.loop-first.second.now c.y-item.result c.in-len1-up-second.len_at_least c.y-item.is in
    record {
      first = kept.first;
      second = sorted_tail g.T.Ord.cmp c.y-item.result _ (rw second at kept.second);
      both = head_moved c.loop-first.both.items c.y-item.result c.in_ok-push-in-Greater.ensures.items
          (union-higher g.met.T.Ord.total c.x-item.result c.y-item.result _ _ first second kept.first kept.second c.in-Greater.ensures) kept.both;
    }

pub returns : goal.returns
returns g c =
    let kept = c.loop-first.invariant in
    let ended : (length c.loop-first.first.now < 1) ⊎ (length c.loop-first.second.now < 1) =
    elim c.if-first-lt1.branch [ in_default w ↦ inl w.in_default.len_below | in-len1-up+in_default-second w ↦ inr w.in_default-second.len_below ] in
    c.in_ok-extend_from_slice-2.ensures.items
    ∙ ap (λ items. items ++ c.loop-first.second.now) c.in_ok-extend_from_slice.ensures.items
    ∙ append_assoc c.loop-first.both.items c.loop-first.first.now c.loop-first.second.now
    ∙ ap (λ items. c.loop-first.both.items ++ items) (sym (union-end g.met.T.Ord.total c.loop-first.first.now c.loop-first.second.now kept.first kept.second ended))
    ∙ kept.both
