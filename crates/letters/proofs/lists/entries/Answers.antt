use Rattle.std.proofs.Common.{◌≡◌, ap, sym, ◌∙◌, true, false}
use Rattle.std.specs.Prelude.{None}
use Rattle.std.proofs.lemmas.Result.{err_from_is_err_and}
use Rattle.letters.specs.Grammar.{comes_behind, entries_at, last_of}
use Rattle.letters.proofs.Looping.{behind_read, count_read, ends, goes_on, is_done, stops}
use Rattle.letters.proofs.lists.entries.Goals as goal

pub returns-in_err-item-clause-gives : goal.returns-in_err-item-clause-gives
returns-in_err-item-clause-gives g c =
    let p = err_from_is_err_and c.from_residual.result c.from_residual.ensures.1 in
    let before = g.T.Entry.before in
    let grammar = g.T.Entry.grammar in
    rw (p.1, p.2) (ends before grammar c.args.end c.in_err-item.field-0.0 c.loop.items.items c.args.count c.loop.counter c.loop.rest.now (entries_at before grammar c.args.end c.args.bytes.now None c.args.count) c.loop-test.true c.in_err-item.ensures c.loop.invariant)

pub returns-then-not-is_behind-clause-gives : goal.returns-then-not-is_behind-clause-gives
returns-then-not-is_behind-clause-gives g c =
    let before = g.T.Entry.before in
    let grammar = g.T.Entry.grammar in
    let item = c.in_ok-item.item in
    let behind : comes_behind before (last_of c.loop.items.items) item ≡ false =
    ap (λ xs. comes_behind before (last_of xs) item) (sym c.deref.ensures.value) ∙ sym c.is_behind.ensures ∙ c.if-not-is_behind.true in
    rw c.place_of.ensures (stops before grammar c.args.end c.loop.items.items c.args.count c.loop.counter c.loop.rest.now item c.in_ok-item.after.now (entries_at before grammar c.args.end c.args.bytes.now None c.args.count)
    c.loop-test.true c.in_ok-item.ensures behind c.loop.invariant)

pub loop-preserved : goal.loop-preserved
loop-preserved g c =
    let before = g.T.Entry.before in
    let grammar = g.T.Entry.grammar in
    let item = c.in_ok-item.item in
    let behind : comes_behind before (last_of c.loop.items.items) item ≡ true =
    ap (λ xs. comes_behind before (last_of xs) item) (sym c.deref.ensures.value) ∙ sym c.is_behind.ensures ∙ c.if-not-is_behind.false in
    rw c.in_ok-push.ensures.items (goes_on before grammar c.args.end c.loop.items.items c.args.count c.loop.counter c.loop.rest.now item c.in_ok-item.after.now (entries_at before grammar c.args.end c.args.bytes.now None c.args.count)
    c.loop-test.true c.in_ok-item.ensures behind c.loop.invariant)

pub returns-clause-behind : goal.returns-clause-behind
returns-clause-behind g c =
    let before = g.T.Entry.before in
    let grammar = g.T.Entry.grammar in
    let total = entries_at before grammar c.args.end c.args.bytes.now None c.args.count in
    behind_read before grammar c.args.end c.args.bytes.now None c.args.count (c.loop.items.items, c.loop.rest.now)
    (is_done before grammar c.args.end c.loop.items.items c.args.count c.loop.counter c.loop.rest.now total c.loop-test.false c.loop.invariant)

pub returns-clause-count : goal.returns-clause-count
returns-clause-count g c =
    let before = g.T.Entry.before in
    let grammar = g.T.Entry.grammar in
    let total = entries_at before grammar c.args.end c.args.bytes.now None c.args.count in
    count_read before grammar c.args.end c.args.bytes.now None c.args.count (c.loop.items.items, c.loop.rest.now)
    (is_done before grammar c.args.end c.loop.items.items c.args.count c.loop.counter c.loop.rest.now total c.loop-test.false c.loop.invariant)
