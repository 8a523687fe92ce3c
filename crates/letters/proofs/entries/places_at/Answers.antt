use Rattle.std.proofs.Common.{◌≡◌, ap, sym, ◌∙◌, true, false, arith}
use Rattle.std.specs.Prelude.{None}
use Rattle.ma_geom.specs.Coordinates.{place_cmp}
use Rattle.letters.specs.Fields.{place, place_before}
use Rattle.letters.specs.Grammar.{comes_behind, entries_at, last_of}
use Rattle.letters.proofs.Looping.{behind_read, ends, goes_on, is_done, stops}
use Rattle.letters.proofs.Orders.{behind_is}
use Rattle.letters.proofs.entries.places_at.Goals as goal

pub returns-in-Err-clause-gives : goal.returns-in-Err-clause-gives
returns-in-Err-clause-gives c =
    ends place_before place c.args.end c.in-Err.fault c.loop.places.items c.args.count c.loop.counter c.loop.rest.now (entries_at place_before place c.args.end c.args.bytes.now None c.args.count)
    c.loop-test.true c.in-Err.ensures c.loop.invariant.rest

pub returns-then-not-is_behind-clause-gives : goal.returns-then-not-is_behind-clause-gives
returns-then-not-is_behind-clause-gives c =
    let p = c.in-Ok.read.0 in
    let behind : comes_behind place_before (last_of c.loop.places.items) p ≡ false =
    ap (λ ps. comes_behind place_before (last_of ps) p) (sym c.deref.ensures.0) ∙ sym c.is_behind.ensures ∙ c.if-not-is_behind.true in
    rw c.place_of.ensures (stops place_before place c.args.end c.loop.places.items c.args.count c.loop.counter c.loop.rest.now p c.in-Ok.read.1.now (entries_at place_before place c.args.end c.args.bytes.now None c.args.count)
    c.loop-test.true c.in-Ok.ensures behind c.loop.invariant.rest)

pub loop-preserved : goal.loop-preserved
loop-preserved c =
    let p = c.in-Ok.read.0 in
    let behind : comes_behind place_before (last_of c.loop.places.items) p ≡ true =
    ap (λ ps. comes_behind place_before (last_of ps) p) (sym c.deref.ensures.0) ∙ sym c.is_behind.ensures ∙ c.if-not-is_behind.false in
    record {
      rest = rw c.push.ensures.items (goes_on place_before place c.args.end c.loop.places.items c.args.count c.loop.counter c.loop.rest.now p c.in-Ok.read.1.now (entries_at place_before place c.args.end c.args.bytes.now None c.args.count)
          c.loop-test.true c.in-Ok.ensures behind c.loop.invariant.rest);
      count = omega (arith, c.push.ensures.len, c.loop.invariant.count);
    }

pub returns-clause-rises : goal.returns-clause-rises
returns-clause-rises c =
    sym (behind_is place_cmp c.loop.places.items)
    ∙ behind_read place_before place c.args.end c.args.bytes.now None c.args.count (c.loop.places.items, c.loop.rest.now) (is_done place_before place c.args.end c.loop.places.items c.args.count c.loop.counter c.loop.rest.now (entries_at place_before place c.args.end c.args.bytes.now None c.args.count) c.loop-test.false c.loop.invariant.rest)
