use Rattle.std.proofs.Common.{◌≡◌, ◌<◌, ◌++◌, length, take, length-append, length-take, arith, ap, ◌∙◌}
use Rattle.std.proofs.lemmas.List.{take-append-le}
use Rattle.ma_io.proofs.Known.{Consumes-append, Consumes-keeps, longer}
use Rattle.ma_io.proofs.streams.read_whole.Goals as goal
use Rattle.ma_io.proofs.streams.read_whole.Goals.{in-Ok-2+else-is_err, in-Err}

-- the piece that was read last passes the limit
pub returns-in-Ok-clause-told : goal.returns-in-Ok-clause-told
returns-in-Ok-clause-told g c =
    let taken = take c.in-Ok.taken c.read.new.buf in
    let more : c.args.most < length (c.loop.into.items ++ taken) =
    omega (arith, length-append c.loop.into.items taken, c.in-Ok.ensures.bound.1, c.loop.into.ok.0, c.if-taken-room.true, c.len.ensures) in
    longer _ _ _ c.args.most (Consumes-append _ _ _ _ _ c.loop.invariant.taken c.in-Ok.ensures.bytes.0) more

pub loop-preserved : goal.loop-preserved
loop-preserved g c =
    elim c.match-read.branch [
      | in-Ok-2+else-is_err w ↦
          let taken = take w.in-Ok.taken c.read.new.buf in
          let items : c.match-read.into.items ≡ c.loop.into.items ++ taken =
          ap (λ v. v.items) w.into-is ∙ rw w.if-is_err.ensures.negation at w.extend_from_slice.ensures.items ∙ ap (λ s. c.loop.into.items ++ s) (take-append-le _ _ _ w.in-Ok.ensures.bound.0) in
          record {
            fits = omega (arith, ap length items, length-append c.loop.into.items taken, length-take w.in-Ok.taken c.read.new.buf, c.loop.into.ok.0, c.match-read.into.ok.0, w.if-taken-room.false, c.len.ensures, c.loop.invariant.fits);
            taken = rw items (Consumes-append _ _ _ _ _ c.loop.invariant.taken w.in-Ok.ensures.bytes.0);
          }
      | in-Err w ↦
          record {
            fits = rw w.into-is c.loop.invariant.fits;
            taken = rw w.into-is (Consumes-keeps _ _ _ _ c.loop.invariant.taken w.in-Err.ensures.bytes);
          }
    ]
