use Rattle.std.proofs.Common.{◌≡◌, ◌++◌, ◌∙◌, take, drop, ap}
use Rattle.std.proofs.lemmas.List.{take_rest}
use Rattle.ma_io.proofs.Known.{Appends-append, Appends-keeps, Appends-front, send_more}
use Rattle.ma_io.proofs.streams.write_whole.Goals as goal
use Rattle.ma_io.proofs.streams.write_whole.Goals.{in-Ok, in-Err}

-- a write that took nothing
pub returns-in-Ok-eq0 : goal.returns-in-Ok-eq0
returns-in-Ok-eq0 g c =
    let sent = c.loop.invariant in
    let taken = rw c.in-Ok-eq0.is at c.write.ensures.bytes in
    Appends-front _ _ _ _ _ (send_more sent.0 _ _ _ sent.1) (Appends-append _ _ _ _ _ sent.2 taken)

pub returns-in-Err-2 : goal.returns-in-Err-2
returns-in-Err-2 g c =
    let sent = c.loop.invariant in
    Appends-front _ _ sent.0 _ _ sent.1 (Appends-keeps _ _ _ _ sent.2 c.in-Err.ensures.bytes)

pub loop-preserved : goal.loop-preserved
loop-preserved g c =
    let sent = c.loop.invariant in
    elim c.match-write.branch [
      | in-Ok w ↦
          let rest : c.match-write.rest.now ≡ drop w.in-Ok.taken c.loop.rest.now = ap (λ r. r.now) w.rest-is ∙ take_rest c.loop.rest.now w.in-Ok.taken in
          (sent.0 ++ take w.in-Ok.taken c.loop.rest.now, rw rest (send_more sent.0 _ _ _ sent.1), Appends-append _ _ _ _ _ sent.2 w.in-Ok.ensures.bytes)
      | in-Err w ↦
          (sent.0, rw w.rest-is sent.1, Appends-keeps _ _ _ _ sent.2 w.in-Err.ensures.bytes)
    ]

-- the turns ran out
pub returns : goal.returns
returns g c = Appends-front _ _ c.loop.invariant.0 _ _ c.loop.invariant.1 c.loop.invariant.2
