-- What was written stands behind what was written before; an interrupted write took nothing.
use Rattle.std.proofs.Common.{arith, []}
use Rattle.std.proofs.KnownBytes.{Appends-nil, Appends-kept}
use Rattle.piton_run.proofs.Reading.{wrote_more}
use Rattle.piton_run.proofs.write_full.Goals as goal
use Rattle.piton_run.proofs.write_full.Goals.{in-Ok, in-Err+else-ne}

pub loop-preserved : goal.loop-preserved
loop-preserved g c =
    elim c.match-write.branch [
      | in-Ok w ↦
          wrote_more c.args.buf.now _ _ _ c.loop.written w.in-Ok.n _ c.loop.invariant.0 w.written-is w.in-Ok.ensures.bound c.loop.invariant.1 w.in-Ok.ensures.bytes
      | in-Err+else-ne w ↦
          wrote_more c.args.buf.now _ _ _ c.loop.written 0 c.match-write.written c.loop.invariant.0 (omega arith) (omega arith) c.loop.invariant.1
          (Appends-kept _ _ _ [] (Appends-nil _) w.in-Err.ensures.bytes)
    ]
