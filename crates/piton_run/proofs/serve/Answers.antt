use Rattle.std.proofs.Common.{rules}
use Rattle.std.proofs.lemmas.Result.{on_ok_weaker, on_err_weaker}
use Rattle.piton_run.proofs.Reading.{told_whole, answered, broken_off}
use Rattle.piton_run.proofs.serve.Goals as goal

pub returns-clause-ok : goal.returns-clause-ok
returns-clause-ok g c =
    let whole = told_whole _ _ c.in_ok-n.n c.read_full.new.buf _ (search rules) c.in_ok-n.ensures.within.0 c.in_ok-n.ensures.bytes
    c.in_ok-n.ensures.end c.tell-end.ensures.1 in
    on_ok_weaker c.write_full.result (answered _ _ _ _ whole) c.write_full.ensures.ok

pub returns-clause-err : goal.returns-clause-err
returns-clause-err g c =
    let whole = told_whole _ _ c.in_ok-n.n c.read_full.new.buf _ (search rules) c.in_ok-n.ensures.within.0 c.in_ok-n.ensures.bytes
    c.in_ok-n.ensures.end c.tell-end.ensures.1 in
    on_err_weaker c.write_full.result (broken_off _ _ _ _ whole) c.write_full.ensures.err
