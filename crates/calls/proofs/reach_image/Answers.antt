use Rattle.calls.proofs.Laws.{report_long}
use Rattle.calls.proofs.reach_image.Goals as goal

pub report-requires-clause-long : goal.report-requires-clause-long
report-requires-clause-long c = report_long _ _ _ _ _ c.args.image.now.formed _ c.in-Ok.ensures _ c.args.image.now.layout.counted
