-- The start by the file's refusal.
-- Assumes nothing.
use Rattle.report.proofs.Steps.{started}
use Rattle.report.proofs.Report.start.Goals as goal

pub returns : goal.returns
returns c = started c.args.file.now c.check-checked.ensures c.first_stage.ensures c.start.ensures.0
