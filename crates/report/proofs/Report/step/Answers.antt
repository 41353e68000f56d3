-- The step by the stage, in room enough.
-- Assumes nothing.
use Rattle.std.proofs.Common.{arith}
use Rattle.ascii.proofs.Steps.{stepped}
use Rattle.report.proofs.Keeping.{laws}
use Rattle.report.proofs.Report.step.Goals as goal

pub returns : goal.returns
returns c = stepped (laws _) c.requires (omega arith) c.stage_step.ensures
