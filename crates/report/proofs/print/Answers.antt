-- What the steps print is the text of the file, and each leaves fewer.
-- Assumes nothing.
use Rattle.std.proofs.Common.{subst}
use Rattle.std.proofs.lemmas.Result.{on_ok_weaker}
use Rattle.std.specs.Io.KnownBytes.{Appends}
use Rattle.ascii.specs.Steps.{Steps}
use Rattle.report.specs.Report.{printer}
use Rattle.report.proofs.Keeping.{laws}
use Rattle.report.proofs.Printing.{prints_text}
use Rattle.report.proofs.print.Goals as goal

pub print-requires-clause-ends : goal.print-requires-clause-ends
print-requires-clause-ends g c = λ s good e. ((laws c.args.file.now).moves s good).less e

pub returns : goal.returns
returns g c =
    let file = c.args.file.now in
    on_ok_weaker c.print.result
    (λ all.
    let (n, (out, (steps, appended))) = all in
    subst (Appends _ _) (prints_text file (subst (λ s. Steps (printer file) s n out) c.start.ensures.0 steps)) appended)
    c.print.ensures
