-- What the steps print is the text of the two files, and each leaves fewer.
-- Assumes nothing.
use Rattle.std.proofs.Common.{subst}
use Rattle.std.proofs.lemmas.Result.{on_ok_weaker}
use Rattle.std.specs.Io.KnownBytes.{Appends}
use Rattle.ascii.specs.Steps.{Steps}
use Rattle.comparison.specs.Listing.{printer}
use Rattle.comparison.proofs.Keeping.{laws}
use Rattle.comparison.proofs.Printing.{prints_text}
use Rattle.comparison.proofs.print.Goals as goal

pub print-requires-clause-ends : goal.print-requires-clause-ends
print-requires-clause-ends g c = λ s good e. ((laws c.args.a.now c.args.b.now).moves s good).less e

pub returns : goal.returns
returns g c =
    let a = c.args.a.now in
    let b = c.args.b.now in
    on_ok_weaker c.print.result
    (λ all.
    let (n, (out, (steps, appended))) = all in
    subst (Appends _ _) (prints_text a b (subst (λ s. Steps (printer a b) s n out) c.start.ensures.0 steps)) appended)
    c.print.ensures
