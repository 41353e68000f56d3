-- Where a step is made there is room for it: what was gathered leaves room, or was written.
-- Assumes nothing.
use Rattle.std.proofs.Common.{◌+◌, ◌≤◌, [], arith, rules, sym}
use Rattle.std.specs.Io.KnownBytes.{Appends}
use Rattle.std.proofs.KnownBytes.{Appends-nil, Appends-trans}
use Rattle.std.proofs.lemmas.Result.{on_ok_weaker}
use Rattle.ascii.specs.Steps.{gathered}
use Rattle.ascii.proofs.Gathering.{Gathered, written_out, gathered_on, all_gathered}
use Rattle.ascii.proofs.printing.print.Goals as goal
use Rattle.ascii.proofs.printing.print.Goals.{then-used-most+in_ok-write_all, else-used-most}

pub loop-state-init : goal.loop-state-init
loop-state-init g c =
    record {
      good = c.requires.good;
      same = search rules;
      fits = omega arith;
      written = [];
      appends = Appends-nil (g.W.Write.contents c.args.to.now);
      goes_on = λ {n} more. (n, more);
    }

pub loop-state-preserved : goal.loop-state-preserved
loop-state-preserved g c =
    let it = g.T.ByStep.printer c.args.it.now in
    let before = c.loop-state.invariant in
    let bound = g.met.T.ByStep.most_in_bounds c.args.it.now in
    let (here, roomy) : Gathered it c.args.from (Appends (g.W.Write.contents c.args.to.now) (g.W.Write.contents c.if-used-most.to))
    c.loop-state.state c.loop-state.gathered c.if-used-most.used × (c.if-used-most.used + it.most ≤ gathered) =
    elim c.if-used-most.branch [
      | then-used-most+in_ok-write_all w ↦ (
        rw (w.to-is, w.used-is) (written_out before (λ xs h. Appends-trans _ _ _ xs _ h w.in_ok-write_all.ensures.bytes)),
        omega (arith, w.used-is),
      )
      | else-used-most w ↦
          (rw (w.to-is, w.used-is) before, omega (arith, w.used-is, w.if-used-most.false, before.fits, c.most.ensures))
    ] in
    gathered_on here roomy (sym c.loop-state-test.ensures) c.step-filled.ensures (search rules)

pub returns : goal.returns
returns g c =
    let (m, steps) = all_gathered c.loop-state.invariant (sym c.loop-state-test.ensures) in
    on_ok_weaker c.write_all-2.result
    (λ last. (m, (_, (steps, Appends-trans _ _ _ _ _ c.loop-state.invariant.appends last))))
    c.write_all-2.ensures.bytes
