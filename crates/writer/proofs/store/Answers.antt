-- `store`: ten bytes fill the slice.
-- Assumes nothing.
use Rattle.std.proofs.Common.{arith, ap, ap₂, ◌++◌, ◌∙◌, length}
use Rattle.writer.proofs.Writing.{filled_parts, ten}
use Rattle.writer.proofs.store.Goals as goal

pub returns : goal.returns
returns c =
    let w = c.args.word in
    let lo = c.copy_from_slice.ensures.after ∙ c.to_le_bytes.ensures in
    let hi = c.copy_from_slice-2.ensures.after ∙ c.to_le_bytes-2.ensures in
    filled_parts _ _ c.args.out.now (ap length lo) c.requires ∙ ap₂ ◌++◌ lo hi ∙ ten w (omega arith) (omega arith)
