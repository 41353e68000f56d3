-- `packing::data`.
-- Assumes nothing.
use Rattle.std.proofs.Common.{arith, sym, ◌∙◌, true≢false}
use borrow.Author.Tests.{lt-ltb, le-ltb}
use Rattle.words.proofs.Tests.{both}
use Rattle.writer.specs.declared.Fields.TheVariants as F
use Rattle.writer.specs.Layout.{put}
use Rattle.writer.proofs.Writing.{is_fitted, not_fitted, data_fit}
use Rattle.writer.proofs.packing.data.Goals as goal
use Rattle.writer.proofs.packing.data.Goals.{else-high-lt256-via-then-high-lt256+else-is_data_id, else-high-lt256-via-else-high-lt256}

pub returns-then-is_data_id : goal.returns-then-is_data_id
unfolding put
returns-then-is_data_id c =
    let a = c.args in
    is_fitted (F.Data a.id a.low a.high) _
    (data_fit a.id a.low a.high (omega arith) ∙ simp (lt-ltb _ _ c.if-high-lt256.true) (sym c.is_data_id.ensures ∙ c.if-is_data_id.true))
    (omega arith)
    (omega arith)
    (omega arith)

pub returns-else-high-lt256 : goal.returns-else-high-lt256
returns-else-high-lt256 c =
    let a = c.args in
    not_fitted (F.Data a.id a.low a.high)
    (λ e. let (h, i) = both _ _ (sym (data_fit a.id a.low a.high (omega arith)) ∙ e) in
    elim c.else-high-lt256.branch [
      | else-high-lt256-via-then-high-lt256+else-is_data_id w ↦ true≢false (sym i ∙ sym w.is_data_id.ensures ∙ w.if-is_data_id.false)
      | else-high-lt256-via-else-high-lt256 w ↦ true≢false (sym h ∙ le-ltb _ _ w.if-high-lt256.false)
    ])
