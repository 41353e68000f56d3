use Rattle.std.proofs.Common.{◌≡◌, true, ℕ, ◌+◌, sym, ap, ◌∙◌, arith, get_or, below_more}
use Rattle.payload.specs.Quiet.{has_id, id_at}
use Rattle.payload.proofs.quiet.have_ids.Goals as goal

pub loop-i-preserved : goal.loop-i-preserved
loop-i-preserved c =
    let a = c.args in
    let inv = c.loop-i.invariant in
    let id_is = ap (λ (j : ℕ). has_id a.ids (get_or a.bytes.now (j + 9) 0)) (sym inv.to_is)
    ∙ sym c.has_id.ensures ∙ c.if-not-has_id.false in
    record {
      n = inv.n + 1;
      to_is = omega (arith, inv.to_is);
      within = omega (arith, inv.to_is, c.loop-i-test.true);
      each = below_more (λ (k : ℕ). has_id a.ids (id_at a.bytes.now a.at k) ≡ true) inv.n inv.each id_is;
    }
