-- Of a file without refusal 6 the header's numbers are in it, and the sum is that of all packets.
-- Assumes nothing.
use Rattle.std.proofs.Common.{ℕ, sym, ap, ◌∙◌, arith}
use Rattle.bench_file.specs.File.{words_before, first_refusal}
use Rattle.bench_file.proofs.Checking.{fitting, refused_6, refused_7, packets_checked}
use Rattle.bench_file.proofs.check.Goals as goal

pub returns-then-is_misfit : goal.returns-then-is_misfit
returns-then-is_misfit c = sym (refused_6 c.args.file.now (sym c.if-is_misfit.ensures))

pub get-packets-requires : goal.get-packets-requires
get-packets-requires c = let f = fitting c.args.file.now (sym c.if-is_misfit.ensures) in omega arith

pub sum_counts-requires-clause-packets_in_bounds : goal.sum_counts-requires-clause-packets_in_bounds
sum_counts-requires-clause-packets_in_bounds c =
    let f = fitting c.args.file.now (sym c.if-is_misfit.ensures) in
    let e = c.get-packets.ensures.value in
    omega arith

pub sum_counts-requires-clause-packets_bound : goal.sum_counts-requires-clause-packets_bound
sum_counts-requires-clause-packets_bound c =
    let f = fitting c.args.file.now (sym c.if-is_misfit.ensures) in
    let e = c.get-packets.ensures.value in
    omega arith

pub get-requires : goal.get-requires
get-requires c = let f = fitting c.args.file.now (sym c.if-is_misfit.ensures) in omega arith

pub returns-then-sum_counts-get : goal.returns-then-sum_counts-get
returns-then-sum_counts-get c =
    let file = c.args.file.now in
    let sums = c.sum_counts.ensures ∙ ap (words_before file) c.get-packets.ensures.value in
    sym
    (refused_7 file (sym c.if-is_misfit.ensures)
    (λ e. c.if-sum_counts-get.true (sums ∙ e ∙ sym c.get.ensures.value)))

pub check_packets-requires : goal.check_packets-requires
check_packets-requires c =
    let f = fitting c.args.file.now (sym c.if-is_misfit.ensures) in
    let e = c.get-packets.ensures.value in
    omega arith

pub returns : goal.returns
returns c =
    let file = c.args.file.now in
    let sums = c.sum_counts.ensures ∙ ap (words_before file) c.get-packets.ensures.value in
    c.check_packets.ensures
    ∙ ap (λ (n : ℕ). first_refusal file n 0) c.get-packets.ensures.value
    ∙ sym (packets_checked file (sym c.if-is_misfit.ensures)
    (sym sums ∙ c.if-sum_counts-get.false ∙ c.get.ensures.value))
