use Rattle.std.proofs.Common.{refl, sym, ap, ◌∙◌, arith}
use lib.Count.{count_trailing_zeros}
use Rattle.digit_lanes.specs.Bytes.{is_digit, is_no_digit}
use Rattle.digit_lanes.proofs.RunLemmas.{not-not, run_bound, run_through, run_stops}
use Rattle.digit_lanes.proofs.runs.digit_run.Goals as goal

pub returns-then-found-ne0-clause-count : goal.returns-then-found-ne0-clause-count
returns-then-found-ne0-clause-count c =
    let found = c.no_digits-found in
    let run = run_stops is_no_digit is_digit (λ x. not-not (is_digit x)) c.args.bytes.now c.loop-count.count 16 (omega arith) (omega arith) (omega (arith, found.ensures)) ∙ ap (count_trailing_zeros 64) (sym found.ensures) in
    omega (arith, run, c.loop-count.invariant.0)

pub returns-then-found-ne0-clause-within : goal.returns-then-found-ne0-clause-within
returns-then-found-ne0-clause-within c =
    let found = c.no_digits-found in
    let run = run_stops is_no_digit is_digit (λ x. not-not (is_digit x)) c.args.bytes.now c.loop-count.count 16 (omega arith) (omega arith) (omega (arith, found.ensures)) ∙ ap (count_trailing_zeros 64) (sym found.ensures) in
    omega (arith, run, run_bound is_digit c.args.bytes.now c.loop-count.count c.loop-count.invariant.1)

pub loop-count-preserved : goal.loop-count-preserved
loop-count-preserved c =
    let run = run_through is_no_digit is_digit (λ x. not-not (is_digit x)) c.args.bytes.now c.loop-count.count 16 (omega arith) (omega (arith, c.no_digits-found.ensures)) in
    (omega (arith, run, c.loop-count.invariant.0), omega arith)
