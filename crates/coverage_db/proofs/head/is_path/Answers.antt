use Rattle.std.proofs.Common.{◌≡◌, ◌∙◌, true, false, sym, arith}
use Rattle.cov_host.specs.Identifier.{is_identifier}
use Rattle.coverage_db.proofs.Splitting.{split_shorter, all_first, all_only, all_fails}
use Rattle.coverage_db.proofs.head.is_path.Goals as goal

pub returns-then-not-is_identifier : goal.returns-then-not-is_identifier
returns-then-not-is_identifier c =
    let other : is_identifier c.in-Some.part.now ≡ false = grind arith in
    sym (all_fails is_identifier 46 c.loop-part.rest.now c.in-Some.part.now c.in-Some.after.now (sym (rw c.in-Some.is at c.split_first.ensures)) other) ∙ c.loop-part.invariant

pub loop-part-smaller : goal.loop-part-smaller
loop-part-smaller c = split_shorter 46 c.loop-part.rest.now c.in-Some.part.now c.in-Some.after.now (sym (rw c.in-Some.is at c.split_first.ensures))

pub loop-part-preserved : goal.loop-part-preserved
loop-part-preserved c =
    let named : is_identifier c.in-Some.part.now ≡ true = grind arith in
    sym (all_first is_identifier 46 c.loop-part.rest.now c.in-Some.part.now c.in-Some.after.now (sym (rw c.in-Some.is at c.split_first.ensures)) named) ∙ c.loop-part.invariant

pub returns : goal.returns
returns c = c.is_identifier-2.ensures ∙ sym (all_only is_identifier 46 c.loop-part.rest.now (sym (rw c.in_default.is at c.split_first.ensures))) ∙ c.loop-part.invariant
