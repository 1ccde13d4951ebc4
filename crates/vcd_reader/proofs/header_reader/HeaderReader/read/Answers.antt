use Rattle.std.proofs.Common.{ℕ, not, List, ◌++◌, take, subst, sym, ap, ◌∙◌, arith}
use Rattle.std.proofs.lemmas.Bool.{false≢true}
use Rattle.std.proofs.lemmas.Result.{err_from_is_err_and}
use Rattle.vcd_reader.specs.Standing.{HeaderStands}
use Rattle.vcd_reader.proofs.HeaderStanding.{one_more, fault_in_piece}
use Rattle.vcd_reader.proofs.header_reader.HeaderReader.read.Goals as goal

pub returns-in_err-read_byte-clause-fault : goal.returns-in_err-read_byte-clause-fault
returns-in_err-read_byte-clause-fault c =
    let fault = err_from_is_err_and c.from_residual.result c.from_residual.ensures.1 in
    rw (fault.1, fault.2) (λ text stands. fault_in_piece text c.args.piece.now c.loop-place.place _ _ c.loop-place-test.true (c.in_err-read_byte.ensures.fault (text ++ take c.loop-place.place c.args.piece.now) (c.loop-place.invariant.stands text stands)))

pub returns-then-branch-clause-ok : goal.returns-then-branch-clause-ok
returns-then-branch-clause-ok c = λ text stands. record {
  within = omega arith;
  done = c.in_ok-read_byte.ensures.progress ∙ ap not c.if-branch.true;
  ends = λ at_end. absurd (false≢true (sym c.in_ok-read_byte.ensures.open ∙ at_end));
  stands = subst (λ (t : List ℕ). HeaderStands c.read_byte.new.self t) (one_more text c.args.piece.now c.loop-place.place _ c.loop-place-test.true) (c.in_ok-read_byte.ensures.ok (text ++ take c.loop-place.place c.args.piece.now) (c.loop-place.invariant.stands text stands));
}

pub loop-place-preserved : goal.loop-place-preserved
loop-place-preserved c = record {
  going = c.in_ok-read_byte.ensures.progress ∙ ap not c.if-branch.false;
  stands = λ text stands. subst (λ (t : List ℕ). HeaderStands c.read_byte.new.self t) (one_more text c.args.piece.now c.loop-place.place _ c.loop-place-test.true) (c.in_ok-read_byte.ensures.ok (text ++ take c.loop-place.place c.args.piece.now) (c.loop-place.invariant.stands text stands));
}
