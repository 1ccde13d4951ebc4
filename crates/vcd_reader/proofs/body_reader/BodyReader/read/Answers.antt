use Rattle.std.proofs.Common.{◌≤◌, ℕ, List, None, ◌++◌, take, length, ◌+◌, subst, arith, length-drop}
use Rattle.std.proofs.lemmas.Result.{err_from_is_err_and}
use Rattle.std.proofs.lemmas.List.{take_all}
use Rattle.vcd_reader.specs.Reading.{Body}
use Rattle.vcd_reader.specs.Hearing.{said_by}
use Rattle.vcd_reader.specs.Wanted.{saying_more}
use Rattle.vcd_reader.specs.Passing.{Passing}
use Rattle.vcd_reader.specs.BodyStanding.{BodyStands, SaysNext}
use Rattle.vcd_reader.proofs.BodyStanding.{passing_fault, says_then}
use Rattle.vcd_reader.proofs.WholeWords.{further, fault_in_rest}
use Rattle.vcd_reader.proofs.body_reader.BodyReader.read.Goals as goal
use Rattle.vcd_reader.proofs.body_reader.BodyReader.read.Goals.{In_ok-front}

-- what the front of the rest says comes after the bytes that were used
said : (c : In_ok-front) (text : List ℕ) (b : Body) → BodyStands c.args.self.now text b
    → Passing c.args.filter b (SaysNext (said_by c.in_ok-front.front.says c.read_front.new.self.reading) c.read_front.new.self (text ++ take (c.loop-used.used + c.in_ok-front.front.used) c.args.piece.now))
said c text b s =
    let first = c.loop-used.invariant.says text b s in
    let front = rw c.split_at.ensures.back at c.in_ok-front.ensures.ok in
    let used = c.loop-used.used in
    let more = c.in_ok-front.front.used in
    let says = said_by c.in_ok-front.front.says c.read_front.new.self.reading in
    says_then c.args.filter says c.loop-used.self c.read_front.new.self (text ++ take used c.args.piece.now) (text ++ take (used + more) c.args.piece.now) b first
    (subst (λ (t : List ℕ). Passing c.args.filter first.then.next (SaysNext says c.read_front.new.self t)) (further text c.args.piece.now used more) (front (text ++ take used c.args.piece.now) first.then.next first.then.stands))

-- no more bytes are used than there are
within : (c : In_ok-front) → c.loop-used.used + c.in_ok-front.front.used ≤ length c.args.piece.now
within c = let few = rw c.split_at.ensures.back at c.in_ok-front.ensures.within in omega (arith, few, length-drop c.loop-used.used c.args.piece.now, c.loop-used-test.true)

pub returns-in_err-front-clause-fault : goal.returns-in_err-front-clause-fault
returns-in_err-front-clause-fault c =
    let fault = err_from_is_err_and c.from_residual.result c.from_residual.ensures.1 in
    let refused = rw c.split_at.ensures.back at c.in_err-front.ensures.fault in
    rw (fault.1, fault.2) (λ text b s.
    let first = c.loop-used.invariant.says text b s in
    passing_fault c.args.filter c.loop-used.self (text ++ take c.loop-used.used c.args.piece.now) (text ++ c.args.piece.now) b _ first
    (fault_in_rest text c.args.piece.now c.loop-used.used first.then.next _ (refused (text ++ take c.loop-used.used c.args.piece.now) first.then.next first.then.stands)))

pub returns-in-Time-clause-ok : goal.returns-in-Time-clause-ok
returns-in-Time-clause-ok c = λ text b s.
    let at = (goal.at.returns-in-Time-clause-ok c).In_ok-front in
    let p = said at text b s in
    record {
      passed = p.passed;
      unheard = p.unheard;
      then = record {
        at_least = omega (arith, c.in_ok-front.ensures.some);
        at_most = within at;
        next = subst (λ says. SaysNext (said_by says c.read_front.new.self.reading) c.read_front.new.self (text ++ take (c.loop-used.used + c.in_ok-front.front.used) c.args.piece.now) (saying_more b p.passed)) c.in-Time.is p.then;
      };
    }

pub returns-in-Change-clause-ok : goal.returns-in-Change-clause-ok
returns-in-Change-clause-ok c = λ text b s.
    let at = (goal.at.returns-in-Change-clause-ok c).In_ok-front in
    let p = said at text b s in
    record {
      passed = p.passed;
      unheard = p.unheard;
      then = record {
        at_least = omega (arith, c.in_ok-front.ensures.some);
        at_most = within at;
        next = subst (λ says. SaysNext (said_by says c.read_front.new.self.reading) c.read_front.new.self (text ++ take (c.loop-used.used + c.in_ok-front.front.used) c.args.piece.now) (saying_more b p.passed)) c.in-Change.is p.then;
      };
    }

pub returns-in-Off-clause-ok : goal.returns-in-Off-clause-ok
returns-in-Off-clause-ok c = λ text b s.
    let at = (goal.at.returns-in-Off-clause-ok c).In_ok-front in
    let p = said at text b s in
    record {
      passed = p.passed;
      unheard = p.unheard;
      then = record {
        at_least = omega (arith, c.in_ok-front.ensures.some);
        at_most = within at;
        next = subst (λ says. SaysNext (said_by says c.read_front.new.self.reading) c.read_front.new.self (text ++ take (c.loop-used.used + c.in_ok-front.front.used) c.args.piece.now) (saying_more b p.passed)) c.in-Off.is p.then;
      };
    }

pub returns-in-On-clause-ok : goal.returns-in-On-clause-ok
returns-in-On-clause-ok c = λ text b s.
    let at = (goal.at.returns-in-On-clause-ok c).In_ok-front in
    let p = said at text b s in
    record {
      passed = p.passed;
      unheard = p.unheard;
      then = record {
        at_least = omega (arith, c.in_ok-front.ensures.some);
        at_most = within at;
        next = subst (λ says. SaysNext (said_by says c.read_front.new.self.reading) c.read_front.new.self (text ++ take (c.loop-used.used + c.in_ok-front.front.used) c.args.piece.now) (saying_more b p.passed)) c.in-On.is p.then;
      };
    }

pub loop-used-preserved : goal.loop-used-preserved
loop-used-preserved c =
    let at = (goal.at.loop-used-preserved c).In_ok-front in
    record {
      within = within at;
      says = λ text b s. subst (λ says. Passing c.args.filter b (SaysNext (said_by says c.read_front.new.self.reading) c.read_front.new.self (text ++ take (c.loop-used.used + c.in_ok-front.front.used) c.args.piece.now))) c.in-Nothing.is (said at text b s);
    }

pub returns-clause-ok : goal.returns-clause-ok
returns-clause-ok c = λ text b s.
    let p = c.loop-used.invariant.says text b s in
    record {
      passed = p.passed;
      unheard = p.unheard;
      then = record {
        all = omega (arith, c.loop-used.invariant.within, c.loop-used-test.false);
        next = subst (λ (t : List ℕ). SaysNext None c.loop-used.self (text ++ t) (saying_more b p.passed)) (take_all c.loop-used.used c.args.piece.now c.loop-used-test.false) p.then;
      };
    }
