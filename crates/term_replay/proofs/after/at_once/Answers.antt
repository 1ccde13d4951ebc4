use Rattle.std.proofs.Common.{◌≡◌, ◌^◌, ◌<◌, Some, arith, subst, sym}
use Rattle.std.specs.Prelude.{IfSome}
use Rattle.term_replay.specs.Numbers.{IsTested}
use Rattle.term_replay.specs.Plain.{head_in}
use Rattle.term_replay.proofs.Combined.{combined_at_once, tested_at_once}
use Rattle.term_replay.proofs.Standing.{same_flag}
use Rattle.term_replay.proofs.after.at_once.Goals as goal

pub returns-in-Some : goal.returns-in-Some
returns-in-Some c =
    let same : c.args.left.now.width ≡ c.args.right.now.width = omega arith in
    tested_at_once c.args.op (head_in c.args.term.now) (head_in c.args.left.now) (head_in c.args.right.now) c.args.one c.args.two same (Some c.in-Some.answer) (omega arith) c.if-not-term.true c.requires.one.narrow c.requires.one.inside (subst (λ w. c.args.two < 2 ^ w) (sym same) c.requires.two.inside) (subst (λ o. IfSome o (IsTested c.args.op c.args.left.now.signed c.args.one c.args.two)) c.in-Some.is c.tested.ensures)

pub returns-then-left-term-2 : goal.returns-then-left-term-2
returns-then-left-term-2 c =
    let same : c.args.left.now.width ≡ c.args.right.now.width = omega arith in
    combined_at_once c.args.op (head_in c.args.term.now) (head_in c.args.left.now) (head_in c.args.right.now) c.args.one c.args.two same c.combined.result (omega arith) (same_flag c.args.left.now.signed c.args.term.now.signed c.if-left-term-2.true) c.requires.one.narrow c.combined.ensures
