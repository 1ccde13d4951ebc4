use Rattle.std.proofs.Common.{subst}
use Rattle.std.specs.Prelude.{IfSome}
use Rattle.known_state.specs.Partly.{whole_of}
use Rattle.term_replay.specs.Numbers.{IsAtOnce}
use Rattle.term_replay.specs.Plain.{head_in, number_at}
use Rattle.term_replay.proofs.Numbers.{sure_binary}
use Rattle.term_replay.proofs.after.after_numbers.Goals as goal

pub returns-in-Some-clause-value : goal.returns-in-Some-clause-value
returns-in-Some-clause-value c = λ v first x y sa sc.
    let once = subst (λ o. IfSome o (IsAtOnce c.args.op (head_in c.args.left.now) (head_in c.args.right.now) (head_in c.args.term.now) c.args.one c.args.two)) c.in-Some.is c.at_once.ensures in
    sure_binary v first (head_in c.args.term.now) c.args.op x y (number_at (head_in c.args.left.now) c.args.one) (number_at (head_in c.args.right.now) c.args.two) (whole_of (number_at (head_in c.args.term.now) c.in-Some.number)) sa sc once.fits

pub returns-in-Some-clause-small : goal.returns-in-Some-clause-small
returns-in-Some-clause-small c =
    let once = subst (λ o. IfSome o (IsAtOnce c.args.op (head_in c.args.left.now) (head_in c.args.right.now) (head_in c.args.term.now) c.args.one c.args.two)) c.in-Some.is c.at_once.ensures in
    once.small
