use Rattle.std.proofs.Common.{◌≡◌, false, true, arith}
use Rattle.coverage_db.specs.Fields.{is_plain}
use Rattle.coverage_db.proofs.Numbers.{number_plain, number_some, number_small, number_large}
use Rattle.coverage_db.proofs.number.read_number.Goals as goal

pub returns-then-not-is_plain-clause-number : goal.returns-then-not-is_plain-clause-number
returns-then-not-is_plain-clause-number c =
    let other : is_plain c.args.word.now ≡ false = grind arith in
    number_plain c.args.least c.args.greatest c.args.word.now other

pub returns-in-Some-clause-number : goal.returns-in-Some-clause-number
returns-in-Some-clause-number c =
    let plain : is_plain c.args.word.now ≡ true = grind arith in
    number_some c.args.least c.args.greatest c.in-Some.number c.args.word.now plain (c.in-Some.ensures.value) (omega arith) (c.in-Some.ensures.within)

pub returns-in_default-clause-number : goal.returns-in_default-clause-number
returns-in_default-clause-number c =
    let plain : is_plain c.args.word.now ≡ true = grind arith in
    number_small c.args.least c.args.greatest c.in-Some.number c.args.word.now plain c.in-Some.ensures.value (omega arith)

pub returns-in_default-2-clause-number : goal.returns-in_default-2-clause-number
returns-in_default-2-clause-number c =
    let plain : is_plain c.args.word.now ≡ true = grind arith in
    number_large c.args.least c.args.greatest c.args.word.now plain c.in_default.ensures.none
