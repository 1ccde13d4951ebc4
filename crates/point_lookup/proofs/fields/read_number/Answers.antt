use Rattle.std.proofs.Common.{◌≡◌, false, true, sym, arith}
use Rattle.coverage_db.specs.Fields.{is_plain}
use Rattle.coverage_db.proofs.Numbers.{number_plain, number_some, number_large}
use Rattle.point_lookup.proofs.fields.read_number.Goals as goal

pub returns-then-not-is_plain : goal.returns-then-not-is_plain
returns-then-not-is_plain c =
    let other : is_plain c.args.word.now ≡ false = grind arith in
    sym (number_plain 0 4294967295 c.args.word.now other)

pub returns-in-Some : goal.returns-in-Some
returns-in-Some c =
    let plain : is_plain c.args.word.now ≡ true = grind arith in
    sym (number_some 0 4294967295 c.in-Some.number c.args.word.now plain c.in-Some.ensures.value (omega arith) c.in-Some.ensures.within)

pub returns-in-None : goal.returns-in-None
returns-in-None c =
    let plain : is_plain c.args.word.now ≡ true = grind arith in
    sym (number_large 0 4294967295 c.args.word.now plain c.in-None.ensures.none)
