use Rattle.std.proofs.Common.{refl, subst, sym}
use Rattle.term_replay.specs.Numbers.{IsTested}
use Rattle.term_replay.proofs.Combined.{equal_tested, less_tested, unequal_tested}
use Rattle.term_replay.proofs.number_operators.tested.Goals as goal

pub returns-in-Equal : goal.returns-in-Equal
returns-in-Equal c = subst (λ o. IsTested o c.args.signed c.args.one c.args.two c.number_of.result) (sym c.in-Equal.is) (equal_tested c.args.signed c.args.one c.args.two c.number_of.result _ refl c.number_of.ensures)

pub returns-in-NotEqual : goal.returns-in-NotEqual
returns-in-NotEqual c = subst (λ o. IsTested o c.args.signed c.args.one c.args.two c.number_of-in-NotEqual.result) (sym c.in-NotEqual.is) (unequal_tested c.args.signed c.args.one c.args.two c.number_of-in-NotEqual.result _ refl c.number_of-in-NotEqual.ensures)

pub returns-in-LessThan : goal.returns-in-LessThan
returns-in-LessThan c = subst (λ o. IsTested o c.args.signed c.args.one c.args.two c.number_of-in-LessThan.result) (sym c.in-LessThan.is) (less_tested c.args.signed c.args.one c.args.two c.number_of-in-LessThan.result _ c.if-not-signed.true refl c.number_of-in-LessThan.ensures)
