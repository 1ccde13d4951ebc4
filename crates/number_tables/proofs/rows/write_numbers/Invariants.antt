use Rattle.number_tables.proofs.Places.{HaveNumbers}
use Rattle.number_tables.proofs.rows.write_numbers.Given as goal

-- the slots so far have their numbers
abbrev pub invariant-loop-number : goal.invariant-loop-number
invariant-loop-number l = HaveNumbers l.numbers l.rows l.slots l.first l.number
