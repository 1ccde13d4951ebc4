use Rattle.bench.proofs.bodies.measure.Given as goal

abbrev pub ghosts-sum_after : goal.ghosts-sum_after
ghosts-sum_after a = record { name = a.blank.name; parts = a.blank.parts }
