use Rattle.wake_tests.proofs.rounds.say_of.Given as goal

abbrev pub ghosts-say_counted : goal.ghosts-say_counted
ghosts-say_counted a = record { name = a.blank.name; parts = a.blank.parts }
