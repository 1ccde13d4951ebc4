use Rattle.body_trials.proofs.runs.run_block.Given as goal

abbrev pub ghosts-run_process : goal.ghosts-run_process
ghosts-run_process a = record { name = a.blank.name; parts = a.blank.parts }
