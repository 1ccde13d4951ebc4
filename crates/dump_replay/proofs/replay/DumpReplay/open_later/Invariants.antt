use Rattle.dump_replay.proofs.replay.DumpReplay.open_later.Given as goal

abbrev pub ghosts-close : goal.ghosts-close
ghosts-close a = record { name = a.blank.name; parts = a.blank.parts }

abbrev pub ghosts-rest : goal.ghosts-rest
ghosts-rest a = record { name = a.blank.name; parts = a.blank.parts }
