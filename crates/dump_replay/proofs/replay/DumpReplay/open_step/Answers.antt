use Rattle.std.proofs.Common.{Some, refl}
use Rattle.dump_replay.proofs.Following.{first_opened}
use Rattle.dump_replay.proofs.replay.DumpReplay.open_step.Goals as goal

pub returns-in-Some-clause-followed : goal.returns-in-Some-clause-followed
returns-in-Some-clause-followed c = c.open_later.ensures.followed

pub returns-in-Some-clause-fault : goal.returns-in-Some-clause-fault
returns-in-Some-clause-fault c = c.open_later.ensures.fault

pub returns-in-None-clause-followed : goal.returns-in-None-clause-followed
returns-in-None-clause-followed c habit design points vars instance entries are ordered f =
    first_opened c.args.self.now record c.args.self.now { first = Some c.args.time; last = Some c.args.time } c.args.time c.in-None.is refl refl refl refl refl habit design points vars instance entries ordered.in_turn f
