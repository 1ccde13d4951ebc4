use Rattle.std.proofs.Common.{refl}
use Rattle.dump_replay.proofs.Following.{stretch_begun}
use Rattle.dump_replay.proofs.replay.DumpReplay.begin_stretch.Goals as goal

pub returns-clause-followed : goal.returns-clause-followed
returns-clause-followed c habit design points vars instance entries ordered f =
    stretch_begun c.args.self.now record c.args.self.now { first = c.args.time; last = c.args.time } c.args.time refl refl refl refl refl habit design points vars instance entries ordered f
