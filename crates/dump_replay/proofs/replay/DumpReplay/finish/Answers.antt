use Rattle.dump_replay.proofs.Finishing.{final_marks}
use Rattle.dump_replay.proofs.replay.DumpReplay.finish.Goals as goal

pub returns : goal.returns
returns c habit design points vars instance entries rises f rounds by_last =
    final_marks c.args.self c.finish.result c.finish.ensures.followed c.finish.ensures.paused habit design points vars instance entries rises f rounds by_last
