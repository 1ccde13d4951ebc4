use Rattle.std.proofs.Common.{subst}
use Rattle.std.specs.List.{All}
use Rattle.vcd_reader.specs.Wanted.{IsUnwanted}
use Rattle.dump_replay.proofs.Following.{passed_all}
use Rattle.dump_replay.proofs.replay.DumpReplay.wanted.Goals as goal

pub returns : goal.returns
returns c habit design points vars instance entries passed f unwanted =
    passed_all c.args.self.now habit design points vars instance passed entries (subst (λ flags. All (IsUnwanted flags) passed) c.as_slice.ensures.value unwanted) f
