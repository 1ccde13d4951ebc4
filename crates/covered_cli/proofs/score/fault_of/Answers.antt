use Rattle.command_line.specs.CommandWords.{score_values}
use Rattle.covered_cli.specs.ScoreMachines.{habit_when}
use Rattle.covered_cli.proofs.Refusing.{bind_refused, replay_named, replay_refused}
use Rattle.covered_cli.proofs.score.fault_of.Goals as goal

pub replay_refusal-requires-clause-signal : goal.replay_refusal-requires-clause-signal
replay_refusal-requires-clause-signal c = replay_named c.args.words.now.dump.now c.requires.fault.0 c.requires.fault.1 (habit_when c.args.words.now.late) c.args.design.now c.args.words.now.instance.now c.in-Replay.fault (rw c.in-Replay.is at c.requires.fault.2)

pub returns-in-Bind : goal.returns-in-Bind
returns-in-Bind c = rw c.in-Bind.is (λ before after is. bind_refused (score_values c.args.words.now) c.args.design.now before after c.in-Bind.fault c.bind_refusal.result c.bind_refusal.ensures is)

pub returns-in-Replay : goal.returns-in-Replay
returns-in-Replay c = rw c.in-Replay.is (λ before after is. replay_refused (score_values c.args.words.now) c.args.design.now before after c.in-Replay.fault c.replay_refusal.result c.replay_refusal.ensures is)
