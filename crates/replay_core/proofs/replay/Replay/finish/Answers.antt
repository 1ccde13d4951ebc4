use Rattle.replay_follows.proofs.Steps.{ends, paused_ends}
use Rattle.replay_core.specs.Made.{subject_of}
use Rattle.replay_core.specs.Parts.{made_of, parts_of}
use Rattle.replay_core.proofs.replay.Replay.finish.Goals as goal

pub returns-clause-followed : goal.returns-clause-followed
returns-clause-followed c = λ dump t followed last.
    let x = c.args.self in
    let v = ends (subject_of (made_of x) dump) t followed.replay (parts_of x).parts last followed.follows.parts in
    record {
      points = v.marks;
      replay = followed.replay;
      verdicts = v.verdicts;
      sound = v.sound;
      reasoned = v.reasoned;
      forced = v.forced;
    }

pub returns-clause-paused : goal.returns-clause-paused
returns-clause-paused c = λ dump u paused last.
    let x = c.args.self in
    let v = paused_ends (subject_of (made_of x) dump) u paused.replay (parts_of x).parts last paused.pauses in
    record {
      points = v.marks;
      replay = paused.replay;
      verdicts = v.verdicts;
      sound = v.sound;
      reasoned = v.reasoned;
      forced = v.forced;
    }
