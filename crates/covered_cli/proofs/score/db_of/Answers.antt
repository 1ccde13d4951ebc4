use Rattle.std.proofs.Common.{subst}
use Rattle.dump_score.specs.Faults.{IsScoreFault}
use Rattle.dump_score.specs.Scoring.{IsScoreOfFile}
use Rattle.covered_cli.proofs.score.db_of.Goals as goal

pub fault_of-requires-clause-lawful : goal.fault_of-requires-clause-lawful
fault_of-requires-clause-lawful g c = c.requires.replayable.lawful

pub fault_of-requires-clause-fault : goal.fault_of-requires-clause-fault
fault_of-requires-clause-fault g c =
    let before = g.H.Host.outside c.args.host.now in
    let after = g.H.Host.outside c.score_dump.new.host in
    (before, after, subst (λ h. IsScoreFault c.args.words.now.dump.now before after h c.args.design.now c.args.words.now.instance.now c.in-Err.fault) c.habit_when.ensures c.in-Err.ensures.fault)

pub returns-in-Ok-clause-scored : goal.returns-in-Ok-clause-scored
returns-in-Ok-clause-scored g c = λ machines all.
    subst (λ h. IsScoreOfFile c.args.words.now.dump.now (g.H.Host.outside c.args.host.now) h c.args.design.now machines c.args.sources c.args.words.now.instance.now c.in-Ok.db) c.habit_when.ensures (c.in-Ok.ensures.scored machines all)

pub returns-in-Err-clause-fault : goal.returns-in-Err-clause-fault
returns-in-Err-clause-fault g c =
    let before = g.H.Host.outside c.args.host.now in
    let after = g.H.Host.outside c.score_dump.new.host in
    c.fault_of.ensures before after (subst (λ h. IsScoreFault c.args.words.now.dump.now before after h c.args.design.now c.args.words.now.instance.now c.in-Err.fault) c.habit_when.ensures c.in-Err.ensures.fault)
