use Rattle.std.proofs.Common.{Some}
use Rattle.std.proofs.lemmas.Result.{on_err_weaker}
use Rattle.command_line.specs.CommandWords.{score_values}
use Rattle.covered_cli.proofs.Scoring.{IfErr-map, OnOk-map, others_kept, others_kept_since, score_is_done, table_is_scored, writing_is_late, writing_stands}
use Rattle.covered_cli.specs.Scoring.{IsScoredText}
use Rattle.database_commands.proofs.Reporting.{OnErr-intro, leaves_all, leaves_front}
use Rattle.covered_cli.proofs.score.run_score.Goals as goal

pub returns-in_err-table-clause-others : goal.returns-in_err-table-clause-others
returns-in_err-table-clause-others g c =
    let before = g.H.Host.outside c.args.host.now in
    let later = g.H.Host.outside c.table_of.new.host in
    others_kept _ before.files later.files c.in_err-table.ensures.effects.files

pub returns-in_err-table-clause-left : goal.returns-in_err-table-clause-left
returns-in_err-table-clause-left g c =
    let score = score_values c.args.words.now in
    let before = g.H.Host.outside c.args.host.now in
    let later = g.H.Host.outside c.table_of.new.host in
    OnErr-intro c.from_residual.result (leaves_all before later (IsScoredText score before) (Some score.output) c.in_err-table.ensures.effects)

pub text_of-requires : goal.text_of-requires
text_of-requires g c = c.in_ok-table.ensures.table.scores.listed.table

pub returns-in_err-text-clause-others : goal.returns-in_err-text-clause-others
returns-in_err-text-clause-others g c =
    let before = g.H.Host.outside c.args.host.now in
    let later = g.H.Host.outside c.table_of.new.host in
    others_kept _ before.files later.files c.in_ok-table.ensures.effects.files

pub returns-in_err-text-clause-left : goal.returns-in_err-text-clause-left
returns-in_err-text-clause-left g c =
    let score = score_values c.args.words.now in
    let before = g.H.Host.outside c.args.host.now in
    let later = g.H.Host.outside c.table_of.new.host in
    OnErr-intro c.from_residual-in_err-text.result (leaves_all before later (IsScoredText score before) (Some score.output) c.in_ok-table.ensures.effects)

pub returns-clause-done : goal.returns-clause-done
returns-clause-done g c =
    let score = score_values c.args.words.now in
    let before = g.H.Host.outside c.args.host.now in
    let later = g.H.Host.outside c.table_of.new.host in
    let after = g.H.Host.outside c.write.new.host in
    let read = c.in_ok-table.ensures in
    let scored = table_is_scored score before _ _ read.table c.in_ok-text.ensures.text in
    OnOk-map c.write.result (score_is_done score _ before later after scored read.effects.files) c.write.ensures.written

pub returns-clause-others : goal.returns-clause-others
returns-clause-others g c =
    let before = g.H.Host.outside c.args.host.now in
    let later = g.H.Host.outside c.table_of.new.host in
    let after = g.H.Host.outside c.write.new.host in
    others_kept_since _ before.files later.files after.files c.in_ok-table.ensures.effects.files c.write.ensures.others

pub returns-clause-fault : goal.returns-clause-fault
returns-clause-fault g c =
    let score = score_values c.args.words.now in
    let before = g.H.Host.outside c.args.host.now in
    let later = g.H.Host.outside c.table_of.new.host in
    let after = g.H.Host.outside c.write.new.host in
    let read = c.in_ok-table.ensures in
    let scored = table_is_scored score before _ _ read.table c.in_ok-text.ensures.text in
    IfErr-map c.write.result (writing_stands score before later after (c.in_ok-text.text, scored) read.effects.files read.effects.counts c.write.ensures.counts) c.write.ensures.fault

pub returns-clause-early : goal.returns-clause-early
returns-clause-early g c =
    let later = g.H.Host.outside c.table_of.new.host in
    let after = g.H.Host.outside c.write.new.host in
    IfErr-map c.write.result (λ fault is early. absurd (writing_is_late _ later after fault is early)) c.write.ensures.fault

pub returns-clause-left : goal.returns-clause-left
returns-clause-left g c =
    let score = score_values c.args.words.now in
    let before = g.H.Host.outside c.args.host.now in
    let later = g.H.Host.outside c.table_of.new.host in
    let after = g.H.Host.outside c.write.new.host in
    let read = c.in_ok-table.ensures in
    let scored = table_is_scored score before _ _ read.table c.in_ok-text.ensures.text in
    on_err_weaker c.write.result (leaves_front before later after (IsScoredText score before) (Some score.output) c.in_ok-text.text scored read.effects) c.write.ensures.front
