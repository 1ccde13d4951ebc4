use Rattle.std.proofs.Common.{refl, subst, ◌∙◌}
use Rattle.selfrun_files.specs.Files.{files_outside}
use Rattle.selfrun_words.specs.Score.{score_in_words, selfrun_score}
use Rattle.covered_cli.proofs.Selfruns.{memory_alone}
use Rattle.covered_cli.specs.Fault.{StandsIn}
use Rattle.covered_cli.specs.Scoring.{IsTableIn}
use Rattle.covered_cli.proofs.selfrun.selfrun_table.Goals as goal

pub unreachable-requires : goal.unreachable-requires
unreachable-requires c =
    let before = files_outside c.new-files.result in
    let after = files_outside c.table_of.new.host in
    let good = c.selfrun_laws.ensures.good c.args.words.now before c.requires c.new-files.ensures in
    let stands = subst (λ score. StandsIn score before after c.in-Err.fault) c.score_of-score.ensures.values c.in-Err.ensures.fault in
    let memory = memory_alone score_in_words selfrun_score before after c.score_law.ensures good refl refl c.in-Err.ensures.effects.counts c.in-Err.fault stands in
    c.in_default.not-Memory (c.status.ensures ∙ memory)

pub returns-in-Ok : goal.returns-in-Ok
returns-in-Ok c =
    let before = files_outside c.new-files.result in
    c.selfrun_laws.ensures.table c.args.words.now before c.in-Ok.table c.requires c.new-files.ensures (subst (λ score. IsTableIn score before c.in-Ok.table) c.score_of-score.ensures.values c.in-Ok.ensures.table)
