use Rattle.std.proofs.Common.{◌≡◌, subst, sym}
use Rattle.command_line.specs.Command.{IsCommand, command_values, score as of_score}
use Rattle.command_line.specs.CommandWords.{HaveForms, score_values}
use Rattle.command_line.specs.UsageFault.{HasUsageFault}
use Rattle.command_line.specs.declared.command.Command.{Command}
use Rattle.command_line.specs.declared.command.Command.TheVariants.{Score}
use Rattle.command_line.specs.declared.score_words.ScoreWords.{ScoreWords}
use Rattle.selfrun_words.proofs.Score.{no_selfrun_fault, selfrun_command, selfrun_forms}
use Rattle.selfrun_words.specs.Score.{score_in_words, selfrun_score}
use Rattle.selfrun_words.proofs.score_of.Goals as goal

pub unreachable-requires-in-Err : goal.unreachable-requires-in-Err
unreachable-requires-in-Err c = no_selfrun_fault c.in-Err.field-0 (subst (λ words. HasUsageFault words c.in-Err.field-0) c.requires c.in-Err.ensures.fault)

-- the values of a command that is this score
values_are : (command : Command) (score : ScoreWords) → IsCommand score_in_words command → command ≡ Score score → score_values score ≡ selfrun_score
values_are command score is same =
    let e : command_values (Score score) ≡ of_score selfrun_score = subst (λ x. command_values x ≡ of_score selfrun_score) same (selfrun_command command is) in
    cc

pub returns-clause-values : goal.returns-clause-values
returns-clause-values c =
    values_are c.in-Ok-Score.field-0 c.in-Ok-Score.score (subst (λ words. IsCommand words c.in-Ok-Score.field-0) c.requires c.in-Ok-Score.ensures.command) c.in-Ok-Score.field-0-is

pub returns-clause-forms : goal.returns-clause-forms
returns-clause-forms c = subst HaveForms (sym (returns-clause-values c)) selfrun_forms
