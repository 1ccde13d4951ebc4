-- The words of the command that scores the two files of a selfrun.
use Rattle.std.proofs.Common.{◌≡◌, ◌≤◌, false, ℕ, List, [], ◌∷◌, length, refl, ap, arith, codes}
use Rattle.cov_host.specs.Identifier.{is_reserved}
use Rattle.command_line.proofs.OneCommand.{one_of_all}
use Rattle.command_line.proofs.Outcome.{command_without_fault}
use Rattle.command_line.proofs.ScoreForms.{score_forms}
use Rattle.command_line.specs.Command.{IsCommand, command_values, score as of_score}
use Rattle.command_line.specs.CommandWords.{AreValues, GivenOption, HaveForms, IsScore, IsScoreUpTo, values_in}
use Rattle.command_line.specs.ScoreOption.{repeats}
use Rattle.command_line.specs.UsageFault.{HasUsageFault}
use Rattle.command_line.specs.declared.command.Command.{Command}
use Rattle.command_line.specs.declared.score_option.ScoreOption.{ScoreOption}
use Rattle.command_line.specs.declared.score_option.ScoreOption.TheVariants.{Top, Instance, Source, Define, Folder, Dump, Output, States, Arcs, Late}
use Rattle.command_line.specs.declared.usage_fault.UsageFault.{UsageFault}
use Rattle.selfrun_files.specs.Files.{dump_name, source_name}
use Rattle.selfrun_words.specs.Score.{score_in_words, selfrun_name, selfrun_score}

abbrev gives : ScoreOption → List ℕ → GivenOption
gives option value = record { option = option; value = value }

abbrev given : List GivenOption
given = gives Top selfrun_name ∷ gives Instance selfrun_name ∷ gives Source source_name ∷ gives Dump dump_name ∷ gives Output (codes "selfrun.db") ∷ []

once : (option : ScoreOption) → repeats option ≡ false → length (values_in given option) ≤ 1
once Top single = omega arith
once Instance single = omega arith
once Source single = omega arith
once Define single = omega arith
once Folder single = omega arith
once Dump single = omega arith
once Output single = omega arith
once States single = omega arith
once Arcs single = omega arith
once Late single = omega arith

up_to : IsScoreUpTo score_in_words given []
unfolding is_reserved
up_to = record { spells = refl; are_given = record { forms = (refl, (refl, (refl, (refl, (refl, tt))))); once = once } }

some_source : selfrun_score.sources ≡ [] → ⊥
some_source none = let count : 1 ≡ 0 = ap length none in omega (arith, count)

values : AreValues given selfrun_score
values = record {
  top = refl;
  instance = refl;
  sources = refl;
  some = some_source;
  defines = refl;
  folder = refl;
  dump = refl;
  output = refl;
  machines = refl;
  drawings = refl;
  late = refl;
}

-- they are the words of a score
pub is_selfrun_score : IsScore score_in_words selfrun_score
is_selfrun_score = (given, up_to, values)

pub selfrun_forms : HaveForms selfrun_score
selfrun_forms = score_forms score_in_words selfrun_score is_selfrun_score

-- and of no other command
pub selfrun_command : (command : Command) → IsCommand score_in_words command → command_values command ≡ of_score selfrun_score
selfrun_command command is = one_of_all score_in_words (command_values command) (of_score selfrun_score) is is_selfrun_score

pub no_selfrun_fault : (fault : UsageFault) → HasUsageFault score_in_words fault → ⊥
no_selfrun_fault fault has = command_without_fault score_in_words (of_score selfrun_score) fault is_selfrun_score has
