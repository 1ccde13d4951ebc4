-- What was read of an `lcov` command.
use Rattle.std.proofs.Common.{◌∙◌, ℕ, ap, List, []}
use Rattle.std.specs.Prelude.{unwrap_or}
use Rattle.command_line.specs.declared.database_command.DatabaseCommand.TheVariants.{Lcov}
use Rattle.command_line.specs.declared.database_option.DatabaseOption.TheVariants.{Output}
use Rattle.command_line.specs.declared.given_words.GivenWords.{GivenWords}
use Rattle.command_line.specs.declared.lcov_words.LcovWords.{LcovWords}
use Rattle.command_line.specs.GivenWords.{HasRead}
use Rattle.command_line.specs.LcovWords.{GivesLcov, IsLcov, lcov_values}
use Rattle.command_line.proofs.DatabaseItems.{the_one_file}
use Rattle.command_line.proofs.DatabaseReading.{files_are}

pub lcov_stands : (words : List (List ℕ)) (values : GivenWords) (lcov : LcovWords) → HasRead Lcov words [] values → GivesLcov values lcov → IsLcov words (lcov_values lcov)
lcov_stands words values lcov read gives = (
  read.items,
  read.up_to,
  record {
    output = read.same Output ∙ gives.output;
    file = the_one_file Lcov (λ first room. room) read.items lcov.file.now gives.others read.up_to.are_items (files_are Lcov words values read ∙ ap (λ found. unwrap_or found []) gives.files);
  },
)
