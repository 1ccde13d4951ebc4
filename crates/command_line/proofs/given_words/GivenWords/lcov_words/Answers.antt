use Rattle.std.proofs.Common.{ap}
use Rattle.std.specs.Option.{option_copied}
use Rattle.command_line.specs.DatabaseFiles.{files_of}
use Rattle.command_line.specs.GivenWords.{files_behind}
use Rattle.command_line.proofs.given_words.GivenWords.lcov_words.Goals as goal

pub returns-clause-lcov : goal.returns-clause-lcov
returns-clause-lcov c =
    let given = c.args.self.now in
    record {
      others = files_of given.others;
      output = ap option_copied c.in-Some.is;
      files = ap (λ first. files_behind first given.others) c.in-Some-first.is;
    }
