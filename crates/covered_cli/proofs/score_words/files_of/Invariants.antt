use Rattle.std.proofs.Common.{◌≡◌, ◌++◌, length, map}
use Rattle.command_line.specs.OptionValues.{sources_of}
use Rattle.covered_cli.proofs.score_words.files_of.Given as goal

-- the files so far, and those that are left
abbrev pub invariant-files : goal.invariant-files
invariant-files l = map (λ file. file.now) l.files.items ++ sources_of l.left ≡ sources_of l.fn.sources

abbrev pub decreases-files : goal.decreases-files
decreases-files l = length (sources_of l.left)
