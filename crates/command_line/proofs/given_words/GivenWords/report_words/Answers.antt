use Rattle.std.proofs.Common.{◌≡◌, ◌∙◌, ℕ, Bor, List, Option, None, Some, refl, sym, ap, is_some}
use Rattle.std.specs.Option.{option_copied}
use Rattle.command_line.specs.DatabaseFiles.{files_of}
use Rattle.command_line.specs.GivenWords.{files_behind}
use Rattle.command_line.proofs.given_words.GivenWords.report_words.Goals as goal

copied_some : (found : Option (Bor (List ℕ))) → is_some (option_copied found) ≡ is_some found
copied_some None = refl
copied_some (Some word) = refl

pub returns-clause-report : goal.returns-clause-report
returns-clause-report c =
    let given = c.args.self.now in
    record {
      others = files_of given.others;
      files = ap (λ first. files_behind first given.others) c.in-Some.is;
      level = c.given.ensures;
      metrics = c.given-2.ensures;
      by_instance = c.is_some.ensures ∙ sym (copied_some given.by_instance);
      covered = c.is_some-2.ensures ∙ sym (copied_some given.covered);
      output = refl;
    }
