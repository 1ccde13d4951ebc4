use Rattle.std.proofs.Common.{◌≡◌, ◌∙◌, ℕ, Bor, List, Option, None, Some, true, false, ap, refl, sym, is_some}
use Rattle.std.proofs.lemmas.Bool.{false≢true}
use Rattle.std.specs.Option.{option_copied}
use Rattle.std.specs.Prelude.{not}
use Rattle.command_line.specs.DatabaseFiles.{files_of}
use Rattle.command_line.specs.GivenWords.{files_behind}
use Rattle.command_line.proofs.given_words.GivenWords.point_words.Goals as goal

some_copied : (found : Option (Bor (List ℕ))) → is_some found ≡ true → is_some (option_copied found) ≡ true
some_copied None some = absurd (false≢true some)
some_copied (Some word) some = refl

pub returns-clause-points : goal.returns-clause-points
returns-clause-points c =
    let given = c.args.self.now in
    record {
      others = files_of given.others;
      output = ap option_copied c.in-Some.is;
      addresses = c.new.ensures;
      some = some_copied given.point (c.is_none.ensures ∙ ap not c.if-is_none.false);
      files = ap (λ first. files_behind first given.others) c.in-Some-first.is;
    }
