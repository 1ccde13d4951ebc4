-- What was read of a command that reads databases, and what one more word says.
use Rattle.std.proofs.Common.{◌≡◌, ◌∙◌, ◌⊎◌, ℕ, ◌==◌, ◌||◌, true, false, cond, sym, ap, refl, subst, arith, inl, inr, List, [], ◌∷◌, ◌++◌, length, append_assoc, append-nil, length-append, Option, Some, None, is_none, is_some}
use Rattle.std.proofs.lemmas.Bool.{ne_eqb}
use Rattle.std.specs.Prelude.{unwrap_or}
use Rattle.command_line.specs.declared.database_command.DatabaseCommand.{DatabaseCommand}
use Rattle.command_line.specs.declared.database_command.DatabaseCommand.TheVariants.{Merge, Report}
use Rattle.command_line.specs.declared.database_option.DatabaseOption.{DatabaseOption}
use Rattle.command_line.specs.declared.database_option.DatabaseOption.TheVariants.{Level, Metrics, ByInstance, Covered, Output, Point}
use Rattle.command_line.specs.declared.given_words.GivenWords.{GivenWords}
use Rattle.command_line.specs.declared.merge_words.MergeWords.{MergeWords}
use Rattle.command_line.specs.declared.report_words.ReportWords.{ReportWords}
use Rattle.command_line.specs.DatabaseFault.{missing_in, missing_of, IsNoDatabase}
use Rattle.command_line.specs.DatabaseFiles.{files_among}
use Rattle.command_line.specs.DatabaseOption.{accepts, has_room, is_database_name, is_same, option_text, repeats, IsOptionOf}
use Rattle.command_line.specs.DatabaseWords.{Item, file, given, command_text, value_words, files_in, may_follow, value_in, IsMerge, IsReport, merge_values, report_values}
use Rattle.command_line.specs.ReportLevel.{level_of}
use Rattle.command_line.specs.ReportMetrics.{metrics_of}
use Rattle.command_line.specs.GivenWords.{AreFiles, HasRead, GivesMerge, GivesReport, IsMissing, all_words, files_from, has_room_for, value_of}
use Rattle.command_line.proofs.DatabaseItems.{spelled-push, files_in-append, value_in-file, value_in-given, AreItems-push, the_one_file}
use Rattle.command_line.proofs.DatabaseOptions.{no_option_named}
use Rattle.command_line.proofs.FilesAmong.{files_among-file, files_among-given}

-- nothing was read after the command
pub HasRead-start : (command : DatabaseCommand) (left : List (List ℕ)) (values : GivenWords)
    → ((option : DatabaseOption) → value_of values option ≡ None)
    → files_from values ≡ None
    → all_words values ≡ left
    → HasRead command (command_text command ∷ left) left values
HasRead-start command left values none no_files all = record {
  items = [];
  up_to = record { spells = refl; are_items = tt };
  all = ap (λ words. command_text command ∷ words) (sym all);
  same = λ option. sym (none option);
  files = subst (λ found. AreFiles found [] (files_among left)) (sym no_files) refl;
}

-- there is room for a database exactly where there is among the items
room : (command : DatabaseCommand) (found : Option (List (List ℕ))) (read left : List (List ℕ)) → AreFiles found read left → has_room command (is_none found) ≡ has_room command (length read == 0)
room command None read left are = ap (λ read. has_room command (length read == 0)) (sym are)
room command (Some all) read left are = ap (has_room command) (sym are.1)

-- one more database
files_more : (found after : Option (List (List ℕ))) (read all left : List (List ℕ)) (name : List ℕ) → AreFiles found read all → all ≡ name ∷ left → after ≡ cond (is_none found) (Some (name ∷ left)) found → AreFiles after (read ++ name ∷ []) left
files_more None after read all left name are is added = subst (λ found. AreFiles found (read ++ name ∷ []) left) (sym added) (rw are, rw are)
files_more (Some files) after read all left name are is added =
    subst (λ found. AreFiles found (read ++ name ∷ []) left) (sym added)
    (are.0 ∙ ap (λ rest. read ++ rest) is ∙ sym (append_assoc read (name ∷ []) left), some_before read name are.1)
  where
    some_before : (read : List (List ℕ)) (name : List ℕ) → (length read == 0) ≡ false → (length (read ++ name ∷ []) == 0) ≡ false
    some_before read name some = ne_eqb (length (read ++ name ∷ [])) 0 (λ e. omega (arith, length-append read (name ∷ []), e))

pub HasRead-file : (command : DatabaseCommand) (words all left : List (List ℕ)) (before after : GivenWords) (word : List ℕ)
    → HasRead command words all before
    → all ≡ word ∷ left
    → is_database_name word ≡ true
    → has_room command (is_none (files_from before)) ≡ true
    → ((option : DatabaseOption) → value_of after option ≡ value_of before option)
    → files_from after ≡ cond (is_none (files_from before)) (Some (word ∷ files_among left)) (files_from before)
    → all_words after ≡ all_words before
    → HasRead command words left after
HasRead-file command words all left before after word read is named has_room same added kept =
    let x : Item = file word in
    record {
      items = read.items ++ x ∷ [];
      up_to = record {
        spells = read.up_to.spells ∙ ap (λ rest. command_text command ∷ rest) (spelled-push read.items x all left is);
        are_items = AreItems-push command [] read.items x read.up_to.are_items (named, sym (room command (files_from before) (files_in read.items) (files_among all) read.files) ∙ has_room);
      };
      all = read.all ∙ ap (λ words. command_text command ∷ words) (sym kept);
      same = λ option. value_in-file read.items word option ∙ read.same option ∙ sym (same option);
      files = subst (λ files. AreFiles (files_from after) files (files_among left)) (sym (files_in-append read.items (x ∷ [])))
          (files_more (files_from before) (files_from after) (files_in read.items) (files_among all) (files_among left) word read.files (ap files_among is ∙ files_among-file word left (no_option_named word named)) added);
    }

-- an option may follow what was read where one more value of it may be given
pub may_follow_read : (command : DatabaseCommand) (words left : List (List ℕ)) (values : GivenWords) (read : HasRead command words left values) (option : DatabaseOption) → may_follow read.items option ≡ has_room_for values option
may_follow_read command words left values read option = ap (λ value. repeats option || is_none value) (read.same option)

-- one more option with its value
pub HasRead-option : (command : DatabaseCommand) (words all rest left : List (List ℕ)) (before after : GivenWords) (option : DatabaseOption) (word value : List ℕ)
    → HasRead command words all before
    → all ≡ word ∷ rest
    → rest ≡ value_words option value ++ left
    → IsOptionOf command option word
    → has_room_for before option ≡ true
    → accepts option value ≡ true
    → ((other : DatabaseOption) → value_of after other ≡ cond (is_same option other) (Some value) (value_of before other))
    → files_from after ≡ files_from before
    → all_words after ≡ all_words before
    → HasRead command words left after
HasRead-option command words all rest left before after option word value read first second is_option room form set same_files kept =
    let x : Item = given option value in
    let is : all ≡ option_text option ∷ value_words option value ++ left = rw (first, second, is_option.1) in
    record {
      items = read.items ++ x ∷ [];
      up_to = record {
        spells = read.up_to.spells ∙ ap (λ rest. command_text command ∷ rest) (spelled-push read.items x all left is);
        are_items = AreItems-push command [] read.items x read.up_to.are_items (is_option.0, may_follow_read command words all before read option ∙ room, form);
      };
      all = read.all ∙ ap (λ words. command_text command ∷ words) (sym kept);
      same = λ other. value_in-given read.items option value other ∙ ap (cond (is_same option other) (Some value)) (read.same other) ∙ sym (set other);
      files = rw (same_files, files_in-append read.items (x ∷ []), append-nil (files_in read.items), ← files_among-given option value left, ← is) read.files;
    }

-- ---- faults of a word

module _ (command : DatabaseCommand) (words all rest : List (List ℕ)) (values : GivenWords) (word : List ℕ) (read : HasRead command words all values) (is : all ≡ word ∷ rest) where
  pub no_database : (is_database_name word ≡ false) ⊎ (has_room command (is_none (files_from values)) ≡ false) → IsNoDatabase command read.items word
  no_database (inl none) = inl none
  no_database (inr full) = inr (sym (room command (files_from values) (files_in read.items) (files_among all) read.files) ∙ full)

-- ---- the end of the words

all_read : (found : Option (List (List ℕ))) (read : List (List ℕ)) → AreFiles found read [] → read ≡ unwrap_or found []
all_read None read are = are
all_read (Some all) read are = sym (are.0 ∙ append-nil read)

module _ (command : DatabaseCommand) (words : List (List ℕ)) (values : GivenWords) (read : HasRead command words [] values) where
  pub files_are : files_in read.items ≡ unwrap_or (files_from values) []
  files_are = all_read (files_from values) (files_in read.items) read.files

  pub missing_stands : (word : List ℕ) → IsMissing command values word → missing_in command read.items ≡ Some word
  missing_stands word missing =
      ap (λ value. missing_of command value (value_in read.items Point) (files_in read.items)) (read.same Output)
      ∙ ap (λ value. missing_of command (value_of values Output) value (files_in read.items)) (read.same Point)
      ∙ ap (missing_of command (value_of values Output) (value_of values Point)) files_are
      ∙ missing

pub merge_stands : (words : List (List ℕ)) (values : GivenWords) (merge : MergeWords) → HasRead Merge words [] values → GivesMerge values merge → IsMerge words (merge_values merge)
merge_stands words values merge read gives = (
  read.items,
  read.up_to,
  record {
    output = read.same Output ∙ gives.output;
    files = files_are Merge words values read ∙ ap (λ found. unwrap_or found []) gives.files;
    several = gives.several;
  },
)

pub report_stands : (words : List (List ℕ)) (values : GivenWords) (report : ReportWords) → HasRead Report words [] values → GivesReport values report → IsReport words (report_values report)
report_stands words values report read gives = (
  read.items,
  read.up_to,
  record {
    file = the_one_file Report (λ first room. room) read.items report.file.now gives.others read.up_to.are_items (files_are Report words values read ∙ ap (λ found. unwrap_or found []) gives.files);
    level = gives.level ∙ sym (ap level_of (read.same Level));
    metrics = gives.metrics ∙ sym (ap metrics_of (read.same Metrics));
    by_instance = gives.by_instance ∙ sym (ap is_some (read.same ByInstance));
    covered = gives.covered ∙ sym (ap is_some (read.same Covered));
    output = gives.output ∙ sym (read.same Output);
  },
)
