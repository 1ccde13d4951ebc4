-- What words come to, as a function of them: a command, or the text of a fault.
use Rattle.std.proofs.Common.{◌≡◌, ◌∙◌, ◌⊎◌, ◌==◌, ℕ, cond, false, sym, ap, refl, inl, inr, List, [], ◌∷◌, ◌++◌, length, Option, Some, None, Result, Ok, Err, codes}
use Rattle.std.specs.List.{last_or}
use Rattle.std.specs.Str.{bytes_eq}
use Rattle.std.proofs.lemmas.Bool.{false_from_ne_true}
use Rattle.std.proofs.lemmas.Slice.Eq.{bytes_eq-Decides}
use Rattle.command_line.specs.declared.database_command.DatabaseCommand.{DatabaseCommand}
use Rattle.command_line.specs.declared.database_command.DatabaseCommand.TheVariants.{Merge, Report, Lcov, Rank, Exclude, Restore}
use Rattle.command_line.specs.declared.database_option.DatabaseOption.TheVariants.{Output, Point}
use Rattle.command_line.specs.declared.score_option.ScoreOption.TheVariants.{Source}
use Rattle.command_line.specs.declared.usage_fault.UsageFault.{UsageFault}
use Rattle.command_line.specs.declared.usage_fault.UsageFault.TheVariants.{NoCommand, UnknownCommand, UnknownWord, BadValue, Missing}
use Rattle.command_line.specs.declared.selfrun_words.SelfrunWords.{SelfrunWords}
use Rattle.command_line.specs.Command.{AreWordsOf, CommandValues, score, merge, report, lcov, rank, exclude, restore, selfrun}
use Rattle.command_line.specs.CommandWords.{is_absent, AreValues, GivenOption, IsScore, ScoreValues}
use Rattle.command_line.specs.DatabaseFault.{missing_in, missing_of_merge, missing_of_points, HasDatabaseFault}
use Rattle.command_line.specs.DatabaseWords.{AreMergeValues, AreReportValues, Item, IsMerge, IsReport, IsUpTo, MergeValues, ReportValues, command_text, files_in, value_in}
use Rattle.command_line.specs.LcovWords.{AreLcovValues, IsLcov, LcovValues}
use Rattle.command_line.specs.PointWords.{ArePointValues, IsExclude, IsRestore, PointValues}
use Rattle.command_line.specs.RankWords.{AreRankValues, IsRank, RankValues}
use Rattle.command_line.specs.SelfrunWords.{HasSelfrunFault, IsSelfrun}
use Rattle.command_line.specs.UsageFault.{usage_text, HasScoreFault, HasUsageFault}
use Rattle.command_line.proofs.GivenLemmas.{not_empty}
use Rattle.command_line.proofs.DatabaseOutcome as database
use Rattle.command_line.proofs.ScoreOutcome as scoring
use Rattle.command_line.proofs.SelfrunOutcome as numbering

-- the options of a `score` command, the items of one that reads databases, or the values of a selfrun
pub data Parsed : Type 0 where
  options : List GivenOption → Parsed
  items : DatabaseCommand → List Item → Parsed
  numbers : SelfrunWords → Parsed

abbrev pub mapped : {A B E : Type 0} → (A → B) → Result A E → Result B E
mapped f (Ok x) = Ok (f x)
mapped f (Err fault) = Err fault

abbrev pub outcome_of : List (List ℕ) → Result Parsed (List ℕ)
outcome_of [] = Err (codes "no command")
outcome_of (word ∷ left) =
    cond (bytes_eq word (codes "score")) (mapped options (scoring.outcome [] left))
    (cond (bytes_eq word (codes "merge")) (mapped (items Merge) (database.outcome Merge [] left))
    (cond (bytes_eq word (codes "report")) (mapped (items Report) (database.outcome Report [] left))
    (cond (bytes_eq word (codes "lcov")) (mapped (items Lcov) (database.outcome Lcov [] left))
    (cond (bytes_eq word (codes "rank")) (mapped (items Rank) (database.outcome Rank [] left))
    (cond (bytes_eq word (codes "exclude")) (mapped (items Exclude) (database.outcome Exclude [] left))
    (cond (bytes_eq word (codes "restore")) (mapped (items Restore) (database.outcome Restore [] left))
    (cond (bytes_eq word (codes "selfrun")) (mapped numbers (numbering.outcome left)) (Err (codes "unknown command " ++ word)))))))))

outcome_of-database : (command : DatabaseCommand) (left : List (List ℕ)) → outcome_of (command_text command ∷ left) ≡ mapped (items command) (database.outcome command [] left)
outcome_of-database Merge left = refl
outcome_of-database Report left = refl
outcome_of-database Lcov left = refl
outcome_of-database Rank left = refl
outcome_of-database Exclude left = refl
outcome_of-database Restore left = refl

-- items are read after the command
outcome_of-items : (command : DatabaseCommand) (words : List (List ℕ)) (read : List Item) (left : List (List ℕ)) → IsUpTo command words read left → outcome_of words ≡ mapped (items command) (database.outcome command read left)
outcome_of-items command words read left up_to =
    ap outcome_of up_to.spells ∙ outcome_of-database command _ ∙ ap (mapped (items command)) (database.outcome-up_to command read left up_to.are_items)

-- the text that a fault of one command has
outcome_of-score_fault : (words : List (List ℕ)) (fault : UsageFault) → HasScoreFault words fault → outcome_of words ≡ Err (usage_text fault)
outcome_of-score_fault words fault h = ap outcome_of h.2.spells ∙ ap (mapped options) (scoring.outcome-up_to h.0 h.1 h.2.are_given ∙ scoring.outcome-fault h.0 h.1 fault h.3)

outcome_of-database_fault : (command : DatabaseCommand) (words : List (List ℕ)) (fault : UsageFault) → HasDatabaseFault command words fault → outcome_of words ≡ Err (usage_text fault)
outcome_of-database_fault command words fault h = outcome_of-items command words h.0 h.1 h.2 ∙ ap (mapped (items command)) (database.outcome-fault command h.0 h.1 fault h.3)

abbrev missing : List ℕ → Result Parsed (List ℕ)
missing word = Err (codes "missing " ++ word)

missing_text : (name word : List ℕ) → word ≡ name → missing name ≡ missing word
missing_text name word same = ap missing (sym same)

outcome_of-selfrun_fault : (words : List (List ℕ)) (fault : UsageFault) → HasSelfrunFault words fault → outcome_of words ≡ Err (usage_text fault)
outcome_of-selfrun_fault words (Missing word) (inl (spells, name)) = ap outcome_of spells ∙ missing_text (codes "NUMBER") word.now name
outcome_of-selfrun_fault words (Missing word) (inr (first, number, spells, has, name)) = ap outcome_of spells ∙ rw (numbering.number_true first number has) (missing_text (codes "STEPS") word.now name)
outcome_of-selfrun_fault words (BadValue word) (inl (rest, spells, none)) = ap outcome_of spells ∙ rw (numbering.number_false word.now none) refl
outcome_of-selfrun_fault words (BadValue word) (inr (first, number, rest, spells, has, none)) = ap outcome_of spells ∙ rw (numbering.number_true first number has, numbering.steps_false word.now none) refl
outcome_of-selfrun_fault words (UnknownWord word) (first, second, number, steps, rest, spells, has, more) = ap outcome_of spells ∙ rw (numbering.number_true first number has, numbering.steps_true second steps more) refl
outcome_of-selfrun_fault words fault h = absurd h

outcome_of-any_fault : (words : List (List ℕ)) (fault : UsageFault)
    → HasScoreFault words fault ⊎ HasDatabaseFault Merge words fault ⊎ HasDatabaseFault Report words fault ⊎ HasDatabaseFault Lcov words fault
    ⊎ HasDatabaseFault Rank words fault ⊎ HasDatabaseFault Exclude words fault ⊎ HasDatabaseFault Restore words fault ⊎ HasSelfrunFault words fault
    → outcome_of words ≡ Err (usage_text fault)
outcome_of-any_fault words fault (inl of_score) = outcome_of-score_fault words fault of_score
outcome_of-any_fault words fault (inr (inl of_merge)) = outcome_of-database_fault Merge words fault of_merge
outcome_of-any_fault words fault (inr (inr (inl of_report))) = outcome_of-database_fault Report words fault of_report
outcome_of-any_fault words fault (inr (inr (inr (inl of_lcov)))) = outcome_of-database_fault Lcov words fault of_lcov
outcome_of-any_fault words fault (inr (inr (inr (inr (inl of_rank))))) = outcome_of-database_fault Rank words fault of_rank
outcome_of-any_fault words fault (inr (inr (inr (inr (inr (inl of_exclude)))))) = outcome_of-database_fault Exclude words fault of_exclude
outcome_of-any_fault words fault (inr (inr (inr (inr (inr (inr (inl of_restore))))))) = outcome_of-database_fault Restore words fault of_restore
outcome_of-any_fault words fault (inr (inr (inr (inr (inr (inr (inr of_selfrun))))))) = outcome_of-selfrun_fault words fault of_selfrun

no_name : (word name : List ℕ) → (word ≡ name → ⊥) → bytes_eq word name ≡ false
no_name word name other = false_from_ne_true (bytes_eq word name) (λ e. other ((bytes_eq-Decides word name).0 e))

-- a fault is what the words come to
pub outcome_of-fault : (words : List (List ℕ)) (fault : UsageFault) → HasUsageFault words fault → outcome_of words ≡ Err (usage_text fault)
outcome_of-fault words NoCommand h = ap outcome_of h
outcome_of-fault words (UnknownCommand word) h =
    let other = no_name word.now in
    ap outcome_of h.0.1
    ∙ rw (other (codes "score") h.1.0, other (codes "merge") h.1.1, other (codes "report") h.1.2, other (codes "lcov") h.1.3, other (codes "rank") h.1.4, other (codes "exclude") h.1.5, other (codes "restore") h.1.6, other (codes "selfrun") h.1.7)
outcome_of-fault words fault h = outcome_of-any_fault words fault h

-- all that a command needs was given
is_some_value : (values : List (List ℕ)) → (values ≡ [] → ⊥) → (length values == 0) ≡ false
is_some_value [] some = absurd (some refl)
is_some_value (value ∷ values) some = not_empty value values

score_end : (given : List GivenOption) (values : ScoreValues) → AreValues given values → scoring.outcome given [] ≡ Ok given
score_end given values are =
    let source : is_absent given Source ≡ false = ap (λ values. length values == 0) are.sources ∙ is_some_value values.sources are.some in
    rw (are.top, are.instance, source, are.dump, are.output)

several_files : (output first : List ℕ) (others : List (List ℕ)) → (others ≡ [] → ⊥) → missing_of_merge (Some output) (first ∷ others) ≡ None
several_files output first [] some = absurd (some refl)
several_files output first (second ∷ others) some = refl

merge_end : (read : List Item) (values : MergeValues) → AreMergeValues read values → missing_in Merge read ≡ None
merge_end read values are = rw (are.output, are.files) (several_files values.output values.first values.others are.several)

report_end : (read : List Item) (values : ReportValues) → AreReportValues read values → missing_in Report read ≡ None
report_end read values are = rw are.file

lcov_end : (read : List Item) (values : LcovValues) → AreLcovValues read values → missing_in Lcov read ≡ None
lcov_end read values are = rw (are.output, are.file)

rank_end : (read : List Item) (values : RankValues) → AreRankValues read values → missing_in Rank read ≡ None
rank_end read values are = rw are

last_some : (before : Option (List ℕ)) (values : List (List ℕ)) → (values ≡ [] → ⊥) → (value : List ℕ) × (last_or before values ≡ Some value)
last_some before [] some = absurd (some refl)
last_some before (value ∷ []) some = (value, refl)
last_some before (first ∷ value ∷ values) some = last_some (Some first) (value ∷ values) (λ e. cc)

points_end : (read : List Item) (values : PointValues) → ArePointValues read values → missing_of_points (value_in read Output) (value_in read Point) (files_in read) ≡ None
points_end read values are =
    let point = last_some None values.addresses are.some in
    let is : value_in read Point ≡ Some point.0 = ap (last_or None) are.addresses ∙ point.1 in
    rw (are.output, is, are.file)

-- a command's words come to its options or items
pub outcome_of-score : (words : List (List ℕ)) (values : ScoreValues) (is : IsScore words values) → outcome_of words ≡ Ok (options is.0)
outcome_of-score words values is = ap outcome_of is.1.spells ∙ ap (mapped options) (scoring.outcome-up_to is.0 [] is.1.are_given ∙ score_end is.0 values is.2)

pub outcome_of-merge : (words : List (List ℕ)) (values : MergeValues) (is : IsMerge words values) → outcome_of words ≡ Ok (items Merge is.0)
outcome_of-merge words values is = outcome_of-items Merge words is.0 [] is.1 ∙ ap (mapped (items Merge)) (ap (database.at_end is.0) (merge_end is.0 values is.2))

pub outcome_of-report : (words : List (List ℕ)) (values : ReportValues) (is : IsReport words values) → outcome_of words ≡ Ok (items Report is.0)
outcome_of-report words values is = outcome_of-items Report words is.0 [] is.1 ∙ ap (mapped (items Report)) (ap (database.at_end is.0) (report_end is.0 values is.2))

pub outcome_of-lcov : (words : List (List ℕ)) (values : LcovValues) (is : IsLcov words values) → outcome_of words ≡ Ok (items Lcov is.0)
outcome_of-lcov words values is = outcome_of-items Lcov words is.0 [] is.1 ∙ ap (mapped (items Lcov)) (ap (database.at_end is.0) (lcov_end is.0 values is.2))

pub outcome_of-rank : (words : List (List ℕ)) (values : RankValues) (is : IsRank words values) → outcome_of words ≡ Ok (items Rank is.0)
outcome_of-rank words values is = outcome_of-items Rank words is.0 [] is.1 ∙ ap (mapped (items Rank)) (ap (database.at_end is.0) (rank_end is.0 values is.2))

pub outcome_of-exclude : (words : List (List ℕ)) (values : PointValues) (is : IsExclude words values) → outcome_of words ≡ Ok (items Exclude is.0)
outcome_of-exclude words values is = outcome_of-items Exclude words is.0 [] is.1 ∙ ap (mapped (items Exclude)) (ap (database.at_end is.0) (points_end is.0 values is.2))

pub outcome_of-restore : (words : List (List ℕ)) (values : PointValues) (is : IsRestore words values) → outcome_of words ≡ Ok (items Restore is.0)
outcome_of-restore words values is = outcome_of-items Restore words is.0 [] is.1 ∙ ap (mapped (items Restore)) (ap (database.at_end is.0) (points_end is.0 values is.2))

pub outcome_of-selfrun : (words : List (List ℕ)) (values : SelfrunWords) (is : IsSelfrun words values) → outcome_of words ≡ Ok (numbers values)
outcome_of-selfrun words values is = ap outcome_of is.spells ∙ ap (mapped numbers) (numbering.outcome-values is.first is.second values is.number is.steps)

-- so words that come to a command have no fault
pub command_without_fault : (words : List (List ℕ)) (values : CommandValues) (fault : UsageFault) → AreWordsOf values words → HasUsageFault words fault → ⊥
command_without_fault words (score values) fault is has = let e = sym (outcome_of-score words values is) ∙ outcome_of-fault words fault has in cc
command_without_fault words (merge values) fault is has = let e = sym (outcome_of-merge words values is) ∙ outcome_of-fault words fault has in cc
command_without_fault words (report values) fault is has = let e = sym (outcome_of-report words values is) ∙ outcome_of-fault words fault has in cc
command_without_fault words (lcov values) fault is has = let e = sym (outcome_of-lcov words values is) ∙ outcome_of-fault words fault has in cc
command_without_fault words (rank values) fault is has = let e = sym (outcome_of-rank words values is) ∙ outcome_of-fault words fault has in cc
command_without_fault words (exclude values) fault is has = let e = sym (outcome_of-exclude words values is) ∙ outcome_of-fault words fault has in cc
command_without_fault words (restore values) fault is has = let e = sym (outcome_of-restore words values is) ∙ outcome_of-fault words fault has in cc
command_without_fault words (selfrun values) fault is has = let e = sym (outcome_of-selfrun words values is) ∙ outcome_of-fault words fault has in cc
