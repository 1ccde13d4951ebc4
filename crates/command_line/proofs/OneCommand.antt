-- Words are one command at most.
use Rattle.std.proofs.Common.{◌≡◌, ◌∙◌, ℕ, Bool, true, false, List, [], ◌∷◌, Option, Some, None, refl, sym, ap, codes}
use Rattle.std.specs.List.{last_or}
use Rattle.std.specs.Str.{bytes_eq}
use Rattle.std.proofs.lemmas.Bool.{false≢true}
use Rattle.std.proofs.lemmas.Slice.Eq.{bytes_eq-Decides}
use Rattle.command_line.specs.declared.report_level.ReportLevel.{ReportLevel}
use Rattle.command_line.specs.declared.report_metrics.ReportMetrics.{ReportMetrics}
use Rattle.command_line.specs.Command.{AreWordsOf, CommandValues, score, merge, report, lcov, rank, exclude, restore, selfrun}
use Rattle.command_line.specs.CommandWords.{at_most_one, flag_values, AreValues, GivenOption, IsScore, ScoreValues}
use Rattle.command_line.specs.Define.{Define}
use Rattle.command_line.specs.DrawingWords.{DrawingNames}
use Rattle.command_line.specs.MachineWords.{MachineNames}
use Rattle.command_line.specs.DatabaseWords.{AreMergeValues, AreReportValues, IsMerge, IsReport, Item, MergeValues, ReportValues}
use Rattle.command_line.specs.LcovWords.{AreLcovValues, IsLcov, LcovValues}
use Rattle.command_line.specs.PointWords.{ArePointValues, IsExclude, IsRestore, PointValues}
use Rattle.command_line.specs.RankWords.{AreRankValues, IsRank, RankValues}
use Rattle.command_line.specs.SelfrunWords.{IsSelfrun}
use Rattle.command_line.specs.declared.selfrun_words.SelfrunWords.{SelfrunWords}
use Rattle.command_line.proofs.Outcome.{outcome_of-score, outcome_of-merge, outcome_of-report, outcome_of-lcov, outcome_of-rank, outcome_of-exclude, outcome_of-restore, outcome_of-selfrun}

-- the values as one
all_values : (top instance : List ℕ) (sources : List (List ℕ)) (defines : List Define) (folder : Option (List ℕ)) (dump output : List ℕ) (machines : List MachineNames) (drawings : List DrawingNames) (late : Bool) → ScoreValues
all_values top instance sources defines folder dump output machines drawings late =
    record { top = top; instance = instance; sources = sources; defines = defines; folder = folder; dump = dump; output = output; machines = machines; drawings = drawings; late = late }

last_of_one : (value : Option (List ℕ)) → last_or None (at_most_one value) ≡ value
last_of_one None = refl
last_of_one (Some value) = refl

one_flag : (a b : Bool) → flag_values a ≡ flag_values b → a ≡ b
one_flag true true e = refl
one_flag true false e = cc
one_flag false true e = cc
one_flag false false e = refl

-- options have one value each
one_values : (given : List GivenOption) (a b : ScoreValues) → AreValues given a → AreValues given b → a ≡ b
unfolding all_values
one_values given a b are_a are_b =
    let folder : a.folder ≡ b.folder = sym (last_of_one a.folder) ∙ ap (last_or None) (sym are_a.folder ∙ are_b.folder) ∙ last_of_one b.folder in
    let late : a.late ≡ b.late = one_flag a.late b.late (sym are_a.late ∙ are_b.late) in
    let e : all_values a.top a.instance a.sources a.defines a.folder a.dump a.output a.machines a.drawings a.late ≡ all_values b.top b.instance b.sources b.defines b.folder b.dump b.output b.machines b.drawings b.late = cc in e

pub one_command : (words : List (List ℕ)) (a b : ScoreValues) → IsScore words a → IsScore words b → a ≡ b
one_command words a b score_a score_b =
    let e = sym (outcome_of-score words a score_a) ∙ outcome_of-score words b score_b in
    let same : score_b.0 ≡ score_a.0 = cc in
    one_values score_a.0 a b score_a.2 (rw (same) at score_b.2)

merge_of : (output first : List ℕ) (others : List (List ℕ)) → MergeValues
merge_of output first others = record { output = output; first = first; others = others }

one_merge_values : (items : List Item) (a b : MergeValues) → AreMergeValues items a → AreMergeValues items b → a ≡ b
unfolding merge_of
one_merge_values items a b are_a are_b =
    let e : merge_of a.output a.first a.others ≡ merge_of b.output b.first b.others = cc in e

pub one_merge : (words : List (List ℕ)) (a b : MergeValues) → IsMerge words a → IsMerge words b → a ≡ b
one_merge words a b is_a is_b =
    let e = sym (outcome_of-merge words a is_a) ∙ outcome_of-merge words b is_b in
    let same : is_b.0 ≡ is_a.0 = cc in
    one_merge_values is_a.0 a b is_a.2 (rw (same) at is_b.2)

report_of : (file : List ℕ) (level : ReportLevel) (metrics : ReportMetrics) (by_instance covered : Bool) (output : Option (List ℕ)) → ReportValues
report_of file level metrics by_instance covered output = record { file = file; level = level; metrics = metrics; by_instance = by_instance; covered = covered; output = output }

one_report_values : (items : List Item) (a b : ReportValues) → AreReportValues items a → AreReportValues items b → a ≡ b
unfolding report_of
one_report_values items a b are_a are_b =
    let e : report_of a.file a.level a.metrics a.by_instance a.covered a.output ≡ report_of b.file b.level b.metrics b.by_instance b.covered b.output = cc in e

pub one_report : (words : List (List ℕ)) (a b : ReportValues) → IsReport words a → IsReport words b → a ≡ b
one_report words a b is_a is_b =
    let e = sym (outcome_of-report words a is_a) ∙ outcome_of-report words b is_b in
    let same : is_b.0 ≡ is_a.0 = cc in
    one_report_values is_a.0 a b is_a.2 (rw (same) at is_b.2)

lcov_of : (output file : List ℕ) → LcovValues
lcov_of output file = record { output = output; file = file }

one_lcov_values : (items : List Item) (a b : LcovValues) → AreLcovValues items a → AreLcovValues items b → a ≡ b
unfolding lcov_of
one_lcov_values items a b are_a are_b =
    let e : lcov_of a.output a.file ≡ lcov_of b.output b.file = cc in e

pub one_lcov : (words : List (List ℕ)) (a b : LcovValues) → IsLcov words a → IsLcov words b → a ≡ b
one_lcov words a b is_a is_b =
    let e = sym (outcome_of-lcov words a is_a) ∙ outcome_of-lcov words b is_b in
    let same : is_b.0 ≡ is_a.0 = cc in
    one_lcov_values is_a.0 a b is_a.2 (rw (same) at is_b.2)

rank_of : (first : List ℕ) (others : List (List ℕ)) → RankValues
rank_of first others = record { first = first; others = others }

one_rank_values : (items : List Item) (a b : RankValues) → AreRankValues items a → AreRankValues items b → a ≡ b
unfolding rank_of
one_rank_values items a b are_a are_b =
    let e : rank_of a.first a.others ≡ rank_of b.first b.others = cc in e

pub one_rank : (words : List (List ℕ)) (a b : RankValues) → IsRank words a → IsRank words b → a ≡ b
one_rank words a b is_a is_b =
    let e = sym (outcome_of-rank words a is_a) ∙ outcome_of-rank words b is_b in
    let same : is_b.0 ≡ is_a.0 = cc in
    one_rank_values is_a.0 a b is_a.2 (rw (same) at is_b.2)

points_of : (output : List ℕ) (addresses : List (List ℕ)) (file : List ℕ) → PointValues
points_of output addresses file = record { output = output; addresses = addresses; file = file }

one_point_values : (items : List Item) (a b : PointValues) → ArePointValues items a → ArePointValues items b → a ≡ b
unfolding points_of
one_point_values items a b are_a are_b =
    let e : points_of a.output a.addresses a.file ≡ points_of b.output b.addresses b.file = cc in e

pub one_exclude : (words : List (List ℕ)) (a b : PointValues) → IsExclude words a → IsExclude words b → a ≡ b
one_exclude words a b is_a is_b =
    let e = sym (outcome_of-exclude words a is_a) ∙ outcome_of-exclude words b is_b in
    let same : is_b.0 ≡ is_a.0 = cc in
    one_point_values is_a.0 a b is_a.2 (rw (same) at is_b.2)

pub one_restore : (words : List (List ℕ)) (a b : PointValues) → IsRestore words a → IsRestore words b → a ≡ b
one_restore words a b is_a is_b =
    let e = sym (outcome_of-restore words a is_a) ∙ outcome_of-restore words b is_b in
    let same : is_b.0 ≡ is_a.0 = cc in
    one_point_values is_a.0 a b is_a.2 (rw (same) at is_b.2)

pub one_selfrun : (words : List (List ℕ)) (a b : SelfrunWords) → IsSelfrun words a → IsSelfrun words b → a ≡ b
one_selfrun words a b is_a is_b = let e = sym (outcome_of-selfrun words a is_a) ∙ outcome_of-selfrun words b is_b in cc

-- ---- words of one kind of command are not those of another kind

-- the word that the command begins with
name_of : CommandValues → List ℕ
name_of (score values) = codes "score"
name_of (merge values) = codes "merge"
name_of (report values) = codes "report"
name_of (lcov values) = codes "lcov"
name_of (rank values) = codes "rank"
name_of (exclude values) = codes "exclude"
name_of (restore values) = codes "restore"
name_of (selfrun values) = codes "selfrun"

first_word : List (List ℕ) → List ℕ
first_word [] = []
first_word (word ∷ words) = word

named_by_first : (words : List (List ℕ)) (values : CommandValues) → AreWordsOf values words → first_word words ≡ name_of values
unfolding name_of first_word
named_by_first words (score values) is = ap first_word is.1.spells
named_by_first words (merge values) is = ap first_word is.1.spells
named_by_first words (report values) is = ap first_word is.1.spells
named_by_first words (lcov values) is = ap first_word is.1.spells
named_by_first words (rank values) is = ap first_word is.1.spells
named_by_first words (exclude values) is = ap first_word is.1.spells
named_by_first words (restore values) is = ap first_word is.1.spells
named_by_first words (selfrun values) is = ap first_word is.spells

one_of_name : (words : List (List ℕ)) (a b : CommandValues) → bytes_eq (name_of a) (name_of b) ≡ true → AreWordsOf a words → AreWordsOf b words → a ≡ b
unfolding name_of
one_of_name words (score a) (score b) same is_a is_b = ap score (one_command words a b is_a is_b)
one_of_name words (merge a) (merge b) same is_a is_b = ap merge (one_merge words a b is_a is_b)
one_of_name words (report a) (report b) same is_a is_b = ap report (one_report words a b is_a is_b)
one_of_name words (lcov a) (lcov b) same is_a is_b = ap lcov (one_lcov words a b is_a is_b)
one_of_name words (rank a) (rank b) same is_a is_b = ap rank (one_rank words a b is_a is_b)
one_of_name words (exclude a) (exclude b) same is_a is_b = ap exclude (one_exclude words a b is_a is_b)
one_of_name words (restore a) (restore b) same is_a is_b = ap restore (one_restore words a b is_a is_b)
one_of_name words (selfrun a) (selfrun b) same is_a is_b = ap selfrun (one_selfrun words a b is_a is_b)
one_of_name words a b same is_a is_b = absurd (false≢true same)

pub one_of_all : (words : List (List ℕ)) (a b : CommandValues) → AreWordsOf a words → AreWordsOf b words → a ≡ b
one_of_all words a b is_a is_b =
    one_of_name words a b ((bytes_eq-Decides (name_of a) (name_of b)).1 (sym (named_by_first words a is_a) ∙ named_by_first words b is_b)) is_a is_b
