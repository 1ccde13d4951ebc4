use Rattle.std.proofs.Common.{◌≡◌, ◌∙◌, ℕ, List, ◌∷◌, Result, Ok, Err, ap, sym, subst, inl, inr, codes}
use Rattle.std.specs.Prelude.{IfErr, IfOk}
use Rattle.std.specs.Result.{IsOkAnd, MatchResult}
use Rattle.command_line.specs.Command.{IsCommand}
use Rattle.command_line.specs.CommandWords.{IsScore, score_values}
use Rattle.command_line.specs.DatabaseFault.{HasDatabaseFault}
use Rattle.command_line.specs.DatabaseWords.{IsMerge, IsReport, merge_values, report_values}
use Rattle.command_line.specs.LcovWords.{IsLcov, lcov_values}
use Rattle.command_line.specs.PointWords.{IsExclude, IsRestore, point_values}
use Rattle.command_line.specs.RankWords.{IsRank, rank_values}
use Rattle.command_line.specs.UsageFault.{HasScoreFault, HasUsageFault}
use Rattle.command_line.specs.WordsLeft.{left_words}
use Rattle.command_line.specs.declared.database_command.DatabaseCommand.TheVariants.{Merge, Report, Lcov, Rank, Exclude, Restore}
use Rattle.command_line.specs.declared.usage_fault.UsageFault.{UsageFault}
use Rattle.command_line.specs.declared.usage_fault.UsageFault.TheVariants.{NoCommand, UnknownCommand}
use Rattle.command_line.proofs.command.read_command.Goals as goal

-- what holds of a value gives what holds of the value that it is mapped to
IfOk-mapped : {A B E : Type 0} (P : A → Type 0) (Q : A → B → Type 0) (R : B → Type 0) (before : Result A E) (after : Result B E) → IfOk before P → MatchResult before (λ a. IsOkAnd after (Q a)) (λ e. after ≡ Err e) → ((a : A) (b : B) → P a → Q a b → R b) → IfOk after R
IfOk-mapped P Q R (Ok a) (Ok b) holds mapped gives = gives a b holds mapped
IfOk-mapped P Q R (Ok a) (Err e) holds mapped gives = tt
IfOk-mapped P Q R (Err e) after holds mapped gives = subst (λ r. IfOk r R) (sym mapped) tt

-- what holds of a fault holds of it where the value was mapped
IfErr-mapped : {A B E : Type 0} (P : E → Type 0) (Q : A → B → Type 0) (R : E → Type 0) (before : Result A E) (after : Result B E) → IfErr before P → MatchResult before (λ a. IsOkAnd after (Q a)) (λ e. after ≡ Err e) → ((e : E) → P e → R e) → IfErr after R
IfErr-mapped P Q R (Ok a) (Ok b) holds mapped gives = tt
IfErr-mapped P Q R (Ok a) (Err e) holds mapped gives = absurd mapped
IfErr-mapped P Q R (Err e) after holds mapped gives = subst (λ r. IfErr r R) (sym mapped) (gives e holds)

-- the fault of one command is one of the words
score_fault : (words : List (List ℕ)) (fault : UsageFault) → HasScoreFault words fault → HasUsageFault words fault
score_fault words NoCommand has = absurd has.3
score_fault words (UnknownCommand word) has = absurd has.3
score_fault words fault has = inl has

merge_fault : (words : List (List ℕ)) (fault : UsageFault) → HasDatabaseFault Merge words fault → HasUsageFault words fault
merge_fault words NoCommand has = absurd has.3
merge_fault words (UnknownCommand word) has = absurd has.3
merge_fault words fault has = inr (inl has)

report_fault : (words : List (List ℕ)) (fault : UsageFault) → HasDatabaseFault Report words fault → HasUsageFault words fault
report_fault words NoCommand has = absurd has.3
report_fault words (UnknownCommand word) has = absurd has.3
report_fault words fault has = inr (inr (inl has))

lcov_fault : (words : List (List ℕ)) (fault : UsageFault) → HasDatabaseFault Lcov words fault → HasUsageFault words fault
lcov_fault words NoCommand has = absurd has.3
lcov_fault words (UnknownCommand word) has = absurd has.3
lcov_fault words fault has = inr (inr (inr (inl has)))

rank_fault : (words : List (List ℕ)) (fault : UsageFault) → HasDatabaseFault Rank words fault → HasUsageFault words fault
rank_fault words NoCommand has = absurd has.3
rank_fault words (UnknownCommand word) has = absurd has.3
rank_fault words fault has = inr (inr (inr (inr (inl has))))

exclude_fault : (words : List (List ℕ)) (fault : UsageFault) → HasDatabaseFault Exclude words fault → HasUsageFault words fault
exclude_fault words NoCommand has = absurd has.3
exclude_fault words (UnknownCommand word) has = absurd has.3
exclude_fault words fault has = inr (inr (inr (inr (inr (inl has)))))

restore_fault : (words : List (List ℕ)) (fault : UsageFault) → HasDatabaseFault Restore words fault → HasUsageFault words fault
restore_fault words NoCommand has = absurd has.3
restore_fault words (UnknownCommand word) has = absurd has.3
restore_fault words fault has = inr (inr (inr (inr (inr (inr (inl has))))))

pub returns-in-Some-score-clause-command : goal.returns-in-Some-score-clause-command
returns-in-Some-score-clause-command c =
    let words : codes "score" ∷ left_words c.next_word.new.self ≡ c.args.words.now = ap (λ word. word ∷ left_words c.next_word.new.self) (sym c.in-Some-score.is-score) ∙ sym c.in-Some-score.ensures.word ∙ c.new-left.ensures in
    IfOk-mapped _ _ (IsCommand c.args.words.now) c.read_score.result c.map.result c.read_score.ensures.score c.map.ensures.cases
    (λ value command is mapped. subst (IsCommand c.args.words.now) (sym mapped) (subst (λ words. IsScore words (score_values value)) words is))

pub returns-in-Some-score-clause-fault : goal.returns-in-Some-score-clause-fault
returns-in-Some-score-clause-fault c =
    let words : codes "score" ∷ left_words c.next_word.new.self ≡ c.args.words.now = ap (λ word. word ∷ left_words c.next_word.new.self) (sym c.in-Some-score.is-score) ∙ sym c.in-Some-score.ensures.word ∙ c.new-left.ensures in
    IfErr-mapped _ _ (HasUsageFault c.args.words.now) c.read_score.result c.map.result c.read_score.ensures.fault c.map.ensures.cases
    (λ fault has. score_fault c.args.words.now fault (subst (λ words. HasScoreFault words fault) words has))

pub returns-in-Some-merge-clause-command : goal.returns-in-Some-merge-clause-command
returns-in-Some-merge-clause-command c =
    let words : codes "merge" ∷ left_words c.next_word.new.self ≡ c.args.words.now = ap (λ word. word ∷ left_words c.next_word.new.self) (sym c.in-Some-merge.is-merge) ∙ sym c.in-Some-merge.ensures.word ∙ c.new-left.ensures in
    IfOk-mapped _ _ (IsCommand c.args.words.now) c.read_merge.result c.map-in-Some-merge.result c.read_merge.ensures.merge c.map-in-Some-merge.ensures.cases
    (λ value command is mapped. subst (IsCommand c.args.words.now) (sym mapped) (subst (λ words. IsMerge words (merge_values value)) words is))

pub returns-in-Some-merge-clause-fault : goal.returns-in-Some-merge-clause-fault
returns-in-Some-merge-clause-fault c =
    let words : codes "merge" ∷ left_words c.next_word.new.self ≡ c.args.words.now = ap (λ word. word ∷ left_words c.next_word.new.self) (sym c.in-Some-merge.is-merge) ∙ sym c.in-Some-merge.ensures.word ∙ c.new-left.ensures in
    IfErr-mapped _ _ (HasUsageFault c.args.words.now) c.read_merge.result c.map-in-Some-merge.result c.read_merge.ensures.fault c.map-in-Some-merge.ensures.cases
    (λ fault has. merge_fault c.args.words.now fault (subst (λ words. HasDatabaseFault Merge words fault) words has))

pub returns-in-Some-report-clause-command : goal.returns-in-Some-report-clause-command
returns-in-Some-report-clause-command c =
    let words : codes "report" ∷ left_words c.next_word.new.self ≡ c.args.words.now = ap (λ word. word ∷ left_words c.next_word.new.self) (sym c.in-Some-report.is-report) ∙ sym c.in-Some-report.ensures.word ∙ c.new-left.ensures in
    IfOk-mapped _ _ (IsCommand c.args.words.now) c.read_report.result c.map-in-Some-report.result c.read_report.ensures.report c.map-in-Some-report.ensures.cases
    (λ value command is mapped. subst (IsCommand c.args.words.now) (sym mapped) (subst (λ words. IsReport words (report_values value)) words is))

pub returns-in-Some-report-clause-fault : goal.returns-in-Some-report-clause-fault
returns-in-Some-report-clause-fault c =
    let words : codes "report" ∷ left_words c.next_word.new.self ≡ c.args.words.now = ap (λ word. word ∷ left_words c.next_word.new.self) (sym c.in-Some-report.is-report) ∙ sym c.in-Some-report.ensures.word ∙ c.new-left.ensures in
    IfErr-mapped _ _ (HasUsageFault c.args.words.now) c.read_report.result c.map-in-Some-report.result c.read_report.ensures.fault c.map-in-Some-report.ensures.cases
    (λ fault has. report_fault c.args.words.now fault (subst (λ words. HasDatabaseFault Report words fault) words has))

pub returns-in-Some-lcov-clause-command : goal.returns-in-Some-lcov-clause-command
returns-in-Some-lcov-clause-command c =
    let words : codes "lcov" ∷ left_words c.next_word.new.self ≡ c.args.words.now = ap (λ word. word ∷ left_words c.next_word.new.self) (sym c.in-Some-lcov.is-lcov) ∙ sym c.in-Some-lcov.ensures.word ∙ c.new-left.ensures in
    IfOk-mapped _ _ (IsCommand c.args.words.now) c.read_lcov.result c.map-in-Some-lcov.result c.read_lcov.ensures.lcov c.map-in-Some-lcov.ensures.cases
    (λ value command is mapped. subst (IsCommand c.args.words.now) (sym mapped) (subst (λ words. IsLcov words (lcov_values value)) words is))

pub returns-in-Some-lcov-clause-fault : goal.returns-in-Some-lcov-clause-fault
returns-in-Some-lcov-clause-fault c =
    let words : codes "lcov" ∷ left_words c.next_word.new.self ≡ c.args.words.now = ap (λ word. word ∷ left_words c.next_word.new.self) (sym c.in-Some-lcov.is-lcov) ∙ sym c.in-Some-lcov.ensures.word ∙ c.new-left.ensures in
    IfErr-mapped _ _ (HasUsageFault c.args.words.now) c.read_lcov.result c.map-in-Some-lcov.result c.read_lcov.ensures.fault c.map-in-Some-lcov.ensures.cases
    (λ fault has. lcov_fault c.args.words.now fault (subst (λ words. HasDatabaseFault Lcov words fault) words has))

pub returns-in-Some-rank-clause-command : goal.returns-in-Some-rank-clause-command
returns-in-Some-rank-clause-command c =
    let words : codes "rank" ∷ left_words c.next_word.new.self ≡ c.args.words.now = ap (λ word. word ∷ left_words c.next_word.new.self) (sym c.in-Some-rank.is-rank) ∙ sym c.in-Some-rank.ensures.word ∙ c.new-left.ensures in
    IfOk-mapped _ _ (IsCommand c.args.words.now) c.read_rank.result c.map-in-Some-rank.result c.read_rank.ensures.rank c.map-in-Some-rank.ensures.cases
    (λ value command is mapped. subst (IsCommand c.args.words.now) (sym mapped) (subst (λ words. IsRank words (rank_values value)) words is))

pub returns-in-Some-rank-clause-fault : goal.returns-in-Some-rank-clause-fault
returns-in-Some-rank-clause-fault c =
    let words : codes "rank" ∷ left_words c.next_word.new.self ≡ c.args.words.now = ap (λ word. word ∷ left_words c.next_word.new.self) (sym c.in-Some-rank.is-rank) ∙ sym c.in-Some-rank.ensures.word ∙ c.new-left.ensures in
    IfErr-mapped _ _ (HasUsageFault c.args.words.now) c.read_rank.result c.map-in-Some-rank.result c.read_rank.ensures.fault c.map-in-Some-rank.ensures.cases
    (λ fault has. rank_fault c.args.words.now fault (subst (λ words. HasDatabaseFault Rank words fault) words has))

pub returns-in-Some-exclude-clause-command : goal.returns-in-Some-exclude-clause-command
returns-in-Some-exclude-clause-command c =
    let words : codes "exclude" ∷ left_words c.next_word.new.self ≡ c.args.words.now = ap (λ word. word ∷ left_words c.next_word.new.self) (sym c.in-Some-exclude.is-exclude) ∙ sym c.in-Some-exclude.ensures.word ∙ c.new-left.ensures in
    IfOk-mapped _ _ (IsCommand c.args.words.now) c.read_exclude.result c.map-in-Some-exclude.result c.read_exclude.ensures.exclude c.map-in-Some-exclude.ensures.cases
    (λ value command is mapped. subst (IsCommand c.args.words.now) (sym mapped) (subst (λ words. IsExclude words (point_values value)) words is))

pub returns-in-Some-exclude-clause-fault : goal.returns-in-Some-exclude-clause-fault
returns-in-Some-exclude-clause-fault c =
    let words : codes "exclude" ∷ left_words c.next_word.new.self ≡ c.args.words.now = ap (λ word. word ∷ left_words c.next_word.new.self) (sym c.in-Some-exclude.is-exclude) ∙ sym c.in-Some-exclude.ensures.word ∙ c.new-left.ensures in
    IfErr-mapped _ _ (HasUsageFault c.args.words.now) c.read_exclude.result c.map-in-Some-exclude.result c.read_exclude.ensures.fault c.map-in-Some-exclude.ensures.cases
    (λ fault has. exclude_fault c.args.words.now fault (subst (λ words. HasDatabaseFault Exclude words fault) words has))

pub returns-in-Some-restore-clause-command : goal.returns-in-Some-restore-clause-command
returns-in-Some-restore-clause-command c =
    let words : codes "restore" ∷ left_words c.next_word.new.self ≡ c.args.words.now = ap (λ word. word ∷ left_words c.next_word.new.self) (sym c.in-Some-restore.is-restore) ∙ sym c.in-Some-restore.ensures.word ∙ c.new-left.ensures in
    IfOk-mapped _ _ (IsCommand c.args.words.now) c.read_restore.result c.map-in-Some-restore.result c.read_restore.ensures.restore c.map-in-Some-restore.ensures.cases
    (λ value command is mapped. subst (IsCommand c.args.words.now) (sym mapped) (subst (λ words. IsRestore words (point_values value)) words is))

pub returns-in-Some-restore-clause-fault : goal.returns-in-Some-restore-clause-fault
returns-in-Some-restore-clause-fault c =
    let words : codes "restore" ∷ left_words c.next_word.new.self ≡ c.args.words.now = ap (λ word. word ∷ left_words c.next_word.new.self) (sym c.in-Some-restore.is-restore) ∙ sym c.in-Some-restore.ensures.word ∙ c.new-left.ensures in
    IfErr-mapped _ _ (HasUsageFault c.args.words.now) c.read_restore.result c.map-in-Some-restore.result c.read_restore.ensures.fault c.map-in-Some-restore.ensures.cases
    (λ fault has. restore_fault c.args.words.now fault (subst (λ words. HasDatabaseFault Restore words fault) words has))
