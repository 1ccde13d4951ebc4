-- What is true of each selfrun.
use Rattle.cov_host.specs.Outside.{Outside}
use Rattle.command_line.specs.declared.selfrun_words.SelfrunWords.{SelfrunWords}
use Rattle.coverage_db.specs.declared.db.Db.{Db}
use Rattle.selfrun_files.specs.Files.{HasTexts}
use Rattle.selfrun_words.specs.Score.{selfrun_score}
use Rattle.covered_cli.specs.Complete.{IsGoodScore}
use Rattle.covered_cli.specs.Scoring.{IsTableIn}
use Rattle.covered_cli.specs.Selfrun.{AreSteps, IsSelfrunTable}

-- Good law: the score of the two files is good.
abbrev pub GoodSelfrunLaw : Type 0
GoodSelfrunLaw = (values : SelfrunWords) (outside : Outside) → AreSteps values → HasTexts values.number values.steps outside → IsGoodScore selfrun_score outside

-- Table law: its table is one of the selfrun.
abbrev pub SelfrunTableLaw : Type 0
SelfrunTableLaw =
    (values : SelfrunWords) (outside : Outside) (table : Db) → AreSteps values → HasTexts values.number values.steps outside → IsTableIn selfrun_score outside table → IsSelfrunTable values table
