-- What a `rank` command prints.
use Rattle.std.specs.Prelude.{◌≡◌, ℕ, Bool, List, ◌∷◌, ◌++◌, length, map, All, Result, Ok, Err}
use Rattle.cov_host.specs.Outside.{Appends, IsCounted, Outside, Told}
use Rattle.coverage_db.specs.Merge.{SameDesign, merged}
use Rattle.coverage_db.specs.Table.{IsTable}
use Rattle.coverage_db.specs.declared.db.Db.{Db}
use Rattle.command_line.specs.RankWords.{RankValues}
use Rattle.test_ranking.specs.Hits.{hits_of}
use Rattle.test_ranking.specs.Print.{ranking_text}
use Rattle.test_ranking.specs.Ranking.{IsRanking}
use Rattle.test_ranking.specs.declared.ranking.Ranking.{Ranking}
use Rattle.whole_files.specs.Refusals.{IsRefused}
use Rattle.database_commands.specs.Complete.{HasTable, HaveTablesOf}
use Rattle.database_commands.specs.Faults.{ComesTo, IsJoinFault, IsNoTable, IsOtherDesign, IsReading}
use Rattle.database_commands.specs.Files.{HoldTables}
use Rattle.database_commands.specs.declared.fault.CommandFault.{CommandFault}
use Rattle.database_commands.specs.declared.fault.CommandFault.TheVariants.{Files, Print, Memory, NoDatabase, DesignsDiffer, Point}

-- the files of a ranking in the order of the words
abbrev pub ranked_files : RankValues → List (List ℕ)
ranked_files rank = rank.first ∷ rank.others

-- the files hold tables of one design, and these are the points of each that are hit
pub record AreHitsOf (rank : RankValues) (before : Outside) (sets : List (List Bool)) : Type 0 where
  pub first : Db
  pub others : List Db
  pub hold : HoldTables before (ranked_files rank) (first ∷ others)
  pub of_one : All (SameDesign first) others
  pub are : sets ≡ map hits_of (first ∷ others)

-- the files hold tables of one design, and this is their ranking
pub record IsRankingOf (rank : RankValues) (before : Outside) (ranking : Ranking) : Type 0 where
  pub first : Db
  pub others : List Db
  pub hold : HoldTables before (ranked_files rank) (first ∷ others)
  pub of_one : All (SameDesign first) others
  pub is : IsRanking (length first.points) (map hits_of (first ∷ others)) ranking

-- the files hold tables of one design, which have a ranking
abbrev pub HasRanking : RankValues → Outside → Type 0
HasRanking rank before = (ranking : Ranking) × IsRankingOf rank before ranking

-- the text is that of the ranking of the files
abbrev pub IsRankedText : RankValues → Outside → List ℕ → Type 0
IsRankedText rank before text = (ranking : Ranking) × IsRankingOf rank before ranking × (text ≡ ranking_text (ranked_files rank) ranking)

-- the text of the ranking of the files was printed
pub record IsRankedIn (rank : RankValues) (before after : Outside) : Type 0 where
  pub ranking : Ranking
  pub is : IsRankingOf rank before ranking
  pub printed : Told (Appends (ranking_text (ranked_files rank) ranking)) before.printed after.printed

-- the text is that of the ranking of tables of these files with these sets
abbrev pub IsTextOfRanking : List (List ℕ) → ℕ → List (List Bool) → List ℕ → Type 0
IsTextOfRanking files points sets text = (ranking : Ranking) × IsRanking points sets ranking × (text ≡ ranking_text files ranking)

-- the files before this one hold tables, of whatever designs
pub record IsReached (files : List (List ℕ)) (before : Outside) (file : List ℕ) : Type 0 where
  pub earlier : List (List ℕ)
  pub later : List (List ℕ)
  pub tables : List Db
  pub files_are : files ≡ earlier ++ file ∷ later
  pub hold : HoldTables before earlier tables

-- each file holds a table
abbrev pub AllHold : List (List ℕ) → Outside → Type 0
AllHold files before = (tables : List Db) × HoldTables before files tables

-- why a ranking was not printed: designs are compared when all files were read, and a text is printed only where the files have a ranking
abbrev pub IsRankFault : RankValues → Outside → Outside → CommandFault → Type 0
IsRankFault rank before after (Files call file) = IsReading call × IsReached (ranked_files rank) before file.now × IsRefused call file.now before after
IsRankFault rank before after Print = IsCounted before.faults after.faults × HasRanking rank before
IsRankFault rank before after Memory = Unit {0}
IsRankFault rank before after (NoDatabase file kind line) = IsReached (ranked_files rank) before file.now × IsNoTable file.now before kind line
IsRankFault rank before after (Point file fault address) = ⊥
IsRankFault rank before after (DesignsDiffer file line first other) =
    AllHold (ranked_files rank) before × ComesTo (ranked_files rank) before file.now × IsOtherDesign rank.first file.now before line first other

-- the files have tables of one design
abbrev pub IsGoodRank : RankValues → Outside → Type 0
IsGoodRank rank before = (first : Db) × HasTable before rank.first first × HaveTablesOf before first rank.others

-- ---- files one after the other

-- the merge of the tables before this one with this one, or why there is no such merge
abbrev pub IsJoined : Db → Db → List ℕ → Result Db CommandFault → Type 0
IsJoined table other name (Ok joined) = IsTable joined × SameDesign table other × (joined ≡ merged table other)
IsJoined table other name (Err fault) = IsJoinFault table other name fault
