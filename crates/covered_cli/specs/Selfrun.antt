-- What a `selfrun` command prints.
use Rattle.std.specs.Prelude.{◌≡◌, ◌+◌, ◌*◌, ◌≤◌, ℕ, true, List, [], ◌∷◌, All, length, map}
use Rattle.command_line.specs.declared.selfrun_words.SelfrunWords.{SelfrunWords}
use Rattle.cov_host.specs.Outside.{Appends, IsCounted, KeepsFiles, Outside, Told}
use Rattle.coverage_db.specs.declared.db.Db.{Db}
use Rattle.coverage_db.specs.declared.verdict.DbVerdict.{DbVerdict}
use Rattle.coverage_db.specs.declared.verdict.DbVerdict.TheVariants.{Undetermined}
use Rattle.design_model.specs.declared.design.Design.{Design}
use Rattle.event_machine.specs.Habit.{Free}
use Rattle.selfrun_files.specs.Files.{source_name}
use Rattle.selfrun_files.specs.Source.{source_text}
use Rattle.selfrun_files.specs.Text.{dump_text}
use Rattle.selfrun_print.specs.Print.{print_text}
use Rattle.selfrun_words.specs.Score.{selfrun_name}
use Rattle.source_design.specs.Accepted.{StandFor}
use Rattle.state_machines.specs.Machines.{no_machines}
use Rattle.vcd_reader.specs.Dump.{Dump, IsDump}
use Rattle.verilog_lexer.specs.Sources.{SourceText}
use Rattle.covered_cli.specs.Headline.{IsAccepted, IsListed, IsReasonedScore, IsSoundScore, Scored, scored_of}
use Rattle.covered_cli.specs.declared.selfrun_fault.SelfrunFault.{SelfrunFault}
use Rattle.covered_cli.specs.declared.selfrun_fault.SelfrunFault.TheVariants.{NoMemory, Print}

-- the number of steps is one of the command's
pub record AreSteps (values : SelfrunWords) : Type 0 where
  pub some : 1 ≤ values.steps
  pub within : values.steps ≤ 1000000

-- the source of the design
abbrev pub selfrun_source : SourceText
selfrun_source = record { name = source_name; bytes = source_text; root = true }

-- how many times the dump lists: two for each step, and one more
abbrev pub times_in : SelfrunWords → ℕ
times_in values = 2 * values.steps + 1

-- the verdict is hit or missed
abbrev pub IsDefinite : DbVerdict → Type 0
IsDefinite (Undetermined time path) = ⊥
IsDefinite other = Unit {0}

-- what the table is about: the design under the dump, by the free habit, without state machines
abbrev pub selfrun_of : Design → Dump → Db → Scored
selfrun_of design dump table = scored_of Free design no_machines dump selfrun_name table

-- The headline of the table, of the design of the text and the dump of the numbers: the dump is accepted; each point of the design is listed once; what is hit and what is
-- missed is so in every run that shows the dump; and no point is undetermined.
pub record IsSelfrunTable (values : SelfrunWords) (table : Db) : Type 0 where
  pub design : Design
  pub dump : Dump
  pub stands : StandFor (selfrun_source ∷ []) [] selfrun_name design
  pub is_dump : IsDump (dump_text values.number values.steps) dump
  pub times : map (λ stretch. length stretch) dump.stretches ≡ times_in values ∷ []  -- in one stretch
  pub accepted : IsAccepted (selfrun_of design dump table)
  pub listed : IsListed (selfrun_of design dump table)
  pub sound : IsSoundScore (selfrun_of design dump table)
  pub reasoned : IsReasonedScore (selfrun_of design dump table)
  pub definite : All (λ row. IsDefinite row.verdict) table.points

-- the text is that of the counts of such a table
abbrev pub IsSelfrunText : SelfrunWords → List ℕ → Type 0
IsSelfrunText values text = (table : Db) × IsSelfrunTable values table × (text ≡ print_text (times_in values) table)

-- the counts of such a table were printed, every file is as before, and nothing was warned
pub record IsSelfrunIn (values : SelfrunWords) (before after : Outside) : Type 0 where
  pub table : Db
  pub is_table : IsSelfrunTable values table
  pub printed : Told (Appends (print_text (times_in values) table)) before.printed after.printed
  pub files : KeepsFiles before after
  pub warned : after.warned ≡ before.warned

-- why nothing, or not all, was printed
abbrev pub IsSelfrunFault : Outside → Outside → SelfrunFault → Type 0
IsSelfrunFault before after Print = IsCounted before.faults after.faults
IsSelfrunFault before after NoMemory = Unit {0}
