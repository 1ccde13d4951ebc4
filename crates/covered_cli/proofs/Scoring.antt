-- From what was read to what a score says.
use Rattle.std.proofs.Common.{◌≡◌, ℕ, List, Option, None, Some, Ok, Err, sym, subst, ◌∙◌}
use Rattle.std.specs.Prelude.{IfErr, IfOk, IfSome, Result, OnOk}
use Rattle.command_line.specs.Command.{IsCommand, command_values}
use Rattle.command_line.specs.CommandWords.{ScoreValues}
use Rattle.command_line.specs.declared.command.Command.{Command}
use Rattle.cov_host.specs.Outside.{Outside, Files, KeepsFiles, SameFiles, Told, HasFile}
use Rattle.covered_cli.specs.Headline.{KeepsOthers}
use Rattle.covered_cli.specs.Fault.{IsDesignFault, IsDrawingFault, IsEarly, IsPointsFault, IsReadingFault, IsScoringFault, IsWritingFault, StandsIn}
use Rattle.covered_cli.specs.Scoring.{HasDesign, HasDump, HasSomeDesign, HasSomeScore, IsContradictedText, IsDone, IsDoneIn, IsDoneWork, IsDumpRefusal, IsScoredText, IsTableIn, names_of}
use Rattle.covered_cli.specs.declared.fault.Fault.{Fault}
use Rattle.covered_cli.specs.declared.fault.Fault.TheVariants.{Usage, Source, NoMachine, Points as PointsFault, Dump, Contradiction, Files as FilesFault, Memory, Databases, Selfrun}
use Rattle.cover_points.specs.declared.listing.Points.{Points}
use Rattle.design_model.specs.View.{design_view}
use Rattle.design_model.specs.declared.design.Design.{Design}
use Rattle.design_points.specs.Counted.{AreAllPoints}
use Rattle.source_design.specs.Accepted.{StandFor}
use Rattle.source_design.specs.Reading.{HasSources}
use Rattle.covered_cli.specs.ScoreMachines.{AreMachinesOf, habit_in}
use Rattle.state_machines.specs.Machines.{StateMachines}
use Rattle.covered_cli.specs.ScoreSources.{sources_in}
use Rattle.coverage_db.specs.Text.{text_of}
use Rattle.coverage_db.specs.declared.db.Db.{Db}
use Rattle.dump_score.specs.Reading.{IsFile}
use Rattle.dump_score.specs.Scoring.{IsScoreOfFile}
use Rattle.dump_score.specs.score_tables.Head.{HasHead}
use Rattle.verilog_lexer.specs.Sources.{SourceText}
use Rattle.whole_files.proofs.EffectLemmas.{Told-map, Told-trans}
use Rattle.whole_files.proofs.Refusals.{refused_earlier}
use Rattle.whole_files.specs.Effects.{CountsUp}
use Rattle.whole_files.specs.declared.call.Call.TheVariants.{OpenRead, Read, OpenWrite, Write, CloseWrite}

file_as_before : (name text : List ℕ) (before after : Option Files) → Told SameFiles before after → IfSome after (λ files. files name ≡ Some text) → IfSome before (λ files. files name ≡ Some text)
file_as_before name text None None same is = tt
file_as_before name text None (Some after) same is = absurd same
file_as_before name text (Some before) None same is = absurd same
file_as_before name text (Some before) (Some after) same is = sym (same name) ∙ is

-- a fault of the sources is a fault of the command
pub design_stands : (score : ScoreValues) (before after : Outside) (fault : Fault) → IsDesignFault score before after fault → StandsIn score before after fault
design_stands score before after (Usage usage) is = absurd is
design_stands score before after (Source f) is = is
design_stands score before after (NoMachine name) is = absurd is
design_stands score before after (PointsFault p) is = absurd is
design_stands score before after (Dump refusal) is = absurd is
design_stands score before after (Contradiction found) is = absurd is
design_stands score before after (FilesFault call file) is = absurd is
design_stands score before after Memory is = tt
design_stands score before after (Databases f) is = absurd is
design_stands score before after (Selfrun f) is = absurd is

-- the design has all points that were listed
abbrev pub has_listed : (score : ScoreValues) (before : Outside) (sources : List SourceText) (design : Design) (machines : StateMachines) (points : Points) → AreMachinesOf score (design_view design) machines → HasSources (sources_in score) before sources → StandFor sources (sources_in score).defines score.top design → AreAllPoints (design_view design) machines points → HasDesign score before sources design
has_listed score before sources design machines points are gathered stands all = record { gathered = gathered; stands = stands; machines = machines; are_machines = are; few = (points, all.listed, all.few) }

-- a fault of points is a fault of the command
pub points_stand : (score : ScoreValues) (before after : Outside) (sources : List SourceText) (design : Design) (machines : StateMachines) → AreMachinesOf score (design_view design) machines → HasSources (sources_in score) before sources → StandFor sources (sources_in score).defines score.top design → (fault : Fault) → IsPointsFault design machines fault → StandsIn score before after fault
points_stand score before after sources design machines are gathered stands (Usage usage) is = absurd is
points_stand score before after sources design machines are gathered stands (Source f) is = absurd is
points_stand score before after sources design machines are gathered stands (NoMachine name) is = absurd is
points_stand score before after sources design machines are gathered stands (PointsFault p) is = record { sources = sources; design = design; gathered = gathered; stands = stands; machines = machines; are_machines = are; is = is }
points_stand score before after sources design machines are gathered stands (Dump refusal) is = absurd is
points_stand score before after sources design machines are gathered stands (Contradiction found) is = absurd is
points_stand score before after sources design machines are gathered stands (FilesFault call file) is = absurd is
points_stand score before after sources design machines are gathered stands Memory is = absurd is
points_stand score before after sources design machines are gathered stands (Databases f) is = absurd is
points_stand score before after sources design machines are gathered stands (Selfrun f) is = absurd is

-- a fault of a machine that is drawn is a fault of the command
pub drawing_stands : (score : ScoreValues) (before after : Outside) (sources : List SourceText) (design : Design) → HasSources (sources_in score) before sources → StandFor sources (sources_in score).defines score.top design → (fault : Fault) → IsDrawingFault (design_view design) score.drawings fault → StandsIn score before after fault
drawing_stands score before after sources design gathered stands (Usage usage) is = absurd is
drawing_stands score before after sources design gathered stands (Source f) is = absurd is
drawing_stands score before after sources design gathered stands (NoMachine name) is = record { sources = sources; design = design; gathered = gathered; stands = stands; is = is }
drawing_stands score before after sources design gathered stands (PointsFault p) is = absurd is
drawing_stands score before after sources design gathered stands (Dump refusal) is = absurd is
drawing_stands score before after sources design gathered stands (Contradiction found) is = absurd is
drawing_stands score before after sources design gathered stands (FilesFault call file) is = absurd is
drawing_stands score before after sources design gathered stands Memory is = tt
drawing_stands score before after sources design gathered stands (Databases f) is = absurd is
drawing_stands score before after sources design gathered stands (Selfrun f) is = absurd is

-- a fault of a file is a fault of the command
reading_stands : (score : ScoreValues) (before middle after : Outside) → HasSomeDesign score before → KeepsFiles before middle → CountsUp before middle → CountsUp middle after → (fault : Fault) → IsReadingFault score.dump middle after fault → StandsIn score before after fault
reading_stands score before middle after has kept first second (Usage usage) is = absurd is
reading_stands score before middle after has kept first second (Source f) is = absurd is
reading_stands score before middle after has kept first second (NoMachine name) is = absurd is
reading_stands score before middle after has kept first second (PointsFault p) is = absurd is
reading_stands score before middle after has kept first second (Dump refusal) is = absurd is
reading_stands score before middle after has kept first second (Contradiction found) is = absurd is
reading_stands score before middle after has kept first second (FilesFault OpenRead file) is = (is.0, refused_earlier before middle after first second kept OpenRead file.now is.1, has, tt)
reading_stands score before middle after has kept first second (FilesFault Read file) is = (is.0, refused_earlier before middle after first second kept Read file.now is.1, has, tt)
reading_stands score before middle after has kept first second (FilesFault OpenWrite file) is = absurd is
reading_stands score before middle after has kept first second (FilesFault Write file) is = absurd is
reading_stands score before middle after has kept first second (FilesFault CloseWrite file) is = absurd is
reading_stands score before middle after has kept first second Memory is = tt
reading_stands score before middle after has kept first second (Databases f) is = absurd is
reading_stands score before middle after has kept first second (Selfrun f) is = absurd is

-- what holds of the design and of the dump that was read holds of those of the command
has_dump : (score : ScoreValues) (sources : List SourceText) (design : Design) (before middle : Outside) (P : Design → List ℕ → Type 0) → HasDesign score before sources design → KeepsFiles before middle → (text : List ℕ) × IsFile middle score.dump text × P design text → HasDump score before P
has_dump score sources design before middle P has kept is = record {
  sources = sources;
  text = is.0;
  design = design;
  has_design = has;
  is = file_as_before score.dump is.0 before.files middle.files kept is.1;
  holds = is.2;
}

-- a fault of the scoring is a fault of the command
pub scoring_stands : (score : ScoreValues) (sources : List SourceText) (design : Design) (before middle after : Outside) → HasDesign score before sources design → KeepsFiles before middle → CountsUp before middle → CountsUp middle after → (fault : Fault) → IsScoringFault score design middle after fault → StandsIn score before after fault
scoring_stands score sources design before middle after has kept first second (Dump refusal) is = has_dump score sources design before middle (λ d text. IsDumpRefusal d score.instance text refusal) has kept is
scoring_stands score sources design before middle after has kept first second (Contradiction found) is = has_dump score sources design before middle (λ d text. IsContradictedText (habit_in score) d score.instance text found) has kept is
scoring_stands score sources design before middle after has kept first second (Usage usage) is = reading_stands score before middle after (sources, design, has) kept first second (Usage usage) is
scoring_stands score sources design before middle after has kept first second (NoMachine name) is = absurd is
scoring_stands score sources design before middle after has kept first second (PointsFault p) is = absurd is
scoring_stands score sources design before middle after has kept first second (Source f) is = reading_stands score before middle after (sources, design, has) kept first second (Source f) is
scoring_stands score sources design before middle after has kept first second (FilesFault call file) is = reading_stands score before middle after (sources, design, has) kept first second (FilesFault call file) is
scoring_stands score sources design before middle after has kept first second Memory is = tt
scoring_stands score sources design before middle after has kept first second (Databases f) is = absurd is
scoring_stands score sources design before middle after has kept first second (Selfrun f) is = absurd is

written_since : (name text : List ℕ) (before middle after : Option Files) → Told SameFiles before middle → Told (HasFile name text) middle after → Told (HasFile name text) before after
written_since name text None None None same written = tt
written_since name text None None (Some after) same written = absurd written
written_since name text None (Some middle) after same written = absurd same
written_since name text (Some before) None after same written = absurd same
written_since name text (Some before) (Some middle) None same written = absurd written
written_since name text (Some before) (Some middle) (Some after) same written = record { named = written.named; others = λ other apart. written.others other apart ∙ same other }

-- what was read and scored is the table of the command
pub is_table : (score : ScoreValues) (sources : List SourceText) (names : List (List ℕ)) (design : Design) (db : Db) (before middle : Outside) (has : HasDesign score before sources design) → names ≡ names_of sources → KeepsFiles before middle
    → IsScoreOfFile score.dump middle (habit_in score) design has.machines names score.instance db → IsTableIn score before db
is_table score sources names design db before middle has are_names kept scored = record {
  sources = sources;
  text = scored.text;
  design = design;
  dump = scored.dump;
  has_design = has;
  dump_is = file_as_before score.dump scored.text before.files middle.files kept scored.is;
  is_dump = scored.is_dump;
  scores = record {
    accepted = record { bound = scored.score.bound; forced = scored.score.forced };
    listed = record { table = scored.score.table; points = scored.score.listed };
    sound = scored.score.sound;
    reasoned = scored.score.reasoned;
    head = subst (λ ns. HasHead (design_view design) ns db) are_names scored.score.head;
    windows = scored.score.windows;
  };
}

-- its text is the one that the command asks for
pub table_is_scored : (score : ScoreValues) (before : Outside) (db : Db) (text : List ℕ) → IsTableIn score before db → text ≡ text_of db → IsScoredText score before text
table_is_scored score before db text table is_text = record {
  sources = table.sources;
  dump = table.text;
  design = table.design;
  has_design = table.has_design;
  dump_is = table.dump_is;
  scores = record { dump = table.dump; db = db; is_dump = table.is_dump; scores = table.scores; is_text = is_text };
}

-- where it was written, what the command asks for was done
pub score_is_done : (score : ScoreValues) (text : List ℕ) (before later after : Outside) → IsScoredText score before text → KeepsFiles before later → Told (HasFile score.output text) later.files after.files → IsDoneIn score before after
score_is_done score text before later after scored same written = record { text = text; scored = scored; written = written_since score.output text before.files later.files after.files same written }

-- what the command asks for is what the words ask for
pub command_is_done : (words : List (List ℕ)) (command : Command) (before after : Outside) → IsCommand words command → IsDoneWork command before after → IsDone words before after
command_is_done words command before after is done = (command_values command, is, done)

pub OnOk-map : {T E P Q : Type 0} (result : Result T E) → (P → Q) → OnOk result P → OnOk result Q
OnOk-map (Ok value) step holds = step holds
OnOk-map (Err fault) step holds = tt

pub IfOk-map : {T E : Type 0} {P Q : T → Type 0} (result : Result T E) → ((value : T) → P value → Q value) → IfOk result P → IfOk result Q
IfOk-map (Ok value) step holds = step value holds
IfOk-map (Err fault) step holds = tt

pub IfErr-map : {T E : Type 0} {P Q : E → Type 0} (result : Result T E) → ((fault : E) → P fault → Q fault) → IfErr result P → IfErr result Q
IfErr-map (Ok value) step holds = tt
IfErr-map (Err fault) step holds = step fault holds

-- what has a score has a design
some_design : (score : ScoreValues) (before : Outside) → HasSomeScore score before → HasSomeDesign score before
some_design score before has = (has.1.sources, has.1.design, has.1.has_design)

-- a fault of writing is a fault of the command
pub writing_stands : (score : ScoreValues) (before later after : Outside) → HasSomeScore score before → KeepsFiles before later → CountsUp before later → CountsUp later after → (fault : Fault) → IsWritingFault score.output later after fault → StandsIn score before after fault
writing_stands score before later after has kept first second (Usage usage) is = absurd is
writing_stands score before later after has kept first second (Source f) is = absurd is
writing_stands score before later after has kept first second (NoMachine name) is = absurd is
writing_stands score before later after has kept first second (PointsFault p) is = absurd is
writing_stands score before later after has kept first second (Dump refusal) is = absurd is
writing_stands score before later after has kept first second (Contradiction found) is = absurd is
writing_stands score before later after has kept first second (FilesFault OpenRead file) is = absurd is
writing_stands score before later after has kept first second (FilesFault Read file) is = absurd is
writing_stands score before later after has kept first second (FilesFault OpenWrite file) is = (is.0, refused_earlier before later after first second kept OpenWrite file.now is.1, some_design score before has, has)
writing_stands score before later after has kept first second (FilesFault Write file) is = (is.0, refused_earlier before later after first second kept Write file.now is.1, some_design score before has, has)
writing_stands score before later after has kept first second (FilesFault CloseWrite file) is = (is.0, refused_earlier before later after first second kept CloseWrite file.now is.1, some_design score before has, has)
writing_stands score before later after has kept first second Memory is = tt
writing_stands score before later after has kept first second (Databases f) is = absurd is
writing_stands score before later after has kept first second (Selfrun f) is = absurd is

-- a fault of writing comes when the output was opened, or might have been
pub writing_is_late : (name : List ℕ) (before after : Outside) (fault : Fault) → IsWritingFault name before after fault → IsEarly fault → ⊥
writing_is_late name before after (Usage usage) is early = is
writing_is_late name before after (Source f) is early = is
writing_is_late name before after (NoMachine other) is early = is
writing_is_late name before after (PointsFault p) is early = is
writing_is_late name before after (Dump refusal) is early = is
writing_is_late name before after (Contradiction found) is early = is
writing_is_late name before after (FilesFault OpenRead file) is early = is
writing_is_late name before after (FilesFault Read file) is early = is
writing_is_late name before after (FilesFault OpenWrite file) is early = early
writing_is_late name before after (FilesFault Write file) is early = early
writing_is_late name before after (FilesFault CloseWrite file) is early = early
writing_is_late name before after Memory is early = early
writing_is_late name before after (Databases f) is early = is
writing_is_late name before after (Selfrun f) is early = is

-- files that are all as before are so except for one
pub others_kept : (name : List ℕ) (before after : Option Files) → Told SameFiles before after → Told (KeepsOthers name) before after
others_kept name before after same = Told-map before after (λ old new kept other apart. kept other) same

pub others_kept_since : (name : List ℕ) (before later after : Option Files) → Told SameFiles before later → Told (KeepsOthers name) later after → Told (KeepsOthers name) before after
others_kept_since name before later after same kept = Told-trans before later after (λ old middle new first second other apart. second other apart ∙ first other) same kept
