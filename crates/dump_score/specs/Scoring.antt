-- What is read of a dump and scored.
use Rattle.std.specs.Prelude.{◌≡◌, ◌⊎◌, ◌<◌, ◌≤◌, ℕ, false, List, [], ◌∷◌, ◌++◌, length, slice_range}
use Rattle.cov_host.specs.Outside.{Outside}
use Rattle.cover_points.specs.declared.listing.Points.{Points}
use Rattle.coverage_db.specs.Table.{IsTable}
use Rattle.coverage_db.specs.declared.db.Db.{Db}
use Rattle.design_model.specs.Clear.{IsForced}
use Rattle.design_model.specs.Design.{Design as Tree, signal_bits}
use Rattle.cover_points.specs.design_machines.state_machines.Machines.{StateMachines}
use Rattle.design_model.specs.Shows.{BoundDump}
use Rattle.design_model.specs.View.{design_view}
use Rattle.design_model.specs.declared.design.Design.{Design}
use Rattle.dump_replay.specs.Followed.{HasFollowed}
use Rattle.dump_replay.specs.declared.replay.DumpReplay.{DumpReplay}
use Rattle.entry_laws.specs.Entries.{AreEntries}
use Rattle.event_machine.specs.Habit.{Habit}
use Rattle.four_state.specs.declared.bit.Bit.{Bit}
use Rattle.dump_replay.specs.score_tables.Head.{HasHead}
use Rattle.dump_replay.specs.score_tables.Windows.{windows_of}
use Rattle.dump_replay.specs.shown_dumps.Rounds.{ByLastRounds}
use Rattle.dump_replay.specs.table_laws.Rows.{ListsPoints}
use Rattle.dump_replay.specs.verdict_laws.Reasoned.{IsReasoned}
use Rattle.dump_replay.specs.verdict_laws.Sound.{IsSound}
use Rattle.dump_replay.specs.shown_dumps.Bound.{IsBound}
use Rattle.dump_replay.specs.shown_dumps.Shown.{bound_dump}
use Rattle.vcd_reader.specs.Dump.{Dump, IsDump}
use Rattle.vcd_reader.specs.Order.{AreOrdered}
use Rattle.vcd_reader.specs.Pieces.{BodyHasEnded, BodyHasRead, Splits, body_at_end}
use Rattle.vcd_reader.specs.Reading.{Body}
use Rattle.vcd_reader.specs.Text.{EndsAs}
use Rattle.vcd_reader.specs.declared.body.Body.{Body as BodyRow}
use Rattle.vcd_reader.specs.declared.entry.Entry.{Entry}
use Rattle.vcd_reader.specs.declared.entry.Entry.TheVariants as entry
use Rattle.vcd_reader.specs.declared.item.Item.{Item}
use Rattle.vcd_reader.specs.declared.item.Item.TheVariants as item
use Rattle.vcd_reader.specs.declared.vars.Var.{Var}
use Rattle.dump_score.specs.Reading.{HasReadFile, IsFile}
use Rattle.dump_score.specs.declared.header.Opened.{Opened}
use Rattle.dump_score.specs.declared.header.Span.{Span}

-- what a step says
abbrev pub entries_of : Item → List Entry
entries_of (item.Time time) = entry.Time time ∷ []
entries_of (item.Value code value) = entry.Value code value ∷ []
entries_of item.Off = entry.Off ∷ []
entries_of (item.On time) = entry.On time ∷ []
entries_of item.More = []
entries_of item.End = []

-- the replay was given entries of a dump, and this is what the dump says next
abbrev pub CanSay : DumpReplay → Item → Type 0
CanSay replay says =
    (habit : Habit) × (design : Design) × (points : Points) × (vars : List Var) × (instance : List ℕ) × (entries : List Entry)
    × HasFollowed replay habit design points vars instance entries × AreEntries vars (entries ++ entries_of says) × AreOrdered (entries ++ entries_of says)

-- the body goes on
abbrev pub IsReading : BodyRow → Type 0
IsReading body = (text : List ℕ) × (b : Body) × BodyHasRead body text b

-- the text was read, and the replay was given what it says
pub record IsScoring (body : BodyRow) (replay : DumpReplay) (habit : Habit) (design : Design) (points : Points) (vars : List Var) (instance text : List ℕ) : Type 0 where
  pub b : Body
  pub stands : BodyHasRead body text b
  pub vars_are : b.vars ≡ vars
  pub followed : HasFollowed replay habit design points vars instance b.items

-- some text was read so
abbrev pub IsScoringSome : BodyRow → DumpReplay → Type 0
IsScoringSome body replay =
    (habit : Habit) × (design : Design) × (points : Points) × (vars : List Var) × (instance : List ℕ) × (text : List ℕ) × IsScoring body replay habit design points vars instance text

-- the same for a text that may have ended
pub record CanEnd (body : BodyRow) (replay : DumpReplay) (habit : Habit) (design : Design) (points : Points) (vars : List Var) (instance text : List ℕ) : Type 0 where
  pub b : Body
  pub stands : BodyHasRead body text b ⊎ BodyHasEnded body text b
  pub vars_are : b.vars ≡ vars
  pub followed : HasFollowed replay habit design points vars instance b.items

-- some text was read so
abbrev pub CanEndSome : BodyRow → DumpReplay → Type 0
CanEndSome body replay =
    (habit : Habit) × (design : Design) × (points : Points) × (vars : List Var) × (instance : List ℕ) × (text : List ℕ) × CanEnd body replay habit design points vars instance text

-- the text is a dump, and the replay was given what it says
pub record HasScored (replay : DumpReplay) (habit : Habit) (design : Design) (points : Points) (vars : List Var) (instance text : List ℕ) : Type 0 where
  pub b : Body
  pub ends : EndsAs text b
  pub vars_are : b.vars ≡ vars
  pub followed : HasFollowed replay habit design points vars instance b.items

-- the whole file was read, and the replay was given what it says, without its last word
abbrev pub ScoresOn : List ℕ → Outside → BodyRow → DumpReplay → Habit → Design → Points → List Var → List ℕ → Type 0
ScoresOn name before body replay habit design points vars instance = (text : List ℕ) × IsFile before name text × CanEnd body replay habit design points vars instance text

-- the bytes of a piece that were read and are after the header
abbrev pub behind : Span → List ℕ → List ℕ
behind span piece = slice_range piece span.used span.count

-- a header was read from a file, and what follows it in the last piece was not
pub record HasOpened (name : List ℕ) (before now : Outside) (piece : List ℕ) (opened : Opened) : Type 0 where
  pub front : List ℕ
  pub used_within : opened.span.used ≤ opened.span.count
  pub count_within : opened.span.count ≤ length piece
  pub file : HasReadFile name before now (front ++ behind opened.span piece)
  pub at_is : opened.span.at ≡ length (front ++ behind opened.span piece)
  pub splits : Splits opened.vars opened.body front
  pub goes_on : 0 < opened.span.count → body_at_end opened.body ≡ false
  pub ended : opened.span.count ≡ 0 → IsFile before name front

-- the same once the design was bound
pub record IsOpen (name : List ℕ) (before now : Outside) (piece : List ℕ) (span : Span) (body : BodyRow) (replay : DumpReplay) (habit : Habit) (design : Design) (points : Points) (vars : List Var) (instance : List ℕ) : Type 0 where
  pub front : List ℕ
  pub file : HasReadFile name before now (front ++ behind span piece)
  pub at_is : span.at ≡ length (front ++ behind span piece)
  pub goes_on : 0 < span.count → IsScoring body replay habit design points vars instance front
  pub ended : span.count ≡ 0 → IsFile before name front × CanEnd body replay habit design points vars instance front

-- at no listed time before the last of its stretch a bound signal has a forced value other than the dump's
abbrev pub AreForced : Habit → Tree → BoundDump → Type 0
AreForced h d dump = (t s : ℕ) (bits : List Bit) → IsForced d h dump t s bits → signal_bits d (dump.values t) s ≡ bits

-- the design is bound to the dump, no forced value differs from the dump's, and the table lists the points of the design with these state machines and is sound and reasoned under the dump
pub record IsScoreUnder (habit : Habit) (design : Design) (machines : StateMachines) (dump : Dump) (sources : List (List ℕ)) (instance : List ℕ) (db : Db) : Type 0 where
  pub bound : IsBound design dump instance
  pub forced : ByLastRounds (design_view design) (bound_dump design dump instance) (AreForced habit (design_view design))
  pub table : IsTable db
  pub head : HasHead (design_view design) sources db
  pub listed : ListsPoints (design_view design) machines db
  pub sound : ByLastRounds (design_view design) (bound_dump design dump instance) (λ said. IsSound (design_view design) habit said machines db)
  pub reasoned : ByLastRounds (design_view design) (bound_dump design dump instance) (λ said. IsReasoned (design_view design) habit said machines db)
  pub windows : db.windows ≡ windows_of (bound_dump design dump instance).stretches

-- so it is under the dump in the file
pub record IsScoreOfFile (name : List ℕ) (before : Outside) (habit : Habit) (design : Design) (machines : StateMachines) (sources : List (List ℕ)) (instance : List ℕ) (db : Db) : Type 0 where
  pub text : List ℕ
  pub dump : Dump
  pub is : IsFile before name text
  pub is_dump : IsDump text dump
  pub score : IsScoreUnder habit design machines dump sources instance db
