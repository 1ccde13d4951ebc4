-- Why a design is not scored by the dump of a text.
use Rattle.std.specs.Prelude.{◌⊎◌, ℕ, List, ◌++◌}
use Rattle.cov_host.specs.Outside.{Outside}
use Rattle.design_model.specs.declared.design.Design.{Design}
use Rattle.dump_replay.specs.Faults.{IsReplayFault}
use Rattle.dump_replay.specs.shown_dumps.Bound.{HasNoBaseline}
use Rattle.event_machine.specs.Habit.{Habit}
use Rattle.signal_binding.specs.Binding.{HasInstance, IsBindFault}
use Rattle.vcd_reader.specs.Dump.{BeginsAs, HasNoBody, SaysBody}
use Rattle.vcd_reader.specs.Reading.{Body}
use Rattle.vcd_reader.specs.Text.{EndsAs, EndsWithFault, HasFault}
use Rattle.vcd_reader.specs.declared.fault.DumpFault.{DumpFault}
use Rattle.vcd_reader.specs.declared.fault.DumpFault.TheVariants as dump_fault
use Rattle.dump_score.specs.Reading.{IsCallFault, IsFile}
use Rattle.dump_score.specs.declared.fault.ScoreFault.{ScoreFault}
use Rattle.dump_score.specs.declared.fault.ScoreFault.TheVariants as fault

-- the text says a body of which this holds
abbrev pub SaysSome : List ℕ → (Body → Type 0) → Type 0
SaysSome text P = (b : Body) × SaysBody text b × P b

-- the header of the text is read, and the instance is there
abbrev pub Binds : List ℕ → List ℕ → Type 0
Binds instance text = SaysSome text (λ b. HasInstance b.vars instance)

-- as far as the text says, each signal of the design that is bound has a value in each stretch before its second time
abbrev pub LacksNone : Design → List ℕ → List ℕ → Type 0
LacksNone design instance text = (b : Body) (s : ℕ) → SaysBody text b → HasNoBaseline design b.vars instance b.items s → ⊥

-- the fault is the first one of the text, or that of its end
abbrev pub IsFirstFault : List ℕ → DumpFault → Type 0
IsFirstFault text f = HasFault text f ⊎ EndsWithFault text f

-- the fault is one of the header, if it is not want of memory
abbrev pub IsFaultOfHeader : List ℕ → DumpFault → Type 0
IsFaultOfHeader text dump_fault.NoMemory = Unit {0}
IsFaultOfHeader text (dump_fault.At kind byte) = IsFirstFault text (dump_fault.At kind byte) × HasNoBody text

-- the fault is one of the header, or one of the body of a text to which the design is bound and which lacks no first value before it, if it is not want of memory
abbrev pub IsDumpFault : Design → List ℕ → List ℕ → DumpFault → Type 0
IsDumpFault design instance text dump_fault.NoMemory = Unit {0}
IsDumpFault design instance text (dump_fault.At kind byte) = IsFirstFault text (dump_fault.At kind byte) × (HasNoBody text ⊎ (Binds instance text × LacksNone design instance text))

-- the text of the dump of the design has the fault, of which the instance is the top; a fault of the replay is one of what the text says
-- up to a time, whatever comes after it
abbrev pub IsTextFault : Habit → Design → List ℕ → List ℕ → ScoreFault → Type 0
IsTextFault habit design instance text fault.NoMemory = Unit {0}
IsTextFault habit design instance text (fault.Refused call) = ⊥
IsTextFault habit design instance text (fault.Dump f) = IsDumpFault design instance text f
IsTextFault habit design instance text (fault.Bind f) = SaysSome text (λ b. IsBindFault design b.vars instance f)
IsTextFault habit design instance text (fault.Replay f) = SaysSome text (λ b. IsReplayFault habit design b.vars instance b.items f)

-- the text of the file has the fault
abbrev pub IsFileFault : List ℕ → Outside → Habit → Design → List ℕ → ScoreFault → Type 0
IsFileFault name before habit design instance f = (text : List ℕ) × IsFile before name text × IsTextFault habit design instance text f

-- why a design is not scored by the dump in a file
abbrev pub IsScoreFault : List ℕ → Outside → Outside → Habit → Design → List ℕ → ScoreFault → Type 0
IsScoreFault name before after habit design instance fault.NoMemory = Unit {0}
IsScoreFault name before after habit design instance (fault.Refused call) = IsCallFault name before after (fault.Refused call)
IsScoreFault name before after habit design instance other = IsFileFault name before habit design instance other

-- what was read has the fault, whatever comes after it
abbrev pub IsFoundFault : Habit → Design → List ℕ → List ℕ → ScoreFault → Type 0
IsFoundFault habit design instance text (fault.Dump f) = HasFault text f × ((rest : List ℕ) → LacksNone design instance (text ++ rest))
IsFoundFault habit design instance text (fault.Replay f) = (b : Body) × BeginsAs text b × IsReplayFault habit design b.vars instance b.items f
IsFoundFault habit design instance text other = ⊥

-- the end of the text has the fault
abbrev pub IsEndFault : Habit → Design → List ℕ → List ℕ → ScoreFault → Type 0
IsEndFault habit design instance text (fault.Dump f) = EndsWithFault text f × LacksNone design instance text
IsEndFault habit design instance text (fault.Replay f) = (b : Body) × EndsAs text b × IsReplayFault habit design b.vars instance b.items f
IsEndFault habit design instance text other = ⊥

-- why no header was read from a file
abbrev pub IsHeaderFault : List ℕ → Outside → Outside → ScoreFault → Type 0
IsHeaderFault name before after (fault.Dump f) = (text : List ℕ) × IsFile before name text × IsFaultOfHeader text f
IsHeaderFault name before after other = IsCallFault name before after other
