-- The table that is collected with scored verdicts.
use Rattle.std.proofs.Common.{◌≡◌, ℕ, List, Ok, Err, subst, sym, ◌∙◌}
use Rattle.std.specs.List.{All}
use Rattle.std.specs.Prelude.{IfOk, Result}
use Rattle.std.proofs.lemmas.List.Elements.{All-weaker}
use Rattle.coverage_db.specs.Table.{AreWindows, IsTable}
use Rattle.coverage_db.specs.declared.db.Db.{Db}
use Rattle.coverage_db.specs.declared.window.Window.{Window}
use Rattle.cover_points.specs.declared.listing.Points.{Points}
use Rattle.design_model.specs.Design.{Design}
use Rattle.design_model.specs.Lawful.{IsLawfulDesign}
use Rattle.cover_points.specs.design_machines.state_machines.Machines.{StateMachines}
use Rattle.design_model.specs.Shows.{BoundDump}
use Rattle.design_points.specs.Counted.{AreAllPoints}
use Rattle.event_machine.specs.Habit.{Habit}
use Rattle.instance_paths.specs.Rooted.{IsRooted}
use Rattle.point_marks.specs.declared.verdict.Verdict.{Verdict}
use Rattle.point_marks.specs.declared.verdict.Verdict.TheVariants.{Hit, Missed, Undetermined}
use Rattle.verdict_laws.specs.point_table.Collected.{IsCollected}
use Rattle.verdict_laws.specs.point_table.Verdicts.{AreShown, IsOfDesign}
use Rattle.verdict_laws.proofs.table_laws.Listing.{lists_points}
use Rattle.verdict_laws.proofs.table_laws.Tables.{collected_is}
use Rattle.verdict_laws.specs.table_laws.Written.{IsWritten, IsWrittenMachine, IsWrittenVerdict}
use Rattle.verdict_laws.proofs.Rows.{reasoned_table, sound_table}
use Rattle.verdict_laws.proofs.Written.{written}
use Rattle.score_tables.specs.Scored.{AreScored, HasSmallTimes, IsScoreTable}
use Rattle.score_tables.specs.Windows.{windows_of}
use Rattle.score_tables.proofs.Rows.{head_is}

of_design : (d : Design) (v : Verdict) → IsWrittenVerdict d v → IsOfDesign d v
of_design d Hit w = tt
of_design d Missed w = tt
of_design d (Undetermined y) w = w.0

module _ (d : Design) (h : Habit) (dump : BoundDump) (ms : StateMachines) (ps : Points) (vs : List Verdict) (lawful : IsLawfulDesign d) (all : AreAllPoints d ms ps) (small : HasSmallTimes dump) (scored : AreScored d h dump ps vs) where
  are_written : All (IsWrittenVerdict d) vs
  are_written = written d h dump ms ps vs scored.replay lawful all.listed small scored.verdicts scored.reasoned

  pub are_of_design : All (IsOfDesign d) vs
  are_of_design = All-weaker (IsWrittenVerdict d) (IsOfDesign d) (of_design d) vs are_written

  pub score_is : (names : List (List ℕ)) (windows : List Window) (db : Db) → All IsWrittenMachine ps.machines.items → IsWritten names d → IsRooted d → AreWindows windows → windows ≡ windows_of dump.stretches → IsCollected d names ps db → db.windows ≡ windows → AreShown d vs db.points → IsScoreTable d h dump ms names db
  score_is names windows db named is_written rooted rise of_dump is kept shown =
      let table : IsTable db = collected_is d names ps vs db lawful is_written (ms, all.listed) all.few named are_written is (subst AreWindows (sym kept) rise) shown in
      record {
        table = table;
        head = head_is d names ps db rooted is table.instances_rise;
        listed = lists_points d names ms ps db lawful is_written all.listed named is;
        sound = sound_table d h dump names ms ps vs scored.replay db lawful is_written all.listed named is table shown scored.verdicts scored.sound;
        reasoned = reasoned_table d h dump names ms ps vs scored.replay db lawful is_written all.listed named is table shown scored.verdicts scored.reasoned;
        windows = kept ∙ of_dump;
      }

-- what the collected table, its windows and its verdicts say together
pub all_say : {T E : Type 0} {P Q R S : T → Type 0} (result : Result T E) → ((x : T) → P x → Q x → R x → S x) → IfOk result P → IfOk result Q → IfOk result R → IfOk result S
all_say (Ok x) step p q r = step x p q r
all_say (Err e) step p q r = tt
