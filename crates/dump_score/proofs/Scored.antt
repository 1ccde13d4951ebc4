-- What the table says of the file whose dump was scored.
use Rattle.std.proofs.Common.{◌≡◌, ⊎_elim, ℕ, ◌+◌, ◌<◌, ◌^◌, List, [], ◌∷◌, length, map, Option, None, Some, refl, sym, subst, inl, inr, arith}
use Rattle.std.proofs.lemmas.List.{length-map}
use Rattle.std.proofs.lemmas.List.Elements.{All-cons, All-head, All-tail}
use Rattle.cov_host.specs.Outside.{Outside}
use Rattle.dump_replay.specs.cover_marks.declared.marks.Marks.{Marks}
use Rattle.cover_points.specs.declared.listing.Points.{Points}
use Rattle.coverage_db.specs.Table.{AreWindows}
use Rattle.coverage_db.specs.declared.db.Db.{Db}
use Rattle.coverage_db.specs.declared.window.Window.{Window}
use Rattle.design_model.proofs.FiniteRounds.{last_rounds_law}
use Rattle.design_model.specs.Design.{In}
use Rattle.design_model.specs.Lawful.{IsLawfulDesign}
use Rattle.design_model.specs.Shows.{InSome}
use Rattle.cover_points.specs.design_machines.state_machines.Machines.{StateMachines}
use Rattle.design_model.specs.View.{design_view}
use Rattle.design_model.specs.declared.design.Design.{Design}
use Rattle.dump_replay.specs.Followed.{AreFinalMarks}
use Rattle.dump_replay.specs.declared.replay.DumpReplay.{DumpReplay}
use Rattle.entry_laws.proofs.Texts.{body_entries}
use Rattle.entry_laws.specs.Entries.{AreEntries, IsEntry}
use Rattle.event_machine.specs.Habit.{Habit}
use Rattle.dump_replay.specs.score_tables.Scored.{HasSmallTimes, IsScoreTable}
use Rattle.dump_replay.specs.score_tables.Windows.{windows_of}
use Rattle.dump_replay.proofs.score_tables.Windows.{windows_fit}
use Rattle.dump_replay.proofs.shown_dumps.Order.{are_stretches, some_cases, stretch_times}
use Rattle.dump_replay.specs.shown_dumps.Bound.{IsBound}
use Rattle.dump_replay.specs.shown_dumps.Rounds.{ByLastRounds}
use Rattle.dump_replay.specs.shown_dumps.Said.{times_in}
use Rattle.dump_replay.specs.shown_dumps.Shown.{bound_dump, dump_of}
use Rattle.signal_binding.specs.Binding.{codes_of}
use Rattle.vcd_reader.proofs.RisingTimes.{times_rise}
use Rattle.vcd_reader.proofs.Turns.{ordered_at_end}
use Rattle.vcd_reader.specs.Dump.{Dump, begun_at, later_stretches, steps_of, stretches_of, times_of}
use Rattle.vcd_reader.specs.Times.{Rises}
use Rattle.vcd_reader.specs.declared.entry.Entry.{Entry}
use Rattle.vcd_reader.specs.declared.entry.Entry.TheVariants.{Off, On, Time, Value}
use Rattle.vcd_reader.specs.declared.vars.Var.{Var}
use Rattle.dump_score.specs.Reading.{IsFile}
use Rattle.dump_score.specs.Scoring.{HasScored, IsScoreOfFile}

-- a database can have each time that entries say
small_times : (vars : List Var) (entries : List Entry) → AreEntries vars entries → (t : ℕ) → In t (times_in entries) → t < 2 ^ 63
small_times vars [] fits t at = absurd at
small_times vars (Time time ∷ entries) fits t (inl same) = subst (λ u. u < 2 ^ 63) same (All-head (IsEntry vars) (Time time) entries fits)
small_times vars (Time time ∷ entries) fits t (inr at) = small_times vars entries (All-tail (IsEntry vars) (Time time) entries fits) t at
small_times vars (Value code value ∷ entries) fits t at = small_times vars entries (All-tail (IsEntry vars) (Value code value) entries fits) t at
small_times vars (Off ∷ entries) fits t at = absurd at
small_times vars (On time ∷ entries) fits t at = absurd at

-- the first time of a stretch that goes on there, too
small_begun : (vars : List Var) (time : Option ℕ) (entries : List Entry) → AreEntries vars (On time ∷ entries) → AreEntries vars (begun_at time entries)
small_begun vars None entries fits = All-tail (IsEntry vars) (On None) entries fits
small_begun vars (Some time) entries fits = All-cons (IsEntry vars) (Time time) entries (All-head (IsEntry vars) (On (Some time)) entries fits) (All-tail (IsEntry vars) (On (Some time)) entries fits)

small_later : (vars : List Var) (entries : List Entry) → AreEntries vars entries → (t : ℕ) → InSome (In t) (map times_in (later_stretches entries)) → t < 2 ^ 63
small_later vars [] fits t at = absurd at
small_later vars (Time time ∷ entries) fits t at = small_later vars entries (All-tail (IsEntry vars) (Time time) entries fits) t at
small_later vars (Value code value ∷ entries) fits t at = small_later vars entries (All-tail (IsEntry vars) (Value code value) entries fits) t at
small_later vars (Off ∷ entries) fits t at = small_later vars entries (All-tail (IsEntry vars) Off entries fits) t at
small_later vars (On time ∷ entries) fits t at =
    ⊎_elim (λ here. small_times vars (begun_at time entries) (small_begun vars time entries fits) t here) (λ later. small_later vars entries (All-tail (IsEntry vars) (On time) entries fits) t later)
    (some_cases (In t) (times_in (begun_at time entries)) (map times_in (later_stretches entries)) at)

small_some : (vars : List Var) (entries : List Entry) → AreEntries vars entries → (t : ℕ) → InSome (In t) (map times_of (stretches_of entries)) → t < 2 ^ 63
small_some vars entries fits t at =
    ⊎_elim (λ here. small_times vars entries fits t here) (λ later. small_later vars entries fits t later)
    (some_cases (In t) (times_in entries) (map times_in (later_stretches entries)) (subst (InSome (In t)) (stretch_times (entries ∷ later_stretches entries)) at))

-- a dump that was scored
module _ (replay : DumpReplay) (habit : Habit) (design : Design) (points : Points) (vars : List Var) (instance text : List ℕ) (scored : HasScored replay habit design points vars instance text) where
  -- what the text says of the design
  abbrev pub said : Dump
  said = record { vars = vars; stretches = stretches_of scored.b.items }

  pub scored_rises : Rises None scored.b.items
  scored_rises = times_rise text scored.b scored.ends

  pub scored_times : HasSmallTimes (bound_dump design said instance)
  scored_times t at = small_some scored.b.vars scored.b.items (body_entries text scored.b (inr scored.ends)) t at

  -- the windows of the dump can be written
  pub scored_windows : (windows : List Window) → windows ≡ windows_of (dump_of (codes_of design vars instance) (stretches_of scored.b.items)).stretches → AreWindows windows
  scored_windows windows are =
      let few : length (later_stretches scored.b.items) < 1024 = (ordered_at_end text scored.b scored.ends).few in
      let long : length (map times_of (stretches_of scored.b.items)) ≡ 1 + length (later_stretches scored.b.items) =
      omega (arith, length-map (stretches_of scored.b.items) times_of, length-map (later_stretches scored.b.items) steps_of) in
      let fits : length (map times_of (stretches_of scored.b.items)) < 2 ^ 64 = omega (arith, few, long) in
      subst AreWindows (sym are) (windows_fit (bound_dump design said instance).stretches (are_stretches scored.b.items scored_rises) scored_times fits)

  scored_bound : IsBound design said instance
  scored_bound = record {
    there = scored.followed.of.there;
    first_values = scored.followed.taken.based;
  }

  pub scored_file : (name : List ℕ) (before : Outside) (machines : StateMachines) (sources : List (List ℕ)) (marks : Marks) (db : Db) → IsFile before name text → IsLawfulDesign (design_view design)
      → ByLastRounds (design_view design) (dump_of (codes_of design vars instance) (stretches_of scored.b.items)) (λ dump. AreFinalMarks (design_view design) habit dump points marks)
      → ByLastRounds (design_view design) (bound_dump design said instance) (λ dump. IsScoreTable (design_view design) habit dump machines sources db) → IsScoreOfFile name before habit design machines sources instance db
  scored_file name before machines sources marks db file lawful final table =
      let some = last_rounds_law (design_view design) lawful (bound_dump design said instance) in
      let one = table some.0 some.1 in
      record {
        text = text;
        dump = said;
        is = file;
        is_dump = record { b = scored.b; ends = scored.ends; vars = sym scored.vars_are; stretches = refl };
        score = record {
          bound = scored_bound;
          forced = λ rounds by_last. (final rounds by_last).forced;
          table = one.table;
          head = one.head;
          listed = one.listed;
          sound = λ rounds by_last. (table rounds by_last).sound;
          reasoned = λ rounds by_last. (table rounds by_last).reasoned;
          windows = one.windows;
        };
      }
