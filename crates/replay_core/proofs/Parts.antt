-- The parts of a replay fit its design before and after each call.
use Rattle.std.proofs.Common.{◌≡◌, ◌∙◌, ℕ, ◌+◌, ◌<◌, ◌≤◌, ◌^◌, Bool, true, ◌++◌, List, [], length, Option, Some, None, inl, inr, sym, ap, ap₂, subst, arith}
use Rattle.std.specs.Prelude.{◌-◌, ◌&&◌, nat_le, nat_lt, replicate}
use Rattle.std.proofs.lemmas.Bool.{cases_Bool}
use Rattle.std.proofs.lemmas.Bool.Decides.{nat_tests}
use Rattle.std.proofs.lemmas.List.{get_or-replicate, get_or_past, length-replicate}
use Rattle.four_state.specs.Vector.{Vector}
use Rattle.body_replay.specs.Store.{Kept}
use Rattle.body_store.specs.declared.store.Store.{Store}
use Rattle.body_store.specs.Made.{nothing}
use Rattle.chosen_early.specs.Shared.{IsSameButEarly}
use Rattle.code_values.specs.Values.{Values, no_values, value_of}
use Rattle.cover_marks.specs.Marks.{AreMarksOf}
use Rattle.cover_points.specs.declared.listing.Points.{Points}
use Rattle.design_model.specs.Design.{Design}
use Rattle.design_model.specs.Lawful.{IsLawfulDesign}
use Rattle.design_model.specs.View.{design_view}
use Rattle.early_sets.specs.WakeState.{WakeState, state_of}
use Rattle.first_step.specs.step_changes.Changes.{AreUnsigned}
use Rattle.dump_check.specs.Checks.{Checks}
use Rattle.index_sets.specs.Rows.{row_at}
use Rattle.machine_index.specs.Index.{IsIndexOf}
use Rattle.first_step.specs.settling.declared.parts.Scratch.{Scratch}
use Rattle.step_start.specs.Fits.{FitsStep}
use Rattle.first_step.specs.step_values.Vectors.{FitsSignals, StepVectors as StepValues}
use Rattle.value_store.specs.Queue.{Queue}
use Rattle.wake_list.specs.Waiting.{Waiting}
use Rattle.step_start.specs.declared.room.StepRoom.{StepRoom}
use Rattle.first_step.specs.step_values.Dumped.{AreDumped}
use Rattle.first_step.specs.store_knowledge.Knows.{Knows}
use Rattle.replay_core.specs.Codes.{flags_of}
use Rattle.step_words.specs.Words.{FitsRanges, StepState}
use Rattle.written_words.specs.Written.{WrittenState, in_range, range_at}
use Rattle.written_words.specs.declared.range.WordRange.{WordRange}
use Rattle.replay_core.specs.Fits.{AreWideValues, FitsParts, FitsReplay, FitsRoom, FitsState, FitsTables, FitsWords, HaveValues, IsForgotten, IsReplayable}
use Rattle.replay_core.specs.declared.fault.Phase.TheVariants.{Paused, Refused, Started}
use Rattle.replay_core.specs.declared.fault.ReplayFault.{ReplayFault}
use Rattle.replay_core.specs.declared.room.ReplayRoom.{ReplayRoom}
use Rattle.replay_core.specs.declared.state.ReplayState.{ReplayState}
use Rattle.replay_core.specs.declared.tables.ReplayTables.{ReplayTables}
use Rattle.replay_core.proofs.Codes.{coded_below}
use Rattle.replay_core.proofs.Given.{cells_given, dumped}
use Rattle.replay_core.proofs.Sets.{of_design_early, same_writers}

-- only signals of the design have a code
pub coded : (d : Design) (x : ReplayTables) → FitsTables d x → (s : ℕ) → Rattle.first_step.specs.step_values.Loose.has_code x.step.codes.items s ≡ true → s < length d.signals
coded d x fits s h = let below = coded_below x.step.codes.items s h in let size = fits.codes in omega (arith, below, size)

-- ---- the words

abbrev followed_by : ℕ → List WordRange → ℕ → ℕ → Bool
followed_by first ranges m i = nat_le first m && in_range (range_at ranges (m - first)) i

-- the same words are followed, whichever are written
pub words_kept : (d : Design) (x : ReplayTables) (w v : WrittenState) (y z : StepState) → FitsWords d x w y → v.first ≡ w.first → v.ranges ≡ w.ranges → FitsRanges d v.ranges z → FitsWords d x v z
words_kept d x w v y z fits first ranges sized = record {
  first = first ∙ fits.first;
  ranges = sized;
  followed = λ p m i memory j among. ap₂ (λ f rs. followed_by f rs m j) first ranges ∙ fits.followed p m i memory j among;
}

-- and the same is known of them
pub words_same : (d : Design) (x : ReplayTables) (w v : WrittenState) (y z : StepState) → FitsWords d x w y → v.first ≡ w.first → v.ranges ≡ w.ranges → z ≡ y → FitsWords d x v z
words_same d x w v y z fits first ranges same = words_kept d x w v y z fits first ranges (subst (FitsRanges d v.ranges) (sym same) (subst (λ rs. FitsRanges d rs y) (sym ranges) fits.ranges))

-- ---- all parts

-- the parts fit equal designs and points
pub fits_same : (d e : Design) (ps qs : Points) (x : ReplayTables) (r : ReplayRoom) (s : ReplayState) → d ≡ e → ps ≡ qs → FitsParts d ps x r s → FitsParts e qs x r s
fits_same d e ps qs x r s design points fits = subst (λ a. FitsParts a qs x r s) design (subst (λ qs. FitsParts d qs x r s) points fits)

-- what a step begins with
pub fits_step : (d : Design) (points : Points) (x : ReplayTables) (r : ReplayRoom) (s : ReplayState) → IsLawfulDesign d → FitsParts d points x r s → FitsStep d x.step r.step s.values
fits_step d points x r s lawful fits = record {
  lawful = lawful;
  signals = fits.tables.signals;
  rows = fits.state.rows;
  coded = coded d x fits.tables;
  targets = fits.tables.rows.targets;
  written = fits.tables.written.count;
  assigned = fits.tables.written.each;
  order = x.processes.order.items ++ x.processes.last.items;
  ranked = fits.tables.ranked;
  clocked_order = x.processes.clocked.items;
  clocked_ranked = fits.tables.clocked;
  changed = fits.room.changed;
  changes = fits.room.changes;
  things = let are = fits.room.sets.tables.things_are in omega (arith, are);
  processes = fits.room.sets.tables.processes_are;
  clocked = fits.room.clocked;
  overwritten = fits.room.overwritten;
  running = fits.room.running;
  list = fits.room.list;
  values = fits.room.values;
}

-- the values that were given last are values of the cells of the signals
pub given_cells : (d : Design) (points : Points) (x : ReplayTables) (s : ReplayState) → FitsState d points x s → HaveValues x.step.codes.items s.values.last → AreDumped d x.step.codes.items s.values.last (cells_given x.step.codes.items s.values.last)
given_cells d points x s fits have = dumped d x.step.codes.items s.values.last fits.wide have

-- and so are those at the last closed step
pub closed_cells : (d : Design) (points : Points) (x : ReplayTables) (s : ReplayState) → FitsState d points x s → HaveValues x.step.codes.items s.values.closed → AreDumped d x.step.codes.items s.values.closed (cells_given x.step.codes.items s.values.closed)
closed_cells d points x s fits have = dumped d x.step.codes.items s.values.closed fits.wide_closed have

-- the room after a step has begun
pub room_begun : (d : Design) (x : ReplayTables) (r : ReplayRoom) (n : StepRoom) (given : Values) → FitsStep d x.step n given → (state_of n.sets).writers ≡ (state_of r.step.sets).writers
    → ((flags : List Bool) → Rattle.first_step.specs.step_wakes.Step.IsOfDesign d flags (state_of r.step.sets) → Rattle.first_step.specs.step_wakes.Step.IsOfDesign d flags (state_of n.sets)) → FitsRoom d x r → FitsRoom d x (record r { step = n })
room_begun d x r n given fits writers inputs room = record {
  changed = fits.changed;
  changes = fits.changes;
  sets = inputs _ room.sets;
  writers = same_writers d x.step.codes.items (state_of r.step.sets) (state_of n.sets) writers ((inputs _ room.sets).tables.things_are ∙ sym room.sets.tables.things_are) room.writers;
  list = fits.list;
  clocked = fits.clocked;
  overwritten = fits.overwritten;
  running = fits.running;
  places = room.places;
  ranks = room.ranks;
  none_by_round = room.none_by_round;
  later = room.later;
  none_later = room.none_later;
  values = fits.values;
  saved = room.saved;
  empty = room.empty;
  pieces = room.pieces;
  ran = room.ran;
  checks = room.checks;
}

-- all after the first step
pub first_fits : (d : Design) (points : Points) (x : ReplayTables) (r : ReplayRoom) (s : ReplayState) (v : StepValues) (scratch : Scratch) (ran : Queue ℕ) (checks : Checks) (values : Values) (store : Store) (k : Kept) → FitsParts d points x r s → FitsSignals d v
    → length scratch.saved ≡ length r.scratch.saved → scratch.pieces ≡ r.scratch.pieces → ran.room ≡ r.ran.room → checks.size ≡ r.checks.size → Knows d k store → values.last ≡ s.values.last → values.closed ≡ s.values.last
    → FitsParts d points x (record r { step = record r.step { values = v }; scratch = scratch; ran = ran; checks = checks }) (record s { values = values; store = store })
first_fits d points x r s v scratch ran checks values store k fits wide saved pieces room size knows last closed =
    let state = fits.state in
    record {
      tables = fits.tables;
      room = record {
        changed = fits.room.changed;
        changes = fits.room.changes;
        sets = fits.room.sets;
        writers = fits.room.writers;
        list = fits.room.list;
        clocked = fits.room.clocked;
        overwritten = fits.room.overwritten;
        running = fits.room.running;
        places = fits.room.places;
        ranks = fits.room.ranks;
        none_by_round = fits.room.none_by_round;
        later = fits.room.later;
        none_later = fits.room.none_later;
        values = wide;
        saved = λ p l. subst (λ n. length (row_at x.step.targets p) ≤ n) (sym saved) (fits.room.saved p l);
        empty = ap (λ q. q.items) pieces ∙ fits.room.empty;
        pieces = subst (λ q. 128 ≤ q.room) (sym pieces) fits.room.pieces;
        ran = subst (λ n. length d.processes ≤ n) (sym room) fits.room.ran;
        checks = size ∙ fits.room.checks;
      };
      state = record {
        kept = k;
        known = knows;
        acted = state.acted;
        seen = state.seen;
        machines = state.machines;
        few_machines = state.few_machines;
        noted = state.noted;
        marks = state.marks;
        rows = state.rows ∙ sym (ap length last);
        wide = subst (AreWideValues d x.step.codes.items) (sym last) state.wide;
        wide_closed = subst (AreWideValues d x.step.codes.items) (sym closed) state.wide;
        unsigned = subst AreUnsigned (sym last) state.unsigned;
      };
      words = fits.words;
    }

-- all once the processes have run
pub run_fits : (d : Design) (points : Points) (x : ReplayTables) (r q : ReplayRoom) (s u : ReplayState) (k : Kept) → FitsParts d points x r s → FitsRoom d x q → Knows d k u.store → length u.acted.items ≡ length s.acted.items → length u.seen ≡ length s.seen → u.machines.index ≡ s.machines.index
    → u.notes.points.now ≡ s.notes.points.now → AreMarksOf points u.notes.marks → u.values.last ≡ s.values.last → AreWideValues d x.step.codes.items u.values.closed
    → FitsWords d x u.notes.written q.words → FitsParts d points x q u
run_fits d points x r q s u k fits room knows acted seen index noted marks last wide words =
    let state = fits.state in
    record {
      tables = fits.tables;
      room = room;
      state = record {
        kept = k;
        known = knows;
        acted = acted ∙ state.acted;
        seen = seen ∙ state.seen;
        machines = subst (λ i. IsIndexOf points.machines.items (length d.signals) i) (sym index) state.machines;
        few_machines = state.few_machines;
        noted = noted ∙ state.noted;
        marks = marks;
        rows = state.rows ∙ sym (ap length last);
        wide = subst (AreWideValues d x.step.codes.items) (sym last) state.wide;
        wide_closed = wide;
        unsigned = subst AreUnsigned (sym last) state.unsigned;
      };
      words = words;
    }

-- the room once the words that are written have been compared
pub room_compared : (d : Design) (x : ReplayTables) (r : ReplayRoom) (words : StepState) → FitsRoom d x r → FitsRoom d x (record r { words = words })
room_compared d x r words room = record {
  changed = room.changed;
  changes = room.changes;
  sets = room.sets;
  writers = room.writers;
  list = room.list;
  clocked = room.clocked;
  overwritten = room.overwritten;
  running = room.running;
  places = room.places;
  ranks = room.ranks;
  none_by_round = room.none_by_round;
  later = room.later;
  none_later = room.none_later;
  values = room.values;
  saved = room.saved;
  empty = room.empty;
  pieces = room.pieces;
  ran = room.ran;
  checks = room.checks;
}

none_given : (count code : ℕ) → value_of (replicate count None) code ≡ None
none_given count code = elim (cases_Bool (nat_lt code count)) [
  | inl e ↦ get_or-replicate count code None None (grind (arith, nat_tests, e))
  | inr e ↦
      let size = length-replicate {A = Option Vector} count None in
      let past : count ≤ code = grind (arith, nat_tests, e) in
      get_or_past (replicate count None) code None (omega (arith, size, past))
]

-- before the first change no code has a value
pub no_value : (values : Values) (count code : ℕ) → values ≡ no_values count → value_of values.last code ≡ None
no_value values count code is = ap (λ (v : Values). value_of v.last code) is ∙ none_given count code

-- nor had it one at the last closed step
pub none_closed : (values : Values) (count code : ℕ) → values ≡ no_values count → value_of values.closed code ≡ None
none_closed values count code is = ap (λ (v : Values). value_of v.closed code) is ∙ none_given count code

pub count_is : (values : Values) (count : ℕ) → values ≡ no_values count → length values.last ≡ count
count_is values count is = ap (λ (v : Values). length v.last) is ∙ length-replicate count None

-- a new replay fits
pub new_ready : (d : Design) (points : Points) (x : ReplayTables) (r : ReplayRoom) (s : ReplayState) (count : ℕ) → IsReplayable d points → FitsTables d x → FitsRoom d x r → r.step.list.pairs ≡ [] → r.step.clocked.pairs ≡ [] → IsForgotten d r s → FitsWords d x s.notes.written r.words → s.values ≡ no_values count → length x.step.signals ≡ count
    → length s.acted.items ≡ length d.processes → length s.seen ≡ length d.signals → IsIndexOf points.machines.items (length d.signals) s.machines.index → length points.machines.items ≤ 2 ^ 32 → s.notes.points.now ≡ points → AreMarksOf points s.notes.marks → FitsReplay d s.notes.points.now x r s Paused
new_ready d points x r s count replayable tables room none none_clocked forgotten words values size acted seen machines few noted marks = subst (λ ps. FitsReplay d ps x r s Paused) (sym noted) (record {
  replayable = replayable;
  parts = record {
    tables = tables;
    room = room;
    state = record {
      kept = nothing;
      known = forgotten.knows;
      acted = acted;
      seen = seen;
      machines = machines;
      few_machines = few;
      noted = noted;
      marks = marks;
      rows = size ∙ sym (count_is s.values count values);
      wide = λ y code v coded is. absurd (no_some (sym (no_value s.values count code values) ∙ is));
      wide_closed = λ y code v coded is. absurd (no_some (sym (none_closed s.values count code values) ∙ is));
      unsigned = λ code v is. absurd (no_some (sym (no_value s.values count code values) ∙ is));
    };
    words = words;
  };
  none = none;
  none_clocked = none_clocked;
  forgotten = λ off. forgotten;
  begun = λ started. absurd (new_started started);
  closed = λ started. absurd (new_started started);
  refused = λ fault refused. absurd (new_refused fault refused);
})
  where
    no_some : {v : Vector} → None ≡ Some v → ⊥
    no_some e = cc

    new_started : Paused ≡ Started → ⊥
    new_started e = cc

    new_refused : (fault : ReplayFault) → Paused ≡ Refused fault → ⊥
    new_refused fault e = cc

-- all once a step has begun
pub begun_fits : (d : Design) (points : Points) (x : ReplayTables) (r : ReplayRoom) (s : ReplayState) (n : StepRoom) (store : Store) (k : Kept) → FitsParts d points x r s → FitsStep d x.step n s.values → (state_of n.sets).writers ≡ (state_of r.step.sets).writers
    → ((flags : List Bool) → Rattle.first_step.specs.step_wakes.Step.IsOfDesign d flags (state_of r.step.sets) → Rattle.first_step.specs.step_wakes.Step.IsOfDesign d flags (state_of n.sets)) → Knows d k store → FitsParts d points x (record r { step = n }) (record s { store = store })
begun_fits d points x r s n store k fits step writers inputs knows =
    let state = fits.state in
    record {
      tables = fits.tables;
      room = room_begun d x r n s.values step writers inputs fits.room;
      state = record {
        kept = k;
        known = knows;
        acted = state.acted;
        seen = state.seen;
        machines = state.machines;
        few_machines = state.few_machines;
        noted = state.noted;
        marks = state.marks;
        rows = state.rows;
        wide = state.wide;
        wide_closed = state.wide_closed;
        unsigned = state.unsigned;
      };
      words = fits.words;
    }

-- so they are after the call that begins it
pub begin_fits : (d : Design) (points : Points) (x : ReplayTables) (r : ReplayRoom) (s : ReplayState) (n : StepRoom) (store : Store) → FitsParts d points x r s → FitsStep (design_view s.store.design.now) x.step n s.values → store.design ≡ s.store.design
    → (state_of n.sets).writers ≡ (state_of r.step.sets).writers → ((e : Design) (flags : List Bool) → Rattle.first_step.specs.step_wakes.Step.IsOfDesign e flags (state_of r.step.sets) → Rattle.first_step.specs.step_wakes.Step.IsOfDesign e flags (state_of n.sets))
    → (e : Design) × (k : Kept) × Knows e k store → FitsParts d points x (record r { step = n }) (record s { store = store })
begin_fits d points x r s n store fits step design writers inputs known =
    let k = known.1 in
    let h = known.2 in
    let here = fits.state.known.design in
    let same : design_view store.design.now ≡ d = ap (λ y. design_view y.now) design ∙ here in
    begun_fits d points x r s n store k fits (subst (λ e. FitsStep e x.step n s.values) here step) writers (inputs d) (subst (λ e. Knows e k store) (sym h.design ∙ same) h)

-- the room once the Clocked have run: of the parts with which the step begins, their list and what was found to be early have changed
pub room_run : (d : Design) (x : ReplayTables) (r q : ReplayRoom) → FitsRoom d x r → q.step ≡ record r.step { clocked = q.step.clocked; sets = q.step.sets } → q.step.clocked.count ≡ r.step.clocked.count
    → IsSameButEarly (state_of r.step.sets) (state_of q.step.sets) → q.by_round ≡ r.by_round → length q.scratch.saved ≡ length r.scratch.saved → q.scratch.pieces ≡ r.scratch.pieces → q.later ≡ record r.later { items = [] } → q.ran.room ≡ r.ran.room
    → q.checks ≡ r.checks → FitsRoom d x q
room_run d x r q room step count same rounds saved pieces later ran checks =
    let of = of_design_early d (flags_of x.step.codes.items) (state_of r.step.sets) (state_of q.step.sets) same room.sets in
    let writers = same_writers d x.step.codes.items (state_of r.step.sets) (state_of q.step.sets) (ap (λ (w : WakeState). w.writers) same) (ap (λ (w : WakeState). w.tables.things) same) room.writers in
    record {
      changed = ap (λ (n : StepRoom). n.changed.size) step ∙ room.changed;
      changes = subst (λ (n : StepRoom). length d.signals ≤ n.changes.room) (sym step) room.changes;
      sets = of;
      writers = writers;
      list = ap (λ (n : StepRoom). n.list.count) step ∙ room.list;
      clocked = count ∙ room.clocked;
      overwritten = ap (λ (n : StepRoom). n.overwritten.size) step ∙ room.overwritten;
      running = ap (λ (n : StepRoom). n.running.size) step ∙ room.running;
      places = subst (λ (l : Waiting). length d.processes ≤ l.count) (sym rounds) room.places;
      ranks = subst (λ (l : Waiting). length d.signals + length d.memories < l.count) (sym rounds) room.ranks;
      none_by_round = ap (λ (l : Waiting). l.pairs) rounds ∙ room.none_by_round;
      later = subst (λ (l : Queue ℕ). length d.processes ≤ l.room) (sym later) room.later;
      none_later = ap (λ (l : Queue ℕ). l.items) later;
      values = subst (λ (n : StepRoom). FitsSignals d n.values) (sym step) room.values;
      saved = λ p l. subst (λ n. length (row_at x.step.targets p) ≤ n) (sym saved) (room.saved p l);
      empty = ap (λ q. q.items) pieces ∙ room.empty;
      pieces = subst (λ q. 128 ≤ q.room) (sym pieces) room.pieces;
      ran = subst (λ n. length d.processes ≤ n) (sym ran) room.ran;
      checks = ap (λ (k : Checks). k.size) checks ∙ room.checks;
    }
