-- A step that is closed: the replay has followed each dump that goes on up to it, or no run shows what was read.
use Rattle.std.proofs.Common.{◌≡◌, ◌↔◌, ℕ, suc, ◌<◌, ◌≤◌, ◌-◌, Bool, true, false, is_some, List, [], ◌∷◌, ◌++◌, length, Option, None, Some, Ok, Err, refl, sym, ap, subst, ◌∙◌, inl, inr, arith, append-nil}
use Rattle.std.specs.Prelude.{IfErr, IsErrAnd, IsFalse, OnOk, Result}
use Rattle.std.proofs.lemmas.Bool.{false≢true}
use Rattle.four_state.specs.Vector.{Vector}
use Rattle.known_state.specs.Partly.{Partly}
use Rattle.cover_points.specs.declared.listing.Points.{Points}
use Rattle.design_model.proofs.FiniteRounds.{last_rounds_law}
use Rattle.design_model.specs.Design.{Design as Tree}
use Rattle.design_model.specs.MayMove.{AreLastRounds}
use Rattle.design_model.specs.RoundLaws.{read_by}
use Rattle.design_model.specs.Shows.{BoundDump, IsFirst, IsListed, IsShown, IsWindow, NoneShown}
use Rattle.four_state.specs.declared.bit.Bit.{Bit}
use Rattle.design_model.specs.declared.design.Design.{Design}
use Rattle.design_model.specs.View.{design_view}
use Rattle.event_machine.specs.Habit.{Habit}
use Rattle.hidden_times.proofs.Listed.{listed_law}
use Rattle.vcd_reader.specs.Times.{Rises, last_time}
use Rattle.vcd_reader.specs.declared.entry.Entry.{Entry}
use Rattle.vcd_reader.specs.declared.entry.Entry.TheVariants.{Time}
use Rattle.vcd_reader.specs.declared.vars.Var.{Var}
use Rattle.code_values.specs.Values.{IsFirstMissing, value_of}
use Rattle.entry_laws.specs.Entries.{AreEntries}
use Rattle.replay_core.specs.Faults.{IsContradiction, IsRefuted}
use Rattle.replay_core.specs.Fits.{HaveValues, signal_of}
use Rattle.replay_core.specs.Followed.{AreGivenAt, AreHidden, IsNextStep}
use Rattle.replay_core.specs.Made.{IsDumpFor, Made}
use Rattle.replay_core.specs.Parts.{HasRefused, IsPausedPhase, IsReady, IsStarted, given_of, made_of}
use Rattle.replay_core.specs.declared.fault.Phase.{Phase}
use Rattle.replay_core.specs.declared.fault.Phase.TheVariants.{Paused, Refused, Started}
use Rattle.replay_core.specs.declared.fault.ReplayFault.{ReplayFault}
use Rattle.replay_core.specs.declared.fault.ReplayFault.TheVariants as fault
use Rattle.replay_core.specs.declared.replay.Replay.{Replay}
use Rattle.signal_binding.specs.Binding.{codes_of}
use Rattle.replay_core.specs.wake_laws.Laws.{habit_of}
use Rattle.shown_dumps.specs.Laws.{IsFirstTime, dump_with}
use Rattle.shown_dumps.specs.Ongoing.{AreGiven, HoldsPaused}
use Rattle.shown_dumps.specs.Rounds.{ByLastRounds}
use Rattle.shown_dumps.specs.Said.{EndsIn, ended_at, open_stretch, times_in}
use Rattle.shown_dumps.specs.Shown.{code_at, dump_of}
use Rattle.vcd_reader.specs.Dump.{stretches_of}
use Rattle.shown_dumps.proofs.Gap.{first_time, next_time, rest_time}
use Rattle.dump_replay.specs.Faults.{IsContradicted, IsReplayFault}
use Rattle.replay_core.specs.Followed.{HasFollowed as HasFollowedDump, HasPaused as HasPausedDump}
use Rattle.dump_replay.specs.Followed.{Follows, HasFollowed, IsReplayOf, Pauses}
use Rattle.dump_replay.specs.declared.replay.DumpReplay.{DumpReplay}
use Rattle.dump_replay.proofs.Facts.{given_at, no_baseline, of_dump}
use Rattle.dump_replay.proofs.More.{last_cases, later_next, no_times}

-- no step of the stretch is closed, or its first one is
new_or_started : (p : Phase) → p ≡ Paused → p ≡ Started → ⊥
new_or_started p new started = let no_phase : Paused ≡ Started = sym new ∙ started in cc

module _ (x : DumpReplay) (habit : Habit) (design : Design) (points : Points) (vars : List Var) (instance : List ℕ) (entries more : List Entry) (last next : ℕ)
    (are : AreEntries vars entries) (rises : Rises None (entries ++ Time next ∷ more)) (is_last : last_time None (open_stretch entries) ≡ Some last) (f : HasFollowed x habit design points vars instance entries)
    (rounds : ℕ → ℕ) (by_last : AreLastRounds (made_of x.replay).design (read_by (dump_with (codes_of design vars instance) entries next more) rounds)) where
  abbrev codes : List (Option ℕ)
  codes = codes_of design vars instance

  abbrev the_dump : BoundDump
  the_dump = read_by (dump_with codes entries next more) rounds

  -- with the values that were given last at the last time
  pub given_there : HaveValues (made_of x.replay).codes (given_of x.replay) → AreGivenAt x.replay the_dump last
  given_there have =
      given_at design vars instance entries more next rises (made_of x.replay).design (made_of x.replay).codes (given_of x.replay) last f.of.design_is f.of.codes (later_next entries more last next rises is_last) are is_last f.taken.given have

  -- where no step is closed, it is the first time
  pub only_time : IsPausedPhase x.replay → times_in (open_stretch entries) ≡ last ∷ []
  only_time new =
      elim (last_cases entries last is_last) [
        | inl one ↦ one
        | inr (before, ends) ↦ absurd (new_or_started x.replay.phase new (f.taken.follows before last ends (Time next ∷ more) rises rounds by_last).started)
      ]

  pub is_first : IsPausedPhase x.replay → IsFirstTime the_dump (ended_at entries) last
  is_first new =
      let first = first_time codes entries more last next rises (only_time new) in
      record { is_first = first.is_first; shown = first.shown; later = first.later; none = first.none }

  -- up to which the replay has waited
  pub waits_there : IsPausedPhase x.replay → HasPausedDump x.replay the_dump last
  waits_there new =
      let first = first_time codes entries more last next rises (only_time new) in
      let waited = f.taken.waits (omega (arith, ap length (only_time new))) in
      waited.holds (Time next ∷ more) last rises (record { later = first.later; none = first.none }) rounds by_last

  -- else there is a time before it, and the replay has followed the dump up to the moment before it
  pub earlier_time : (IsPausedPhase x.replay → ⊥) → (before : ℕ) × EndsIn (times_in (open_stretch entries)) before last
  earlier_time begun =
      elim (last_cases entries last is_last) [
        | inl one ↦ absurd (begun (f.taken.waits (omega (arith, ap length one))).is_new)
        | inr ends ↦ ends
      ]

  pub followed_before : (begun : IsPausedPhase x.replay → ⊥) → HasFollowedDump x.replay the_dump (last - 1)
  followed_before begun = f.taken.follows (earlier_time begun).0 last (earlier_time begun).1 (Time next ∷ more) rises rounds by_last

  pub next_step : (begun : IsPausedPhase x.replay → ⊥) → IsNextStep the_dump (last - 1) last
  next_step begun =
      let n = next_time codes entries more (earlier_time begun).0 last next rises (earlier_time begun).1 in
      record { next = omega (arith, n.rises); kind = (listed_law the_dump last).1 n.listed; window = n.in_window }

  -- then each bound signal has a value
  pub have_values : (IsPausedPhase x.replay → ⊥) → HaveValues (made_of x.replay).codes (given_of x.replay)
  have_values begun = f.of.ready.begun (followed_before begun).started

-- ---- the answers of the two calls

module _ (x : DumpReplay) (y : Replay) (time : ℕ) where
  -- the first step was closed
  pub first_closed : IsPausedPhase x.replay → IsReady y → IsStarted y → made_of y ≡ made_of x.replay → given_of y ≡ given_of x.replay
      → ((dump : BoundDump) → HasPausedDump x.replay dump time → IsFirst dump time → IsShown dump time → AreGivenAt x.replay dump time → HasFollowedDump y dump time)
      → (habit : Habit) (design : Design) (points : Points) (vars : List Var) (instance : List ℕ) (entries more : List Entry) (next : ℕ) → AreEntries vars entries → Rises None (entries ++ Time next ∷ more) → last_time None (open_stretch entries) ≡ Some time
      → HasFollowed x habit design points vars instance entries → Follows y (dump_with (codes_of design vars instance) entries next more) time
  first_closed new ready started made given closed habit design points vars instance entries more next are rises is_last f rounds by_last_y =
      let by_last = subst (λ m. AreLastRounds m.design (read_by (dump_with (codes_of design vars instance) entries next more) rounds)) made by_last_y in
      let own : HaveValues (made_of y).codes (given_of y) = ready.begun started in
      let have : HaveValues (made_of x.replay).codes (given_of x.replay) = subst (λ m. HaveValues m.codes (given_of x.replay)) made (subst (λ g. HaveValues (made_of y).codes g) given own) in
      let first = is_first x habit design points vars instance entries more time next are rises is_last f rounds by_last new in
      closed (read_by (dump_with (codes_of design vars instance) entries next more) rounds) (waits_there x habit design points vars instance entries more time next are rises is_last f rounds by_last new) first.is_first first.shown (given_there x habit design points vars instance entries more time next are rises is_last f rounds by_last have)

  -- a later step was closed
  pub later_closed : (IsPausedPhase x.replay → ⊥) → made_of y ≡ made_of x.replay
      → ((dump : BoundDump) (t : ℕ) → HasFollowedDump x.replay dump t → IsNextStep dump t time → AreGivenAt x.replay dump time → HasFollowedDump y dump time)
      → (habit : Habit) (design : Design) (points : Points) (vars : List Var) (instance : List ℕ) (entries more : List Entry) (next : ℕ) → AreEntries vars entries → Rises None (entries ++ Time next ∷ more) → last_time None (open_stretch entries) ≡ Some time
      → HasFollowed x habit design points vars instance entries → Follows y (dump_with (codes_of design vars instance) entries next more) time
  later_closed begun made closed habit design points vars instance entries more next are rises is_last f rounds by_last_y =
      let by_last = subst (λ m. AreLastRounds m.design (read_by (dump_with (codes_of design vars instance) entries next more) rounds)) made by_last_y in
      closed (read_by (dump_with (codes_of design vars instance) entries next more) rounds) (time - 1)
      (followed_before x habit design points vars instance entries more time next are rises is_last f rounds by_last begun) (next_step x habit design points vars instance entries more time next are rises is_last f rounds by_last begun)
      (given_there x habit design points vars instance entries more time next are rises is_last f rounds by_last (have_values x habit design points vars instance entries more time next are rises is_last f rounds by_last begun))

-- what refutes a dump goes by its times and values, and not by the rounds of its steps
plain : (d : Tree) (h : Habit) (dump : BoundDump) (rounds : ℕ → ℕ) (t s : ℕ) (dumped : Vector) (computed : List (Option Bit)) → IsRefuted d h (read_by dump rounds) t s dumped computed → IsRefuted d h dump t s dumped computed
plain d h dump rounds t s dumped computed is = record {
  contradicted = λ r showing. is.contradicted r (record { is_run = showing.is_run; shows = record { starts = showing.shows.starts; shows = showing.shows.shows } });
  says = is.says;
  differ = is.differ;
}

-- each dump can be read by its last rounds
some_rounds : (x : DumpReplay) (dump : BoundDump) → IsReady x.replay → (rounds : ℕ → ℕ) × AreLastRounds (made_of x.replay).design (read_by dump rounds)
some_rounds x dump ready = last_rounds_law (made_of x.replay).design ready.replayable.lawful dump

-- what a contradiction of the dump of the entries says of them
pub refuted_entries : (x : DumpReplay) (habit : Habit) (design : Design) (points : Points) (vars : List Var) (instance : List ℕ) (entries : List Entry) (last time next s end : ℕ) (dumped : Vector) (computed : Partly) (rounds : ℕ → ℕ) → last_time None (open_stretch entries) ≡ Some last
    → last ≤ time → time < next
    → IsReplayOf x habit design points vars instance → s < length (made_of x.replay).design.signals → (end ≡ time) × IsRefuted (made_of x.replay).design (habit_of (made_of x.replay).habit) (read_by (dump_with (codes_of design vars instance) entries next []) rounds) time s dumped computed.bits
    → IsContradicted habit design vars instance (entries ++ Time next ∷ []) s end dumped computed.bits
refuted_entries x habit design points vars instance entries last time next s end dumped computed rounds is_last from before of listed (same, by) =
    let is = plain (made_of x.replay).design (habit_of (made_of x.replay).habit) (dump_with (codes_of design vars instance) entries next []) rounds time s dumped computed.bits by in
    subst (λ t. IsContradicted habit design vars instance (entries ++ Time next ∷ []) s t dumped computed.bits) (sym same) (record {
      there = of.there;
      ends = record { front = entries; next = next; are = refl; last = last; is_last = is_last; from = from; before = before };
      listed = subst (λ d. s < length d.signals) of.design_is listed;
      refuted = subst (λ d. IsRefuted d habit (dump_with (codes_of design vars instance) entries next []) time s dumped computed.bits) of.design_is (subst (λ h. IsRefuted (made_of x.replay).design h (dump_with (codes_of design vars instance) entries next []) time s dumped computed.bits) of.habit_is is);
    })

module _ {T : Type 0} (x : DumpReplay) (result : Result T ReplayFault) (time : ℕ) where
  -- the first step was refused
  pub first_refused : IsPausedPhase x.replay → ((s : ℕ) → IsPausedPhase x.replay → result ≡ Err (fault.NoBaseline s) → IsFirstMissing (given_of x.replay) (made_of x.replay).codes s)
      → ((s t : ℕ) (dumped : Vector) (computed : Partly) → IsPausedPhase x.replay → result ≡ Err (fault.Contradiction s t dumped computed) → HaveValues (made_of x.replay).codes (given_of x.replay))
      → IfErr result (λ f. (dump : BoundDump) → HasPausedDump x.replay dump time → IsFirst dump time → IsShown dump time → AreGivenAt x.replay dump time → IsContradiction (made_of x.replay).design (habit_of (made_of x.replay).habit) dump time f)
      → IfErr result (λ f. signal_of f < length (made_of x.replay).design.signals)
      → IfErr result (λ g. (habit : Habit) (design : Design) (points : Points) (vars : List Var) (instance : List ℕ) (entries : List Entry) (next : ℕ) → AreEntries vars entries → Rises None (entries ++ Time next ∷ []) → last_time None (open_stretch entries) ≡ Some time
      → HasFollowed x habit design points vars instance entries → IsReplayFault habit design vars instance (entries ++ Time next ∷ []) g)
  first_refused new missing valued contradiction named = go result refl contradiction named
    where
      go : (r : Result T ReplayFault) → result ≡ r → IfErr r (λ f. (dump : BoundDump) → HasPausedDump x.replay dump time → IsFirst dump time → IsShown dump time → AreGivenAt x.replay dump time → IsContradiction (made_of x.replay).design (habit_of (made_of x.replay).habit) dump time f)
          → IfErr r (λ f. signal_of f < length (made_of x.replay).design.signals)
          → IfErr r (λ g. (habit : Habit) (design : Design) (points : Points) (vars : List Var) (instance : List ℕ) (entries : List Entry) (next : ℕ) → AreEntries vars entries → Rises None (entries ++ Time next ∷ []) → last_time None (open_stretch entries) ≡ Some time
          → HasFollowed x habit design points vars instance entries → IsReplayFault habit design vars instance (entries ++ Time next ∷ []) g)
      go (Ok value) is c n = tt
      go (Err (fault.NoBaseline s)) is c n = λ habit design points vars instance entries next are rises is_last f.
          let some = some_rounds x (dump_with (codes_of design vars instance) entries next []) f.of.ready in let rounds = some.0 in let by_last = some.1 in
          no_baseline design vars instance entries time next (made_of x.replay).codes (given_of x.replay) s f.of.codes f.of.there (only_time x habit design points vars instance entries [] time next are rises is_last f rounds by_last new) f.taken.given (missing s new is)
      go (Err (fault.Contradiction s end dumped computed)) is c n = λ habit design points vars instance entries next are rises is_last f.
          let some = some_rounds x (dump_with (codes_of design vars instance) entries next []) f.of.ready in let rounds = some.0 in let by_last = some.1 in
          let first = is_first x habit design points vars instance entries [] time next are rises is_last f rounds by_last new in
          refuted_entries x habit design points vars instance entries time time next s end dumped computed rounds is_last (omega arith) (later_next entries [] time next rises is_last) f.of n
          (c (read_by (dump_with (codes_of design vars instance) entries next []) rounds) (waits_there x habit design points vars instance entries [] time next are rises is_last f rounds by_last new) first.is_first first.shown
          (given_there x habit design points vars instance entries [] time next are rises is_last f rounds by_last (valued s end dumped computed new is)))

  -- a later step was refused
  pub later_refused : (IsPausedPhase x.replay → ⊥)
      → IfErr result (λ f. (dump : BoundDump) (t : ℕ) → HasFollowedDump x.replay dump t → IsNextStep dump t time → AreGivenAt x.replay dump time → IsContradiction (made_of x.replay).design (habit_of (made_of x.replay).habit) dump time f)
      → IfErr result (λ f. signal_of f < length (made_of x.replay).design.signals)
      → IfErr result (λ g. (habit : Habit) (design : Design) (points : Points) (vars : List Var) (instance : List ℕ) (entries : List Entry) (next : ℕ) → AreEntries vars entries → Rises None (entries ++ Time next ∷ []) → last_time None (open_stretch entries) ≡ Some time
      → HasFollowed x habit design points vars instance entries → IsReplayFault habit design vars instance (entries ++ Time next ∷ []) g)
  later_refused begun contradiction named = go result contradiction named
    where
      go : (r : Result T ReplayFault) → IfErr r (λ f. (dump : BoundDump) (t : ℕ) → HasFollowedDump x.replay dump t → IsNextStep dump t time → AreGivenAt x.replay dump time → IsContradiction (made_of x.replay).design (habit_of (made_of x.replay).habit) dump time f)
          → IfErr r (λ f. signal_of f < length (made_of x.replay).design.signals)
          → IfErr r (λ g. (habit : Habit) (design : Design) (points : Points) (vars : List Var) (instance : List ℕ) (entries : List Entry) (next : ℕ) → AreEntries vars entries → Rises None (entries ++ Time next ∷ []) → last_time None (open_stretch entries) ≡ Some time
          → HasFollowed x habit design points vars instance entries → IsReplayFault habit design vars instance (entries ++ Time next ∷ []) g)
      go (Ok value) c n = tt
      go (Err (fault.NoBaseline s)) c n = λ habit design points vars instance entries next are rises is_last f.
          let some = some_rounds x (dump_with (codes_of design vars instance) entries next []) f.of.ready in let rounds = some.0 in let by_last = some.1 in
          absurd (c (read_by (dump_with (codes_of design vars instance) entries next []) rounds) (time - 1)
          (followed_before x habit design points vars instance entries [] time next are rises is_last f rounds by_last begun) (next_step x habit design points vars instance entries [] time next are rises is_last f rounds by_last begun)
          (given_there x habit design points vars instance entries [] time next are rises is_last f rounds by_last (have_values x habit design points vars instance entries [] time next are rises is_last f rounds by_last begun)))
      go (Err (fault.Contradiction s end dumped computed)) c n = λ habit design points vars instance entries next are rises is_last f.
          let some = some_rounds x (dump_with (codes_of design vars instance) entries next []) f.of.ready in let rounds = some.0 in let by_last = some.1 in
          refuted_entries x habit design points vars instance entries time time next s end dumped computed rounds is_last (omega arith) (later_next entries [] time next rises is_last) f.of n
          (c (read_by (dump_with (codes_of design vars instance) entries next []) rounds) (time - 1)
          (followed_before x habit design points vars instance entries [] time next are rises is_last f rounds by_last begun) (next_step x habit design points vars instance entries [] time next are rises is_last f rounds by_last begun)
          (given_there x habit design points vars instance entries [] time next are rises is_last f rounds by_last (have_values x habit design points vars instance entries [] time next are rises is_last f rounds by_last begun)))

pub ok_map : {T : Type 0} (r : Result T ReplayFault) (A B : Type 0) → (A → B) → OnOk r A → OnOk r B
ok_map (Ok value) A B step a = step a
ok_map (Err fault) A B step a = tt

err_map : {T : Type 0} (r : Result T ReplayFault) (A B : ReplayFault → Type 0) → ((g : ReplayFault) → A g → B g) → IfErr r A → IfErr r B
err_map (Ok value) A B step a = tt
err_map (Err g) A B step a = step g a

-- ---- the times between the last one, whose step is closed, and the next

module _ (x z : DumpReplay) (last next : ℕ) (made : made_of z.replay ≡ made_of x.replay) (given : given_of z.replay ≡ given_of x.replay) (started : IsStarted z.replay) (ready : IsReady z.replay)
    (habit : Habit) (design : Design) (points : Points) (vars : List Var) (instance : List ℕ) (entries more : List Entry) (are : AreEntries vars entries) (rises : Rises None (entries ++ Time next ∷ more))
    (is_last : last_time None (open_stretch entries) ≡ Some last) (f : HasFollowed x habit design points vars instance entries) where
  abbrev said : BoundDump
  said = dump_with (codes_of design vars instance) entries next more

  -- none of them is listed, and each is of the window
  pub between_times : AreHidden said last next
  between_times =
      let n : (t : ℕ) → last < t → t < next → IsWindow said t × (IsListed said t → ⊥) = λ t after before. rest_time (codes_of design vars instance) entries more last next t rises is_last after before in
      record { later = later_next entries more last next rises is_last; window = λ t after before. (n t after before).0; unlisted = λ t after before. (n t after before).1 }

  -- and the values are those of the last one
  pub given_after : AreGivenAt z.replay said last
  given_after =
      let codes : (made_of z.replay).codes ≡ codes_of design vars instance = ap (λ (m : Made). m.codes) made ∙ f.of.codes in
      let is : (made_of z.replay).design ≡ design_view design = ap (λ (m : Made). m.design) made ∙ f.of.design_is in
      let values : AreGiven (codes_of design vars instance) (value_of (given_of z.replay)) entries = subst (λ g. AreGiven (codes_of design vars instance) (value_of g) entries) (sym given) f.taken.given in
      given_at design vars instance entries more next rises (made_of z.replay).design (made_of z.replay).codes (given_of z.replay) last is codes (later_next entries more last next rises is_last) are is_last values (ready.begun started)

-- they are the same however the steps are judged
hidden_read : (dump : BoundDump) (rounds : ℕ → ℕ) (last next : ℕ) → AreHidden dump last next → AreHidden (read_by dump rounds) last next
hidden_read dump rounds last next hidden = record { later = hidden.later; window = hidden.window; unlisted = hidden.unlisted }

-- the answers of the call for them
module _ {T : Type 0} (x y : Replay) (last next : ℕ) (made : made_of y ≡ made_of x) (r : Result T ReplayFault) where
  pub rest_follows : OnOk r ((dump : BoundDump) → HasFollowedDump x dump last → AreHidden dump last next → AreGivenAt x dump last → HasFollowedDump y dump (next - 1))
      → OnOk r ((dump : BoundDump) → Follows x dump last → AreHidden dump last next → AreGivenAt x dump last → Follows y dump (next - 1))
  rest_follows closed = ok_map r _ _ (λ each dump follows hidden given rounds by_last.
      each (read_by dump rounds) (follows rounds (subst (λ (m : Made). AreLastRounds m.design (read_by dump rounds)) made by_last)) (hidden_read dump rounds last next hidden) given) closed

  pub rest_refutes : IfErr r (λ g. (dump : BoundDump) → HasFollowedDump x dump last → AreHidden dump last next → AreGivenAt x dump last → (suc last < next) × IsContradiction (made_of x).design (habit_of (made_of x).habit) dump (suc last) g)
      → IfErr r (λ g. (dump : BoundDump) → Follows x dump last → AreHidden dump last next → AreGivenAt x dump last
      → ByLastRounds (made_of x).design dump (λ b. (suc last < next) × IsContradiction (made_of x).design (habit_of (made_of x).habit) b (suc last) g))
  rest_refutes refutes = err_map r _ _ (λ g each dump follows hidden given rounds by_last. each (read_by dump rounds) (follows rounds by_last) (hidden_read dump rounds last next hidden) given) refutes

pub rest_starts : {T : Type 0} (r : Result T ReplayFault) (x y : Replay) → IsStarted x → OnOk r (IsStarted x → IsStarted y) → OnOk r (IsStarted y)
rest_starts r x y started is = ok_map r _ _ (λ from. from started) is

pub begun_not_new : (x : Replay) → IsStarted x → IsPausedPhase x → ⊥
begun_not_new x started new = new_or_started x.phase new started

-- what follows after those times
pub rest_closed : (x z : DumpReplay) (y : Replay) (last next : ℕ) → made_of z.replay ≡ made_of x.replay → given_of z.replay ≡ given_of x.replay → IsStarted z.replay → IsReady z.replay
    → ((dump : BoundDump) → Follows z.replay dump last → AreHidden dump last next → AreGivenAt z.replay dump last → Follows y dump (next - 1))
    → (habit : Habit) (design : Design) (points : Points) (vars : List Var) (instance : List ℕ) (entries more : List Entry) → AreEntries vars entries → Rises None (entries ++ Time next ∷ more) → last_time None (open_stretch entries) ≡ Some last
    → HasFollowed x habit design points vars instance entries → Follows z.replay (dump_with (codes_of design vars instance) entries next more) last
    → Follows y (dump_with (codes_of design vars instance) entries next more) (next - 1)
rest_closed x z y last next made given started ready closed habit design points vars instance entries more are rises is_last f follows =
    closed (dump_with (codes_of design vars instance) entries next more) follows
    (between_times x z last next made given started ready habit design points vars instance entries more are rises is_last f)
    (given_after x z last next made given started ready habit design points vars instance entries more are rises is_last f)

-- a contradiction at one of them
pub rest_fault : (x z : DumpReplay) (last next : ℕ) → made_of z.replay ≡ made_of x.replay → given_of z.replay ≡ given_of x.replay → IsStarted z.replay → IsReady z.replay → (g : ReplayFault)
    → ((dump : BoundDump) → Follows z.replay dump last → AreHidden dump last next → AreGivenAt z.replay dump last
    → ByLastRounds (made_of z.replay).design dump (λ b. (suc last < next) × IsContradiction (made_of z.replay).design (habit_of (made_of z.replay).habit) b (suc last) g))
    → signal_of g < length (made_of z.replay).design.signals
    → (habit : Habit) (design : Design) (points : Points) (vars : List Var) (instance : List ℕ) (entries : List Entry) → AreEntries vars entries → Rises None (entries ++ Time next ∷ []) → last_time None (open_stretch entries) ≡ Some last
    → HasFollowed x habit design points vars instance entries → Follows z.replay (dump_with (codes_of design vars instance) entries next []) last
    → IsReplayFault habit design vars instance (entries ++ Time next ∷ []) g
rest_fault x z last next made given started ready (fault.NoBaseline s) refutes named habit design points vars instance entries are rises is_last f follows =
    let dump = dump_with (codes_of design vars instance) entries next [] in
    let some = some_rounds x dump f.of.ready in
    absurd (refutes dump follows (between_times x z last next made given started ready habit design points vars instance entries [] are rises is_last f)
    (given_after x z last next made given started ready habit design points vars instance entries [] are rises is_last f) some.0
    (subst (λ (m : Made). AreLastRounds m.design (read_by dump some.0)) (sym made) some.1)).1
rest_fault x z last next made given started ready (fault.Contradiction s end dumped computed) refutes named habit design points vars instance entries are rises is_last f follows =
    let dump = dump_with (codes_of design vars instance) entries next [] in
    let some = some_rounds x dump f.of.ready in
    let is = refutes dump follows (between_times x z last next made given started ready habit design points vars instance entries [] are rises is_last f)
    (given_after x z last next made given started ready habit design points vars instance entries [] are rises is_last f) some.0
    (subst (λ (m : Made). AreLastRounds m.design (read_by dump some.0)) (sym made) some.1) in
    refuted_entries x habit design points vars instance entries last (suc last) next s end dumped computed some.0 is_last (omega arith) is.0 f.of
    (subst (λ (m : Made). s < length m.design.signals) made named)
    (subst (λ (m : Made). (end ≡ suc last) × IsRefuted m.design (habit_of m.habit) (read_by dump some.0) (suc last) s dumped computed.bits) made is.1)

-- ---- what a result says once it is known

pub ok_both : {T : Type 0} (r : Result T ReplayFault) (A B C : Type 0) → (A → B → C) → OnOk r A → OnOk r B → OnOk r C
ok_both (Ok value) A B C step a b = step a b
ok_both (Err fault) A B C step a b = tt

pub has_begun : (x : Replay) (started : Bool) → IsFalse started ↔ IsPausedPhase x → started ≡ true → IsPausedPhase x → ⊥
has_begun x started is true_is new = false≢true (sym (is.1 new) ∙ true_is)

pub is_new : (x : Replay) (started : Bool) → IsFalse started ↔ IsPausedPhase x → started ≡ false → IsPausedPhase x
is_new x started is false_is = is.0 false_is

pub not_started : (x : Replay) (started : Bool) → IsFalse started ↔ IsPausedPhase x → started ≡ false → IsStarted x → ⊥
not_started x started is false_is begun = new_or_started x.phase (is.0 false_is) begun

pub fault_is : {T : Type 0} (r : Result T ReplayFault) (A B : ReplayFault → Type 0) → ((fault : ReplayFault) → A fault → B fault) → IsErrAnd r A → IfErr r B
fault_is (Ok value) A B step a = tt
fault_is (Err fault) A B step a = step fault a

-- ---- where the dump goes off

-- a replay that has followed entries so was not refused
pub not_refused : (x : DumpReplay) (habit : Habit) (design : Design) (points : Points) (vars : List Var) (instance : List ℕ) (entries : List Entry) → Rises None entries → HasFollowed x habit design points vars instance entries → (fault : ReplayFault) → HasRefused x.replay fault → ⊥
not_refused x habit design points vars instance entries rises f fault refused = by_last (last_time None (open_stretch entries)) refl
  where
    paused : IsPausedPhase x.replay → ⊥
    paused is = let no_phase : Paused ≡ Refused fault = sym is ∙ refused in cc

    started : IsStarted x.replay → ⊥
    started is = let no_phase : Started ≡ Refused fault = sym is ∙ refused in cc

    two : (before last : ℕ) → EndsIn (times_in (open_stretch entries)) before last → ⊥
    two before last ends =
        let dump = dump_of (codes_of design vars instance) (stretches_of (entries ++ [])) in
        let some = some_rounds x dump f.of.ready in
        started (f.taken.follows before last ends [] (subst (Rises None) (sym (append-nil entries)) rises) some.0 some.1).started

    by_last : (o : Option ℕ) → last_time None (open_stretch entries) ≡ o → ⊥
    by_last None e = paused (f.taken.waits (omega (arith, ap length (no_times entries e)))).is_new
    by_last (Some last) e = elim (last_cases entries last e) [ inl one ↦ paused (f.taken.waits (omega (arith, ap length one))).is_new | inr (before, ends) ↦ two before last ends ]

-- what the replay has followed before it pauses
module _ (x y : Replay) (made : made_of y ≡ made_of x) where
  pub pause_follows : ((dump : BoundDump) (t u : ℕ) → HasFollowedDump x dump t → t < u → NoneShown dump t u → HasPausedDump y dump u) → (dump : BoundDump) (t u : ℕ) → Follows x dump t → t < u → NoneShown dump t u → Pauses y dump u
  pause_follows each dump t u follows less none rounds by_last =
      each (read_by dump rounds) t u (follows rounds (subst (λ (m : Made). AreLastRounds m.design (read_by dump rounds)) made by_last)) less none

  pub pause_stays : ((dump : BoundDump) (u v : ℕ) → HasPausedDump x dump u → u ≤ v → ((w : ℕ) → u ≤ w → w < v → IsShown dump w → ⊥) → HasPausedDump y dump v) → (dump : BoundDump) (u : ℕ) → Pauses x dump u → Pauses y dump u
  pause_stays each dump u pauses rounds by_last =
      each (read_by dump rounds) u u (pauses rounds (subst (λ (m : Made). AreLastRounds m.design (read_by dump rounds)) made by_last)) (omega arith) (λ w from before. absurd (omega (arith, from, before)))

-- ---- a new replay

-- it has waited for each dump from its beginning on
pub new_holds : (x : Replay) (design : Design) (vars : List Var) (instance : List ℕ) → (made_of x).design ≡ design_view design → (made_of x).codes ≡ codes_of design vars instance
    → ((dump : BoundDump) (u : ℕ) → IsDumpFor (made_of x) dump → ((v : ℕ) → v < u → IsShown dump v → ⊥) → HasPausedDump x dump u) → HoldsPaused (Pauses x) (codes_of design vars instance) []
new_holds x design vars instance is same paused more t rises until rounds by_last =
    let fits = of_dump design vars instance more rises (made_of x).design is in
    let dump_for : IsDumpFor (made_of x) (read_by (dump_of (codes_of design vars instance) (stretches_of more)) rounds) =
    record { fits = record { rising = fits.rising; signals = fits.signals; stays = fits.stays }; bound = λ s. ap (λ cs. is_some (code_at cs s)) (sym same); rounds = by_last } in
    paused (read_by (dump_of (codes_of design vars instance) (stretches_of more)) rounds) t dump_for (λ v before shown. until.none v (omega arith) before shown)
