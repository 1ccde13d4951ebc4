-- What was followed, with one entry more.
use Rattle.std.proofs.Common.{◌≡◌, ⊎_elim, ℕ, ◌<◌, ◌-◌, ◌==◌, true, false, List, [], ◌∷◌, ◌++◌, length, map, Option, None, Some, refl, sym, ap, subst, ◌∙◌, arith, append_assoc, append-nil}
use Rattle.std.specs.Option.{option_to_list}
use Rattle.std.specs.Prelude.{slice_set}
use Rattle.std.specs.List.{All}
use Rattle.std.proofs.lemmas.Bool.{cases_Bool, false≢true}
use Rattle.std.proofs.lemmas.Bool.Decides.{nat_tests}
use Rattle.std.proofs.lemmas.List.{get_or-set_other, get_or-set_same, length-set}
use Rattle.std.proofs.lemmas.List.Elements.{All-head, All-tail}
use Rattle.bound_codes.specs.Codes.{AreWanted}
use Rattle.code_values.specs.Values.{value_of}
use Rattle.cover_points.specs.declared.listing.Points.{Points}
use Rattle.design_model.specs.Shows.{BoundDump, NoneShown}
use Rattle.design_model.specs.declared.design.Design.{Design}
use Rattle.entry_laws.specs.Entries.{AreEntries}
use Rattle.event_machine.specs.Habit.{Habit}
use Rattle.four_state.specs.Vector.{Vector}
use Rattle.replay_core.specs.Fits.{HaveValues}
use Rattle.replay_core.specs.Made.{Made}
use Rattle.replay_core.specs.Parts.{IsPausedPhase, IsReady, IsStarted, given_of, made_of, without_sign}
use Rattle.replay_core.specs.wake_laws.Laws.{habit_of}
use Rattle.score_tables.specs.Windows.{windows_of}
use Rattle.shown_dumps.proofs.Ongoing.{times_time, times_value}
use Rattle.shown_dumps.proofs.Split.{ended_off, ended_on, ended_said, on_of_last, open_dropped, open_off, open_on, open_said}
use Rattle.shown_dumps.specs.Laws.{dump_with}
use Rattle.shown_dumps.specs.Ongoing.{bits_of}
use Rattle.shown_dumps.specs.Said.{ended_stretches, open_stretch, times_in}
use Rattle.shown_dumps.specs.Shown.{code_at}
use Rattle.signal_binding.specs.Binding.{codes_of}
use Rattle.value_store.specs.Queue.{Queue}
use Rattle.coverage_db.specs.declared.window.Window.{Window}
use Rattle.vcd_reader.proofs.RisingTimes.{last_time_append}
use Rattle.vcd_reader.proofs.Turns.{off_at_on, on_at_change, on_at_off, on_at_time}
use Rattle.vcd_reader.specs.Dump.{begun_at}
use Rattle.vcd_reader.specs.Order.{AreInTurn, AreOrdered, is_on}
use Rattle.vcd_reader.specs.Times.{Rises, last_time}
use Rattle.vcd_reader.specs.Wanted.{IsUnwanted, is_wanted}
use Rattle.vcd_reader.specs.declared.entry.Entry.{Entry}
use Rattle.vcd_reader.specs.declared.entry.Entry.TheVariants.{Off, On, Time, Value}
use Rattle.vcd_reader.specs.declared.vars.Var.{Var}
use Rattle.dump_replay.specs.Followed.{Follows, HasFollowed, IsReplayOf, Pauses}
use Rattle.dump_replay.specs.Taken.{HasTaken}
use Rattle.dump_replay.specs.Windows.{first_of, span_of}
use Rattle.dump_replay.specs.declared.replay.DumpReplay.{DumpReplay}
use Rattle.dump_replay.proofs.Facts.{some_values}
use Rattle.dump_replay.proofs.More.{given_passed, given_value, no_times}
use Rattle.dump_replay.proofs.Taken.{taken_first, taken_off, taken_on, taken_time, taken_value}
use Rattle.dump_replay.proofs.Windows.{first_kept, one_more, some_times}

apart : (a b : ℕ) → (a == b) ≡ false → b ≡ a → ⊥
apart a b e f =
    let same : (a == b) ≡ true = grind (arith, nat_tests, f) in
    false≢true (sym e ∙ same)

-- the same replay by other fields
pub of_again : (x y : DumpReplay) (habit : Habit) (design : Design) (points : Points) (vars : List Var) (instance : List ℕ) → IsReady y.replay → made_of y.replay ≡ made_of x.replay → length (given_of y.replay) ≡ length (given_of x.replay) → y.wanted ≡ x.wanted
    → IsReplayOf x habit design points vars instance → IsReplayOf y habit design points vars instance
of_again x y habit design points vars instance ready made long wanted of = record {
  ready = ready;
  there = of.there;
  design_is = ap (λ (m : Made). m.design) made ∙ of.design_is;
  habit_is = ap (λ (m : Made). habit_of m.habit) made ∙ of.habit_is;
  points_are = ap (λ (m : Made). m.points) made ∙ of.points_are;
  codes = ap (λ (m : Made). m.codes) made ∙ of.codes;
  within = λ code coded. omega (arith, of.within code coded, long);
  wanted = subst (λ w. AreWanted (codes_of design vars instance) w.items) (sym wanted) of.wanted;
}

-- windows with so much room
abbrev windows_with : List Window → ℕ → Queue Window
windows_with ws room = record { items = ws; room = room }

-- the windows of the stretches that have ended, of which the same have ended after more entries
windows_stay : (x y : DumpReplay) (entries more : List Entry) → y.windows ≡ x.windows → map times_in (ended_stretches (entries ++ more)) ≡ map times_in (ended_stretches entries)
    → x.windows ≡ record { items = windows_of (map times_in (ended_stretches entries)); room = 1024 } → y.windows ≡ record { items = windows_of (map times_in (ended_stretches (entries ++ more))); room = 1024 }
windows_stay x y entries more same ended are = same ∙ are ∙ ap (λ tss. windows_with (windows_of tss) 1024) (sym ended)

-- the last time, with an entry more that says none
last_said : (entries : List Entry) (code : ℕ) (value : Vector) → last_time None (open_stretch (entries ++ Value code value ∷ [])) ≡ last_time None (open_stretch entries)
last_said entries code value =
    ⊎_elim (λ on. ap (last_time None) (open_said entries (Value code value ∷ []) on refl) ∙ last_time_append None (open_stretch entries) (Value code value ∷ [])) (λ off. ap (last_time None) (open_dropped entries (Value code value ∷ []) off refl))
    (cases_Bool (is_on entries))

-- with a time more
last_timed : (entries : List Entry) (time : ℕ) → is_on entries ≡ true → last_time None (open_stretch (entries ++ Time time ∷ [])) ≡ Some time
last_timed entries time on = ap (last_time None) (open_said entries (Time time ∷ []) on refl) ∙ last_time_append None (open_stretch entries) (Time time ∷ [])

-- a change of a code that no signal has
passed_one : (x : DumpReplay) (habit : Habit) (design : Design) (points : Points) (vars : List Var) (instance : List ℕ) (entries : List Entry) (code : ℕ) (value : Vector) → is_wanted x.wanted.items code ≡ false
    → HasFollowed x habit design points vars instance entries → HasFollowed x habit design points vars instance (entries ++ Value code value ∷ [])
passed_one x habit design points vars instance entries code value unwanted f =
    let none : (s : ℕ) → code_at (codes_of design vars instance) s ≡ Some code → ⊥ = λ s bound. false≢true (sym unwanted ∙ (f.of.wanted code).1 (s, bound)) in
    record {
      of = f.of;
      first = f.first ∙ ap first_of (sym (times_value entries code value));
      last = f.last ∙ sym (last_said entries code value);
      windows = windows_stay x x entries (Value code value ∷ []) refl (ended_said entries (Value code value ∷ []) refl) f.windows;
      taken = taken_value (Follows x.replay) (Follows x.replay) (Pauses x.replay) (Pauses x.replay) (IsPausedPhase x.replay) (IsPausedPhase x.replay) (codes_of design vars instance) (value_of (given_of x.replay)) (value_of (given_of x.replay)) entries code value
          (given_passed (codes_of design vars instance) (value_of (given_of x.replay)) entries code value none f.taken.given) (λ dump t h. h) (λ dump t h. h) (λ h. h) f.taken;
    }

pub passed_all : (x : DumpReplay) (habit : Habit) (design : Design) (points : Points) (vars : List Var) (instance : List ℕ) (passed entries : List Entry) → All (IsUnwanted x.wanted.items) passed
    → HasFollowed x habit design points vars instance entries → HasFollowed x habit design points vars instance (entries ++ passed)
passed_all x habit design points vars instance [] entries unwanted f = subst (HasFollowed x habit design points vars instance) (sym (append-nil entries)) f
passed_all x habit design points vars instance (Time time ∷ passed) entries unwanted f = absurd (All-head (IsUnwanted x.wanted.items) (Time time) passed unwanted)
passed_all x habit design points vars instance (Off ∷ passed) entries unwanted f = absurd (All-head (IsUnwanted x.wanted.items) Off passed unwanted)
passed_all x habit design points vars instance (On time ∷ passed) entries unwanted f = absurd (All-head (IsUnwanted x.wanted.items) (On time) passed unwanted)
passed_all x habit design points vars instance (Value code value ∷ passed) entries unwanted f =
    let next = passed_one x habit design points vars instance entries code value (All-head (IsUnwanted x.wanted.items) (Value code value) passed unwanted) f in
    subst (HasFollowed x habit design points vars instance) (append_assoc entries (Value code value ∷ []) passed)
    (passed_all x habit design points vars instance passed (entries ++ Value code value ∷ []) (All-tail (IsUnwanted x.wanted.items) (Value code value) passed unwanted) next)

-- a change
pub changed : (x y : DumpReplay) (code : ℕ) (value : Vector) → IsReady y.replay → made_of y.replay ≡ made_of x.replay → (IsPausedPhase x.replay → IsPausedPhase y.replay) → given_of y.replay ≡ slice_set (given_of x.replay) code (Some (without_sign value))
    → y.wanted ≡ x.wanted → y.first ≡ x.first → y.last ≡ x.last → y.windows ≡ x.windows
    → ((dump : BoundDump) (t : ℕ) → Follows x.replay dump t → Follows y.replay dump t) → ((dump : BoundDump) (t : ℕ) → Pauses x.replay dump t → Pauses y.replay dump t)
    → (habit : Habit) (design : Design) (points : Points) (vars : List Var) (instance : List ℕ) (entries : List Entry) → AreInTurn true (entries ++ Value code value ∷ []) → HasFollowed x habit design points vars instance entries
    → HasFollowed y habit design points vars instance (entries ++ Value code value ∷ [])
changed x y code value ready made stays given wanted first last windows follows pauses habit design points vars instance entries turn f =
    let on : is_on entries ≡ true = on_at_change entries [] code value turn in
    let long : length (given_of y.replay) ≡ length (given_of x.replay) = ap length given ∙ length-set (given_of x.replay) code (Some (without_sign value)) in
    record {
      of = of_again x y habit design points vars instance ready made long wanted f.of;
      first = first ∙ f.first ∙ ap first_of (sym (times_value entries code value));
      last = last ∙ f.last ∙ sym (last_said entries code value);
      windows = windows_stay x y entries (Value code value ∷ []) windows (ended_said entries (Value code value ∷ []) refl) f.windows;
      taken = taken_value (Follows x.replay) (Follows y.replay) (Pauses x.replay) (Pauses y.replay) (IsPausedPhase x.replay) (IsPausedPhase y.replay) (codes_of design vars instance) (value_of (given_of x.replay)) (value_of (given_of y.replay)) entries code value
          (given_value (codes_of design vars instance) (value_of (given_of x.replay)) (value_of (given_of y.replay)) entries code value on
          (λ s bound. ap (λ g. bits_of (value_of g code)) given ∙ ap bits_of (get_or-set_same (given_of x.replay) code (Some (without_sign value)) None (f.of.within code (s, bound))))
          (λ other e. ap (λ g. value_of g other) given ∙ get_or-set_other (given_of x.replay) code other (Some (without_sign value)) None (apart code other e)) f.taken.given)
          follows pauses stays f.taken;
    }

-- the first time of a stretch
pub first_opened : (x y : DumpReplay) (time : ℕ) → x.last ≡ None → y.replay ≡ x.replay → y.wanted ≡ x.wanted → y.windows ≡ x.windows → y.first ≡ Some time → y.last ≡ Some time
    → (habit : Habit) (design : Design) (points : Points) (vars : List Var) (instance : List ℕ) (entries : List Entry) → AreInTurn true (entries ++ Time time ∷ []) → HasFollowed x habit design points vars instance entries
    → HasFollowed y habit design points vars instance (entries ++ Time time ∷ [])
first_opened x y time none replay wanted windows first last habit design points vars instance entries turn f =
    let on : is_on entries ≡ true = on_at_time entries [] time turn in
    let ready : IsReady y.replay = subst IsReady (sym replay) f.of.ready in
    let empty = no_times entries (sym f.last ∙ none) in
    let taken = taken_first (Follows x.replay) (Pauses x.replay) (IsPausedPhase x.replay) (codes_of design vars instance) (value_of (given_of x.replay)) entries time on (sym f.last ∙ none) f.taken in
    record {
      of = of_again x y habit design points vars instance ready (ap made_of replay) (ap (λ r. length (given_of r)) replay) wanted f.of;
      first = first ∙ ap (λ ts. first_of (ts ++ time ∷ [])) (sym empty) ∙ ap first_of (sym (times_time entries time on));
      last = last ∙ sym (last_timed entries time on);
      windows = windows_stay x y entries (Time time ∷ []) windows (ended_said entries (Time time ∷ []) refl) f.windows;
      taken = subst (λ r. HasTaken (Follows r) (Pauses r) (IsPausedPhase r) (codes_of design vars instance) (value_of (given_of r)) (entries ++ Time time ∷ [])) (sym replay) taken;
    }

-- a later time, once the steps of the last one and of the times between are closed
pub later_opened : (x z y : DumpReplay) (last time : ℕ) → IsReady z.replay → IsStarted z.replay → made_of z.replay ≡ made_of x.replay → given_of z.replay ≡ given_of x.replay → z.wanted ≡ x.wanted → z.windows ≡ x.windows → z.first ≡ x.first → x.last ≡ Some last
    → y.replay ≡ z.replay → y.wanted ≡ z.wanted → y.windows ≡ z.windows → y.first ≡ z.first → y.last ≡ Some time
    → ((habit : Habit) (design : Design) (points : Points) (vars : List Var) (instance : List ℕ) (entries more : List Entry) → AreEntries vars entries → Rises None (entries ++ Time time ∷ more) → last_time None (open_stretch entries) ≡ Some last
    → HasFollowed x habit design points vars instance entries → Follows z.replay (dump_with (codes_of design vars instance) entries time more) (time - 1))
    → (habit : Habit) (design : Design) (points : Points) (vars : List Var) (instance : List ℕ) (entries : List Entry) → AreEntries vars entries → HasFollowed x habit design points vars instance entries
    → HasFollowed y habit design points vars instance (entries ++ Time time ∷ [])
later_opened x z y last time ready started made given wanted noted began had replay kept keeps begins opened closed habit design points vars instance entries are f =
    let is_last : last_time None (open_stretch entries) ≡ Some last = sym f.last ∙ had in
    let on : is_on entries ≡ true = on_of_last entries last is_last in
    let codes = codes_of design vars instance in
    let have : HaveValues codes (given_of x.replay) = subst (λ g. HaveValues codes g) given (subst (λ cs. HaveValues cs (given_of z.replay)) (ap (λ (m : Made). m.codes) made ∙ f.of.codes) (ready.begun started)) in
    let taken = taken_time (Follows x.replay) (Follows z.replay) (Pauses x.replay) (Pauses z.replay) (IsPausedPhase x.replay) (IsPausedPhase z.replay) codes (value_of (given_of x.replay)) entries last time is_last (some_values codes (given_of x.replay) have)
    (λ more rises. closed habit design points vars instance entries more are rises is_last f) f.taken in
    record {
      of = of_again x y habit design points vars instance (subst IsReady (sym replay) ready) (ap made_of replay ∙ made) (ap (λ r. length (given_of r)) replay ∙ ap length given) (kept ∙ wanted) f.of;
      first = begins ∙ began ∙ f.first ∙ sym (first_kept (times_in (open_stretch entries)) time (some_times entries last is_last)) ∙ ap first_of (sym (times_time entries time on));
      last = opened ∙ sym (last_timed entries time on);
      windows = windows_stay x y entries (Time time ∷ []) (keeps ∙ noted) (ended_said entries (Time time ∷ []) refl) f.windows;
      taken =
          subst (λ r. HasTaken (Follows r) (Pauses r) (IsPausedPhase r) codes (value_of (given_of r)) (entries ++ Time time ∷ [])) (sym replay)
          (subst (λ g. HasTaken (Follows z.replay) (Pauses z.replay) (IsPausedPhase z.replay) codes (value_of g) (entries ++ Time time ∷ [])) (sym given) taken);
    }

-- where the dump goes off
pub stretch_ended : (x y : DumpReplay) → IsReady y.replay → made_of y.replay ≡ made_of x.replay → length (given_of y.replay) ≡ length (given_of x.replay) → y.wanted ≡ x.wanted
    → y.windows ≡ record x.windows { items = x.windows.items ++ option_to_list (span_of x.first x.last) } → y.first ≡ None → y.last ≡ None
    → ((entries : List Entry) (habit : Habit) (design : Design) (points : Points) (vars : List Var) (instance : List ℕ) → Rises None entries → HasFollowed x habit design points vars instance entries → IsPausedPhase y.replay × ((code : ℕ) → value_of (given_of y.replay) code ≡ None))
    → ((dump : BoundDump) (t u : ℕ) → Follows x.replay dump t → t < u → NoneShown dump t u → Pauses y.replay dump u) → ((dump : BoundDump) (u : ℕ) → Pauses x.replay dump u → Pauses y.replay dump u)
    → (habit : Habit) (design : Design) (points : Points) (vars : List Var) (instance : List ℕ) (entries : List Entry) → AreOrdered (entries ++ Off ∷ []) → Rises None entries → HasFollowed x habit design points vars instance entries
    → HasFollowed y habit design points vars instance (entries ++ Off ∷ [])
stretch_ended x y ready made long wanted windows first last off ends stays habit design points vars instance entries ordered rises f =
    let on : is_on entries ≡ true = on_at_off entries [] ordered.in_turn in
    let closed : open_stretch (entries ++ Off ∷ []) ≡ [] = open_off entries in
    let paused = off entries habit design points vars instance rises f in
    record {
      of = of_again x y habit design points vars instance ready made long wanted f.of;
      first = first ∙ ap (λ es. first_of (times_in es)) (sym closed);
      last = last ∙ ap (last_time None) (sym closed);
      windows =
          windows ∙ ap (λ ws. windows_with ws x.windows.room) (one_more entries x.windows.items x.first x.last rises (ap (λ (q : Queue Window). q.items) f.windows) f.first f.last)
          ∙ ap (λ (q : Queue Window). windows_with (windows_of (map times_in (ended_stretches entries) ++ times_in (open_stretch entries) ∷ [])) q.room) f.windows
          ∙ ap (λ tss. windows_with (windows_of tss) 1024) (sym (ended_off entries on));
      taken = taken_off (Follows x.replay) (Pauses x.replay) (Pauses y.replay) (Follows y.replay) (IsPausedPhase x.replay) (IsPausedPhase y.replay) (codes_of design vars instance) (value_of (given_of x.replay)) (value_of (given_of y.replay)) entries on rises paused.1 paused.0 ends stays f.taken;
    }

-- where it goes on
pub stretch_begun : (x y : DumpReplay) (time : Option ℕ) → y.replay ≡ x.replay → y.wanted ≡ x.wanted → y.windows ≡ x.windows → y.first ≡ time → y.last ≡ time
    → (habit : Habit) (design : Design) (points : Points) (vars : List Var) (instance : List ℕ) (entries : List Entry) → AreOrdered (entries ++ On time ∷ []) → HasFollowed x habit design points vars instance entries
    → HasFollowed y habit design points vars instance (entries ++ On time ∷ [])
stretch_begun x y time replay wanted windows first last habit design points vars instance entries ordered f =
    let off : is_on entries ≡ false = off_at_on entries [] time ordered.in_turn in
    let opened : open_stretch (entries ++ On time ∷ []) ≡ begun_at time [] = open_on entries time in
    let ready : IsReady y.replay = subst IsReady (sym replay) f.of.ready in
    let taken = taken_on (Follows x.replay) (Pauses x.replay) (IsPausedPhase x.replay) (codes_of design vars instance) (value_of (given_of x.replay)) entries time off f.taken in
    record {
      of = of_again x y habit design points vars instance ready (ap made_of replay) (ap (λ r. length (given_of r)) replay) wanted f.of;
      first = first ∙ first_begun time ∙ ap (λ es. first_of (times_in es)) (sym opened);
      last = last ∙ last_begun time ∙ ap (last_time None) (sym opened);
      windows = windows_stay x y entries (On time ∷ []) windows (ended_on entries time off) f.windows;
      taken = subst (λ r. HasTaken (Follows r) (Pauses r) (IsPausedPhase r) (codes_of design vars instance) (value_of (given_of r)) (entries ++ On time ∷ [])) (sym replay) taken;
    }
  where
    first_begun : (o : Option ℕ) → o ≡ first_of (times_in (begun_at o []))
    first_begun None = refl
    first_begun (Some t) = refl

    last_begun : (o : Option ℕ) → o ≡ last_time None (begun_at o [])
    last_begun None = refl
    last_begun (Some t) = refl
