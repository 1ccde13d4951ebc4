-- The marks at the end of a dump.
use Rattle.std.proofs.Common.{◌≡◌, ℕ, ◌<◌, ◌≤◌, ◌-◌, true, List, [], ◌∷◌, ◌++◌, length, map, Option, None, Some, refl, sym, ap, subst, ◌∙◌, inl, inr, arith, append-nil}
use Rattle.cover_marks.specs.declared.marks.Marks.{Marks}
use Rattle.cover_points.specs.declared.listing.Points.{Points}
use Rattle.design_model.specs.MayMove.{AreLastRounds}
use Rattle.design_model.specs.RoundLaws.{read_by}
use Rattle.design_model.specs.Shows.{BoundDump, IsShown}
use Rattle.design_model.specs.View.{design_view}
use Rattle.design_model.specs.declared.design.Design.{Design}
use Rattle.event_machine.specs.Habit.{Habit}
use Rattle.replay_core.specs.Followed.{AreFinal, HasFollowed as HasFollowedDump, HasPaused as HasPausedDump}
use Rattle.replay_core.specs.Parts.{made_of}
use Rattle.replay_core.specs.replay_follows.Laws.{IsLastStep}
use Rattle.replay_core.specs.wake_laws.Laws.{habit_of}
use Rattle.signal_binding.specs.Binding.{codes_of}
use Rattle.vcd_reader.specs.Dump.{leading, steps_of, stretches_of, timed, with_leading}
use Rattle.vcd_reader.specs.Order.{is_on}
use Rattle.vcd_reader.specs.Times.{Rises, last_time}
use Rattle.vcd_reader.specs.declared.entry.Entry.{Entry}
use Rattle.vcd_reader.specs.declared.entry.Entry.TheVariants.{Off, On, Time, Value}
use Rattle.vcd_reader.specs.declared.vars.Var.{Var}
use Rattle.shown_dumps.specs.Ongoing.{IsPauseUntil}
use Rattle.shown_dumps.specs.Said.{EndsIn, ended_at, ended_stretches, open_stretch, times_in}
use Rattle.shown_dumps.specs.Shown.{dump_of}
use Rattle.shown_dumps.proofs.Gap.{end_two, past_end}
use Rattle.shown_dumps.proofs.Split.{on_of_last, open_off, split_on}
use Rattle.dump_replay.specs.Followed.{AreFinalMarks, Follows, HasFollowed, Pauses}
use Rattle.dump_replay.specs.declared.replay.DumpReplay.{DumpReplay}
use Rattle.dump_replay.proofs.More.{last_cases, no_times}

-- where the dump goes off nothing is added
leading_off : (entries : List Entry) → leading (entries ++ Off ∷ []) ≡ leading entries
leading_off [] = refl
leading_off (Time time ∷ entries) = refl
leading_off (Value code value ∷ entries) = ap (λ cs. record { code = code; value = value } ∷ cs) (leading_off entries)
leading_off (Off ∷ entries) = refl
leading_off (On time ∷ entries) = refl

timed_off : (entries : List Entry) → timed (entries ++ Off ∷ []) ≡ timed entries
timed_off [] = refl
timed_off (Time time ∷ entries) =
    ap (λ cs. record { time = time; changes = cs } ∷ timed (entries ++ Off ∷ [])) (leading_off entries) ∙ ap (λ steps. record { time = time; changes = leading entries } ∷ steps) (timed_off entries)
timed_off (Value code value ∷ entries) = timed_off entries
timed_off (Off ∷ entries) = refl
timed_off (On time ∷ entries) = refl

steps_off : (entries : List Entry) → steps_of (entries ++ Off ∷ []) ≡ steps_of entries
steps_off entries = ap (λ cs. with_leading cs (timed (entries ++ Off ∷ []))) (leading_off entries) ∙ ap (with_leading (leading entries)) (timed_off entries)

same_stretches : (entries : List Entry) → is_on entries ≡ true → stretches_of (entries ++ Off ∷ []) ≡ stretches_of entries
same_stretches entries on =
    let whole : stretches_of entries ≡ map steps_of (ended_stretches entries) ++ steps_of (open_stretch entries) ∷ [] =
    ap stretches_of (sym (append-nil entries)) ∙ split_on entries [] on ∙ ap (λ es. map steps_of (ended_stretches entries) ++ steps_of es ∷ []) (append-nil (open_stretch entries)) in
    split_on entries (Off ∷ []) on ∙ ap (λ steps. map steps_of (ended_stretches entries) ++ steps ∷ []) (steps_off (open_stretch entries)) ∙ sym whole

rises_append : (last : Option ℕ) (entries others : List Entry) → Rises last entries → Rises (last_time last entries) others → Rises last (entries ++ others)
rises_append last [] others r s = s
rises_append last (Time time ∷ entries) others r s = (r.0, rises_append (Some time) entries others r.1 s)
rises_append last (Value code value ∷ entries) others r s = rises_append last entries others r s
rises_append last (Off ∷ entries) others r s = rises_append last entries others r s
rises_append last (On None ∷ entries) others r s = rises_append last entries others r s
rises_append last (On (Some time) ∷ entries) others r s = (r.0, rises_append (Some time) entries others r.1 s)

-- nothing is shown after the moment before the last time, where the stretch that is on has two
last_shown : (codes : List (Option ℕ)) (entries : List Entry) (before last t : ℕ) → Rises None entries → is_on entries ≡ true → EndsIn (times_in (open_stretch entries)) before last → IsShown (dump_of codes (stretches_of entries)) t → t ≤ last - 1
last_shown codes entries before last t rises on ends shown =
    let short : length (times_in (open_stretch (entries ++ Off ∷ []))) ≤ 1 = omega (arith, ap (λ es. length (times_in es)) (open_off entries)) in
    let up : Rises None (entries ++ Off ∷ []) = rises_append None entries (Off ∷ []) rises tt in
    let past = past_end codes (entries ++ Off ∷ []) t up short (subst (λ ss. IsShown (dump_of codes ss) t) (sym (same_stretches entries on)) shown) in
    omega (arith, past, end_two entries before last ends)

module _ (x : DumpReplay) (marks : Marks) (followed : (dump : BoundDump) (t : ℕ) → HasFollowedDump x.replay dump t → IsLastStep dump t → AreFinal (made_of x.replay) dump marks)
    (paused : (dump : BoundDump) (u : ℕ) → HasPausedDump x.replay dump u → ((v : ℕ) → IsShown dump v → v < u) → AreFinal (made_of x.replay) dump marks) (habit : Habit) (design : Design) (points : Points) (vars : List Var) (instance : List ℕ) (entries : List Entry) (rises : Rises None entries)
    (f : HasFollowed x habit design points vars instance entries) (rounds : ℕ → ℕ) (by_last : AreLastRounds (design_view design) (read_by (dump_of (codes_of design vars instance) (stretches_of entries)) rounds)) where
  abbrev the_dump : BoundDump
  the_dump = read_by (dump_of (codes_of design vars instance) (stretches_of entries)) rounds

  -- what the replay hands out, in the words of the dump
  of_final : AreFinal (made_of x.replay) the_dump marks → AreFinalMarks (design_view design) habit the_dump points marks
  of_final final =
      let here : AreFinalMarks (made_of x.replay).design (habit_of (made_of x.replay).habit) the_dump (made_of x.replay).points marks =
      record { of = final.points; scored = record { replay = final.replay; verdicts = final.verdicts; sound = final.sound; reasoned = final.reasoned }; forced = final.forced } in
      let there = subst (λ h. AreFinalMarks (made_of x.replay).design h the_dump (made_of x.replay).points marks) f.of.habit_is here in
      subst (λ d. AreFinalMarks d habit the_dump points marks) f.of.design_is (subst (λ ps. AreFinalMarks (made_of x.replay).design habit the_dump ps marks) f.of.points_are there)

  own_rounds : AreLastRounds (made_of x.replay).design the_dump
  own_rounds = subst (λ d. AreLastRounds d the_dump) (sym f.of.design_is) by_last

  all : entries ++ [] ≡ entries
  all = append-nil entries

  all_rise : Rises None (entries ++ [])
  all_rise = subst (Rises None) (sym all) rises

  -- with fewer than two times no step of the stretch that is on was closed
  none_closed : length (times_in (open_stretch entries)) ≤ 1 → AreFinalMarks (design_view design) habit the_dump points marks
  none_closed few =
      let shown : (t : ℕ) → IsShown (dump_of (codes_of design vars instance) (stretches_of entries)) t → t < ended_at entries = λ t s. past_end (codes_of design vars instance) entries t rises few s in
      let until : IsPauseUntil (dump_of (codes_of design vars instance) (stretches_of (entries ++ []))) (ended_at entries) (ended_at entries) =
      record { later = omega arith; none = λ u from before s. omega (arith, from, before) } in
      let waits : HasPausedDump x.replay the_dump (ended_at entries) =
      subst (λ es. Pauses x.replay (dump_of (codes_of design vars instance) (stretches_of es)) (ended_at entries)) all ((f.taken.waits few).holds [] (ended_at entries) all_rise until) rounds own_rounds in
      of_final (paused the_dump (ended_at entries) waits shown)

  -- else the last step of its window was
  last_closed : is_on entries ≡ true → (before last : ℕ) → EndsIn (times_in (open_stretch entries)) before last → AreFinalMarks (design_view design) habit the_dump points marks
  last_closed on before last ends =
      let follows : HasFollowedDump x.replay the_dump (last - 1) =
      subst (λ es. Follows x.replay (dump_of (codes_of design vars instance) (stretches_of es)) (last - 1)) all (f.taken.follows before last ends [] all_rise) rounds own_rounds in
      of_final (followed the_dump (last - 1) follows (λ u shown. last_shown (codes_of design vars instance) entries before last u rises on ends shown))

  pub final_marks : AreFinalMarks (design_view design) habit the_dump points marks
  final_marks = go (last_time None (open_stretch entries)) refl
    where
      go : (o : Option ℕ) → last_time None (open_stretch entries) ≡ o → AreFinalMarks (design_view design) habit the_dump points marks
      go None e = none_closed (omega (arith, ap length (no_times entries e)))
      go (Some last) e = elim (last_cases entries last e) [ inl one ↦ none_closed (omega (arith, ap length one)) | inr (before, ends) ↦ last_closed (on_of_last entries last e) before last ends ]
