-- What was read before a fault lacks no first value.
use Rattle.std.proofs.Common.{◌≡◌, ⊎_elim, ℕ, ◌≤◌, ◌<◌, Bool, true, is_some, List, [], ◌∷◌, ◌++◌, length, take, drop, Option, None, Some, refl, sym, ap, subst, ◌∙◌, arith}
use Rattle.std.proofs.lemmas.Bool.{cases_Bool, false≢true}
use Rattle.std.specs.Prelude.{IfSome, IsSome}
use Rattle.cover_points.specs.declared.listing.Points.{Points}
use Rattle.design_model.specs.declared.design.Design.{Design}
use Rattle.event_machine.specs.Habit.{Habit}
use Rattle.signal_binding.specs.Binding.{codes_of}
use Rattle.vcd_reader.proofs.BodyStanding.{fault_behind}
use Rattle.vcd_reader.proofs.BehindFaults.{behind_goes_on, end_goes_on}
use Rattle.vcd_reader.specs.Dump.{Change, DumpStep, GoesOn, leading, steps_of, stretches_of, timed, with_leading}
use Rattle.vcd_reader.specs.Order.{is_on}
use Rattle.vcd_reader.specs.Reading.{Body}
use Rattle.vcd_reader.specs.Wanted.{saying_more}
use Rattle.vcd_reader.specs.WantedPieces.{FailsTo}
use Rattle.vcd_reader.specs.declared.body.Body.{Body as BodyRow}
use Rattle.vcd_reader.specs.declared.entry.Entry.{Entry}
use Rattle.vcd_reader.specs.declared.entry.Entry.TheVariants.{Off, On, Time, Value}
use Rattle.vcd_reader.specs.declared.fault.DumpFault.{DumpFault}
use Rattle.vcd_reader.specs.declared.vars.Var.{Var}
use Rattle.dump_replay.specs.Followed.{HasFollowed}
use Rattle.dump_replay.specs.declared.replay.DumpReplay.{DumpReplay}
use Rattle.dump_replay.specs.shown_dumps.Bound.{HasNoBaseline, HaveFirstValues, first_value}
use Rattle.dump_replay.specs.shown_dumps.Said.{open_stretch, times_in}
use Rattle.dump_replay.specs.shown_dumps.Shown.{code_at}
use Rattle.dump_replay.proofs.Taken.{steps_long}
use Rattle.dump_replay.proofs.shown_dumps.Ongoing.{first_stays, values_open}
use Rattle.dump_replay.proofs.shown_dumps.Split.{open_none}
use Rattle.dump_score.specs.Faults.{IsEndFault, IsFoundFault}
use Rattle.dump_score.specs.Scoring.{CanEnd, IsScoring}
use Rattle.dump_score.specs.declared.fault.ScoreFault.TheVariants as fault
use Rattle.dump_score.proofs.Stepping.{PassesOver, all_of}

some_or_none : {A : Type 0} (o : Option A) → IsSome o → o ≡ None → ⊥
some_or_none o some none = false≢true (sym (ap is_some none) ∙ some)

coded : (o : Option ℕ) (code : ℕ) (P : ℕ → Type 0) → IfSome o P → o ≡ Some code → P code
coded None code P h e = absurd (cc)
coded (Some x) code P h e = let same : x ≡ code = cc in subst P same h

-- a stretch that goes on has as many steps or more
timed_stay : (entries more : List Entry) → length (timed entries) ≤ length (timed (entries ++ more))
timed_stay [] more = omega arith
timed_stay (Time time ∷ entries) more = let rest = timed_stay entries more in omega (arith, rest)
timed_stay (Value code value ∷ entries) more = timed_stay entries more
timed_stay (Off ∷ entries) more = omega arith
timed_stay (On time ∷ entries) more = omega arith

with_long : (changes : List Change) (steps : List DumpStep) → length (with_leading changes steps) ≡ length steps
with_long changes [] = refl
with_long changes (step ∷ steps) = refl

steps_stay : (entries more : List Entry) → length (steps_of entries) ≤ length (steps_of (entries ++ more))
steps_stay entries more =
    let rest = timed_stay entries more in
    omega (arith, rest, with_long (leading entries) (timed entries), with_long (leading (entries ++ more)) (timed (entries ++ more)))

-- where the stretch that is on has times the dump is on
two_on : (entries : List Entry) → 2 ≤ length (times_in (open_stretch entries)) → is_on entries ≡ true
two_on entries two = ⊎_elim (λ on. on) (λ off. absurd (omega (arith, two, ap (λ es. length (times_in es)) (open_none entries off)))) (cases_Bool (is_on entries))

-- where each stretch of what is said has first values, the stretch that is on after a part of it lacks none
pub lacks_none_of : (codes : List (Option ℕ)) (entries more : List Entry) (s code : ℕ) → HaveFirstValues codes (stretches_of (entries ++ more)) → code_at codes s ≡ Some code → 2 ≤ length (steps_of (open_stretch entries)) → first_value (steps_of (open_stretch entries)) code ≡ None → ⊥
lacks_none_of codes entries more s code have bound two none =
    let early : 2 ≤ length (times_in (open_stretch entries)) = subst (λ n. 2 ≤ n) (steps_long (open_stretch entries)) two in
    let all : 2 ≤ length (steps_of (open_stretch entries ++ more)) = omega (arith, steps_stay (open_stretch entries) more, two) in
    let value = coded _ code (λ code. IsSome (first_value (steps_of (open_stretch entries ++ more)) code)) (values_open codes entries more (two_on entries early) have all s) bound in
    some_or_none _ value (first_stays (open_stretch entries) more code early ∙ none)

-- the replay was given these entries, so what goes on to them lacks no first value
lacks_none_in : (replay : DumpReplay) (habit : Habit) (design : Design) (points : Points) (vars : List Var) (instance : List ℕ) (entries : List Entry) → HasFollowed replay habit design points vars instance entries
    → (b other : Body) → b.vars ≡ vars → b.items ≡ entries → GoesOn other b → (s : ℕ) → HasNoBaseline design other.vars instance other.items s → ⊥
lacks_none_in replay habit design points vars instance entries followed b other same items goes s lacks =
    let all : entries ≡ other.items ++ goes.more = sym items ∙ goes.items in
    let here : other.vars ≡ vars = sym goes.vars ∙ same in
    let code : code_at (codes_of design vars instance) s ≡ Some lacks.code = subst (λ vs. code_at (codes_of design vs instance) s ≡ Some lacks.code) here lacks.bound in
    let have : HaveFirstValues (codes_of design vars instance) (stretches_of (other.items ++ goes.more)) = subst (λ es. HaveFirstValues (codes_of design vars instance) (stretches_of es)) all followed.taken.based in
    lacks_none_of (codes_of design vars instance) other.items goes.more s lacks.code have code lacks.second lacks.none

module _ (wanted : List Bool) (body : BodyRow) (replay : DumpReplay) (passes : PassesOver wanted replay) (habit : Habit) (design : Design) (points : Points) (vars : List Var) (instance : List ℕ) where
  -- a fault that was found in what comes after a text
  found_behind : (text piece : List ℕ) (f : DumpFault) → 0 < length piece → (is : IsScoring body replay habit design points vars instance text) → FailsTo wanted text piece is.b f → IsFoundFault habit design instance (text ++ piece) (fault.Dump f)
  found_behind text [] f some is fails = absurd (omega (arith, some))
  found_behind text (byte ∷ piece) f some is fails = (
    fault_behind (text ++ byte ∷ piece) (saying_more is.b fails.passed) f fails.is,
    λ rest b s says lacks. lacks_none_in replay habit design points vars instance (is.b.items ++ fails.passed) (passes habit design points vars instance is.b.items fails.passed is.followed fails.unwanted)
        (saying_more is.b fails.passed) b is.vars_are refl (behind_goes_on (text ++ byte ∷ piece) rest (saying_more is.b fails.passed) f fails.is b says) s lacks,
  )

  -- a fault in what is left of a piece
  pub found_in_piece : (text piece : List ℕ) (used : ℕ) (f : DumpFault) → 0 < length (drop used piece) → (is : IsScoring body replay habit design points vars instance (text ++ take used piece)) → FailsTo wanted (text ++ take used piece) (drop used piece) is.b f
      → IsFoundFault habit design instance (text ++ piece) (fault.Dump f)
  found_in_piece text piece used f some is fails = subst (λ t. IsFoundFault habit design instance t (fault.Dump f)) (all_of text piece used) (found_behind (text ++ take used piece) (drop used piece) f some is fails)

  -- a fault at the end of the input
  pub found_at_end : (text : List ℕ) (f : DumpFault) (can : CanEnd body replay habit design points vars instance text) → FailsTo wanted text [] can.b f → IsEndFault habit design instance text (fault.Dump f)
  found_at_end text f can fails = (
    fails.is.1,
    λ b s says lacks. lacks_none_in replay habit design points vars instance (can.b.items ++ fails.passed) (passes habit design points vars instance can.b.items fails.passed can.followed fails.unwanted)
        (saying_more can.b fails.passed) b can.vars_are refl (end_goes_on text (saying_more can.b fails.passed) f fails.is.0 fails.is.1 b says) s lacks,
  )
