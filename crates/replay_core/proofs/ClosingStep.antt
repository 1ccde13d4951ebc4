-- What follows from the parts after a closing step for the replay itself.
use Rattle.std.proofs.Common.{◌≡◌, ◌∙◌, ℕ, ◌<◌, Bool, [], IfErr, IfNone, IfSome, length, OnOk, Option, Some, None, Err, Ok, Result, refl, sym, ap, subst}
use Rattle.cover_points.specs.declared.listing.Points.{Points}
use Rattle.design_model.specs.Design.{Design}
use Rattle.design_model.specs.Shows.{BoundDump, IsWindow}
use Rattle.hidden_times.specs.Hidden.{is_listed}
use Rattle.dump_check.specs.declared.order.Difference.{Difference}
use Rattle.first_step.specs.step_changes.Changes.{AreUnsigned}
use Rattle.first_step.specs.step_values.Dumped.{AreDumped}
use Rattle.wake_laws.specs.Laws.{habit_of}
use Rattle.replay_core.specs.Closing.{Closes, Counts, ForDue, IsDueAt, Refutes}
use Rattle.replay_core.specs.Faults.{IsContradiction, fault_at, phase_after}
use Rattle.replay_core.specs.Fits.{FitsParts, FitsReplay, HaveValues, IsReplayable, signal_of}
use Rattle.replay_core.specs.Followed.{AreGivenAt, HasFollowed, IsStepAt}
use Rattle.replay_core.specs.Made.{HasFollows, IsDumpFor, subject_of}
use Rattle.replay_core.specs.Parts.{HasRefused, IsStarted, given_of, made_of, parts_of}
use Rattle.replay_core.specs.Steps.{CountsSensitive}
use Rattle.replay_core.specs.declared.fault.Phase.{Phase}
use Rattle.replay_core.specs.declared.fault.Phase.TheVariants.{Paused, Refused, Started}
use Rattle.replay_core.specs.declared.fault.ReplayFault.{ReplayFault}
use Rattle.replay_core.specs.declared.replay.Replay.{Replay}
use Rattle.replay_core.specs.declared.room.ReplayRoom.{ReplayRoom}
use Rattle.replay_core.specs.declared.state.ReplayState.{ReplayState}
use Rattle.replay_core.specs.declared.tables.ReplayTables.{ReplayTables}
use Rattle.replay_core.proofs.Ends.{closed_by}

-- ---- the next step of a dump is due

module _ (x : Replay) (dump : BoundDump) (t time : ℕ) (listed : Bool) (unsigned : AreUnsigned (given_of x)) (followed : HasFollowed x dump t) (next : IsStepAt dump t time listed) (given : AreGivenAt x dump time) where
  pub is_due : IsDueAt (subject_of (made_of x) dump) t listed followed.replay (parts_of x)
  is_due =
      let m = made_of x in
      record {
        follows = followed.follows;
        given = record {
          last = subst (λ u. AreDumped m.design m.codes (given_of x) (dump.values u)) next.next given;
          unsigned = unsigned;
        };
        window = subst (IsWindow dump) next.next next.window;
        kind = subst (λ u. is_listed dump u ≡ listed) next.next next.kind;
      }

  -- what holds of each dump whose step is due holds of this one
  pub for_next : (holds : BoundDump → ℕ → Type 0) → ForDue (made_of x) time listed (parts_of x) holds → holds dump time
  for_next holds each = subst (holds dump) (sym next.next) (each dump t followed.replay next.next is_due)

  -- after it the dump is followed up to its end
  pub followed_next : (y : Replay) → made_of y ≡ made_of x → IsStarted y → Closes (made_of x) time listed (parts_of x) (parts_of y) → HasFollowed y dump time
  followed_next y same started closes =
      let b = for_next (λ e u. (b : Rattle.replay_model.specs.Step.Replay) × HasFollows (subject_of (made_of x) e) u b (parts_of y)) closes in
      record {
        dumped = subst (λ m. IsDumpFor m dump) (sym same) followed.dumped;
        started = started;
        replay = b.0;
        follows = subst (λ m. HasFollows (subject_of m dump) time b.0 (parts_of y)) (sym same) b.1;
      }

-- at most as many bodies run in it as processes mention or list what may move
pub counts_after : (x : Replay) (time : ℕ) (listed : Bool) (before after : ℕ) → AreUnsigned (given_of x) → Counts (made_of x) time listed (parts_of x) before after
    → (dump : BoundDump) (t : ℕ) → HasFollowed x dump t → IsStepAt dump t time listed → AreGivenAt x dump time → CountsSensitive (made_of x).design dump time before after
counts_after x time listed before after unsigned counts dump t followed next given = for_next x dump t time listed unsigned followed next given (λ b u. CountsSensitive (made_of x).design b u before after) counts

-- ---- the result

pub ok_then : {A E P Q : Type 0} (r : Result A E) → OnOk r P → (P → Q) → OnOk r Q
ok_then (Ok v) p to = to p
ok_then (Err e) p to = tt

pub err_then : {A E : Type 0} {P Q : E → Type 0} (r : Result A E) → IfErr r P → ((e : E) → P e → Q e) → IfErr r Q
err_then (Ok v) p to = tt
err_then (Err e) p to = to e p

pub none_then : {A P Q : Type 0} (o : Option A) → IfNone o P → (P → Q) → IfNone o Q
none_then None p to = to p
none_then (Some y) p to = tt

-- what a step that ends with this says
abbrev pub IsFault : Option Difference → ℕ → ReplayFault → Type 0
IsFault found time fault = (different : Difference) × (found ≡ Some different) × (fault ≡ fault_at different time)

module _ {A : Type 0} (x y : Replay) (found : Option Difference) (time : ℕ) (listed : Bool) (phase : y.phase ≡ phase_after found time) (r : Result A ReplayFault) (ok : OnOk r (found ≡ None)) (err : IfErr r (IsFault found time)) where
  pub ends_started : found ≡ None → IsStarted y
  ends_started none = phase ∙ ap (λ o. phase_after o time) none

  pub started_after : OnOk r (IsStarted y)
  started_after = ok_then r ok ends_started

  pub refused_after : IfErr r (HasRefused y)
  refused_after = err_then r err (λ fault e. phase ∙ ap (λ o. phase_after o time) e.1 ∙ ap Refused (sym e.2))

  pub named_after : (n : ℕ) → IfSome found (λ different. different.signal < n) → IfErr r (λ fault. signal_of fault < n)
  named_after n named = err_then r err (λ fault e. subst (λ g. signal_of g < n) (sym e.2) (subst (λ o. IfSome o (λ different. different.signal < n)) e.1 named))

  pub followed_after : AreUnsigned (given_of x) → made_of y ≡ made_of x → IfNone found (Closes (made_of x) time listed (parts_of x) (parts_of y))
      → OnOk r ((dump : BoundDump) (t : ℕ) → HasFollowed x dump t → IsStepAt dump t time listed → AreGivenAt x dump time → HasFollowed y dump time)
  followed_after unsigned same closes = ok_then r ok (λ none dump t followed next given. followed_next x dump t time listed unsigned followed next given y same (ends_started none) (subst (λ o. IfNone o (Closes (made_of x) time listed (parts_of x) (parts_of y))) none closes))

  pub contradiction_after : AreUnsigned (given_of x) → IfSome found (Refutes (made_of x) time listed (parts_of x))
      → IfErr r (λ fault. (dump : BoundDump) (t : ℕ) → HasFollowed x dump t → IsStepAt dump t time listed → AreGivenAt x dump time → IsContradiction (made_of x).design (habit_of (made_of x).habit) dump time fault)
  contradiction_after unsigned refutes = err_then r err (λ fault e dump t followed next given.
      let d = e.0 in
      let each : Refutes (made_of x) time listed (parts_of x) d = subst (λ o. IfSome o (Refutes (made_of x) time listed (parts_of x))) e.1 refutes in
      let is = for_next x dump t time listed unsigned followed next given (λ b u. Rattle.replay_core.specs.Faults.IsRefuted (made_of x).design (habit_of (made_of x).habit) b u d.signal d.dumped d.computed.bits) each in
      subst (IsContradiction (made_of x).design (habit_of (made_of x).habit) dump time) (sym e.2) (refl, is))

-- ---- the replay is ready after it

pub is_started : (phase : Phase) → (phase ≡ Paused → ⊥) → ((fault : ReplayFault) → phase ≡ Refused fault → ⊥) → phase ≡ Started
is_started Paused new refused = absurd (new refl)
is_started Started new refused = refl
is_started (Refused fault) new refused = absurd (refused fault refl)

not_off : (found : Option Difference) (time : ℕ) → phase_after found time ≡ Paused → ⊥
not_off None time is = absurd cc
not_off (Some different) time is = absurd cc

named_in : (found : Option Difference) (time n : ℕ) → IfSome found (λ different. different.signal < n) → (fault : ReplayFault) → phase_after found time ≡ Refused fault → signal_of fault < n
named_in None time n named fault is = absurd cc
named_in (Some different) time n named fault is = let same : fault_at different time ≡ fault = cc in subst (λ g. signal_of g < n) same named

pub closed_ready : (d : Design) (points : Points) (x : ReplayTables) (r : ReplayRoom) (s : ReplayState) (phase : Phase) (found : Option Difference) (time : ℕ) → phase ≡ phase_after found time → IsReplayable d points → FitsParts d points x r s → s.notes.points.now ≡ points → r.step.list.pairs ≡ []
    → r.step.clocked.pairs ≡ [] → HaveValues x.step.codes.items s.values.last → IfNone found (HaveValues x.step.codes.items s.values.closed) → IfSome found (λ different. different.signal < length d.signals) → FitsReplay d s.notes.points.now x r s phase
closed_ready d points x r s phase found time is replayable fits noted none none_clocked have closed named = subst (λ ps. FitsReplay d ps x r s phase) (sym noted) (record {
  replayable = replayable;
  parts = fits;
  none = none;
  none_clocked = none_clocked;
  forgotten = λ off. absurd (not_off found time (sym is ∙ off));
  begun = λ started. have;
  closed = λ started. closed_by found time closed (sym is ∙ started);
  refused = λ fault refused. named_in found time (length d.signals) named fault (sym is ∙ refused);
})
