-- From one closed step to the next.
use Rattle.std.proofs.Common.{◌≡◌, ℕ, zero, suc, ◌+◌, ◌-◌, ◌<◌, ◌≤◌, [], ◌∷◌, Some, None, sym, ap, subst, ◌∙◌, arith}
use Rattle.std.specs.Prelude.{slice_index_or}
use Rattle.std.proofs.lemmas.Bool.{false≢true}
use Rattle.four_state.specs.Vector.{Vector}
use Rattle.code_values.specs.Values.{value_of}
use Rattle.step_parts.specs.cover_points.Listed.{points_of}
use Rattle.design_model.specs.Design.{signal_bits}
use Rattle.design_model.specs.Shows.{BoundDump, InSome, IsListed, IsShownOf, IsWindow}
use Rattle.design_model.proofs.Stretches.{between, shown_then}
use Rattle.step_parts.proofs.replay_model.Pausing.{new_paused_law, paused_later_law, paused_law, paused_verdict_law}
use Rattle.step_parts.proofs.replay_model.ReasonedLaws.{reasoned_verdict_law}
use Rattle.step_parts.proofs.replay_model.SoundLaws.{contradiction_law, first_contradiction_law, sound_verdict_law}
use Rattle.step_parts.proofs.replay_model.StandsLaws.{first_stands_law, step_stands_law}
use Rattle.step_parts.specs.replay_model.Step.{Replay}
use Rattle.step_parts.proofs.replay_steps.Resting.{rests}
use Rattle.step_parts.specs.replay_sets.SetsOf.{sets_of}
use Rattle.step_parts.specs.step_changes.Changes.{AreUnsigned, IsDue}
use Rattle.step_parts.specs.step_values.Dumped.{AreDumped}
use Rattle.step_parts.proofs.step_values.Bound.{bound_known}
use Rattle.step_parts.specs.wake_laws.Laws.{habit_of}
use Rattle.replay_follows.specs.Follows.{Follows, Parts, Subject}
use Rattle.replay_follows.specs.Laws.{ClosedLaw, ContradictedLaw, DueLaw, FirstContradictedLaw, FirstLaw, GivenLaw, NewPauseLaw, NextLaw, PauseLaterLaw, PauseLaw, PausedVerdictsLaw, RestLaw, VerdictsLaw}

-- ---- the first step

pub starts : FirstLaw
starts f t a x y pauses first shown sets writers closed unsigned none rest untold =
    let s = pauses.subject in
    record {
      subject = s;
      sets = sets;
      writers = writers;
      closed = closed;
      unsigned = unsigned;
      rest = rest;
      told = λ e. absurd (false≢true (sym untold ∙ e));
      shown = shown;
      stands = first_stands_law f.design (habit_of f.habit) f.dump f.run f.tables (points_of f.points) s.is s.wakes t a first shown pauses.paused none;
    }

pub against_first : FirstContradictedLaw
against_first f t a x c pauses first shown differs r showing =
    first_contradiction_law f.design (habit_of f.habit) f.dump f.run f.tables (points_of f.points) pauses.subject.is t a c first shown pauses.paused differs r showing

-- ---- where the dump is off

pub new_pauses : NewPauseLaw
new_pauses f u x subject sets writers rest untold none = record {
  subject = subject;
  sets = sets;
  writers = writers;
  rest = rest;
  untold = untold;
  paused = new_paused_law f.design (habit_of f.habit) f.dump (points_of f.points) u none;
}

pub pauses_now : PauseLaw
pauses_now f t u a x y follows later none sets writers rest untold =
    let s = follows.subject in
    record {
      subject = s;
      sets = sets;
      writers = writers;
      rest = rest;
      untold = untold;
      paused = paused_law f.design (habit_of f.habit) f.dump f.run f.tables (points_of f.points) s.is t u a later none follows.stands;
    }

pub pauses_later : PauseLaterLaw
pauses_later f u w a x le none pauses = record {
  subject = pauses.subject;
  sets = pauses.sets;
  writers = pauses.writers;
  rest = pauses.rest;
  untold = pauses.untold;
  paused = paused_later_law f.design (habit_of f.habit) f.dump f.run f.tables (points_of f.points) pauses.subject.is u w a le none pauses.paused;
}

pub paused_ends : PausedVerdictsLaw
paused_ends f u a x before pauses =
    let is = pauses.subject.is in
    let both = paused_verdict_law f.design (habit_of f.habit) f.dump (points_of f.points) u a is.lawful is.fits is.rounds (λ v window. before v (shown_then f.dump.stretches v window)) pauses.paused in
    record {
      marks = pauses.rest.points;
      verdicts = pauses.rest.marks;
      sound = both.0;
      reasoned = both.1;
      forced = λ v s bits forced. pauses.paused.forced v s bits (before v forced.is_shown) forced;
    }

-- ---- between steps

pub given : GivenLaw
given f t a x values same follows = record {
  subject = follows.subject;
  sets = follows.sets;
  writers = follows.writers;
  closed = subst (λ vs. AreDumped f.design f.codes vs (f.dump.values t)) (sym same) follows.closed;
  unsigned = subst AreUnsigned (sym same) follows.unsigned;
  rest = follows.rest;
  told = follows.told;
  shown = follows.shown;
  stands = follows.stands;
}

-- over times that are not listed the values stay
same_values : (dump : BoundDump) (stays : (t : ℕ) → (IsListed dump (suc t) → ⊥) → dump.values (suc t) ≡ dump.values t) (t n : ℕ) → ((u : ℕ) → t < u → u ≤ t + n → IsListed dump u → ⊥) → dump.values t ≡ dump.values (t + n)
same_values dump stays t zero gap = let none : t ≡ t + zero = omega arith in ap dump.values none
same_values dump stays t (suc n) gap =
    let before = same_values dump stays t n (λ u l m. gap u l (omega (arith, m))) in
    let one = stays (t + n) (gap (suc (t + n)) (omega arith) (omega arith)) in
    let next : suc (t + n) ≡ t + suc n = omega arith in
    before ∙ sym one ∙ ap dump.values next

pub stays : RestLaw
stays f t zero a x calm gap follows = let none : t ≡ t + zero = omega arith in subst (λ u. Follows f u a x) none follows
stays f t (suc n) a x calm gap follows =
    let s = follows.subject in
    let last = gap (t + suc n) (omega arith) (omega arith) in
    record {
      subject = s;
      sets = follows.sets;
      writers = follows.writers;
      closed = subst (λ v. AreDumped f.design f.codes x.values.closed v) (same_values f.dump s.is.fits.stays t (suc n) (λ u l m. (gap u l m).1)) follows.closed;
      unsigned = follows.unsigned;
      rest = follows.rest;
      told = follows.told;
      shown = shown_then f.dump.stretches (t + suc n) last.0;
      stands = rests f.design (habit_of f.habit) f.dump f.run f.tables (points_of f.points) s.is s.wakes t (suc n) a calm gap follows.stands;
    }

pub nexts : NextLaw
nexts f t time a x calm later window gap follows =
    let n : ℕ = time - suc t in
    let end : time ≡ suc (t + n) = omega (arith, later) in (
      t + n,
      end,
      stays f t n a x calm (λ u after within. (between f.dump.stretches t u time follows.subject.is.fits.rising after (omega (arith, within, end)) gap follows.shown window, gap u after (omega (arith, within, end)))) follows,
    )

-- ---- a step

pub due : DueLaw
due f t a x follows given =
    let s = follows.subject in
    let back : t ≡ suc t - 1 = omega arith in
    let changes : IsDue f.design f.dump (suc t) f.flags f.codes x.values x.sets = record {
      lawful = s.is.lawful;
      tables = follows.sets;
      writers = follows.writers;
      round = s.is.rounds (suc t);
      bound = s.bound;
      flagged = s.flagged;
      signals = s.is.fits.signals;
      old = subst (λ u. AreDumped f.design f.codes x.values.closed (f.dump.values u)) back follows.closed;
      new = given.last;
      unsigned_old = follows.unsigned;
      unsigned_new = given.unsigned;
    } in
    record {
      changes = changes;
      runs = s.is.runs;
      tabled = s.is.tabled;
      ranked = s.ranked;
      clocked = s.clocked;
      rest = follows.rest;
      known = bound_known f.design (habit_of f.habit) f.dump f.tables t a s.is.fits.signals follows.shown follows.stands.known;
    }

pub closes : ClosedLaw
closes f t a x y early follows given window sets of writers none values rest told =
    let s = follows.subject in
    record {
      subject = s;
      sets = of;
      writers = writers;
      closed = subst (λ vs. AreDumped f.design f.codes vs (f.dump.values (suc t))) (sym values) given.last;
      unsigned = subst AreUnsigned (sym values) given.unsigned;
      rest = rest;
      told = told;
      shown = shown_then f.dump.stretches (suc t) window;
      stands = step_stands_law (habit_of f.habit) f.design f.dump f.run f.tables (points_of f.points) s.is s.wakes t (sets_of y.sets early) a window sets none follows.stands;
    }

pub against : ContradictedLaw
against f t a x sets early c follows window are differs r showing =
    let s = follows.subject in
    contradiction_law (habit_of f.habit) f.design f.dump f.run f.tables (points_of f.points) s.is t (sets_of sets early) a c window are follows.stands.sound differs r showing

-- ---- the end of the dump

pub ends : VerdictsLaw
ends f t a x last follows =
    let is = follows.subject.is in
    let until : (u : ℕ) → IsWindow f.dump u → u ≤ t = λ u window. last u (shown_then f.dump.stretches u window) in
    record {
      marks = follows.rest.points;
      verdicts = follows.rest.marks;
      sound = sound_verdict_law f.design (habit_of f.habit) f.dump (points_of f.points) t a until follows.shown follows.stands.sound;
      reasoned = reasoned_verdict_law f.design (habit_of f.habit) f.dump (points_of f.points) t a is.lawful is.fits is.rounds until follows.shown follows.stands.sound follows.stands.reasoned;
      forced = λ u s bits forced. follows.stands.forced u s bits (last u forced.is_shown) forced;
    }

-- ---- what is refused

pub other_value : (f : Subject) (t : ℕ) (a : Replay) (x : Parts) (s code : ℕ) (v : Vector) → slice_index_or f.codes s None ≡ Some code → value_of x.values.closed code ≡ Some v
    → (v.bits ≡ signal_bits f.design (f.dump.values t) s → ⊥) → Follows f t a x → ⊥
other_value f t a x s code v coded is other follows =
    let w = follows.closed s code coded in
    let same : v ≡ w.0 = (let e = sym is ∙ w.1 in cc) in
    other (ap (λ (u : Vector). u.bits) same ∙ w.2)

pub one_time : (f : Subject) (t u : ℕ) (a : Replay) (x : Parts) → f.dump.stretches ≡ (u ∷ []) ∷ [] → Follows f t a x → ⊥
one_time f t u a x single follows =
    let shown : IsShownOf (u ∷ []) t = subst (λ tss. InSome (λ ts. IsShownOf ts t) tss) single follows.shown in
    omega (arith, shown.0, shown.1)
