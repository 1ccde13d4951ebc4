-- Between two stretches: what stays of the replay, and what its marks then say.
use Rattle.std.proofs.Common.{inl, ⊎_elim, ℕ, ◌<◌, ◌≤◌, false, refl, arith}
use Rattle.std.proofs.lemmas.Bool.{both_ways, cases_lt}
use Rattle.design_model.specs.Design.{Design, body_at}
use Rattle.design_model.specs.Machine.{machine}
use Rattle.design_model.specs.Shows.{BoundDump, IsShown, IsWindow}
use Rattle.design_model.specs.Clear.{HasChanged}
use Rattle.design_model.proofs.Assigns.{machine_lawful}
use Rattle.design_model.proofs.Left.{left_stays_law}
use Rattle.design_model.proofs.StepLaws.{StepLaws, step_laws}
use Rattle.design_model.proofs.Stretches.{shown_then}
use Rattle.replay_model.specs.Laws.{NewPausedLaw, PausedLaterLaw, PausedLaw, PausedVerdictLaw}
use Rattle.replay_model.proofs.ReasonedLaws.{verdicts_reasoned}
use Rattle.replay_model.proofs.Showing.{earlier, shows_to}
use Rattle.replay_model.proofs.SoundLaws.{verdicts_sound}

-- a change at or before a time is one at or before each time that is not before it
changed_by : (d : Design) (dump : BoundDump) (p v u : ℕ) → (changed : HasChanged dump d (body_at d p) v) → changed.time ≤ u → HasChanged dump d (body_at d p) u
changed_by d dump p v u changed until =
    record { by = changed.by; time = changed.time; mentioned = changed.mentioned; is_bound = changed.is_bound; until = until; in_window = changed.in_window; changed = changed.changed }

-- a window time is shown
window_seen : (dump : BoundDump) (v : ℕ) → IsWindow dump v → IsShown dump v
window_seen dump v window = shown_then dump.stretches v window

pub new_paused_law : NewPausedLaw
new_paused_law d h dump points u none =
    record {
      acted = λ r showing p is_comb e. absurd (both_ways false refl e);
      hits = λ x told r showing. absurd told;
      marked = λ x member r showing v window less hit. absurd (none v less (window_seen dump v window));
      has_acted = λ p is_comb v less changed. let until = changed.until in absurd (none changed.time (omega (arith, until, less)) (window_seen dump changed.time changed.in_window));
      doubts = λ x y told. absurd told;
      reached = λ v p x less reached. absurd (none v less (window_seen dump v reached.0));
      forced = λ v s bits less forced. absurd (none v less forced.is_shown);
    }

-- what is shown before u is not after t
not_after : (dump : BoundDump) (t u : ℕ) → ((v : ℕ) → t < v → v < u → IsShown dump v → ⊥) → (v : ℕ) → IsShown dump v → v < u → v ≤ t
not_after dump t u none v shown less = ⊎_elim (λ after. absurd (none v after less shown)) (λ le. le) (cases_lt t v)

pub paused_law : PausedLaw
paused_law d h dump run tables points is t u a later none stands =
    record {
      acted = λ r showing p is_comb e. left_stays_law d h laws r t u p showing.is_run before (stands.sound.acted r t (inl refl) (earlier d h dump u t r before showing) p is_comb e);
      hits = λ x told r showing. let k = stands.sound.hits x told r (earlier d h dump u t r before showing) in let le = k.2 in (k.0, k.1, omega (arith, le, later), k.3);
      marked = λ x member r showing v window less hit. stands.sound.marked x member r t (inl refl) (earlier d h dump u t r before showing) v window (not_after dump t u none v (window_seen dump v window) less) hit;
      has_acted = λ p is_comb v less changed.
          let until = changed.until in
          stands.known.has_acted p is_comb (changed_by d dump p v t changed (not_after dump t u none changed.time (window_seen dump changed.time changed.in_window) (omega (arith, until, less))));
      doubts = λ x y told. let k = stands.reasoned.doubts x y told in let le = k.1 in (k.0, omega (arith, le, later), k.2);
      reached = λ v p x less reached. stands.reasoned.reached v p x (not_after dump t u none v (window_seen dump v reached.0) less) reached;
      forced = λ v s bits less forced. stands.forced v s bits (not_after dump t u none v forced.is_shown less) forced;
    }
  where
    laws : StepLaws (machine d) h
    laws = step_laws (machine d) (machine_lawful d is.lawful) h

    before : t ≤ u
    before = omega (arith, later)

-- what is shown before w is before u
still_before : (dump : BoundDump) (u w : ℕ) → ((v : ℕ) → u ≤ v → v < w → IsShown dump v → ⊥) → (v : ℕ) → IsShown dump v → v < w → v < u
still_before dump u w none v shown less = ⊎_elim (λ before. before) (λ after. absurd (none v after less shown)) (cases_lt v u)

pub paused_later_law : PausedLaterLaw
paused_later_law d h dump run tables points is u w a le none paused =
    record {
      acted = λ r showing p is_comb e. left_stays_law d h laws r u w p showing.is_run le (paused.acted r (earlier d h dump w u r le showing) p is_comb e);
      hits = λ x told r showing. let k = paused.hits x told r (earlier d h dump w u r le showing) in let less = k.2 in (k.0, k.1, omega (arith, less, le), k.3);
      marked = λ x member r showing v window less hit. paused.marked x member r (earlier d h dump w u r le showing) v window (still_before dump u w none v (window_seen dump v window) less) hit;
      has_acted = λ p is_comb v less changed.
          let until = changed.until in
          paused.has_acted p is_comb changed.time (still_before dump u w none changed.time (window_seen dump changed.time changed.in_window) (omega (arith, until, less)))
          (changed_by d dump p v changed.time changed (omega arith));
      doubts = λ x y told. let k = paused.doubts x y told in let less = k.1 in (k.0, omega (arith, less, le), k.2);
      reached = λ v p x less reached. paused.reached v p x (still_before dump u w none v (window_seen dump v reached.0) less) reached;
      forced = λ v s bits less forced. paused.forced v s bits (still_before dump u w none v forced.is_shown less) forced;
    }
  where
    laws : StepLaws (machine d) h
    laws = step_laws (machine d) (machine_lawful d is.lawful) h

pub paused_verdict_law : PausedVerdictLaw
paused_verdict_law d h dump points u a lawful any rounds ends paused = (
  verdicts_sound d h dump points a (λ x told r is_run shows. let k = paused.hits x told r (shows_to d h dump u r is_run shows) in (k.0, k.1, k.3))
      (λ x member r is_run shows v window hit. paused.marked x member r (shows_to d h dump u r is_run shows) v window (ends v window) hit),
  verdicts_reasoned d h dump points a lawful any rounds (λ x y told. let k = paused.doubts x y told in (k.0, k.2))
      (λ x member r is_run shows v window hit. paused.marked x member r (shows_to d h dump u r is_run shows) v window (ends v window) hit)
      (λ v p x reached. paused.reached v p x (ends v reached.0) reached),
)
