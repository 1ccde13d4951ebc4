-- The replay is sound: after the first step, after each closing step and over each time that the dump does not list; a
-- contradiction is one; and so hit is hit and missed is never hit.
use Rattle.std.proofs.Common.{◌≡◌, ◌⊎◌, inl, inr, ⊎_elim, ℕ, zero, suc, ◌+◌, ◌-◌, ◌<◌, ◌≤◌, true, false, List, [], ◌∷◌, ◌++◌, refl, sym, ap, subst, ◌∙◌, arith, Some, None}
use Rattle.std.proofs.lemmas.Bool.{cases_eq, cases_lt}
use Rattle.event_machine.proofs.Least.{early_law}
use Rattle.event_machine.specs.Cell.{Values}
use Rattle.event_machine.specs.Event.{end_state}
use Rattle.event_machine.specs.Machine.{IsLawful}
use Rattle.event_machine.specs.Habit.{Habit}
use Rattle.event_machine.specs.Step.{evaluations}
use Rattle.design_model.specs.four_state.declared.bit.Bit.{Bit}
use Rattle.design_model.specs.four_state.declared.bit.Bit.TheVariants.{One, Zero}
use Rattle.design_model.specs.Tree.{Process, assign, clocked, comb}
use Rattle.design_model.specs.declared.point.Point.{Point}
use Rattle.design_model.specs.declared.point.Point.TheVariants.{Line as line_point, Logic as logic_point, Toggle as toggle_point, State as state_point, Arc as arc_point, Word as word_point}
use Rattle.design_model.specs.Design.{Design, In, IsComb, process_at}
use Rattle.design_model.specs.Execution.{Visit}
use Rattle.design_model.specs.Machine.{machine}
use Rattle.design_model.specs.Run.{IsRun, Run, StepOf, end_of, evaluations_of, settled, start_of}
use Rattle.design_model.specs.Scored.{IsScoredOf, VisitsIn}
use Rattle.design_model.specs.Shows.{AreStretches, BoundDump, InSome, IsFirst, IsListed, IsShowing, IsWindow, IsWindowOf, Shows}
use Rattle.design_model.specs.Points.{HitIn, IsHit, IsHitAt}
use Rattle.design_model.proofs.Assigns.{machine_lawful}
use Rattle.design_model.proofs.StepLaws.{StepLaws, step_laws}
use Rattle.design_model.specs.StepLaws.{IsLeft}
use Rattle.design_model.proofs.StepFacts.{unlisted_law}
use Rattle.design_model.specs.StillLaw.{BindsInputs}
use Rattle.design_model.proofs.Stretches.{window_before_first, window_not_first}
use Rattle.hidden_times.specs.Hidden.{IsHiddenOn, IsSameTime}
use Rattle.hidden_times.proofs.Clear.{hidden_to, window_of}
use Rattle.hidden_times.proofs.Listed.{any_dump_law}
use Rattle.replay_model.proofs.AskedLaws.{AskedLaws, asked_of}
use Rattle.body_replay.specs.Contract.{Doubted, spot_at}
use Rattle.body_replay.specs.Replay.{Spot, line, node, word_read, word_write}
use Rattle.body_replay.specs.Runs.{Runs}
use Rattle.body_replay.specs.Store.{AllowsState}
use Rattle.replay_model.specs.Sets.{AreSets, Sets}
use Rattle.replay_model.specs.Tables.{Tables}
use Rattle.replay_model.specs.Marks.{IsKeyOf, IsDoubtMarked, IsHitMarked, IsUnmarked, Marking}
use Rattle.replay_model.specs.Step.{Replay, all_point_notes, all_run}
use Rattle.replay_model.specs.Start.{started}
use Rattle.replay_model.specs.Stands.{IsSound}
use Rattle.replay_model.specs.Laws.{AreSoundVerdicts, ContradictionLaw, FirstContradictionLaw, FirstSoundLaw, IsReplayOf, RestSoundLaw, SoundVerdictLaw, StepSoundLaw, closed_at, closing_at}
use Rattle.replay_model.proofs.Allows.{contradicts_none}
use Rattle.replay_model.proofs.Bits.{in_halves, in_left, in_right}
use Rattle.replay_model.proofs.BodyComplete.{body_marked}
use Rattle.replay_model.proofs.BodyMarks.{body_hit, old_kept}
use Rattle.replay_model.proofs.FirstStep.{first_contradicts_none, first_sound}
use Rattle.replay_model.proofs.HiddenMarks as hidden_marks
use Rattle.replay_model.proofs.Jumps.{no_earlier}
use Rattle.replay_model.proofs.Jumps as jumps
use Rattle.replay_model.proofs.Showing.{earlier, shows_to}
use Rattle.replay_model.proofs.SignalPoints.{PointNow, in_point_notes, note_key, point_hit, point_marked, point_notes_in}
use Rattle.replay_model.proofs.Trace.{doubt_in, hit_in, in_doubt, in_hit}
use Rattle.replay_model.proofs.Unknown.{first_input, kept_input}

abbrev the_laws : (d : Design) → IsLawful (machine d) → (h : Habit) → StepLaws (machine d) h
the_laws d lawful h = step_laws (machine d) lawful h

pub contradiction_law : (h : Habit) → ContradictionLaw h
contradiction_law h d dump run tables points is t sets a c window are sound e r showing =
    contradicts_none d h dump run tables points is (step_laws (machine d) (machine_lawful d is.lawful) h) (early_law (machine d)) t window sets are a r showing (sound.allows r t (inl refl) (earlier d h dump (suc t) t r (omega arith) showing)) (sound.acted r t (inl refl) (earlier d h dump (suc t) t r (omega arith) showing)) sound.unknown c e

pub first_contradiction_law : FirstContradictionLaw
first_contradiction_law d h dump run tables points is t a c first shown paused e r showing =
    first_contradicts_none d h dump run tables points is (step_laws (machine d) (machine_lawful d is.lawful) h) t a paused.acted shown r showing c e

-- no other time is the same as the first of a stretch
first_alone : (dump : BoundDump) → AreStretches dump.stretches → (t : ℕ) → IsFirst dump t → (v : ℕ) → IsSameTime dump t v → v ≡ t
first_alone dump order t first v (inl e) = e
first_alone dump order t first v (inr hidden) = absurd (window_not_first dump.stretches t order first hidden.first)

pub first_sound_law : FirstSoundLaw
first_sound_law d h dump run tables points is t a first shown paused =
    record {
      allows = λ r v same showing.
          let e = first_alone dump is.fits.rising t first v same in
          subst (λ u. AllowsState (started d dump.bound run tables (dump.values t) a).kept (settled d r u)) (sym e)
          (first_sound d h dump run tables points is (step_laws (machine d) (machine_lawful d is.lawful) h) t a paused.acted shown r (subst (λ u. IsShowing d h dump u r) e showing)).allowed;
      acted = λ r v same showing p is_comb e.
          let at = first_alone dump is.fits.rising t first v same in
          subst (λ u. IsLeft d p (settled d r u)) (sym at) (paused.acted r (subst (λ u. IsShowing d h dump u r) at showing) p is_comb e);
      hits = λ x told r showing. let k = paused.hits x told r showing in let before = k.2 in (k.0, k.1, omega (arith, before), k.3);
      marked = λ x member r v same showing u window le hit.
          let e = first_alone dump is.fits.rising t first v same in
          paused.marked x member r (subst (λ u. IsShowing d h dump u r) e showing) u window (window_before_first dump.stretches t u is.fits.rising first window (omega (arith, le, e))) hit;
      unknown = λ c input free. first_input d is.lawful dump.bound run tables (dump.values t) a c input free;
    }

-- the points of bodies, and those on signals
spot_or : (x : Point) → ((s : Spot) × (spot_at x ≡ Some s)) ⊎ (spot_at x ≡ None)
spot_or (line_point p n at w) = inl (line n, refl)
spot_or (logic_point p n at op c) = inl (node n c, refl)
spot_or (toggle_point s i rise) = inr refl
spot_or (state_point i name s state x) = inr refl
spot_or (arc_point i name s from to' x y) = inr refl
spot_or (word_point m k true) = inl (word_write m k, refl)
spot_or (word_point m k false) = inl (word_read m k, refl)

no_body : (d : Design) (r : Run) (k : StepOf r) (x : Point) → spot_at x ≡ None → (A : Type 0) → A → A
no_body d r k x e A y = y

module _ (h : Habit) (d : Design) (dump : BoundDump) (run : Runs) (tables : Tables) (points : List Point) (is : IsReplayOf d h dump run tables points) (asked : AskedLaws d) (t : ℕ) (sets : Sets) (a : Replay) (window : IsWindow dump (suc t)) (are : AreSets d h dump (suc t) sets) (sound : IsSound d h dump points t a) where
  abbrev laws : StepLaws (machine d) h
  laws = step_laws (machine d) (machine_lawful d is.lawful) h

  abbrev AfterAll : List Marking
  AfterAll = (all_run (closing_at d dump run tables sets t a)).notes ++ all_point_notes (closing_at d dump run tables sets t a) points

  module _ (r : Run) (showing : IsShowing d h dump (suc t) r) where
    before : IsShowing d h dump t r
    before = earlier d h dump (suc t) t r (omega arith) showing

    starts : AllowsState a.kept (settled d r t)
    starts = sound.allows r t (inl refl) before

    acted : (p : ℕ) → IsComb (process_at d p) → a.acted p ≡ true → IsLeft d p (settled d r t)
    acted = sound.acted r t (inl refl) before

    in_step : (x : Point) (n : Marking) → In n ((all_run (closing_at d dump run tables sets t a)).notes ++ all_point_notes (closing_at d dump run tables sets t a) points) → IsKeyOf d x n.key → n.doubt ≡ None → (u : ℕ) × IsWindow dump u × (u ≤ suc t) × IsHitAt d dump r x u
    in_step x n there key e = ⊎_elim of_body of_signal (in_halves n (all_run (closing_at d dump run tables sets t a)).notes (all_point_notes (closing_at d dump run tables sets t a) points) there)
      where
        of_old : In n a.notes → (u : ℕ) × IsWindow dump u × (u ≤ suc t) × IsHitAt d dump r x u
        of_old y = let old = sound.hits x (in_hit d x a.notes n y key e) r before in (old.0, old.1, omega (arith, old.2), old.3)

        of_body : In n (all_run (closing_at d dump run tables sets t a)).notes → (u : ℕ) × IsWindow dump u × (u ≤ suc t) × IsHitAt d dump r x u
        of_body y =
            ⊎_elim of_old (λ k. (suc t, window, omega arith, inl k)) (body_hit d h dump run tables points is laws (early_law (machine d)) asked t window sets are a r showing starts acted sound.unknown x n y key e)

        of_signal : In n (all_point_notes (closing_at d dump run tables sets t a) points) → (u : ℕ) × IsWindow dump u × (u ≤ suc t) × IsHitAt d dump r x u
        of_signal y =
            let k = in_point_notes (closing_at d dump run tables sets t a) points n y in
            (suc t, window, omega arith, subst (λ z. IsHitAt d dump r z (suc t)) (subst (IsKeyOf d x) (note_key (closing_at d dump run tables sets t a) k.0 n k.2) key) (point_hit d h dump run tables points is laws (early_law (machine d)) t window sets are a r showing starts acted sound.unknown k.0 k.1 n k.2 e))

    kept_told : (n : Marking) → In n a.notes → In n AfterAll
    kept_told n y = in_left n (all_run (closing_at d dump run tables sets t a)).notes (all_point_notes (closing_at d dump run tables sets t a) points) (old_kept d h dump run tables points is laws (early_law (machine d)) asked t window sets are a r showing starts acted sound.unknown n y)

  -- the point is reported to be hit, or in doubt at this time or one that is the same
  abbrev Told_at : Point → ℕ → Type 0
  Told_at x u = IsHitMarked d x AfterAll ⊎ ((y : Doubted) × IsSameTime dump y.time u × IsDoubtMarked d x y AfterAll)

  told_as : (x : Point) (u : ℕ) → IsSameTime dump (suc t) u → (n : Marking) → In n AfterAll → IsKeyOf d x n.key → (n.doubt ≡ None) ⊎ ((y : ℕ) × (n.doubt ≡ Some (record { time = suc t; thing = y }))) → Told_at x u
  told_as x u same n there key (inl e) = inl (in_hit d x AfterAll n there key e)
  told_as x u same n there key (inr e) = inr (record { time = suc t; thing = e.0 }, same, in_doubt d x (record { time = suc t; thing = e.0 }) AfterAll n there key e.1)

  -- so what is reported of a point on a signal, and of a body
  of_point : (x : Point) → In x points → (u : ℕ) → IsSameTime dump (suc t) u → PointNow (closing_at d dump run tables sets t a) x (Rattle.replay_model.specs.Step.point_notes (closing_at d dump run tables sets t a) x) → Told_at x u
  of_point x member u same n =
      told_as x u same n.0 (in_right n.0 (all_run (closing_at d dump run tables sets t a)).notes (all_point_notes (closing_at d dump run tables sets t a) points) (point_notes_in (closing_at d dump run tables sets t a) points x n.0 member n.1)) (subst (IsKeyOf d x) (sym n.2) refl) n.3

  of_body : (x : Point) (u : ℕ) → IsSameTime dump (suc t) u → (n : Marking) × In n (all_run (closing_at d dump run tables sets t a)).notes × IsKeyOf d x n.key × ((n.doubt ≡ None) ⊎ ((y : ℕ) × (n.doubt ≡ Some (record { time = suc t; thing = y })))) → Told_at x u
  of_body x u same n = told_as x u same n.0 (in_left n.0 (all_run (closing_at d dump run tables sets t a)).notes (all_point_notes (closing_at d dump run tables sets t a) points) n.1) n.2 n.3

  module _ (r : Run) (showing : IsShowing d h dump (suc t) r) where
    of_past : (x : Point) (u : ℕ) → IsHitMarked d x a.notes ⊎ ((y : Doubted) × IsSameTime dump y.time u × IsDoubtMarked d x y a.notes) → Told_at x u
    of_past x u (inl e) = let n = hit_in d x a.notes e in inl (in_hit d x AfterAll n.0 (kept_told r showing n.0 n.1) n.2 n.3)
    of_past x u (inr e) = let n = doubt_in d x e.0 a.notes e.2 in inr (e.0, e.1, in_doubt d x e.0 AfterAll n.0 (kept_told r showing n.0 n.1) n.2 n.3)

    now_told : (x : Point) → In x points → IsHitAt d dump r x (suc t) → Told_at x (suc t)
    now_told x member hit =
        ⊎_elim (of_point x member (suc t) (inl refl))
        (λ s. of_body x (suc t) (inl refl) (body_marked d h dump run tables points is laws (early_law (machine d)) asked t window sets are a r showing (starts r showing) (acted r showing) sound.unknown x s.0 s.1 s.2.0 s.2.1 s.2.2))
        (point_marked d h dump run tables points is laws (early_law (machine d)) t window sets are a r showing (starts r showing) (acted r showing) sound.unknown x member hit)

  -- at a hidden time after it
  after_told : (r : Run) (x : Point) → In x points → (u : ℕ) → suc t ≤ u → (suc t ≡ u → ⊥) → IsHiddenOn dump (suc t) u → IsShowing d h dump u r → IsHitAt d dump r x u → Told_at x u
  after_told r x member zero le other hidden showing hit = absurd (omega (arith, le))
  after_told r x member (suc e) le other hidden showing (inr hit) = absurd (hidden.none (suc e) le (omega arith) hit.0)
  after_told r x member (suc e) le other hidden showing (inl hit) =
      let later : suc t ≤ e = omega (arith, le, other) in
      ⊎_elim (of_point x member (suc e) (inr hidden))
      (λ s. of_body x (suc e) (inr hidden) (hidden_marks.body_marked d h dump run tables points is laws (early_law (machine d)) asked t window sets are a sound r e later hidden showing x s.0 s.1 hit.0 hit.1 hit.2))
      (hidden_marks.point_marked d h dump run tables points is laws (early_law (machine d)) asked t window sets are a sound r e later hidden showing x member hit.0 hit.1 hit.2)

  -- a part of hidden times
  hidden_until : (v u : ℕ) → IsSameTime dump (suc t) v → suc t ≤ u → u ≤ v → (suc t ≡ u → ⊥) → IsWindow dump u → IsHiddenOn dump (suc t) u
  hidden_until v u (inl e) le within other in_window = absurd (other (omega (arith, e, le, within)))
  hidden_until v u (inr hidden) le within other in_window =
      record { later = le; first = hidden.first; last = in_window; none = λ w after before. hidden.none w after (omega (arith, before, within)) }

  marked_step : (x : Point) → In x points → (r : Run) (v : ℕ) → IsSameTime dump (suc t) v → IsShowing d h dump v r → (u : ℕ) → IsWindow dump u → u ≤ v → IsHitAt d dump r x u → Told_at x u
  marked_step x member r v same showing u in_window within hit = ⊎_elim after until (cases_lt t u)
    where
      here : IsShowing d h dump (suc t) r
      here = earlier d h dump v (suc t) r (no_earlier dump (suc t) v same) showing

      after : t < u → Told_at x u
      after above =
          ⊎_elim (λ e. subst (Told_at x) e (now_told r here x member (subst (IsHitAt d dump r x) (sym e) hit)))
          (λ other. after_told r x member u (omega (arith, above)) other (hidden_until v u same (omega (arith, above)) within other in_window) (earlier d h dump v u r within showing) hit) (cases_eq (suc t) u)

      until : u ≤ t → Told_at x u
      until below = of_past r here x u (sound.marked x member r t (inl refl) (earlier d h dump (suc t) t r (omega arith) here) u in_window below hit)

  pub step_sound : IsSound d h dump points (suc t) (closed_at d dump run tables points sets t a)
  step_sound =
      record {
        allows = λ r v same showing. (jumps.all_sound d h dump run tables points is laws (early_law (machine d)) t window sets are a sound r v same showing).allowed;
        acted = λ r v same showing. (jumps.all_sound d h dump run tables points is laws (early_law (machine d)) t window sets are a sound r v same showing).acted;
        hits = λ x told r showing. let n = hit_in d x ((all_run (closing_at d dump run tables sets t a)).notes ++ all_point_notes (closing_at d dump run tables sets t a) points) told in in_step r showing x n.0 n.1 n.2 n.3;
        marked = λ x member r v same showing. marked_step x member r v same showing;
        unknown = λ c input free. kept_input d h (early_law (machine d)) dump run tables points is t sets are a c input free (sound.unknown c input free);
      }

-- over a time that the dump does not list nothing happens where each input is bound
module _ (d : Design) (h : Habit) (dump : BoundDump) (run : Runs) (tables : Tables) (points : List Point) (is : IsReplayOf d h dump run tables points) (inputs : BindsInputs d dump) (t : ℕ) (window : IsWindow dump (suc t)) (unlisted : IsListed dump (suc t) → ⊥) (r : Run) (showing : IsShowing d h dump (suc t) r) where
  quiet : (settled d r (suc t) ≡ settled d r t) × ((k : StepOf r) → k.step.time ≡ suc t → k.step.events ≡ [])
  quiet = unlisted_law d is.lawful h (step_laws (machine d) (machine_lawful d is.lawful) h) dump r t ((any_dump_law d dump).1 (is.fits, inputs)) showing window unlisted

  pub same_settled : settled d r (suc t) ≡ settled d r t
  same_settled = quiet.0

  quiet_step : (k : StepOf r) → k.step.time ≡ suc t → k.step.events ≡ []
  quiet_step = quiet.1

  same_ends : (k : StepOf r) → k.step.time ≡ suc t → (start_of d r k).values ≡ (end_of d r k).values
  same_ends k at = ap (λ es. (end_state (machine d) (start_of d r k) es).values) (sym (quiet_step k at))

  none_evaluated : (k : StepOf r) → k.step.time ≡ suc t → (p : ℕ) → evaluations_of d r k p ≡ []
  none_evaluated k at p = ap (λ es. evaluations (machine d) p (start_of d r k) es) (quiet_step k at)

  append_one : {A : Type 0} (xs : List A) (x : A) → xs ++ x ∷ [] ≡ [] → ⊥
  append_one [] x e = cc
  append_one (y ∷ xs) x e = cc

  scored_none : (x : Process) (k : StepOf r) (p : ℕ) (v : Values Bit) → evaluations_of d r k p ≡ [] → IsScoredOf x d r k p v → ⊥
  scored_none (assign i z t c) k p v none h = append_one h.0.0 v (sym h.0.1 ∙ none)
  scored_none (comb i wakes s) k p v none h = append_one h.0.0 v (sym h.0.1 ∙ none)
  scored_none (clocked i events s) k p v none h = subst (In v) none h

  no_visits : (k : StepOf r) → k.step.time ≡ suc t → (p : ℕ) (y : Visit) → VisitsIn d r k p y → ⊥
  no_visits k at p y h = scored_none (process_at d p) k p h.0 (none_evaluated k at p) h.1

  zero_one : Zero ≡ One → ⊥
  zero_one e = cc

  no_hit : (x : Point) → In x points → (k : StepOf r) → k.step.time ≡ suc t → HitIn d r k x → ⊥
  no_hit (line_point p n place w) member k at hit = no_visits k at p _ hit
  no_hit (logic_point p n place op c) member k at hit = no_visits k at p _ hit
  no_hit (toggle_point s i true) member k at hit = zero_one (sym hit.0 ∙ ap (λ f. f (Rattle.design_model.specs.Points.toggle_cell d s i)) (same_ends k at) ∙ hit.1)
  no_hit (toggle_point s i false) member k at hit = zero_one (sym hit.1 ∙ ap (λ f. f (Rattle.design_model.specs.Points.toggle_cell d s i)) (sym (same_ends k at)) ∙ hit.0)
  no_hit (state_point i name s state x) member k at hit = hit.0 (ap (λ f. Rattle.design_model.specs.Design.signal_bits d f s) (same_ends k at))
  no_hit (arc_point i name s from to' x y) member k at hit = is.arcs i name s from to' x y member (sym hit.0 ∙ ap (λ f. Rattle.design_model.specs.Design.signal_bits d f s) (same_ends k at) ∙ hit.1)
  no_hit (word_point m i true) member k at hit = no_visits k at hit.0 _ hit.1
  no_hit (word_point m i false) member k at hit = no_visits k at hit.0 _ hit.2

-- a time of the window that is not listed, after one that is not, is of hidden times with it
one_hidden : (ts : List ℕ) (t : ℕ) → IsWindowOf ts (suc t) → (In t ts → ⊥) → IsWindowOf ts t
one_hidden [] t window unlisted = window
one_hidden (u ∷ us) t window unlisted = ⊎_elim (λ e. absurd (unlisted (inl e))) (λ other. (omega (arith, window.0, other), omega (arith, window.1))) (cases_eq u t)

window_hidden : (tss : List (List ℕ)) (t : ℕ) → InSome (λ ts. IsWindowOf ts (suc t)) tss → (InSome (In t) tss → ⊥) → InSome (λ ts. IsWindowOf ts t) tss
window_hidden [] t window unlisted = window
window_hidden (ts ∷ []) t window unlisted = one_hidden ts t window unlisted
window_hidden (ts ∷ us ∷ tss) t (inl window) unlisted = inl (one_hidden ts t window (λ on. unlisted (inl on)))
window_hidden (ts ∷ us ∷ tss) t (inr window) unlisted = inr (window_hidden (us ∷ tss) t window (λ on. unlisted (inr on)))

hidden_alone : (dump : BoundDump) (t : ℕ) → IsWindow dump t → (IsListed dump t → ⊥) → IsHiddenOn dump t t
hidden_alone dump t window unlisted = record { later = omega arith; first = window; last = window; none = λ u after within on. unlisted (subst (IsListed dump) (same u after within) on) }
  where
    same : (u : ℕ) → t ≤ u → u ≤ t → u ≡ t
    same u after within = omega (arith, after, within)

-- hidden times from the moment before
hidden_from : (dump : BoundDump) (t v : ℕ) → IsWindow dump t → (IsListed dump t → ⊥) → IsHiddenOn dump (suc t) v → IsHiddenOn dump t v
hidden_from dump t v window unlisted hidden =
    record {
      later = omega (arith, hidden.later);
      first = window;
      last = hidden.last;
      none = λ u after within on. ⊎_elim (λ e. unlisted (subst (IsListed dump) (sym e) on)) (λ other. hidden.none u (omega (arith, after, other)) within on) (cases_eq t u);
    }

all_hidden : (dump : BoundDump) (t v : ℕ) → IsWindow dump t → (IsListed dump t → ⊥) → IsSameTime dump t v → IsHiddenOn dump t v
all_hidden dump t v window unlisted (inl e) = subst (IsHiddenOn dump t) (sym e) (hidden_alone dump t window unlisted)
all_hidden dump t v window unlisted (inr hidden) = hidden

-- where each input is bound the values stay over hidden times, and no point is hit at them
module _ (d : Design) (h : Habit) (dump : BoundDump) (run : Runs) (tables : Tables) (points : List Point) (is : IsReplayOf d h dump run tables points) (inputs : BindsInputs d dump) (t : ℕ) (r : Run) where
  stays_by : (n v : ℕ) → v ≡ n + suc t → IsHiddenOn dump (suc t) v → IsShowing d h dump v r → settled d r v ≡ settled d r t
  stays_by zero v e hidden showing =
      let at : v ≡ suc t = omega (arith, e) in
      ap (settled d r) at ∙ same_settled d h dump run tables points is inputs t hidden.first (hidden.none (suc t) (omega arith) hidden.later) r (subst (λ u. IsShowing d h dump u r) at showing)
  stays_by (suc n) v e hidden showing =
      let at : v ≡ suc (n + suc t) = omega (arith, e) in
      let le : suc t ≤ n + suc t = omega arith in
      let on : IsHiddenOn dump (suc t) (suc (n + suc t)) = subst (IsHiddenOn dump (suc t)) at hidden in
      let here : IsShowing d h dump (suc (n + suc t)) r = subst (λ u. IsShowing d h dump u r) at showing in
      ap (settled d r) at ∙ same_settled d h dump run tables points is inputs (n + suc t) on.last (on.none (suc (n + suc t)) on.later (omega arith)) r here
      ∙ stays_by n (n + suc t) refl (hidden_to dump (suc t) (n + suc t) le on (window_of dump is.fits.rising (suc t) (n + suc t) le on)) (earlier d h dump (suc (n + suc t)) (n + suc t) r (omega arith) here)

  stays : (v : ℕ) → IsHiddenOn dump (suc t) v → IsShowing d h dump v r → settled d r v ≡ settled d r t
  stays v hidden showing =
      let n : ℕ = v - suc t in
      let e : v ≡ n + suc t = omega (arith, hidden.later) in
      stays_by n v e hidden showing

  no_hit_at : (x : Point) → In x points → (u : ℕ) → suc t ≤ u → IsWindow dump u → (IsListed dump u → ⊥) → IsShowing d h dump u r → IsHitAt d dump r x u → ⊥
  no_hit_at x member zero le window unlisted showing hit = omega (arith, le)
  no_hit_at x member (suc w) le window unlisted showing (inl k) = no_hit d h dump run tables points is inputs w window unlisted r showing x member k.0 k.1 k.2
  no_hit_at x member (suc w) le window unlisted showing (inr k) = unlisted k.0

pub rest_sound_law : RestSoundLaw
rest_sound_law d h dump run tables points is t a (inr unlisted_before) window unlisted sound =
    let in_window : IsWindow dump t = window_hidden dump.stretches t window unlisted_before in
    let on : (v : ℕ) → IsSameTime dump (suc t) v → IsSameTime dump t v = λ v same. inr (hidden_from dump t v in_window unlisted_before (all_hidden dump (suc t) v window unlisted same)) in
    record {
      allows = λ r v same showing. sound.allows r v (on v same) showing;
      acted = λ r v same showing. sound.acted r v (on v same) showing;
      hits = λ x told r showing. let old = sound.hits x told r (earlier d h dump (suc t) t r (omega arith) showing) in (old.0, old.1, omega (arith, old.2), old.3);
      marked = λ x member r v same showing. sound.marked x member r v (on v same) showing;
      unknown = sound.unknown;
    }
rest_sound_law d h dump run tables points is t a (inl inputs) window unlisted sound =
    record {
      allows = λ r v same showing. subst (AllowsState a.kept) (sym (stays d h dump run tables points is inputs t r v (hidden v same) showing)) (sound.allows r t (inl refl) (before r v same showing));
      acted = λ r v same showing p c e. subst (IsLeft d p) (sym (stays d h dump run tables points is inputs t r v (hidden v same) showing)) (sound.acted r t (inl refl) (before r v same showing) p c e);
      hits = λ x told r showing. let old = sound.hits x told r (earlier d h dump (suc t) t r (omega arith) showing) in (old.0, old.1, omega (arith, old.2), old.3);
      marked = λ x member r v same showing u in_window le hit.
          ⊎_elim (λ above. absurd (no_hit_at d h dump run tables points is inputs t r x member u (omega (arith, above)) in_window ((hidden v same).none u (omega (arith, above)) le) (earlier d h dump v u r le showing) hit))
          (λ below. sound.marked x member r t (inl refl) (before r v same showing) u in_window below hit) (cases_lt t u);
      unknown = sound.unknown;
    }
  where
    hidden : (v : ℕ) → IsSameTime dump (suc t) v → IsHiddenOn dump (suc t) v
    hidden v same = all_hidden dump (suc t) v window unlisted same

    before : (r : Run) (v : ℕ) → IsSameTime dump (suc t) v → IsShowing d h dump v r → IsShowing d h dump t r
    before r v same showing = let le = no_earlier dump (suc t) v same in earlier d h dump v t r (omega (arith, le)) showing

-- the verdicts
untold_none : (d : Design) (x : Point) (ns : List Marking) → IsUnmarked d x ns → (n : Marking) → In n ns → IsKeyOf d x n.key → ⊥
untold_none d x [] none n h key = absurd h
untold_none d x (m ∷ ns) none n (inl e) key = none.0 (subst (λ z. IsKeyOf d x z.key) (sym e) key)
untold_none d x (m ∷ ns) none n (inr h) key = untold_none d x ns none.1 n h key

hit_at : (d : Design) (dump : BoundDump) (r : Run) (x : Point) (u : ℕ) → IsWindow dump u → IsHitAt d dump r x u → IsHit d dump r x
hit_at d dump r x u window (inl k) = inl (k.0, subst (IsWindow dump) (sym k.1) window, k.2)
hit_at d dump r x u window (inr k) = inr (u, window, k.0, k.1)

at_hit : (d : Design) (dump : BoundDump) (r : Run) (x : Point) → IsHit d dump r x → (u : ℕ) × IsWindow dump u × IsHitAt d dump r x u
at_hit d dump r x (inl k) = (k.0.step.time, k.1, inl (k.0, refl, k.2))
at_hit d dump r x (inr k) = (k.0, k.1, inr (k.2, k.3))

-- verdicts are sound where what was reported to be hit is hit in each run that shows the dump, and what is hit in one was reported
pub verdicts_sound : (d : Design) (h : Habit) (dump : BoundDump) (points : List Point) (a : Replay)
    → ((x : Point) → IsHitMarked d x a.notes → (r : Run) → IsRun d h r → Shows d dump r → (u : ℕ) × IsWindow dump u × IsHitAt d dump r x u)
    → ((x : Point) → In x points → (r : Run) → IsRun d h r → Shows d dump r → (u : ℕ) → IsWindow dump u → IsHitAt d dump r x u → IsHitMarked d x a.notes ⊎ ((y : Doubted) × IsSameTime dump y.time u × IsDoubtMarked d x y a.notes))
    → AreSoundVerdicts d h dump points a
verdicts_sound d h dump points a hits marked =
    record {
      hit = λ x told r is_run shows. let k = hits x told r is_run shows in hit_at d dump r x k.0 k.1 k.2;
      missed = λ x member none r is_run shows hit.
          let k = at_hit d dump r x hit in
          ⊎_elim (λ e. let n = hit_in d x a.notes e in untold_none d x a.notes none n.0 n.1 n.2) (λ e. let n = doubt_in d x e.0 a.notes e.2 in untold_none d x a.notes none n.0 n.1 n.2) (marked x member r is_run shows k.0 k.1 k.2);
    }

pub sound_verdict_law : SoundVerdictLaw
sound_verdict_law d h dump points t a ends shown sound =
    verdicts_sound d h dump points a (λ x told r is_run shows. let k = sound.hits x told r (shows_to d h dump t r is_run shows) in (k.0, k.1, k.3))
    (λ x member r is_run shows u window hit. sound.marked x member r t (inl refl) (shows_to d h dump t r is_run shows) u window (ends u window) hit)

pub step_sound_law : (h : Habit) → StepSoundLaw h
step_sound_law h d dump run tables points is own t sets a window are sound = step_sound h d dump run tables points is (asked_of d is.lawful own) t sets a window are sound
