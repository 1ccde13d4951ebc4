-- The examples of what is reported of states, and of how machines are marked in a step.
use Rattle.std.proofs.Common.{◌≡◌, ◌<◌, ◌==◌, ℕ, true, false, List, [], ◌∷◌, None, length, get_or, refl, sym, subst, inl, inr, arith, lit<}
use Rattle.std.proofs.lemmas.Bool.{false≢true}
use Rattle.design_model.specs.Pipe.{pipe}
use Rattle.cover_points.specs.Listed.{points_of}
use Rattle.cover_points.specs.MachinePoints.{machine_of}
use Rattle.cover_points.specs.Visits.{no_point}
use Rattle.cover_points.specs.declared.listing.Points.{Points}
use Rattle.cover_points.specs.declared.machine_point.MachinePoint.{MachinePoint}
use Rattle.cover_points.specs.declared.machine_point.MachinePoint.TheVariants.{Arc, State}
use Rattle.cover_points.specs.design_machines.Machines.{machine_at}
use Rattle.cover_points.specs.design_machines.declared.machine.Machine.{Machine}
use Rattle.mark_laws.specs.replay_model.Marks.{IsHitMarked}
use Rattle.mark_laws.specs.replay_model.Step.{known_bits}
use Rattle.point_marks.specs.declared.verdict.Verdict.{Verdict}
use Rattle.point_marks.specs.declared.verdict.Verdict.TheVariants.{Hit, Missed}
use Rattle.machine_laws.specs.Followed.{is_state, step_chances, with_machine}
use Rattle.machine_laws.specs.Told.{IsToldOf}
use Rattle.machine_marks.specs.Marked.{MarksEach, chances_of, marked_if}
use Rattle.worked_examples.specs.Machine.Marked.{HasOneMachine, light}
use Rattle.worked_examples.specs.Machine.Followed.{IsFollowedExample, IsStepExample, IsToldExample, doubt, on, replay, risen, step}
use Rattle.worked_examples.proofs.Machine.Marked.{hit_missed}
use Rattle.worked_examples.proofs.Machine.Points.{mark_at, marks_each, points_are}

-- a doubt is no hit
no_hit : IsHitMarked pipe on (doubt ∷ []) → ⊥
no_hit (inl e) = let q : doubt.doubt ≡ None = e.1 in absurd (cc)
no_hit (inr e) = e

pub told_example : IsToldExample
told_example =
    record {
      surely = record { hit = λ e. inl (refl, refl); some = λ e u. u.0 refl };
      not_surely = λ h. no_hit (h.hit refl);
      left_open = record { hit = λ e. absurd (false≢true e); some = λ e u. u.0 refl };
      not_open = λ h. h.some refl tt;
      none = record { hit = λ e. absurd (false≢true e); some = λ e u. false≢true e };
      told_on = record { hit = λ e. inl (refl, refl); some = λ e u. u.0 refl };
      not_told_on = λ h. h.hit refl;
      told_off = record { hit = λ e. absurd (false≢true e); some = λ e u. false≢true e };
      toggle = tt;
    }

-- what becomes of a verdict in the step, by the list of the machines: of all, of the states of all, and of those of a signal
abbrev of_all : List Machine → MachinePoint → Verdict → Verdict
of_all xs p v = with_machine step (machine_at xs (machine_of p)) true p v

abbrev of_states : List Machine → MachinePoint → Verdict → Verdict
of_states xs p v =
    let x = machine_at xs (machine_of p) in
    marked_if (is_state p) x.signal 5 (chances_of x.values (known_bits pipe risen x.signal) (known_bits pipe risen x.signal) p) v

abbrev of_signal : ℕ → List Machine → MachinePoint → Verdict → Verdict
of_signal s xs p v = let x = machine_at xs (machine_of p) in marked_if (s == x.signal) s 5 (step_chances step x p) v

module _ (ps : Points) (h : HasOneMachine ps) where
  by_list : (mark : List Machine → MachinePoint → Verdict → Verdict) (p : MachinePoint) (v w : Verdict) → w ≡ mark (light ∷ []) p v → w ≡ mark ps.machines.items p v
  by_list mark p v w e = subst (λ xs. w ≡ mark xs p v) (sym h.machines) e

  to_list : (mark : List Machine → MachinePoint → Verdict → Verdict) (p : MachinePoint) (v w : Verdict) → w ≡ mark ps.machines.items p v → w ≡ mark (light ∷ []) p v
  to_list mark p v w e = subst (λ xs. w ≡ mark xs p v) h.machines e

  three_marks : (mark : List Machine → MachinePoint → Verdict → Verdict) (y z : Verdict) → Missed ≡ mark (light ∷ []) (State 0 0) Missed → y ≡ mark (light ∷ []) (State 0 1) Missed → z ≡ mark (light ∷ []) (Arc 0 0 1) Missed
      → MarksEach ps (mark ps.machines.items) (Missed ∷ Missed ∷ Missed ∷ []) (Missed ∷ y ∷ z ∷ [])
  three_marks mark y z a b c =
      marks_each ps h (mark ps.machines.items) Missed Missed Missed Missed y z (by_list mark (State 0 0) Missed Missed a) (by_list mark (State 0 1) Missed y b) (by_list mark (Arc 0 0 1) Missed z c)

  -- the verdict of the arc
  arc_mark : (mark : List Machine → MachinePoint → Verdict → Verdict) (y z : Verdict) → MarksEach ps (mark ps.machines.items) (Missed ∷ Missed ∷ Missed ∷ []) (Missed ∷ y ∷ z ∷ []) → z ≡ mark (light ∷ []) (Arc 0 0 1) Missed
  arc_mark mark y z m = to_list mark (Arc 0 0 1) Missed z (mark_at ps h (mark ps.machines.items) (Missed ∷ Missed ∷ Missed ∷ []) (Missed ∷ y ∷ z ∷ []) 2 (lit< tt) m)

  pub followed_example : IsFollowedExample ps
  followed_example =
      record {
        state = refl;
        no_state = refl;
        arc = refl;
        turned = refl;
        moved = refl;
        told = refl;
        not_told = refl;
        no_arc = refl;
        marked = refl;
        left = refl;
        more = ([], refl);
        marks = three_marks of_all Hit Hit refl refl refl;
        not_marks = λ m. hit_missed (sym (arc_mark of_all Hit Missed m));
        none_told = λ t.
            (let l : 1 < length (points_of ps) = subst (λ xs. 1 < length xs) (sym (points_are ps h)) (omega arith) in
            let u : IsToldOf pipe (replay risen []) on = subst (λ xs. IsToldOf pipe (replay risen []) (get_or xs 1 no_point)) (points_are ps h) (t 1 l) in
            u.hit refl);
      }

  pub step_example : IsStepExample ps
  step_example =
      record {
        own = subst (λ xs. machine_at xs 0 ≡ light) (sym h.machines) refl;
        all = three_marks of_states Hit Missed refl refl refl;
        not_all = λ m. hit_missed (arc_mark of_states Hit Hit m);
        thing = three_marks (of_signal 1) Hit Hit refl refl refl;
        other_thing = λ m. hit_missed (arc_mark (of_signal 2) Hit Hit m);
        too_few = λ f. (let e : 1 ≡ 5 = f.index.count_is in omega (arith, e));
        other_time = λ x v o. (let e : 5 ≡ 6 = o.time in omega (arith, e));
        left_out = λ x v o. false≢true (sym (o.moves 1));
        too_many = λ x v o. false≢true (o.moves 2);
        not_moving = λ x v o. false≢true o.moves;
      }
