-- The design is lawful, and in every run that shows the dump line 2 is hit: the bit that it tests is 1, old or new.
use Rattle.std.proofs.Common.{◌<◌, ◌≤◌, ◌&&◌, length, ◌≡◌, inl, ⊎_elim, refl, sym, subst, ◌∙◌, ℕ, zero, suc, ◌==◌, true, false, lit<, lit≤, arith}
use Rattle.std.proofs.lemmas.Bool.{ltb-true, false≢true}
use Rattle.std.specs.Prelude.{nat_lt}
use Rattle.std.specs.List.{list_all}
use Rattle.event_machine.specs.Habit.{Free}
use Rattle.design_model.specs.Design.{In, IsAssign, IsComb, body_at, cell, is_number, path_of, process_at, signal_at}
use Rattle.design_model.specs.Mentions.{body_assigns, body_blocks, body_queues}
use Rattle.design_model.specs.Numbered.{LineAt, NodeAt, lines_of, nodes_of}
use Rattle.design_model.specs.Machine.{events_of, machine}
use Rattle.design_model.specs.Run.{IsRun, Run, StepOf, evaluations_of}
use Rattle.design_model.specs.Shows.{BindsSignals, IsShowing, IsWindow, Shows}
use Rattle.design_model.specs.Points.{IsHit}
use Rattle.design_model.specs.StepLaws.{CleanAct}
use Rattle.design_model.specs.Shape.{is_body}
use Rattle.design_model.specs.WellFormed.{is_well_formed_body}
use Rattle.design_model.specs.Lawful.{IsLawfulDesign, target_once, wakes_of}
use Rattle.design_model.proofs.Assigns.{machine_lawful}
use Rattle.design_model.proofs.StepFacts.{clean_step_law, event_law}
use Rattle.design_model.proofs.StepLaws.{StepLaws, step_laws}
use Rattle.worked_examples.specs.Design.HoldBit.{IsHoldBitExample, hold_bit, hold_bit_dump, line_one}
use Rattle.worked_examples.proofs.Design.HoldBitDoubt.{doubt_a, high_one, is_clean, is_not_open, is_surely_open, only_a, visits_two}
use Rattle.worked_examples.proofs.Design.LawfulParts.{other_name, same_number}

no_assign : (p : ℕ) → IsAssign (process_at hold_bit p) → ⊥
no_assign zero h = h
no_assign (suc p) h = h

writer : (p x : ℕ) → body_assigns x (body_at hold_bit p) ≡ true → p ≡ 0
writer zero x h = refl
writer (suc p) x h = absurd (false≢true h)

lines_once : (p q : ℕ) (x y : LineAt) → In x (lines_of (process_at hold_bit p)) → In y (lines_of (process_at hold_bit q)) → x.line ≡ y.line → (p ≡ q) × (x ≡ y)
lines_once zero zero x y a b e = (refl, same_number (λ z. z.line) (lines_of (process_at hold_bit 0)) refl x y a b e)
lines_once zero (suc q) x y a b e = absurd b
lines_once (suc p) q x y a b e = absurd a

nodes_once : (p q : ℕ) (x y : NodeAt) → In x (nodes_of (process_at hold_bit p)) → In y (nodes_of (process_at hold_bit q)) → x.node ≡ y.node → (p ≡ q) × (x ≡ y)
nodes_once zero zero x y a b e = (refl, same_number (λ z. z.node) (nodes_of (process_at hold_bit 0)) refl x y a b e)
nodes_once zero (suc q) x y a b e = absurd b
nodes_once (suc p) q x y a b e = absurd a

is_lawful : IsLawfulDesign hold_bit
is_lawful =
    record {
      signals = refl;
      memories = refl;
      instances = refl;
      bodies = bodies;
      well_formed = well_formed;
      constants = refl;
      aliases = refl;
      lists = lists;
      instance_paths = (λ h. h, tt);
      names = (
        ⊎_elim (λ e. other_name 101 99 e refl refl (λ z. omega (arith, z))) (⊎_elim (λ e. other_name 97 99 e refl refl (λ z. omega (arith, z))) (⊎_elim (λ e. other_name 113 99 e refl refl (λ z. omega (arith, z))) (⊎_elim (λ e. other_name 112 99 e refl refl (λ z. omega (arith, z))) (λ none. none)))),
        (
          ⊎_elim (λ e. other_name 97 101 e refl refl (λ z. omega (arith, z))) (⊎_elim (λ e. other_name 113 101 e refl refl (λ z. omega (arith, z))) (⊎_elim (λ e. other_name 112 101 e refl refl (λ z. omega (arith, z))) (λ none. none))),
          (
            ⊎_elim (λ e. other_name 113 97 e refl refl (λ z. omega (arith, z))) (⊎_elim (λ e. other_name 112 97 e refl refl (λ z. omega (arith, z))) (λ none. none)),
            (⊎_elim (λ e. other_name 112 113 e refl refl (λ z. omega (arith, z))) (λ none. none), ((λ none. none), tt)),
          ),
        ),
      );
      short_instances = refl;
      short_paths = short_paths;
      few_signals = lit≤ tt;
      few_processes = lit≤ tt;
      few_words = lit≤ tt;
      few_instances = lit≤ tt;
      few_statements = lit≤ tt;
      lines_once = λ p q x y a b i e. lines_once p q x y a b e;
      nodes_once = λ p q x y a b i e. nodes_once p q x y a b e;
      one_writer = λ p q x np nq a b. writer p x a ∙ sym (writer q x b);
      one_driver = λ p q c a b w v. absurd (no_assign p a);
      apart = λ p q x a w v. absurd (no_assign p a);
      no_input = no_input;
      not_both = not_both;
      targets = targets;
      comb_writes = comb_writes;
      reads_no_own = λ p c a. absurd (no_assign p a);
      events = event_bits;
    }
  where
    bodies : (p : ℕ) → is_body hold_bit (body_at hold_bit p) ≡ true
    bodies zero = refl
    bodies (suc p) = refl

    well_formed : (p : ℕ) → is_well_formed_body hold_bit (body_at hold_bit p) ≡ true
    well_formed zero = refl
    well_formed (suc p) = refl

    lists : (p : ℕ) → list_all (λ x. nat_lt x (length hold_bit.signals)) (wakes_of (process_at hold_bit p)) ≡ true
    lists zero = refl
    lists (suc p) = refl

    short_paths : (x : ℕ) → is_number hold_bit x ≡ true → length (path_of hold_bit x) ≤ 256
    short_paths zero h = lit≤ tt
    short_paths (suc zero) h = lit≤ tt
    short_paths (suc (suc zero)) h = lit≤ tt
    short_paths (suc (suc (suc zero))) h = lit≤ tt
    short_paths (suc (suc (suc (suc zero)))) h = lit≤ tt
    short_paths (suc (suc (suc (suc (suc x))))) h = absurd (omega (arith, ltb-true (suc (suc (suc (suc (suc x))))) 5 h))

    no_input : (p s : ℕ) → body_assigns s (body_at hold_bit p) ≡ true → (signal_at hold_bit s).input ≡ false
    no_input zero zero a = absurd (false≢true a)
    no_input zero (suc zero) a = absurd (false≢true a)
    no_input zero (suc (suc zero)) a = absurd (false≢true a)
    no_input zero (suc (suc (suc zero))) a = refl
    no_input zero (suc (suc (suc (suc zero)))) a = refl
    no_input zero (suc (suc (suc (suc (suc s))))) a = refl
    no_input (suc p) s a = absurd (false≢true a)

    targets : (p : ℕ) → target_once (process_at hold_bit p) hold_bit ≡ true
    targets zero = refl
    targets (suc p) = refl

    comb_writes : (p x : ℕ) → IsComb (process_at hold_bit p) → body_assigns x (body_at hold_bit p) ≡ true → x < length hold_bit.signals
    comb_writes zero x c a = absurd c
    comb_writes (suc p) x c a = absurd (false≢true a)

    event_bits : (p : ℕ) → list_all (λ e. nat_lt e.1 (length hold_bit.signals) && ((signal_at hold_bit e.1).width == 1)) (events_of (process_at hold_bit p)) ≡ true
    event_bits zero = refl
    event_bits (suc p) = refl

    not_both : (p q x : ℕ) → body_blocks x (body_at hold_bit p) ≡ true → body_queues x (body_at hold_bit q) ≡ true → ⊥
    not_both zero q x a b = false≢true a
    not_both (suc p) q x a b = false≢true a

laws : StepLaws (machine hold_bit) Free
laws = step_laws (machine hold_bit) (machine_lawful hold_bit is_lawful) Free

binds : BindsSignals hold_bit hold_bit_dump
binds s b = ltb-true s 5 b

is_hit : (r : Run) → IsRun hold_bit Free r → Shows hold_bit hold_bit_dump r → IsHit hold_bit hold_bit_dump r line_one
is_hit r is_run shows = inl (step.0, subst (IsWindow hold_bit_dump) (sym step.1) (lit< tt, lit< tt), (act.once.entry, scored, visits_two act.once.entry (high_one act.once.entry (act.once.inputs (cell 2 1) refl refl))))
  where
    showing : IsShowing hold_bit Free hold_bit_dump 5 r
    showing = record { is_run = is_run; shows = record { starts = shows.starts; shows = λ t now le. shows.shows t now } }

    step : (k : StepOf r) × (k.step.time ≡ 5)
    step = clean_step_law hold_bit is_lawful Free laws hold_bit_dump r 4 binds showing (lit< tt, lit< tt) 0 (cell 0 0) is_clean

    act : CleanAct hold_bit Free hold_bit_dump r 4 step.0 0 (cell 0 0)
    act = (event_law hold_bit is_lawful Free laws hold_bit_dump r 4 binds showing (lit< tt, lit< tt) step.0 step.1).clean 0 (cell 0 0) is_clean

    scored : In act.once.entry (evaluations_of hold_bit r step.0 0)
    scored = subst (In act.once.entry) (sym act.evaluated) (inl refl)

pub hold_bit_example : IsHoldBitExample
hold_bit_example =
    record {
      lawful = is_lawful;
      clean = is_clean;
      early = only_a;
      doubt = doubt_a;
      not_open = is_not_open;
      surely_open = is_surely_open;
      hit = is_hit;
    }
