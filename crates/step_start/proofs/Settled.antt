-- The parts of the code once the Clocked of a step have run.
use Rattle.std.proofs.Common.{◌≡◌, ◌↔◌, ℕ, suc, ◌-◌, Bool, true, false, ◌++◌, List, [], length, Option, Some, refl, sym, ap, subst, ◌∙◌, arith, inl, inr}
use Rattle.std.specs.Prelude.{filter, nat_lt}
use Rattle.std.specs.List.{All}
use Rattle.std.proofs.lemmas.Bool.{and_from, and_parts, both_ways, false_from_ne_true}
use Rattle.event_machine.specs.Cell.{Cell}
use Rattle.event_machine.specs.MayMove.{of_input}
use Rattle.four_state.specs.Vector.{same_bit}
use Rattle.design_model.specs.Design.{In, body_at, signal_at}
use Rattle.design_model.specs.MayMove.{MayMoveAt}
use Rattle.design_model.specs.Mentions.{body_assigns}
use Rattle.design_model.proofs.Lawful.{same_bit_is, same_bit_self}
use Rattle.body_store.specs.body_calls.Own.{is_in}
use Rattle.body_store.specs.declared.store.Store.{Store}
use Rattle.step_parts.proofs.clocked_laws.Kept.{clocked_flushed, targets_move as clocked_targets, unassigned}
use Rattle.step_parts.proofs.clocked_laws.Moved.{moves_are}
use Rattle.code_values.specs.Values.{Values}
use Rattle.dump_check.specs.declared.order.Difference.{Difference}
use Rattle.early_sets.specs.WakeState.{WakeState}
use Rattle.index_sets.specs.Rows.{row_at}
use Rattle.process_targets.specs.Rows.{AreTargetRows}
use Rattle.process_targets.specs.declared.bits.Bits.{Bits}
use Rattle.process_targets.proofs.Settled.{settled_law}
use Rattle.run_order.specs.Ranked.{AreRanksOf}
use Rattle.step_parts.proofs.Begun.{begun as has_begun, touched_are}
use Rattle.step_parts.proofs.process_order.Distinct.{in_contains, in_either}
use Rattle.step_parts.proofs.replay_steps.Settling.{targets_move}
use Rattle.step_parts.proofs.step_changes.Found.{coded_by}
use Rattle.step_parts.specs.Due.{Due, HasBegun, HasFound, HaveClockedRun, IsContradicted, IsDueStep, step_of}
use Rattle.step_parts.specs.cover_marks.declared.marks.Marks.{Marks}
use Rattle.step_parts.specs.replay_model.Step.{Closing, clocked_run, is_touched, settle_start}
use Rattle.step_parts.specs.replay_sets.SetsOf.{sets_of}
use Rattle.step_parts.specs.replay_steps.Settling.{IsDumpStill}
use Rattle.step_parts.specs.step_changes.Changes.{AreChangedSignals}
use Rattle.step_parts.specs.wake_laws.Laws.{habit_of}
use Rattle.still_check.proofs.Still.{agrees, moved, stays}
use Rattle.still_check.proofs.step_values.Bound.{still_known}
use Rattle.still_check.specs.Laws.{AreOverwritten, AreUnchanged, InputsStay, IsLawfulStep, KnowsBound}
use Rattle.still_check.specs.Stays.{Agrees, IsAfterClocked, IsLeastMoved, Stays}
use Rattle.still_check.specs.step_values.Dumped.{AreDumped}
use Rattle.still_check.specs.step_values.Starts.{AreTaken, HasValues, IsStartOf, left_by_clocked}
use Rattle.still_check.specs.step_values.Taken.{AreOfRows}
use Rattle.still_check.specs.step_values.Vectors.{StepVectors}
use Rattle.wake_list.specs.Members.{has}
use Rattle.step_start.specs.Settles.{ArePlaced}
use Rattle.step_start.proofs.Members.{are_listed, in_is_in, woken_of}
use Rattle.step_start.proofs.Placed.{placed_in}

module _ (due : Due) (early : ℕ → List ℕ) (codes ranks clocked_ranks : List (Option ℕ)) (before w : WakeState) (values : Values) (begin left : Store) (is : IsDueStep due codes ranks clocked_ranks before values begin) (waiting : List ℕ) (v : StepVectors) (found : HasFound due w early waiting v) (ran : List ℕ) (marks : Marks) (run : HaveClockedRun due w early ran left marks) where
  abbrev pub step : Closing
  step = step_of due w early

  -- the laws of a step hold of it
  pub lawful : IsLawfulStep step
  lawful = record {
    lawful = is.changes.lawful;
    tabled = is.tabled;
    runs = is.runs;
    clocked = clocked_targets due.design (habit_of due.habit) due.dump due.run due.tables (sets_of w early) due.time due.replay found.sets;
    settling = targets_move due.design (habit_of due.habit) due.dump due.run due.tables (sets_of w early) due.time due.replay is.tabled found.sets;
    moved = moves_are due.design (habit_of due.habit) due.dump due.run due.tables (sets_of w early) due.time due.replay is.changes.lawful is.tabled found.sets;
  }

  pub after : IsAfterClocked step left w codes values.last
  after = record { knows = run.knows; moves = λ s. refl; dumped = is.changes.new }

  pub bound : KnowsBound step
  bound c dumped = (due.dump.values due.time c, is.known c dumped)

  back : suc due.time - 1 ≡ due.time
  back = omega arith

  -- an input that changes may move
  input_moves : (c : Cell) → (signal_at due.design c.thing).input ≡ true → nat_lt c.place (signal_at due.design c.thing).width ≡ true → (due.dump.values due.time c ≡ due.dump.values (suc due.time) c → ⊥) → step.sets.moves c.thing ≡ true
  input_moves c input inside apart =
      let may : MayMoveAt due.design due.dump (suc due.time) c.thing = of_input c (and_from (signal_at due.design c.thing).input _ input inside, λ told same. apart (ap (λ t. due.dump.values t c) (sym back) ∙ same)) in
      (found.sets.moves c.thing).1 may

  pub inputs : InputsStay step
  inputs c input dumped still = is.known c dumped ∙ go (same_bit (due.dump.values due.time c) (due.dump.values (suc due.time) c)) refl
    where
      go : (t : Bool) → same_bit (due.dump.values due.time c) (due.dump.values (suc due.time) c) ≡ t → Some (due.dump.values due.time c) ≡ Some (due.dump.values (suc due.time) c)
      go true e = ap Some (same_bit_is _ _ e)
      go false e =
          let inside = (and_parts (due.dump.bound c.thing) _ dumped).1 in
          absurd (both_ways _ still (input_moves c input inside (λ same. both_ways _ e (subst (λ b. same_bit (due.dump.values due.time c) b ≡ true) same (same_bit_self (due.dump.values due.time c))))))

  -- what was found is what is taken, before anything is overwritten
  pub taken : AreTaken step (left_by_clocked step) [] v
  taken = record { fits = found.fits; before = found.before; made = λ s l m b. found.made s l m }

  pub woken : (p : ℕ) → In p (due.tables.order ++ due.tables.last) → In p w.woken ↔ (is_touched step p ≡ true)
  woken = touched_are due codes ranks clocked_ranks before w values begin early waiting v is found

  -- ---- by the signals that have changed

  module _ (changed : List ℕ) (are : AreChangedSignals codes values changed) where
    old : AreDumped due.design codes values.closed (due.dump.values due.time)
    old = subst (λ t. AreDumped due.design codes values.closed (due.dump.values t)) back is.changes.old

    pub unchanged : AreUnchanged step changed
    unchanged = still_known due.design due.dump.bound due.replay.kept codes values.closed values.last (due.dump.values due.time) (due.dump.values (suc due.time)) changed is.changes.bound old is.changes.new (are_listed codes values changed are) is.known

    pub coded : (s : ℕ) → In s changed → due.dump.bound s ≡ true
    coded s i = let r = (are s).0 (in_contains s changed i) in is.changes.bound s ∙ coded_by codes s r.0 r.1

    -- ---- and by those that are overwritten

    module _ (written : List (List ℕ)) (assigned : (p y : ℕ) → is_in (row_at written p) y ≡ body_assigns y (body_at due.design p)) (overwritten : List ℕ) (of : AreOfRows codes written ran overwritten) where
      pub over : AreOverwritten step overwritten
      over = record {
        only = λ s i. let r = (of s).0 i in (is.changes.bound s ∙ r.0, (r.1, ((is.tabled.clocked r.1).0 (run.clocked r.1 r.2)).1, sym (assigned r.1 s) ∙ r.3));
        all = λ s p b i runs writes. (of s).1 (sym (is.changes.bound s) ∙ b, p, run.running p i runs, assigned p s ∙ writes);
      }

      -- of the other bound signals the Clocked have left what was known
      pub unwritten : (c : Cell) → due.dump.bound c.thing ≡ true → is_in overwritten c.thing ≡ false → left_by_clocked step c ≡ due.replay.kept c
      unwritten c b out = clocked_flushed step is.runs c (unassigned step c (λ p i runs. false_from_ne_true _ (λ writes. both_ways _ out (in_is_in c.thing overwritten (over.all c.thing p b i runs writes)))))

      -- where one differs from the dump
      pub contradicted : (d : Difference) → IsLeastMoved step changed overwritten (Some d) → IsContradicted due w early d
      contradicted d least =
          let named : due.dump.bound d.signal ≡ true = elim least.0.which [
            | inl c ↦ coded d.signal c.0
            | inr i ↦ (over.only d.signal i).0
          ] in
          let r = moved step changed overwritten d lawful inputs over named least.0 in
          record { sets = found.sets; cell = r.0; signal = r.1; differs = r.2 }

      -- where none does: the lists and the rows are those with which the Assigns and Combs begin
      pub start : (running : List ℕ) (rows : List (List Bits)) → ArePlaced ranks w.woken running → AreTargetRows due.design rows
          → IsStartOf step (clocked_run step) running rows changed overwritten codes values.last
      start running rows placed targets = record {
        running = λ p. (λ i. let r = (those p).0 i in (r.0, (woken p r.0).0 r.1), λ i. (those p).1 (i.0, (woken p i.0).1 i.1));
        targets = λ p c i l. (targets.each p).bits.has c l;
        driven = λ p c i e. (settled_law due.design is.changes.lawful p ((is.tabled.others p).0 (in_either p due.tables.order due.tables.last ((those p).0 i).0)).1).signals c e;
        bound = is.changes.bound;
        signals = is.changes.signals;
        dumped = is.changes.new;
        still = unchanged;
        unwritten = unwritten;
      }
        where
          those : (p : ℕ) → In p running ↔ (In p (due.tables.order ++ due.tables.last) × In p w.woken)
          those = placed_in ranks (due.tables.order ++ due.tables.last) (length due.design.processes) w.woken running is.ranked placed

      pub begun : All (Stays step) changed → All (Agrees step) overwritten → (listed : List ℕ) (x : Store) (made : StepVectors)
          → ((order : List ℕ) → AreRanksOf order (length due.design.processes) ranks → listed ≡ filter (λ p. has p w.woken) order)
          → HasValues step (settle_start step (clocked_run step)) x made → HasBegun due w early listed made x marks
      begun still agree listed x made pairs has_values =
          let dump_still : IsDumpStill step = stays step changed lawful bound unchanged still in
          has_begun due codes ranks clocked_ranks before w values begin left x early waiting ran listed v made marks is found run dump_still (agrees step overwritten lawful dump_still over agree)
          (pairs (due.tables.order ++ due.tables.last) is.ranked ∙ woken_of (is_touched step) (due.tables.order ++ due.tables.last) w.woken woken) has_values
