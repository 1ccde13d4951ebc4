-- A design that is answered is within the limits.
use Rattle.std.proofs.Common.{◌≡◌, ℕ, ◌≤◌, List, [], ◌∷◌, Some, Ok, refl, subst, length, map, arith, length-append}
use Rattle.std.proofs.lemmas.List.{length-map}
use Rattle.std.proofs.lemmas.List.Sums.{sum_by-append}
use Rattle.std.specs.List.{sum_by, filter}
use Rattle.design_model.specs.Design.{Design}
use Rattle.design_model.specs.Lawful.{size_of, span}
use Rattle.design_model.specs.declared.design.Signal.{Signal}
use Rattle.flat_design.specs.Declarations.{Declaration}
use Rattle.verilog_tree.specs.Tree.{Module}
use Rattle.flat_design.specs.Faults.{answer, design_or, faults_of}
use Rattle.flat_design.specs.Fault.{Fault, first_fault}
use Rattle.flat_design.specs.Flat.{elaborated, elaborated_from, module_of, start, top_instance}
use Rattle.flat_design.specs.Instances.{Instantiation, Sofar, opened, opening_met, declared, is_own, is_memory, memory_of, signal_of, context}
use Rattle.flat_laws.proofs.Freedom.{IsSound, answered_sound, signal_count, process_count, word_count, instance_count, statement_count}
use Rattle.flat_laws.proofs.Steps.{Steps, elaborated_keeps}
use Rattle.flat_laws.proofs.LawfulCounts.{IsCounted, counted_meets, counted_process, continuous_adds, always_adds, input_adds, output_adds, sum_opening, signals_met, memories_met, others_met, no_signal, no_process, no_words, no_instance, no_statement, told_inner}

counted_opened : (i : Instantiation) (st : Sofar) → IsCounted st → IsCounted (opened i st)
counted_opened i st h = record {
  signals = omega (arith, sum_by-append signal_count st.met (opening_met i), sum_opening signal_count (λ m t. no_signal m (told_inner m t)) i, signals_met i ds, h.signals, length-append st.design.signals own, length-map (filter (is_own i.aliases i.of_module) ds) (signal_of number i.is_top));
  processes = omega (arith, sum_by-append process_count st.met (opening_met i), sum_opening process_count (λ m t. no_process m (told_inner m t)) i, others_met process_count (λ m t. no_process m (told_inner m t)) (λ p. refl) (λ p n. refl) i ds, h.processes);
  words = omega (arith, sum_by-append word_count st.met (opening_met i), sum_opening word_count (λ m t. no_words m (told_inner m t)) i, memories_met number i ds, h.words, sum_by-append (λ m. span m.first m.last) st.design.memories (map (memory_of number) (filter is_memory ds)));
  instances = omega (arith, sum_by-append instance_count st.met (opening_met i), sum_opening instance_count (λ m t. no_instance m (told_inner m t)) i, others_met instance_count (λ m t. no_instance m (told_inner m t)) (λ p. refl) (λ p n. refl) i ds, h.instances, length-append st.design.instances (record { path = i.path; «module» = i.of_module.name.name } ∷ []));
  statements = omega (arith, sum_by-append statement_count st.met (opening_met i), sum_opening statement_count no_statement i, others_met statement_count no_statement (λ p. refl) (λ p n. refl) i ds, h.statements);
}
  where
    ds : List Declaration
    ds = declared i.overrides i.of_module

    number : ℕ
    number = length st.design.instances

    own : List Signal
    own = map (signal_of number i.is_top) (filter (is_own i.aliases i.of_module) ds)

counted_steps : (base : ℕ) (ms : List Module) → Steps base ms IsCounted (λ depth i st. Unit {0})
counted_steps base ms = record {
  meets = counted_meets;
  opens = λ depth i st free known h. counted_opened i st h;
  assigns = λ depth i before st here x x_in y v n assigned free h. counted_process _ st (continuous_adds base (context base i before).scope (length before.design.instances) (length st.design.processes) x.place y v n) h;
  runs = λ depth i before st here x x_in w s l n form free h. counted_process _ st (always_adds base (context base i before).scope (length before.design.instances) (length st.design.processes) x.place w s l n) h;
  inputs = λ depth i before at st x k m o inside j s joined way free h. counted_process _ st (input_adds base (context base i before).scope (length before.design.instances) (length st.design.processes) x.place j.label s j.value) h;
  outputs = λ depth i before at st x k m o inside j s joined way free h. counted_process _ st (output_adds base (context base i before).scope (length before.design.instances) (length st.design.processes) x.place s j.value) h;
  below = λ depth i before st here h x k m o under. tt;
}

counted_start : (top : List ℕ) → IsCounted (start top)
counted_start top = record { signals = refl; processes = refl; words = refl; instances = refl; statements = refl }

-- the base from which elaboration numbers memories
abbrev pub base_of : List Module → List ℕ → ℕ
base_of ms top = length (elaborated_from 0 ms top (module_of ms top)).design.signals

-- what each step keeps holds of the design that is answered
pub answered_keeps : (ms : List Module) (top : List ℕ) (P : Sofar → Type 0) (Q : ℕ → Instantiation → Sofar → Type 0) → Steps (base_of ms top) ms P Q →
    ((m : Module) → module_of ms top ≡ Some m → Q 64 (top_instance top m) (start top)) → P (start top) → IsSound ms top → P (elaborated ms top)
answered_keeps ms top P Q steps known kept sound = elaborated_keeps (base_of ms top) ms top P Q steps known kept (module_of ms top) refl sound.told.free

the_design : (e : Design) (fs : List Fault) (d : Design) → design_or e (first_fault fs) ≡ Ok d → e ≡ d
the_design e [] d h = cc
the_design e (f ∷ fs) d h = absurd cc

-- the design that is answered is the one that was made
pub answered_design : (ms : List Module) (top : List ℕ) (d : Design) → answer ms top ≡ Ok d → (elaborated ms top).design ≡ d
answered_design ms top d e = the_design (elaborated ms top).design (faults_of ms top) d e

pub answered_counted : (ms : List Module) (top : List ℕ) → IsSound ms top → IsCounted (elaborated ms top)
answered_counted ms top sound = answered_keeps ms top IsCounted (λ depth i st. Unit {0}) (counted_steps (base_of ms top) ms) (λ m found. tt) (counted_start top) sound

-- the design has at most as much of each as the limits say
pub record IsSmall (d : Design) : Type 0 where
  pub few_signals : length d.signals ≤ 65536
  pub few_processes : length d.processes ≤ 65536
  pub few_words : sum_by (λ m. span m.first m.last) d.memories ≤ 262144
  pub few_instances : length d.instances ≤ 65536
  pub few_statements : sum_by size_of d.processes ≤ 1048576

elaborated_small : (ms : List Module) (top : List ℕ) → IsSound ms top → IsSmall (elaborated ms top).design
elaborated_small ms top sound =
    let h : IsCounted (elaborated ms top) = answered_counted ms top sound in
    let few = sound.told.few in
    record {
      few_signals = omega (arith, h.signals, few.signals);
      few_processes = omega (arith, h.processes, few.processes);
      few_words = omega (arith, h.words, few.words);
      few_instances = omega (arith, h.instances, few.instances);
      few_statements = omega (arith, h.statements, few.statements);
    }

pub answered_small : (ms : List Module) (top : List ℕ) (d : Design) → answer ms top ≡ Ok d → IsSmall d
answered_small ms top d e = subst IsSmall (answered_design ms top d e) (elaborated_small ms top (answered_sound ms top d e))
