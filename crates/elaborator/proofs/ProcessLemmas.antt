-- A walk goes by a process, whose number alone says what is met with it.
use Rattle.std.proofs.Common.{◌≡◌, ℕ, ◌+◌, List, Some, Result, Ok, Err, refl, ap, ◌∙◌, subst, length}
use Rattle.std.specs.Prelude.{OnOk, is_some}
use Rattle.cov_host.specs.declared.place.Place.{Place}
use Rattle.design_model.specs.View.{design_view, process_view}
use Rattle.design_model.specs.declared.design.Design.{Design}
use Rattle.design_model.specs.declared.tree.Process.{Process}
use Rattle.verilog_tree.specs.Tree.{Expr, Statement}
use Rattle.verilog_tree.specs.declared.item.Named.{Named}
use Rattle.verilog_tree.specs.declared.item.When.{When}
use Rattle.flat_design.specs.Bodies.{Met}
use Rattle.flat_design.specs.Instances.{add_process}
use Rattle.flat_design.specs.Processes.{Made, always, continuous, joined_input, joined_output}
use Rattle.flat_design.specs.Scope.{Scope}
use Rattle.flat_design.specs.declared.counts.Counts.{Counts}
use Rattle.flat_design.specs.declared.entry.SignalEntry.{SignalEntry}
use Rattle.flat_laws.proofs.LawfulCounts.{AddsProcess, always_adds, continuous_adds, input_adds, output_adds}
use Rattle.elab_scope.specs.Tally.{Tally, after_all}
use Rattle.elab_bodies.proofs.SoundOfMet as bodies
use Rattle.elaborator.specs.Walk.{Adds, GoesBy, IsClean, with_process}
use Rattle.elaborator.specs.declared.walk.Numbers.{Numbers}
use Rattle.elaborator.specs.declared.walk.Walk.{Walk}
use Rattle.elaborator.proofs.FreeLemmas.{met_clean, met_free}
use Rattle.elaborator.proofs.StepLemmas.{process_goes}

-- a process by the numbers of its memories, instance, process, line points and nodes: what is met depends on its own number alone, and it on the others
pub record IsNumbered (made : ℕ → ℕ → ℕ → ℕ → ℕ → Made) : Type 0 where
  pub met : (b i k l n : ℕ) → (made b i k l n).met ≡ (made 0 0 k 0 0).met
  pub process : (b i k l n : ℕ) → (made b i k l n).process ≡ (made b i 0 l n).process
  pub adds : (b i k l n : ℕ) → AddsProcess (made b i k l n)

pub continuous_numbered : (g : Scope) (p : Place) (x v : Expr) → IsNumbered (λ b i k l n. continuous b g i k p x v n)
continuous_numbered g p x v = record { met = λ b i k l n. refl; process = λ b i k l n. refl; adds = λ b i k l n. continuous_adds b g i k p x v n }

pub always_numbered : (g : Scope) (p : Place) (w : When) (s : Statement) → IsNumbered (λ b i k l n. always b g i k p w s l n)
always_numbered g p w s = record { met = λ b i k l n. refl; process = λ b i k l n. refl; adds = λ b i k l n. always_adds b g i k p w s l n }

pub input_numbered : (g : Scope) (p : Place) (label : Named) (s : SignalEntry) (e : Expr) → IsNumbered (λ b i k l n. joined_input b g i k p label s e)
input_numbered g p label s e = record { met = λ b i k l n. refl; process = λ b i k l n. refl; adds = λ b i k l n. input_adds b g i k p label s e }

pub output_numbered : (g : Scope) (p : Place) (s : SignalEntry) (e : Expr) → IsNumbered (λ b i k l n. joined_output b g i k p s e)
output_numbered g p s e = record { met = λ b i k l n. refl; process = λ b i k l n. refl; adds = λ b i k l n. output_adds b g i k p s e }

-- where nothing is reported in the end, nothing that was met is a fault, and what holds where nothing was reported before holds
pub still_clear : {P : Type 0} {t later : Tally} (ms : List Met) → later ≡ after_all t ms → IsClean later → (IsClean t → P) → P × bodies.IsFree ms
still_clear {t = t} ms met clean holds =
    let told : IsClean (after_all t ms) = subst IsClean met clean in
    (holds (met_clean t ms told), met_free t ms told)

-- a process is met, and no design is built
pub passes_process : {base : ℕ} {w : Walk} {numbers : Numbers} (t : Tally) (counts : Counts) (lines nodes : ℕ) (made : ℕ → ℕ → ℕ → ℕ → ℕ → Made) → IsNumbered made → counts ≡ w.tally.counts →
    t ≡ after_all w.tally (made 0 0 counts.processes 0 0).met → ((d : Design) → w.draft ≡ Some d → IsClean t → ⊥) →
    GoesBy base w numbers (record w { tally = t }) numbers (λ b i l n st. add_process (made b i (length st.design.processes) l n) st) lines nodes
passes_process {base = base} {w = w} {numbers = numbers} t counts lines nodes made is counted met none_built =
    let added : Adds w (record w { tally = t }) (made 0 0 w.tally.counts.processes 0 0).met (made base numbers.instance 0 numbers.line numbers.node).process =
    record { met = met ∙ ap (λ c. after_all w.tally (made 0 0 c.processes 0 0).met) counted; memories = refl; drafted = refl; draft = λ d some clean. absurd (none_built d some clean) } in
    process_goes lines nodes made is.met is.process is.adds added (λ d some clean. absurd (none_built d some clean))

-- a process is met and added to the design
pub adds_process : {A E : Type 0} (r : Result A E) (base : ℕ) (w later : Walk) (t : Tally) (numbers others : Numbers) (counts : Counts) (lines nodes : ℕ) (made : ℕ → ℕ → ℕ → ℕ → ℕ → Made) (process : Process) → IsNumbered made → counts ≡ w.tally.counts →
    t ≡ after_all w.tally (made 0 0 counts.processes 0 0).met →
    process_view process ≡ (made base numbers.instance counts.processes numbers.line numbers.node).process →
    (others.instance ≡ numbers.instance) × (others.line ≡ numbers.line + lines) × (others.node ≡ numbers.node + nodes) →
    OnOk r (later.tally ≡ t) → OnOk r (later.memories ≡ w.memories) → OnOk r (is_some later.draft ≡ is_some w.draft) →
    OnOk r ((d : Design) → later.draft ≡ Some d → (o : Design) × (w.draft ≡ Some o) × (design_view d ≡ with_process (process_view process) (design_view o))) →
    OnOk r (GoesBy base w numbers later others (λ b i l n st. add_process (made b i (length st.design.processes) l n) st) lines nodes)
adds_process (Err e) base w later t numbers others counts lines nodes made process is counted met built numbered told kept drafted draft = tt
adds_process (Ok a) base w later t numbers others counts lines nodes made process is counted met built numbered told kept drafted draft =
    let view : process_view process ≡ (made base numbers.instance 0 numbers.line numbers.node).process = built ∙ is.process base numbers.instance counts.processes numbers.line numbers.node in
    let added : Adds w later (made 0 0 w.tally.counts.processes 0 0).met (made base numbers.instance 0 numbers.line numbers.node).process =
    record {
      met = told ∙ met ∙ ap (λ c. after_all w.tally (made 0 0 c.processes 0 0).met) counted;
      memories = kept;
      drafted = drafted;
      draft = λ d some clean. let o = draft d some in (o.0, o.1, o.2 ∙ ap (λ p. with_process p (design_view o.0)) view);
    } in
    process_goes lines nodes made is.met is.process is.adds added (λ d some clean. numbered)
