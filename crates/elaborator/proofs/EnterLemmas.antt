-- An instance that is opened is entered, unless a limit is passed with it.
use Rattle.std.proofs.Common.{◌≡◌, ◌+◌, ◌≤◌, Bool, true, false, if◌then◌else◌, filter, Some, refl, sym, ap, ◌∙◌, subst, length, arith}
use Rattle.std.specs.Prelude.{is_some}
use Rattle.std.proofs.lemmas.Bool.{false≢true}
use Rattle.design_model.specs.View.{design_view}
use Rattle.design_model.specs.declared.design.Design.{Design}
use Rattle.flat_design.specs.Bodies.{met_fault}
use Rattle.flat_design.specs.Fault.{Fault, is_limit}
use Rattle.flat_design.specs.declared.counts.Counts.{Counts}
use Rattle.flat_design.specs.Instances.{Instantiation, declared, is_memory, opening_met, scope_of}
use Rattle.flat_design.specs.Scope.{binding_of, is_faulty_entry, look_up}
use Rattle.flat_laws.proofs.LawfulPaths.{opening_parts}
use Rattle.flat_laws.proofs.LawfulSound.{scope_sound}
use Rattle.elab_scope.specs.Tally.{Tally, after, after_all, with_fault}
use Rattle.elab_scope.proofs.TallyLemmas.{was_open}
use Rattle.elab_instances.specs.Entering.{AreFew}
use Rattle.elab_instances.specs.Opening.{AreCounted}
use Rattle.elab_instances.specs.declared.instantiation.Numbers.{Numbers}
use Rattle.elaborator.specs.Entered.{IsEntered, IsPassed}
use Rattle.elaborator.specs.Walk.{IsClean, opened_design}
use Rattle.elaborator.specs.declared.entering.Entered.{Entered}
use Rattle.elaborator.specs.declared.walk.Walk.{Walk}
use Rattle.elaborator.proofs.StepLemmas.{was_clean}

-- a limit is passed
pub passed : (w later : Walk) (i : Instantiation) → later.tally ≡ after_all w.tally (opening_met i) → later.tally.ended ≡ true → is_some later.draft ≡ is_some w.draft → IsPassed w later i
passed w later i met ended drafted =
    record {
      opens =
          record {
            met = met;
            memories = λ open'. absurd (false≢true (sym open' ∙ ended));
            instance = λ open'. absurd (false≢true (sym open' ∙ ended));
            drafted = drafted;
            draft = λ d some clean. absurd (false≢true (sym clean.open' ∙ ended));
            line = refl;
            node = refl;
          };
      ended = ended;
    }

-- none is passed
pub entered_with : (w later : Walk) (i : Instantiation) (e : Entered) → later.tally ≡ after_all w.tally (opening_met i) → later.tally.ended ≡ false →
    later.memories ≡ w.memories + length (filter is_memory (declared i.overrides i.of_module)) →
    e.numbers.instance ≡ w.tally.counts.instances → is_some later.draft ≡ is_some w.draft →
    ((d : Design) → later.draft ≡ Some d → IsClean later.tally → (o : Design) × (w.draft ≡ Some o) × (w.tally.counts.instances ≡ length (design_view o).instances → design_view d ≡ opened_design i (design_view o))) →
    e.numbers.line ≡ 1 → e.numbers.node ≡ 1 → e.declared ≡ declared i.overrides i.of_module → binding_of e.scope ≡ scope_of i w.tally.counts.signals w.memories → later.memories ≤ later.tally.counts.words → IsEntered w later i e
entered_with w later i e met still memories instance drafted draft line node names scope few =
    record {
      opens = record { met = met; memories = λ open'. memories; instance = λ open'. instance; drafted = drafted; draft = draft; line = line; node = node };
      before = was_open w.tally (opening_met i) (sym (ap (λ t. t.ended) met) ∙ still);
      still = still;
      declared = names;
      scope = scope;
      kept = record { told = λ ended first. false≢true (sym still ∙ ended); few = λ open'. few };
      clear = λ clean x.
          let free = (was_clean w later (opening_met i) met clean).1 in
          subst (λ g. is_faulty_entry (look_up g x) ≡ false) (sym scope) ((scope_sound i w.tally.counts.signals w.memories (opening_parts i free).2).sound x);
    }

-- after a fault that is a limit nothing counts
pub limit_ends : (t : Tally) (f : Fault) → is_limit f ≡ true → (after t (met_fault f)).ended ≡ true
limit_ends t f limit = by_ended t.ended refl
  where
    by_ended : (b : Bool) → t.ended ≡ b → (if b then t else with_fault f t).ended ≡ true
    by_ended true is = is
    by_ended false is = limit

-- numbers that were counted are few
pub few_after : (t : Tally) (n : Numbers) → AreCounted t n → t.ended ≡ false → AreFew n
few_after t n counted still = let c = counted still in (omega (arith, c.0, c.1), omega (arith, c.2, c.3))

-- the numbers that come next were counted
pub counted_before : (w : Walk) (c : Counts) → c ≡ w.tally.counts → c.signals ≤ 65536 → c.words ≤ 262144 → (w.tally.ended ≡ false → w.memories ≤ w.tally.counts.words) → AreCounted w.tally (record { signal = c.signals; memory = w.memories })
counted_before w c same signals words few open' =
    let s : c.signals ≡ w.tally.counts.signals = ap (λ k. k.signals) same in
    let m : c.words ≡ w.tally.counts.words = ap (λ k. k.words) same in
    let f : w.memories ≤ w.tally.counts.words = few open' in
    (omega arith, omega arith, f, omega arith)
