-- A dump that binds its design is not refused, and one that a run shows is not contradicted.
use Rattle.std.proofs.Common.{◌≡◌, inl, inr, ℕ, ◌<◌, List, [], ◌∷◌, ◌++◌, Option, None, Some, sym, ap, subst, ◌∙◌, append_assoc}
use Rattle.std.proofs.lemmas.Bool.{false≢true}
use Rattle.std.specs.List.{list_any}
use Rattle.design_model.specs.Run.{Run}
use Rattle.design_model.specs.Shows.{ShowsUpTo}
use Rattle.design_model.specs.View.{design_view}
use Rattle.design_model.specs.declared.design.Alias.{Alias}
use Rattle.design_model.specs.declared.design.Constant.{Constant}
use Rattle.design_model.specs.declared.design.Design.{Design}
use Rattle.design_model.specs.declared.design.Instance.{Instance}
use Rattle.design_model.specs.declared.design.Memory.{Memory}
use Rattle.design_model.specs.declared.design.Signal.{Signal}
use Rattle.design_model.specs.declared.tree.Process.{Process}
use Rattle.dump_score.proofs.FirstValues.{lacks_none_of}
use Rattle.dump_score.specs.dump_replay.Faults.{IsContradicted}
use Rattle.event_machine.specs.Habit.{Habit}
use Rattle.four_state.specs.Vector.{Vector}
use Rattle.four_state.specs.declared.bit.Bit.{Bit}
use Rattle.shown_dumps.proofs.Fronts.{front}
use Rattle.shown_dumps.proofs.Split.{on_of_last}
use Rattle.shown_dumps.specs.Bound.{HaveFirstValues, IsBound}
use Rattle.shown_dumps.specs.Laws.{dump_with}
use Rattle.shown_dumps.specs.Shown.{bound_dump, code_at, dump_of}
use Rattle.signal_binding.specs.Binding.{codes_of}
use Rattle.signal_binding.specs.Names.{stands_in}
use Rattle.vcd_reader.proofs.FaultLaws.{dump_excludes, fault_excludes}
use Rattle.vcd_reader.proofs.Growing.{dump_goes_on}
use Rattle.vcd_reader.proofs.RisingTimes.{times_rise}
use Rattle.vcd_reader.specs.Dump.{Dump, GoesOn, IsDump, SaysBody, stretches_of}
use Rattle.vcd_reader.specs.Reading.{Body}
use Rattle.vcd_reader.specs.Times.{Rises}
use Rattle.vcd_reader.specs.declared.entry.Entry.TheVariants.{Time}
use Rattle.vcd_reader.specs.declared.fault.DumpFault.TheVariants.{At}
use Rattle.dump_score.specs.verdict_laws.Sound.{IsShownBy}
use Rattle.covered_cli.specs.Scoring.{IsContradictedText, IsDumpRefusal}
use Rattle.covered_cli.specs.declared.contradiction.Contradiction.{Contradiction}
use Rattle.covered_cli.specs.declared.dump_refusal.DumpRefusal.{DumpRefusal}
use Rattle.covered_cli.specs.declared.dump_refusal.DumpRefusal.TheVariants as refusal

-- ---- designs that are seen as one

-- a design by its parts
abbrev made : List ℕ → List Instance → List Signal → List Memory → List Process → List Constant → List Alias → Design
made top instances signals memories processes constants aliases = record { top = top; instances = instances; signals = signals; memories = memories; processes = processes; constants = constants; aliases = aliases }

-- they differ in their processes at most
one_beside_processes : (a b : Design) → design_view a ≡ design_view b → a ≡ made b.top b.instances b.signals b.memories a.processes b.constants b.aliases
one_beside_processes a b same =
    ap (λ x. made x a.instances a.signals a.memories a.processes a.constants a.aliases) (ap (λ d. d.top) same)
    ∙ ap (λ x. made b.top x a.signals a.memories a.processes a.constants a.aliases) (ap (λ d. d.instances) same)
    ∙ ap (λ x. made b.top b.instances x a.memories a.processes a.constants a.aliases) (ap (λ d. d.signals) same)
    ∙ ap (λ x. made b.top b.instances b.signals x a.processes a.constants a.aliases) (ap (λ d. d.memories) same)
    ∙ ap (λ x. made b.top b.instances b.signals b.memories a.processes x a.aliases) (ap (λ d. d.constants) same)
    ∙ ap (λ x. made b.top b.instances b.signals b.memories a.processes b.constants x) (ap (λ d. d.aliases) same)

-- and so are bound to the same dumps
pub same_bound : (a b : Design) (dump : Dump) (instance : List ℕ) → design_view a ≡ design_view b → IsBound a dump instance → IsBound b dump instance
same_bound a b dump instance same bound =
    let other = subst (λ d. IsBound d dump instance) (one_beside_processes a b same) bound in
    record { there = other.there; first_values = other.first_values }

-- and the same runs show them
pub same_shown : (habit : Habit) (a b : Design) (dump : Dump) (instance : List ℕ) → design_view a ≡ design_view b → (run : Run) → IsShownBy (design_view a) habit (bound_dump a dump instance) run → IsShownBy (design_view b) habit (bound_dump b dump instance) run
same_shown habit a b dump instance same run shown =
    subst (λ d. IsShownBy d habit (bound_dump b dump instance) run) same
    (subst (λ p. IsShownBy (design_view a) habit p run) (ap (λ d. bound_dump d dump instance) (one_beside_processes a b same)) shown)

-- ---- what is said of a dump

module _ (design : Design) (dump : Dump) (instance text : List ℕ) (is : IsDump text dump) where
  goes_on : (b : Body) → SaysBody text b → GoesOn b is.b
  goes_on b says = dump_goes_on text b is.b says is.ends

  same_vars : (b : Body) → SaysBody text b → dump.vars ≡ b.vars
  same_vars b says = is.vars ∙ (goes_on b says).vars

  -- a dump of which the design is bound is not refused
  pub not_refused : IsBound design dump instance → (r : DumpRefusal) → IsDumpRefusal design instance text r → ⊥
  not_refused bound (refusal.At kind byte) (inl found, binds) = fault_excludes text (At kind byte) found is.ends.means is.ends.word is.ends.stands
  not_refused bound (refusal.At kind byte) (inr ends, binds) = dump_excludes text is.b (At kind byte) is.ends ends
  not_refused bound (refusal.NoInstance path) refused =
      let some = refused.1 in
      false≢true (sym (ap (list_any (stands_in instance)) (same_vars some.0 some.1) ∙ some.2) ∙ bound.there)
  not_refused bound (refusal.NoBaseline path) refused =
      let s = refused.0 in
      let some = refused.2 in
      let lacks = some.2 in
      let further = goes_on some.0 some.1 in
      let stretches : dump.stretches ≡ stretches_of (some.0.items ++ further.more) = is.stretches ∙ ap stretches_of further.items in
      let have : HaveFirstValues (codes_of design dump.vars instance) (stretches_of (some.0.items ++ further.more)) = subst (HaveFirstValues (codes_of design dump.vars instance)) stretches bound.first_values in
      let code : code_at (codes_of design dump.vars instance) s ≡ Some lacks.code = subst (λ vars. code_at (codes_of design vars instance) s ≡ Some lacks.code) (sym (same_vars some.0 some.1)) lacks.bound in
      lacks_none_of (codes_of design dump.vars instance) some.0.items further.more s lacks.code have code lacks.second lacks.none

  -- a dump that a run shows, and what was read of it
  module _ (habit : Habit) (run : Run) (shown : IsShownBy (design_view design) habit (bound_dump design dump instance) run) (b : Body) (says : SaysBody text b) (s time : ℕ) (dumped : Vector) (computed : List (Option Bit))
      (c : IsContradicted habit design b.vars instance b.items s time dumped computed) where
    -- the whole dump says the entries before the next time, this time, and maybe more
    items : is.b.items ≡ c.ends.front ++ Time c.ends.next ∷ (goes_on b says).more
    items = (goes_on b says).items ∙ ap (λ es. es ++ (goes_on b says).more) c.ends.are ∙ append_assoc c.ends.front (Time c.ends.next ∷ []) (goes_on b says).more

    rises : Rises None (c.ends.front ++ Time c.ends.next ∷ (goes_on b says).more)
    rises = subst (Rises None) items (times_rise text is.b is.ends)

    earlier : time < c.ends.next
    earlier = c.ends.before

    shows_whole : ShowsUpTo (design_view design) (dump_with (codes_of design b.vars instance) c.ends.front c.ends.next (goes_on b says).more) run time
    shows_whole =
        subst (λ stretches. ShowsUpTo (design_view design) (dump_of (codes_of design b.vars instance) stretches) run time) (is.stretches ∙ ap stretches_of items)
        (subst (λ vars. ShowsUpTo (design_view design) (dump_of (codes_of design vars instance) dump.stretches) run time) (same_vars b says)
        (record { starts = shown.shows.starts; shows = λ t is_shown until. shown.shows.shows t is_shown }))

    shows_read : ShowsUpTo (design_view design) (dump_of (codes_of design b.vars instance) (stretches_of b.items)) run time
    shows_read =
        subst (λ es. ShowsUpTo (design_view design) (dump_of (codes_of design b.vars instance) (stretches_of es)) run time) (sym c.ends.are)
        (front (design_view design) (codes_of design b.vars instance) c.ends.front (goes_on b says).more c.ends.next (on_of_last c.ends.front c.ends.last c.ends.is_last) rises run time earlier shows_whole)

    none_contradicts : ⊥
    none_contradicts = c.refuted.contradicted run (record { is_run = shown.is_run; shows = shows_read })

  -- a dump that a run shows is not contradicted
  pub not_contradicted : (habit : Habit) (run : Run) → IsShownBy (design_view design) habit (bound_dump design dump instance) run → (x : Contradiction) → IsContradictedText habit design instance text x → ⊥
  not_contradicted habit run shown x refuted =
      let some = refuted.2 in
      none_contradicts habit run shown some.0 some.1 refuted.0 x.time x.dumped x.computed.bits some.2
