-- The laws for the dump of a text.
use Rattle.std.proofs.Common.{ℕ, List, sym, subst}
use Rattle.design_model.specs.Shows.{BindsSignals, IsDumpOf}
use Rattle.design_model.specs.StillLaw.{BindsInputs}
use Rattle.design_model.specs.View.{design_view}
use Rattle.design_model.specs.declared.design.Design.{Design}
use Rattle.hidden_times.specs.Hidden.{IsAnyDumpOf}
use Rattle.shown_dumps.proofs.Dumps.{coded_signal, is_dump}
use Rattle.shown_dumps.specs.Shown.{bound_dump, dump_of}
use Rattle.signal_binding.specs.Binding.{codes_of}
use Rattle.vcd_reader.proofs.RisingTimes.{times_rise}
use Rattle.vcd_reader.specs.Dump.{Dump, IsDump}
use Rattle.design_model.specs.RoundLaws.{read_by}
use Rattle.input_laws.specs.Exact.{ExactLaw}
use Rattle.input_laws.specs.Shown.{NoContradictionLaw, ShownLaw}
use Rattle.input_laws.proofs.Exact.{exact_table, never_contradicted, some_shown}

binds_signals : (design : Design) (dump : Dump) (instance : List ℕ) → BindsSignals (design_view design) (bound_dump design dump instance)
binds_signals design dump instance s bound = coded_signal design dump.vars instance s bound

pub shown_law : ShownLaw
shown_law design dump instance inputs order = some_shown (design_view design) inputs (bound_dump design dump instance) (binds_signals design dump instance) order

pub no_contradiction_law : NoContradictionLaw
no_contradiction_law design dump instance t inputs order refuted = never_contradicted (design_view design) inputs (bound_dump design dump instance) (binds_signals design dump instance) order t refuted

-- the dump of a text in which the inputs are bound is one of the design
dump_is : (design : Design) (text instance : List ℕ) (dump : Dump) → IsDump text dump → BindsInputs (design_view design) (bound_dump design dump instance) → IsDumpOf (design_view design) (bound_dump design dump instance)
dump_is design text instance dump is inputs =
    let any : IsAnyDumpOf (design_view design) (bound_dump design dump instance) =
    subst (λ stretches. IsAnyDumpOf (design_view design) (dump_of (codes_of design dump.vars instance) stretches)) (sym is.stretches) (is_dump design dump.vars instance is.b.items (times_rise text is.b is.ends)) in
    record { rising = any.rising; signals = any.signals; inputs = inputs; stays = any.stays }

pub exact_law : ExactLaw
exact_law design text instance dump db inputs lawful is bound listed sound reasoned = λ rounds by_last.
    let said = bound_dump design dump instance in
    let fits = dump_is design text instance dump is bound in
    let read : IsDumpOf (design_view design) (read_by said rounds) = record { rising = fits.rising; signals = fits.signals; inputs = fits.inputs; stays = fits.stays } in
    exact_table (design_view design) lawful inputs (read_by said rounds) read db listed (sound rounds by_last) (reasoned rounds by_last)
