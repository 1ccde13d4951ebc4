-- What was made of the signals that are checked is as wide as what the dump says.
use Rattle.std.proofs.Common.{◌∙◌, ◌<◌, ℕ, List, length, get_or, Option, sym, ap, arith}
use Rattle.std.specs.Prelude.{flat_map}
use Rattle.std.specs.List.{All, Contains}
use Rattle.std.proofs.lemmas.List.{get_or_default}
use Rattle.std.proofs.lemmas.List.Elements.{All-from_get_or}
use Rattle.event_machine.specs.Cell.{Values}
use Rattle.four_state.specs.Vector.{Vector}
use Rattle.four_state.specs.declared.bit.Bit.{Bit}
use Rattle.known_state.specs.Partly.{Partly}
use Rattle.design_model.specs.Design.{Design}
use Rattle.dump_check.specs.Checks.{FitsAt, last_of_each, no_value as nothing_made}
use Rattle.index_sets.specs.Rows.{row_at}
use Rattle.step_changes.proofs.process_order.Distinct.{contains_in, in_contains}
use Rattle.step_changes.specs.step_values.Dumped.{AreDumped}
use Rattle.step_changes.specs.step_values.Vectors.{FitsSignals, StepVectors}
use Rattle.step_changes.proofs.step_values.Dumps.{bits_in, said_width}
use Rattle.step_changes.specs.value_store.Signals.{no_value}
use Rattle.step_check.proofs.Lists.{flat_in, last_in}

fit : (d : Design) (new : Values Bit) (codes : List (Option ℕ)) (last : List (Option Vector)) (v : StepVectors) (s : ℕ) → FitsSignals d v → AreDumped d codes last new → s < length d.signals → FitsAt codes last v.made s
fit d new codes last v s fits dumped l =
    let count = fits.made.count in
    let listed : s < length v.made = omega (arith, l, count) in
    record {
      listed = listed;
      wide = λ code w is has.
          let said = dumped s code is in
          ap (λ (q : Partly). length q.bits) (get_or_default v.made s nothing_made no_value listed) ∙ fits.made.width s l ∙ sym (said_width d new s w.bits (ap bits_in (sym has ∙ said.1) ∙ said.2));
    }

pub all_fit : (d : Design) (new : Values Bit) (codes : List (Option ℕ)) (last : List (Option Vector)) (v : StepVectors) (checks : List (List ℕ)) (ran : List ℕ) → FitsSignals d v → AreDumped d codes last new
    → ((p s : ℕ) → Contains (row_at checks p) s → s < length d.signals) → All (FitsAt codes last v.made) (last_of_each (flat_map (row_at checks) ran))
all_fit d new codes last v checks ran fits dumped below =
    let order = last_of_each (flat_map (row_at checks) ran) in
    All-from_get_or (FitsAt codes last v.made) order 0 (λ i l.
    let s = get_or order i 0 in
    let listed = contains_in s order (i, l, sym (get_or_default order i 0 s l)) in
    let p = flat_in (row_at checks) ran s (last_in (flat_map (row_at checks) ran) s listed) in
    fit d new codes last v s fits dumped (below p.0 s (in_contains s (row_at checks p.0) p.2)))
