-- The widths of the signals of a lawful design.
use Rattle.std.proofs.Common.{◌≡◌, ◌≤◌, ◌<◌, ℕ, true, length}
use Rattle.std.proofs.lemmas.Bool.{and_parts, leb-true}
use Rattle.design_model.specs.Design.{Design, no_signal, signal_at}
use Rattle.design_model.specs.Lawful.{IsLawfulDesign, is_signal}
use Rattle.state_machines.proofs.Members.{test_at}

pub signal_bounds : (d : Design) → IsLawfulDesign d → (s : ℕ) → s < length d.signals → (1 ≤ (signal_at d s).width) × ((signal_at d s).width ≤ 128)
signal_bounds d lawful s l =
    let test : is_signal d (signal_at d s) ≡ true = test_at (is_signal d) d.signals s no_signal lawful.signals l in
    let p = and_parts _ _ (and_parts _ _ (and_parts _ _ test).0).0 in
    (leb-true 1 (signal_at d s).width (and_parts _ _ p.0).1, leb-true (signal_at d s).width 128 p.1)
