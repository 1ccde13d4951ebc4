-- At a hidden time no block is clean, and no point is reached.
use Rattle.std.proofs.Common.{◌≡◌, ⊎_elim, ◌-◌, true, sym, ap, subst}
use Rattle.std.proofs.lemmas.Bool.{both_ways}
use Rattle.event_machine.specs.Habit.{Habit}
use Rattle.event_machine.specs.Machine.{Edge as MachineEdge}
use Rattle.design_model.specs.Design.{Design}
use Rattle.design_model.specs.Lawful.{IsLawfulDesign}
use Rattle.design_model.specs.Machine.{machine}
use Rattle.design_model.proofs.Assigns.{machine_lawful}
use Rattle.hidden_times.specs.Laws.{NoCleanLaw, NoReachLaw}
use Rattle.hidden_times.proofs.Values.{stay_at}

pub no_clean_law : (d : Design) → IsLawfulDesign d → NoCleanLaw d
no_clean_law d lawful dump any t window unlisted p c clean =
    let e : MachineEdge = clean.can_wake.0.0 in
    let same : dump.values (t - 1) c ≡ dump.values t c = ap (λ f. f c) (sym (stay_at dump any.stays t window unlisted)) in
    let goes : (machine d).is_edge e (dump.values (t - 1) c) (dump.values t c) ≡ true = clean.can_wake.0.2 clean.is_single in
    both_ways _ ((machine_lawful d lawful).edge_changes e (dump.values t c)) (subst (λ b. (machine d).is_edge e b (dump.values t c) ≡ true) same goes)

pub no_reach_law : (d : Design) (h : Habit) → IsLawfulDesign d → NoReachLaw d h
no_reach_law d h lawful dump any t window unlisted p x reached =
    ⊎_elim (λ k. no_clean_law d lawful dump any t window unlisted p k.0 k.1) (λ k. k.1.3 (ap (λ f. f k.1.0) (sym (stay_at dump any.stays t window unlisted)))) reached.2
