-- The decided law for each point.
use Rattle.std.proofs.Common.{◌⊎◌, inl, inr, ⊎_elim, zero, suc}
use Rattle.design_model.specs.event_machine.Habit.{Habit}
use Rattle.design_model.specs.Tree.{Process, assign, clocked, comb}
use Rattle.design_model.specs.Design.{Design, IsClocked, process_at}
use Rattle.design_model.specs.Machine.{machine}
use Rattle.design_model.specs.declared.point.Point.{Point}
use Rattle.design_model.specs.Lawful.{IsLawfulDesign}
use Rattle.design_model.specs.DecidedLaw.{IsBlockPoint, IsDecided}
use Rattle.design_model.proofs.BlockVisits.{hit_visit, visit_hit}
use Rattle.design_model.proofs.DecidedClocked.{decided_block, no_time_hit}
use Rattle.design_model.proofs.DecidedSignals.{signal_decided_law}
use Rattle.design_model.proofs.StepLaws.{StepLaws}
use Rattle.design_model.proofs.Stretches.{no_window_at}
use Rattle.model_laws.specs.Decided.{DecidedLaw}
use Rattle.model_laws.proofs.DecidedBlocks.{settled_block}

clocked_or : (x : Process) → IsClocked x ⊎ (IsClocked x → ⊥)
clocked_or (assign i y t c) = inr (λ k. k)
clocked_or (comb i wakes s) = inr (λ k. k)
clocked_or (clocked i events s) = inl tt

block_decided : (d : Design) (h : Habit) → IsLawfulDesign d → StepLaws (machine d) h → (x : Point) → IsBlockPoint d x → IsDecided d h x
block_decided d h lawful laws x point dump r q fits r_run q_run r_shows q_shows zero window none hit other = no_window_at dump.stretches window
block_decided d h lawful laws x point dump r q fits r_run q_run r_shows q_shows (suc t) window none (inr a) other = no_time_hit d x point r (suc t) a.1
block_decided d h lawful laws x point dump r q fits r_run q_run r_shows q_shows (suc t) window none (inl k) other =
    let o = hit_visit d r k.0 x point k.2 in
    ⊎_elim
    (λ is_clocked. decided_block d lawful h laws x dump fits t window none r q r_run q_run r_shows q_shows o.process is_clocked o.is_block k.0 k.1 o.visit o.is o.visits (λ kq at visits. other (inl (kq, at, visit_hit d q kq x o.process o.visit o.is_block o.is visits))))
    (λ not_clocked. settled_block d lawful h laws x dump fits t window none r q r_run q_run r_shows q_shows o.process not_clocked o.is_block k.0 k.1 o.visit o.is o.visits (λ kq at visits. other (inl (kq, at, visit_hit d q kq x o.process o.visit o.is_block o.is visits))))
    (clocked_or (process_at d o.process))

pub decided_law : (d : Design) (h : Habit) → IsLawfulDesign d → StepLaws (machine d) h → DecidedLaw d h
decided_law d h lawful laws x (inl signal) = signal_decided_law d h lawful laws x signal
decided_law d h lawful laws x (inr block) = block_decided d h lawful laws x block
