use Rattle.std.proofs.Common.{◌≡◌, ℕ, ◌<◌, length, map, subst, sym}
use Rattle.std.specs.Prelude.{slice_set}
use Rattle.design_model.specs.Design.{Design, signal_cells}
use Rattle.store_knowledge.specs.body_replay.Store.{Kept}
use Rattle.process_targets.specs.Targets.{has_bit}
use Rattle.step_values.specs.Loose.{forgetting}
use Rattle.step_values.specs.Vectors.{FitsSignals, StepVectors, vector_at}
use Rattle.step_values.proofs.Bits.{forget_made_is}
use Rattle.step_values.proofs.values.StepValues.forget_made.Goals as goal

pub returns-clause-made : goal.returns-clause-made
returns-clause-made c =
    let v : StepVectors = record { before = c.self.inside.before.items; made = c.self.inside.made.items } in
    let place : c.args.bits.now.signal < length v.made = subst (λ (u : StepVectors). c.args.bits.now.signal < length u.made) (sym c.self.view_is) c.requires.place in
    subst (λ (u : StepVectors). (d : Design) (m : Kept) (s : ℕ) → FitsSignals d u → s < length d.signals → (vector_at u.made s).bits ≡ map m (signal_cells d s) → (vector_at (slice_set c.self.inside.made.items c.args.bits.now.signal c.forgotten.result) s).bits ≡ map (forgetting (has_bit c.args.bits.now) m) (signal_cells d s)) c.self.view_is
    (λ d m s fits l old. (forget_made_is d v c.args.bits.now c.index.result.now c.forgotten.result fits place c.index.ensures c.forgotten.ensures.width c.forgotten.ensures.bits).1 m s l old)
