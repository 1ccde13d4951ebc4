-- The parts of the code with which the first run of a stretch begins.
use Rattle.std.proofs.Common.{◌≡◌, ◌∙◌, ℕ, ◌<◌, ◌&&◌, Bool, true, false, if◌then◌else◌, List, Option, Some, None, refl, sym, ap, subst, arith}
use Rattle.std.specs.Prelude.{nat_lt}
use Rattle.std.proofs.Math.Path.{fun_ext}
use Rattle.std.proofs.lemmas.Bool.Decides.{nat_tests}
use Rattle.event_machine.specs.Cell.{Values}
use Rattle.four_state.specs.Vector.{Vector}
use Rattle.four_state.specs.declared.bit.Bit.{Bit}
use Rattle.design_model.specs.Design.{Design, signal_at}
use Rattle.body_replay.specs.Runs.{runs_of}
use Rattle.body_store.specs.Made.{nothing}
use Rattle.body_store.specs.declared.store.Store.{Store}
use Rattle.process_order.specs.replay_model.Start.{Starting, all_first, first_kept, run_all_first}
use Rattle.process_order.specs.replay_model.Step.{Replay}
use Rattle.process_order.specs.replay_model.Tables.{Tables}
use Rattle.settling.specs.store_knowledge.Knows.{Knows}
use Rattle.settling.specs.step_values.Loose.{has_code}
use Rattle.settling.specs.step_values.Vectors.{FitsSignals, StepVectors}
use Rattle.settling.specs.First.{AtFirst}
use Rattle.first_step.specs.Begun.{IsFirstOf, Puts}

module _ (d : Design) (bound : ℕ → Bool) (tables : Tables) (new : Values Bit) (before : Replay) (codes : List (Option ℕ)) (given : List (Option Vector)) (acted : List Bool) (x y : Store) (v w : StepVectors) (n : ℕ)
    (first : IsFirstOf d bound new before codes given acted x) (below : (s : ℕ) → has_code codes s ≡ true → s < n) (fits : FitsSignals d v) (puts : Puts codes given (λ s. has_code codes s && nat_lt s n) x y v w) where
  -- what is kept and what was made before the first run
  abbrev pub begun : Starting
  begun = record { kept = first_kept d bound (runs_of d) tables new before; made = λ c. None }

  all_coded : (s : ℕ) → (has_code codes s && nat_lt s n) ≡ bound s
  all_coded s = go (has_code codes s) refl ∙ sym (first.bound s)
    where
      go : (b : Bool) → has_code codes s ≡ b → (b && nat_lt s n) ≡ b
      go true e = let l = below s e in grind (arith, nat_tests, l)
      go false e = refl

  pub starts : AtFirst d bound begun y w
  starts = record {
    knows = subst (λ k. Knows d k y) (fun_ext (λ c. ap (λ t. if t && nat_lt c.place (signal_at d c.thing).width then Some (new c) else None) (all_coded c.thing))) (puts.knows d new nothing first.dumped first.knows);
    fits = puts.fits d fits;
    made = λ s l b. puts.made d s fits l (all_coded s ∙ b);
  }

  -- and after both runs over the lists of the tables
  pub ended : (order last : List ℕ) (y₁ y₂ : Store) (w₁ w₂ : StepVectors) → order ≡ tables.order → last ≡ tables.last
      → ((a : Starting) → AtFirst d bound a y w → AtFirst d bound (run_all_first d bound (runs_of d) tables new before true order a) y₁ w₁)
      → ((a : Starting) → AtFirst d bound a y₁ w₁ → AtFirst d bound (run_all_first d bound (runs_of d) tables new before false last a) y₂ w₂)
      → AtFirst d bound (all_first d bound (runs_of d) tables new before) y₂ w₂
  ended order last y₁ y₂ w₁ w₂ orders lasts one other =
      subst (λ ps. AtFirst d bound (run_all_first d bound (runs_of d) tables new before false ps (run_all_first d bound (runs_of d) tables new before true tables.order begun)) y₂ w₂) lasts
      (other (run_all_first d bound (runs_of d) tables new before true tables.order begun)
      (subst (λ ps. AtFirst d bound (run_all_first d bound (runs_of d) tables new before true ps begun) y₁ w₁) orders (one begun starts)))
