-- What is kept and what was made of the targets of a process after its run.
use Rattle.std.specs.Prelude.{◌≡◌, ◌<◌, ℕ, Bool, true, if◌then◌else◌, List, length, map, Option, None}
use Rattle.event_machine.specs.Cell.{Cell}
use Rattle.design_model.specs.Design.{Design, signal_cells}
use Rattle.step_values.specs.body_replay.KnownBits.{KnownBits}
use Rattle.step_values.specs.body_replay.Store.{Kept}
use Rattle.step_values.specs.body_store.declared.store.Store.{Store}
use Rattle.process_targets.specs.Targets.{has_bit}
use Rattle.process_targets.specs.declared.bits.Bits.{Bits}
use Rattle.step_values.specs.store_knowledge.Knows.{Knows}
use Rattle.step_values.specs.Loose.{has_code, uncoded}
use Rattle.step_values.specs.Vectors.{FitsSignals, StepVectors, vector_at}

-- what a run left, where it holds
abbrev pub holding : Bool → Kept → Kept
holding holds r c = if holds then r c else None

-- what is kept where a run left r and k was kept before it: of the signals that pass a test k, but of those of their bits that the
-- dump does not have and that pass another test what the run left, where it holds
abbrev pub returned : List (Option ℕ) → (ℕ → Bool) → (Cell → Bool) → Bool → Kept → Kept → Kept
returned codes named has holds k r c = if named c.thing then (if uncoded codes has c then holding holds r c else k c) else r c

-- what was made where m was made before: of the cells that pass a test what the run left, where it holds
abbrev pub remade : (Cell → Bool) → Bool → Kept → Kept → Kept
remade has holds r m c = if has c then holding holds r c else m c

-- these bits of a signal, of which the run left these vectors, are made anew
pub record IsMadeOf (b : Bits) (ps : KnownBits) (holds : Bool) (v w : StepVectors) : Type 0 where
  pub before : w.before ≡ v.before
  pub fits : (d : Design) → FitsSignals d v → FitsSignals d w
  pub made : (d : Design) (r m : Kept) (s : ℕ) → FitsSignals d v → s < length d.signals → ps ≡ map r (signal_cells d b.signal) → (vector_at v.made s).bits ≡ map m (signal_cells d s)
      → (vector_at w.made s).bits ≡ map (remade (has_bit b) holds r m) (signal_cells d s)

-- what was kept before a run is kept again, with what the run left; of the signals that the dump has what it left is made
pub record Returns (codes : List (Option ℕ)) (named : ℕ → Bool) (has : Cell → Bool) (is_kept is_made : Bool) (Saved : Design → Kept → Type 0) (x y : Store) (v w : StepVectors) : Type 0 where
  pub design : y.design ≡ x.design
  pub before : w.before ≡ v.before
  pub fits : (d : Design) → FitsSignals d v → FitsSignals d w
  pub knows : (d : Design) (k r : Kept) → Saved d k → Knows d r x → Knows d (returned codes named has is_kept k r) y
  pub made : (d : Design) (k r m : Kept) (s : ℕ) → Saved d k → Knows d r x → FitsSignals d v → s < length d.signals → has_code codes s ≡ true
      → (vector_at v.made s).bits ≡ map m (signal_cells d s) → (vector_at w.made s).bits ≡ map (remade has is_made r m) (signal_cells d s)
