-- The first step of a stretch: the dump's values are put in, and the Assigns run, and the Combs that have acted.
use Rattle.std.specs.Prelude.{◌≡◌, ◌<◌, ◌&&◌, ◌||◌, ℕ, Bool, true, false, if◌then◌else◌, filter, List, length, map, nat_lt, replicate, slice_index_or, slice_set, Option, Some, None}
use Rattle.event_machine.specs.Cell.{Values}
use Rattle.four_state.specs.Vector.{Vector}
use Rattle.four_state.specs.declared.bit.Bit.{Bit}
use Rattle.known_state.specs.Partly.{Partly}
use Rattle.design_model.specs.Design.{Design, IsComb, is_assign, process_at, signal_at, signal_cells}
use Rattle.design_model.specs.Tree.{Process}
use Rattle.body_replay.specs.Store.{Kept}
use Rattle.body_store.specs.Made.{nothing}
use Rattle.process_order.specs.replay_model.Step.{Replay, is_comb}
use Rattle.body_store.specs.declared.store.Store.{Store}
use Rattle.settling.specs.store_knowledge.Knows.{Knows}
use Rattle.settling.specs.step_values.Dumped.{AreDumped}
use Rattle.settling.specs.step_values.Loose.{has_code}
use Rattle.settling.specs.step_values.Vectors.{FitsSignals, StepVectors, vector_at}

-- the flag of a process, false past the end
abbrev pub flag_of : List Bool → ℕ → Bool
flag_of flags p = slice_index_or flags p false

-- an Assign, or a Comb that has acted
abbrev pub is_left_by : Process → Bool → Bool
is_left_by x acted = is_assign x || (is_comb x && acted)

-- so it is with the process of this number, by its flag
abbrev pub is_left : Design → List Bool → ℕ → Bool
is_left d acted p = is_left_by (process_at d p) (flag_of acted p)

-- those among some processes of a design
abbrev pub all_left : Design → List Bool → List ℕ → List ℕ
all_left d acted ps = filter (is_left d acted) ps

-- the flags say which Combs the replay knows to have acted
abbrev pub AreActed : Design → List Bool → Replay → Type 0
AreActed d acted before = (p : ℕ) → IsComb (process_at d p) → flag_of acted p ≡ before.acted p

-- this is the first step of a stretch of a dump with these values of codes: nothing is known yet
pub record IsFirstOf (d : Design) (coded : ℕ → Bool) (new : Values Bit) (before : Replay) (codes : List (Option ℕ)) (given : List (Option Vector)) (flags : List Bool) (x : Store) : Type 0 where
  pub bound : (s : ℕ) → coded s ≡ has_code codes s
  pub dumped : AreDumped d codes given new
  pub acted : AreActed d flags before
  pub knows : Knows d nothing x

-- the same, with these bits of the signals that pass a test
abbrev pub putting_all : Design → (ℕ → Bool) → Values Bit → Kept → Kept
putting_all d test new k c = if test c.thing && nat_lt c.place (signal_at d c.thing).width then Some (new c) else k c

-- the dump's values of the signals that pass a test are put in, and nothing was made of them
pub record Puts (codes : List (Option ℕ)) (given : List (Option Vector)) (test : ℕ → Bool) (x y : Store) (v w : StepVectors) : Type 0 where
  pub fits : (d : Design) → FitsSignals d v → FitsSignals d w
  pub knows : (d : Design) (new : Values Bit) (k : Kept) → AreDumped d codes given new → Knows d k x → Knows d (putting_all d test new k) y
  pub made : (d : Design) (s : ℕ) → FitsSignals d v → s < length d.signals → test s ≡ true → (vector_at w.made s).bits ≡ map nothing (signal_cells d s)
  pub others : (s : ℕ) → test s ≡ false → vector_at w.made s ≡ vector_at v.made s

-- no bit of a signal is sure any more
abbrev pub MakesNothing : ℕ → StepVectors → StepVectors → Type 0
MakesNothing s v w = (q : Partly) × (w ≡ record v { made = slice_set v.made s q }) × (q.bits ≡ replicate (length (vector_at v.made s).bits) None)
