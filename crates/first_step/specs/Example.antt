-- An example of what runs in the first step, and of what is put in.
use Rattle.std.specs.Prelude.{◌≡◌, ◌∷◌, [], true, Some, None}
use Rattle.four_state.specs.declared.bit.Bit.TheVariants.{One, X, Zero}
use Rattle.design_model.specs.Design.{cell}
use Rattle.design_model.specs.FlipFlop.{flip_flop}
use Rattle.design_model.specs.Gate.{gate, gate_dump, gate_values}
use Rattle.design_model.specs.Pipe.{pipe}
use Rattle.body_replay.specs.Store.{Kept}
use Rattle.body_store.specs.Made.{nothing}
use Rattle.first_step.specs.Begun.{all_left, putting_all}

-- of the gate the dump has a, which is 0, and b, which is 1
abbrev pub gate_kept : Kept
gate_kept = putting_all gate gate_dump.bound (gate_values Zero One X) nothing

-- the assignment of the gate runs, the block of the register does not, and of the pipe the Comb does once it has acted
pub record IsFirstExample : Type 0 where
  pub net : all_left gate [] (0 ∷ []) ≡ 0 ∷ []
  pub register : all_left flip_flop [] (0 ∷ []) ≡ []
  pub acted : all_left pipe (true ∷ []) (0 ∷ 1 ∷ []) ≡ 0 ∷ []
  pub before : all_left pipe [] (0 ∷ 1 ∷ []) ≡ []
  pub a : gate_kept (cell 0 0) ≡ Some Zero
  pub b : gate_kept (cell 1 0) ≡ Some One
  pub y : gate_kept (cell 2 0) ≡ None
  pub past : gate_kept (cell 0 1) ≡ None
