-- What is known of the bits of a signal before a step.
use Rattle.std.proofs.Common.{◌≡◌, ◌∙◌, ℕ, suc, Bool, true, false, if◌then◌else◌, List, [], ◌∷◌, Option, length, map, refl, sym, ap, arith}
use Rattle.event_machine.specs.Cell.{Cell}
use Rattle.four_state.specs.declared.bit.Bit.{Bit}
use Rattle.known_state.specs.Join.{join_bit, joined}
use Rattle.design_model.specs.Design.{signal_cells}
use Rattle.store_knowledge.specs.body_replay.Store.{Kept}
use Rattle.replay_steps.specs.replay_model.Step.{Closing, all_run, before_of, known_bits}
use Rattle.step_values.specs.Vectors.{bits_before}

-- the join of two lists of one length is as long
joined_length : (ps qs : List (Option Bit)) → length ps ≡ length qs → length (joined ps qs) ≡ length ps
joined_length [] qs e = refl
joined_length (p ∷ ps) [] e = absurd (let none : suc (length ps) ≡ 0 = e in omega (arith, none))
joined_length (p ∷ ps) (q ∷ qs) e = ap suc (joined_length ps qs (let less : length ps ≡ length qs = omega (arith, e) in less))

pub before_length : (listed : Bool) (ps qs : List (Option Bit)) → length ps ≡ length qs → length (bits_before listed ps qs) ≡ length ps
before_length true ps qs e = refl
before_length false ps qs e = joined_length ps qs e

-- the join of what is known of the same cells is what both know of each
joined_map : (k l : Kept) (cs : List Cell) → joined (map k cs) (map l cs) ≡ map (λ c. join_bit (k c) (l c)) cs
joined_map k l [] = refl
joined_map k l (c ∷ cs) = ap (λ ps. join_bit (k c) (l c) ∷ ps) (joined_map k l cs)

-- so these bits are what is known before the step
pub before_bits : (st : Closing) (s : ℕ) (listed : Bool) → st.listed ≡ listed → bits_before listed (known_bits st.design st.start.kept s) (known_bits st.design (all_run st).kept s) ≡ known_bits st.design (before_of st) s
before_bits st s true e = ap (λ b. map (λ c. if b then st.start.kept c else join_bit (st.start.kept c) ((all_run st).kept c)) (signal_cells st.design s)) (sym e)
before_bits st s false e =
    joined_map st.start.kept (all_run st).kept (signal_cells st.design s)
    ∙ ap (λ b. map (λ c. if b then st.start.kept c else join_bit (st.start.kept c) ((all_run st).kept c)) (signal_cells st.design s)) (sym e)
