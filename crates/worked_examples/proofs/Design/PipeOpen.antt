-- At 5 both operands of the gate are known to be 1.
use Rattle.std.proofs.Common.{◌≡◌, refl, sym, ap, subst, ℕ, zero, suc, false, true, [], ◌∷◌, inl, inr, arith, lit<, lit≤, Some}
use Rattle.std.specs.Prelude.{nat_le, nat_lt}
use Rattle.std.proofs.lemmas.Bool.{and_parts, eqb-true, false≢true, leb-true, ltb-true}
use Rattle.event_machine.specs.Cell.{Values}
use Rattle.event_machine.specs.Habit.{Free}
use Rattle.four_state.specs.Vector.{extend, truth}
use Rattle.four_state.specs.declared.bit.Bit.{Bit}
use Rattle.four_state.specs.declared.bit.Bit.TheVariants.{One, X, Zero}
use Rattle.four_state.specs.declared.operator.Binary.TheVariants.{BitwiseAnd}
use Rattle.four_state.specs.declared.truth.Truth.TheVariants.{True}
use Rattle.design_model.specs.Tree.{Term, binary, signal}
use Rattle.design_model.specs.Design.{In, IsThing, a_signal, a_word, body_at, cell}
use Rattle.design_model.specs.Value.{head, value}
use Rattle.design_model.specs.Mentions.{body_blocks, mentions}
use Rattle.point_words.specs.declared.node_case.NodeCase.TheVariants.{BothTrue, RightFalse}
use Rattle.design_model.specs.Reads.{Agrees, PartialMap}
use Rattle.design_model.specs.Clear.{of_dump}
use Rattle.design_model.specs.Open.{IsFixed, IsOpen, IsSurelyOpen, KnownAtEnd, MayBeAsked, asks}
use Rattle.design_model.specs.ExampleParts.{at, counted, plain}
use Rattle.design_model.specs.Pipe.{pipe, pipe_dump, pipe_values}
use Rattle.design_model.proofs.Bound.{clear-thing, clear_bound}
use Rattle.worked_examples.specs.Design.PipePoints.{IsPipePointsExample}
use Rattle.worked_examples.specs.Design.Settling.{case_of}
use Rattle.worked_examples.proofs.Design.OneSet.{node_met, node_sure}
use Rattle.worked_examples.proofs.Design.Parts.{False≢True, Zero≢One, none_some}

no_words : (m i : ℕ) → IsThing pipe (a_word m i) → ⊥
no_words m i h = let p = and_parts (nat_le 5 m) (nat_lt m 5) h.0 in omega (arith, leb-true 5 m p.0, ltb-true m 5 p.1)

agrees : Agrees pipe (KnownAtEnd pipe Free pipe_dump 5 0) (pipe_values Zero One One X X)
agrees (a_signal zero) bits k = sym (clear_bound pipe Free pipe_dump 5 0 bits k.1 refl)
agrees (a_signal (suc zero)) bits k = sym (clear_bound pipe Free pipe_dump 5 1 bits k.1 refl)
agrees (a_signal (suc (suc zero))) bits k = sym (clear_bound pipe Free pipe_dump 5 2 bits k.1 refl)
agrees (a_signal (suc (suc (suc zero)))) bits k = sym (clear_bound pipe Free pipe_dump 5 3 bits k.1 refl)
agrees (a_signal (suc (suc (suc (suc zero))))) bits k = absurd (false≢true (sym k.0))
agrees (a_signal (suc (suc (suc (suc (suc s)))))) bits k = absurd (omega (arith, clear-thing pipe Free pipe_dump 5 (a_signal (suc (suc (suc (suc (suc s)))))) bits k.1))
agrees (a_word m i) bits k = absurd (no_words m i (clear-thing pipe Free pipe_dump 5 (a_word m i) bits k.1))

abbrev K : PartialMap
K = KnownAtEnd pipe Free pipe_dump 5 0

abbrev gate : Term
gate = binary (counted 1) BitwiseAnd (signal plain 1) (signal plain 2)

knows_a : KnownAtEnd pipe Free pipe_dump 5 0 (a_signal 1) (One ∷ [])
knows_a = (refl, (1, of_dump 1 (One ∷ []) (lit≤ tt, lit< tt) refl (lit< tt) refl))

knows_b : KnownAtEnd pipe Free pipe_dump 5 0 (a_signal 2) (One ∷ [])
knows_b = (refl, (1, of_dump 2 (One ∷ []) (lit≤ tt, lit< tt) refl (lit< tt) refl))

fixed_a : IsFixed pipe (KnownAtEnd pipe Free pipe_dump 5 0) (body_at pipe 0) (signal plain 1)
fixed_a = record { within = λ v a. ((One ∷ [], knows_a), tt); unwritten = unwritten }
  where
    unwritten : (x : ℕ) → mentions x (signal plain 1) ≡ true → body_blocks x (body_at pipe 0) ≡ false
    unwritten x m = subst (λ y. body_blocks y (body_at pipe 0) ≡ false) (eqb-true 1 x m) refl

fixed_b : IsFixed pipe (KnownAtEnd pipe Free pipe_dump 5 0) (body_at pipe 0) (signal plain 2)
fixed_b = record { within = λ v a. ((One ∷ [], knows_b), tt); unwritten = unwritten }
  where
    unwritten : (x : ℕ) → mentions x (signal plain 2) ≡ true → body_blocks x (body_at pipe 0) ≡ false
    unwritten x m = subst (λ y. body_blocks y (body_at pipe 0) ≡ false) (eqb-true 2 x m) refl

a_is : (v : Values Bit) → Agrees pipe (KnownAtEnd pipe Free pipe_dump 5 0) v → truth (value pipe v (signal plain 1)) ≡ True
a_is v av = ap (λ bs. truth (extend 1 false bs)) (av (a_signal 1) (One ∷ []) knows_a)

b_is : (v : Values Bit) → Agrees pipe (KnownAtEnd pipe Free pipe_dump 5 0) v → truth (value pipe v (signal plain 2)) ≡ True
b_is v av = ap (λ bs. truth (extend 1 false bs)) (av (a_signal 2) (One ∷ []) knows_b)

both_sure : IsSurelyOpen pipe (KnownAtEnd pipe Free pipe_dump 5 0) (body_at pipe 0) (case_of BothTrue)
both_sure = (gate, inr (inr (inl refl)), (fixed_a, a_is, (fixed_b, b_is, tt)), node_sure pipe K (at 13) 1 true 4 gate 1 gate (inl refl) refl)

right_closed : IsOpen pipe (KnownAtEnd pipe Free pipe_dump 5 0) (body_at pipe 0) (case_of RightFalse) → ⊥
right_closed h = go (node_met pipe K (at 13) 1 true 4 gate 1 (λ u. MayBeAsked pipe K (body_at pipe 0) (asks RightFalse u)) h)
  where
    asked_false : (u : Term) → gate ≡ u → MayBeAsked pipe K (body_at pipe 0) (asks RightFalse u) → ⊥
    asked_false u e m =
        let f = subst (λ z. MayBeAsked pipe K (body_at pipe 0) (asks RightFalse z)) (sym e) m in
        False≢True (sym (f.0 fixed_b (pipe_values Zero One One X X) agrees))

    go : ((u : Term) × In u (gate ∷ signal plain 1 ∷ signal plain 2 ∷ []) × ((head u).node ≡ Some 1) × MayBeAsked pipe K (body_at pipe 0) (asks RightFalse u)) → ⊥
    go (u, inl e, node, m) = asked_false u e m
    go (u, inr (inl e), node, m) = none_some 1 (subst (λ z. (head z).node ≡ Some 1) (sym e) node)
    go (u, inr (inr (inl e)), node, m) = none_some 1 (subst (λ z. (head z).node ≡ Some 1) (sym e) node)
    go (u, inr (inr (inr none)), node, m) = none

pub pipe_points_example : IsPipePointsExample
pipe_points_example =
    record {
      surely_open = both_sure;
      reached = ((lit< tt, lit< tt), refl, inr ((λ c. c), (cell 1 0, (lit< tt, lit< tt, (refl, refl)), refl, Zero≢One), inr both_sure));
      not_open = right_closed;
    }
