-- The loop has one path.
use Rattle.std.proofs.Common.{◌≡◌, ⊎_elim, refl, subst, false, inl, inr, [], ◌∷◌}
use Rattle.event_machine.specs.Cell.{put}
use Rattle.four_state.specs.declared.bit.Bit.{Bit}
use Rattle.design_model.specs.Design.{a_signal, body_at}
use Rattle.design_model.specs.Clear.{bits_after}
use Rattle.design_model.specs.Execution.{at_line, execution, reads}
use Rattle.design_model.specs.Paths.{reaches}
use Rattle.design_model.specs.Open.{HasAction}
use Rattle.worked_examples.specs.Design.Reverse.{IsReverseExample, reverse, reverse_values}

is_visits : (low high : Bit) → (execution reverse (body_at reverse 0) (reverse_values low high)).visits ≡ at_line 1 ∷ at_line 2 ∷ reads (a_signal 0) false ∷ at_line 2 ∷ reads (a_signal 0) false ∷ []
is_visits low high = refl

is_reversed : (low high : Bit) → bits_after reverse (reverse_values low high) (execution reverse (body_at reverse 0) (reverse_values low high)).blocking (a_signal 1) ≡ high ∷ low ∷ []
unfolding put
is_reversed low high = refl

pub reverse_example : IsReverseExample
reverse_example =
    record {
      visits = is_visits;
      reversed = is_reversed;
      whole = refl;
      loop_sure = ([], λ path o. ⊎_elim (λ e. subst (HasAction (λ x. x ≡ reaches 1) []) e (_, inl refl, refl, refl)) (λ n. absurd n) o.is_path);
      turn_sure = (0 ∷ [], λ path o. ⊎_elim (λ e. subst (HasAction (λ x. x ≡ reaches 2) (0 ∷ [])) e (_, inr (inl refl), refl, refl)) (λ n. absurd n) o.is_path);
    }
