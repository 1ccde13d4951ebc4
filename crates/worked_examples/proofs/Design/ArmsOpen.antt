-- The six paths through the body, of which two are open.
use Rattle.std.proofs.Common.{◌≡◌, ⊎_elim, refl, sym, ap, subst, ◌∙◌, inl, inr, ℕ, false, [], ◌∷◌}
use Rattle.std.specs.Prelude.{slice_index_or}
use Rattle.std.specs.List.{list_any}
use Rattle.std.proofs.lemmas.Bool.{both_ways, false≢true}
use Rattle.event_machine.specs.Cell.{Values}
use Rattle.four_state.specs.Operators.{matches}
use Rattle.four_state.specs.Vector.{extend, truth}
use Rattle.four_state.specs.declared.bit.Bit.{Bit}
use Rattle.four_state.specs.declared.bit.Bit.TheVariants.{One, X, Zero}
use Rattle.four_state.specs.declared.operator.CaseKind.TheVariants.{Exact}
use Rattle.design_model.specs.Tree.{signal}
use Rattle.design_model.specs.Design.{In, a_signal, body_at, thing_bits}
use Rattle.design_model.specs.Execution.{cases}
use Rattle.design_model.specs.Value.{value}
use Rattle.design_model.specs.Paths.{Path, paths, reaches}
use Rattle.design_model.specs.Reads.{Agrees, HasValue}
use Rattle.design_model.specs.Open.{FollowsAll, HasAction, IsFixed, IsOpen, IsOpenPath, is_true}
use Rattle.design_model.specs.ExampleParts.{counted, wide}
use Rattle.worked_examples.specs.Design.Arms.{IsArmsExample, controller, in_run, line, two}
use Rattle.worked_examples.proofs.Design.PathSteps.{is_reaching, node_inside, reaching_found}

-- a state with these values
a_state : Values Bit
a_state c = slice_index_or (slice_index_or ((X ∷ []) ∷ (Zero ∷ []) ∷ (X ∷ []) ∷ (One ∷ Zero ∷ []) ∷ []) c.thing []) c.place X

agrees : Agrees controller in_run a_state
unfolding a_state
agrees x bits (inl k) = subst (λ z. thing_bits controller a_state z ≡ bits) (sym k.0) (sym k.1)
agrees x bits (inr k) = subst (λ z. thing_bits controller a_state z ≡ bits) (sym k.0) (sym k.1)

has_rst : HasValue in_run (a_signal 1)
has_rst = (Zero ∷ [], inl (refl, refl))

has_st : HasValue in_run (a_signal 3)
has_st = (One ∷ Zero ∷ [], inr (refl, refl))

-- the test of rst, the selector and the labels are fixed
fixed_rst : IsFixed controller in_run (body_at controller 0) (signal (counted 1) 1)
fixed_rst = record { within = λ v a. (has_rst, node_inside in_run (counted 1).node (cases controller v (signal (counted 1) 1))); unwritten = λ x m. refl }

fixed_st : IsFixed controller in_run (body_at controller 0) (signal wide 3)
fixed_st = record { within = λ v a. (has_st, tt); unwritten = λ x m. refl }

fixed_two : (low high : Bit) → IsFixed controller in_run (body_at controller 0) (two low high)
fixed_two low high = record { within = λ v a. tt; unwritten = λ x m. refl }

rst_is : (w : Values Bit) → Agrees controller in_run w → value controller w (signal (counted 1) 1) ≡ Zero ∷ []
rst_is w aw = ap (extend 1 false) (aw (a_signal 1) (Zero ∷ []) (inl (refl, refl)))

st_is : (w : Values Bit) → Agrees controller in_run w → value controller w (signal wide 3) ≡ One ∷ Zero ∷ []
st_is w aw = ap (extend 2 false) (aw (a_signal 3) (One ∷ Zero ∷ []) (inr (refl, refl)))

abbrev path_at : ℕ → Path
path_at n = slice_index_or (paths [] (body_at controller 0)) n []

abbrev Follows : ℕ → Type 0
Follows n = FollowsAll controller in_run (body_at controller 0) (path_at n)

-- the reset, the first arm and the default are closed
closed_reset : Follows 0 → ⊥
closed_reset f = false≢true (sym (ap (λ z. is_true (truth z)) (rst_is a_state agrees)) ∙ f.1.0 fixed_rst a_state agrees)

closed_first : Follows 1 → ⊥
closed_first f = false≢true (sym (ap (λ z. matches Exact z (Zero ∷ Zero ∷ [])) (st_is a_state agrees)) ∙ f.1.1.1.1.0 fixed_st (fixed_two Zero Zero) a_state agrees)

closed_second : Follows 2 → ⊥
closed_second f = false≢true (sym (ap (λ z. matches Exact z (Zero ∷ Zero ∷ [])) (st_is a_state agrees)) ∙ f.1.1.1.1.0 fixed_st (fixed_two Zero Zero) a_state agrees)

closed_default : Follows 5 → ⊥
closed_default f = false≢true (sym (f.1.1.1.1.1.0 fixed_st (fixed_two One Zero) a_state agrees) ∙ ap (λ z. matches Exact z (One ∷ Zero ∷ [])) (st_is a_state agrees))

-- last is not known
not_last : HasValue in_run (a_signal 5) → ⊥
not_last h = ⊎_elim (λ k. apart_one k.0) (λ k. apart_three k.0) h.1
  where
    apart_one : a_signal 5 ≡ a_signal 1 → ⊥
    apart_one e = cc

    apart_three : a_signal 5 ≡ a_signal 3 → ⊥
    apart_three e = cc

-- the two ways through the arm that matches are open
follows_three : Follows 3
follows_three =
    (tt, ((λ f w aw. ap (λ z. is_true (truth z)) (rst_is w aw)), (tt, (tt, ((λ f g w aw. ap (λ z. matches Exact z (Zero ∷ Zero ∷ [])) (st_is w aw)), ((λ f g w aw. ap (λ z. matches Exact z (One ∷ Zero ∷ [])) (st_is w aw)), (tt, (tt, (tt, ((λ f w aw. absurd (not_last (f.within a_state agrees).0)), (tt, (tt, tt))))))))))))

follows_four : Follows 4
follows_four =
    (tt, ((λ f w aw. ap (λ z. is_true (truth z)) (rst_is w aw)), (tt, (tt, ((λ f g w aw. ap (λ z. matches Exact z (Zero ∷ Zero ∷ [])) (st_is w aw)), ((λ f g w aw. ap (λ z. matches Exact z (One ∷ Zero ∷ [])) (st_is w aw)), (tt, (tt, (tt, ((λ f w aw. absurd (not_last (f.within a_state agrees).0)), tt))))))))))

-- an open path is one of the two
one_of_two : (P : Path → Type 0) → P (path_at 3) → P (path_at 4) → (path : Path) → IsOpenPath controller in_run (body_at controller 0) path → P path
one_of_two P three four path o = go o.is_path o.follows
  where
    go : In path (paths [] (body_at controller 0)) → FollowsAll controller in_run (body_at controller 0) path → P path
    go (inl e) f = absurd (closed_reset (subst (FollowsAll controller in_run (body_at controller 0)) (sym e) f))
    go (inr (inl e)) f = absurd (closed_first (subst (FollowsAll controller in_run (body_at controller 0)) (sym e) f))
    go (inr (inr (inl e))) f = absurd (closed_second (subst (FollowsAll controller in_run (body_at controller 0)) (sym e) f))
    go (inr (inr (inr (inl e)))) f = subst P e three
    go (inr (inr (inr (inr (inl e))))) f = subst P e four
    go (inr (inr (inr (inr (inr (inl e)))))) f = absurd (closed_default (subst (FollowsAll controller in_run (body_at controller 0)) (sym e) f))
    go (inr (inr (inr (inr (inr (inr n)))))) f = absurd n

-- a line that neither of them reaches is not open
not_open : (n : ℕ) → list_any (λ y. is_reaching n y.action) (path_at 3) ≡ false → list_any (λ y. is_reaching n y.action) (path_at 4) ≡ false → IsOpen controller in_run (body_at controller 0) (line n) → ⊥
not_open n three four h = both_ways _ (one_of_two (λ p. list_any (λ y. is_reaching n y.action) p ≡ false) three four h.0 h.1) (reaching_found n h.2.1.0 h.0 h.2.1.1 h.2.1.3)

pub arms_example : IsArmsExample
arms_example =
    record {
      reset_not_open = not_open 2 refl refl;
      other_arm_not_open = not_open 5 refl refl;
      default_not_open = not_open 10 refl refl;
      arm_surely_open = (_, λ path o. one_of_two (HasAction (λ x. x ≡ reaches 7) (0 ∷ 0 ∷ 1 ∷ 1 ∷ [])) (_, inr (inr (inr (inr (inr (inr (inl refl)))))), refl, refl) (_, inr (inr (inr (inr (inr (inr (inl refl)))))), refl, refl) path o);
      behind_test_open = (_, record { is_path = inr (inr (inr (inl refl))); follows = follows_three }, (_, (_, inr (inr (inr (inr (inr (inr (inr (inr (inr (inr (inl refl)))))))))), refl, refl)));
      behind_test_not_sure = λ s.
          let h = s.1 (path_at 4) (record { is_path = inr (inr (inr (inr (inl refl)))); follows = follows_four }) in
          false≢true (reaching_found 9 h.0 (path_at 4) h.1 h.3);
    }
