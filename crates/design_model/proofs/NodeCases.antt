-- A node has each case that it can have and of which its operands have the truths that are asked.
use Rattle.std.specs.Prelude.{⊤}
use Rattle.std.proofs.Common.{◌≡◌, inl, inr, List, [], ◌∷◌, ◌++◌, refl, sym, subst, subst₂}
use Rattle.event_machine.specs.Cell.{Values}
use Rattle.four_state.specs.Vector.{truth}
use Rattle.four_state.specs.declared.bit.Bit.{Bit}
use Rattle.four_state.specs.declared.operator.Binary.{Binary}
use Rattle.four_state.specs.declared.operator.Binary.TheVariants.{BitwiseAnd, BitwiseOr, LogicalAnd, LogicalOr}
use Rattle.four_state.specs.declared.truth.Truth.{Truth}
use Rattle.four_state.specs.declared.truth.Truth.TheVariants.{False, Strange, True}
use Rattle.design_model.specs.Tree.{Head, Term, binary, bit, choice, concat, number, part, repeat, sign, signal, slide, unary, word}
use Rattle.design_model.specs.Design.{Design, In}
use Rattle.design_model.specs.Value.{value}
use Rattle.design_model.specs.Execution.{BothFalse, BothTrue, FalseTrue, LeftFalse, LeftTrue, NodeCase, RightFalse, RightTrue, TrueFalse, ValueFalse, ValueTrue, and_cases, cases, four_cases, if_false, if_true, node_cases, operator_cases, or_cases, two_cases}
use Rattle.design_model.specs.Open.{Asked, asks}

-- each operand of which a case asks a truth has it
abbrev pub AskedHold : Design → Values Bit → List Asked → Type 0
AskedHold d u [] = ⊤
AskedHold d u (a ∷ others) = (truth (value d u a.operand) ≡ a.is) × AskedHold d u others

and_right_false : (a : Truth) → In RightFalse (and_cases a False)
and_right_false True = inl refl
and_right_false False = inr (inl refl)
and_right_false Strange = inl refl

or_right_true : (a : Truth) → In RightTrue (or_cases a True)
or_right_true True = inr (inl refl)
or_right_true False = inl refl
or_right_true Strange = inl refl

module _ (d : Design) (u : Values Bit) where
  -- a node without two operands
  value_case : (t : Term) (c : NodeCase) → In c (ValueFalse ∷ ValueTrue ∷ []) → AskedHold d u (asks c t) → In c (if_false (truth (value d u t)) ValueFalse ++ if_true (truth (value d u t)) ValueTrue)
  value_case t c (inl is) =
      subst
      (λ k. AskedHold d u (asks k t) → In k (if_false (truth (value d u t)) ValueFalse ++ if_true (truth (value d u t)) ValueTrue))
      is
      (λ a. subst (λ x. In ValueFalse (if_false x ValueFalse ++ if_true x ValueTrue)) (sym a.0) (inl refl))
  value_case t c (inr (inl is)) =
      subst
      (λ k. AskedHold d u (asks k t) → In k (if_false (truth (value d u t)) ValueFalse ++ if_true (truth (value d u t)) ValueTrue))
      is
      (λ a. subst (λ x. In ValueTrue (if_false x ValueFalse ++ if_true x ValueTrue)) (sym a.0) (inl refl))
  value_case t c (inr (inr none)) = absurd none

  module _ (h : Head) (op : Binary) (t x : Term) where
    -- the truths of the two operands that a case asks
    Asks : NodeCase → Type 0
    Asks c = AskedHold d u (asks c (binary h op t x))

    and_case : (c : NodeCase) → In c (LeftFalse ∷ RightFalse ∷ BothTrue ∷ []) → Asks c → In c (and_cases (truth (value d u t)) (truth (value d u x)))
    unfolding Asks
    and_case c (inl is) =
        subst (λ k. Asks k → In k (and_cases (truth (value d u t)) (truth (value d u x)))) is
        (λ a. subst (λ y. In LeftFalse (and_cases y (truth (value d u x)))) (sym a.0) (inl refl))
    and_case c (inr (inl is)) =
        subst (λ k. Asks k → In k (and_cases (truth (value d u t)) (truth (value d u x)))) is
        (λ a. subst (λ z. In RightFalse (and_cases (truth (value d u t)) z)) (sym a.0) (and_right_false (truth (value d u t))))
    and_case c (inr (inr (inl is))) =
        subst (λ k. Asks k → In k (and_cases (truth (value d u t)) (truth (value d u x)))) is
        (λ a. subst₂ (λ y z. In BothTrue (and_cases y z)) (sym a.0) (sym a.1.0) (inl refl))
    and_case c (inr (inr (inr none))) = absurd none

    or_case : (c : NodeCase) → In c (LeftTrue ∷ RightTrue ∷ BothFalse ∷ []) → Asks c → In c (or_cases (truth (value d u t)) (truth (value d u x)))
    unfolding Asks
    or_case c (inl is) =
        subst (λ k. Asks k → In k (or_cases (truth (value d u t)) (truth (value d u x)))) is
        (λ a. subst (λ y. In LeftTrue (or_cases y (truth (value d u x)))) (sym a.0) (inl refl))
    or_case c (inr (inl is)) =
        subst (λ k. Asks k → In k (or_cases (truth (value d u t)) (truth (value d u x)))) is
        (λ a. subst (λ z. In RightTrue (or_cases (truth (value d u t)) z)) (sym a.0) (or_right_true (truth (value d u t))))
    or_case c (inr (inr (inl is))) =
        subst (λ k. Asks k → In k (or_cases (truth (value d u t)) (truth (value d u x)))) is
        (λ a. subst₂ (λ y z. In BothFalse (or_cases y z)) (sym a.0) (sym a.1.0) (inl refl))
    or_case c (inr (inr (inr none))) = absurd none

    pair_case : (c : NodeCase) → In c (BothFalse ∷ FalseTrue ∷ TrueFalse ∷ BothTrue ∷ []) → Asks c → In c (four_cases (truth (value d u t)) (truth (value d u x)))
    unfolding Asks
    pair_case c (inl is) =
        subst (λ k. Asks k → In k (four_cases (truth (value d u t)) (truth (value d u x)))) is
        (λ a. subst₂ (λ y z. In BothFalse (four_cases y z)) (sym a.0) (sym a.1.0) (inl refl))
    pair_case c (inr (inl is)) =
        subst (λ k. Asks k → In k (four_cases (truth (value d u t)) (truth (value d u x)))) is
        (λ a. subst₂ (λ y z. In FalseTrue (four_cases y z)) (sym a.0) (sym a.1.0) (inl refl))
    pair_case c (inr (inr (inl is))) =
        subst (λ k. Asks k → In k (four_cases (truth (value d u t)) (truth (value d u x)))) is
        (λ a. subst₂ (λ y z. In TrueFalse (four_cases y z)) (sym a.0) (sym a.1.0) (inl refl))
    pair_case c (inr (inr (inr (inl is)))) =
        subst (λ k. Asks k → In k (four_cases (truth (value d u t)) (truth (value d u x)))) is
        (λ a. subst₂ (λ y z. In BothTrue (four_cases y z)) (sym a.0) (sym a.1.0) (inl refl))
    pair_case c (inr (inr (inr (inr none)))) = absurd none

  binary_case : (h : Head) (op : Binary) (t x : Term) (c : NodeCase) → In c (operator_cases op) → AskedHold d u (asks c (binary h op t x)) → In c (two_cases op (truth (value d u t)) (truth (value d u x)))
  unfolding Asks
  binary_case h BitwiseAnd t x = and_case h BitwiseAnd t x
  binary_case h LogicalAnd t x = and_case h LogicalAnd t x
  binary_case h BitwiseOr t x = or_case h BitwiseOr t x
  binary_case h LogicalOr t x = or_case h LogicalOr t x
  binary_case h op t x = pair_case h op t x

  pub case_holds : (t : Term) (c : NodeCase) → In c (node_cases t) → AskedHold d u (asks c t) → In c (cases d u t)
  case_holds (number h n) = value_case (number h n)
  case_holds (signal h s) = value_case (signal h s)
  case_holds (word h m i) = value_case (word h m i)
  case_holds (bit h t i) = value_case (bit h t i)
  case_holds (part h t i j) = value_case (part h t i j)
  case_holds (slide h t b w up) = value_case (slide h t b w up)
  case_holds (unary h op t) = value_case (unary h op t)
  case_holds (binary h op t x) = binary_case h op t x
  case_holds (choice h b t x) = value_case (choice h b t x)
  case_holds (concat h ts) = value_case (concat h ts)
  case_holds (repeat h n ts) = value_case (repeat h n ts)
  case_holds (sign h s t) = value_case (sign h s t)
