-- The labels and arms of a case statement in their context (IEEE 1364-2001, clause 9.5).
use Rattle.std.specs.Prelude.{◌≡◌, ◌≤◌, ℕ, Bool, true}
use Rattle.body_calls.specs.design_model.Design.{Design}
use Rattle.body_calls.specs.design_model.Tree.{Arms, Terms}
use Rattle.body_calls.specs.design_model.Shape.{are_shaped, is_arms, widest, widest_of}

-- labels of this width and sign, none of which is wider alone
pub record AreLabels (d : Design) (w : ℕ) (s : Bool) (ts : Terms) : Type 0 where
  pub shaped : are_shaped d w s ts ≡ true
  pub from : ℕ
  pub narrow : widest d from ts ≤ w

-- arms with labels of this width and sign, none of which is wider alone
pub record AreArms (d : Design) (w : ℕ) (s : Bool) (arms : Arms) : Type 0 where
  pub shaped : is_arms d w s arms ≡ true
  pub from : ℕ
  pub narrow : widest_of d from arms ≤ w
