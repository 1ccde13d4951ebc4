-- What the evaluation of a term leaves.
use Rattle.std.specs.Prelude.{◌≡◌, ℕ, Bool, List, Option, IfSome}
use Rattle.known_state.specs.Partly.{Partly}
use Rattle.design_model.specs.Tree as t
use Rattle.design_model.specs.Value.{head}
use Rattle.design_model.specs.View.{term_view}
use Rattle.design_model.specs.declared.tree.Term.{Term}
use Rattle.body_replay.specs.Replay.{Mark}
use Rattle.term_replay.specs.Noted.{Adds, in_this, marks_of}
use Rattle.term_replay.specs.Plain.{IsSmall, head_in, held}
use Rattle.term_replay.specs.Stands.{Scene, Stands, first_after, head_of}
use Rattle.term_replay.specs.declared.evaluation.Progress.{Progress}

-- the value is the number, or else what is in the place; the run and its notes go on from those before the term
pub record Walked {T S : Type 0} (noted : T → List Mark → S → Type 0) (v : Scene) (x : Term) (run : Progress) (s : S) (number : Option ℕ) (place : Partly) (after : Progress) (u : S) : Type 0 where
  pub value : Stands v run.first (term_view x) (held (head_in x) number place)
  pub small : IfSome number (IsSmall (head_in x))
  pub first : after.first ≡ first_after v run.first (term_view x)
  pub mode : after.mode ≡ run.mode
  pub top : head (term_view x) ≡ head_of (head_in x)
  pub notes : Adds noted s (in_this run.mode (marks_of v run.first (term_view x))) u

-- the term is `$signed` or `$unsigned` of this one
pub record IsSign (x y : Term) : Type 0 where
  pub signed : Bool
  pub is : term_view x ≡ t.sign (head_of (head_in x)) signed (term_view y)
