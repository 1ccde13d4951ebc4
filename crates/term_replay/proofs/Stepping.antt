-- Operands that are evaluated one after the other, and a term by the form that it has.
use Rattle.std.proofs.Common.{◌≡◌, ◌∙◌, ℕ, Bool, List, ◌++◌, Option, sym, ap, subst}
use Rattle.known_state.specs.Partly.{Partly}
use Rattle.design_model.specs.Design.{Design}
use Rattle.design_model.specs.Tree as t
use Rattle.design_model.specs.View.{term_view}
use Rattle.design_model.specs.declared.tree.Term.{Term}
use Rattle.design_model.specs.declared.tree.Form as form
use Rattle.body_replay.specs.Replay.{Mark, Mode}
use Rattle.term_replay.specs.Noted.{Adds, in_this, marks_of}
use Rattle.term_replay.specs.Stands.{IsInContext, Scene, Stands, first_after, head_of}
use Rattle.term_replay.specs.declared.head.TermHead.{TermHead}
use Rattle.term_replay.proofs.Marking.{adds_more}
use Rattle.term_replay.specs.Plain.{head_in}
use Rattle.term_replay.proofs.Views.{sign_view}

-- the plain tree of a term, with a head that was read of it
pub along : (h : TermHead) (x : Term) (form : t.Head → t.Term) → h ≡ head_in x → term_view x ≡ form (head_of (head_in x)) → term_view x ≡ form (head_of h)
along h x form e is = is ∙ ap (λ k. form (head_of k)) (sym e)

pub along_sign : (h : TermHead) (x : Term) (g : Bool) (y : Term) → h ≡ head_in x → x.form.value ≡ form.Sign g y → term_view x ≡ t.sign (head_of h) g (term_view y)
along_sign h x g y e is = along h x (λ k. t.sign k g (term_view y)) e (sign_view x g y is)

pub arm_context : (d : Design) (x y : t.Term) → x ≡ y → IsInContext d x → IsInContext d y
arm_context d x y e c = subst (IsInContext d) e c

pub arm_value : (v : Scene) (first : Option ℕ) (x y : t.Term) (r : Partly) → x ≡ y → Stands v first y r → Stands v first x r
arm_value v first x y r e a = subst (λ z. Stands v first z r) (sym e) a

pub arm_notes : {T S : Type 0} (noted : T → List Mark → S → Type 0) (v : Scene) (mode : Mode) (first : Option ℕ) (x y : t.Term) (s u : S) → x ≡ y → Adds noted s (in_this mode (marks_of v first y)) u → Adds noted s (in_this mode (marks_of v first x)) u
arm_notes noted v mode first x y s u e a = subst (λ z. Adds noted s (in_this mode (marks_of v first z)) u) (sym e) a

-- a value with another name
pub same_value : (v : Scene) (first : Option ℕ) (x : t.Term) (q r : Partly) → r ≡ q → Stands v first x q → Stands v first x r
same_value v first x q r e a = subst (Stands v first x) (sym e) a

-- after these first reads
pub next_value : (v : Scene) (now next : Option ℕ) (x : t.Term) (r : Partly) → now ≡ next → Stands v now x r → Stands v next x r
next_value v now next x r e a = subst (λ o. Stands v o x r) e a

pub two_first : (v : Scene) (first : Option ℕ) (x y : t.Term) (p q : Option ℕ) → p ≡ first_after v first x → q ≡ first_after v p y → q ≡ first_after v (first_after v first x) y
two_first v first x y p q e f = f ∙ ap (λ o. first_after v o y) e

pub three_first : (v : Scene) (first : Option ℕ) (x y z : t.Term) (p q r : Option ℕ) → p ≡ first_after v first x → q ≡ first_after v p y → r ≡ first_after v q z → r ≡ first_after v (first_after v (first_after v first x) y) z
three_first v first x y z p q r e f g = g ∙ ap (λ o. first_after v o z) (two_first v first x y p q e f)

module _ {T S : Type 0} (noted : T → List Mark → S → Type 0) (v : Scene) (mode : Mode) (first : Option ℕ) (x y : t.Term) where
  pub two_marks : (p : Option ℕ) (s m u : S) → p ≡ first_after v first x → Adds noted s (in_this mode (marks_of v first x)) m → Adds noted m (in_this mode (marks_of v p y)) u → Adds noted s (in_this mode (marks_of v first x ++ marks_of v (first_after v first x) y)) u
  two_marks p s m u e a b = adds_more noted mode s m u (marks_of v first x) (marks_of v (first_after v first x) y) a (subst (λ o. Adds noted m (in_this mode (marks_of v o y)) u) e b)

  pub three_marks : (z : t.Term) (p q : Option ℕ) (s m n u : S) → p ≡ first_after v first x → q ≡ first_after v p y → Adds noted s (in_this mode (marks_of v first x)) m → Adds noted m (in_this mode (marks_of v p y)) n → Adds noted n (in_this mode (marks_of v q z)) u → Adds noted s (in_this mode (marks_of v first x ++ marks_of v (first_after v first x) y ++ marks_of v (first_after v (first_after v first x) y) z)) u
  three_marks z p q s m n u e f a b c = adds_more noted mode s n u (marks_of v first x ++ marks_of v (first_after v first x) y) (marks_of v (first_after v (first_after v first x) y) z) (two_marks p s m n e a b) (subst (λ o. Adds noted n (in_this mode (marks_of v o z)) u) (two_first v first x y p q e f) c)
