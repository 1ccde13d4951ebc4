-- What a term has beside its form.
use Rattle.std.proofs.Common.{◌≡◌, ◌∙◌, ℕ, [], Some, None, map, refl, ap}
use Rattle.design_model.specs.Tree as t
use Rattle.design_model.specs.Execution.{node_cases}
use Rattle.design_model.specs.Value.{head}
use Rattle.design_model.specs.View.{form_step, term_view}
use Rattle.design_model.specs.declared.tree.Term.{Term}
use Rattle.design_model.specs.declared.tree.Form.TheOpen.{Form-F}
use Rattle.design_model.specs.declared.tree.Form.TheFolds.{fold_out-Term, fold_out-Form}
use Rattle.text_points.specs.Nodes.{cases_with, node_at, numbered_cases}
use Rattle.text_points.specs.Operators.{operator_of}
use Rattle.text_points.specs.declared.points.Owner.{Owner}

step_head : (x : Form-F (t.Head → t.Term) t.Term) (h : t.Head) → head (form_step x h) ≡ h
step_head (Form-F.Number n) h = refl
step_head (Form-F.Signal s) h = refl
step_head (Form-F.Word m i) h = refl
step_head (Form-F.Bit x i) h = refl
step_head (Form-F.Part x i j) h = refl
step_head (Form-F.Slide x b k up) h = refl
step_head (Form-F.Unary op x) h = refl
step_head (Form-F.Binary op x y) h = refl
step_head (Form-F.Choice c x y) h = refl
step_head (Form-F.Concat v) h = refl
step_head (Form-F.Repeat n v) h = refl
step_head (Form-F.Sign s x) h = refl

-- the plain tree of a term has the place, the width, the sign and the number of the term
pub head_is : (x : Term) → head (term_view x) ≡ record { place = x.place; width = x.width; signed = x.signed; node = x.node }
head_is x = rw (fold_out-Term, fold_out-Form) (step_head _ _)

-- the cases of a term with a number
pub cases_some : (o : Owner) (x : Term) (n : ℕ) → x.node ≡ Some n → cases_with o (term_view x) ≡ map (node_at o n x.place (operator_of (term_view x))) (node_cases (term_view x))
cases_some o x n is =
    let v = term_view x in
    let number : (head v).node ≡ Some n = ap (λ h. h.node) (head_is x) ∙ is in
    ap (λ m. numbered_cases o m v) number ∙ ap (λ h. map (node_at o n h.place (operator_of v)) (node_cases v)) (head_is x)

-- a term without a number has no cases
pub cases_none : (o : Owner) (x : Term) → x.node ≡ None → cases_with o (term_view x) ≡ []
cases_none o x is = ap (λ m. numbered_cases o m (term_view x)) (ap (λ h. h.node) (head_is x) ∙ is)
