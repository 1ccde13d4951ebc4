-- The arm without labels.
use Rattle.std.proofs.Common.{◌≡◌, ◌∙◌, ◌==◌, List, [], ◌∷◌, length, map, refl, ap, sym, arith}
use Rattle.std.proofs.lemmas.Bool.{ne_eqb}
use Rattle.design_model.specs.Execution.{is_default}
use Rattle.design_model.specs.View.{stmt_view, term_view, terms_of}
use Rattle.design_model.specs.declared.tree.CaseArm.{CaseArm}
use Rattle.design_model.specs.declared.tree.StmtForm.TheFolds.{fold_out-CaseArm}
use Rattle.design_model.specs.declared.tree.Term.{Term as CodeTerm}
use Rattle.process_names.specs.Names.{arm_view}

-- an arm without labels is the default
no_labels : (labels : List CodeTerm) → (length labels == 0) ≡ is_default (terms_of (map term_view labels))
no_labels [] = refl
no_labels (t ∷ ts) = ne_eqb (length (t ∷ ts)) 0 (λ e. omega (arith, e))

arm_is : (x : CaseArm) → arm_view x ≡ (terms_of (map term_view x.labels.items), stmt_view x.body)
arm_is x = rw fold_out-CaseArm refl

pub default_is : (x : CaseArm) → (length x.labels.items == 0) ≡ is_default (arm_view x).0
default_is x = no_labels x.labels.items ∙ ap (λ a. is_default a.0) (sym (arm_is x))
