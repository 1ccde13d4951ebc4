-- Lists of terms that are built one after another.
use Rattle.std.proofs.Common.{◌≡◌, ◌+◌, ◌∙◌, ℕ, List, [], ◌∷◌, ◌++◌, map, refl, sym, ap}
use Rattle.std.proofs.lemmas.List.{map-append}
use Rattle.design_model.specs.Tree.{Term, Terms, no_terms, a_term}
use Rattle.design_model.specs.View.{term_view, terms_of}
use Rattle.design_model.specs.declared.tree.Term as code
use Rattle.flat_design.specs.Numbering.{nodes}
use Rattle.flat_design.specs.Scope.{Scope}
use Rattle.flat_design.specs.Terms.{terms, alone}
use Rattle.verilog_tree.specs.Tree as t
use Rattle.verilog_tree.specs.Tree.{Exprs, an_expr}

-- terms before others
abbrev pub terms_before : List Term → Terms → Terms
terms_before [] rest = rest
terms_before (x ∷ xs) rest = a_term x (terms_before xs rest)

-- before none
pub terms_before_none : (xs : List Term) → terms_before xs no_terms ≡ terms_of xs
terms_before_none [] = refl
terms_before_none (x ∷ xs) = ap (a_term x) (terms_before_none xs)

-- with one more
pub terms_before_one : (xs : List Term) (x : Term) (rest : Terms) → terms_before (xs ++ x ∷ []) rest ≡ terms_before xs (a_term x rest)
terms_before_one [] x rest = refl
terms_before_one (y ∷ ys) x rest = ap (a_term y) (terms_before_one ys x rest)

-- the terms so far with one more, and the rest
pub next_terms : (base : ℕ) (g : Scope) (all new : List code.Term) (x : code.Term) (rest later : Exprs) (e : t.Expr) (n m : ℕ) (whole : Terms) →
    rest ≡ an_expr e later → new ≡ all ++ x ∷ [] → term_view x ≡ alone base g e n → m ≡ n + nodes g e →
    terms_before (map term_view all) (terms base g rest n) ≡ whole → terms_before (map term_view new) (terms base g later m) ≡ whole
next_terms base g all new x rest later e n m whole r i v c h =
    let xs = map term_view all in
    rw (i, map-append term_view all (x ∷ []), c) (terms_before_one xs (term_view x) (terms base g later (n + nodes g e)) ∙ ap (λ y. terms_before xs (a_term y (terms base g later (n + nodes g e)))) v ∙ ap (λ q. terms_before xs (terms base g q n)) (sym r) ∙ h)
