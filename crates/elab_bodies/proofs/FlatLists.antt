-- Lists of statements, arms and turns that are built one after another.
use Rattle.std.proofs.Common.{◌≡◌, ◌+◌, ◌<◌, ◌∙◌, ℕ, List, [], ◌∷◌, ◌++◌, length, get_or, drop, drop-cons, add-one, map, refl, sym, ap}
use Rattle.std.proofs.lemmas.List.{map-append}
use Rattle.four_state.specs.Vector.{Vector}
use Rattle.design_model.specs.Tree.{Terms, Stmt, Stmts, no_stmts, a_stmt, Arms, no_arms}
use Rattle.design_model.specs.Tree as flat
use Rattle.design_model.specs.View.{Arm, arms_of, stmt_view, stmts_of, term_view}
use Rattle.design_model.specs.declared.tree.CaseArm as code_arm
use Rattle.design_model.specs.declared.tree.Stmt as code
use Rattle.design_model.specs.declared.tree.Term as code_term
use Rattle.verilog_tree.specs.Tree as t
use Rattle.verilog_tree.specs.Tree.{Exprs, an_expr, Statement, Statements, a_statement, CaseItems, case_item}
use Rattle.elab_const.specs.declared.width.Shape.{Shape}
use Rattle.flat_design.specs.Bodies.{statement, statements, arms, label_terms, turn_stmts}
use Rattle.flat_design.specs.Numbering.{nodes, all_nodes, lines, statement_nodes}
use Rattle.flat_design.specs.Scope.{Scope, with_turn}
use Rattle.flat_design.specs.Terms.{term}
use Rattle.elab_build.proofs.TermLists.{terms_before, terms_before_one}
use Rattle.elab_bodies.specs.View.{arm_view}

-- statements before others
abbrev pub stmts_before : List Stmt → Stmts → Stmts
stmts_before [] rest = rest
stmts_before (x ∷ xs) rest = a_stmt x (stmts_before xs rest)

-- before none
pub stmts_before_none : (xs : List Stmt) → stmts_before xs no_stmts ≡ stmts_of xs
stmts_before_none [] = refl
stmts_before_none (x ∷ xs) = ap (a_stmt x) (stmts_before_none xs)

-- with one more
stmts_before_one : (xs : List Stmt) (x : Stmt) (rest : Stmts) → stmts_before (xs ++ x ∷ []) rest ≡ stmts_before xs (a_stmt x rest)
stmts_before_one [] x rest = refl
stmts_before_one (y ∷ ys) x rest = ap (a_stmt y) (stmts_before_one ys x rest)

pub stmts_with : (all new : List code.Stmt) (x : code.Stmt) (rest : Stmts) → new ≡ all ++ x ∷ [] → stmts_before (map stmt_view new) rest ≡ stmts_before (map stmt_view all) (a_stmt (stmt_view x) rest)
stmts_with all new x rest is = rw (is, map-append stmt_view all (x ∷ [])) (stmts_before_one (map stmt_view all) (stmt_view x) rest)

-- the statements so far with one more, and the rest
pub next_stmts : (base : ℕ) (g : Scope) (all new : List code.Stmt) (x : code.Stmt) (rest later : Statements) (s : Statement) (l n m k : ℕ) (whole : Stmts) →
    rest ≡ a_statement s later → new ≡ all ++ x ∷ [] → stmt_view x ≡ statement base g s l n → m ≡ l + lines s → k ≡ n + statement_nodes g s →
    stmts_before (map stmt_view all) (statements base g rest l n) ≡ whole → stmts_before (map stmt_view new) (statements base g later m k) ≡ whole
next_stmts base g all new x rest later s l n m k whole r i v a b h =
    let xs = map stmt_view all in
    rw (a, b) (stmts_with all new x (statements base g later (l + lines s) (n + statement_nodes g s)) i ∙ ap (λ y. stmts_before xs (a_stmt y (statements base g later (l + lines s) (n + statement_nodes g s)))) v ∙ ap (λ q. stmts_before xs (statements base g q l n)) (sym r) ∙ h)

-- the values from the one at i on
pub values_from : (vs : List Vector) (i : ℕ) (v : Vector) → i < length vs → v ≡ get_or vs i v → drop i vs ≡ v ∷ drop (i + 1) vs
values_from vs i v within is = rw (add-one, drop-cons vs i v within, ← is) refl

-- the turns so far with one more, and the rest
pub next_turn : (f : Vector → Stmt) (all new : List code.Stmt) (x : code.Stmt) (v : Vector) (rest later : List Vector) (whole : Stmts) →
    rest ≡ v ∷ later → new ≡ all ++ x ∷ [] → stmt_view x ≡ f v → stmts_before (map stmt_view all) (turn_stmts rest f) ≡ whole → stmts_before (map stmt_view new) (turn_stmts later f) ≡ whole
next_turn f all new x v rest later whole r i is h =
    let xs = map stmt_view all in
    stmts_with all new x (turn_stmts later f) i ∙ ap (λ y. stmts_before xs (a_stmt y (turn_stmts later f))) is ∙ ap (λ q. stmts_before xs (turn_stmts q f)) (sym r) ∙ h

-- arms before others
abbrev pub arms_before : List Arm → Arms → Arms
arms_before [] rest = rest
arms_before (x ∷ xs) rest = flat.arm x.0 x.1 (arms_before xs rest)

-- before none
pub arms_before_none : (xs : List Arm) → arms_before xs no_arms ≡ arms_of xs
arms_before_none [] = refl
arms_before_none (x ∷ xs) = ap (flat.arm x.0 x.1) (arms_before_none xs)

arms_before_one : (xs : List Arm) (x : Arm) (rest : Arms) → arms_before (xs ++ x ∷ []) rest ≡ arms_before xs (flat.arm x.0 x.1 rest)
arms_before_one [] x rest = refl
arms_before_one (y ∷ ys) x rest = ap (flat.arm y.0 y.1) (arms_before_one ys x rest)

arms_with : (all new : List code_arm.CaseArm) (x : code_arm.CaseArm) (rest : Arms) → new ≡ all ++ x ∷ [] → arms_before (map arm_view new) rest ≡ arms_before (map arm_view all) (flat.arm (arm_view x).0 (arm_view x).1 rest)
arms_with all new x rest is = rw (is, map-append arm_view all (x ∷ [])) (arms_before_one (map arm_view all) (arm_view x) rest)

-- the arms so far with one more, and the rest
pub next_arms : (base : ℕ) (g : Scope) (w : Shape) (all new : List code_arm.CaseArm) (x : code_arm.CaseArm) (labels : Terms) (body : Stmt) (rest later : CaseItems) (es : Exprs) (s : Statement) (l n m k : ℕ) (whole : Arms) →
    rest ≡ case_item es s later → new ≡ all ++ x ∷ [] → arm_view x ≡ (labels, body) → labels ≡ label_terms base g w es n → body ≡ statement base g s l (n + all_nodes g es) → m ≡ l + lines s → k ≡ n + all_nodes g es + statement_nodes g s →
    arms_before (map arm_view all) (arms base g w rest l n) ≡ whole → arms_before (map arm_view new) (arms base g w later m k) ≡ whole
next_arms base g w all new x labels body rest later es s l n m k whole r i v here under a b h =
    let xs = map arm_view all in
    let others : Arms = arms base g w later (l + lines s) (n + all_nodes g es + statement_nodes g s) in
    rw (a, b) (arms_with all new x others i ∙ ap (λ y. arms_before xs (flat.arm y.0 y.1 others)) v ∙ ap (λ y. arms_before xs (flat.arm y body others)) here ∙ ap (λ y. arms_before xs (flat.arm (label_terms base g w es n) y others)) under ∙ ap (λ q. arms_before xs (arms base g w q l n)) (sym r) ∙ h)

-- the labels so far with one more, and the rest
pub next_labels : (base : ℕ) (g : Scope) (w : Shape) (all new : List code_term.Term) (x : code_term.Term) (rest later : Exprs) (e : t.Expr) (n m : ℕ) (whole : Terms) →
    rest ≡ an_expr e later → new ≡ all ++ x ∷ [] → term_view x ≡ term base g e n w → m ≡ n + nodes g e →
    terms_before (map term_view all) (label_terms base g w rest n) ≡ whole → terms_before (map term_view new) (label_terms base g w later m) ≡ whole
next_labels base g w all new x rest later e n m whole r i v c h =
    let xs = map term_view all in
    let others : Terms = label_terms base g w later (n + nodes g e) in
    rw (i, map-append term_view all (x ∷ []), c) (terms_before_one xs (term_view x) others ∙ ap (λ y. terms_before xs (flat.a_term y others)) v ∙ ap (λ q. terms_before xs (label_terms base g w q n)) (sym r) ∙ h)

-- the turns, by equal values, names, bodies and lines
pub same_turns : (base : ℕ) (vs ws : List Vector) (x y : List ℕ) (g : Scope) (s r : Statement) (l m n : ℕ) → vs ≡ ws → x ≡ y → s ≡ r → l ≡ m → turn_stmts vs (λ v. statement base (with_turn x v g) s l n) ≡ turn_stmts ws (λ v. statement base (with_turn y v g) r m n)
same_turns base vs ws x y g s r l m n p q e f = rw (p, q, e, f) refl
