-- What the words of statements read.
use Rattle.std.proofs.Common.{rules, arith, ◌≡◌, ℕ, true, false, List, [], ◌∷◌, Ok, Err, refl}
use Rattle.cov_host.specs.declared.place.Place.{Place}
use Rattle.verilog_lexer.specs.Tokens.{Lexeme}
use Rattle.verilog_tree.specs.Tree as t
use Rattle.verilog_tree.specs.View.{expr_view, expr_form_step}
use Rattle.verilog_tree.specs.declared.expr.Expr.{Expr}
use Rattle.verilog_tree.specs.declared.expr.ExprForm.TheOpen.{ExprForm-F}
use Rattle.verilog_tree.specs.declared.expr.ExprForm.TheFolds.{fold_out-Expr, fold_out-ExprForm}
use Rattle.grammar_rules.specs.Rule.{next, member, take_one, refuse, made, both, Outcome}
use Rattle.grammar_rules.specs.Grammar.{reads}
use Rattle.verilog_grammar.specs.Kind.{next_kind, kind_of}
use Rattle.verilog_grammar.specs.declared.body.Body.{Body}
use Rattle.verilog_grammar.specs.declared.body.Body.TheVariants.{Combinational, Clocked, Initial}
use Rattle.verilog_grammar.specs.Language.{verilog}
use Rattle.verilog_grammar.specs.Verilog.{grammar}
use Rattle.verilog_grammar.specs.Parts.{Phrased, only, any_of}
use Rattle.verilog_grammar.specs.Statements.{arguments_rule, task_of, task_rule, task_or_null_rule, null_rule}
use Rattle.verilog_grammar.specs.declared.kind.Kind.TheVariants as k
use Rattle.verilog_expressions.specs.Cursor.{take_next}
use Rattle.verilog_parser.specs.Statements.{task_words, task_end, task_end_rule}
use Rattle.verilog_expressions.proofs.Taken.{any_taken}
use Rattle.verilog_parser.proofs.Repeated.{paired, mapped}

-- what is read and dropped, with what came before it
abbrev pub drop_all : Unit {0} → List (Unit {0}) → Unit {0}
drop_all u us = tt

regroup : {A B C : Type 0} (f : A × B → C) (a : A) (o : Outcome verilog B) → mapped f (paired a o) ≡ mapped (λ b. f (a, b)) o
regroup f a (Ok y) = refl
regroup f a (Err x) = refl

-- what is made of a value that was read and of what follows it
pub made_behind : {A B C : Type 0} (f : A × B → C) (d : ℕ) (g : Phrased A) (h : Phrased B) (i m : List Lexeme) (a : A)
    → reads verilog grammar d g i ≡ Ok (a, m) → reads verilog grammar d (made f (both g h)) i ≡ reads verilog grammar d (made (λ b. f (a, b)) h) m
made_behind f d g h i m a e = rw e (regroup f a (reads verilog grammar d h m))

-- a system task that the body may have
pub task_reads : (b : Body) (d : ℕ) (i m : List Lexeme) (t : Lexeme) → member (next verilog i) (task_words b) ≡ true → take_next i ≡ Ok (t, m)
    → reads verilog grammar d (task_or_null_rule b) i ≡ reads verilog grammar d (task_end_rule t.place) m
unfolding task_rule arguments_rule
task_reads Combinational d i m t h e = absurd (search (rules, h))
task_reads Clocked d i m t h e = rw h (made_behind task_of d (only k.Task) task_end i m t (any_taken (task_words Clocked) i m t e h))
task_reads Initial d i m t h e = rw h (made_behind task_of d (any_of k.Task (k.InitialTask ∷ [])) task_end i m t (any_taken (task_words Initial) i m t e h))

-- no system task that the body may have
pub null_reads : (b : Body) (d : ℕ) (i : List Lexeme) → member (next verilog i) (task_words b) ≡ false → reads verilog grammar d (task_or_null_rule b) i ≡ reads verilog grammar 0 null_rule i
unfolding task_rule
null_reads Combinational d i h = refl
null_reads Clocked d i h = rw h refl
null_reads Initial d i h = rw h refl

-- the place of one level
step_place : (x : ExprForm-F (Place → t.Expr) t.Expr) (p : Place) → t.place_of (expr_form_step x p) ≡ p
step_place (ExprForm-F.Number n) p = refl
step_place (ExprForm-F.Name x) p = refl
step_place (ExprForm-F.Bit x i) p = refl
step_place (ExprForm-F.Part x h l b) p = refl
step_place (ExprForm-F.Slide x k w up b) p = refl
step_place (ExprForm-F.Unary op x) p = refl
step_place (ExprForm-F.Binary op x y) p = refl
step_place (ExprForm-F.Choice c x y) p = refl
step_place (ExprForm-F.Concat v) p = refl
step_place (ExprForm-F.Repeat n v) p = refl
step_place (ExprForm-F.Sign s x) p = refl
step_place (ExprForm-F.Paren x) p = refl

-- the place of an expression
pub place_is : (e : Expr) → t.place_of (expr_view e) ≡ e.place
place_is e = rw (fold_out-Expr, fold_out-ExprForm) (step_place _ e.place)
