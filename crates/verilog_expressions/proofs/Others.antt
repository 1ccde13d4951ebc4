-- Lists of expressions of which the first was read before the others.
use Rattle.std.proofs.Common.{◌≡◌, ℕ, false, true, List, [], ◌∷◌, ◌++◌, drop, Ok, Err, refl, sym, ap, ◌∙◌, append_assoc}
use Rattle.std.proofs.lemmas.List.{append-nil}
use Rattle.verilog_lexer.specs.Tokens.{Lexeme}
use Rattle.verilog_tree.specs.Tree.{Expr}
use Rattle.verilog_tree.specs.View.{exprs_view}
use Rattle.verilog_tree.specs.declared.depth.Depth.{Depth}
use Rattle.grammar_rules.specs.Rule.{Rule, many, nest, take_one, next, member, first, nullable, going, Outcome}
use Rattle.grammar_rules.specs.Grammar.{reads, phrase}
use Rattle.grammar_rules.proofs.Loops.{one_more, no_more, fails}
use Rattle.verilog_grammar.specs.declared.kind.Kind.{Kind}
use Rattle.verilog_grammar.specs.Kind.{code}
use Rattle.verilog_grammar.specs.Language.{verilog, Phrase, Value}
use Rattle.verilog_grammar.specs.Parts.{after}
use Rattle.verilog_grammar.specs.Verilog.{grammar, begins}
use Rattle.verilog_grammar.proofs.Verilog.{tables, passes}
use Rattle.verilog_expressions.specs.declared.fault.ReadFault.{ReadFault}
use Rattle.verilog_expressions.specs.declared.fault.ReadFault.TheVariants as read_fault
use Rattle.verilog_expressions.specs.declared.measured.MeasuredList.{MeasuredList}
use Rattle.verilog_expressions.specs.Gives.{Fails, fault_view}
use Rattle.verilog_expressions.specs.Measured.{MeasuredExprs, list_view}
use Rattle.verilog_expressions.specs.Others.{others_view}

-- ---- the list

-- the first is e, and it comes after what has the depth d
pub record Follows (e : Expr) (d : Depth) (l : MeasuredList) : Type 0 where
  pub exprs : exprs_view l.exprs.items ≡ e ∷ others_view l
  pub start : l.start ≡ d

pub none_else : (l : MeasuredList) (e : Expr) (d : Depth) → list_view l ≡ record { exprs = e ∷ []; start = d } → others_view l ≡ []
unfolding others_view
none_else l e d h = ap (λ (m : MeasuredExprs). drop 1 m.exprs) h

pub first_alone : (l : MeasuredList) (e : Expr) (d : Depth) → list_view l ≡ record { exprs = e ∷ []; start = d } → Follows e d l
first_alone l e d h = record {
  exprs = ap (λ (m : MeasuredExprs). m.exprs) h ∙ ap (λ (es : List Expr). e ∷ es) (sym (none_else l e d h));
  start = ap (λ (m : MeasuredExprs). m.start) h;
}

pub one_else : (l m : MeasuredList) (f e : Expr) → exprs_view l.exprs.items ≡ f ∷ others_view l → list_view m ≡ record { exprs = exprs_view l.exprs.items ++ e ∷ []; start = l.start }
    → others_view m ≡ others_view l ++ e ∷ []
unfolding others_view
one_else l m f e k h = ap (λ (m : MeasuredExprs). drop 1 m.exprs) h ∙ ap (λ (es : List Expr). drop 1 (es ++ e ∷ [])) k

pub one_behind : (l m : MeasuredList) (f e : Expr) (d : Depth) → exprs_view l.exprs.items ≡ f ∷ others_view l → l.start ≡ d
    → list_view m ≡ record { exprs = exprs_view l.exprs.items ++ e ∷ []; start = l.start } → Follows f d m
one_behind l m f e d k s h = record {
  exprs = ap (λ (m : MeasuredExprs). m.exprs) h ∙ ap (λ (es : List Expr). es ++ e ∷ []) k ∙ ap (λ (es : List Expr). f ∷ es) (sym (one_else l m f e k h));
  start = ap (λ (m : MeasuredExprs). m.start) h ∙ s;
}

-- ---- the loop

pub going_none : {A : Type 0} (o : Outcome verilog (List A)) → going ◌++◌ [] o ≡ o
going_none (Ok x) = refl
going_none (Err f) = refl

module _ (d : ℕ) (g : Rule verilog Expr) (takes : nullable g ≡ false) (ends : member 0 (first verilog begins g) ≡ false) where
  pub others_more : (xs ys : List Expr) (v : Expr) (i m : List Lexeme) (total : Outcome verilog (List Expr)) → ys ≡ xs ++ v ∷ []
      → member (next verilog i) (first verilog begins g) ≡ true → reads verilog grammar d g i ≡ Ok (v, m)
      → going ◌++◌ xs (reads verilog grammar d (many g) i) ≡ total → going ◌++◌ ys (reads verilog grammar d (many g) m) ≡ total
  others_more xs ys v i m total e t h k =
      rw e (one_more verilog grammar tables passes ◌++◌ d g takes ends xs (xs ++ v ∷ []) v i m total (λ vs. sym (append_assoc xs (v ∷ []) vs)) t h k)

  pub others_end : (xs : List Expr) (i : List Lexeme) (total : Outcome verilog (List Expr)) → member (next verilog i) (first verilog begins g) ≡ false
      → going ◌++◌ xs (reads verilog grammar d (many g) i) ≡ total → total ≡ Ok (xs, i)
  others_end xs i total t k = let done = no_more verilog grammar tables passes ◌++◌ d g takes ends xs i total t k in rw append-nil at done

  pub others_fail : (xs : List Expr) (i : List Lexeme) (total : Outcome verilog (List Expr)) (e : ReadFault) → member (next verilog i) (first verilog begins g) ≡ true
      → Fails e (reads verilog grammar d g i) → going ◌++◌ xs (reads verilog grammar d (many g) i) ≡ total → Fails e total
  others_fail xs i total read_fault.Memory t h k = tt
  others_fail xs i total (read_fault.At f) t h k = fails verilog grammar tables passes ◌++◌ d g takes ends xs i total (fault_view f) t h k

-- ---- one turn of it

pub item_read : (d : ℕ) (x : Kind) (p : Phrase) (i m o : List Lexeme) (t : Lexeme) (v : Value p) → take_one verilog (code x ∷ []) i ≡ Ok (t, m) → phrase verilog grammar d p m ≡ Ok (v, o)
    → reads verilog grammar d (after x (nest p)) i ≡ Ok (v, o)
item_read d x p i m o t v e h = rw (e, h) refl

pub no_token : (d : ℕ) (x : Kind) (p : Phrase) (i : List Lexeme) (f : ReadFault) → Fails f (take_one verilog (code x ∷ []) i) → Fails f (reads verilog grammar d (after x (nest p)) i)
no_token d x p i read_fault.Memory h = tt
no_token d x p i (read_fault.At f) h = rw h refl

pub no_phrase : (d : ℕ) (x : Kind) (p : Phrase) (i m : List Lexeme) (t : Lexeme) (f : ReadFault) → take_one verilog (code x ∷ []) i ≡ Ok (t, m) → Fails f (phrase verilog grammar d p m)
    → Fails f (reads verilog grammar d (after x (nest p)) i)
no_phrase d x p i m t read_fault.Memory e h = tt
no_phrase d x p i m t (read_fault.At f) e h = rw (e, h) refl
