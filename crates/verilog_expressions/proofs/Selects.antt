-- Names with selects.
use Rattle.std.proofs.Common.{◌≡◌, ℕ, Bool, true, false, nat_le, List, Ok, Err, refl, ap, subst, ◌∙◌}
use Rattle.std.specs.Prelude.{◌==◌, if◌then◌else◌}
use Rattle.verilog_lexer.specs.Tokens.{Lexeme}
use Rattle.verilog_tree.specs.Tree.{Expr, literal, identifier, bit_select, part_select, indexed_part, unary_operator, binary_operator, conditional, concatenation, replication, sign_cast, parentheses}
use Rattle.verilog_tree.specs.Depth.{depth}
use Rattle.grammar_rules.specs.Rule.{grow, made, next, Fault as AnyFault, Outcome, ◌>>=◌}
use Rattle.grammar_rules.specs.Grammar.{reads}
use Rattle.grammar_rules.proofs.Steps.{bind_ok, done_value}
use Rattle.verilog_grammar.specs.declared.kind.Kind.TheVariants as k
use Rattle.verilog_grammar.specs.Kind.{code}
use Rattle.verilog_grammar.specs.Language.{verilog}
use Rattle.verilog_grammar.specs.Parts.{Phrased, only}
use Rattle.verilog_grammar.specs.Verilog.{grammar}
use Rattle.verilog_grammar.specs.Expressions.{Select, SelectEnd, closed, low_end, up_end, down_end, select_rule, selected, selected_by}
use Rattle.verilog_grammar.specs.Expressions.{is_identifier, identifier_of, growing_where, is_selected_once, may_be_indexed}
use Rattle.verilog_expressions.specs.Measured.{is_bit_select}
use Rattle.verilog_expressions.specs.declared.fault.ReadFault.{ReadFault}
use Rattle.verilog_expressions.specs.Gives.{Fails}
use Rattle.verilog_expressions.specs.Grows.{grows, by_select}
use Rattle.verilog_expressions.proofs.Grown.{stays, stays_so, goes_on}
use Rattle.verilog_expressions.proofs.Gives.{first_fails}

-- ---- how many selects

no_name : (x : Expr) (t : Lexeme) (e : Expr) (s : SelectEnd) → is_identifier (selected_by x t e s) ≡ false
no_name x t e closed = refl
no_name x t e (low_end l) = refl
no_name x t e (up_end w) = refl
no_name x t e (down_end w) = refl

once_so : (x : Expr) (t : Lexeme) (e : Expr) (s : SelectEnd) → is_selected_once (selected_by x t e s) ≡ is_identifier x
once_so x t e closed = refl
once_so x t e (low_end l) = refl
once_so x t e (up_end w) = refl
once_so x t e (down_end w) = refl

indexed_so : (x : Expr) (t : Lexeme) (e : Expr) (s : SelectEnd) → may_be_indexed (selected_by x t e s) ≡ (if is_bit_select (selected_by x t e s) then is_identifier x else false)
indexed_so x t e closed = refl
indexed_so x t e (low_end l) = refl
indexed_so x t e (up_end w) = refl
indexed_so x t e (down_end w) = refl

never : (b : Bool) → (if b then false else false) ≡ false
never true = refl
never false = refl

-- a name may be selected from and indexed
pub name_once : (x : Expr) → is_identifier x ≡ true → is_selected_once x ≡ true
name_once (identifier p x) h = refl
name_once (literal p v) h = absurd cc
name_once (bit_select p x i) h = absurd cc
name_once (part_select p x a b k) h = absurd cc
name_once (indexed_part p x a b u k) h = absurd cc
name_once (unary_operator p op a) h = absurd cc
name_once (binary_operator p op a b) h = absurd cc
name_once (conditional p c a b) h = absurd cc
name_once (concatenation p es) h = absurd cc
name_once (replication p n es) h = absurd cc
name_once (sign_cast p s a) h = absurd cc
name_once (parentheses p a) h = absurd cc

pub name_indexed : (x : Expr) → is_identifier x ≡ true → may_be_indexed x ≡ true
name_indexed (identifier p x) h = refl
name_indexed (literal p v) h = absurd cc
name_indexed (bit_select p x i) h = absurd cc
name_indexed (part_select p x a b k) h = absurd cc
name_indexed (indexed_part p x a b u k) h = absurd cc
name_indexed (unary_operator p op a) h = absurd cc
name_indexed (binary_operator p op a b) h = absurd cc
name_indexed (conditional p c a b) h = absurd cc
name_indexed (concatenation p es) h = absurd cc
name_indexed (replication p n es) h = absurd cc
name_indexed (sign_cast p s a) h = absurd cc
name_indexed (parentheses p a) h = absurd cc

-- a select of a name
pub once : (x : Expr) (s : Select) → is_identifier x ≡ true → is_selected_once (selected x s) ≡ true
once x s h = once_so x s.0 s.1.0 s.1.1 ∙ h

-- a select of a select
pub twice : (x : Expr) (r s : Select) → is_selected_once (selected (selected x r) s) ≡ false
twice x r s = once_so (selected x r) s.0 s.1.0 s.1.1 ∙ no_name x r.0 r.1.0 r.1.1

pub indexed : (x : Expr) (s : Select) → is_identifier x ≡ true → may_be_indexed (selected x s) ≡ is_bit_select (selected x s)
indexed x s h = indexed_so x s.0 s.1.0 s.1.1 ∙ ap (λ (b : Bool). if is_bit_select (selected x s) then b else false) h ∙ whole (is_bit_select (selected x s))
  where
    whole : (b : Bool) → (if b then true else false) ≡ b
    whole true = refl
    whole false = refl

pub indexed_twice : (x : Expr) (r s : Select) → may_be_indexed (selected (selected x r) s) ≡ false
indexed_twice x r s =
    indexed_so (selected x r) s.0 s.1.0 s.1.1 ∙ ap (λ (b : Bool). if is_bit_select (selected (selected x r) s) then b else false) (no_name x r.0 r.1.0 r.1.1)
    ∙ never (is_bit_select (selected (selected x r) s))

-- ---- what is read

abbrev name_is : Phrased Expr
name_is = made identifier_of (only k.Identifier)

-- what is read as a name is one
pub named : (i : List Lexeme) (v : Expr) (m : List Lexeme) → reads verilog grammar 0 name_is i ≡ Ok (v, m) → is_identifier v ≡ true
named i v m e =
    let a = bind_ok (reads verilog grammar 0 (only k.Identifier) i) (λ x. Ok (identifier_of x.0, x.1)) (v, m) e in
    subst (λ (x : Expr). is_identifier x ≡ true) (done_value {F = AnyFault verilog} (identifier_of a.0.0) v a.0.1 m a.2) refl

selected_if : (a : Expr) (b : Bool) (o : Outcome verilog Select) (f : AnyFault verilog) (v : Expr) (m : List Lexeme)
    → ◌≡◌ {A = Outcome verilog Expr} (if b then (o >>= λ y. Ok (selected a y.0, y.1)) else Err f) (Ok (v, m)) → (s : Select) × (selected a s ≡ v)
selected_if a true (Ok y) f v m e = (y.0, done_value {F = AnyFault verilog} (selected a y.0) v y.1 m e)
selected_if a true (Err g) f v m e = absurd cc
selected_if a false o f v m e = absurd cc

pub select_found : (d : ℕ) (a : Expr) (i : List Lexeme) (v : Expr) (m : List Lexeme) → by_select d a i ≡ Ok (v, m) → (s : Select) × (selected a s ≡ v)
select_found d a i v m e = selected_if a (nat_le (depth a).height d) (reads verilog grammar d select_rule i) _ v m e

-- a select of a name, with one more select after it
pub once_read : (d : ℕ) (i m o : List Lexeme) (v x : Expr) → reads verilog grammar 0 name_is i ≡ Ok (v, m) → by_select d v m ≡ Ok (x, o) → is_selected_once x ≡ true
once_read d i m o v x e h = let s = select_found d v m x o h in subst (λ (y : Expr). is_selected_once y ≡ true) s.1 (once v s.0 (named i v m e))

pub indexed_read : (d : ℕ) (i m o : List Lexeme) (v x : Expr) → reads verilog grammar 0 name_is i ≡ Ok (v, m) → by_select d v m ≡ Ok (x, o) → may_be_indexed x ≡ is_bit_select x
indexed_read d i m o v x e h = let s = select_found d v m x o h in subst (λ (y : Expr). may_be_indexed y ≡ is_bit_select y) s.1 (indexed v s.0 (named i v m e))

-- a name that grows by selects as long as it may, which it may once, and after two selects may not
module _ (d : ℕ) (may : Expr → Bool) (starts : (x : Expr) → is_identifier x ≡ true → may x ≡ true) (stops : (x : Expr) (r s : Select) → may (selected (selected x r) s) ≡ false) where
  abbrev rule : Phrased Expr
  rule = grow (growing_where true may) selected tt name_is select_rule

  abbrev grown : Outcome verilog Expr → Outcome verilog Expr
  grown o = o >>= λ x. grows d (growing_where true may) selected select_rule x.0 x.1

  pub name_alone : (i : List Lexeme) (v : Expr) (m : List Lexeme) → reads verilog grammar 0 name_is i ≡ Ok (v, m)
      → (next verilog m == code k.OpenBracket) ≡ false → reads verilog grammar d rule i ≡ Ok (v, m)
  unfolding select_rule
  name_alone i v m e t = ap grown e ∙ stays d (growing_where true may) selected select_rule refl refl v m t

  pub name_selected : (i : List Lexeme) (v : Expr) (m : List Lexeme) → reads verilog grammar 0 name_is i ≡ Ok (v, m)
      → (next verilog m == code k.OpenBracket) ≡ true
      → reads verilog grammar d rule i ≡ grown (by_select d v m)
  unfolding select_rule
  name_selected i v m e t = ap grown e ∙ goes_on d (growing_where true may) selected select_rule refl refl v m t (starts v (named i v m e))

  pub name_fails : (i : List Lexeme) (v : Expr) (m : List Lexeme) (f : ReadFault) → reads verilog grammar 0 name_is i ≡ Ok (v, m)
      → (next verilog m == code k.OpenBracket) ≡ true
      → Fails f (by_select d v m) → Fails f (reads verilog grammar d rule i)
  name_fails i v m f e t h = rw (name_selected i v m e t) (first_fails f (by_select d v m) _ h)

  pub once_alone : (i : List Lexeme) (v : Expr) (m : List Lexeme) (x : Expr) (o : List Lexeme) → reads verilog grammar 0 name_is i ≡ Ok (v, m)
      → (next verilog m == code k.OpenBracket) ≡ true → by_select d v m ≡ Ok (x, o)
      → (next verilog o == code k.OpenBracket) ≡ false → reads verilog grammar d rule i ≡ Ok (x, o)
  unfolding select_rule
  once_alone i v m x o e t h n = name_selected i v m e t ∙ ap grown h ∙ stays d (growing_where true may) selected select_rule refl refl x o n

  pub once_final : (i : List Lexeme) (v : Expr) (m : List Lexeme) (x : Expr) (o : List Lexeme) → reads verilog grammar 0 name_is i ≡ Ok (v, m)
      → (next verilog m == code k.OpenBracket) ≡ true → by_select d v m ≡ Ok (x, o)
      → may x ≡ false → reads verilog grammar d rule i ≡ Ok (x, o)
  unfolding select_rule
  once_final i v m x o e t h n = name_selected i v m e t ∙ ap grown h ∙ stays_so d (growing_where true may) selected select_rule refl refl x o n

  -- after two selects there is no third
  no_third : (x : Expr) (r : Select) (b : Bool) (o : Outcome verilog Select) (f : AnyFault verilog)
      → grown (if b then (o >>= λ y. Ok (selected (selected x r) y.0, y.1)) else Err f) ≡ (if b then (o >>= λ y. Ok (selected (selected x r) y.0, y.1)) else Err f)
  unfolding select_rule
  no_third x r true (Ok y) f = stays_so d (growing_where true may) selected select_rule refl refl (selected (selected x r) y.0) y.1 (stops x r y.0)
  no_third x r true (Err g) f = refl
  no_third x r false o f = refl

  pub twice_selected : (i : List Lexeme) (v : Expr) (m : List Lexeme) (x : Expr) (o : List Lexeme) → reads verilog grammar 0 name_is i ≡ Ok (v, m)
      → (next verilog m == code k.OpenBracket) ≡ true → by_select d v m ≡ Ok (x, o)
      → (next verilog o == code k.OpenBracket) ≡ true → may x ≡ true → reads verilog grammar d rule i ≡ by_select d x o
  unfolding select_rule
  twice_selected i v m x o e t h n a =
      let s = select_found d v m x o h in
      name_selected i v m e t ∙ ap grown h ∙ goes_on d (growing_where true may) selected select_rule refl refl x o n a
      ∙ subst (λ (y : Expr). grown (by_select d y o) ≡ by_select d y o) s.1
      (no_third v s.0 (nat_le (depth (selected v s.0)).height d) (reads verilog grammar d select_rule o) _)
