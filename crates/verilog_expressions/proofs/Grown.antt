-- What grows, one part after the other.
use Rattle.std.proofs.Common.{◌≡◌, ℕ, ◌<◌, Bool, true, false, cond, if◌then◌else◌, nat_le, List, length, Ok, Err, refl, sym, ap, subst, ◌∙◌}
use Rattle.std.specs.Prelude.{◌&&◌}
use Rattle.verilog_lexer.specs.Tokens.{Lexeme}
use Rattle.grammar_rules.specs.Rule.{Rule, Growth, next, member, nullable, first, fault_at, too_deep, Fault as AnyFault, Outcome, ◌>>=◌}
use Rattle.grammar_rules.specs.Grammar.{reads}
use Rattle.grammar_rules.proofs.Loops.{grows_step}
use Rattle.grammar_rules.proofs.Language.{falls}
use Rattle.grammar_rules.proofs.Steps.{done_rest}
use Rattle.verilog_grammar.specs.Language.{verilog}
use Rattle.verilog_grammar.specs.Verilog.{grammar, begins}
use Rattle.verilog_grammar.proofs.Verilog.{tables, passes}
use Rattle.verilog_expressions.specs.declared.fault.ReadFault.{ReadFault}
use Rattle.verilog_expressions.specs.Gives.{Fails}
use Rattle.verilog_expressions.specs.Grows.{grows, grows_once}
use Rattle.verilog_expressions.proofs.Gives.{first_fails}

-- whatever follows what grows, at the first part
abbrev turned : {A B : Type 0} → ℕ → Growth verilog A → (A → B → A) → Rule verilog B → A → List Lexeme → Outcome verilog A
turned d w f h a i =
    cond (member (next verilog i) (first verilog begins h) && w.may a)
    (cond (nat_le (w.height a) d) (reads verilog grammar d h i >>= λ x. grows d w f h (f a x.0) x.1) (fault_at verilog (too_deep (w.deepest a)) i)) (Ok (a, i))

module _ {A B : Type 0} (d : ℕ) (w : Growth verilog A) (f : A → B → A) (h : Rule verilog B) (takes : nullable h ≡ false) (ends : member 0 (first verilog begins h) ≡ false) where
  step : (a : A) (i : List Lexeme) → grows d w f h a i ≡ turned d w f h a i
  step a i = grows_step verilog grammar tables passes d w f h takes ends a i

  -- where no part follows, nothing grows
  pub stays : (a : A) (i : List Lexeme) → member (next verilog i) (first verilog begins h) ≡ false → grows d w f h a i ≡ Ok (a, i)
  stays a i t = step a i ∙ rw t refl

  -- what may not grow does not
  pub stays_so : (a : A) (i : List Lexeme) → w.may a ≡ false → grows d w f h a i ≡ Ok (a, i)
  stays_so a i m = step a i ∙ stopped (member (next verilog i) (first verilog begins h)) (w.may a) _ _ m
    where
      stopped : (b c : Bool) (x y : Outcome verilog A) → c ≡ false → cond (b && c) x y ≡ y
      stopped true c x y e = rw e refl
      stopped false c x y e = refl

  once_more : (n : Bool) (x : Outcome verilog B) (a : A) (i : List Lexeme) →
      cond n (x >>= λ y. grows d w f h (f a y.0) y.1) (fault_at verilog (too_deep (w.deepest a)) i)
      ≡ ((if n then (x >>= λ y. Ok (f a y.0, y.1)) else fault_at verilog (too_deep (w.deepest a)) i) >>= λ y. grows d w f h y.0 y.1)
  once_more true (Ok y) a i = refl
  once_more true (Err e) a i = refl
  once_more false x a i = refl

  -- where a part follows, it grows by that and then by those after it
  pub goes_on : (a : A) (i : List Lexeme) → member (next verilog i) (first verilog begins h) ≡ true → w.may a ≡ true
      → grows d w f h a i ≡ (grows_once d w f h a i >>= λ y. grows d w f h y.0 y.1)
  goes_on a i t m = step a i ∙ (rw (t, m) refl ∙ once_more (nat_le (w.height a) d) (reads verilog grammar d h i) a i)

  -- ---- the same of a loop

  pub more : (a b : A) (i m : List Lexeme) (total : Outcome verilog A) → member (next verilog i) (first verilog begins h) ≡ true → w.may a ≡ true → grows_once d w f h a i ≡ Ok (b, m)
      → grows d w f h a i ≡ total → grows d w f h b m ≡ total
  more a b i m total t k e q = sym (goes_on a i t k ∙ ap (λ (o : Outcome verilog A). o >>= λ y. grows d w f h y.0 y.1) e) ∙ q

  pub more_fails : (a : A) (i : List Lexeme) (total : Outcome verilog A) (e : ReadFault) → member (next verilog i) (first verilog begins h) ≡ true → w.may a ≡ true
      → Fails e (grows_once d w f h a i)
      → grows d w f h a i ≡ total → Fails e total
  more_fails a i total e t k x q = subst (λ (o : Outcome verilog A). Fails e o) (sym (goes_on a i t k) ∙ q) (first_fails e (grows_once d w f h a i) (λ y. grows d w f h y.0 y.1) x)

  taken_by : (n : Bool) (x : Outcome verilog B) (g : AnyFault verilog) (a b : A) (i m : List Lexeme) → ((y : B) (o : List Lexeme) → x ≡ Ok (y, o) → length o < length i)
      → ◌≡◌ {A = Outcome verilog A} (if n then (x >>= λ y. Ok (f a y.0, y.1)) else Err g) (Ok (b, m)) → length m < length i
  taken_by true (Ok y) g a b i m l e = subst (λ (o : List Lexeme). length o < length i) (done_rest {F = AnyFault verilog} (f a y.0) b y.1 m e) (l y.0 y.1 refl)
  taken_by true (Err x) g a b i m l e = absurd cc
  taken_by false x g a b i m l e = absurd cc

  pub takes_tokens : (a b : A) (i m : List Lexeme) → grows_once d w f h a i ≡ Ok (b, m) → length m < length i
  takes_tokens a b i m e = taken_by (nat_le (w.height a) d) (reads verilog grammar d h i) _ a b i m (falls verilog grammar tables passes d h takes i) e
