-- How a loop over a repetition begins, and what fails in it.
use Rattle.std.proofs.Common.{◌≡◌, ℕ, true, false, List, [], ◌∷◌, ◌++◌, append_assoc, Ok, Err, refl, sym, ap}
use Rattle.std.proofs.lemmas.List.{append-nil}
use Rattle.verilog_lexer.specs.Tokens.{Lexeme}
use Rattle.grammar_rules.specs.Rule.{both, many, made, going, next, member, nullable, first, Outcome, ◌>>=◌}
use Rattle.grammar_rules.specs.Grammar.{reads}
use Rattle.grammar_rules.proofs.Loops.{one_more, no_more, fails}
use Rattle.verilog_grammar.specs.Language.{verilog}
use Rattle.verilog_grammar.specs.Verilog.{grammar, begins}
use Rattle.verilog_grammar.specs.Parts.{Phrased, with_front}
use Rattle.verilog_grammar.proofs.Verilog.{tables, passes}
use Rattle.verilog_expressions.specs.declared.fault.ReadFault.{ReadFault}
use Rattle.verilog_expressions.specs.declared.fault.ReadFault.TheVariants as read_fault
use Rattle.verilog_expressions.specs.Gives.{Fails, fault_view}

-- one that is begun and fails
pub turn_fails : {S A B : Type 0} (fin : S → List A → B) (d : ℕ) (g : Phrased A) → nullable g ≡ false → member 0 (first verilog begins g) ≡ false
    → (s : S) (e : ReadFault) (i : List Lexeme) (total : Outcome verilog B) → member (next verilog i) (first verilog begins g) ≡ true → Fails e (reads verilog grammar d g i)
    → going fin s (reads verilog grammar d (many g) i) ≡ total → Fails e total
turn_fails fin d g n z s read_fault.Memory i total t e h = tt
turn_fails fin d g n z s (read_fault.At f) i total t e h = fails verilog grammar tables passes fin d g n z s i total (fault_view f) t e h

-- a value in front of what is read
abbrev pub paired : {A B : Type 0} → A → Outcome verilog B → Outcome verilog (A × B)
paired a o = o >>= λ y. Ok ((a, y.0), y.1)

-- what is made of what is read
abbrev pub mapped : {A B : Type 0} → (A → B) → Outcome verilog A → Outcome verilog B
mapped f o = o >>= λ x. Ok (f x.0, x.1)

regroup : {A B : Type 0} (fin : B → List A → B) (f : List A → B) (s : B) (a : A) (o : Outcome verilog (List A)) → ((vs : List A) → fin s vs ≡ f (a ∷ vs))
    → going fin s o ≡ mapped f (mapped with_front (paired a o))
regroup {B = B} fin f s a (Ok y) law = ap (λ (b : B). Ok (b, y.1)) (law y.0)
regroup fin f s a (Err x) law = refl

-- one that was read, and a repetition after it
pub begun : {A B : Type 0} (fin : B → List A → B) (f : List A → B) (d : ℕ) (g h : Phrased A) (s : B) (a : A) (i m : List Lexeme)
    → ((vs : List A) → fin s vs ≡ f (a ∷ vs)) → reads verilog grammar d g i ≡ Ok (a, m)
    → going fin s (reads verilog grammar d (many h) m) ≡ reads verilog grammar d (made f (made with_front (both g (many h)))) i
begun fin f d g h s a i m law e = rw e (regroup fin f s a (reads verilog grammar d (many h) m) law)

regroup_list : {A : Type 0} (a : A) (o : Outcome verilog (List A)) → going ◌++◌ (a ∷ []) o ≡ mapped with_front (paired a o)
regroup_list a (Ok y) = refl
regroup_list a (Err x) = refl

-- the same of a list
pub list_begun : {A : Type 0} (d : ℕ) (g h : Phrased A) (xs ys : List A) (a : A) (i m : List Lexeme) → xs ≡ [] → ys ≡ xs ++ a ∷ [] → reads verilog grammar d g i ≡ Ok (a, m)
    → going ◌++◌ ys (reads verilog grammar d (many h) m) ≡ reads verilog grammar d (made with_front (both g (many h))) i
list_begun d g h xs ys a i m n y e = rw (y, n, e) (regroup_list a (reads verilog grammar d (many h) m))

-- a loop that pushes what it reads, where that is its own view
pub plain_pushed : {A : Type 0} (d : ℕ) (g : Phrased A) (xs ys : List A) (x : A) (i m : List Lexeme) (total : Outcome verilog (List A)) → nullable g ≡ false → member 0 (first verilog begins g) ≡ false
    → ys ≡ xs ++ x ∷ [] → member (next verilog i) (first verilog begins g) ≡ true → reads verilog grammar d g i ≡ Ok (x, m)
    → going ◌++◌ xs (reads verilog grammar d (many g) i) ≡ total → going ◌++◌ ys (reads verilog grammar d (many g) m) ≡ total
plain_pushed d g xs ys x i m total n z e t h k =
    rw e (one_more verilog grammar tables passes ◌++◌ d g n z xs (xs ++ x ∷ []) x i m total (λ vs. sym (append_assoc xs (x ∷ []) vs)) t h k)

pub plain_ends : {A : Type 0} (d : ℕ) (g : Phrased A) (xs : List A) (i : List Lexeme) (total : Outcome verilog (List A)) → nullable g ≡ false → member 0 (first verilog begins g) ≡ false
    → member (next verilog i) (first verilog begins g) ≡ false → going ◌++◌ xs (reads verilog grammar d (many g) i) ≡ total → total ≡ Ok (xs, i)
plain_ends d g xs i total n z t k = let done = no_more verilog grammar tables passes ◌++◌ d g n z xs i total t k in rw append-nil at done
