-- What follows the words of processes.
use Rattle.std.proofs.Common.{◌≡◌, ℕ, List, [], ◌∷◌, ◌++◌, map, append_assoc, Ok, Err, refl, sym, ◌∙◌}
use Rattle.std.proofs.lemmas.List.{map_push}
use Rattle.verilog_lexer.specs.Tokens.{Lexeme}
use Rattle.grammar_rules.specs.Rule.{made, take_one, Outcome, ◌>>=◌}
use Rattle.grammar_rules.specs.Grammar.{reads}
use Rattle.verilog_grammar.specs.Kind.{code}
use Rattle.verilog_grammar.specs.declared.kind.Kind.{Kind}
use Rattle.verilog_grammar.specs.declared.kind.Kind.TheVariants as k
use Rattle.verilog_grammar.specs.Language.{verilog}
use Rattle.verilog_grammar.specs.Verilog.{grammar}
use Rattle.verilog_grammar.specs.Parts.{Phrased, only, before, first_of_two, listed}
use Rattle.verilog_grammar.specs.Statements.{set_rule}
use Rattle.verilog_grammar.specs.Modules.{continuous_item_of, continuous_items_of, continuous_item_rule}
use Rattle.verilog_expressions.specs.declared.fault.ReadFault.{ReadFault}
use Rattle.verilog_expressions.specs.declared.fault.ReadFault.TheVariants as read_fault
use Rattle.verilog_expressions.specs.Gives.{Fails}
use Rattle.verilog_parser.proofs.Repeated.{paired, mapped}
use Rattle.verilog_parser.proofs.Statements.{made_behind}

-- what is read twice, where of the second nothing is kept
abbrev followed : {A B : Type 0} → Outcome verilog A → (List Lexeme → Outcome verilog B) → Outcome verilog (A × B)
followed o k = o >>= λ x. paired x.0 (k x.1)

move_dropped : {A B C : Type 0} (f : A → C) (a : A) (o : Outcome verilog B) → mapped f (mapped first_of_two (paired a o)) ≡ mapped first_of_two (paired (f a) o)
move_dropped f a (Ok y) = refl
move_dropped f a (Err x) = refl

move_made : {A B C : Type 0} (f : A → C) (o : Outcome verilog A) (r : List Lexeme → Outcome verilog B)
    → mapped f (mapped first_of_two (followed o r)) ≡ mapped first_of_two (followed (mapped f o) r)
move_made f (Ok x) r = move_dropped f x.0 (r x.1)
move_made f (Err x) r = refl

-- what is made of a value before a token
pub made_before : {A C : Type 0} (f : A → C) (d : ℕ) (g : Phrased A) (x : Kind) (i : List Lexeme)
    → reads verilog grammar d (made f (before g x)) i ≡ reads verilog grammar d (before (made f g) x) i
made_before f d g x i = move_made f (reads verilog grammar d g i) (λ m. take_one verilog (code x ∷ []) m)

-- a value before a token, where reading it fails
pub before_fails : {A : Type 0} (e : ReadFault) (d : ℕ) (g : Phrased A) (x : Kind) (i : List Lexeme) → Fails e (reads verilog grammar d g i) → Fails e (reads verilog grammar d (before g x) i)
before_fails read_fault.Memory d g x i h = tt
before_fails (read_fault.At f) d g x i h = rw h refl

-- the same, where the token is missing
pub before_lacks : {A : Type 0} (e : ReadFault) (d : ℕ) (g : Phrased A) (x : Kind) (i m : List Lexeme) (a : A)
    → reads verilog grammar d g i ≡ Ok (a, m) → Fails e (take_one verilog (code x ∷ []) m) → Fails e (reads verilog grammar d (before g x) i)
before_lacks read_fault.Memory d g x i m a h k = tt
before_lacks (read_fault.At f) d g x i m a h k = rw (h, k) refl

-- what follows an assign, which has this place
pub assign_reads : (d : ℕ) (i m : List Lexeme) (t : Lexeme) → take_one verilog (code k.Assign ∷ []) i ≡ Ok (t, m)
    → reads verilog grammar d continuous_item_rule i ≡ reads verilog grammar d (before (made (map (continuous_item_of t.place)) (listed set_rule)) k.Semicolon) m
unfolding continuous_item_rule set_rule
assign_reads d i m t e =
    made_behind continuous_items_of d (only k.Assign) (before (listed set_rule) k.Semicolon) i m t e
    ∙ made_before (map (continuous_item_of t.place)) d (listed set_rule) k.Semicolon m

-- what came so far, with what is made of each value after it
abbrev pub push_made : {A B : Type 0} → (A → B) → List B → List A → List B
push_made f s vs = s ++ map f vs

pub made_first : {X A B : Type 0} (view : X → B) (f : A → B) (xs ys : List X) (x : X) (a : A) → xs ≡ [] → ys ≡ xs ++ x ∷ [] → view x ≡ f a
    → (vs : List A) → push_made f (map view ys) vs ≡ map f (a ∷ vs)
made_first view f xs ys x a n e h vs = rw (e, n, h) refl

pub made_pushed : {X A B : Type 0} (view : X → B) (f : A → B) (xs ys : List X) (x : X) (a : A) → ys ≡ xs ++ x ∷ [] → view x ≡ f a
    → (vs : List A) → push_made f (map view xs) (a ∷ vs) ≡ push_made f (map view ys) vs
made_pushed view f xs ys x a e h vs = rw (e, map_push view xs x, h) (sym (append_assoc (map view xs) (f a ∷ []) (map f vs)))
