-- Loops over what follows commas.
use Rattle.std.proofs.Common.{◌≡◌, ℕ, true, false, List, [], ◌∷◌, ◌++◌, map, append_assoc, length, ◌<◌, Ok, Err, refl, sym, ap}
use Rattle.std.proofs.lemmas.List.{map-append, map_push, append-nil}
use Rattle.std.specs.Prelude.{◌==◌}
use Rattle.verilog_lexer.specs.Tokens.{Lexeme}
use Rattle.grammar_rules.specs.Rule.{both, many, made, going, next, member, nullable, first, take_one, Outcome, ◌>>=◌}
use Rattle.grammar_rules.specs.Grammar.{reads}
use Rattle.grammar_rules.proofs.Language.{falls}
use Rattle.grammar_rules.proofs.Loops.{one_more, no_more, fails}
use Rattle.verilog_grammar.specs.declared.kind.Kind.TheVariants as k
use Rattle.verilog_grammar.specs.Kind.{code}
use Rattle.verilog_grammar.specs.Language.{verilog}
use Rattle.verilog_grammar.specs.Verilog.{grammar, begins}
use Rattle.verilog_grammar.specs.Parts.{Phrased, after, listed, with_front}
use Rattle.verilog_grammar.proofs.Verilog.{tables, passes}
use Rattle.verilog_expressions.specs.declared.fault.ReadFault.{ReadFault}
use Rattle.verilog_expressions.specs.declared.fault.ReadFault.TheVariants as read_fault
use Rattle.verilog_expressions.specs.Gives.{Fails, fault_view}

-- what follows commas
abbrev pub behind : {A : Type 0} → Phrased A → Phrased (List A)
behind g = many (after k.Comma g)

-- a value in front of what is read
abbrev paired : {A B : Type 0} → A → Outcome verilog (List B) → Outcome verilog (A × List B)
paired a o = o >>= λ y. Ok ((a, y.0), y.1)

-- what is made of what is read
abbrev mapped : {A B : Type 0} → (A → B) → Outcome verilog A → Outcome verilog B
mapped f o = o >>= λ x. Ok (f x.0, x.1)

-- ---- what came so far and what follows, joined by a function

join_first : {S A B C : Type 0} (fin : S → List B → C) (f : A × List B → C) (s : S) (a : A) (o : Outcome verilog (List B))
    → ((vs : List B) → fin s vs ≡ f (a, vs)) → going fin s o ≡ mapped f (paired a o)
join_first {C = C} fin f s a (Ok x) law = ap (λ (c : C). Ok (c, x.1)) (law x.0)
join_first fin f s a (Err e) law = refl

pub both_begun : {S A B C : Type 0} (fin : S → List B → C) (f : A × List B → C) (d : ℕ) (g : Phrased A) (h : Phrased B) (s : S) (a : A) (i m : List Lexeme)
    → ((vs : List B) → fin s vs ≡ f (a, vs)) → reads verilog grammar d g i ≡ Ok (a, m)
    → going fin s (reads verilog grammar d (behind h) m) ≡ reads verilog grammar d (made f (both g (behind h))) i
both_begun fin f d g h s a i m law e = rw e (join_first fin f s a (reads verilog grammar d (behind h) m) law)

join_list : {S B C : Type 0} (fin : S → List B → C) (f : List B → C) (s : S) (a : B) (o : Outcome verilog (List B))
    → ((vs : List B) → fin s vs ≡ f (a ∷ vs)) → going fin s o ≡ mapped f (mapped with_front (paired a o))
join_list {C = C} fin f s a (Ok x) law = ap (λ (c : C). Ok (c, x.1)) (law x.0)
join_list fin f s a (Err e) law = refl

pub made_begun : {S B C : Type 0} (fin : S → List B → C) (f : List B → C) (d : ℕ) (g : Phrased B) (s : S) (a : B) (i m : List Lexeme)
    → ((vs : List B) → fin s vs ≡ f (a ∷ vs)) → reads verilog grammar d g i ≡ Ok (a, m)
    → going fin s (reads verilog grammar d (behind g) m) ≡ reads verilog grammar d (made f (listed g)) i
made_begun fin f d g s a i m law e = rw e (join_list fin f s a (reads verilog grammar d (behind g) m) law)

one_behind : {A : Type 0} (d : ℕ) (g : Phrased A) (t : Lexeme) (a : A) (i m n : List Lexeme)
    → take_one verilog (code k.Comma ∷ []) i ≡ Ok (t, m) → reads verilog grammar d g m ≡ Ok (a, n) → reads verilog grammar d (after k.Comma g) i ≡ Ok (a, n)
one_behind d g t a i m n c e = rw (c, e) refl

pub more_behind : {S A B : Type 0} (fin : S → List A → B) (d : ℕ) (g : Phrased A) (s u : S) (t : Lexeme) (a : A) (i m n : List Lexeme) (total : Outcome verilog B)
    → ((vs : List A) → fin s (a ∷ vs) ≡ fin u vs) → (next verilog i == code k.Comma) ≡ true → take_one verilog (code k.Comma ∷ []) i ≡ Ok (t, m) → reads verilog grammar d g m ≡ Ok (a, n)
    → going fin s (reads verilog grammar d (behind g) i) ≡ total → going fin u (reads verilog grammar d (behind g) n) ≡ total
more_behind fin d g s u t a i m n total law sees c e h =
    one_more verilog grammar tables passes fin d (after k.Comma g) refl refl s u a i n total law sees (one_behind d g t a i m n c e) h

pub none_behind : {S A B : Type 0} (fin : S → List A → B) (d : ℕ) (g : Phrased A) (s : S) (i : List Lexeme) (total : Outcome verilog B)
    → (next verilog i == code k.Comma) ≡ false → going fin s (reads verilog grammar d (behind g) i) ≡ total → total ≡ Ok (fin s [], i)
none_behind fin d g s i total sees h = no_more verilog grammar tables passes fin d (after k.Comma g) refl refl s i total sees h

pub behind_falls : {A : Type 0} (d : ℕ) (g : Phrased A) (t : Lexeme) (a : A) (i m n : List Lexeme)
    → take_one verilog (code k.Comma ∷ []) i ≡ Ok (t, m) → reads verilog grammar d g m ≡ Ok (a, n) → length n < length i
behind_falls d g t a i m n c e = falls verilog grammar tables passes d (after k.Comma g) refl i a n (one_behind d g t a i m n c e)

-- a comma that is missing
pub comma_fails : {S A B : Type 0} (fin : S → List A → B) (d : ℕ) (g : Phrased A) (s : S) (e : ReadFault) (i : List Lexeme) (total : Outcome verilog B)
    → (next verilog i == code k.Comma) ≡ true → Fails e (take_one verilog (code k.Comma ∷ []) i) → going fin s (reads verilog grammar d (behind g) i) ≡ total → Fails e total
comma_fails fin d g s read_fault.Memory i total sees c h = tt
comma_fails fin d g s (read_fault.At f) i total sees c h =
    fails verilog grammar tables passes fin d (after k.Comma g) refl refl s i total (fault_view f) sees (rw c refl) h

-- what follows a comma
pub item_fails : {S A B : Type 0} (fin : S → List A → B) (d : ℕ) (g : Phrased A) (s : S) (e : ReadFault) (t : Lexeme) (i m : List Lexeme) (total : Outcome verilog B)
    → (next verilog i == code k.Comma) ≡ true → take_one verilog (code k.Comma ∷ []) i ≡ Ok (t, m) → Fails e (reads verilog grammar d g m)
    → going fin s (reads verilog grammar d (behind g) i) ≡ total → Fails e total
item_fails fin d g s read_fault.Memory t i m total sees c e h = tt
item_fails fin d g s (read_fault.At f) t i m total sees c e h =
    fails verilog grammar tables passes fin d (after k.Comma g) refl refl s i total (fault_view f) sees (rw (c, e) refl) h

-- ---- what came so far in a list

pub viewed : {X A : Type 0} (view : X → A) (xs ys : List X) (x : X) → ys ≡ xs ++ x ∷ [] → map view ys ≡ map view xs ++ view x ∷ []
viewed view xs ys x e = rw e (map_push view xs x)

-- the view of a list that has one
pub viewed_first : {X A : Type 0} (view : X → A) (xs ys : List X) (x : X) → xs ≡ [] → ys ≡ xs ++ x ∷ [] → map view ys ≡ view x ∷ []
viewed_first view xs ys x n e = rw (e, n) refl

-- the view of a list with one more, which is seen as this
pub viewed_as : {X A : Type 0} (view : X → A) (xs ys : List X) (x : X) (a : A) → ys ≡ xs ++ x ∷ [] → view x ≡ a → map view ys ≡ map view xs ++ a ∷ []
viewed_as view xs ys x a e v = rw (e, map_push view xs x, v) refl

pub list_begun : {A : Type 0} (d : ℕ) (g : Phrased A) (ys : List A) (a : A) (i m : List Lexeme) → ys ≡ a ∷ [] → reads verilog grammar d g i ≡ Ok (a, m)
    → going ◌++◌ ys (reads verilog grammar d (behind g) m) ≡ reads verilog grammar d (listed g) i
list_begun d g ys a i m y e = rw (y, e) (join_listed a (reads verilog grammar d (behind g) m))
  where
    join_listed : {B : Type 0} (b : B) (o : Outcome verilog (List B)) → going ◌++◌ (b ∷ []) o ≡ mapped with_front (paired b o)
    join_listed b (Ok x) = refl
    join_listed b (Err e) = refl

pub list_more : {A : Type 0} (d : ℕ) (g : Phrased A) (xs ys : List A) (t : Lexeme) (a : A) (i m n : List Lexeme) (total : Outcome verilog (List A))
    → ys ≡ xs ++ a ∷ [] → (next verilog i == code k.Comma) ≡ true → take_one verilog (code k.Comma ∷ []) i ≡ Ok (t, m) → reads verilog grammar d g m ≡ Ok (a, n)
    → going ◌++◌ xs (reads verilog grammar d (behind g) i) ≡ total → going ◌++◌ ys (reads verilog grammar d (behind g) n) ≡ total
list_more d g xs ys t a i m n total y sees c e h = rw y (more_behind ◌++◌ d g xs (xs ++ a ∷ []) t a i m n total (λ vs. sym (append_assoc xs (a ∷ []) vs)) sees c e h)

pub list_done : {A : Type 0} (d : ℕ) (g : Phrased A) (xs : List A) (i : List Lexeme) (total : Outcome verilog (List A))
    → (next verilog i == code k.Comma) ≡ false → going ◌++◌ xs (reads verilog grammar d (behind g) i) ≡ total → total ≡ Ok (xs, i)
list_done d g xs i total sees h = let done = none_behind ◌++◌ d g xs i total sees h in rw append-nil at done

pub nothing_yet : {A : Type 0} (xs : List A) (o : Outcome verilog (List A)) → xs ≡ [] → going ◌++◌ xs o ≡ o
nothing_yet xs (Ok x) e = rw e refl
nothing_yet xs (Err f) e = refl

pub view_appended : {X A : Type 0} (view : X → A) (xs ys zs : List X) → ys ≡ xs ++ zs → map view ys ≡ map view xs ++ map view zs
view_appended view xs ys zs e = rw (e, map-append view xs zs) refl

-- two views of one list that are pushed together
pub both_pushed : {X A B : Type 0} (f : X → A) (h : B → A) (v : X → B) (xs ys : List X) (x : X) → ys ≡ xs ++ x ∷ [] → map f xs ≡ map h (map v xs) → f x ≡ h (v x) → map f ys ≡ map h (map v ys)
both_pushed f h v xs ys x e k l = rw (e, map_push f xs x, map_push v xs x, map_push h (map v xs) (v x), k, l) refl

-- two views of a list without parts
pub both_none : {X A B : Type 0} (f : X → A) (h : B → A) (v : X → B) (xs : List X) → xs ≡ [] → map f xs ≡ map h (map v xs)
both_none f h v xs e = rw e refl

-- a repetition whose next part fails
pub many_fails : {S A B : Type 0} (fin : S → List A → B) (d : ℕ) (g : Phrased A) → nullable g ≡ false → member 0 (first verilog begins g) ≡ false
    → (s : S) (e : ReadFault) (i : List Lexeme) (total : Outcome verilog B) → member (next verilog i) (first verilog begins g) ≡ true
    → Fails e (reads verilog grammar d g i) → going fin s (reads verilog grammar d (many g) i) ≡ total → Fails e total
many_fails fin d g n z s read_fault.Memory i total sees f h = tt
many_fails fin d g n z s (read_fault.At f) i total sees e h = fails verilog grammar tables passes fin d g n z s i total (fault_view f) sees e h
