-- What holds of the values that rules spell, and how many tokens each takes at least.
use Rattle.std.proofs.Common.{◌+◌, ◌≤◌, ℕ, Bool, List, [], ◌∷◌, length, Option, Some, None, ap, subst, inl, inr, arith}
use Rattle.grammar_rules.specs.Rule.{Language, Tokens, Rule, one, empty, both, either, many, maybe, grow, made, nest, Ends, Growth, Chain, Grown, Spells}
use Rattle.grammar_rules.proofs.Holds.{AllOf}
use Rattle.verilog_lexer.specs.Tokens.{Lexeme}
use Rattle.verilog_grammar.specs.Language.{verilog}
use Rattle.verilog_grammar.specs.Parts.{Phrased, first_of_two, second_of_two, optional, listed}
use Rattle.parsed_modules.proofs.TokensHold.{Spelling, IfSome, Gives, any_gives, one_gives, both_give, either_gives, made_gives, many_gives, maybe_gives, grow_gives}

-- the sum of f over a list
abbrev pub total : {A : Type 0} → (A → ℕ) → List A → ℕ
total f [] = 0
total f (x ∷ xs) = f x + total f xs

-- f of the value, if there is one
abbrev pub total_if : {A : Type 0} → (A → ℕ) → Option A → ℕ
total_if f None = 0
total_if f (Some x) = f x

-- no phrase leaves more tokens than it is read from
abbrev pub Shrinks : {L : Language} {T : L.Token → Type 0} → Spelling L T → Type 0
Shrinks {L = L} S = (p : L.Phrase) (v : L.Value p) (i o : Tokens L) → S.Nested p v i o → length o ≤ length i

module _ (L : Language) (fits : ℕ → Bool) (R : (p : L.Phrase) → L.Value p → Tokens L → Tokens L → Type 0) (shrinks : (p : L.Phrase) (v : L.Value p) (i o : Tokens L) → R p v i o → length o ≤ length i) where
  chain_taken : {A : Type 0} (g : Rule L A) → ((v : A) (i o : Tokens L) → Spells L fits R g v i o → length o ≤ length i) → (vs : List A) (i o : Tokens L) → Chain (Spells L fits R g) vs i o → length o ≤ length i
  chain_taken g step [] i o s = omega (arith, ap length s)
  chain_taken g step (v ∷ vs) i o s = omega (arith, step v i s.0 s.1, chain_taken g step vs s.0 o s.2)

  -- no rule leaves more tokens than it is read from
  pub taken : {A : Type 0} (g : Rule L A) (v : A) (i o : Tokens L) → Spells L fits R g v i o → length o ≤ length i
  taken (one x xs) v i o s = omega (arith, ap length s.0)
  taken empty v i o s = omega (arith, ap length s)
  taken (both g h) v i o s = omega (arith, taken g v.0 i s.0 s.1, taken h v.1 s.0 o s.2)
  taken (either g h) v i o (inl s) = taken g v i o s
  taken (either g h) v i o (inr s) = taken h v i o s
  taken (many g) vs i o s = chain_taken g (λ v m n t. taken g v m n t) vs i o s
  taken (maybe x g) None i o s = omega (arith, ap length s.0)
  taken (maybe x g) (Some v) i o s = omega (arith, ap length s.2, taken g v s.1 o s.4)
  taken (grow w f ends g h) v i o s = omega (arith, taken g s.0 i s.3.0 s.3.1, chain_taken h (λ b m n t. taken h b m n t) s.1 s.3.0 o s.3.2)
  taken (made f g) v i o s = taken g s.0 i o s.2
  taken (nest p) v i o s = shrinks p v i o s

-- what holds of each value that the rule spells, and how many tokens it takes at least
pub record Takes {L : Language} {T : L.Token → Type 0} (S : Spelling L T) {A : Type 0} (g : Rule L A) (Q : A → Type 0) (w : A → ℕ) : Type 0 where
  pub gives : Gives S g Q
  pub counts : (v : A) (i o : Tokens L) → Spells L S.fits S.Nested g v i o → w v + length o ≤ length i

-- a rule of whose values nothing is said
pub any_takes : {L : Language} {T : L.Token → Type 0} {S : Spelling L T} {A : Type 0} {g : Rule L A} → Shrinks S → Takes S g (λ v. Unit {0}) (λ v. 0)
any_takes {L = L} {S = S} {g = g} shrinks = record { gives = any_gives; counts = λ v i o s. omega (arith, taken L S.fits S.Nested shrinks g v i o s) }

pub one_takes : {L : Language} {T : L.Token → Type 0} {S : Spelling L T} {x : ℕ} {xs : List ℕ} → Takes S (one x xs) T (λ t. 1)
one_takes = record { gives = one_gives (λ t h m. h); counts = λ t i o s. omega (arith, ap length s.0) }

pub both_take : {L : Language} {T : L.Token → Type 0} {S : Spelling L T} {A B : Type 0} {g : Rule L A} {h : Rule L B} {Q : A → Type 0} {H : B → Type 0} {w : A → ℕ} {u : B → ℕ}
    → Takes S g Q w → Takes S h H u → Takes S (both g h) (λ p. Q p.0 × H p.1) (λ p. w p.0 + u p.1)
both_take x y = record { gives = both_give x.gives y.gives; counts = λ v i o s. omega (arith, x.counts v.0 i s.0 s.1, y.counts v.1 s.0 o s.2) }

pub either_takes : {L : Language} {T : L.Token → Type 0} {S : Spelling L T} {A : Type 0} {g h : Rule L A} {Q : A → Type 0} {w : A → ℕ} → Takes S g Q w → Takes S h Q w → Takes S (either g h) Q w
either_takes x y = record { gives = either_gives x.gives y.gives; counts = λ v i o s. elim s [ inl t ↦ x.counts v i o t | inr t ↦ y.counts v i o t ] }

pub made_takes : {L : Language} {T : L.Token → Type 0} {S : Spelling L T} {A B : Type 0} {f : A → B} {g : Rule L A} {Q : A → Type 0} {H : B → Type 0} {w : A → ℕ} {u : B → ℕ}
    → Takes S g Q w → ((a : A) → Q a → H (f a)) → ((a : A) → u (f a) ≤ w a) → Takes S (made f g) H u
made_takes {f = f} {u = u} x step fewer = record {
  gives = made_gives x.gives step;
  counts = λ v i o s. subst (λ z. u z + length o ≤ length i) s.1 (omega (arith, fewer s.0, x.counts s.0 i o s.2));
}

-- the same with less
pub less_takes : {L : Language} {T : L.Token → Type 0} {S : Spelling L T} {A : Type 0} {g : Rule L A} {Q H : A → Type 0} {w u : A → ℕ} → Takes S g Q w → ((a : A) → Q a → H a) → ((a : A) → u a ≤ w a) → Takes S g H u
less_takes {Q = Q} {H = H} x step fewer = record {
  gives = record { holds = λ v i o a s. step v (x.gives.holds v i o a s) };
  counts = λ v i o s. omega (arith, fewer v, x.counts v i o s);
}

pub empty_takes : {L : Language} {T : L.Token → Type 0} {S : Spelling L T} → Takes S empty (λ u. Unit {0}) (λ u. 0)
empty_takes = record { gives = any_gives; counts = λ v i o s. omega (arith, ap length s) }

many_count : (L : Language) (T : L.Token → Type 0) (S : Spelling L T) {A : Type 0} (g : Rule L A) (Q : A → Type 0) (w : A → ℕ) → Takes S g Q w → (vs : List A) (i o : Tokens L) → Chain (Spells L S.fits S.Nested g) vs i o → total w vs + length o ≤ length i
many_count L T S g Q w x [] i o s = omega (arith, ap length s)
many_count L T S g Q w x (v ∷ vs) i o s = omega (arith, x.counts v i s.0 s.1, many_count L T S g Q w x vs s.0 o s.2)

pub many_take : {L : Language} {T : L.Token → Type 0} {S : Spelling L T} {A : Type 0} {g : Rule L A} {Q : A → Type 0} {w : A → ℕ} → Takes S g Q w → Takes S (many g) (λ vs. AllOf Q vs) (λ vs. total w vs)
many_take {L = L} {T = T} {S = S} {g = g} {Q = Q} {w = w} x = record { gives = many_gives x.gives; counts = λ vs i o s. many_count L T S g Q w x vs i o s }

maybe_count : (L : Language) (T : L.Token → Type 0) (S : Spelling L T) {A : Type 0} (k : ℕ) (g : Rule L A) (Q : A → Type 0) (w : A → ℕ) → Takes S g Q w → (v : Option A) (i o : Tokens L) → Spells L S.fits S.Nested (maybe k g) v i o → total_if w v + length o ≤ length i
maybe_count L T S k g Q w x None i o s = omega (arith, ap length s.0)
maybe_count L T S k g Q w x (Some v) i o s = omega (arith, ap length s.2, x.counts v s.1 o s.4)

pub maybe_takes : {L : Language} {T : L.Token → Type 0} {S : Spelling L T} {A : Type 0} {k : ℕ} {g : Rule L A} {Q : A → Type 0} {w : A → ℕ} → Takes S g Q w → Takes S (maybe k g) (λ v. IfSome Q v) (λ v. total_if w v)
maybe_takes {L = L} {T = T} {S = S} {k = k} {g = g} {Q = Q} {w = w} x = record { gives = maybe_gives x.gives; counts = λ v i o s. maybe_count L T S k g Q w x v i o s }

grown_count : (L : Language) (T : L.Token → Type 0) (S : Spelling L T) {A B : Type 0} (grows : Growth L A) (f : A → B → A) (h : Rule L B) (H : B → Type 0) (w : A → ℕ) (u : B → ℕ) → Takes S h H u → ((a : A) (b : B) → w (f a b) ≤ w a + u b)
    → (a : A) (bs : List B) (v : A) (i o : Tokens L) → Grown S.fits grows f a bs v → Chain (Spells L S.fits S.Nested h) bs i o → w v + length o ≤ w a + length i
grown_count L T S grows f h H w u y fewer a [] v i o g c = omega (arith, ap w g, ap length c)
grown_count L T S grows f h H w u y fewer a (b ∷ bs) v i o g c =
    omega (arith, fewer a b, y.counts b i c.0 c.1, grown_count L T S grows f h H w u y fewer (f a b) bs v c.0 o g.2 c.2)

pub grow_takes : {L : Language} {T : L.Token → Type 0} {S : Spelling L T} {A B : Type 0} {grows : Growth L A} {f : A → B → A} {ends : Ends grows.again grows f} {g : Rule L A} {h : Rule L B} {Q : A → Type 0} {H : B → Type 0} {w : A → ℕ} {u : B → ℕ}
    → Takes S g Q w → Takes S h H u → ((a : A) (b : B) → Q a → H b → Q (f a b)) → ((a : A) (b : B) → w (f a b) ≤ w a + u b) → Takes S (grow grows f ends g h) Q w
grow_takes {L = L} {T = T} {S = S} {grows = grows} {f = f} {g = g} {h = h} {Q = Q} {H = H} {w = w} {u = u} x y step fewer = record {
  gives = grow_gives x.gives y.gives step;
  counts = λ v i o s. omega (arith, x.counts s.0 i s.3.0 s.3.1, grown_count L T S grows f h H w u y fewer s.0 s.1 v s.3.0 o s.2 s.3.2);
}

-- ---- rules of which others are made

-- what follows a token
pub after_takes : {T : Lexeme → Type 0} {S : Spelling verilog T} {A : Type 0} {x : ℕ} {g : Phrased A} {Q : A → Type 0} {w : A → ℕ} → Takes S g Q w → Takes S (made second_of_two (both (one x []) g)) Q (λ v. 1 + w v)
after_takes {Q = Q} {w = w} h = made_takes {w = λ p. 1 + w p.1} (both_take one_takes h) (λ p q. q.1) (λ p. omega arith)

-- what precedes a token
pub before_takes : {T : Lexeme → Type 0} {S : Spelling verilog T} {A : Type 0} {x : ℕ} {g : Phrased A} {Q : A → Type 0} {w : A → ℕ} → Takes S g Q w → Takes S (made first_of_two (both g (one x []))) Q w
before_takes {Q = Q} {w = w} h = made_takes {w = λ p. w p.0 + 1} (both_take h one_takes) (λ p q. q.0) (λ p. omega arith)

pub optional_takes : {T : Lexeme → Type 0} {S : Spelling verilog T} {A : Type 0} {g : Phrased A} {Q : A → Type 0} {w : A → ℕ} → Takes S g Q w → Takes S (optional g) (λ v. IfSome Q v) (λ v. total_if w v)
optional_takes h = either_takes (made_takes h (λ v q. q) (λ v. omega arith)) (made_takes empty_takes (λ u q. tt) (λ u. omega arith))

pub more_total : {A : Type 0} (w : A → ℕ) (vs : List A) → total w vs ≤ total (λ v. 1 + w v) vs
more_total w [] = omega arith
more_total w (v ∷ vs) = omega (arith, more_total w vs)

pub listed_takes : {T : Lexeme → Type 0} {S : Spelling verilog T} {A : Type 0} {g : Phrased A} {Q : A → Type 0} {w : A → ℕ} → Takes S g Q w → Takes S (listed g) (λ vs. AllOf Q vs) (λ vs. total w vs)
listed_takes {Q = Q} {w = w} h =
    made_takes {Q = λ p. Q p.0 × AllOf Q p.1} {w = λ p. w p.0 + total (λ v. 1 + w v) p.1} (both_take h (many_take (after_takes h))) (λ p q. q) (λ p. omega (arith, more_total w p.1))
