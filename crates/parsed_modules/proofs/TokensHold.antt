-- What holds of the values that rules spell, where each of the tokens is such.
use Rattle.std.proofs.Common.{◌≡◌, ℕ, Bool, true, List, [], ◌∷◌, Option, Some, None, subst, inl, inr}
use Rattle.grammar_rules.specs.Rule.{Language, Tokens, Rule, one, empty, both, either, many, maybe, grow, made, nest, Ends, Growth, member, Chain, Grown, Spells}
use Rattle.grammar_rules.proofs.Holds.{AllOf}

-- how phrases are spelled; where each of the tokens is such, each that is left is
pub record Spelling (L : Language) (T : L.Token → Type 0) : Type 1 where
  pub fits : ℕ → Bool
  pub Nested : (p : L.Phrase) → L.Value p → Tokens L → Tokens L → Type 0
  pub leaves : (p : L.Phrase) (v : L.Value p) (i o : Tokens L) → AllOf T i → Nested p v i o → AllOf T o

-- the property, if there is a value
abbrev pub IfSome : {A : Type 0} → (A → Type 0) → Option A → Type 0
IfSome P None = Unit {0}
IfSome P (Some v) = P v

module _ (L : Language) (T : L.Token → Type 0) (S : Spelling L T) where
  -- the rule spells the value
  abbrev pub Spelled : {A : Type 0} → Rule L A → A → Tokens L → Tokens L → Type 0
  Spelled g v i o = Spells L S.fits S.Nested g v i o

  chain_leaves : {A : Type 0} (g : Rule L A) → ((v : A) (i o : Tokens L) → AllOf T i → Spelled g v i o → AllOf T o) → (vs : List A) (i o : Tokens L) → AllOf T i → Chain (Spelled g) vs i o → AllOf T o
  chain_leaves g step [] i o a s = subst (λ x. AllOf T x) s a
  chain_leaves g step (v ∷ vs) i o a s = chain_leaves g step vs s.0 o (step v i s.0 a s.1) s.2

  first_leaves : (t : L.Token) (i o : Tokens L) → AllOf T i → i ≡ t ∷ o → T t × AllOf T o
  first_leaves t i o a e = subst (λ x. AllOf T x) e a

  -- where each of the tokens is such, each that a rule leaves is
  pub leaves : {A : Type 0} (g : Rule L A) (v : A) (i o : Tokens L) → AllOf T i → Spelled g v i o → AllOf T o
  leaves (one x xs) v i o a s = (first_leaves v i o a s.0).1
  leaves empty v i o a s = subst (λ x. AllOf T x) s a
  leaves (both g h) v i o a s = leaves h v.1 s.0 o (leaves g v.0 i s.0 a s.1) s.2
  leaves (either g h) v i o a (inl s) = leaves g v i o a s
  leaves (either g h) v i o a (inr s) = leaves h v i o a s
  leaves (many g) vs i o a s = chain_leaves g (λ v m n b t. leaves g v m n b t) vs i o a s
  leaves (maybe x g) None i o a s = subst (λ x. AllOf T x) s.0 a
  leaves (maybe x g) (Some v) i o a s = leaves g v s.1 o (first_leaves s.0 i s.1 a s.2).1 s.4
  leaves (grow w f ends g h) v i o a s =
      chain_leaves h (λ b m n c t. leaves h b m n c t) s.1 s.3.0 o (leaves g s.0 i s.3.0 a s.3.1) s.3.2
  leaves (made f g) v i o a s = leaves g s.0 i o a s.2
  leaves (nest p) v i o a s = S.leaves p v i o a s

-- what holds of each value that the rule spells
pub record Gives {L : Language} {T : L.Token → Type 0} (S : Spelling L T) {A : Type 0} (g : Rule L A) (Q : A → Type 0) : Type 0 where
  pub holds : (v : A) (i o : Tokens L) → AllOf T i → Spells L S.fits S.Nested g v i o → Q v

-- a rule of whose values nothing is said
pub any_gives : {L : Language} {T : L.Token → Type 0} {S : Spelling L T} {A : Type 0} {g : Rule L A} → Gives S g (λ v. Unit {0})
any_gives = record { holds = λ v i o a s. tt }

-- a token that is such
pub one_gives : {L : Language} {T : L.Token → Type 0} {S : Spelling L T} {x : ℕ} {xs : List ℕ} {Q : L.Token → Type 0} → ((t : L.Token) → T t → member (L.code t) (x ∷ xs) ≡ true → Q t) → Gives S (one x xs) Q
one_gives {L = L} {T = T} {S = S} {x = x} step = record { holds = λ v i o a s. step v (first_leaves L T S v i o a s.0).0 s.1 }

pub both_give : {L : Language} {T : L.Token → Type 0} {S : Spelling L T} {A B : Type 0} {g : Rule L A} {h : Rule L B} {Q : A → Type 0} {H : B → Type 0} → Gives S g Q → Gives S h H → Gives S (both g h) (λ p. Q p.0 × H p.1)
both_give {L = L} {T = T} {S = S} {g = g} x y = record { holds = λ v i o a s. (x.holds v.0 i s.0 a s.1, y.holds v.1 s.0 o (leaves L T S g v.0 i s.0 a s.1) s.2) }

-- the first of two, where nothing is said of the second
pub first_gives : {L : Language} {T : L.Token → Type 0} {S : Spelling L T} {A B : Type 0} {g : Rule L A} {h : Rule L B} {Q : A → Type 0} → Gives S g Q → Gives S (both g h) (λ p. Q p.0)
first_gives x = record { holds = λ v i o a s. x.holds v.0 i s.0 a s.1 }

-- the second of two, where nothing is said of the first
pub second_gives : {L : Language} {T : L.Token → Type 0} {S : Spelling L T} {A B : Type 0} {g : Rule L A} {h : Rule L B} {H : B → Type 0} → Gives S h H → Gives S (both g h) (λ p. H p.1)
second_gives {L = L} {T = T} {S = S} {g = g} y = record { holds = λ v i o a s. y.holds v.1 s.0 o (leaves L T S g v.0 i s.0 a s.1) s.2 }

pub either_gives : {L : Language} {T : L.Token → Type 0} {S : Spelling L T} {A : Type 0} {g h : Rule L A} {Q : A → Type 0} → Gives S g Q → Gives S h Q → Gives S (either g h) Q
either_gives x y = record { holds = λ v i o a s. elim s [ inl t ↦ x.holds v i o a t | inr t ↦ y.holds v i o a t ] }

pub made_gives : {L : Language} {T : L.Token → Type 0} {S : Spelling L T} {A B : Type 0} {f : A → B} {g : Rule L A} {Q : A → Type 0} {H : B → Type 0} → Gives S g Q → ((a : A) → Q a → H (f a)) → Gives S (made f g) H
made_gives {H = H} x step = record { holds = λ v i o a s. subst H s.1 (step s.0 (x.holds s.0 i o a s.2)) }

pub empty_gives : {L : Language} {T : L.Token → Type 0} {S : Spelling L T} {Q : Unit {0} → Type 0} → Q tt → Gives S empty Q
empty_gives q = record { holds = λ v i o a s. q }

many_holds : (L : Language) (T : L.Token → Type 0) (S : Spelling L T) {A : Type 0} (g : Rule L A) (Q : A → Type 0) → Gives S g Q → (vs : List A) (i o : Tokens L) → AllOf T i → Chain (Spelled L T S g) vs i o → AllOf Q vs
many_holds L T S g Q x [] i o a s = tt
many_holds L T S g Q x (v ∷ vs) i o a s = (x.holds v i s.0 a s.1, many_holds L T S g Q x vs s.0 o (leaves L T S g v i s.0 a s.1) s.2)

pub many_gives : {L : Language} {T : L.Token → Type 0} {S : Spelling L T} {A : Type 0} {g : Rule L A} {Q : A → Type 0} → Gives S g Q → Gives S (many g) (λ vs. AllOf Q vs)
many_gives {L = L} {T = T} {S = S} {g = g} {Q = Q} x = record { holds = λ vs i o a s. many_holds L T S g Q x vs i o a s }

maybe_holds : (L : Language) (T : L.Token → Type 0) (S : Spelling L T) {A : Type 0} (k : ℕ) (g : Rule L A) (Q : A → Type 0) → Gives S g Q → (v : Option A) (i o : Tokens L) → AllOf T i → Spelled L T S (maybe k g) v i o → IfSome Q v
maybe_holds L T S k g Q x None i o a s = tt
maybe_holds L T S k g Q x (Some v) i o a s = x.holds v s.1 o (first_leaves L T S s.0 i s.1 a s.2).1 s.4

pub maybe_gives : {L : Language} {T : L.Token → Type 0} {S : Spelling L T} {A : Type 0} {k : ℕ} {g : Rule L A} {Q : A → Type 0} → Gives S g Q → Gives S (maybe k g) (λ v. IfSome Q v)
maybe_gives {L = L} {T = T} {S = S} {k = k} {g = g} {Q = Q} x = record { holds = λ v i o a s. maybe_holds L T S k g Q x v i o a s }

grown_holds : (L : Language) (T : L.Token → Type 0) (S : Spelling L T) {A B : Type 0} (w : Growth L A) (f : A → B → A) (h : Rule L B) (Q : A → Type 0) (H : B → Type 0) → Gives S h H → ((a : A) (b : B) → Q a → H b → Q (f a b))
    → (u : A) (bs : List B) (v : A) (i o : Tokens L) → Q u → AllOf T i → Grown S.fits w f u bs v → Chain (Spelled L T S h) bs i o → Q v
grown_holds L T S w f h Q H y step u [] v i o q a g c = subst Q g q
grown_holds L T S w f h Q H y step u (b ∷ bs) v i o q a g c =
    grown_holds L T S w f h Q H y step (f u b) bs v c.0 o (step u b q (y.holds b i c.0 a c.1)) (leaves L T S h b i c.0 a c.1) g.2 c.2

pub grow_gives : {L : Language} {T : L.Token → Type 0} {S : Spelling L T} {A B : Type 0} {w : Growth L A} {f : A → B → A} {ends : Ends w.again w f} {g : Rule L A} {h : Rule L B} {Q : A → Type 0} {H : B → Type 0}
    → Gives S g Q → Gives S h H → ((a : A) (b : B) → Q a → H b → Q (f a b)) → Gives S (grow w f ends g h) Q
grow_gives {L = L} {T = T} {S = S} {w = w} {f = f} {g = g} {h = h} {Q = Q} {H = H} x y step = record {
  holds = λ v i o a s. grown_holds L T S w f h Q H y step s.0 s.1 v s.3.0 o (x.holds s.0 i s.3.0 a s.3.1) (leaves L T S g s.0 i s.3.0 a s.3.1) s.2 s.3.2;
}
