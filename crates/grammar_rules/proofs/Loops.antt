-- A loop over a repetition or over what grows: what came so far, with what is still read, is what is read in all.
use Rattle.std.proofs.Common.{◌++◌, map, append_assoc, ◌≡◌, ℕ, true, false, cond, nat_le, List, [], ◌∷◌, length, Ok, Err, refl, sym, ap, ◌∙◌}
use Rattle.std.specs.Prelude.{◌&&◌}
use Rattle.std.proofs.lemmas.List.{map_push, append-nil}
use Rattle.grammar_rules.specs.Rule.{Language, Tokens, Rule, many, Growth, going, next, member, nullable, first, too_deep, Fault, fault_at, Outcome, grow_by, ◌>>=◌}
use Rattle.grammar_rules.specs.Grammar.{Grammar, reads}
use Rattle.grammar_rules.proofs.Passes.{Tables, Passes}
use Rattle.grammar_rules.proofs.Shorter.{repeat_step, grow_step}
use Rattle.grammar_rules.proofs.Language.{falls}

module _ (L : Language) (G : Grammar L) where
  abbrev with_first : {A : Type 0} → A → Outcome L (List A) → Outcome L (List A)
  with_first v o = o >>= λ y. Ok (v ∷ y.0, y.1)

  -- one turn of a repetition
  abbrev turn : {A : Type 0} → ℕ → Rule L A → Tokens L → Outcome L (List A)
  turn d g i = cond (member (next L i) (first L G.begins g)) (reads L G d g i >>= λ x. with_first x.0 (reads L G d (many g) x.1)) (Ok ([], i))

  turn_more : {A : Type 0} (d : ℕ) (g : Rule L A) (i m : Tokens L) (v : A) → member (next L i) (first L G.begins g) ≡ true → reads L G d g i ≡ Ok (v, m)
      → turn d g i ≡ with_first v (reads L G d (many g) m)
  turn_more d g i m v t e = rw (t, e) refl

  turn_fails : {A : Type 0} (d : ℕ) (g : Rule L A) (i : Tokens L) (x : Fault L) → member (next L i) (first L G.begins g) ≡ true → reads L G d g i ≡ Err x → turn d g i ≡ Err x
  turn_fails d g i x t e = rw (t, e) refl

  turn_ends : {A : Type 0} (d : ℕ) (g : Rule L A) (i : Tokens L) → member (next L i) (first L G.begins g) ≡ false → turn d g i ≡ Ok ([], i)
  turn_ends d g i t = rw t refl

  -- what a value grows to by what is still read
  abbrev pub grows : {A B : Type 0} → ℕ → Growth L A → (A → B → A) → Rule L B → A → Tokens L → Outcome L A
  grows d w f h a i = grow_by L (λ n. nat_le n d) w f (first L G.begins h) (reads L G d h) (length i) a i

  -- one turn of what grows
  abbrev grow_turn : {A B : Type 0} → ℕ → Growth L A → (A → B → A) → Rule L B → A → Tokens L → Outcome L A
  grow_turn d w f h a i =
      cond (member (next L i) (first L G.begins h) && w.may a) (cond (nat_le (w.height a) d) (reads L G d h i >>= λ x. grows d w f h (f a x.0) x.1) (fault_at L (too_deep (w.deepest a)) i)) (Ok (a, i))

  grow_turn_more : {A B : Type 0} (d : ℕ) (w : Growth L A) (f : A → B → A) (h : Rule L B) (a : A) (b : B) (i m : Tokens L)
      → member (next L i) (first L G.begins h) ≡ true → w.may a ≡ true → nat_le (w.height a) d ≡ true → reads L G d h i ≡ Ok (b, m) → grow_turn d w f h a i ≡ grows d w f h (f a b) m
  grow_turn_more d w f h a b i m t k l e = rw (t, k, l, e) refl

  grow_turn_fails : {A B : Type 0} (d : ℕ) (w : Growth L A) (f : A → B → A) (h : Rule L B) (a : A) (x : Fault L) (i : Tokens L)
      → member (next L i) (first L G.begins h) ≡ true → w.may a ≡ true → nat_le (w.height a) d ≡ true → reads L G d h i ≡ Err x → grow_turn d w f h a i ≡ Err x
  grow_turn_fails d w f h a x i t k l e = rw (t, k, l, e) refl

  grow_turn_deep : {A B : Type 0} (d : ℕ) (w : Growth L A) (f : A → B → A) (h : Rule L B) (a : A) (i : Tokens L)
      → member (next L i) (first L G.begins h) ≡ true → w.may a ≡ true → nat_le (w.height a) d ≡ false → grow_turn d w f h a i ≡ fault_at L (too_deep (w.deepest a)) i
  grow_turn_deep d w f h a i t k l = rw (t, k, l) refl

  grow_turn_ends : {A B : Type 0} (d : ℕ) (w : Growth L A) (f : A → B → A) (h : Rule L B) (a : A) (i : Tokens L)
      → (member (next L i) (first L G.begins h) && w.may a) ≡ false → grow_turn d w f h a i ≡ Ok (a, i)
  grow_turn_ends d w f h a i t = rw t refl

  module _ (T : Tables L) (P : Passes L G T) where
    pub many_step : {A : Type 0} (d : ℕ) (g : Rule L A) → nullable g ≡ false → member 0 (first L G.begins g) ≡ false → (i : Tokens L) → reads L G d (many g) i ≡ turn d g i
    many_step d g n z i = repeat_step L (first L G.begins g) (reads L G d g) z (falls L G T P d g n) i

    pub one_more : {S A B : Type 0} (fin : S → List A → B) (d : ℕ) (g : Rule L A) → nullable g ≡ false → member 0 (first L G.begins g) ≡ false
        → (s u : S) (v : A) (i m : Tokens L) (total : Outcome L B) → ((vs : List A) → fin s (v ∷ vs) ≡ fin u vs)
        → member (next L i) (first L G.begins g) ≡ true → reads L G d g i ≡ Ok (v, m)
        → going fin s (reads L G d (many g) i) ≡ total → going fin u (reads L G d (many g) m) ≡ total
    one_more {S} {A} {B} fin d g n z s u v i m total law t e h =
        sym (ap (going fin s) (many_step d g n z i ∙ turn_more d g i m v t e) ∙ regroup (reads L G d (many g) m)) ∙ h
      where
        regroup : (o : Outcome L (List A)) → going fin s (with_first v o) ≡ going fin u o
        regroup (Ok x) = ap (λ (b : B). Ok (b, x.1)) (law x.0)
        regroup (Err f) = refl

    pub no_more : {S A B : Type 0} (fin : S → List A → B) (d : ℕ) (g : Rule L A) → nullable g ≡ false → member 0 (first L G.begins g) ≡ false
        → (s : S) (i : Tokens L) (total : Outcome L B) → member (next L i) (first L G.begins g) ≡ false
        → going fin s (reads L G d (many g) i) ≡ total → total ≡ Ok (fin s [], i)
    no_more fin d g n z s i total t h = sym h ∙ ap (going fin s) (many_step d g n z i ∙ turn_ends d g i t)

    pub fails : {S A B : Type 0} (fin : S → List A → B) (d : ℕ) (g : Rule L A) → nullable g ≡ false → member 0 (first L G.begins g) ≡ false
        → (s : S) (i : Tokens L) (total : Outcome L B) (x : Fault L) → member (next L i) (first L G.begins g) ≡ true → reads L G d g i ≡ Err x
        → going fin s (reads L G d (many g) i) ≡ total → total ≡ Err x
    fails fin d g n z s i total x t e h = sym h ∙ ap (going fin s) (many_step d g n z i ∙ turn_fails d g i x t e)

    -- ---- the same of a loop that pushes what it reads

    pub list_pushed : {X A : Type 0} (view : X → A) (d : ℕ) (g : Rule L A) (xs ys : List X) (x : X) (i m : Tokens L) (total : Outcome L (List A))
        → nullable g ≡ false → member 0 (first L G.begins g) ≡ false → ys ≡ xs ++ x ∷ [] → member (next L i) (first L G.begins g) ≡ true → reads L G d g i ≡ Ok (view x, m)
        → going ◌++◌ (map view xs) (reads L G d (many g) i) ≡ total → going ◌++◌ (map view ys) (reads L G d (many g) m) ≡ total
    list_pushed {X} {A} view d g xs ys x i m total n z e t h k =
        let more : map view ys ≡ map view xs ++ view x ∷ [] = rw e (map_push view xs x) in
        rw more (one_more ◌++◌ d g n z (map view xs) (map view xs ++ view x ∷ []) (view x) i m total (λ vs. sym (append_assoc (map view xs) (view x ∷ []) vs)) t h k)

    pub list_ends : {X A : Type 0} (view : X → A) (d : ℕ) (g : Rule L A) (xs : List X) (i : Tokens L) (total : Outcome L (List A))
        → nullable g ≡ false → member 0 (first L G.begins g) ≡ false → member (next L i) (first L G.begins g) ≡ false
        → going ◌++◌ (map view xs) (reads L G d (many g) i) ≡ total → total ≡ Ok (map view xs, i)
    list_ends view d g xs i total n z t k = let done = no_more ◌++◌ d g n z (map view xs) i total t k in rw append-nil at done

    -- ---- what grows

    pub grows_step : {A B : Type 0} (d : ℕ) (w : Growth L A) (f : A → B → A) (h : Rule L B) → nullable h ≡ false → member 0 (first L G.begins h) ≡ false
        → (a : A) (i : Tokens L) → grows d w f h a i ≡ grow_turn d w f h a i
    grows_step d w f h n z a i = grow_step L (λ k. nat_le k d) w f (first L G.begins h) (reads L G d h) z (falls L G T P d h n) a i

    pub grows_more : {A B : Type 0} (d : ℕ) (w : Growth L A) (f : A → B → A) (h : Rule L B) → nullable h ≡ false → member 0 (first L G.begins h) ≡ false
        → (a : A) (b : B) (i m : Tokens L) (total : Outcome L A) → member (next L i) (first L G.begins h) ≡ true → w.may a ≡ true → nat_le (w.height a) d ≡ true → reads L G d h i ≡ Ok (b, m)
        → grows d w f h a i ≡ total → grows d w f h (f a b) m ≡ total
    grows_more d w f h n z a b i m total t k l e q = sym (grows_step d w f h n z a i ∙ grow_turn_more d w f h a b i m t k l e) ∙ q

    pub grows_fail : {A B : Type 0} (d : ℕ) (w : Growth L A) (f : A → B → A) (h : Rule L B) → nullable h ≡ false → member 0 (first L G.begins h) ≡ false
        → (a : A) (x : Fault L) (i : Tokens L) (total : Outcome L A) → member (next L i) (first L G.begins h) ≡ true → w.may a ≡ true → nat_le (w.height a) d ≡ true → reads L G d h i ≡ Err x
        → grows d w f h a i ≡ total → total ≡ Err x
    grows_fail d w f h n z a x i total t k l e q = sym q ∙ grows_step d w f h n z a i ∙ grow_turn_fails d w f h a x i t k l e

    pub grows_deep : {A B : Type 0} (d : ℕ) (w : Growth L A) (f : A → B → A) (h : Rule L B) → nullable h ≡ false → member 0 (first L G.begins h) ≡ false
        → (a : A) (i : Tokens L) (total : Outcome L A) → member (next L i) (first L G.begins h) ≡ true → w.may a ≡ true → nat_le (w.height a) d ≡ false
        → grows d w f h a i ≡ total → total ≡ fault_at L (too_deep (w.deepest a)) i
    grows_deep d w f h n z a i total t k l q = sym q ∙ grows_step d w f h n z a i ∙ grow_turn_deep d w f h a i t k l

    pub grows_end : {A B : Type 0} (d : ℕ) (w : Growth L A) (f : A → B → A) (h : Rule L B) → nullable h ≡ false → member 0 (first L G.begins h) ≡ false
        → (a : A) (i : Tokens L) (total : Outcome L A) → (member (next L i) (first L G.begins h) && w.may a) ≡ false → grows d w f h a i ≡ total → total ≡ Ok (a, i)
    grows_end d w f h n z a i total t q = sym q ∙ grows_step d w f h n z a i ∙ grow_turn_ends d w f h a i t
