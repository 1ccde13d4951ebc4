-- The first part that nests too deep is the one that reading finds.
use Rattle.std.proofs.Common.{◌≡◌, ℕ, zero, suc, ◌<◌, ◌≤◌, Bool, true, false, cond, nat_eq, List, [], ◌∷◌, ◌++◌, length, Ok, refl, sym, ap, ◌∙◌, ◌⊎◌, inl, inr, arith}
use Rattle.std.specs.Prelude.{not, ◌&&◌}
use Rattle.grammar_rules.specs.Rule.{Language, Tokens, Rule, one, empty, both, either, many, maybe, grow, made, nest, Growth, Ends, next, member, nullable, first, too_deep, fault_at, Outcome, repeat, grow_by, read, Chain, Grown, Spells}
use Rattle.grammar_rules.specs.Deep.{Begins, Exceeds}
use Rattle.grammar_rules.proofs.Steps.{test_true, test_false}
use Rattle.grammar_rules.proofs.Members.{and_true, not_true, both_ways, member-left, member-right, disjoint, apart_back}
use Rattle.grammar_rules.proofs.Shorter.{strictly}
use Rattle.grammar_rules.proofs.Viable.{all_fit}
use Rattle.grammar_rules.proofs.Complete.{ahead, is_told, ahead_first, ahead_behind, starts, take_same, begins_it, complete}
use Rattle.grammar_rules.proofs.Leaves.{Leaves, leaves_less, exceeds_leaves, begins_some}

module _ (L : Language) where
  -- the fault of the part at the place
  abbrev pub deep_at : {A : Type 0} → L.Place → Tokens L → Outcome L A
  deep_at place o = fault_at L (too_deep place) o

  -- where one of these tokens comes after values that begin with them, one comes next
  pub chain_ahead : {A : Type 0} (S : A → Tokens L → Tokens L → Type 0) (ks : List ℕ) → ((v : A) (i o : Tokens L) → S v i o → member (next L i) ks ≡ true)
      → (vs : List A) (i m : Tokens L) → Chain S vs i m → member (next L m) ks ≡ true → member (next L i) ks ≡ true
  chain_ahead S ks h [] i m s t = ap (λ (u : Tokens L). member (next L u) ks) s ∙ t
  chain_ahead S ks h (v ∷ vs) i m s t = h v i s.0 s.1

  -- what may follow a part by which a value has grown that may grow once more
  pub next_deep : {A B : Type 0} (fits : ℕ → Bool) (S : B → Tokens L → Tokens L → Type 0) (ks : List ℕ) → ((v : B) (i o : Tokens L) → S v i o → member (next L i) ks ≡ true)
      → (x : Bool) (w : Growth L A) (f : A → B → A) → Ends x w f → (F : List ℕ) (a : A) (b : B) (bs : List B) (v : A) (i m : Tokens L)
      → Grown fits w f (f a b) bs v → w.may v ≡ true → Chain S bs i m → member (next L m) ks ≡ true → member (next L i) (cond x (ks ++ F) F) ≡ true
  next_deep fits S ks h true w f e F a b bs v i m g k s t = member-left (next L i) ks F (chain_ahead S ks h bs i m s t)
  next_deep fits S ks h false w f e F a b [] v i m g k s t = both_ways (w.may v) k (ap w.may (sym g) ∙ e a b)
  next_deep fits S ks h false w f e F a b (c ∷ cs) v i m g k s t = both_ways (w.may (f a b)) g.0 (e a b)

  module _ (begins follow : L.Phrase → List ℕ) (fits : ℕ → Bool) (R U : (p : L.Phrase) → L.Value p → Tokens L → Tokens L → Type 0) (X : (p : L.Phrase) → Tokens L → Tokens L → L.Place → Type 0)
      (begun : (p : L.Phrase) (v : L.Value p) (i o : Tokens L) → R p v i o → member (next L i) (begins p) ≡ true)
      (begun_u : (p : L.Phrase) (v : L.Value p) (i o : Tokens L) → U p v i o → member (next L i) (begins p) ≡ true)
      (begun_x : (p : L.Phrase) (i o : Tokens L) (place : L.Place) → X p i o place → member (next L i) (begins p) ≡ true) where
    -- what begins a rule that takes a token is one of its first tokens
    pub first_of : {B : Type 0} (h : Rule L B) → nullable h ≡ false → (i : Tokens L) → Begins L (Spells L all_fit U h) i → member (next L i) (first L begins h) ≡ true
    first_of h n [] b = absurd b
    first_of h n (t ∷ i) b =
        elim (starts L begins all_fit U begun_u h b.1 (t ∷ b.0) b.2 b.3) [
          | inl a ↦ a
          | inr a ↦ both_ways (nullable h) a.0 n
        ]

    -- the next token may come first
    pub exceeding : {A : Type 0} (g : Rule L A) (F : List ℕ) → is_told L begins follow g F ≡ true → (i o : Tokens L) (place : L.Place) → Exceeds L fits R U X g i o place → member (next L i) (first L begins g) ≡ true
    exceeding (one x xs) F c i o place s = absurd s
    exceeding empty F c i o place s = absurd s
    exceeding (both g h) F c i o place (inl s) =
        ahead_first L (nullable g) (next L i) (first L begins g) (first L begins h) (exceeding g (ahead L begins follow h F) (and_true (is_told L begins follow g (ahead L begins follow h F)) (is_told L begins follow h F) c).0 i o place s)
    exceeding (both g h) F c i o place (inr s) =
        let e = exceeding h F (and_true (is_told L begins follow g (ahead L begins follow h F)) (is_told L begins follow h F) c).1 s.1 o place s.3 in
        elim (starts L begins fits R begun g s.0 i s.1 s.2) [
          | inl a ↦ ahead_first L (nullable g) (next L i) (first L begins g) (first L begins h) a
          | inr a ↦ ahead_behind L (nullable g) (next L i) (first L begins g) (first L begins h) a.0 (ap (λ (z : Tokens L). member (next L z) (first L begins h)) a.1 ∙ e)
        ]
    exceeding (either g h) F c i o place s =
        let p = and_true (not (nullable g)) (disjoint (first L begins g) (ahead L begins follow h F) && (is_told L begins follow g F && is_told L begins follow h F)) c in
        let q = and_true (disjoint (first L begins g) (ahead L begins follow h F)) (is_told L begins follow g F && is_told L begins follow h F) p.1 in
        let u = and_true (is_told L begins follow g F) (is_told L begins follow h F) q.1 in
        elim s [
          | inl a ↦ member-left (next L i) (first L begins g) (first L begins h) (exceeding g F u.0 i o place a)
          | inr a ↦ member-right (next L i) (first L begins g) (first L begins h) (exceeding h F u.1 i o place a)
        ]
    exceeding (many g) F c i o place s =
        let p = and_true (not (nullable g)) (disjoint (first L begins g) F && is_told L begins follow g (first L begins g ++ F)) c in
        let q = and_true (disjoint (first L begins g) F) (is_told L begins follow g (first L begins g ++ F)) p.1 in
        let e = exceeding g (first L begins g ++ F) q.1 s.1 o place s.3 in
        elim (starts L begins fits R begun (many g) s.0 i s.1 s.2) [
          | inl a ↦ a
          | inr a ↦ ap (λ (z : Tokens L). member (next L z) (first L begins g)) a.1 ∙ e
        ]
    exceeding (maybe x g) F c i o place s = ap (λ (z : Tokens L). nat_eq (next L z) x) s.2 ∙ s.3
    exceeding (grow w f ends g h) F c i o place s =
        let p = and_true (not (nullable h)) (disjoint (first L begins h) F && (is_told L begins follow g (first L begins h ++ F) && is_told L begins follow h (cond w.again (first L begins h ++ F) F))) c in
        let q = and_true (disjoint (first L begins h) F) (is_told L begins follow g (first L begins h ++ F) && is_told L begins follow h (cond w.again (first L begins h ++ F) F)) p.1 in
        let u = and_true (is_told L begins follow g (first L begins h ++ F)) (is_told L begins follow h (cond w.again (first L begins h ++ F) F)) q.1 in
        elim s [
          | inl a ↦ ahead_first L (nullable g) (next L i) (first L begins g) (first L begins h) (exceeding g (first L begins h ++ F) u.0 i o place a)
          | inr a ↦
              let e : member (next L a.1) (first L begins h) ≡ true = elim a.4 [
                | inl b ↦ exceeding h (cond w.again (first L begins h ++ F) F) u.1 a.1 o place b.1
                | inr b ↦ first_of h (not_true (nullable h) p.0) a.1 b.1.2
              ] in
              elim (starts L begins fits R begun (grow w f ends g h) a.0 i a.1 a.2) [
                | inl b ↦ b
                | inr b ↦ ahead_behind L (nullable g) (next L i) (first L begins g) (first L begins h) b.0 (ap (λ (z : Tokens L). member (next L z) (first L begins h)) b.1 ∙ e)
              ]
        ]
    exceeding (made f g) F c i o place s = exceeding g F c i o place s
    exceeding (nest p) F c i o place s = begun_x p i o place s

    -- ---- reading finds it

    module _ (r : (p : L.Phrase) → Tokens L → Outcome L (L.Value p))
        (shrinks : (p : L.Phrase) (i : Tokens L) (v : L.Value p) (o : Tokens L) → r p i ≡ Ok (v, o) → length o < length i)
        (finds : (p : L.Phrase) (v : L.Value p) (i o : Tokens L) → R p v i o → member (next L o) (follow p) ≡ true → r p i ≡ Ok (v, o))
        (finds_x : (p : L.Phrase) (i o : Tokens L) (place : L.Place) → X p i o place → r p i ≡ deep_at place o)
        (leaves_r : (p : L.Phrase) (v : L.Value p) (i o : Tokens L) → R p v i o → Leaves i o)
        (leaves_x : (p : L.Phrase) (i o : Tokens L) (place : L.Place) → X p i o place → Leaves i o × (0 < length o)) where
      chain_deep : {A : Type 0} (g : Rule L A) (F : List ℕ) → nullable g ≡ false
          → ((v : A) (i o : Tokens L) → Spells L fits R g v i o → member (next L o) (first L begins g ++ F) ≡ true → read L begins fits r g i ≡ Ok (v, o))
          → (n : ℕ) (vs : List A) (i m o : Tokens L) (place : L.Place) → length i ≤ n → 0 < length m → Chain (Spells L fits R g) vs i m → member (next L m) (first L begins g) ≡ true
          → read L begins fits r g m ≡ deep_at place o → repeat L (first L begins g) (read L begins fits r g) n i ≡ deep_at place o
      unfolding repeat
      chain_deep g F z h zero [] i m o place le some s t e = absurd (omega (arith, ap length s))
      chain_deep {A} g F z h (suc n) [] i m o place le some s t e =
          let t' : member (next L i) (first L begins g) ≡ true = ap (λ (u : Tokens L). member (next L u) (first L begins g)) s ∙ t in
          let e' : read L begins fits r g i ≡ deep_at place o = ap (read L begins fits r g) s ∙ e in
          rw (t', e') refl
      chain_deep g F z h zero (v ∷ vs) i m o place le some s t e =
          let a = h v i s.0 s.1 (member-left (next L s.0) (first L begins g) F (chain_ahead (Spells L fits R g) (first L begins g) (begins_it L begins follow fits r R begun shrinks finds g z) vs s.0 m s.2 t)) in
          let lt : length s.0 < length i = strictly L begins fits r shrinks g z i v s.0 a in
          absurd (omega arith)
      chain_deep g F z h (suc n) (v ∷ vs) i m o place le some s t e =
          let a = h v i s.0 s.1 (member-left (next L s.0) (first L begins g) F (chain_ahead (Spells L fits R g) (first L begins g) (begins_it L begins follow fits r R begun shrinks finds g z) vs s.0 m s.2 t)) in
          let lt : length s.0 < length i = strictly L begins fits r shrinks g z i v s.0 a in
          let b = begins_it L begins follow fits r R begun shrinks finds g z v i s.0 s.1 in
          let more = chain_deep g F z h n vs s.0 m o place (omega arith) some s.2 t e in
          rw (b, a, more) refl

      -- what reading finds after a value that may grow
      abbrev Finds : {A B : Type 0} → Growth L A → Rule L B → A → Tokens L → Tokens L → L.Place → Type 0
      Finds w h v m o place = ((fits (w.height v) ≡ true) × (read L begins fits r h m ≡ deep_at place o)) ⊎ ((fits (w.height v) ≡ false) × (w.deepest v ≡ place) × (m ≡ o))

      grow_deep : {A B : Type 0} (w : Growth L A) (f : A → B → A) (ends : Ends w.again w f) (h : Rule L B) (F : List ℕ) → nullable h ≡ false
          → ((v : B) (i o : Tokens L) → Spells L fits R h v i o → member (next L o) (cond w.again (first L begins h ++ F) F) ≡ true → read L begins fits r h i ≡ Ok (v, o))
          → (n : ℕ) (a : A) (bs : List B) (v : A) (i m o : Tokens L) (place : L.Place) → length i ≤ n → 0 < length m → Grown fits w f a bs v → Chain (Spells L fits R h) bs i m → member (next L m) (first L begins h) ≡ true
          → w.may v ≡ true → Finds w h v m o place → grow_by L fits w f (first L begins h) (read L begins fits r h) n a i ≡ deep_at place o
      unfolding grow_by
      grow_deep w f ends h F z k zero a [] v i m o place le some g s t c d = absurd (omega (arith, ap length s))
      grow_deep {A} {B} w f ends h F z k (suc n) a [] v i m o place le some g s t c d =
          let t' : member (next L i) (first L begins h) ≡ true = ap (λ (u : Tokens L). member (next L u) (first L begins h)) s ∙ t in
          let c' : w.may a ≡ true = ap w.may g ∙ c in
          elim d [
            | inl b ↦
                let l : fits (w.height a) ≡ true = ap (λ (u : A). fits (w.height u)) g ∙ b.0 in
                let e : read L begins fits r h i ≡ deep_at place o = ap (read L begins fits r h) s ∙ b.1 in
                rw (t', c', l, e) refl
            | inr b ↦
                let l : fits (w.height a) ≡ false = ap (λ (u : A). fits (w.height u)) g ∙ b.0 in
                let p : w.deepest a ≡ place = ap w.deepest g ∙ b.1 in
                let q : i ≡ o = s ∙ b.2 in
                rw (t', c', l, p, q) refl
          ]
      grow_deep w f ends h F z k zero a (b ∷ bs) v i m o place le some g s t c d =
          let e = k b i s.0 s.1 (next_deep fits (Spells L fits R h) (first L begins h) (begins_it L begins follow fits r R begun shrinks finds h z) w.again w f ends F a b bs v s.0 m g.2 c s.2 t) in
          let lt : length s.0 < length i = strictly L begins fits r shrinks h z i b s.0 e in
          absurd (omega arith)
      grow_deep w f ends h F z k (suc n) a (b ∷ bs) v i m o place le some g s t c d =
          let e = k b i s.0 s.1 (next_deep fits (Spells L fits R h) (first L begins h) (begins_it L begins follow fits r R begun shrinks finds h z) w.again w f ends F a b bs v s.0 m g.2 c s.2 t) in
          let lt : length s.0 < length i = strictly L begins fits r shrinks h z i b s.0 e in
          let u = begins_it L begins follow fits r R begun shrinks finds h z b i s.0 s.1 in
          let more = grow_deep w f ends h F z k n (f a b) bs v s.0 m o place (omega arith) some g.2 s.2 t c d in
          rw (u, g.0, g.1, e, more) refl

      -- a token is left at the part, and so before it
      some_left : {A : Type 0} (g : Rule L A) (i o : Tokens L) (place : L.Place) → Exceeds L fits R U X g i o place → 0 < length i
      some_left g i o place s =
          let a = exceeds_leaves L fits R leaves_r U X leaves_x g i o place s in
          let le : length o ≤ length i = leaves_less i o a.0 in
          omega (arith, a.1)

      pub reads_deep : {A : Type 0} (g : Rule L A) (F : List ℕ) → is_told L begins follow g F ≡ true → (i o : Tokens L) (place : L.Place) → Exceeds L fits R U X g i o place → read L begins fits r g i ≡ deep_at place o
      reads_deep (one x xs) F c i o place s = absurd s
      reads_deep empty F c i o place s = absurd s
      reads_deep (both {A} {B} g h) F c i o place (inl s) =
          let e = reads_deep g (ahead L begins follow h F) (and_true (is_told L begins follow g (ahead L begins follow h F)) (is_told L begins follow h F) c).0 i o place s in
          rw e refl
      reads_deep (both g h) F c i o place (inr s) =
          let p = and_true (is_told L begins follow g (ahead L begins follow h F)) (is_told L begins follow h F) c in
          let t = ahead_first L (nullable h) (next L s.1) (first L begins h) F (exceeding h F p.1 s.1 o place s.3) in
          let a = complete L begins follow fits r R begun shrinks finds g (ahead L begins follow h F) p.0 s.0 i s.1 s.2 t in
          let b = reads_deep h F p.1 s.1 o place s.3 in
          rw (a, b) refl
      reads_deep (either g h) F c i o place s =
          let p = and_true (not (nullable g)) (disjoint (first L begins g) (ahead L begins follow h F) && (is_told L begins follow g F && is_told L begins follow h F)) c in
          let q = and_true (disjoint (first L begins g) (ahead L begins follow h F)) (is_told L begins follow g F && is_told L begins follow h F) p.1 in
          let u = and_true (is_told L begins follow g F) (is_told L begins follow h F) q.1 in
          elim s [
            | inl a ↦ test_true (member (next L i) (first L begins g)) (read L begins fits r g i) (read L begins fits r h i) (deep_at place o) (exceeding g F u.0 i o place a) (reads_deep g F u.0 i o place a)
            | inr a ↦
                let t = ahead_first L (nullable h) (next L i) (first L begins h) F (exceeding h F u.1 i o place a) in
                test_false (member (next L i) (first L begins g)) (read L begins fits r g i) (read L begins fits r h i) (deep_at place o) (apart_back (next L i) (first L begins g) (ahead L begins follow h F) q.0 t) (reads_deep h F u.1 i o place a)
          ]
      reads_deep (many g) F c i o place s =
          let p = and_true (not (nullable g)) (disjoint (first L begins g) F && is_told L begins follow g (first L begins g ++ F)) c in
          let q = and_true (disjoint (first L begins g) F) (is_told L begins follow g (first L begins g ++ F)) p.1 in
          chain_deep g F (not_true (nullable g) p.0) (complete L begins follow fits r R begun shrinks finds g (first L begins g ++ F) q.1) (length i) s.0 i s.1 o place (omega arith) (some_left g s.1 o place s.3) s.2
          (exceeding g (first L begins g ++ F) q.1 s.1 o place s.3) (reads_deep g (first L begins g ++ F) q.1 s.1 o place s.3)
      reads_deep (maybe {A} x g) F c i o place s =
          let t : nat_eq (next L i) x ≡ true = ap (λ (z : Tokens L). nat_eq (next L z) x) s.2 ∙ s.3 in
          let a = take_same L (x ∷ []) s.0 i s.1 (s.2, s.3) in
          let e = reads_deep g F c s.1 o place s.4 in
          rw (t, a, e) refl
      reads_deep (grow w f ends g h) F c i o place s =
          let p = and_true (not (nullable h)) (disjoint (first L begins h) F && (is_told L begins follow g (first L begins h ++ F) && is_told L begins follow h (cond w.again (first L begins h ++ F) F))) c in
          let q = and_true (disjoint (first L begins h) F) (is_told L begins follow g (first L begins h ++ F) && is_told L begins follow h (cond w.again (first L begins h ++ F) F)) p.1 in
          let u = and_true (is_told L begins follow g (first L begins h ++ F)) (is_told L begins follow h (cond w.again (first L begins h ++ F) F)) q.1 in
          elim s [
            | inl a ↦ let e = reads_deep g (first L begins h ++ F) u.0 i o place a in rw e refl
            | inr a ↦
                let z = not_true (nullable h) p.0 in
                let t : member (next L a.1) (first L begins h) ≡ true = elim a.4 [
                  | inl b ↦ exceeding h (cond w.again (first L begins h ++ F) F) u.1 a.1 o place b.1
                  | inr b ↦ first_of h z a.1 b.1.2
                ] in
                let some : 0 < length a.1 = elim a.4 [
                  | inl b ↦ some_left h a.1 o place b.1
                  | inr b ↦ begins_some L (Spells L all_fit U h) a.1 b.1.2
                ] in
                let d : Finds w h a.0 a.1 o place = elim a.4 [
                  | inl b ↦ inl (b.0, reads_deep h (cond w.again (first L begins h ++ F) F) u.1 a.1 o place b.1)
                  | inr b ↦ inr (b.1.0, b.1.1, b.0)
                ] in
                let m = a.2.3.0 in
                let e = complete L begins follow fits r R begun shrinks finds g (first L begins h ++ F) u.0 a.2.0 i m a.2.3.1 (member-left (next L m) (first L begins h) F (chain_ahead (Spells L fits R h) (first L begins h) (begins_it L begins follow fits r R begun shrinks finds h z) a.2.1 m a.1 a.2.3.2 t)) in
                let k = grow_deep w f ends h F z (complete L begins follow fits r R begun shrinks finds h (cond w.again (first L begins h ++ F) F) u.1) (length m) a.2.0 a.2.1 a.0 m a.1 o place (omega arith) some a.2.2 a.2.3.2 t a.3 d in
                rw (e, k) refl
          ]
      reads_deep (made f g) F c i o place s = let e = reads_deep g F c i o place s in rw e refl
      reads_deep (nest p) F c i o place s = finds_x p i o place s
