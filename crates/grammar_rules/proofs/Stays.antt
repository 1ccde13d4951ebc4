-- A part that is known to nest too deep has as many parts around it in all that goes on from there.
use Rattle.std.proofs.Common.{◌≡◌, ◌⊎◌, ℕ, zero, suc, ◌+◌, ◌-◌, ◌<◌, ◌≤◌, true, false, cond, nat_le, nat_eq, List, [], ◌∷◌, ◌++◌, length, take, Some, None, Err, refl, sym, ap, subst, ◌∙◌, inl, inr, arith, append_assoc}
use Rattle.std.specs.Prelude.{not, ◌&&◌}
use Rattle.std.proofs.lemmas.List.{length-append}
use Rattle.grammar_rules.specs.Rule.{too_deep, Fault, Language, Tokens, Rule, one, empty, both, either, many, maybe, grow, made, nest, Growth, Ends, next, member, nullable, first, Chain, Grown, Spells}
use Rattle.grammar_rules.specs.Grammar.{Grammar, Nests, phrase, whole, IsSpelled}
use Rattle.grammar_rules.specs.Deep.{StandsAt, Begins, Exceeds, NestsAtAll, NestsTooDeep, IsFirstTooDeep}
use Rattle.grammar_rules.specs.Around.{Whole, ChainParts, GrownParts, Parts, NestParts, TreeParts, HasDeepPart, IsDeepInEach}
use Rattle.grammar_rules.proofs.Members.{and_true, not_true, both_ways, member-left, member-right, disjoint, apart_back, inside}
use Rattle.grammar_rules.proofs.Complete.{ahead, is_told, ahead_first, next_behind}
use Rattle.grammar_rules.proofs.Local.{steps, Shared, here, there, shared_after, shared_next}
use Rattle.grammar_rules.proofs.Language.{phrase_shrinks, phrase_complete, begun}
use Rattle.grammar_rules.proofs.Faults.{Within}
use Rattle.grammar_rules.proofs.Leaves.{Leaves, leaves, leaves_less, exceeds_leaves}
use Rattle.grammar_rules.proofs.DeepRead.{exceeding, first_of, next_deep, chain_ahead}
use Rattle.grammar_rules.proofs.FirstDeep.{first_there, begun_any, begun_deep, nests_leaves, deep_leaves}
use Rattle.grammar_rules.proofs.Answers.{cut, take_more, whole_left, too_deep_at}
use Rattle.grammar_rules.proofs.SameFront.{IsTold, begins_within, ahead_within, same_front}
use Rattle.grammar_rules.proofs.Measured.{IsDeepest, MeasuresWithin, Measured}
use Rattle.grammar_rules.proofs.Passes.{Tables, Passes}

module _ (L : Language) where
  -- a deep part of a part is one of what it is a part of
  deep_by : (d : ℕ) (P Q : ℕ → Tokens L → Type 0) (place : L.Place) → ((n : ℕ) (j : Tokens L) → P n j → Q n j) → HasDeepPart L d P place → HasDeepPart L d Q place
  deep_by d P Q place h s = (s.0, s.1, s.2, h s.0 s.1 s.3, s.4)

  deep_whole : (d : ℕ) (i : Tokens L) (P : ℕ → Tokens L → Type 0) (place : L.Place) → HasDeepPart L d P place → HasDeepPart L (suc d) (Whole L i P) place
  deep_whole d i P place s = (suc s.0, s.1, omega (arith, s.2), inr (s.0, refl, s.3), s.4)

  deep_wholly : (d : ℕ) (i : Tokens L) (P : ℕ → Tokens L → Type 0) (place : L.Place) → HasDeepPart L d P place → HasDeepPart L d (Whole L i P) place
  deep_wholly d i P place s = (suc s.0, s.1, omega (arith, s.2), inr (s.0, refl, s.3), s.4)

  -- it stays one where the value grows
  deep_grown : {B : Type 0} (S : B → Tokens L → Tokens L → Type 0) (Y : (v : B) (i o : Tokens L) → S v i o → ℕ → Tokens L → Type 0) (d : ℕ) (place : L.Place) (i : Tokens L) (bs : List B) (m o : Tokens L) (s : Chain S bs m o) (P : ℕ → Tokens L → Type 0)
      → HasDeepPart L d P place → HasDeepPart L d (GrownParts L S Y bs m o s i P) place
  deep_grown S Y d place i [] m o s P k = k
  deep_grown S Y d place i (b ∷ bs) m o s P k =
      deep_grown S Y d place i bs s.0 o s.2 (λ n j. Whole L i P n j ⊎ Y b m s.0 s.1 n j)
      (deep_by d (Whole L i P) (λ n j. Whole L i P n j ⊎ Y b m s.0 s.1 n j) place (λ n j x. inl x) (deep_wholly d i P place k))

  shared_stands : (x : L.Token) (p q i j : Tokens L) (place : L.Place) → Shared L x p q i j → StandsAt L i place → StandsAt L j place
  shared_stands x p q i j place here s = s
  shared_stands x p q i j place (there e) s = s

  shared_tail : (x t u : L.Token) (p q i j : Tokens L) → Shared L x p q (t ∷ i) (u ∷ j) → length p < length i → Shared L x p q i j
  shared_tail x t u p q i j here lt = absurd (omega (arith, lt))
  shared_tail x t u p q i j (there s) lt = s

  -- what may follow a value of a repetition
  chain_behind : {A : Type 0} (S : A → Tokens L → Tokens L → Type 0) (ks F : List ℕ) → ((v : A) (i o : Tokens L) → S v i o → member (next L i) ks ≡ true)
      → (vs : List A) (i o : Tokens L) → Chain S vs i o → member (next L o) F ≡ true → member (next L i) (ks ++ F) ≡ true
  chain_behind S ks F h [] i o s f = member-right (next L i) ks F (ap (λ (y : Tokens L). member (next L y) F) s ∙ f)
  chain_behind S ks F h (v ∷ vs) i o s f = member-left (next L i) ks F (h v i s.0 s.1)

  above : (d h n : ℕ) → nat_le h d ≡ false → h ≡ suc n → d ≤ n
  above d h n e q = grind (arith, e, q)

module _ (L : Language) (G : Grammar L) (T : Tables L) (P : Passes L G T) (t0 : L.Token) (rest q : Tokens L) (d e : ℕ)
    (stays_r : (p : L.Phrase) (i o : Tokens L) (place : L.Place) → NestsTooDeep L G d p i o place → length rest < length o
    → (v : L.Value p) (j u : Tokens L) (s : Nests L G e p v j u) → member (next L u) (T.follow p) ≡ true → Shared L t0 rest q i j → HasDeepPart L d (Whole L j (NestParts L G e p v j u s)) place) where
  abbrev Beyond : {A : Type 0} → Rule L A → Tokens L → Tokens L → L.Place → Type 0
  Beyond g i o place = Exceeds L (λ h. nat_le h d) (Nests L G d) (NestsAtAll L G) (NestsTooDeep L G d) g i o place

  abbrev Inside : {A : Type 0} (g : Rule L A) (v : A) (j u : Tokens L) → Within L G e g v j u → ℕ → Tokens L → Type 0
  Inside g v j u s n k = Parts L (λ h. nat_le h e) (Nests L G e) (NestParts L G e) g v j u s n k

  abbrev StaysDeep : {A : Type 0} → Rule L A → List ℕ → Type 0
  StaysDeep {A} g F = (i o : Tokens L) (place : L.Place) → Beyond g i o place → length rest < length o → (v : A) (j u : Tokens L) (s : Within L G e g v j u) → member (next L u) F ≡ true → Shared L t0 rest q i j → HasDeepPart L d (Inside g v j u s) place

  begins_beyond : {A : Type 0} (g : Rule L A) (F : List ℕ) → IsTold L G T P g F → (i o : Tokens L) (place : L.Place) → Beyond g i o place → member (next L i) (first L G.begins g) ≡ true
  begins_beyond g F c i o place s = exceeding L G.begins T.follow (λ h. nat_le h d) (Nests L G d) (NestsAtAll L G) (NestsTooDeep L G d) (begun L G T P d) (begun_any L G T P) (begun_deep L G T P d) g F c i o place s

  left_beyond : {A : Type 0} (g : Rule L A) (i o : Tokens L) (place : L.Place) → Beyond g i o place → length rest < length o → length rest < length i
  left_beyond g i o place s lt =
      let le : length o ≤ length i = leaves_less i o (exceeds_leaves L (λ h. nat_le h d) (Nests L G d) (nests_leaves L G d) (NestsAtAll L G) (NestsTooDeep L G d) (deep_leaves L G d) g i o place s).0 in
      omega (arith, lt)

  leaves_chain : {A : Type 0} (g : Rule L A) (vs : List A) (i m : Tokens L) → Chain (Within L G d g) vs i m → Leaves i m
  leaves_chain g vs i m s = leaves L (λ h. nat_le h d) (Nests L G d) (nests_leaves L G d) (many g) vs i m s

  next_same : (i j : Tokens L) (ks : List ℕ) → Shared L t0 rest q i j → member (next L i) ks ≡ true → member (next L j) ks ≡ true
  next_same i j ks s m = subst (λ (x : ℕ). member x ks ≡ true) (shared_next L t0 rest q i j s) m

  -- two sets of tokens that are apart do not both have the next token
  not_apart : (i j u : Tokens L) (xs ys : List ℕ) → disjoint xs ys ≡ true → member (next L i) xs ≡ true → Shared L t0 rest q i j → j ≡ u → member (next L u) ys ≡ true → ⊥
  not_apart i j u xs ys c m s k f = both_ways (member (next L j) xs) (next_same i j xs s m) (apart_back (next L j) xs ys c (ap (λ (z : Tokens L). member (next L z) ys) k ∙ f))

  -- ---- a repetition

  module _ {A : Type 0} (g : Rule L A) (F : List ℕ) (z : nullable g ≡ false) (apart : disjoint (first L G.begins g) F ≡ true) (told : IsTold L G T P g (first L G.begins g ++ F)) (stepping : steps L g ≡ true)
      (stays_g : StaysDeep g (first L G.begins g ++ F)) where
    stays_chain : (vs : List A) (i m o : Tokens L) (place : L.Place) → Chain (Within L G d g) vs i m → Beyond g m o place → length rest < length o
        → (ws : List A) (j u : Tokens L) (s : Chain (Within L G e g) ws j u) → member (next L u) F ≡ true → Shared L t0 rest q i j → HasDeepPart L d (ChainParts L (Within L G e g) (Inside g) ws j u s) place
    stays_chain vs i m o place k x lt [] j u s f sh =
        absurd (not_apart i j u (first L G.begins g) F apart (chain_ahead L (Within L G d g) (first L G.begins g) (begins_within L G T P d g z) vs i m k (begins_beyond g (first L G.begins g ++ F) told m o place x)) sh s f)
    stays_chain [] i m o place k x lt (w ∷ ws) j u s f sh =
        deep_by L d (Inside g w j s.0 s.1) (ChainParts L (Within L G e g) (Inside g) (w ∷ ws) j u s) place (λ n h y. inl y)
        (stays_g i o place (subst (λ (y : Tokens L). Beyond g y o place) (sym k) x) lt w j s.0 s.1 (chain_behind L (Within L G e g) (first L G.begins g) F (begins_within L G T P e g z) ws s.0 u s.2 f) sh)
    stays_chain (v ∷ vs) i m o place k x lt (w ∷ ws) j u s f sh =
        let t = chain_ahead L (Within L G d g) (first L G.begins g) (begins_within L G T P d g z) vs k.0 m k.2 (begins_beyond g (first L G.begins g ++ F) told m o place x) in
        let le : length m ≤ length k.0 = leaves_less k.0 m (leaves_chain g vs k.0 m k.2) in
        let lm : length rest < length m = left_beyond g m o place x lt in
        let a = same_front L G T P t0 rest q d e g (first L G.begins g ++ F) told stepping v i k.0 k.1 (member-left (next L k.0) (first L G.begins g) F t) w j s.0 s.1
        (chain_behind L (Within L G e g) (first L G.begins g) F (begins_within L G T P e g z) ws s.0 u s.2 f) sh (omega (arith, le, lm)) in
        deep_by L d (ChainParts L (Within L G e g) (Inside g) ws s.0 u s.2) (ChainParts L (Within L G e g) (Inside g) (w ∷ ws) j u s) place (λ n h y. inr y)
        (stays_chain vs k.0 m o place k.2 x lt ws s.0 u s.2 f a.1)

  -- ---- what grows

  module _ {A B : Type 0} (w : Growth L A) (f : A → B → A) (ends : Ends w.again w f) (h : Rule L B) (F : List ℕ) (z : nullable h ≡ false) (apart : disjoint (first L G.begins h) F ≡ true)
      (told : IsTold L G T P h (cond w.again (first L G.begins h ++ F) F)) (stepping : steps L h ≡ true) (stays_h : StaysDeep h (cond w.again (first L G.begins h ++ F) F))
      (grown : (Q : ℕ → Tokens L → Type 0) (i : Tokens L) (a : A) (b : B) (m o : Tokens L) (s : Within L G e h b m o) → IsDeepest L (Whole L i Q) (w.height a) (w.deepest a)
      → IsDeepest L (Whole L i (λ n j. Whole L i Q n j ⊎ Inside h b m o s n j)) (w.height (f a b)) (w.deepest (f a b))) where
    behind_grown : (a : A) (b : B) (cs : List B) (y : A) (j u : Tokens L) → Grown (λ n. nat_le n e) w f (f a b) cs y → Chain (Within L G e h) cs j u → member (next L u) F ≡ true → member (next L j) (cond w.again (first L G.begins h ++ F) F) ≡ true
    behind_grown a b cs y j u g s k = next_behind L G.begins T.follow (λ n. nat_le n e) (phrase L G e) (Nests L G e) (begun L G T P e) (phrase_shrinks L G T P e) (phrase_complete L G T P e) w.again w f ends h F z a b cs y j u g s k

    -- what follows a value that may grow
    abbrev Then : A → Tokens L → Tokens L → L.Place → Type 0
    Then v m o place = ((nat_le (w.height v) d ≡ true) × Beyond h m o place) ⊎ ((m ≡ o) × ((nat_le (w.height v) d ≡ false) × (w.deepest v ≡ place) × Begins L (Spells L (λ n. true) (NestsAtAll L G) h) m))

    begins_then : (v : A) (m o : Tokens L) (place : L.Place) → Then v m o place → member (next L m) (first L G.begins h) ≡ true
    begins_then v m o place (inl x) = begins_beyond h (cond w.again (first L G.begins h ++ F) F) told m o place x.1
    begins_then v m o place (inr x) = first_of L G.begins T.follow (λ h. nat_le h d) (Nests L G d) (NestsAtAll L G) (NestsTooDeep L G d) (begun L G T P d) (begun_any L G T P) (begun_deep L G T P d) h z m x.1.2

    left_then : (v : A) (m o : Tokens L) (place : L.Place) → Then v m o place → length rest < length o → length rest < length m
    left_then v m o place (inl x) lt = left_beyond h m o place x.1 lt
    left_then v m o place (inr x) lt = omega (arith, lt, ap length x.0)

    -- a part of what the value grows to by the next part
    deep_then : (v : A) (m o : Tokens L) (place : L.Place) → Then v m o place → length rest < length o
        → (b : B) (j u : Tokens L) (s : Within L G e h b j u) → member (next L u) (cond w.again (first L G.begins h ++ F) F) ≡ true → Shared L t0 rest q m j
        → (k : Tokens L) (Q : ℕ → Tokens L → Type 0) → IsDeepest L (Whole L k Q) (w.height v) (w.deepest v) → HasDeepPart L d (λ n y. Whole L k Q n y ⊎ Inside h b j u s n y) place
    deep_then v m o place (inl x) lt b j u s c sh k Q i = deep_by L d (Inside h b j u s) (λ n y. Whole L k Q n y ⊎ Inside h b j u s n y) place (λ n y r. inr r) (stays_h m o place x.1 lt b j u s c sh)
    deep_then v m o place (inr x) lt b j u s c sh k Q i = (i.0, i.1, above L d (w.height v) i.0 x.1.0 i.2, inl i.3, subst (StandsAt L i.1) x.1.1 i.4)

    stays_grow : (a : A) (bs : List B) (v : A) (i m o : Tokens L) (place : L.Place) → Grown (λ n. nat_le n d) w f a bs v → Chain (Within L G d h) bs i m → w.may v ≡ true → Then v m o place → length rest < length o
        → (cs : List B) (y : A) (j u : Tokens L) → Grown (λ n. nat_le n e) w f a cs y → (s : Chain (Within L G e h) cs j u) → member (next L u) F ≡ true → Shared L t0 rest q i j
        → (k : Tokens L) (Q : ℕ → Tokens L → Type 0) → IsDeepest L (Whole L k Q) (w.height a) (w.deepest a) → HasDeepPart L d (GrownParts L (Within L G e h) (Inside h) cs j u s k Q) place
    stays_grow a bs v i m o place g c may x lt [] y j u g2 s c2 sh k Q r =
        absurd (not_apart i j u (first L G.begins h) F apart (chain_ahead L (Within L G d h) (first L G.begins h) (begins_within L G T P d h z) bs i m c (begins_then v m o place x)) sh s c2)
    stays_grow a [] v i m o place g c may x lt (b ∷ cs) y j u g2 s c2 sh k Q r =
        let x' : Then a i o place = subst (λ (c : A). Then c i o place) (sym g) (subst (λ (n : Tokens L). Then v n o place) (sym c) x) in
        deep_grown L (Within L G e h) (Inside h) d place k cs s.0 u s.2 (λ n l. Whole L k Q n l ⊎ Inside h b j s.0 s.1 n l)
        (deep_then a i o place x' lt b j s.0 s.1 (behind_grown a b cs y s.0 u g2.2 s.2 c2) sh k Q r)
    stays_grow a (b ∷ bs) v i m o place g c may x lt (b2 ∷ cs) y j u g2 s c2 sh k Q r =
        let n = next_deep L (λ n. nat_le n d) (Within L G d h) (first L G.begins h) (begins_within L G T P d h z) w.again w f ends F a b bs v c.0 m g.2 may c.2 (begins_then v m o place x) in
        let le : length m ≤ length c.0 = leaves_less c.0 m (leaves_chain h bs c.0 m c.2) in
        let lm : length rest < length m = left_then v m o place x lt in
        let same = same_front L G T P t0 rest q d e h (cond w.again (first L G.begins h ++ F) F) told stepping b i c.0 c.1 n b2 j s.0 s.1 (behind_grown a b2 cs y s.0 u g2.2 s.2 c2) sh (omega (arith, le, lm)) in
        stays_grow (f a b2) bs v c.0 m o place (subst (λ (y : B). Grown (λ n. nat_le n d) w f (f a y) bs v) same.0 g.2) c.2 may x lt cs y s.0 u g2.2 s.2 c2 same.1 k (λ n l. Whole L k Q n l ⊎ Inside h b2 j s.0 s.1 n l) (grown Q k a b2 j s.0 s.1 r)

  -- ---- each rule

  pub stays : {A : Type 0} (g : Rule L A) (F : List ℕ) → IsTold L G T P g F → steps L g ≡ true → MeasuresWithin L G e g → StaysDeep g F
  stays (one x xs) F c b me i o place s lt v j u k f sh = absurd s
  stays empty F c b me i o place s lt v j u k f sh = absurd s
  stays (both g h) F c b me i o place (inl s) lt v j u k f sh =
      let cs = and_true (is_told L G.begins T.follow g (ahead L G.begins T.follow h F)) (is_told L G.begins T.follow h F) c in
      let bs = and_true (steps L g) (steps L h) b in
      deep_by L d (Inside g v.0 j k.0 k.1) (Inside (both g h) v j u k) place (λ n l y. inl y)
      (stays g (ahead L G.begins T.follow h F) cs.0 bs.0 me.0 i o place s lt v.0 j k.0 k.1 (ahead_within L G T P e h F v.1 k.0 u k.2 f) sh)
  stays (both g h) F c b me i o place (inr s) lt v j u k f sh =
      let cs = and_true (is_told L G.begins T.follow g (ahead L G.begins T.follow h F)) (is_told L G.begins T.follow h F) c in
      let bs = and_true (steps L g) (steps L h) b in
      let n = ahead_first L (nullable h) (next L s.1) (first L G.begins h) F (begins_beyond h F cs.1 s.1 o place s.3) in
      let same = same_front L G T P t0 rest q d e g (ahead L G.begins T.follow h F) cs.0 bs.0 s.0 i s.1 s.2 n v.0 j k.0 k.1 (ahead_within L G T P e h F v.1 k.0 u k.2 f) sh (left_beyond h s.1 o place s.3 lt) in
      deep_by L d (Inside h v.1 k.0 u k.2) (Inside (both g h) v j u k) place (λ n l y. inr y) (stays h F cs.1 bs.1 me.1 s.1 o place s.3 lt v.1 k.0 u k.2 f same.1)
  stays (either g h) F c b me i o place s lt v j u k f sh =
      let p = and_true (not (nullable g)) (disjoint (first L G.begins g) (ahead L G.begins T.follow h F) && (is_told L G.begins T.follow g F && is_told L G.begins T.follow h F)) c in
      let r = and_true (disjoint (first L G.begins g) (ahead L G.begins T.follow h F)) (is_told L G.begins T.follow g F && is_told L G.begins T.follow h F) p.1 in
      let cs = and_true (is_told L G.begins T.follow g F) (is_told L G.begins T.follow h F) r.1 in
      let bs = and_true (steps L g) (steps L h) b in
      go (not_true (nullable g) p.0) r.0 s k (λ s k. stays g F cs.0 bs.0 me.0 i o place s lt v j u k f sh) (λ s k. stays h F cs.1 bs.1 me.1 i o place s lt v j u k f sh)
      (λ s. begins_beyond g F cs.0 i o place s) (λ s. ahead_first L (nullable h) (next L i) (first L G.begins h) F (begins_beyond h F cs.1 i o place s))
    where
      go : nullable g ≡ false → disjoint (first L G.begins g) (ahead L G.begins T.follow h F) ≡ true
          → (s : Beyond g i o place ⊎ Beyond h i o place) (k : Within L G e g v j u ⊎ Within L G e h v j u)
          → (Beyond g i o place → (k : Within L G e g v j u) → HasDeepPart L d (Inside g v j u k) place) → (Beyond h i o place → (k : Within L G e h v j u) → HasDeepPart L d (Inside h v j u k) place)
          → (Beyond g i o place → member (next L i) (first L G.begins g) ≡ true) → (Beyond h i o place → member (next L i) (ahead L G.begins T.follow h F) ≡ true)
          → HasDeepPart L d (Inside (either g h) v j u k) place
      go z a (inl s) (inl k) left right x y = left s k
      go z a (inr s) (inr k) left right x y = right s k
      go z a (inl s) (inr k) left right x y = both_ways (member (next L j) (first L G.begins g)) (next_same i j (first L G.begins g) sh (x s)) (apart_back (next L j) (first L G.begins g) (ahead L G.begins T.follow h F) a (ahead_within L G T P e h F v j u k f))
      go z a (inr s) (inl k) left right x y = both_ways (member (next L j) (first L G.begins g)) (begins_within L G T P e g z v j u k) (apart_back (next L j) (first L G.begins g) (ahead L G.begins T.follow h F) a (next_same i j (ahead L G.begins T.follow h F) sh (y s)))
  stays (many g) F c b me i o place s lt vs j u k f sh =
      let p = and_true (not (nullable g)) (disjoint (first L G.begins g) F && is_told L G.begins T.follow g (first L G.begins g ++ F)) c in
      let r = and_true (disjoint (first L G.begins g) F) (is_told L G.begins T.follow g (first L G.begins g ++ F)) p.1 in
      let bs = and_true (not (nullable g)) (steps L g) b in
      stays_chain g F (not_true (nullable g) p.0) r.0 r.1 bs.1 (stays g (first L G.begins g ++ F) r.1 bs.1 me) s.0 i s.1 o place s.2 s.3 lt vs j u k f sh
  stays (maybe x g) F c b me i o place s lt None j u k f sh =
      both_ways (nat_eq (next L j) x) (subst (λ (y : ℕ). nat_eq y x ≡ true) (shared_next L t0 rest q i j sh) (ap (λ (z : Tokens L). nat_eq (next L z) x) s.2 ∙ s.3)) k.1
  stays (maybe x g) F c b me i o place s lt (Some v) j u k f sh =
      stays g F c b me s.1 o place s.4 lt v k.1 u k.4 f
      (shared_tail L t0 s.0 k.0 rest q s.1 k.1 (subst (λ (z : Tokens L). Shared L t0 rest q (s.0 ∷ s.1) z) k.2 (subst (λ (z : Tokens L). Shared L t0 rest q z j) s.2 sh)) (left_beyond g s.1 o place s.4 lt))
  stays (grow w f ends g h) F c b me i o place (inl s) lt v j u k fo sh =
      let p = and_true (not (nullable h)) (disjoint (first L G.begins h) F && (is_told L G.begins T.follow g (first L G.begins h ++ F) && is_told L G.begins T.follow h (cond w.again (first L G.begins h ++ F) F))) c in
      let r = and_true (disjoint (first L G.begins h) F) (is_told L G.begins T.follow g (first L G.begins h ++ F) && is_told L G.begins T.follow h (cond w.again (first L G.begins h ++ F) F)) p.1 in
      let cs = and_true (is_told L G.begins T.follow g (first L G.begins h ++ F)) (is_told L G.begins T.follow h (cond w.again (first L G.begins h ++ F) F)) r.1 in
      let z = not_true (nullable h) p.0 in
      let bs = and_true (not (nullable h)) (steps L g && steps L h) b in
      let ds = and_true (steps L g) (steps L h) bs.1 in
      deep_grown L (Within L G e h) (Inside h) d place j k.1 k.3.0 u k.3.2 (Inside g k.0 j k.3.0 k.3.1)
      (stays g (first L G.begins h ++ F) cs.0 ds.0 me.0 i o place s lt k.0 j k.3.0 k.3.1 (chain_behind L (Within L G e h) (first L G.begins h) F (begins_within L G T P e h z) k.1 k.3.0 u k.3.2 fo) sh)
  stays (grow {A} {B} w f ends g h) F c b me i o place (inr s) lt v j u k fo sh =
      let p = and_true (not (nullable h)) (disjoint (first L G.begins h) F && (is_told L G.begins T.follow g (first L G.begins h ++ F) && is_told L G.begins T.follow h (cond w.again (first L G.begins h ++ F) F))) c in
      let r = and_true (disjoint (first L G.begins h) F) (is_told L G.begins T.follow g (first L G.begins h ++ F) && is_told L G.begins T.follow h (cond w.again (first L G.begins h ++ F) F)) p.1 in
      let cs = and_true (is_told L G.begins T.follow g (first L G.begins h ++ F)) (is_told L G.begins T.follow h (cond w.again (first L G.begins h ++ F) F)) r.1 in
      let z = not_true (nullable h) p.0 in
      let bs = and_true (not (nullable h)) (steps L g && steps L h) b in
      let ds = and_true (steps L g) (steps L h) bs.1 in
      let inner = stays h (cond w.again (first L G.begins h ++ F) F) cs.1 ds.1 me.1 in
      let n = begins_then w f ends h F z r.0 cs.1 ds.1 inner me.3 s.0 s.1 o place s.4 in
      let le : length s.1 ≤ length s.2.3.0 = leaves_less s.2.3.0 s.1 (leaves_chain h s.2.1 s.2.3.0 s.1 s.2.3.2) in
      let lm : length rest < length s.1 = left_then w f ends h F z r.0 cs.1 ds.1 inner me.3 s.0 s.1 o place s.4 lt in
      let same = same_front L G T P t0 rest q d e g (first L G.begins h ++ F) cs.0 ds.0 s.2.0 i s.2.3.0 s.2.3.1
      (member-left (next L s.2.3.0) (first L G.begins h) F (chain_ahead L (Within L G d h) (first L G.begins h) (begins_within L G T P d h z) s.2.1 s.2.3.0 s.1 s.2.3.2 n))
      k.0 j k.3.0 k.3.1 (chain_behind L (Within L G e h) (first L G.begins h) F (begins_within L G T P e h z) k.1 k.3.0 u k.3.2 fo) sh (omega (arith, le, lm)) in
      stays_grow w f ends h F z r.0 cs.1 ds.1 inner me.3 k.0 s.2.1 s.0 s.2.3.0 s.1 o place (subst (λ (y : A). Grown (λ n. nat_le n d) w f y s.2.1 s.0) same.0 s.2.2) s.2.3.2 s.3 s.4 lt
      k.1 v k.3.0 u k.2 k.3.2 fo same.1 j (Inside g k.0 j k.3.0 k.3.1) (me.2 k.0 j k.3.0 k.3.1)
  stays (made f g) F c b me i o place s lt v j u k fo sh = stays g F c b me i o place s lt k.0 j u k.2 fo sh
  stays (nest p) F c b me i o place s lt v j u k f sh = stays_r p i o place s lt v j u k (inside (next L u) F (T.follow p) c f) sh

module _ (L : Language) (G : Grammar L) (T : Tables L) (P : Passes L G T) (M : Measured L G) (t : L.Token) (rest q : Tokens L) where
  stays_bottom : (e : ℕ) (p : L.Phrase) (i o : Tokens L) (place : L.Place) → NestsTooDeep L G zero p i o place → length rest < length o
      → (v : L.Value p) (j u : Tokens L) (s : Nests L G e p v j u) → member (next L u) (T.follow p) ≡ true → Shared L t rest q i j → HasDeepPart L zero (Whole L j (NestParts L G e p v j u s)) place
  stays_bottom e p i o place x lt v j u s f sh = (0, j, omega arith, inl (refl, refl), shared_stands L t rest q i j place sh x.1)

  stays_phrase : (d e : ℕ) (p : L.Phrase) (i o : Tokens L) (place : L.Place) → NestsTooDeep L G d p i o place → length rest < length o
      → (v : L.Value p) (j u : Tokens L) (s : Nests L G e p v j u) → member (next L u) (T.follow p) ≡ true → Shared L t rest q i j → HasDeepPart L d (Whole L j (NestParts L G e p v j u s)) place
  stays_phrase zero e p i o place x lt v j u s f sh = stays_bottom e p i o place x lt v j u s f sh
  stays_phrase (suc d) zero p i o place x lt v j u s f sh = absurd s
  stays_phrase (suc d) (suc e) p i o place x lt v j u s f sh =
      deep_whole L d j (NestParts L G (suc e) p v j u s) place (stays L G T P t rest q d e (stays_phrase d e) (G.rule_of p) (T.follow p) (P.told p) (P.stepping p) (M.phrases e p) i o place x lt v j u s f sh)

  -- in each tree that the tokens up to there go on to
  pub stays_tree : (d : ℕ) (c : Tokens L) (place : L.Place) → IsFirstTooDeep L G d (c ++ t ∷ rest) (t ∷ rest) place → (e : ℕ) (v : G.Tree) (s : IsSpelled L G e (c ++ t ∷ q) v) → HasDeepPart L d (TreeParts L G e (c ++ t ∷ q) v s) place
  stays_tree d c place x e v s =
      stays L G T P t rest q d e (stays_phrase d e) G.source (0 ∷ []) P.source_told P.source_steps (M.source e) (c ++ t ∷ rest) (t ∷ rest) place x (omega arith) v (c ++ t ∷ q) [] s refl (shared_after L t rest q c)

module _ (L : Language) (G : Grammar L) (T : Tables L) (P : Passes L G T) (M : Measured L G) where
  pub deep_in_each : (d : ℕ) (i : Tokens L) (place : L.Place) (n : ℕ) → whole L G d i ≡ Err (record { kind = too_deep place; left = n }) → IsDeepInEach L G d i (length i - n) place
  deep_in_each d i place n x e more v s =
      let f : Fault L = record { kind = too_deep place; left = n } in
      let le : n ≤ length i = whole_left L G T P d i f x in
      let k = cut n i (too_deep_at L G T P d n place i x).0 le in
      let longer : length i ≡ length k.0 + suc (length k.2) = ap length k.3 ∙ length-append k.0 (k.1 ∷ k.2) in
      let same_place : length k.0 ≡ length i - n = omega (arith, k.4) in
      let with : take (suc (length i - n)) i ≡ k.0 ++ k.1 ∷ [] = subst (λ (m : ℕ). take (suc m) i ≡ k.0 ++ k.1 ∷ []) same_place (ap (take (suc (length k.0))) k.3 ∙ take_more k.0 k.2 k.1) in
      let all : take (suc (length i - n)) i ++ more ≡ k.0 ++ k.1 ∷ more = ap (λ (z : Tokens L). z ++ more) with ∙ append_assoc k.0 (k.1 ∷ []) more in
      let first : IsFirstTooDeep L G d (k.0 ++ k.1 ∷ k.2) (k.1 ∷ k.2) place = first_there L G T P d k.0 k.1 k.2 place n (subst (λ (z : Tokens L). whole L G d z ≡ Err f) k.3 x) k.4 in
      go (take (suc (length i - n)) i ++ more) (sym all) (λ s. stays_tree L G T P M k.1 k.2 more d k.0 place first e v s) s
    where
      go : {z : Tokens L} (y : Tokens L) → z ≡ y → ((s : IsSpelled L G e z v) → HasDeepPart L d (TreeParts L G e z v s) place) → (s : IsSpelled L G e y v) → HasDeepPart L d (TreeParts L G e y v s) place
      go {z} y q h = subst (λ (y : Tokens L). (s : IsSpelled L G e y v) → HasDeepPart L d (TreeParts L G e y v s) place) q h
