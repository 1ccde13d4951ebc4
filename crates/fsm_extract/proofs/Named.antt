-- In one instance of a lawful design a name is that of one signal.
use Rattle.std.proofs.Common.{◌≡◌, ◌<◌, ◌++◌, ◌∙◌, ℕ, zero, suc, inl, inr, List, [], ◌∷◌, length, get_or, map, refl, sym, ap, subst, arith}
use Rattle.design_model.specs.Design.{AreDistinct, Design, In, Named, no_signal, signal_at}
use Rattle.design_model.specs.declared.design.Alias.{Alias}
use Rattle.design_model.specs.declared.design.Constant.{Constant}
use Rattle.design_model.specs.declared.design.Memory.{Memory}
use Rattle.design_model.specs.declared.design.Signal.{Signal}
use Rattle.design_model.specs.Lawful.{IsLawfulDesign}
use Rattle.design_model.specs.Points.{IsNameOf}
use Rattle.state_machines.proofs.Members.{in_at}
use Rattle.fsm_extract.proofs.Drawn.{in_left, in_right}

in_map : {A K : Type 0} (key : A → K) (y : A) (xs : List A) → In y xs → In (key y) (map key xs)
in_map key y [] h = absurd h
in_map key y (x ∷ xs) (inl e) = inl (ap key e)
in_map key y (x ∷ xs) (inr h) = inr (in_map key y xs h)

left_distinct : {A : Type 0} (xs ys : List A) → AreDistinct (xs ++ ys) → AreDistinct xs
left_distinct [] ys h = tt
left_distinct (x ∷ xs) ys h = ((λ i. h.0 (in_left x xs ys i)), left_distinct xs ys h.1)

right_distinct : {A : Type 0} (xs ys : List A) → AreDistinct (xs ++ ys) → AreDistinct ys
right_distinct [] ys h = h
right_distinct (x ∷ xs) ys h = right_distinct xs ys h.1

not_both : {A : Type 0} (xs ys : List A) (x : A) → AreDistinct (xs ++ ys) → In x xs → In x ys → ⊥
not_both [] ys x h a b = absurd a
not_both (y ∷ xs) ys x h (inl e) b = h.0 (subst (λ z. In z (xs ++ ys)) (sym e) (in_right x xs ys b))
not_both (y ∷ xs) ys x h (inr a) b = not_both xs ys x h.1 a b

-- what has one key is one
same_by_key : {A K : Type 0} (key : A → K) (xs : List A) → AreDistinct (map key xs) → (x y : A) → In x xs → In y xs → key x ≡ key y → x ≡ y
same_by_key key [] h x y k l e = absurd k
same_by_key key (z ∷ zs) h x y (inl a) (inl b) e = sym a ∙ b
same_by_key key (z ∷ zs) h x y (inl a) (inr b) e = absurd (h.0 (subst (λ w. In w (map key zs)) (sym (ap key a ∙ e)) (in_map key y zs b)))
same_by_key key (z ∷ zs) h x y (inr a) (inl b) e = absurd (h.0 (subst (λ w. In w (map key zs)) (e ∙ sym (ap key b)) (in_map key x zs a)))
same_by_key key (z ∷ zs) h x y (inr a) (inr b) e = same_by_key key zs h.1 x y a b e

-- and is in one place
same_place : {A K : Type 0} (key : A → K) (xs : List A) (i j : ℕ) (d : A) → AreDistinct (map key xs) → i < length xs → j < length xs → key (get_or xs i d) ≡ key (get_or xs j d) → i ≡ j
same_place key [] i j d h l m e = absurd (omega arith)
same_place key (x ∷ xs) zero zero d h l m e = refl
same_place key (x ∷ xs) zero (suc j) d h l m e = absurd (h.0 (subst (λ k. In k (map key xs)) (sym e) (in_map key (get_or xs j d) xs (in_at xs j d (omega arith)))))
same_place key (x ∷ xs) (suc i) zero d h l m e = absurd (h.0 (subst (λ k. In k (map key xs)) e (in_map key (get_or xs i d) xs (in_at xs i d (omega arith)))))
same_place key (x ∷ xs) (suc i) (suc j) d h l m e = ap suc (same_place key xs i j d h.1 (omega arith) (omega arith) e)

module _ (d : Design) (lawful : IsLawfulDesign d) where
  abbrev signal_key : Signal → Named
  signal_key s = (s.instance, s.name)

  abbrev alias_key : Alias → Named
  alias_key a = (a.instance, a.name)

  abbrev ss : List Named
  ss = map signal_key d.signals

  abbrev ms : List Named
  ms = map (λ (m : Memory). (m.instance, m.name)) d.memories

  abbrev cs : List Named
  cs = map (λ (c : Constant). (c.instance, c.name)) d.constants

  abbrev xs : List Named
  xs = map alias_key d.aliases

  signals_once : AreDistinct ss
  signals_once = left_distinct ss ms (left_distinct (ss ++ ms) cs (left_distinct (ss ++ ms ++ cs) xs lawful.names))

  aliases_once : AreDistinct xs
  aliases_once = right_distinct (ss ++ ms ++ cs) xs lawful.names

  abbrev named : ℕ → List ℕ → Named
  named i n = (i, n)

  pair : (i j : ℕ) (a b : List ℕ) → i ≡ j → a ≡ b → named i a ≡ named j b
  pair i j a b e f = ap (λ k. named k a) e ∙ ap (named j) f

  no_alias_too : (i s : ℕ) (name : List ℕ) (a : Alias) → s < length d.signals → (signal_at d s).instance ≡ i → (signal_at d s).name ≡ name → In a d.aliases → a.instance ≡ i → a.name ≡ name → ⊥
  no_alias_too i s name a l e f h g k =
      let x = signal_at d s in
      let left : In (signal_key x) ss = in_map signal_key x d.signals (in_at d.signals s no_signal l) in
      let right : In (alias_key a) xs = in_map alias_key a d.aliases h in
      let same : alias_key a ≡ signal_key x = pair a.instance x.instance a.name x.name (g ∙ sym e) (k ∙ sym f) in
      not_both (ss ++ ms ++ cs) xs (signal_key x) lawful.names (in_left (signal_key x) (ss ++ ms) cs (in_left (signal_key x) ss ms left)) (subst (λ n. In n xs) same right)

  -- a name is that of one signal
  pub one_signal : (i s t : ℕ) (name : List ℕ) → IsNameOf d i name s → IsNameOf d i name t → s ≡ t
  one_signal i s t name (inl a) (inl b) =
      same_place signal_key d.signals s t no_signal signals_once a.0 b.0 (pair (signal_at d s).instance (signal_at d t).instance (signal_at d s).name (signal_at d t).name (a.1 ∙ sym b.1) (a.2 ∙ sym b.2))
  one_signal i s t name (inl a) (inr b) = absurd (no_alias_too i s name b.0 a.0 a.1 a.2 b.1 b.2 b.3)
  one_signal i s t name (inr a) (inl b) = absurd (no_alias_too i t name a.0 b.0 b.1 b.2 a.1 a.2 a.3)
  one_signal i s t name (inr a) (inr b) =
      let same : a.0 ≡ b.0 = same_by_key alias_key d.aliases aliases_once a.0 b.0 a.1 b.1 (pair a.0.instance b.0.instance a.0.name b.0.name (a.2 ∙ sym b.2) (a.3 ∙ sym b.3)) in
      sym a.4 ∙ ap (λ (x : Alias). x.signal) same ∙ b.4
