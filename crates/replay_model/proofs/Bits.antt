-- What is known of a cell: joins, and writes, which look at each cell alone.
use Rattle.std.proofs.Common.{◌≡◌, ◌⊎◌, inl, inr, ⊎_elim, Bool, true, false, List, [], ◌∷◌, ◌++◌, refl, sym, ap, subst, ◌∙◌, Option, Some, None, if◌then◌else◌}
use Rattle.std.specs.List.{list_any, list_all}
use Rattle.std.proofs.lemmas.Bool.{and_parts, or_cases, or_parts, or_left, or_right, both_ways, not-false, not-true}
use Rattle.event_machine.specs.Cell.{Cell, same_cell}
use Rattle.design_model.specs.four_state.Vector.{same_bit}
use Rattle.design_model.specs.four_state.declared.bit.Bit.{Bit}
use Rattle.design_model.specs.Design.{In}
use Rattle.design_model.proofs.Lawful.{same_bit_is, same_bit_self}
use Rattle.body_replay.specs.KnownBits.{Allows}
use Rattle.body_replay.specs.Replay.{flush}
use Rattle.body_replay.specs.Store.{Kept, KnownWrite, keep_all, keep_write, write_bit}
use Rattle.body_replay.specs.known_state.Join.{join_bit}
use Rattle.replay_model.specs.Step.{surely_differ, surely_same}

pub keep_same : (ks : List KnownWrite) (b b' : Kept) (c : Cell) → b c ≡ b' c → keep_all b ks c ≡ keep_all b' ks c
keep_same [] b b' c e = e
keep_same (k ∷ ks) b b' c e = keep_same ks (keep_write b k) (keep_write b' k) c (ap (λ z. if same_cell k.cell c then write_bit k.certain k.value z else z) e)

pub flush_same : (qs : List (List KnownWrite)) (b b' : Kept) (c : Cell) → b c ≡ b' c → flush b qs c ≡ flush b' qs c
flush_same [] b b' c e = e
flush_same (q ∷ qs) b b' c e = flush_same qs (keep_all b q) (keep_all b' q) c (keep_same q b b' c e)

pub flush_append : (xs ys : List (List KnownWrite)) (b : Kept) → flush b (xs ++ ys) ≡ flush (flush b xs) ys
flush_append [] ys b = refl
flush_append (x ∷ xs) ys b = flush_append xs ys (keep_all b x)

-- a join allows what either side allows
pub join_left : (p q : Option Bit) (b : Bit) → Allows p b → Allows (join_bit p q) b
join_left None q b h = tt
join_left (Some a) None b h = tt
join_left (Some a) (Some x) b h = go (same_bit a x)
  where
    go : (t : Bool) → Allows (if t then Some a else None) b
    go true = h
    go false = tt

pub join_right : (p q : Option Bit) (b : Bit) → Allows q b → Allows (join_bit p q) b
join_right None q b h = tt
join_right (Some a) None b h = tt
join_right (Some a) (Some x) b h = go (same_bit a x) refl
  where
    go : (t : Bool) → same_bit a x ≡ t → Allows (if t then Some a else None) b
    go true e = same_bit_is a x e ∙ h
    go false e = tt

-- a join that knows a bit joins two that know it
pub join_is : (x y : Option Bit) (p : Bit) → join_bit x y ≡ Some p → y ≡ Some p
join_is None y p e = absurd (cc)
join_is (Some a) None p e = absurd (cc)
join_is (Some a) (Some b) p e = go (same_bit a b) refl e
  where
    go : (t : Bool) → same_bit a b ≡ t → (if t then Some a else None) ≡ Some p → Some b ≡ Some p
    go true f g = ap Some (sym (same_bit_is a b f)) ∙ g
    go false f g = absurd (cc)

-- a join that knows none joins one that knows none, or two that differ
pub join_none : (x y : Option Bit) → join_bit x y ≡ None → (x ≡ None) ⊎ ((y ≡ None) ⊎ ((p q : Bit) × (x ≡ Some p) × (y ≡ Some q) × (p ≡ q → ⊥)))
join_none None y e = inl refl
join_none (Some a) None e = inr (inl refl)
join_none (Some a) (Some b) e = inr (inr (a, b, refl, refl, go (same_bit a b) refl e))
  where
    go : (t : Bool) → same_bit a b ≡ t → (if t then Some a else None) ≡ None → a ≡ b → ⊥
    go true f g same = absurd (cc)
    go false f g same = both_ways _ f (subst (λ z. same_bit a z ≡ true) same (same_bit_self a))

-- allowed values of what surely differs differ
pub differ_apart : (p q : Option Bit) (a b : Bit) → surely_differ p q ≡ true → Allows p a → Allows q b → a ≡ b → ⊥
differ_apart (Some x) (Some y) a b e h k same = both_ways (same_bit x y) (not-true _ e) (subst (λ z. same_bit x z ≡ true) (h ∙ same ∙ sym k) (same_bit_self x))
differ_apart (Some x) None a b e h k same = both_ways false refl e
differ_apart None q a b e h k same = both_ways false refl e

-- a known bit that does not surely differ from another is it
pub not_differ : (p : Option Bit) (a b : Bit) → p ≡ Some a → surely_differ p (Some b) ≡ false → a ≡ b
not_differ None a b e f = absurd (cc)
not_differ (Some x) a b e f = same_some a x (sym e) ∙ same_bit_is x b (not-false _ f)
  where
    same_some : (a x : Bit) → Some a ≡ Some x → a ≡ x
    same_some a x g = cc

pub same_equal : (p q : Option Bit) (a b : Bit) → surely_same p q ≡ true → Allows p a → Allows q b → a ≡ b
same_equal (Some x) (Some y) a b e h k = sym h ∙ same_bit_is x y e ∙ k
same_equal (Some x) None a b e h k = absurd (both_ways false refl e)
same_equal None q a b e h k = absurd (both_ways false refl e)

-- tests of some element of a list
pub any_in : {A : Type 0} (f : A → Bool) (xs : List A) → list_any f xs ≡ true → (x : A) × In x xs × (f x ≡ true)
any_in f [] e = absurd (both_ways false refl e)
any_in f (x ∷ xs) e = ⊎_elim (λ h. (x, inl refl, h)) (λ h. let r = any_in f xs h in (r.0, inr r.1, r.2)) (or_cases (f x) _ e)

pub in_any : {A : Type 0} (f : A → Bool) (xs : List A) (x : A) → In x xs → f x ≡ true → list_any f xs ≡ true
in_any f [] x h e = absurd h
in_any f (y ∷ ys) x (inl q) e = or_left (f y) _ (subst (λ z. f z ≡ true) (sym q) e)
in_any f (y ∷ ys) x (inr h) e = or_right (f y) _ (in_any f ys x h e)

pub none_in : {A : Type 0} (f : A → Bool) (xs : List A) → list_any f xs ≡ false → (x : A) → In x xs → f x ≡ false
none_in f [] e x h = absurd h
none_in f (y ∷ ys) e x (inl q) = subst (λ z. f z ≡ false) q (or_parts (f y) _ e).0
none_in f (y ∷ ys) e x (inr h) = none_in f ys (or_parts (f y) _ e).1 x h

pub all_in : {A : Type 0} (f : A → Bool) (xs : List A) → list_all f xs ≡ true → (x : A) → In x xs → f x ≡ true
all_in f [] e x h = absurd h
all_in f (y ∷ ys) e x (inl q) = subst (λ z. f z ≡ true) q (and_parts (f y) _ e).0
all_in f (y ∷ ys) e x (inr h) = all_in f ys (and_parts (f y) _ e).1 x h

pub in_left : {A : Type 0} (x : A) (xs ys : List A) → In x xs → In x (xs ++ ys)
in_left x [] ys h = absurd h
in_left x (y ∷ xs) ys (inl e) = inl e
in_left x (y ∷ xs) ys (inr h) = inr (in_left x xs ys h)

pub in_right : {A : Type 0} (x : A) (xs ys : List A) → In x ys → In x (xs ++ ys)
in_right x [] ys h = h
in_right x (y ∷ xs) ys h = inr (in_right x xs ys h)

pub in_halves : {A : Type 0} (x : A) (xs ys : List A) → In x (xs ++ ys) → In x xs ⊎ In x ys
in_halves x [] ys h = inr h
in_halves x (y ∷ xs) ys (inl e) = inl (inl e)
in_halves x (y ∷ xs) ys (inr h) = ⊎_elim (λ a. inl (inr a)) (λ b. inr b) (in_halves x xs ys h)
