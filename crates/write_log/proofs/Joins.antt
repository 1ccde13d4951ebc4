-- What both ways leave of each signal.
use Rattle.std.proofs.Common.{◌≡◌, inl, inr, ℕ, zero, suc, ◌+◌, ◌*◌, ◌<◌, ◌==◌, ◌||◌, Bool, true, false, if◌then◌else◌, List, [], ◌∷◌, ◌++◌, length, get_or, is_some, Option, Some, None, refl, sym, ap, ap₂, subst, ◌∙◌, arith, eq-eqb}
use Rattle.std.specs.List.{Contains}
use Rattle.std.proofs.lemmas.Bool.{eqb-true, false≢true}
use Rattle.known_state.specs.Partly.{Partly, blame_of, with_blame}
use Rattle.known_state.specs.Stored.{mask_of_sure}
use Rattle.value_store.specs.four_state.Vector.{same_bit}
use Rattle.value_store.proofs.body_replay.Frames.{join_self}
use Rattle.known_state.specs.Join.{join_bit, joined}
use Rattle.known_state.proofs.Cases.{same_bit_eq}
use Rattle.value_store.specs.four_state.declared.bit.Bit.{Bit}
use Rattle.value_store.specs.four_state.declared.bit.Bit.TheVariants.{Zero, One, X, Z}
use Rattle.value_store.specs.Signals.{Signals, read_at}
use Rattle.write_log.specs.Entries.{IsCommon, Joined, Seen, first_value, has, names}
use Rattle.write_log.specs.declared.entry.Overwritten.{Overwritten}
use Rattle.write_log.proofs.Firsts.{first_append, first_named, first_unnamed, names_append}

-- ---- lists of numbers

pub contains_has : (xs : List ℕ) (x : ℕ) → Contains xs x → has xs x ≡ true
contains_has [] x h = absurd (below_none h.0 h.1)
  where
    below_none : (k : ℕ) → k < 0 → ⊥
    below_none k l = omega (arith, l)
contains_has (y ∷ ys) x h = go (y == x) refl h.0 h.1 h.2 (contains_has ys x)
  where
    go : (t : Bool) → (y == x) ≡ t → (k : ℕ) → k < length (y ∷ ys) → get_or (y ∷ ys) k x ≡ x → (Contains ys x → has ys x ≡ true) → (t || has ys x) ≡ true
    go true e k l i f = refl
    go false e zero l i f = absurd (false≢true (sym e ∙ eq-eqb y x i))
    go false e (suc k) l i f = f (k, omega (arith, l), i)

pub has_contains : (xs : List ℕ) (x : ℕ) → has xs x ≡ true → Contains xs x
has_contains [] x h = absurd (false≢true h)
has_contains (y ∷ ys) x h = go (y == x) refl (has_contains ys x) h
  where
    go : (t : Bool) → (y == x) ≡ t → (has ys x ≡ true → Contains ys x) → (t || has ys x) ≡ true → Contains (y ∷ ys) x
    go true e f i = (0, omega arith, eqb-true y x e)
    go false e f i = let c : Contains ys x = f i in let l = c.1 in (suc c.0, omega (arith, l), c.2)

-- what an insertion into a set of numbers says
pub was_new : (xs : List ℕ) (x : ℕ) (result : Bool) → result ≡ true → (Contains xs x → result ≡ false) → has xs x ≡ false
was_new xs x result e f = go (has xs x) refl
  where
    go : (t : Bool) → has xs x ≡ t → t ≡ false
    go true h = absurd (false≢true (sym (f (has_contains xs x h)) ∙ e))
    go false h = refl

pub has_append : (xs ys : List ℕ) (x : ℕ) → has (xs ++ ys) x ≡ (has xs x || has ys x)
has_append [] ys x = refl
has_append (z ∷ xs) ys x = go (z == x) (has_append xs ys x)
  where
    go : (t : Bool) → has (xs ++ ys) x ≡ (has xs x || has ys x) → (t || has (xs ++ ys) x) ≡ ((t || has xs x) || has ys x)
    go true i = refl
    go false i = i

or_left : (s t : Bool) → (s || t) ≡ false → s ≡ false
or_left true t e = e
or_left false t e = refl

or_right : (s t : Bool) → (s || t) ≡ false → t ≡ false
or_right true t e = absurd (false≢true (sym e))
or_right false t e = e

or_assoc : (r s t : Bool) → ((r || s) || t) ≡ (r || (s || t))
or_assoc true s t = refl
or_assoc false s t = refl

-- ---- what two values have in common

join_swap : (p q : Option Bit) → join_bit p q ≡ join_bit q p
join_swap None None = refl
join_swap None (Some b) = refl
join_swap (Some a) None = refl
join_swap (Some Zero) (Some Zero) = refl
join_swap (Some Zero) (Some One) = refl
join_swap (Some Zero) (Some X) = refl
join_swap (Some Zero) (Some Z) = refl
join_swap (Some One) (Some Zero) = refl
join_swap (Some One) (Some One) = refl
join_swap (Some One) (Some X) = refl
join_swap (Some One) (Some Z) = refl
join_swap (Some X) (Some Zero) = refl
join_swap (Some X) (Some One) = refl
join_swap (Some X) (Some X) = refl
join_swap (Some X) (Some Z) = refl
join_swap (Some Z) (Some Zero) = refl
join_swap (Some Z) (Some One) = refl
join_swap (Some Z) (Some X) = refl
join_swap (Some Z) (Some Z) = refl

joined_swap : (ps qs : List (Option Bit)) → joined ps qs ≡ joined qs ps
joined_swap [] [] = refl
joined_swap [] (q ∷ qs) = refl
joined_swap (p ∷ ps) [] = refl
joined_swap (p ∷ ps) (q ∷ qs) = ap₂ (λ a b. a ∷ b) (join_swap p q) (joined_swap ps qs)

pub common_swap : (test : ℕ) (a b q : Partly) → IsCommon test a b q → IsCommon test b a q
common_swap test a b q (inl h) = inl (sym h.0, sym h.1, h.2 ∙ h.0, h.3 ∙ h.1)
common_swap test a b q (inr h) = inr (λ e f. h.0 (sym e) (sym f), h.1 ∙ joined_swap a.bits b.bits, h.2)

pub length_joined : (ps qs : List (Option Bit)) → length ps ≡ length qs → length (joined ps qs) ≡ length ps
length_joined [] qs e = refl
length_joined (p ∷ ps) [] e = absurd (omega (arith, e))
length_joined (p ∷ ps) (q ∷ qs) e = ap suc (length_joined ps qs (omega (arith, e)))

mask_cons : (p : Option Bit) (ps : List (Option Bit)) → mask_of_sure (p ∷ ps) ≡ (if is_some p then 1 else 0) + 2 * mask_of_sure ps
unfolding mask_of_sure
mask_cons p ps = refl

-- where the common bits are sure wherever one of two vectors is, and wherever the other is, both are the same
pub same_masks : (ps qs : List (Option Bit)) → length ps ≡ length qs → mask_of_sure (joined ps qs) ≡ mask_of_sure ps → mask_of_sure (joined ps qs) ≡ mask_of_sure qs → ps ≡ qs
same_masks [] [] e l r = refl
same_masks [] (q ∷ qs) e l r = absurd (omega (arith, e))
same_masks (p ∷ ps) [] e l r = absurd (omega (arith, e))
same_masks (p ∷ ps) (q ∷ qs) e l r =
    go p q (same_masks ps qs (omega (arith, e))) (sym (mask_cons (join_bit p q) (joined ps qs)) ∙ l ∙ mask_cons p ps) (sym (mask_cons (join_bit p q) (joined ps qs)) ∙ r ∙ mask_cons q qs)
  where
    by : (a b : Bit) (t : Bool) → same_bit a b ≡ t → (mask_of_sure (joined ps qs) ≡ mask_of_sure ps → mask_of_sure (joined ps qs) ≡ mask_of_sure qs → ps ≡ qs) → (if is_some (if t then Some a else None) then 1 else 0) + 2 * mask_of_sure (joined ps qs) ≡ 1 + 2 * mask_of_sure ps → (if is_some (if t then Some a else None) then 1 else 0) + 2 * mask_of_sure (joined ps qs) ≡ 1 + 2 * mask_of_sure qs → (Some a ∷ ps) ≡ (Some b ∷ qs)
    by a b true e f l r = ap₂ (λ x xs. Some x ∷ xs) (same_bit_eq a b e) (f (omega (arith, l)) (omega (arith, r)))
    by a b false e f l r = absurd (omega (arith, l))

    go : (p q : Option Bit) → (mask_of_sure (joined ps qs) ≡ mask_of_sure ps → mask_of_sure (joined ps qs) ≡ mask_of_sure qs → ps ≡ qs) → (if is_some (join_bit p q) then 1 else 0) + 2 * mask_of_sure (joined ps qs) ≡ (if is_some p then 1 else 0) + 2 * mask_of_sure ps → (if is_some (join_bit p q) then 1 else 0) + 2 * mask_of_sure (joined ps qs) ≡ (if is_some q then 1 else 0) + 2 * mask_of_sure qs → (p ∷ ps) ≡ (q ∷ qs)
    go None None f l r = ap (λ xs. None ∷ xs) (f (omega (arith, l)) (omega (arith, r)))
    go None (Some b) f l r = absurd (omega (arith, r))
    go (Some a) None f l r = absurd (omega (arith, l))
    go (Some a) (Some b) f l r = by a b (same_bit a b) refl f l r

joined_self : (ps : List (Option Bit)) → joined ps ps ≡ ps
joined_self [] = refl
joined_self (p ∷ ps) = ap₂ (λ a b. a ∷ b) (join_self p) (joined_self ps)

-- what both leave of a signal, by the masks of the sure bits and the blames
module _ (test : ℕ) (a b q : Partly) (is : q ≡ with_blame (joined a.bits b.bits) a.signed test) where
  left_mask : a.bits ≡ b.bits → mask_of_sure q.bits ≡ mask_of_sure a.bits
  left_mask e = ap mask_of_sure (ap (λ (p : Partly). p.bits) is ∙ ap (joined a.bits) (sym e) ∙ joined_self a.bits)

  differs : (a.bits ≡ b.bits → a.blame ≡ b.blame → ⊥) → IsCommon test a b q
  differs f =
      inr (f, ap (λ (p : Partly). p.bits) is, ap (λ (p : Partly). p.blame) is ∙ sym (ap (λ (p : Partly). blame_of p.bits test) is))

  pub left_lost : (mask_of_sure q.bits ≡ mask_of_sure a.bits → ⊥) → IsCommon test a b q
  left_lost f = differs (λ e g. f (left_mask e))

  pub right_lost : (mask_of_sure q.bits ≡ mask_of_sure b.bits → ⊥) → IsCommon test a b q
  right_lost f = differs (λ e g. f (left_mask e ∙ ap mask_of_sure e))

  pub other_blame : (a.blame ≡ b.blame → ⊥) → IsCommon test a b q
  other_blame f = differs (λ e g. f g)

  pub nothing_lost : length a.bits ≡ length b.bits → mask_of_sure q.bits ≡ mask_of_sure a.bits → mask_of_sure q.bits ≡ mask_of_sure b.bits → a.blame ≡ b.blame → IsCommon test a b a
  nothing_lost size l r same =
      let bits : mask_of_sure (joined a.bits b.bits) ≡ mask_of_sure q.bits = ap (λ (p : Partly). mask_of_sure p.bits) (sym is) in
      inl (same_masks a.bits b.bits size (bits ∙ l) (bits ∙ r), same, refl, refl)

-- ---- joining

-- one entry whose signal was seen
pub joined_seen : (test : ℕ) (e : Overwritten) (seen : List ℕ) (v : Signals) → has seen e.signal ≡ true → Joined test (e ∷ []) seen v v
joined_seen test e seen v h =
    record { seen_before = λ x i. refl; unnamed = λ x i. refl; joined = λ x i j. absurd (go x (e.signal == x) refl i j) }
  where
    go : (x : ℕ) (t : Bool) → (e.signal == x) ≡ t → has seen x ≡ false → (t || false) ≡ true → ⊥
    go x true is i j = false≢true (sym i ∙ ap (has seen) (sym (eqb-true e.signal x is)) ∙ h)
    go x false is i j = false≢true j

-- one whose signal was not
pub joined_new : (test : ℕ) (e : Overwritten) (seen : List ℕ) (v w : Signals) (q : Partly) → has seen e.signal ≡ false → IsCommon test e.value (read_at v e.signal) q → ((x : ℕ) → read_at w x ≡ (if e.signal == x then q else read_at v x)) → Joined test (e ∷ []) seen v w
joined_new test e seen v w q new common reads =
    record {
      seen_before = λ x i. seen_at x (e.signal == x) refl i;
      unnamed = λ x i. other x (e.signal == x) refl i;
      joined = λ x i j. here x (e.signal == x) refl j;
    }
  where
    seen_at : (x : ℕ) (t : Bool) → (e.signal == x) ≡ t → has seen x ≡ true → read_at w x ≡ read_at v x
    seen_at x true is i = absurd (false≢true (sym new ∙ ap (has seen) (eqb-true e.signal x is) ∙ i))
    seen_at x false is i = reads x ∙ ap (λ t. if t then q else read_at v x) is

    other : (x : ℕ) (t : Bool) → (e.signal == x) ≡ t → (t || false) ≡ false → read_at w x ≡ read_at v x
    other x true is i = absurd (false≢true (sym i))
    other x false is i = reads x ∙ ap (λ t. if t then q else read_at v x) is

    here : (x : ℕ) (t : Bool) → (e.signal == x) ≡ t → (t || false) ≡ true → IsCommon test (if t then e.value else read_at v x) (read_at v x) (read_at w x)
    here x false is j = absurd (false≢true j)
    here x true is j =
        let same : e.signal ≡ x = eqb-true e.signal x is in
        let left : read_at w x ≡ q = reads x ∙ ap (λ t. if t then q else read_at v x) is in
        subst (IsCommon test e.value (read_at v x)) (sym left) (subst (λ y. IsCommon test e.value (read_at v y) q) same common)

pub joined_nothing : (test : ℕ) (seen : List ℕ) (v : Signals) → Joined test [] seen v v
joined_nothing test seen v = record { seen_before = λ x i. refl; unnamed = λ x i. refl; joined = λ x i j. absurd (false≢true j) }

pub joined_both : (test : ℕ) (es fs : List Overwritten) (seen seen' : List ℕ) (u v w : Signals) → Seen es seen seen' → Joined test es seen u v → Joined test fs seen' v w → Joined test (es ++ fs) seen u w
joined_both test es fs seen seen' u v w s a b =
    record {
      seen_before = λ x i. b.seen_before x (s x ∙ ap (λ t. t || names es x) i) ∙ a.seen_before x i;
      unnamed = λ x i.
          let none : (names es x || names fs x) ≡ false = sym (names_append es fs x) ∙ i in
          b.unnamed x (or_right (names es x) (names fs x) none) ∙ a.unnamed x (or_left (names es x) (names fs x) none);
      joined = λ x i j. by x (names es x) refl i (sym (names_append es fs x) ∙ j);
    }
  where
    by : (x : ℕ) (t : Bool) → names es x ≡ t → has seen x ≡ false → (names es x || names fs x) ≡ true → IsCommon test (first_value (es ++ fs) x (read_at u x)) (read_at u x) (read_at w x)
    by x true e i j =
        let known : has seen' x ≡ true = s x ∙ ap₂ (λ p q. p || q) i e in
        let first : first_value es x (read_at u x) ≡ first_value (es ++ fs) x (read_at u x) = first_named es x (read_at u x) (first_value fs x (read_at u x)) e ∙ sym (first_append es fs x (read_at u x)) in
        subst (λ q. IsCommon test (first_value (es ++ fs) x (read_at u x)) (read_at u x) q) (sym (b.seen_before x known)) (subst (λ q. IsCommon test q (read_at u x) (read_at v x)) first (a.joined x i e))
    by x false e i j =
        let known : has seen' x ≡ false = s x ∙ ap₂ (λ p q. p || q) i e in
        let later : names fs x ≡ true = ap (λ p. p || names fs x) (sym e) ∙ j in
        let same : read_at v x ≡ read_at u x = a.unnamed x e in
        let first : first_value fs x (read_at u x) ≡ first_value (es ++ fs) x (read_at u x) = sym (first_unnamed es x (first_value fs x (read_at u x)) e) ∙ sym (first_append es fs x (read_at u x)) in
        subst (λ q. IsCommon test q (read_at u x) (read_at w x)) first (subst (λ q. IsCommon test (first_value fs x q) q (read_at w x)) same (b.joined x known later))

pub seen_nothing : (seen : List ℕ) → Seen [] seen seen
seen_nothing seen x = sym (or_none (has seen x))
  where
    or_none : (t : Bool) → (t || false) ≡ t
    or_none true = refl
    or_none false = refl

pub seen_both : (es fs : List Overwritten) (a b c : List ℕ) → Seen es a b → Seen fs b c → Seen (es ++ fs) a c
seen_both es fs a b c s t x =
    t x ∙ ap (λ p. p || names fs x) (s x) ∙ or_assoc (has a x) (names es x) (names fs x) ∙ ap (λ p. has a x || p) (sym (names_append es fs x))

-- one entry more, whose signal was seen or is
pub seen_old : (e : Overwritten) (seen : List ℕ) → has seen e.signal ≡ true → Seen (e ∷ []) seen seen
seen_old e seen h x = go (e.signal == x) refl
  where
    or_none : (t : Bool) → t ≡ (t || false)
    or_none true = refl
    or_none false = refl

    go : (t : Bool) → (e.signal == x) ≡ t → has seen x ≡ (has seen x || (t || false))
    go true is =
        let known : has seen x ≡ true = ap (has seen) (sym (eqb-true e.signal x is)) ∙ h in
        known ∙ sym (ap (λ p. p || true) known)
    go false is = or_none (has seen x)

pub seen_new : (e : Overwritten) (seen : List ℕ) → Seen (e ∷ []) seen (seen ++ e.signal ∷ [])
seen_new e seen x = has_append seen (e.signal ∷ []) x
