-- Texts one after the other, and the branches of a text.
use Rattle.std.proofs.Common.{◌≡◌, ◌∙◌, ◌⊎◌, inl, inr, ⊎_elim, ℕ, ◌+◌, ◌<◌, ◌≤◌, Bool, true, false, cond, ◌&&◌, ◌||◌, List, [], ◌++◌, length, drop, append_assoc, refl, sym, ap, ap₂, subst, arith}
use Rattle.std.specs.Prelude.{max, min, nat_eq, nat_le}
use Rattle.std.proofs.lemmas.Bool.{cases_eq, cases_lt, eqb-true, eqb-false, leb-true, leb-false}
use Rattle.std.proofs.lemmas.List.{append-nil, drop_at, length-append}
use Rattle.process_names.specs.Laws.{has}
use Rattle.process_names.proofs.NamesLaw.{has-append}
use Rattle.target_counts.specs.Counts.{Adds, Counts, Replaces, Tries, count_at}
use Rattle.target_counts.specs.declared.counts.TargetCounts.{TargetCounts}

-- nothing
pub none_added : (c : TargetCounts) → Adds (λ x. 0) c c
none_added c = record { size = refl; more = []; order = sym (append-nil c.order.items); has_more = λ x l. refl }

pub none_counted : (c : TargetCounts) → Counts (λ x. 0) c c
none_counted c = record { adds = none_added c; is = λ x l. omega arith }

pub none_tried : (c : TargetCounts) → Tries (λ x. 0) c c
none_tried c = record { adds = none_added c; twice = λ x l h. omega (arith, h); once = λ x l h. refl }

-- one after the other, with any number that is not 0 exactly where one of the two is not
both_added : (n m k : ℕ → ℕ) (a b c : TargetCounts) → ((x : ℕ) → (nat_le 1 (n x) || nat_le 1 (m x)) ≡ nat_le 1 (k x)) → Adds n a b → Adds m b c → Adds k a c
both_added n m k a b c so g h =
    record {
      size = h.size ∙ g.size;
      more = g.more ++ h.more;
      order = h.order ∙ ap (λ xs. xs ++ h.more) g.order ∙ append_assoc a.order.items g.more h.more;
      has_more = λ x l. has-append x g.more h.more ∙ ap₂ (λ s t. s || t) (g.has_more x l) (h.has_more x (omega (arith, l, g.size))) ∙ so x;
    }

some_of_sum : (n m : ℕ) → (nat_le 1 n || nat_le 1 m) ≡ nat_le 1 (n + m)
some_of_sum n m = grind (arith)

some_of_max : (n m : ℕ) → (nat_le 1 n || nat_le 1 m) ≡ nat_le 1 (max n m)
some_of_max n m = grind (arith)

pub counted_then : (n m : ℕ → ℕ) (a b c : TargetCounts) → Counts n a b → Counts m b c → Counts (λ x. n x + m x) a c
counted_then n m a b c g h =
    record {
      adds = both_added n m (λ x. n x + m x) a b c (λ x. some_of_sum (n x) (m x)) g.adds h.adds;
      is = λ x l. let first = g.is x l in let second = h.is x (omega (arith, l, g.adds.size)) in omega (arith, first, second);
    }

pub tried_then : (n m : ℕ → ℕ) (a b c : TargetCounts) → Tries n a b → Tries m b c → Tries (λ x. max (n x) (m x)) a c
tried_then n m a b c g h =
    record {
      adds = both_added n m (λ x. max (n x) (m x)) a b c (λ x. some_of_max (n x) (m x)) g.adds h.adds;
      twice = λ x l k.
          let p : x < length b.counts.items = omega (arith, l, g.adds.size) in
          ⊎_elim
          (λ below. let same = g.once x l below in h.twice x p (omega (arith, k, below, same)))
          (λ above. let most = g.twice x l above in h.twice x p (omega (arith, most)))
          (cases_lt (count_at a x + n x) 2);
      once = λ x l k.
          let p : x < length b.counts.items = omega (arith, l, g.adds.size) in
          let first = g.once x l (omega (arith, k)) in
          h.once x p (omega (arith, k, first)) ∙ first;
    }

pub same_tried : (n m : ℕ → ℕ) (a b : TargetCounts) → ((x : ℕ) → n x ≡ m x) → Tries n a b → Tries m a b
same_tried n m a b e h = subst (λ f. Tries f a b) (λ i x. e x i) h

-- what was named since then
since : (n : ℕ → ℕ) (a b : TargetCounts) → (g : Adds n a b) → drop (length a.order.items) b.order.items ≡ g.more
since n a b g = ap (drop (length a.order.items)) g.order ∙ drop_at a.order.items g.more (length a.order.items) refl

same_added : (n : ℕ → ℕ) (a b c : TargetCounts) → Adds n a b → c.order.items ≡ b.order.items → length c.counts.items ≡ length b.counts.items → Adds n a c
same_added n a b c g e s = record { size = s ∙ g.size; more = g.more; order = e ∙ g.order; has_more = g.has_more }

-- what a count becomes that is replaced where it is this one and was named
became : (n v w other k : ℕ) (b : Bool) → b ≡ nat_le 1 n → w ≡ cond (b && nat_eq k v) other v → ((1 ≤ n) × (k ≡ v) × (w ≡ other)) ⊎ (((n ≡ 0) ⊎ (k ≡ v → ⊥)) × (w ≡ v))
became n v w other k false e is = inr (inl (let f = leb-false 1 n (sym e) in omega (arith, f)), is)
became n v w other k true e is = go (nat_eq k v) refl is
  where
    go : (t : Bool) → nat_eq k v ≡ t → w ≡ cond t other v → ((1 ≤ n) × (k ≡ v) × (w ≡ other)) ⊎ (((n ≡ 0) ⊎ (k ≡ v → ⊥)) × (w ≡ v))
    go true q i = inl (leb-true 1 n (sym e), eqb-true k v q, i)
    go false q i = inr (inr (eqb-false k v q), i)

module _ (n : ℕ → ℕ) (a b c : TargetCounts) (from k other : ℕ) (here : from ≡ length a.order.items) (g : Adds n a b) (r : Replaces (nat_eq k) other (drop from b.order.items) b.counts.items c.counts.items) where
  at : (x : ℕ) → x < length a.counts.items → ((1 ≤ n x) × (k ≡ count_at b x) × (count_at c x ≡ other)) ⊎ (((n x ≡ 0) ⊎ (k ≡ count_at b x → ⊥)) × (count_at c x ≡ count_at b x))
  at x l =
      let p : x < length b.counts.items = omega (arith, l, g.size) in
      became (n x) (count_at b x) (count_at c x) other k (has x g.more) (g.has_more x l) (r.is x p ∙ ap (λ xs. cond (has x xs && nat_eq k (count_at b x)) other (count_at b x)) (ap (λ i. drop i b.order.items) here ∙ since n a b g))

-- a branch is left
pub left : (n : ℕ → ℕ) (a b c : TargetCounts) (from : ℕ) → from ≡ length a.order.items → Counts n a b → c.order.items ≡ b.order.items → Replaces (nat_eq 1) 0 (drop from b.order.items) b.counts.items c.counts.items → Tries n a c
left n a b c from here h e r =
    record {
      adds = same_added n a b c h.adds e r.size;
      twice = λ x l m.
          let s = h.is x l in
          ⊎_elim (λ q. absurd (omega (arith, s, m, q.1))) (λ q. omega (arith, s, m, q.1)) (at n a b c from 1 0 here h.adds r x l);
      once = λ x l m.
          let s = h.is x l in
          ⊎_elim
          (λ q. omega (arith, s, m, q.0, q.1, q.2))
          (λ q. ⊎_elim (λ z. omega (arith, s, m, z, q.1)) (λ z. ⊎_elim (λ f. absurd (z f)) (λ f. omega (arith, s, m, f, q.1)) (cases_eq 1 (count_at b x))) q.0)
          (at n a b c from 1 0 here h.adds r x l);
    }

-- branches are joined
pub joined : (n : ℕ → ℕ) (a b c : TargetCounts) (from : ℕ) → from ≡ length a.order.items → Tries n a b → c.order.items ≡ b.order.items → Replaces (nat_eq 0) 1 (drop from b.order.items) b.counts.items c.counts.items → Counts n a c
joined n a b c from here h e r = record { adds = same_added n a b c h.adds e r.size; is = λ x l. go x l (cases_lt (count_at a x + n x) 2) (at n a b c from 0 1 here h.adds r x l) }
  where
    go : (x : ℕ) → x < length a.counts.items → (count_at a x + n x < 2) ⊎ (2 ≤ count_at a x + n x) → ((1 ≤ n x) × (0 ≡ count_at b x) × (count_at c x ≡ 1)) ⊎ (((n x ≡ 0) ⊎ (0 ≡ count_at b x → ⊥)) × (count_at c x ≡ count_at b x)) → min 2 (count_at c x) ≡ min 2 (count_at a x + n x)
    go x l (inl below) (inl q) = let s = h.once x l below in omega (arith, below, s, q.0, q.1, q.2)
    go x l (inl below) (inr q) =
        let s = h.once x l below in
        ⊎_elim (λ z. omega (arith, s, z, q.1)) (λ z. ⊎_elim (λ f. absurd (z f)) (λ f. omega (arith, s, below, f, q.1)) (cases_eq 0 (count_at b x))) q.0
    go x l (inr above) (inl q) = let s = h.twice x l above in absurd (omega (arith, s, q.1))
    go x l (inr above) (inr q) = let s = h.twice x l above in omega (arith, s, above, q.1)

-- no fewer were named
pub longer : (n : ℕ → ℕ) (a b : TargetCounts) → Adds n a b → length a.order.items ≤ length b.order.items
longer n a b g = let sum = ap length g.order ∙ length-append a.order.items g.more in omega (arith, sum)
