-- What a body mentions is of the design.
use Rattle.std.proofs.Common.{◌≡◌, ◌∙◌, ⊎_elim, ℕ, ◌+◌, ◌<◌, ◌==◌, ◌&&◌, ◌||◌, Bool, true, if◌then◌else◌, List, [], ◌∷◌, length, max, sym, arith}
use Rattle.std.specs.Prelude.{nat_le, nat_lt}
use Rattle.std.specs.List.{list_all, list_any}
use Rattle.std.proofs.lemmas.Bool.{and_parts, eqb-true, false≢true, ltb-true, or_cases}
use Rattle.design_model.specs.Assignment.{target_width}
use Rattle.design_model.specs.Design.{Design, IsClocked, body, is_memory}
use Rattle.design_model.specs.Lawful.{wakes_of}
use Rattle.design_model.specs.Machine.{is_level}
use Rattle.design_model.specs.Mentions.{arms_mention, body_mentions, body_mentions_all, index_mentions, indexes_mention, is_constant, mentions, mentions_any}
use Rattle.design_model.specs.Shape.{all_signed_of, are_alone, are_bodies, are_shaped, are_targets, has_shape, is_alone, is_arms, is_body, is_shaped, is_target, is_wide_unary, own_sign, own_width, widest_of}
use Rattle.design_model.specs.Tree.{Arms, Process, Stmt, Stmts, Target, Targets, Term, Terms, a_stmt, a_target, a_term, all_of, arm, assign, binary, bit, bits_of, block, branch, choice, clocked, comb, concat, empty, no_arms, no_stmts, no_targets, no_terms, number, part, repeat, select, set, several, sign, signal, slide, turns, unary, word, word_of}
use Rattle.design_model.proofs.BitReads.{binary_shape, binary_shaped, if_cases}
use Rattle.process_names.proofs.NamesLaw.{body_is, level_is}
use Rattle.wake_bits.specs.Mentions.{mentioned_names}

module _ (d : Design) (x : ℕ) where
  abbrev Below : Type 0
  Below = x < length d.signals + length d.memories

  either : (a b : Bool) → (a ≡ true → Below) → (b ≡ true → Below) → (a || b) ≡ true → Below
  either a b f g h = ⊎_elim f g (or_cases a b h)

  a_signal_is : (s : ℕ) → nat_lt s (length d.signals) ≡ true → (s == x) ≡ true → Below
  a_signal_is s l e = omega (arith, eqb-true s x e, ltb-true s (length d.signals) l)

  a_memory_is : (m : ℕ) → is_memory d m ≡ true → (m == x) ≡ true → Below
  a_memory_is m l e = omega (arith, eqb-true m x e, ltb-true m (length d.signals + length d.memories) (and_parts (nat_le (length d.signals) m) _ l).1)

  mutual
    term_below : (w : ℕ) (g : Bool) (t : Term) → is_shaped d w g t ≡ true → mentions x t ≡ true → Below
    term_below w g (number h n) shape m = absurd (false≢true m)
    term_below w g (signal h s) shape m = a_signal_is s (and_parts (has_shape w g h) (nat_lt s (length d.signals)) shape).1 m
    term_below w g (word h k i) shape m =
        let p = and_parts (has_shape w g h && is_memory d k) (is_shaped d (own_width d i) (own_sign d i) i) shape in
        either (k == x) (mentions x i) (a_memory_is k (and_parts (has_shape w g h) (is_memory d k) p.0).1) (term_below (own_width d i) (own_sign d i) i p.1) m
    term_below w g (bit h t i) shape m =
        let p = and_parts (has_shape w g h && is_shaped d (own_width d t) (own_sign d t) t) (is_shaped d (own_width d i) (own_sign d i) i) shape in
        let q = and_parts (has_shape w g h) (is_shaped d (own_width d t) (own_sign d t) t) p.0 in
        either (mentions x t) (mentions x i) (term_below (own_width d t) (own_sign d t) t q.1) (term_below (own_width d i) (own_sign d i) i p.1) m
    term_below w g (part h t i j) shape m =
        let p5 = and_parts _ (is_constant j) shape in
        let p4 = and_parts _ (is_constant i) p5.0 in
        let p3 = and_parts _ (is_shaped d (own_width d j) (own_sign d j) j) p4.0 in
        let p2 = and_parts _ (is_shaped d (own_width d i) (own_sign d i) i) p3.0 in
        let p1 = and_parts (has_shape w g h) (is_shaped d (own_width d t) (own_sign d t) t) p2.0 in
        either (mentions x t) (mentions x i || mentions x j) (term_below (own_width d t) (own_sign d t) t p1.1) (either (mentions x i) (mentions x j) (term_below (own_width d i) (own_sign d i) i p2.1) (term_below (own_width d j) (own_sign d j) j p3.1)) m
    term_below w g (slide h t b k up) shape m =
        let p4 = and_parts _ (is_constant k) shape in
        let p3 = and_parts _ (is_shaped d (own_width d k) (own_sign d k) k) p4.0 in
        let p2 = and_parts _ (is_shaped d (own_width d b) (own_sign d b) b) p3.0 in
        let p1 = and_parts (has_shape w g h) (is_shaped d (own_width d t) (own_sign d t) t) p2.0 in
        either (mentions x t) (mentions x b || mentions x k) (term_below (own_width d t) (own_sign d t) t p1.1) (either (mentions x b) (mentions x k) (term_below (own_width d b) (own_sign d b) b p2.1) (term_below (own_width d k) (own_sign d k) k p3.1)) m
    term_below w g (unary h op t) shape m =
        ⊎_elim (λ p. term_below w g t p m) (λ p. term_below (own_width d t) (own_sign d t) t p m) (if_cases (is_wide_unary op) (is_shaped d w g t) (is_shaped d (own_width d t) (own_sign d t) t) (and_parts (has_shape w g h) (if is_wide_unary op then is_shaped d w g t else is_shaped d (own_width d t) (own_sign d t) t) shape).1)
    term_below w g (binary h op t y) shape m =
        let k = binary_shape d w g op t y (and_parts (has_shape w g h) (binary_shaped d w g op t y) shape).1 in
        either (mentions x t) (mentions x y) (term_below k.0 k.1 t k.4) (term_below k.2 k.3 y k.5) m
    term_below w g (choice h c t y) shape m =
        let p3 = and_parts _ (is_shaped d w g y) shape in
        let p2 = and_parts _ (is_shaped d w g t) p3.0 in
        let p1 = and_parts (has_shape w g h) (is_shaped d (own_width d c) (own_sign d c) c) p2.0 in
        either (mentions x c) (mentions x t || mentions x y) (term_below (own_width d c) (own_sign d c) c p1.1) (either (mentions x t) (mentions x y) (term_below w g t p2.1) (term_below w g y p3.1)) m
    term_below w g (concat h ts) shape m = terms_below ts (and_parts (has_shape w g h) (are_alone d ts) shape).1 m
    term_below w g (repeat h n ts) shape m =
        let p2 = and_parts _ (are_alone d ts) shape in
        let p1 = and_parts _ (is_constant n) p2.0 in
        let p0 = and_parts (has_shape w g h) (is_shaped d (own_width d n) (own_sign d n) n) p1.0 in
        either (mentions x n) (mentions_any x ts) (term_below (own_width d n) (own_sign d n) n p0.1) (terms_below ts p2.1) m
    term_below w g (sign h s t) shape m = term_below (own_width d t) (own_sign d t) t (and_parts (has_shape w g h) (is_shaped d (own_width d t) (own_sign d t) t) shape).1 m

    terms_below : (ts : Terms) → are_alone d ts ≡ true → mentions_any x ts ≡ true → Below
    terms_below no_terms shape m = absurd (false≢true m)
    terms_below (a_term t ts) shape m =
        let p = and_parts (is_shaped d (own_width d t) (own_sign d t) t) (are_alone d ts) shape in
        either (mentions x t) (mentions_any x ts) (term_below (own_width d t) (own_sign d t) t p.0) (terms_below ts p.1) m

  labels_below : (w : ℕ) (g : Bool) (ts : Terms) → are_shaped d w g ts ≡ true → mentions_any x ts ≡ true → Below
  labels_below w g no_terms shape m = absurd (false≢true m)
  labels_below w g (a_term t ts) shape m =
      let p = and_parts (is_shaped d w g t) (are_shaped d w g ts) shape in
      either (mentions x t) (mentions_any x ts) (term_below w g t p.0) (labels_below w g ts p.1) m

  mutual
    target_below : (y : Target) → is_target d y ≡ true → index_mentions x y ≡ true → Below
    target_below (all_of s) shape m = absurd (false≢true m)
    target_below (bits_of s low w) shape m =
        let p = and_parts (nat_lt s (length d.signals) && is_alone d low) (nat_le 1 w) shape in
        term_below (own_width d low) (own_sign d low) low (and_parts (nat_lt s (length d.signals)) (is_alone d low) p.0).1 m
    target_below (word_of k i) shape m = term_below (own_width d i) (own_sign d i) i (and_parts (is_memory d k) (is_alone d i) shape).1 m
    target_below (several ts) shape m = targets_below ts shape m

    targets_below : (ts : Targets) → are_targets d ts ≡ true → indexes_mention x ts ≡ true → Below
    targets_below no_targets shape m = absurd (false≢true m)
    targets_below (a_target t ts) shape m =
        let p = and_parts (is_target d t) (are_targets d ts) shape in
        either (index_mentions x t) (indexes_mention x ts) (target_below t p.0) (targets_below ts p.1) m

  mutual
    pub body_below : (s : Stmt) → is_body d s ≡ true → body_mentions x s ≡ true → Below
    body_below (block p ss) shape m = bodies_below ss shape m
    body_below (branch p n t s other) shape m =
        let q = and_parts (is_alone d t && is_body d s) (are_bodies d other) shape in
        let r = and_parts (is_alone d t) (is_body d s) q.0 in
        either (mentions x t) (body_mentions x s || body_mentions_all x other) (term_below (own_width d t) (own_sign d t) t r.0) (either (body_mentions x s) (body_mentions_all x other) (body_below s r.1) (bodies_below other q.1)) m
    body_below (select p n kind t arms) shape m =
        let w = widest_of d (own_width d t) arms in
        let g = all_signed_of d (own_sign d t) arms in
        let q = and_parts (is_shaped d w g t) (is_arms d w g arms) shape in
        either (mentions x t) (arms_mention x arms) (term_below w g t q.0) (arms_below w g arms q.1) m
    body_below (turns p n ss) shape m = bodies_below ss shape m
    body_below (set p n k y t) shape m =
        let q = and_parts (is_target d y) (is_shaped d (max (target_width d y) (own_width d t)) (own_sign d t) t) shape in
        either (index_mentions x y) (mentions x t) (target_below y q.0) (term_below (max (target_width d y) (own_width d t)) (own_sign d t) t q.1) m
    body_below (empty p) shape m = absurd (false≢true m)

    bodies_below : (ss : Stmts) → are_bodies d ss ≡ true → body_mentions_all x ss ≡ true → Below
    bodies_below no_stmts shape m = absurd (false≢true m)
    bodies_below (a_stmt s ss) shape m =
        let q = and_parts (is_body d s) (are_bodies d ss) shape in
        either (body_mentions x s) (body_mentions_all x ss) (body_below s q.0) (bodies_below ss q.1) m

    arms_below : (w : ℕ) (g : Bool) (arms : Arms) → is_arms d w g arms ≡ true → arms_mention x arms ≡ true → Below
    arms_below w g no_arms shape m = absurd (false≢true m)
    arms_below w g (arm labels s arms) shape m =
        let q = and_parts (are_shaped d w g labels && is_body d s) (is_arms d w g arms) shape in
        let r = and_parts (are_shaped d w g labels) (is_body d s) q.0 in
        either (mentions_any x labels) (body_mentions x s || arms_mention x arms) (labels_below w g labels r.0) (either (body_mentions x s) (arms_mention x arms) (body_below s r.1) (arms_below w g arms q.1)) m

  -- a name in a list of signals
  listed_below : (xs : List ℕ) → list_all (λ y. nat_lt y (length d.signals)) xs ≡ true → list_any (λ z. z == x) xs ≡ true → Below
  listed_below [] all m = absurd (false≢true m)
  listed_below (y ∷ ys) all m =
      let q = and_parts (nat_lt y (length d.signals)) _ all in
      either (y == x) (list_any (λ z. z == x) ys) (a_signal_is y q.0) (listed_below ys q.1) m

  -- what a process is sensitive to is of the design
  pub level_below : (p : Process) → is_body d (body p) ≡ true → list_all (λ y. nat_lt y (length d.signals)) (wakes_of p) ≡ true → is_level p x ≡ true → Below
  level_below (assign i y t counted) shape all m = body_below (body (assign i y t counted)) shape m
  level_below (comb i wakes s) shape all m = either (body_mentions x s) (list_any (λ z. z == x) wakes) (body_below s shape) (listed_below wakes all) m
  level_below (clocked i events s) shape all m = absurd (false≢true m)

-- the names of a body are what it mentions
pub mentioned_is : (p : Process) (x : ℕ) → (IsClocked p → ⊥) → list_any (λ y. y == x) (mentioned_names p) ≡ body_mentions x (body p)
mentioned_is (assign i y t counted) x settles = level_is x (assign i y t counted)
mentioned_is (comb i wakes s) x settles = body_is x s
mentioned_is (clocked i events s) x settles = absurd (settles tt)

-- they are of the design
pub mentioned_below : (d : Design) (p : Process) (x : ℕ) → is_body d (body p) ≡ true → list_any (λ y. y == x) (mentioned_names p) ≡ true → x < length d.signals + length d.memories
mentioned_below d (assign i y t counted) x shape m = body_below d x (body (assign i y t counted)) shape (sym (mentioned_is (assign i y t counted) x (λ h. h)) ∙ m)
mentioned_below d (comb i wakes s) x shape m = body_below d x s shape (sym (mentioned_is (comb i wakes s) x (λ h. h)) ∙ m)
mentioned_below d (clocked i events s) x shape m = absurd (false≢true m)
