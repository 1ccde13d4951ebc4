-- What an execution of a body of the design reads is a thing of the design.
use Rattle.std.proofs.Common.{◌≡◌, ⊎_elim, ℕ, ◌≤◌, Bool, true, false, ◌&&◌, List, [], ◌∷◌, ◌++◌, refl, subst, Option, Some, None, if◌then◌else◌, min, max, length, nat_lt, nat_le, ℤ, pos, negsuc}
use Rattle.std.specs.Prelude.{⊤}
use Rattle.std.proofs.lemmas.Bool.{and_parts, leb-true, ltb-true}
use Rattle.event_machine.specs.Cell.{Values}
use Rattle.four_state.specs.Operators.{matches}
use Rattle.four_state.specs.Vector.{truth}
use Rattle.four_state.specs.declared.bit.Bit.{Bit}
use Rattle.four_state.specs.declared.operator.CaseKind.{CaseKind}
use Rattle.four_state.specs.declared.truth.Truth.{Truth}
use Rattle.four_state.specs.declared.truth.Truth.TheVariants.{False, Strange, True}
use Rattle.design_model.specs.declared.design.Memory.{Memory}
use Rattle.design_model.specs.Tree.{Arms, Stmt, Stmts, Target, Targets, Term, Terms, a_stmt, a_target, a_term, all_of, arm, binary, bit, bits_of, block, branch, choice, concat, empty, no_arms, no_stmts, no_targets, no_terms, number, part, repeat, select, set, several, sign, signal, slide, turns, unary, word, word_of}
use Rattle.design_model.specs.Design.{Design, IsThing, Thing, is_memory, memory_at}
use Rattle.design_model.specs.Value.{named_word, value, word_named}
use Rattle.design_model.specs.Assignment.{target_width}
use Rattle.design_model.specs.Shape.{all_signed_of, are_alone, are_bodies, are_shaped, are_targets, has_shape, is_alone, is_arms, is_body, is_shaped, is_target, is_wide_unary, own_sign, own_width, widest_of}
use Rattle.design_model.specs.Mentions.{is_constant}
use Rattle.design_model.specs.Execution.{Execution, NodeCase, Visit, all_words_written, assignment_visits, at_line, choose, evaluate, execute, execute_all, execute_arms, execute_assignment, execute_default, index_visits, indexes_visits, is_default, is_inner, label_visits, node_visits, reads, some_match, visits_of, visits_of_all, with_visits, word_read, word_written, words_written}
use Rattle.design_model.proofs.BitReads.{binary_shape, binary_shaped, if_cases}

-- a visit that is a read is of a thing of the design
abbrev pub IsThingRead : Design → Visit → Type 0
IsThingRead d (reads x inner) = IsThing d x
IsThingRead d _ = ⊤

abbrev pub AllThings : Design → List Visit → Type 0
AllThings d [] = ⊤
AllThings d (x ∷ xs) = IsThingRead d x × AllThings d xs

some_same : (j k : ℕ) → Some j ≡ Some k → j ≡ k
some_same j k e = cc

-- a word that an index names is one of the memory's
named_bounds : (m : Memory) (o : Option ℤ) (k : ℕ) → named_word m o ≡ Some k → (min m.first m.last ≤ k) × (k ≤ max m.first m.last)
named_bounds m None k e = absurd (cc)
named_bounds m (Some (negsuc j)) k e = absurd (cc)
named_bounds m (Some (pos j)) k e = go (nat_le (min m.first m.last) j && nat_le j (max m.first m.last)) refl e
  where
    go : (b : Bool) → (nat_le (min m.first m.last) j && nat_le j (max m.first m.last)) ≡ b → (if b then Some j else None) ≡ Some k → (min m.first m.last ≤ k) × (k ≤ max m.first m.last)
    go true is e =
        let p = and_parts (nat_le (min m.first m.last) j) (nat_le j (max m.first m.last)) is in
        let P : ℕ → Type 0 = λ z. (min m.first m.last ≤ z) × (z ≤ max m.first m.last) in
        subst P (some_same j k e) (leb-true (min m.first m.last) j p.0, leb-true j (max m.first m.last) p.1)
    go false is e = absurd (cc)

module _ (d : Design) where
  things_append : (xs ys : List Visit) → AllThings d xs → AllThings d ys → AllThings d (xs ++ ys)
  things_append [] ys a b = b
  things_append (x ∷ xs) ys a b = (a.0, things_append xs ys a.1 b)

  node_things : (n : Option ℕ) (cs : List NodeCase) → AllThings d (node_visits n cs)
  node_things None cs = tt
  node_things (Some n) [] = tt
  node_things (Some n) (c ∷ cs) = (tt, node_things (Some n) cs)

  written_things : (m : ℕ) (o : Option ℕ) → AllThings d (word_written m o)
  written_things m None = tt
  written_things m (Some i) = (tt, tt)

  mutual
    words_things : (v : Values Bit) (x : Target) → AllThings d (words_written d v x)
    words_things v (all_of s) = tt
    words_things v (bits_of s low w) = tt
    words_things v (word_of m i) = written_things m (word_named d v m i)
    words_things v (several ts) = all_words_things v ts

    all_words_things : (v : Values Bit) (ts : Targets) → AllThings d (all_words_written d v ts)
    all_words_things v no_targets = tt
    all_words_things v (a_target t ts) = things_append (words_written d v t) (all_words_written d v ts) (words_things v t) (all_words_things v ts)

  module _ (v : Values Bit) (f : Thing → Bool) where
    word_things : (m : ℕ) (i : Term) (o : Option ℕ) → word_named d v m i ≡ o → is_memory d m ≡ true → AllThings d (word_read f m o)
    word_things m i None e is = tt
    word_things m i (Some k) e is = let b = named_bounds (memory_at d m) _ k e in ((is, b.0, b.1), tt)

    mutual
      pub term_things : (w : ℕ) (g : Bool) (t : Term) → is_shaped d w g t ≡ true → AllThings d (visits_of d v f t)
      term_things w g (number h n) shape = node_things h.node _
      term_things w g (signal h s) shape = (ltb-true s (length d.signals) (and_parts (has_shape w g h) (nat_lt s (length d.signals)) shape).1, node_things h.node _)
      term_things w g (word h m i) shape =
          let p = and_parts (has_shape w g h && is_memory d m) (is_shaped d (own_width d i) (own_sign d i) i) shape in
          let q = and_parts (has_shape w g h) (is_memory d m) p.0 in
          things_append _ _ (things_append _ _ (term_things (own_width d i) (own_sign d i) i p.1) (word_things m i (word_named d v m i) refl q.1)) (node_things h.node _)
      term_things w g (bit h t i) shape =
          let p = and_parts (has_shape w g h && is_shaped d (own_width d t) (own_sign d t) t) (is_shaped d (own_width d i) (own_sign d i) i) shape in
          let q = and_parts (has_shape w g h) (is_shaped d (own_width d t) (own_sign d t) t) p.0 in
          things_append _ _ (things_append _ _ (term_things (own_width d i) (own_sign d i) i p.1) (term_things (own_width d t) (own_sign d t) t q.1)) (node_things h.node _)
      term_things w g (part h t i j) shape =
          let p5 = and_parts _ (is_constant j) shape in
          let p4 = and_parts _ (is_constant i) p5.0 in
          let p3 = and_parts _ (is_shaped d (own_width d j) (own_sign d j) j) p4.0 in
          let p2 = and_parts _ (is_shaped d (own_width d i) (own_sign d i) i) p3.0 in
          let p1 = and_parts (has_shape w g h) (is_shaped d (own_width d t) (own_sign d t) t) p2.0 in
          things_append _ _ (things_append _ _ (things_append _ _ (term_things (own_width d i) (own_sign d i) i p2.1) (term_things (own_width d j) (own_sign d j) j p3.1)) (term_things (own_width d t) (own_sign d t) t p1.1)) (node_things h.node _)
      term_things w g (slide h t b k up) shape =
          let p4 = and_parts _ (is_constant k) shape in
          let p3 = and_parts _ (is_shaped d (own_width d k) (own_sign d k) k) p4.0 in
          let p2 = and_parts _ (is_shaped d (own_width d b) (own_sign d b) b) p3.0 in
          let p1 = and_parts (has_shape w g h) (is_shaped d (own_width d t) (own_sign d t) t) p2.0 in
          things_append _ _ (things_append _ _ (things_append _ _ (term_things (own_width d b) (own_sign d b) b p2.1) (term_things (own_width d k) (own_sign d k) k p3.1)) (term_things (own_width d t) (own_sign d t) t p1.1)) (node_things h.node _)
      term_things w g (unary h op t) shape =
          things_append _ _
          (⊎_elim (λ p. term_things w g t p) (λ p. term_things (own_width d t) (own_sign d t) t p) (if_cases (is_wide_unary op) (is_shaped d w g t) (is_shaped d (own_width d t) (own_sign d t) t) (and_parts (has_shape w g h) (if is_wide_unary op then is_shaped d w g t else is_shaped d (own_width d t) (own_sign d t) t) shape).1))
          (node_things h.node _)
      term_things w g (binary h op t y) shape =
          let k = binary_shape d w g op t y (and_parts (has_shape w g h) (binary_shaped d w g op t y) shape).1 in
          things_append _ _ (things_append _ _ (term_things k.0 k.1 t k.4) (term_things k.2 k.3 y k.5)) (node_things h.node _)
      term_things w g (choice h x t y) shape =
          let p3 = and_parts _ (is_shaped d w g y) shape in
          let p2 = and_parts _ (is_shaped d w g t) p3.0 in
          let p1 = and_parts (has_shape w g h) (is_shaped d (own_width d x) (own_sign d x) x) p2.0 in
          things_append _ _ (things_append _ _ (things_append _ _ (term_things (own_width d x) (own_sign d x) x p1.1) (term_things w g t p2.1)) (term_things w g y p3.1)) (node_things h.node _)
      term_things w g (concat h ts) shape = things_append _ _ (terms_things ts (and_parts (has_shape w g h) (are_alone d ts) shape).1) (node_things h.node _)
      term_things w g (repeat h n ts) shape =
          let p2 = and_parts _ (are_alone d ts) shape in
          let p1 = and_parts _ (is_constant n) p2.0 in
          let p0 = and_parts (has_shape w g h) (is_shaped d (own_width d n) (own_sign d n) n) p1.0 in
          things_append _ _ (things_append _ _ (term_things (own_width d n) (own_sign d n) n p0.1) (terms_things ts p2.1)) (node_things h.node _)
      term_things w g (sign h s t) shape = things_append _ _ (term_things (own_width d t) (own_sign d t) t (and_parts (has_shape w g h) (is_shaped d (own_width d t) (own_sign d t) t) shape).1) (node_things h.node _)

      terms_things : (ts : Terms) → are_alone d ts ≡ true → AllThings d (visits_of_all d v f ts)
      terms_things no_terms shape = tt
      terms_things (a_term t ts) shape =
          let p = and_parts (is_shaped d (own_width d t) (own_sign d t) t) (are_alone d ts) shape in
          things_append _ _ (term_things (own_width d t) (own_sign d t) t p.0) (terms_things ts p.1)

    mutual
      index_things : (x : Target) → is_target d x ≡ true → AllThings d (index_visits d v f x)
      index_things (all_of s) shape = tt
      index_things (bits_of s low w) shape =
          let p = and_parts (nat_lt s (length d.signals) && is_alone d low) (nat_le 1 w) shape in
          term_things (own_width d low) (own_sign d low) low (and_parts (nat_lt s (length d.signals)) (is_alone d low) p.0).1
      index_things (word_of m i) shape = term_things (own_width d i) (own_sign d i) i (and_parts (is_memory d m) (is_alone d i) shape).1
      index_things (several ts) shape = indexes_things ts shape

      indexes_things : (ts : Targets) → are_targets d ts ≡ true → AllThings d (indexes_visits d v f ts)
      indexes_things no_targets shape = tt
      indexes_things (a_target t ts) shape =
          let p = and_parts (is_target d t) (are_targets d ts) shape in
          things_append _ _ (index_things t p.0) (indexes_things ts p.1)

  abbrev ThingsIn : Execution → Type 0
  ThingsIn r = AllThings d r.visits

  set_things : (n : ℕ) (b : Bool) (x : Target) (t : Term) (r : Execution) (w : ℕ) (g : Bool) → is_target d x ≡ true → is_shaped d w g t ≡ true → ThingsIn r → ThingsIn (execute_assignment d n b x t r)
  set_things n b x t r w g target shape a = go b
    where
      all : AllThings d (r.visits ++ assignment_visits d n x t r)
      all =
          things_append r.visits (assignment_visits d n x t r) a
          (things_append ((at_line n ∷ index_visits d r.values (is_inner d r) x) ++ visits_of d r.values (is_inner d r) t) (words_written d r.values x) (things_append (at_line n ∷ index_visits d r.values (is_inner d r) x) (visits_of d r.values (is_inner d r) t) (tt, index_things r.values (is_inner d r) x target) (term_things r.values (is_inner d r) w g t shape)) (words_things r.values x))

      go : (b : Bool) → ThingsIn (execute_assignment d n b x t r)
      go true = all
      go false = all

  choose_things : (x : Truth) (a b : Execution) → ThingsIn a → ThingsIn b → ThingsIn (choose x a b)
  choose_things True a b f g = f
  choose_things False a b f g = g
  choose_things Strange a b f g = g

  if_things : (x : Bool) (a b : Execution) → ThingsIn a → ThingsIn b → ThingsIn (if x then a else b)
  if_things true a b f g = f
  if_things false a b f g = g

  labels_things : (kind : CaseKind) (on : List Bit) (r : Execution) (w : ℕ) (g : Bool) (ts : Terms) → are_shaped d w g ts ≡ true → AllThings d (label_visits d kind on r ts)
  labels_things kind on r w g no_terms shape = tt
  labels_things kind on r w g (a_term t ts) shape =
      let p = and_parts (is_shaped d w g t) (are_shaped d w g ts) shape in
      things_append _ _ (term_things r.values (is_inner d r) w g t p.0) (go (matches kind on (value d r.values t)) (labels_things kind on r w g ts p.1))
    where
      go : (b : Bool) → AllThings d (label_visits d kind on r ts) → AllThings d (if b then [] else label_visits d kind on r ts)
      go true h = tt
      go false h = h

  tested_things : (n : ℕ) (t : Term) (r : Execution) (w : ℕ) (g : Bool) → is_shaped d w g t ≡ true → ThingsIn r → ThingsIn (evaluate d t (with_visits r (at_line n ∷ [])))
  tested_things n t r w g shape a = things_append (r.visits ++ at_line n ∷ []) _ (things_append r.visits (at_line n ∷ []) a (tt, tt)) (term_things r.values (is_inner d r) w g t shape)

  mutual
    pub execute_things : (b : Stmt) → is_body d b ≡ true → (r : Execution) → ThingsIn r → ThingsIn (execute d b r)
    execute_things (block p ss) shape r a = all_things ss shape r a
    execute_things (branch p n t b other) shape r a =
        let p1 = and_parts (is_alone d t && is_body d b) (are_bodies d other) shape in
        let p0 = and_parts (is_alone d t) (is_body d b) p1.0 in
        let tested : Execution = evaluate d t (with_visits r (at_line n ∷ [])) in
        let h : ThingsIn tested = tested_things n t r (own_width d t) (own_sign d t) p0.0 a in
        choose_things (truth (value d r.values t)) (execute d b tested) (execute_all d other tested) (execute_things b p0.1 tested h) (all_things other p1.1 tested h)
    execute_things (select p n kind t arms) shape r a =
        let w : ℕ = widest_of d (own_width d t) arms in
        let g : Bool = all_signed_of d (own_sign d t) arms in
        let q = and_parts (is_shaped d w g t) (is_arms d w g arms) shape in
        let tested : Execution = evaluate d t (with_visits r (at_line n ∷ [])) in
        let h : ThingsIn tested = tested_things n t r w g q.0 a in
        arms_things kind (value d r.values t) w g arms q.1 (execute_default d arms) (λ s k. default_things w g arms q.1 s k) tested h
    execute_things (turns p n ss) shape r a = all_things ss shape (with_visits r (at_line n ∷ [])) (things_append r.visits (at_line n ∷ []) a (tt, tt))
    execute_things (set p n b x t) shape r a =
        let w : ℕ = max (target_width d x) (own_width d t) in
        let q = and_parts (is_target d x) (is_shaped d w (own_sign d t) t) shape in
        set_things n b x t r w (own_sign d t) q.0 q.1 a
    execute_things (empty p) shape r a = a

    all_things : (ss : Stmts) → are_bodies d ss ≡ true → (r : Execution) → ThingsIn r → ThingsIn (execute_all d ss r)
    all_things no_stmts shape r a = a
    all_things (a_stmt b ss) shape r a =
        let p = and_parts (is_body d b) (are_bodies d ss) shape in
        all_things ss p.1 (execute d b r) (execute_things b p.0 r a)

    arms_things : (kind : CaseKind) (on : List Bit) (w : ℕ) (g : Bool) (arms : Arms) → is_arms d w g arms ≡ true → (otherwise : Execution → Execution) → ((r : Execution) → ThingsIn r → ThingsIn (otherwise r)) → (r : Execution) → ThingsIn r → ThingsIn (execute_arms d kind on arms otherwise r)
    arms_things kind on w g no_arms shape otherwise o r a = o r a
    arms_things kind on w g (arm labels b arms) shape otherwise o r a =
        let p1 = and_parts (are_shaped d w g labels && is_body d b) (is_arms d w g arms) shape in
        let p0 = and_parts (are_shaped d w g labels) (is_body d b) p1.0 in
        let seen : Execution = with_visits r (label_visits d kind on r labels) in
        let h : ThingsIn seen = things_append r.visits _ a (labels_things kind on r w g labels p0.0) in
        if_things (some_match d kind on r.values labels) (execute d b seen) (execute_arms d kind on arms otherwise seen) (execute_things b p0.1 seen h) (arms_things kind on w g arms p1.1 otherwise o seen h)

    default_things : (w : ℕ) (g : Bool) (arms : Arms) → is_arms d w g arms ≡ true → (r : Execution) → ThingsIn r → ThingsIn (execute_default d arms r)
    default_things w g no_arms shape r a = a
    default_things w g (arm labels b arms) shape r a =
        let p1 = and_parts (are_shaped d w g labels && is_body d b) (is_arms d w g arms) shape in
        let p0 = and_parts (are_shaped d w g labels) (is_body d b) p1.0 in
        if_things (is_default labels) (execute d b r) (execute_default d arms r) (execute_things b p0.1 r a) (default_things w g arms p1.1 r a)
