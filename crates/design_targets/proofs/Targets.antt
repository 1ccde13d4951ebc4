-- What the text of a process may write is what its machine may write.
use Rattle.std.proofs.Common.{◌≡◌, ◌∙◌, ⊎_elim, ℕ, ◌≤◌, ◌==◌, ◌&&◌, ◌||◌, Bool, true, false, not, cond, List, [], ◌∷◌, ◌++◌, Some, None, length, refl, sym, ap, subst, arith, eq-eqb}
use Rattle.std.specs.Prelude.{is_none, nat_le, nat_lt}
use Rattle.std.specs.List.{flat_map, list_any}
use Rattle.std.proofs.lemmas.Bool.{and_from, and_parts, eqb-true, false≢true, leb-true, lt-ltb, ltb-true, or_cases, or_left, or_right}
use Rattle.std.proofs.lemmas.List.Concat.{flat_map-append}
use Rattle.design_model.specs.event_machine.Cell.{Cell}
use Rattle.four_state.specs.Arithmetic.{whole}
use Rattle.four_state.specs.Parts.{index}
use Rattle.four_state.specs.Vector.{all_known}
use Rattle.four_state.specs.declared.bit.Bit.{Bit}
use Rattle.design_model.specs.Tree.{Arms, Stmt, Stmts, Target, Targets, Term, a_stmt, a_target, all_of, arm, bits_of, block, branch, empty, no_arms, no_stmts, no_targets, select, set, several, turns, word_of}
use Rattle.design_model.specs.Design.{Design, body_at, cell, is_memory, signal_at}
use Rattle.design_model.specs.Value.{head, offset_option, value}
use Rattle.design_model.specs.declared.design.Range.{Range}
use Rattle.design_model.specs.Assignment.{bit_writes_option, signal_range}
use Rattle.design_model.specs.Mentions.{any_set, any_set_in, any_set_of, blank, has_cell, is_constant, may_write, some_may_write, static_writes}
use Rattle.design_model.specs.Shape.{are_bodies, are_shaped, are_targets, is_alone, is_arms, is_body, is_target, same_bool}
use Rattle.design_model.specs.WellFormed.{are_among, are_well_formed, are_well_formed_arms, are_well_formed_bodies, are_well_formed_targets, is_well_formed, is_well_formed_body, is_well_formed_target}
use Rattle.design_model.specs.Lawful.{IsLawfulDesign}
use Rattle.design_model.proofs.AssignLaws.{among_written, has_bit, offset_none}
use Rattle.early_sets.proofs.Membership.{is_in_from, is_in_gives}
use Rattle.process_names.proofs.NamesLaw.{has-append, or_right_false}
use Rattle.design_targets.specs.Laws.{BlockingLaw, NonblockingLaw, SomeCell, WithinLaw}
use Rattle.design_targets.specs.Leaves.{Leaf, all_leaves, all_target_leaves, arms_leaves, leaves, target_leaves}
use Rattle.design_targets.specs.Written.{has_place, leaf_names, smallest_design, written}
use Rattle.design_targets.proofs.Constants.{same_value}
use Rattle.design_targets.proofs.Shapes.{written_below}

-- the list has the number
abbrev has : ℕ → List ℕ → Bool
has y xs = list_any (λ z. z == y) xs

-- a part that may have bits names the signal or memory
abbrev names : ℕ → List Leaf → Bool
names y ls = has y (flat_map leaf_names ls)

names_append : (y : ℕ) (xs ys : List Leaf) → names y (xs ++ ys) ≡ (names y xs || names y ys)
names_append y xs ys = ap (has y) (flat_map-append leaf_names xs ys) ∙ has-append y (flat_map leaf_names xs) (flat_map leaf_names ys)

one_of : (y s : ℕ) → (s == y || false) ≡ true → s ≡ y
one_of y s h = eqb-true s y (sym (or_right_false (s == y)) ∙ h)

of_one : (y s : ℕ) → s ≡ y → (s == y || false) ≡ true
of_one y s e = or_left (s == y) false (eq-eqb s y e)

placed_of : (y s : ℕ) (b : Bool) → has y (cond b (s ∷ []) [] ++ []) ≡ true → (s ≡ y) × (b ≡ true)
placed_of y s true h = (one_of y s h, refl)
placed_of y s false h = absurd (false≢true h)

of_placed : (y s : ℕ) (b : Bool) → s ≡ y → b ≡ true → has y (cond b (s ∷ []) [] ++ []) ≡ true
of_placed y s true e h = of_one y s e
of_placed y s false e h = absurd (false≢true h)

-- an index without bits x and z is a number
known_index : (signed : Bool) (bs : List Bit) → all_known bs ≡ true → is_none (index signed bs) ≡ true → ⊥
known_index signed bs h e = false≢true (subst (λ b. is_none (cond b (Some (whole signed bs)) None) ≡ true) h e)

-- where a part has a bit, its index is a number
written_known : (r : Range) (signed : Bool) (bs vs : List Bit) (s n : ℕ) (c : Cell) → has_cell (bit_writes_option s n (offset_option r (index signed bs)) vs) c ≡ true → all_known bs ≡ true
written_known r signed bs vs s n c h = go (all_known bs) h
  where
    go : (b : Bool) → has_cell (bit_writes_option s n (offset_option r (cond b (Some (whole signed bs)) None)) vs) c ≡ true → b ≡ true
    go true e = refl
    go false e = absurd (false≢true e)

module _ (d : Design) (lawful : IsLawfulDesign d) where
  -- the lowest bit of a signal
  first_bit : (s : ℕ) → nat_lt s (length d.signals) ≡ true → nat_lt 0 (signal_at d s).width ≡ true
  first_bit s h = let one : 1 ≤ (signal_at d s).width = has_bit d lawful s (ltb-true s (length d.signals) h) in lt-ltb 0 (signal_at d s).width (omega arith)

  part_cell : (s : ℕ) (low : Term) (w : ℕ) → nat_lt s (length d.signals) ≡ true → nat_le 1 w ≡ true → (b : Bool) → is_constant low ≡ b → (not b || all_known (value smallest_design blank low)) ≡ true → (not b || are_among (signal_at d s).width w (offset_option (signal_range d s) (index (head low).signed (value d blank low)))) ≡ true → SomeCell (may_write d (bits_of s low w)) s
  part_cell s low w is one false fixed known inside =
      (cell s 0, refl, and_from (s == s) _ (eq-eqb s s refl) (and_from (nat_lt 0 (signal_at d s).width) _ (first_bit s is) (subst (λ b. (not b || has_cell (static_writes d (bits_of s low w)) (cell s 0)) ≡ true) (sym fixed) refl)))
  part_cell s low w is one true fixed known inside =
      ⊎_elim
      (λ none. absurd (known_index (head low).signed (value d blank low) (subst (λ bs. all_known bs ≡ true) (same_value smallest_design d low fixed) known) (offset_none (signal_range d s) _ none)))
      (λ k. (cell s k.0, refl, and_from (s == s) _ (eq-eqb s s refl) (and_from (nat_lt k.0 (signal_at d s).width) _ (lt-ltb k.0 (signal_at d s).width k.1) (or_right (not (is_constant low)) _ k.2))))
      (among_written s (signal_at d s).width w _ (leb-true 1 w one) inside)

  place_of : (s : ℕ) (low : Term) (w : ℕ) (c : Cell) → (b : Bool) → is_constant low ≡ b → (not b || has_cell (static_writes d (bits_of s low w)) c) ≡ true → (not b || all_known (value smallest_design blank low)) ≡ true
  place_of s low w c false fixed h = refl
  place_of s low w c true fixed h =
      subst (λ bs. all_known bs ≡ true) (same_value d smallest_design low fixed) (written_known (signal_range d s) (head low).signed (value d blank low) _ s (signal_at d s).width c h)

  module _ (y : ℕ) where
    mutual
      target_cell : (x : Target) → is_target d x ≡ true → is_well_formed_target d x ≡ true → names y (target_leaves x) ≡ true → SomeCell (may_write d x) y
      target_cell (all_of s) is well n = (cell s 0, one_of y s n, and_from (s == s) _ (eq-eqb s s refl) (first_bit s is))
      target_cell (bits_of s low w) is well n =
          let p = and_parts _ (nat_le 1 w) is in
          let q = and_parts (nat_lt s (length d.signals)) (is_alone d low) p.0 in
          let k = placed_of y s (has_place low) n in
          subst (SomeCell (may_write d (bits_of s low w))) k.0 (part_cell s low w q.0 p.1 (is_constant low) refl k.1 (and_parts _ (is_well_formed d false low) well).0)
      target_cell (word_of m i) is well n = (cell m 0, one_of y m n, and_from (m == m) (nat_le (length d.signals) m) (eq-eqb m m refl) (and_parts (nat_le (length d.signals) m) _ (and_parts (is_memory d m) _ is).0).0)
      target_cell (several ts) is well n = targets_cell ts is well n

      targets_cell : (ts : Targets) → are_targets d ts ≡ true → are_well_formed_targets d ts ≡ true → names y (all_target_leaves ts) ≡ true → SomeCell (some_may_write d ts) y
      targets_cell no_targets is well n = absurd (false≢true n)
      targets_cell (a_target t ts) is well n =
          let p = and_parts (is_target d t) (are_targets d ts) is in
          let q = and_parts (is_well_formed_target d t) (are_well_formed_targets d ts) well in
          ⊎_elim
          (λ e. let k = target_cell t p.0 q.0 e in (k.0, k.1, or_left (may_write d t k.0) _ k.2))
          (λ e. let k = targets_cell ts p.1 q.1 e in (k.0, k.1, or_right (may_write d t k.0) _ k.2))
          (or_cases (names y (target_leaves t)) _ (sym (names_append y (target_leaves t) (all_target_leaves ts)) ∙ n))

    -- an assignment of the kind that may write the cell
    abbrev test : Bool → Cell → Bool → Target → Term → Bool
    test b c k x t = same_bool k b && may_write d x c

    set_cell : (v : Bool) (x : Target) → is_target d x ≡ true → is_well_formed_target d x ≡ true → names y (cond v (target_leaves x) []) ≡ true → SomeCell (λ c. v && may_write d x c) y
    set_cell true x is well n = target_cell x is well n
    set_cell false x is well n = absurd (false≢true n)

    mutual
      body_cell : (b : Bool) (s : Stmt) → is_body d s ≡ true → is_well_formed_body d s ≡ true → names y (leaves b s) ≡ true → SomeCell (λ c. any_set (test b c) s) y
      body_cell b (block p ss) is well n = bodies_cell b ss is well n
      body_cell b (branch p n t s other) is well h =
          let i = and_parts (is_alone d t && is_body d s) (are_bodies d other) is in
          let w = and_parts (is_well_formed_body d s) _ (and_parts (is_well_formed d true t) _ well).1 in
          ⊎_elim
          (λ e. let k = body_cell b s (and_parts (is_alone d t) (is_body d s) i.0).1 w.0 e in (k.0, k.1, or_left (any_set (test b k.0) s) _ k.2))
          (λ e. let k = bodies_cell b other i.1 w.1 e in (k.0, k.1, or_right (any_set (test b k.0) s) _ k.2))
          (or_cases (names y (leaves b s)) _ (sym (names_append y (leaves b s) (all_leaves b other)) ∙ h))
      body_cell b (select p n kind t arms) is well h = arms_cell b _ _ arms (and_parts _ (is_arms d _ _ arms) is).1 (and_parts (is_well_formed d false t) _ well).1 h
      body_cell b (turns p n ss) is well h = bodies_cell b ss is well h
      body_cell b (set p n k x t) is well h = set_cell (same_bool k b) x (and_parts (is_target d x) _ is).0 (and_parts (is_well_formed_target d x) _ well).0 h
      body_cell b (empty p) is well h = absurd (false≢true h)

      bodies_cell : (b : Bool) (ss : Stmts) → are_bodies d ss ≡ true → are_well_formed_bodies d ss ≡ true → names y (all_leaves b ss) ≡ true → SomeCell (λ c. any_set_of (test b c) ss) y
      bodies_cell b no_stmts is well h = absurd (false≢true h)
      bodies_cell b (a_stmt s ss) is well h =
          let i = and_parts (is_body d s) (are_bodies d ss) is in
          let w = and_parts (is_well_formed_body d s) (are_well_formed_bodies d ss) well in
          ⊎_elim
          (λ e. let k = body_cell b s i.0 w.0 e in (k.0, k.1, or_left (any_set (test b k.0) s) _ k.2))
          (λ e. let k = bodies_cell b ss i.1 w.1 e in (k.0, k.1, or_right (any_set (test b k.0) s) _ k.2))
          (or_cases (names y (leaves b s)) _ (sym (names_append y (leaves b s) (all_leaves b ss)) ∙ h))

      arms_cell : (b : Bool) (w : ℕ) (signed : Bool) (arms : Arms) → is_arms d w signed arms ≡ true → are_well_formed_arms d arms ≡ true → names y (arms_leaves b arms) ≡ true → SomeCell (λ c. any_set_in (test b c) arms) y
      arms_cell b w signed no_arms is well h = absurd (false≢true h)
      arms_cell b w signed (arm labels s arms) is well h =
          let i = and_parts (are_shaped d w signed labels && is_body d s) (is_arms d w signed arms) is in
          let v = and_parts (is_well_formed_body d s) (are_well_formed_arms d arms) (and_parts (are_well_formed d labels) _ well).1 in
          ⊎_elim
          (λ e. let k = body_cell b s (and_parts (are_shaped d w signed labels) (is_body d s) i.0).1 v.0 e in (k.0, k.1, or_left (any_set (test b k.0) s) _ k.2))
          (λ e. let k = arms_cell b w signed arms i.1 v.1 e in (k.0, k.1, or_right (any_set (test b k.0) s) _ k.2))
          (or_cases (names y (leaves b s)) _ (sym (names_append y (leaves b s) (arms_leaves b arms)) ∙ h))

    -- and the other way round
    module _ (c : Cell) (same : c.thing ≡ y) where
      at_signal : (s : ℕ) → (c.thing == s) ≡ true → s ≡ y
      at_signal s h = sym (eqb-true c.thing s h) ∙ same

      mutual
        cell_target : (x : Target) → may_write d x c ≡ true → names y (target_leaves x) ≡ true
        cell_target (all_of s) h = of_one y s (at_signal s (and_parts (c.thing == s) _ h).0)
        cell_target (bits_of s low w) h =
            let p = and_parts (c.thing == s) _ h in
            let q = and_parts (nat_lt c.place (signal_at d s).width) _ p.1 in
            of_placed y s (has_place low) (at_signal s p.0) (place_of s low w c (is_constant low) refl q.1)
        cell_target (word_of m i) h = of_one y m (at_signal m (and_parts (c.thing == m) _ h).0)
        cell_target (several ts) h = cell_targets ts h

        cell_targets : (ts : Targets) → some_may_write d ts c ≡ true → names y (all_target_leaves ts) ≡ true
        cell_targets no_targets h = absurd (false≢true h)
        cell_targets (a_target t ts) h =
            names_append y (target_leaves t) (all_target_leaves ts)
            ∙ ⊎_elim (λ e. or_left (names y (target_leaves t)) _ (cell_target t e)) (λ e. or_right (names y (target_leaves t)) _ (cell_targets ts e)) (or_cases (may_write d t c) _ h)

      cell_set : (v : Bool) (x : Target) → (v && may_write d x c) ≡ true → names y (cond v (target_leaves x) []) ≡ true
      cell_set true x h = cell_target x h
      cell_set false x h = absurd (false≢true h)

      mutual
        cell_body : (b : Bool) (s : Stmt) → any_set (test b c) s ≡ true → names y (leaves b s) ≡ true
        cell_body b (block p ss) h = cell_bodies b ss h
        cell_body b (branch p n t s other) h =
            names_append y (leaves b s) (all_leaves b other)
            ∙ ⊎_elim (λ e. or_left (names y (leaves b s)) _ (cell_body b s e)) (λ e. or_right (names y (leaves b s)) _ (cell_bodies b other e)) (or_cases (any_set (test b c) s) _ h)
        cell_body b (select p n kind t arms) h = cell_arms b arms h
        cell_body b (turns p n ss) h = cell_bodies b ss h
        cell_body b (set p n k x t) h = cell_set (same_bool k b) x h
        cell_body b (empty p) h = absurd (false≢true h)

        cell_bodies : (b : Bool) (ss : Stmts) → any_set_of (test b c) ss ≡ true → names y (all_leaves b ss) ≡ true
        cell_bodies b no_stmts h = absurd (false≢true h)
        cell_bodies b (a_stmt s ss) h =
            names_append y (leaves b s) (all_leaves b ss)
            ∙ ⊎_elim (λ e. or_left (names y (leaves b s)) _ (cell_body b s e)) (λ e. or_right (names y (leaves b s)) _ (cell_bodies b ss e)) (or_cases (any_set (test b c) s) _ h)

        cell_arms : (b : Bool) (arms : Arms) → any_set_in (test b c) arms ≡ true → names y (arms_leaves b arms) ≡ true
        cell_arms b no_arms h = absurd (false≢true h)
        cell_arms b (arm labels s arms) h =
            names_append y (leaves b s) (arms_leaves b arms)
            ∙ ⊎_elim (λ e. or_left (names y (leaves b s)) _ (cell_body b s e)) (λ e. or_right (names y (leaves b s)) _ (cell_arms b arms e)) (or_cases (any_set (test b c) s) _ h)

  same_true : (k : Bool) → same_bool k true ≡ k
  same_true true = refl
  same_true false = refl

  same_false : (k : Bool) → same_bool k false ≡ not k
  same_false true = refl
  same_false false = refl

  -- the test of an assignment, as the machine has it
  blocking_is : (c : Cell) (s : Stmt) (y : ℕ) → any_set (test y true c) s ≡ any_set (λ k x t. k && may_write d x c) s
  blocking_is c s y = ap (λ f. any_set f s) (λ i k x t. same_true k i && may_write d x c)

  nonblocking_is : (c : Cell) (s : Stmt) (y : ℕ) → any_set (test y false c) s ≡ any_set (λ k x t. not k && may_write d x c) s
  nonblocking_is c s y = ap (λ f. any_set f s) (λ i k x t. same_false k i && may_write d x c)

  pub blocking_law : BlockingLaw d
  blocking_law p y = (
    λ m. let k = body_cell y true (body_at d p) (lawful.bodies p) (lawful.well_formed p) (is_in_from (written true (body_at d p)) y m.0 m.1 m.2) in (k.0, k.1, sym (blocking_is k.0 (body_at d p) y) ∙ k.2),
    λ k. is_in_gives (written true (body_at d p)) y (cell_body y k.0 k.1 true (body_at d p) (blocking_is k.0 (body_at d p) y ∙ k.2)),
  )

  pub nonblocking_law : NonblockingLaw d
  nonblocking_law p y = (
    λ m. let k = body_cell y false (body_at d p) (lawful.bodies p) (lawful.well_formed p) (is_in_from (written false (body_at d p)) y m.0 m.1 m.2) in (k.0, k.1, sym (nonblocking_is k.0 (body_at d p) y) ∙ k.2),
    λ k. is_in_gives (written false (body_at d p)) y (cell_body y k.0 k.1 false (body_at d p) (nonblocking_is k.0 (body_at d p) y ∙ k.2)),
  )

  pub within_law : WithinLaw d
  within_law b p y m = written_below d b (body_at d p) y (lawful.bodies p) (is_in_from (written b (body_at d p)) y m.0 m.1 m.2)
