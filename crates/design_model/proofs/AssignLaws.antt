-- What an Assign of a lawful design visits, reads and wakes on, and why a signal of its own is not clear.
use Rattle.std.proofs.Common.{◌≡◌, ◌⊎◌, inl, inr, ⊎_elim, ℕ, zero, suc, ◌+◌, ◌<◌, ◌≤◌, ◌==◌, ◌&&◌, ◌||◌, Bool, true, false, not, if◌then◌else◌, List, [], ◌∷◌, ◌++◌, map, length, ℤ, pos, negsuc, ◌+ℤ◌, Option, Some, None, refl, sym, ap, subst, ◌∙◌, arith, eq-eqb, slice_index_or}
use Rattle.std.specs.Prelude.{is_none, nat_le, nat_lt}
use Rattle.std.specs.List.{list_all, list_any, range_with_len}
use Rattle.std.proofs.lemmas.Bool.{and_from, and_parts, both_ways, eqb-true, false≢true, leb-true, lt-ltb, or_cases, or_left, or_right}
use Rattle.std.proofs.lemmas.List.Folds.{list_any-append}
use Rattle.event_machine.specs.Cell.{Cell, Values, same_cell}
use Rattle.event_machine.specs.Habit.{Habit}
use Rattle.four_state.specs.Arithmetic.{natural}
use Rattle.four_state.specs.Parts.{index}
use Rattle.four_state.specs.Vector.{fill}
use Rattle.four_state.specs.declared.bit.Bit.{Bit}
use Rattle.four_state.specs.declared.bit.Bit.TheVariants.{X}
use Rattle.design_model.specs.declared.design.Range.{Range}
use Rattle.design_model.specs.declared.design.Signal.{Signal}
use Rattle.design_model.specs.Tree.{Process, Target, Targets, Term, Terms, a_target, a_term, all_of, assign, binary, bit, bits_of, choice, clocked, comb, concat, no_targets, no_terms, number, part, repeat, several, sign, signal, slide, unary, word, word_of}
use Rattle.design_model.specs.Design.{Design, In, IsAssign, IsClocked, IsComb, Thing, a_signal, body, body_at, cell, is_assign, is_memory, no_signal, owner, process_at, signal_at}
use Rattle.design_model.specs.Value.{head, offset_option, part_width, range_of, slide_offset, value}
use Rattle.design_model.specs.Assignment.{bit_writes, bit_writes_option, option_cell, signal_range, writes_to}
use Rattle.design_model.specs.Mentions.{all_subterms, any_set, blank, blocking_target, body_assigns, body_mentions, body_terms, has_cell, index_mentions, index_terms, indexes_mention, is_constant, may_write, mentions, mentions_any, static_writes, subterms}
use Rattle.design_model.specs.Execution.{Visit, all_words_written, at_line, covers, execution, execution_start, index_visits, indexes_visits, is_inner, reads, visits_of, visits_of_all, words_written}
use Rattle.design_model.specs.Shape.{are_alone, are_targets, has_shape, is_body, is_shaped, is_target, is_wide_unary, own_sign, own_width}
use Rattle.design_model.specs.Lawful.{IsLawfulDesign, are_fixed_targets, is_fixed_target, is_plain, is_signal, may_read, slide_writes, some_may_read, target_once}
use Rattle.design_model.specs.WellFormed.{are_among, are_well_formed, are_well_formed_targets, is_counted_rightly, is_right, is_well_formed, is_well_formed_body, is_well_formed_target}
use Rattle.design_model.specs.Machine.{is_level}
use Rattle.design_model.specs.Reads.{Agrees, AllInside, HasValue, IsInside, PartialMap, nothing_known}
use Rattle.design_model.specs.Shows.{BoundDump}
use Rattle.design_model.specs.Clear.{IsClearBy, IsNetValue, clear, clear_from, clear_in, clear_start, of_assigns, of_clean, of_comb, of_dump, of_unwoken}
use Rattle.design_model.specs.BodyLaws.{AssignVisitsLaw, MentionReadLaw, OwnNotClearLaw, OwnUnclearLaw, OwnWakeLaw, is_unknown_select}
use Rattle.design_model.proofs.Along.{In-left, In-right}
use Rattle.design_model.proofs.Assigns.{is_assign_from, read_mentions}
use Rattle.design_model.proofs.AssignVisits.{both, constant_mentions, visits_reads}
use Rattle.design_model.proofs.BitReads.{binary_shape, binary_shaped, if_cases}
use Rattle.design_model.proofs.BodyLaws.{settled_signals_law}
use Rattle.design_model.proofs.Rounds.{rounds_grow}

-- ---- visits

module _ (d : Design) (u v : Values Bit) where
  mutual
    index_same : (inner : Thing → Bool) (x : Target) → is_fixed_target x ≡ true → is_target d x ≡ true → is_well_formed_target d x ≡ true → index_visits d u inner x ≡ index_visits d v inner x
    index_same inner (all_of s) f is well = refl
    index_same inner (bits_of s low w) f is well =
        visits_reads d u v inner (own_width d low) (own_sign d low) false low (and_parts (nat_lt s (length d.signals)) _ (and_parts _ (nat_le 1 w) is).0).1 (and_parts _ (is_well_formed d false low) well).1 (λ c r. absurd (constant_mentions c.thing low f (read_mentions d low c r)))
    index_same inner (word_of m i) f is well = absurd (false≢true f)
    index_same inner (several ts) f is well = indexes_same inner ts f is well

    indexes_same : (inner : Thing → Bool) (ts : Targets) → are_fixed_targets ts ≡ true → are_targets d ts ≡ true → are_well_formed_targets d ts ≡ true → indexes_visits d u inner ts ≡ indexes_visits d v inner ts
    indexes_same inner no_targets f is well = refl
    indexes_same inner (a_target t ts) f is well =
        let p = and_parts (is_fixed_target t) (are_fixed_targets ts) f in
        let q = and_parts (is_target d t) (are_targets d ts) is in
        let r = and_parts (is_well_formed_target d t) (are_well_formed_targets d ts) well in
        both (index_same inner t p.0 q.0 r.0) (indexes_same inner ts p.1 q.1 r.1)

  mutual
    words_same : (x : Target) → is_fixed_target x ≡ true → words_written d u x ≡ words_written d v x
    words_same (all_of s) f = refl
    words_same (bits_of s low w) f = refl
    words_same (word_of m i) f = absurd (false≢true f)
    words_same (several ts) f = all_words_same ts f

    all_words_same : (ts : Targets) → are_fixed_targets ts ≡ true → all_words_written d u ts ≡ all_words_written d v ts
    all_words_same no_targets f = refl
    all_words_same (a_target t ts) f = let p = and_parts (is_fixed_target t) (are_fixed_targets ts) f in both (words_same t p.0) (all_words_same ts p.1)

unwritten : (a b : Bool) → (a && b) ≡ false → b ≡ true → a ≡ false
unwritten false b e h = refl
unwritten true b e h = absurd (false≢true (sym e ∙ h))

assign_same : (d : Design) (q : Process) → is_assign q ≡ true → target_once q d ≡ true → is_body d (body q) ≡ true → is_well_formed_body d (body q) ≡ true → ((b : Cell) → any_set (λ k y t. may_write d y b && may_read d t b) (body q) ≡ false) → (u v : Values Bit) →
    ((c : Cell) → (is_level q c.thing ≡ true) × (blocking_target d (body q) c ≡ false) → u c ≡ v c) → (execution d (body q) u).visits ≡ (execution d (body q) v).visits
assign_same d (assign i x t counted) a once is well away u v same =
    let fixed = (and_parts (is_fixed_target x) _ once).0 in
    let shapes = and_parts (is_target d x) _ is in
    let forms = and_parts (is_well_formed_target d x) _ well in
    both (both (ap (λ z. at_line 0 ∷ z) (index_same d u v (is_inner d (execution_start u)) x fixed shapes.0 forms.0))
    (visits_reads d u v (is_inner d (execution_start u)) _ _ false t shapes.1 forms.1 (λ c r. same c (or_right (index_mentions c.thing x) _ (read_mentions d t c r), unwritten (may_write d x c) (may_read d t c) (away c) r))))
    (words_same d u v x fixed)
assign_same d (comb i wakes s) a once is well away u v same = absurd (false≢true a)
assign_same d (clocked i events s) a once is well away u v same = absurd (false≢true a)

pub assign_visits_law : (d : Design) → IsLawfulDesign d → AssignVisitsLaw d
assign_visits_law d lawful p a u v same =
    assign_same d (process_at d p) a (lawful.targets p) (lawful.bodies p) (lawful.well_formed p) (λ b. lawful.reads_no_own p b (is_assign_from (process_at d p) a)) u v (λ c k. same c k)

-- ---- reads

module _ (d : Design) (v : Values Bit) (inner : Thing → Bool) (x : ℕ) (less : x < length d.signals) where
  read : Visit
  read = reads (a_signal x) (inner (a_signal x))

  abbrev IsRead : List Visit → Type 0
  IsRead xs = In (reads (a_signal x) (inner (a_signal x))) xs

  first : (xs ys : List Visit) → IsRead xs → IsRead (xs ++ ys)
  first xs ys h = In-left _ xs ys h

  second : (xs ys : List Visit) → IsRead ys → IsRead (xs ++ ys)
  second xs ys h = In-right _ xs ys h

  mutual
    pub mention_read : (w : ℕ) (g : Bool) (t : Term) → is_shaped d w g t ≡ true → mentions x t ≡ true → IsRead (visits_of d v inner t)
    mention_read w g (number h n) shape m = absurd (false≢true m)
    mention_read w g (signal h s) shape m = inl (ap (λ y. reads (a_signal y) (inner (a_signal y))) (eqb-true s x m))
    mention_read w g (word h y i) shape m =
        let p = and_parts (has_shape w g h && is_memory d y) _ shape in
        ⊎_elim (λ e. absurd (let most = leb-true (length d.signals) y (and_parts (nat_le (length d.signals) y) _ (and_parts (has_shape w g h) _ p.0).1).0 in omega (arith, most, less, eqb-true y x e)))
        (λ e. first _ _ (first _ _ (mention_read (own_width d i) (own_sign d i) i p.1 e))) (or_cases (y == x) _ m)
    mention_read w g (bit h t i) shape m =
        let p = and_parts (has_shape w g h && is_shaped d (own_width d t) (own_sign d t) t) _ shape in
        let q = (and_parts (has_shape w g h) _ p.0).1 in
        ⊎_elim (λ e. first _ _ (second (visits_of d v inner i) _ (mention_read (own_width d t) (own_sign d t) t q e))) (λ e. first _ _ (first _ _ (mention_read (own_width d i) (own_sign d i) i p.1 e))) (or_cases (mentions x t) _ m)
    mention_read w g (part h t i j) shape m =
        let p5 = and_parts _ (is_constant j) shape in
        let p4 = and_parts _ (is_constant i) p5.0 in
        let p3 = and_parts _ (is_shaped d (own_width d j) (own_sign d j) j) p4.0 in
        let p2 = and_parts _ (is_shaped d (own_width d i) (own_sign d i) i) p3.0 in
        let p1 = and_parts (has_shape w g h) (is_shaped d (own_width d t) (own_sign d t) t) p2.0 in
        ⊎_elim (λ e. first _ _ (second (visits_of d v inner i ++ visits_of d v inner j) _ (mention_read (own_width d t) (own_sign d t) t p1.1 e)))
        (λ k. absurd (⊎_elim (constant_mentions x i p4.1) (constant_mentions x j p5.1) (or_cases (mentions x i) _ k))) (or_cases (mentions x t) _ m)
    mention_read w g (slide h t b k up) shape m =
        let p4 = and_parts _ (is_constant k) shape in
        let p3 = and_parts _ (is_shaped d (own_width d k) (own_sign d k) k) p4.0 in
        let p2 = and_parts _ (is_shaped d (own_width d b) (own_sign d b) b) p3.0 in
        let p1 = and_parts (has_shape w g h) (is_shaped d (own_width d t) (own_sign d t) t) p2.0 in
        ⊎_elim (λ e. first _ _ (second (visits_of d v inner b ++ visits_of d v inner k) _ (mention_read (own_width d t) (own_sign d t) t p1.1 e)))
        (λ z. ⊎_elim (λ e. first _ _ (first _ _ (first _ _ (mention_read (own_width d b) (own_sign d b) b p2.1 e)))) (λ e. absurd (constant_mentions x k p4.1 e)) (or_cases (mentions x b) _ z)) (or_cases (mentions x t) _ m)
    mention_read w g (unary h op t) shape m =
        first _ _ (⊎_elim (λ p. mention_read w g t p m) (λ p. mention_read (own_width d t) (own_sign d t) t p m) (if_cases (is_wide_unary op) (is_shaped d w g t) (is_shaped d (own_width d t) (own_sign d t) t) (and_parts (has_shape w g h) (if is_wide_unary op then is_shaped d w g t else is_shaped d (own_width d t) (own_sign d t) t) shape).1))
    mention_read w g (binary h op t y) shape m =
        let k = binary_shape d w g op t y (and_parts (has_shape w g h) (binary_shaped d w g op t y) shape).1 in
        ⊎_elim (λ e. first _ _ (first _ _ (mention_read k.0 k.1 t k.4 e))) (λ e. first _ _ (second (visits_of d v inner t) _ (mention_read k.2 k.3 y k.5 e))) (or_cases (mentions x t) _ m)
    mention_read w g (choice h c t y) shape m =
        let p3 = and_parts _ (is_shaped d w g y) shape in
        let p2 = and_parts _ (is_shaped d w g t) p3.0 in
        let p1 = and_parts (has_shape w g h) (is_shaped d (own_width d c) (own_sign d c) c) p2.0 in
        ⊎_elim (λ e. first _ _ (first _ _ (first _ _ (mention_read (own_width d c) (own_sign d c) c p1.1 e))))
        (λ k. ⊎_elim (λ e. first _ _ (first _ _ (second (visits_of d v inner c) _ (mention_read w g t p2.1 e)))) (λ e. first _ _ (second (visits_of d v inner c ++ visits_of d v inner t) _ (mention_read w g y p3.1 e))) (or_cases (mentions x t) _ k)) (or_cases (mentions x c) _ m)
    mention_read w g (concat h ts) shape m = first _ _ (mentions_read ts (and_parts (has_shape w g h) _ shape).1 m)
    mention_read w g (repeat h n ts) shape m =
        let p2 = and_parts _ (are_alone d ts) shape in
        let p1 = and_parts _ (is_constant n) p2.0 in
        ⊎_elim (λ e. absurd (constant_mentions x n p1.1 e)) (λ e. first _ _ (second (visits_of d v inner n) _ (mentions_read ts p2.1 e))) (or_cases (mentions x n) _ m)
    mention_read w g (sign h s t) shape m = first _ _ (mention_read (own_width d t) (own_sign d t) t (and_parts (has_shape w g h) _ shape).1 m)

    mentions_read : (ts : Terms) → are_alone d ts ≡ true → mentions_any x ts ≡ true → IsRead (visits_of_all d v inner ts)
    mentions_read no_terms shape m = absurd (false≢true m)
    mentions_read (a_term t ts) shape m =
        let p = and_parts (is_shaped d (own_width d t) (own_sign d t) t) (are_alone d ts) shape in
        ⊎_elim (λ e. first _ _ (mention_read (own_width d t) (own_sign d t) t p.0 e)) (λ e. second (visits_of d v inner t) _ (mentions_read ts p.1 e)) (or_cases (mentions x t) _ m)

-- a fixed target mentions nothing
mutual
  fixed_mentions : (x : ℕ) (y : Target) → is_fixed_target y ≡ true → index_mentions x y ≡ true → ⊥
  fixed_mentions x (all_of s) f m = false≢true m
  fixed_mentions x (bits_of s low w) f m = constant_mentions x low f m
  fixed_mentions x (word_of n i) f m = false≢true f
  fixed_mentions x (several ts) f m = fixed_mention x ts f m

  fixed_mention : (x : ℕ) (ts : Targets) → are_fixed_targets ts ≡ true → indexes_mention x ts ≡ true → ⊥
  fixed_mention x no_targets f m = false≢true m
  fixed_mention x (a_target t ts) f m = let p = and_parts (is_fixed_target t) (are_fixed_targets ts) f in ⊎_elim (fixed_mentions x t p.0) (fixed_mention x ts p.1) (or_cases (index_mentions x t) _ m)

nth_passes : (p : Signal → Bool) (xs : List Signal) (n : ℕ) → list_all p xs ≡ true → n < length xs → p (slice_index_or xs n no_signal) ≡ true
nth_passes p [] n h less = absurd (omega (arith, less))
nth_passes p (x ∷ xs) zero h less = (and_parts (p x) (list_all p xs) h).0
nth_passes p (x ∷ xs) (suc n) h less = nth_passes p xs n (and_parts (p x) (list_all p xs) h).1 (omega (arith, less))

-- a signal has a bit
pub has_bit : (d : Design) → IsLawfulDesign d → (x : ℕ) → x < length d.signals → 1 ≤ (signal_at d x).width
has_bit d lawful x less =
    let s = signal_at d x in
    let p = and_parts _ (s.ranged || ((s.high == 0) && (s.low == 0))) (nth_passes (is_signal d) d.signals x lawful.signals less) in
    let q = and_parts _ (s.width == _) p.0 in
    let r = and_parts _ (nat_le s.width 128) q.0 in
    leb-true 1 s.width (and_parts _ (nat_le 1 s.width) r.0).1

uncovered : (s n w : ℕ) → 1 ≤ w → covers [] (map (cell s) (range_with_len n w)) ≡ false
uncovered s n zero h = absurd (omega (arith, h))
uncovered s n (suc w) h = refl

assign_reads : (d : Design) (q : Process) (x : ℕ) → is_assign q ≡ true → target_once q d ≡ true → is_body d (body q) ≡ true → body_mentions x (body q) ≡ true → x < length d.signals → 1 ≤ (signal_at d x).width → (v : Values Bit) → In (reads (a_signal x) false) (execution d (body q) v).visits
assign_reads d (assign i y t counted) x a once is m less one v =
    let fixed = (and_parts (is_fixed_target y) _ once).0 in
    let inner = is_inner d (execution_start v) in
    let there = ⊎_elim (λ e. absurd (fixed_mentions x y fixed e)) (mention_read d v inner x less _ _ t (and_parts (is_target d y) _ is).1) (or_cases (index_mentions x y) _ m) in
    let outer = subst (λ b. In (reads (a_signal x) b) (visits_of d v inner t)) (uncovered x 0 (signal_at d x).width one) there in
    In-left (reads (a_signal x) false) ((at_line 0 ∷ index_visits d v inner y) ++ visits_of d v inner t) (words_written d v y) (In-right (reads (a_signal x) false) (at_line 0 ∷ index_visits d v inner y) (visits_of d v inner t) outer)
assign_reads d (comb i wakes s) x a once is m less one v = absurd (false≢true a)
assign_reads d (clocked i events s) x a once is m less one v = absurd (false≢true a)

pub mention_read_law : (d : Design) → IsLawfulDesign d → MentionReadLaw d
mention_read_law d lawful p x a m less v = assign_reads d (process_at d p) x a (lawful.targets p) (lawful.bodies p) m less (has_bit d lawful x less) v

-- ---- own signals are not clear

inside_in : (K : PartialMap) (x : Thing) (xs : List Visit) → AllInside K xs → In (reads x false) xs → HasValue K x
inside_in K x [] a h = absurd h
inside_in K x (y ∷ ys) a (inl e) = subst (IsInside K) e a.0
inside_in K x (y ∷ ys) a (inr h) = inside_in K x ys a.1 h

no_comb : (q : Process) → IsAssign q → IsComb q → ⊥
no_comb (assign i x t counted) a c = c
no_comb (comb i wakes s) a c = a
no_comb (clocked i events s) a c = a

no_clocked : (q : Process) → IsAssign q → IsClocked q → ⊥
no_clocked (assign i x t counted) a c = c
no_clocked (comb i wakes s) a c = a
no_clocked (clocked i events s) a c = a

not_assigned : (q : Process) → is_assign q ≡ true → IsClocked q → ⊥
not_assigned (assign i x t counted) a c = c
not_assigned (comb i wakes s) a c = false≢true a
not_assigned (clocked i events s) a c = false≢true a

module _ (d : Design) (lawful : IsLawfulDesign d) (h : Habit) (dump : BoundDump) (t : ℕ) (p y : ℕ) (is_a : is_assign (process_at d p) ≡ true) (mentioned : body_mentions y (body_at d p) ≡ true) (mine : body_assigns y (body_at d p) ≡ true) (free : dump.bound y ≡ false) where
  assigning : IsAssign (process_at d p)
  assigning = is_assign_from (process_at d p) is_a

  -- only the rule of nets gives it a value
  by_net : (start K : PartialMap) (x : Thing) (bits : List Bit) → IsClearBy d h dump t start K x bits → x ≡ a_signal y → (w : List Bit) × IsNetValue d K y w
  by_net start K x bits (of_dump s w shown bound one is) e = absurd (both_ways (dump.bound y) free (subst (λ z. dump.bound z ≡ true) (ap owner e) bound))
  by_net start K x bits (of_assigns s w unbound is) e = (w, subst (λ z. IsNetValue d K z w) (ap owner e) is)
  by_net start K x bits (of_comb q s w unbound is) e = absurd (no_comb (process_at d q) (lawful.apart p q y assigning mine (subst (λ z. body_assigns z (body_at d q) ≡ true) (ap owner e) is.target)) is.is_comb)
  by_net start K x bits (of_unwoken q x0 w window unbound target cannot old) e = absurd (no_clocked (process_at d q) (lawful.apart p q y assigning mine (subst (λ z. body_assigns z (body_at d q) ≡ true) (ap owner e) target.target)) target.is_clocked)
  by_net start K x bits (of_clean q c x0 w window unbound is) e = absurd (no_clocked (process_at d q) (lawful.apart p q y assigning mine (subst (λ z. body_assigns z (body_at d q) ≡ true) (ap owner e) is.writer.target)) is.writer.is_clocked)

  -- so it had one the round before
  one_before : (start K : PartialMap) (v : Values Bit) → Agrees d K v → (bits : List Bit) → IsClearBy d h dump t start K (a_signal y) bits → HasValue K (a_signal y)
  one_before start K v agrees bits rule =
      let net = by_net start K (a_signal y) bits rule refl in
      let told = net.1.within p (and_from (is_assign (process_at d p)) _ is_a mine) v agrees in
      inside_in K (a_signal y) _ told (mention_read_law d lawful p y is_a mentioned net.1.is_signal v)

  not_in_round : (start : PartialMap) (n : ℕ) (v : Values Bit) → Agrees d (clear_in d h dump t start n) v → HasValue (clear_in d h dump t start (suc n)) (a_signal y) → ⊥
  not_in_round start zero v agrees has = (one_before start (clear_in d h dump t start zero) v agrees has.0 has.1).1
  not_in_round start (suc n) v agrees has = not_in_round start n v (λ x bits e. agrees x bits (rounds_grow d h dump t start n x bits e)) (one_before start (clear_in d h dump t start (suc n)) v agrees has.0 has.1)

  not_clear_from : (start : PartialMap) (v : Values Bit) → Agrees d (clear_from d h dump t start) v → (n : ℕ) (bits : List Bit) → clear_in d h dump t start n (a_signal y) bits → ⊥
  not_clear_from start v agrees zero bits k = k
  not_clear_from start v agrees (suc n) bits k = not_in_round start n v (λ x w e. agrees x w (n, e)) (bits, k)

pub own_unclear_law : (d : Design) → IsLawfulDesign d → OwnUnclearLaw d
own_unclear_law d lawful h dump t p y n v own free agrees has = not_in_round d lawful h dump t p y own.0 own.1 own.2 free (clear_start d h dump t) n v agrees has

pub own_not_clear_law : (d : Design) → IsLawfulDesign d → OwnNotClearLaw d
own_not_clear_law d lawful h dump zero p y v own free agrees has = not_clear_from d lawful h dump 0 p y own.0 own.1 own.2 free nothing_known v agrees has.1.0 has.0 has.1.1
own_not_clear_law d lawful h dump (suc t) p y v own free agrees has = not_clear_from d lawful h dump (suc t) p y own.0 own.1 own.2 free (clear d h dump t) v agrees has.1.0 has.0 has.1.1

-- ---- own wake bits

-- bits among those of a signal are written, unless their offset is not known
pub among_written : (s n w : ℕ) (o : Option ℤ) → 1 ≤ w → are_among n w o ≡ true → (is_none o ≡ true) ⊎ ((k : ℕ) × (k < n) × (has_cell (bit_writes_option s n o (fill w X)) (cell s k) ≡ true))
among_written s n w None one h = inl refl
among_written s n w (Some (negsuc k)) one h = absurd (false≢true h)
among_written s n zero (Some (pos k)) one h = absurd (omega (arith, one))
among_written s n (suc w) (Some (pos k)) one h = inr (k, below, here)
  where
    below : k < n
    below = let most : k + suc w ≤ n = leb-true (k + suc w) n h in omega arith

    here : has_cell (writes_to (option_cell s (if nat_lt k n then Some k else None)) (X ∷ []) ++ bit_writes s n (pos k +ℤ pos 1) (fill w X)) (cell s k) ≡ true
    here = rw (lt-ltb k n below) (or_left (same_cell (cell s k) (cell s k)) _ (and_from (s == s) (k == k) (eq-eqb s s refl) (eq-eqb k k refl)))

any_left : (p : Term → Bool) (xs ys : List Term) → list_any p xs ≡ true → list_any p (xs ++ ys) ≡ true
any_left p xs ys h = list_any-append p xs ys ∙ or_left (list_any p xs) (list_any p ys) h

any_right : (p : Term → Bool) (xs ys : List Term) → list_any p ys ≡ true → list_any p (xs ++ ys) ≡ true
any_right p xs ys h = list_any-append p xs ys ∙ or_right (list_any p xs) (list_any p ys) h

pub offset_none : (r : Range) (o : Option ℤ) → is_none (offset_option r o) ≡ true → is_none o ≡ true
offset_none r None h = refl
offset_none r (Some z) h = absurd (false≢true h)

slide_none : (r : Range) (up : Bool) (w : ℕ) (o : Option ℤ) → is_none (slide_offset r up w o) ≡ true → is_none o ≡ true
slide_none r up w None h = refl
slide_none r up w (Some z) h = absurd (false≢true h)

module _ (d : Design) (y : ℕ) (less : y < length d.signals) (one : 1 ≤ (signal_at d y).width) where
  -- the term reads a bit of y, or selects it by an unknown index
  abbrev ReadsBit : Term → Type 0
  ReadsBit t = (k : ℕ) × (k < (signal_at d y).width) × (may_read d t (cell y k) ≡ true)

  abbrev IsMet : Term → Type 0
  IsMet t = ReadsBit t ⊎ (list_any (is_unknown_select d y) (subterms t) ≡ true)

  abbrev AreMet : Terms → Type 0
  AreMet ts = ((k : ℕ) × (k < (signal_at d y).width) × (some_may_read d ts (cell y k) ≡ true)) ⊎ (list_any (is_unknown_select d y) (all_subterms ts) ≡ true)

  -- from a part to the whole
  up_to : (t u : Term) → ((k : ℕ) → may_read d t (cell y k) ≡ true → may_read d u (cell y k) ≡ true) → (list_any (is_unknown_select d y) (subterms t) ≡ true → list_any (is_unknown_select d y) (subterms u) ≡ true) → IsMet t → IsMet u
  up_to t u f g (inl r) = inl (r.0, r.1, f r.0 r.2)
  up_to t u f g (inr s) = inr (g s)

  -- a signal by its name
  plain_reads : (t : Term) → is_plain t ≡ true → mentions y t ≡ true → (k : ℕ) → may_read d t (cell y k) ≡ true
  plain_reads (signal h s) e m k = eq-eqb y s (sym (eqb-true s y m))
  plain_reads _ e m k = absurd (false≢true e)

  plain_is : (t : Term) → is_plain t ≡ true → mentions y t ≡ true → (own_width d t ≡ (signal_at d y).width) × (range_of d t ≡ signal_range d y)
  plain_is (signal h s) e m = (ap (λ z. (signal_at d z).width) (eqb-true s y m), ap (signal_range d) (eqb-true s y m))
  plain_is _ e m = absurd (false≢true e)

  -- a select by its index: some bit of y is met in what it is taken of
  selected : (t : Term) (fixed : Bool) (x : ℕ → Bool) (Unknown : Type 0) → mentions y t ≡ true → (fixed ≡ true → is_plain t ≡ true → Unknown ⊎ ((k : ℕ) × (k < (signal_at d y).width) × (x k ≡ true))) → IsMet t →
      ((k : ℕ) × (k < (signal_at d y).width) × ((may_read d t (cell y k) && (not (is_plain t && fixed) || x k)) ≡ true)) ⊎ (Unknown ⊎ (list_any (is_unknown_select d y) (subterms t) ≡ true))
  selected t fixed x Unknown m f (inr s) = inr (inr s)
  selected t fixed x Unknown m f (inl r) = by_test (is_plain t && fixed) refl
    where
      by_test : (b : Bool) → (is_plain t && fixed) ≡ b → ((k : ℕ) × (k < (signal_at d y).width) × ((may_read d t (cell y k) && (not b || x k)) ≡ true)) ⊎ (Unknown ⊎ (list_any (is_unknown_select d y) (subterms t) ≡ true))
      by_test false e = inl (r.0, r.1, and_from (may_read d t (cell y r.0)) true r.2 refl)
      by_test true e =
          let p = and_parts (is_plain t) fixed e in
          ⊎_elim (λ k. inr (inl k)) (λ k. inl (k.0, k.1, and_from (may_read d t (cell y k.0)) (x k.0) (plain_reads t p.0 m k.0) k.2)) (f p.1 p.0)

  -- the bits of a select that lies in the range of y
  found : (t : Term) (w : ℕ) (o : Range → Option ℤ) → is_plain t ≡ true → mentions y t ≡ true → 1 ≤ w → are_among (own_width d t) w (o (range_of d t)) ≡ true →
      (is_none (o (signal_range d y)) ≡ true) ⊎ ((k : ℕ) × (k < (signal_at d y).width) × (has_cell (bit_writes_option y (signal_at d y).width (o (signal_range d y)) (fill w X)) (cell y k) ≡ true))
  found t w o plain m one inside =
      let is = plain_is t plain m in
      among_written y (signal_at d y).width w (o (signal_range d y)) one (subst (λ n. are_among n w (o (signal_range d y)) ≡ true) is.0 (subst (λ r. are_among (own_width d t) w (o r) ≡ true) is.1 inside))

  after : (b x : Bool) → b ≡ true → (not b || x) ≡ true → x ≡ true
  after true x e h = h
  after false x e h = absurd (false≢true e)

  no_fixed : (b x : Bool) → (not (b && true) || x) ≡ true → (not b || x) ≡ true
  no_fixed true x h = h
  no_fixed false x h = h

  mutual
    met : (w : ℕ) (g c : Bool) (t : Term) → is_shaped d w g t ≡ true → is_well_formed d c t ≡ true → mentions y t ≡ true → IsMet t
    met w g c (number h n) shape well m = absurd (false≢true m)
    met w g c (signal h s) shape well m = inl (0, omega (arith, one), eq-eqb y s (sym (eqb-true s y m)))
    met w g c (word h x i) shape well m =
        let p = and_parts (has_shape w g h && is_memory d x) _ shape in
        ⊎_elim (λ e. absurd (let most = leb-true (length d.signals) x (and_parts (nat_le (length d.signals) x) _ (and_parts (has_shape w g h) _ p.0).1).0 in omega (arith, most, less, eqb-true x y e)))
        (λ e. up_to i (word h x i) (λ k r. or_right (y == x) _ r) (λ s. s) (met (own_width d i) (own_sign d i) false i p.1 (and_parts (is_right d c (word h x i)) _ well).1 e)) (or_cases (x == y) _ m)
    met w g c (bit h t i) shape well m =
        let p = and_parts (has_shape w g h && is_shaped d (own_width d t) (own_sign d t) t) _ shape in
        let q = (and_parts (has_shape w g h) _ p.0).1 in
        let u = and_parts (is_right d c (bit h t i)) _ well in
        let r = and_parts (is_well_formed d false t) _ u.1 in
        let inside = (and_parts (is_counted_rightly c (bit h t i)) _ u.0).1 in
        let number : Option ℤ = index (head i).signed (value d blank i) in
        ⊎_elim
        (λ e.
        ⊎_elim (λ k. inl (k.0, k.1, or_right (may_read d i (cell y k.0)) _ k.2))
        (⊎_elim (λ k. inr (or_left (is_unknown_select d y (bit h t i)) _ k)) (λ k. inr (or_right (is_unknown_select d y (bit h t i)) _ (any_left (is_unknown_select d y) (subterms t) (subterms i) k))))
        (selected t (is_constant i) (λ k. has_cell (static_writes d (bits_of y i 1)) (cell y k)) (is_unknown_select d y (bit h t i) ≡ true) e
        (λ fixed plain. ⊎_elim (λ n. inl (and_from (mentions y t) _ e (and_from (is_constant i) _ fixed (offset_none (signal_range d y) number n)))) (λ k. inr k) (found t 1 (λ r. offset_option r number) plain e (omega arith) (after (is_constant i) _ fixed inside)))
        (met (own_width d t) (own_sign d t) false t q r.0 e)))
        (λ e. up_to i (bit h t i) (λ k f. or_left (may_read d i (cell y k)) _ f) (λ s. or_right (is_unknown_select d y (bit h t i)) _ (any_right (is_unknown_select d y) (subterms t) (subterms i) s)) (met (own_width d i) (own_sign d i) false i p.1 r.1 e))
        (or_cases (mentions y t) _ m)
    met w g c (part h t i j) shape well m =
        let p5 = and_parts _ (is_constant j) shape in
        let p4 = and_parts _ (is_constant i) p5.0 in
        let p3 = and_parts _ (is_shaped d (own_width d j) (own_sign d j) j) p4.0 in
        let p2 = and_parts _ (is_shaped d (own_width d i) (own_sign d i) i) p3.0 in
        let p1 = and_parts (has_shape w g h) (is_shaped d (own_width d t) (own_sign d t) t) p2.0 in
        let u = and_parts (is_right d c (part h t i j)) _ well in
        let r = and_parts (is_well_formed d false t) _ u.1 in
        let inside = (and_parts (is_counted_rightly c (part h t i j)) _ u.0).1 in
        let number : Option ℤ = index (head j).signed (value d blank j) in
        let wide : ℕ = part_width (value d blank i) (value d blank j) in
        ⊎_elim
        (λ e.
        ⊎_elim (λ k. inl (k.0, k.1, (let z = and_parts (may_read d t (cell y k.0)) _ k.2 in and_from (may_read d t (cell y k.0)) _ z.0 (no_fixed (is_plain t) _ z.1))))
        (⊎_elim (λ k. inr (or_left (is_unknown_select d y (part h t i j)) _ k)) (λ k. inr (or_right (is_unknown_select d y (part h t i j)) _ (any_left (is_unknown_select d y) (subterms t ++ subterms i) (subterms j) (any_left (is_unknown_select d y) (subterms t) (subterms i) k)))))
        (selected t true (λ k. has_cell (static_writes d (bits_of y j wide)) (cell y k)) (is_unknown_select d y (part h t i j) ≡ true) e
        (λ fixed plain. ⊎_elim (λ n. inl (and_from (mentions y t) _ e (offset_none (signal_range d y) number n))) (λ k. inr k) (found t wide (λ q. offset_option q number) plain e (omega arith) inside))
        (met (own_width d t) (own_sign d t) false t p1.1 r.0 e)))
        (λ k. absurd (⊎_elim (constant_mentions y i p4.1) (constant_mentions y j p5.1) (or_cases (mentions y i) _ k)))
        (or_cases (mentions y t) _ m)
    met w g c (slide h t b z up) shape well m =
        let p4 = and_parts _ (is_constant z) shape in
        let p3 = and_parts _ (is_shaped d (own_width d z) (own_sign d z) z) p4.0 in
        let p2 = and_parts _ (is_shaped d (own_width d b) (own_sign d b) b) p3.0 in
        let p1 = and_parts (has_shape w g h) (is_shaped d (own_width d t) (own_sign d t) t) p2.0 in
        let u = and_parts (is_right d c (slide h t b z up)) _ well in
        let r = and_parts (is_well_formed d false t) _ u.1 in
        let r1 = and_parts (is_well_formed d false b) _ r.1 in
        let sized = and_parts (nat_le 1 (natural (value d blank z))) _ (and_parts (is_counted_rightly c (slide h t b z up)) _ u.0).1 in
        let number : Option ℤ = index (head b).signed (value d blank b) in
        let wide : ℕ = natural (value d blank z) in
        ⊎_elim
        (λ e.
        ⊎_elim (λ k. inl (k.0, k.1, or_right (may_read d b (cell y k.0)) _ k.2))
        (⊎_elim (λ k. inr (or_left (is_unknown_select d y (slide h t b z up)) _ k)) (λ k. inr (or_right (is_unknown_select d y (slide h t b z up)) _ (any_left (is_unknown_select d y) (subterms t ++ subterms b) (subterms z) (any_left (is_unknown_select d y) (subterms t) (subterms b) k)))))
        (selected t (is_constant b) (λ k. has_cell (slide_writes d y up b wide) (cell y k)) (is_unknown_select d y (slide h t b z up) ≡ true) e
        (λ fixed plain. ⊎_elim (λ n. inl (and_from (mentions y t) _ e (and_from (is_constant b) _ fixed (slide_none (signal_range d y) up wide number n)))) (λ k. inr k) (found t wide (λ q. slide_offset q up wide number) plain e (leb-true 1 wide sized.0) (after (is_constant b) _ fixed sized.1)))
        (met (own_width d t) (own_sign d t) false t p1.1 r.0 e)))
        (λ k. ⊎_elim
        (λ e. up_to b (slide h t b z up) (λ n f. or_left (may_read d b (cell y n)) _ f) (λ s. or_right (is_unknown_select d y (slide h t b z up)) _ (any_left (is_unknown_select d y) (subterms t ++ subterms b) (subterms z) (any_right (is_unknown_select d y) (subterms t) (subterms b) s))) (met (own_width d b) (own_sign d b) false b p2.1 r1.0 e))
        (λ e. absurd (constant_mentions y z p4.1 e)) (or_cases (mentions y b) _ k))
        (or_cases (mentions y t) _ m)
    met w g c (unary h op t) shape well m =
        let r = (and_parts (is_right d c (unary h op t)) _ well).1 in
        up_to t (unary h op t) (λ k f. f) (λ s. s)
        (⊎_elim (λ p. met w g false t p r m) (λ p. met (own_width d t) (own_sign d t) false t p r m) (if_cases (is_wide_unary op) (is_shaped d w g t) (is_shaped d (own_width d t) (own_sign d t) t) (and_parts (has_shape w g h) (if is_wide_unary op then is_shaped d w g t else is_shaped d (own_width d t) (own_sign d t) t) shape).1))
    met w g c (binary h op t x) shape well m =
        let k = binary_shape d w g op t x (and_parts (has_shape w g h) (binary_shaped d w g op t x) shape).1 in
        let r = and_parts (is_well_formed d false t) _ (and_parts (is_right d c (binary h op t x)) _ well).1 in
        ⊎_elim (λ e. up_to t (binary h op t x) (λ n f. or_left (may_read d t (cell y n)) _ f) (λ s. any_left (is_unknown_select d y) (subterms t) (subterms x) s) (met k.0 k.1 false t k.4 r.0 e))
        (λ e. up_to x (binary h op t x) (λ n f. or_right (may_read d t (cell y n)) _ f) (λ s. any_right (is_unknown_select d y) (subterms t) (subterms x) s) (met k.2 k.3 false x k.5 r.1 e)) (or_cases (mentions y t) _ m)
    met w g c (choice h x t z) shape well m =
        let p3 = and_parts _ (is_shaped d w g z) shape in
        let p2 = and_parts _ (is_shaped d w g t) p3.0 in
        let p1 = and_parts (has_shape w g h) (is_shaped d (own_width d x) (own_sign d x) x) p2.0 in
        let r = and_parts (is_well_formed d true x) _ (and_parts (is_right d c (choice h x t z)) _ well).1 in
        let r1 = and_parts (is_well_formed d false t) _ r.1 in
        ⊎_elim
        (λ e. up_to x (choice h x t z) (λ n f. or_left (may_read d x (cell y n)) _ f) (λ s. any_left (is_unknown_select d y) (subterms x ++ subterms t) (subterms z) (any_left (is_unknown_select d y) (subterms x) (subterms t) s)) (met (own_width d x) (own_sign d x) true x p1.1 r.0 e))
        (λ k. ⊎_elim
        (λ e. up_to t (choice h x t z) (λ n f. or_right (may_read d x (cell y n)) _ (or_left (may_read d t (cell y n)) _ f)) (λ s. any_left (is_unknown_select d y) (subterms x ++ subterms t) (subterms z) (any_right (is_unknown_select d y) (subterms x) (subterms t) s)) (met w g false t p2.1 r1.0 e))
        (λ e. up_to z (choice h x t z) (λ n f. or_right (may_read d x (cell y n)) _ (or_right (may_read d t (cell y n)) _ f)) (λ s. any_right (is_unknown_select d y) (subterms x ++ subterms t) (subterms z) s) (met w g false z p3.1 r1.1 e))
        (or_cases (mentions y t) _ k))
        (or_cases (mentions y x) _ m)
    met w g c (concat h ts) shape well m = all_met ts (and_parts (has_shape w g h) _ shape).1 (and_parts (is_right d c (concat h ts)) _ well).1 m
    met w g c (repeat h n ts) shape well m =
        let p2 = and_parts _ (are_alone d ts) shape in
        let p1 = and_parts _ (is_constant n) p2.0 in
        let r = and_parts (is_well_formed d false n) _ (and_parts (is_right d c (repeat h n ts)) _ well).1 in
        ⊎_elim (λ e. absurd (constant_mentions y n p1.1 e))
        (λ e. ⊎_elim (λ k. inl k) (λ k. inr (any_right (is_unknown_select d y) (subterms n) (all_subterms ts) k)) (all_met ts p2.1 r.1 e)) (or_cases (mentions y n) _ m)
    met w g c (sign h s t) shape well m =
        up_to t (sign h s t) (λ k f. f) (λ s. s) (met (own_width d t) (own_sign d t) false t (and_parts (has_shape w g h) _ shape).1 (and_parts (is_right d c (sign h s t)) _ well).1 m)

    all_met : (ts : Terms) → are_alone d ts ≡ true → are_well_formed d ts ≡ true → mentions_any y ts ≡ true → AreMet ts
    all_met no_terms shape well m = absurd (false≢true m)
    all_met (a_term t ts) shape well m =
        let p = and_parts (is_shaped d (own_width d t) (own_sign d t) t) (are_alone d ts) shape in
        let r = and_parts (is_well_formed d false t) _ well in
        ⊎_elim
        (λ e. ⊎_elim (λ k. inl (k.0, k.1, or_left (may_read d t (cell y k.0)) _ k.2)) (λ k. inr (any_left (is_unknown_select d y) (subterms t) (all_subterms ts) k)) (met (own_width d t) (own_sign d t) false t p.0 r.0 e))
        (λ e. ⊎_elim (λ k. inl (k.0, k.1, or_right (may_read d t (cell y k.0)) _ k.2)) (λ k. inr (any_right (is_unknown_select d y) (subterms t) (all_subterms ts) k)) (all_met ts p.1 r.1 e))
        (or_cases (mentions y t) _ m)

-- a bit that the Assign reads and does not drive, or an unknown select
own_bit : (d : Design) (q : Process) (y : ℕ) → is_assign q ≡ true → target_once q d ≡ true → is_body d (body q) ≡ true → is_well_formed_body d (body q) ≡ true → ((b : Cell) → any_set (λ k x t. may_write d x b && may_read d t b) (body q) ≡ false) → body_mentions y (body q) ≡ true → y < length d.signals → 1 ≤ (signal_at d y).width →
    ((k : ℕ) × (k < (signal_at d y).width) × (blocking_target d (body q) (cell y k) ≡ false)) ⊎ (list_any (is_unknown_select d y) (body_terms (body q)) ≡ true)
own_bit d (assign i x t counted) y a once is well away m less one =
    let fixed = (and_parts (is_fixed_target x) _ once).0 in
    let named = ⊎_elim (λ e. absurd (fixed_mentions y x fixed e)) (λ e. e) (or_cases (index_mentions y x) _ m) in
    ⊎_elim (λ k. inl (k.0, k.1, unwritten (may_write d x (cell y k.0)) (may_read d t (cell y k.0)) (away (cell y k.0)) k.2)) (λ k. inr (any_right (is_unknown_select d y) (index_terms x) (subterms t) k))
    (met d y less one _ _ false t (and_parts (is_target d x) _ is).1 (and_parts (is_well_formed_target d x) _ well).1 named)
own_bit d (comb i wakes s) y a once is well away m less one = absurd (false≢true a)
own_bit d (clocked i events s) y a once is well away m less one = absurd (false≢true a)

assign_level : (q : Process) (y : ℕ) → is_assign q ≡ true → body_mentions y (body q) ≡ true → is_level q y ≡ true
assign_level (assign i x t counted) y a m = m
assign_level (comb i wakes s) y a m = absurd (false≢true a)
assign_level (clocked i events s) y a m = absurd (false≢true a)

pub own_wake_law : (d : Design) → IsLawfulDesign d → OwnWakeLaw d
own_wake_law d lawful p y own =
    let less = settled_signals_law d lawful p y (not_assigned (process_at d p) own.0) own.2 in
    ⊎_elim (λ k. inl (k.0, (less, k.1, (assign_level (process_at d p) y own.0 own.1, k.2)))) (λ k. inr k)
    (own_bit d (process_at d p) y own.0 (lawful.targets p) (lawful.bodies p) (lawful.well_formed p) (λ b. lawful.reads_no_own p b (is_assign_from (process_at d p) own.0)) own.1 less (has_bit d lawful y less))
