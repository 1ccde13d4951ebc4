-- A process writes cells of the design, and words of its own targets; what an Assign or Comb assigns and lists is a signal.
use Rattle.std.proofs.Common.{◌≡◌, ◌⊎◌, inl, inr, ⊎_elim, ℕ, zero, suc, ◌+◌, ◌*◌, ◌<◌, ◌≤◌, ◌==◌, ◌&&◌, Bool, true, false, not, if◌then◌else◌, List, [], ◌∷◌, ◌++◌, map, length, take, drop, min, max, ℤ, pos, negsuc, Option, Some, None, refl, sym, ap, subst, arith, eq-eqb}
use Rattle.std.specs.Prelude.{nat_le, nat_lt}
use Rattle.std.specs.List.{list_all, list_any, range_with_len}
use Rattle.std.proofs.lemmas.Bool.{and_from, and_parts, cases_lt, eqb-true, false≢true, leb-true, lt-ltb, ltb-true, or_cases, or_left, or_right}
use Rattle.event_machine.specs.Cell.{Cell, Update, Values, Write, WritesCell, join}
use Rattle.event_machine.specs.Machine.{IsTarget}
use Rattle.four_state.specs.Parts.{index}
use Rattle.four_state.specs.Vector.{extend}
use Rattle.four_state.specs.declared.bit.Bit.{Bit}
use Rattle.design_model.specs.Tree.{Arms, Process, Stmt, Stmts, Target, Targets, Term, a_stmt, a_target, all_of, arm, assign, bits_of, block, branch, clocked, comb, empty, no_arms, no_stmts, no_targets, select, set, several, turns, word_of}
use Rattle.design_model.specs.Design.{Design, In, IsClocked, IsComb, Memory, body, body_at, cell, is_memory, memory_at, process_at, signal_at, signal_cells, word_cells}
use Rattle.design_model.specs.Value.{head, named_word, offset_option, value, word_named}
use Rattle.design_model.specs.Assignment.{signal_range, target_width, target_writes, targets_width, targets_writes, word_writes, writes_to}
use Rattle.design_model.specs.Mentions.{any_set, body_assigns, body_mentions, may_write, some_may_write, some_target_names, target_names}
use Rattle.design_model.specs.Execution.{Execution, execute_assignment, execution, execution_start, writes_word}
use Rattle.design_model.specs.Shape.{are_bodies, are_targets, is_arms, is_body, is_target}
use Rattle.design_model.specs.Lawful.{IsLawfulDesign, are_fixed_targets, is_fixed_target, target_once, wakes_of}
use Rattle.design_model.specs.Machine.{is_level, machine}
use Rattle.design_model.specs.Open.{SomeTargetWord, TargetWord}
use Rattle.design_model.specs.BodyLaws.{ListedMemoryLaw, SettledSignalsLaw, WordVisitsLaw, WrittenCellsLaw, all_cells, word_indexes, words_cells}
use Rattle.design_model.proofs.Along.{In-left, In-right, execute_along}
use Rattle.design_model.proofs.Execution.{EachSet, EachSetIn, EachSetOf, each_gives, execute_keeps}
use Rattle.design_model.proofs.Named.{WritesCell-halves, option_bits_range}
use Rattle.design_model.proofs.OpenPath.{each_any}
use Rattle.design_model.proofs.VisitKinds.{AllVisits, NamesGive, WordGives, all_in, path_words}

-- ---- the cells of a design

range_has : (x n k : ℕ) (c : Cell) → c.thing ≡ x → n ≡ c.place ⊎ (n < c.place) → c.place < n + k → In c (map (cell x) (range_with_len n k))
range_has x n zero c e at below = absurd (⊎_elim (λ f. omega (arith, f, below)) (λ f. omega (arith, f, below)) at)
range_has x n (suc k) c e (inl f) below = inl (λ i. record { thing = sym e i; place = f i })
range_has x n (suc k) c e (inr f) below = inr (range_has x (n + 1) k c e (next (cases_lt (n + 1) c.place)) (omega (arith, below)))
  where
    next : ((n + 1) < c.place) ⊎ (c.place ≤ n + 1) → ((n + 1) ≡ c.place) ⊎ ((n + 1) < c.place)
    next (inl lt) = inr lt
    next (inr le) = inl (omega (arith, le, f))

signal_has : (d : Design) (s : ℕ) (c : Cell) → c.thing ≡ s → c.place < (signal_at d s).width → In c (signal_cells d s)
signal_has d s c e below = range_has s 0 (signal_at d s).width c e (start (cases_lt 0 c.place)) (omega (arith, below))
  where
    start : (0 < c.place) ⊎ (c.place ≤ 0) → (0 ≡ c.place) ⊎ (0 < c.place)
    start (inl lt) = inr lt
    start (inr le) = inl (omega (arith, le))

words_have : (d : Design) (m i : ℕ) (is : List ℕ) (c : Cell) → In i is → In c (word_cells d m i) → In c (words_cells d m is)
words_have d m i [] c h k = absurd h
words_have d m i (j ∷ js) c (inl e) k = In-left c (word_cells d m j) _ (subst (λ z. In c (word_cells d m z)) (sym e) k)
words_have d m i (j ∷ js) c (inr h) k = In-right c (word_cells d m j) _ (words_have d m i js c h k)

number_has : (n k i : ℕ) → n ≤ i → i < n + k → In i (range_with_len n k)
number_has n zero i a b = absurd (omega (arith, a, b))
number_has n (suc k) i a b = ⊎_elim (λ over. inr (number_has (n + 1) k i (omega (arith, over)) (omega (arith, b)))) (λ same. inl (omega (arith, a, same))) (cases_lt n i)

-- a word that an index names
named_has : (d : Design) (m i : ℕ) (o : Option ℤ) → named_word (memory_at d m) o ≡ Some i → In i (word_indexes d m)
named_has d m i None e = absurd cc
named_has d m i (Some (negsuc k)) e = absurd cc
named_has d m i (Some (pos k)) e = by_test (nat_le (min y.first y.last) k && nat_le k (max y.first y.last)) refl e
  where
    y : Memory
    y = memory_at d m

    by_test : (b : Bool) → (nat_le (min y.first y.last) k && nat_le k (max y.first y.last)) ≡ b → (if b then Some k else None) ≡ Some i → In i (word_indexes d m)
    by_test false is e = absurd cc
    by_test true is e =
        let p = and_parts (nat_le (min y.first y.last) k) _ is in
        let same : k ≡ i = cc in
        subst (λ z. In z (word_indexes d m)) same (number_has (min y.first y.last) _ k (leb-true _ _ p.0) (let below : k ≤ max y.first y.last = leb-true _ _ p.1 in let above : min y.first y.last ≤ k = leb-true _ _ p.0 in omega arith))

-- ---- what an assignment writes is of the design

written_in : (cs : List Cell) (bs : List Bit) (c : Cell) → WritesCell (writes_to cs bs) c → In c cs
written_in [] bs c h = absurd h
written_in (x ∷ cs) [] c h = absurd h
written_in (x ∷ cs) (b ∷ bs) c (inl e) = inl e
written_in (x ∷ cs) (b ∷ bs) c (inr h) = inr (written_in cs bs c h)

cell_thing : (x : ℕ) (f : ℕ → ℕ) (ks : List ℕ) (c : Cell) → In c (map (λ k. cell x (f k)) ks) → c.thing ≡ x
cell_thing x f [] c h = absurd h
cell_thing x f (k ∷ ks) c (inl e) = sym (ap (λ z. z.thing) e)
cell_thing x f (k ∷ ks) c (inr h) = cell_thing x f ks c h

of_signal : (d : Design) (s : ℕ) (c : Cell) → s < length d.signals → c.thing ≡ s → In c (signal_cells d s) → In c (all_cells d c.thing)
of_signal d s c less e h = subst (λ z. In c (all_cells d z)) (sym e) (subst (λ b. In c (if b then signal_cells d s else words_cells d s (word_indexes d s))) (sym (lt-ltb s (length d.signals) less)) h)

of_memory : (d : Design) (m : ℕ) (c : Cell) → is_memory d m ≡ true → c.thing ≡ m → In c (words_cells d m (word_indexes d m)) → In c (all_cells d c.thing)
of_memory d m c is e h = subst (λ z. In c (all_cells d z)) (sym e) (by_test (nat_lt m (length d.signals)) refl)
  where
    by_test : (b : Bool) → nat_lt m (length d.signals) ≡ b → In c (if b then signal_cells d m else words_cells d m (word_indexes d m))
    by_test false is_no = h
    by_test true is_yes = absurd (let less = ltb-true m (length d.signals) is_yes in let most = leb-true (length d.signals) m (and_parts (nat_le (length d.signals) m) _ is).0 in omega (arith, less, most))

mutual
  target_exists : (d : Design) (v : Values Bit) (x : Target) (bs : List Bit) (c : Cell) → is_target d x ≡ true → WritesCell (target_writes d v x bs) c → In c (all_cells d c.thing)
  target_exists d v (all_of s) bs c is h = let k = written_in (signal_cells d s) bs c h in of_signal d s c (ltb-true s (length d.signals) is) (cell_thing s (λ k. k) (range_with_len 0 (signal_at d s).width) c k) k
  target_exists d v (bits_of s low w) bs c is h =
      let r = option_bits_range s (signal_at d s).width (offset_option (signal_range d s) (index (head low).signed (value d v low))) bs c h in
      of_signal d s c (ltb-true s (length d.signals) (and_parts (nat_lt s (length d.signals)) _ (and_parts _ (nat_le 1 w) is).0).0) r.0 (signal_has d s c r.0 r.1)
  target_exists d v (word_of m i) bs c is h = by_word (word_named d v m i) refl h
    where
      by_word : (o : Option ℕ) → word_named d v m i ≡ o → WritesCell (word_writes d m o bs) c → In c (all_cells d c.thing)
      by_word None e k = absurd k
      by_word (Some j) e k =
          let there = written_in (word_cells d m j) bs c k in
          of_memory d m c (and_parts (is_memory d m) _ is).0 (cell_thing m (λ k. j * (memory_at d m).width + k) (range_with_len 0 (memory_at d m).width) c there) (words_have d m j (word_indexes d m) c (named_has d m j _ e) there)
  target_exists d v (several ts) bs c is h = targets_exist d v ts bs c is h

  targets_exist : (d : Design) (v : Values Bit) (ts : Targets) (bs : List Bit) (c : Cell) → are_targets d ts ≡ true → WritesCell (targets_writes d v ts bs) c → In c (all_cells d c.thing)
  targets_exist d v no_targets bs c is h = absurd h
  targets_exist d v (a_target t ts) bs c is h =
      let p = and_parts (is_target d t) (are_targets d ts) is in
      ⊎_elim (target_exists d v t (drop (targets_width d ts) bs) c p.0) (targets_exist d v ts (take (targets_width d ts) bs) c p.1) (WritesCell-halves (target_writes d v t (drop (targets_width d ts) bs)) _ c h)

-- each target of a body is one of the design
mutual
  pub each_target : (d : Design) (s : Stmt) → is_body d s ≡ true → EachSet (λ n b x t. is_target d x ≡ true) s
  each_target d (block p ss) h = each_target_of d ss h
  each_target d (branch p n t s other) h = let q = and_parts _ (are_bodies d other) h in (each_target d s (and_parts _ (is_body d s) q.0).1, each_target_of d other q.1)
  each_target d (select p n kind t arms) h = each_target_in d _ _ arms (and_parts _ (is_arms d _ _ arms) h).1
  each_target d (turns p n ss) h = each_target_of d ss h
  each_target d (set p n b x t) h = (and_parts (is_target d x) _ h).0
  each_target d (empty p) h = tt

  each_target_of : (d : Design) (ss : Stmts) → are_bodies d ss ≡ true → EachSetOf (λ n b x t. is_target d x ≡ true) ss
  each_target_of d no_stmts h = tt
  each_target_of d (a_stmt s ss) h = let q = and_parts (is_body d s) (are_bodies d ss) h in (each_target d s q.0, each_target_of d ss q.1)

  each_target_in : (d : Design) (w : ℕ) (g : Bool) (arms : Arms) → is_arms d w g arms ≡ true → EachSetIn (λ n b x t. is_target d x ≡ true) arms
  each_target_in d w g no_arms h = tt
  each_target_in d w g (arm labels s arms) h = let q = and_parts _ (is_arms d w g arms) h in (each_target d s (and_parts _ (is_body d s) q.0).1, each_target_in d w g arms q.1)

-- two facts of each assignment give a third
mutual
  pub each_both : {S R T : ℕ → Bool → Target → Term → Type 0} → ((n : ℕ) (b : Bool) (x : Target) (t : Term) → S n b x t → R n b x t → T n b x t) → (s : Stmt) → EachSet S s → EachSet R s → EachSet T s
  each_both g (block p ss) a b = each_both_of g ss a b
  each_both g (branch p n t s other) a b = (each_both g s a.0 b.0, each_both_of g other a.1 b.1)
  each_both g (select p n kind t arms) a b = each_both_in g arms a b
  each_both g (turns p n ss) a b = each_both_of g ss a b
  each_both g (set p n k x t) a b = g n k x t a b
  each_both g (empty p) a b = tt

  each_both_of : {S R T : ℕ → Bool → Target → Term → Type 0} → ((n : ℕ) (b : Bool) (x : Target) (t : Term) → S n b x t → R n b x t → T n b x t) → (ss : Stmts) → EachSetOf S ss → EachSetOf R ss → EachSetOf T ss
  each_both_of g no_stmts a b = tt
  each_both_of g (a_stmt s ss) a b = (each_both g s a.0 b.0, each_both_of g ss a.1 b.1)

  each_both_in : {S R T : ℕ → Bool → Target → Term → Type 0} → ((n : ℕ) (b : Bool) (x : Target) (t : Term) → S n b x t → R n b x t → T n b x t) → (arms : Arms) → EachSetIn S arms → EachSetIn R arms → EachSetIn T arms
  each_both_in g no_arms a b = tt
  each_both_in g (arm labels s arms) a b = (each_both g s a.0 b.0, each_both_in g arms a.1 b.1)

module _ (d : Design) where
  abbrev AreOfDesign : List (Write Bit) → Type 0
  AreOfDesign ws = (c : Cell) → WritesCell ws c → In c (all_cells d c.thing)

  abbrev WritesDesign : Execution → Type 0
  WritesDesign r = AreOfDesign r.blocking × AreOfDesign (join r.nonblocking)

  two_lists : (xs ys : List (Write Bit)) → AreOfDesign xs → AreOfDesign ys → AreOfDesign (xs ++ ys)
  two_lists xs ys f g c h = ⊎_elim (f c) (g c) (WritesCell-halves xs ys c h)

  joined_with : (us : List (Update Bit)) (u : Update Bit) → AreOfDesign (join us) → AreOfDesign u → AreOfDesign (join (us ++ u ∷ []))
  joined_with [] u f g c h = ⊎_elim (g c) (λ none. absurd none) (WritesCell-halves u [] c h)
  joined_with (x ∷ us) u f g c h = ⊎_elim (λ k. f c (WritesCell-first x (join us) c k)) (λ k. joined_with us u (λ e l. f e (WritesCell-second x (join us) e l)) g c k) (WritesCell-halves x (join (us ++ u ∷ [])) c h)
    where
      WritesCell-first : (xs ys : List (Write Bit)) (c : Cell) → WritesCell xs c → WritesCell (xs ++ ys) c
      WritesCell-first [] ys c h = absurd h
      WritesCell-first (x ∷ xs) ys c (inl e) = inl e
      WritesCell-first (x ∷ xs) ys c (inr h) = inr (WritesCell-first xs ys c h)

      WritesCell-second : (xs ys : List (Write Bit)) (c : Cell) → WritesCell ys c → WritesCell (xs ++ ys) c
      WritesCell-second [] ys c h = h
      WritesCell-second (x ∷ xs) ys c h = inr (WritesCell-second xs ys c h)

  set_writes : (n : ℕ) (b : Bool) (x : Target) (t : Term) → is_target d x ≡ true → (r : Execution) → WritesDesign r → WritesDesign (execute_assignment d n b x t r)
  set_writes n true x t is r h = (two_lists r.blocking _ h.0 (λ c k. target_exists d r.values x (extend (target_width d x) (head t).signed (value d r.values t)) c is k), h.1)
  set_writes n false x t is r h = (h.0, joined_with r.nonblocking _ h.1 (λ c k. target_exists d r.values x (extend (target_width d x) (head t).signed (value d r.values t)) c is k))

  execution_writes : (s : Stmt) (v : Values Bit) → is_body d s ≡ true → WritesDesign (execution d s v)
  execution_writes s v h = execute_keeps d WritesDesign (λ r vs k. k) s (each_gives (λ n b x t is r k. set_writes n b x t is r k) s (each_target d s h)) (execution_start v) (λ c k. absurd k, λ c k. absurd k)

pub written_cells_law : (d : Design) → IsLawfulDesign d → WrittenCellsLaw d
written_cells_law d lawful p v c h = let w = execution_writes d (body_at d p) v (lawful.bodies p) in two_lists d (execution d (body_at d p) v).blocking (join (execution d (body_at d p) v).nonblocking) w.0 w.1 c h

-- ---- words that are written

-- a target of the design that names a word of a memory may write a cell of it
mutual
  word_target : (d : Design) (m : ℕ) (x : Target) (j : Term) → is_target d x ≡ true → TargetWord m x j → may_write d x (cell m 0) ≡ true
  word_target d m (all_of s) j is n = absurd n
  word_target d m (bits_of s low w) j is n = absurd n
  word_target d m (word_of k i) j is n = and_from (m == k) (nat_le (length d.signals) k) (eq-eqb m k (sym n.0)) (and_parts (nat_le (length d.signals) k) _ (and_parts (is_memory d k) _ is).0).0
  word_target d m (several ts) j is n = word_targets d m ts j is n

  word_targets : (d : Design) (m : ℕ) (ts : Targets) (j : Term) → are_targets d ts ≡ true → SomeTargetWord m ts j → some_may_write d ts (cell m 0) ≡ true
  word_targets d m no_targets j is n = absurd n
  word_targets d m (a_target t ts) j is n =
      let p = and_parts (is_target d t) (are_targets d ts) is in
      ⊎_elim (λ k. or_left (may_write d t (cell m 0)) _ (word_target d m t j p.0 k)) (λ k. or_right (may_write d t (cell m 0)) _ (word_targets d m ts j p.1 k)) n

word_gives : (d : Design) (p m : ℕ) → (b : Bool) (x : Target) (t : Term) → is_target d x ≡ true → ((f : Bool → Target → Term → Bool) → f b x t ≡ true → any_set f (body_at d p) ≡ true) → (j : Term) → TargetWord m x j → (c : Cell) × (c.thing ≡ m) × IsTarget (machine d) p c
word_gives d p m true x t is any j n = (cell m 0, refl, inl (any (λ k y z. k && may_write d y (cell m 0)) (word_target d m x j is n)))
word_gives d p m false x t is any j n = (cell m 0, refl, inr (any (λ k y z. not k && may_write d y (cell m 0)) (word_target d m x j is n)))

pub word_visits_law : (d : Design) → IsLawfulDesign d → WordVisitsLaw d
word_visits_law d lawful p v m i h =
    let G : Type 0 = (c : Cell) × (c.thing ≡ m) × IsTarget (machine d) p c in
    let sets = each_both (λ n b x t is any. word_gives d p m b x t is any) (body_at d p) (each_target d (body_at d p) (lawful.bodies p)) (each_any (body_at d p)) in
    let a = execute_along d (NamesGive d m G) [] (body_at d p) sets (execution_start v) in
    let all = path_words d m G a.path (execution_start v) a.actions tt in
    all_in (WordGives m G) (writes_word m i) _ (subst (λ r. AllVisits (WordGives m G) r.visits) (sym a.is) all) h refl

-- ---- signals

mutual
  fixed_signal : (d : Design) (x : Target) (y : ℕ) → is_fixed_target x ≡ true → is_target d x ≡ true → target_names y x ≡ true → y < length d.signals
  fixed_signal d (all_of s) y f is n = subst (λ z. z < length d.signals) (eqb-true s y n) (ltb-true s (length d.signals) is)
  fixed_signal d (bits_of s low w) y f is n = subst (λ z. z < length d.signals) (eqb-true s y n) (ltb-true s (length d.signals) (and_parts (nat_lt s (length d.signals)) _ (and_parts _ (nat_le 1 w) is).0).0)
  fixed_signal d (word_of m i) y f is n = absurd (false≢true f)
  fixed_signal d (several ts) y f is n = fixed_signals d ts y f is n

  fixed_signals : (d : Design) (ts : Targets) (y : ℕ) → are_fixed_targets ts ≡ true → are_targets d ts ≡ true → some_target_names y ts ≡ true → y < length d.signals
  fixed_signals d no_targets y f is n = absurd (false≢true n)
  fixed_signals d (a_target t ts) y f is n =
      let p = and_parts (is_fixed_target t) (are_fixed_targets ts) f in
      let q = and_parts (is_target d t) (are_targets d ts) is in
      ⊎_elim (fixed_signal d t y p.0 q.0) (fixed_signals d ts y p.1 q.1) (or_cases (target_names y t) _ n)

settled_signal : (d : Design) (q : Process) (y : ℕ) → (IsClocked q → ⊥) → target_once q d ≡ true → is_body d (body q) ≡ true → (IsComb q → body_assigns y (body q) ≡ true → y < length d.signals) → body_assigns y (body q) ≡ true → y < length d.signals
settled_signal d (assign i x t counted) y settles once is comb_is a = fixed_signal d x y (and_parts (is_fixed_target x) _ once).0 (and_parts (is_target d x) _ is).0 a
settled_signal d (comb i wakes s) y settles once is comb_is a = comb_is tt a
settled_signal d (clocked i events s) y settles once is comb_is a = absurd (settles tt)

pub settled_signals_law : (d : Design) → IsLawfulDesign d → SettledSignalsLaw d
settled_signals_law d lawful p x settles a = settled_signal d (process_at d p) x settles (lawful.targets p) (lawful.bodies p) (λ is_comb k. lawful.comb_writes p x is_comb k) a

listed_signal : (d : Design) (m : ℕ) (ws : List ℕ) → list_all (λ x. nat_lt x (length d.signals)) ws ≡ true → list_any (λ z. z == m) ws ≡ true → m < length d.signals
listed_signal d m [] all some = absurd (false≢true some)
listed_signal d m (w ∷ ws) all some =
    let p = and_parts (nat_lt w (length d.signals)) _ all in
    ⊎_elim (λ k. subst (λ z. z < length d.signals) (eqb-true w m k) (ltb-true w (length d.signals) p.0)) (listed_signal d m ws p.1) (or_cases (w == m) _ some)

listed_mention : (d : Design) (q : Process) (m : ℕ) → list_all (λ x. nat_lt x (length d.signals)) (wakes_of q) ≡ true → is_level q m ≡ true → is_memory d m ≡ true → body_mentions m (body q) ≡ true
listed_mention d (assign i x t counted) m all level memory = level
listed_mention d (comb i wakes s) m all level memory =
    ⊎_elim (λ k. k) (λ k. absurd (let less = listed_signal d m wakes all k in let most = leb-true (length d.signals) m (and_parts (nat_le (length d.signals) m) _ memory).0 in omega (arith, less, most))) (or_cases (body_mentions m s) _ level)
listed_mention d (clocked i events s) m all level memory = absurd (false≢true level)

pub listed_memory_law : (d : Design) → IsLawfulDesign d → ListedMemoryLaw d
listed_memory_law d lawful p m level memory = listed_mention d (process_at d p) m (lawful.lists p) level memory
