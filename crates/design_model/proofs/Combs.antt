-- A Comb that writes a signal whole on each path, and reads no own target before writing it, is combinational for it.
use Rattle.std.proofs.Common.{◌≡◌, inl, inr, ⊎_elim, ℕ, Bool, true, false, not, ◌&&◌, ◌==◌, List, [], ◌∷◌, ◌++◌, length, take, drop, refl, sym, subst, arith, eq-eqb, length-take, length-drop, Option, Some, None, if◌then◌else◌}
use Rattle.std.specs.Prelude.{⊤}
use Rattle.std.specs.List.{list_all, list_any}
use Rattle.std.proofs.lemmas.Bool.{and_parts, and_from, or_parts, or_left, or_right, false≢true, not-false}
use Rattle.event_machine.specs.Cell.{Cell, Values, Write, WritesCell}
use Rattle.four_state.specs.Vector.{extend, fill}
use Rattle.four_state.specs.declared.bit.Bit.{Bit}
use Rattle.four_state.specs.declared.bit.Bit.TheVariants.{X}
use Rattle.design_model.specs.Tree.{Stmt, Target, Targets, Term, Terms, a_target, a_term, all_of, binary, bit, bits_of, choice, concat, no_targets, no_terms, number, part, repeat, several, sign, signal, slide, unary, word, word_of}
use Rattle.design_model.specs.Design.{Design, In, Thing, a_signal, signal_at, signal_cells}
use Rattle.design_model.specs.Value.{head, value, word_named}
use Rattle.design_model.specs.Assignment.{target_width, target_writes, targets_width, targets_writes}
use Rattle.design_model.specs.Mentions.{all_sure_writes, has_cell, index_mentions, indexes_mention, is_constant, mentions, mentions_any, static_writes, sure_writes}
use Rattle.design_model.specs.Execution.{Execution, NodeCase, Visit, all_words_written, assignment_writes, at_line, covers, execution, execution_start, index_visits, indexes_visits, is_inner, node_visits, reads, visits_of, visits_of_all, word_read, word_written, words_written}
use Rattle.design_model.specs.Paths.{Action, Path, action_blocking_writes, action_mentions, action_writes, assigns, compares, each_writes_whole, path_writes, paths, reaches, reads_signal_before_writing, reads_signal_unwritten, selects, tests}
use Rattle.design_model.proofs.Along.{AllActions, ActionHas, assign_visits, do_action, do_path, execute_along}
use Rattle.design_model.proofs.Execution.{EachSet}
use Rattle.design_model.proofs.Named.{WritesCell-from, WritesCell-left, WritesCell-places, WritesCell-right, cell_halves, has_cell-from, has_place, length-fit, static_written}

-- each read of signal s in these visits is inner
abbrev pub IsInnerOf : ℕ → Visit → Type 0
IsInnerOf s (reads (a_signal q) b) = q ≡ s → b ≡ true
IsInnerOf s _ = ⊤

abbrev pub AllInnerOf : ℕ → List Visit → Type 0
AllInnerOf s [] = ⊤
AllInnerOf s (x ∷ xs) = IsInnerOf s x × AllInnerOf s xs

inner_append : (s : ℕ) (xs ys : List Visit) → AllInnerOf s xs → AllInnerOf s ys → AllInnerOf s (xs ++ ys)
inner_append s [] ys a b = b
inner_append s (x ∷ xs) ys a b = (a.0, inner_append s xs ys a.1 b)

inner_nodes : (s : ℕ) (n : Option ℕ) (cs : List NodeCase) → AllInnerOf s (node_visits n cs)
inner_nodes s None cs = tt
inner_nodes s (Some n) [] = tt
inner_nodes s (Some n) (c ∷ cs) = (tt, inner_nodes s (Some n) cs)

inner_word : (s : ℕ) (f : Thing → Bool) (m : ℕ) (o : Option ℕ) → AllInnerOf s (word_read f m o)
inner_word s f m None = tt
inner_word s f m (Some i) = (tt, tt)

module _ (d : Design) (v : Values Bit) (f : Thing → Bool) (s : ℕ) where
  -- where the term mentions the signal, it is written whole
  abbrev Written : Bool → Type 0
  Written m = m ≡ true → f (a_signal s) ≡ true

  mutual
    term_inner : (t : Term) → Written (mentions s t) → AllInnerOf s (visits_of d v f t)
    term_inner (number h n) w = inner_nodes s h.node _
    term_inner (signal h q) w = ((λ e. subst (λ y. f (a_signal y) ≡ true) (sym e) (w (eq-eqb q s e))), inner_nodes s h.node _)
    term_inner (word h m i) w = inner_append s _ _ (inner_append s _ _ (term_inner i (λ e. w (or_right (m == s) (mentions s i) e))) (inner_word s f m (word_named d v m i))) (inner_nodes s h.node _)
    term_inner (bit h t i) w = inner_append s _ _ (inner_append s _ _ (term_inner i (λ e. w (or_right (mentions s t) (mentions s i) e))) (term_inner t (λ e. w (or_left (mentions s t) (mentions s i) e)))) (inner_nodes s h.node _)
    term_inner (part h t i j) w =
        inner_append s _ _
        (inner_append s _ _ (inner_append s _ _ (term_inner i (λ e. w (or_right (mentions s t) _ (or_left (mentions s i) _ e)))) (term_inner j (λ e. w (or_right (mentions s t) _ (or_right (mentions s i) _ e))))) (term_inner t (λ e. w (or_left (mentions s t) _ e))))
        (inner_nodes s h.node _)
    term_inner (slide h t b k up) w =
        inner_append s _ _
        (inner_append s _ _ (inner_append s _ _ (term_inner b (λ e. w (or_right (mentions s t) _ (or_left (mentions s b) _ e)))) (term_inner k (λ e. w (or_right (mentions s t) _ (or_right (mentions s b) _ e))))) (term_inner t (λ e. w (or_left (mentions s t) _ e))))
        (inner_nodes s h.node _)
    term_inner (unary h op t) w = inner_append s _ _ (term_inner t w) (inner_nodes s h.node _)
    term_inner (binary h op t y) w = inner_append s _ _ (inner_append s _ _ (term_inner t (λ e. w (or_left (mentions s t) _ e))) (term_inner y (λ e. w (or_right (mentions s t) _ e)))) (inner_nodes s h.node _)
    term_inner (choice h x t y) w =
        inner_append s _ _
        (inner_append s _ _ (inner_append s _ _ (term_inner x (λ e. w (or_left (mentions s x) _ e))) (term_inner t (λ e. w (or_right (mentions s x) _ (or_left (mentions s t) _ e))))) (term_inner y (λ e. w (or_right (mentions s x) _ (or_right (mentions s t) _ e)))))
        (inner_nodes s h.node _)
    term_inner (concat h ts) w = inner_append s _ _ (terms_inner ts w) (inner_nodes s h.node _)
    term_inner (repeat h n ts) w = inner_append s _ _ (inner_append s _ _ (term_inner n (λ e. w (or_left (mentions s n) _ e))) (terms_inner ts (λ e. w (or_right (mentions s n) _ e)))) (inner_nodes s h.node _)
    term_inner (sign h g t) w = inner_append s _ _ (term_inner t w) (inner_nodes s h.node _)

    terms_inner : (ts : Terms) → Written (mentions_any s ts) → AllInnerOf s (visits_of_all d v f ts)
    terms_inner no_terms w = tt
    terms_inner (a_term t ts) w = inner_append s _ _ (term_inner t (λ e. w (or_left (mentions s t) _ e))) (terms_inner ts (λ e. w (or_right (mentions s t) _ e)))

  mutual
    index_inner : (x : Target) → Written (index_mentions s x) → AllInnerOf s (index_visits d v f x)
    index_inner (all_of q) w = tt
    index_inner (bits_of q low k) w = term_inner low w
    index_inner (word_of m i) w = term_inner i w
    index_inner (several ts) w = indexes_inner ts w

    indexes_inner : (ts : Targets) → Written (indexes_mention s ts) → AllInnerOf s (indexes_visits d v f ts)
    indexes_inner no_targets w = tt
    indexes_inner (a_target t ts) w = inner_append s _ _ (index_inner t (λ e. w (or_left (index_mentions s t) _ e))) (indexes_inner ts (λ e. w (or_right (index_mentions s t) _ e)))

  word_inner : (m : ℕ) (o : Option ℕ) → AllInnerOf s (word_written m o)
  word_inner m None = tt
  word_inner m (Some i) = (tt, tt)

  mutual
    words_inner : (x : Target) → AllInnerOf s (words_written d v x)
    words_inner (all_of q) = tt
    words_inner (bits_of q low k) = tt
    words_inner (word_of m i) = word_inner m (word_named d v m i)
    words_inner (several ts) = all_words_inner ts

    all_words_inner : (ts : Targets) → AllInnerOf s (all_words_written d v ts)
    all_words_inner no_targets = tt
    all_words_inner (a_target t ts) = inner_append s _ _ (words_inner t) (all_words_inner ts)

-- the sure writes of a target are among its writes
mutual
  sure_written : (d : Design) (v : Values Bit) (x : Target) (bs : List Bit) (c : Cell) → length bs ≡ target_width d x → has_cell (sure_writes d x) c ≡ true → WritesCell (target_writes d v x bs) c
  sure_written d v (all_of s) bs c e h =
      let p = WritesCell-places s 0 (signal_at d s).width (fill (signal_at d s).width X) c (WritesCell-from _ c h) in
      has_place s 0 (signal_at d s).width bs c e p.0 (omega arith) p.1
  sure_written d v (bits_of s low w) bs c e h = go (is_constant low) refl h
    where
      go : (b : Bool) → is_constant low ≡ b → has_cell (if b then static_writes d (bits_of s low w) else []) c ≡ true → WritesCell (target_writes d v (bits_of s low w) bs) c
      go false f h = absurd (false≢true h)
      go true f h = static_written d v s low w bs c e f h
  sure_written d v (word_of m i) bs c e h = absurd (false≢true h)
  sure_written d v (several ts) bs c e h = all_sure_written d v ts bs c e h

  all_sure_written : (d : Design) (v : Values Bit) (ts : Targets) (bs : List Bit) (c : Cell) → length bs ≡ targets_width d ts → has_cell (all_sure_writes d ts) c ≡ true → WritesCell (targets_writes d v ts bs) c
  all_sure_written d v no_targets bs c e h = absurd (false≢true h)
  all_sure_written d v (a_target t ts) bs c e h =
      ⊎_elim (λ a. WritesCell-left (target_writes d v t (drop (targets_width d ts) bs)) _ c (sure_written d v t (drop (targets_width d ts) bs) c (omega (arith, length-drop (targets_width d ts) bs, e)) a))
      (λ a. WritesCell-right (target_writes d v t (drop (targets_width d ts) bs)) _ c (all_sure_written d v ts (take (targets_width d ts) bs) c (omega (arith, length-take (targets_width d ts) bs, e)) a))
      (cell_halves (sure_writes d t) (all_sure_writes d ts) c h)

-- each cell that the first list writes, the second writes
abbrev Sub : List (Write Bit) → List (Write Bit) → Type 0
Sub us ws = (c : Cell) → has_cell us c ≡ true → has_cell ws c ≡ true

cell_left : (us ws : List (Write Bit)) (c : Cell) → has_cell us c ≡ true → has_cell (us ++ ws) c ≡ true
cell_left us ws c h = has_cell-from (us ++ ws) c (WritesCell-left us ws c (WritesCell-from us c h))

cell_right : (us ws : List (Write Bit)) (c : Cell) → has_cell ws c ≡ true → has_cell (us ++ ws) c ≡ true
cell_right us ws c h = has_cell-from (us ++ ws) c (WritesCell-right us ws c (WritesCell-from ws c h))

covers_more : (us ws : List (Write Bit)) → Sub us ws → (cs : List Cell) → covers us cs ≡ true → covers ws cs ≡ true
covers_more us ws sub [] h = refl
covers_more us ws sub (c ∷ cs) h = let p = and_parts (has_cell us c) _ h in and_from (has_cell ws c) _ (sub c p.0) (covers_more us ws sub cs p.1)

module _ (d : Design) where
  set_written : (x : Target) (t : Term) (r : Execution) (c : Cell) → has_cell (sure_writes d x) c ≡ true → has_cell (assignment_writes d x t r) c ≡ true
  set_written x t r c h = has_cell-from _ c (sure_written d r.values x (extend (target_width d x) (head t).signed (value d r.values t)) c (length-fit (target_width d x) _ (value d r.values t)) h)

  -- what a action blocks is written after it
  action_written : (written : List (Write Bit)) (x : Action) (r : Execution) → Sub written r.blocking → Sub (written ++ action_blocking_writes d x) (do_action d x r).blocking
  action_written written (reaches n) r sub c h = ⊎_elim (sub c) (λ e. absurd (false≢true e)) (cell_halves written [] c h)
  action_written written (tests t b) r sub c h = ⊎_elim (sub c) (λ e. absurd (false≢true e)) (cell_halves written [] c h)
  action_written written (selects t) r sub c h = ⊎_elim (sub c) (λ e. absurd (false≢true e)) (cell_halves written [] c h)
  action_written written (compares kind on t b) r sub c h = ⊎_elim (sub c) (λ e. absurd (false≢true e)) (cell_halves written [] c h)
  action_written written (assigns true x t) r sub c h = ⊎_elim (λ e. cell_left r.blocking (assignment_writes d x t r) c (sub c e)) (λ e. cell_right r.blocking (assignment_writes d x t r) c (set_written x t r c e)) (cell_halves written (sure_writes d x) c h)
  action_written written (assigns false x t) r sub c h = ⊎_elim (sub c) (λ e. absurd (false≢true e)) (cell_halves written [] c h)

  -- the visits of a action that mentions signal s only where it is written whole
  action_inner : (s : ℕ) (x : Action) (r : Execution) → (action_mentions s x ≡ true → is_inner d r (a_signal s) ≡ true) → AllInnerOf s r.visits → AllInnerOf s (do_action d x r).visits
  action_inner s (reaches n) r w a = inner_append s r.visits (at_line n ∷ []) a (tt, tt)
  action_inner s (tests t b) r w a = inner_append s r.visits _ a (term_inner d r.values (is_inner d r) s t w)
  action_inner s (selects t) r w a = inner_append s r.visits _ a (term_inner d r.values (is_inner d r) s t w)
  action_inner s (compares kind on t b) r w a = inner_append s r.visits _ a (term_inner d r.values (is_inner d r) s t w)
  action_inner s (assigns b x t) r w a = go b
    where
      visits : AllInnerOf s (r.visits ++ assign_visits d x t r)
      visits =
          inner_append s r.visits _ a
          (inner_append s _ _ (inner_append s _ _ (index_inner d r.values (is_inner d r) s x (λ e. w (or_left (index_mentions s x) _ e))) (term_inner d r.values (is_inner d r) s t (λ e. w (or_right (index_mentions s x) _ e)))) (words_inner d r.values (is_inner d r) s x))

      go : (b : Bool) → AllInnerOf s (do_action d (assigns b x t) r).visits
      go true = visits
      go false = visits

  -- along a path that reads the signal only after it has written it whole each read is inner
  path_inner : (s : ℕ) (path : Path) (written : List (Write Bit)) (r : Execution) → Sub written r.blocking → reads_signal_unwritten d s written path ≡ false → AllInnerOf s r.visits → AllInnerOf s (do_path d path r).visits
  path_inner s [] written r sub e a = a
  path_inner s (x ∷ xs) written r sub e a =
      let p = or_parts (action_mentions s x.action && not (covers written (signal_cells d s))) _ e in
      path_inner s xs (written ++ action_blocking_writes d x.action) (do_action d x.action r) (action_written written x.action r sub) p.1
      (action_inner s x.action r (λ m. covers_more written r.blocking sub (signal_cells d s) (not-false _ (both (action_mentions s x.action) (not (covers written (signal_cells d s))) m p.0))) a)
    where
      both : (b c : Bool) → b ≡ true → (b && c) ≡ false → c ≡ false
      both true c e h = h
      both false c e h = absurd (false≢true e)

  abbrev Blocks : Bool → Target → Term → Type 0
  Blocks b x t = b ≡ true

  grows : (path : Path) (r : Execution) → Sub r.blocking (do_path d path r).blocking
  grows [] r c h = h
  grows (x ∷ xs) r c h = grows xs (do_action d x.action r) c (one x.action)
    where
      one : (x : Action) → has_cell (do_action d x r).blocking c ≡ true
      one (reaches n) = h
      one (tests t b) = h
      one (selects t) = h
      one (compares kind on t b) = h
      one (assigns true x t) = cell_left r.blocking (assignment_writes d x t r) c h
      one (assigns false x t) = h

  -- what a path of blocking assignments surely writes is written
  path_written : (path : Path) (r : Execution) → AllActions Blocks path → Sub (path_writes d path) (do_path d path r).blocking
  path_written [] r all c h = absurd (false≢true h)
  path_written (x ∷ xs) r all c h = ⊎_elim (λ e. grows xs (do_action d x.action r) c (one x.action all.0 e)) (λ e. path_written xs (do_action d x.action r) all.1 c e) (cell_halves (action_writes d x.action) (path_writes d xs) c h)
    where
      one : (x : Action) → ActionHas Blocks x → has_cell (action_writes d x) c ≡ true → has_cell (do_action d x r).blocking c ≡ true
      one (reaches n) a e = absurd (false≢true e)
      one (tests t b) a e = absurd (false≢true e)
      one (selects t) a e = absurd (false≢true e)
      one (compares kind on t b) a e = absurd (false≢true e)
      one (assigns true x t) a e = cell_right r.blocking (assignment_writes d x t r) c (set_written x t r c e)
      one (assigns false x t) a e = absurd (false≢true a)

  all_of_list : {A : Type 0} (f : A → Bool) (x : A) (xs : List A) → list_all f xs ≡ true → In x xs → f x ≡ true
  all_of_list f x [] h k = absurd k
  all_of_list f x (y ∷ ys) h (inl e) = subst (λ z. f z ≡ true) e (and_parts (f y) _ h).0
  all_of_list f x (y ∷ ys) h (inr k) = all_of_list f x ys (and_parts (f y) _ h).1 k

  none_of_list : {A : Type 0} (f : A → Bool) (x : A) (xs : List A) → list_any f xs ≡ false → In x xs → f x ≡ false
  none_of_list f x [] h k = absurd k
  none_of_list f x (y ∷ ys) h (inl e) = subst (λ z. f z ≡ false) e (or_parts (f y) _ h).0
  none_of_list f x (y ∷ ys) h (inr k) = none_of_list f x ys (or_parts (f y) _ h).1 k

  -- so for whole bodies of blocking assignments
  pub body_inner : (b : Stmt) (s : ℕ) (v : Values Bit) → EachSet (λ n k x t. k ≡ true) b → reads_signal_before_writing d b s ≡ false → AllInnerOf s (execution d b v).visits
  body_inner b s v blocks e =
      let a = execute_along d Blocks [] b blocks (execution_start v) in
      subst (λ y. AllInnerOf s y.visits) (sym a.is) (path_inner s a.path [] (execution_start v) (λ c h. h) (none_of_list (reads_signal_unwritten d s []) a.path (paths [] b) e a.is_path) tt)

  pub body_writes : (b : Stmt) (s : ℕ) (v : Values Bit) → EachSet (λ n k x t. k ≡ true) b → each_writes_whole d b s ≡ true → covers (execution d b v).blocking (signal_cells d s) ≡ true
  body_writes b s v blocks e =
      let a = execute_along d Blocks [] b blocks (execution_start v) in
      subst (λ y. covers y.blocking (signal_cells d s) ≡ true) (sym a.is) (covers_more (path_writes d a.path) (do_path d a.path (execution_start v)).blocking (path_written a.path (execution_start v) a.actions) (signal_cells d s) (all_of_list (λ p. covers (path_writes d p) (signal_cells d s)) a.path (paths [] b) e a.is_path))
