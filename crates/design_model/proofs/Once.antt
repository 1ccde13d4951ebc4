-- Where each path of a body names a thing in at most one target, an evaluation writes each cell of it at most once.
use Rattle.std.proofs.Common.{◌≡◌, ◌⊎◌, inl, inr, ℕ, zero, suc, ◌+◌, ◌*◌, ◌<◌, ◌≤◌, Bool, true, false, ◌==◌, List, [], ◌∷◌, ◌++◌, map, take, drop, refl, sym, ap, subst, ◌∙◌, arith, eq-eqb, ℤ, pos, negsuc, ◌+ℤ◌, Option, Some, None, if◌then◌else◌}
use Rattle.std.specs.Prelude.{⊤, nat_le, nat_lt}
use Rattle.std.specs.List.{list_all, range_with_len}
use Rattle.std.proofs.lemmas.Bool.{and_parts, leb-true, false≢true}
use Rattle.event_machine.specs.Cell.{Cell, Values, join, times}
use Rattle.event_machine.specs.Machine.{output}
use Rattle.event_machine.proofs.Times.{times-append, times_here, times_there, unwritten_never}  -- #keep
use Rattle.event_machine.proofs.Writes.{cases_cell, join-append}  -- #keep
use Rattle.four_state.specs.Vector.{extend}
use Rattle.four_state.specs.declared.bit.Bit.{Bit}
use Rattle.design_model.specs.Tree.{Target, Targets, a_target, all_of, bits_of, no_targets, several, word_of}
use Rattle.design_model.specs.Design.{Design, In, body_at, cell, memory_at, signal_at}
use Rattle.design_model.specs.Value.{head, value, word_named}
use Rattle.design_model.specs.Assignment.{bit_writes, bit_writes_option, option_cell, target_width, target_writes, targets_width, targets_writes, word_writes, writes_to}
use Rattle.design_model.specs.Execution.{Execution, assignment_writes, execution, execution_start}
use Rattle.design_model.specs.Paths.{Action, Path, assigns, compares, paths, reaches, selects, tests}
use Rattle.design_model.specs.Once.{action_targets_on, all_parts_on, names_once, parts_on, path_targets_on}
use Rattle.design_model.specs.Machine.{machine}
use Rattle.design_model.proofs.Along.{Along, do_action, do_path, execute_along}
use Rattle.design_model.proofs.Execution.{each_all}
use Rattle.design_model.proofs.Named.{WritesCell-places, option_bits_range, option_word_range}

-- the cells of a row of places, each written once
module _ (f : ℕ → Cell) (apart : (i j : ℕ) → f i ≡ f j → i ≡ j) where
  none_before : (m n k : ℕ) (bs : List Bit) → m < n → times (f m) (writes_to (map f (range_with_len n k)) bs) ≡ 0
  none_before m n zero bs below = refl
  none_before m n (suc k) [] below = refl
  none_before m n (suc k) (b ∷ bs) below =
      times_there (f m) (record { cell = f n; value = b }) _ (λ e. omega (arith, below, apart n m e)) ∙ none_before m (n + 1) k bs (omega (arith, below))

  row_once : (c : Cell) (n k : ℕ) (bs : List Bit) → times c (writes_to (map f (range_with_len n k)) bs) ≤ 1
  row_once c n zero bs = omega arith
  row_once c n (suc k) [] = omega arith
  row_once c n (suc k) (b ∷ bs) = go (cases_cell (f n) c) (row_once c (n + 1) k bs)
    where
      go : (f n ≡ c) ⊎ (f n ≡ c → ⊥) → times c (writes_to (map f (range_with_len (n + 1) k)) bs) ≤ 1 → times c (record { cell = f n; value = b } ∷ writes_to (map f (range_with_len (n + 1) k)) bs) ≤ 1
      go (inl is) once =
          let first = times_here c (record { cell = f n; value = b }) (writes_to (map f (range_with_len (n + 1) k)) bs) is in
          let later = subst (λ x. times x (writes_to (map f (range_with_len (n + 1) k)) bs) ≡ 0) is (none_before n (n + 1) k bs (omega arith)) in
          omega (arith, first, later)
      go (inr other) once =
          let first = times_there c (record { cell = f n; value = b }) (writes_to (map f (range_with_len (n + 1) k)) bs) other in
          omega (arith, first, once)

-- the bits of a part, each written once
part_none : (s n k : ℕ) (bs : List Bit) (c : Cell) → c.place < k → times c (bit_writes s n (pos k) bs) ≡ 0
part_none s n k [] c below = refl
part_none s n k (b ∷ bs) c below = go (nat_lt k n) (part_none s n (k + 1) bs c (omega (arith, below)))
  where
    go : (t : Bool) → times c (bit_writes s n (pos (k + 1)) bs) ≡ 0 → times c (writes_to (option_cell s (if t then Some k else None)) (b ∷ []) ++ bit_writes s n (pos (k + 1)) bs) ≡ 0
    go false none = none
    go true none = times_there c (record { cell = cell s k; value = b }) _ (λ e. omega (arith, below, ap (λ x. x.place) e)) ∙ none

part_once : (s n : ℕ) (from : ℤ) (bs : List Bit) (c : Cell) → times c (bit_writes s n from bs) ≤ 1
part_once s n from [] c = omega arith
part_once s n (negsuc k) (b ∷ bs) c = part_once s n (negsuc k +ℤ pos 1) bs c
part_once s n (pos k) (b ∷ bs) c = go (nat_lt k n) (part_once s n (pos (k + 1)) bs c)
  where
    go : (t : Bool) → times c (bit_writes s n (pos (k + 1)) bs) ≤ 1 → times c (writes_to (option_cell s (if t then Some k else None)) (b ∷ []) ++ bit_writes s n (pos (k + 1)) bs) ≤ 1
    go false once = once
    go true once = by (cases_cell (cell s k) c)
      where
        by : (cell s k ≡ c) ⊎ (cell s k ≡ c → ⊥) → times c (record { cell = cell s k; value = b } ∷ bit_writes s n (pos (k + 1)) bs) ≤ 1
        by (inl is) =
            let first = times_here c (record { cell = cell s k; value = b }) (bit_writes s n (pos (k + 1)) bs) is in
            let later = part_none s n (k + 1) bs c (omega (arith, ap (λ x. x.place) is)) in
            omega (arith, first, later)
        by (inr other) =
            let first = times_there c (record { cell = cell s k; value = b }) (bit_writes s n (pos (k + 1)) bs) other in
            omega (arith, first, once)

part_option_once : (s n : ℕ) (from : Option ℤ) (bs : List Bit) (c : Cell) → times c (bit_writes_option s n from bs) ≤ 1
part_option_once s n None bs c = omega arith
part_option_once s n (Some from) bs c = part_once s n from bs c

word_once : (d : Design) (m : ℕ) (o : Option ℕ) (bs : List Bit) (c : Cell) → times c (word_writes d m o bs) ≤ 1
word_once d m None bs c = omega arith
word_once d m (Some i) bs c =
    row_once (λ k. cell m (i * (memory_at d m).width + k)) (λ a b e. omega (arith, ap (λ x. x.place) e)) c 0 (memory_at d m).width bs

-- at most one write where the thing is named, and none elsewhere
named_once : (s x n : ℕ) → n ≤ 1 → ((s ≡ x → ⊥) → n ≡ 0) → n ≤ (if s == x then 1 else 0)
named_once s x n once none = go (s == x) refl
  where
    go : (t : Bool) → (s == x) ≡ t → n ≤ (if t then 1 else 0)
    go true e = once
    go false e = let z = none (λ same. false≢true (sym e ∙ eq-eqb s x same)) in omega (arith, z)

mutual
  target_once : (d : Design) (v : Values Bit) (x : Target) (bs : List Bit) (c : Cell) → times c (target_writes d v x bs) ≤ parts_on c.thing x
  target_once d v (all_of s) bs c =
      named_once s c.thing _ (row_once (cell s) (λ a b e. ap (λ x. x.place) e) c 0 (signal_at d s).width bs) (λ other. unwritten_never c _ (λ h. other (sym (WritesCell-places s 0 (signal_at d s).width bs c h).0)))
  target_once d v (bits_of s low w) bs c =
      named_once s c.thing _ (part_option_once s (signal_at d s).width _ bs c) (λ other. unwritten_never c _ (λ h. other (sym (option_bits_range s (signal_at d s).width _ bs c h).0)))
  target_once d v (word_of m i) bs c =
      named_once m c.thing _ (word_once d m (word_named d v m i) bs c) (λ other. unwritten_never c _ (λ h. other (sym (option_word_range d m (word_named d v m i) bs c h))))
  target_once d v (several ts) bs c = targets_once d v ts bs c

  targets_once : (d : Design) (v : Values Bit) (ts : Targets) (bs : List Bit) (c : Cell) → times c (targets_writes d v ts bs) ≤ all_parts_on c.thing ts
  targets_once d v no_targets bs c = omega arith
  targets_once d v (a_target t ts) bs c =
      let sum = times-append c (target_writes d v t (drop (targets_width d ts) bs)) (targets_writes d v ts (take (targets_width d ts) bs)) in
      omega (arith, sum, target_once d v t (drop (targets_width d ts) bs) c, targets_once d v ts (take (targets_width d ts) bs) c)

-- along a path a cell is written as often as targets name its thing, at most
module _ (d : Design) (c : Cell) where
  abbrev written : Execution → ℕ
  written r = times c r.blocking + times c (join r.nonblocking)

  action_once : (x : Action) (r : Execution) → written (do_action d x r) ≤ written r + action_targets_on c.thing x
  action_once (reaches n) r = omega arith
  action_once (tests t k) r = omega arith
  action_once (selects t) r = omega arith
  action_once (compares kind on t k) r = omega arith
  action_once (assigns true x t) r =
      let sum = times-append c r.blocking (assignment_writes d x t r) in
      omega (arith, sum, target_once d r.values x (extend (target_width d x) (head t).signed (value d r.values t)) c)
  action_once (assigns false x t) r =
      let joined : times c (join (r.nonblocking ++ assignment_writes d x t r ∷ [])) ≡ times c (join r.nonblocking) + times c (join (assignment_writes d x t r ∷ [])) = ap (times c) (join-append r.nonblocking (assignment_writes d x t r ∷ [])) ∙ times-append c (join r.nonblocking) (join (assignment_writes d x t r ∷ [])) in
      let last = times-append c (assignment_writes d x t r) [] in
      omega (arith, joined, last, target_once d r.values x (extend (target_width d x) (head t).signed (value d r.values t)) c)

  path_once : (path : Path) (r : Execution) → written (do_path d path r) ≤ written r + path_targets_on c.thing path
  path_once [] r = omega arith
  path_once (x ∷ xs) r = omega (arith, action_once x.action r, path_once xs (do_action d x.action r))

-- a test of each element holds of one
all_in : {A : Type 0} (f : A → Bool) (x : A) (xs : List A) → list_all f xs ≡ true → In x xs → f x ≡ true
all_in f x [] e h = absurd h
all_in f x (y ∷ ys) e (inl is) = subst (λ z. f z ≡ true) is (and_parts (f y) _ e).0
all_in f x (y ∷ ys) e (inr h) = all_in f x ys (and_parts (f y) _ e).1 h

-- where on each path at most one target names the thing, an evaluation writes the cell at most once
pub written_once : (d : Design) (p : ℕ) (v : Values Bit) (c : Cell) → names_once (body_at d p) c.thing ≡ true → times c (output (machine d) p v) ≤ 1
written_once d p v c once =
    let sum = times-append c (execution d (body_at d p) v).blocking (join (execution d (body_at d p) v).nonblocking) in
    omega (arith, sum, bound, most)
  where
    along : Along d (λ b x t. ⊤) (paths [] (body_at d p)) (execution_start v) (execution d (body_at d p) v)
    along = execute_along d (λ b x t. ⊤) [] (body_at d p) (each_all (λ n b x t. tt) (body_at d p)) (execution_start v)

    bound : written d c (execution d (body_at d p) v) ≤ path_targets_on c.thing along.path
    bound = subst (λ r. written d c r ≤ path_targets_on c.thing along.path) (sym along.is) (omega (arith, path_once d c along.path (execution_start v)))

    most : path_targets_on c.thing along.path ≤ 1
    most = leb-true _ _ (all_in (λ (q : Path). nat_le (path_targets_on c.thing q) 1) along.path (paths [] (body_at d p)) once along.is_path)
