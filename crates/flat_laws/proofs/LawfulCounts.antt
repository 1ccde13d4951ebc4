-- What the limits count is as many as the design has.
use Rattle.std.proofs.Common.{◌≡◌, ℕ, ◌+◌, Bool, true, false, not, ◌&&◌, cond, List, [], ◌∷◌, ◌++◌, refl, ap, ◌∙◌, length, map, if◌then◌else◌, arith, length-append, append-nil}
use Rattle.std.proofs.lemmas.Bool.{false≢true, and_parts}
use Rattle.std.proofs.lemmas.List.Sums.{sum_by-cons, sum_by-append}
use Rattle.std.proofs.lemmas.List.Folds.{list_all-append}
use Rattle.std.specs.List.{list_all, sum_by, filter, flat_map}
use Rattle.cov_host.specs.declared.place.Place.{Place}
use Rattle.four_state.specs.Vector.{Vector}
use Rattle.design_model.specs.Lawful.{size, sizes, arm_sizes, size_of, span}
use Rattle.design_model.specs.Tree.{Stmt, Process}
use Rattle.design_model.specs.declared.design.Memory.{Memory}
use Rattle.tree_sizes.specs.Sizes.{labels_size, module_size, size as text_size}
use Rattle.verilog_tree.specs.declared.item.When.{When}
use Rattle.verilog_tree.specs.declared.item.When.TheVariants.{Star, Names, Edges}
use Rattle.verilog_tree.specs.Tree.{Expr, Module, Statement, sequential_block, if_statement, case_statement, for_loop, assignment, system_task, null_statement, Statements, no_statements, a_statement, CaseItems, no_items, case_item}
use Rattle.elab_const.specs.declared.width.Shape.{Shape}
use Rattle.flat_design.specs.Bodies.{Met, met_fault, met_signal, met_words, met_process, met_instance, met_statement, met_text, met_writing, met_faults, met_writings, met_turns, in_turn, met, all_met, items_met, statement, statements, arms, turn_stmts, case_shape}
use Rattle.flat_design.specs.Declarations.{Declaration, Sort, a_net, a_variable, words_from, an_integer, a_parameter, some_instance, faulty, faulty_memory}
use Rattle.flat_design.specs.Expressions.{faults, all_faults}
use Rattle.flat_design.specs.Fault.{Fault, none}
use Rattle.flat_design.specs.Instances.{Instantiation, Sofar, meet, add_process, opening_met, declared, declared_met, named_met, is_own, is_memory, is_memory_sort, is_signal, is_signal_sort, memory_of, words_of, path_faults, declaration_faults, dotted}
use Rattle.flat_design.specs.Loops as loops
use Rattle.flat_design.specs.Numbering.{nodes, all_nodes, condition_nodes, statement_nodes, lines}
use Rattle.verilog_tree.specs.declared.item.Named.{Named}
use Rattle.flat_design.specs.Processes.{Made, self_faults, whole_writing, process_of, when_faults, mixed_faults, incomplete_faults, writings, mode_of, continuous, always, joined_input, joined_output}
use Rattle.flat_design.specs.Scope.{Scope, names_faulty}
use Rattle.flat_design.specs.declared.entry.SignalEntry.{SignalEntry}
use Rattle.flat_design.specs.Targets.{target_faults, leaves, writing_of}
use Rattle.flat_design.specs.declared.entry.Mode.{Mode}
use Rattle.flat_design.specs.declared.entry.Mode.TheVariants.{Continuous}
use Rattle.flat_laws.proofs.Freedom.{signal_count, process_count, word_count, instance_count, statement_count}
use Rattle.flat_laws.proofs.Members.{both_true}

-- a fault, text, or what is written
abbrev pub is_told : Met → Bool
is_told (met_fault f) = true
is_told (met_text p n) = true
is_told (met_writing w) = true
is_told _ = false

-- the same, or a statement
abbrev pub is_inner : Met → Bool
is_inner (met_fault f) = true
is_inner (met_text p n) = true
is_inner (met_writing w) = true
is_inner (met_statement p) = true
is_inner _ = false

pub all_append : {A : Type 0} (p : A → Bool) (xs ys : List A) → list_all p xs ≡ true → list_all p ys ≡ true → list_all p (xs ++ ys) ≡ true
all_append p xs ys h k = list_all-append p xs ys ∙ both_true _ _ h k

told_faults : (fs : List Fault) → list_all is_told (met_faults fs) ≡ true
told_faults [] = refl
told_faults (f ∷ fs) = told_faults fs

told_leaves : (g : Scope) (blocking continuous : Bool) (k : ℕ) (es : List Expr) → list_all is_told (map (λ x. met_writing (writing_of g blocking continuous k x)) es) ≡ true
told_leaves g blocking continuous k [] = refl
told_leaves g blocking continuous k (e ∷ es) = told_leaves g blocking continuous k es

told_writings : (g : Scope) (mode : Mode) (blocking continuous : Bool) (k : ℕ) (e : Expr) → list_all is_told (met_writings g mode blocking continuous k e) ≡ true
told_writings g mode blocking continuous k e = by_test (none (target_faults g mode e) && not (names_faulty g e))
  where
    by_test : (b : Bool) → list_all is_told (if b then map (λ x. met_writing (writing_of g blocking continuous k x)) (leaves e) else []) ≡ true
    by_test true = told_leaves g blocking continuous k (leaves e)
    by_test false = refl

inner_told : (ms : List Met) → list_all is_told ms ≡ true → list_all is_inner ms ≡ true
inner_told [] h = refl
inner_told (met_fault f ∷ ms) h = inner_told ms h
inner_told (met_text p n ∷ ms) h = inner_told ms h
inner_told (met_writing f ∷ ms) h = inner_told ms h
inner_told (met_signal f ∷ ms) h = absurd (false≢true h)
inner_told (met_words f n ∷ ms) h = absurd (false≢true h)
inner_told (met_process f ∷ ms) h = absurd (false≢true h)
inner_told (met_instance f ∷ ms) h = absurd (false≢true h)
inner_told (met_statement f ∷ ms) h = absurd (false≢true h)

pub inner_faults : (fs : List Fault) → list_all is_inner (met_faults fs) ≡ true
inner_faults fs = inner_told (met_faults fs) (told_faults fs)

pub inner_writings : (g : Scope) (mode : Mode) (blocking continuous : Bool) (k : ℕ) (e : Expr) → list_all is_inner (met_writings g mode blocking continuous k e) ≡ true
inner_writings g mode blocking continuous k e = inner_told (met_writings g mode blocking continuous k e) (told_writings g mode blocking continuous k e)

inner_turns : (vs : List Vector) (f : Vector → List Met) → ((v : Vector) → list_all is_inner (f v) ≡ true) → list_all is_inner (met_turns vs f) ≡ true
inner_turns [] f h = refl
inner_turns (v ∷ vs) f h = all_append is_inner (f v) (met_turns vs f) (h v) (inner_turns vs f h)

mutual
  pub inner_met : (g : Scope) (mode : Mode) (k : ℕ) (s : Statement) → list_all is_inner (met g mode k s) ≡ true
  inner_met g mode k (sequential_block p ss) = inner_all g mode k ss
  inner_met g mode k (if_statement p c s other) =
      all_append is_inner (met_faults (faults g c) ++ met g mode k s) _ (all_append is_inner (met_faults (faults g c)) _ (inner_faults (faults g c)) (inner_met g mode k s)) (inner_all g mode k other)
  inner_met g mode k (case_statement p kind e is) = all_append is_inner (met_faults (faults g e)) _ (inner_faults (faults g e)) (inner_items g mode k is)
  inner_met g mode k (for_loop p h s) =
      let turns : List Met = met_turns (loops.turns g h) (λ v. met (in_turn h v g) mode k s) in
      all_append is_inner (met_faults (loops.turn_faults g h)) (met_text h.place (loops.turns_size g h) ∷ turns) (inner_faults (loops.turn_faults g h)) (inner_turns (loops.turns g h) _ (λ v. inner_met (in_turn h v g) mode k s))
  inner_met g mode k (assignment p x blocking v) =
      all_append is_inner (met_faults (target_faults g mode x ++ faults g v)) _ (inner_faults (target_faults g mode x ++ faults g v)) (inner_writings g mode blocking false k x)
  inner_met g mode k (system_task p) = refl
  inner_met g mode k (null_statement p) = refl

  pub inner_all : (g : Scope) (mode : Mode) (k : ℕ) (ss : Statements) → list_all is_inner (all_met g mode k ss) ≡ true
  inner_all g mode k no_statements = refl
  inner_all g mode k (a_statement s ss) = all_append is_inner (met g mode k s) _ (inner_met g mode k s) (inner_all g mode k ss)

  pub inner_items : (g : Scope) (mode : Mode) (k : ℕ) (is : CaseItems) → list_all is_inner (items_met g mode k is) ≡ true
  inner_items g mode k no_items = refl
  inner_items g mode k (case_item labels s is) =
      all_append is_inner (met_faults (all_faults g labels) ++ met g mode k s) _ (all_append is_inner (met_faults (all_faults g labels)) _ (inner_faults (all_faults g labels)) (inner_met g mode k s)) (inner_items g mode k is)

-- what counts nothing of these adds nothing
pub sum_nothing : (f : Met → ℕ) (p : Met → Bool) → ((m : Met) → p m ≡ true → f m ≡ 0) → (ms : List Met) → list_all p ms ≡ true → sum_by f ms ≡ 0
sum_nothing f p h [] all = refl
sum_nothing f p h (m ∷ ms) all =
    let q = and_parts (p m) (list_all p ms) all in
    let first : f m ≡ 0 = h m q.0 in
    let others : sum_by f ms ≡ 0 = sum_nothing f p h ms q.1 in
    omega (arith, sum_by-cons f m ms)

pub no_signal : (m : Met) → is_inner m ≡ true → signal_count m ≡ 0
no_signal (met_signal p) h = absurd (false≢true h)
no_signal _ h = refl

pub no_process : (m : Met) → is_inner m ≡ true → process_count m ≡ 0
no_process (met_process p) h = absurd (false≢true h)
no_process _ h = refl

pub no_words : (m : Met) → is_inner m ≡ true → word_count m ≡ 0
no_words (met_words p n) h = absurd (false≢true h)
no_words _ h = refl

pub no_instance : (m : Met) → is_inner m ≡ true → instance_count m ≡ 0
no_instance (met_instance p) h = absurd (false≢true h)
no_instance _ h = refl

pub no_statement : (m : Met) → is_told m ≡ true → statement_count m ≡ 0
no_statement (met_statement p) h = absurd (false≢true h)
no_statement _ h = refl

no_statements_told : (ms : List Met) → list_all is_told ms ≡ true → sum_by statement_count ms ≡ 0
no_statements_told ms h = sum_nothing statement_count is_told no_statement ms h

count_turns : (vs : List Vector) (f : Vector → List Met) (h : Vector → Stmt) → ((v : Vector) → sum_by statement_count (f v) ≡ size (h v)) → sum_by statement_count (met_turns vs f) ≡ sizes (turn_stmts vs h)
count_turns [] f h same = refl
count_turns (v ∷ vs) f h same = omega (arith, sum_by-append statement_count (f v) (met_turns vs f), same v, count_turns vs f h same)

-- after faults
after_faults : (fs : List Fault) (ms : List Met) → sum_by statement_count (met_faults fs ++ ms) ≡ sum_by statement_count ms
after_faults fs ms = omega (arith, sum_by-append statement_count (met_faults fs) ms, no_statements_told (met_faults fs) (told_faults fs))

-- after a statement and its text
after_text : (p : Place) (n : ℕ) (ms : List Met) → sum_by statement_count (met_statement p ∷ met_text p n ∷ ms) ≡ 1 + sum_by statement_count ms
after_text p n ms = omega (arith, sum_by-cons statement_count (met_statement p) (met_text p n ∷ ms), sum_by-cons statement_count (met_text p n) ms)

mutual
  pub count_statements : (base : ℕ) (g : Scope) (mode : Mode) (k : ℕ) (s : Statement) (l n : ℕ) → sum_by statement_count (met g mode k s) ≡ size (statement base g s l n)
  count_statements base g mode k (sequential_block p ss) l n = omega (arith, sum_by-cons statement_count (met_statement p) (all_met g mode k ss), count_all base g mode k ss l n)
  count_statements base g mode k (if_statement p c s other) l n =
      omega (arith, after_text p (text_size c) (met_faults (faults g c) ++ met g mode k s ++ all_met g mode k other), after_faults (faults g c) (met g mode k s), sum_by-append statement_count (met_faults (faults g c) ++ met g mode k s) (all_met g mode k other), count_statements base g mode k s (l + 1) (n + condition_nodes g c), count_all base g mode k other (l + 1 + lines s) (n + condition_nodes g c + statement_nodes g s))
  count_statements base g mode k (case_statement p kind e is) l n =
      omega (arith, after_text p (text_size e + labels_size is) (met_faults (faults g e) ++ items_met g mode k is), after_faults (faults g e) (items_met g mode k is), count_items base g mode k (case_shape g e is) is (l + 1) (n + nodes g e))
  count_statements base g mode k (for_loop p h s) l n =
      let turns : List Met = met_turns (loops.turns g h) (λ v. met (in_turn h v g) mode k s) in
      let text : Met = met_text h.place (loops.turns_size g h) in
      omega (arith, sum_by-cons statement_count (met_statement p) (met_faults (loops.turn_faults g h) ++ text ∷ turns), after_faults (loops.turn_faults g h) (text ∷ turns), sum_by-cons statement_count text turns, count_turns (loops.turns g h) (λ v. met (in_turn h v g) mode k s) (λ v. statement base (in_turn h v g) s (l + 1) n) (λ v. count_statements base (in_turn h v g) mode k s (l + 1) n))
  count_statements base g mode k (assignment p x blocking v) l n =
      omega (arith, after_text p (text_size x + text_size v) (met_faults (target_faults g mode x ++ faults g v) ++ met_writings g mode blocking false k x), after_faults (target_faults g mode x ++ faults g v) (met_writings g mode blocking false k x), no_statements_told (met_writings g mode blocking false k x) (told_writings g mode blocking false k x))
  count_statements base g mode k (system_task p) l n = refl
  count_statements base g mode k (null_statement p) l n = refl

  pub count_all : (base : ℕ) (g : Scope) (mode : Mode) (k : ℕ) (ss : Statements) (l n : ℕ) → sum_by statement_count (all_met g mode k ss) ≡ sizes (statements base g ss l n)
  count_all base g mode k no_statements l n = refl
  count_all base g mode k (a_statement s ss) l n =
      omega (arith, sum_by-append statement_count (met g mode k s) (all_met g mode k ss), count_statements base g mode k s l n, count_all base g mode k ss (l + lines s) (n + statement_nodes g s))

  pub count_items : (base : ℕ) (g : Scope) (mode : Mode) (k : ℕ) (w : Shape) (is : CaseItems) (l n : ℕ) → sum_by statement_count (items_met g mode k is) ≡ arm_sizes (arms base g w is l n)
  count_items base g mode k w no_items l n = refl
  count_items base g mode k w (case_item labels s is) l n =
      omega (arith, after_faults (all_faults g labels) (met g mode k s), sum_by-append statement_count (met_faults (all_faults g labels) ++ met g mode k s) (items_met g mode k is), count_statements base g mode k s l (n + all_nodes g labels), count_items base g mode k w is (l + lines s) (n + all_nodes g labels + statement_nodes g s))

-- what a process adds: itself and its statements
pub record AddsProcess (m : Made) : Type 0 where
  pub signals : sum_by signal_count m.met ≡ 0
  pub processes : sum_by process_count m.met ≡ 1
  pub words : sum_by word_count m.met ≡ 0
  pub instances : sum_by instance_count m.met ≡ 0
  pub statements : sum_by statement_count m.met ≡ size_of m.process

-- what is met at a process and nothing else of these
process_first : (p : Place) (ms : List Met) (x : Process) → list_all is_told ms ≡ true → size_of x ≡ 0 → AddsProcess (record { process = x; met = met_process p ∷ ms })
process_first p ms x h none_of = record {
  signals = omega (arith, sum_by-cons signal_count (met_process p) ms, sum_nothing signal_count is_inner no_signal ms (inner_told ms h));
  processes = omega (arith, sum_by-cons process_count (met_process p) ms, sum_nothing process_count is_inner no_process ms (inner_told ms h));
  words = omega (arith, sum_by-cons word_count (met_process p) ms, sum_nothing word_count is_inner no_words ms (inner_told ms h));
  instances = omega (arith, sum_by-cons instance_count (met_process p) ms, sum_nothing instance_count is_inner no_instance ms (inner_told ms h));
  statements = omega (arith, sum_by-cons statement_count (met_process p) ms, no_statements_told ms h, none_of);
}

pub continuous_adds : (base : ℕ) (g : Scope) (i k : ℕ) (p : Place) (x v : Expr) (n : ℕ) → AddsProcess (continuous base g i k p x v n)
continuous_adds base g i k p x v n =
    process_first p _ (continuous base g i k p x v n).process
    (all_append is_told (met_faults (target_faults g Continuous x ++ faults g v) ++ met_writings g Continuous true true k x) (met_faults (self_faults g x v)) (all_append is_told (met_faults (target_faults g Continuous x ++ faults g v)) (met_writings g Continuous true true k x) (told_faults (target_faults g Continuous x ++ faults g v)) (told_writings g Continuous true true k x)) (told_faults (self_faults g x v)))
    refl

pub input_adds : (base : ℕ) (g : Scope) (i k : ℕ) (p : Place) (label : Named) (s : SignalEntry) (e : Expr) → AddsProcess (joined_input base g i k p label s e)
input_adds base g i k p label s e = process_first p _ (joined_input base g i k p label s e).process (all_append is_told (met_faults (faults g e)) (met_writing (whole_writing k label s) ∷ []) (told_faults (faults g e)) refl) refl

pub output_adds : (base : ℕ) (g : Scope) (i k : ℕ) (p : Place) (s : SignalEntry) (e : Expr) → AddsProcess (joined_output base g i k p s e)
output_adds base g i k p s e =
    process_first p _ (joined_output base g i k p s e).process (all_append is_told (met_faults (target_faults g Continuous e)) (met_writings g Continuous true true k e) (told_faults (target_faults g Continuous e)) (told_writings g Continuous true true k e)) refl

size_of_process : (g : Scope) (i : ℕ) (w : When) (text : Statement) (s : Stmt) → size_of (process_of g i w text s) ≡ size s
size_of_process g i Star text s = refl
size_of_process g i (Names xs) text s = refl
size_of_process g i (Edges xs) text s = refl

-- an always block: faults, what is met in its body, faults, and the process
sum_body : (f : Met → ℕ) (p : Met → Bool) → ((m : Met) → p m ≡ true → f m ≡ 0) → (ahead ms behind : List Met) (x : Met) → list_all p ahead ≡ true → list_all p behind ≡ true → sum_by f (ahead ++ ms ++ behind ++ x ∷ []) ≡ sum_by f ms + f x
sum_body f p h ahead ms behind x k l =
    omega (arith, sum_by-append f (ahead ++ ms ++ behind) (x ∷ []), sum_by-append f (ahead ++ ms) behind, sum_by-append f ahead ms, sum_nothing f p h ahead k, sum_nothing f p h behind l, sum_by-cons f x [])

pub always_adds : (base : ℕ) (g : Scope) (i k : ℕ) (p : Place) (w : When) (s : Statement) (l n : ℕ) → AddsProcess (always base g i k p w s l n)
always_adds base g i k p w s l n = record {
  signals = omega (arith, sum_body signal_count is_inner no_signal ahead ms behind (met_process p) ahead_inner behind_inner, sum_nothing signal_count is_inner no_signal ms ms_inner);
  processes = omega (arith, sum_body process_count is_inner no_process ahead ms behind (met_process p) ahead_inner behind_inner, sum_nothing process_count is_inner no_process ms ms_inner);
  words = omega (arith, sum_body word_count is_inner no_words ahead ms behind (met_process p) ahead_inner behind_inner, sum_nothing word_count is_inner no_words ms ms_inner);
  instances = omega (arith, sum_body instance_count is_inner no_instance ahead ms behind (met_process p) ahead_inner behind_inner, sum_nothing instance_count is_inner no_instance ms ms_inner);
  statements = omega (arith, sum_body statement_count is_told no_statement ahead ms behind (met_process p) (told_faults (when_faults g w)) (told_faults (mixed_faults (writings ms) ++ incomplete_faults g w s)), count_statements base g (mode_of w) k s l n, size_of_process g i w s (statement base g s l n));
}
  where
    ms : List Met
    ms = met g (mode_of w) k s

    ahead : List Met
    ahead = met_faults (when_faults g w)

    behind : List Met
    behind = met_faults (mixed_faults (writings ms) ++ incomplete_faults g w s)

    ms_inner : list_all is_inner ms ≡ true
    ms_inner = inner_met g (mode_of w) k s

    ahead_inner : list_all is_inner ahead ≡ true
    ahead_inner = inner_faults (when_faults g w)

    behind_inner : list_all is_inner behind ≡ true
    behind_inner = inner_faults (mixed_faults (writings ms) ++ incomplete_faults g w s)

-- what an instance adds, by its declarations
filter_length : (b : Bool) (x : Declaration) (xs : List Declaration) → length (cond b (x ∷ xs) xs) ≡ cond b 1 0 + length xs
filter_length true x xs = omega arith
filter_length false x xs = omega arith

not_both_sorts : (m : Module) (x : List ℕ) (s : Sort) → is_signal_sort m x s ≡ true → is_memory_sort s ≡ false
not_both_sorts m x a_net h = refl
not_both_sorts m x a_variable h = refl
not_both_sorts m x (words_from r) h = absurd (false≢true h)
not_both_sorts m x an_integer h = refl
not_both_sorts m x a_parameter h = refl
not_both_sorts m x some_instance h = refl
not_both_sorts m x faulty h = refl
not_both_sorts m x faulty_memory h = refl

-- what is met at one declaration, by what it is
abbrev declared_as : Instantiation → Declaration → Bool → Bool → List Met
declared_as i d b c = if b then named_met i d (met_signal d.item) else (if c then named_met i d (met_words d.item (span (words_of d).high (words_of d).low)) else [])

sum_named : (f : Met → ℕ) → ((m : Met) → is_told m ≡ true → f m ≡ 0) → (i : Instantiation) (d : Declaration) (m : Met) → sum_by f (named_met i d m) ≡ f m
sum_named f h i d m = omega (arith, sum_by-cons f m (met_faults (path_faults d.item (dotted i.path d.name.name))), sum_nothing f is_told h (met_faults (path_faults d.item (dotted i.path d.name.name))) (told_faults (path_faults d.item (dotted i.path d.name.name))))

pub told_inner : (m : Met) → is_told m ≡ true → is_inner m ≡ true
told_inner (met_fault f) h = refl
told_inner (met_text p n) h = refl
told_inner (met_writing f) h = refl
told_inner (met_signal f) h = absurd (false≢true h)
told_inner (met_words f n) h = absurd (false≢true h)
told_inner (met_process f) h = absurd (false≢true h)
told_inner (met_instance f) h = absurd (false≢true h)
told_inner (met_statement f) h = absurd (false≢true h)

signal_met : (i : Instantiation) (d : Declaration) (b c : Bool) → sum_by signal_count (declared_as i d b c) ≡ cond b 1 0
signal_met i d true c = sum_named signal_count (λ m h. no_signal m (told_inner m h)) i d (met_signal d.item)
signal_met i d false true = sum_named signal_count (λ m h. no_signal m (told_inner m h)) i d (met_words d.item (span (words_of d).high (words_of d).low))
signal_met i d false false = refl

-- a count of which neither signals nor memories are
other_met : (f : Met → ℕ) → ((m : Met) → is_told m ≡ true → f m ≡ 0) → ((p : Place) → f (met_signal p) ≡ 0) → ((p : Place) (n : ℕ) → f (met_words p n) ≡ 0) → (i : Instantiation) (d : Declaration) (b c : Bool) → sum_by f (declared_as i d b c) ≡ 0
other_met f h k l i d true c = sum_named f h i d _ ∙ k d.item
other_met f h k l i d false true = sum_named f h i d _ ∙ l d.item _
other_met f h k l i d false false = refl

words_met : (i : Instantiation) (d : Declaration) (b c : Bool) → (b ≡ true → c ≡ false) → sum_by word_count (declared_as i d b c) ≡ cond c (span (words_of d).high (words_of d).low) 0
words_met i d true c h = rw (h refl) (sum_named word_count (λ m t. no_words m (told_inner m t)) i d (met_signal d.item))
words_met i d false true h = sum_named word_count (λ m t. no_words m (told_inner m t)) i d (met_words d.item (span (words_of d).high (words_of d).low))
words_met i d false false h = refl

pub signals_met : (i : Instantiation) (ds : List Declaration) → sum_by signal_count (flat_map (declared_met i) ds) ≡ length (filter (is_own i.aliases i.of_module) ds)
signals_met i [] = refl
signals_met i (d ∷ ds) = omega (arith, sum_by-append signal_count (declared_met i d) (flat_map (declared_met i) ds), signal_met i d (is_own i.aliases i.of_module d) (is_memory d), signals_met i ds, filter_length (is_own i.aliases i.of_module d) d (filter (is_own i.aliases i.of_module) ds))

pub others_met : (f : Met → ℕ) → ((m : Met) → is_told m ≡ true → f m ≡ 0) → ((p : Place) → f (met_signal p) ≡ 0) → ((p : Place) (n : ℕ) → f (met_words p n) ≡ 0) → (i : Instantiation) (ds : List Declaration) → sum_by f (flat_map (declared_met i) ds) ≡ 0
others_met f h k l i [] = refl
others_met f h k l i (d ∷ ds) = omega (arith, sum_by-append f (declared_met i d) (flat_map (declared_met i) ds), other_met f h k l i d (is_own i.aliases i.of_module d) (is_memory d), others_met f h k l i ds)

pub own_no_memory : (i : Instantiation) (d : Declaration) → is_own i.aliases i.of_module d ≡ true → is_memory d ≡ false
own_no_memory i d h = not_both_sorts i.of_module d.name.name d.sort (and_parts (is_signal i.of_module d) _ h).0

abbrev words_in : Memory → ℕ
words_in m = span m.first m.last

filter_words : (n : ℕ) (b : Bool) (d : Declaration) (ds : List Declaration) → sum_by words_in (map (memory_of n) (cond b (d ∷ ds) ds)) ≡ cond b (span (words_of d).high (words_of d).low) 0 + sum_by words_in (map (memory_of n) ds)
filter_words n true d ds = sum_by-cons words_in (memory_of n d) (map (memory_of n) ds)
filter_words n false d ds = omega arith

pub memories_met : (n : ℕ) (i : Instantiation) (ds : List Declaration) → sum_by word_count (flat_map (declared_met i) ds) ≡ sum_by words_in (map (memory_of n) (filter is_memory ds))
memories_met n i [] = refl
memories_met n i (d ∷ ds) =
    omega (arith, sum_by-append word_count (declared_met i d) (flat_map (declared_met i) ds), words_met i d (is_own i.aliases i.of_module d) (is_memory d) (own_no_memory i d), memories_met n i ds, filter_words n (is_memory d) d (filter is_memory ds))

-- as many of each were met as the design has
pub record IsCounted (st : Sofar) : Type 0 where
  pub signals : sum_by signal_count st.met ≡ length st.design.signals
  pub processes : sum_by process_count st.met ≡ length st.design.processes
  pub words : sum_by word_count st.met ≡ sum_by (λ m. span m.first m.last) st.design.memories
  pub instances : sum_by instance_count st.met ≡ length st.design.instances
  pub statements : sum_by statement_count st.met ≡ sum_by size_of st.design.processes

sum_none : (f : Met → ℕ) (ms : List Met) → sum_by f (ms ++ []) ≡ sum_by f ms
sum_none f ms = ap (sum_by f) (append-nil ms)

pub counted_meets : (st : Sofar) → IsCounted st → IsCounted (meet [] st)
counted_meets st h = record {
  signals = sum_none signal_count st.met ∙ h.signals;
  processes = sum_none process_count st.met ∙ h.processes;
  words = sum_none word_count st.met ∙ h.words;
  instances = sum_none instance_count st.met ∙ h.instances;
  statements = sum_none statement_count st.met ∙ h.statements;
}

pub counted_process : (m : Made) (st : Sofar) → AddsProcess m → IsCounted st → IsCounted (add_process m st)
counted_process m st adds h = record {
  signals = omega (arith, sum_by-append signal_count st.met m.met, adds.signals, h.signals);
  processes = omega (arith, sum_by-append process_count st.met m.met, adds.processes, h.processes, length-append st.design.processes (m.process ∷ []));
  words = omega (arith, sum_by-append word_count st.met m.met, adds.words, h.words);
  instances = omega (arith, sum_by-append instance_count st.met m.met, adds.instances, h.instances);
  statements = omega (arith, sum_by-append statement_count st.met m.met, adds.statements, h.statements, sum_by-append size_of st.design.processes (m.process ∷ []), sum_by-cons size_of m.process []);
}

-- what is met at an opening: the instance, the text of its module, faults, and the declarations
pub sum_opening : (f : Met → ℕ) → ((m : Met) → is_told m ≡ true → f m ≡ 0) → (i : Instantiation) → sum_by f (opening_met i) ≡ f (met_instance i.item) + sum_by f (flat_map (declared_met i) (declared i.overrides i.of_module))
sum_opening f h i =
    let fs : List Fault = path_faults i.item i.path ++ declaration_faults i.overrides i.of_module in
    let ms : List Met = flat_map (declared_met i) (declared i.overrides i.of_module) in
    let text : Met = met_text i.item (module_size i.of_module) in
    omega (arith, sum_by-cons f (met_instance i.item) (text ∷ met_faults fs ++ ms), sum_by-cons f text (met_faults fs ++ ms), h text refl, sum_by-append f (met_faults fs) ms, sum_nothing f is_told h (met_faults fs) (told_faults fs))
