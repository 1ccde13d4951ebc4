-- Numbers of signals, by which of them are there, and the reads that they lack.
use Rattle.std.proofs.Common.{◌≡◌, ℕ, Bool, true, false, List, [], ◌∷◌, ◌++◌, Option, Some, None, refl, sym, ap, ◌∙◌, flat_map, ◌+◌, ◌<◌, length, get_or, drop, add-one, drop-cons}
use Rattle.std.specs.Prelude.{◌||◌, ◌==◌, not}
use Rattle.std.proofs.lemmas.Grind.{flat_map-append}
use Rattle.std.proofs.lemmas.List.Folds.{list_any-append}
use Rattle.elab_const.proofs.ScopeLemmas.{fun_ext}
use Rattle.four_state.specs.Vector.{Vector}
use Rattle.verilog_tree.specs.Tree.{Header}
use Rattle.verilog_tree.specs.declared.item.Named.{Named}
use Rattle.flat_design.specs.Bodies.{in_turn}
use Rattle.flat_design.specs.Fault.{fault_at, fault_if}
use Rattle.flat_design.specs.Identifiers.{base_name}
use Rattle.flat_design.specs.Processes.{lacks, listed_signals, signal_numbers}
use Rattle.flat_design.specs.Scope.{Scope, look_up}
use Rattle.flat_design.specs.declared.entry.Entry.{Entry}
use Rattle.flat_design.specs.declared.entry.Entry.TheVariants.{Signal as a_signal, Memory as a_memory, LoopVariable as a_loop_variable}
use Rattle.flat_design.specs.declared.fault.ElabKind.TheVariants.{Incomplete}
use Rattle.elab_scope.specs.Tally.{Tally, after_faults}
use Rattle.elab_checks.proofs.ExpressionLemmas.{met_next, met_then}
use Rattle.elab_processes.specs.Listed.{has, lacking}
use Rattle.elab_processes.proofs.LoopVariables.{same_in_turn}

has_append : (xs ys : List ℕ) (n : ℕ) → has (xs ++ ys) n ≡ (has xs n || has ys n)
has_append xs ys n = list_any-append (λ k. k == n) xs ys

-- the same numbers after others
has_behind : (xs ys zs : List ℕ) → has ys ≡ has zs → has (xs ++ ys) ≡ has (xs ++ zs)
has_behind xs ys zs e = fun_ext (λ n. has_append xs ys n ∙ ap (λ f. has xs n || f n) e ∙ sym (has_append xs zs n))

-- two lists in the other order
pub has_swap : (xs ys : List ℕ) → has (ys ++ xs) ≡ has (xs ++ ys)
has_swap xs ys = fun_ext (λ n. has_append ys xs n ∙ swap (has ys n) (has xs n) ∙ sym (has_append xs ys n))
  where
    swap : (a b : Bool) → (a || b) ≡ (b || a)
    swap true true = refl
    swap true false = refl
    swap false true = refl
    swap false false = refl

-- and before a third
has_swap_before : (xs ys zs : List ℕ) → has (ys ++ (xs ++ zs)) ≡ has ((xs ++ ys) ++ zs)
has_swap_before xs ys zs =
    fun_ext (λ n. has_append ys (xs ++ zs) n ∙ ap (λ b. has ys n || b) (has_append xs zs n) ∙ swap (has xs n) (has ys n) (has zs n) ∙ ap (λ b. b || has zs n) (sym (has_append xs ys n)) ∙ sym (has_append (xs ++ ys) zs n))
  where
    swap : (a b c : Bool) → (b || (a || c)) ≡ ((a || b) || c)
    swap true true c = refl
    swap true false c = refl
    swap false true c = refl
    swap false false c = refl

-- the signals of two lists of names
listed-append : (g : Scope) (xs ys : List Named) → listed_signals g (xs ++ ys) ≡ listed_signals g xs ++ listed_signals g ys
listed-append g xs ys = flat_map-append (λ x. signal_numbers (look_up g x.name)) xs ys

-- signals that are added, and then others
pub listed_then : (g : Scope) (ks ls ms : List ℕ) (xs ys : List Named) → has ls ≡ has (listed_signals g xs ++ ks) → has ms ≡ has (listed_signals g ys ++ ls) → has ms ≡ has (listed_signals g (xs ++ ys) ++ ks)
listed_then g ks ls ms xs ys one two =
    two ∙ has_behind (listed_signals g ys) ls (listed_signals g xs ++ ks) one ∙ has_swap_before (listed_signals g xs) (listed_signals g ys) ks ∙ ap (λ l. has (l ++ ks)) (sym (listed-append g xs ys))

-- the next signals of the rest
pub listed_next : (g : Scope) (ks ls : List ℕ) (whole : ℕ → Bool) (xs ys all : List Named) → all ≡ xs ++ ys → has (listed_signals g all ++ ks) ≡ whole → has ls ≡ has (listed_signals g xs ++ ks) → has (listed_signals g ys ++ ls) ≡ whole
listed_next g ks ls whole xs ys all is so_far here = listed_then g ks ls (listed_signals g ys ++ ls) xs ys here refl ∙ ap (λ ns. has (listed_signals g ns ++ ks)) (sym is) ∙ so_far

-- the list's own signals, and then those that are assigned
pub listed_both : (g : Scope) (ks ls : List ℕ) (xs ys : List Named) → has ks ≡ has (listed_signals g xs ++ []) → has ls ≡ has (listed_signals g ys ++ ks) → has ls ≡ has (listed_signals g (xs ++ ys))
listed_both g ks ls xs ys one two = listed_then g [] ks ls xs ys one two ∙ has_swap [] (listed_signals g (xs ++ ys))

-- a loop variable is no signal, in a turn and outside
pub listed_in_turn : (g : Scope) (h : Header) (v : Vector) (xs : List Named) → look_up g (base_name h.name).name ≡ Some a_loop_variable → listed_signals (in_turn h v g) xs ≡ listed_signals g xs
listed_in_turn g h v xs is =
    let same : (x : Named) → signal_numbers (look_up (in_turn h v g) x.name) ≡ signal_numbers (look_up g x.name) = λ x. same_in_turn signal_numbers g (base_name h.name).name v refl is x.name in
    ap (λ f. flat_map f xs) (fun_ext same)

-- the reads of two lists of names
lacking-append : (g : Scope) (known : List ℕ) (xs ys : List Named) → lacking g known (xs ++ ys) ≡ lacking g known xs ++ lacking g known ys
lacking-append g known xs ys = flat_map-append (λ x. fault_if (lacks (look_up g x.name) known) (fault_at Incomplete x)) xs ys

-- names that are reported, and then others
pub lacking_then : (g : Scope) (known : List ℕ) (t u v : Tally) (xs ys : List Named) → u ≡ after_faults t (lacking g known xs) → v ≡ after_faults u (lacking g known ys) → v ≡ after_faults t (lacking g known (xs ++ ys))
lacking_then g known t u v xs ys one two = met_then t u v (lacking g known xs) (lacking g known ys) one two ∙ ap (after_faults t) (sym (lacking-append g known xs ys))

-- the next names of the rest
pub lacking_next : (g : Scope) (known : List ℕ) (t u w : Tally) (xs ys all : List Named) → all ≡ xs ++ ys → after_faults t (lacking g known all) ≡ w → u ≡ after_faults t (lacking g known xs) → after_faults u (lacking g known ys) ≡ w
lacking_next g known t u w xs ys all is whole here =
    met_next t u w (lacking g known xs) (lacking g known ys) (lacking g known all) (ap (lacking g known) is ∙ lacking-append g known xs ys) whole here

-- a loop variable is not lacked, in a turn and outside
pub lacking_in_turn : (g : Scope) (h : Header) (v : Vector) (known : List ℕ) (xs : List Named) → look_up g (base_name h.name).name ≡ Some a_loop_variable → lacking (in_turn h v g) known xs ≡ lacking g known xs
lacking_in_turn g h v known xs is =
    let same : (x : Named) → lacks (look_up (in_turn h v g) x.name) known ≡ lacks (look_up g x.name) known = λ x. same_in_turn (λ e. lacks e known) g (base_name h.name).name v refl is x.name in
    ap (λ f. flat_map (λ x. fault_if (f x) (fault_at Incomplete x)) xs) (fun_ext same)

-- only which numbers are known matters
lacks_same : (e : Option Entry) (ks ns : List ℕ) → has ks ≡ has ns → lacks e ks ≡ lacks e ns
lacks_same (Some (a_signal s)) ks ns same = ap (λ f. not (f s.number)) same
lacks_same (Some (a_memory m)) ks ns same = refl
lacks_same (Some e) ks ns same = refl
lacks_same None ks ns same = refl

pub lacking_same : (g : Scope) (ks ns : List ℕ) (xs : List Named) → has ks ≡ has ns → lacking g ks xs ≡ lacking g ns xs
lacking_same g ks ns xs same =
    let each : (x : Named) → lacks (look_up g x.name) ks ≡ lacks (look_up g x.name) ns = λ x. lacks_same (look_up g x.name) ks ns same in
    ap (λ f. flat_map (λ x. fault_if (f x) (fault_at Incomplete x)) xs) (fun_ext each)

-- the rest of a list of names is the next name and what follows
pub names_next : (xs : List Named) (i : ℕ) (x : Named) → i < length xs → x ≡ get_or xs i x → drop i xs ≡ (x ∷ []) ++ drop (i + 1) xs
names_next xs i x within is = rw (add-one, drop-cons xs i x within, ← is) refl
