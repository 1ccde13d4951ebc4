-- What no fault means: no fault was met, and no limit is passed.
use Rattle.std.proofs.Common.{◌≡◌, ◌⊎◌, inl, inr, ◌<◌, Ok, ℕ, ◌+◌, ◌≤◌, ◌==◌, ◌||◌, Bool, true, false, List, [], ◌∷◌, ◌++◌, refl, sym, ◌∙◌, nat_lt, arith, if◌then◌else◌}
use Rattle.std.specs.List.{list_any, sum_by}
use Rattle.std.proofs.lemmas.Bool.{false≢true, ltb-false, eq-eqb, cases_lt}
use Rattle.std.proofs.lemmas.List.Folds.{list_any-append}
use Rattle.std.proofs.lemmas.List.Sums.{sum_by-cons}
use Rattle.design_model.specs.Design.{Design}
use Rattle.verilog_tree.specs.Tree.{Module}
use Rattle.flat_design.specs.Bodies.{Met, met_fault, met_signal, met_words, met_process, met_instance, met_statement, met_text, met_writing, met_faults}
use Rattle.flat_design.specs.Fault.{Fault, fault_if}
use Rattle.flat_design.specs.Faults.{nothing, told, two_modules, answer}
use Rattle.flat_design.specs.declared.counts.Counts.{Counts}
use Rattle.flat_design.specs.Flat.{elaborated}
use Rattle.flat_design.specs.Processes.{writings, driver_faults}
use Rattle.flat_laws.specs.Laws.{text_count}
use Rattle.flat_laws.proofs.First.{none_stands}

-- two lists that are empty together are empty
pub both_empty : {A : Type 0} (xs ys : List A) → xs ++ ys ≡ [] → (xs ≡ []) × (ys ≡ [])
both_empty [] ys e = (refl, e)
both_empty (x ∷ xs) ys e = absurd cc

-- neither of two tests that do not hold together holds
pub neither : (a b : Bool) → (a || b) ≡ false → (a ≡ false) × (b ≡ false)
neither true b e = absurd cc
neither false b e = (refl, e)

-- a fault that is not reported does not hold
pub not_told : (b : Bool) (f : Fault) → fault_if b f ≡ [] → b ≡ false
not_told true f e = absurd cc
not_told false f e = refl

-- a fault
abbrev pub is_fault : Met → Bool
is_fault (met_fault f) = true
is_fault _ = false

-- no fault was met
pub record IsFree (ms : List Met) : Type 0 where
  pub no_fault : list_any is_fault ms ≡ false

pub free_parts : (xs ys : List Met) → IsFree (xs ++ ys) → IsFree xs × IsFree ys
free_parts xs ys h =
    let p = neither (list_any is_fault xs) (list_any is_fault ys) (sym (list_any-append is_fault xs ys) ∙ h.no_fault) in
    (record { no_fault = p.0 }, record { no_fault = p.1 })

pub free_faults : (fs : List Fault) → IsFree (met_faults fs) → fs ≡ []
free_faults [] h = refl
free_faults (f ∷ fs) h = absurd (false≢true (sym h.no_fault))

-- how many of each were met
abbrev pub signal_count : Met → ℕ
signal_count (met_signal p) = 1
signal_count _ = 0

abbrev pub process_count : Met → ℕ
process_count (met_process p) = 1
process_count _ = 0

abbrev pub word_count : Met → ℕ
word_count (met_words p n) = n
word_count _ = 0

abbrev pub instance_count : Met → ℕ
instance_count (met_instance p) = 1
instance_count _ = 0

abbrev pub statement_count : Met → ℕ
statement_count (met_statement p) = 1
statement_count _ = 0

-- no limit is passed, from these counts on
pub record AreFew (c : Counts) (ms : List Met) : Type 0 where
  pub signals : c.signals + sum_by signal_count ms ≤ 65536
  pub processes : c.processes + sum_by process_count ms ≤ 65536
  pub words : c.words + sum_by word_count ms ≤ 262144
  pub instances : c.instances + sum_by instance_count ms ≤ 65536
  pub statements : c.statements + sum_by statement_count ms ≤ 1048576
  pub text : c.text + sum_by text_count ms ≤ 134217728

-- the counts are within the limits
pub record IsWithin (c : Counts) : Type 0 where
  pub signals : c.signals ≤ 65536
  pub processes : c.processes ≤ 65536
  pub words : c.words ≤ 262144
  pub instances : c.instances ≤ 65536
  pub statements : c.statements ≤ 1048576
  pub text : c.text ≤ 134217728

-- what holds where no fault is reported
pub record IsTold (c : Counts) (rest : List Fault) (ms : List Met) : Type 0 where
  pub rest_empty : rest ≡ []
  pub free : IsFree ms
  pub few : AreFew c ms

by_test : (b : Bool) (f : Fault) (fs : List Fault) → (if b then f ∷ [] else fs) ≡ [] → (b ≡ false) × (fs ≡ [])
by_test true f fs e = absurd cc
by_test false f fs e = (refl, e)

few_cons : (c later : Counts) (m : Met) (ms : List Met) → later.signals ≡ c.signals + signal_count m → later.processes ≡ c.processes + process_count m → later.words ≡ c.words + word_count m → later.instances ≡ c.instances + instance_count m → later.statements ≡ c.statements + statement_count m → later.text ≡ c.text + text_count m → AreFew later ms → AreFew c (m ∷ ms)
few_cons c later m ms a b d e f i h = record {
  signals = omega (arith, h.signals, sum_by-cons signal_count m ms);
  processes = omega (arith, h.processes, sum_by-cons process_count m ms);
  words = omega (arith, h.words, sum_by-cons word_count m ms);
  instances = omega (arith, h.instances, sum_by-cons instance_count m ms);
  statements = omega (arith, h.statements, sum_by-cons statement_count m ms);
  text = omega (arith, h.text, sum_by-cons text_count m ms);
}

below_limit : (n k : ℕ) → n ≤ k → (n == k) ≡ false → n + 1 ≤ k
below_limit n k h e = apart (cases_lt n k)
  where
    apart : (n < k) ⊎ (k ≤ n) → n + 1 ≤ k
    apart (inl less) = omega arith
    apart (inr more) = absurd (false≢true (sym e ∙ eq-eqb n k (omega arith)))

pub told_nothing : (c : Counts) (rest : List Fault) (ms : List Met) → IsWithin c → told c rest ms ≡ [] → IsTold c rest ms
told_nothing c rest [] w e = record { rest_empty = e; free = record { no_fault = refl }; few = record { signals = omega (arith, w.signals); processes = omega (arith, w.processes); words = omega (arith, w.words); instances = omega (arith, w.instances); statements = omega (arith, w.statements); text = omega (arith, w.text) } }
told_nothing c rest (met_fault f ∷ ms) w e = absurd cc
told_nothing c rest (met_signal p ∷ ms) w e =
    let t = by_test (c.signals == 65536) _ _ e in
    let less : c.signals + 1 ≤ 65536 = below_limit c.signals 65536 w.signals t.0 in
    let h = told_nothing (record c { signals = c.signals + 1 }) rest ms (record { signals = less; processes = w.processes; words = w.words; instances = w.instances; statements = w.statements; text = w.text }) t.1 in
    record { rest_empty = h.rest_empty; free = record { no_fault = h.free.no_fault }; few = few_cons c _ _ ms (omega arith) (omega arith) (omega arith) (omega arith) (omega arith) (omega arith) h.few }
told_nothing c rest (met_process p ∷ ms) w e =
    let t = by_test (c.processes == 65536) _ _ e in
    let less : c.processes + 1 ≤ 65536 = below_limit c.processes 65536 w.processes t.0 in
    let h = told_nothing (record c { processes = c.processes + 1 }) rest ms (record { signals = w.signals; processes = less; words = w.words; instances = w.instances; statements = w.statements; text = w.text }) t.1 in
    record { rest_empty = h.rest_empty; free = record { no_fault = h.free.no_fault }; few = few_cons c _ _ ms (omega arith) (omega arith) (omega arith) (omega arith) (omega arith) (omega arith) h.few }
told_nothing c rest (met_words p n ∷ ms) w e =
    let t = by_test (nat_lt 262144 (c.words + n)) _ _ e in
    let less : c.words + n ≤ 262144 = ltb-false 262144 (c.words + n) t.0 in
    let h = told_nothing (record c { words = c.words + n }) rest ms (record { signals = w.signals; processes = w.processes; words = less; instances = w.instances; statements = w.statements; text = w.text }) t.1 in
    record { rest_empty = h.rest_empty; free = record { no_fault = h.free.no_fault }; few = few_cons c _ _ ms (omega arith) (omega arith) (omega arith) (omega arith) (omega arith) (omega arith) h.few }
told_nothing c rest (met_instance p ∷ ms) w e =
    let t = by_test (c.instances == 65536) _ _ e in
    let less : c.instances + 1 ≤ 65536 = below_limit c.instances 65536 w.instances t.0 in
    let h = told_nothing (record c { instances = c.instances + 1 }) rest ms (record { signals = w.signals; processes = w.processes; words = w.words; instances = less; statements = w.statements; text = w.text }) t.1 in
    record { rest_empty = h.rest_empty; free = record { no_fault = h.free.no_fault }; few = few_cons c _ _ ms (omega arith) (omega arith) (omega arith) (omega arith) (omega arith) (omega arith) h.few }
told_nothing c rest (met_statement p ∷ ms) w e =
    let t = by_test (c.statements == 1048576) _ _ e in
    let less : c.statements + 1 ≤ 1048576 = below_limit c.statements 1048576 w.statements t.0 in
    let h = told_nothing (record c { statements = c.statements + 1 }) rest ms (record { signals = w.signals; processes = w.processes; words = w.words; instances = w.instances; statements = less; text = w.text }) t.1 in
    record { rest_empty = h.rest_empty; free = record { no_fault = h.free.no_fault }; few = few_cons c _ _ ms (omega arith) (omega arith) (omega arith) (omega arith) (omega arith) (omega arith) h.few }
told_nothing c rest (met_text p n ∷ ms) w e =
    let t = by_test (nat_lt 134217728 (c.text + n)) _ _ e in
    let less : c.text + n ≤ 134217728 = ltb-false 134217728 (c.text + n) t.0 in
    let h = told_nothing (record c { text = c.text + n }) rest ms (record { signals = w.signals; processes = w.processes; words = w.words; instances = w.instances; statements = w.statements; text = less }) t.1 in
    record { rest_empty = h.rest_empty; free = record { no_fault = h.free.no_fault }; few = few_cons c _ _ ms (omega arith) (omega arith) (omega arith) (omega arith) (omega arith) (omega arith) h.few }
told_nothing c rest (met_writing x ∷ ms) w e =
    let h = told_nothing c rest ms w e in
    record { rest_empty = h.rest_empty; free = record { no_fault = h.free.no_fault }; few = few_cons c _ _ ms (omega arith) (omega arith) (omega arith) (omega arith) (omega arith) (omega arith) h.few }

none_passed : IsWithin nothing
none_passed = record { signals = omega arith; processes = omega arith; words = omega arith; instances = omega arith; statements = omega arith; text = omega arith }

-- where a design is answered, no two modules have one name, no two drivers are at odds, nothing that was met is a fault, and no limit is passed
pub record IsSound (ms : List Module) (top : List ℕ) : Type 0 where
  pub one_module : two_modules [] ms ≡ []
  pub told : IsTold nothing (driver_faults (writings (elaborated ms top).met)) (elaborated ms top).met

pub answered_sound : (ms : List Module) (top : List ℕ) (d : Design) → answer ms top ≡ Ok d → IsSound ms top
answered_sound ms top d e =
    let p = both_empty (two_modules [] ms) _ (none_stands ms top d e) in
    record { one_module = p.0; told = told_nothing nothing _ _ none_passed p.1 }

-- the text that elaboration goes through for a design that is answered is within its limit
pub answered_text : (ms : List Module) (top : List ℕ) (d : Design) → answer ms top ≡ Ok d → sum_by text_count (elaborated ms top).met ≤ 134217728
answered_text ms top d e = let few = (answered_sound ms top d e).told.few in omega (arith, few.text)
