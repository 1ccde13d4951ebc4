-- The steps of a walk represent the steps of elaboration.
use Rattle.std.proofs.Common.{◌≡◌, inl, inr, ℕ, ◌+◌, ◌≤◌, Bool, true, false, ◌==◌, nat_lt, List, [], ◌∷◌, ◌++◌, Option, None, Some, if◌then◌else◌, refl, sym, ap, ◌∙◌, subst, length, map, arith, length-append}
use Rattle.std.specs.List.{list_all, sum_by, filter, flat_map}
use Rattle.std.proofs.lemmas.Bool.{false≢true, cases_Bool}
use Rattle.std.proofs.lemmas.List.{length-map}
use Rattle.std.proofs.lemmas.List.Sums.{sum_by-cons}
use Rattle.design_model.specs.Lawful.{span}
use Rattle.flat_design.specs.Bodies.{Met, met_fault, met_signal, met_words, met_process, met_instance, met_statement, met_text, met_writing, met_faults}
use Rattle.flat_design.specs.Fault.{Fault, is_limit, limit_fault}
use Rattle.flat_design.specs.Instances.{Instantiation, Sofar, meet, add_process, opened, opening_met, declared, declared_met, is_own, is_memory, memory_of, signal_of}
use Rattle.flat_design.specs.Declarations.{Declaration}
use Rattle.flat_design.specs.Processes.{Made}
use Rattle.flat_laws.proofs.Continues.{Continues, continues_process}
use Rattle.flat_laws.proofs.Freedom.{IsFree, is_fault, signal_count, process_count, word_count, instance_count}
use Rattle.flat_laws.proofs.LawfulCounts.{AddsProcess, is_inner, inner_faults, sum_nothing, sum_opening, signals_met, memories_met, others_met, no_signal, no_process, no_words, no_instance, told_inner}
use Rattle.flat_design.specs.declared.counts.Counts.{Counts}
use Rattle.flat_design.specs.declared.fault.DesignLimit.TheVariants.{Signals, Processes, Words, Instances, Statements, Text}
use Rattle.elab_scope.specs.Tally.{Tally, after, after_all, sooner, with_counts, with_met}
use Rattle.elab_scope.proofs.TallyLemmas.{after_all-append, after_all_ended, after_open, was_open}
use Rattle.elaborator.specs.Walk.{IsClean, StandsFor}

-- the counts of what is met, where no limit is passed
pub record AreCounted (t later : Tally) (ms : List Met) : Type 0 where
  pub signals : later.counts.signals ≡ t.counts.signals + sum_by signal_count ms
  pub processes : later.counts.processes ≡ t.counts.processes + sum_by process_count ms
  pub words : later.counts.words ≡ t.counts.words + sum_by word_count ms
  pub instances : later.counts.instances ≡ t.counts.instances + sum_by instance_count ms

-- a count that passes no limit is made
counts_open : (passed : Bool) (f : Fault) (c : Counts) (t : Tally) → is_limit f ≡ true → (with_counts passed f c t).ended ≡ false → with_counts passed f c t ≡ record t { counts = c }
counts_open true f c t limit open' = absurd (false≢true (sym open' ∙ limit))
counts_open false f c t limit open' = refl

-- of one thing
one_counted : (t : Tally) (m : Met) → (with_met m t).ended ≡ false → AreCounted t (with_met m t) (m ∷ [])
one_counted t (met_fault f) open' = record { signals = omega arith; processes = omega arith; words = omega arith; instances = omega arith }
one_counted t (met_writing w) open' = record { signals = omega arith; processes = omega arith; words = omega arith; instances = omega arith }
one_counted t (met_signal p) open' =
    rw (counts_open (t.counts.signals == 65536) (limit_fault Signals p) _ t refl open') (record { signals = omega arith; processes = omega arith; words = omega arith; instances = omega arith })
one_counted t (met_process p) open' =
    rw (counts_open (t.counts.processes == 65536) (limit_fault Processes p) _ t refl open') (record { signals = omega arith; processes = omega arith; words = omega arith; instances = omega arith })
one_counted t (met_words p n) open' =
    rw (counts_open (nat_lt 262144 (t.counts.words + n)) (limit_fault Words p) _ t refl open') (record { signals = omega arith; processes = omega arith; words = omega arith; instances = omega arith })
one_counted t (met_instance p) open' =
    rw (counts_open (t.counts.instances == 65536) (limit_fault Instances p) _ t refl open') (record { signals = omega arith; processes = omega arith; words = omega arith; instances = omega arith })
one_counted t (met_statement p) open' =
    rw (counts_open (t.counts.statements == 1048576) (limit_fault Statements p) _ t refl open') (record { signals = omega arith; processes = omega arith; words = omega arith; instances = omega arith })
one_counted t (met_text p n) open' =
    rw (counts_open (nat_lt 134217728 (t.counts.text + n)) (limit_fault Text p) _ t refl open') (record { signals = omega arith; processes = omega arith; words = omega arith; instances = omega arith })

-- of all that is met
pub all_counted : (t : Tally) (ms : List Met) → (after_all t ms).ended ≡ false → AreCounted t (after_all t ms) ms
all_counted t [] open' = record { signals = omega arith; processes = omega arith; words = omega arith; instances = omega arith }
all_counted t (m ∷ ms) open' =
    let next : (after t m).ended ≡ false = was_open (after t m) ms open' in
    let before : t.ended ≡ false = was_open t (m ∷ []) next in
    let same : after t m ≡ with_met m t = after_open t m before in
    let one : AreCounted t (after t m) (m ∷ []) = subst (λ u. AreCounted t u (m ∷ [])) (sym same) (one_counted t m (sym (ap (λ u. u.ended) same) ∙ next)) in
    let others : AreCounted (after t m) (after_all (after t m) ms) ms = all_counted (after t m) ms open' in
    record {
      signals = omega (arith, one.signals, others.signals, sum_by-cons signal_count m ms, sum_by-cons signal_count m []);
      processes = omega (arith, one.processes, others.processes, sum_by-cons process_count m ms, sum_by-cons process_count m []);
      words = omega (arith, one.words, others.words, sum_by-cons word_count m ms, sum_by-cons word_count m []);
      instances = omega (arith, one.instances, others.instances, sum_by-cons instance_count m ms, sum_by-cons instance_count m []);
    }

-- a limit that is passed is reported
abbrev pub IsTold : Tally → Type 0
IsTold t = t.ended ≡ true → t.first ≡ None → ⊥

some_sooner : (o : Option Fault) (f : Fault) → sooner o f ≡ None → ⊥
some_sooner None f e = absurd cc
some_sooner (Some g) f e = absurd cc

counts_told : (passed : Bool) (f : Fault) (c : Counts) (t : Tally) → IsTold t → IsTold (with_counts passed f c t)
counts_told true f c t told ended first = some_sooner t.first f first
counts_told false f c t told ended first = told ended first

one_told : (t : Tally) (m : Met) → IsTold t → IsTold (with_met m t)
one_told t (met_fault f) told ended first = some_sooner t.first f first
one_told t (met_writing w) told ended first = told ended first
one_told t (met_signal p) told ended first = counts_told (t.counts.signals == 65536) (limit_fault Signals p) _ t told ended first
one_told t (met_process p) told ended first = counts_told (t.counts.processes == 65536) (limit_fault Processes p) _ t told ended first
one_told t (met_words p n) told ended first = counts_told (nat_lt 262144 (t.counts.words + n)) (limit_fault Words p) _ t told ended first
one_told t (met_instance p) told ended first = counts_told (t.counts.instances == 65536) (limit_fault Instances p) _ t told ended first
one_told t (met_statement p) told ended first = counts_told (t.counts.statements == 1048576) (limit_fault Statements p) _ t told ended first
one_told t (met_text p n) told ended first = counts_told (nat_lt 134217728 (t.counts.text + n)) (limit_fault Text p) _ t told ended first

told_if : (b : Bool) (t u : Tally) → IsTold t → IsTold u → IsTold (if b then t else u)
told_if true t u told other = told
told_if false t u told other = other

pub all_told : (t : Tally) (ms : List Met) → IsTold t → IsTold (after_all t ms)
all_told t [] told = told
all_told t (m ∷ ms) told = all_told (after t m) ms (told_if t.ended t (with_met m t) told (one_told t m told))

-- where nothing is reported nothing that was met is a fault, and nothing was reported before
counts_clear : (passed : Bool) (f : Fault) (c : Counts) (t : Tally) → (with_counts passed f c t).first ≡ None → t.first ≡ None
counts_clear true f c t first = absurd (some_sooner t.first f first)
counts_clear false f c t first = first

one_clear : (t : Tally) (m : Met) → (with_met m t).first ≡ None → (t.first ≡ None) × (is_fault m ≡ false)
one_clear t (met_fault f) first = absurd (some_sooner t.first f first)
one_clear t (met_writing w) first = (first, refl)
one_clear t (met_signal p) first = (counts_clear (t.counts.signals == 65536) (limit_fault Signals p) _ t first, refl)
one_clear t (met_process p) first = (counts_clear (t.counts.processes == 65536) (limit_fault Processes p) _ t first, refl)
one_clear t (met_words p n) first = (counts_clear (nat_lt 262144 (t.counts.words + n)) (limit_fault Words p) _ t first, refl)
one_clear t (met_instance p) first = (counts_clear (t.counts.instances == 65536) (limit_fault Instances p) _ t first, refl)
one_clear t (met_statement p) first = (counts_clear (t.counts.statements == 1048576) (limit_fault Statements p) _ t first, refl)
one_clear t (met_text p n) first = (counts_clear (nat_lt 134217728 (t.counts.text + n)) (limit_fault Text p) _ t first, refl)

pub all_clean : (t : Tally) (ms : List Met) → IsClean (after_all t ms) → IsClean t × IsFree ms
all_clean t [] clean = (clean, record { no_fault = refl })
all_clean t (m ∷ ms) clean =
    let later = all_clean (after t m) ms clean in
    let open' : t.ended ≡ false = was_open t (m ∷ []) later.0.open' in
    let one = one_clear t m (sym (ap (λ u. u.first) (after_open t m open')) ∙ later.0.none) in
    (record { open' = open'; none = one.0 }, record { no_fault = rw one.1 later.1.no_fault })

-- after a limit that is passed a tally also represents all that comes
pub stands_ended : {before t : Tally} {n k : ℕ} {st later : Sofar} → StandsFor before t n st → t.ended ≡ true → Continues st later → StandsFor before t k later
stands_ended {before = before} {t = t} {st = st} {later = later} stands ended continues =
    record {
      met = sym (ap (λ ms. after_all before ms) continues.met.whole ∙ after_all-append before st.met continues.met.rest ∙ ap (λ u. after_all u continues.met.rest) (sym stands.met) ∙ after_all_ended t continues.met.rest ended);
      told = stands.told;
      numbers = λ open'. absurd (false≢true (sym open' ∙ ended));
    }

-- more that was met
met_more : (before t : Tally) (xs ys : List Met) → t ≡ after_all before xs → after_all t ys ≡ after_all before (xs ++ ys)
met_more before t xs ys e = ap (λ u. after_all u ys) e ∙ sym (after_all-append before xs ys)

-- faults, and what no limit counts
pub stands_met : {before t : Tally} {n : ℕ} {st : Sofar} (ms : List Met) → list_all is_inner ms ≡ true → StandsFor before t n st → StandsFor before (after_all t ms) n (meet ms st)
stands_met {before = before} {t = t} {st = st} ms inner stands =
    record {
      met = met_more before t st.met ms stands.met;
      told = all_told t ms stands.told;
      numbers = λ open'.
          let had = stands.numbers (was_open t ms open') in
          let c = all_counted t ms open' in
          record {
            signals = omega (arith, had.signals, c.signals, sum_nothing signal_count is_inner no_signal ms inner);
            processes = omega (arith, had.processes, c.processes, sum_nothing process_count is_inner no_process ms inner);
            instances = omega (arith, had.instances, c.instances, sum_nothing instance_count is_inner no_instance ms inner);
            memories = had.memories;
            words = omega (arith, had.words, c.words);
          };
    }

pub stands_faults : {before t : Tally} {n : ℕ} {st : Sofar} (fs : List Fault) → StandsFor before t n st → StandsFor before (after_all t (met_faults fs)) n (meet (met_faults fs) st)
stands_faults fs stands = stands_met (met_faults fs) (inner_faults fs) stands

-- a process
stands_made : {before t : Tally} {n : ℕ} {st : Sofar} (m : Made) → AddsProcess m → StandsFor before t n st → StandsFor before (after_all t m.met) n (add_process m st)
stands_made {before = before} {t = t} {st = st} m adds stands =
    record {
      met = met_more before t st.met m.met stands.met;
      told = all_told t m.met stands.told;
      numbers = λ open'.
          let had = stands.numbers (was_open t m.met open') in
          let c = all_counted t m.met open' in
          record {
            signals = omega (arith, had.signals, c.signals, adds.signals);
            processes = omega (arith, had.processes, c.processes, adds.processes, length-append st.design.processes (m.process ∷ []));
            instances = omega (arith, had.instances, c.instances, adds.instances);
            memories = had.memories;
            words = omega (arith, had.words, c.words);
          };
    }

-- the same, by the number of the process
pub stands_process : {before t : Tally} {n : ℕ} {st : Sofar} (m : ℕ → Made) → ((k : ℕ) → AddsProcess (m k)) → StandsFor before t n st →
    StandsFor before (after_all t (m t.counts.processes).met) n (add_process (m (length st.design.processes)) st)
stands_process {before = before} {t = t} {n = n} {st = st} m adds stands = elim (cases_Bool t.ended) [
  | inl ended ↦ subst (λ u. StandsFor before u n (add_process (m (length st.design.processes)) st)) (sym (after_all_ended t (m t.counts.processes).met ended)) (stands_ended stands ended (continues_process (m (length st.design.processes)) st))
  | inr open' ↦ subst (λ k. StandsFor before (after_all t (m t.counts.processes).met) n (add_process (m k) st)) (stands.numbers open').processes (stands_made (m t.counts.processes) (adds t.counts.processes) stands)
]

-- each memory has a word
memories_few : (n : ℕ) (ds : List Declaration) → length ds ≤ sum_by (λ m. span m.first m.last) (map (memory_of n) ds)
memories_few n [] = omega arith
memories_few n (d ∷ ds) = omega (arith, sum_by-cons (λ m. span m.first m.last) (memory_of n d) (map (memory_of n) ds), memories_few n ds)

-- no limit counts what an opening reports of these
opening_counts : (f : Met → ℕ) → ((m : Met) → is_inner m ≡ true → f m ≡ 0) → (i : Instantiation) → f (met_instance i.item) ≡ 0 → sum_by f (opening_met i) ≡ sum_by f (flat_map (declared_met i) (declared i.overrides i.of_module))
opening_counts f h i none_of = omega (arith, sum_opening f (λ m told. h m (told_inner m told)) i, none_of)

-- and one instance is counted
opening_instance : (i : Instantiation) → sum_by instance_count (opening_met i) ≡ 1
opening_instance i =
    let one : instance_count (met_instance i.item) ≡ 1 = refl in
    omega (arith, one, sum_opening instance_count (λ m told. no_instance m (told_inner m told)) i, others_met instance_count (λ m h. no_instance m (told_inner m h)) (λ p. refl) (λ p n. refl) i (declared i.overrides i.of_module))

-- an instance that is opened, with its memories
pub stands_opened : {before t : Tally} {n : ℕ} {st : Sofar} (i : Instantiation) → StandsFor before t n st →
    StandsFor before (after_all t (opening_met i)) (n + length (filter is_memory (declared i.overrides i.of_module))) (opened i st)
stands_opened {before = before} {t = t} {n = n} {st = st} i stands =
    record {
      met = met_more before t st.met (opening_met i) stands.met;
      told = all_told t (opening_met i) stands.told;
      numbers = λ open'.
          let ds : List Declaration = declared i.overrides i.of_module in
          let own : List Declaration = filter (is_own i.aliases i.of_module) ds in
          let number : ℕ = length st.design.instances in
          let had = stands.numbers (was_open t (opening_met i) open') in
          let c = all_counted t (opening_met i) open' in
          record {
            signals = omega (arith, had.signals, c.signals, opening_counts signal_count no_signal i refl, signals_met i ds, length-append st.design.signals (map (signal_of number i.is_top) own), length-map own (signal_of number i.is_top));
            processes = omega (arith, had.processes, c.processes, opening_counts process_count no_process i refl, others_met process_count (λ m h. no_process m (told_inner m h)) (λ p. refl) (λ p n. refl) i ds);
            instances = omega (arith, had.instances, c.instances, opening_instance i, length-append st.design.instances (record { path = i.path; «module» = i.of_module.name.name } ∷ []));
            memories = omega (arith, had.memories, length-append st.design.memories (map (memory_of number) (filter is_memory ds)), length-map (filter is_memory ds) (memory_of number));
            words = omega (arith, had.words, c.words, opening_counts word_count no_words i refl, memories_met number i ds, memories_few number (filter is_memory ds));
          };
    }
