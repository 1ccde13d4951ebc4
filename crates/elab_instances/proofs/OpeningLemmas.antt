-- What is met while an instance is opened, and what it is counted as.
use Rattle.std.proofs.Common.{◌≡◌, ℕ, ◌+◌, ◌≤◌, ◌==◌, Bool, true, false, List, [], ◌∷◌, ◌++◌, append_assoc, refl, sym, ap, subst, ◌∙◌, inl, inr, arith}
use Rattle.std.specs.Prelude.{flat_map, if◌then◌else◌, nat_lt}
use Rattle.std.proofs.lemmas.Bool.{cases_Bool, false≢true, ltb-false}
use Rattle.std.proofs.lemmas.Bool.Decides.{nat_tests}
use Rattle.cov_host.specs.declared.place.Place.{Place}
use Rattle.design_model.specs.Lawful.{span}
use Rattle.design_model.specs.declared.design.Range.{Range}
use Rattle.flat_design.specs.Bodies.{Met, met_fault, met_signal, met_words, met_process, met_instance, met_statement, met_text, met_writing, met_faults}
use Rattle.tree_sizes.specs.Sizes.{module_size}
use Rattle.verilog_tree.specs.Tree.{Module}
use Rattle.flat_design.specs.Declarations.{Declaration, Override, all_declarations, constants_faults, declarations, direction_faults, listed_twice, twice_faults}
use Rattle.flat_design.specs.Fault.{Fault, limit_fault}
use Rattle.flat_design.specs.Identifiers.{params_of}
use Rattle.flat_design.specs.Instances.{Instantiation, constant_scope, declaration_faults, declared, declared_met, dotted, opening_met, other_names, path_faults, range_faults}
use Rattle.flat_design.specs.Scope.{Scope}
use Rattle.flat_design.specs.declared.counts.Counts.{Counts}
use Rattle.flat_design.specs.declared.fault.DesignLimit.TheVariants.{Signals, Processes, Words, Instances, Statements, Text}
use Rattle.elab_const.proofs.ScopeLemmas.{fun_ext}
use Rattle.elab_scope.specs.Tally.{Tally, after, after_all, after_faults, with_counts, with_fault, with_met}
use Rattle.elab_scope.proofs.TallyLemmas.{after_all-append, after_ended, after_faults-append, after_open}
use Rattle.elab_instances.specs.Entering.{numbers_after, numbers_behind, numbers_past}
use Rattle.elab_instances.specs.Linked.{Linked, linked_of}
use Rattle.elab_instances.specs.Opening.{AreCounted}
use Rattle.elab_instances.specs.Roles.{role_met, role_of}
use Rattle.elab_instances.specs.declared.instantiation.Numbers.{Numbers}
use Rattle.elab_instances.specs.declared.roles.Role.{Role}
use Rattle.elab_instances.specs.declared.roles.Role.TheVariants.{Own, Joined, Memory, LoopVariable, Instance, Faulty}
use Rattle.elab_instances.proofs.EnteringLemmas.{numbers_by_count}
use Rattle.elab_instances.proofs.RoleLemmas.{met_by_role}

-- numbers within the counts of the tally
abbrev AreWithin : Counts → Numbers → Type 0
AreWithin c n = (n.signal ≤ c.signals) × (c.signals ≤ 65536) × (n.memory ≤ c.words) × (c.words ≤ 262144)

-- after a limit that is passed any numbers will do
ended_counted : (t : Tally) (n : Numbers) → t.ended ≡ true → AreCounted t n
ended_counted t n ended open' = absurd (false≢true (sym open' ∙ ended))

-- one more signal
module _ (n : Numbers) where
  not_full : (k limit : ℕ) → (k == limit) ≡ false → k ≤ limit → k + 1 ≤ limit
  not_full k limit e h = grind (arith, nat_tests)

  -- a count that leaves signals and words as they are
  kept_count : (passed : Bool) (f : Fault) (c : Counts) (t : Tally) → c.signals ≡ t.counts.signals → c.words ≡ t.counts.words → AreWithin t.counts n → AreWithin (with_counts passed f c t).counts n
  kept_count true f c t e g h = h
  kept_count false f c t e g h = (omega (arith, h.0), omega (arith, h.1), omega (arith, h.2), omega (arith, h.3))

  kept_signal : (p : Place) (t : Tally) (b : Bool) → (t.counts.signals == 65536) ≡ b → AreWithin t.counts n → AreWithin (with_counts b (limit_fault Signals p) (record (t.counts) { signals = t.counts.signals + 1 }) t).counts n
  kept_signal p t true e h = h
  kept_signal p t false e h = (omega (arith, h.0), not_full t.counts.signals 65536 e h.1, h.2, h.3)

  kept_words : (p : Place) (k : ℕ) (t : Tally) (b : Bool) → nat_lt 262144 (t.counts.words + k) ≡ b → AreWithin t.counts n → AreWithin (with_counts b (limit_fault Words p) (record (t.counts) { words = t.counts.words + k }) t).counts n
  kept_words p k t true e h = h
  kept_words p k t false e h = (h.0, h.1, omega (arith, h.2), ltb-false 262144 (t.counts.words + k) e)

  kept_met : (m : Met) (t : Tally) → AreWithin t.counts n → AreWithin (with_met m t).counts n
  kept_met (met_fault f) t h = h
  kept_met (met_signal p) t h = kept_signal p t _ refl h
  kept_met (met_words p k) t h = kept_words p k t _ refl h
  kept_met (met_process p) t h = kept_count (t.counts.processes == 65536) (limit_fault Processes p) (record (t.counts) { processes = t.counts.processes + 1 }) t refl refl h
  kept_met (met_instance p) t h = kept_count (t.counts.instances == 65536) (limit_fault Instances p) (record (t.counts) { instances = t.counts.instances + 1 }) t refl refl h
  kept_met (met_statement p) t h = kept_count (t.counts.statements == 1048576) (limit_fault Statements p) (record (t.counts) { statements = t.counts.statements + 1 }) t refl refl h
  kept_met (met_text p k) t h = kept_count (nat_lt 134217728 (t.counts.text + k)) (limit_fault Text p) (record (t.counts) { text = t.counts.text + k }) t refl refl h
  kept_met (met_writing w) t h = h

  -- whatever is met, numbers stay counted
  pub counted_after : (t : Tally) (m : Met) → AreCounted t n → AreCounted (after t m) n
  counted_after t m h =
      elim (cases_Bool t.ended) [
        | inl ended ↦ ended_counted (after t m) n (ap (λ u. u.ended) (after_ended t m ended) ∙ ended)
        | inr open' ↦
            λ still.
            let P : Tally → Type 0 = λ u. AreWithin u.counts n in
            subst P (sym (after_open t m open')) (kept_met m t (h open'))
      ]

  pub counted_after_all : (t : Tally) (ms : List Met) → AreCounted t n → AreCounted (after_all t ms) n
  counted_after_all t [] h = h
  counted_after_all t (m ∷ ms) h = counted_after_all (after t m) ms (counted_after t m h)

-- where no limit is passed by what is met, more is counted
counted_if : (b : Bool) (f : Fault) (c : Counts) (t : Tally) (n : Numbers) → (with_fault f t).ended ≡ true → (b ≡ false → AreWithin c n) → (with_counts b f c t).ended ≡ false → AreWithin (with_counts b f c t).counts n
counted_if true f c t n limit more still = absurd (false≢true (sym still ∙ limit))
counted_if false f c t n limit more still = more refl

counted_more : (t : Tally) (m : Met) (n k : Numbers) → (t.ended ≡ false → (with_met m t).ended ≡ false → AreWithin (with_met m t).counts k) → AreCounted (after t m) k
counted_more t m n k more =
    elim (cases_Bool t.ended) [
      | inl ended ↦ ended_counted (after t m) k (ap (λ u. u.ended) (after_ended t m ended) ∙ ended)
      | inr open' ↦
          let P : Tally → Type 0 = λ u. AreCounted u k in
          subst P (sym (after_open t m open')) (more open')
    ]

signal_counted : (t : Tally) (p : Place) (n k : Numbers) → k.signal ≡ n.signal + 1 → k.memory ≡ n.memory → AreCounted t n → AreCounted (after t (met_signal p)) k
signal_counted t p n k one none h =
    counted_more t (met_signal p) n k (λ open' still.
    let old = h open' in
    counted_if (t.counts.signals == 65536) (limit_fault Signals p) (record (t.counts) { signals = t.counts.signals + 1 }) t k refl (λ few. (omega (arith, old.0), not_full n t.counts.signals 65536 few old.1, omega (arith, old.2), old.3)) still)

words_counted : (t : Tally) (p : Place) (w : ℕ) (n k : Numbers) → 1 ≤ w → k.signal ≡ n.signal → k.memory ≡ n.memory + 1 → AreCounted t n → AreCounted (after t (met_words p w)) k
words_counted t p w n k some none one h =
    counted_more t (met_words p w) n k (λ open' still.
    let old = h open' in
    counted_if (nat_lt 262144 (t.counts.words + w)) (limit_fault Words p) (record (t.counts) { words = t.counts.words + w }) t k refl (λ few. (omega (arith, old.0), old.1, omega (arith, old.2), ltb-false 262144 (t.counts.words + w) few)) still)

same_counted : (t : Tally) (n k : Numbers) → k.signal ≡ n.signal → k.memory ≡ n.memory → AreCounted t n → AreCounted t k
same_counted t n k same none h open' = let old = h open' in (omega (arith, old.0), old.1, omega (arith, old.2), old.3)

-- a declared name with its own signal or memory is counted
role_counted : (r : Role) (i : Instantiation) (d : Declaration) (t : Tally) (n : Numbers) → AreCounted t n → AreCounted (after_all t (role_met r i d)) (numbers_behind r n)
role_counted Own i d t n h =
    counted_after_all (numbers_behind Own n) (after t (met_signal d.item)) (met_faults (path_faults d.item (dotted i.path d.name.name))) (signal_counted t d.item n (numbers_behind Own n) refl (omega arith) h)
role_counted (Joined k) i d t n h = same_counted t n _ (omega arith) (omega arith) h
role_counted (Memory r) i d t n h =
    counted_after_all (numbers_behind (Memory r) n) (after t (met_words d.item (span r.high r.low))) (met_faults (path_faults d.item (dotted i.path d.name.name))) (words_counted t d.item (span r.high r.low) n (numbers_behind (Memory r) n) (omega arith) (omega arith) refl h)
role_counted LoopVariable i d t n h = same_counted t n _ (omega arith) (omega arith) h
role_counted Instance i d t n h = same_counted t n _ (omega arith) (omega arith) h
role_counted Faulty i d t n h = same_counted t n _ (omega arith) (omega arith) h

roles_counted : (l : Linked) (i : Instantiation) (ds : List Declaration) (t : Tally) (n : Numbers) → AreCounted t n → AreCounted (after_all t (flat_map (λ d. role_met (role_of l d) i d) ds)) (numbers_past l n ds)
roles_counted l i [] t n h = h
roles_counted l i (d ∷ ds) t n h =
    let own : List Met = role_met (role_of l d) i d in
    let rest : List Met = flat_map (λ e. role_met (role_of l e) i e) ds in
    let P : Tally → Type 0 = λ u. AreCounted u (numbers_past l (numbers_behind (role_of l d) n) ds) in
    subst P (sym (after_all-append t own rest)) (roles_counted l i ds (after_all t own) (numbers_behind (role_of l d) n) (role_counted (role_of l d) i d t n h))

-- what is met at declared names, by their roles
pub all_met_by_role : (i : Instantiation) (ds : List Declaration) → flat_map (λ d. role_met (role_of (linked_of i) d) i d) ds ≡ flat_map (declared_met i) ds
all_met_by_role i ds = ap (λ f. flat_map f ds) (fun_ext (met_by_role i))

-- what is met up to the declared names
abbrev opening_front : Instantiation → List Met
opening_front i = met_instance i.item ∷ met_text i.item (module_size i.of_module) ∷ met_faults (path_faults i.item i.path ++ declaration_faults i.overrides i.of_module)

-- the numbers after those of an instance are counted once it is opened
pub opening_counted : (i : Instantiation) (t : Tally) (n : Numbers) → AreCounted t n → AreCounted (after_all t (opening_met i)) (numbers_after i n)
opening_counted i t n h =
    let ds : List Declaration = declared i.overrides i.of_module in
    let before : AreCounted (after_all t (opening_front i)) n = counted_after_all n t (opening_front i) h in
    let P : Tally → Type 0 = λ u. AreCounted u (numbers_after i n) in
    let Q : List Met → Type 0 = λ ms. AreCounted (after_all (after_all t (opening_front i)) ms) (numbers_after i n) in
    let R : Numbers → Type 0 = AreCounted (after_all (after_all t (opening_front i)) (flat_map (λ d. role_met (role_of (linked_of i) d) i d) ds)) in
    subst P (sym (after_all-append t (opening_front i) (flat_map (declared_met i) ds))) (subst Q (all_met_by_role i ds) (subst R (numbers_by_count i n ds) (roles_counted (linked_of i) i ds (after_all t (opening_front i)) n before)))

five_lists : (as' bs cs ds es : List Fault) → as' ++ bs ++ cs ++ ds ++ es ≡ as' ++ (bs ++ cs ++ ds ++ es)
five_lists as' bs cs ds es = ap (λ xs. xs ++ ds ++ es) (append_assoc as' bs cs) ∙ ap (λ xs. xs ++ es) (append_assoc as' (bs ++ cs) ds) ∙ append_assoc as' (bs ++ cs ++ ds) es

-- the faults of an instance in two parts
pub faults_in_turn : (t : Tally) (ps as' bs cs ds es : List Fault) → after_faults (after_faults (after_faults t ps) as') (bs ++ cs ++ ds ++ es) ≡ after_faults t (ps ++ (as' ++ bs ++ cs ++ ds ++ es))
faults_in_turn t ps as' bs cs ds es =
    sym (after_faults-append (after_faults t ps) as' (bs ++ cs ++ ds ++ es)) ∙ sym (after_faults-append t ps (as' ++ (bs ++ cs ++ ds ++ es))) ∙ ap (λ xs. after_faults t (ps ++ xs)) (sym (five_lists as' bs cs ds es))

-- what is met while an instance is opened, call by call
pub opened_met : (i : Instantiation) (os : List Override) (g : Scope) (ds : List Declaration) (l : Linked) (t first second third last : Tally) →
    os ≡ i.overrides → g ≡ constant_scope i.overrides i.of_module → ds ≡ declared i.overrides i.of_module → l ≡ linked_of i →
    first ≡ after_all t (met_instance i.item ∷ met_text i.item (module_size i.of_module) ∷ met_faults (path_faults i.item i.path)) →
    second ≡ after_faults first (constants_faults (other_names i.of_module) os [] (params_of i.of_module)) →
    third ≡ after_faults second (range_faults g i.of_module ++ twice_faults [] (all_declarations g i.of_module) ++ listed_twice [] i.of_module.ports ++ direction_faults (declarations g i.of_module) i.of_module.ports) →
    last ≡ after_all third (flat_map (λ d. role_met (role_of l d) i d) ds) → last ≡ after_all t (opening_met i)
opened_met i os g ds l t first second third last given scope names links one two three four =
    let m : Module = i.of_module in
    let start : Tally = after (after t (met_instance i.item)) (met_text i.item (module_size m)) in
    let path : List Fault = path_faults i.item i.path in
    let own : List Fault = constants_faults (other_names m) i.overrides [] (params_of m) in
    let front : Tally = after_faults (after_faults start path) own in
    let others : Scope → List Fault = λ h. range_faults h m ++ twice_faults [] (all_declarations h m) ++ listed_twice [] m.ports ++ direction_faults (declarations h m) m.ports in
    let to_second : second ≡ front = two ∙ ap (λ o. after_faults first (constants_faults (other_names m) o [] (params_of m))) given ∙ ap (λ u. after_faults u own) one in
    let to_third : third ≡ after_all t (opening_front i) =
    three ∙ ap (λ u. after_faults u (others g)) to_second ∙ ap (λ h. after_faults front (others h)) scope ∙ faults_in_turn start path own (range_faults (constant_scope i.overrides m) m) (twice_faults [] (all_declarations (constant_scope i.overrides m) m)) (listed_twice [] m.ports) (direction_faults (declared i.overrides m) m.ports)
    in
    four
    ∙ ap (λ u. after_all u (flat_map (λ d. role_met (role_of l d) i d) ds)) to_third
    ∙ ap (λ k. after_all (after_all t (opening_front i)) (flat_map (λ d. role_met (role_of k d) i d) ds)) links
    ∙ ap (λ xs. after_all (after_all t (opening_front i)) (flat_map (λ d. role_met (role_of (linked_of i) d) i d) xs)) names
    ∙ ap (after_all (after_all t (opening_front i))) (all_met_by_role i (declared i.overrides m))
    ∙ sym (after_all-append t (opening_front i) (flat_map (declared_met i) (declared i.overrides m)))
