-- The signals, memories, constants and processes of a design that is answered are in its instances, and have sound ranges.
use Rattle.std.proofs.Common.{◌≡◌, ◌⊎◌, inl, inr, ℕ, ◌+◌, ◌<◌, ◌≤◌, ◌==◌, Bool, true, false, ◌&&◌, ◌||◌, nat_lt, nat_le, List, [], ◌∷◌, Option, Some, None, Ok, refl, sym, ap, subst, length, map, arith, length-append}
use Rattle.std.specs.List.{list_all, filter, flat_map}
use Rattle.std.proofs.lemmas.Bool.{false≢true, and_parts, lt-ltb, le-leb, eq-eqb}
use Rattle.design_model.specs.Design.{Design, In}
use Rattle.design_model.specs.Lawful as law
use Rattle.design_model.specs.Lawful.{span, instance_of}
use Rattle.design_model.specs.Tree.{Stmt, Process}
use Rattle.design_model.specs.declared.design.Constant.{Constant}
use Rattle.design_model.specs.declared.design.Memory.{Memory}
use Rattle.design_model.specs.declared.design.Range.{Range}
use Rattle.design_model.specs.declared.design.Signal.{Signal}
use Rattle.verilog_tree.specs.declared.item.When.{When}
use Rattle.verilog_tree.specs.declared.item.When.TheVariants.{Star, Names, Edges}
use Rattle.verilog_tree.specs.Tree.{Module, Statement}
use Rattle.flat_design.specs.Declarations.{Declaration, Sort, a_net, a_variable, words_from, an_integer, a_parameter, some_instance, faulty, faulty_memory, is_faulty}
use Rattle.flat_design.specs.Flat.{elaborated}
use Rattle.flat_design.specs.Faults.{answer}
use Rattle.flat_design.specs.Instances.{Instantiation, Sofar, context, add_process, opened, declared, constants, constant_of, memory_of, signal_of, is_own, is_memory, is_memory_sort, is_signal, is_signal_sort, sort_words}
use Rattle.flat_design.specs.Processes.{Made, process_of}
use Rattle.flat_design.specs.Scope.{Scope, range_or, range_width, is_ranged}
use Rattle.flat_design.specs.declared.entry.Entry.{Entry}
use Rattle.flat_design.specs.declared.entry.Entry.TheVariants.{Constant as a_constant, Turn as a_turn, Signal as a_signal, Memory as a_memory, LoopVariable as a_loop_variable, Instance as an_instance, NoConstant as no_constant, Faulty as a_faulty_one}
use Rattle.flat_laws.proofs.Continues.{Continues}
use Rattle.flat_laws.proofs.Freedom.{IsSound, answered_sound}
use Rattle.flat_laws.proofs.LawfulDeclared.{FewWords, declared_has_range}
use Rattle.flat_laws.proofs.LawfulLimits.{base_of, answered_keeps, answered_design}
use Rattle.flat_laws.proofs.Members.{in_append, in_map, in_filter, in_flat_map, all_of_members}
use Rattle.flat_laws.proofs.Steps.{Steps, inner_of}

-- the width of a signal or memory is that of its range, from 1 to 128 bits
pub record HasBits (width high low : ℕ) (ranged : Bool) : Type 0 where
  pub above : nat_le 1 width ≡ true
  pub below : nat_le width 128 ≡ true
  pub as_range : (width == span high low) ≡ true
  pub or_one : (ranged || ((high == 0) && (low == 0))) ≡ true

pub record SignalIn (count : ℕ) (s : Signal) : Type 0 where
  pub instance : s.instance < count
  pub bits : HasBits s.width s.high s.low s.ranged

pub record MemoryIn (count : ℕ) (m : Memory) : Type 0 where
  pub instance : m.instance < count
  pub bits : HasBits m.width m.high m.low m.ranged
  pub words : nat_le (span m.first m.last) 65536 ≡ true

-- each is in an instance
pub record IsRanged (st : Sofar) : Type 0 where
  pub signals : (s : Signal) → In s st.design.signals → SignalIn (length st.design.instances) s
  pub memories : (m : Memory) → In m st.design.memories → MemoryIn (length st.design.instances) m
  pub constants : (c : Constant) → In c st.design.constants → c.instance < length st.design.instances
  pub processes : (x : Process) → In x st.design.processes → instance_of x < length st.design.instances

ranged_bits : (r : Option Range) → range_width r ≤ 128 → HasBits (range_width r) (range_or r).high (range_or r).low (is_ranged r)
ranged_bits None h = record { above = refl; below = refl; as_range = refl; or_one = refl }
ranged_bits (Some r) h = record { above = le-leb 1 (span r.high r.low) (omega arith); below = le-leb (span r.high r.low) 128 h; as_range = eq-eqb (span r.high r.low) (span r.high r.low) refl; or_one = refl }

pub signal_sort_sound : (m : Module) (x : List ℕ) (s : Sort) → is_signal_sort m x s ≡ true → is_faulty s ≡ false
signal_sort_sound m x a_net h = refl
signal_sort_sound m x a_variable h = refl
signal_sort_sound m x (words_from r) h = refl
signal_sort_sound m x an_integer h = refl
signal_sort_sound m x a_parameter h = refl
signal_sort_sound m x some_instance h = refl
signal_sort_sound m x faulty h = absurd (false≢true h)
signal_sort_sound m x faulty_memory h = absurd (false≢true h)

memory_sort_sound : (s : Sort) → is_memory_sort s ≡ true → is_faulty s ≡ false
memory_sort_sound (words_from r) h = refl
memory_sort_sound a_net h = refl
memory_sort_sound a_variable h = refl
memory_sort_sound an_integer h = refl
memory_sort_sound a_parameter h = refl
memory_sort_sound some_instance h = refl
memory_sort_sound faulty h = absurd (false≢true h)
memory_sort_sound faulty_memory h = absurd (false≢true h)

few_words : (s : Sort) → FewWords s → is_memory_sort s ≡ true → nat_le (span (sort_words s).high (sort_words s).low) 65536 ≡ true
few_words (words_from r) h k = le-leb (span r.high r.low) 65536 h
few_words a_net h k = absurd (false≢true k)
few_words a_variable h k = absurd (false≢true k)
few_words an_integer h k = absurd (false≢true k)
few_words a_parameter h k = absurd (false≢true k)
few_words some_instance h k = absurd (false≢true k)
few_words faulty h k = absurd (false≢true k)
few_words faulty_memory h k = absurd (false≢true k)

-- in a design with more instances
signal_in_more : (count more : ℕ) (s : Signal) → count ≤ more → SignalIn count s → SignalIn more s
signal_in_more count more s h k = record { instance = omega (arith, k.instance); bits = k.bits }

memory_in_more : (count more : ℕ) (m : Memory) → count ≤ more → MemoryIn count m → MemoryIn more m
memory_in_more count more m h k = record { instance = omega (arith, k.instance); bits = k.bits; words = k.words }

constant_instance : (n : ℕ) (x : List ℕ × Entry) (c : Constant) → In c (constant_of n x) → c.instance ≡ n
constant_instance n (x, a_constant v) c (inl e) = sym (ap (λ k. k.instance) e)
constant_instance n (x, a_constant v) c (inr h) = absurd h
constant_instance n (x, a_turn v) c h = absurd h
constant_instance n (x, a_signal s) c h = absurd h
constant_instance n (x, a_memory m) c h = absurd h
constant_instance n (x, a_loop_variable) c h = absurd h
constant_instance n (x, an_instance) c h = absurd h
constant_instance n (x, no_constant) c h = absurd h
constant_instance n (x, a_faulty_one) c h = absurd h

ranged_opened : (i : Instantiation) (st : Sofar) → IsRanged st → IsRanged (opened i st)
ranged_opened i st h = record {
  signals = λ s k. by_signal s (in_append s st.design.signals _ k);
  memories = λ m k. by_memory m (in_append m st.design.memories _ k);
  constants = λ c k. by_constant c (in_append c st.design.constants _ k);
  processes = λ x k. let before : instance_of x < number = h.processes x k in omega (arith, more);
}
  where
    number : ℕ
    number = length st.design.instances

    now : ℕ
    now = length (opened i st).design.instances

    more : number + 1 ≡ now
    more = sym (length-append st.design.instances (record { path = i.path; «module» = i.of_module.name.name } ∷ []))

    ds : List Declaration
    ds = declared i.overrides i.of_module

    by_signal : (s : Signal) → In s st.design.signals ⊎ In s (map (signal_of number i.is_top) (filter (is_own i.aliases i.of_module) ds)) → SignalIn now s
    by_signal s (inl k) = signal_in_more number now s (omega (arith, more)) (h.signals s k)
    by_signal s (inr k) =
        let l = in_map (signal_of number i.is_top) s (filter (is_own i.aliases i.of_module) ds) k in
        let f = in_filter (is_own i.aliases i.of_module) l.0 ds l.1 in
        let sort = signal_sort_sound i.of_module l.0.name.name l.0.sort (and_parts (is_signal i.of_module l.0) _ f.1).0 in
        let made : SignalIn now (signal_of number i.is_top l.0) = record { instance = omega (arith, more); bits = ranged_bits l.0.range ((declared_has_range i.overrides i.of_module l.0 f.0).bits sort) } in
        subst (SignalIn now) l.2 made

    by_memory : (m : Memory) → In m st.design.memories ⊎ In m (map (memory_of number) (filter is_memory ds)) → MemoryIn now m
    by_memory m (inl k) = memory_in_more number now m (omega (arith, more)) (h.memories m k)
    by_memory m (inr k) =
        let l = in_map (memory_of number) m (filter is_memory ds) k in
        let f = in_filter is_memory l.0 ds l.1 in
        let range = declared_has_range i.overrides i.of_module l.0 f.0 in
        let made : MemoryIn now (memory_of number l.0) = record { instance = omega (arith, more); bits = ranged_bits l.0.range (range.bits (memory_sort_sound l.0.sort f.1)); words = few_words l.0.sort range.words f.1 } in
        subst (MemoryIn now) l.2 made

    by_constant : (c : Constant) → In c st.design.constants ⊎ In c (flat_map (constant_of number) (constants i.overrides i.of_module)) → c.instance < now
    by_constant c (inl k) = let before : c.instance < number = h.constants c k in omega (arith, more)
    by_constant c (inr k) =
        let l = in_flat_map (constant_of number) c (constants i.overrides i.of_module) k in
        let is : c.instance ≡ number = constant_instance number l.0 c l.2 in
        omega (arith, more)

ranged_process : (m : Made) (st : Sofar) → instance_of m.process < length st.design.instances → IsRanged st → IsRanged (add_process m st)
ranged_process m st here h = record { signals = h.signals; memories = h.memories; constants = h.constants; processes = λ x k. by_place x (in_append x st.design.processes (m.process ∷ []) k) }
  where
    by_place : (x : Process) → In x st.design.processes ⊎ In x (m.process ∷ []) → instance_of x < length st.design.instances
    by_place x (inl k) = h.processes x k
    by_place x (inr (inl e)) = subst (λ y. instance_of y < length st.design.instances) e here
    by_place x (inr (inr k)) = absurd k

-- the instance whose items are replaced is one of the design
pub instance_here : (i : Instantiation) (before now : Sofar) → Continues (opened i before) now → length before.design.instances < length now.design.instances
instance_here i before now h =
    omega (arith, ap length h.instances.whole, length-append (opened i before).design.instances h.instances.rest, length-append before.design.instances (record { path = i.path; «module» = i.of_module.name.name } ∷ []))

pub process_instance : (g : Scope) (i : ℕ) (w : When) (text : Statement) (s : Stmt) → instance_of (process_of g i w text s) ≡ i
process_instance g i Star text s = refl
process_instance g i (Names xs) text s = refl
process_instance g i (Edges xs) text s = refl

-- the outer instance is one of the design while the ports of an inner one are joined
pub outer_here : (i j : Instantiation) (before at now : Sofar) → Continues (opened i before) at → Continues (opened j at) now → length before.design.instances < length now.design.instances
outer_here i j before at now h k =
    let first : length before.design.instances < length at.design.instances = instance_here i before at h in
    let second : length at.design.instances < length now.design.instances = instance_here j at now k in
    omega arith

ranged_steps : (base : ℕ) (ms : List Module) → Steps base ms IsRanged (λ depth i st. Unit {0})
ranged_steps base ms = record {
  meets = λ st h. record { signals = h.signals; memories = h.memories; constants = h.constants; processes = h.processes };
  opens = λ depth i st free known h. ranged_opened i st h;
  assigns = λ depth i before st here x x_in y v n assigned free h. ranged_process _ st (instance_here i before st here.continues) h;
  runs = λ depth i before st here x x_in w s l n form free h. ranged_process _ st (subst (λ k. k < length st.design.instances) (sym (process_instance _ (length before.design.instances) w s _)) (instance_here i before st here.continues)) h;
  inputs = λ depth i before at st x k m o inside j s joined way free h. ranged_process _ st (outer_here i (inner_of (context base i before) x.place k m o) before at st inside.outer.continues inside.continues) h;
  outputs = λ depth i before at st x k m o inside j s joined way free h. ranged_process _ st (outer_here i (inner_of (context base i before) x.place k m o) before at st inside.outer.continues inside.continues) h;
  below = λ depth i before st here h x k m o under. tt;
}

pub answered_ranged : (ms : List Module) (top : List ℕ) → IsSound ms top → IsRanged (elaborated ms top)
answered_ranged ms top sound =
    answered_keeps ms top IsRanged (λ depth i st. Unit {0}) (ranged_steps (base_of ms top) ms) (λ m found. tt)
    (record { signals = λ s h. absurd h; memories = λ m h. absurd h; constants = λ c h. absurd h; processes = λ x h. absurd h }) sound

-- each signal, memory, constant and process is in an instance, and has its bits
pub record AreRanged (d : Design) : Type 0 where
  pub signals : list_all (law.is_signal d) d.signals ≡ true
  pub memories : list_all (law.is_memory_of d) d.memories ≡ true
  pub instances : list_all (λ p. nat_lt (instance_of p) (length d.instances)) d.processes ≡ true
  pub constants : list_all (λ c. nat_lt c.instance (length d.instances)) d.constants ≡ true

lawful_signal : (d : Design) (s : Signal) → SignalIn (length d.instances) s → law.is_signal d s ≡ true
lawful_signal d s h = rw (lt-ltb s.instance (length d.instances) h.instance, h.bits.above, h.bits.below, h.bits.as_range, h.bits.or_one)

lawful_memory : (d : Design) (m : Memory) → MemoryIn (length d.instances) m → law.is_memory_of d m ≡ true
lawful_memory d m h = rw (lt-ltb m.instance (length d.instances) h.instance, h.bits.above, h.bits.below, h.words, h.bits.as_range, h.bits.or_one)

elaborated_ranged : (st : Sofar) → IsRanged st → AreRanged st.design
elaborated_ranged st h = record {
  signals = all_of_members (law.is_signal st.design) st.design.signals (λ s k. lawful_signal st.design s (h.signals s k));
  memories = all_of_members (law.is_memory_of st.design) st.design.memories (λ m k. lawful_memory st.design m (h.memories m k));
  instances = all_of_members (λ p. nat_lt (instance_of p) (length st.design.instances)) st.design.processes (λ x k. lt-ltb (instance_of x) (length st.design.instances) (h.processes x k));
  constants = all_of_members (λ c. nat_lt c.instance (length st.design.instances)) st.design.constants (λ c k. lt-ltb c.instance (length st.design.instances) (h.constants c k));
}

pub answered_in_range : (ms : List Module) (top : List ℕ) (d : Design) → answer ms top ≡ Ok d → AreRanged d
answered_in_range ms top d e = subst AreRanged (answered_design ms top d e) (elaborated_ranged (elaborated ms top) (answered_ranged ms top (answered_sound ms top d e)))
