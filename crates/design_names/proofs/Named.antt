-- The names, paths and bounds of an elaborated design.
use Rattle.std.proofs.Common.{◌≡◌, ◌⊎◌, inl, inr, ◌≤◌, ℕ, true, List, [], ◌∷◌, Option, Some, None, Ok, refl, sym, subst, length, map, arith}
use Rattle.std.specs.List.{filter}
use Rattle.std.specs.Prelude.{bytes_eq}
use Rattle.std.proofs.lemmas.Bool.{false≢true}
use Rattle.cov_host.specs.Identifier.{is_identifier}
use Rattle.coverage_db.specs.Table.{is_path}
use Rattle.design_model.specs.Design.{Design, In}
use Rattle.design_model.specs.declared.design.Instance.{Instance}
use Rattle.design_model.specs.declared.design.Memory.{Memory}
use Rattle.design_model.specs.declared.design.Signal.{Signal}
use Rattle.flat_design.specs.Declarations.{Declaration}
use Rattle.flat_design.specs.Faults.{answer}
use Rattle.flat_design.specs.Flat.{elaborated, elaborated_from, module_of, start, top_instance}
use Rattle.flat_design.specs.Identifiers.{declared_names, names_of}
use Rattle.flat_design.specs.Instances.{Instantiation, Sofar, context, declared, is_memory, is_own, memory_of, opened, signal_of}
use Rattle.parsed_modules.proofs.flat_laws.Freedom.{IsFree, IsSound, answered_sound}
use Rattle.parsed_modules.proofs.flat_laws.LawfulLimits.{answered_design, answered_keeps, base_of}
use Rattle.parsed_modules.proofs.flat_laws.LawfulNames.{declared_named, in_map_back}
use Rattle.parsed_modules.proofs.flat_laws.LawfulPaths.{found_in}
use Rattle.parsed_modules.proofs.flat_laws.LawfulScope.{found_passes, same_bytes}
use Rattle.parsed_modules.proofs.flat_laws.Members.{in_append, in_filter, in_flat_map_back, in_map, in_right}
use Rattle.parsed_modules.proofs.flat_laws.Steps.{Here, IsBelow, Steps, instance_opens, inner_of}
use Rattle.parsed_modules.specs.Named.{AreNamed}
use Rattle.verilog_tree.specs.Tree.{InstanceItem, Item, Module, One, instance_item}
use Rattle.design_names.specs.Names.{AreSmall, HasNames}
use Rattle.design_names.proofs.Paths.{dotted_is_path, name_is_path}
use Rattle.design_names.proofs.Ranges.{declared_within, sort_small}

-- an instance, a signal and a memory
abbrev IsInstance : Instance → Type 0
IsInstance x = (is_path x.path ≡ true) × (is_identifier x.«module» ≡ true)

abbrev IsSignal : Signal → Type 0
IsSignal s = (is_identifier s.name ≡ true) × AreSmall s.high s.low

abbrev IsMemory : Memory → Type 0
IsMemory m = (is_identifier m.name ≡ true) × AreSmall m.first m.last

-- so of all so far
record AreSoFar (top : List ℕ) (d : Design) : Type 0 where
  top_is : d.top ≡ top
  instances : (x : Instance) → In x d.instances → IsInstance x
  signals : (s : Signal) → In s d.signals → IsSignal s
  memories : (m : Memory) → In m d.memories → IsMemory m

-- an instance to be opened: its module is one of these
record IsNext (ms : List Module) (i : Instantiation) (st : Sofar) : Type 0 where
  module_in : In i.of_module ms
  path : is_path i.path ≡ true

module _ (ms : List Module) (named : AreNamed ms) where
  -- the step that opens an instance
  opened_named : (top : List ℕ) (i : Instantiation) (st : Sofar) → IsNext ms i st → AreSoFar top st.design → AreSoFar top (opened i st).design
  opened_named top i st next h = record {
    top_is = h.top_is;
    instances = λ x k. by_instance x (in_append x st.design.instances (here ∷ []) k);
    signals = λ s k. by_signal s (in_append s st.design.signals _ k);
    memories = λ m k. by_memory m (in_append m st.design.memories _ k);
  }
    where
      here : Instance
      here = record { path = i.path; «module» = i.of_module.name.name }

      ds : List Declaration
      ds = declared i.overrides i.of_module

      name_of : (d : Declaration) → In d ds → is_identifier d.name.name ≡ true
      name_of d k = named.names i.of_module next.module_in d.name (declared_named i.overrides i.of_module d k)

      by_instance : (x : Instance) → In x st.design.instances ⊎ In x (here ∷ []) → IsInstance x
      by_instance x (inl k) = h.instances x k
      by_instance x (inr (inl e)) = subst IsInstance e (next.path, named.modules i.of_module next.module_in)
      by_instance x (inr (inr k)) = absurd k

      by_signal : (s : Signal) → In s st.design.signals ⊎ In s (map (signal_of (length st.design.instances) i.is_top) (filter (is_own i.aliases i.of_module) ds)) → IsSignal s
      by_signal s (inl k) = h.signals s k
      by_signal s (inr k) =
          let l = in_map (signal_of (length st.design.instances) i.is_top) s (filter (is_own i.aliases i.of_module) ds) k in
          let f = in_filter (is_own i.aliases i.of_module) l.0 ds l.1 in
          subst IsSignal l.2 (name_of l.0 f.0, (declared_within i.overrides i.of_module l.0 f.0).range)

      by_memory : (m : Memory) → In m st.design.memories ⊎ In m (map (memory_of (length st.design.instances)) (filter is_memory ds)) → IsMemory m
      by_memory m (inl k) = h.memories m k
      by_memory m (inr k) =
          let l = in_map (memory_of (length st.design.instances)) m (filter is_memory ds) k in
          let f = in_filter is_memory l.0 ds l.1 in
          subst IsMemory l.2 (name_of l.0 f.0, sort_small l.0.sort (declared_within i.overrides i.of_module l.0 f.0).words)

  -- the name of an instance is one that the module around it declares
  one_named : (m : Module) (x : Item) (k : InstanceItem) (o : One) → In x m.items → x.form ≡ instance_item k → In o k.ones → In o.name (names_of m)
  one_named m x k o x_in form o_in =
      in_right o.name (map (λ p. p.name) m.params) _ (in_flat_map_back (λ (i : Item). declared_names i.form) x m.items o.name x_in (subst (λ f. In o.name (declared_names f)) (sym form) (in_map_back (λ (p : One). p.name) o k.ones o_in)))

  -- an instance below one that was opened
  next_below : (base depth : ℕ) (i : Instantiation) (before st : Sofar) → Here (λ depth. IsNext ms) depth i before st → (x : Item) (k : InstanceItem) (m : Module) (o : One) → IsBelow base ms i before x k m o → IsNext ms (inner_of (context base i before) x.place k m o) st
  next_below base depth i before st here x k m o under = record {
    module_in = found_in (λ z. bytes_eq z.name.name k.of_module.name) ms m under.module_is;
    path = dotted_is_path i.path o.name.name here.known.path (named.names i.of_module here.known.module_in o.name (one_named i.of_module x k o under.item_in under.form under.one_in));
  }

  name_steps : (base : ℕ) (top : List ℕ) → Steps base ms (λ st. AreSoFar top st.design) (λ depth. IsNext ms)
  name_steps base top = record {
    meets = λ st h. h;
    opens = λ depth i st free known h. opened_named top i st known h;
    assigns = λ depth i before st here x x_in y v n assigned free h. record { top_is = h.top_is; instances = h.instances; signals = h.signals; memories = h.memories };
    runs = λ depth i before st here x x_in w s l n form free h. record { top_is = h.top_is; instances = h.instances; signals = h.signals; memories = h.memories };
    inputs = λ depth i before at st x k m o inside j s joined way free h. record { top_is = h.top_is; instances = h.instances; signals = h.signals; memories = h.memories };
    outputs = λ depth i before at st x k m o inside j s joined way free h. record { top_is = h.top_is; instances = h.instances; signals = h.signals; memories = h.memories };
    below = λ depth i before st here h x k m o under. let next = next_below base depth i before st here x k m o under in record { module_in = next.module_in; path = next.path };
  }

  -- the top has the name of its module
  top_named : (top : List ℕ) (m : Module) → module_of ms top ≡ Some m → is_identifier top ≡ true
  top_named top m found =
      subst (λ z. is_identifier z ≡ true) (same_bytes m.name.name top (found_passes (λ z. bytes_eq z.name.name top) ms m found)) (named.modules m (found_in (λ z. bytes_eq z.name.name top) ms m found))

  all_named : (top : List ℕ) → IsSound ms top → AreSoFar top (elaborated ms top).design
  all_named top sound =
      answered_keeps ms top (λ st. AreSoFar top st.design) (λ depth. IsNext ms) (name_steps (base_of ms top) top)
      (λ m found. record { module_in = found_in (λ z. bytes_eq z.name.name top) ms m found; path = name_is_path top (top_named top m found) })
      (record { top_is = refl; instances = λ x h. absurd h; signals = λ s h. absurd h; memories = λ m h. absurd h }) sound

  -- the top is found, and opened
  record HasTop (top : List ℕ) (d : Design) : Type 0 where
    name : is_identifier top ≡ true
    some : 1 ≤ length d.instances

  top_opened : (base : ℕ) (top : List ℕ) (found : Option Module) → module_of ms top ≡ found → IsFree (elaborated_from base ms top found).met → HasTop top (elaborated_from base ms top found).design
  top_opened base top None is free = absurd (false≢true (sym free.no_fault))
  top_opened base top (Some m) is free =
      let opens = (instance_opens base ms 64 (top_instance top m) (start top) free).instances in
      record { name = top_named top m is; some = subst (λ xs. 1 ≤ length xs) (sym opens.whole) (omega arith) }

pub answered_names : (ms : List Module) (top : List ℕ) (d : Design) → AreNamed ms → answer ms top ≡ Ok d → HasNames d
answered_names ms top d named e =
    let sound : IsSound ms top = answered_sound ms top d e in
    let is : (elaborated ms top).design ≡ d = answered_design ms top d e in
    let all = subst (AreSoFar top) is (all_named ms named top sound) in
    let has = subst (HasTop ms named top) is (top_opened ms named (base_of ms top) top (module_of ms top) refl sound.told.free) in
    record {
      top = subst (λ z. is_identifier z ≡ true) (sym all.top_is) has.name;
      some_instance = has.some;
      instances = all.instances;
      signals = all.signals;
      memories = all.memories;
    }
