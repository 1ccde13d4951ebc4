-- What each process of the design was made from: its scope and its expressions, and what was met with it.
use Rattle.std.proofs.Common.{◌≡◌, ◌⊎◌, inl, inr, ℕ, ◌+◌, ◌<◌, ◌≤◌, max, true, false, List, [], ◌∷◌, ◌++◌, Option, Some, None, refl, sym, ap, ◌∙◌, subst, length, arith, length-append, append_assoc, append-nil, slice_index_or}
use Rattle.std.proofs.lemmas.Bool.{cases_lt}
use Rattle.std.proofs.lemmas.List.{get_or_append_left, get_or_past}
use Rattle.std.proofs.Math.Seq.{get_or-append_seam}
use Rattle.design_model.specs.Design.{In, IsAssign, no_memory, no_process, no_signal}
use Rattle.design_model.specs.Tree.{Process, assign, all_of, signal}
use Rattle.design_model.specs.declared.design.Memory.{Memory}
use Rattle.design_model.specs.declared.design.Signal.{Signal}
use Rattle.verilog_tree.specs.declared.item.Named.{Named}
use Rattle.verilog_tree.specs.declared.item.When.{When}
use Rattle.verilog_tree.specs.declared.item.When.TheVariants.{Edges, Names, Star}
use Rattle.verilog_tree.specs.Tree.{Expr, InstanceItem, Item, Module, One, Statement, always_item, place_of}
use Rattle.elab_const.specs.Meaning.{shape_as}
use Rattle.flat_design.specs.Bodies.{Met, met, met_faults, met_process, met_writing, met_writings, statement}
use Rattle.flat_design.specs.Expressions.{faults}
use Rattle.flat_design.specs.Fault.{Fault}
use Rattle.flat_design.specs.Flat.{elaborated}
use Rattle.flat_design.specs.Instances.{Instantiation, Sofar, add_process, context, opened}
use Rattle.flat_design.specs.Numbering.{nodes}
use Rattle.flat_design.specs.Processes.{Made, always, incomplete_faults, mixed_faults, mode_of, process_of, self_faults, uncounted, when_faults, whole_writing, writings}
use Rattle.flat_design.specs.Scope.{Scope, look_up, range_width, shape}
use Rattle.flat_design.specs.declared.entry.Entry.{Entry}
use Rattle.flat_design.specs.declared.entry.Entry.TheVariants.{Constant as a_constant, Turn as a_turn, Signal as a_signal, Memory as a_memory, LoopVariable as a_loop_variable, Instance as an_instance, NoConstant as no_constant, Faulty as a_faulty_one}
use Rattle.flat_design.specs.declared.entry.MemoryEntry.{MemoryEntry}
use Rattle.flat_design.specs.declared.entry.Mode.TheVariants.{Continuous}
use Rattle.flat_design.specs.declared.entry.SignalEntry.{SignalEntry}
use Rattle.flat_design.specs.Targets.{target, target_faults}
use Rattle.flat_design.specs.Terms.{head_as, right_side}
use Rattle.flat_laws.specs.Tokens.{AreOfTokens}
use Rattle.flat_laws.proofs.Continues.{Begins, Continues, begins_same, continues_opened, continues_twice}
use Rattle.flat_laws.proofs.Freedom.{IsFree, IsSound, both_empty, free_faults, free_parts}
use Rattle.flat_laws.proofs.LawfulBounds.{HasBoundedSignals, scope_bounded}
use Rattle.flat_laws.proofs.LawfulEvents.{known_top}
use Rattle.flat_laws.proofs.LawfulLimits.{answered_keeps, base_of}
use Rattle.flat_laws.proofs.LawfulPaths.{found_in}
use Rattle.flat_laws.proofs.LawfulPorts.{IsOwn, port_own}
use Rattle.flat_laws.proofs.LawfulScope.{EntryMatches, MatchesMemory, MatchesSignal, matches_more, scope_matches}
use Rattle.flat_laws.proofs.LawfulTargets.{IsGoodScope, good_scope}
use Rattle.flat_laws.proofs.LawfulWriters.{KnownIn, known_in_below}
use Rattle.flat_laws.proofs.Members.{in_left, in_right}
use Rattle.flat_laws.proofs.Steps.{Here, Steps, inner_of, made_assign, made_input, made_output}
use Rattle.std.specs.Prelude.{bytes_eq}

-- neighbours of a list
pub record IsPart {A : Type 0} (xs ys : List A) : Type 0 where
  pub before : List A
  pub after : List A
  pub whole : ys ≡ before ++ (xs ++ after)

pub part_in : {A : Type 0} (xs ys : List A) (x : A) → IsPart xs ys → In x xs → In x ys
part_in xs ys x h k = subst (In x) (sym h.whole) (in_right x h.before (xs ++ h.after) (in_left x xs h.after k))

pub part_left : {A : Type 0} (xs ys zs : List A) → IsPart xs ys → IsPart xs (ys ++ zs)
part_left xs ys zs h = record {
  before = h.before;
  after = h.after ++ zs;
  whole = ap (λ l. l ++ zs) h.whole ∙ (append_assoc h.before (xs ++ h.after) zs ∙ ap (λ l. h.before ++ l) (append_assoc xs h.after zs));
}

pub part_right : {A : Type 0} (xs ys zs : List A) → IsPart xs ys → IsPart xs (zs ++ ys)
part_right xs ys zs h = record { before = zs ++ h.before; after = h.after; whole = ap (λ l. zs ++ l) h.whole ∙ sym (append_assoc zs h.before (xs ++ h.after)) }

-- a continuous assignment, as process k
pub record IsContinuous (base : ℕ) (xs : List Signal) (ys : List Memory) (ms : List Met) (k : ℕ) (x : Process) : Type 0 where
  pub scope : Scope
  pub good : IsGoodScope xs ys scope
  pub bounded : HasBoundedSignals scope
  pub to : Expr
  pub value : Expr
  pub node : ℕ
  pub instance : ℕ
  pub is : x ≡ assign instance (target base scope to node) (right_side base scope (shape scope to).width value (node + nodes scope to)) true
  pub target_sound : target_faults scope Continuous to ≡ []
  pub value_sound : faults scope value ≡ []
  pub no_self : self_faults scope to value ≡ []
  pub writings : IsPart (met_writings scope Continuous true true k to) ms

-- an expression that is assigned to the signal of an input, which no name beside the instance means
pub record IsInput (base : ℕ) (xs : List Signal) (ys : List Memory) (ms : List Met) (k : ℕ) (x : Process) : Type 0 where
  pub scope : Scope
  pub good : IsGoodScope xs ys scope
  pub port : SignalEntry
  pub label : Named
  pub value : Expr
  pub instance : ℕ
  pub is : x ≡ assign instance (all_of port.number) (uncounted (right_side base scope (range_width port.range) value 0)) false
  pub matches : MatchesSignal xs port
  pub no_input : (slice_index_or xs port.number no_signal).input ≡ false
  pub above : (y : List ℕ) (r : SignalEntry) → look_up scope y ≡ Some (a_signal r) → r.number < port.number
  pub value_sound : faults scope value ≡ []
  pub writings : IsPart (met_writing (whole_writing k label port) ∷ []) ms

-- the signal of an output that is assigned to a target, which no name beside the instance means
pub record IsOutput (base : ℕ) (xs : List Signal) (ys : List Memory) (ms : List Met) (k : ℕ) (x : Process) : Type 0 where
  pub scope : Scope
  pub good : IsGoodScope xs ys scope
  pub bounded : HasBoundedSignals scope
  pub port : SignalEntry
  pub to : Expr
  pub instance : ℕ
  pub is : x ≡ assign instance (target base scope to 0) (signal (head_as (place_of to) (shape_as (max (range_width port.range) (shape scope to).width) port.signed) None) port.number) false
  pub matches : MatchesSignal xs port
  pub above : (y : List ℕ) (r : SignalEntry) → look_up scope y ≡ Some (a_signal r) → r.number < port.number
  pub target_sound : target_faults scope Continuous to ≡ []
  pub writings : IsPart (met_writings scope Continuous true true k to) ms

-- an always block of one of these modules
pub record IsBlock (all : List Module) (base : ℕ) (xs : List Signal) (ys : List Memory) (ms : List Met) (k : ℕ) (x : Process) : Type 0 where
  pub scope : Scope
  pub good : IsGoodScope xs ys scope
  pub when : When
  pub body : Statement
  pub line : ℕ
  pub node : ℕ
  pub instance : ℕ
  pub is : x ≡ process_of scope instance when body (statement base scope body line node)
  pub of_module : Module
  pub module_in : In of_module all
  pub item : Item
  pub item_in : In item of_module.items
  pub form : item.form ≡ always_item when body
  pub free : IsFree (met scope (mode_of when) k body)
  pub unmixed : mixed_faults (writings (met scope (mode_of when) k body)) ≡ []
  pub writings : IsPart (met scope (mode_of when) k body) ms

-- what a process was made from
pub data Source (all : List Module) (base : ℕ) (xs : List Signal) (ys : List Memory) (ms : List Met) (k : ℕ) (x : Process) : Type 0 where
  of_assign : IsContinuous base xs ys ms k x → Source all base xs ys ms k x
  of_input : IsInput base xs ys ms k x → Source all base xs ys ms k x
  of_output : IsOutput base xs ys ms k x → Source all base xs ys ms k x
  of_block : IsBlock all base xs ys ms k x → Source all base xs ys ms k x

memory_more : (xs ys : List Memory) (m : MemoryEntry) → Begins xs ys → MatchesMemory xs m → MatchesMemory ys m
memory_more xs ys m b h =
    subst (λ zs. MatchesMemory zs m) (sym b.whole)
    (let same : slice_index_or (xs ++ b.rest) m.number no_memory ≡ slice_index_or xs m.number no_memory = get_or_append_left xs b.rest no_memory m.number h.number in
    record {
      number = omega (arith, h.number, length-append xs b.rest);
      first = ap (λ x. x.first) same ∙ h.first;
      last = ap (λ x. x.last) same ∙ h.last;
      high = ap (λ x. x.high) same ∙ h.high;
      low = ap (λ x. x.low) same ∙ h.low;
      width = ap (λ x. x.width) same ∙ h.width;
      signed = ap (λ x. x.signed) same ∙ h.signed;
    })

entry_more : (xs zs : List Signal) (ys ws : List Memory) (o : Option Entry) → Begins xs zs → Begins ys ws → EntryMatches xs ys o → EntryMatches zs ws o
entry_more xs zs ys ws (Some (a_signal s)) b c h = matches_more xs zs s b h
entry_more xs zs ys ws (Some (a_memory m)) b c h = memory_more ys ws m c h
entry_more xs zs ys ws None b c h = tt
entry_more xs zs ys ws (Some (a_constant v)) b c h = tt
entry_more xs zs ys ws (Some (a_turn v)) b c h = tt
entry_more xs zs ys ws (Some a_loop_variable) b c h = tt
entry_more xs zs ys ws (Some an_instance) b c h = tt
entry_more xs zs ys ws (Some no_constant) b c h = tt
entry_more xs zs ys ws (Some a_faulty_one) b c h = tt

-- in a design with more signals and memories
good_more : (xs zs : List Signal) (ys ws : List Memory) (g : Scope) → Begins xs zs → Begins ys ws → IsGoodScope xs ys g → IsGoodScope zs ws g
good_more xs zs ys ws g b c h = record { sound = h.sound; empty = h.empty; told = h.told; matches = λ x. entry_more xs zs ys ws (look_up g x) b c (h.matches x) }

input_more : (xs zs : List Signal) (n : ℕ) → Begins xs zs → n < length xs → (slice_index_or xs n no_signal).input ≡ false → (slice_index_or zs n no_signal).input ≡ false
input_more xs zs n b less h = ap (λ l. (slice_index_or l n no_signal).input) b.whole ∙ (ap (λ x. x.input) (get_or_append_left xs b.rest no_signal n less) ∙ h)

source_more : (all : List Module) (base : ℕ) (xs zs : List Signal) (ys ws : List Memory) (ms ns : List Met) (k : ℕ) (x : Process) → Begins xs zs → Begins ys ws → ((os : List Met) → IsPart os ms → IsPart os ns) →
    Source all base xs ys ms k x → Source all base zs ws ns k x
source_more all base xs zs ys ws ms ns k x b c part (of_assign s) = of_assign (record {
  scope = s.scope;
  good = good_more xs zs ys ws s.scope b c s.good;
  bounded = s.bounded;
  to = s.to;
  value = s.value;
  node = s.node;
  instance = s.instance;
  is = s.is;
  target_sound = s.target_sound;
  value_sound = s.value_sound;
  no_self = s.no_self;
  writings = part _ s.writings;
})
source_more all base xs zs ys ws ms ns k x b c part (of_input s) = of_input (record {
  scope = s.scope;
  good = good_more xs zs ys ws s.scope b c s.good;
  port = s.port;
  label = s.label;
  value = s.value;
  instance = s.instance;
  is = s.is;
  matches = matches_more xs zs s.port b s.matches;
  no_input = input_more xs zs s.port.number b s.matches.number s.no_input;
  above = s.above;
  value_sound = s.value_sound;
  writings = part _ s.writings;
})
source_more all base xs zs ys ws ms ns k x b c part (of_output s) = of_output (record {
  scope = s.scope;
  good = good_more xs zs ys ws s.scope b c s.good;
  bounded = s.bounded;
  port = s.port;
  to = s.to;
  instance = s.instance;
  is = s.is;
  matches = matches_more xs zs s.port b s.matches;
  above = s.above;
  target_sound = s.target_sound;
  writings = part _ s.writings;
})
source_more all base xs zs ys ws ms ns k x b c part (of_block s) = of_block (record {
  scope = s.scope;
  good = good_more xs zs ys ws s.scope b c s.good;
  when = s.when;
  body = s.body;
  line = s.line;
  node = s.node;
  instance = s.instance;
  is = s.is;
  of_module = s.of_module;
  module_in = s.module_in;
  item = s.item;
  item_in = s.item_in;
  form = s.form;
  free = s.free;
  unmixed = s.unmixed;
  writings = part _ s.writings;
})

-- each process has a source
pub record AreMade (all : List Module) (base : ℕ) (st : Sofar) : Type 0 where
  pub made : (p : ℕ) → p < length st.design.processes → Source all base st.design.signals st.design.memories st.met p (slice_index_or st.design.processes p no_process)

made_more : (all : List Module) (base : ℕ) (st now : Sofar) → Continues st now → now.design.processes ≡ st.design.processes → ((os : List Met) → IsPart os st.met → IsPart os now.met) → AreMade all base st → AreMade all base now
made_more all base st now c same part h = record {
  made = λ p less. subst (λ l. Source all base now.design.signals now.design.memories now.met p (slice_index_or l p no_process)) (sym same)
      (source_more all base st.design.signals now.design.signals st.design.memories now.design.memories st.met now.met p _ c.signals c.memories part (h.made p (subst (λ l. p < length l) same less)));
}

-- a process more
made_process : (all : List Module) (base : ℕ) (m : Made) (st : Sofar) → Source all base st.design.signals st.design.memories m.met (length st.design.processes) m.process → AreMade all base st → AreMade all base (add_process m st)
made_process all base m st here h = record { made = λ p less. by_place p less (cases_lt p (length st.design.processes)) }
  where
    after : List Process
    after = st.design.processes ++ m.process ∷ []

    by_place : (p : ℕ) → p < length after → (p < length st.design.processes) ⊎ (length st.design.processes ≤ p) → Source all base st.design.signals st.design.memories (st.met ++ m.met) p (slice_index_or after p no_process)
    by_place p less (inl before) =
        subst (Source all base st.design.signals st.design.memories (st.met ++ m.met) p) (sym (get_or_append_left st.design.processes (m.process ∷ []) no_process p before))
        (source_more all base st.design.signals st.design.signals st.design.memories st.design.memories st.met (st.met ++ m.met) p _ (begins_same st.design.signals) (begins_same st.design.memories) (λ os. part_left os st.met m.met) (h.made p before))
    by_place p less (inr behind) =
        let last : length st.design.processes ≡ p = omega (arith, length-append st.design.processes (m.process ∷ [])) in
        let same : slice_index_or after p no_process ≡ m.process = subst (λ n. slice_index_or after n no_process ≡ m.process) last (get_or-append_seam st.design.processes m.process [] no_process) in
        subst (Source all base st.design.signals st.design.memories (st.met ++ m.met) p) (sym same)
        (subst (λ n. Source all base st.design.signals st.design.memories (st.met ++ m.met) n m.process) last
        (source_more all base st.design.signals st.design.signals st.design.memories st.design.memories m.met (st.met ++ m.met) (length st.design.processes) m.process (begins_same st.design.signals) (begins_same st.design.memories) (λ os. part_right os m.met st.met) here))

-- what was met in a process, in parts
assign_parts : (m : Met) (fs ws ss : List Met) → IsPart ws (m ∷ fs ++ ws ++ ss)
assign_parts m fs ws ss = record { before = m ∷ fs; after = ss; whole = ap (λ l. m ∷ l) (append_assoc fs ws ss) }

output_parts : (m : Met) (fs ws : List Met) → IsPart ws (m ∷ fs ++ ws)
output_parts m fs ws = record { before = m ∷ fs; after = []; whole = ap (λ l. m ∷ (fs ++ l)) (sym (append-nil ws)) }

block_parts : (fs ms ls : List Met) (m : Met) → IsPart ms (fs ++ ms ++ ls ++ m ∷ [])
block_parts fs ms ls m = record { before = fs; after = ls ++ m ∷ []; whole = append_assoc (fs ++ ms) ls (m ∷ []) ∙ append_assoc fs ms (ls ++ m ∷ []) }

-- what is free in an always block
block_free : (fs gs hs : List Fault) (ms : List Met) (m : Met) → IsFree (met_faults fs ++ ms ++ met_faults (gs ++ hs) ++ m ∷ []) → IsFree ms × (gs ≡ [])
block_free fs gs hs ms m h =
    let a = free_parts (met_faults fs ++ ms ++ met_faults (gs ++ hs)) (m ∷ []) h in
    let b = free_parts (met_faults fs ++ ms) (met_faults (gs ++ hs)) a.0 in
    ((free_parts (met_faults fs) ms b.0).1, (both_empty gs hs (free_faults (gs ++ hs) b.1)).0)

-- while ports are joined, no name of the outer scope means the signal of the port
outer_below : (all : List Module) (base : ℕ) (i : Instantiation) (before at now : Sofar) (x : Item) (k : InstanceItem) (m : Module) (o : One) (s : SignalEntry) → Here (KnownIn all) 0 i before at → IsOwn now.design.signals (length at.design.signals) s →
    (y : List ℕ) (r : SignalEntry) → look_up (context base i before).scope y ≡ Some (a_signal r) → r.number < s.number
outer_below all base i before at now x k m o s here own y r found =
    let less : r.number < length at.design.signals = (subst (EntryMatches at.design.signals at.design.memories) found (scope_matches base i before at here.known.0 here.continues y)).number in
    omega (arith, own.from)

made_steps : (base : ℕ) (all : List Module) → AreOfTokens all → Steps base all (AreMade all base) (KnownIn all)
made_steps base all tokens = record {
  meets = λ st h. record { made = λ p less. source_more all base st.design.signals st.design.signals st.design.memories st.design.memories st.met (st.met ++ []) p _ (begins_same st.design.signals) (begins_same st.design.memories) (λ os. part_left os st.met []) (h.made p less) };
  opens = λ depth i st free known h. made_more all base st (opened i st) (continues_opened i st) refl (λ os. part_left os st.met _) h;
  assigns = λ depth i before st here x x_in y v n assigned free h.
      let g = (context base i before).scope in
      let k = length st.design.processes in
      let good : IsGoodScope st.design.signals st.design.memories g = good_scope base all tokens i before st here.known.1 here.opening here.known.0 here.continues in
      let fs = target_faults g Continuous y ++ faults g v in
      let ws = met_writings g Continuous true true k y in
      let rest : IsFree (met_faults fs ++ ws ++ met_faults (self_faults g y v)) = record { no_fault = free.no_fault } in
      let a = free_parts (met_faults fs ++ ws) (met_faults (self_faults g y v)) rest in
      let b = both_empty (target_faults g Continuous y) (faults g v) (free_faults fs (free_parts (met_faults fs) ws a.0).0) in
      made_process all base (made_assign base i before st x.place y v n) st
      (of_assign (record { scope = g; good = good; bounded = scope_bounded i (length before.design.signals) (length before.design.memories); to = y; value = v; node = n; instance = length before.design.instances; is = refl; target_sound = b.0; value_sound = b.1; no_self = free_faults (self_faults g y v) a.1; writings = assign_parts (met_process x.place) (met_faults fs) ws (met_faults (self_faults g y v)) })) h;
  runs = λ depth i before st here x x_in w s l n form free h.
      let g = (context base i before).scope in
      let number = length before.design.instances in
      let k = length st.design.processes in
      let good : IsGoodScope st.design.signals st.design.memories g = good_scope base all tokens i before st here.known.1 here.opening here.known.0 here.continues in
      let ms = met g (mode_of w) k s in
      let f = block_free (when_faults g w) (mixed_faults (writings ms)) (incomplete_faults g w s) ms (met_process x.place) free in
      made_process all base (always base g number k x.place w s l n) st
      (of_block (record { scope = g; good = good; when = w; body = s; line = l; node = n; instance = number; is = refl; of_module = i.of_module; module_in = here.known.1; item = x; item_in = x_in; form = form; free = f.0; unmixed = f.1; writings = block_parts (met_faults (when_faults g w)) ms (met_faults (mixed_faults (writings ms) ++ incomplete_faults g w s)) (met_process x.place) })) h;
  inputs = λ depth i before at st x k m o inside j s joined way free h.
      let inner = inner_of (context base i before) x.place k m o in
      let g = (context base i before).scope in
      let p = length st.design.processes in
      let outer : Continues (opened i before) st = continues_twice inside.outer.continues (continues_twice (continues_opened inner at) inside.continues) in
      let good : IsGoodScope st.design.signals st.design.memories g = good_scope base all tokens i before st inside.outer.known.1 inside.outer.opening inside.outer.known.0 outer in
      let own = port_own base i before at st x k m o j s joined inside.continues in
      let matches : MatchesSignal st.design.signals s = subst (EntryMatches st.design.signals st.design.memories) joined.entry (scope_matches base inner at st inside.known.0 inside.continues j.port.name.name) in
      let fs = faults g j.value in
      let rest : IsFree (met_faults fs ++ met_writing (whole_writing p j.label s) ∷ []) = record { no_fault = free.no_fault } in
      made_process all base (made_input base i before st x.place j s) st
      (of_input (record { scope = g; good = good; port = s; label = j.label; value = j.value; instance = length before.design.instances; is = refl; matches = matches; no_input = own.no_input; above = outer_below all base i before at st x k m o s (record { opening = inside.outer.opening; known = inside.outer.known; continues = inside.outer.continues }) own; value_sound = free_faults fs (free_parts (met_faults fs) (met_writing (whole_writing p j.label s) ∷ []) rest).0; writings = output_parts (met_process x.place) (met_faults fs) (met_writing (whole_writing p j.label s) ∷ []) })) h;
  outputs = λ depth i before at st x k m o inside j s joined way free h.
      let inner = inner_of (context base i before) x.place k m o in
      let g = (context base i before).scope in
      let p = length st.design.processes in
      let outer : Continues (opened i before) st = continues_twice inside.outer.continues (continues_twice (continues_opened inner at) inside.continues) in
      let good : IsGoodScope st.design.signals st.design.memories g = good_scope base all tokens i before st inside.outer.known.1 inside.outer.opening inside.outer.known.0 outer in
      let own = port_own base i before at st x k m o j s joined inside.continues in
      let matches : MatchesSignal st.design.signals s = subst (EntryMatches st.design.signals st.design.memories) joined.entry (scope_matches base inner at st inside.known.0 inside.continues j.port.name.name) in
      let fs = target_faults g Continuous j.value in
      let ws = met_writings g Continuous true true p j.value in
      let rest : IsFree (met_faults fs ++ ws) = record { no_fault = free.no_fault } in
      made_process all base (made_output base i before st x.place j s) st
      (of_output (record { scope = g; good = good; bounded = scope_bounded i (length before.design.signals) (length before.design.memories); port = s; to = j.value; instance = length before.design.instances; is = refl; matches = matches; above = outer_below all base i before at st x k m o s (record { opening = inside.outer.opening; known = inside.outer.known; continues = inside.outer.continues }) own; target_sound = free_faults fs (free_parts (met_faults fs) ws rest).0; writings = output_parts (met_process x.place) (met_faults fs) ws })) h;
  below = λ depth i before st here h x k m o under. known_in_below base all depth i before st here x k m o under;
}

-- each process of the design was made from an item
pub elaborated_made : (all : List Module) (top : List ℕ) → AreOfTokens all → IsSound all top → AreMade all (base_of all top) (elaborated all top)
elaborated_made all top tokens sound =
    answered_keeps all top (AreMade all (base_of all top)) (KnownIn all) (made_steps (base_of all top) all tokens)
    (λ m found. (known_top top m, found_in (λ z. bytes_eq z.name.name top) all m found)) (record { made = λ p less. absurd (omega arith) }) sound

-- a process by its number has a source, or is no process
pub source_at : (all : List Module) (base : ℕ) (st : Sofar) → AreMade all base st → (p : ℕ) → Source all base st.design.signals st.design.memories st.met p (slice_index_or st.design.processes p no_process) ⊎ (slice_index_or st.design.processes p no_process ≡ no_process)
source_at all base st h p = by_place (cases_lt p (length st.design.processes))
  where
    by_place : (p < length st.design.processes) ⊎ (length st.design.processes ≤ p) → Source all base st.design.signals st.design.memories st.met p (slice_index_or st.design.processes p no_process) ⊎ (slice_index_or st.design.processes p no_process ≡ no_process)
    by_place (inl less) = inl (h.made p less)
    by_place (inr more) = inr (get_or_past st.design.processes p no_process more)

-- an always block is no assignment
pub block_no_assign : (all : List Module) (base : ℕ) (xs : List Signal) (ys : List Memory) (ms : List Met) (k : ℕ) (x : Process) → IsBlock all base xs ys ms k x → IsAssign x → ⊥
block_no_assign all base xs ys ms k x s a = by_list s.when (subst IsAssign s.is a)
  where
    by_list : (w : When) → IsAssign (process_of s.scope s.instance w s.body (statement base s.scope s.body s.line s.node)) → ⊥
    by_list Star h = h
    by_list (Names xs) h = h
    by_list (Edges es) h = h
