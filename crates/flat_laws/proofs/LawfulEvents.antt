-- The aliases, lists of names and edges of a design that is answered name its signals.
use Rattle.std.proofs.Common.{◌≡◌, ◌⊎◌, inl, inr, ℕ, zero, suc, ◌+◌, ◌<◌, ◌≤◌, ◌==◌, Bool, true, false, not, ◌&&◌, cond, nat_lt, List, [], ◌∷◌, ◌++◌, Option, Some, None, Ok, refl, sym, ap, ◌∙◌, subst, length, map, arith, length-append, slice_index_or}
use Rattle.std.specs.List.{list_all, filter, flat_map}
use Rattle.std.specs.Prelude.{bytes_eq}
use Rattle.std.proofs.lemmas.Bool.{false≢true, lt-ltb, eq-eqb, eqb-true}
use Rattle.std.proofs.lemmas.List.{get_or_append_left}
use Rattle.four_state.specs.declared.edge.Edge.{Edge}
use Rattle.design_model.specs.Design.{Design, In, no_signal, no_process, process_at, signal_at}
use Rattle.design_model.specs.Lawful as law
use Rattle.design_model.specs.Lawful.{wakes_of}
use Rattle.design_model.specs.Machine.{events_of}
use Rattle.design_model.specs.Tree.{Process, Stmt}
use Rattle.design_model.specs.declared.design.Alias.{Alias}
use Rattle.design_model.specs.declared.design.Memory.{Memory}
use Rattle.design_model.specs.declared.design.Signal.{Signal}
use Rattle.verilog_tree.specs.declared.item.Named.{Named}
use Rattle.verilog_tree.specs.declared.item.When.{When}
use Rattle.verilog_tree.specs.declared.item.When.TheVariants.{Star, Names, Edges}
use Rattle.verilog_tree.specs.Tree.{Module, Item, InstanceItem, One, Statement}
use Rattle.flat_design.specs.Bodies.{Met, met_faults, text_reads}
use Rattle.flat_design.specs.Connections.{declaration_of}
use Rattle.flat_design.specs.Declarations.{Declaration}
use Rattle.flat_design.specs.Fault.{Fault}
use Rattle.flat_design.specs.Faults.{answer}
use Rattle.flat_design.specs.Flat.{start, elaborated, top_instance}
use Rattle.flat_design.specs.Instances.{Instantiation, Sofar, add_process, opened, context, declared, alias_number, alias_of, alias_to, signal_of, is_own}
use Rattle.flat_design.specs.Processes.{Made, process_of, when_faults, edge_faults, signal_numbers, listed_signals, events}
use Rattle.flat_design.specs.Scope.{Scope, look_up, range_width}
use Rattle.flat_design.specs.declared.entry.Entry.{Entry}
use Rattle.flat_design.specs.declared.entry.Entry.TheVariants.{Constant as a_constant, Turn as a_turn, Signal as a_signal, Memory as a_memory, LoopVariable as a_loop_variable, Instance as an_instance, NoConstant as no_constant, Faulty as a_faulty_one}
use Rattle.flat_laws.proofs.Freedom.{IsFree, IsSound, answered_sound, both_empty, free_parts, free_faults, not_told}
use Rattle.flat_laws.proofs.LawfulLimits.{base_of, answered_keeps, answered_design}
use Rattle.flat_laws.proofs.LawfulScope.{HasAliases, ScopeMatches, EntryMatches, aliases_match, found_passes, same_bytes, bytes_same, scope_matches}
use Rattle.flat_laws.proofs.Members.{in_append, in_map, in_flat_map, all_of_members}
use Rattle.flat_laws.proofs.Steps.{Steps, IsBelow, Here, inner_of}

-- what is known of an instance that is to be opened: its aliases are as its ports
abbrev pub Known : ℕ → Instantiation → Sofar → Type 0
Known depth i st = HasAliases st.design.signals i

pub known_top : (top : List ℕ) (m : Module) → HasAliases (start top).design.signals (top_instance top m)
known_top top m x d n found alias = absurd cc

pub known_below : (base : ℕ) (ms : List Module) (depth : ℕ) (i : Instantiation) (before st : Sofar) → Here Known depth i before st → (x : Item) (k : InstanceItem) (m : Module) (o : One) → IsBelow base ms i before x k m o →
    HasAliases st.design.signals (inner_of (context base i before) x.place k m o)
known_below base ms depth i before st here x k m o under =
    aliases_match st.design.signals st.design.memories base (context base i before) x.place k m o (scope_matches base i before st here.known here.continues)

-- the numbers of the signals that a name means
pub number_in : (xs : List Signal) (ys : List Memory) (e : Option Entry) (y : ℕ) → EntryMatches xs ys e → In y (signal_numbers e) → y < length xs
number_in xs ys (Some (a_signal s)) y h (inl e) = subst (λ z. z < length xs) e h.number
number_in xs ys (Some (a_signal s)) y h (inr k) = absurd k
number_in xs ys None y h k = absurd k
number_in xs ys (Some (a_constant v)) y h k = absurd k
number_in xs ys (Some (a_turn v)) y h k = absurd k
number_in xs ys (Some (a_memory m)) y h k = absurd k
number_in xs ys (Some a_loop_variable) y h k = absurd k
number_in xs ys (Some an_instance) y h k = absurd k
number_in xs ys (Some no_constant) y h k = absurd k
number_in xs ys (Some a_faulty_one) y h k = absurd k

-- an edge is of a signal of one bit
pub record OneBit (xs : List Signal) (y : ℕ) : Type 0 where
  pub number : y < length xs
  pub width : (slice_index_or xs y no_signal).width ≡ 1

edge_in : (xs : List Signal) (ys : List Memory) (e : Option Entry) (x : Named) (y : ℕ) → EntryMatches xs ys e → edge_faults e x ≡ [] → In y (signal_numbers e) → OneBit xs y
edge_in xs ys (Some (a_signal s)) x y h free (inl e) = subst (OneBit xs) e (record { number = h.number; width = h.width ∙ eqb-true (range_width s.range) 1 (by_test (range_width s.range == 1) (not_told _ _ free)) })
  where
    by_test : (b : Bool) → not b ≡ false → b ≡ true
    by_test true k = refl
    by_test false k = absurd (false≢true (sym k))
edge_in xs ys (Some (a_signal s)) x y h free (inr k) = absurd k
edge_in xs ys None x y h free k = absurd k
edge_in xs ys (Some (a_constant v)) x y h free k = absurd k
edge_in xs ys (Some (a_turn v)) x y h free k = absurd k
edge_in xs ys (Some (a_memory m)) x y h free k = absurd k
edge_in xs ys (Some a_loop_variable) x y h free k = absurd k
edge_in xs ys (Some an_instance) x y h free k = absurd k
edge_in xs ys (Some no_constant) x y h free k = absurd k
edge_in xs ys (Some a_faulty_one) x y h free k = absurd k

pub each_empty : {A B : Type 0} (f : A → List B) (xs : List A) (x : A) → flat_map f xs ≡ [] → In x xs → f x ≡ []
each_empty f [] x e h = absurd h
each_empty f (y ∷ ys) x e (inl same) = subst (λ z. f z ≡ []) same (both_empty (f y) (flat_map f ys) e).0
each_empty f (y ∷ ys) x e (inr h) = each_empty f ys x (both_empty (f y) (flat_map f ys) e).1 h

events_in : (xs : List Signal) (ys : List Memory) (g : Scope) → ScopeMatches xs ys g → (es : List (Edge × Named)) → when_faults g (Edges es) ≡ [] → (v : Edge × ℕ) → In v (events g es) → OneBit xs v.1
events_in xs ys g all es free v h =
    let k = in_flat_map _ v es h in
    let l = in_map (λ s. (k.0.0, s)) v (signal_numbers (look_up g k.0.1.name)) k.2 in
    subst (λ z. OneBit xs z) (ap (λ z. z.1) l.2) (edge_in xs ys (look_up g k.0.1.name) k.0.1 l.0 (all k.0.1.name) (each_empty _ es k.0 free k.1) l.1)

-- the lists of names and edges of a process name signals
pub record WakesIn (xs : List Signal) (x : Process) : Type 0 where
  pub wakes : (y : ℕ) → In y (wakes_of x) → y < length xs
  pub events : (v : Edge × ℕ) → In v (events_of x) → OneBit xs v.1

listed_in : (xs : List Signal) (ys : List Memory) (g : Scope) → ScopeMatches xs ys g → (ns : List Named) (y : ℕ) → In y (listed_signals g ns) → y < length xs
listed_in xs ys g all ns y h = let k = in_flat_map (λ x. signal_numbers (look_up g x.name)) y ns h in number_in xs ys (look_up g k.0.name) y (all k.0.name) k.2

process_wakes : (xs : List Signal) (ys : List Memory) (g : Scope) → ScopeMatches xs ys g → (n : ℕ) (w : When) (text : Statement) (s : Stmt) → when_faults g w ≡ [] → WakesIn xs (process_of g n w text s)
process_wakes xs ys g all n Star text s free = record { wakes = listed_in xs ys g all (text_reads text); events = λ v h. absurd h }
process_wakes xs ys g all n (Names ns) text s free = record { wakes = listed_in xs ys g all ns; events = λ v h. absurd h }
process_wakes xs ys g all n (Edges es) text s free = record { wakes = λ y h. absurd h; events = events_in xs ys g all es free }

record IsWoken (st : Sofar) : Type 0 where
  aliases : (a : Alias) → In a st.design.aliases → (a.instance < length st.design.instances) × (a.signal < length st.design.signals)
  processes : (x : Process) → In x st.design.processes → WakesIn st.design.signals x

one_bit_more : (xs zs : List Signal) (y : ℕ) → OneBit xs y → OneBit (xs ++ zs) y
one_bit_more xs zs y h = record { number = omega (arith, h.number, length-append xs zs); width = ap (λ x. x.width) (get_or_append_left xs zs no_signal y h.number) ∙ h.width }

wakes_more : (xs zs : List Signal) (x : Process) → WakesIn xs x → WakesIn (xs ++ zs) x
wakes_more xs zs x h = record {
  wakes = λ y k. let before : y < length xs = h.wakes y k in omega (arith, length-append xs zs);
  events = λ v k. one_bit_more xs zs v.1 (h.events v k);
}

-- the first declaration of a name that is declared
found_of_in : (ds : List Declaration) (d : Declaration) → In d ds → (e : Declaration) × (declaration_of ds d.name.name ≡ Some e)
found_of_in [] d h = absurd h
found_of_in (c ∷ ds) d h = by_name (found_of_in ds d) (bytes_eq c.name.name d.name.name) refl h
  where
    by_name : (In d ds → (e : Declaration) × (declaration_of ds d.name.name ≡ Some e)) → (b : Bool) → bytes_eq c.name.name d.name.name ≡ b → In d (c ∷ ds) → (e : Declaration) × (cond b (Some c) (declaration_of ds d.name.name) ≡ Some e)
    by_name rest true is k = (c, refl)
    by_name rest false is (inl same) = absurd (false≢true (sym is ∙ bytes_same c.name.name d.name.name (ap (λ z. z.name.name) same)))
    by_name rest false is (inr k) = rest k

-- an alias that an instance adds
alias_in : (i : Instantiation) (st : Sofar) → HasAliases st.design.signals i → (n : ℕ) (a : Alias) → In a (flat_map (alias_of n i.aliases) (declared i.overrides i.of_module)) → (a.instance ≡ n) × (a.signal < length st.design.signals)
alias_in i st known n a h =
    let ds : List Declaration = declared i.overrides i.of_module in
    let k = in_flat_map (alias_of n i.aliases) a ds h in
    let f = found_of_in ds k.0 k.1 in
    let same : f.0.name.name ≡ k.0.name.name = same_bytes f.0.name.name k.0.name.name (found_passes (λ z. bytes_eq z.name.name k.0.name.name) ds f.0 f.1) in
    by_alias k.0.name.name (alias_number i.aliases k.0.name.name) (λ m e. (known k.0.name.name f.0 m f.1 (ap (alias_number i.aliases) same ∙ e)).number) k.2
  where
    by_alias : (x : List ℕ) (m : Option ℕ) → ((l : ℕ) → m ≡ Some l → l < length st.design.signals) → In a (alias_to n x m) → (a.instance ≡ n) × (a.signal < length st.design.signals)
    by_alias x None f k = absurd k
    by_alias x (Some l) f (inl e) = (sym (ap (λ z. z.instance) e), subst (λ z. z < length st.design.signals) (ap (λ z. z.signal) e) (f l refl))
    by_alias x (Some l) f (inr k) = absurd k

woken_opened : (i : Instantiation) (st : Sofar) → HasAliases st.design.signals i → IsWoken st → IsWoken (opened i st)
woken_opened i st known h = record {
  aliases = λ a k. by_alias a (in_append a st.design.aliases _ k);
  processes = λ x k. wakes_more st.design.signals _ x (h.processes x k);
}
  where
    more_instances : length (opened i st).design.instances ≡ length st.design.instances + 1
    more_instances = length-append st.design.instances (record { path = i.path; «module» = i.of_module.name.name } ∷ [])

    more_signals : length st.design.signals ≤ length (opened i st).design.signals
    more_signals = omega (arith, length-append st.design.signals (map (signal_of (length st.design.instances) i.is_top) (filter (is_own i.aliases i.of_module) (declared i.overrides i.of_module))))

    by_alias : (a : Alias) → In a st.design.aliases ⊎ In a (flat_map (alias_of (length st.design.instances) i.aliases) (declared i.overrides i.of_module)) →
        (a.instance < length (opened i st).design.instances) × (a.signal < length (opened i st).design.signals)
    by_alias a (inl k) =
        let p = h.aliases a k in
        let first : a.instance < length st.design.instances = p.0 in
        let second : a.signal < length st.design.signals = p.1 in
        (omega (arith, more_instances), omega (arith, more_signals))
    by_alias a (inr k) =
        let p = alias_in i st known (length st.design.instances) a k in
        let first : a.instance ≡ length st.design.instances = p.0 in
        let second : a.signal < length st.design.signals = p.1 in
        (omega (arith, more_instances), omega (arith, more_signals))

woken_process : (m : Made) (st : Sofar) → WakesIn st.design.signals m.process → IsWoken st → IsWoken (add_process m st)
woken_process m st here h = record { aliases = h.aliases; processes = λ x k. by_place x (in_append x st.design.processes (m.process ∷ []) k) }
  where
    by_place : (x : Process) → In x st.design.processes ⊎ In x (m.process ∷ []) → WakesIn st.design.signals x
    by_place x (inl k) = h.processes x k
    by_place x (inr (inl e)) = subst (WakesIn st.design.signals) e here
    by_place x (inr (inr k)) = absurd k

-- a process without lists
none_woken : (xs : List Signal) (x : Process) → wakes_of x ≡ [] → events_of x ≡ [] → WakesIn xs x
none_woken xs x a b = record { wakes = λ y h. absurd (subst (λ l. In y l) a h); events = λ v h. absurd (subst (λ l. In v l) b h) }

-- the faults of a list of an always block
pub when_free : (fs : List Fault) (ms ns os : List Met) → IsFree (met_faults fs ++ ms ++ ns ++ os) → fs ≡ []
when_free fs ms ns os h = free_faults fs (free_parts (met_faults fs) ms (free_parts (met_faults fs ++ ms) ns (free_parts (met_faults fs ++ ms ++ ns) os h).0).0).0

woken_steps : (base : ℕ) (ms : List Module) → Steps base ms IsWoken Known
woken_steps base ms = record {
  meets = λ st h. record { aliases = h.aliases; processes = h.processes };
  opens = λ depth i st free known h. woken_opened i st known h;
  assigns = λ depth i before st here x x_in y v n assigned free h. woken_process _ st (none_woken st.design.signals _ refl refl) h;
  runs = λ depth i before st here x x_in w s l n form free h.
      woken_process _ st (process_wakes st.design.signals st.design.memories (context base i before).scope (scope_matches base i before st here.known here.continues) (length before.design.instances) w s _ (when_free (when_faults (context base i before).scope w) _ _ _ free)) h;
  inputs = λ depth i before at st x k m o inside j s joined way free h. woken_process _ st (none_woken st.design.signals _ refl refl) h;
  outputs = λ depth i before at st x k m o inside j s joined way free h. woken_process _ st (none_woken st.design.signals _ refl refl) h;
  below = λ depth i before st here h x k m o under. known_below base ms depth i before st here x k m o under;
}

answered_woken : (ms : List Module) (top : List ℕ) → IsSound ms top → IsWoken (elaborated ms top)
answered_woken ms top sound = answered_keeps ms top IsWoken Known (woken_steps (base_of ms top) ms) (λ m found. known_top top m) (record { aliases = λ a h. absurd h; processes = λ x h. absurd h }) sound

-- what holds of each process of the design, and of the one that represents no process, holds of the process with any number
pub at_process : (P : Process → Type 0) (xs : List Process) (p : ℕ) → ((x : Process) → In x xs → P x) → P no_process → P (slice_index_or xs p no_process)
at_process P [] p h none_of = none_of
at_process P (x ∷ xs) zero h none_of = h x (inl refl)
at_process P (x ∷ xs) (suc p) h none_of = at_process P xs p (λ y k. h y (inr k)) none_of

pub record AreWoken (d : Design) : Type 0 where
  pub aliases : list_all (law.is_alias d) d.aliases ≡ true
  pub lists : (p : ℕ) → list_all (λ x. nat_lt x (length d.signals)) (wakes_of (process_at d p)) ≡ true
  pub events : (p : ℕ) → list_all (λ e. nat_lt e.1 (length d.signals) && ((signal_at d e.1).width == 1)) (events_of (process_at d p)) ≡ true

elaborated_woken : (st : Sofar) → IsWoken st → AreWoken st.design
elaborated_woken st h = record {
  aliases = all_of_members (law.is_alias st.design) st.design.aliases (λ a k. let p = h.aliases a k in rw (lt-ltb a.instance (length st.design.instances) p.0, lt-ltb a.signal (length st.design.signals) p.1));
  lists = λ p. all_of_members (λ x. nat_lt x (length st.design.signals)) (wakes_of (process_at st.design p)) (λ y k. lt-ltb y (length st.design.signals) ((at p).wakes y k));
  events = λ p. all_of_members _ (events_of (process_at st.design p)) (λ v k. let one = (at p).events v k in rw (lt-ltb v.1 (length st.design.signals) one.number, eq-eqb (signal_at st.design v.1).width 1 one.width));
}
  where
    at : (p : ℕ) → WakesIn st.design.signals (process_at st.design p)
    at p = at_process (WakesIn st.design.signals) st.design.processes p h.processes (none_woken st.design.signals no_process refl refl)

pub answered_wakes : (ms : List Module) (top : List ℕ) (d : Design) → answer ms top ≡ Ok d → AreWoken d
answered_wakes ms top d e = subst AreWoken (answered_design ms top d e) (elaborated_woken (elaborated ms top) (answered_woken ms top (answered_sound ms top d e)))
