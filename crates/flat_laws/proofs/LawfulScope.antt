-- The signals and memories of a scope are those of the design.
use Rattle.std.proofs.Common.{◌≡◌, ◌==◌, inl, inr, ℕ, ◌+◌, ◌<◌, Bool, true, false, not, ◌&&◌, cond, List, [], ◌∷◌, ◌++◌, Option, Some, None, refl, sym, ap, ◌∙◌, subst, length, map, arith, length-append, append_assoc, append-nil, if◌then◌else◌, slice_index_or}
use Rattle.std.specs.List.{filter, flat_map, find}
use Rattle.std.specs.Prelude.{bytes_eq, is_none, unwrap_or}
use Rattle.std.proofs.lemmas.Bool.{false≢true, and_parts, eqb-true}
use Rattle.std.proofs.lemmas.List.{get_or_append_left}
use Rattle.std.proofs.lemmas.Slice.Eq.{bytes_eq-Decides}
use Rattle.std.proofs.Math.Seq.{get_or-append_seam}
use Rattle.cov_host.specs.declared.place.Place.{Place}
use Rattle.design_model.specs.Design.{In, no_signal, no_memory}
use Rattle.design_model.specs.Shape.{same_bool}
use Rattle.design_model.specs.declared.design.Memory.{Memory}
use Rattle.design_model.specs.declared.design.Range.{Range}
use Rattle.design_model.specs.declared.design.Signal.{Signal}
use Rattle.verilog_tree.specs.declared.item.Named.{Named}
use Rattle.verilog_tree.specs.Tree.{Expr, Module, One, InstanceItem, Param, identifier}
use Rattle.flat_design.specs.Connections.{overrides, Joined, as_alias, by_assignment, not_joined, takes_output, joined_name, joining, joined_faults, JoinedPort, Connection, connections, connection_of, declaration_of, is_sound_port, with_value, with_connection, declared_port, joined_port, alias_as, port_alias}
use Rattle.flat_design.specs.Declarations.{Declaration, Override, Sort, a_net, a_variable, words_from, an_integer, a_parameter, some_instance, faulty, faulty_memory, is_net, names_parameter, same_range, param_entry, param_faults, is_sound_vector, typed_value, overridden, with_param, constants_from}
use Rattle.flat_design.specs.Identifiers.{params_of}
use Rattle.flat_design.specs.Instances.{Instantiation, Sofar, PortAliases, opened, Context, context, constants, other_names, own_constants, declared, declared_entry, other_entry, entries, alias_number, is_own, is_memory, is_signal, is_input, signal_entry, signal_of, memory_of, sort_words, is_memory_sort}
use Rattle.flat_design.specs.Numbering.{one_if}
use Rattle.flat_design.specs.Scope.{Scope, Bindings, binding_of, entry_or, look_up, range_or, range_width, with_bindings, names_faulty, constant}
use Rattle.flat_design.specs.declared.entry.Entry.{Entry}
use Rattle.flat_design.specs.declared.entry.Entry.TheVariants.{Constant as a_constant, Turn as a_turn, Signal as a_signal, Memory as a_memory, LoopVariable as a_loop_variable, Instance as an_instance, NoConstant as no_constant, Faulty as a_faulty_one}
use Rattle.flat_design.specs.declared.entry.SignalEntry.{SignalEntry}
use Rattle.flat_design.specs.declared.entry.MemoryEntry.{MemoryEntry}
use Rattle.flat_design.specs.Fault.{none}
use Rattle.flat_laws.proofs.Continues.{Begins, begins_more, begins_twice, Continues}
use Rattle.flat_laws.proofs.Members.{in_flat_map}
use Rattle.flat_laws.proofs.Steps.{inner_of, ports_of}

-- the entry is that of a signal of the list
pub record MatchesSignal (xs : List Signal) (s : SignalEntry) : Type 0 where
  pub number : s.number < length xs
  pub high : (slice_index_or xs s.number no_signal).high ≡ (range_or s.range).high
  pub low : (slice_index_or xs s.number no_signal).low ≡ (range_or s.range).low
  pub width : (slice_index_or xs s.number no_signal).width ≡ range_width s.range
  pub signed : (slice_index_or xs s.number no_signal).signed ≡ s.signed
  pub input : s.input ≡ false → (slice_index_or xs s.number no_signal).input ≡ false

-- the entry is that of a memory of the list
pub record MatchesMemory (ys : List Memory) (m : MemoryEntry) : Type 0 where
  pub number : m.number < length ys
  pub first : (slice_index_or ys m.number no_memory).first ≡ m.words.high
  pub last : (slice_index_or ys m.number no_memory).last ≡ m.words.low
  pub high : (slice_index_or ys m.number no_memory).high ≡ (range_or m.range).high
  pub low : (slice_index_or ys m.number no_memory).low ≡ (range_or m.range).low
  pub width : (slice_index_or ys m.number no_memory).width ≡ range_width m.range
  pub signed : (slice_index_or ys m.number no_memory).signed ≡ m.signed

-- what a name means is in the lists
abbrev pub EntryMatches : List Signal → List Memory → Option Entry → Type 0
EntryMatches xs ys (Some (a_signal s)) = MatchesSignal xs s
EntryMatches xs ys (Some (a_memory m)) = MatchesMemory ys m
EntryMatches xs ys _ = Unit {0}

abbrev pub ScopeMatches : List Signal → List Memory → Scope → Type 0
ScopeMatches xs ys g = (x : List ℕ) → EntryMatches xs ys (look_up g x)

-- a signal by this number, as a declared name sees it
abbrev pub seen_as : ℕ → Declaration → SignalEntry
seen_as n d = record { number = n; range = d.range; signed = d.signed; net = is_net d.sort; input = is_input d }

-- the ports that are other names of signals are as these
abbrev pub HasAliases : List Signal → Instantiation → Type 0
HasAliases xs i =
    (x : List ℕ) (d : Declaration) (n : ℕ) → declaration_of (declared i.overrides i.of_module) x ≡ Some d → alias_number i.aliases d.name.name ≡ Some n → MatchesSignal xs (seen_as n d)

pub matches_more : (xs ys : List Signal) (s : SignalEntry) → Begins xs ys → MatchesSignal xs s → MatchesSignal ys s
matches_more xs ys s b h =
    subst (λ zs. MatchesSignal zs s) (sym b.whole)
    (let same : slice_index_or (xs ++ b.rest) s.number no_signal ≡ slice_index_or xs s.number no_signal = get_or_append_left xs b.rest no_signal s.number h.number in
    record {
      number = omega (arith, h.number, length-append xs b.rest);
      high = ap (λ x. x.high) same ∙ h.high;
      low = ap (λ x. x.low) same ∙ h.low;
      width = ap (λ x. x.width) same ∙ h.width;
      signed = ap (λ x. x.signed) same ∙ h.signed;
      input = λ e. ap (λ x. x.input) same ∙ h.input e;
    })

pub same_bytes : (xs ys : List ℕ) → bytes_eq xs ys ≡ true → xs ≡ ys
same_bytes xs ys h = (bytes_eq-Decides xs ys).0 h

pub bytes_same : (xs ys : List ℕ) → xs ≡ ys → bytes_eq xs ys ≡ true
bytes_same xs ys h = (bytes_eq-Decides xs ys).1 h

bytes_apart : (xs ys : List ℕ) → bytes_eq xs ys ≡ false → bytes_eq ys xs ≡ false
bytes_apart xs ys h = by_test (bytes_eq ys xs) refl
  where
    by_test : (b : Bool) → bytes_eq ys xs ≡ b → b ≡ false
    by_test false is = refl
    by_test true is = absurd (false≢true (sym h ∙ bytes_same xs ys (sym (same_bytes ys xs is))))

-- one more element, where the test holds
pub step_whole : {A B : Type 0} (f : A → B) (b : Bool) (x : A) (zs : List A) (fs rs : List B) → fs ++ (map f (cond b (x ∷ zs) zs) ++ rs) ≡ (fs ++ map f (cond b (x ∷ []) [])) ++ (map f zs ++ rs)
step_whole f true x zs fs rs = sym (append_assoc fs (f x ∷ []) (map f zs ++ rs))
step_whole f false x zs fs rs = ap (λ l. l ++ (map f zs ++ rs)) (sym (append-nil fs))

pub step_length : {A B : Type 0} (f : A → B) (b : Bool) (x : A) (fs : List B) → length (fs ++ map f (cond b (x ∷ []) [])) ≡ length fs + one_if b
step_length f true x fs = length-append fs (f x ∷ [])
step_length f false x fs = length-append fs []

own_matches : (number : ℕ) (top : Bool) (d : Declaration) (xs fs rs : List Signal) → xs ≡ fs ++ (signal_of number top d ∷ rs) → MatchesSignal xs (seen_as (length fs) d)
own_matches number top d xs fs rs e =
    let at : slice_index_or xs (length fs) no_signal ≡ signal_of number top d = ap (λ l. slice_index_or l (length fs) no_signal) e ∙ get_or-append_seam fs (signal_of number top d) rs no_signal in
    record {
      number = omega (arith, ap length e, length-append fs (signal_of number top d ∷ rs));
      high = ap (λ x. x.high) at;
      low = ap (λ x. x.low) at;
      width = ap (λ x. x.width) at;
      signed = ap (λ x. x.signed) at;
      input = λ h. ap (λ x. x.input) at ∙ no_input top (is_input d) h;
    }
  where
    no_input : (a b : Bool) → b ≡ false → (a && b) ≡ false
    no_input true b h = h
    no_input false b h = refl

memory_matches : (number : ℕ) (d : Declaration) (r : Range) (ys fs rs : List Memory) → d.sort ≡ words_from r → ys ≡ fs ++ (memory_of number d ∷ rs) →
    MatchesMemory ys (record { number = length fs; words = r; range = d.range; signed = d.signed })
memory_matches number d r ys fs rs sort e =
    let at : slice_index_or ys (length fs) no_memory ≡ memory_of number d = ap (λ l. slice_index_or l (length fs) no_memory) e ∙ get_or-append_seam fs (memory_of number d) rs no_memory in
    record {
      number = omega (arith, ap length e, length-append fs (memory_of number d ∷ rs));
      first = ap (λ x. x.first) at ∙ ap (λ s. (sort_words s).high) sort;
      last = ap (λ x. x.last) at ∙ ap (λ s. (sort_words s).low) sort;
      high = ap (λ x. x.high) at;
      low = ap (λ x. x.low) at;
      width = ap (λ x. x.width) at;
      signed = ap (λ x. x.signed) at;
    }

-- the first declaration of a list, by what it is
declared_matches : (aliases : PortAliases) (m : Module) (number : ℕ) (top : Bool) (d : Declaration) (ds : List Declaration) (xs fs rs : List Signal) (ys ks us : List Memory) →
    xs ≡ fs ++ (map (signal_of number top) (filter (is_own aliases m) (d ∷ ds)) ++ rs) → ys ≡ ks ++ (map (memory_of number) (filter is_memory (d ∷ ds)) ++ us) →
    ((n : ℕ) → alias_number aliases d.name.name ≡ Some n → MatchesSignal xs (seen_as n d)) →
    EntryMatches xs ys (Some (declared_entry aliases m (length fs) (length ks) d))
declared_matches aliases m number top d ds xs fs rs ys ks us e1 e2 aliased = by_signal (is_signal m d) refl
  where
    by_alias : is_signal m d ≡ true → (a : Option ℕ) → alias_number aliases d.name.name ≡ a → MatchesSignal xs (seen_as (unwrap_or a (length fs)) d)
    by_alias is (Some n) found = aliased n found
    by_alias is None found =
        let own : is_own aliases m d ≡ true = rw (is, found) refl in
        own_matches number top d xs fs _ (subst (λ b. xs ≡ fs ++ (map (signal_of number top) (cond b (d ∷ filter (is_own aliases m) ds) (filter (is_own aliases m) ds)) ++ rs)) own e1)

    by_sort : (s : Sort) → d.sort ≡ s → EntryMatches xs ys (Some (other_entry (length ks) d s))
    by_sort (words_from r) is =
        memory_matches number d r ys ks _ is (subst (λ b. ys ≡ ks ++ (map (memory_of number) (cond b (d ∷ filter is_memory ds) (filter is_memory ds)) ++ us)) (ap is_memory_sort is) e2)
    by_sort a_net is = tt
    by_sort a_variable is = tt
    by_sort an_integer is = tt
    by_sort a_parameter is = tt
    by_sort some_instance is = tt
    by_sort faulty is = tt
    by_sort faulty_memory is = tt

    by_signal : (b : Bool) → is_signal m d ≡ b → EntryMatches xs ys (Some (if b then signal_entry (unwrap_or (alias_number aliases d.name.name) (length fs)) d else other_entry (length ks) d d.sort))
    by_signal true is = by_alias is (alias_number aliases d.name.name) refl
    by_signal false is = by_sort d.sort refl

entries_match : (aliases : PortAliases) (m : Module) (number : ℕ) (top : Bool) (ds : List Declaration) (xs fs rs : List Signal) (ys ks us : List Memory) (s k : ℕ) (x : List ℕ) →
    xs ≡ fs ++ (map (signal_of number top) (filter (is_own aliases m) ds) ++ rs) → ys ≡ ks ++ (map (memory_of number) (filter is_memory ds) ++ us) → length fs ≡ s → length ks ≡ k →
    ((d : Declaration) (n : ℕ) → declaration_of ds x ≡ Some d → alias_number aliases d.name.name ≡ Some n → MatchesSignal xs (seen_as n d)) →
    EntryMatches xs ys (binding_of (entries aliases m s k ds) x)
entries_match aliases m number top [] xs fs rs ys ks us s k x e1 e2 s_is k_is aliased = tt
entries_match aliases m number top (d ∷ ds) xs fs rs ys ks us s k x e1 e2 s_is k_is aliased =
    by_name
    (λ other. entries_match aliases m number top ds xs (fs ++ map (signal_of number top) (cond (is_own aliases m d) (d ∷ []) [])) rs ys (ks ++ map (memory_of number) (cond (is_memory d) (d ∷ []) [])) us
    (s + one_if (is_own aliases m d)) (k + one_if (is_memory d)) x
    (e1 ∙ step_whole (signal_of number top) (is_own aliases m d) d (filter (is_own aliases m) ds) fs rs)
    (e2 ∙ step_whole (memory_of number) (is_memory d) d (filter is_memory ds) ks us)
    (step_length (signal_of number top) (is_own aliases m d) d fs ∙ ap (λ n. n + one_if (is_own aliases m d)) s_is)
    (step_length (memory_of number) (is_memory d) d ks ∙ ap (λ n. n + one_if (is_memory d)) k_is)
    (λ y n found. aliased y n (rw (bytes_apart x d.name.name other) found)))
    (bytes_eq x d.name.name) refl
  where
    by_name : (bytes_eq x d.name.name ≡ false → EntryMatches xs ys (binding_of (entries aliases m (s + one_if (is_own aliases m d)) (k + one_if (is_memory d)) ds) x)) →
        (b : Bool) → bytes_eq x d.name.name ≡ b → EntryMatches xs ys (cond b (Some (declared_entry aliases m s k d)) (binding_of (entries aliases m (s + one_if (is_own aliases m d)) (k + one_if (is_memory d)) ds) x))
    by_name rest false is = rest is
    by_name rest true is =
        subst (λ z. EntryMatches xs ys (Some (declared_entry aliases m z k d))) s_is (subst (λ z. EntryMatches xs ys (Some (declared_entry aliases m (length fs) z d))) k_is
        (declared_matches aliases m number top d ds xs fs rs ys ks us e1 e2 (λ n found. aliased d n (rw (bytes_same d.name.name x (sym (same_bytes x d.name.name is))) refl) found)))

-- a constant, or something faulty
abbrev pub IsConstantOrFaulty : Option Entry → Type 0
IsConstantOrFaulty None = Unit {0}
IsConstantOrFaulty (Some (a_constant v)) = Unit {0}
IsConstantOrFaulty (Some a_faulty_one) = Unit {0}
IsConstantOrFaulty (Some _) = ⊥

param_constant : (g : Scope) (os : List Override) (p : Param) → IsConstantOrFaulty (Some (param_entry g os p))
param_constant g os p = by_test (none (param_faults g p) && is_sound_vector g p.range && not (names_faulty g p.value))
  where
    by_test : (b : Bool) → IsConstantOrFaulty (Some (if b then a_constant (typed_value g p (overridden os p.name.name (constant g p.value))) else a_faulty_one))
    by_test true = tt
    by_test false = tt

pushed_constant : (bs : Bindings) (y : List ℕ) (e : Entry) (x : List ℕ) → IsConstantOrFaulty (binding_of bs x) → IsConstantOrFaulty (Some e) → IsConstantOrFaulty (binding_of (bs ++ (y, e) ∷ []) x)
pushed_constant [] y e x all here = by_test (bytes_eq x y)
  where
    by_test : (b : Bool) → IsConstantOrFaulty (cond b (Some e) None)
    by_test true = here
    by_test false = tt
pushed_constant ((w, f) ∷ bs) y e x all here = by_test (λ k. pushed_constant bs y e x k here) (bytes_eq x w) all
  where
    by_test : (IsConstantOrFaulty (binding_of bs x) → IsConstantOrFaulty (binding_of (bs ++ (y, e) ∷ []) x)) → (b : Bool) → IsConstantOrFaulty (cond b (Some f) (binding_of bs x)) → IsConstantOrFaulty (cond b (Some f) (binding_of (bs ++ (y, e) ∷ []) x))
    by_test further true h = h
    by_test further false h = further h

pub constants_constant : (others : Scope) (os : List Override) (sofar : Bindings) (ps : List Param) → ((x : List ℕ) → IsConstantOrFaulty (binding_of sofar x)) → (x : List ℕ) → IsConstantOrFaulty (binding_of (constants_from others os sofar ps) x)
constants_constant others os sofar [] all x = all x
constants_constant others os sofar (p ∷ ps) all x = constants_constant others os (with_param others os sofar p) ps (by_test (is_none (binding_of sofar p.name.name))) x
  where
    by_test : (b : Bool) (y : List ℕ) → IsConstantOrFaulty (binding_of (if b then sofar ++ (p.name.name, param_entry (with_bindings sofar others) os p) ∷ [] else sofar) y)
    by_test true y = pushed_constant sofar p.name.name (param_entry (with_bindings sofar others) os p) y (all y) (param_constant (with_bindings sofar others) os p)
    by_test false y = all y

-- what the names that pass a test are bound to
pub binding_kept : (p : List ℕ → Bool) (bs : Bindings) (x : List ℕ) → binding_of (filter (λ b. p b.0) bs) x ≡ cond (p x) (binding_of bs x) None
binding_kept p [] x = by_test (p x)
  where
    by_test : (b : Bool) → None ≡ cond b (binding_of [] x) None
    by_test true = refl
    by_test false = refl
binding_kept p ((w, e) ∷ bs) x = first (p w) ∙ by_tests (bytes_eq x w) (p w) (p x) (λ same. ap p (sym (same_bytes x w same))) (binding_kept p bs x)
  where
    rest : Option Entry
    rest = binding_of (filter (λ b. p b.0) bs) x

    first : (b : Bool) → binding_of (cond b ((w, e) ∷ filter (λ c. p c.0) bs) (filter (λ c. p c.0) bs)) x ≡ cond b (cond (bytes_eq x w) (Some e) rest) rest
    first true = refl
    first false = refl

    by_tests : (s a b : Bool) → (s ≡ true → a ≡ b) → rest ≡ cond b (binding_of bs x) None → cond a (cond s (Some e) rest) rest ≡ cond b (cond s (Some e) (binding_of bs x)) None
    by_tests true true true h k = refl
    by_tests true true false h k = absurd (false≢true (sym (h refl)))
    by_tests true false true h k = absurd (false≢true (h refl))
    by_tests true false false h k = k
    by_tests false true true h k = k
    by_tests false true false h k = k
    by_tests false false true h k = k
    by_tests false false false h k = k

-- the parameters that names of an instance mean
pub own_constant : (os : List Override) (m : Module) (x : List ℕ) → IsConstantOrFaulty (binding_of (own_constants os m) x)
own_constant os m x = subst IsConstantOrFaulty (sym (binding_kept (names_parameter (declared os m)) (constants os m) x)) (by_test (names_parameter (declared os m) x))
  where
    by_test : (b : Bool) → IsConstantOrFaulty (cond b (binding_of (constants os m) x) None)
    by_test true = constants_constant (other_names m) os [] (params_of m) (λ y. tt) x
    by_test false = tt

either_matches : (xs : List Signal) (ys : List Memory) (a b : Option Entry) → IsConstantOrFaulty a → EntryMatches xs ys b → EntryMatches xs ys (entry_or a b)
either_matches xs ys None b h k = k
either_matches xs ys (Some (a_constant v)) b h k = tt
either_matches xs ys (Some a_faulty_one) b h k = tt
either_matches xs ys (Some (a_turn v)) b h k = absurd h
either_matches xs ys (Some (a_signal v)) b h k = absurd h
either_matches xs ys (Some (a_memory v)) b h k = absurd h
either_matches xs ys (Some a_loop_variable) b h k = absurd h
either_matches xs ys (Some an_instance) b h k = absurd h
either_matches xs ys (Some no_constant) b h k = absurd h

or_nothing : (xs : List Signal) (ys : List Memory) (b : Option Entry) → EntryMatches xs ys b → EntryMatches xs ys (entry_or b None)
or_nothing xs ys None k = tt
or_nothing xs ys (Some e) k = k

-- in an instance that was opened, what names mean is in the design
pub scope_matches : (base : ℕ) (i : Instantiation) (before now : Sofar) → HasAliases before.design.signals i → Continues (opened i before) now →
    ScopeMatches now.design.signals now.design.memories (context base i before).scope
scope_matches base i before now known h x =
    either_matches now.design.signals now.design.memories (binding_of (own_constants i.overrides i.of_module) x) _
    (own_constant i.overrides i.of_module x)
    (or_nothing now.design.signals now.design.memories _
    (entries_match i.aliases i.of_module (length before.design.instances) i.is_top (declared i.overrides i.of_module)
    now.design.signals before.design.signals h.signals.rest now.design.memories before.design.memories h.memories.rest
    (length before.design.signals) (length before.design.memories) x
    (h.signals.whole ∙ append_assoc before.design.signals _ h.signals.rest) (h.memories.whole ∙ append_assoc before.design.memories _ h.memories.rest) refl refl
    (λ d n found alias. matches_more before.design.signals now.design.signals (seen_as n d) (begins_twice (begins_more before.design.signals _) h.signals) (known x d n found alias))))

-- a port is joined as one signal where it is as the outer signal is
joined_matches : (xs : List Signal) (ys : List Memory) (d : Declaration) (e : Option Entry) (n : ℕ) → EntryMatches xs ys e → joined_name d e ≡ as_alias n → MatchesSignal xs (seen_as n d)
joined_matches xs ys d None n h k = absurd cc
joined_matches xs ys d (Some (a_constant v)) n h k = by_test (is_input d) k
  where
    by_test : (b : Bool) → (if b then by_assignment else not_joined) ≡ as_alias n → MatchesSignal xs (seen_as n d)
    by_test true e = absurd cc
    by_test false e = absurd cc
joined_matches xs ys d (Some (a_turn v)) n h k = absurd cc
joined_matches xs ys d (Some (a_memory v)) n h k = absurd cc
joined_matches xs ys d (Some a_loop_variable) n h k = absurd cc
joined_matches xs ys d (Some an_instance) n h k = absurd cc
joined_matches xs ys d (Some no_constant) n h k = absurd cc
joined_matches xs ys d (Some a_faulty_one) n h k = absurd cc
joined_matches xs ys d (Some (a_signal s)) n h k = by_way (not (is_input d) && not (takes_output s)) refl k
  where
    bools : (a b : Bool) → same_bool a b ≡ true → b ≡ a
    bools true true e = refl
    bools true false e = absurd (false≢true e)
    bools false true e = absurd (false≢true e)
    bools false false e = refl

    ranges : (r q : Option Range) → same_range r q ≡ true → (range_or q ≡ range_or r) × (range_width q ≡ range_width r)
    ranges None None e = (refl, refl)
    ranges None (Some q) e = absurd (false≢true e)
    ranges (Some r) None e = absurd (false≢true e)
    ranges (Some r) (Some q) e =
        let p = and_parts (r.high == q.high) (r.low == q.low) e in
        let high : q.high ≡ r.high = sym (eqb-true r.high q.high p.0) in
        let low : q.low ≡ r.low = sym (eqb-true r.low q.low p.1) in
        (range_same q r high low, rw (high, low) refl)
      where
        range_same : (q r : Range) → q.high ≡ r.high → q.low ≡ r.low → q ≡ r
        range_same q r a b = ap (λ z. two z q.low) a ∙ ap (two r.high) b
          where
            two : ℕ → ℕ → Range
            two x y = record { high = x; low = y }

    no_input : (a b c : Bool) → (not a && not (b && not c)) ≡ false → a ≡ false → c ≡ false
    no_input true b c e f = absurd (false≢true (sym f))
    no_input false true true e f = absurd (false≢true (sym e))
    no_input false true false e f = refl
    no_input false false c e f = absurd (false≢true (sym e))

    by_same : (not (is_input d) && not (takes_output s)) ≡ false → (b : Bool) → (same_range d.range s.range && same_bool d.signed s.signed) ≡ b → (if b then as_alias s.number else by_assignment) ≡ as_alias n → MatchesSignal xs (seen_as n d)
    by_same way false is e = absurd cc
    by_same way true is e =
        let number : s.number ≡ n = cc in
        let p = and_parts (same_range d.range s.range) (same_bool d.signed s.signed) is in
        let r = ranges d.range s.range p.0 in
        subst (λ z. MatchesSignal xs (seen_as z d)) number (record {
          number = h.number;
          high = h.high ∙ ap (λ z. z.high) r.0;
          low = h.low ∙ ap (λ z. z.low) r.0;
          width = h.width ∙ r.1;
          signed = h.signed ∙ bools d.signed s.signed p.1;
          input = λ f. h.input (no_input (is_input d) s.net s.input way f);
        })

    by_way : (b : Bool) → (not (is_input d) && not (takes_output s)) ≡ b → (if b then not_joined else (if same_range d.range s.range && same_bool d.signed s.signed then as_alias s.number else by_assignment)) ≡ as_alias n → MatchesSignal xs (seen_as n d)
    by_way true way e = absurd cc
    by_way false way e = by_same way (same_range d.range s.range && same_bool d.signed s.signed) refl e

joining_matches : (xs : List Signal) (ys : List Memory) (g : Scope) → ScopeMatches xs ys g → (d : Declaration) (label : Named) (e : Expr) (n : ℕ) → joining g d label e ≡ as_alias n → MatchesSignal xs (seen_as n d)
joining_matches xs ys g all d label (identifier p x) n h = joined_matches xs ys d (look_up g x) n (all x) h
joining_matches xs ys g all d label e n h = by_test (none (joined_faults g label d e) && not (names_faulty g e)) h
  where
    by_test : (b : Bool) → (if b then by_assignment else not_joined) ≡ as_alias n → MatchesSignal xs (seen_as n d)
    by_test true k = absurd cc
    by_test false k = absurd cc

-- what is found passes the test
pub found_passes : {A : Type 0} (p : A → Bool) (xs : List A) (x : A) → find p xs ≡ Some x → p x ≡ true
found_passes p [] x h = absurd cc
found_passes p (y ∷ ys) x h = by_test (found_passes p ys x) (p y) refl h
  where
    by_test : (find p ys ≡ Some x → p x ≡ true) → (b : Bool) → p y ≡ b → cond b (Some y) (find p ys) ≡ Some x → p x ≡ true
    by_test rest true is e = let same : y ≡ x = cc in subst (λ z. p z ≡ true) same is
    by_test rest false is e = rest e

-- an alias that is found is that of a port
pub alias_found : (g : Scope) (js : List JoinedPort) (x : List ℕ) (n : ℕ) → alias_number (flat_map (port_alias g) js) x ≡ Some n →
    (j : JoinedPort) × In j js × (x ≡ j.port.name.name) × (joining g j.port j.label j.value ≡ as_alias n)
alias_found g [] x n h = absurd cc
alias_found g (j ∷ js) x n h = by_joining (alias_found g js x n) (joining g j.port j.label j.value) refl h
  where
    further : ((y : JoinedPort) × In y js × (x ≡ y.port.name.name) × (joining g y.port y.label y.value ≡ as_alias n)) → (y : JoinedPort) × In y (j ∷ js) × (x ≡ y.port.name.name) × (joining g y.port y.label y.value ≡ as_alias n)
    further f = (f.0, inr f.1, f.2, f.3)

    by_name : (alias_number (flat_map (port_alias g) js) x ≡ Some n → (y : JoinedPort) × In y js × (x ≡ y.port.name.name) × (joining g y.port y.label y.value ≡ as_alias n)) → (k : ℕ) → joining g j.port j.label j.value ≡ as_alias k → (b : Bool) → bytes_eq x j.port.name.name ≡ b →
        cond b (Some k) (alias_number (flat_map (port_alias g) js) x) ≡ Some n → (y : JoinedPort) × In y (j ∷ js) × (x ≡ y.port.name.name) × (joining g y.port y.label y.value ≡ as_alias n)
    by_name rest k is true same e = let number : k ≡ n = cc in (j, inl refl, same_bytes x j.port.name.name same, is ∙ ap as_alias number)
    by_name rest k is false same e = further (rest e)

    by_joining : (alias_number (flat_map (port_alias g) js) x ≡ Some n → (y : JoinedPort) × In y js × (x ≡ y.port.name.name) × (joining g y.port y.label y.value ≡ as_alias n)) → (w : Joined) → joining g j.port j.label j.value ≡ w →
        alias_number (alias_as j.port.name.name w ++ flat_map (port_alias g) js) x ≡ Some n → (y : JoinedPort) × In y (j ∷ js) × (x ≡ y.port.name.name) × (joining g y.port y.label y.value ≡ as_alias n)
    by_joining rest (as_alias k) is e = by_name rest k is (bytes_eq x j.port.name.name) refl e
    by_joining rest by_assignment is e = further (rest e)
    by_joining rest not_joined is e = further (rest e)

-- a port that is joined is declared by its name
pub port_declared : (ds : List Declaration) (cs : List Connection) (ys : List Named) (j : JoinedPort) → In j (flat_map (joined_port ds cs) ys) → declaration_of ds j.port.name.name ≡ Some j.port
port_declared ds cs ys j h = let k = in_flat_map (joined_port ds cs) j ys h in by_declaration k.0 (declaration_of ds k.0.name) refl (connection_of cs k.0.name) k.2
  where
    by_value : (y : Named) (d : Declaration) → declaration_of ds y.name ≡ Some d → (label : Named) (v : Option Expr) → In j (with_value d label v) → declaration_of ds j.port.name.name ≡ Some j.port
    by_value y d is label None k = absurd k
    by_value y d is label (Some e) (inl same) = named_so y d is j (ap (λ z. z.port) same)
      where
        named_so : (y : Named) (d : Declaration) → declaration_of ds y.name ≡ Some d → (j : JoinedPort) → d ≡ j.port → declaration_of ds j.port.name.name ≡ Some j.port
        named_so y d is j same = subst (λ z. declaration_of ds z.name.name ≡ Some z) same (subst (λ z. declaration_of ds z ≡ Some d) (sym (same_bytes d.name.name y.name (found_passes (λ z. bytes_eq z.name.name y.name) ds d is))) is)
    by_value y d is label (Some e) (inr k) = absurd k

    by_port : (y : Named) (d : Declaration) → declaration_of ds y.name ≡ Some d → (c : Connection) (b : Bool) → In j (if b then with_value d c.label c.value else []) → declaration_of ds j.port.name.name ≡ Some j.port
    by_port y d is c true k = by_value y d is c.label c.value k
    by_port y d is c false k = absurd k

    by_connection : (y : Named) (d : Declaration) → declaration_of ds y.name ≡ Some d → (c : Option Connection) → In j (with_connection d c) → declaration_of ds j.port.name.name ≡ Some j.port
    by_connection y d is None k = absurd k
    by_connection y d is (Some c) k = by_port y d is c (is_sound_port d) k

    by_declaration : (y : Named) (d : Option Declaration) → declaration_of ds y.name ≡ d → (c : Option Connection) → In j (declared_port d c) → declaration_of ds j.port.name.name ≡ Some j.port
    by_declaration y None is c k = absurd k
    by_declaration y (Some d) is c k = by_connection y d is c k

-- so the aliases of an instance are as the scope around it says
pub aliases_match : (xs : List Signal) (ys : List Memory) (base : ℕ) (c : Context) (p : Place) (k : InstanceItem) (m : Module) (o : One) → ScopeMatches xs ys c.scope → HasAliases xs (inner_of c p k m o)
aliases_match xs ys base c p k m o all x d n found alias =
    let f = alias_found c.scope (ports_of c k m o) d.name.name n alias in
    let os = overrides c.scope k.of_module m k.overrides in
    let ds : List Declaration = declared os m in
    let port : declaration_of ds f.0.port.name.name ≡ Some f.0.port = port_declared ds (connections k.of_module m.ports o.given) m.ports f.0 f.1 in
    let name : d.name.name ≡ x = same_bytes d.name.name x (found_passes (λ z. bytes_eq z.name.name x) ds d found) in
    let again : declaration_of ds d.name.name ≡ Some d = subst (λ z. declaration_of ds z ≡ Some d) (sym name) found in
    let same : f.0.port ≡ d = some_same f.0.port d (sym port ∙ (ap (declaration_of ds) (sym f.2) ∙ again)) in
    subst (λ z. MatchesSignal xs (seen_as n z)) same (joining_matches xs ys c.scope all f.0.port f.0.label f.0.value n f.3)
  where
    some_same : (a b : Declaration) → Some a ≡ Some b → a ≡ b
    some_same a b e = cc
