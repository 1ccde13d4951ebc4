-- The names in one instance of a design that is answered differ.
use Rattle.std.proofs.Common.{◌≡◌, ◌⊎◌, inl, inr, ℕ, ◌<◌, Bool, true, false, not, ◌&&◌, ◌||◌, if◌then◌else◌, List, [], ◌∷◌, ◌++◌, Option, Some, None, Ok, refl, sym, ap, ◌∙◌, subst, length, map, arith, length-append}
use Rattle.std.specs.List.{filter, flat_map}
use Rattle.std.specs.Prelude.{is_some}
use Rattle.std.proofs.lemmas.Bool.{false≢true, and_parts}
use Rattle.std.proofs.lemmas.List.{map-append}
use Rattle.design_model.specs.Design.{Design, In, AreDistinct, Named, names_of}
use Rattle.design_model.specs.declared.design.Alias.{Alias}
use Rattle.design_model.specs.declared.design.Constant.{Constant}
use Rattle.design_model.specs.declared.design.Memory.{Memory}
use Rattle.design_model.specs.declared.design.Signal.{Signal}
use Rattle.cov_host.specs.declared.place.Place.{Place}
use Rattle.verilog_tree.specs.declared.item.Named as tree
use Rattle.verilog_tree.specs.Tree.{Expr, InstanceItem, Module, One}
use Rattle.flat_design.specs.Connections.{Connection, JoinedPort, connections, connection_of, declaration_of, declared_port, is_sound_port, joined_port, overrides, with_connection, with_value}
use Rattle.flat_design.specs.Declarations.{Declaration, Sort, a_net, a_variable, words_from, an_integer, a_parameter, some_instance, faulty, faulty_memory, is_net, is_variable}
use Rattle.flat_design.specs.Faults.{answer}
use Rattle.flat_design.specs.Flat.{elaborated}
use Rattle.flat_design.specs.Instances.{Instantiation, Sofar, Context, context, opened, opening_met, declared, constants, PortAliases, alias_number, alias_of, alias_to, constant_of, has_alias, is_memory, is_memory_sort, is_own, is_signal, is_signal_sort, memory_of, signal_of}
use Rattle.flat_design.specs.Scope.{Bindings}
use Rattle.flat_design.specs.declared.entry.Entry.{Entry}
use Rattle.flat_design.specs.declared.entry.Entry.TheVariants.{Constant as a_constant, Turn as a_turn, Signal as a_signal, Memory as a_memory, LoopVariable as a_loop_variable, Instance as an_instance, NoConstant as no_constant, Faulty as a_faulty_one}
use Rattle.flat_laws.proofs.DeclaredOnce.{name_of, declared_distinct, constant_names_distinct, constant_declared, IsParameter}
use Rattle.flat_laws.proofs.Distinct.{AreApart, GiveNames, apart_join, distinct_given, distinct_join, distinct_picked, given_name, map_flat, map_twice, same_by_key}
use Rattle.flat_laws.proofs.Freedom.{IsFree, IsSound, answered_sound}
use Rattle.flat_laws.proofs.LawfulCounts.{own_no_memory}
use Rattle.flat_laws.proofs.LawfulLimits.{base_of, answered_keeps, answered_design}
use Rattle.flat_laws.proofs.LawfulPaths.{found_in, opening_parts}
use Rattle.flat_laws.proofs.LawfulScope.{alias_found, port_declared}
use Rattle.flat_laws.proofs.Members.{in_append, in_map, in_filter, in_flat_map}
use Rattle.flat_laws.proofs.Steps.{Steps, inner_of, ports_of}

-- the names of signals, memories, constants and aliases
record Names : Type 0 where
  signals : List Named
  memories : List Named
  constants : List Named
  aliases : List Named

abbrev signal_name : Signal → Named
signal_name s = (s.instance, s.name)

abbrev memory_name : Memory → Named
memory_name m = (m.instance, m.name)

abbrev constant_name : Constant → Named
constant_name c = (c.instance, c.name)

abbrev alias_name : Alias → Named
alias_name a = (a.instance, a.name)

abbrev names_in : Design → Names
names_in d = record { signals = map signal_name d.signals; memories = map memory_name d.memories; constants = map constant_name d.constants; aliases = map alias_name d.aliases }

abbrev with_names : Names → Names → Names
with_names a b = record { signals = a.signals ++ b.signals; memories = a.memories ++ b.memories; constants = a.constants ++ b.constants; aliases = a.aliases ++ b.aliases }

-- no name is there twice
record AreDifferent (a : Names) : Type 0 where
  signals : AreDistinct a.signals
  memories : AreDistinct a.memories
  constants : AreDistinct a.constants
  aliases : AreDistinct a.aliases
  memory_signal : AreApart a.memories a.signals
  constant_signal : AreApart a.constants a.signals
  constant_memory : AreApart a.constants a.memories
  alias_signal : AreApart a.aliases a.signals
  alias_memory : AreApart a.aliases a.memories
  alias_constant : AreApart a.aliases a.constants

-- each name passes a test of its instance
record AreAll (P : ℕ → Type 0) (a : Names) : Type 0 where
  signals : (x : Named) → In x a.signals → P x.0
  memories : (x : Named) → In x a.memories → P x.0
  constants : (x : Named) → In x a.constants → P x.0
  aliases : (x : Named) → In x a.aliases → P x.0

-- names of earlier instances and of this one
abbrev AreEarlier : ℕ → List Named → Type 0
AreEarlier n xs = (x : Named) → In x xs → x.0 < n

abbrev AreHere : ℕ → List Named → Type 0
AreHere n xs = (x : Named) → In x xs → x.0 ≡ n

earlier_apart : (n : ℕ) (xs ys : List Named) → AreEarlier n xs → AreHere n ys → AreApart xs ys
earlier_apart n xs ys h k x l m = let less : x.0 < n = h x l in let same : x.0 ≡ n = k x m in absurd (omega arith)

back : (xs ys : List Named) → AreApart xs ys → AreApart ys xs
back xs ys h x k l = h x l k

distinct_two : (n : ℕ) (xs ys : List Named) → AreEarlier n xs → AreHere n ys → AreDistinct xs → AreDistinct ys → AreDistinct (xs ++ ys)
distinct_two n xs ys h k a b = distinct_join xs ys a b (earlier_apart n xs ys h k)

apart_two : (n : ℕ) (xs ys zs ws : List Named) → AreEarlier n xs → AreHere n ys → AreEarlier n zs → AreHere n ws → AreApart xs zs → AreApart ys ws → AreApart (xs ++ ys) (zs ++ ws)
apart_two n xs ys zs ws h k l m a b =
    apart_join xs ys (zs ++ ws) (back (zs ++ ws) xs (apart_join zs ws xs (back xs zs a) (back xs ws (earlier_apart n xs ws h m)))) (back (zs ++ ws) ys (apart_join zs ws ys (earlier_apart n zs ys l k) (back ys ws b)))

different_two : (n : ℕ) (a b : Names) → AreAll (λ i. i < n) a → AreAll (λ i. i ≡ n) b → AreDifferent a → AreDifferent b → AreDifferent (with_names a b)
different_two n a b h k p q = record {
  signals = distinct_two n a.signals b.signals h.signals k.signals p.signals q.signals;
  memories = distinct_two n a.memories b.memories h.memories k.memories p.memories q.memories;
  constants = distinct_two n a.constants b.constants h.constants k.constants p.constants q.constants;
  aliases = distinct_two n a.aliases b.aliases h.aliases k.aliases p.aliases q.aliases;
  memory_signal = apart_two n a.memories b.memories a.signals b.signals h.memories k.memories h.signals k.signals p.memory_signal q.memory_signal;
  constant_signal = apart_two n a.constants b.constants a.signals b.signals h.constants k.constants h.signals k.signals p.constant_signal q.constant_signal;
  constant_memory = apart_two n a.constants b.constants a.memories b.memories h.constants k.constants h.memories k.memories p.constant_memory q.constant_memory;
  alias_signal = apart_two n a.aliases b.aliases a.signals b.signals h.aliases k.aliases h.signals k.signals p.alias_signal q.alias_signal;
  alias_memory = apart_two n a.aliases b.aliases a.memories b.memories h.aliases k.aliases h.memories k.memories p.alias_memory q.alias_memory;
  alias_constant = apart_two n a.aliases b.aliases a.constants b.constants h.aliases k.aliases h.constants k.constants p.alias_constant q.alias_constant;
}

-- the names of a design in order
different_names : (a : Names) → AreDifferent a → AreDistinct (a.signals ++ a.memories ++ a.constants ++ a.aliases)
different_names a h =
    distinct_join (a.signals ++ a.memories ++ a.constants) a.aliases
    (distinct_join (a.signals ++ a.memories) a.constants (distinct_join a.signals a.memories h.signals h.memories (back a.memories a.signals h.memory_signal)) h.constants
    (apart_join a.signals a.memories a.constants (back a.constants a.signals h.constant_signal) (back a.constants a.memories h.constant_memory)))
    h.aliases
    (apart_join (a.signals ++ a.memories) a.constants a.aliases (apart_join a.signals a.memories a.aliases (back a.aliases a.signals h.alias_signal) (back a.aliases a.memories h.alias_memory)) (back a.aliases a.constants h.alias_constant))

-- a name that is an alias is that of a port
abbrev pub HasPortAliases : ℕ → Instantiation → Sofar → Type 0
HasPortAliases depth i st = (x : List ℕ) (n : ℕ) → alias_number i.aliases x ≡ Some n → (d : Declaration) × In d (declared i.overrides i.of_module) × (name_of d ≡ x) × (is_sound_port d ≡ true)

port_sound : (ds : List Declaration) (cs : List Connection) (ys : List tree.Named) (j : JoinedPort) → In j (flat_map (joined_port ds cs) ys) → is_sound_port j.port ≡ true
port_sound ds cs ys j h = let k = in_flat_map (joined_port ds cs) j ys h in by_declaration (declaration_of ds k.0.name) (connection_of cs k.0.name) k.2
  where
    by_value : (d : Declaration) → is_sound_port d ≡ true → (label : tree.Named) (v : Option Expr) → In j (with_value d label v) → is_sound_port j.port ≡ true
    by_value d is label None k = absurd k
    by_value d is label (Some e) (inl same) = subst (λ z. is_sound_port z.port ≡ true) same is
    by_value d is label (Some e) (inr k) = absurd k

    by_port : (d : Declaration) (c : Connection) (b : Bool) → is_sound_port d ≡ b → In j (if b then with_value d c.label c.value else []) → is_sound_port j.port ≡ true
    by_port d c true is k = by_value d is c.label c.value k
    by_port d c false is k = absurd k

    by_connection : (d : Declaration) (c : Option Connection) → In j (with_connection d c) → is_sound_port j.port ≡ true
    by_connection d None k = absurd k
    by_connection d (Some c) k = by_port d c (is_sound_port d) refl k

    by_declaration : (d : Option Declaration) (c : Option Connection) → In j (declared_port d c) → is_sound_port j.port ≡ true
    by_declaration None c k = absurd k
    by_declaration (Some d) c k = by_connection d c k

ports_below : (c : Context) (p : Place) (k : InstanceItem) (m : Module) (o : One) (depth : ℕ) (st : Sofar) → HasPortAliases depth (inner_of c p k m o) st
ports_below c p k m o depth st x n alias =
    let f = alias_found c.scope (ports_of c k m o) x n alias in
    let ds : List Declaration = declared (overrides c.scope k.of_module m k.overrides) m in
    let cs : List Connection = connections k.of_module m.ports o.given in
    (f.0.port, found_in _ ds f.0.port (port_declared ds cs m.ports f.0 f.1), sym f.2, port_sound ds cs m.ports f.0 f.1)

-- the names that an instance adds
abbrev here_names : ℕ → Instantiation → Names
here_names n i =
    record {
      signals = map signal_name (map (signal_of n i.is_top) (filter (is_own i.aliases i.of_module) (declared i.overrides i.of_module)));
      memories = map memory_name (map (memory_of n) (filter is_memory (declared i.overrides i.of_module)));
      constants = map constant_name (flat_map (constant_of n) (constants i.overrides i.of_module));
      aliases = map alias_name (flat_map (alias_of n i.aliases) (declared i.overrides i.of_module));
    }

constant_gives : (n : ℕ) → GiveNames (λ b. map constant_name (constant_of n b)) (λ (b : List ℕ × Entry). (n, b.0))
constant_gives n (x, a_constant v) = inr refl
constant_gives n (x, a_turn v) = inl refl
constant_gives n (x, a_signal v) = inl refl
constant_gives n (x, a_memory v) = inl refl
constant_gives n (x, a_loop_variable) = inl refl
constant_gives n (x, an_instance) = inl refl
constant_gives n (x, no_constant) = inl refl
constant_gives n (x, a_faulty_one) = inl refl

alias_gives : (n : ℕ) (aliases : PortAliases) → GiveNames (λ d. map alias_name (alias_of n aliases d)) (λ (d : Declaration). (n, d.name.name))
alias_gives n aliases d = by_number (alias_number aliases d.name.name)
  where
    by_number : (o : Option ℕ) → (map alias_name (alias_to n d.name.name o) ≡ []) ⊎ (map alias_name (alias_to n d.name.name o) ≡ (n, d.name.name) ∷ [])
    by_number None = inl refl
    by_number (Some k) = inr refl

-- where the names that an instance adds come from
module _ (n : ℕ) (i : Instantiation) where
  from_signal : (x : Named) → In x (here_names n i).signals → (d : Declaration) × In d (declared i.overrides i.of_module) × (is_own i.aliases i.of_module d ≡ true) × ((n, name_of d) ≡ x)
  from_signal x h =
      let k = in_map signal_name x _ h in
      let l = in_map (signal_of n i.is_top) k.0 (filter (is_own i.aliases i.of_module) (declared i.overrides i.of_module)) k.1 in
      let f = in_filter (is_own i.aliases i.of_module) l.0 (declared i.overrides i.of_module) l.1 in
      (l.0, f.0, f.1, ap signal_name l.2 ∙ k.2)

  from_memory : (x : Named) → In x (here_names n i).memories → (d : Declaration) × In d (declared i.overrides i.of_module) × (is_memory d ≡ true) × ((n, name_of d) ≡ x)
  from_memory x h =
      let k = in_map memory_name x _ h in
      let l = in_map (memory_of n) k.0 (filter is_memory (declared i.overrides i.of_module)) k.1 in
      let f = in_filter is_memory l.0 (declared i.overrides i.of_module) l.1 in
      (l.0, f.0, f.1, ap memory_name l.2 ∙ k.2)

  from_constant : (x : Named) → In x (here_names n i).constants → (b : List ℕ × Entry) × In b (constants i.overrides i.of_module) × ((n, b.0) ≡ x)
  from_constant x h =
      let k = in_flat_map (λ b. map constant_name (constant_of n b)) x (constants i.overrides i.of_module) (subst (In x) (map_flat constant_name (constant_of n) (constants i.overrides i.of_module)) h) in
      (k.0, k.1, given_name (λ b. map constant_name (constant_of n b)) (λ (b : List ℕ × Entry). (n, b.0)) (constant_gives n) k.0 x k.2)

  alias_there : (d : Declaration) (o : Option ℕ) (x : Named) → In x (map alias_name (alias_to n d.name.name o)) → is_some o ≡ true
  alias_there d None x h = absurd h
  alias_there d (Some k) x h = refl

  from_alias : (x : Named) → In x (here_names n i).aliases → (d : Declaration) × In d (declared i.overrides i.of_module) × (has_alias i.aliases d ≡ true) × ((n, name_of d) ≡ x)
  from_alias x h =
      let ds : List Declaration = declared i.overrides i.of_module in
      let k = in_flat_map (λ d. map alias_name (alias_of n i.aliases d)) x ds (subst (In x) (map_flat alias_name (alias_of n i.aliases) ds) h) in
      (k.0, k.1, alias_there k.0 (alias_number i.aliases k.0.name.name) x k.2, given_name (λ d. map alias_name (alias_of n i.aliases d)) (λ (d : Declaration). (n, d.name.name)) (alias_gives n i.aliases) k.0 x k.2)

  all_here : AreAll (λ k. k ≡ n) (here_names n i)
  all_here = record {
    signals = λ x h. sym (ap (λ z. z.0) (from_signal x h).3);
    memories = λ x h. sym (ap (λ z. z.0) (from_memory x h).3);
    constants = λ x h. sym (ap (λ z. z.0) (from_constant x h).2);
    aliases = λ x h. sym (ap (λ z. z.0) (from_alias x h).3);
  }

parameter_no_signal : (m : Module) (d : Declaration) → d.sort ≡ a_parameter → is_signal m d ≡ true → ⊥
parameter_no_signal m d e h = false≢true (sym (ap (is_signal_sort m d.name.name) e) ∙ h)

sound_no_memory : (s : Sort) → (is_net s || is_variable s) ≡ true → is_memory_sort s ≡ true → ⊥
sound_no_memory (words_from r) h k = false≢true h
sound_no_memory a_net h k = false≢true k
sound_no_memory a_variable h k = false≢true k
sound_no_memory an_integer h k = false≢true k
sound_no_memory a_parameter h k = false≢true k
sound_no_memory some_instance h k = false≢true k
sound_no_memory faulty h k = false≢true k
sound_no_memory faulty_memory h k = false≢true k

not_both : (a b : Bool) → (a && not b) ≡ true → b ≡ true → ⊥
not_both true true h k = false≢true h
not_both true false h k = false≢true k
not_both false b h k = false≢true h

-- the names that an instance adds differ
different_here : (n : ℕ) (i : Instantiation) (st : Sofar) (depth : ℕ) → HasPortAliases depth i st → IsFree (opening_met i) → AreDifferent (here_names n i)
different_here n i st depth ports free = record {
  signals = subst AreDistinct (sym (map_twice signal_name (signal_of n i.is_top) (filter (is_own i.aliases i.of_module) ds))) (distinct_picked name_of (λ d. (n, d.name.name)) (is_own i.aliases i.of_module) (λ x y e. ap (λ z. z.1) e) ds once);
  memories = subst AreDistinct (sym (map_twice memory_name (memory_of n) (filter is_memory ds))) (distinct_picked name_of (λ d. (n, d.name.name)) is_memory (λ x y e. ap (λ z. z.1) e) ds once);
  constants = subst AreDistinct (sym (map_flat constant_name (constant_of n) bs)) (distinct_given (λ b. b.0) (λ b. map constant_name (constant_of n b)) (λ b. (n, b.0)) (constant_gives n) (λ x y e. ap (λ z. z.1) e) bs (constant_names_distinct i.overrides i.of_module));
  aliases = subst AreDistinct (sym (map_flat alias_name (alias_of n i.aliases) ds)) (distinct_given name_of (λ d. map alias_name (alias_of n i.aliases d)) (λ d. (n, d.name.name)) (alias_gives n i.aliases) (λ x y e. ap (λ z. z.1) e) ds once);
  memory_signal = λ x h k.
      let a = from_memory n i x h in
      let b = from_signal n i x k in
      let e = same a.0 b.0 a.1 b.1 (ap (λ z. z.1) (a.3 ∙ sym b.3)) in
      false≢true (sym (own_no_memory i b.0 b.2) ∙ subst (λ z. is_memory z ≡ true) e a.2);
  constant_signal = λ x h k.
      let a = from_constant n i x h in
      let b = from_signal n i x k in
      let p = parameter a.0 a.1 in
      let e = same p.declared_as b.0 p.is_in b.1 (p.named ∙ ap (λ z. z.1) (a.2 ∙ sym b.3)) in
      parameter_no_signal i.of_module b.0 (subst (λ z. z.sort ≡ a_parameter) e p.sort) (and_parts _ _ b.2).0;
  constant_memory = λ x h k.
      let a = from_constant n i x h in
      let b = from_memory n i x k in
      let p = parameter a.0 a.1 in
      let e = same p.declared_as b.0 p.is_in b.1 (p.named ∙ ap (λ z. z.1) (a.2 ∙ sym b.3)) in
      false≢true (sym (ap is_memory_sort (subst (λ z. z.sort ≡ a_parameter) e p.sort)) ∙ b.2);
  alias_signal = λ x h k.
      let a = from_alias n i x h in
      let b = from_signal n i x k in
      let e = same a.0 b.0 a.1 b.1 (ap (λ z. z.1) (a.3 ∙ sym b.3)) in
      not_both (is_signal i.of_module b.0) (has_alias i.aliases b.0) b.2 (subst (λ z. has_alias i.aliases z ≡ true) e a.2);
  alias_memory = λ x h k.
      let a = from_alias n i x h in
      let b = from_memory n i x k in
      let p = port a.0 a.2 in
      let e = same p.0 b.0 p.1 b.1 (p.2 ∙ ap (λ z. z.1) (a.3 ∙ sym b.3)) in
      sound_no_memory b.0.sort (and_parts _ _ (subst (λ z. is_sound_port z ≡ true) e p.3)).1 b.2;
  alias_constant = λ x h k.
      let a = from_alias n i x h in
      let b = from_constant n i x k in
      let p = port a.0 a.2 in
      let q = parameter b.0 b.1 in
      let e = same p.0 q.declared_as p.1 q.is_in (p.2 ∙ (ap (λ z. z.1) (a.3 ∙ sym b.2) ∙ sym q.named)) in
      false≢true (sym (ap (λ s. is_net s || is_variable s) q.sort) ∙ (and_parts _ _ (subst (λ z. is_sound_port z ≡ true) e p.3)).1);
}
  where
    ds : List Declaration
    ds = declared i.overrides i.of_module

    bs : Bindings
    bs = constants i.overrides i.of_module

    once : AreDistinct (map name_of ds)
    once = declared_distinct i.overrides i.of_module

    same : (x y : Declaration) → In x ds → In y ds → name_of x ≡ name_of y → x ≡ y
    same = same_by_key name_of ds once

    parameter : (b : List ℕ × Entry) → In b bs → IsParameter i.overrides i.of_module b.0
    parameter b h = constant_declared i.overrides i.of_module (opening_parts i free).2 b h

    port : (d : Declaration) → has_alias i.aliases d ≡ true → (e : Declaration) × In e ds × (name_of e ≡ name_of d) × (is_sound_port e ≡ true)
    port d h = by_number (alias_number i.aliases d.name.name) refl h
      where
        by_number : (o : Option ℕ) → alias_number i.aliases d.name.name ≡ o → is_some o ≡ true → (e : Declaration) × In e ds × (name_of e ≡ name_of d) × (is_sound_port e ≡ true)
        by_number (Some k) is t = ports d.name.name k is
        by_number None is t = absurd (false≢true t)

-- each name is in an instance, and no name is there twice
record AreNamed (st : Sofar) : Type 0 where
  instances : AreAll (λ i. i < length st.design.instances) (names_in st.design)
  different : AreDifferent (names_in st.design)

two_lists : (n more : ℕ) (xs ys : List Named) → n < more → AreEarlier n xs → AreHere n ys → AreEarlier more (xs ++ ys)
two_lists n more xs ys less h k x l = by_side (in_append x xs ys l)
  where
    by_side : In x xs ⊎ In x ys → x.0 < more
    by_side (inl m) = let before : x.0 < n = h x m in omega arith
    by_side (inr m) = let same : x.0 ≡ n = k x m in omega arith

all_two : (n more : ℕ) (a b : Names) → n < more → AreAll (λ i. i < n) a → AreAll (λ i. i ≡ n) b → AreAll (λ i. i < more) (with_names a b)
all_two n more a b less h k = record {
  signals = two_lists n more a.signals b.signals less h.signals k.signals;
  memories = two_lists n more a.memories b.memories less h.memories k.memories;
  constants = two_lists n more a.constants b.constants less h.constants k.constants;
  aliases = two_lists n more a.aliases b.aliases less h.aliases k.aliases;
}

-- names in an order of their own
abbrev four : List Named → List Named → List Named → List Named → Names
four a b c e = record { signals = a; memories = b; constants = c; aliases = e }

four_same : (a b c e a2 b2 c2 e2 : List Named) → a ≡ a2 → b ≡ b2 → c ≡ c2 → e ≡ e2 → four a b c e ≡ four a2 b2 c2 e2
four_same a b c e a2 b2 c2 e2 h k l m = ap (λ z. four z b c e) h ∙ (ap (λ z. four a2 z c e) k ∙ (ap (λ z. four a2 b2 z e) l ∙ ap (λ z. four a2 b2 c2 z) m))

opened_names : (i : Instantiation) (st : Sofar) → names_in (opened i st).design ≡ with_names (names_in st.design) (here_names (length st.design.instances) i)
opened_names i st =
    let a = map-append signal_name st.design.signals (map (signal_of (length st.design.instances) i.is_top) (filter (is_own i.aliases i.of_module) (declared i.overrides i.of_module))) in
    let b = map-append memory_name st.design.memories (map (memory_of (length st.design.instances)) (filter is_memory (declared i.overrides i.of_module))) in
    let c = map-append constant_name st.design.constants (flat_map (constant_of (length st.design.instances)) (constants i.overrides i.of_module)) in
    let e = map-append alias_name st.design.aliases (flat_map (alias_of (length st.design.instances) i.aliases) (declared i.overrides i.of_module)) in
    four_same _ _ _ _ _ _ _ _ a b c e

named_opened : (depth : ℕ) (i : Instantiation) (st : Sofar) → IsFree (opening_met i) → HasPortAliases depth i st → AreNamed st → AreNamed (opened i st)
named_opened depth i st free ports h =
    let n = length st.design.instances in
    let less : n < length (opened i st).design.instances = omega (arith, length-append st.design.instances (record { path = i.path; «module» = i.of_module.name.name } ∷ [])) in
    record {
      instances = subst (AreAll (λ k. k < length (opened i st).design.instances)) (sym (opened_names i st)) (all_two n _ (names_in st.design) (here_names n i) less h.instances (all_here n i));
      different = subst AreDifferent (sym (opened_names i st)) (different_two n (names_in st.design) (here_names n i) h.instances (all_here n i) h.different (different_here n i st depth ports free));
    }

named_steps : (base : ℕ) (ms : List Module) → Steps base ms AreNamed HasPortAliases
named_steps base ms = record {
  meets = λ st h. record { instances = h.instances; different = h.different };
  opens = λ depth i st free known h. named_opened depth i st free known h;
  assigns = λ depth i before st here x x_in y v n assigned free h. record { instances = h.instances; different = h.different };
  runs = λ depth i before st here x x_in w s l n form free h. record { instances = h.instances; different = h.different };
  inputs = λ depth i before at st x k m o inside j s joined way free h. record { instances = h.instances; different = h.different };
  outputs = λ depth i before at st x k m o inside j s joined way free h. record { instances = h.instances; different = h.different };
  below = λ depth i before st here h x k m o under. ports_below (context base i before) x.place k m o depth st;
}

none_named : AreDifferent (four [] [] [] [])
none_named = record {
  signals = tt;
  memories = tt;
  constants = tt;
  aliases = tt;
  memory_signal = λ x h k. h;
  constant_signal = λ x h k. h;
  constant_memory = λ x h k. h;
  alias_signal = λ x h k. h;
  alias_memory = λ x h k. h;
  alias_constant = λ x h k. h;
}

answered_named : (ms : List Module) (top : List ℕ) → IsSound ms top → AreNamed (elaborated ms top)
answered_named ms top sound =
    answered_keeps ms top AreNamed HasPortAliases (named_steps (base_of ms top) ms) (λ m found x n alias. absurd cc)
    (record { instances = record { signals = λ x h. absurd h; memories = λ x h. absurd h; constants = λ x h. absurd h; aliases = λ x h. absurd h }; different = none_named }) sound

-- no name is twice in the design
pub record HasDistinctNames (d : Design) : Type 0 where
  pub names : AreDistinct (names_of d)

pub answered_names : (ms : List Module) (top : List ℕ) (d : Design) → answer ms top ≡ Ok d → HasDistinctNames d
answered_names ms top d e =
    subst HasDistinctNames (answered_design ms top d e) (record { names = different_names (names_in (elaborated ms top).design) (answered_named ms top (answered_sound ms top d e)).different })
