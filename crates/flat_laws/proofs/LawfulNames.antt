-- No name of an instance is empty, and no name has the entry that is used only where constants are needed.
use Rattle.std.proofs.Common.{◌≡◌, ◌⊎◌, inl, inr, ℕ, Bool, true, false, cond, if◌then◌else◌, List, [], ◌∷◌, ◌++◌, Option, Some, None, refl, sym, ap, ◌∙◌, subst, map}
use Rattle.std.specs.List.{flat_map}
use Rattle.std.specs.Prelude.{bytes_eq, is_none, unwrap_or}
use Rattle.cov_host.specs.declared.place.Place.{Place}
use Rattle.design_model.specs.Design.{In}
use Rattle.verilog_tree.specs.declared.item.Named.{Named}
use Rattle.verilog_tree.specs.Tree.{Param, ItemForm, initial_item, port_item, net_item, variable_item, integer_item, parameter_item, continuous_item, always_item, instance_item, Item, Module}
use Rattle.flat_design.specs.Declarations.{Declaration, Override, Sort, a_net, a_variable, words_from, an_integer, a_parameter, some_instance, faulty, faulty_memory, declaration, item_declarations, all_declarations, names_parameter, param_entry, with_param, constants_from}
use Rattle.flat_design.specs.Identifiers.{names_of, declared_names, params_of, item_params}
use Rattle.flat_design.specs.Instances.{Instantiation, constants, constant_scope, other_names, own_constants, declared, other_entry, signal_entry, entries, scope_of, is_signal, alias_number}
use Rattle.flat_design.specs.Scope.{Scope, Bindings, binding_of, entry_or, with_bindings, look_up}
use Rattle.flat_design.specs.declared.entry.Entry.{Entry}
use Rattle.flat_design.specs.declared.entry.Entry.TheVariants.{Constant as a_constant, Turn as a_turn, Signal as a_signal, Memory as a_memory, LoopVariable as a_loop_variable, Instance as an_instance, NoConstant as no_constant, Faulty as a_faulty_one}
use Rattle.flat_laws.proofs.LawfulDeclared.{from_all}
use Rattle.flat_laws.proofs.LawfulScope.{same_bytes, IsConstantOrFaulty, binding_kept, own_constant}
use Rattle.flat_laws.proofs.LawfulSound.{entries_all}
use Rattle.flat_laws.proofs.Members.{in_append, in_left, in_right, in_map, in_flat_map, in_flat_map_back}

pub in_map_back : {A B : Type 0} (f : A → B) (x : A) (xs : List A) → In x xs → In (f x) (map f xs)
in_map_back f x [] h = absurd h
in_map_back f x (y ∷ ys) (inl e) = inl (ap f e)
in_map_back f x (y ∷ ys) (inr h) = inr (in_map_back f x ys h)

-- the name of the declaration is one that the module declares
pub record IsNamed (names : List Named) (d : Declaration) : Type 0 where
  pub named : In d.name names

item_named : (g : Scope) (p : Place) (form : ItemForm) (d : Declaration) → In d (item_declarations g p form) → IsNamed (declared_names form) d
item_named g p (port_item i) d h = let k = in_map _ d i.names h in subst (IsNamed i.names) k.2 (record { named = k.1 })
item_named g p (net_item i) d h = let k = in_map _ d i.names h in subst (IsNamed (declared_names (net_item i))) k.2 (record { named = in_map_back (λ x. x.name) k.0 i.names k.1 })
item_named g p (variable_item i) d h = let k = in_map _ d i.names h in subst (IsNamed (declared_names (variable_item i))) k.2 (record { named = in_map_back (λ x. x.name) k.0 i.names k.1 })
item_named g p (integer_item ds) d h = let k = in_map _ d ds h in subst (IsNamed (declared_names (integer_item ds))) k.2 (record { named = in_map_back (λ x. x.name) k.0 ds k.1 })
item_named g p (parameter_item ps) d h = let k = in_map _ d ps h in subst (IsNamed (declared_names (parameter_item ps))) k.2 (record { named = in_map_back (λ x. x.name) k.0 ps k.1 })
item_named g p (instance_item i) d h = let k = in_map _ d i.ones h in subst (IsNamed (declared_names (instance_item i))) k.2 (record { named = in_map_back (λ x. x.name) k.0 i.ones k.1 })
item_named g p (continuous_item x v) d h = absurd h
item_named g p (always_item x v) d h = absurd h
item_named g p (initial_item v) d h = absurd h

declarations_named : (g : Scope) (m : Module) (d : Declaration) → In d (all_declarations g m) → IsNamed (names_of m) d
declarations_named g m d h = by_part (in_append d (map (λ p. declaration p.name.place a_parameter None false None p.name) m.params) _ h)
  where
    params : List Named
    params = map (λ p. p.name) m.params

    of_items : List Named
    of_items = flat_map (λ i. declared_names i.form) m.items

    by_part : In d (map (λ p. declaration p.name.place a_parameter None false None p.name) m.params) ⊎ In d (flat_map (λ i. item_declarations g i.place i.form) m.items) → IsNamed (names_of m) d
    by_part (inl k) = let l = in_map _ d m.params k in subst (IsNamed (names_of m)) l.2 (record { named = in_left l.0.name params of_items (in_map_back (λ p. p.name) l.0 m.params l.1) })
    by_part (inr k) =
        let l = in_flat_map _ d m.items k in
        let n = item_named g l.0.place l.0.form d l.2 in
        record { named = in_right d.name params of_items (in_flat_map_back (λ (i : Item). declared_names i.form) l.0 m.items d.name l.1 n.named) }

pub declared_named : (os : List Override) (m : Module) (d : Declaration) → In d (declared os m) → In d.name (names_of m)
declared_named os m d h =
    (from_all (IsNamed (names_of m)) (λ c e k o l. record { named = k.named }) [] (all_declarations (constant_scope os m) m) (λ x k. absurd k) (declarations_named (constant_scope os m) m) d h).named

params_in_form : (form : ItemForm) (p : Param) → In p (item_params form) → In p.name (declared_names form)
params_in_form (parameter_item ps) p h = in_map_back (λ x. x.name) p ps h
params_in_form (port_item x) p h = absurd h
params_in_form (net_item x) p h = absurd h
params_in_form (variable_item x) p h = absurd h
params_in_form (integer_item x) p h = absurd h
params_in_form (instance_item x) p h = absurd h
params_in_form (continuous_item x v) p h = absurd h
params_in_form (always_item x v) p h = absurd h
params_in_form (initial_item x) p h = absurd h

param_named : (m : Module) (p : Param) → In p (params_of m) → In p.name (names_of m)
param_named m p h = by_part (in_append p m.params (flat_map (λ i. item_params i.form) m.items) h)
  where
    by_part : In p m.params ⊎ In p (flat_map (λ i. item_params i.form) m.items) → In p.name (names_of m)
    by_part (inl k) = in_left p.name (map (λ x. x.name) m.params) _ (in_map_back (λ x. x.name) p m.params k)
    by_part (inr k) =
        let l = in_flat_map (λ (i : Item). item_params i.form) p m.items k in
        in_right p.name (map (λ x. x.name) m.params) _ (in_flat_map_back (λ (i : Item). declared_names i.form) l.0 m.items p.name l.1 (params_in_form l.0.form p l.2))

-- the empty name is not bound
pushed_empty : (bs : Bindings) (y : List ℕ) (e : Entry) → binding_of bs [] ≡ None → bytes_eq [] y ≡ false → binding_of (bs ++ (y, e) ∷ []) [] ≡ None
pushed_empty [] y e h k = rw k refl
pushed_empty ((w, f) ∷ bs) y e h k = by_test (pushed_empty bs y e) (bytes_eq [] w) h
  where
    by_test : (binding_of bs [] ≡ None → bytes_eq [] y ≡ false → binding_of (bs ++ (y, e) ∷ []) [] ≡ None) → (b : Bool) → cond b (Some f) (binding_of bs []) ≡ None → cond b (Some f) (binding_of (bs ++ (y, e) ∷ []) []) ≡ None
    by_test rest true l = absurd cc
    by_test rest false l = rest l k

not_empty : (y : List ℕ) → (y ≡ [] → ⊥) → bytes_eq [] y ≡ false
not_empty y h = by_test (bytes_eq [] y) refl
  where
    by_test : (b : Bool) → bytes_eq [] y ≡ b → b ≡ false
    by_test true is = absurd (h (sym (same_bytes [] y is)))
    by_test false is = refl

constants_not_empty : (others : Scope) (os : List Override) (sofar : Bindings) (ps : List Param) → binding_of sofar [] ≡ None → ((p : Param) → In p ps → p.name.name ≡ [] → ⊥) → binding_of (constants_from others os sofar ps) [] ≡ None
constants_not_empty others os sofar [] h each = h
constants_not_empty others os sofar (p ∷ ps) h each = constants_not_empty others os (with_param others os sofar p) ps (by_test (is_none (binding_of sofar p.name.name))) (λ q k. each q (inr k))
  where
    by_test : (b : Bool) → binding_of (if b then sofar ++ (p.name.name, param_entry (with_bindings sofar others) os p) ∷ [] else sofar) [] ≡ None
    by_test true = pushed_empty sofar p.name.name _ h (not_empty p.name.name (each p (inl refl)))
    by_test false = h

pub scope_not_empty : (i : Instantiation) (s k : ℕ) → ((x : Named) → In x (names_of i.of_module) → x.name ≡ [] → ⊥) → look_up (scope_of i s k) [] ≡ None
scope_not_empty i s k plain =
    either (binding_of (own_constants i.overrides m) []) (binding_of (entries i.aliases m s k (declared i.overrides m)) [])
    (binding_kept (names_parameter (declared i.overrides m)) (constants i.overrides m) []
    ∙ kept_none (names_parameter (declared i.overrides m) []) _ (constants_not_empty (other_names m) i.overrides [] (params_of m) refl (λ p h. plain p.name (param_named m p h))))
    (entries_all (λ o. o ≡ None) i.aliases m s k (declared i.overrides m) [] refl (λ d h same s2 k2. absurd (plain d.name (declared_named i.overrides m d h) (sym same))))
  where
    m : Module
    m = i.of_module

    kept_none : (b : Bool) (o : Option Entry) → o ≡ None → cond b o None ≡ None
    kept_none true o h = h
    kept_none false o h = refl

    either : (a b : Option Entry) → a ≡ None → b ≡ None → entry_or a (entry_or b None) ≡ None
    either a b h l = rw (h, l) refl

-- the entry that is used only where constants are needed
abbrev pub is_no_constant_entry : Option Entry → Bool
is_no_constant_entry (Some no_constant) = true
is_no_constant_entry _ = false

other_told : (k : ℕ) (d : Declaration) (s : Sort) → is_no_constant_entry (Some (other_entry k d s)) ≡ false
other_told k d (words_from r) = refl
other_told k d a_net = refl
other_told k d a_variable = refl
other_told k d an_integer = refl
other_told k d a_parameter = refl
other_told k d some_instance = refl
other_told k d faulty = refl
other_told k d faulty_memory = refl

pub scope_told : (i : Instantiation) (s k : ℕ) (x : List ℕ) → is_no_constant_entry (look_up (scope_of i s k) x) ≡ false
scope_told i s k x =
    either (binding_of (own_constants i.overrides m) x) (binding_of (entries i.aliases m s k (declared i.overrides m)) x)
    (own_constant i.overrides m x)
    (entries_all (λ o. is_no_constant_entry o ≡ false) i.aliases m s k (declared i.overrides m) x refl (λ d h same s2 k2. by_signal d s2 k2 (is_signal m d)))
  where
    m : Module
    m = i.of_module

    by_signal : (d : Declaration) (s2 k2 : ℕ) (b : Bool) → is_no_constant_entry (Some (if b then signal_entry (unwrap_or (alias_number i.aliases d.name.name) s2) d else other_entry k2 d d.sort)) ≡ false
    by_signal d s2 k2 true = refl
    by_signal d s2 k2 false = other_told k2 d d.sort

    either : (a b : Option Entry) → IsConstantOrFaulty a → is_no_constant_entry b ≡ false → is_no_constant_entry (entry_or a (entry_or b None)) ≡ false
    either None None h l = refl
    either None (Some y) h l = l
    either (Some (a_constant v)) b h l = refl
    either (Some a_faulty_one) b h l = refl
    either (Some (a_turn v)) b h l = absurd h
    either (Some (a_signal v)) b h l = absurd h
    either (Some (a_memory v)) b h l = absurd h
    either (Some a_loop_variable) b h l = absurd h
    either (Some an_instance) b h l = absurd h
    either (Some no_constant) b h l = absurd h
