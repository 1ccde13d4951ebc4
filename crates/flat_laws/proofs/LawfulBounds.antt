-- The bounds of the signals of a scope are small numbers.
use Rattle.std.proofs.Common.{◌≡◌, ◌⊎◌, inl, inr, ℕ, ◌≤◌, Bool, true, false, not, if◌then◌else◌, List, [], Option, Some, None, refl, sym, ◌∙◌, subst, map, arith}
use Rattle.std.specs.List.{flat_map}
use Rattle.std.specs.Prelude.{unwrap_or}
use Rattle.std.proofs.lemmas.Bool.{false≢true, and_parts, ltb-false}
use Rattle.cov_host.specs.declared.place.Place.{Place}
use Rattle.four_state.specs.declared.index.Index.{Index}
use Rattle.four_state.specs.declared.index.Index.TheVariants as number
use Rattle.design_model.specs.Design.{In}
use Rattle.design_model.specs.declared.design.Range.{Range}
use Rattle.verilog_tree.specs.Tree.{Expr, ItemForm, Module, RangeExpr, continuous_item, always_item, initial_item, instance_item, integer_item, net_item, parameter_item, port_item, variable_item}
use Rattle.elab_const.specs.Faults.{is_bad_bound}
use Rattle.elab_const.specs.Meaning.{count_of, number_of}
use Rattle.elab_const.specs.Scope as const_scope
use Rattle.elab_const.specs.declared.fault.ConstKind.TheVariants.{BadRange}
use Rattle.flat_design.specs.Declarations.{Declaration, Override, a_parameter, all_declarations, bounds_faults, declaration, is_sound_range, is_sound_vector, item_declarations, range_names_faulty, range_value, vector_faults}
use Rattle.flat_design.specs.Expressions.{bound_faults, faults}
use Rattle.flat_design.specs.Fault.{none}
use Rattle.flat_design.specs.Instances.{Instantiation, alias_number, constant_scope, declared, entries, is_signal, other_entry, own_constants, scope_of, signal_entry}
use Rattle.flat_design.specs.Scope.{Scope, binding_of, look_up, names, names_faulty, natural_number, range_or}
use Rattle.flat_design.specs.declared.entry.Entry.TheVariants.{Signal as a_signal}
use Rattle.flat_design.specs.declared.entry.SignalEntry.{SignalEntry}
use Rattle.flat_design.proofs.NoConstFaults.{both_false, both_none, bound_clean}
use Rattle.flat_laws.proofs.LawfulDeclared.{from_all}
use Rattle.flat_laws.proofs.LawfulPorts.{declared_signal, other_no_signal, signal_range}
use Rattle.flat_laws.proofs.LawfulScope.{own_constant}
use Rattle.flat_laws.proofs.LawfulSound.{entries_all}
use Rattle.flat_laws.proofs.Members.{in_append, in_flat_map, in_map}

-- both bounds of a range are below the greatest that a bound may be
pub record IsBounded (r : Range) : Type 0 where
  pub high : r.high ≤ 1048575
  pub low : r.low ≤ 1048575

-- a bound without a fault
good_bound : (n : Index) → is_bad_bound n ≡ false → count_of n ≤ 1048575
good_bound (number.At n) h = ltb-false 1048575 n h
good_bound number.Below h = omega arith
good_bound number.Strange h = omega arith

not_bad : (b : Bool) (p : Place) → const_scope.fault_if b BadRange p ≡ None → b ≡ false
not_bad true p h = absurd cc
not_bad false p h = refl

small_bound : (g : Scope) (p : Place) (e : Expr) → none (bound_faults g p e (faults g e)) ≡ true → names_faulty g e ≡ false → natural_number g e ≤ 1048575
small_bound g p e h k = good_bound (number_of (names g) e) (not_bad _ p (bound_clean g p e (faults g e) h k).1)

not_true : (b : Bool) → not b ≡ true → b ≡ false
not_true true h = absurd (false≢true h)
not_true false h = refl

value_bounded : (g : Scope) (r : Option RangeExpr) (q : Range) → range_value g r ≡ Some q → IsBounded q
value_bounded g None q h = absurd cc
value_bounded g (Some r) q h = by_test (is_sound_vector g (Some r)) refl h
  where
    by_test : (b : Bool) → is_sound_vector g (Some r) ≡ b → (if b then Some (record { high = natural_number g r.high; low = natural_number g r.low }) else None) ≡ Some q → IsBounded q
    by_test false is e = absurd cc
    by_test true is e =
        let a = and_parts (none (vector_faults g (Some r))) (is_sound_range g r) is in
        let b = and_parts (none (bounds_faults g r)) (not (range_names_faulty g r)) a.1 in
        let c = both_false (names_faulty g r.high) (names_faulty g r.low) (not_true _ b.1) in
        let f = both_none (bound_faults g r.bracket r.high (faults g r.high)) (bound_faults g r.bracket r.low (faults g r.low)) b.0 in
        let same : record { high = natural_number g r.high; low = natural_number g r.low } ≡ q = some_same _ q e in
        subst IsBounded same (record { high = small_bound g r.bracket r.high f.0 c.0; low = small_bound g r.bracket r.low f.1 c.1 })
      where
        some_same : (a b : Range) → Some a ≡ Some b → a ≡ b
        some_same a b e = cc

-- the range of a declaration
record HasBounds (d : Declaration) : Type 0 where
  bounds : (q : Range) → d.range ≡ Some q → IsBounded q

no_range : (d : Declaration) → d.range ≡ None → HasBounds d
no_range d h = record { bounds = λ q e. absurd (let both : None ≡ Some q = sym h ∙ e in cc) }

item_bounded : (g : Scope) (p : Place) (form : ItemForm) (d : Declaration) → In d (item_declarations g p form) → HasBounds d
item_bounded g p (port_item i) d h = let k = in_map _ d i.names h in subst HasBounds k.2 (record { bounds = value_bounded g i.range })
item_bounded g p (net_item i) d h = let k = in_map _ d i.names h in subst HasBounds k.2 (record { bounds = value_bounded g i.range })
item_bounded g p (variable_item i) d h = let k = in_map _ d i.names h in subst HasBounds k.2 (record { bounds = value_bounded g i.range })
item_bounded g p (integer_item ds) d h = let k = in_map _ d ds h in subst HasBounds k.2 (record { bounds = λ q e. by_range q e })
  where
    by_range : (q : Range) → Some (record { high = 31; low = 0 }) ≡ Some q → IsBounded q
    by_range q e = subst IsBounded (let same : record { high = 31; low = 0 } ≡ q = cc in same) (record { high = omega arith; low = omega arith })
item_bounded g p (parameter_item ps) d h = let k = in_map _ d ps h in subst HasBounds k.2 (no_range _ refl)
item_bounded g p (instance_item i) d h = let k = in_map _ d i.ones h in subst HasBounds k.2 (no_range _ refl)
item_bounded g p (continuous_item x v) d h = absurd h
item_bounded g p (always_item x v) d h = absurd h
item_bounded g p (initial_item v) d h = absurd h

all_bounded : (g : Scope) (m : Module) (d : Declaration) → In d (all_declarations g m) → HasBounds d
all_bounded g m d h = by_part (in_append d (map (λ p. declaration p.name.place a_parameter None false None p.name) m.params) _ h)
  where
    by_part : In d (map (λ p. declaration p.name.place a_parameter None false None p.name) m.params) ⊎ In d (flat_map (λ i. item_declarations g i.place i.form) m.items) → HasBounds d
    by_part (inl k) = let l = in_map _ d m.params k in subst HasBounds l.2 (no_range _ refl)
    by_part (inr k) = let l = in_flat_map _ d m.items k in item_bounded g l.0.place l.0.form d l.2

declared_bounded : (os : List Override) (m : Module) (d : Declaration) → In d (declared os m) → HasBounds d
declared_bounded os m d h =
    from_all HasBounds (λ c e k o l. record { bounds = k.bounds }) [] (all_declarations (constant_scope os m) m) (λ x k. absurd k) (all_bounded (constant_scope os m) m) d h

-- what the range of a signal is taken to be
pub record HasBoundedSignals (g : Scope) : Type 0 where
  pub bounded : (x : List ℕ) (e : SignalEntry) → look_up g x ≡ Some (a_signal e) → IsBounded (range_or e.range)

or_bounded : (r : Option Range) → ((q : Range) → r ≡ Some q → IsBounded q) → IsBounded (range_or r)
or_bounded None h = record { high = omega arith; low = omega arith }
or_bounded (Some q) h = h q refl

-- in each instance
pub scope_bounded : (i : Instantiation) (s k : ℕ) → HasBoundedSignals (scope_of i s k)
scope_bounded i s k = record { bounded = λ x e found. of_declared x e (declared_signal (binding_of (own_constants i.overrides m) x) _ e (own_constant i.overrides m x) found) }
  where
    m : Module
    m = i.of_module

    by_signal : (d : Declaration) → HasBounds d → (n k : ℕ) (b : Bool) (e : SignalEntry) → Some (if b then signal_entry n d else other_entry k d d.sort) ≡ Some (a_signal e) → IsBounded (range_or e.range)
    by_signal d h n k true e same = subst (λ r. IsBounded (range_or r)) (signal_range n d e same) (or_bounded d.range h.bounds)
    by_signal d h n k false e same = absurd (other_no_signal k d d.sort e same)

    of_declared : (x : List ℕ) (e : SignalEntry) → binding_of (entries i.aliases m s k (declared i.overrides m)) x ≡ Some (a_signal e) → IsBounded (range_or e.range)
    of_declared x e =
        entries_all (λ o. o ≡ Some (a_signal e) → IsBounded (range_or e.range)) i.aliases m s k (declared i.overrides m) x (λ same. absurd (let none_is : None ≡ Some (a_signal e) = same in cc))
        (λ d h same n l. by_signal d (declared_bounded i.overrides m d h) (unwrap_or (alias_number i.aliases d.name.name) n) l (is_signal m d) e)
