-- The ranges of declared names, and of the words of memories, have small bounds.
use Rattle.std.proofs.Common.{◌≡◌, ◌⊎◌, inl, inr, ◌≤◌, Bool, true, false, not, ◌&&◌, ◌||◌, if◌then◌else◌, List, [], Option, Some, None, refl, subst, map, arith}
use Rattle.std.specs.List.{flat_map}
use Rattle.std.proofs.lemmas.Bool.{and_parts, ltb-false}
use Rattle.cov_host.specs.declared.place.Place.{Place}
use Rattle.design_model.specs.Design.{In}
use Rattle.design_model.specs.declared.design.Range.{Range}
use Rattle.elab_const.specs.Faults.{is_bad_bound}
use Rattle.elab_const.specs.Meaning.{count_of, number_of}
use Rattle.elab_const.specs.Scope as const_scope
use Rattle.elab_const.specs.declared.fault.ConstKind.TheVariants.{BadRange}
use Rattle.flat_design.specs.Declarations.{Declaration, Override, Sort, a_net, a_variable, words_from, an_integer, a_parameter, some_instance, faulty, faulty_memory, all_declarations, bounds_faults, declaration, is_any_memory, is_faulty, is_sound_range, is_sound_vector, is_variable, item_declarations, range_names_faulty, range_value, sort_if, vector_faults, words_faults, words_sort}
use Rattle.flat_design.specs.Expressions.{bound_faults, faults}
use Rattle.flat_design.specs.Fault.{none}
use Rattle.flat_design.specs.Instances.{constant_scope, declared, sort_words}
use Rattle.flat_design.specs.Scope.{Scope, names, names_faulty, natural_number, range_or}
use Rattle.flat_design.proofs.NoConstFaults.{both_false, both_none, bound_clean}
use Rattle.parsed_modules.proofs.flat_laws.LawfulDeclared.{from_all}
use Rattle.parsed_modules.proofs.flat_laws.Members.{in_append, in_flat_map, in_map}
use Rattle.four_state.specs.declared.index.Index.{Index}
use Rattle.four_state.specs.declared.index.Index.TheVariants as number
use Rattle.verilog_tree.specs.Tree.{Expr, ItemForm, Module, RangeExpr, continuous_item, always_item, initial_item, instance_item, integer_item, net_item, parameter_item, port_item, variable_item}
use Rattle.design_names.specs.Names.{AreSmall}

-- both bounds of the range are small
abbrev pub IsSmall : Range → Type 0
IsSmall r = AreSmall r.high r.low

-- so are those of a memory's words
abbrev HasSmallWords : Sort → Type 0
HasSmallWords (words_from r) = IsSmall r
HasSmallWords _ = Unit {0}

-- a declared name
pub record IsWithin (d : Declaration) : Type 0 where
  pub range : IsSmall (range_or d.range)
  pub words : HasSmallWords d.sort

-- ---- a range without a fault

good_bound : (n : Index) → is_bad_bound n ≡ false → count_of n ≤ 1048575
good_bound (number.At n) h = ltb-false 1048575 n h
good_bound number.Below h = omega arith
good_bound number.Strange h = omega arith

not_bad : (b : Bool) (p : Place) → const_scope.fault_if b BadRange p ≡ None → b ≡ false
not_bad true p h = absurd cc
not_bad false p h = refl

not_true : (b : Bool) → not b ≡ true → b ≡ false
not_true true h = absurd cc
not_true false h = refl

small_bound : (g : Scope) (p : Place) (e : Expr) → none (bound_faults g p e (faults g e)) ≡ true → names_faulty g e ≡ false → natural_number g e ≤ 1048575
small_bound g p e h k = good_bound (number_of (names g) e) (not_bad _ p (bound_clean g p e (faults g e) h k).1)

-- the values of the two bounds
abbrev value_of : Scope → RangeExpr → Range
value_of g r = record { high = natural_number g r.high; low = natural_number g r.low }

sound_small : (g : Scope) (r : RangeExpr) → is_sound_range g r ≡ true → IsSmall (value_of g r)
sound_small g r is =
    let a = and_parts (none (bounds_faults g r)) (not (range_names_faulty g r)) is in
    let b = both_false (names_faulty g r.high) (names_faulty g r.low) (not_true _ a.1) in
    let c = both_none (bound_faults g r.bracket r.high (faults g r.high)) (bound_faults g r.bracket r.low (faults g r.low)) a.0 in
    (small_bound g r.bracket r.high c.0 b.0, small_bound g r.bracket r.low c.1 b.1)

vector_small : (g : Scope) (r : Option RangeExpr) → IsSmall (range_or (range_value g r))
vector_small g None = (omega arith, omega arith)
vector_small g (Some r) = by_test (is_sound_vector g (Some r)) refl
  where
    by_test : (b : Bool) → is_sound_vector g (Some r) ≡ b → IsSmall (range_or (if b then Some (value_of g r) else None))
    by_test false is = (omega arith, omega arith)
    by_test true is = sound_small g r (and_parts (none (vector_faults g (Some r))) (is_sound_range g r) is).1

words_small : (g : Scope) (p : Place) (r : Option RangeExpr) → HasSmallWords (words_sort g p r a_variable)
words_small g p None = tt
words_small g p (Some r) = by_test (none (words_faults g p r)) (is_sound_range g r) refl
  where
    by_test : (a b : Bool) → is_sound_range g r ≡ b → HasSmallWords (sort_if (a && b) (words_from (value_of g r)))
    by_test false b is = tt
    by_test true false is = tt
    by_test true true is = sound_small g r is

-- ---- declarations

faulty_small : (b : Bool) → HasSmallWords (if b then faulty_memory else faulty)
faulty_small true = tt
faulty_small false = tt

small_if : (b : Bool) (s : Sort) → HasSmallWords s → HasSmallWords (sort_if b s)
small_if true s h = h
small_if false s h = faulty_small (is_any_memory s)

either_small : (b : Bool) → HasSmallWords (if b then a_variable else a_net)
either_small true = tt
either_small false = tt

item_within : (g : Scope) (p : Place) (form : ItemForm) (d : Declaration) → In d (item_declarations g p form) → IsWithin d
item_within g p (port_item i) d h =
    let k = in_map _ d i.names h in
    subst IsWithin k.2 (record { range = vector_small g i.range; words = small_if _ (if i.reg then a_variable else a_net) (either_small i.reg) })
item_within g p (net_item i) d h = let k = in_map _ d i.names h in subst IsWithin k.2 (record { range = vector_small g i.range; words = small_if _ a_net tt })
item_within g p (variable_item i) d h = let k = in_map _ d i.names h in subst IsWithin k.2 (record { range = vector_small g i.range; words = small_if _ _ (words_small g p k.0.words) })
item_within g p (integer_item ds) d h = let k = in_map _ d ds h in subst IsWithin k.2 (record { range = (omega arith, omega arith); words = tt })
item_within g p (parameter_item ps) d h = let k = in_map _ d ps h in subst IsWithin k.2 (record { range = (omega arith, omega arith); words = tt })
item_within g p (instance_item i) d h = let k = in_map _ d i.ones h in subst IsWithin k.2 (record { range = (omega arith, omega arith); words = tt })
item_within g p (continuous_item x v) d h = absurd h
item_within g p (always_item x v) d h = absurd h
item_within g p (initial_item v) d h = absurd h

all_within : (g : Scope) (m : Module) (d : Declaration) → In d (all_declarations g m) → IsWithin d
all_within g m d h = by_part (in_append d (map (λ p. declaration p.name.place a_parameter None false None p.name) m.params) _ h)
  where
    by_part : In d (map (λ p. declaration p.name.place a_parameter None false None p.name) m.params) ⊎ In d (flat_map (λ i. item_declarations g i.place i.form) m.items) → IsWithin d
    by_part (inl k) = let l = in_map _ d m.params k in subst IsWithin l.2 (record { range = (omega arith, omega arith); words = tt })
    by_part (inr k) = let l = in_flat_map _ d m.items k in item_within g l.0.place l.0.form d l.2

completed_small : (a b : Bool) → HasSmallWords (if a then faulty else (if b then a_variable else a_net))
completed_small true b = tt
completed_small false b = either_small b

pub declared_within : (os : List Override) (m : Module) (d : Declaration) → In d (declared os m) → IsWithin d
declared_within os m d h =
    from_all IsWithin (λ c e k o l. record { range = k.range; words = completed_small (is_faulty c.sort || is_faulty e.sort) (is_variable c.sort || is_variable e.sort) }) [] (all_declarations (constant_scope os m) m) (λ x k. absurd k) (all_within (constant_scope os m) m) d h

pub sort_small : (s : Sort) → HasSmallWords s → IsSmall (sort_words s)
sort_small (words_from r) h = h
sort_small a_net h = (omega arith, omega arith)
sort_small a_variable h = (omega arith, omega arith)
sort_small an_integer h = (omega arith, omega arith)
sort_small a_parameter h = (omega arith, omega arith)
sort_small some_instance h = (omega arith, omega arith)
sort_small faulty h = (omega arith, omega arith)
sort_small faulty_memory h = (omega arith, omega arith)
