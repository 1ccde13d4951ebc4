-- The ranges of declared names are small.
use Rattle.std.proofs.Common.{◌≡◌, ℕ, ◌≤◌, Bool, true, false, not, List, [], ◌∷◌, ◌++◌, map, Option, None, Some, refl, sym, ap, subst, ◌∙◌, arith}
use Rattle.std.specs.Prelude.{◌&&◌, ◌||◌, if◌then◌else◌, nat_lt, bytes_eq, flat_map, All}
use Rattle.std.proofs.lemmas.Bool.{ltb-false}
use Rattle.std.proofs.lemmas.List.Elements.{All-append, All-cons, All-head, All-nil, All-tail}
use Rattle.cov_host.specs.declared.place.Place.{Place}
use Rattle.design_model.specs.Lawful.{span}
use Rattle.design_model.specs.declared.design.Range.{Range}
use Rattle.verilog_tree.specs.declared.item.Named.{Named}
use Rattle.verilog_tree.specs.Tree.{Declared, Expr, RangeExpr, Item, ItemForm, port_item, net_item, variable_item, integer_item, parameter_item, continuous_item, always_item, initial_item, instance_item, Module}
use Rattle.elab_const.specs.Faults.{is_bad_bound}
use Rattle.elab_const.specs.Meaning.{count_of, number_of}
use Rattle.flat_design.specs.Declarations.{Declaration, Sort, a_net, a_variable, words_from, an_integer, a_parameter, some_instance, faulty, faulty_memory, add_declaration, all_declarations, bounds_faults, completed, completes, declaration, declarations, declarations_from, is_sound_range, is_sound_vector, is_any_memory, is_faulty, is_variable, item_declarations, range_value, sort_if, vector_faults, words_faults, words_sort}
use Rattle.flat_design.specs.Expressions.{bound_faults, faults}
use Rattle.flat_design.specs.Fault.{Fault, fault_if, none}
use Rattle.flat_design.specs.Scope.{Scope, names, names_faulty, natural_number}
use Rattle.flat_design.proofs.NoConstFaults.{both_none, both_true, bound_clean}
use Rattle.elab_scope.specs.Entries.{IsRange, IsVectorRange}
use Rattle.elab_declarations.specs.DeclarationBounds.{AreFewWords, IsInBounds}
use Rattle.elab_declarations.proofs.BoundLemmas.{bound_within, bounds_of, is_sound_bound, no_fault, number_there, sound_bounds}

-- the number that a bound without a fault says
number_within : (g : Scope) (p : Place) (e : Expr) → is_sound_bound g p e ≡ true → natural_number g e ≤ 1048575
number_within g p e sound =
    let parts = both_true (none (bound_faults g p e (faults g e))) (not (names_faulty g e)) sound in
    let good : is_bad_bound (number_of (names g) e) ≡ false = no_fault _ _ _ (bound_clean g p e (faults g e) parts.0 (not_true _ parts.1)).1 in
    let there = number_there (number_of (names g) e) good in
    let small : there.0 ≤ 1048575 = bound_within there.0 (ap is_bad_bound (sym there.1) ∙ good) in
    let P : ℕ → Type 0 = λ n. n ≤ 1048575 in
    subst P (sym (ap count_of there.1)) small
  where
    not_true : (b : Bool) → not b ≡ true → b ≡ false
    not_true false h = refl
    not_true true h = absurd cc

-- both bounds of a sound range
range_within : (g : Scope) (r : RangeExpr) → is_sound_range g r ≡ true → IsRange (bounds_of g r)
range_within g r sound =
    let parts = both_true (is_sound_bound g r.bracket r.high) (is_sound_bound g r.bracket r.low) (sym (sound_bounds g r) ∙ sound) in
    (number_within g r.bracket r.high parts.0, number_within g r.bracket r.low parts.1)

-- without a fault the span of a sound range is within the limit
span_within : (bs : List Fault) (sound : Bool) (limit n : ℕ) (f : Fault) → sound ≡ true → none (bs ++ fault_if (sound && nat_lt limit n) f) ≡ true → n ≤ limit
span_within bs sound limit n f is clean =
    let last : none (fault_if (sound && nat_lt limit n) f) ≡ true = (both_none bs (fault_if (sound && nat_lt limit n) f) clean).1 in
    let own : none (fault_if (nat_lt limit n) f) ≡ true = ap (λ b. none (fault_if (b && nat_lt limit n) f)) (sym is) ∙ last in
    ltb-false limit n (untold _ own)
  where
    untold : (b : Bool) → none (fault_if b f) ≡ true → b ≡ false
    untold false h = refl
    untold true h = absurd cc

-- the range of a vector, also where it has a fault
pub vector_within : (g : Scope) (r : Option RangeExpr) → IsVectorRange (range_value g r)
vector_within g None = ((omega arith, omega arith), (omega arith, omega arith))
vector_within g (Some r) = by (is_sound_vector g (Some r)) refl
  where
    by : (b : Bool) → is_sound_vector g (Some r) ≡ b → IsVectorRange (if b then Some (bounds_of g r) else None)
    by true is =
        let parts = both_true (none (vector_faults g (Some r))) (is_sound_range g r) is in
        let wide : span (natural_number g r.high) (natural_number g r.low) ≤ 128 = span_within (bounds_faults g r) (is_sound_range g r) 128 _ _ parts.1 parts.0 in
        (range_within g r parts.1, (omega arith, wide))
    by false is = ((omega arith, omega arith), (omega arith, omega arith))

-- the words of a memory
words_within : (g : Scope) (p : Place) (r : Option RangeExpr) → AreFewWords (words_sort g p r a_variable)
words_within g p None = tt
words_within g p (Some r) = by (none (words_faults g p r)) (is_sound_range g r) refl refl
  where
    by : (a b : Bool) → none (words_faults g p r) ≡ a → is_sound_range g r ≡ b → AreFewWords (sort_if (a && b) (words_from (bounds_of g r)))
    by true true clean sound = (range_within g r sound, span_within (bounds_faults g r) (is_sound_range g r) 65536 _ _ sound clean)
    by true false clean sound = tt
    by false b clean sound = tt

faulty_within : (b : Bool) → AreFewWords (if b then faulty_memory else faulty)
faulty_within true = tt
faulty_within false = tt

sort_within : (b : Bool) (s : Sort) → AreFewWords s → AreFewWords (sort_if b s)
sort_within true s h = h
sort_within false s h = faulty_within (is_any_memory s)

either_within : (b : Bool) → AreFewWords (if b then a_variable else a_net)
either_within true = tt
either_within false = tt

mapped_within : {X : Type 0} (f : X → Declaration) → ((x : X) → IsInBounds (f x)) → (xs : List X) → All IsInBounds (map f xs)
mapped_within f h [] = All-nil IsInBounds
mapped_within f h (x ∷ xs) = All-cons IsInBounds (f x) (map f xs) (h x) (mapped_within f h xs)

declaration_within : (p : Place) (sort : Sort) (r : Option Range) (signed : Bool) (direction : Option Bool) (x : Named) → IsVectorRange r → AreFewWords sort → IsInBounds (declaration p sort r signed direction x)
declaration_within p sort r signed direction x bits words = record { bits = bits; words = words }

-- all names that an item declares
item_within : (g : Scope) (p : Place) (form : ItemForm) → All IsInBounds (item_declarations g p form)
item_within g p (port_item i) =
    let sort : Sort = sort_if (is_sound_vector g i.range) (if i.reg then a_variable else a_net) in
    mapped_within (declaration p sort (range_value g i.range) i.signed (Some i.input)) (λ x. declaration_within p sort (range_value g i.range) i.signed (Some i.input) x (vector_within g i.range) (sort_within (is_sound_vector g i.range) _ (either_within i.reg))) i.names
item_within g p (net_item i) =
    let sort : Sort = sort_if (is_sound_vector g i.range) a_net in
    mapped_within (λ d. declaration p sort (range_value g i.range) i.signed None d.name) (λ d. declaration_within p sort (range_value g i.range) i.signed None d.name (vector_within g i.range) (sort_within (is_sound_vector g i.range) a_net tt)) i.names
item_within g p (variable_item i) =
    let sort : Declared → Sort = λ d. sort_if (is_sound_vector g i.range) (words_sort g p d.words a_variable) in
    mapped_within (λ d. declaration p (sort d) (range_value g i.range) i.signed None d.name) (λ d. declaration_within p (sort d) (range_value g i.range) i.signed None d.name (vector_within g i.range) (sort_within (is_sound_vector g i.range) (words_sort g p d.words a_variable) (words_within g p d.words))) i.names
item_within g p (integer_item ds) =
    let bits : Option Range = Some (record { high = 31; low = 0 }) in
    mapped_within (λ d. declaration p an_integer bits true None d.name) (λ d. declaration_within p an_integer bits true None d.name ((omega arith, omega arith), (omega arith, omega arith)) tt) ds
item_within g p (parameter_item ps) = mapped_within (λ d. declaration p a_parameter None false None d.name) (λ d. declaration_within p a_parameter None false None d.name (vector_within g None) tt) ps
item_within g p (instance_item i) = mapped_within (λ o. declaration p some_instance None false None o.name) (λ o. declaration_within p some_instance None false None o.name (vector_within g None) tt) i.ones
item_within g p (continuous_item x v) = All-nil IsInBounds
item_within g p (always_item x v) = All-nil IsInBounds
item_within g p (initial_item v) = All-nil IsInBounds

items_within : (g : Scope) (is : List Item) → All IsInBounds (flat_map (λ i. item_declarations g i.place i.form) is)
items_within g [] = All-nil IsInBounds
items_within g (i ∷ is) = All-append IsInBounds _ _ (item_within g i.place i.form) (items_within g is)

all_within : (g : Scope) (m : Module) → All IsInBounds (all_declarations g m)
all_within g m =
    All-append IsInBounds _ _ (mapped_within (λ p. declaration p.name.place a_parameter None false None p.name) (λ p. declaration_within p.name.place a_parameter None false None p.name (vector_within g None) tt) m.params) (items_within g m.items)

completed_sort_within : (a b : Bool) → AreFewWords (if a then faulty else (if b then a_variable else a_net))
completed_sort_within true b = tt
completed_sort_within false b = either_within b

completed_within : (b : Bool) (c d : Declaration) → IsInBounds c → IsInBounds (if b then completed c d else c)
completed_within true c d h = record { bits = h.bits; words = completed_sort_within (is_faulty c.sort || is_faulty d.sort) (is_variable c.sort || is_variable d.sort) }
completed_within false c d h = h

added_within : (cs : List Declaration) (d : Declaration) → All IsInBounds cs → IsInBounds d → All IsInBounds (add_declaration cs d)
added_within [] d all here = All-cons IsInBounds d [] here (All-nil IsInBounds)
added_within (c ∷ cs) d all here = by (bytes_eq c.name.name d.name.name) (added_within cs d (All-tail IsInBounds c cs all) here)
  where
    by : (b : Bool) → All IsInBounds (add_declaration cs d) → All IsInBounds (if b then (if completes c d then completed c d else c) ∷ cs else c ∷ add_declaration cs d)
    by true rest = All-cons IsInBounds _ cs (completed_within (completes c d) c d (All-head IsInBounds c cs all)) (All-tail IsInBounds c cs all)
    by false rest = All-cons IsInBounds c _ (All-head IsInBounds c cs all) rest

from_within : (sofar ds : List Declaration) → All IsInBounds sofar → All IsInBounds ds → All IsInBounds (declarations_from sofar ds)
from_within sofar [] done rest = done
from_within sofar (d ∷ ds) done rest = from_within (add_declaration sofar d) ds (added_within sofar d done (All-head IsInBounds d ds rest)) (All-tail IsInBounds d ds rest)

-- each declared name
pub declared_within : (g : Scope) (m : Module) → All IsInBounds (declarations g m)
declared_within g m = from_within [] (all_declarations g m) (All-nil IsInBounds) (all_within g m)
