-- The instances that a module without fault names have different names.
use Rattle.std.proofs.Common.{◌≡◌, ◌⊎◌, inl, inr, ℕ, Bool, true, false, ◌&&◌, cond, if◌then◌else◌, List, [], ◌∷◌, ◌++◌, Option, Some, None, refl, sym, ap, ◌∙◌, subst, map}
use Rattle.std.specs.List.{filter, flat_map}
use Rattle.std.specs.Prelude.{bytes_eq}
use Rattle.std.proofs.lemmas.Bool.{false≢true}
use Rattle.std.proofs.lemmas.List.{map-append}
use Rattle.std.proofs.lemmas.List.Elements.{filter-append}
use Rattle.cov_host.specs.declared.place.Place.{Place}
use Rattle.design_model.specs.Design.{In, AreDistinct}
use Rattle.verilog_tree.specs.Tree.{Param, RangeExpr, One, ItemForm, initial_item, port_item, net_item, variable_item, integer_item, parameter_item, continuous_item, always_item, instance_item, Item, Module}
use Rattle.flat_design.specs.Declarations.{Declaration, Override, Sort, a_net, a_variable, words_from, an_integer, a_parameter, some_instance, faulty, faulty_memory, declaration, is_any_memory, sort_if, words_sort, item_declarations, all_declarations, completes, completed, add_declaration, is_declared_again, twice_faults, words_faults, is_sound_range}
use Rattle.flat_design.specs.Fault.{none}
use Rattle.flat_design.specs.Instances.{constant_scope, declaration_faults}
use Rattle.flat_design.specs.Scope.{Scope, natural_number}
use Rattle.flat_laws.proofs.DeclaredOnce.{name_of, is_plain, not_again}
use Rattle.flat_laws.proofs.Freedom.{both_empty, not_told}
use Rattle.flat_laws.proofs.LawfulScope.{same_bytes}
use Rattle.flat_laws.proofs.LawfulSound.{no_declaration_faults}
use Rattle.flat_laws.proofs.Members.{in_map, in_filter}
use Rattle.flat_laws.proofs.Steps.{ones_in, ones_of}

-- a declaration by this name
record HasName (cs : List Declaration) (x : List ℕ) : Type 0 where
  found : Declaration
  is_in : In found cs
  named : name_of found ≡ x

-- the name that is added is among the declarations
added_here : (cs : List Declaration) (d : Declaration) → HasName (add_declaration cs d) (name_of d)
added_here [] d = record { found = d; is_in = inl refl; named = refl }
added_here (c ∷ cs) d = by_name (added_here cs d) (bytes_eq c.name.name d.name.name) refl
  where
    by_completion : (b : Bool) → name_of c ≡ name_of d → HasName ((if b then completed c d else c) ∷ cs) (name_of d)
    by_completion true same = record { found = completed c d; is_in = inl refl; named = same }
    by_completion false same = record { found = c; is_in = inl refl; named = same }

    by_name : HasName (add_declaration cs d) (name_of d) → (b : Bool) → bytes_eq c.name.name d.name.name ≡ b → HasName (if b then (if completes c d then completed c d else c) ∷ cs else c ∷ add_declaration cs d) (name_of d)
    by_name rest true is = by_completion (completes c d) (same_bytes c.name.name d.name.name is)
    by_name rest false is = record { found = rest.found; is_in = inr rest.is_in; named = rest.named }

-- and the others stay
added_keeps : (cs : List Declaration) (d : Declaration) (x : List ℕ) → HasName cs x → HasName (add_declaration cs d) x
added_keeps [] d x h = absurd h.is_in
added_keeps (c ∷ cs) d x h = by_name (added_keeps cs d x) (bytes_eq c.name.name d.name.name) h.is_in
  where
    by_completion : (b : Bool) → (c ≡ h.found) ⊎ In h.found cs → HasName ((if b then completed c d else c) ∷ cs) x
    by_completion true (inl e) = record { found = completed c d; is_in = inl refl; named = ap name_of e ∙ h.named }
    by_completion false (inl e) = record { found = c; is_in = inl refl; named = ap name_of e ∙ h.named }
    by_completion b (inr k) = record { found = h.found; is_in = inr k; named = h.named }

    by_name : (HasName cs x → HasName (add_declaration cs d) x) → (b : Bool) → (c ≡ h.found) ⊎ In h.found cs → HasName (if b then (if completes c d then completed c d else c) ∷ cs else c ∷ add_declaration cs d) x
    by_name rest true k = by_completion (completes c d) k
    by_name rest false (inl e) = record { found = c; is_in = inl refl; named = ap name_of e ∙ h.named }
    by_name rest false (inr k) = let r = rest (record { found = h.found; is_in = k; named = h.named }) in record { found = r.found; is_in = inr r.is_in; named = r.named }

-- a declaration that nothing completes has a name that no declaration before it has
no_more : (sofar ds : List Declaration) → twice_faults sofar ds ≡ [] → (d : Declaration) → In d ds → is_plain d.sort ≡ true → HasName sofar (name_of d) → ⊥
no_more sofar [] once d h plain named = h
no_more sofar (e ∷ ds) once d (inl same) plain named =
    let p = both_empty _ (twice_faults (add_declaration sofar e) ds) once in
    not_again sofar named.found d plain (subst (λ z. is_declared_again sofar z ≡ false) same (not_told (is_declared_again sofar e) _ p.0)) named.is_in named.named
no_more sofar (e ∷ ds) once d (inr h) plain named =
    let p = both_empty _ (twice_faults (add_declaration sofar e) ds) once in
    no_more (add_declaration sofar e) ds p.1 d h plain (added_keeps sofar e (name_of d) named)

-- so the names of those that nothing completes differ
plain_distinct : (p : Declaration → Bool) → ((d : Declaration) → p d ≡ true → is_plain d.sort ≡ true) → (sofar ds : List Declaration) → twice_faults sofar ds ≡ [] → AreDistinct (map name_of (filter p ds))
plain_distinct p plain sofar [] once = tt
plain_distinct p plain sofar (d ∷ ds) once = by_test (plain_distinct p plain (add_declaration sofar d) ds rest) (p d)
  where
    rest : twice_faults (add_declaration sofar d) ds ≡ []
    rest = (both_empty _ (twice_faults (add_declaration sofar d) ds) once).1

    not_among : In (name_of d) (map name_of (filter p ds)) → ⊥
    not_among k =
        let l = in_map name_of (name_of d) (filter p ds) k in
        let f = in_filter p l.0 ds l.1 in
        no_more (add_declaration sofar d) ds rest l.0 f.0 (plain l.0 f.1) (subst (HasName (add_declaration sofar d)) (sym l.2) (added_here sofar d))

    by_test : AreDistinct (map name_of (filter p ds)) → (b : Bool) → AreDistinct (map name_of (cond b (d ∷ filter p ds) (filter p ds)))
    by_test more true = (not_among, more)
    by_test more false = more

-- declared as an instance
abbrev is_instance_sort : Sort → Bool
is_instance_sort some_instance = true
is_instance_sort _ = false

abbrev is_instance : Declaration → Bool
is_instance d = is_instance_sort d.sort

instance_plain : (s : Sort) → is_instance_sort s ≡ true → is_plain s ≡ true
instance_plain some_instance h = refl
instance_plain a_net h = absurd (false≢true h)
instance_plain a_variable h = absurd (false≢true h)
instance_plain (words_from r) h = refl
instance_plain an_integer h = refl
instance_plain a_parameter h = refl
instance_plain faulty h = absurd (false≢true h)
instance_plain faulty_memory h = refl

-- the name of an instance
abbrev pub one_name : One → List ℕ
one_name o = o.name.name

none_kept : {A : Type 0} (f : A → Declaration) → ((x : A) → is_instance (f x) ≡ false) → (xs : List A) → map name_of (filter is_instance (map f xs)) ≡ []
none_kept f h [] = refl
none_kept f h (x ∷ xs) = rw (h x) (none_kept f h xs)

no_instance_faulty : (b : Bool) → is_instance_sort (if b then faulty_memory else faulty) ≡ false
no_instance_faulty true = refl
no_instance_faulty false = refl

no_instance_if : (b : Bool) (s : Sort) → is_instance_sort s ≡ false → is_instance_sort (sort_if b s) ≡ false
no_instance_if true s h = h
no_instance_if false s h = no_instance_faulty (is_any_memory s)

no_instance_port : (b : Bool) → is_instance_sort (if b then a_variable else a_net) ≡ false
no_instance_port true = refl
no_instance_port false = refl

no_instance_words : (g : Scope) (p : Place) (r : Option RangeExpr) → is_instance_sort (words_sort g p r a_variable) ≡ false
no_instance_words g p None = refl
no_instance_words g p (Some r) = no_instance_if (none (words_faults g p r) && is_sound_range g r) (words_from (record { high = natural_number g r.high; low = natural_number g r.low })) refl

instances_kept : (p : Place) (os : List One) → map name_of (filter is_instance (map (λ o. declaration p some_instance None false None o.name) os)) ≡ map one_name os
instances_kept p [] = refl
instances_kept p (o ∷ os) = ap (λ z. one_name o ∷ z) (instances_kept p os)

form_instances : (g : Scope) (p : Place) (form : ItemForm) → map name_of (filter is_instance (item_declarations g p form)) ≡ map one_name (ones_in form)
form_instances g p (port_item i) = none_kept _ (λ x. no_instance_if _ _ (no_instance_port i.reg)) i.names
form_instances g p (net_item i) = none_kept _ (λ x. no_instance_if _ a_net refl) i.names
form_instances g p (variable_item i) = none_kept _ (λ x. no_instance_if _ _ (no_instance_words g p x.words)) i.names
form_instances g p (integer_item ds) = none_kept _ (λ x. refl) ds
form_instances g p (parameter_item ps) = none_kept _ (λ x. refl) ps
form_instances g p (instance_item i) = instances_kept p i.ones
form_instances g p (continuous_item x v) = refl
form_instances g p (always_item x v) = refl
form_instances g p (initial_item v) = refl

items_instances : (g : Scope) (xs : List Item) → map name_of (filter is_instance (flat_map (λ i. item_declarations g i.place i.form) xs)) ≡ map one_name (ones_of xs)
items_instances g [] = refl
items_instances g (x ∷ xs) =
    let here : List Declaration = item_declarations g x.place x.form in
    let more : List Declaration = flat_map (λ i. item_declarations g i.place i.form) xs in
    ap (map name_of) (filter-append is_instance here more) ∙ (map-append name_of (filter is_instance here) (filter is_instance more) ∙
    (ap (λ z. z ++ map name_of (filter is_instance more)) (form_instances g x.place x.form) ∙ (ap (λ z. map one_name (ones_in x.form) ++ z) (items_instances g xs) ∙ sym (map-append one_name (ones_in x.form) (ones_of xs)))))

all_instances_named : (g : Scope) (m : Module) → map name_of (filter is_instance (all_declarations g m)) ≡ map one_name (ones_of m.items)
all_instances_named g m =
    let params : List Declaration = map (λ (p : Param). declaration p.name.place a_parameter None false None p.name) m.params in
    let more : List Declaration = flat_map (λ i. item_declarations g i.place i.form) m.items in
    ap (map name_of) (filter-append is_instance params more) ∙ (map-append name_of (filter is_instance params) (filter is_instance more) ∙
    (ap (λ z. z ++ map name_of (filter is_instance more)) (none_kept (λ (p : Param). declaration p.name.place a_parameter None false None p.name) (λ x. refl) m.params) ∙ items_instances g m.items))

-- the names of the instances of a module differ
pub instances_distinct : (os : List Override) (m : Module) → declaration_faults os m ≡ [] → AreDistinct (map one_name (ones_of m.items))
instances_distinct os m e =
    let g = constant_scope os m in
    subst AreDistinct (all_instances_named g m)
    (plain_distinct is_instance (λ d h. instance_plain d.sort h) [] (all_declarations g m) (no_declaration_faults os m e).twice)
