-- The scope of an instance, name by name, and the numbers after its signals and memories.
use Rattle.std.proofs.Common.{◌≡◌, ℕ, ◌+◌, ◌<◌, Bool, true, false, cond, List, [], ◌∷◌, ◌++◌, length, drop, drop-cons, get_or, add-one, add-zero, Option, Some, None, Result, Ok, Err, refl, sym, ap, subst, ◌∙◌, arith}
use Rattle.std.specs.Prelude.{filter, is_none, if◌then◌else◌, All, IfOk}
use Rattle.std.specs.Option.{option_or}
use Rattle.std.proofs.lemmas.List.Elements.{All-append, All-cons, All-nil, All-head, All-tail, All-get_or}
use Rattle.verilog_tree.specs.Tree.{Module, Param}
use Rattle.four_state.specs.Vector.{Vector}
use Rattle.flat_design.specs.Declarations.{Declaration, Override, constants_from, param_entry, with_param}
use Rattle.flat_design.specs.Identifiers.{params_of}
use Rattle.flat_design.specs.Instances.{Instantiation, constants, declared, entries, is_memory, is_own, other_names, own_constants}
use Rattle.flat_design.specs.Numbering.{one_if}
use Rattle.flat_design.specs.Scope.{Scope, Bindings, binding_of, entry_or, no_names, with_bindings}
use Rattle.flat_design.specs.declared.entry.Entry.{Entry}
use Rattle.flat_design.specs.declared.entry.Entry.TheVariants.{Constant as a_constant, Faulty as a_faulty_one}
use Rattle.elab_const.proofs.ScopeLemmas.{fun_ext}
use Rattle.elab_scope.specs.Entries.{IsEntry}
use Rattle.elab_declarations.specs.Constants.{bindings_view, bound_view}
use Rattle.elab_declarations.specs.DeclarationBounds.{IsInBounds}
use Rattle.elab_declarations.specs.DeclarationView.{declaration_view, declarations_view}
use Rattle.elab_declarations.specs.declared.constants.BoundParam.{BoundParam}
use Rattle.elab_declarations.specs.declared.declaration.Declaration as code
use Rattle.elab_instances.specs.Behind.{or_bound}
use Rattle.elab_instances.specs.Entering.{AreFew, IsInside, numbers_behind, numbers_past, own_bindings, role_entries}
use Rattle.elab_instances.specs.Linked.{Linked, linked_of}
use Rattle.elab_instances.specs.Roles.{role_of, role_entry, is_own_role, is_memory_role}
use Rattle.elab_instances.specs.declared.entries.Inside.{Inside}
use Rattle.elab_instances.specs.declared.instantiation.Numbers.{Numbers}
use Rattle.elab_instances.specs.declared.roles.Role.{Role}
use Rattle.elab_instances.proofs.RoleLemmas.{entry_by_role, memory_role, own_role}

or_entry : (o p : Option Entry) → option_or o p ≡ entry_or o p
or_entry None p = refl
or_entry (Some e) p = refl

or_nothing : (o : Option Entry) → o ≡ entry_or o None
or_nothing None = refl
or_nothing (Some e) = refl

-- the scope of an instance, once its parameters and its declared names are bound
pub scope_bound : (cs es : Bindings) → or_bound (or_bound no_names cs) es ≡ with_bindings cs (with_bindings es no_names)
scope_bound cs es = fun_ext (λ x. or_entry (binding_of cs x) (binding_of es x) ∙ ap (entry_or (binding_of cs x)) (or_nothing (binding_of es x)))

-- what the declared names mean, by their roles
pub entries_by_role : (i : Instantiation) (n : Numbers) (ds : List Declaration) → role_entries (linked_of i) n ds ≡ entries i.aliases i.of_module n.signal n.memory ds
entries_by_role i n [] = refl
entries_by_role i n (d ∷ ds) =
    rw (entry_by_role i n.signal n.memory d, entries_by_role i (numbers_behind (role_of (linked_of i) d) n) ds, own_role i d, memory_role (linked_of i) d) refl

-- how many pass a test, one by one
counted_one : {A : Type 0} (p : A → Bool) (x : A) (xs : List A) (k : ℕ) → (k + one_if (p x)) + length (filter p xs) ≡ k + length (filter p (x ∷ xs))
counted_one p x xs k = by (p x)
  where
    by : (b : Bool) → (k + one_if b) + length (filter p xs) ≡ k + length (cond b (x ∷ filter p xs) (filter p xs))
    by true = omega arith
    by false = omega arith

same_numbers : (a b c d : ℕ) → a ≡ b → c ≡ d → ◌≡◌ {A = Numbers} (record { signal = a; memory = c }) (record { signal = b; memory = d })
same_numbers a b c d p q t = record { signal = p t; memory = q t }

-- the numbers after declared names, by their counts
pub numbers_by_count : (i : Instantiation) (n : Numbers) (ds : List Declaration) →
    numbers_past (linked_of i) n ds ≡ record { signal = n.signal + length (filter (is_own i.aliases i.of_module) ds); memory = n.memory + length (filter is_memory ds) }
numbers_by_count i n [] = same_numbers _ _ _ _ (sym (add-zero n.signal)) (sym (add-zero n.memory))
numbers_by_count i n (d ∷ ds) =
    numbers_by_count i (numbers_behind (role_of (linked_of i) d) n) ds
    ∙ same_numbers _ _ _ _
    (ap (λ b. n.signal + one_if b + length (filter (is_own i.aliases i.of_module) ds)) (own_role i d) ∙ counted_one (is_own i.aliases i.of_module) d ds n.signal)
    (ap (λ b. n.memory + one_if b + length (filter is_memory ds)) (memory_role (linked_of i) d) ∙ counted_one is_memory d ds n.memory)

-- numbers that are few were few before
few_behind : (r : Role) (n : Numbers) → AreFew (numbers_behind r n) → AreFew n
few_behind r n h = (omega (arith, h.0), omega (arith, h.1))

pub few_past : (l : Linked) (n : Numbers) (ds : List Declaration) → AreFew (numbers_past l n ds) → AreFew n
few_past l n [] h = h
few_past l n (d ∷ ds) h = few_behind (role_of l d) n (few_past l (numbers_behind (role_of l d) n) ds h)

-- what parameters mean is within all bounds
param_within : (b : Bool) (v : Vector) → IsEntry (if b then a_constant v else a_faulty_one)
param_within true v = tt
param_within false v = tt

more_within : (b : Bool) (bs : Bindings) (x : List ℕ) (e : Entry) → All (λ c. IsEntry c.1) bs → IsEntry e → All (λ c. IsEntry c.1) (if b then bs ++ (x, e) ∷ [] else bs)
more_within true bs x e all here = All-append (λ c. IsEntry c.1) bs ((x, e) ∷ []) all (All-cons (λ c. IsEntry c.1) (x, e) [] here (All-nil (λ c. IsEntry c.1)))
more_within false bs x e all here = all

from_within : (others : Scope) (os : List Override) (bs : Bindings) (ps : List Param) → All (λ c. IsEntry c.1) bs → All (λ c. IsEntry c.1) (constants_from others os bs ps)
from_within others os bs [] all = all
from_within others os bs (p ∷ ps) all =
    from_within others os (with_param others os bs p) ps (more_within (is_none (binding_of bs p.name.name)) bs p.name.name (param_entry (with_bindings bs others) os p) all (param_within _ _))

viewed_within : (ps : List BoundParam) → All (λ c. IsEntry c.1) (bindings_view ps) → All (λ p. IsEntry p.entry) ps
viewed_within [] all = All-nil (λ p. IsEntry p.entry)
viewed_within (p ∷ ps) all =
    All-cons (λ q. IsEntry q.entry) p ps (All-head (λ c. IsEntry c.1) (bound_view p) (bindings_view ps) all) (viewed_within ps (All-tail (λ c. IsEntry c.1) (bound_view p) (bindings_view ps) all))

-- the parameters of a module
pub constants_within : (os : List Override) (m : Module) (ps : List BoundParam) → bindings_view ps ≡ constants os m → All (λ p. IsEntry p.entry) ps
constants_within os m ps is =
    let P : Bindings → Type 0 = All (λ c. IsEntry c.1) in
    viewed_within ps (subst P (sym is) (from_within (other_names m) os [] (params_of m) (All-nil (λ c. IsEntry c.1))))

-- the names from the one at i on
pub rest_is : (xs : List code.Declaration) (i : ℕ) (x : code.Declaration) → i < length xs → x ≡ get_or xs i x → declarations_view (drop i xs) ≡ declaration_view x ∷ declarations_view (drop (i + 1) xs)
rest_is xs i x within is = rw (drop-cons xs i x within, ← is, add-one i) refl

-- the one at i is in bounds
pub rest_within : (xs : List code.Declaration) (i : ℕ) (x : code.Declaration) → i < length xs → x ≡ get_or xs i x → All IsInBounds (declarations_view xs) → IsInBounds (declaration_view x)
rest_within xs i x within is all =
    let P : code.Declaration → Type 0 = λ d. IsInBounds (declaration_view d) in
    subst P (sym is) (All-get_or P xs i x within (unmapped xs all))
  where
    unmapped : (ys : List code.Declaration) → All IsInBounds (declarations_view ys) → All (λ d. IsInBounds (declaration_view d)) ys
    unmapped [] rest = All-nil (λ d. IsInBounds (declaration_view d))
    unmapped (y ∷ ys) rest = All-cons (λ d. IsInBounds (declaration_view d)) y ys (All-head IsInBounds (declaration_view y) (declarations_view ys) rest) (unmapped ys (All-tail IsInBounds (declaration_view y) (declarations_view ys) rest))

-- what was bound is the scope of the instance
pub is_inside : {E : Type 0} (i : Instantiation) (n : Numbers) (ps : List BoundParam) (ds : List Declaration) (l : Linked) → bindings_view ps ≡ constants i.overrides i.of_module → ds ≡ declared i.overrides i.of_module → l ≡ linked_of i → (r : Result Inside E) →
    IfOk r (λ inside. binding_of inside.scope ≡ or_bound (or_bound no_names (own_bindings ds (bindings_view ps))) (role_entries l n ds)) → IfOk r (λ inside. inside.next ≡ numbers_past l n ds) → IfOk r (IsInside i n)
is_inside i n ps ds l params names links (Ok inside) scope next =
    let entered = declared i.overrides i.of_module in
    record {
      scope =
          scope
          ∙ ap (λ bs. or_bound (or_bound no_names (own_bindings ds bs)) (role_entries l n ds)) params
          ∙ ap (λ k. or_bound (or_bound no_names (own_bindings ds (constants i.overrides i.of_module))) (role_entries k n ds)) links
          ∙ ap (λ es. or_bound (or_bound no_names (own_bindings es (constants i.overrides i.of_module))) (role_entries (linked_of i) n es)) names
          ∙ ap (λ es. or_bound (or_bound no_names (own_constants i.overrides i.of_module)) es) (entries_by_role i n entered)
          ∙ scope_bound (own_constants i.overrides i.of_module) (entries i.aliases i.of_module n.signal n.memory entered);
      next = next ∙ ap (λ k. numbers_past k n ds) links ∙ ap (numbers_past (linked_of i) n) names ∙ numbers_by_count i n entered;
    }
is_inside i n ps ds l params names links (Err e) scope next = scope
