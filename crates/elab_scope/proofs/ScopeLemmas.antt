-- The names of a scope as constants see them, after an insertion and a removal.
use Rattle.std.proofs.Common.{◌≡◌, refl, ◌∙◌, sym, ap, ℕ, Bool, true, false, List, if◌then◌else◌, Option, Some, None}
use Rattle.std.specs.Prelude.{bytes_eq}
use Rattle.std.specs.Global.{Vec}
use Rattle.indexmap.specs.IndexMap.{insert_entry}
use Rattle.elab_const.specs.Scope.{Names}
use Rattle.elab_const.specs.declared.entry.Entry.{Entry as Value}
use Rattle.elab_const.proofs.ScopeLemmas.{bound_to, same_key, fun_ext, inserted_name}
use Rattle.flat_design.specs.Scope.{Scope, names, value_entry}
use Rattle.flat_design.specs.declared.entry.Entry.{Entry}

value_if : (b : Bool) (e : Entry) (r : Option Entry) → value_entry (if b then Some e else r) ≡ (if b then value_entry (Some e) else value_entry r)
value_if true e r = refl
value_if false e r = refl

-- the inserted name has the value of its entry, and each other name the value that it had
pub values_after : (key : Vec ℕ) (e : Entry) (es : List (Vec ℕ × Entry)) (o : Option Value) (old new : Names) →
    value_entry (Some e) ≡ o → old ≡ names (bound_to es) → new ≡ (λ y. if bytes_eq y key.items then o else old y) → new ≡ names (bound_to (insert_entry same_key es key e))
values_after key e es o old new is before after =
    after ∙ fun_ext (λ y. sym (ap value_entry (inserted_name key e es y) ∙ value_if (bytes_eq y key.items) e (bound_to es y) ∙ (λ i. if bytes_eq y key.items then is i else sym before i y)))

value_unless : (b : Bool) (r : Option Entry) → value_entry (if b then None else r) ≡ (if b then None else value_entry r)
value_unless true r = refl
value_unless false r = refl

-- the removed name has no value, and each other name the value that it had
pub values_without : (x : List ℕ) (f g : Scope) (old new : Names) → ((y : List ℕ) → g y ≡ (if bytes_eq y x then None else f y)) → old ≡ names f → new ≡ (λ y. if bytes_eq y x then None else old y) → new ≡ names g
values_without x f g old new without before after =
    after ∙ fun_ext (λ y. sym (ap value_entry (without y) ∙ value_unless (bytes_eq y x) (f y) ∙ (λ i. if bytes_eq y x then None else sym before i y)))
