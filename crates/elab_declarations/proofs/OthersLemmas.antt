-- Names that mean what is no constant.
use Rattle.std.proofs.Common.{◌≡◌, ℕ, suc, ◌+◌, ◌<◌, Bool, true, false, ◌||◌, List, [], ◌∷◌, ◌++◌, map, length, drop, drop-cons, get_or, add-one, Option, Some, refl, sym, ap, ◌∙◌}
use Rattle.std.specs.Prelude.{bytes_eq, flat_map, if◌then◌else◌}
use Rattle.verilog_tree.specs.declared.item.Named.{Named}
use Rattle.flat_design.specs.Identifiers.{is_among}
use Rattle.flat_design.specs.Scope.{Scope, with_entry}
use Rattle.flat_design.specs.declared.entry.Entry.{Entry}
use Rattle.flat_design.specs.declared.entry.Entry.TheVariants.{NoConstant}
use Rattle.elab_const.proofs.ScopeLemmas.{fun_ext}
use Rattle.elab_declarations.specs.Constants.{with_others}
use Rattle.elab_scope.proofs.ConnectionLemmas.{bytes_eq-sym}

chosen : (a b : Bool) (e : Option Entry) → (if b then Some NoConstant else (if a then Some NoConstant else e)) ≡ (if a || b then Some NoConstant else e)
chosen true true e = refl
chosen true false e = refl
chosen false true e = refl
chosen false false e = refl

-- one name and then the others
pub others_next : (y : Named) (ys : List Named) (g : Scope) → with_others ys (with_entry y.name NoConstant g) ≡ with_others (y ∷ ys) g
others_next y ys g = fun_ext (λ x. ap (λ b. if is_among ys x then Some NoConstant else (if b then Some NoConstant else g x)) (bytes_eq-sym x y.name) ∙ chosen (bytes_eq y.name x) (is_among ys x) (g x))

-- one name of the rest
pub others_more : (xs : List Named) (i : ℕ) (x : Named) (g : Scope) → i < length xs → x ≡ get_or xs i x → with_others (drop (i + 1) xs) (with_entry x.name NoConstant g) ≡ with_others (drop i xs) g
others_more xs i x g within is = rw (drop-cons xs i x within, ← is, add-one i) (others_next x (drop (suc i) xs) g)

-- the same over what the rest represents
pub others_viewed : {B D : Type 0} (v : B → D) (h : D → Named) (xs : List B) (i : ℕ) (x : B) (g : Scope) → i < length xs → x ≡ get_or xs i x →
    with_others (map h (map v (drop (i + 1) xs))) (with_entry (h (v x)).name NoConstant g) ≡ with_others (map h (map v (drop i xs))) g
others_viewed v h xs i x g within is = rw (drop-cons xs i x within, ← is, add-one i) (others_next (h (v x)) (map h (map v (drop (suc i) xs))) g)

-- some names and then the others
pub others_append : (xs ys : List Named) (g : Scope) → with_others ys (with_others xs g) ≡ with_others (xs ++ ys) g
others_append [] ys g = refl
others_append (x ∷ xs) ys g = ap (with_others ys) (sym (others_next x xs g)) ∙ others_append xs ys (with_entry x.name NoConstant g) ∙ others_next x (xs ++ ys) g

-- the names of one item of the rest
pub others_joined : {B D : Type 0} (v : B → D) (F : D → List Named) (xs : List B) (i : ℕ) (x : B) (g : Scope) → i < length xs → x ≡ get_or xs i x →
    with_others (flat_map F (map v (drop (i + 1) xs))) (with_others (F (v x)) g) ≡ with_others (flat_map F (map v (drop i xs))) g
others_joined v F xs i x g within is = rw (drop-cons xs i x within, ← is, add-one i) (others_append (F (v x)) (flat_map F (map v (drop (suc i) xs))) g)
