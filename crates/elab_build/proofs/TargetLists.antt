-- Targets that are built, and lists of them that are built one after another.
use Rattle.std.proofs.Common.{◌≡◌, ◌+◌, ◌∙◌, ℕ, List, [], ◌∷◌, ◌++◌, map, refl, sym, ap, add-zero, false, arith}
use Rattle.std.proofs.lemmas.List.{map-append}
use Rattle.cov_host.specs.declared.place.Place.{Place}
use Rattle.design_model.specs.Tree.{Term, Target, Targets, no_targets, a_target, bits_of}
use Rattle.design_model.specs.View.{target_view, targets_of}
use Rattle.design_model.specs.declared.tree.Target as code
use Rattle.flat_design.specs.Numbering.{nodes}
use Rattle.flat_design.specs.Scope.{Scope, is_memory_name, look_up, shape, thing_of, thing_number}
use Rattle.flat_design.specs.Identifiers.{base_name}
use Rattle.flat_design.specs.Terms.{alone}
use Rattle.flat_design.specs.Targets.{target, targets}
use Rattle.verilog_tree.specs.Tree as t
use Rattle.verilog_tree.specs.Tree.{Exprs, an_expr, bit_select, part_select}

-- targets before others
abbrev pub targets_before : List Target → Targets → Targets
targets_before [] rest = rest
targets_before (x ∷ xs) rest = a_target x (targets_before xs rest)

-- before none
pub targets_before_none : (xs : List Target) → targets_before xs no_targets ≡ targets_of xs
targets_before_none [] = refl
targets_before_none (x ∷ xs) = ap (a_target x) (targets_before_none xs)

-- with one more
targets_before_one : (xs : List Target) (x : Target) (rest : Targets) → targets_before (xs ++ x ∷ []) rest ≡ targets_before xs (a_target x rest)
targets_before_one [] x rest = refl
targets_before_one (y ∷ ys) x rest = ap (a_target y) (targets_before_one ys x rest)

-- the targets so far with one more, and the rest
pub next_targets : (base : ℕ) (g : Scope) (all new : List code.Target) (x : code.Target) (rest later : Exprs) (e : t.Expr) (n m : ℕ) (whole : Targets) →
    rest ≡ an_expr e later → new ≡ all ++ x ∷ [] → target_view x ≡ target base g e n → m ≡ n + nodes g e →
    targets_before (map target_view all) (targets base g rest n) ≡ whole → targets_before (map target_view new) (targets base g later m) ≡ whole
next_targets base g all new x rest later e n m whole r i v c h =
    let xs = map target_view all in
    rw (i, map-append target_view all (x ∷ []), c) (targets_before_one xs (target_view x) (targets base g later (n + nodes g e)) ∙ ap (λ y. targets_before xs (a_target y (targets base g later (n + nodes g e)))) v ∙ ap (λ q. targets_before xs (targets base g q n)) (sym r) ∙ h)

-- a bit, whose name has no counted nodes
pub bit_built : (base : ℕ) (g : Scope) (p : Place) (of i : t.Expr) (n s : ℕ) (x : Term) → nodes g of ≡ 0 → is_memory_name g of ≡ false → s ≡ thing_number base (thing_of (look_up g (base_name of).name)) → x ≡ alone base g i n →
    bits_of s x 1 ≡ target base g (bit_select p of i) n
bit_built base g p of i n s x none other number built =
    let start : n ≡ n + nodes g of = sym (ap (λ k. n + k) none ∙ add-zero n) in
    rw other (ap (λ s. bits_of s x 1) number ∙ ap (λ y. bits_of (thing_number base (thing_of (look_up g (base_name of).name))) y 1) (built ∙ ap (alone base g i) start))

-- a part, of which the low bound alone may have counted nodes
pub part_built : (base : ℕ) (g : Scope) (p : Place) (of h l : t.Expr) (b : Place) (n s w : ℕ) (x : Term) → nodes g of ≡ 0 → nodes g h ≡ 0 → s ≡ thing_number base (thing_of (look_up g (base_name of).name)) →
    w ≡ (shape g (part_select p of h l b)).width → x ≡ alone base g l n → bits_of s x w ≡ target base g (part_select p of h l b) n
part_built base g p of h l b n s w x none high number width built =
    let start : n ≡ n + nodes g of + nodes g h = omega (arith, none, high) in
    ap (λ s. bits_of s x w) number ∙ ap (λ y. bits_of (thing_number base (thing_of (look_up g (base_name of).name))) y w) (built ∙ ap (alone base g l) start) ∙ ap (bits_of (thing_number base (thing_of (look_up g (base_name of).name))) (alone base g l (n + nodes g of + nodes g h))) width
