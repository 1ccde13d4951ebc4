-- Where the first module of each name is.
use Rattle.std.proofs.Common.{◌≡◌, ℕ, suc, ◌+◌, Bool, true, false, ◌||◌, if◌then◌else◌, List, [], ◌∷◌, ◌++◌, Option, Some, None, refl, ap, sym, ◌∙◌, inl, inr, arith}
use Rattle.std.specs.Prelude.{bytes_eq, is_some, length, map, slice_get}
use Rattle.std.specs.Option.{option_or, option_copied, option_map}
use Rattle.std.proofs.lemmas.Bool.{cases_Bool}
use Rattle.std.specs.Slice.{IsItemAt}
use Rattle.std.proofs.lemmas.Option.{slice_get-map, slice_get_past, slice_get_read}
use Rattle.std.proofs.lemmas.Slice.Eq.{bytes_eq-Decides}
use Rattle.verilog_tree.specs.Tree.{Module}
use Rattle.verilog_tree.specs.View.{module_view}
use Rattle.verilog_tree.specs.declared.module.Module.{Module as CodeModule}
use Rattle.std.specs.Borrow.{Bor}
use Rattle.verilog_tree.specs.declared.item.Named.{Named}
use Rattle.flat_design.specs.Fault.{Fault}
use Rattle.flat_design.specs.Faults.{two_modules}
use Rattle.flat_design.specs.Flat.{module_of}
use Rattle.flat_design.specs.Identifiers.{is_among}
use Rattle.elab_const.proofs.ScopeLemmas.{fun_ext}
use Rattle.elaborator.specs.Modules.{first_places, module_faults, or_bound}
use Rattle.elab_scope.specs.NameMap.{with_binding}
use Rattle.elab_scope.specs.Tally.{Tally, after_faults}
use Rattle.elab_scope.proofs.ConnectionLemmas.{after_met, bytes_eq-sym}

or_none : (o : Option ℕ) → option_or o None ≡ o
or_none None = refl
or_none (Some x) = refl

absent : (o : Option ℕ) → is_some o ≡ false → o ≡ None
absent None e = refl
absent (Some x) e = cc

-- a name that was not bound is bound to k, where k is the place of a module of this name
noted_at : (name x : List ℕ) (k : ℕ) (old : List ℕ → Option ℕ) → is_some (old name) ≡ false → with_binding name k old x ≡ option_or (old x) (if bytes_eq name x then Some k else None)
noted_at name x k old new =
    elim (cases_Bool (bytes_eq x name)) [
      | inl same ↦
          let is : x ≡ name = (bytes_eq-Decides x name).0 same in
          let gone : old x ≡ None = ap old is ∙ absent (old name) new in
          rw (same, bytes_eq-sym name x ∙ same, gone) refl
      | inr other ↦ rw (other, bytes_eq-sym name x ∙ other) (sym (or_none (old x)))
    ]

pub noted : (m : Module) (k : ℕ) (old : List ℕ → Option ℕ) → is_some (old m.name.name) ≡ false → with_binding m.name.name k old ≡ or_bound old (first_places k (m ∷ []))
noted m k old new = fun_ext (λ x. noted_at m.name.name x k old new)

or_next : (o r : Option ℕ) (b : Bool) (k : ℕ) → option_or (option_or o (if b then Some k else None)) r ≡ option_or o (if b then Some k else r)
or_next None r true k = refl
or_next None r false k = refl
or_next (Some x) r true k = refl
or_next (Some x) r false k = refl

-- one module and then the others
pub places_next : (f : List ℕ → Option ℕ) (k : ℕ) (m : Module) (ms : List Module) → or_bound (or_bound f (first_places k (m ∷ []))) (first_places (k + 1) ms) ≡ or_bound f (first_places k (m ∷ ms))
places_next f k m ms = fun_ext (λ x. or_next (f x) (first_places (k + 1) ms x) (bytes_eq m.name.name x) k)

-- the faults of modules, by the places of those before
abbrev pub modules_by : (List ℕ → Option ℕ) → ℕ → List Module → List Fault
modules_by places k [] = []
modules_by places k (m ∷ ms) = module_faults places m ++ modules_by (or_bound places (first_places k (m ∷ []))) (k + 1) ms

pub after_next : (t u : Tally) (places next : List ℕ → Option ℕ) (k : ℕ) (m : Module) (ms : List Module) → u ≡ after_faults t (module_faults places m) → next ≡ or_bound places (first_places k (m ∷ [])) →
    after_faults t (modules_by places k (m ∷ ms)) ≡ after_faults u (modules_by next (k + 1) ms)
after_next t u places next k m ms e f = rw (e, f) (after_met t (module_faults places m) (modules_by (or_bound places (first_places k (m ∷ []))) (k + 1) ms))

some_or : (o : Option ℕ) (b : Bool) (k : ℕ) (r : Bool) → is_some o ≡ r → is_some (option_or o (if b then Some k else None)) ≡ (b || r)
some_or None true k r e = refl
some_or None false k r e = e
some_or (Some x) true k r e = refl
some_or (Some x) false k r e = e

pub by_places : (sofar : List Named) (places : List ℕ → Option ℕ) (k : ℕ) (ms : List Module) → ((x : List ℕ) → is_some (places x) ≡ is_among sofar x) → two_modules sofar ms ≡ modules_by places k ms
by_places sofar places k [] h = refl
by_places sofar places k (m ∷ ms) h =
    let next = by_places (m.name ∷ sofar) (or_bound places (first_places k (m ∷ []))) (k + 1) ms (λ x. some_or (places x) (bytes_eq m.name.name x) k (is_among sofar x) (h x)) in
    rw (h m.name.name, next) refl

-- no more modules bind no more names
pub or_nothing : (f : List ℕ → Option ℕ) (k : ℕ) → or_bound f (first_places k []) ≡ f
or_nothing f k = fun_ext (λ x. or_none (f x))

-- the module at the place where the first of a name is
found_by : (k : ℕ) (m : Module) (ms : List Module) (x : List ℕ) (i : ℕ) (b : Bool) → bytes_eq m.name.name x ≡ b →
    (first_places (k + 1) ms x ≡ Some i → (j : ℕ) × (i ≡ k + 1 + j) × (slice_get ms j ≡ module_of ms x)) →
    (if b then Some k else first_places (k + 1) ms x) ≡ Some i → (j : ℕ) × (i ≡ k + j) × (slice_get (m ∷ ms) j ≡ module_of (m ∷ ms) x)
found_by k m ms x i true here rest found =
    let same : k ≡ i = cc in
    (0, omega arith, rw here refl)
found_by k m ms x i false away rest found =
    let next = rest found in
    let same : i ≡ k + 1 + next.0 = next.1 in
    (suc next.0, omega arith, rw away next.2)

pub found_at : (k : ℕ) (ms : List Module) (x : List ℕ) (i : ℕ) → first_places k ms x ≡ Some i → (j : ℕ) × (i ≡ k + j) × (slice_get ms j ≡ module_of ms x)
found_at k [] x i e = absurd cc
found_at k (m ∷ ms) x i e = found_by k m ms x i (bytes_eq m.name.name x) refl (λ h. found_at (k + 1) ms x i h) e

none_by : (k : ℕ) (m : Module) (ms : List Module) (x : List ℕ) (b : Bool) → bytes_eq m.name.name x ≡ b → (first_places (k + 1) ms x ≡ None → module_of ms x ≡ None) →
    (if b then Some k else first_places (k + 1) ms x) ≡ None → module_of (m ∷ ms) x ≡ None
none_by k m ms x true here rest found = absurd cc
none_by k m ms x false away rest found = rw away (rest found)

-- a name that is bound to no place is that of no module
pub none_at : (k : ℕ) (ms : List Module) (x : List ℕ) → first_places k ms x ≡ None → module_of ms x ≡ None
none_at k [] x e = refl
none_at k (m ∷ ms) x e = none_by k m ms x (bytes_eq m.name.name x) refl (λ h. none_at (k + 1) ms x h) e

-- the module at the place that a name is bound to
pub found_first : (ms : List Module) (x : List ℕ) (i : ℕ) → first_places 0 ms x ≡ Some i → slice_get ms i ≡ module_of ms x
found_first ms x i e =
    let found = found_at 0 ms x i e in
    let is : i ≡ 0 + found.0 = found.1 in
    let same : i ≡ found.0 = omega arith in
    ap (slice_get ms) same ∙ found.2

-- what is at a place, seen as a plain tree
pub viewed : (ms : List CodeModule) (i : ℕ) (r : Option (Bor CodeModule)) → option_copied r ≡ slice_get ms i → option_map (λ found. module_view found.now) r ≡ slice_get (map module_view ms) i
viewed ms i None e = ap (option_map module_view) e ∙ sym (slice_get-map module_view ms i)
viewed ms i (Some x) e = ap (option_map module_view) e ∙ sym (slice_get-map module_view ms i)

-- what a slice lends at a place
pub got : {X : Type 0} (xs : List X) (i : ℕ) (r : Option (Bor X)) → IsItemAt xs i r → option_copied r ≡ slice_get xs i
got xs i None h = sym (slice_get_past xs i h.3)
got xs i (Some x) h = sym (slice_get_read xs (length xs) i x.now refl h.3.0 h.1)
