-- How an instance is put in place inside another one.
use Rattle.std.proofs.Common.{◌≡◌, inl, inr, ℕ, zero, suc, ◌+◌, ◌<◌, Bool, true, false, ◌&&◌, ◌||◌, cond, List, [], ◌∷◌, ◌++◌, Option, Some, None, refl, sym, ap, ◌∙◌, subst, map, reverse, length, get_or, drop, drop-cons, add-one, arith}
use Rattle.std.specs.List.{list_any}
use Rattle.std.specs.Prelude.{bytes_eq}
use Rattle.std.proofs.lemmas.List.{map-append, reverse-append}
use Rattle.std.proofs.lemmas.List.Sorted.{IsPermutation-reverse, list_any-IsPermutation}
use Rattle.std.specs.Borrow.{Bor}
use Rattle.cov_host.specs.declared.place.Place.{Place}
use Rattle.design_model.specs.Design.{AreDistinct, In}
use Rattle.verilog_tree.specs.declared.module.Module.{Module as CodeModule}
use Rattle.flat_design.specs.Connections.{declaration_of}
use Rattle.flat_design.specs.Declarations.{Declaration, Override}
use Rattle.flat_design.specs.Instances.{Instantiation, PortAliases}
use Rattle.verilog_tree.specs.Tree.{Module}
use Rattle.flat_design.specs.Flat.{is_same_place}
use Rattle.flat_laws.proofs.LawfulScope.{same_bytes}
use Rattle.elab_instances.specs.InstanceView.{around_view}

-- the declaration is at this place
abbrev pub stands_at : Option Declaration → Place → Bool
stands_at None p = false
stands_at (Some d) p = is_same_place d.name.place p

-- no declaration has this name
none_named : (ds : List Declaration) (x : List ℕ) (p : Place) → (In x (map (λ d. d.name.name) ds) → ⊥) → list_any (λ d. bytes_eq d.name.name x && is_same_place d.name.place p) ds ≡ false
none_named [] x p absent = refl
none_named (d ∷ ds) x p absent = by_name (none_named ds x p) (bytes_eq d.name.name x) refl
  where
    by_name : ((In x (map (λ e. e.name.name) ds) → ⊥) → list_any (λ e. bytes_eq e.name.name x && is_same_place e.name.place p) ds ≡ false) → (b : Bool) → bytes_eq d.name.name x ≡ b → ((b && is_same_place d.name.place p) || list_any (λ e. bytes_eq e.name.name x && is_same_place e.name.place p) ds) ≡ false
    by_name rest true is = absurd (absent (inl (same_bytes d.name.name x is)))
    by_name rest false is = rest (λ k. absent (inr k))

or_false : (a b : Bool) → b ≡ false → (a || b) ≡ a
or_false true b e = refl
or_false false b e = e

-- of names that are declared once each, the declaration of one is at a place
pub declared_at : (ds : List Declaration) (x : List ℕ) (p : Place) → AreDistinct (map (λ d. d.name.name) ds) → list_any (λ d. bytes_eq d.name.name x && is_same_place d.name.place p) ds ≡ stands_at (declaration_of ds x) p
declared_at [] x p once = refl
declared_at (d ∷ ds) x p once = by_name (declared_at ds x p once.1) (bytes_eq d.name.name x) refl
  where
    by_name : list_any (λ e. bytes_eq e.name.name x && is_same_place e.name.place p) ds ≡ stands_at (declaration_of ds x) p → (b : Bool) → bytes_eq d.name.name x ≡ b →
        ((b && is_same_place d.name.place p) || list_any (λ e. bytes_eq e.name.name x && is_same_place e.name.place p) ds) ≡ stands_at (cond b (Some d) (declaration_of ds x)) p
    by_name rest true is = or_false (is_same_place d.name.place p) _ (none_named ds x p (λ k. once.0 (subst (λ y. In y (map (λ e. e.name.name) ds)) (sym (same_bytes d.name.name x is)) k)))
    by_name rest false is = rest

-- one more module around
pub around_more : (ms : List (Bor CodeModule)) (m : Bor CodeModule) → around_view (ms ++ m ∷ []) ≡ m.now.name.name ∷ around_view ms
around_more ms m = ap reverse (map-append (λ (x : Bor CodeModule). x.now.name.name) ms (m ∷ [])) ∙ reverse-append (map (λ (x : Bor CodeModule). x.now.name.name) ms) (m.now.name.name ∷ [])

-- the name of a module that was borrowed
abbrev pub name_of_module : Bor CodeModule → List ℕ
name_of_module m = m.now.name.name

-- a test of the modules around, from the outermost on
pub around_any : (p : List ℕ → Bool) (ms : List (Bor CodeModule)) → list_any p (map name_of_module ms) ≡ list_any p (around_view ms)
around_any p ms = list_any-IsPermutation p (map name_of_module ms) (around_view ms) (IsPermutation-reverse (map name_of_module ms))

or_true : (a b : Bool) → b ≡ true → (a || b) ≡ true
or_true true b e = refl
or_true false b e = e

-- one passes it
pub any_here : (p : List ℕ → Bool) (ms : List (Bor CodeModule)) (i : ℕ) (m : Bor CodeModule) → i < length ms → m ≡ get_or ms i m → p (name_of_module m) ≡ true → list_any p (map name_of_module ms) ≡ true
any_here p [] i m within is here = absurd (omega arith)
any_here p (x ∷ ms) zero m within is here = rw (ap (λ y. p (name_of_module y)) (sym is) ∙ here) refl
any_here p (x ∷ ms) (suc i) m within is here = or_true (p (name_of_module x)) _ (any_here p ms i m (omega arith) is here)

-- the one at a place does not
pub any_next : (p : List ℕ → Bool) (ms : List (Bor CodeModule)) (i : ℕ) (m : Bor CodeModule) → i < length ms → m ≡ get_or ms i m → p (name_of_module m) ≡ false →
    list_any p (map name_of_module (drop (i + 1) ms)) ≡ list_any p (map name_of_module (drop i ms))
any_next p ms i m within is away =
    let split : drop i ms ≡ m ∷ drop (i + 1) ms = rw (drop-cons ms i m within, ← is, add-one i) refl in
    sym (ap (λ xs. list_any p (map name_of_module xs)) split ∙ ap (λ b. b || list_any p (map name_of_module (drop (i + 1) ms))) away)

-- an instance of a module that is not the top
abbrev pub inner_of : Module → Place → List ℕ → List Override → PortAliases → List (List ℕ) → Instantiation
inner_of m p path os as' around = record { of_module = m; path = path; overrides = os; aliases = as'; around = around; item = p; is_top = false }

-- how an instance is put in place, part by part
pub placed : (m : Module) (p : Place) {path path' : List ℕ} {os os' : List Override} {as' others : PortAliases} {around around' : List (List ℕ)} → path ≡ path' → os ≡ os' → as' ≡ others → around ≡ around' →
    inner_of m p path os as' around ≡ inner_of m p path' os' others around'
placed m p {path = path} {path' = path'} {os = os} {os' = os'} {as' = as'} {others = others} {around = around} {around' = around'} e f h k =
    ap (λ z. inner_of m p z os as' around) e ∙ ap (λ z. inner_of m p path' z as' around) f ∙ ap (λ z. inner_of m p path' os' z around) h ∙ ap (λ z. inner_of m p path' os' others z) k
