-- A walk goes through the items of an instance.
use Rattle.std.proofs.Common.{◌≡◌, ℕ, ◌+◌, ◌<◌, Bool, List, ◌∷◌, Option, refl, sym, subst, length, get_or, drop, drop-cons, add-one}
use Rattle.verilog_tree.specs.Tree.{Item, Module}
use Rattle.verilog_tree.specs.View.{declareds_view, expr_view, givens_view, item_form_view, item_view, items_view, ones_view, statement_view}
use Rattle.verilog_tree.specs.declared.expr.Expr.{Expr as CodeExpr}
use Rattle.verilog_tree.specs.declared.statement.Statement.{Statement as CodeStatement}
use Rattle.verilog_tree.specs.declared.item.Declared.{Declared as CodeDeclared}
use Rattle.verilog_tree.specs.declared.item.Given.{Given as CodeGiven}
use Rattle.verilog_tree.specs.declared.item.ItemForm.{ItemForm as CodeForm}
use Rattle.verilog_tree.specs.declared.item.ItemForm.TheVariants.{Port, Net, Var, Integer, Params, Assign, Always, Initial, Instance}
use Rattle.verilog_tree.specs.declared.item.Named.{Named}
use Rattle.verilog_tree.specs.declared.item.One.{One as CodeOne}
use Rattle.verilog_tree.specs.declared.item.Range.{Range as CodeRange}
use Rattle.verilog_tree.specs.declared.item.When.{When}
use Rattle.cov_host.specs.declared.place.Place.{Place}
use Rattle.verilog_tree.specs.declared.item.Item.{Item as CodeItem}
use Rattle.flat_design.specs.Flat.{instance, instances_of, item, items, module_of, net_values}
use Rattle.flat_design.specs.Instances.{Instantiation, add_process}
use Rattle.flat_design.specs.Numbering.{form_lines, form_nodes, lines, nodes, statement_nodes, values_nodes}
use Rattle.flat_design.specs.Scope.{Scope}
use Rattle.flat_design.specs.Processes.{always, continuous}
use Rattle.elaborator.specs.Named.{item_of}
use Rattle.elaborator.specs.Walk.{GoesBy, around_here, items_lines, items_nodes}
use Rattle.elaborator.specs.declared.walk.Numbers.{Numbers}
use Rattle.elaborator.specs.declared.walk.Walk.{Walk}
use Rattle.elaborator.proofs.StepLemmas.{goes_twice, still_goes}

-- by these items the walk goes from one moment to the next
abbrev pub ItemsGo : ℕ → List Module → ℕ → Instantiation → Scope → List Item → Walk → Numbers → Walk → Numbers → Type 0
ItemsGo base ms depth given g xs w numbers later others =
    GoesBy base w numbers later others (λ b i l n st. items (instance b ms depth) b ms (around_here b given i g) xs l n st) (items_lines xs) (items_nodes g xs)

-- by this one
abbrev pub ItemGoes : ℕ → List Module → ℕ → Instantiation → Scope → Item → Walk → Numbers → Walk → Numbers → Type 0
ItemGoes base ms depth given g x w numbers later others =
    GoesBy base w numbers later others (λ b i l n st. item (instance b ms depth) b ms (around_here b given i g) x.place x.form l n st) (form_lines x.form) (form_nodes g x.form)

-- one item, and then what comes after it
pub items_next : {base : ℕ} {w next later : Walk} {numbers between others : Numbers} (ms : List Module) (depth : ℕ) (given : Instantiation) (g : Scope) (xs : List CodeItem) (n : ℕ) (x : CodeItem) → n < length xs → x ≡ get_or xs n x →
    ItemGoes base ms depth given g (item_view x) w numbers next between → ItemsGo base ms depth given g (items_view (drop (n + 1) xs)) next between later others → ItemsGo base ms depth given g (items_view (drop n xs)) w numbers later others
items_next {base = base} {w = w} {later = later} {numbers = numbers} {others = others} ms depth given g xs n x within is first second =
    let rest : List Item = items_view (drop (n + 1) xs) in
    let split : drop n xs ≡ x ∷ drop (n + 1) xs = rw (drop-cons xs n x within, ← is, add-one n) refl in
    let whole : ItemsGo base ms depth given g (item_view x ∷ rest) w numbers later others = goes_twice (form_lines (item_view x).form) (items_lines rest) (form_nodes g (item_view x).form) (items_nodes g rest) first second in
    subst (λ ys. ItemsGo base ms depth given g (items_view ys) w numbers later others) (sym split) whole

-- by an item of this form
abbrev pub FormGoes : ℕ → List Module → ℕ → Instantiation → Scope → Place → Walk → Numbers → Walk → Numbers → CodeForm → Type 0
FormGoes base ms depth given g p w numbers later others f = ItemGoes base ms depth given g (record { place = p; form = item_form_view f }) w numbers later others

-- an item goes by its form
module _ (base : ℕ) (ms : List Module) (depth : ℕ) (given : Instantiation) (g : Scope) (p : Place) (f : CodeForm) (w : Walk) (numbers : Numbers) (later : Walk) (others : Numbers) where
  pub net_goes : (signed : Bool) (range : Option CodeRange) (names ds : List CodeDeclared) → f ≡ Net signed range names → ds ≡ names →
      GoesBy base w numbers later others (λ b i l n st. net_values (around_here b given i g) p (declareds_view ds) n st) 0 (values_nodes g (declareds_view ds)) → FormGoes base ms depth given g p w numbers later others f
  net_goes signed range names ds is same goes =
      subst (FormGoes base ms depth given g p w numbers later others) (sym is) (subst (λ ys. GoesBy base w numbers later others (λ b i l n st. net_values (around_here b given i g) p (declareds_view ys) n st) 0 (values_nodes g (declareds_view ys))) same goes)

  pub assign_goes : (x v : CodeExpr) → f ≡ Assign x v →
      GoesBy base w numbers later others (λ b i l n st. add_process (continuous b g i (length st.design.processes) p (expr_view x) (expr_view v) n) st) 0 (nodes g (expr_view x) + nodes g (expr_view v)) → FormGoes base ms depth given g p w numbers later others f
  assign_goes x v is goes = subst (FormGoes base ms depth given g p w numbers later others) (sym is) goes

  pub always_goes : (when' : When) (s : CodeStatement) → f ≡ Always when' s →
      GoesBy base w numbers later others (λ b i l n st. add_process (always b g i (length st.design.processes) p when' (statement_view s) l n) st) (lines (statement_view s)) (statement_nodes g (statement_view s)) → FormGoes base ms depth given g p w numbers later others f
  always_goes when' s is goes = subst (FormGoes base ms depth given g p w numbers later others) (sym is) goes

  pub instances_go : (x : Named) (cs cs' : List CodeGiven) (os os' : List CodeOne) → f ≡ Instance x cs os → cs' ≡ cs → os' ≡ os →
      GoesBy base w numbers later others (λ b i l n st. instances_of (instance b ms depth) b (around_here b given i g) p (item_of x (givens_view cs') (ones_view os')) (module_of ms x.name) st) 0 0 → FormGoes base ms depth given g p w numbers later others f
  instances_go x cs cs' os os' is same alike goes =
      subst (FormGoes base ms depth given g p w numbers later others) (sym is) (subst (λ ys. GoesBy base w numbers later others (λ b i l n st. instances_of (instance b ms depth) b (around_here b given i g) p (item_of x (givens_view ys) (ones_view os)) (module_of ms x.name) st) 0 0) same
      (subst (λ ys. GoesBy base w numbers later others (λ b i l n st. instances_of (instance b ms depth) b (around_here b given i g) p (item_of x (givens_view cs') (ones_view ys)) (module_of ms x.name) st) 0 0) alike goes))

-- any other form does nothing
pub others_still : {base : ℕ} (w : Walk) (numbers : Numbers) (ms : List Module) (depth : ℕ) (given : Instantiation) (g : Scope) (p : Place) (f : CodeForm) →
    ((signed : Bool) (range : Option CodeRange) (names : List CodeDeclared) → f ≡ Net signed range names → ⊥) → ((x v : CodeExpr) → f ≡ Assign x v → ⊥) → ((when' : When) (s : CodeStatement) → f ≡ Always when' s → ⊥) → ((x : Named) (cs : List CodeGiven) (os : List CodeOne) → f ≡ Instance x cs os → ⊥) →
    ItemGoes base ms depth given g (record { place = p; form = item_form_view f }) w numbers w numbers
others_still w numbers ms depth given g p (Net signed range names) a b c d = absurd (a signed range names refl)
others_still w numbers ms depth given g p (Assign x v) a b c d = absurd (b x v refl)
others_still w numbers ms depth given g p (Always when' s) a b c d = absurd (c when' s refl)
others_still w numbers ms depth given g p (Instance x cs os) a b c d = absurd (d x cs os refl)
others_still w numbers ms depth given g p (Port i r s range names) a b c d = still_goes w numbers
others_still w numbers ms depth given g p (Var s range names) a b c d = still_goes w numbers
others_still w numbers ms depth given g p (Integer names) a b c d = still_goes w numbers
others_still w numbers ms depth given g p (Params ps) a b c d = still_goes w numbers
others_still w numbers ms depth given g p (Initial s) a b c d = still_goes w numbers
