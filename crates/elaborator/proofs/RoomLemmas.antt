-- The line points and counted nodes of an instance can be numbered, item by item.
use Rattle.std.proofs.Common.{◌≡◌, ◌+◌, ◌<◌, ℕ, Bool, List, [], ◌∷◌, Option, Some, Result, Ok, Err, refl, sym, subst, length, get_or, drop, drop-cons, add-one, arith}
use Rattle.std.specs.Prelude.{OnOk, bytes_eq, sum_by}
use Rattle.std.proofs.lemmas.List.Sums.{sum_by-cons}
use Rattle.verilog_tree.specs.Tree.{Item, Module}
use Rattle.verilog_tree.specs.View.{declareds_view, item_form_view, item_view, items_view, one_view, ones_view}
use Rattle.verilog_tree.specs.declared.item.Declared.{Declared as CodeDeclared}
use Rattle.verilog_tree.specs.declared.item.Item.{Item as CodeItem}
use Rattle.verilog_tree.specs.declared.item.ItemForm.{ItemForm as CodeForm}
use Rattle.verilog_tree.specs.declared.item.ItemForm.TheVariants.{Net}
use Rattle.verilog_tree.specs.declared.item.One.{One as CodeOne}
use Rattle.verilog_tree.specs.declared.item.Range.{Range as CodeRange}
use Rattle.flat_design.specs.Flat.{module_of}
use Rattle.flat_design.specs.Numbering.{form_lines, form_nodes, values_nodes}
use Rattle.flat_design.specs.Scope.{Scope}
use Rattle.flat_laws.proofs.LawfulPaths.{found_in}
use Rattle.tree_places.specs.Counted.{AreCountable, IsCountable, connections_nodes, joined_nodes, ones_nodes}
use Rattle.elaborator.specs.Room.{HaveRoom, TakesFew, form_room, items_room}
use Rattle.elaborator.specs.Walk.{items_lines}
use Rattle.elaborator.specs.declared.walk.Numbers.{Numbers}

-- what holds anyway holds where a call gives a value
pub on_ok_always : {A E P : Type 0} (r : Result A E) → P → OnOk r P
on_ok_always (Ok a) p = p
on_ok_always (Err e) p = tt

-- the module of a name
pub found_countable : (ms : List Module) (x : List ℕ) (m : Module) → AreCountable ms → module_of ms x ≡ Some m → IsCountable m
found_countable ms x m all found = all m (found_in (λ z. bytes_eq z.name.name x) ms m found)

lines_sum : (xs : List Item) → sum_by (λ x. form_lines x.form) xs ≡ items_lines xs
lines_sum [] = refl
lines_sum (x ∷ xs) = omega (arith, sum_by-cons (λ (y : Item). form_lines y.form) x xs, lines_sum xs)

nodes_sum : (g : Scope) (xs : List Item) → sum_by (λ x. form_nodes g x.form) xs + sum_by (λ x. joined_nodes g x.form) xs ≡ items_room g xs
nodes_sum g [] = refl
nodes_sum g (x ∷ xs) = omega (arith, sum_by-cons (λ (y : Item). form_nodes g y.form) x xs, sum_by-cons (λ (y : Item). joined_nodes g y.form) x xs, nodes_sum g xs)

-- the numbers of an instance begin with 1
pub module_room : (m : Module) (g : Scope) (numbers : Numbers) → IsCountable m → numbers.line ≡ 1 → numbers.node ≡ 1 → HaveRoom numbers (items_lines m.items) (items_room g m.items)
module_room m g numbers all line node = (omega (arith, all.few_lines, line, lines_sum m.items), omega (arith, all.few_nodes g, node, nodes_sum g m.items))

-- the next item and those that are left
items_split : (xs : List CodeItem) (i : ℕ) (x : CodeItem) → i < length xs → x ≡ get_or xs i x → items_view (drop i xs) ≡ item_view x ∷ items_view (drop (i + 1) xs)
items_split xs i x within is = rw (add-one, drop-cons xs i x within, ← is) refl

module _ (g : Scope) (numbers : Numbers) (xs : List CodeItem) (i : ℕ) (x : CodeItem) (within : i < length xs) (is : x ≡ get_or xs i x) (room : HaveRoom numbers (items_lines (items_view (drop i xs))) (items_room g (items_view (drop i xs)))) where
  split_room : HaveRoom numbers (items_lines (item_view x ∷ items_view (drop (i + 1) xs))) (items_room g (item_view x ∷ items_view (drop (i + 1) xs)))
  split_room = subst (λ ys. HaveRoom numbers (items_lines ys) (items_room g ys)) (items_split xs i x within is) room

  pub item_room : HaveRoom numbers (form_lines (item_view x).form) (form_room g (item_view x).form)
  item_room = (omega (arith, split_room.0), omega (arith, split_room.1))

  pub rest_room : (others : Numbers) → TakesFew numbers others (form_lines (item_view x).form) (form_nodes g (item_view x).form) → HaveRoom others (items_lines (items_view (drop (i + 1) xs))) (items_room g (items_view (drop (i + 1) xs)))
  rest_room others few = (omega (arith, split_room.0, few.0), omega (arith, split_room.1, few.1))

-- the next instance and those that are left
ones_split : (os : List CodeOne) (i : ℕ) (o : CodeOne) → i < length os → o ≡ get_or os i o → ones_view (drop i os) ≡ one_view o ∷ ones_view (drop (i + 1) os)
ones_split os i o within is = rw (add-one, drop-cons os i o within, ← is) refl

module _ (n : ℕ) (g : Scope) (os : List CodeOne) (i : ℕ) (o : CodeOne) (within : i < length os) (is : o ≡ get_or os i o) (few : ones_nodes g (ones_view (drop i os)) < n) where
  split_few : ones_nodes g (one_view o ∷ ones_view (drop (i + 1) os)) < n
  split_few = subst (λ ys. ones_nodes g ys < n) (ones_split os i o within is) few

  pub one_few : connections_nodes g (one_view o).given < n
  one_few = omega (arith, split_few)

  pub ones_few : ones_nodes g (ones_view (drop (i + 1) os)) < n
  ones_few = omega (arith, split_few)

-- an item that declares nets takes what their values take
pub net_few : (g : Scope) (numbers others : Numbers) (f : CodeForm) (signed : Bool) (range : Option CodeRange) (names ds : List CodeDeclared) → f ≡ Net signed range names → ds ≡ names →
    TakesFew numbers others 0 (values_nodes g (declareds_view ds)) → TakesFew numbers others (form_lines (item_form_view f)) (form_nodes g (item_form_view f))
net_few g numbers others f signed range names ds is same few =
    subst (λ h. TakesFew numbers others (form_lines (item_form_view h)) (form_nodes g (item_form_view h))) (sym is) (subst (λ ys. TakesFew numbers others 0 (values_nodes g (declareds_view ys))) same few)
