-- What holds of the items that tokens spell: names, literals, and blocking assignments where there are no edges.
use Rattle.std.proofs.Common.{◌≡◌, Bool, true, false, List, [], ◌∷◌, ◌++◌, map, Option, Some, None, subst}
use Rattle.four_state.specs.Vector.{HasWidth}
use Rattle.design_model.specs.Design.{In}
use Rattle.verilog_tree.specs.declared.item.Named.{Named}
use Rattle.verilog_tree.specs.declared.item.When.{When}
use Rattle.verilog_tree.specs.Tree.{Expr, Statement, Param, Declared, Given, One, InstanceItem, ItemForm, always_item, instance_item, Item}
use Rattle.grammar_rules.specs.Rule.{nest}
use Rattle.grammar_rules.proofs.Holds.{AllOf}
use Rattle.verilog_grammar.specs.declared.body.Body.{Body}
use Rattle.verilog_grammar.specs.declared.body.Body.TheVariants.{Combinational, Clocked}
use Rattle.verilog_grammar.specs.Language.{verilog, target, statement}
use Rattle.verilog_grammar.specs.Parts.{an_expression}
use Rattle.verilog_grammar.specs.Statements.{set_rule}
use Rattle.verilog_grammar.specs.Modules.{PortHead, port_rule, port_item_of, Entry, new_port, more_name, entry_rule, entries_rule, port_items, plist_rule, header_ports_rule, valued_rule, param_of, ParamType, type_or, HeaderParam, header_param_rule, header_params, header_params_of, header_params_rule, plain_type, port_item_rule, net_rule, net_item_rule, variable_rule, variable_item_rule, integer_item_rule, parameter_item_rule, continuous_item_of, continuous_item_rule, Timed, timed_rule, always_item_rule, initial_item_rule, overrides_rule, without_lone_empty, connected_by_place, connections_by_place, connections_rule, one_rule, instance_item_rule, item_rule, items_rule}
use Rattle.flat_design.specs.Identifiers.{declared_names}
use Rattle.flat_laws.specs.Literals.{literals, body_literals, option_literals, given_literals, item_literals}
use Rattle.flat_laws.specs.Tokens.{has_edges, is_blocking}
use Rattle.parsed_modules.proofs.TokensHold.{Spelling, IfSome, Gives, any_gives, both_give, first_gives, second_gives, either_gives, made_gives, many_gives}
use Rattle.parsed_modules.proofs.Parts.{after_gives, before_gives, optional_gives, listed_gives}
use Rattle.parsed_modules.proofs.Lists.{all_append, all_map, all_made, all_flat_map, all_in}
use Rattle.parsed_modules.proofs.Names.{IsNameToken, IsName, name_gives}
use Rattle.parsed_modules.proofs.Expressions.{HaveWidths, IsSized, two_sized}
use Rattle.parsed_modules.proofs.Statements.{IsIn}

-- without edges a process has no nonblocking assignments
abbrev IsQuietForm : ItemForm → Type 0
IsQuietForm (always_item w s) = has_edges w ≡ false → is_blocking s ≡ true
IsQuietForm _ = Unit {0}

-- what holds of an item
pub record IsSoundItem (i : Item) : Type 0 where
  pub names : AllOf IsName (declared_names i.form)
  pub literals : HaveWidths (item_literals i.form)
  pub quiet : IsQuietForm i.form

-- each instance that it declares has an identifier for its name
pub instance_name : (i : Item) → IsSoundItem i → (k : InstanceItem) → i.form ≡ instance_item k → (o : One) → In o k.ones → IsName o.name
instance_name i h k e o j =
    let names : AllOf IsName (declared_names (instance_item k)) = subst (λ f. AllOf IsName (declared_names f)) e h.names in
    all_in (λ x. IsName x.name) k.ones (all_made IsName (λ x. x.name) k.ones names) o j

pub process_quiet : (i : Item) → IsSoundItem i → (w : When) (s : Statement) → i.form ≡ always_item w s → has_edges w ≡ false → is_blocking s ≡ true
process_quiet i h w s e no_edges = subst (λ f. IsQuietForm f) e h.quiet no_edges

abbrev pub AreSoundItems : List Item → Type 0
AreSoundItems items = AllOf IsSoundItem items

-- ---- ports

abbrev HasName : PortHead → Type 0
HasName h = IsName h.name

abbrev EntryHasName : Entry → Type 0
EntryHasName (new_port h) = IsName h.name
EntryHasName (more_name name) = IsName name

port_sound : (h : PortHead) (names : List Named) → HasName h → AllOf IsName names → IsSoundItem (port_item_of h names)
port_sound h names n ns = record { names = (n, ns); literals = tt; quiet = tt }

ports_sound : (h : PortHead) (names : List Named) (entries : List Entry) → HasName h → AllOf IsName names → AllOf EntryHasName entries → AreSoundItems (port_items h names entries)
ports_sound h names [] n ns es = (port_sound h names n ns, tt)
ports_sound h names (new_port other ∷ entries) n ns es = (port_sound h names n ns, ports_sound other [] entries es.0 tt es.1)
ports_sound h names (more_name name ∷ entries) n ns es = ports_sound h (names ++ name ∷ []) entries n (all_append IsName names (name ∷ []) ns (es.0, tt)) es.1

-- ---- parameters, nets and variables

-- a name, and the literals of its value
pub record IsSoundParam (p : Param) : Type 0 where
  pub name : IsName p.name
  pub value : IsSized p.value

abbrev IsValued : Named × Expr → Type 0
IsValued p = IsName p.0 × IsSized p.1

params_sound : (t : ParamType) (ps : List HeaderParam) → AllOf (λ p. IsValued p.1) ps → AllOf IsSoundParam (header_params t ps)
params_sound t [] h = tt
params_sound t (p ∷ ps) h = (record { name = h.0.0; value = h.0.1 }, params_sound (type_or t p.0) ps h.1)

header_sound : (ps : Option (List HeaderParam)) → IfSome (λ ps. AllOf (λ p. IsValued p.1) ps) ps → AllOf IsSoundParam (header_params_of ps)
header_sound None h = tt
header_sound (Some ps) h = params_sound plain_type ps h

option_sized : (e : Option Expr) → IfSome IsSized e → HaveWidths (option_literals e)
option_sized None h = tt
option_sized (Some e) h = h

record IsSoundNet (d : Declared) : Type 0 where
  name : IsName d.name
  value : HaveWidths (option_literals d.value)

-- ---- instances

abbrev IsSizedGiven : Given → Type 0
IsSizedGiven g = HaveWidths (option_literals g.value)

given_sized : (gs : List Given) → AllOf IsSizedGiven gs → HaveWidths (given_literals gs)
given_sized gs h = all_flat_map IsSizedGiven HasWidth (λ g. option_literals g.value) (λ g k. k) gs h

without_empty : (P : Option Expr → Type 0) (es : List (Option Expr)) → AllOf P es → AllOf P (without_lone_empty es)
without_empty P [] h = tt
without_empty P (None ∷ []) h = tt
without_empty P (None ∷ e ∷ es) h = h
without_empty P (Some e ∷ es) h = h

placed_sized : (es : List (Option Expr)) → AllOf (IfSome IsSized) es → AllOf IsSizedGiven (connections_by_place es)
placed_sized es h = all_map (IfSome IsSized) IsSizedGiven connected_by_place (λ e k. option_sized e k) (without_lone_empty es) (without_empty (IfSome IsSized) es h)

record IsSoundOne (o : One) : Type 0 where
  name : IsName o.name
  given : HaveWidths (given_literals o.given)

-- what waits without edges has blocking assignments alone
abbrev IsSoundTimed : Timed → Type 0
IsSoundTimed p = HaveWidths (body_literals p.1) × (has_edges p.0 ≡ false → is_blocking p.1 ≡ true)

module _ (S : Spelling verilog IsNameToken) (expressions : Gives S an_expression IsSized) (targets : Gives S (nest target) IsSized) (statements : (b : Body) → Gives S (nest (statement b)) (IsIn b)) where
  port_gives : Gives S port_rule HasName
  unfolding port_rule
  port_gives = made_gives {Q = λ p. IsName p.1.1} (second_gives {H = λ p. IsName p.1} (second_gives (name_gives S))) (λ p q. q)

  entry_gives : Gives S entry_rule EntryHasName
  unfolding entry_rule
  entry_gives = either_gives (made_gives port_gives (λ h q. q)) (made_gives (name_gives S) (λ n q. q))

  entries_give : Gives S entries_rule (λ p. HasName p.0 × AllOf EntryHasName p.1)
  unfolding entries_rule
  entries_give = both_give port_gives (many_gives (after_gives entry_gives))

  plist_gives : Gives S plist_rule (λ p. AreSoundItems p.1)
  unfolding plist_rule
  plist_gives = either_gives (made_gives any_gives (λ names q. tt)) (made_gives entries_give (λ p q. ports_sound p.0 [] p.1 q.0 tt q.1))

  pub header_ports_give : Gives S header_ports_rule (λ p. AreSoundItems p.1)
  unfolding header_ports_rule
  header_ports_give = either_gives (after_gives (before_gives (either_gives plist_gives (made_gives any_gives (λ u q. tt))))) (made_gives any_gives (λ u q. tt))

  valued_gives : Gives S valued_rule IsValued
  unfolding valued_rule
  valued_gives = both_give (name_gives S) (after_gives expressions)

  header_param_gives : Gives S header_param_rule (λ p. IsValued p.1)
  unfolding header_param_rule
  header_param_gives = second_gives valued_gives

  pub header_params_give : Gives S header_params_rule (λ ps. AllOf IsSoundParam ps)
  unfolding header_params_rule
  header_params_give = made_gives (optional_gives (after_gives (after_gives (before_gives (listed_gives header_param_gives))))) (λ ps q. header_sound ps q)

  -- ---- declarations

  port_item_gives : Gives S port_item_rule AreSoundItems
  unfolding port_item_rule
  port_item_gives = made_gives {Q = λ p. HasName p.0 × AllOf IsName p.1} (before_gives (both_give port_gives (many_gives (after_gives (name_gives S))))) (λ p q. (port_sound p.0 p.1 q.0 q.1, tt))

  net_gives : Gives S net_rule IsSoundNet
  unfolding net_rule
  net_gives = made_gives {Q = λ p. IsName p.0 × IfSome IsSized p.1} (both_give (name_gives S) (optional_gives (after_gives expressions))) (λ p q. record { name = q.0; value = option_sized p.1 q.1 })

  net_item_gives : Gives S net_item_rule AreSoundItems
  unfolding net_item_rule
  net_item_gives =
      made_gives {Q = λ p. AllOf IsSoundNet p.1.1} (second_gives {H = λ p. AllOf IsSoundNet p.1} (second_gives (before_gives (listed_gives net_gives))))
      (λ p q. (
        record {
          names = all_map IsSoundNet IsName (λ d. d.name) (λ d k. k.name) p.1.1 q;
          literals = all_flat_map IsSoundNet HasWidth (λ d. option_literals d.value) (λ d k. k.value) p.1.1 q;
          quiet = tt;
        },
        tt,
      ))

  variable_gives : Gives S variable_rule (λ d. IsName d.name)
  unfolding variable_rule
  variable_gives = made_gives {Q = λ p. IsName p.0} (first_gives (name_gives S)) (λ p q. q)

  variable_item_gives : Gives S variable_item_rule AreSoundItems
  unfolding variable_item_rule
  variable_item_gives =
      made_gives {Q = λ p. AllOf (λ d. IsName d.name) p.1.1} (second_gives {H = λ p. AllOf (λ d. IsName d.name) p.1} (second_gives (before_gives (listed_gives variable_gives))))
      (λ p q. (record { names = all_map (λ d. IsName d.name) IsName (λ d. d.name) (λ d k. k) p.1.1 q; literals = tt; quiet = tt }, tt))

  integer_item_gives : Gives S integer_item_rule AreSoundItems
  unfolding integer_item_rule
  integer_item_gives =
      made_gives {Q = λ p. AllOf IsSoundNet p.1} (second_gives (before_gives (listed_gives net_gives)))
      (λ p q. (record { names = all_map IsSoundNet IsName (λ d. d.name) (λ d k. k.name) p.1 q; literals = tt; quiet = tt }, tt))

  parameter_sound : (local : Bool) (t : ParamType) (ps : List (Named × Expr)) → AllOf IsValued ps → AllOf IsSoundParam (map (param_of local t) ps)
  parameter_sound local t ps h = all_map IsValued IsSoundParam (param_of local t) (λ p k. record { name = k.0; value = k.1 }) ps h

  parameter_item_gives : Gives S parameter_item_rule AreSoundItems
  unfolding parameter_item_rule
  parameter_item_gives =
      made_gives {Q = λ p. AllOf IsValued p.1.1} (second_gives {H = λ p. AllOf IsValued p.1} (second_gives (before_gives (listed_gives valued_gives))))
      (λ p q. (
        record {
          names = all_map IsSoundParam IsName (λ x. x.name) (λ x k. k.name) _ (parameter_sound _ p.1.0 p.1.1 q);
          literals = all_flat_map IsSoundParam HasWidth (λ x. literals x.value) (λ x k. k.value) _ (parameter_sound _ p.1.0 p.1.1 q);
          quiet = tt;
        },
        tt,
      ))

  -- ---- processes

  set_gives : Gives S set_rule (λ p. IsSized p.0 × IsSized p.1)
  unfolding set_rule
  set_gives = both_give targets (after_gives expressions)

  continuous_item_gives : Gives S continuous_item_rule AreSoundItems
  unfolding continuous_item_rule
  continuous_item_gives =
      made_gives {Q = λ p. AllOf (λ x. IsSized x.0 × IsSized x.1) p.1} (second_gives (before_gives (listed_gives set_gives)))
      (λ p q. all_map (λ x. IsSized x.0 × IsSized x.1) IsSoundItem (continuous_item_of p.0.place) (λ x k. record { names = tt; literals = two_sized (literals x.0) (literals x.1) k.0 k.1; quiet = tt }) p.1 q)

  timed_gives : Gives S timed_rule IsSoundTimed
  unfolding timed_rule
  timed_gives =
      either_gives (made_gives (after_gives (statements Combinational)) (λ s q. (q.literals, λ e. q.quiet)))
      (after_gives (either_gives (made_gives (after_gives (after_gives (statements Combinational))) (λ s q. (q.literals, λ e. q.quiet)))
      (either_gives (made_gives {Q = λ p. IsIn Combinational p.1} (second_gives (after_gives (statements Combinational))) (λ p q. (q.literals, λ e. q.quiet)))
      (made_gives {Q = λ p. IsIn Clocked p.1} (second_gives (after_gives (statements Clocked))) (λ p q. (q.literals, λ e. absurd cc))))))

  always_item_gives : Gives S always_item_rule AreSoundItems
  unfolding always_item_rule
  always_item_gives = made_gives {Q = λ p. IsSoundTimed p.1} (second_gives (after_gives timed_gives)) (λ p q. (record { names = tt; literals = q.0; quiet = q.1 }, tt))

  initial_item_gives : Gives S initial_item_rule AreSoundItems
  unfolding initial_item_rule
  initial_item_gives = made_gives any_gives (λ p q. (record { names = tt; literals = tt; quiet = tt }, tt))

  -- ---- instances

  overrides_give : Gives S overrides_rule (λ gs. AllOf IsSizedGiven gs)
  unfolding overrides_rule
  overrides_give =
      either_gives (listed_gives (made_gives {Q = λ p. IsSized p.1} (second_gives (after_gives (before_gives expressions))) (λ p q. q)))
      (listed_gives (made_gives expressions (λ e q. q)))

  connections_give : Gives S connections_rule (λ gs. AllOf IsSizedGiven gs)
  unfolding connections_rule
  connections_give =
      either_gives (listed_gives (made_gives {Q = λ p. IfSome IsSized p.1} (second_gives (after_gives (before_gives (optional_gives expressions)))) (λ p q. option_sized p.1 q)))
      (made_gives (listed_gives (optional_gives expressions)) (λ es q. placed_sized es q))

  one_gives : Gives S one_rule IsSoundOne
  unfolding one_rule
  one_gives = made_gives {Q = λ p. IsName p.0 × AllOf IsSizedGiven p.1} (both_give (name_gives S) (after_gives (before_gives connections_give))) (λ p q. record { name = q.0; given = given_sized p.1 q.1 })

  instance_item_gives : Gives S instance_item_rule AreSoundItems
  unfolding instance_item_rule
  instance_item_gives =
      made_gives {Q = λ p. AllOf IsSizedGiven p.1.0 × AllOf IsSoundOne p.1.1}
      (second_gives {H = λ p. AllOf IsSizedGiven p.0 × AllOf IsSoundOne p.1}
      (both_give (either_gives (after_gives (after_gives (before_gives overrides_give))) (made_gives any_gives (λ u q. tt))) (before_gives (listed_gives one_gives))))
      (λ p q. (
        record {
          names = all_map IsSoundOne IsName (λ o. o.name) (λ o k. k.name) p.1.1 q.1;
          literals = two_sized (given_literals p.1.0) _ (given_sized p.1.0 q.0) (all_flat_map IsSoundOne HasWidth (λ o. given_literals o.given) (λ o k. k.given) p.1.1 q.1);
          quiet = tt;
        },
        tt,
      ))

  item_gives : Gives S item_rule AreSoundItems
  unfolding item_rule
  item_gives =
      either_gives port_item_gives (either_gives net_item_gives (either_gives variable_item_gives (either_gives integer_item_gives (either_gives parameter_item_gives
      (either_gives continuous_item_gives (either_gives always_item_gives (either_gives initial_item_gives instance_item_gives)))))))

  pub items_give : Gives S items_rule AreSoundItems
  unfolding items_rule
  items_give = made_gives (many_gives item_gives) (λ items q. all_flat_map AreSoundItems IsSoundItem (λ each. each) (λ each k. k) items q)
