use Rattle.std.proofs.Common.{◌≡◌, false, ap, sym, ◌∙◌}
use Rattle.std.specs.Prelude.{flat_map}
use Rattle.std.specs.List.{list_any}
use Rattle.verilog_tree.specs.View.{givens_view, module_view}
use Rattle.flat_design.specs.Connections.{connections, given_faults, override_of, override_value_faults, value_names_faulty}
use Rattle.flat_design.specs.Fault.{none}
use Rattle.flat_design.specs.Scope.{binding_of}
use Rattle.elab_declarations.specs.Constants.{overrides_view}
use Rattle.elab_scope.specs.Tally.{after_faults}
use Rattle.elab_scope.specs.View.{name_view, names_view}
use Rattle.elab_ports.specs.ConnectionView.{connections_view}
use Rattle.elab_ports.proofs.OverrideLemmas.{none_connected, overrides_found, overrides_met, overrides_sound}
use Rattle.elab_ports.proofs.overrides.check_overrides.Goals as goal

pub returns-then-not-known-clause-met : goal.returns-then-not-known-clause-met
returns-then-not-known-clause-met c =
    let g = binding_of c.args.scope.now in
    let label = name_view c.args.label in
    let cs = givens_view c.args.given.now in
    let t = c.args.tally.now in
    let u = c.check_connections.new.tally in
    let made = c.in_ok-found.ensures ∙ ap (λ ns. connections label (names_view ns) cs) c.deref.ensures.value in
    overrides_met g label (module_view c.args.definition.now) cs (names_view c.in_ok-names.names.items) (connections_view c.in_ok-found.found.items) c.in_ok-names.ensures made t u c.check_values-constant.new.tally
    (c.in_ok-known.ensures.met ∙ ap (λ ns. after_faults t (given_faults label (names_view ns) cs)) c.deref-2.ensures.value)
    (c.check_values-constant.ensures.met ∙ ap (λ ds. after_faults u (flat_map (λ d. override_value_faults g d.value) (connections_view ds))) c.deref-4.ensures.value)

pub override_values-requires-clause-known : goal.override_values-requires-clause-known
override_values-requires-clause-known c =
    let g = binding_of c.args.scope.now in
    let label = name_view c.args.label in
    let cs = givens_view c.args.given.now in
    let made = c.in_ok-found.ensures ∙ ap (λ ns. connections label (names_view ns) cs) c.deref.ensures.value in
    let known : list_any (λ d. value_names_faulty g d.value) cs ≡ false = sym c.some_names_faulty.ensures ∙ c.if-some_names_faulty.false in
    ap (λ ds. list_any (λ d. value_names_faulty g d.value) (connections_view ds)) c.deref-5.ensures.value ∙ ap (list_any (λ d. value_names_faulty g d.value)) made ∙ none_connected (value_names_faulty g) label (names_view c.in_ok-names.names.items) cs known

pub returns-clause-found : goal.returns-clause-found
returns-clause-found c =
    let g = binding_of c.args.scope.now in
    let label = name_view c.args.label in
    let m = module_view c.args.definition.now in
    let cs = givens_view c.args.given.now in
    let xs = names_view c.in_ok-names.names.items in
    let found = connections_view c.in_ok-found.found.items in
    let made = c.in_ok-found.ensures ∙ ap (λ ns. connections label (names_view ns) cs) c.deref.ensures.value in
    let sound =
    overrides_sound g label m cs xs found c.in_ok-names.ensures made c.in_ok-known.known c.check_values-constant.result c.some_names_faulty.result (c.in_ok-known.ensures.sound ∙ ap (λ ns. none (given_faults label (names_view ns) cs)) c.deref-2.ensures.value)
    (c.check_values-constant.ensures.sound ∙ ap (λ ds. none (flat_map (λ d. override_value_faults g d.value) (connections_view ds))) c.deref-4.ensures.value) c.some_names_faulty.ensures in
    overrides_found g label m cs xs found c.in_ok-names.ensures made (overrides_view c.in_ok-override_values.field-0.items) c.in_ok-known.known c.check_values-constant.result c.some_names_faulty.result c.if-not-known.false c.if-not-constant.false c.if-some_names_faulty.false sound
    (c.in_ok-override_values.ensures ∙ ap (λ ds. flat_map (λ d. override_of g d.port d.value) (connections_view ds)) c.deref-5.ensures.value)
