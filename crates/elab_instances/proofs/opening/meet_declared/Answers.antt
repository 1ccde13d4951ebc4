use Rattle.std.proofs.Common.{◌≡◌, ◌+◌, List, ap, drop, sym, subst, ◌∙◌, arith}
use Rattle.std.specs.Prelude.{flat_map}
use Rattle.flat_design.specs.Bodies.{Met}
use Rattle.flat_design.specs.Declarations.{Declaration}
use Rattle.elab_declarations.specs.DeclarationView.{declaration_view, declarations_view}
use Rattle.elab_scope.specs.Tally.{after_all}
use Rattle.elab_scope.proofs.TallyLemmas.{after_all-append}
use Rattle.elab_instances.specs.InstanceView.{instantiation_view}
use Rattle.elab_instances.specs.Linked.{links_view}
use Rattle.elab_instances.specs.Roles.{IsFewWords, role_met, role_of}
use Rattle.elab_instances.proofs.EnteringLemmas.{rest_is, rest_within}
use Rattle.elab_instances.proofs.RoleLemmas.{few_words}
use Rattle.elab_instances.proofs.opening.meet_declared.Goals as goal

pub meet_name-requires : goal.meet_name-requires
meet_name-requires c =
    subst IsFewWords (sym c.role.ensures) (few_words (links_view c.args.links.now) (declaration_view c.declaration-item.result) (rest_within c.args.declared.now c.loop-declaration.declaration-index c.declaration-item.result (omega arith) c.declaration-item.is c.requires))

pub loop-declaration-preserved : goal.loop-declaration-preserved
loop-declaration-preserved c =
    let given = instantiation_view c.args.given.now in
    let own : Declaration → List Met = λ d. role_met (role_of (links_view c.args.links.now) d) given d in
    let i = c.loop-declaration.declaration-index in
    let d = declaration_view c.declaration-item.result in
    let rest = declarations_view (drop (i + 1) c.args.declared.now) in
    let t = c.loop-declaration.tally in
    let here : c.meet_name.new.tally ≡ after_all t (own d) = c.meet_name.ensures ∙ ap (λ r. after_all t (role_met r given d)) c.role.ensures in
    ap (λ u. after_all u (flat_map own rest)) here ∙ sym (after_all-append t (own d) (flat_map own rest)) ∙ ap (λ ds. after_all t (flat_map own ds)) (sym (rest_is c.args.declared.now i c.declaration-item.result (omega arith) c.declaration-item.is)) ∙ c.loop-declaration.invariant
