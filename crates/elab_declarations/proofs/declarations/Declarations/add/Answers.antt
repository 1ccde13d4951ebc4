use Rattle.std.proofs.Common.{◌≡◌, sym, ap, subst, ◌∙◌}
use Rattle.flat_design.specs.Declarations.{add_declaration}
use Rattle.elab_declarations.specs.DeclarationTable.{AreByName, declarations_in}
use Rattle.elab_declarations.specs.DeclarationView.{declaration_view}
use Rattle.elab_declarations.proofs.TableLemmas.{added, found, merged, merged_name, inserted_by_name}
use Rattle.elab_declarations.proofs.declarations.Declarations.add.Goals as goal
use Rattle.elab_declarations.proofs.declarations.Declarations.add.Goals.{in-Some, in-None}

-- what is inserted is what was found, with the new declaration
whole : (c : goal.In_ok-insert) → declaration_view c.match-get.whole ≡ merged (found c.as_slice-name.result.now c.self.inside.found.entries) (declaration_view c.args.declaration)
whole c =
    let d = declaration_view c.args.declaration in
    elim c.match-get.branch [
      | in-Some w ↦ ap declaration_view w.whole-is ∙ w.with-whole.ensures ∙ ap (λ o. merged o d) w.in-Some.ensures.value
      | in-None w ↦ ap declaration_view w.whole-is ∙ ap (λ o. merged o d) w.in-None.ensures.value
    ]

pub invariant_of-self-2 : goal.invariant_of-self-2
invariant_of-self-2 c =
    let es = c.self.inside.found.entries in
    let named : c.match-get.whole.name.now.name ≡ c.as_slice-name.result.now = ap (λ d. d.name.name) (whole c) ∙ merged_name c.as_slice-name.result.now (declaration_view c.args.declaration) es c.self.invariant (sym c.as_slice-name.ensures) in
    subst AreByName (sym c.in_ok-insert.ensures.entries) (inserted_by_name c.as_slice-name.result c.match-get.whole es named c.self.invariant)

pub returns : goal.returns
returns c =
    let d = declaration_view c.args.declaration in
    ap declarations_in c.in_ok-insert.ensures.entries ∙ added c.as_slice-name.result c.match-get.whole d c.self.inside.found.entries c.self.invariant (sym c.as_slice-name.ensures) (whole c) ∙ ap (λ ds. add_declaration ds d) c.self.view_is
