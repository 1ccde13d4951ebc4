use Rattle.std.proofs.Common.{◌≡◌, ◌∙◌, ◌||◌, not, true, false, [], ap, ap₂, get_or, subst, sym}
use Rattle.std.proofs.lemmas.List.{get_or_default, take_all, take_more}
use Rattle.design_model.specs.View.{design_view}
use Rattle.step_machines.specs.Marked.{MarksAll}
use Rattle.step_parts.specs.replay_model.Step.{all_run}
use Rattle.step_parts.specs.store_knowledge.Knows.{Knows}
use Rattle.step_machines.proofs.Marked.{MarksSome, all_things, one_thing, start_told, start_untold, thing_moves}
use Rattle.step_machines.proofs.machines.MachineMarks.mark.Goals as goal
use Rattle.step_machines.proofs.machines.MachineMarks.mark.Goals.{then-listed+then-not-self, else-listed, else-listed-via-then-listed+else-not-self, else-listed-via-else-listed}

pub loop-thing-init : goal.loop-thing-init
loop-thing-init c =
    let d = design_view c.args.design.now in
    let ps = c.args.points.now in
    let first = c.args.marks.now.verdicts in
    let told = c.args.self.now.told in
    elim c.if-listed.branch [
      | then-listed+then-not-self w ↦ rw w.marks-is (
        w.mark_all_states.ensures.points,
        λ st over.
            let after = w.mark_all_states.new.marks.verdicts in
            let kept = (all_run st).kept in
            let same : d ≡ st.design = sym c.requires.known.1.design ∙ over.values.knows.design in
            let knows = subst (λ e. Knows e kept c.args.store.now) (sym same) over.values.knows in
            let all = subst (λ t. MarksAll st.design ps kept t first after) (sym over.time) (subst (λ e. MarksAll e ps kept c.args.time first after) same (w.mark_all_states.ensures.states kept knows)) in
            let all_due : (not c.args.listed || told) ≡ false = ap₂ (λ l t. not l || t) w.if-listed.true w.if-not-self.true in
            subst (λ b. MarksSome st ps b [] first after) (sym all_due) (start_untold st ps (over.kind ∙ w.if-listed.true) first after all),
      )
      | else-listed w ↦ rw w.marks-is (
        c.requires.marks,
        λ st over.
            let none_due : (not c.args.listed || told) ≡ true =
            elim w.else-listed.branch [
              | else-listed-via-then-listed+else-not-self v ↦ ap₂ (λ l t. not l || t) v.if-listed.true v.if-not-self.false
              | else-listed-via-else-listed v ↦ ap (λ l. not l || told) v.if-listed.false
            ] in
            subst (λ b. MarksSome st ps b [] first first) (sym none_due) (start_told st ps first),
      )
    ]

pub loop-thing-preserved : goal.loop-thing-preserved
loop-thing-preserved c =
    let moves = c.args.moves.now in
    let i = c.loop-thing.thing-index in
    let s = get_or moves i 0 in
    let l = c.loop-thing-test.true in (
      c.mark_thing.ensures.points,
      λ st over.
          subst (λ ss. MarksSome st c.args.points.now (not c.args.listed || c.args.self.now.told) ss c.args.marks.now.verdicts c.mark_thing.new.marks.verdicts) (sym (take_more moves i 0 l))
          (one_thing st c.args.points.now (not c.args.listed || c.args.self.now.told) _ s c.args.marks.now.verdicts c.loop-thing.marks.verdicts c.mark_thing.new.marks.verdicts (c.loop-thing.invariant.1 st over)
          (c.mark_thing.ensures.machines st (record { values = over.values; moves = over.moves s ∙ thing_moves moves i s l (get_or_default moves i s 0 l); time = over.time; kind = over.kind }))),
    )

pub returns-clause-machines : goal.returns-clause-machines
returns-clause-machines c = λ st over.
    let first = c.args.marks.now.verdicts in
    let after = c.loop-thing.marks.verdicts in
    all_things st c.args.points.now (not c.args.listed || c.args.self.now.told) c.args.moves.now first after over.moves
    (subst (λ ss. MarksSome st c.args.points.now (not c.args.listed || c.args.self.now.told) ss first after) (take_all c.loop-thing.thing-index c.args.moves.now c.loop-thing-test.false) (c.loop-thing.invariant.1 st over))
