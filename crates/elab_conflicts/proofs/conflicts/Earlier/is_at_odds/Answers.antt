use Rattle.std.proofs.Common.{◌≡◌, ◌||◌, true, sym, ap, ◌∙◌, bit_and, not, ◌==◌}
use Rattle.std.specs.List.{list_any}
use Rattle.elab_conflicts.specs.Conflicts.{at_odds, has_other}
use Rattle.elab_scope.specs.View.{writing_view}
use Rattle.elab_conflicts.proofs.ConflictsLists.{not_zero, or_at_true}
use Rattle.elab_conflicts.proofs.ConflictsKept.{drivers-continuous}
use Rattle.elab_conflicts.proofs.conflicts.Earlier.is_at_odds.Goals as goal

pub returns-then-self-bits_of-ne0 : goal.returns-then-self-bits_of-ne0
returns-then-self-bits_of-ne0 c = λ ws s.
    let e = c.args.self.now in let w = c.args.written.now in
    let test = not (bit_and e.driven c.bits_of.result == 0) in
    let met : test ≡ true = not_zero (bit_and e.driven c.bits_of.result) c.if-self-bits_of-ne0.true in
    or_at_true test test (has_other e.procedural w.process) met met
    ∙ ap (λ m. not (bit_and e.driven m == 0) || has_other e.procedural w.process) c.bits_of.ensures
    ∙ drivers-continuous e w ws s c.if-written-2.true
    ∙ ap (λ k. list_any (λ v. at_odds k (writing_view w) (writing_view v)) ws) (sym c.in-TwoDrivers.is)

pub returns-else-self-bits_of-ne0 : goal.returns-else-self-bits_of-ne0
returns-else-self-bits_of-ne0 c = λ ws s.
    let e = c.args.self.now in let w = c.args.written.now in
    c.has_other.ensures
    ∙ ap (λ n. not (n == 0) || has_other e.procedural w.process) (sym c.if-self-bits_of-ne0.false)
    ∙ ap (λ m. not (bit_and e.driven m == 0) || has_other e.procedural w.process) c.bits_of.ensures
    ∙ drivers-continuous e w ws s c.if-written-2.true
    ∙ ap (λ k. list_any (λ v. at_odds k (writing_view w) (writing_view v)) ws) (sym c.in-TwoDrivers.is)
