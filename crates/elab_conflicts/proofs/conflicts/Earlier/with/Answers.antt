use Rattle.std.proofs.Common.{◌≡◌, ◌||◌, ◌&&◌, ◌==◌, if◌then◌else◌, sym, ap, ◌∙◌, bit_or, not}
use Rattle.elab_conflicts.specs.Conflicts.{has_other}
use Rattle.elab_conflicts.proofs.ConflictsLists.{or_at_true, or_at_false, or_false}
use Rattle.elab_conflicts.proofs.ConflictsKept.{Summarizes-more, mask}
use Rattle.elab_conflicts.proofs.conflicts.Earlier.with.Goals as goal
use Rattle.elab_conflicts.proofs.conflicts.Earlier.with.Goals.{then-self, else-self, then-self-2, else-self-2, then-written, else-written}

pub returns-then-written-2 : goal.returns-then-written-2
returns-then-written-2 c = λ ws s.
    let e = c.args.self in let w = c.args.written.now in
    let blocking : c.if-self.result ≡ (e.blocking || w.blocking) =
    elim c.if-self.branch [
      | then-self x ↦ or_at_true _ e.blocking w.blocking x.if-self.true (x.result-is ∙ x.if-self.true)
      | else-self x ↦ or_at_false _ e.blocking w.blocking x.if-self.false x.result-is
    ] in
    let nonblocking : c.if-self-2.result ≡ (e.nonblocking || not w.blocking) =
    elim c.if-self-2.branch [
      | then-self-2 x ↦ or_at_true _ e.nonblocking (not w.blocking) x.if-self-2.true (x.result-is ∙ x.if-self-2.true)
      | else-self-2 x ↦ or_at_false _ e.nonblocking (not w.blocking) x.if-self-2.false x.result-is
    ] in
    let driven : c.if-written.result ≡ (if w.continuous then bit_or e.driven (mask w) else e.driven) =
    elim c.if-written.branch [
      | then-written x ↦ x.result-is ∙ ap (λ m. bit_or e.driven m) x.bits_of.ensures ∙ ap (λ t. if t then bit_or e.driven (mask w) else e.driven) (sym x.if-written.true)
      | else-written x ↦ x.result-is ∙ ap (λ t. if t then bit_or e.driven (mask w) else e.driven) (sym x.if-written.false)
    ] in
    Summarizes-more e _ ws w s blocking nonblocking driven c.with.ensures (λ p. sym (or_false (has_other e.procedural p)) ∙ ap (λ t. has_other e.procedural p || (not t && not (p == w.process))) (sym c.if-written-2.true))

pub returns-else-written-2 : goal.returns-else-written-2
returns-else-written-2 c = λ ws s.
    let e = c.args.self in let w = c.args.written.now in
    let blocking : c.if-self.result ≡ (e.blocking || w.blocking) =
    elim c.if-self.branch [
      | then-self x ↦ or_at_true _ e.blocking w.blocking x.if-self.true (x.result-is ∙ x.if-self.true)
      | else-self x ↦ or_at_false _ e.blocking w.blocking x.if-self.false x.result-is
    ] in
    let nonblocking : c.if-self-2.result ≡ (e.nonblocking || not w.blocking) =
    elim c.if-self-2.branch [
      | then-self-2 x ↦ or_at_true _ e.nonblocking (not w.blocking) x.if-self-2.true (x.result-is ∙ x.if-self-2.true)
      | else-self-2 x ↦ or_at_false _ e.nonblocking (not w.blocking) x.if-self-2.false x.result-is
    ] in
    let driven : c.if-written.result ≡ (if w.continuous then bit_or e.driven (mask w) else e.driven) =
    elim c.if-written.branch [
      | then-written x ↦ x.result-is ∙ ap (λ m. bit_or e.driven m) x.bits_of.ensures ∙ ap (λ t. if t then bit_or e.driven (mask w) else e.driven) (sym x.if-written.true)
      | else-written x ↦ x.result-is ∙ ap (λ t. if t then bit_or e.driven (mask w) else e.driven) (sym x.if-written.false)
    ] in
    Summarizes-more e _ ws w s blocking nonblocking driven c.with.ensures (λ p. c.with-else-written-2.ensures p ∙ ap (λ t. has_other e.procedural p || (not t && not (p == w.process))) (sym c.if-written-2.false))
