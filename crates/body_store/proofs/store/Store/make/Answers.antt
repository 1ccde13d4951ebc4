use Rattle.std.proofs.Common.{subst, sym}
use Rattle.design_model.specs.View.{design_view}
use Rattle.body_calls.specs.body_replay.Store.{keep_all}
use Rattle.body_calls.specs.Lvalues.{if_certain, lvalue_writes}
use Rattle.body_store.specs.Held.{HoldsStore}
use Rattle.body_store.specs.Made.{unblamed}
use Rattle.body_store.proofs.store.Store.make.Goals as goal

pub returns-in-Signal-clause-kept : goal.returns-in-Signal-clause-kept
returns-in-Signal-clause-kept c = λ k h.
    let d = design_view c.args.self.now.design.now in
    let u = c.args.update.now in
    subst (λ t. HoldsStore d (keep_all k (if_certain u.certain (lvalue_writes d t u.value.bits))) unblamed c.set.new.self) (sym c.in-Signal.is) (c.set.ensures.kept k h)

pub returns-in-Part-clause-kept : goal.returns-in-Part-clause-kept
returns-in-Part-clause-kept c = λ k h.
    let d = design_view c.args.self.now.design.now in
    let u = c.args.update.now in
    subst (λ t. HoldsStore d (keep_all k (if_certain u.certain (lvalue_writes d t u.value.bits))) unblamed c.set_part.new.self) (sym c.in-Part.is) (c.set_part.ensures.kept k h)

pub returns-in-Word-clause-kept : goal.returns-in-Word-clause-kept
returns-in-Word-clause-kept c = λ k h.
    let d = design_view c.args.self.now.design.now in
    let u = c.args.update.now in
    subst (λ t. HoldsStore d (keep_all k (if_certain u.certain (lvalue_writes d t u.value.bits))) unblamed c.set_word.new.self) (sym c.in-Word.is) (c.set_word.ensures.kept k h)
