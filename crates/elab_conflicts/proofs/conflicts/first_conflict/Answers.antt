use Rattle.std.proofs.Common.{◌≡◌, [], List, None, false, get_or, take, sym, ◌∙◌, subst, arith}
use Rattle.std.specs.List.Sorted.{IsPermutation, IsSortedByKey}
use Rattle.std.proofs.lemmas.List.{take_more, take_all}
use Rattle.std.proofs.lemmas.List.Sorted.{All-permutation}
use Rattle.flat_design.specs.declared.entry.Thing.TheVariants.{Signal}
use Rattle.elab_scope.specs.declared.tally.Written.{Written}
use Rattle.elab_conflicts.specs.Conflicts.{Summarizes, kept_in, name_order}
use Rattle.elab_scope.specs.View.{IsWithin, name_view}
use Rattle.elab_conflicts.proofs.ConflictsFound.{first_conflict, first_conflict-none, first_conflict-order, first_conflict-some}
use Rattle.elab_conflicts.proofs.ConflictsKept.{kept-more}
use Rattle.elab_conflicts.proofs.conflicts.first_conflict.Goals as goal

-- what a read after the end of the writings gives
abbrev unread : Written
unread =
    record {
      name = record { name = record { ref_ptr = (0, 0); now = [] }; place = record { source = 0; line = 0; column = 0 } };
      thing = Signal 0;
      low = 0;
      count = 0;
      blocking = false;
      continuous = false;
      process = 0;
    }

pub is_at_odds-requires : goal.is_at_odds-requires
is_at_odds-requires c =
    let moved = subst (λ v. IsPermutation c.args.writings.now v) (sym c.deref-written-items.ensures.value) c.in_ok-sorted.ensures.permutation in
    All-permutation IsWithin c.args.writings.now c.deref-written-items.result.now moved c.requires c.loop-written.written-index _ (omega arith)

pub with-requires : goal.with-requires
with-requires c =
    let moved = subst (λ v. IsPermutation c.args.writings.now v) (sym c.deref-written-items.ensures.value) c.in_ok-sorted.ensures.permutation in
    All-permutation IsWithin c.args.writings.now c.deref-written-items.result.now moved c.requires c.loop-written.written-index _ (omega arith)

pub returns-then-is_at_odds : goal.returns-then-is_at_odds
returns-then-is_at_odds c =
    let ws = c.deref-written-items.result.now in let i = c.loop-written.written-index in
    let same = sym c.deref-written-items.ensures.value in
    let moved = subst (λ v. IsPermutation c.args.writings.now v) same c.in_ok-sorted.ensures.permutation in
    let rising = subst (λ (v : List Written). IsSortedByKey (λ w. name_view w.name) name_order v) same c.in_ok-sorted.ensures.rising in
    let front = take i ws in let w = get_or ws i unread in
    sym (first_conflict-order c.args.conflict c.args.writings.now ws moved
    ∙ first_conflict-some c.args.conflict ws i unread rising (omega arith) c.loop-written.invariant.none
    (sym (c.is_at_odds.ensures front (subst (λ e. Summarizes e w.thing front) (sym c.get-earlier.ensures) (c.loop-written.invariant.kept w.thing))) ∙ c.if-is_at_odds.true))

pub loop-written-preserved : goal.loop-written-preserved
loop-written-preserved c =
    let ws = c.deref-written-items.result.now in let i = c.loop-written.written-index in
    let front = take i ws in
    let w = get_or ws i unread in
    let more = sym (take_more ws i unread (omega arith)) in
    let before = subst (λ e. Summarizes e w.thing front) (sym c.get-earlier.ensures) (c.loop-written.invariant.kept w.thing) in
    let now = kept-more (kept_in c.loop-written.table) (kept_in c.set.new.self) c.with.result front w c.in_ok-set.ensures c.loop-written.invariant.kept (c.with.ensures front before) in
    record {
      none = subst (λ v. first_conflict c.args.conflict v ≡ None) more (first_conflict-none c.args.conflict front w c.loop-written.invariant.none (sym (c.is_at_odds.ensures front before) ∙ c.if-is_at_odds.false));
      kept = λ t. subst (λ v. Summarizes (kept_in c.set.new.self t) t v) more (now t);
    }

pub returns : goal.returns
returns c =
    let ws = c.deref-written-items.result.now in let i = c.loop-written.written-index in
    let moved = subst (λ v. IsPermutation c.args.writings.now v) (sym c.deref-written-items.ensures.value) c.in_ok-sorted.ensures.permutation in
    sym (first_conflict-order c.args.conflict c.args.writings.now ws moved ∙ subst (λ v. first_conflict c.args.conflict v ≡ None) (take_all i ws (omega arith)) c.loop-written.invariant.none)
