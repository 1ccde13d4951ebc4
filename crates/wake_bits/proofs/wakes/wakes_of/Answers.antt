use Rattle.std.proofs.Common.{◌≡◌, ◌∙◌, length, sym, ap, subst, arith}
use Rattle.std.specs.List.{Contains}
use Rattle.process_order.proofs.early_sets.Membership.{is_in_from, is_in_gives}
use Rattle.design_model.specs.View.{design_view, process_view}
use Rattle.process_names.specs.Laws.{has}
use Rattle.wake_bits.specs.Mentions.{mentioned_names}
use Rattle.wake_bits.proofs.Mentioned.{mentioned_below}
use Rattle.wake_bits.proofs.WakeRows.{named_below}
use Rattle.wake_bits.proofs.wakes.wakes_of.Goals as goal

pub set_places-requires-clause-within : goal.set_places-requires-clause-within
set_places-requires-clause-within c s n =
    omega (arith, named_below (design_view c.args.design.now) c.args.targets.now s c.requires.inside n, c.requires.places, ap length c.deref_mut.ensures.value)

pub mark-requires : goal.mark-requires
mark-requires c x h =
    let named : c.as_slice.result.now ≡ mentioned_names (process_view c.args.process.now) = c.as_slice.ensures.value ∙ c.in_ok-push_mentioned.ensures in
    let there : Contains (mentioned_names (process_view c.args.process.now)) x = subst (λ xs. Contains xs x) named h in
    omega (arith, c.requires.mentioned, mentioned_below (design_view c.args.design.now) (process_view c.args.process.now) x c.requires.shaped (is_in_from (mentioned_names (process_view c.args.process.now)) x there.0 there.1 there.2))

pub wake_list-requires-clause-watched : goal.wake_list-requires-clause-watched
wake_list-requires-clause-watched c x h = omega (arith, c.requires.watched x h, c.mark.ensures.size, c.requires.mentioned)

pub returns-clause-list : goal.returns-clause-list
returns-clause-list c =
    let named : c.as_slice.result.now ≡ mentioned_names (process_view c.args.process.now) = c.as_slice.ensures.value ∙ c.in_ok-push_mentioned.ensures in
    c.wake_list.ensures (λ x. has x (mentioned_names (process_view c.args.process.now))) (λ x. (
      λ m. let there = subst (λ xs. Contains xs x) named ((c.mark.ensures.members x).0 m) in is_in_from (mentioned_names (process_view c.args.process.now)) x there.0 there.1 there.2,
      λ h. (c.mark.ensures.members x).1 (subst (λ xs. Contains xs x) (sym named) (is_in_gives (mentioned_names (process_view c.args.process.now)) x h)),
    ))
