use Rattle.std.proofs.Common.{ap}
use Rattle.std.proofs.lemmas.List.{length-map}
use Rattle.known_state.specs.Partly.{with_blame}
use Rattle.known_state.proofs.Allowed.{join_allows_left, join_allows_right}
use Rattle.known_state.proofs.Bits.{joined_masks}
use Rattle.known_state.proofs.known.Known.join.Goals as goal

pub returns-clause-value : goal.returns-clause-value
returns-clause-value c =
    let small = rw (c.value-a.ensures.value, length-map) at c.ones.ensures.within.1 in
    rw (c.kept.ensures, c.sure.ensures, c.sure-2.ensures, c.ones.ensures.value, c.ones-2.ensures.value, c.strange.ensures.value, c.strange-2.ensures.value, c.value-a.ensures.value, c.value-b.ensures.value) (ap (λ ps. with_blame ps c.args.self.now.signed c.args.blame) (joined_masks c.args.self.now.bits c.args.other.now.bits c.requires small))

pub returns-clause-left : goal.returns-clause-left
returns-clause-left c = λ v h. rw (returns-clause-value c) (join_allows_left c.args.self.now c.args.other.now c.requires c.args.blame v h)

pub returns-clause-right : goal.returns-clause-right
returns-clause-right c = λ sign v h. rw (returns-clause-value c) (join_allows_right c.args.self.now c.args.other.now c.requires c.args.blame v sign h)
