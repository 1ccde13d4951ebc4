use Rattle.four_state.proofs.MatchLaws.{any_z, any_xz}
use Rattle.four_state.proofs.Places.{is_set-zero}
use Rattle.four_state.proofs.relation.any_mask.Goals as goal

pub returns-in-Exact : goal.returns-in-Exact
returns-in-Exact c = λ i l. rw c.in-Exact.is (is_set-zero i)

pub returns-in-AnyZ : goal.returns-in-AnyZ
returns-in-AnyZ c = λ i l.
    rw (c.in-AnyZ.is, c.ones.ensures.value, c.strange.ensures.value, c.ones-in-AnyZ.ensures.value, c.strange-in-AnyZ.ensures.value) (any_z c.args.a.now.bits c.args.b.now.bits c.requires i l)

pub returns-in-AnyXZ : goal.returns-in-AnyXZ
returns-in-AnyXZ c = λ i l.
    rw (c.in-AnyXZ.is, c.strange-in-AnyXZ.ensures.value, c.strange-in-AnyXZ-2.ensures.value) (any_xz c.args.a.now.bits c.args.b.now.bits c.requires i l)
