use Rattle.known_state.proofs.ChoiceLaws.{join_widths, chosen_allows, chosen_tight, chosen_exact, chosen_blame, unsure_allows, unsure_tight}
use Rattle.known_state.proofs.known.Known.choose.Goals as goal

pub join-requires-in-Unsure : goal.join-requires-in-Unsure
join-requires-in-Unsure c = rw (c.join.ensures.value, c.merged.ensures) (join_widths c.args.a.now c.args.b.now c.requires)

pub returns-in-Sure-clause-sound : goal.returns-in-Sure-clause-sound
returns-in-Sure-clause-sound c = rw c.chosen.ensures (chosen_allows c.args.a.now c.args.b.now c.requires c.args.c c.in-Sure.truth c.in-Sure.is)

pub returns-in-Sure-clause-tight : goal.returns-in-Sure-clause-tight
returns-in-Sure-clause-tight c = rw c.chosen.ensures (chosen_tight c.args.c c.args.a.now c.args.b.now c.requires c.in-Sure.truth c.in-Sure.is)

pub returns-in-Sure-clause-exact : goal.returns-in-Sure-clause-exact
returns-in-Sure-clause-exact c = rw c.chosen.ensures (chosen_exact c.args.a.now c.args.b.now c.requires c.args.c c.in-Sure.truth c.in-Sure.is)

pub returns-in-Sure-clause-blame : goal.returns-in-Sure-clause-blame
returns-in-Sure-clause-blame c = rw c.chosen.ensures (chosen_blame c.args.a.now c.args.b.now c.requires c.args.c c.in-Sure.truth c.in-Sure.is)

pub returns-in-Unsure-clause-sound : goal.returns-in-Unsure-clause-sound
returns-in-Unsure-clause-sound c =
    λ t v w truth. rw (c.join-in-Unsure.ensures.value, c.join.ensures.value, c.merged.ensures) (unsure_allows c.args.a.now c.args.b.now c.requires c.in-Unsure.thing t v w)

pub returns-in-Unsure-clause-tight : goal.returns-in-Unsure-clause-tight
returns-in-Unsure-clause-tight c =
    rw (c.join-in-Unsure.ensures.value, c.join.ensures.value, c.merged.ensures) (unsure_tight c.args.c c.args.a.now c.args.b.now c.requires c.in-Unsure.thing c.in-Unsure.is)
