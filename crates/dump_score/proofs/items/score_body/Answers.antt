use Rattle.dump_score.proofs.Opening.{found_in_file, positive, scoring_binds_on}
use Rattle.dump_score.proofs.Stepping.{IfErr-map, OnOk-map}
use Rattle.dump_score.proofs.items.score_body.Goals as goal

pub score_piece-requires : goal.score_piece-requires
score_piece-requires g c = c.requires.body (positive _ c.if-span-eq0.false)

pub returns-in-Err-clause-fault : goal.returns-in-Err-clause-fault
returns-in-Err-clause-fault g c = λ name before habit design points vars instance o.
    let is = o.goes_on (positive _ c.if-span-eq0.false) in
    found_in_file name before (g.H.Host.outside c.args.host.now) (g.H.Host.outside c.args.host.now) habit design instance _ _ o.file (λ rest. scoring_binds_on c.args.body.now c.args.replay.now habit design points vars instance o.front _ rest is)
    (c.in-Err.ensures.fault habit design points vars instance o.front is)

pub returns-in-Ok-clause-ok : goal.returns-in-Ok-clause-ok
returns-in-Ok-clause-ok g c =
    OnOk-map c.score_rest.result (λ rest name before habit design points vars instance o. rest name before habit design points vars instance _ o.file o.at_is (c.in-Ok.ensures.ok habit design points vars instance o.front (o.goes_on (positive _ c.if-span-eq0.false)))) c.score_rest.ensures.ok

pub returns-in-Ok-clause-fault : goal.returns-in-Ok-clause-fault
returns-in-Ok-clause-fault g c =
    IfErr-map c.score_rest.result (λ f rest name before habit design points vars instance o. rest name before habit design points vars instance _ o.file o.at_is (c.in-Ok.ensures.ok habit design points vars instance o.front (o.goes_on (positive _ c.if-span-eq0.false)))) c.score_rest.ensures.fault
