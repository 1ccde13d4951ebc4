use Rattle.design_model.specs.View.{design_view}
use Rattle.score_tables.proofs.Tables.{all_say, are_of_design, score_is}
use Rattle.score_tables.proofs.table.score_table.Goals as goal

pub collect-requires-clause-things : goal.collect-requires-clause-things
collect-requires-clause-things c =
    let (h, dump, small, scored) = c.requires.scored in
    let (ms, all) = c.requires.points in
    are_of_design (design_view c.args.design.now) h dump ms c.args.points.now c.args.marks.now.verdicts c.requires.lawful all small scored

pub returns : goal.returns
returns c = λ h dump ms all small scored windows.
    all_say c.collect.result
    (λ db is kept shown. score_is (design_view c.args.design.now) h dump ms c.args.points.now c.args.marks.now.verdicts c.requires.lawful all small scored c.args.sources c.args.windows db c.requires.named c.requires.written c.requires.rooted c.requires.windows windows is kept shown)
    c.collect.ensures.table c.collect.ensures.windows c.collect.ensures.verdicts
