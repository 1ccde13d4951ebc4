use Rattle.std.proofs.Common.{◌-◌, ◌++◌, ◌∷◌, [], map, length, sym, ap, ◌∙◌}
use Rattle.std.specs.Prelude.{codes, decimal}
use Rattle.std.proofs.lemmas.Result.{IfOk-equal}
use Rattle.coverage_db.specs.Text.{count_line, address_text}
use Rattle.coverage_db.proofs.BareLines.{item_at, item_past, behind_one, last_line}
use Rattle.coverage_db.proofs.bare_line.push_from_count.Goals as goal

pub returns-in-Some : goal.returns-in-Some
returns-in-Some c =
    let db = c.args.db.now in
    let line = behind_one (count_line (decimal (length db.points))) (map (λ p. address_text db.instances p.address) db.points ++ codes "end" ∷ []) c.args.place c.if-place-eq0.false ∙ item_at (λ p. address_text db.instances p.address) db.points (codes "end" ∷ []) (c.args.place - 1) c.in-Some.point.now c.in-Some.ensures.value in
    IfOk-equal c.push_address.result _ _ _ c.push_address.ensures (ap (λ t. c.args.text.now ++ t) (sym line))

pub returns-in-None : goal.returns-in-None
returns-in-None c =
    let db = c.args.db.now in
    let line = behind_one (count_line (decimal (length db.points))) (map (λ p. address_text db.instances p.address) db.points ++ codes "end" ∷ []) c.args.place c.if-place-eq0.false ∙ item_past (λ p. address_text db.instances p.address) db.points (codes "end" ∷ []) (c.args.place - 1) c.in-None.ensures.value ∙ last_line (c.args.place - 1 - length db.points) in
    IfOk-equal c.extend_from_slice.result _ _ _ c.extend_from_slice.ensures.ok (ap (λ t. c.args.text.now ++ t) (sym line))
