use Rattle.std.proofs.Common.{◌≡◌, ◌++◌, ◌∙◌, ap, map}
use Rattle.std.specs.Prelude.{decimal}
use Rattle.coverage_db.specs.Text.{text_of_lines}
use Rattle.db_tools.specs.Excluded.{marked, marked_addresses}
use Rattle.coverage_db.specs.Text.{address_text}
use Rattle.db_tools.proofs.Marks.{head_written}
use Rattle.db_tools.proofs.write.head_text.Goals as goal

pub returns : goal.returns
returns c =
    let lines = marked_addresses c.args.db.now c.args.marks.now in
    let digits : c.as_bytes.result.now ≡ decimal c.args.count = c.as_bytes.ensures.value ∙ c.format.ensures.text in
    let second = c.in_ok-extend_from_slice-2.ensures.ok ∙ ap (λ t. c.extend_from_slice.new.self ++ t) digits in
    let written = c.in_ok-push_addresses.ensures ∙ ap (λ points. c.push.new.self ++ text_of_lines (map (λ p. address_text c.args.db.now.instances p.address) (marked points c.args.marks.now))) c.as_slice.ensures in
    head_written lines c.extend_from_slice.new.self c.extend_from_slice-2.new.self c.push.new.self c.push_addresses.new.text (decimal c.args.count)
    (rw c.new-text.ensures at c.in_ok-extend_from_slice.ensures.ok) second c.in_ok-push.ensures.ok written
