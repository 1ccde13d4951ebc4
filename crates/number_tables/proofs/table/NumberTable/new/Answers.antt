use Rattle.std.proofs.Common.{◌≡◌, ◌∙◌, length, drop, ap}
use Rattle.std.proofs.lemmas.List.{take_at}
use Rattle.number_tables.specs.Tables.{laid_out, no_slot, whole_width}
use Rattle.number_tables.proofs.Places.{all_inside, places_apart, rows_there}
use Rattle.number_tables.proofs.table.NumberTable.new.Goals as goal

pub write_numbers-requires-clause-rows : goal.write_numbers-requires-clause-rows
write_numbers-requires-clause-rows c =
    let is : c.as_slice-2.result.now ≡ laid_out 0 c.in_ok-ranges.ranges.items = c.as_slice-2.ensures.value ∙ c.in_ok-rows.ensures.rows ∙ ap (laid_out 0) c.as_slice.ensures.value in
    rows_there c.in_ok-ranges.ranges.items c.as_slice-2.result.now c.args.slots.now is c.in_ok-ranges.ensures

pub write_numbers-requires-clause-inside : goal.write_numbers-requires-clause-inside
write_numbers-requires-clause-inside c =
    let is : c.as_slice-2.result.now ≡ laid_out 0 c.in_ok-ranges.ranges.items = c.as_slice-2.ensures.value ∙ c.in_ok-rows.ensures.rows ∙ ap (laid_out 0) c.as_slice.ensures.value in
    let size : length c.as_mut_slice.result.now ≡ whole_width c.in_ok-ranges.ranges.items = c.as_mut_slice.ensures.len ∙ c.in_ok-numbers.ensures.len ∙ c.in_ok-rows.ensures.total ∙ ap whole_width c.as_slice.ensures.value in
    all_inside c.in_ok-ranges.ranges.items c.as_slice-2.result.now c.args.slots.now is c.in_ok-ranges.ensures (length c.as_mut_slice.result.now) size

pub write_numbers-requires-clause-apart : goal.write_numbers-requires-clause-apart
write_numbers-requires-clause-apart c =
    let is : c.as_slice-2.result.now ≡ laid_out 0 c.in_ok-ranges.ranges.items = c.as_slice-2.ensures.value ∙ c.in_ok-rows.ensures.rows ∙ ap (laid_out 0) c.as_slice.ensures.value in
    places_apart c.in_ok-ranges.ranges.items c.as_slice-2.result.now c.args.slots.now is c.in_ok-ranges.ensures c.requires.apart

pub returns : goal.returns
returns c =
    let is : c.in_ok-rows.rows.items ≡ laid_out 0 c.in_ok-ranges.ranges.items = c.in_ok-rows.ensures.rows ∙ ap (laid_out 0) c.as_slice.ensures.value in
    let size : length c.write_numbers.new.numbers ≡ whole_width c.in_ok-ranges.ranges.items = c.write_numbers.auto.numbers ∙ c.as_mut_slice.ensures.len ∙ c.in_ok-numbers.ensures.len ∙ c.in_ok-rows.ensures.total ∙ ap whole_width c.as_slice.ensures.value in
    let room : length c.write_numbers.new.numbers ≡ c.in_ok-numbers.numbers.len = c.write_numbers.auto.numbers ∙ c.as_mut_slice.ensures.len in
    let kept = take_at c.write_numbers.new.numbers (drop (length c.write_numbers.new.numbers) c.in_ok-numbers.numbers.items) c.in_ok-numbers.numbers.len room in
    λ k l.
    let there = rows_there c.in_ok-ranges.ranges.items c.in_ok-rows.rows.items c.args.slots.now is c.in_ok-ranges.ensures k no_slot l in
    let inside = all_inside c.in_ok-ranges.ranges.items c.in_ok-rows.rows.items c.args.slots.now is c.in_ok-ranges.ensures (length c.write_numbers.new.numbers) size k no_slot l in
    (there, rw kept inside, rw kept (rw c.as_slice-2.ensures.value at (c.write_numbers.ensures k l)))
