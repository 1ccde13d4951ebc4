use Rattle.std.proofs.Common.{◌≡◌, ◌∙◌, ap, sym, subst, ◌+◌, arith, List}
use Rattle.number_tables.specs.Tables.{AreApart}
use Rattle.number_tables.specs.declared.slot.Slot.{Slot}
use Rattle.cover_marks.specs.Index.{FindsWords}
use Rattle.cover_marks.specs.Slots.{index_slots}
use Rattle.cover_points.proofs.Places.{states_end}
use Rattle.cover_marks.proofs.Numbers.{Numbers, word_slots_apart, words_found, ok_weaker, renumbered}
use Rattle.cover_marks.proofs.tables.word_table.Goals as goal

pub new-requires-clause-apart : goal.new-requires-clause-apart
new-requires-clause-apart c =
    let ps = c.args.points.now in
    let slots : c.as_slice-2.result.now ≡ index_slots ps.words.items = c.as_slice-2.ensures.value ∙ c.in_ok-slots.ensures ∙ ap index_slots c.as_slice.ensures.value in
    subst (λ (xs : List Slot). AreApart xs) (sym slots) (word_slots_apart ps c.requires.apart)

pub returns : goal.returns
returns c =
    let ps = c.args.points.now in
    let slots : c.as_slice-2.result.now ≡ index_slots ps.words.items = c.as_slice-2.ensures.value ∙ c.in_ok-slots.ensures ∙ ap index_slots c.as_slice.ensures.value in
    let first : c.len.result + c.len-2.result + c.len-3.result + c.len-4.result ≡ states_end ps = omega (arith, c.len.ensures, c.len-2.ensures, c.len-3.ensures, c.len-4.ensures) in
    ok_weaker (λ t. Numbers t c.as_slice-2.result.now (c.len.result + c.len-2.result + c.len-3.result + c.len-4.result)) (FindsWords ps) (λ t h. words_found ps c.requires.apart t (renumbered t c.as_slice-2.result.now (index_slots ps.words.items) (c.len.result + c.len-2.result + c.len-3.result + c.len-4.result) (states_end ps) slots first h)) c.new.result c.new.ensures
