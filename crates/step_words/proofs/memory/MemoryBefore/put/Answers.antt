use Rattle.std.proofs.Common.{◌≡◌, ◌+◌, ◌-◌, ◌≤◌, ap, arith, length, length-set, set, sym, ◌∙◌}
use Rattle.std.proofs.lemmas.List.{length-map}
use Rattle.known_state.specs.Partly.{Partly}
use Rattle.step_words.specs.Changes.{count_unsure, word_in}
use Rattle.step_words.proofs.Counts.{count_one, count_set, count_within, unsure}
use Rattle.step_words.proofs.Lists.{map_set}
use Rattle.step_words.proofs.memory.MemoryBefore.put.Goals as goal

pub overflow_sub-self : goal.overflow_sub-self
overflow_sub-self c =
    let ws = c.args.self.now in
    let q = c.args.place in
    let one : unsure (word_in ws q) ≤ count_unsure ws = count_one ws q c.requires.place in
    let is : c.unsure_count.result ≡ unsure (word_in ws q) = c.unsure_count.ensures ∙ ap unsure c.requires.old in
    let all : c.self.inside.unsure ≡ count_unsure ws = c.self.invariant.0 ∙ ap count_unsure c.self.view_is in
    omega (arith, one, is, all)

pub overflow_add-self : goal.overflow_add-self
overflow_add-self c =
    let ws = c.args.self.now in
    let q = c.args.place in
    let new = c.args.now.now.bits in
    let one : unsure (word_in ws q) ≤ count_unsure ws = count_one ws q c.requires.place in
    let is : c.unsure_count.result ≡ unsure (word_in ws q) = c.unsure_count.ensures ∙ ap unsure c.requires.old in
    let by : c.unsure_count-2.result ≡ unsure new = c.unsure_count-2.ensures in
    let all : c.self.inside.unsure ≡ count_unsure ws = c.self.invariant.0 ∙ ap count_unsure c.self.view_is in
    let counted : count_unsure (set ws q new) + unsure (word_in ws q) ≡ count_unsure ws + unsure new = count_set ws q new c.requires.place in
    let few : count_unsure (set ws q new) ≤ length (set ws q new) = count_within (set ws q new) in
    let size : length (set ws q new) ≡ length ws = length-set ws q new in
    let many : length ws ≡ length c.self.inside.words.items = sym (ap length c.self.view_is) ∙ length-map c.self.inside.words.items (λ (w : Partly). w.bits) in
    let most = c.self.invariant.1 in
    omega (arith, one, is, by, all, counted, few, size, many, most)

pub invariant_of-self : goal.invariant_of-self
invariant_of-self c =
    let ws = c.args.self.now in
    let items = c.self.inside.words.items in
    let q = c.args.place in
    let new = c.args.now.now.bits in
    let is : c.unsure_count.result ≡ unsure (word_in ws q) = c.unsure_count.ensures ∙ ap unsure c.requires.old in
    let by : c.unsure_count-2.result ≡ unsure new = c.unsure_count-2.ensures in
    let one : unsure (word_in ws q) ≤ count_unsure ws = count_one ws q c.requires.place in
    let all : c.self.inside.unsure ≡ count_unsure ws = c.self.invariant.0 ∙ ap count_unsure c.self.view_is in
    let counted : count_unsure (set ws q new) + unsure (word_in ws q) ≡ count_unsure ws + unsure new = count_set ws q new c.requires.place in
    let count : c.self.inside.unsure - c.unsure_count.result + c.unsure_count-2.result ≡ count_unsure (set ws q new) = omega (arith, one, is, by, all, counted) in
    let size : length (set items q c.args.now.now) ≡ length items = length-set items q c.args.now.now in
    let most = c.self.invariant.1 in (
      count ∙ sym (ap count_unsure (map_set (λ (w : Partly). w.bits) items q c.args.now.now ∙ ap (λ vs. set vs q new) c.self.view_is)),
      omega (arith, size, most),
    )

pub returns : goal.returns
returns c = map_set (λ (w : Partly). w.bits) c.self.inside.words.items c.args.place c.args.now.now ∙ ap (λ vs. set vs c.args.place c.args.now.now.bits) c.self.view_is
