use Rattle.std.proofs.Common.{◌+◌, List, ap, arith, refl, set, subst, sym, ℕ, ◌∙◌}
use Rattle.std.specs.Prelude.{vec_capacity}
use Rattle.memory_rebuild.specs.declared.word.Word.{Word}
use Rattle.memory_rebuild.specs.Epochs.{AreKept}
use Rattle.memory_rebuild.specs.Words.{bits_left, least, word_at}
use Rattle.memory_rebuild.proofs.Kept.{added, added_word, left_room, other_words, replaced, replaced_word, unwritten_word}
use Rattle.memory_rebuild.proofs.rebuilt.Rebuilt.put_at.Goals as goal

pub invariant_of-self : goal.invariant_of-self
invariant_of-self c =
    replaced c.self.inside.shape c.self.inside.epoch (vec_capacity c.self.inside.written) c.self.inside.words.items c.self.inside.written.items c.args.self.now c.self.invariant c.self.view_is c.args.place c.index.result.now c.requires.place c.index.ensures c.args.value.now c.requires.width c.requires.sign
    c.args.certain c.after.result c.if-word-self.true c.after.ensures.epoch c.after.ensures.value

pub list-requires : goal.list-requires
list-requires c =
    omega (arith, left_room c.self.inside.shape c.self.inside.epoch (vec_capacity c.self.inside.written) c.self.inside.words.items c.self.inside.written.items c.args.self.now c.self.invariant c.self.view_is c.args.place c.index.result.now c.requires.place c.index.ensures c.args.value.now c.requires.width c.requires.sign c.if-word-self.false, c.self.inside.written.ok.0)

pub invariant_of-self-then-certain : goal.invariant_of-self-then-certain
invariant_of-self-then-certain c =
    let x : Word = record { value = c.join.result; epoch = c.self.inside.epoch } in
    subst (λ (ms : List ℕ). AreKept c.self.inside.shape c.self.inside.epoch (set c.self.inside.words.items c.args.place x) ms (vec_capacity c.list.new.written)) (sym c.list.ensures.items)
    (added c.self.inside.shape c.self.inside.epoch (vec_capacity c.self.inside.written) c.self.inside.words.items c.self.inside.written.items c.args.self.now c.self.invariant c.self.view_is c.args.place c.index.result.now c.requires.place c.index.ensures c.args.value.now c.requires.width c.requires.sign x (vec_capacity c.list.new.written) c.if-word-self.false refl c.join.ensures.value c.list.ensures.room)

pub returns-then-word-self-clause-word : goal.returns-then-word-self-clause-word
returns-then-word-self-clause-word c =
    replaced_word c.self.inside.shape c.self.inside.epoch (vec_capacity c.self.inside.written) c.self.inside.words.items c.self.inside.written.items c.args.self.now c.self.invariant c.self.view_is c.args.place c.index.result.now c.requires.place c.index.ensures c.args.value.now c.requires.width c.requires.sign
    c.args.certain c.after.result c.if-word-self.true c.after.ensures.epoch c.after.ensures.value

pub returns-then-word-self-clause-others : goal.returns-then-word-self-clause-others
returns-then-word-self-clause-others c =
    other_words c.self.inside.shape c.self.inside.epoch (vec_capacity c.self.inside.written) c.self.inside.words.items c.self.inside.written.items c.args.self.now c.self.invariant c.self.view_is c.args.place c.index.result.now c.requires.place c.index.ensures c.args.value.now c.requires.width c.requires.sign c.after.result

pub returns-then-certain-clause-word : goal.returns-then-certain-clause-word
returns-then-certain-clause-word c =
    let x : Word = record { value = c.join.result; epoch = c.self.inside.epoch } in
    added_word c.self.inside.shape c.self.inside.epoch (vec_capacity c.self.inside.written) c.self.inside.words.items c.self.inside.written.items c.args.self.now c.self.invariant c.self.view_is c.args.place c.index.result.now c.requires.place c.index.ensures c.args.value.now c.requires.width c.requires.sign x refl c.join.ensures.value
    ∙ sym (ap (λ t. bits_left t c.args.value.now.bits (word_at c.args.self.now (least c.args.self.now.shape + c.args.place))) c.if-certain.true)

pub returns-then-certain-clause-others : goal.returns-then-certain-clause-others
returns-then-certain-clause-others c =
    let x : Word = record { value = c.join.result; epoch = c.self.inside.epoch } in
    other_words c.self.inside.shape c.self.inside.epoch (vec_capacity c.self.inside.written) c.self.inside.words.items c.self.inside.written.items c.args.self.now c.self.invariant c.self.view_is c.args.place c.index.result.now c.requires.place c.index.ensures c.args.value.now c.requires.width c.requires.sign x

pub returns-else-certain-clause-word : goal.returns-else-certain-clause-word
returns-else-certain-clause-word c =
    unwritten_word c.self.inside.shape c.self.inside.epoch (vec_capacity c.self.inside.written) c.self.inside.words.items c.self.inside.written.items c.args.self.now c.self.invariant c.self.view_is c.args.place c.index.result.now c.requires.place c.index.ensures c.args.value.now c.requires.width c.requires.sign c.if-word-self.false
    ∙ sym (ap (λ t. bits_left t c.args.value.now.bits (word_at c.args.self.now (least c.args.self.now.shape + c.args.place))) c.if-certain.false)
