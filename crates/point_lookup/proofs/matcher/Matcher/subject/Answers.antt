use Rattle.std.proofs.Common.{◌≡◌, ◌∷◌, ◌++◌, Some}
use Rattle.std.specs.Prelude.{decimal}
use Rattle.coverage_db.specs.Text.{place_text, index_text, rise_text, write_text}
use Rattle.point_words.specs.Words.{line_word_text, operator_text, node_case_text}
use Rattle.point_lookup.specs.Matching.{left_of}
use Rattle.point_lookup.proofs.Matched.{after_two, after_field, after_named}
use Rattle.point_lookup.proofs.matcher.Matcher.subject.Goals as goal

pub returns-in-Line : goal.returns-in-Line
returns-in-Line c =
    let word : c.as_bytes.result.now ≡ line_word_text c.in-Line.word = cc (c.as_bytes.ensures.value, c.text.ensures) in
    let last = after_field c.as_bytes.result.now (line_word_text c.in-Line.word) (left_of c.place.new.self.left) (left_of c.field.new.self.left) word c.field.ensures in
    let part-1 = after_two (decimal c.in-Line.number) (32 ∷ place_text c.in-Line.at) (left_of c.args.self.now.left) (left_of c.number.new.self.left) (left_of c.place.new.self.left) c.number.ensures c.place.ensures in
    let part-2 = after_two (decimal c.in-Line.number ++ 32 ∷ place_text c.in-Line.at) (32 ∷ line_word_text c.in-Line.word) (left_of c.args.self.now.left) (left_of c.place.new.self.left) (left_of c.field.new.self.left) part-1 last in
    rw c.in-Line.is part-2

pub returns-in-Logic : goal.returns-in-Logic
returns-in-Logic c =
    let op-is : c.as_bytes-in-Logic.result.now ≡ operator_text c.in-Logic.operator = cc (c.as_bytes-in-Logic.ensures.value, c.text-in-Logic.ensures) in
    let case-is : c.as_bytes-in-Logic-2.result.now ≡ node_case_text c.in-Logic.case = cc (c.as_bytes-in-Logic-2.ensures.value, c.text-in-Logic-2.ensures) in
    let operator = after_field c.as_bytes-in-Logic.result.now (operator_text c.in-Logic.operator) (left_of c.place-in-Logic.new.self.left) (left_of c.field-in-Logic.new.self.left) op-is c.field-in-Logic.ensures in
    let truths = after_field c.as_bytes-in-Logic-2.result.now (node_case_text c.in-Logic.case) (left_of c.field-in-Logic.new.self.left) (left_of c.field-in-Logic-2.new.self.left) case-is c.field-in-Logic-2.ensures in
    let part-1 = after_two (decimal c.in-Logic.number) (32 ∷ place_text c.in-Logic.at) (left_of c.args.self.now.left) (left_of c.number-in-Logic.new.self.left) (left_of c.place-in-Logic.new.self.left) c.number-in-Logic.ensures c.place-in-Logic.ensures in
    let part-2 = after_two (decimal c.in-Logic.number ++ 32 ∷ place_text c.in-Logic.at) (32 ∷ operator_text c.in-Logic.operator) (left_of c.args.self.now.left) (left_of c.place-in-Logic.new.self.left) (left_of c.field-in-Logic.new.self.left) part-1 operator in
    let part-3 = after_two (decimal c.in-Logic.number ++ 32 ∷ place_text c.in-Logic.at ++ 32 ∷ operator_text c.in-Logic.operator) (32 ∷ node_case_text c.in-Logic.case) (left_of c.args.self.now.left) (left_of c.field-in-Logic.new.self.left) (left_of c.field-in-Logic-2.new.self.left) part-2 truths in
    rw c.in-Logic.is part-3

pub returns-in-Toggle : goal.returns-in-Toggle
returns-in-Toggle c =
    let named = after_named c.as_slice.result.now c.in-Toggle.name (left_of c.args.self.now.left) (left_of c.bytes.new.self.left) c.as_slice.ensures c.bytes.ensures in
    let part-1 = after_two (c.in-Toggle.name) (32 ∷ index_text c.in-Toggle.index) (left_of c.args.self.now.left) (left_of c.bytes.new.self.left) (left_of c.index.new.self.left) named c.index.ensures in
    let part-2 = after_two (c.in-Toggle.name ++ 32 ∷ index_text c.in-Toggle.index) (32 ∷ rise_text c.in-Toggle.rise) (left_of c.args.self.now.left) (left_of c.index.new.self.left) (left_of c.rise.new.self.left) part-1 c.rise.ensures in
    rw c.in-Toggle.is part-2

pub returns-in-State : goal.returns-in-State
returns-in-State c =
    let named = after_named c.as_slice-in-State.result.now c.in-State.name (left_of c.args.self.now.left) (left_of c.bytes-in-State.new.self.left) c.as_slice-in-State.ensures c.bytes-in-State.ensures in
    let state = after_field c.as_slice-in-State-2.result.now c.in-State.state (left_of c.bytes-in-State.new.self.left) (left_of c.field-in-State.new.self.left) c.as_slice-in-State-2.ensures c.field-in-State.ensures in
    let part-1 = after_two (c.in-State.name) (32 ∷ c.in-State.state) (left_of c.args.self.now.left) (left_of c.bytes-in-State.new.self.left) (left_of c.field-in-State.new.self.left) named state in
    rw c.in-State.is part-1

pub returns-in-Arc : goal.returns-in-Arc
returns-in-Arc c =
    let named = after_named c.as_slice-in-Arc.result.now c.in-Arc.name (left_of c.args.self.now.left) (left_of c.bytes-in-Arc.new.self.left) c.as_slice-in-Arc.ensures c.bytes-in-Arc.ensures in
    let from = after_field c.as_slice-in-Arc-2.result.now c.in-Arc.from (left_of c.bytes-in-Arc.new.self.left) (left_of c.field-in-Arc.new.self.left) c.as_slice-in-Arc-2.ensures c.field-in-Arc.ensures in
    let target = after_field c.as_slice-in-Arc-3.result.now c.in-Arc.to (left_of c.field-in-Arc.new.self.left) (left_of c.field-in-Arc-2.new.self.left) c.as_slice-in-Arc-3.ensures c.field-in-Arc-2.ensures in
    let part-1 = after_two (c.in-Arc.name) (32 ∷ c.in-Arc.from) (left_of c.args.self.now.left) (left_of c.bytes-in-Arc.new.self.left) (left_of c.field-in-Arc.new.self.left) named from in
    let part-2 = after_two (c.in-Arc.name ++ 32 ∷ c.in-Arc.from) (32 ∷ c.in-Arc.to) (left_of c.args.self.now.left) (left_of c.field-in-Arc.new.self.left) (left_of c.field-in-Arc-2.new.self.left) part-1 target in
    rw c.in-Arc.is part-2

pub returns-in-Word : goal.returns-in-Word
returns-in-Word c =
    let named = after_named c.as_slice-in-Word.result.now c.in-Word.name (left_of c.args.self.now.left) (left_of c.bytes-in-Word.new.self.left) c.as_slice-in-Word.ensures c.bytes-in-Word.ensures in
    let part-1 = after_two (c.in-Word.name) (32 ∷ index_text (Some c.in-Word.index)) (left_of c.args.self.now.left) (left_of c.bytes-in-Word.new.self.left) (left_of c.index-in-Word.new.self.left) named c.index-in-Word.ensures in
    let part-2 = after_two (c.in-Word.name ++ 32 ∷ index_text (Some c.in-Word.index)) (32 ∷ write_text c.in-Word.write) (left_of c.args.self.now.left) (left_of c.index-in-Word.new.self.left) (left_of c.write.new.self.left) part-1 c.write.ensures in
    rw c.in-Word.is part-2
