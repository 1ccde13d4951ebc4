use Rattle.std.proofs.Common.{◌≡◌, ◌∙◌, sym, ap, ◌<◌, ◌≤◌, arith, List, length, slice_index_or, None, Some, option_map}
use Rattle.std.proofs.lemmas.Bool.{ltb-false}
use Rattle.vcd_reader.specs.CodeViews.{without_text, codes_in}
use Rattle.vcd_reader.specs.Places.{place_of}
use Rattle.vcd_reader.specs.declared.codes.Code.{Code as CodeRow}
use Rattle.vcd_reader.proofs.CodeLemmas.{code_of-none, code_of-at, place_of-within}
use Rattle.vcd_reader.proofs.codes.Codes.find.Goals as goal

pub returns-in_err-place : goal.returns-in_err-place
returns-in_err-place c =
    let none : place_of (codes_in c.self.inside.texts.items c.self.inside.codes.items) c.args.bytes.now ≡ None = sym (c.self.invariant.1 c.args.bytes.now) ∙ sym c.get.ensures ∙ c.in_err-place.was in
    rw (← c.self.view_is) (c.from_residual.ensures ∙ sym (ap (option_map without_text) (code_of-none (codes_in c.self.inside.texts.items c.self.inside.codes.items) c.args.bytes.now none)))

pub returns-in_err-code : goal.returns-in_err-code
returns-in_err-code c =
    let place : place_of (codes_in c.self.inside.texts.items c.self.inside.codes.items) c.args.bytes.now ≡ Some c.in_ok-place.place = sym (c.self.invariant.1 c.args.bytes.now) ∙ sym c.in_ok-place.ensures in
    let within : c.in_ok-place.place < length c.self.inside.codes.items = place_of-within c.self.inside.texts.items c.self.inside.codes.items c.args.bytes.now c.in_ok-place.place place in
    let out : length c.deref.result.now ≤ c.in_ok-place.place = ltb-false _ _ (sym c.in_err-code.ensures.lookup.0) in
    let same : length c.deref.result.now ≡ length c.self.inside.codes.items = ap length c.deref.ensures.value in
    absurd (omega arith)

pub returns : goal.returns
returns c =
    let place : place_of (codes_in c.self.inside.texts.items c.self.inside.codes.items) c.args.bytes.now ≡ Some c.in_ok-place.place = sym (c.self.invariant.1 c.args.bytes.now) ∙ sym c.in_ok-place.ensures in
    let code : c.in_ok-code.code.now ≡ slice_index_or c.self.inside.codes.items c.in_ok-place.place c.in_ok-code.code.now =
    c.in_ok-code.ensures.lookup.1 ∙ ap (λ (codes : List CodeRow). slice_index_or codes c.in_ok-place.place c.in_ok-code.code.now) c.deref.ensures.value in
    rw (← c.self.view_is) (ap (λ (code : CodeRow). Some code) code ∙ sym (code_of-at c.self.inside.texts.items c.self.inside.codes.items c.args.bytes.now c.in_ok-place.place c.in_ok-code.code.now place))
