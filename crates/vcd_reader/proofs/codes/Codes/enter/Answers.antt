use Rattle.std.proofs.Common.{◌≡◌, ◌∙◌, sym, ap, List, Some, None}
use Rattle.std.proofs.lemmas.Result.{on_ok_weaker}
use Rattle.vcd_reader.specs.Codes.{Code, entered}
use Rattle.vcd_reader.specs.CodeViews.{codes_in, with_text}
use Rattle.vcd_reader.specs.Places.{place_of}
use Rattle.vcd_reader.proofs.CodeLemmas.{entered-new, place_of-entered, place_of-within}
use Rattle.vcd_reader.proofs.codes.Codes.enter.Goals as goal

pub replace-requires : goal.replace-requires
replace-requires c = place_of-within c.self.inside.texts.items c.self.inside.codes.items c.args.bytes.now c.in-Some.place (sym (c.self.invariant.1 c.args.bytes.now) ∙ sym c.in-Some.ensures)

pub invariant_of-self : goal.invariant_of-self
invariant_of-self c = (
  c.self.invariant.0 ∙ sym c.replace.ensures.len,
  λ text.
      let place : place_of (codes_in c.self.inside.texts.items c.self.inside.codes.items) c.args.bytes.now ≡ Some c.in-Some.place = sym (c.self.invariant.1 c.args.bytes.now) ∙ sym c.in-Some.ensures in
      let new : codes_in c.self.inside.texts.items c.replace.new.codes.items ≡ entered (codes_in c.self.inside.texts.items c.self.inside.codes.items) (with_text c.args.bytes.now c.args.code) = c.replace.ensures.codes c.self.inside.texts.items c.args.bytes.now place in
      c.self.invariant.1 text ∙ sym (place_of-entered (codes_in c.self.inside.texts.items c.self.inside.codes.items) (with_text c.args.bytes.now c.args.code) c.in-Some.place place text) ∙ ap (λ (codes : List Code). place_of codes text) (sym new),
)

pub returns-in-Some : goal.returns-in-Some
returns-in-Some c =
    let place : place_of (codes_in c.self.inside.texts.items c.self.inside.codes.items) c.args.bytes.now ≡ Some c.in-Some.place = sym (c.self.invariant.1 c.args.bytes.now) ∙ sym c.in-Some.ensures in
    rw (← c.self.view_is) (c.replace.ensures.codes c.self.inside.texts.items c.args.bytes.now place)

pub returns-in-None : goal.returns-in-None
returns-in-None c =
    let none : place_of c.args.self.now c.args.bytes.now ≡ None = ap (λ (codes : List Code). place_of codes c.args.bytes.now) (sym c.self.view_is) ∙ sym (c.self.invariant.1 c.args.bytes.now) ∙ sym c.get.ensures ∙ c.in-None.is in
    on_ok_weaker c.append.result (λ added. added ∙ sym (entered-new c.args.self.now (with_text c.args.bytes.now c.args.code) none)) c.append.ensures
