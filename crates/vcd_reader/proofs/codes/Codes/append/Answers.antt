use Rattle.std.proofs.Common.{◌≡◌, ◌∙◌, sym, ap, ℕ, List, [], ◌∷◌, ◌++◌, ◌+◌, Some, bytes_eq, cond, Option, length}
use Rattle.std.specs.Global.{Vec}
use Rattle.std.proofs.lemmas.List.{length-append}
use Rattle.vcd_reader.specs.Codes.{Code}
use Rattle.vcd_reader.specs.CodeViews.{codes_in, with_text}
use Rattle.vcd_reader.specs.Places.{place_in, place_of}
use Rattle.vcd_reader.specs.declared.codes.Code.{Code as CodeRow}
use Rattle.vcd_reader.proofs.CodeLemmas.{codes_in-push, place_of-push}
use Rattle.vcd_reader.proofs.codes.Codes.append.Goals as goal
use Rattle.vcd_reader.proofs.codes.Codes.append.Goals.{In_ok-push-2}

texts_are : (c : In_ok-push-2) → c.push.new.self.items ≡ c.self.inside.texts.items ++ c.in_ok-text.text ∷ []
texts_are c = c.in_ok-push.ensures.items ∙ ap (λ (texts : List (Vec ℕ)). texts ++ c.in_ok-text.text ∷ []) c.reserve.ensures.items

codes_are : (c : In_ok-push-2) → c.push-2.new.self.items ≡ c.self.inside.codes.items ++ c.args.code ∷ []
codes_are c = c.in_ok-push-2.ensures.items ∙ ap (λ (codes : List CodeRow). codes ++ c.args.code ∷ []) c.reserve-2.ensures.items

-- the codes with the new one
all_are : (c : In_ok-push-2) → codes_in c.push.new.self.items c.push-2.new.self.items ≡ c.args.self.now ++ with_text c.args.bytes.now c.args.code ∷ []
all_are c =
    ap (λ (texts : List (Vec ℕ)). codes_in texts c.push-2.new.self.items) (texts_are c)
    ∙ ap (λ (codes : List CodeRow). codes_in (c.self.inside.texts.items ++ c.in_ok-text.text ∷ []) codes) (codes_are c)
    ∙ codes_in-push c.self.inside.texts.items c.self.inside.codes.items c.in_ok-text.text c.args.code c.self.invariant.0
    ∙ ap (λ (codes : List Code). codes ++ with_text c.in_ok-text.text.items c.args.code ∷ []) c.self.view_is
    ∙ ap (λ (bytes : List ℕ). c.args.self.now ++ with_text bytes c.args.code ∷ []) c.in_ok-text.ensures.items

pub invariant_of-self-2 : goal.invariant_of-self-2
invariant_of-self-2 c =
    let at = (goal.at.invariant_of-self-2 c).In_ok-push-2 in (
      ap length (texts_are at) ∙ length-append c.self.inside.texts.items (c.in_ok-text.text ∷ []) ∙ ap (λ (n : ℕ). n + 1) c.self.invariant.0 ∙ sym (length-append c.self.inside.codes.items (c.args.code ∷ [])) ∙ sym (ap length (codes_are at)),
      λ text.
          let before : place_in c.self.inside.places text ≡ place_of c.args.self.now text = c.self.invariant.1 text ∙ ap (λ (codes : List Code). place_of codes text) c.self.view_is in
          c.in_ok-set.ensures.set text
          ∙ ap (λ (found : Option ℕ). cond (bytes_eq text c.args.bytes.now) (Some c.next_number-place.result) found) before
          ∙ ap (λ (count : ℕ). cond (bytes_eq text c.args.bytes.now) (Some count) (place_of c.args.self.now text)) c.next_number-place.ensures
          ∙ sym (place_of-push c.args.self.now (with_text c.args.bytes.now c.args.code) c.requires.absent text)
          ∙ ap (λ (codes : List Code). place_of codes text) (sym (all_are at)),
    )

pub returns : goal.returns
returns c = all_are (goal.at.returns c).In_ok-push-2
