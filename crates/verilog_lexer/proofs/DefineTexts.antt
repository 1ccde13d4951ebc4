-- One byte more of a macro's text.
use Rattle.std.proofs.Common.{◌≡◌, ◌<◌, ◌+◌, ℕ, List, Some, length, get_or, drop, drop-cons, add-one, add-zero, refl, sym, ap, ◌∙◌}
use Rattle.std.proofs.lemmas.List.{get_or-drop}
use Rattle.std.specs.Option.{option_map_or}
use Rattle.verilog_lexer.specs.DefineText.{turn, text_length}
use Rattle.verilog_lexer.specs.declared.define_text.Standing.{Standing}

pub text_length-drop : (text : List ℕ) (i : ℕ) (state : Standing) → i < length text →
    text_length i state (drop i text) ≡ option_map_or (λ next. text_length (i + 1) next (drop (i + 1) text)) (turn state (get_or text i 0) (get_or text (i + 1) 0)) i
text_length-drop text i state within =
    let next : get_or text (i + 1) 0 ≡ get_or (drop (i + 1) text) 0 0 = rw (get_or-drop (i + 1) text 0 0, add-zero) refl in
    rw next (rw (drop-cons text i 0 within, add-one i) refl)

-- the text goes on with the byte
pub text_length_more : (text : List ℕ) (i : ℕ) (state next : Standing) → i < length text → Some next ≡ turn state (get_or text i 0) (get_or text (i + 1) 0) →
    text_length i state (drop i text) ≡ text_length (i + 1) next (drop (i + 1) text)
text_length_more text i state next within goes = text_length-drop text i state within ∙ ap (λ turned. option_map_or (λ then_. text_length (i + 1) then_ (drop (i + 1) text)) turned i) (sym goes)

pub ruleset define_texts = (text_length-drop)
