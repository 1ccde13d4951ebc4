-- Parts of texts.
use Rattle.std.proofs.Common.{◌≡◌, ◌∙◌, ℕ, List, [], ◌++◌, take, drop, refl, sym, ap}
use Rattle.std.proofs.lemmas.List.{take-append-drop, append-nil, append_assoc}
use Rattle.verilog_lexer.specs.TokenTexts.{IsPartOf}

regrouped : (a b c d e : List ℕ) → a ++ (b ++ c ++ d) ++ e ≡ (a ++ b) ++ c ++ (d ++ e)
regrouped a b c d e = rw (append_assoc, append_assoc, append_assoc, append_assoc, append_assoc) refl

-- a text is a part of itself
pub IsPartOf-whole : (text : List ℕ) → IsPartOf text text
IsPartOf-whole text = record { before = []; behind = []; is = sym (append-nil text) }

-- a part of a part is a part
pub IsPartOf-trans : (text part less : List ℕ) → IsPartOf text part → IsPartOf part less → IsPartOf text less
IsPartOf-trans text part less outer inner = record {
  before = outer.before ++ inner.before;
  behind = inner.behind ++ outer.behind;
  is =
      outer.is ∙ ap (λ bytes. outer.before ++ bytes ++ outer.behind) inner.is
      ∙ regrouped outer.before inner.before less inner.behind outer.behind;
}

-- the first bytes are a part, and so are those after them
pub IsPartOf-take : (n : ℕ) (text : List ℕ) → IsPartOf text (take n text)
IsPartOf-take n text = record { before = []; behind = drop n text; is = sym (take-append-drop n text) }

pub IsPartOf-drop : (n : ℕ) (text : List ℕ) → IsPartOf text (drop n text)
IsPartOf-drop n text = record { before = take n text; behind = []; is = sym (append-nil (take n text ++ drop n text) ∙ take-append-drop n text) }
