-- One byte more of a text that is gone through from left to right.
use Rattle.std.proofs.Common.{◌≡◌, ◌<◌, ◌+◌, ℕ, Bool, cond, List, None, Some, length, get_or, drop, drop-cons, add-one, refl, ◌&&◌, ◌==◌}
use Rattle.verilog_lexer.specs.Run.{through_pair, closes, takes_next, through_quote}

pub through_pair-drop : (first second : ℕ) (text : List ℕ) (i : ℕ) → i < length text →
    through_pair first second i (drop i text) ≡ cond (get_or text i 0 == first && get_or (drop (i + 1) text) 0 0 == second) (Some (i + 2)) (through_pair first second (i + 1) (drop (i + 1) text))
through_pair-drop first second text i within = rw (drop-cons text i 0 within, add-one i) refl

pub through_quote-drop : (text : List ℕ) (i : ℕ) (taken : Bool) → i < length text →
    through_quote i taken (drop i text) ≡ cond (get_or text i 0 == 10) None (cond (closes (get_or text i 0) taken) (Some (i + 1)) (through_quote (i + 1) (takes_next (get_or text i 0) taken) (drop (i + 1) text)))
through_quote-drop text i taken within = rw (drop-cons text i 0 within, add-one i) refl

pub ruleset texts = (through_pair-drop, through_quote-drop)
