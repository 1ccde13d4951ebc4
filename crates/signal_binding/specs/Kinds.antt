-- The kinds of variables that hold no value of a signal.
use Rattle.std.specs.Prelude.{ℕ, Bool, not, List, [], ◌∷◌, codes}
use Rattle.std.specs.List.{list_any}
use Rattle.std.specs.Str.{bytes_eq}

-- the kinds that hold no value of a signal (IEEE 1364-2001 clause 18.2.3.8, and strings, which some simulators write)
abbrev pub unread_kinds : List (List ℕ)
unread_kinds = codes "real" ∷ codes "realtime" ∷ codes "event" ∷ codes "string" ∷ codes "parameter" ∷ []

-- the kind holds a value of a signal
abbrev pub holds_value : List ℕ → Bool
holds_value kind = not (list_any (λ unread. bytes_eq unread kind) unread_kinds)
