-- The identifier codes of a dump's variables (IEEE 1364-2001 clause 18.2.1), numbered by first appearance.
use Rattle.std.specs.Prelude.{ℕ, Bool, ◌||◌, bytes_eq, if◌then◌else◌, List, [], ◌∷◌, length, codes, Option, Some, None}

-- a code: its number, the size of its variables in bits, and whether one of them has a kind that is read
pub record Code : Type 0 where
  pub text : List ℕ
  pub number : ℕ
  pub size : ℕ
  pub is_read : Bool

-- the code of these bytes
abbrev pub code_of : List Code → List ℕ → Option Code
code_of [] text = None
code_of (code ∷ codes) text = if bytes_eq text code.text then Some code else code_of codes text

-- the codes with one in the place of that of the same bytes, or at their end
abbrev pub entered : List Code → Code → List Code
entered [] new = new ∷ []
entered (code ∷ codes) new =
    if bytes_eq new.text code.text then record { text = code.text; number = new.number; size = new.size; is_read = new.is_read } ∷ codes else code ∷ entered codes new

-- a code of one variable more
abbrev pub declared_code : ℕ → List ℕ → ℕ → Bool → Option Code → Code
declared_code number text size is_read None = record { text = text; number = number; size = size; is_read = is_read }
declared_code number text size is_read (Some code) = record { text = text; number = code.number; size = code.size; is_read = code.is_read || is_read }

-- the codes with one variable more
abbrev pub with_code : List Code → List ℕ → ℕ → Bool → List Code
with_code codes text size is_read = entered codes (declared_code (length codes) text size is_read (code_of codes text))

-- variables of these kinds are not read
abbrev pub is_unread_kind : List ℕ → Bool
is_unread_kind kind =
    bytes_eq kind (codes "real") || bytes_eq kind (codes "realtime") || bytes_eq kind (codes "event") || bytes_eq kind (codes "string") || bytes_eq kind (codes "parameter")
