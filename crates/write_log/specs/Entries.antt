-- What the entries of a log say of the values of signals.
use Rattle.std.specs.Prelude.{◌≡◌, ◌⊎◌, ◌<◌, ◌==◌, ◌||◌, ℕ, Bool, true, false, if◌then◌else◌, List, [], ◌∷◌, ◌++◌, length}
use Rattle.known_state.specs.Partly.{Partly, blame_of}
use Rattle.known_state.specs.Join.{joined}
use Rattle.value_store.specs.Signals.{HasShape, SameUnder, Signals, read_at, shape_at}
use Rattle.write_log.specs.declared.entry.Overwritten.{Overwritten}

-- the value of the first entry of the signal, or else this one
abbrev pub first_value : List Overwritten → ℕ → Partly → Partly
first_value [] x q = q
first_value (e ∷ es) x q = if e.signal == x then e.value else first_value es x q

-- an entry is of the signal
abbrev pub names : List Overwritten → ℕ → Bool
names [] x = false
names (e ∷ es) x = (e.signal == x) || names es x

-- the number is in the list
abbrev pub has : List ℕ → ℕ → Bool
has [] x = false
has (y ∷ ys) x = (y == x) || has ys x

-- the entry is of a signal of the store, with a value of its shape
pub record Fits (v : Signals) (e : Overwritten) : Type 0 where
  pub inside : e.signal < length v.kept
  pub shape : HasShape (shape_at v e.signal) e.value

-- undoing the entries, the last first, leads from what bodies read of the signals to what they read of the earlier ones
abbrev pub Undoes : List Overwritten → Signals → Signals → Type 0
Undoes es now earlier = (x : ℕ) → first_value es x (read_at now x) ≡ read_at earlier x

-- entries were taken from the end of one list and undone, and as many added to the other one, which undo that
pub record Moved (from to : List Overwritten) (v : Signals) (from' to' : List Overwritten) (v' : Signals) : Type 0 where
  pub gone : List Overwritten
  pub came : List Overwritten
  pub taken : from ≡ from' ++ gone
  pub added : to' ≡ to ++ came
  pub forth : Undoes gone v v'
  pub back : Undoes came v' v
  pub named : (x : ℕ) → names came x ≡ names gone x
  pub under : SameUnder v v'

-- what two ways leave of a signal, except its sign flag: the value that both have, or what they have in common, blamed on the test
abbrev pub IsCommon : ℕ → Partly → Partly → Partly → Type 0
IsCommon test a b q =
    ((a.bits ≡ b.bits) × (a.blame ≡ b.blame) × (q.bits ≡ a.bits) × (q.blame ≡ a.blame))
    ⊎ ((a.bits ≡ b.bits → a.blame ≡ b.blame → ⊥) × (q.bits ≡ joined a.bits b.bits) × (q.blame ≡ blame_of q.bits test))

-- those that were seen, and the signals of the entries, are seen
abbrev pub Seen : List Overwritten → List ℕ → List ℕ → Type 0
Seen es before after = (x : ℕ) → has after x ≡ (has before x || names es x)

-- what was read of each signal that was not seen is joined with the value of its first entry, and the others are left
pub record Joined (test : ℕ) (es : List Overwritten) (seen : List ℕ) (v v' : Signals) : Type 0 where
  pub seen_before : (x : ℕ) → has seen x ≡ true → read_at v' x ≡ read_at v x
  pub unnamed : (x : ℕ) → names es x ≡ false → read_at v' x ≡ read_at v x
  pub joined : (x : ℕ) → has seen x ≡ false → names es x ≡ true → IsCommon test (first_value es x (read_at v x)) (read_at v x) (read_at v' x)
