-- Questions about partly known vectors: what the answers mean.
use Rattle.std.specs.Prelude.{◌≡◌, ◌≢◌, ℕ, Bool, true, false, ◌&&◌, IsTrue}
use Rattle.four_state.specs.declared.truth.Truth.{Truth}
use Rattle.four_state.specs.declared.truth.Truth.TheVariants.{True, False, Strange}
use Rattle.four_state.specs.declared.operator.CaseKind.{CaseKind}
use Rattle.four_state.specs.Vector.{Vector, truth}
use Rattle.four_state.specs.Operators.{matches}
use Rattle.known_state.specs.declared.maybe.Maybe.{Maybe}
use Rattle.known_state.specs.declared.maybe.Maybe.TheVariants as maybe
use Rattle.known_state.specs.declared.maybe.KnownTruth.{KnownTruth}
use Rattle.known_state.specs.declared.maybe.KnownTruth.TheVariants as known
use Rattle.known_state.specs.Partly.{Partly, allows}
use Rattle.known_state.specs.Join.{first_blame}

-- one allowed vector is true and another one is not, and this thing is to blame
pub record IsUndecided (k : Partly) (thing : ℕ) : Type 0 where
  pub one : Vector
  pub other : Vector
  pub one_allowed : IsTrue (allows k one)
  pub other_allowed : IsTrue (allows k other)
  pub is_true : truth one.bits ≡ True
  pub is_not : truth other.bits ≢ True
  pub blamed : thing ≡ k.blame

-- the truth of all allowed vectors, or else they differ
abbrev pub IsTruthOf : Partly → KnownTruth → Type 0
IsTruthOf k (known.Sure t) = (v : Vector) → IsTrue (allows k v) → truth v.bits ≡ t
IsTruthOf k (known.Unsure thing) = IsUndecided k thing

-- whether all allowed vectors are true, or none, or else they differ
abbrev pub Holds : Partly → Maybe → Type 0
Holds k maybe.Yes = (v : Vector) → IsTrue (allows k v) → truth v.bits ≡ True
Holds k maybe.No = (v : Vector) → IsTrue (allows k v) → truth v.bits ≢ True
Holds k (maybe.Unsure thing) = IsUndecided k thing

-- one allowed pair matches and another one does not, and the first operand that is not whole is to blame
pub record IsUndecidedMatch (kind : CaseKind) (a b : Partly) (thing : ℕ) : Type 0 where
  pub left : Vector
  pub right : Vector
  pub left_allowed : IsTrue (allows a left)
  pub right_allowed : IsTrue (allows b right)
  pub match : matches kind left.bits right.bits ≡ true
  pub other_left : Vector
  pub other_right : Vector
  pub other_left_allowed : IsTrue (allows a other_left)
  pub other_right_allowed : IsTrue (allows b other_right)
  pub differ : matches kind other_left.bits other_right.bits ≡ false
  pub blamed : thing ≡ first_blame a b

-- whether all allowed pairs match, or none, or else they differ
abbrev pub Matches : CaseKind → Partly → Partly → Maybe → Type 0
Matches kind a b maybe.Yes = (v w : Vector) → IsTrue (allows a v) → IsTrue (allows b w) → matches kind v.bits w.bits ≡ true
Matches kind a b maybe.No = (v w : Vector) → IsTrue (allows a v) → IsTrue (allows b w) → matches kind v.bits w.bits ≡ false
Matches kind a b (maybe.Unsure thing) = IsUndecidedMatch kind a b thing

abbrev pub same_truth : Truth → Truth → Bool
same_truth True True = true
same_truth False False = true
same_truth Strange Strange = true
same_truth _ _ = false

-- a truth that is sure allows itself alone
abbrev pub allows_truth : KnownTruth → Truth → Bool
allows_truth (known.Sure t) u = same_truth t u
allows_truth (known.Unsure thing) u = true

-- whether a truth and two vectors are allowed
abbrev pub allow_choice : KnownTruth → Partly → Partly → Truth × Vector × Vector → Bool
allow_choice c a b p = allows_truth c p.0 && (allows a p.1 && allows b p.2)

-- the blame of a choice that is not whole: of the condition, of the side that is chosen, or of the first side
abbrev pub choice_blame : KnownTruth → Partly → Partly → ℕ
choice_blame (known.Unsure thing) a b = thing
choice_blame (known.Sure True) a b = a.blame
choice_blame (known.Sure False) a b = b.blame
choice_blame (known.Sure Strange) a b = first_blame a b
