-- What a dump says whose body begins with these entries, whatever comes after them.
use Rattle.std.specs.Prelude.{◌≡◌, ◌<◌, ◌≤◌, ◌++◌, ℕ, true, false, List, [], ◌∷◌, length, map, Option, Some, None}
use Rattle.four_state.specs.Vector.{Vector}
use Rattle.design_model.specs.Design.{Design as Tree, signal_bits}
use Rattle.design_model.specs.Run.{Run}
use Rattle.design_model.specs.Shows.{AreStretches, BoundDump, IsFirst, IsListed, IsShown, IsWindow, ShowsUpTo}
use Rattle.design_model.specs.View.{design_view}
use Rattle.design_model.specs.declared.design.Design.{Design}
use Rattle.hidden_times.specs.Hidden.{IsAnyDumpOf}
use Rattle.vcd_reader.specs.Dump.{later_stretches, steps_of, stretches_of, times_of, value_at}
use Rattle.vcd_reader.specs.Order.{is_on}
use Rattle.vcd_reader.specs.Times.{Rises, last_time}
use Rattle.vcd_reader.specs.declared.entry.Entry.{Entry}
use Rattle.vcd_reader.specs.declared.entry.Entry.TheVariants.{Off, Time}
use Rattle.vcd_reader.specs.declared.vars.Var.{Var}
use Rattle.entry_laws.specs.Entries.{AreEntries}
use Rattle.signal_binding.specs.Binding.{codes_of}
use Rattle.shown_dumps.specs.Bound.{first_value}
use Rattle.shown_dumps.specs.Said.{EndsIn, ended_at, ended_stretches, open_stretch, times_in, value_after}
use Rattle.shown_dumps.specs.Shown.{code_at, dump_of, stretch_at}

-- the dump of a body that says entries, a time, and maybe more
abbrev pub dump_with : List (Option ℕ) → List Entry → ℕ → List Entry → BoundDump
dump_with codes entries next more = dump_of codes (stretches_of (entries ++ Time next ∷ more))

-- where the times rise, those of each stretch do, and none of a later stretch is below them
abbrev pub OrderLaw : Type 0
OrderLaw = (entries : List Entry) → Rises None entries → AreStretches (map times_of (stretches_of entries))

-- what is said after entries makes the stretch longer that is on, and more stretches
abbrev pub SplitLaw : Type 0
SplitLaw =
    (entries more : List Entry) → is_on entries ≡ true
    → stretches_of (entries ++ more) ≡ map steps_of (ended_stretches entries) ++ steps_of (open_stretch entries ++ more) ∷ map steps_of (later_stretches more)

-- where the dump is off it only makes more stretches
abbrev pub SplitOffLaw : Type 0
SplitOffLaw =
    (entries more : List Entry) → is_on entries ≡ false
    → stretches_of (entries ++ more) ≡ map steps_of (ended_stretches entries) ++ map steps_of (later_stretches more)

-- between the last time of the stretch that is on and the next one the value of a code is that of its last change
abbrev pub ValueLaw : Type 0
ValueLaw =
    (entries more : List Entry) (last next code t : ℕ) → Rises None (entries ++ Time next ∷ more) → last_time None (open_stretch entries) ≡ Some last → last ≤ t → t < next
    → value_at (stretch_at (stretches_of (entries ++ Time next ∷ more)) t) code t ≡ value_after (open_stretch entries) code

-- before the second time of a stretch it is the first value
abbrev pub FirstValueLaw : Type 0
FirstValueLaw =
    (entries more : List Entry) (first next code : ℕ) → times_in (open_stretch entries) ≡ first ∷ []
    → first_value (steps_of (open_stretch entries ++ Time next ∷ more)) code ≡ value_after (open_stretch entries) code

-- where the times rise, this is a dump of the design, which may lack inputs
abbrev pub DumpLaw : Type 0
DumpLaw =
    (design : Design) (vars : List Var) (instance : List ℕ) (entries : List Entry) → Rises None entries
    → IsAnyDumpOf (design_view design) (dump_of (codes_of design vars instance) (stretches_of entries))

-- the time is the first of a stretch, and shown, and no time from the end of the stretches before it up to this one is shown
pub record IsFirstTime (dump : BoundDump) (end first : ℕ) : Type 0 where
  pub is_first : IsFirst dump first
  pub shown : IsShown dump first
  pub later : end ≤ first
  pub none : (t : ℕ) → end ≤ t → t < first → IsShown dump t → ⊥

-- so it is with the only time of the stretch that is on, once the next is said
abbrev pub FirstTimeLaw : Type 0
FirstTimeLaw =
    (codes : List (Option ℕ)) (entries more : List Entry) (first next : ℕ) → Rises None (entries ++ Time next ∷ more) → times_in (open_stretch entries) ≡ first ∷ []
    → IsFirstTime (dump_with codes entries next more) (ended_at entries) first

-- the last of several times before the next is listed, and of the window, and there is no listed time between it and the one before
pub record IsNextTime (dump : BoundDump) (before last : ℕ) : Type 0 where
  pub rises : before < last
  pub listed : IsListed dump last
  pub none : (t : ℕ) → before < t → t < last → IsListed dump t → ⊥
  pub in_window : IsWindow dump last

-- so it is with the last times of the stretch that is on
abbrev pub NextTimeLaw : Type 0
NextTimeLaw =
    (codes : List (Option ℕ)) (entries more : List Entry) (before last next : ℕ) → Rises None (entries ++ Time next ∷ more) → EndsIn (times_in (open_stretch entries)) before last
    → IsNextTime (dump_with codes entries next more) before last

-- a time between the last one of the stretch that is on and the next is of the window, and not listed
abbrev pub RestLaw : Type 0
RestLaw =
    (codes : List (Option ℕ)) (entries more : List Entry) (last next t : ℕ) → Rises None (entries ++ Time next ∷ more) → last_time None (open_stretch entries) ≡ Some last → last < t → t < next
    → IsWindow (dump_with codes entries next more) t × (IsListed (dump_with codes entries next more) t → ⊥)

-- a stretch with two times that ends is the last one that has ended with two
abbrev pub EndLaw : Type 0
EndLaw = (entries : List Entry) (before last : ℕ) → EndsIn (times_in (open_stretch entries)) before last → ended_at (entries ++ Off ∷ []) ≡ last

-- a stretch with fewer times that ends changes nothing of this
abbrev pub ShortEndLaw : Type 0
ShortEndLaw = (entries : List Entry) → length (times_in (open_stretch entries)) ≤ 1 → ended_at (entries ++ Off ∷ []) ≡ ended_at entries

-- at the end of the body nothing is shown from the end of the last stretch with two times on, where the one that is on has fewer
abbrev pub PastEndLaw : Type 0
PastEndLaw =
    (codes : List (Option ℕ)) (entries : List Entry) (t : ℕ) → Rises None entries → length (times_in (open_stretch entries)) ≤ 1 → IsShown (dump_of codes (stretches_of entries)) t
    → t < ended_at entries

-- the bits of a bound signal are those of the last change of its code
abbrev pub BitsLaw : Type 0
BitsLaw =
    (design : Design) (vars : List Var) (instance : List ℕ) (entries more : List Entry) (last next s code t : ℕ) (value : Vector) → AreEntries vars entries
    → Rises None (entries ++ Time next ∷ more) → last_time None (open_stretch entries) ≡ Some last → last ≤ t → t < next → code_at (codes_of design vars instance) s ≡ Some code
    → value_after (open_stretch entries) code ≡ Some value
    → (value.bits ≡ signal_bits (design_view design) ((dump_with (codes_of design vars instance) entries next more).values t) s) × (value.signed ≡ false)

-- a run that shows the dump shows, up to a time before the next one, also the dump that ends there
abbrev pub FrontLaw : Type 0
FrontLaw =
    (d : Tree) (codes : List (Option ℕ)) (entries more : List Entry) (next t : ℕ) (r : Run) → is_on entries ≡ true → Rises None (entries ++ Time next ∷ more) → t < next
    → ShowsUpTo d (dump_with codes entries next more) r t → ShowsUpTo d (dump_with codes entries next []) r t
