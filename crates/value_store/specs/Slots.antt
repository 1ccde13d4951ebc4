-- How a store holds its signals: one slot for each.
use Rattle.std.specs.Prelude.{◌≤◌, ℕ, ◌+◌, ◌==◌, if◌then◌else◌, List, [], ◌∷◌, map, length, replicate, Option, Some, None}
use Rattle.body_replay.specs.known_state.Partly.{Partly}
use Rattle.value_store.specs.Signals.{Signals, Shape, HasShape}
use Rattle.value_store.specs.declared.slot.Slot.{Slot}

-- the shape of the signal in the slot
abbrev pub shape_in : Slot → Shape
shape_in x = record { range = x.range; width = x.width; signed = x.signed }

-- what bodies read in the place of what is kept, if it was put there in this epoch
abbrev pub hidden_in : ℕ → Slot → Option Partly
hidden_in epoch x = if x.epoch == epoch then Some x.shown else None

-- what the slots hold in this epoch
abbrev pub signals_in : ℕ → List Slot → Signals
signals_in epoch xs = record { shapes = map shape_in xs; kept = map (λ x. x.kept) xs; hidden = map (hidden_in epoch) xs }

-- both vectors of a slot have the shape of the signal, and nothing was put into it after this epoch
pub record IsSlot (epoch : ℕ) (x : Slot) : Type 0 where
  pub past : x.epoch ≤ epoch
  pub kept : HasShape (shape_in x) x.kept
  pub shown : HasShape (shape_in x) x.shown

-- nothing was put into the slot since epoch 0
abbrev pub rewound : Slot → Slot
rewound x = record x { epoch = 0 }

-- as many bits as the vector has, of which none is sure, blamed on the signal with this number
abbrev pub blank_of : Partly → ℕ → Partly
blank_of q s = record { bits = replicate (length q.bits) None; signed = q.signed; blame = s }

-- the slots of signals of which nothing is known, with the numbers from this one up
abbrev pub forgotten : ℕ → List Slot → List Slot
forgotten s [] = []
forgotten s (x ∷ xs) = record x { kept = blank_of x.kept s } ∷ forgotten (s + 1) xs
