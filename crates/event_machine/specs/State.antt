-- The state of a machine within a step.
use Rattle.std.specs.Prelude.{◌≡◌, ℕ, Bool, false, List, []}
use Rattle.event_machine.specs.Cell.{Cell, Values, Update}

-- values, and what is scheduled (the stratified event queue, IEEE 1364-2001, 5.3)
pub record State (V : Type 0) : Type 0 where
  pub values : Values V
  pub woken : ℕ → Bool  -- the processes that are to be evaluated: active evaluation events
  pub active : List (Update V)  -- the updates that are active
  pub queued : List (Update V)  -- the updates that nonblocking assignments have scheduled
  pub moved : Cell → Bool  -- the input cells that have moved in this step

-- no process is to be evaluated
abbrev pub NoneWoken : {V : Type 0} → State V → Type 0
NoneWoken s = (p : ℕ) → s.woken p ≡ false

-- there are no active events: no process is woken and no update is active
abbrev pub IsQuiet : {V : Type 0} → State V → Type 0
IsQuiet s = NoneWoken s × (s.active ≡ [])

-- nothing is scheduled
pub record IsSettled {V : Type 0} (s : State V) : Type 0 where
  pub none_woken : NoneWoken s
  pub none_active : s.active ≡ []
  pub none_queued : s.queued ≡ []
