-- The signals and memories of which a process may write a bit, in order of its text.
use Rattle.std.specs.Prelude.{◌≡◌, ◌||◌, if◌then◌else◌, ℕ, Bool, true, false, not, List, [], ◌∷◌, IfSome, Some, None}
use Rattle.std.specs.List.{flat_map}
use Rattle.four_state.specs.declared.bit.Bit.TheVariants.{X}
use Rattle.four_state.specs.Vector.{Vector, all_known}
use Rattle.design_model.specs.Design.{Design, body}
use Rattle.design_model.specs.declared.design.Memory.{Memory}
use Rattle.design_model.specs.declared.design.Signal.{Signal}
use Rattle.design_model.specs.Mentions.{blank, is_constant}
use Rattle.design_model.specs.Shape.{is_alone, is_body}
use Rattle.design_model.specs.Tree.{Process, Stmt, Term}
use Rattle.design_model.specs.Value.{head, value}
use Rattle.term_replay.specs.body_replay.Store.{Kept}
use Rattle.term_replay.specs.Stands.{Scene}
use Rattle.design_targets.specs.Leaves.{Leaf, leaves}

-- a signal of one bit, and a memory of one word of one bit
abbrev pub one_signal : Signal
one_signal = record { instance = 0; name = []; high = 0; low = 0; ranged = false; width = 1; signed = false; input = false }

abbrev pub one_memory : Memory
one_memory = record { instance = 0; name = []; first = 0; last = 0; high = 0; low = 0; ranged = false; width = 1; signed = false }

-- a design with these alone
abbrev pub smallest_design : Design
smallest_design = record { top = []; instances = []; signals = one_signal ∷ []; memories = one_memory ∷ []; processes = []; constants = []; aliases = [] }

-- each bit is known to be x
abbrev pub all_x : Kept
all_x c = Some X

-- what a constant is evaluated on
abbrev pub smallest_scene : Scene
smallest_scene = record { design = smallest_design; kept = all_x; blames = record { blame = λ x. 0; wrote = λ x. false } }

-- the vector is the value of the constant, with its sign
abbrev pub IsConstantValue : Term → Vector → Type 0
IsConstantValue t v = (v.bits ≡ value smallest_design blank t) × (v.signed ≡ (head t).signed)

-- a part by this index may have bits: the index is not constant, or no bit of it is x or z
abbrev pub has_place : Term → Bool
has_place low = not (is_constant low) || all_known (value smallest_design blank low)

-- the signal or memory, unless the part has no bits
abbrev pub leaf_names : Leaf → List ℕ
leaf_names (x, None) = x ∷ []
leaf_names (x, Some (low, w)) = if has_place low then x ∷ [] else []

-- what the blocking assignments of a body may write, or with false its nonblocking ones
abbrev pub written : Bool → Stmt → List ℕ
written b s = flat_map leaf_names (leaves b s)

-- in some design the term has the width and sign that it has alone
abbrev pub IsAloneInSome : Term → Type 0
IsAloneInSome t = (d : Design) × (is_alone d t ≡ true)

-- in some design the index of the part has its shape
abbrev pub IsShapedLeaf : Leaf → Type 0
IsShapedLeaf l = IfSome l.1 (λ part. IsAloneInSome part.0)

-- in some design the body has its shapes
abbrev pub IsShapedProcess : Process → Type 0
IsShapedProcess p = (d : Design) × (is_body d (body p) ≡ true)
