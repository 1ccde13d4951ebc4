-- The parts of an assignment with their indexes evaluated, and what the assignment does by them.
use Rattle.std.specs.Prelude.{◌≡◌, ◌+◌, ◌≤◌, ◌==◌, ◌||◌, ◌∷◌, ◌++◌, ℕ, Bool, true, false, if◌then◌else◌, List, [], take, drop, Option, Some, None}
use Rattle.known_state.specs.Partly.{Partly}
use Rattle.design_model.specs.Design.{Design, memory_at, signal_at}
use Rattle.design_model.specs.Tree.{Target, Targets, a_target, all_of, bits_of, no_targets, several, word_of}
use Rattle.value_store.specs.body_replay.KnownBits.{KnownBits, all_sure}
use Rattle.value_store.specs.body_replay.Store.{KnownWrite, keep_all}
use Rattle.value_store.specs.body_replay.Replay.{Mark, index_first, part_blame, word_marks, word_write}
use Rattle.scene_laws.specs.term_replay.Stands.{Scene, Stands}
use Rattle.value_store.specs.Queue.{Queue}
use Rattle.scene_laws.specs.body_calls.Lvalues.{Takes, if_certain, is_word_of, lvalue_writes, written_thing}
use Rattle.scene_laws.specs.body_calls.declared.lvalue.Lvalue.{Lvalue}
use Rattle.scene_laws.specs.body_calls.declared.lvalue.Lvalue.TheVariants.{Part, Signal, Word}
use Rattle.assignments.specs.declared.piece.Piece.{Piece}

-- how many bits the parts have together
abbrev pub widths : List Piece → ℕ
widths [] = 0
widths (x ∷ xs) = x.width + widths xs

-- each part has bits, and is one of the design
abbrev pub AllTake : Design → List Piece → Type 0
AllTake d [] = Unit {0}
AllTake d (x ∷ xs) = (1 ≤ x.width) × Takes d x.to x.width × AllTake d xs

-- the parts of a target, each index with its value on the scene after these first reads; the first target is the highest
abbrev mutual
  pub ArePieces : Scene → Option ℕ → Target → List Piece → Type 0
  ArePieces v first (all_of s) xs = xs ≡ record { to = Signal s; width = (signal_at v.design s).width } ∷ []
  ArePieces v first (bits_of s low w) xs = (q : Partly) × Stands v first low q × (xs ≡ record { to = Part s q; width = w } ∷ [])
  ArePieces v first (word_of m i) xs = (q : Partly) × Stands v first i q × (xs ≡ record { to = Word m q; width = (memory_at v.design m).width } ∷ [])
  ArePieces v first (several ts) xs = AreAllPieces v first ts xs

  pub AreAllPieces : Scene → Option ℕ → Targets → List Piece → Type 0
  AreAllPieces v first no_targets xs = xs ≡ []
  AreAllPieces v first (a_target t ts) xs =
      (ys : List Piece) × (zs : List Piece) × (xs ≡ ys ++ zs) × ArePieces v first t ys × AreAllPieces v (index_first v.design v.kept v.blames first t) ts zs

-- the parts of the target are added to those before
pub record Located (v : Scene) (first : Option ℕ) (x : Target) (before after : Queue Piece) : Type 0 where
  pub pieces : List Piece
  pub are : ArePieces v first x pieces
  pub added : after ≡ record before { items = before.items ++ pieces }

-- the same of several targets
pub record AllLocated (v : Scene) (first : Option ℕ) (ts : Targets) (before after : Queue Piece) : Type 0 where
  pub pieces : List Piece
  pub are : AreAllPieces v first ts pieces
  pub added : after ≡ record before { items = before.items ++ pieces }

-- the writes that put these bits, as many as the parts have, into the parts
abbrev pub pieces_writes : Design → List Piece → KnownBits → List KnownWrite
pieces_writes d [] ps = []
pieces_writes d (x ∷ xs) ps = lvalue_writes d x.to (drop (widths xs) ps) ++ pieces_writes d xs (take (widths xs) ps)

-- the marks of the word that a part writes
abbrev pub lvalue_marks : Design → Lvalue → List Mark
lvalue_marks d (Signal s) = []
lvalue_marks d (Part s low) = []
lvalue_marks d (Word m i) = word_marks d (word_write m) m i.signed i.bits i.blame

-- the marks of the words that the parts write
abbrev pub pieces_marks : Design → List Piece → List Mark
pieces_marks d [] = []
pieces_marks d (x ∷ xs) = lvalue_marks d x.to ++ pieces_marks d xs

-- the blames after a blocking write of a part of a value with this blame
abbrev pub assigned_blames : Lvalue → Bool → ℕ → (ℕ → ℕ) → ℕ → ℕ
assigned_blames (Signal s) value_sure blame old x = if s == x then blame else old x
assigned_blames (Part s low) value_sure blame old x = if s == x then part_blame (all_sure low.bits) value_sure low.blame blame (old x) else old x
assigned_blames (Word m i) value_sure blame old x = old x

-- what bodies read after a blocking write of these bits of a value with this blame to a part
abbrev pub assigned : Lvalue → KnownBits → Bool → ℕ → Scene → Scene
assigned x ps value_sure blame v =
    record v {
      kept = keep_all v.kept (lvalue_writes v.design x ps);
      blames = record { blame = assigned_blames x value_sure blame v.blames.blame; wrote = λ m. v.blames.wrote m || is_word_of x m };
    }

-- the same of all parts, in order
abbrev pub all_assigned : List Piece → KnownBits → Bool → ℕ → Scene → Scene
all_assigned [] ps value_sure blame v = v
all_assigned (x ∷ xs) ps value_sure blame v = all_assigned xs (take (widths xs) ps) value_sure blame (assigned x.to (drop (widths xs) ps) value_sure blame v)

-- what is to blame for a value, if it is not wholly sure
abbrev pub blame_option : Bool → ℕ → Option ℕ
blame_option value_sure blame = if value_sure then None else Some blame

-- how much of a log that the writes of each signal and memory take so much of is taken by one write of each part
abbrev pub pieces_take : (ℕ → ℕ) → List Piece → ℕ
pieces_take takes [] = 0
pieces_take takes (x ∷ xs) = takes (written_thing x.to) + pieces_take takes xs

-- what bodies read after an assignment: only a blocking one writes at once
abbrev pub made : Bool → List Piece → KnownBits → Bool → ℕ → Scene → Scene
made true xs ps value_sure blame v = all_assigned xs ps value_sure blame v
made false xs ps value_sure blame v = v

-- what is queued after an assignment: only a nonblocking one queues
abbrev pub queued_by : Bool → Bool → Design → List Piece → KnownBits → List KnownWrite → List KnownWrite
queued_by true certain d xs ps queue = queue
queued_by false certain d xs ps queue = queue ++ if_certain certain (pieces_writes d xs ps)
