-- The four ways of a run, what it does to a store and which marks it makes, and what it promises.
use Rattle.std.specs.Prelude.{◌≡◌, ◌⊎◌, ℕ, Bool, true, false, if◌then◌else◌, List, [], ◌∷◌, ◌++◌, map, Option, Some, None, ⊤}
use Rattle.design_model.specs.event_machine.Cell.{Cell, Values, Write, Update, join, put_all}
use Rattle.design_model.specs.four_state.declared.bit.Bit.{Bit}
use Rattle.design_model.specs.four_state.declared.operator.Binary.{Binary}
use Rattle.design_model.specs.four_state.declared.operator.Binary.TheVariants.{BitwiseAnd, BitwiseOr, LogicalAnd, LogicalOr}
use Rattle.design_model.specs.Tree.{Head, Term, number, signal, word, bit, part, slide, unary, binary, choice, concat, repeat, sign, Terms, no_terms, a_term, Target, all_of, bits_of, word_of, several, Targets, no_targets, a_target, Stmt, block, branch, select, turns, set, empty, Stmts, no_stmts, a_stmt, Arms, no_arms, arm}
use Rattle.design_model.specs.Design.{Design, is_memory, memory_at, word_cells, Thing, cells, In, IsThing, owner}
use Rattle.design_model.specs.point_words.declared.node_case.NodeCase.{NodeCase}
use Rattle.design_model.specs.point_words.declared.node_case.NodeCase.TheVariants.{ValueFalse, ValueTrue, LeftFalse, RightFalse, LeftTrue, RightTrue, BothFalse, FalseTrue, TrueFalse, BothTrue}
use Rattle.design_model.specs.Execution.{node_cases, Visit, execution}
use Rattle.design_model.specs.Shape.{is_body}
use Rattle.design_model.specs.Value.{head}
use Rattle.design_model.specs.Numbered.{LineAt, lines}
use Rattle.design_model.specs.Mentions.{body_mentions, body_terms, body_assigns, has_cell}
use Rattle.design_model.specs.Paths.{Path, PlacedAction, ReadsUnwritten, action_mentions, paths, reads_signal_unwritten}
use Rattle.design_model.specs.Reads.{PartialMap, Agrees, ReadsWithin, VisitsFrom}
use Rattle.design_model.specs.Open.{IsOpen, IsSurelyOpen}
use Rattle.design_model.specs.declared.point.Point.{Point}
use Rattle.design_model.specs.declared.point.Point.TheVariants.{Line as line_point, Logic as logic_point, Word as word_point}
use Rattle.body_replay.specs.KnownBits.{KnownBits, Allows, sure}
use Rattle.body_replay.specs.Store.{Kept, AllowsState, words, may_name, write_word, KnownWrite, keep_all, weaken, known_writes, set_bits}
use Rattle.body_replay.specs.Replay.{Spot, line, node, word_read, word_write, spot_of, Visited, Mark, hit, State, Shown, clean_run, flush, apply_all}

-- how sure it is that the block runs, with the time of the step and the thing that is to blame
pub data Certainty : Type 0 where
  clean : ℕ → Certainty
  quiet : Certainty
  perhaps : ℕ → ℕ → Certainty
  weak : ℕ → ℕ → Certainty

-- why a point is left open: at what time, and what is to blame
pub record Doubted : Type 0 where
  pub time : ℕ
  pub thing : ℕ

-- what a run notes for the marks: a hit, or a doubt
pub record Note : Type 0 where
  pub spot : Spot
  pub doubt : Option Doubted

-- a doubt at this time
abbrev pub doubt_at : ℕ → Option ℕ → Option Doubted
doubt_at time None = None
doubt_at time (Some thing) = Some (record { time = time; thing = thing })

-- a mark as it is noted by a clean run
abbrev pub at_time : ℕ → Mark → Note
at_time time m = record { spot = m.spot; doubt = doubt_at time m.doubt }

-- a mark as it is noted where the block only may run: a doubt by the thing that may wake it
abbrev pub all_doubted : ℕ → ℕ → Mark → Note
all_doubted time thing m = record { spot = m.spot; doubt = Some (record { time = time; thing = thing }) }

-- what a run notes of its marks, by the way it runs
abbrev pub notes_of : Certainty → List Mark → List Note
notes_of (clean time) ms = map (at_time time) ms
notes_of quiet ms = []
notes_of (perhaps time thing) ms = map (all_doubted time thing) ms
notes_of (weak time thing) ms = map (all_doubted time thing) ms

-- a store: what is kept of each cell, with the blame of each signal and memory, and the things of which bodies read something else
pub record Store : Type 0 where
  pub kept : Kept
  pub blame : ℕ → ℕ
  pub hidden : ℕ → Bool  -- shown or veiled
  pub shown : Kept

-- what bodies read
abbrev pub read_of : Store → Kept
read_of st c = if st.hidden c.thing then st.shown c else st.kept c

-- what bodies read, with the blames
abbrev pub shown_of : Store → Shown
shown_of st = record { kept = read_of st; blame = st.blame }

-- what is kept under what is hidden stays
abbrev pub kept_after : Store → Kept → Kept
kept_after st b c = if st.hidden c.thing then st.kept c else b c

-- nothing is known
abbrev pub unread : Kept
unread c = None

-- the writes of an assignment of which nothing is known
abbrev pub weak_set : Design → Target → Term → List KnownWrite
weak_set d x t = weaken (known_writes d unread x (set_bits d unread x t))

abbrev mutual
  -- the writes of all blocking assignments of a body, none of them certain
  pub weak_writes : Design → Stmt → List KnownWrite
  weak_writes d (block p ss) = weak_writes_of d ss
  weak_writes d (branch p n t s other) = weak_writes d s ++ weak_writes_of d other
  weak_writes d (select p n kind t arms) = weak_writes_in d arms
  weak_writes d (turns p n ss) = weak_writes_of d ss
  weak_writes d (set p n blocking x t) = if blocking then weak_set d x t else []
  weak_writes d (empty p) = []

  pub weak_writes_of : Design → Stmts → List KnownWrite
  weak_writes_of d no_stmts = []
  weak_writes_of d (a_stmt s ss) = weak_writes d s ++ weak_writes_of d ss

  pub weak_writes_in : Design → Arms → List KnownWrite
  weak_writes_in d no_arms = []
  weak_writes_in d (arm labels s arms) = weak_writes d s ++ weak_writes_in d arms

abbrev mutual
  -- the writes of all nonblocking assignments of a body, none of them certain
  pub weak_queue : Design → Stmt → List KnownWrite
  weak_queue d (block p ss) = weak_queue_of d ss
  weak_queue d (branch p n t s other) = weak_queue d s ++ weak_queue_of d other
  weak_queue d (select p n kind t arms) = weak_queue_in d arms
  weak_queue d (turns p n ss) = weak_queue_of d ss
  weak_queue d (set p n blocking x t) = if blocking then [] else weak_set d x t
  weak_queue d (empty p) = []

  pub weak_queue_of : Design → Stmts → List KnownWrite
  weak_queue_of d no_stmts = []
  weak_queue_of d (a_stmt s ss) = weak_queue d s ++ weak_queue_of d ss

  pub weak_queue_in : Design → Arms → List KnownWrite
  weak_queue_in d no_arms = []
  weak_queue_in d (arm labels s arms) = weak_queue d s ++ weak_queue_in d arms

-- the cases that a term can have as a node
abbrev pub two_spots : Binary → List NodeCase
two_spots BitwiseAnd = BothTrue ∷ LeftFalse ∷ RightFalse ∷ []
two_spots LogicalAnd = BothTrue ∷ LeftFalse ∷ RightFalse ∷ []
two_spots BitwiseOr = BothFalse ∷ LeftTrue ∷ RightTrue ∷ []
two_spots LogicalOr = BothFalse ∷ LeftTrue ∷ RightTrue ∷ []
two_spots _ = BothFalse ∷ FalseTrue ∷ TrueFalse ∷ BothTrue ∷ []

-- the spots of a counted node
abbrev pub node_spots : Option ℕ → List NodeCase → List Spot
node_spots None cs = []
node_spots (Some n) cs = map (node n) cs

-- the spots of a term that has no operator with two operands
abbrev pub own_spots : Head → List Spot
own_spots h = node_spots h.node (ValueFalse ∷ ValueTrue ∷ [])

abbrev mutual
  -- the spots of a term
  pub term_spots : Design → Term → List Spot
  term_spots d (number h n) = own_spots h
  term_spots d (signal h s) = own_spots h
  term_spots d (word h m i) = term_spots d i ++ map (word_read m) (words (memory_at d m)) ++ own_spots h
  term_spots d (bit h t i) = term_spots d i ++ term_spots d t ++ own_spots h
  term_spots d (part h t i j) = term_spots d i ++ term_spots d j ++ term_spots d t ++ own_spots h
  term_spots d (slide h t x w up) = term_spots d x ++ term_spots d w ++ term_spots d t ++ own_spots h
  term_spots d (unary h op t) = term_spots d t ++ own_spots h
  term_spots d (binary h op t u) = term_spots d t ++ term_spots d u ++ node_spots h.node (two_spots op)
  term_spots d (choice h c t u) = term_spots d c ++ term_spots d t ++ term_spots d u ++ own_spots h
  term_spots d (concat h ts) = terms_spots d ts ++ own_spots h
  term_spots d (repeat h n ts) = term_spots d n ++ terms_spots d ts ++ own_spots h
  term_spots d (sign h s t) = term_spots d t ++ own_spots h

  pub terms_spots : Design → Terms → List Spot
  terms_spots d no_terms = []
  terms_spots d (a_term t ts) = term_spots d t ++ terms_spots d ts

abbrev mutual
  pub target_spots : Design → Target → List Spot
  target_spots d (all_of s) = []
  target_spots d (bits_of s low w) = term_spots d low
  target_spots d (word_of m i) = term_spots d i ++ map (word_write m) (words (memory_at d m))
  target_spots d (several ts) = targets_spots d ts

  pub targets_spots : Design → Targets → List Spot
  targets_spots d no_targets = []
  targets_spots d (a_target t ts) = target_spots d t ++ targets_spots d ts

abbrev mutual
  -- all spots of a body, whatever values can visit
  pub body_spots : Design → Stmt → List Spot
  body_spots d (block p ss) = all_spots d ss
  body_spots d (branch p n t s other) = (line n ∷ term_spots d t) ++ body_spots d s ++ all_spots d other
  body_spots d (select p n kind t arms) = (line n ∷ term_spots d t) ++ arms_spots d arms
  body_spots d (turns p n ss) = line n ∷ all_spots d ss
  body_spots d (set p n blocking x t) = (line n ∷ target_spots d x) ++ term_spots d t
  body_spots d (empty p) = []

  pub all_spots : Design → Stmts → List Spot
  all_spots d no_stmts = []
  all_spots d (a_stmt s ss) = body_spots d s ++ all_spots d ss

  pub arms_spots : Design → Arms → List Spot
  arms_spots d no_arms = []
  arms_spots d (arm labels s arms) = terms_spots d labels ++ body_spots d s ++ arms_spots d arms

-- what a run leaves: what is kept, what is queued, and what is noted for the marks
pub record Outcome : Type 0 where
  pub kept : Kept
  pub queue : List (List KnownWrite)
  pub notes : List Note

-- the outcome of a run that evaluates the body
abbrev pub strong_outcome : Design → Stmt → Store → Certainty → Outcome
strong_outcome d s st how =
    let r : State = clean_run d s (shown_of st) in
    record { kept = kept_after st r.kept; queue = r.queue; notes = notes_of how r.marks }

-- the outcome of a run; a weak one is static: all assignments, none of them certain, with everything unknown
abbrev pub outcome : Design → Stmt → Store → Certainty → Outcome
outcome d s st (weak time thing) =
    record { kept = keep_all st.kept (weak_writes d s); queue = weak_queue d s ∷ []; notes = notes_of (weak time thing) (map hit (body_spots d s)) }
outcome d s st (clean time) = strong_outcome d s st (clean time)
outcome d s st quiet = strong_outcome d s st quiet
outcome d s st (perhaps time thing) = strong_outcome d s st (perhaps time thing)

-- what is kept once the queued writes are made
abbrev pub flushed : Outcome → Kept
flushed o = flush o.kept o.queue

-- any way except the weak one
abbrev pub IsStrong : Certainty → Type 0
IsStrong (weak time thing) = ⊥
IsStrong _ = ⊤

-- the values after an execution on v, of a state with the values k
abbrev pub left_by : Design → Stmt → Values Bit → Values Bit → Values Bit
left_by d s v k = apply_all (put_all k (execution d s v).blocking) (execution d s v).nonblocking

-- a hit of the spot is noted
abbrev pub HasHitNote : Spot → List Note → Type 0
HasHitNote x [] = ⊥
HasHitNote x (n ∷ ns) = ((n.spot ≡ x) × (n.doubt ≡ None)) ⊎ HasHitNote x ns

-- a hit or a doubt of the spot is noted
abbrev pub HasNote : Spot → List Note → Type 0
HasNote x [] = ⊥
HasNote x (n ∷ ns) = (n.spot ≡ x) ⊎ HasNote x ns

-- a doubt of this spot with this thing
abbrev pub HasDoubt : Spot → ℕ → List Note → Type 0
HasDoubt x thing [] = ⊥
HasDoubt x thing (n ∷ ns) = ((n.spot ≡ x) × ((time : ℕ) × (n.doubt ≡ Some (record { time = time; thing = thing })))) ⊎ HasDoubt x thing ns

-- the things that are wholly sure, with their bits
abbrev pub sure_in : Design → Kept → PartialMap
sure_in d b x bits = map b (cells d x) ≡ sure bits

-- *writes sound*: what an execution on an agreeing state writes is allowed after the flush, and what it does not write stays allowed as it was kept
abbrev pub WritesSound : Type 0
WritesSound =
    (d : Design) (s : Stmt) (st : Store) (how : Certainty) → IsStrong how → (v k : Values Bit) → AllowsState (read_of st) v → AllowsState st.kept k
    → (c : Cell) → st.hidden c.thing ≡ false → Allows (flushed (outcome d s st how) c) (left_by d s v k c)

-- *hits sound*: what is newly hit is visited on every agreeing state
abbrev pub HitsSound : Type 0
HitsSound =
    (d : Design) (s : Stmt) (st : Store) (time : ℕ) (x : Spot) → HasHitNote x (outcome d s st (clean time)).notes → (v : Values Bit) → AllowsState (read_of st) v → Visited x (execution d s v).visits

-- *visits marked*: what is visited on some agreeing state is hit or in doubt
abbrev pub VisitsMarked : Type 0
VisitsMarked =
    (d : Design) (s : Stmt) (st : Store) (time : ℕ) (v : Values Bit) → AllowsState (read_of st) v → (x : Spot) → Visited x (execution d s v).visits → HasNote x (outcome d s st (clean time)).notes

-- *prefix hit*: what is visited up to the first read that is not wholly sure is hit
abbrev pub PrefixHit : Type 0
PrefixHit =
    (d : Design) (s : Stmt) (st : Store) (time : ℕ) (x : Spot) (y : Visit) → spot_of y ≡ Some x → VisitsFrom d (sure_in d (read_of st)) s y → HasHitNote x (outcome d s st (clean time)).notes

-- *no doubt added*: where every read is wholly sure, no doubt is noted
abbrev pub NoDoubtAdded : Type 0
NoDoubtAdded =
    (d : Design) (s : Stmt) (st : Store) (time : ℕ) (v : Values Bit) → Agrees d (sure_in d (read_of st)) v → ReadsWithin d (sure_in d (read_of st)) s
    → (x : Spot) (thing : ℕ) → HasDoubt x thing (outcome d s st (clean time)).notes → ⊥

-- all that an execution writes, the updates last
abbrev pub all_written : Design → Stmt → Values Bit → List (Write Bit)
all_written d s v = (execution d s v).blocking ++ join (execution d s v).nonblocking

-- *sure writes*: where every read is wholly sure, each bit that is written is sure after the flush, and no other bit that is kept changes
abbrev pub SureWrites : Type 0
SureWrites =
    (d : Design) (s : Stmt) (st : Store) (how : Certainty) → IsStrong how → (v : Values Bit) → Agrees d (sure_in d (read_of st)) v
    → ReadsWithin d (sure_in d (read_of st)) s → (c : Cell) → st.hidden c.thing ≡ false
    → ((has_cell (all_written d s v) c ≡ true → (flushed (outcome d s st how) c) ≡ Some (left_by d s v v c)) × (has_cell (all_written d s v) c ≡ false → (flushed (outcome d s st how) c) ≡ st.kept c))

-- *frame*: what no target of the body names stays as it was, at the run and at the flush
abbrev pub Frame : Type 0
Frame =
    (d : Design) (s : Stmt) (st : Store) (how : Certainty) (c : Cell) → body_assigns c.thing s ≡ false
    → ((outcome d s st how).kept c ≡ st.kept c) × ((b : Kept) → flush b (outcome d s st how).queue c ≡ b c)

-- *other words*: a write of a memory leaves each word that its index cannot name
abbrev pub OtherWordsKept : Type 0
OtherWordsKept =
    (d : Design) (b : Kept) (m : ℕ) (signed : Bool) (is ps : KnownBits) (i : ℕ) → may_name (memory_at d m) signed is i ≡ false → (c : Cell)
    → In c (word_cells d m i) → keep_all b (write_word d m signed is ps) c ≡ b c

-- *quiet*: nothing is noted
abbrev pub QuietMarks : Type 0
QuietMarks = (d : Design) (s : Stmt) (st : Store) → (outcome d s st quiet).notes ≡ []

-- the doubt has the time of the way, and with perhaps and weak its thing
abbrev pub HasTime : Certainty → Doubted → Type 0
HasTime (clean time) x = x.time ≡ time
HasTime quiet x = ⊥
HasTime (perhaps time thing) x = (x.time ≡ time) × (x.thing ≡ thing)
HasTime (weak time thing) x = (x.time ≡ time) × (x.thing ≡ thing)

-- *doubt as given*: a doubt has the time of the way, and with perhaps and weak its thing
abbrev pub DoubtAsTold : Type 0
DoubtAsTold = (d : Design) (s : Stmt) (st : Store) (how : Certainty) (n : Note) (x : Doubted) → In n (outcome d s st how).notes → n.doubt ≡ Some x → HasTime how x

-- *perhaps*: nothing is hit, and what is visited on an agreeing state is in doubt by the thing
abbrev pub PerhapsMarks : Type 0
PerhapsMarks =
    (d : Design) (s : Stmt) (st : Store) (time thing : ℕ) (x : Spot)
    → (HasHitNote x (outcome d s st (perhaps time thing)).notes → ⊥) × ((v : Values Bit) → AllowsState (read_of st) v → Visited x (execution d s v).visits → HasDoubt x thing (outcome d s st (perhaps time thing)).notes)

-- what arises from k by any number of executions of the body, each on any values of what it reads: blocking writes at once, updates at any time after, each at most once for each execution
pub data Arises (d : Design) (s : Stmt) (k : Values Bit) : Values Bit → Type 0 where
  same : Arises d s k k
  acts : {w : Values Bit} (v : Values Bit) → Arises d s k w → Arises d s k (put_all w (execution d s v).blocking)
  applies : {w : Values Bit} (v : Values Bit) (u : Update Bit) → In u (execution d s v).nonblocking → Arises d s k w → Arises d s k (put_all w u)

-- *weak*: after the flush all that can arise is allowed
abbrev pub WeakSound : Type 0
WeakSound =
    (d : Design) (s : Stmt) (st : Store) (time thing : ℕ) (k w : Values Bit) → AllowsState st.kept k → Arises d s k w → AllowsState (flushed (outcome d s st (weak time thing))) w

-- *weak marks*: with weak nothing is hit, and what is visited on any state is in doubt by the thing
abbrev pub WeakMarks : Type 0
WeakMarks =
    (d : Design) (s : Stmt) (st : Store) (time thing : ℕ) (x : Spot)
    → (HasHitNote x (outcome d s st (weak time thing)).notes → ⊥) × ((v : Values Bit) → Visited x (execution d s v).visits → HasDoubt x thing (outcome d s st (weak time thing)).notes)

-- not all bits of the signal or memory are sure
abbrev pub IsUnsure : Design → Kept → ℕ → Type 0
IsUnsure d b y = (x : Thing) × (owner x ≡ y) × IsThing d x × ((c : Cell) × In c (cells d x) × (b c ≡ None))

-- *blame*: the thing of each doubt is the blame of a signal or memory that is not wholly sure as bodies read it, and that some path reads. The numbers in the body name things of the design.
abbrev pub BlameSound : Type 0
BlameSound =
    (d : Design) (s : Stmt) (st : Store) (time : ℕ) → is_body d s ≡ true → (x : Spot) (thing : ℕ)
    → HasDoubt x thing (outcome d s st (clean time)).notes → (y : ℕ) × (st.blame y ≡ thing) × IsUnsure d (read_of st) y × ReadsUnwritten d s y

-- the spot of a line, logic or memory point
abbrev pub spot_at : Point → Option Spot
spot_at (line_point p n at w) = Some (line n)
spot_at (logic_point p n at op c) = Some (node n c)
spot_at (word_point m k true) = Some (word_write m k)
spot_at (word_point m k false) = Some (word_read m k)
spot_at _ = None

-- *open points*: what is surely open is hit
abbrev pub SurelyOpenHit : Type 0
SurelyOpenHit =
    (d : Design) (s : Stmt) (st : Store) (time : ℕ) (p : Point) (x : Spot) → spot_at p ≡ Some x → IsSurelyOpen d (sure_in d (read_of st)) s p → HasHitNote x (outcome d s st (clean time)).notes

-- *marked open*: what gets a mark, a hit or a doubt, is open
abbrev pub MarkedOpen : Type 0
MarkedOpen =
    (d : Design) (s : Stmt) (st : Store) (how : Certainty) → IsStrong how → (p : Point) (x : Spot) → spot_at p ≡ Some x → HasNote x (outcome d s st how).notes → IsOpen d (sure_in d (read_of st)) s p

-- a spot of the body: a line, a case that a counted node can have, a word of a memory that is mentioned, or assigned
abbrev pub IsOfBody : Design → Stmt → Spot → Type 0
IsOfBody d s (line n) = (l : LineAt) × In l (lines s) × (l.line ≡ n)
IsOfBody d s (node n c) = (t : Term) × In t (body_terms s) × ((head t).node ≡ Some n) × In c (node_cases t)
IsOfBody d s (word_read m k) = (body_mentions m s ≡ true) × In k (words (memory_at d m))
IsOfBody d s (word_write m k) = (body_assigns m s ≡ true) × In k (words (memory_at d m))

-- *weak of body*: with weak only points of the body get a doubt
abbrev pub WeakOfBody : Type 0
WeakOfBody = (d : Design) (s : Stmt) (st : Store) (time thing : ℕ) (x : Spot) → HasNote x (outcome d s st (weak time thing)).notes → IsOfBody d s x
