-- A body replayed on what is known: blames, marks, and the run itself.
use Rattle.std.specs.Prelude.{◌≡◌, ◌⊎◌, ℕ, ◌==◌, Bool, true, false, ◌&&◌, ◌||◌, if◌then◌else◌, List, [], ◌∷◌, ◌++◌, map, Option, Some, None}
use Rattle.std.specs.List.{list_all}
use Rattle.design_model.specs.event_machine.Cell.{Values, Update, put_all}
use Rattle.design_model.specs.four_state.declared.bit.Bit.{Bit}
use Rattle.design_model.specs.four_state.declared.truth.Truth.{Truth}
use Rattle.design_model.specs.four_state.declared.truth.Truth.TheVariants.{True, False, Strange}
use Rattle.design_model.specs.four_state.Vector.{is_zero, same_bit}
use Rattle.design_model.specs.four_state.Parts.{index}
use Rattle.design_model.specs.four_state.declared.operator.CaseKind.{CaseKind}
use Rattle.design_model.specs.four_state.declared.operator.Binary.{Binary}
use Rattle.design_model.specs.four_state.declared.operator.Binary.TheVariants.{BitwiseAnd, BitwiseOr, LogicalAnd, LogicalOr}
use Rattle.known_state.specs.Join.{join_bit}
use Rattle.design_model.specs.Tree.{Term, number, signal, word, bit, part, slide, unary, binary, choice, concat, repeat, sign, Terms, no_terms, a_term, Target, all_of, bits_of, word_of, several, Targets, no_targets, a_target, Stmt, block, branch, select, turns, set, empty, Stmts, no_stmts, a_stmt, Arms, no_arms, arm}
use Rattle.design_model.specs.Design.{Design, memory_at, signal_cells, a_signal, a_word}
use Rattle.design_model.specs.Value.{head, named_word}
use Rattle.design_model.specs.point_words.declared.node_case.NodeCase.{NodeCase}
use Rattle.design_model.specs.point_words.declared.node_case.NodeCase.TheVariants.{ValueFalse, ValueTrue, LeftFalse, RightFalse, LeftTrue, RightTrue, BothFalse, FalseTrue, TrueFalse, BothTrue}
use Rattle.design_model.specs.Execution.{Visit, at_line, at_node, reads, writes_word, is_default}
use Rattle.body_replay.specs.KnownBits.{KnownBits, whole_bits, all_sure, on_whole, known_truth, holds, both, known_match}
use Rattle.body_replay.specs.Store.{Kept, words, may_name, read_word, known_value, KnownWrite, keep_all, weaken, known_writes, set_bits}

-- what a visit counts for: a line, a case of a node, a word read, a word written
pub data Spot : Type 0 where
  line : ℕ → Spot
  node : ℕ → NodeCase → Spot
  word_read : ℕ → ℕ → Spot
  word_write : ℕ → ℕ → Spot

-- what a visit counts for; a read of a signal counts for nothing
abbrev pub spot_of : Visit → Option Spot
spot_of (at_line n) = Some (line n)
spot_of (at_node n c) = Some (node n c)
spot_of (reads (a_signal s) inner) = None
spot_of (reads (a_word m i) inner) = Some (word_read m i)
spot_of (writes_word m i) = Some (word_write m i)

-- some visit counts for the spot
abbrev pub Visited : Spot → List Visit → Type 0
Visited x [] = ⊥
Visited x (y ∷ ys) = (spot_of y ≡ Some x) ⊎ Visited x ys

-- a mark on a spot: a hit, or a doubt with the thing that is to blame
pub record Mark : Type 0 where
  pub spot : Spot
  pub doubt : Option ℕ

-- the spot is hit
abbrev pub hit : Spot → Mark
hit x = record { spot = x; doubt = None }

-- the spot is in doubt by this thing
abbrev pub doubted : Spot → ℕ → Mark
doubted x thing = record { spot = x; doubt = Some thing }

-- a hit of the spot is among the marks
abbrev pub HasHit : Spot → List Mark → Type 0
HasHit x [] = ⊥
HasHit x (m ∷ ms) = ((m.spot ≡ x) × (m.doubt ≡ None)) ⊎ HasHit x ms

-- some mark of the spot is among the marks
abbrev pub HasMark : Spot → List Mark → Type 0
HasMark x [] = ⊥
HasMark x (m ∷ ms) = (m.spot ≡ x) ⊎ HasMark x ms

-- what is to blame where a signal or memory is not wholly sure, and whether the run has written a memory by blocking writes
pub record Blames : Type 0 where
  pub blame : ℕ → ℕ
  pub wrote : ℕ → Bool

-- the blame of the first unsure read, or else its own
abbrev pub first_of : Option ℕ → ℕ → ℕ
first_of None own = own
first_of (Some b) own = b

-- the first of two, if there is one
abbrev pub or_else : Option ℕ → Option ℕ → Option ℕ
or_else None o = o
or_else (Some b) o = Some b

-- a read that is not wholly sure, noted if it is the first
abbrev pub note : Bool → ℕ → Option ℕ → Option ℕ
note true blame first = first
note false blame first = or_else first (Some blame)

-- the blame of a word that was read with this index
abbrev pub word_blame : Blames → ℕ → Bool → ℕ → Option ℕ → ℕ
word_blame e m index_sure index_blame first =
    if e.wrote m then first_of first (e.blame m) else (if index_sure then e.blame m else index_blame)

-- an undecided condition, else the side that is chosen
abbrev pub choice_blame : Option Truth → ℕ → Bool → ℕ → ℕ → ℕ
choice_blame None c left t u = c
choice_blame (Some True) c left t u = t
choice_blame (Some False) c left t u = u
choice_blame (Some Strange) c left t u = if left then u else t

-- the first read of the run that was not wholly sure, after the term is evaluated; and what is to blame where the term's value is not wholly sure
abbrev mutual
  pub first_read : Design → Kept → Blames → Option ℕ → Term → Option ℕ
  first_read d b e first (number h n) = first
  first_read d b e first (signal h s) = note (all_sure (map b (signal_cells d s))) (e.blame s) first
  first_read d b e first (word h m i) =
      note (all_sure (read_word d b m (head i).signed (known_value d b i))) (word_blame e m (all_sure (known_value d b i)) (blame_of d b e first i) (first_read d b e first i)) (first_read d b e first i)
  first_read d b e first (bit h t i) = first_read d b e (first_read d b e first i) t
  first_read d b e first (part h t i j) = first_read d b e (first_read d b e (first_read d b e first i) j) t
  first_read d b e first (slide h t x w up) = first_read d b e (first_read d b e (first_read d b e first x) w) t
  first_read d b e first (unary h op t) = first_read d b e first t
  first_read d b e first (binary h op t u) = first_read d b e (first_read d b e first t) u
  first_read d b e first (choice h c t u) = first_read d b e (first_read d b e (first_read d b e first c) t) u
  first_read d b e first (concat h ts) = first_reads d b e first ts
  first_read d b e first (repeat h n ts) = first_reads d b e (first_read d b e first n) ts
  first_read d b e first (sign h s t) = first_read d b e first t

  pub first_reads : Design → Kept → Blames → Option ℕ → Terms → Option ℕ
  first_reads d b e first no_terms = first
  first_reads d b e first (a_term t ts) = first_reads d b e (first_read d b e first t) ts

  pub blame_of : Design → Kept → Blames → Option ℕ → Term → ℕ
  blame_of d b e first (number h n) = 0
  blame_of d b e first (signal h s) = e.blame s
  blame_of d b e first (word h m i) = word_blame e m (all_sure (known_value d b i)) (blame_of d b e first i) (first_read d b e first i)
  blame_of d b e first (bit h t i) =
      if all_sure (known_value d b i) then blame_of d b e (first_read d b e first i) t else blame_of d b e first i
  blame_of d b e first (part h t i j) =
      if all_sure (known_value d b i) then (if all_sure (known_value d b j) then blame_of d b e (first_read d b e (first_read d b e first i) j) t else blame_of d b e (first_read d b e first i) j) else blame_of d b e first i
  blame_of d b e first (slide h t x w up) =
      if all_sure (known_value d b x) then (if all_sure (known_value d b w) then blame_of d b e (first_read d b e (first_read d b e first x) w) t else blame_of d b e (first_read d b e first x) w) else blame_of d b e first x
  blame_of d b e first (unary h op t) = blame_of d b e first t
  blame_of d b e first (binary h op t u) =
      if all_sure (known_value d b t) then blame_of d b e (first_read d b e first t) u else blame_of d b e first t
  blame_of d b e first (choice h c t u) = choice_blame (known_truth (known_value d b c)) (blame_of d b e first c) (all_sure (known_value d b t)) (blame_of d b e (first_read d b e first c) t) (blame_of d b e (first_read d b e (first_read d b e first c) t) u)
  blame_of d b e first (concat h ts) = blame_of_all d b e first ts
  blame_of d b e first (repeat h n ts) =
      if all_sure (known_value d b n) then blame_of_all d b e (first_read d b e first n) ts else blame_of d b e first n
  blame_of d b e first (sign h s t) = blame_of d b e first t

  -- of the first term that is not wholly sure
  pub blame_of_all : Design → Kept → Blames → Option ℕ → Terms → ℕ
  blame_of_all d b e first no_terms = 0
  blame_of_all d b e first (a_term t ts) =
      if all_sure (known_value d b t) then blame_of_all d b e (first_read d b e first t) ts else blame_of d b e first t

-- the bit may be 0
abbrev pub may_be_zero : Option Bit → Bool
may_be_zero None = true
may_be_zero (Some b) = is_zero b

-- whether the truth is the one that is asked for: decided by the known truth, or by whether all bits may be 0
abbrev pub ask_of : Option Truth → Bool → Truth → Option Bool
ask_of (Some True) zero True = Some true
ask_of (Some False) zero False = Some true
ask_of (Some Strange) zero Strange = Some true
ask_of (Some x) zero y = Some false
ask_of None zero False = if zero then None else Some false
ask_of None zero True = None
ask_of None zero Strange = None

-- whether the operand has this truth
abbrev pub ask : KnownBits → Truth → Option Bool
ask ps x = ask_of (known_truth ps) (list_all may_be_zero ps) x

-- a case of a node: whether it holds, and what is to blame where that is undecided
pub record Case : Type 0 where
  pub kind : NodeCase
  pub answer : Option Bool
  pub blame : ℕ

-- a case that asks one operand
abbrev pub one_case : NodeCase → Option Bool → ℕ → Case
one_case c a blame = record { kind = c; answer = a; blame = blame }

-- there is no answer
abbrev pub undecided : Option Bool → Bool
undecided None = true
undecided (Some x) = false

-- a case that asks two operands; the first undecided one is to blame
abbrev pub two_case : NodeCase → Option Bool → Option Bool → ℕ → ℕ → Case
two_case c a b left right = record { kind = c; answer = both a b; blame = if undecided a then left else right }

-- the four cases of an operator whose operands are asked for both truths
abbrev pub four_known : KnownBits → KnownBits → ℕ → ℕ → List Case
four_known ps qs l r =
    two_case BothFalse (ask ps False) (ask qs False) l r ∷ two_case FalseTrue (ask ps False) (ask qs True) l r ∷ two_case TrueFalse (ask ps True) (ask qs False) l r ∷ two_case BothTrue (ask ps True) (ask qs True) l r ∷ []

-- the cases of an operator with two operands: three of `&`, `&&`, `|` and `||`, four of any other
abbrev pub two_known : Binary → KnownBits → KnownBits → ℕ → ℕ → List Case
two_known BitwiseAnd ps qs l r = two_case BothTrue (ask ps True) (ask qs True) l r ∷ one_case LeftFalse (ask ps False) l ∷ one_case RightFalse (ask qs False) r ∷ []
two_known LogicalAnd ps qs l r = two_case BothTrue (ask ps True) (ask qs True) l r ∷ one_case LeftFalse (ask ps False) l ∷ one_case RightFalse (ask qs False) r ∷ []
two_known BitwiseOr ps qs l r = two_case BothFalse (ask ps False) (ask qs False) l r ∷ one_case LeftTrue (ask ps True) l ∷ one_case RightTrue (ask qs True) r ∷ []
two_known LogicalOr ps qs l r = two_case BothFalse (ask ps False) (ask qs False) l r ∷ one_case LeftTrue (ask ps True) l ∷ one_case RightTrue (ask qs True) r ∷ []
two_known _ ps qs l r = four_known ps qs l r

-- the cases of a term as a node
abbrev pub known_cases : Design → Kept → Blames → Option ℕ → Term → List Case
known_cases d b e first (binary h op t u) =
    two_known op (known_value d b t) (known_value d b u) (blame_of d b e first t) (blame_of d b e (first_read d b e first t) u)
known_cases d b e first t =
    one_case ValueFalse (ask (known_value d b t) False) (blame_of d b e first t) ∷ one_case ValueTrue (ask (known_value d b t) True) (blame_of d b e first t) ∷ []

-- the mark of a case: a hit, nothing, or a doubt
abbrev pub case_mark : ℕ → NodeCase → Option Bool → ℕ → List Mark
case_mark n c (Some true) blame = hit (node n c) ∷ []
case_mark n c (Some false) blame = []
case_mark n c None blame = doubted (node n c) blame ∷ []

-- the marks of the cases of node n, in order
abbrev pub case_marks : ℕ → List Case → List Mark
case_marks n [] = []
case_marks n (c ∷ cs) = case_mark n c.kind c.answer c.blame ++ case_marks n cs

-- the marks of a term that is a counted node, by its number
abbrev pub node_marks : Option ℕ → List Case → List Mark
node_marks None cs = []
node_marks (Some n) cs = case_marks n cs

-- marks on the words that an index names or may name
abbrev pub named_mark : (ℕ → Spot) → Option ℕ → List Mark
named_mark at None = []
named_mark at (Some i) = hit (at i) ∷ []

-- a doubt for each of these words that the index may name
abbrev pub perhaps_marks : (ℕ → Spot) → (ℕ → Bool) → List ℕ → ℕ → List Mark
perhaps_marks at may [] blame = []
perhaps_marks at may (i ∷ is) blame = if may i then doubted (at i) blame ∷ perhaps_marks at may is blame else perhaps_marks at may is blame

-- the marks on the words of a memory: a hit of the named one, or doubts on those that may be named
abbrev pub word_marks : Design → (ℕ → Spot) → ℕ → Bool → KnownBits → ℕ → List Mark
word_marks d at m signed ps blame =
    on_whole (whole_bits ps) (λ is. named_mark at (named_word (memory_at d m) (index signed is))) (perhaps_marks at (may_name (memory_at d m) signed ps) (words (memory_at d m)) blame)

-- the marks that the evaluation of a term makes, where it is certain that it is evaluated
abbrev mutual
  pub term_marks : Design → Kept → Blames → Option ℕ → Term → List Mark
  term_marks d b e first (number h n) = node_marks h.node (known_cases d b e first (number h n))
  term_marks d b e first (signal h s) = node_marks h.node (known_cases d b e first (signal h s))
  term_marks d b e first (word h m i) =
      term_marks d b e first i ++ word_marks d (word_read m) m (head i).signed (known_value d b i) (blame_of d b e first i) ++ node_marks h.node (known_cases d b e first (word h m i))
  term_marks d b e first (bit h t i) =
      term_marks d b e first i ++ term_marks d b e (first_read d b e first i) t ++ node_marks h.node (known_cases d b e first (bit h t i))
  term_marks d b e first (part h t i j) =
      term_marks d b e first i ++ term_marks d b e (first_read d b e first i) j ++ term_marks d b e (first_read d b e (first_read d b e first i) j) t ++ node_marks h.node (known_cases d b e first (part h t i j))
  term_marks d b e first (slide h t x w up) =
      term_marks d b e first x ++ term_marks d b e (first_read d b e first x) w ++ term_marks d b e (first_read d b e (first_read d b e first x) w) t ++ node_marks h.node (known_cases d b e first (slide h t x w up))
  term_marks d b e first (unary h op t) = term_marks d b e first t ++ node_marks h.node (known_cases d b e first (unary h op t))
  term_marks d b e first (binary h op t u) =
      term_marks d b e first t ++ term_marks d b e (first_read d b e first t) u ++ node_marks h.node (known_cases d b e first (binary h op t u))
  term_marks d b e first (choice h c t u) =
      term_marks d b e first c ++ term_marks d b e (first_read d b e first c) t ++ term_marks d b e (first_read d b e (first_read d b e first c) t) u ++ node_marks h.node (known_cases d b e first (choice h c t u))
  term_marks d b e first (concat h ts) = terms_marks d b e first ts ++ node_marks h.node (known_cases d b e first (concat h ts))
  term_marks d b e first (repeat h n ts) =
      term_marks d b e first n ++ terms_marks d b e (first_read d b e first n) ts ++ node_marks h.node (known_cases d b e first (repeat h n ts))
  term_marks d b e first (sign h s t) = term_marks d b e first t ++ node_marks h.node (known_cases d b e first (sign h s t))

  pub terms_marks : Design → Kept → Blames → Option ℕ → Terms → List Mark
  terms_marks d b e first no_terms = []
  terms_marks d b e first (a_term t ts) = term_marks d b e first t ++ terms_marks d b e (first_read d b e first t) ts

-- the indexes of a target: the first read that was not wholly sure after them, and their marks
abbrev mutual
  pub index_first : Design → Kept → Blames → Option ℕ → Target → Option ℕ
  index_first d b e first (all_of s) = first
  index_first d b e first (bits_of s low w) = first_read d b e first low
  index_first d b e first (word_of m i) = first_read d b e first i
  index_first d b e first (several ts) = indexes_first d b e first ts

  pub indexes_first : Design → Kept → Blames → Option ℕ → Targets → Option ℕ
  indexes_first d b e first no_targets = first
  indexes_first d b e first (a_target t ts) = indexes_first d b e (index_first d b e first t) ts

-- the marks of the indexes of a target
abbrev mutual
  pub index_marks : Design → Kept → Blames → Option ℕ → Target → List Mark
  index_marks d b e first (all_of s) = []
  index_marks d b e first (bits_of s low w) = term_marks d b e first low
  index_marks d b e first (word_of m i) = term_marks d b e first i
  index_marks d b e first (several ts) = indexes_marks d b e first ts

  pub indexes_marks : Design → Kept → Blames → Option ℕ → Targets → List Mark
  indexes_marks d b e first no_targets = []
  indexes_marks d b e first (a_target t ts) = index_marks d b e first t ++ indexes_marks d b e (index_first d b e first t) ts

-- the marks of the words that a target writes
abbrev mutual
  pub written_marks : Design → Kept → Blames → Option ℕ → Target → List Mark
  written_marks d b e first (all_of s) = []
  written_marks d b e first (bits_of s low w) = []
  written_marks d b e first (word_of m i) = word_marks d (word_write m) m (head i).signed (known_value d b i) (blame_of d b e first i)
  written_marks d b e first (several ts) = all_written_marks d b e first ts

  pub all_written_marks : Design → Kept → Blames → Option ℕ → Targets → List Mark
  all_written_marks d b e first no_targets = []
  all_written_marks d b e first (a_target t ts) = written_marks d b e first t ++ all_written_marks d b e (index_first d b e first t) ts

-- what signals of a target are blamed on after a blocking write of a value with this blame
abbrev pub part_blame : Bool → Bool → ℕ → ℕ → ℕ → ℕ
part_blame index_sure value_sure index_blame value_blame old = if index_sure then (if value_sure then old else value_blame) else index_blame

-- the blame of each signal after a blocking write of a value with this blame
abbrev mutual
  pub target_blames : Design → Kept → Blames → Option ℕ → Target → Bool → ℕ → (ℕ → ℕ) → ℕ → ℕ
  target_blames d b e first (all_of s) value_sure blame old x = if s == x then blame else old x
  target_blames d b e first (bits_of s low w) value_sure blame old x =
      if s == x then part_blame (all_sure (known_value d b low)) value_sure (blame_of d b e first low) blame (old x) else old x
  target_blames d b e first (word_of m i) value_sure blame old x = old x
  target_blames d b e first (several ts) value_sure blame old x = targets_blames d b e first ts value_sure blame old x

  pub targets_blames : Design → Kept → Blames → Option ℕ → Targets → Bool → ℕ → (ℕ → ℕ) → ℕ → ℕ
  targets_blames d b e first no_targets value_sure blame old x = old x
  targets_blames d b e first (a_target t ts) value_sure blame old x =
      targets_blames d b e (index_first d b e first t) ts value_sure blame (target_blames d b e first t value_sure blame old) x

-- the target has a word of this memory
abbrev mutual
  pub writes_memory : Target → ℕ → Bool
  writes_memory (all_of s) x = false
  writes_memory (bits_of s low w) x = false
  writes_memory (word_of m i) x = m == x
  writes_memory (several ts) x = some_writes_memory ts x

  pub some_writes_memory : Targets → ℕ → Bool
  some_writes_memory no_targets x = false
  some_writes_memory (a_target t ts) x = writes_memory t x || some_writes_memory ts x

-- a run so far
pub record State : Type 0 where
  pub kept : Kept  -- as the body reads it, its own blocking writes included
  pub blames : Blames
  pub first : Option ℕ  -- the blame of the first read that was not wholly sure
  pub queue : List (List KnownWrite)  -- one list for each nonblocking assignment
  pub marks : List Mark

-- what is to blame for the branch that is run: the outermost undecided test, if there is one around
abbrev pub Mode : Type 0
Mode = Option ℕ

-- a mark in a branch of an undecided test is a doubt by that test
abbrev pub in_mode : Mode → Mark → Mark
in_mode None m = m
in_mode (Some blame) m = doubted m.spot blame

-- the marks are added, as the mode has them
abbrev pub mark_all : Mode → List Mark → State → State
mark_all mode ms a = record a { marks = a.marks ++ map (in_mode mode) ms }

-- the statement with this line is reached
abbrev pub reach : Mode → ℕ → State → State
reach mode n a = mark_all mode (hit (line n) ∷ []) a

-- a term is evaluated
abbrev pub evaluate_known : Design → Mode → Term → State → State
evaluate_known d mode t a =
    record a {
      first = first_read d a.kept a.blames a.first t;
      marks = a.marks ++ map (in_mode mode) (term_marks d a.kept a.blames a.first t);
    }

-- within one more undecided test; the outermost stays to blame
abbrev pub deeper : Mode → ℕ → Mode
deeper None blame = Some blame
deeper (Some outer) blame = Some outer

-- the second branch of an undecided test begins with what the first one began with, and adds to its queue and marks
abbrev pub again : State → State → State
again a done = record a { first = done.first; queue = done.queue; marks = done.marks }

-- what two ways have in common, cell by cell
abbrev pub join_kept : Kept → Kept → Kept
join_kept b b' c = join_bit (b c) (b' c)

-- whether what is known of a bit is the same
abbrev pub same_kept : Option Bit → Option Bit → Bool
same_kept None None = true
same_kept (Some a) (Some b) = same_bit a b
same_kept _ _ = false

-- what both branches leave keeps its blame; else the test is to blame
abbrev pub join_blame : Design → ℕ → State → State → ℕ → ℕ
join_blame d test first_way second_way x =
    if (first_way.blames.blame x == second_way.blames.blame x) && list_all (λ c. same_kept (first_way.kept c) (second_way.kept c)) (signal_cells d x) then first_way.blames.blame x else test

-- after an undecided test: what both ways have in common, blamed on the test where they differ
abbrev pub joined_states : Design → ℕ → State → State → State
joined_states d test first_way second_way =
    record second_way {
      kept = join_kept first_way.kept second_way.kept;
      blames = record { blame = join_blame d test first_way second_way; wrote = λ x. first_way.blames.wrote x || second_way.blames.wrote x };
    }

-- a decided test goes one way, an undecided one both
abbrev pub decide : Design → Mode → ℕ → (Mode → State → State) → (Mode → State → State) → Option Bool → State → State
decide d mode blame first_way second_way (Some true) a = first_way mode a
decide d mode blame first_way second_way (Some false) a = second_way mode a
decide d mode blame first_way second_way None a =
    let left : State = first_way (deeper mode blame) a in
    joined_states d blame left (second_way (deeper mode blame) (again a left))

-- the marks of an assignment: its indexes, its value, and the words that it writes
abbrev pub set_marks : Design → ℕ → Target → Term → State → List Mark
set_marks d n x t a =
    let after : Option ℕ = index_first d a.kept a.blames a.first x in
    (hit (line n) ∷ index_marks d a.kept a.blames a.first x) ++ term_marks d a.kept a.blames after t ++ written_marks d a.kept a.blames a.first x

-- the first read that was not wholly sure, after an assignment is evaluated
abbrev pub set_first : Design → Target → Term → State → Option ℕ
set_first d x t a = first_read d a.kept a.blames (index_first d a.kept a.blames a.first x) t

-- the writes of an assignment
abbrev pub set_known : Design → Target → Term → State → List KnownWrite
set_known d x t a = known_writes d a.kept x (set_bits d a.kept x t)

-- the blames after a blocking assignment
abbrev pub set_blames : Design → Target → Term → State → Blames
set_blames d x t a =
    record {
      blame = target_blames d a.kept a.blames a.first x (all_sure (known_value d a.kept t)) (blame_of d a.kept a.blames (index_first d a.kept a.blames a.first x) t) a.blames.blame;
      wrote = λ m. a.blames.wrote m || writes_memory x m;
    }

-- in an undecided branch a nonblocking assignment may not be made
abbrev pub queued : Mode → List KnownWrite → List KnownWrite
queued None ws = ws
queued (Some blame) ws = weaken ws

-- an assignment is evaluated: its marks and its reads
abbrev pub visit_set : Design → Mode → ℕ → Target → Term → State → State
visit_set d mode n x t a = record a { first = set_first d x t a; marks = a.marks ++ map (in_mode mode) (set_marks d n x t a) }

-- an assignment: a blocking one writes at once, a nonblocking one is queued, weak in an undecided branch
abbrev pub run_set : Design → Mode → ℕ → Bool → Target → Term → State → State
run_set d mode n true x t a =
    record (visit_set d mode n x t a) { kept = keep_all a.kept (set_known d x t a); blames = set_blames d x t a }
run_set d mode n false x t a = record (visit_set d mode n x t a) { queue = a.queue ++ queued mode (set_known d x t a) ∷ [] }

-- the selector is to blame if it is not wholly sure, else the label
abbrev pub select_blame : KnownBits → ℕ → ℕ → ℕ
select_blame on on_blame label_blame = if all_sure on then label_blame else on_blame

-- whether one of two tests holds
abbrev pub either : Option Bool → Option Bool → Option Bool
either (Some true) y = Some true
either (Some false) y = y
either None (Some true) = Some true
either None (Some false) = None
either None None = None

-- whether some label of an arm matches: an undecided label does not matter where a later one is sure to match
abbrev pub labels_match : Design → CaseKind → KnownBits → Kept → Terms → Option Bool
labels_match d kind on b no_terms = Some false
labels_match d kind on b (a_term t ts) = either (known_match kind on (known_value d b t)) (labels_match d kind on b ts)

-- of the first label that is undecided
abbrev pub labels_blame : Design → CaseKind → KnownBits → ℕ → Kept → Blames → Option ℕ → Terms → ℕ
labels_blame d kind on on_blame b e first no_terms = 0
labels_blame d kind on on_blame b e first (a_term t ts) =
    if undecided (known_match kind on (known_value d b t)) then select_blame on on_blame (blame_of d b e first t) else labels_blame d kind on on_blame b e (first_read d b e first t) ts

-- what the later labels mark: nothing after one that is sure to match, doubts after one that is undecided
abbrev pub after_label : Option Bool → ℕ → List Mark → List Mark
after_label (Some true) blame ms = []
after_label (Some false) blame ms = ms
after_label None blame ms = map (in_mode (Some blame)) ms

-- the marks that the labels of an arm make, in order
abbrev pub label_marks : Design → CaseKind → KnownBits → ℕ → Kept → Blames → Terms → Option ℕ → List Mark
label_marks d kind on on_blame b e no_terms first = []
label_marks d kind on on_blame b e (a_term t ts) first =
    term_marks d b e first t ++ after_label (known_match kind on (known_value d b t)) (select_blame on on_blame (blame_of d b e first t)) (label_marks d kind on on_blame b e ts (first_read d b e first t))

-- the first read after a label: the later labels are evaluated unless this one is sure to match
abbrev pub after_first : Option Bool → Option ℕ → Option ℕ → Option ℕ
after_first (Some true) here later = here
after_first (Some false) here later = later
after_first None here later = later

-- the first read that was not wholly sure, after the labels of an arm are evaluated
abbrev pub label_first : Design → CaseKind → KnownBits → Kept → Blames → Terms → Option ℕ → Option ℕ
label_first d kind on b e no_terms first = first
label_first d kind on b e (a_term t ts) first =
    after_first (known_match kind on (known_value d b t)) (first_read d b e first t) (label_first d kind on b e ts (first_read d b e first t))

-- the labels of an arm are evaluated
abbrev pub see_labels : Design → Mode → CaseKind → KnownBits → ℕ → Terms → State → State
see_labels d mode kind on on_blame ts a =
    record a {
      first = label_first d kind on a.kept a.blames ts a.first;
      marks = a.marks ++ map (in_mode mode) (label_marks d kind on on_blame a.kept a.blames ts a.first);
    }

abbrev mutual
  pub run : Design → Stmt → Mode → State → State
  run d (block p ss) mode a = run_all d ss mode a
  run d (branch p n t s other) mode a =
      let r : State = reach mode n a in
      decide d mode (blame_of d r.kept r.blames r.first t) (run d s) (run_all d other) (holds (known_truth (known_value d r.kept t))) (evaluate_known d mode t r)
  run d (select p n kind t arms) mode a =
      let r : State = reach mode n a in
      run_arms d kind (known_value d r.kept t) (blame_of d r.kept r.blames r.first t) arms (run_default d arms) mode (evaluate_known d mode t r)
  run d (turns p n ss) mode a = run_all d ss mode (reach mode n a)
  run d (set p n blocking x t) mode a = run_set d mode n blocking x t a
  run d (empty p) mode a = a

  pub run_all : Design → Stmts → Mode → State → State
  run_all d no_stmts mode a = a
  run_all d (a_stmt s ss) mode a = run_all d ss mode (run d s mode a)

  pub run_arms : Design → CaseKind → KnownBits → ℕ → Arms → (Mode → State → State) → Mode → State → State
  run_arms d kind on on_blame no_arms otherwise mode a = otherwise mode a
  run_arms d kind on on_blame (arm labels s arms) otherwise mode a =
      decide d mode (labels_blame d kind on on_blame a.kept a.blames a.first labels) (run d s) (run_arms d kind on on_blame arms otherwise) (labels_match d kind on a.kept labels) (see_labels d mode kind on on_blame labels a)

  pub run_default : Design → Arms → Mode → State → State
  run_default d no_arms mode a = a
  run_default d (arm labels s arms) mode a = if is_default labels then run d s mode a else run_default d arms mode a

-- what bodies read in the store: the kept bits, and the blame of each signal and memory
pub record Shown : Type 0 where
  pub kept : Kept
  pub blame : ℕ → ℕ

-- the state of a run at its start
abbrev pub started : Shown → State
started w = record { kept = w.kept; blames = record { blame = w.blame; wrote = λ m. false }; first = None; queue = []; marks = [] }

-- the run of a body on what it reads in the store, where it surely runs
abbrev pub clean_run : Design → Stmt → Shown → State
clean_run d s w = run d s None (started w)

-- the queued writes are made, in order
abbrev pub flush : Kept → List (List KnownWrite) → Kept
flush b [] = b
flush b (ws ∷ more) = flush (keep_all b ws) more

-- the updates of an execution are made, in order
abbrev pub apply_all : Values Bit → List (Update Bit) → Values Bit
apply_all v [] = v
apply_all v (u ∷ us) = apply_all (put_all v u) us
