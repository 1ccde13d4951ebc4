-- The processes of items, and their faults: lists of names, edges, drivers, self assignments (clauses 6.1, 9.7).
use Rattle.std.specs.Prelude.{ℕ, ◌+◌, ◌==◌, max, Bool, true, false, not, ◌&&◌, ◌||◌, if◌then◌else◌, List, [], ◌∷◌, ◌++◌, length, map, flat_map, Option, Some, None}
use Rattle.std.specs.Cmp.Lexicographic.{slice_cmp}
use Rattle.std.specs.Ordering.{is_lt, nat_cmp}
use Rattle.std.specs.List.{list_any, range_with_len}
use Rattle.cov_host.specs.declared.place.Place.{Place}
use Rattle.four_state.specs.declared.edge.Edge.{Edge}
use Rattle.design_model.specs.Shape.{same_bool}
use Rattle.design_model.specs.Tree as t
use Rattle.design_model.specs.Tree.{Head, Term, Terms, Process, assign, comb, clocked}
use Rattle.verilog_tree.specs.declared.item.Named.{Named}
use Rattle.verilog_tree.specs.declared.item.When.{When}
use Rattle.verilog_tree.specs.declared.item.When.TheVariants.{Star, Names, Edges}
use Rattle.verilog_tree.specs.Tree.{Expr, literal, identifier, bit_select, part_select, indexed_part, unary_operator, binary_operator, conditional, concatenation, replication, sign_cast, parentheses, Exprs, no_exprs, an_expr, place_of, Statement}
use Rattle.elab_const.specs.Meaning.{shape_as}
use Rattle.flat_design.specs.Bodies.{Met, met_process, met_writing, met_faults, met_writings, met, statement, reads, text_reads, assigned}
use Rattle.flat_design.specs.Expressions.{faults}
use Rattle.flat_design.specs.Fault.{Fault, ElabKind, fault_at, fault_if, before_or, none, Undeclared, MixedAssign, Incomplete, EventNotBit, SelfAssign, WrongUse, TwoDrivers}
use Rattle.flat_design.specs.Identifiers.{base_name}
use Rattle.flat_design.specs.Loops.{is_identifier}
use Rattle.flat_design.specs.Numbering.{nodes}
use Rattle.flat_design.specs.Scope.{Scope, Entry, a_signal, a_memory, a_faulty_one, SignalEntry, look_up, shape, names_faulty, range_width, is_same_thing, the_signal, Thing}
use Rattle.flat_design.specs.Targets.{Mode, Continuous, Combinational, Clocked, target, target_faults, leaves, Writing, writing_of}
use Rattle.flat_design.specs.Terms.{right_side, head_as}

-- a process, and what is met with it
pub record Made : Type 0 where
  pub process : Process
  pub met : List Met

-- the name of a signal
abbrev pub is_signal_entry : Option Entry → Bool
is_signal_entry (Some (a_signal s)) = true
is_signal_entry _ = false

-- a number is in both lists
abbrev pub have_common : List ℕ → List ℕ → Bool
have_common xs ys = list_any (λ x. list_any (λ y. x == y) ys) xs

-- what reads some of these bits reads a bit of this target; what names no certain bit, as by an index with an x, may read any
abbrev pub reads_bits : Thing → List ℕ → Writing → Bool
reads_bits x bits w = is_same_thing w.thing x && (length bits == 0 || have_common w.offsets bits)

-- the select or name e reads a bit that the targets drive; by an index that is not constant it reads all bits
abbrev pub reads_driven : Scope → List Writing → Expr → Bool
reads_driven g ws e = is_signal_entry (look_up g (base_name e).name) && list_any (reads_bits (writing_of g true true 0 e).thing (writing_of g true true 0 e).offsets) ws

-- the fault, where e reads a driven bit
abbrev pub self_read : Scope → List Writing → Expr → List Fault
self_read g ws e = fault_if (reads_driven g ws e) (fault_at SelfAssign (base_name e))

-- the reads of an expression of bits that the targets drive
abbrev mutual
  pub self_reads : Scope → List Writing → Expr → List Fault
  self_reads g ws (literal p v) = []
  self_reads g ws (identifier p x) = self_read g ws (identifier p x)
  self_reads g ws (bit_select p of i) = self_read g ws (bit_select p of i) ++ (if is_identifier of then [] else self_reads g ws of) ++ self_reads g ws i
  self_reads g ws (part_select p of h l b) = self_read g ws (part_select p of h l b) ++ (if is_identifier of then [] else self_reads g ws of)
  self_reads g ws (indexed_part p of b w up k) = self_read g ws (indexed_part p of b w up k) ++ (if is_identifier of then [] else self_reads g ws of) ++ self_reads g ws b
  self_reads g ws (unary_operator p op a) = self_reads g ws a
  self_reads g ws (binary_operator p op a b) = self_reads g ws a ++ self_reads g ws b
  self_reads g ws (conditional p c a b) = self_reads g ws c ++ self_reads g ws a ++ self_reads g ws b
  self_reads g ws (concatenation p es) = all_self_reads g ws es
  self_reads g ws (replication p n es) = all_self_reads g ws es
  self_reads g ws (sign_cast p s a) = self_reads g ws a
  self_reads g ws (parentheses p a) = self_reads g ws a

  pub all_self_reads : Scope → List Writing → Exprs → List Fault
  all_self_reads g ws no_exprs = []
  all_self_reads g ws (an_expr e es) = self_reads g ws e ++ all_self_reads g ws es

-- what the target x of a continuous assignment drives
abbrev pub written : Scope → Expr → List Writing
written g x = map (writing_of g true true 0) (leaves x)

-- a continuous assignment that reads a bit that it drives
abbrev pub self_faults : Scope → Expr → Expr → List Fault
self_faults g x v = if none (target_faults g Continuous x ++ faults g v) && not (names_faulty g x || names_faulty g v) then self_reads g (written g x) v else []

-- assign x = v in instance i, as process number k; its counted nodes are numbered from n on
abbrev pub continuous : ℕ → Scope → ℕ → ℕ → Place → Expr → Expr → ℕ → Made
continuous base g i k p x v n =
    record {
      process = assign i (target base g x n) (right_side base g (shape g x).width v (n + nodes g x)) true;
      met = met_process p ∷ met_faults (target_faults g Continuous x ++ faults g v) ++ met_writings g Continuous true true k x ++ met_faults (self_faults g x v);
    }

-- a name in an event list with edges
abbrev pub edge_faults : Option Entry → Named → List Fault
edge_faults None x = fault_at Undeclared x ∷ []
edge_faults (Some (a_signal s)) x = fault_if (not (range_width s.range == 1)) (fault_at EventNotBit x)
edge_faults (Some a_faulty_one) x = []
edge_faults (Some _) x = fault_at WrongUse x ∷ []

-- a name in a list of names
abbrev pub listed_faults : Option Entry → Named → List Fault
listed_faults None x = fault_at Undeclared x ∷ []
listed_faults (Some (a_signal s)) x = []
listed_faults (Some a_faulty_one) x = []
listed_faults (Some _) x = fault_at WrongUse x ∷ []

-- the faults of an event list
abbrev pub when_faults : Scope → When → List Fault
when_faults g Star = []
when_faults g (Names xs) = flat_map (λ x. listed_faults (look_up g x.name) x) xs
when_faults g (Edges es) = flat_map (λ e. edge_faults (look_up g e.1.name) e.1) es

-- the number of the signal that a name means
abbrev pub signal_numbers : Option Entry → List ℕ
signal_numbers (Some (a_signal s)) = s.number ∷ []
signal_numbers _ = []

-- the signals of a list of names
abbrev pub listed_signals : Scope → List Named → List ℕ
listed_signals g xs = flat_map (λ x. signal_numbers (look_up g x.name)) xs

-- the edges of an event list, by the numbers of their signals
abbrev pub events : Scope → List (Edge × Named) → List (Edge × ℕ)
events g es = flat_map (λ e. map (λ s. (e.0, s)) (signal_numbers (look_up g e.1.name))) es

-- a target, where one was met
abbrev pub writing_met : Met → List Writing
writing_met (met_writing w) = w ∷ []
writing_met _ = []

-- all targets that were met
abbrev pub writings : List Met → List Writing
writings ms = flat_map writing_met ms

-- x is before y in the text; at one place the lesser of their names goes first
abbrev pub is_named_before : Named → Named → Bool
is_named_before x y = before_or (is_lt (slice_cmp nat_cmp x.name y.name)) x.place y.place

-- of two names the one that is later in the text
abbrev pub later_of : Named → Named → Named
later_of x y = if is_named_before x y then y else x

-- of two names the one that is first in the text
abbrev pub earlier_of : Named → Named → Named
earlier_of x y = if is_named_before y x then y else x

-- for each two writings that are in conflict, the name that is later in the text
abbrev pub conflicts : (Writing → Writing → Bool) → List Writing → List Named
conflicts at_odds [] = []
conflicts at_odds (a ∷ bs) = flat_map (λ b. if at_odds a b then later_of a.name b.name ∷ [] else []) bs ++ conflicts at_odds bs

-- the name of the list that is first in the text
abbrev pub first_name : Named → List Named → Named
first_name x [] = x
first_name x (y ∷ ys) = first_name (earlier_of x y) ys

-- a fault at the first of these names, if there is one
abbrev pub fault_at_first : ElabKind → List Named → List Fault
fault_at_first k [] = []
fault_at_first k (x ∷ xs) = fault_at k (first_name x xs) ∷ []

-- blocking and nonblocking to one signal or memory
abbrev pub are_mixed : Writing → Writing → Bool
are_mixed a b = is_same_thing a.thing b.thing && not (same_bool a.blocking b.blocking)

-- the first place at which both are met
abbrev pub mixed_faults : List Writing → List Fault
mixed_faults ws = fault_at_first MixedAssign (conflicts are_mixed ws)

-- two drivers of a bit of a net, or two processes that write a variable or memory
abbrev pub are_two_drivers : Writing → Writing → Bool
are_two_drivers a b = is_same_thing a.thing b.thing && (if a.continuous && b.continuous then have_common a.offsets b.offsets else not (a.process == b.process))

-- the first place at which a second driver is met
abbrev pub driver_faults : List Writing → List Fault
driver_faults ws = fault_at_first TwoDrivers (conflicts are_two_drivers ws)

-- a signal that the list lacks and that the block reads and does not assign; a memory that it reads
abbrev pub lacks : Option Entry → List ℕ → Bool
lacks (Some (a_signal s)) known = not (list_any (λ k. k == s.number) known)
lacks (Some (a_memory m)) known = true
lacks _ known = false

-- the reads for which a list of names lacks the name
abbrev pub incomplete_faults : Scope → When → Statement → List Fault
incomplete_faults g (Names xs) s = flat_map (λ x. fault_if (lacks (look_up g x.name) (listed_signals g (xs ++ assigned g s))) (fault_at Incomplete x)) (reads g s)
incomplete_faults g _ s = []

-- a list of edges makes a block clocked
abbrev pub mode_of : When → Mode
mode_of (Edges es) = Clocked
mode_of _ = Combinational

-- the process of an always block with this text and body; under * its list has all signals that the text reads (clause 9.7.5)
abbrev pub process_of : Scope → ℕ → When → Statement → t.Stmt → Process
process_of g i Star text s = comb i (listed_signals g (text_reads text)) s
process_of g i (Names xs) text s = comb i (listed_signals g xs) s
process_of g i (Edges es) text s = clocked i (events g es) s

-- what is met in an always block
abbrev pub body_met : Scope → Place → When → Statement → List Met → List Met
body_met g p w s ms = met_faults (when_faults g w) ++ ms ++ met_faults (mixed_faults (writings ms) ++ incomplete_faults g w s) ++ met_process p ∷ []

-- always @w s in instance i, as process number k; its line points are numbered from l on, its counted nodes from n on
abbrev pub always : ℕ → Scope → ℕ → ℕ → Place → When → Statement → ℕ → ℕ → Made
always base g i k p w s l n = record { process = process_of g i w s (statement base g s l n); met = body_met g p w s (met g (mode_of w) k s) }

-- a term without counted nodes
abbrev pub uncounted_head : Head → Head
uncounted_head h = record { place = h.place; width = h.width; signed = h.signed; node = None }

abbrev mutual
  pub uncounted : Term → Term
  uncounted (t.number h v) = t.number (uncounted_head h) v
  uncounted (t.signal h s) = t.signal (uncounted_head h) s
  uncounted (t.word h m i) = t.word (uncounted_head h) m (uncounted i)
  uncounted (t.bit h of i) = t.bit (uncounted_head h) (uncounted of) (uncounted i)
  uncounted (t.part h of i j) = t.part (uncounted_head h) (uncounted of) (uncounted i) (uncounted j)
  uncounted (t.slide h of b w up) = t.slide (uncounted_head h) (uncounted of) (uncounted b) (uncounted w) up
  uncounted (t.unary h op a) = t.unary (uncounted_head h) op (uncounted a)
  uncounted (t.binary h op a b) = t.binary (uncounted_head h) op (uncounted a) (uncounted b)
  uncounted (t.choice h c a b) = t.choice (uncounted_head h) (uncounted c) (uncounted a) (uncounted b)
  uncounted (t.concat h ts) = t.concat (uncounted_head h) (all_uncounted ts)
  uncounted (t.repeat h k ts) = t.repeat (uncounted_head h) (uncounted k) (all_uncounted ts)
  uncounted (t.sign h s a) = t.sign (uncounted_head h) s (uncounted a)

  pub all_uncounted : Terms → Terms
  all_uncounted t.no_terms = t.no_terms
  all_uncounted (t.a_term x xs) = t.a_term (uncounted x) (all_uncounted xs)

-- process k drives all bits of a port's signal, at the place of this name
abbrev pub whole_writing : ℕ → Named → SignalEntry → Writing
whole_writing k label s = record { name = label; thing = the_signal s.number; offsets = range_with_len 0 (range_width s.range); blocking = true; continuous = true; process = k }

-- an input that is joined to an expression: the port's signal s is assigned its value
abbrev pub joined_input : ℕ → Scope → ℕ → ℕ → Place → Named → SignalEntry → Expr → Made
joined_input base g i k p label s e =
    record {
      process = assign i (t.all_of s.number) (uncounted (right_side base g (range_width s.range) e 0)) false;
      met = met_process p ∷ met_faults (faults g e) ++ met_writing (whole_writing k label s) ∷ [];
    }

-- an output that is joined to a target: the target is assigned the port's signal s
abbrev pub joined_output : ℕ → Scope → ℕ → ℕ → Place → SignalEntry → Expr → Made
joined_output base g i k p s e =
    record {
      process = assign i (target base g e 0) (t.signal (head_as (place_of e) (shape_as (max (range_width s.range) (shape g e).width) s.signed) None) s.number) false;
      met = met_process p ∷ met_faults (target_faults g Continuous e) ++ met_writings g Continuous true true k e;
    }
