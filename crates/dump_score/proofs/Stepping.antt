-- One step of a body, and what the replay was given after it.
use Rattle.std.proofs.Common.{◌≡◌, ℕ, Bool, ◌+◌, ◌<◌, ◌≤◌, List, [], ◌∷◌, ◌++◌, length, take, drop, refl, sym, ap, subst, ◌∙◌, append_assoc, append-nil, arith, take-append-drop, inr}
use Rattle.std.proofs.Math.Seq.{take-add, take-length}
use Rattle.design_model.specs.declared.design.Design.{Design}
use Rattle.event_machine.specs.Habit.{Habit}
use Rattle.vcd_reader.proofs.Turns.{ordered_at_end, ordered_so_far}
use Rattle.vcd_reader.specs.Pieces.{BodyHasRead, StepsTo}
use Rattle.vcd_reader.specs.Reading.{Body}
use Rattle.vcd_reader.specs.Text.{EndsAs}
use Rattle.vcd_reader.specs.Order.{AreOrdered}
use Rattle.vcd_reader.specs.Wanted.{IsUnwanted, item_by, saying_more}
use Rattle.vcd_reader.specs.WantedPieces.{HearsTo, kept_value}
use Rattle.four_state.specs.Vector.{Vector}
use Rattle.std.specs.List.{All}
use Rattle.std.proofs.lemmas.List.Elements.{All-nil}
use Rattle.vcd_reader.specs.declared.body.Body.{Body as BodyRow}
use Rattle.vcd_reader.specs.declared.entry.Entry.{Entry}
use Rattle.vcd_reader.specs.declared.fault.DumpFault.{DumpFault}
use Rattle.std.specs.Prelude.{Result, Ok, Err, OnOk, IfErr}
use Rattle.vcd_reader.specs.declared.item.Heard.{Heard}
use Rattle.vcd_reader.specs.declared.item.Saying.{Saying}
use Rattle.vcd_reader.specs.declared.item.Saying.TheVariants as saying
use Rattle.vcd_reader.specs.declared.item.Item.{Item}
use Rattle.vcd_reader.specs.declared.item.Item.TheVariants as item
use Rattle.vcd_reader.specs.declared.vars.Var.{Var}
use Rattle.cover_points.specs.declared.listing.Points.{Points}
use Rattle.dump_replay.specs.Faults.{IsReplayFault}
use Rattle.dump_replay.specs.Followed.{HasFollowed}
use Rattle.dump_replay.specs.declared.replay.DumpReplay.{DumpReplay}
use Rattle.entry_laws.proofs.Texts.{body_entries, entries_so_far}
use Rattle.entry_laws.specs.Entries.{AreEntries}
use Rattle.dump_replay.specs.replay_core.declared.fault.ReplayFault.{ReplayFault}
use Rattle.dump_score.specs.Faults.{IsEndFault, IsFoundFault}
use Rattle.dump_score.specs.Scoring.{CanSay, HasScored, IsReading, IsScoring, IsScoringSome, entries_of}
use Rattle.dump_score.specs.declared.fault.ScoreFault.TheVariants as fault

-- what a step over a piece that is not empty leaves
pub record Stepped (says : Item) (used : ℕ) (body : BodyRow) (text piece : List ℕ) (b : Body) : Type 0 where
  pub at_least : 1 ≤ used
  pub at_most : used ≤ length piece
  pub next : Body
  pub read : BodyHasRead body (text ++ take used piece) next
  pub items : next.items ≡ b.items ++ entries_of says
  pub vars : next.vars ≡ b.vars

pub stepped : (says : Item) (used : ℕ) (body : BodyRow) (text piece : List ℕ) (b : Body) → 0 < length piece → StepsTo says used body text piece b → Stepped says used body text piece b
stepped says used body text [] b some s = absurd (omega (arith, some))
stepped (item.Time time) used body text (byte ∷ piece) b some s = record { at_least = s.steps.at_least; at_most = s.steps.at_most; next = s.steps.next.next; read = record { sound = s.sound; stands = s.steps.next.stands }; items = s.steps.next.said.items; vars = s.steps.next.said.vars }
stepped (item.Value code value) used body text (byte ∷ piece) b some s = record { at_least = s.steps.at_least; at_most = s.steps.at_most; next = s.steps.next.next; read = record { sound = s.sound; stands = s.steps.next.stands }; items = s.steps.next.said.items; vars = s.steps.next.said.vars }
stepped item.Off used body text (byte ∷ piece) b some s = record { at_least = s.steps.at_least; at_most = s.steps.at_most; next = s.steps.next.next; read = record { sound = s.sound; stands = s.steps.next.stands }; items = s.steps.next.said.items; vars = s.steps.next.said.vars }
stepped (item.On time) used body text (byte ∷ piece) b some s = record { at_least = s.steps.at_least; at_most = s.steps.at_most; next = s.steps.next.next; read = record { sound = s.sound; stands = s.steps.next.stands }; items = s.steps.next.said.items; vars = s.steps.next.said.vars }
stepped item.More used body text (byte ∷ piece) b some s =
    let all : take used (byte ∷ piece) ≡ byte ∷ piece = ap (λ n. take n (byte ∷ piece)) s.steps.all ∙ take-length (byte ∷ piece) in
    record {
      at_least = omega (arith, s.steps.all);
      at_most = omega (arith, s.steps.all);
      next = s.steps.next.next;
      read = subst (λ t. BodyHasRead body (text ++ t) s.steps.next.next) (sym all) (record { sound = s.sound; stands = s.steps.next.stands });
      items = s.steps.next.said.items;
      vars = s.steps.next.said.vars;
    }
stepped item.End used body text (byte ∷ piece) b some s = absurd s.steps

-- it holds of the body with some more changes, of codes that are not wanted
pub record Passed (wanted : List Bool) (b : Body) (P : Body → Type 0) : Type 0 where
  pub passed : List Entry
  pub unwanted : All (IsUnwanted wanted) passed
  pub then : P (saying_more b passed)

pub none_passed : (wanted : List Bool) (b : Body) (P : Body → Type 0) → P b → Passed wanted b P
none_passed wanted b P p = record { passed = []; unwanted = All-nil (IsUnwanted wanted); then = subst (λ (items : List Entry). P (record b { items = items })) (sym (append-nil b.items)) p }

pub heard : (wanted : List Bool) (says : Saying) (value : Vector) (used : ℕ) (body : BodyRow) (text piece : List ℕ) (b : Body) → value ≡ kept_value body → HearsTo wanted says used body text piece b → Passed wanted b (StepsTo (item_by says value) used body text piece)
heard wanted says value used body text piece b is h =
    record { passed = h.passed; unwanted = h.unwanted; then = subst (λ (v : Vector). StepsTo (item_by says v) used body text piece (saying_more b h.passed)) (sym is) h.steps }

-- the calls of a step
abbrev pub Steps : List Bool → Item → ℕ → BodyRow → BodyRow → List ℕ → Type 0
Steps wanted says used body new piece = (text : List ℕ) (b : Body) → BodyHasRead body text b → Passed wanted b (StepsTo says used new text piece)

-- what is not wanted changes nothing
abbrev pub PassesOver : List Bool → DumpReplay → Type 0
PassesOver wanted replay =
    (habit : Habit) (design : Design) (points : Points) (vars : List Var) (instance : List ℕ) (entries passed : List Entry) → HasFollowed replay habit design points vars instance entries → All (IsUnwanted wanted) passed
    → HasFollowed replay habit design points vars instance (entries ++ passed)

-- what is said is given to the replay
abbrev pub Says : Item → DumpReplay → DumpReplay → Type 0
Says says replay told =
    (habit : Habit) (design : Design) (points : Points) (vars : List Var) (instance : List ℕ) (entries : List Entry) → AreEntries vars (entries ++ entries_of says) → AreOrdered (entries ++ entries_of says)
    → HasFollowed replay habit design points vars instance entries → HasFollowed told habit design points vars instance (entries ++ entries_of says)

-- or the fault is one of what is said
abbrev pub Faults : Item → DumpReplay → ReplayFault → Type 0
Faults says replay f =
    (habit : Habit) (design : Design) (points : Points) (vars : List Var) (instance : List ℕ) (entries : List Entry) → AreEntries vars (entries ++ entries_of says) → AreOrdered (entries ++ entries_of says)
    → HasFollowed replay habit design points vars instance entries → IsReplayFault habit design vars instance (entries ++ entries_of says) f

ordered_read : (body : BodyRow) (text : List ℕ) (b : Body) → BodyHasRead body text b → AreOrdered b.items
ordered_read body text b read = ordered_so_far text read.stands.word b read.stands.stands

fit_read : (body : BodyRow) (text : List ℕ) (b : Body) → BodyHasRead body text b → AreEntries b.vars b.items
fit_read body text b read = entries_so_far text read.stands.word b read.stands.stands

pub reading_step : (wanted : List Bool) (says : Item) (used : ℕ) (body new : BodyRow) (piece : List ℕ) → 0 < length piece → Steps wanted says used body new piece → IsReading body → IsReading new × (1 ≤ used) × (used ≤ length piece)
reading_step wanted says used body new piece some steps (text, b, read) =
    let p = steps text b read in
    let s = stepped says used new text piece (saying_more b p.passed) some p.then in
    ((text ++ take used piece, s.next, s.read), s.at_least, s.at_most)

-- the text of a part of a piece, and then of what is left of it
pub further : (text piece : List ℕ) (used more : ℕ) → (text ++ take used piece) ++ take more (drop used piece) ≡ text ++ take (used + more) piece
further text piece used more = append_assoc text (take used piece) (take more (drop used piece)) ∙ ap (λ t. text ++ t) (sym (take-add used more piece))

pub all_of : (text piece : List ℕ) (used : ℕ) → (text ++ take used piece) ++ drop used piece ≡ text ++ piece
all_of text piece used = append_assoc text (take used piece) (drop used piece) ∙ ap (λ t. text ++ t) (take-append-drop used piece)

fault_at : (habit : Habit) (design : Design) (vars : List Var) (instance : List ℕ) (f : ReplayFault) (b : Body) (entries : List Entry) → b.vars ≡ vars → b.items ≡ entries → IsReplayFault habit design vars instance entries f → IsReplayFault habit design b.vars instance b.items f
fault_at habit design vars instance f b entries e g h =
    subst (λ vs. IsReplayFault habit design vs instance b.items f) (sym e) (subst (λ es. IsReplayFault habit design vars instance es f) (sym g) h)

-- what the replay finds is a fault of what was read
pub saying_found : (habit : Habit) (design : Design) (vars : List Var) (instance text rest : List ℕ) (body : BodyRow) (b : Body) (entries : List Entry) (f : ReplayFault) → b.vars ≡ vars → b.items ≡ entries → BodyHasRead body text b → IsReplayFault habit design vars instance entries f → IsFoundFault habit design instance (text ++ rest) (fault.Replay f)
saying_found habit design vars instance text rest body b entries f e g read h =
    (b, record { front = text; rest = rest; word = read.stands.word; split = refl; stands = read.stands.stands }, fault_at habit design vars instance f b entries e g h)

pub saying_ends : (habit : Habit) (design : Design) (vars : List Var) (instance text : List ℕ) (b : Body) (entries : List Entry) (f : ReplayFault) → b.vars ≡ vars → b.items ≡ entries → EndsAs text b → IsReplayFault habit design vars instance entries f → IsEndFault habit design instance text (fault.Replay f)
saying_ends habit design vars instance text b entries f e g ends h = (b, ends, fault_at habit design vars instance f b entries e g h)

-- a step from what was read so far
module _ (wanted : List Bool) (says : Item) (used : ℕ) (body new : BodyRow) (replay : DumpReplay) (piece : List ℕ) (some : 0 < length piece) (steps : Steps wanted says used body new piece) (passes : PassesOver wanted replay)
    (habit : Habit) (design : Design) (points : Points) (vars : List Var) (instance text : List ℕ) (is : IsScoring body replay habit design points vars instance text) where
  passing : Passed wanted is.b (StepsTo says used new text piece)
  passing = steps text is.b is.stands

  after_step : Stepped says used new text piece (saying_more is.b passing.passed)
  after_step = stepped says used new text piece (saying_more is.b passing.passed) some passing.then

  -- what was said before the step
  abbrev said : List Entry
  said = is.b.items ++ passing.passed

  said_followed : HasFollowed replay habit design points vars instance said
  said_followed = passes habit design points vars instance is.b.items passing.passed is.followed passing.unwanted

  said_ordered : AreOrdered (said ++ entries_of says)
  said_ordered = subst AreOrdered after_step.items (ordered_read new (text ++ take used piece) after_step.next after_step.read)

  said_fits : AreEntries vars (said ++ entries_of says)
  said_fits =
      subst (λ es. AreEntries vars es) after_step.items
      (subst (λ vs. AreEntries vs after_step.next.items) (after_step.vars ∙ is.vars_are) (fit_read new (text ++ take used piece) after_step.next after_step.read))

  step_can_say : CanSay replay says
  step_can_say = (habit, design, points, vars, instance, said, said_followed, said_fits, said_ordered)

  pub scored_step : (told : DumpReplay) → Says says replay told → IsScoring new told habit design points vars instance (text ++ take used piece)
  scored_step told tells = record {
    b = after_step.next;
    stands = after_step.read;
    vars_are = after_step.vars ∙ is.vars_are;
    followed = subst (λ entries. HasFollowed told habit design points vars instance entries) (sym after_step.items) (tells habit design points vars instance said said_fits said_ordered said_followed);
  }

  pub step_found : (f : ReplayFault) → Faults says replay f → IsFoundFault habit design instance (text ++ piece) (fault.Replay f)
  step_found f faults =
      subst (λ t. IsFoundFault habit design instance t (fault.Replay f)) (all_of text piece used)
      (saying_found habit design vars instance (text ++ take used piece) (drop used piece) new after_step.next (said ++ entries_of says) f (after_step.vars ∙ is.vars_are) after_step.items after_step.read (faults habit design points vars instance said said_fits said_ordered said_followed))

-- the replay can be given what the step says
pub can_say : (wanted : List Bool) (says : Item) (used : ℕ) (body new : BodyRow) (replay : DumpReplay) (piece : List ℕ) → 0 < length piece → Steps wanted says used body new piece → PassesOver wanted replay → IsScoringSome body replay → CanSay replay says
can_say wanted says used body new replay piece some steps passes (habit, design, points, vars, instance, text, is) = step_can_say wanted says used body new replay piece some steps passes habit design points vars instance text is

-- and some text was read then
pub scoring_some : (wanted : List Bool) (says : Item) (used : ℕ) (body new : BodyRow) (replay told : DumpReplay) (piece : List ℕ) → 0 < length piece → Steps wanted says used body new piece → PassesOver wanted replay → Says says replay told → IsScoringSome body replay → IsScoringSome new told
scoring_some wanted says used body new replay told piece some steps passes tells (habit, design, points, vars, instance, text, is) =
    (habit, design, points, vars, instance, text ++ take used piece, scored_step wanted says used body new replay piece some steps passes habit design points vars instance text is told tells)

-- a body of which some text was read goes on
pub some_reading : (body : BodyRow) (replay : DumpReplay) → IsScoringSome body replay → IsReading body
some_reading body replay (habit, design, points, vars, instance, text, is) = (text, is.b, is.stands)

-- ---- the end

-- what the end of the input leaves
pub record EndStepped (says : Item) (text : List ℕ) (b : Body) : Type 0 where
  pub next : Body
  pub ends : EndsAs text next
  pub items : next.items ≡ b.items ++ entries_of says
  pub vars : next.vars ≡ b.vars

pub end_stepped : (says : Item) (used : ℕ) (body : BodyRow) (text : List ℕ) (b : Body) → StepsTo says used body text [] b → EndStepped says text b
end_stepped (item.Time time) used body text b s = record { next = s.steps.next; ends = s.steps.ended.ends; items = s.steps.said.items; vars = s.steps.said.vars }
end_stepped (item.Value code value) used body text b s = record { next = s.steps.next; ends = s.steps.ended.ends; items = s.steps.said.items; vars = s.steps.said.vars }
end_stepped item.Off used body text b s = record { next = s.steps.next; ends = s.steps.ended.ends; items = s.steps.said.items; vars = s.steps.said.vars }
end_stepped (item.On time) used body text b s = record { next = s.steps.next; ends = s.steps.ended.ends; items = s.steps.said.items; vars = s.steps.said.vars }
end_stepped item.More used body text b s = absurd s.steps
end_stepped item.End used body text b s = record { next = s.steps.next; ends = s.steps.ended.ends; items = s.steps.said.items; vars = s.steps.said.vars }

pub end_heard : (wanted : List Bool) (says : Saying) (value : Vector) (used : ℕ) (body : BodyRow) (text : List ℕ) (b : Body) → value ≡ kept_value body → HearsTo wanted says used body text [] b → Passed wanted b (EndStepped (item_by says value) text)
end_heard wanted says value used body text b is h =
    let p = heard wanted says value used body text [] b is h in
    record { passed = p.passed; unwanted = p.unwanted; then = end_stepped (item_by says value) used body text (saying_more b p.passed) p.then }

pub ended_again : (text : List ℕ) (b : Body) → EndsAs text b → EndStepped item.End text b
ended_again text b ends = record { next = b; ends = ends; items = sym (append-nil b.items); vars = refl }

-- the end of what was read so far
module _ (says : Item) (replay : DumpReplay) (habit : Habit) (design : Design) (points : Points) (vars : List Var) (instance text : List ℕ) (b : Body) (s : EndStepped says text b) (vars_are : b.vars ≡ vars) (followed : HasFollowed replay habit design points vars instance b.items) where
  end_ordered : AreOrdered (b.items ++ entries_of says)
  end_ordered = subst AreOrdered s.items (ordered_at_end text s.next s.ends)

  end_fits : AreEntries vars (b.items ++ entries_of says)
  end_fits = subst (λ es. AreEntries vars es) s.items (subst (λ vs. AreEntries vs s.next.items) (s.vars ∙ vars_are) (body_entries text s.next (inr s.ends)))

  pub end_can_say : CanSay replay says
  end_can_say = (habit, design, points, vars, instance, b.items, followed, end_fits, end_ordered)

  pub scored_end : (told : DumpReplay) → Says says replay told → HasScored told habit design points vars instance text
  scored_end told tells = record {
    b = s.next;
    ends = s.ends;
    vars_are = s.vars ∙ vars_are;
    followed = subst (λ entries. HasFollowed told habit design points vars instance entries) (sym s.items) (tells habit design points vars instance b.items end_fits end_ordered followed);
  }

  pub end_fault : (f : ReplayFault) → Faults says replay f → IsEndFault habit design instance text (fault.Replay f)
  end_fault f faults = saying_ends habit design vars instance text s.next (b.items ++ entries_of says) f (s.vars ∙ vars_are) s.items s.ends (faults habit design points vars instance b.items end_fits end_ordered followed)

-- ---- a part of a piece

pub say_found_in_piece : (wanted : List Bool) (says : Item) (step used : ℕ) (body new : BodyRow) (replay : DumpReplay) (piece : List ℕ) (habit : Habit) (design : Design) (points : Points) (vars : List Var) (instance text : List ℕ) (f : ReplayFault) → 0 < length (drop used piece) → Steps wanted says step body new (drop used piece) → PassesOver wanted replay
    → Faults says replay f → IsScoring body replay habit design points vars instance (text ++ take used piece) → IsFoundFault habit design instance (text ++ piece) (fault.Replay f)
say_found_in_piece wanted says step used body new replay piece habit design points vars instance text f some steps passes faults is =
    subst (λ t. IsFoundFault habit design instance t (fault.Replay f)) (all_of text piece used) (step_found wanted says step body new replay (drop used piece) some steps passes habit design points vars instance (text ++ take used piece) is f faults)

pub scored_further : (wanted : List Bool) (says : Item) (step used : ℕ) (body new : BodyRow) (replay told : DumpReplay) (piece : List ℕ) (habit : Habit) (design : Design) (points : Points) (vars : List Var) (instance text : List ℕ) → 0 < length (drop used piece) → Steps wanted says step body new (drop used piece) → PassesOver wanted replay
    → Says says replay told → IsScoring body replay habit design points vars instance (text ++ take used piece) → IsScoring new told habit design points vars instance (text ++ take (used + step) piece)
scored_further wanted says step used body new replay told piece habit design points vars instance text some steps passes tells is =
    subst (λ t. IsScoring new told habit design points vars instance t) (further text piece used step) (scored_step wanted says step body new replay (drop used piece) some steps passes habit design points vars instance (text ++ take used piece) is told tells)

pub OnOk-map : {T E P Q : Type 0} (result : Result T E) → (P → Q) → OnOk result P → OnOk result Q
OnOk-map (Ok value) step holds = step holds
OnOk-map (Err fault) step holds = tt

pub IfErr-map : {T E : Type 0} {P Q : E → Type 0} (result : Result T E) → ((fault : E) → P fault → Q fault) → IfErr result P → IfErr result Q
IfErr-map (Ok value) step holds = tt
IfErr-map (Err fault) step holds = step fault holds

-- what a step said
abbrev pub saying_in : Result Heard DumpFault → Saying
saying_in (Ok heard) = heard.saying
saying_in (Err f) = saying.End

-- at the end of the input nothing more is said
pub end_again : (says : Item) (text : List ℕ) (b : Body) → says ≡ item.End → EndsAs text b → EndStepped says text b
end_again says text b e ends = subst (λ i. EndStepped i text b) (sym e) (ended_again text b ends)
