-- Each term of a design that is answered has its shape, and is well formed.
use Rattle.std.proofs.Common.{◌≡◌, ◌⊎◌, inl, inr, ℕ, ◌+◌, ◌&&◌, max, true, false, List, [], ◌∷◌, ◌++◌, None, Ok, refl, sym, ap, ◌∙◌, subst, length, arith}
use Rattle.std.specs.Prelude.{bytes_eq}
use Rattle.std.proofs.lemmas.Bool.{lt-ltb}
use Rattle.design_model.specs.Assignment.{target_width}
use Rattle.design_model.specs.Design.{Design, In, body, body_at, signal_at}
use Rattle.design_model.specs.Shape.{is_body, is_shaped, is_target, own_sign, own_width}
use Rattle.design_model.specs.Tree as t
use Rattle.design_model.specs.Tree.{Process, Stmt, Term, all_of}
use Rattle.design_model.specs.WellFormed.{is_well_formed, is_well_formed_body, is_well_formed_target}
use Rattle.verilog_tree.specs.Tree.{Expr, InstanceItem, Item, Module, One, Statement, always_item, place_of}
use Rattle.verilog_tree.specs.declared.item.When.{When}
use Rattle.elab_const.specs.Meaning.{shape_as}
use Rattle.elab_const.specs.Scope.{IsWidth}
use Rattle.flat_design.specs.Bodies.{met, met_faults, met_process, met_writing, met_writings, statement}
use Rattle.flat_design.specs.Connections.{JoinedPort}
use Rattle.flat_design.specs.Expressions.{faults}
use Rattle.flat_design.specs.Fault.{none}
use Rattle.flat_design.specs.Faults.{answer}
use Rattle.flat_design.specs.Flat.{elaborated}
use Rattle.flat_design.specs.Instances.{Instantiation, Sofar, add_process, context}
use Rattle.flat_design.specs.Numbering.{nodes}
use Rattle.flat_design.specs.Processes.{Made, incomplete_faults, mixed_faults, mode_of, self_faults, uncounted, when_faults, whole_writing, writings}
use Rattle.flat_design.specs.Scope.{Scope, range_width, shape}
use Rattle.flat_design.specs.Targets.{target, target_faults}
use Rattle.flat_design.specs.Terms.{head_as, right_side}
use Rattle.flat_laws.specs.Literals.{item_literals, literals}
use Rattle.flat_laws.specs.Tokens.{AreOfTokens}
use Rattle.flat_design.specs.declared.entry.Mode.TheVariants.{Continuous}
use Rattle.flat_design.specs.declared.entry.SignalEntry.{SignalEntry}
use Rattle.flat_laws.proofs.Continues.{Continues, continues_meet, continues_opened, continues_process, continues_same, continues_twice}
use Rattle.flat_laws.proofs.EntryWidths.{AreFit, AreOverrides, EntryWidth, HasWidths, expr_width, max_width, overrides_fit, scope_widths}
use Rattle.flat_laws.proofs.Freedom.{IsFree, IsSound, answered_sound, both_empty, free_faults, free_parts}
use Rattle.flat_laws.proofs.LawfulBase.{base_is}
use Rattle.flat_laws.proofs.LawfulBounds.{HasBoundedSignals, scope_bounded}
use Rattle.flat_laws.proofs.LawfulEvents.{at_process, known_below, known_top}
use Rattle.flat_laws.proofs.LawfulLimits.{base_of, answered_keeps, answered_design}
use Rattle.flat_laws.proofs.LawfulPaths.{found_in, opening_parts}
use Rattle.flat_laws.proofs.LawfulScope.{HasAliases, EntryMatches, MatchesSignal, scope_matches}
use Rattle.flat_laws.proofs.LawfulSound.{scope_sound}
use Rattle.flat_laws.proofs.LawfulTargets.{IsGoodScope, good_scope}
use Rattle.flat_laws.proofs.LawfulWriters.{body_of, free_body}
use Rattle.flat_laws.proofs.LiteralFits.{assigned_fit, item_fit, overrides_literals, params_fit, port_fit}
use Rattle.flat_laws.proofs.Members.{both_true, in_append}
use Rattle.flat_laws.proofs.OwnShapes.{own_shape}
use Rattle.flat_laws.proofs.ShapedBodies.{assignment_shaped, body_shaped}
use Rattle.flat_laws.proofs.ShapedTargets.{same_width, target_clean, target_shaped}
use Rattle.flat_laws.proofs.ShapedTerms.{head_shaped, shaped, sound_width}
use Rattle.flat_laws.proofs.Steps.{Steps, Here, Inside, IsAssigned, IsBelow, IsJoined, inner_of, made_assign, made_always, made_input, made_output}
use Rattle.flat_laws.proofs.UncountedTerms as plain
use Rattle.flat_laws.proofs.WellFormedBodies.{assignment_well, body_well}
use Rattle.flat_laws.proofs.WellFormedTargets.{target_well}
use Rattle.flat_laws.proofs.WellFormedTerms.{well}

-- what is known of an instance that is to be opened
record IsKnown (ms : List Module) (i : Instantiation) (st : Sofar) : Type 0 where
  aliases : HasAliases st.design.signals i
  module_in : In i.of_module ms
  overrides : AreOverrides i.overrides

-- the terms of the body have their shapes and are well formed
abbrev IsGoodBody : Design → Stmt → Type 0
IsGoodBody d b = (is_body d b ≡ true) × (is_well_formed_body d b ≡ true)

-- each body so far has its shapes in each design that goes on from here
abbrev HaveShapes : ℕ → Sofar → Type 0
HaveShapes base st = (x : Process) → In x st.design.processes → (now : Sofar) → Continues st now → base ≡ length now.design.signals → IsGoodBody now.design (body x)

shaped_process : (base : ℕ) (m : Made) (st : Sofar) → ((now : Sofar) → Continues st now → base ≡ length now.design.signals → IsGoodBody now.design (body m.process)) → HaveShapes base st → HaveShapes base (add_process m st)
shaped_process base m st here all x x_in now later base_is = by_place (in_append x st.design.processes (m.process ∷ []) x_in)
  where
    from : Continues st now
    from = continues_twice (continues_process m st) later

    by_place : In x st.design.processes ⊎ In x (m.process ∷ []) → IsGoodBody now.design (body x)
    by_place (inl k) = all x k now from base_is
    by_place (inr (inl e)) = subst (λ z. IsGoodBody now.design (body z)) e (here now from base_is)
    by_place (inr (inr k)) = absurd k

-- a port that is assigned the value of an expression
input_shaped : (d : Design) (base : ℕ) → base ≡ length d.signals → (g : Scope) → IsGoodScope d.signals d.memories g → HasWidths g → (e : Expr) → AreFit (literals e) → none (faults g e) ≡ true → (s : SignalEntry) → MatchesSignal d.signals s → IsWidth (range_width s.range) →
    (is_target d (all_of s.number) && is_shaped d (max (target_width d (all_of s.number)) (own_width d (uncounted (right_side base g (range_width s.range) e 0)))) (own_sign d (uncounted (right_side base g (range_width s.range) e 0))) (uncounted (right_side base g (range_width s.range) e 0))) ≡ true
input_shaped d base base_is g good wide e fit free s matches small =
    let c = shape_as (max (range_width s.range) (shape g e).width) (shape g e).signed in
    let right : Term = right_side base g (range_width s.range) e 0 in
    let own = own_shape d base base_is g good e free 0 c in
    let width : IsWidth c.width = max_width (range_width s.range) (shape g e).width small (sound_width d base base_is g good wide e fit free) in
    let greater : max (target_width d (all_of s.number)) (own_width d (uncounted right)) ≡ c.width = rw (plain.same_width d right, own.width, matches.width) refl in
    let signed : own_sign d (uncounted right) ≡ c.signed = plain.same_own_sign d right ∙ own.signed in
    both_true _ _ (lt-ltb s.number (length d.signals) matches.number)
    (subst (λ w. is_shaped d w (own_sign d (uncounted right)) (uncounted right) ≡ true) (sym greater)
    (subst (λ b. is_shaped d c.width b (uncounted right) ≡ true) (sym signed) (plain.same_shaped d c.width c.signed right ∙ shaped d base base_is g good wide e fit free 0 c width)))

input_well : (d : Design) (base : ℕ) → base ≡ length d.signals → (g : Scope) → IsGoodScope d.signals d.memories g → (e : Expr) → none (faults g e) ≡ true → (s : SignalEntry) → (is_well_formed_target d (all_of s.number) && is_well_formed d false (uncounted (right_side base g (range_width s.range) e 0))) ≡ true
input_well d base base_is g good e free s = plain.uncounted_well d false (right_side base g (range_width s.range) e 0) (well d base base_is g good e free 0 (shape_as (max (range_width s.range) (shape g e).width) (shape g e).signed))

-- a target that is assigned the signal of a port
output_shaped : (d : Design) (base : ℕ) → base ≡ length d.signals → (g : Scope) → IsGoodScope d.signals d.memories g → HasWidths g → (e : Expr) → AreFit (literals e) → none (target_faults g Continuous e) ≡ true → (s : SignalEntry) → MatchesSignal d.signals s → IsWidth (range_width s.range) →
    (is_target d (target base g e 0) && is_shaped d (max (target_width d (target base g e 0)) (signal_at d s.number).width) (signal_at d s.number).signed (t.signal (head_as (place_of e) (shape_as (max (range_width s.range) (shape g e).width) s.signed) None) s.number)) ≡ true
output_shaped d base base_is g good wide e fit free s matches small =
    let c = shape_as (max (range_width s.range) (shape g e).width) s.signed in
    let right : Term = t.signal (head_as (place_of e) c None) s.number in
    let width : IsWidth c.width = max_width (range_width s.range) (shape g e).width small (expr_width g wide e fit (target_clean d base base_is g good wide Continuous e free)) in
    let greater : max (target_width d (target base g e 0)) (signal_at d s.number).width ≡ c.width = rw (same_width d base base_is g good wide Continuous e free 0, matches.width) (either (shape g e).width (range_width s.range)) in
    both_true _ _ (target_shaped d base base_is g good wide Continuous e fit free 0)
    (subst (λ w. is_shaped d w (signal_at d s.number).signed right ≡ true) (sym greater)
    (subst (λ b. is_shaped d c.width b right ≡ true) (sym matches.signed) (both_true _ _ (head_shaped (place_of e) c None width) (lt-ltb s.number (length d.signals) matches.number))))
  where
    either : (a b : ℕ) → max a b ≡ max b a
    either a b = omega arith

module _ (base : ℕ) (ms : List Module) (tokens : AreOfTokens ms) where
  -- the scope of an instance
  wide_scope : (i : Instantiation) (before st : Sofar) → IsKnown ms i st → HasWidths (context base i before).scope
  wide_scope i before st known = scope_widths i (length before.design.signals) (length before.design.memories) known.overrides (params_fit ms tokens i.of_module known.module_in)

  bounded_scope : (i : Instantiation) (before : Sofar) → HasBoundedSignals (context base i before).scope
  bounded_scope i before = scope_bounded i (length before.design.signals) (length before.design.memories)

  shaped_assign : (depth : ℕ) (i : Instantiation) (before st : Sofar) → Here (λ depth. IsKnown ms) depth i before st → (x : Item) → In x i.of_module.items → (y v : Expr) (n : ℕ) → IsAssigned x.form y v →
      IsFree (made_assign base i before st x.place y v n).met → (now : Sofar) → Continues st now → base ≡ length now.design.signals → IsGoodBody now.design (body (made_assign base i before st x.place y v n).process)
  shaped_assign depth i before st here x x_in y v n assigned free now later base_is =
      let g = (context base i before).scope in
      let good = good_scope base ms tokens i before now here.known.module_in here.opening here.known.aliases (continues_twice here.continues later) in
      let fs = target_faults g Continuous y ++ faults g v in
      let k = length st.design.processes in
      let rest : IsFree (met_faults fs ++ met_writings g Continuous true true k y ++ met_faults (self_faults g y v)) = record { no_fault = free.no_fault } in
      let fs_free = free_faults fs (free_parts (met_faults fs) (met_writings g Continuous true true k y) (free_parts (met_faults fs ++ met_writings g Continuous true true k y) (met_faults (self_faults g y v)) rest).0).0 in
      let parts = both_empty (target_faults g Continuous y) (faults g v) fs_free in
      let fit = assigned_fit x.form y v (item_fit ms tokens i.of_module here.known.module_in x x_in) assigned in (
        assignment_shaped now.design base base_is g good (wide_scope i before before here.known) Continuous y v fit.0 fit.1 (ap none parts.0) (ap none parts.1) n (n + nodes g y),
        assignment_well now.design base base_is g good (wide_scope i before before here.known) (bounded_scope i before) Continuous y v fit.0 (ap none parts.0) (ap none parts.1) n (n + nodes g y),
      )

  shaped_always : (depth : ℕ) (i : Instantiation) (before st : Sofar) → Here (λ depth. IsKnown ms) depth i before st → (x : Item) → In x i.of_module.items → (w : When) (s : Statement) (l n : ℕ) → x.form ≡ always_item w s →
      IsFree (made_always base i before st x.place w s l n).met → (now : Sofar) → Continues st now → base ≡ length now.design.signals → IsGoodBody now.design (body (made_always base i before st x.place w s l n).process)
  shaped_always depth i before st here x x_in w s l n form free now later base_is =
      let g = (context base i before).scope in
      let k = length st.design.processes in
      let good = good_scope base ms tokens i before now here.known.module_in here.opening here.known.aliases (continues_twice here.continues later) in
      let ms2 = met g (mode_of w) k s in
      let fit = subst (λ f. AreFit (item_literals f)) form (item_fit ms tokens i.of_module here.known.module_in x x_in) in
      subst (IsGoodBody now.design) (sym (body_of g (length before.design.instances) w s (statement base g s l n)))
      (let sound = free_body (when_faults g w) (mixed_faults (writings ms2) ++ incomplete_faults g w s) ms2 (met_process x.place) free in
      (body_shaped now.design base base_is g good (wide_scope i before before here.known) (mode_of w) k s fit sound l n, body_well now.design base base_is g good (wide_scope i before before here.known) (bounded_scope i before) (mode_of w) k s fit sound l n))

  -- the signal of a port in the inner scope
  port_matches : (depth : ℕ) (i : Instantiation) (before at st : Sofar) (x : Item) (k : InstanceItem) (m : Module) (o : One) → Inside base ms (λ depth. IsKnown ms) depth i before at st x k m o → (j : JoinedPort) (s : SignalEntry) → IsJoined base i before at x k m o j s → (now : Sofar) → Continues st now → MatchesSignal now.design.signals s
  port_matches depth i before at st x k m o inside j s joined now later =
      subst (EntryMatches now.design.signals now.design.memories) joined.entry (scope_matches base (inner_of (context base i before) x.place k m o) at now inside.known.aliases (continues_twice inside.continues later) j.port.name.name)

  port_width : (depth : ℕ) (i : Instantiation) (before at st : Sofar) (x : Item) (k : InstanceItem) (m : Module) (o : One) → Inside base ms (λ depth. IsKnown ms) depth i before at st x k m o → (j : JoinedPort) (s : SignalEntry) → IsJoined base i before at x k m o j s → IsWidth (range_width s.range)
  port_width depth i before at st x k m o inside j s joined = subst EntryWidth joined.entry ((wide_scope (inner_of (context base i before) x.place k m o) at at inside.known).widths j.port.name.name)

  outer_scope : (depth : ℕ) (i : Instantiation) (before at st : Sofar) (x : Item) (k : InstanceItem) (m : Module) (o : One) → Inside base ms (λ depth. IsKnown ms) depth i before at st x k m o → (now : Sofar) → Continues st now → IsGoodScope now.design.signals now.design.memories (context base i before).scope
  outer_scope depth i before at st x k m o inside now later =
      good_scope base ms tokens i before now inside.outer.known.module_in inside.outer.opening inside.outer.known.aliases
      (continues_twice inside.outer.continues (continues_twice (continues_opened (inner_of (context base i before) x.place k m o) at) (continues_twice inside.continues later)))

  connection_fit : (depth : ℕ) (i : Instantiation) (before at st : Sofar) (x : Item) (k : InstanceItem) (m : Module) (o : One) → Inside base ms (λ depth. IsKnown ms) depth i before at st x k m o → (j : JoinedPort) (s : SignalEntry) → IsJoined base i before at x k m o j s → AreFit (literals j.value)
  connection_fit depth i before at st x k m o inside j s joined =
      port_fit (context base i before) k m o (subst (λ f. AreFit (item_literals f)) inside.below.form (item_fit ms tokens i.of_module inside.outer.known.module_in x inside.below.item_in)) inside.below.one_in j joined.port_in

  shaped_input : (depth : ℕ) (i : Instantiation) (before at st : Sofar) (x : Item) (k : InstanceItem) (m : Module) (o : One) → Inside base ms (λ depth. IsKnown ms) depth i before at st x k m o → (j : JoinedPort) (s : SignalEntry) → IsJoined base i before at x k m o j s →
      IsFree (made_input base i before st x.place j s).met → (now : Sofar) → Continues st now → base ≡ length now.design.signals → IsGoodBody now.design (body (made_input base i before st x.place j s).process)
  shaped_input depth i before at st x k m o inside j s joined free now later base_is =
      let g = (context base i before).scope in
      let rest : IsFree (met_faults (faults g j.value) ++ met_writing (whole_writing (length st.design.processes) j.label s) ∷ []) = record { no_fault = free.no_fault } in
      let sound = free_faults (faults g j.value) (free_parts (met_faults (faults g j.value)) (met_writing (whole_writing (length st.design.processes) j.label s) ∷ []) rest).0 in (
        input_shaped now.design base base_is g (outer_scope depth i before at st x k m o inside now later) (wide_scope i before before inside.outer.known) j.value (connection_fit depth i before at st x k m o inside j s joined) (ap none sound) s
            (port_matches depth i before at st x k m o inside j s joined now later) (port_width depth i before at st x k m o inside j s joined),
        input_well now.design base base_is g (outer_scope depth i before at st x k m o inside now later) j.value (ap none sound) s,
      )

  shaped_output : (depth : ℕ) (i : Instantiation) (before at st : Sofar) (x : Item) (k : InstanceItem) (m : Module) (o : One) → Inside base ms (λ depth. IsKnown ms) depth i before at st x k m o → (j : JoinedPort) (s : SignalEntry) → IsJoined base i before at x k m o j s →
      IsFree (made_output base i before st x.place j s).met → (now : Sofar) → Continues st now → base ≡ length now.design.signals → IsGoodBody now.design (body (made_output base i before st x.place j s).process)
  shaped_output depth i before at st x k m o inside j s joined free now later base_is =
      let g = (context base i before).scope in
      let p = length st.design.processes in
      let rest : IsFree (met_faults (target_faults g Continuous j.value) ++ met_writings g Continuous true true p j.value) = record { no_fault = free.no_fault } in
      let sound = free_faults (target_faults g Continuous j.value) (free_parts (met_faults (target_faults g Continuous j.value)) (met_writings g Continuous true true p j.value) rest).0 in (
        output_shaped now.design base base_is g (outer_scope depth i before at st x k m o inside now later) (wide_scope i before before inside.outer.known) j.value (connection_fit depth i before at st x k m o inside j s joined) (ap none sound) s
            (port_matches depth i before at st x k m o inside j s joined now later) (port_width depth i before at st x k m o inside j s joined),
        both_true _ true (target_well now.design base base_is g (outer_scope depth i before at st x k m o inside now later) (wide_scope i before before inside.outer.known) (bounded_scope i before) Continuous j.value (connection_fit depth i before at st x k m o inside j s joined) (ap none sound) 0) refl,
      )

  known_inner : (depth : ℕ) (i : Instantiation) (before st : Sofar) → Here (λ depth. IsKnown ms) depth i before st → (x : Item) (k : InstanceItem) (m : Module) (o : One) → IsBelow base ms i before x k m o → IsKnown ms (inner_of (context base i before) x.place k m o) st
  known_inner depth i before st here x k m o under = record {
    aliases = known_below base ms depth i before st (record { opening = here.opening; known = here.known.aliases; continues = here.continues }) x k m o under;
    module_in = found_in (λ z. bytes_eq z.name.name k.of_module.name) ms m under.module_is;
    overrides = overrides_fit (context base i before).scope (wide_scope i before before here.known) (scope_sound i (length before.design.signals) (length before.design.memories) (opening_parts i here.opening).2) k.of_module m k.overrides
        (overrides_literals k (subst (λ f. AreFit (item_literals f)) under.form (item_fit ms tokens i.of_module here.known.module_in x under.item_in))) under.sound;
  }

  shaped_steps : Steps base ms (HaveShapes base) (λ depth. IsKnown ms)
  shaped_steps = record {
    meets = λ st h x x_in now later. h x x_in now (continues_twice (continues_meet [] st) later);
    opens = λ depth i st free known h x x_in now later. h x x_in now (continues_twice (continues_opened i st) later);
    assigns = λ depth i before st here x x_in y v n assigned free h. shaped_process base (made_assign base i before st x.place y v n) st (shaped_assign depth i before st here x x_in y v n assigned free) h;
    runs = λ depth i before st here x x_in w s l n form free h. shaped_process base (made_always base i before st x.place w s l n) st (shaped_always depth i before st here x x_in w s l n form free) h;
    inputs = λ depth i before at st x k m o inside j s joined way free h. shaped_process base (made_input base i before st x.place j s) st (shaped_input depth i before at st x k m o inside j s joined free) h;
    outputs = λ depth i before at st x k m o inside j s joined way free h. shaped_process base (made_output base i before st x.place j s) st (shaped_output depth i before at st x k m o inside j s joined free) h;
    below = λ depth i before st here h x k m o under.
        let known = known_inner depth i before st here x k m o under in
        record { aliases = known.aliases; module_in = known.module_in; overrides = known.overrides };
  }

answered_shaped : (ms : List Module) (top : List ℕ) → AreOfTokens ms → IsSound ms top → HaveShapes (base_of ms top) (elaborated ms top)
answered_shaped ms top tokens sound =
    answered_keeps ms top (HaveShapes (base_of ms top)) (λ depth. IsKnown ms) (shaped_steps (base_of ms top) ms tokens)
    (λ m found. record { aliases = known_top top m; module_in = found_in (λ z. bytes_eq z.name.name top) ms m found; overrides = λ o h. absurd h }) (λ x h. absurd h) sound

-- each body has its shapes and is well formed
pub record HasShapes (d : Design) : Type 0 where
  pub bodies : (p : ℕ) → is_body d (body_at d p) ≡ true
  pub well_formed : (p : ℕ) → is_well_formed_body d (body_at d p) ≡ true

pub answered_bodies : (ms : List Module) (top : List ℕ) (d : Design) → AreOfTokens ms → answer ms top ≡ Ok d → HasShapes d
answered_bodies ms top d tokens e =
    subst HasShapes (answered_design ms top d e)
    (record { bodies = λ p. (good p).0; well_formed = λ p. (good p).1 })
  where
    good : (p : ℕ) → IsGoodBody (elaborated ms top).design (body_at (elaborated ms top).design p)
    good p = at_process (λ x. IsGoodBody (elaborated ms top).design (body x)) (elaborated ms top).design.processes p (λ x x_in. answered_shaped ms top tokens (answered_sound ms top d e) x x_in (elaborated ms top) (continues_same (elaborated ms top)) (sym (base_is ms top))) (refl, refl)
