use Rattle.std.proofs.Common.{◌≡◌, ◌∙◌, ◌≤◌, ℕ, suc, true, length, map, sym, ap, subst, arith}
use Rattle.std.specs.Prelude.{filter}
use Rattle.design_model.specs.Design.{Design}
use Rattle.design_model.specs.View.{design_view}
use Rattle.body_store.proofs.Lawful.{premises}
use Rattle.early_sets.specs.WakeState.{state_of}
use Rattle.run_order.specs.Ranked.{AreRanksOf}
use Rattle.step_parts.specs.Due.{IsDueStep}
use Rattle.step_parts.specs.step_changes.Changes.{AreChangedSignals, AreSignalsOf}
use Rattle.still_check.specs.step_values.Loose.{has_code}
use Rattle.still_check.specs.step_values.Vectors.{AreOpened, FitsSignals}
use Rattle.wake_list.specs.Members.{has}
use Rattle.step_start.proofs.Found.{found}
use Rattle.step_start.proofs.find.find_step.Goals as goal

pub find_moves-requires-clause-signals : goal.find_moves-requires-clause-signals
find_moves-requires-clause-signals c = subst (λ codes. AreSignalsOf codes c.args.tables.now.signals) (sym c.as_slice.ensures.value) c.requires.fits.signals

pub find_moves-requires-clause-below : goal.find_moves-requires-clause-below
find_moves-requires-clause-below c = λ s coded.
    let l = c.requires.fits.coded s (subst (λ codes. has_code codes s ≡ true) c.as_slice.ensures.value coded) in
    let size = c.requires.fits.changed in
    omega (arith, l, size)

pub find_moves-requires-clause-few : goal.find_moves-requires-clause-few
find_moves-requires-clause-few c = let few = (premises _ c.requires.fits.lawful).few_signals in let size = c.requires.fits.changed in omega (arith, few, size)

pub fill-requires-clause-count : goal.fill-requires-clause-count
fill-requires-clause-count c = c.requires.fits.clocked_ranked.size ∙ sym c.requires.fits.clocked

pub fill-requires-clause-ranked : goal.fill-requires-clause-ranked
fill-requires-clause-ranked c = (c.requires.fits.clocked_order, subst (λ n. AreRanksOf c.requires.fits.clocked_order n c.args.tables.now.clocked) (sym c.requires.fits.clocked) c.requires.fits.clocked_ranked)

pub returns-clause-changed : goal.returns-clause-changed
returns-clause-changed c = subst (λ codes. AreChangedSignals codes c.args.values.now c.find_moves.new.changed.items) c.as_slice.ensures.value c.find_moves.ensures.changed

pub returns-clause-listed : goal.returns-clause-listed
returns-clause-listed c = λ order ranked.
    let count = c.requires.fits.clocked in
    let named = λ (q : ℕ × ℕ). q.0 in
    subst (λ ps. map named c.fill.new.list.pairs ≡ filter (λ p. has p ps) order) c.woken.ensures.value (c.fill.ensures.pairs order (subst (λ n. AreRanksOf order n c.args.tables.now.clocked) (sym count) ranked))

pub returns-clause-found : goal.returns-clause-found
returns-clause-found c = λ due early is chosen.
    let codes = c.as_slice.result.now in
    let ranks = c.args.tables.now.order in
    let clocked_ranks = c.args.tables.now.clocked in
    let before = state_of c.args.room.now.sets in
    let after = state_of c.find_moves.new.sets in
    let here : IsDueStep due codes ranks clocked_ranks before c.args.values.now c.args.store.now = subst (λ cs. IsDueStep due cs ranks clocked_ranks before c.args.values.now c.args.store.now) (sym c.as_slice.ensures.value) is in
    let count = c.requires.fits.clocked ∙ ap (λ (d : Design). length d.processes) here.rest.knows.design in
    found due codes ranks clocked_ranks before after c.args.values.now c.args.store.now here early (map (λ q. q.0) c.fill.new.list.pairs) c.open.new.self chosen
    (c.find_moves.ensures.sets due.design due.dump (suc due.time) due.habit due.flags early here.changes chosen)
    (c.find_moves.ensures.design due.design due.flags here.changes.tables) c.find_moves.ensures.moves
    (λ order ranked. subst (λ ps. map (λ q. q.0) c.fill.new.list.pairs ≡ filter (λ p. has p ps) order) c.woken.ensures.value (c.fill.ensures.pairs order (subst (λ n. AreRanksOf order n clocked_ranks) (sym count) ranked)))
    c.open.ensures.fits (λ d k h. subst (λ ms. AreOpened d k ms c.open.new.self) c.moves.ensures.value (c.open.ensures.opened d k h))

pub returns-clause-fits : goal.returns-clause-fits
returns-clause-fits c =
    let d = design_view c.args.store.now.design.now in
    let fits = c.requires.fits in
    let h = c.requires.known.2 in
    record {
      lawful = fits.lawful;
      signals = fits.signals;
      rows = fits.rows;
      coded = fits.coded;
      targets = fits.targets;
      written = fits.written;
      assigned = fits.assigned;
      order = fits.order;
      ranked = fits.ranked;
      clocked_order = fits.clocked_order;
      clocked_ranked = fits.clocked_ranked;
      changed = c.find_moves.ensures.size ∙ fits.changed;
      changes = subst (λ n. length d.signals ≤ n) (sym c.find_moves.ensures.room) fits.changes;
      things = subst (λ t. length d.signals ≤ t.things) (sym c.find_moves.ensures.tables) fits.things;
      processes = ap (λ t. t.processes) c.find_moves.ensures.tables ∙ fits.processes;
      clocked = c.fill.ensures.count ∙ fits.clocked;
      overwritten = fits.overwritten;
      running = fits.running;
      list = fits.list;
      values = subst (λ e. FitsSignals e c.open.new.self) (sym h.design) (c.open.ensures.fits c.requires.known.0 c.requires.known.1 h);
    }
