use Rattle.std.proofs.Common.{◌≡◌, ◌∙◌, ◌<◌, ap, length, map, subst, sym, arith}
use Rattle.std.proofs.lemmas.List.{length-map}
use Rattle.design_model.specs.View.{design_view, process_view}
use Rattle.dump_check.specs.Checks.{Checks}
use Rattle.early_sets.specs.WakeState.{state_of}
use Rattle.first_step.specs.step_wakes.Step.{IsOfDesign, flag_at}
use Rattle.wake_laws.specs.OfDesign.{AreWritersOf}
use Rattle.body_store.specs.Made.{nothing}
use Rattle.step_words.specs.Words.{FitsRanges, HasWords}
use Rattle.replay_core.specs.Fits.{FitsRoom}
use Rattle.replay_core.specs.declared.room.ReplayRoom.{ReplayRoom}
use Rattle.replay_core.proofs.Codes.{bound_is}
use Rattle.replay_core.proofs.room.make_room.Goals as goal

pub new-requires-4-clause-widths : goal.new-requires-4-clause-widths
new-requires-4-clause-widths c = (c.premises_law.ensures (design_view c.args.design.now) c.requires.lawful).word_widths

pub returns-clause-fits : goal.returns-clause-fits
returns-clause-fits c =
    let D = c.args.design.now in
    let d = design_view D in
    let x = c.args.tables.now in
    let step = c.in_ok-step.ensures in
    let scratch = c.in_ok-scratch.ensures in
    let rounds = c.in_ok-by_round.ensures in
    let size : length (map process_view D.processes) ≡ length D.processes = length-map D.processes process_view in
    let put_places = c.len.ensures in
    let places = c.len-2.ensures in
    let made = ap (λ q. q.room) c.in_ok-ran.ensures in
    let put_off = c.in_ok-later.ensures in
    let waiting = ap (λ q. q.room) put_off in
    let all = step.changes in
    subst (FitsRoom d x) (sym c.in_ok-new.ensures.ok) (record {
      changed = step.changed;
      changes = omega (arith, all);
      sets = subst (λ bound. IsOfDesign d bound (state_of c.in_ok-step.step.sets)) c.requires.bound step.sets;
      writers = subst (λ f. AreWritersOf d f (state_of c.in_ok-step.step.sets).tables.things (state_of c.in_ok-step.step.sets).writers) (bound_is x.step.codes.items) (subst (λ bound. AreWritersOf d (flag_at bound) (state_of c.in_ok-step.step.sets).tables.things (state_of c.in_ok-step.step.sets).writers) c.requires.bound step.writers);
      places = let places = rounds.places in omega (arith, size, places);
      ranks = rounds.ranks;
      none_by_round = rounds.none;
      list = step.list ∙ sym size;
      clocked = step.clocked ∙ sym size;
      overwritten = step.overwritten;
      running = step.running ∙ sym size;
      later = omega (arith, size, put_places, waiting);
      none_later = ap (λ q. q.items) put_off;
      values = step.values;
      saved = λ p l. let inside : p < length D.processes = omega (arith, l, size) in scratch.saved p inside;
      empty = scratch.empty;
      pieces = scratch.pieces;
      ran = omega (arith, size, places, made);
      checks = ap (λ (k : Checks). k.size) c.in_ok-checks.ensures ∙ c.len-3.ensures;
    })

pub returns-clause-words : goal.returns-clause-words
returns-clause-words c = λ ranges are.
    let d = design_view c.args.design.now in
    let both = c.in_ok-words.ensures ranges are in (
      subst (λ (r : ReplayRoom). FitsRanges d ranges r.words) (sym c.in_ok-new.ensures.ok) both.0,
      subst (λ (r : ReplayRoom). HasWords d nothing ranges r.words) (sym c.in_ok-new.ensures.ok) both.1,
    )
