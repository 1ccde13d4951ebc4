use Rattle.std.proofs.Common.{◌≡◌, ◌∙◌, ◌+◌, ap, drop, length, map, subst, sym}
use Rattle.known_state.specs.Maybe.{Matches}
use Rattle.design_model.specs.View.{term_view, terms_of}
use Rattle.scene_laws.specs.Contexts.{AreLabels}
use Rattle.scene_laws.proofs.BodyContexts.{first_label, later_labels}
use Rattle.scene_laws.proofs.term_replay.Contexts.{length-stands}
use Rattle.case_labels.proofs.Matching.{MatchesOn, label_width, labels_from, matches_no, matches_unsure, matches_yes}
use Rattle.case_labels.proofs.labels.matched.Goals.{in-No, in-Unsure}
use Rattle.case_labels.proofs.labels.matched.Goals as goal

pub evaluate-label-requires : goal.evaluate-label-requires
evaluate-label-requires g c =
    let v = g.R.Reads.scene c.args.reads.now in
    let x = c.label-item.result in
    let all = terms_of (map term_view c.args.labels.now) in
    let rest = terms_of (map term_view (drop (c.loop-label.label-index + 1) c.args.labels.now)) in
    let next = labels_from c.args.labels.now c.loop-label.label-index x c.loop-label-test.true c.label-item.is in
    let labels = c.loop-label.invariant.labels in
    first_label v.design (length c.args.on.now.bits) labels.0 (term_view x) rest (subst (AreLabels v.design (length c.args.on.now.bits) labels.0) next labels.1)

pub label-requires : goal.label-requires
label-requires g c =
    let v = g.R.Reads.scene c.args.reads.now in
    let x = c.label-item.result in
    let all = terms_of (map term_view c.args.labels.now) in
    let rest = terms_of (map term_view (drop (c.loop-label.label-index + 1) c.args.labels.now)) in
    let next = labels_from c.args.labels.now c.loop-label.label-index x c.loop-label-test.true c.label-item.is in
    let labels = c.loop-label.invariant.labels in
    sym (length-stands v c.loop-label.run.first (term_view x) c.evaluate-label.result.value c.evaluate-label.ensures.value ∙ label_width v.design (length c.args.on.now.bits) labels.0 (term_view x) rest (subst (AreLabels v.design (length c.args.on.now.bits) labels.0) next labels.1))

pub returns-in-Yes-clause-answer : goal.returns-in-Yes-clause-answer
returns-in-Yes-clause-answer g c =
    let v = g.R.Reads.scene c.args.reads.now in
    let x = c.label-item.result in
    let all = terms_of (map term_view c.args.labels.now) in
    let rest = terms_of (map term_view (drop (c.loop-label.label-index + 1) c.args.labels.now)) in
    let next = labels_from c.args.labels.now c.loop-label.label-index x c.loop-label-test.true c.label-item.is in
    let h = subst (λ ts. MatchesOn v c.args.kind c.args.on.now g.N.Notes.noted c.args.run.mode c.args.run.first all c.args.notes.now c.loop-label.run.mode c.loop-label.run.first c.loop-label.answer ts c.loop-label.notes) next c.loop-label.invariant.matches in
    (matches_yes v c.args.kind c.args.on.now g.N.Notes.noted c.args.run.mode c.args.run.first all c.args.notes.now c.loop-label.run.mode c.loop-label.run.first c.evaluate-label.result.first c.loop-label.answer (term_view x) rest c.loop-label.notes c.evaluate-label.new.notes c.evaluate-label.result.value h c.evaluate-label.ensures.value c.evaluate-label.ensures.first c.evaluate-label.ensures.notes (subst (Matches c.args.kind c.args.on.now c.evaluate-label.result.value) c.in-Yes.is c.label.ensures)).0

pub returns-in-Yes-clause-first : goal.returns-in-Yes-clause-first
returns-in-Yes-clause-first g c =
    let v = g.R.Reads.scene c.args.reads.now in
    let x = c.label-item.result in
    let all = terms_of (map term_view c.args.labels.now) in
    let rest = terms_of (map term_view (drop (c.loop-label.label-index + 1) c.args.labels.now)) in
    let next = labels_from c.args.labels.now c.loop-label.label-index x c.loop-label-test.true c.label-item.is in
    let h = subst (λ ts. MatchesOn v c.args.kind c.args.on.now g.N.Notes.noted c.args.run.mode c.args.run.first all c.args.notes.now c.loop-label.run.mode c.loop-label.run.first c.loop-label.answer ts c.loop-label.notes) next c.loop-label.invariant.matches in
    ap (λ p. p.first) c.after-run.ensures ∙ (matches_yes v c.args.kind c.args.on.now g.N.Notes.noted c.args.run.mode c.args.run.first all c.args.notes.now c.loop-label.run.mode c.loop-label.run.first c.evaluate-label.result.first c.loop-label.answer (term_view x) rest c.loop-label.notes c.evaluate-label.new.notes c.evaluate-label.result.value h c.evaluate-label.ensures.value c.evaluate-label.ensures.first c.evaluate-label.ensures.notes (subst (Matches c.args.kind c.args.on.now c.evaluate-label.result.value) c.in-Yes.is c.label.ensures)).1

pub returns-in-Yes-clause-notes : goal.returns-in-Yes-clause-notes
returns-in-Yes-clause-notes g c =
    let v = g.R.Reads.scene c.args.reads.now in
    let x = c.label-item.result in
    let all = terms_of (map term_view c.args.labels.now) in
    let rest = terms_of (map term_view (drop (c.loop-label.label-index + 1) c.args.labels.now)) in
    let next = labels_from c.args.labels.now c.loop-label.label-index x c.loop-label-test.true c.label-item.is in
    let h = subst (λ ts. MatchesOn v c.args.kind c.args.on.now g.N.Notes.noted c.args.run.mode c.args.run.first all c.args.notes.now c.loop-label.run.mode c.loop-label.run.first c.loop-label.answer ts c.loop-label.notes) next c.loop-label.invariant.matches in
    (matches_yes v c.args.kind c.args.on.now g.N.Notes.noted c.args.run.mode c.args.run.first all c.args.notes.now c.loop-label.run.mode c.loop-label.run.first c.evaluate-label.result.first c.loop-label.answer (term_view x) rest c.loop-label.notes c.evaluate-label.new.notes c.evaluate-label.result.value h c.evaluate-label.ensures.value c.evaluate-label.ensures.first c.evaluate-label.ensures.notes (subst (Matches c.args.kind c.args.on.now c.evaluate-label.result.value) c.in-Yes.is c.label.ensures)).2

pub loop-label-preserved : goal.loop-label-preserved
loop-label-preserved g c =
    let v = g.R.Reads.scene c.args.reads.now in
    let x = c.label-item.result in
    let all = terms_of (map term_view c.args.labels.now) in
    let rest = terms_of (map term_view (drop (c.loop-label.label-index + 1) c.args.labels.now)) in
    let next = labels_from c.args.labels.now c.loop-label.label-index x c.loop-label-test.true c.label-item.is in
    let h = subst (λ ts. MatchesOn v c.args.kind c.args.on.now g.N.Notes.noted c.args.run.mode c.args.run.first all c.args.notes.now c.loop-label.run.mode c.loop-label.run.first c.loop-label.answer ts c.loop-label.notes) next c.loop-label.invariant.matches in
    let labels = c.loop-label.invariant.labels in
    record {
      labels = (labels.0, later_labels v.design (length c.args.on.now.bits) labels.0 (term_view x) rest (subst (AreLabels v.design (length c.args.on.now.bits) labels.0) next labels.1));
      matches = elim c.match-label.branch [
        | in-No w ↦ rw (w.run-is, w.answer-is, c.after-run.ensures) (matches_no v c.args.kind c.args.on.now g.N.Notes.noted c.args.run.mode c.args.run.first all c.args.notes.now c.loop-label.run.mode c.loop-label.run.first c.evaluate-label.result.first c.loop-label.answer (term_view x) rest c.loop-label.notes c.evaluate-label.new.notes c.evaluate-label.result.value h c.evaluate-label.ensures.value c.evaluate-label.ensures.first c.evaluate-label.ensures.notes (subst (Matches c.args.kind c.args.on.now c.evaluate-label.result.value) w.in-No.is c.label.ensures))
        | in-Unsure w ↦ rw (w.run-is, w.answer-is, w.with_undecided-answer.ensures, w.within-run.ensures, c.after-run.ensures) (matches_unsure v c.args.kind c.args.on.now g.N.Notes.noted c.args.run.mode c.args.run.first all c.args.notes.now c.loop-label.run.mode c.loop-label.run.first c.evaluate-label.result.first c.loop-label.answer (term_view x) rest c.loop-label.notes c.evaluate-label.new.notes c.evaluate-label.result.value h c.evaluate-label.ensures.value c.evaluate-label.ensures.first c.evaluate-label.ensures.notes _ (subst (Matches c.args.kind c.args.on.now c.evaluate-label.result.value) w.in-Unsure.is c.label.ensures))
      ];
    }
