use Rattle.std.proofs.Common.{Bool, drop, length, map}
use Rattle.design_model.specs.View.{term_view, terms_of}
use Rattle.scene_laws.specs.Contexts.{AreLabels}
use Rattle.case_labels.proofs.Matching.{MatchesOn}
use Rattle.case_labels.proofs.labels.matched.Given as goal

-- the labels so far, and the rest, are all
abbrev pub invariant-loop-label : goal.invariant-loop-label
invariant-loop-label g l =
    record {
      labels : (signed : Bool) × AreLabels (g.R.Reads.scene l.reads).design (length l.on.bits) signed (terms_of (map term_view (drop l.label-index l.labels)));
      matches : MatchesOn (g.R.Reads.scene l.reads) l.kind l.on g.N.Notes.noted l.fn.run.mode l.fn.run.first (terms_of (map term_view l.labels)) l.fn.notes l.run.mode l.run.first l.answer (terms_of (map term_view (drop l.label-index l.labels))) l.notes;
    }
