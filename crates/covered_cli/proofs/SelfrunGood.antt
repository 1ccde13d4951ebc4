-- The score of the two files of a selfrun is good, and its table is one of the selfrun.
use Rattle.std.proofs.Common.{◌≡◌, ◌∙◌, ◌≤◌, ◌<◌, ℕ, List, [], ◌∷◌, length, map, get_or, Option, Some, Ok, refl, sym, ap, subst, arith, inl}
use Rattle.std.proofs.lemmas.List.{get_or-map, length-map}
use Rattle.std.specs.Global.{Global}
use Rattle.std.specs.Prelude.{All, IfSome, IsSome, IsSomeAnd}
use Rattle.command_line.specs.declared.selfrun_words.SelfrunWords.{SelfrunWords}
use Rattle.cov_host.specs.Outside.{Files, Outside}
use Rattle.coverage_db.specs.declared.db.Db.{Db}
use Rattle.coverage_db.specs.declared.verdict.DbVerdict.{DbVerdict}
use Rattle.coverage_db.specs.declared.verdict.DbVerdict.TheVariants.{Hit, Missed, Undetermined}
use Rattle.design_model.proofs.FiniteRounds.{last_rounds_law}
use Rattle.design_model.specs.Design.{In}
use Rattle.design_model.specs.Doubt.{IsInDoubt}
use Rattle.design_model.specs.Lawful.{IsLawfulDesign}
use Rattle.design_model.specs.MayMove.{AreLastRounds}
use Rattle.design_model.specs.Points.{StateNames}
use Rattle.design_model.specs.RoundLaws.{read_by}
use Rattle.design_model.specs.Shows.{BoundDump}
use Rattle.design_model.specs.View.{design_view}
use Rattle.design_model.specs.declared.design.Design.{Design}
use Rattle.design_model.specs.declared.point.Point.{Point}
use Rattle.design_points.specs.Counted.{HasFewPoints}
use Rattle.dump_score.specs.Reading.{IsFile}
use Rattle.dump_score.specs.verdict_laws.Reasoned.{IsReasoned, IsReasonedVerdict}
use Rattle.dump_score.specs.verdict_laws.Sound.{IsShownBy}
use Rattle.event_machine.specs.Habit.{Free}
use Rattle.flat_design.specs.Faults.{answer}
use Rattle.selfrun_design.specs.Selfrun.{selfrun}
use Rattle.selfrun_design.specs.Source.{HasCode, StandsForSelfrun}
use Rattle.selfrun_doubts.specs.Certain.{CertainLaw}
use Rattle.selfrun_dump.specs.Entries.{selfrun_dump}
use Rattle.selfrun_dump.specs.Laws.{BoundLaw, SaysLaw, TextLaw, TimesLaw}
use Rattle.selfrun_files.specs.Files.{HasTexts, dump_name, source_name}
use Rattle.selfrun_files.specs.Source.{source_text}
use Rattle.selfrun_files.specs.Text.{dump_text}
use Rattle.selfrun_points.specs.Few.{SelfrunPointsLaw}
use Rattle.selfrun_runs.specs.Says.{SaysSelfrun}
use Rattle.selfrun_runs.specs.Shown.{SelfrunShownLaw}
use Rattle.selfrun_words.specs.Score.{selfrun_name, selfrun_score}
use Rattle.shown_dumps.specs.Shown.{bound_dump}
use Rattle.source_design.proofs.Told.{one_design, one_sources}
use Rattle.source_design.specs.Accepted.{AreAccepted, StandFor}
use Rattle.source_design.specs.Reading.{HasSources}
use Rattle.source_files.specs.Files.{end}
use Rattle.state_machines.specs.Drawn.{IsPointWith}
use Rattle.state_machines.specs.Machines.{StateMachines, no_machines}
use Rattle.state_machines.specs.declared.drawn.Drawn.{Drawn}
use Rattle.vcd_reader.proofs.FaultLaws.{one_dump}
use Rattle.vcd_reader.specs.Dump.{Dump, DumpStep, IsDump, stretches_of}
use Rattle.vcd_reader.specs.Reading.{Body}
use Rattle.vcd_reader.specs.declared.vars.Var.{Var}
use Rattle.verilog_lexer.specs.Sources.{SourceText, total_length}
use Rattle.covered_cli.proofs.Designs.{lawful_design}
use Rattle.covered_cli.specs.Complete.{HasText, IsGoodScore}
use Rattle.covered_cli.specs.Headline.{scored_of}
use Rattle.covered_cli.specs.ScoreMachines.{AreMachinesOf}
use Rattle.covered_cli.specs.ScoreSources.{sources_in}
use Rattle.covered_cli.specs.Scoring.{HasDesign, IsScoreOf, IsTableIn, names_of}
use Rattle.covered_cli.specs.Selfrun.{AreSteps, IsDefinite, IsSelfrunTable, selfrun_of, selfrun_source}

abbrev sources : List SourceText
sources = selfrun_source ∷ []

few_bytes : total_length sources ≤ 67108864
few_bytes = let count : total_length sources ≡ 221 = refl in subst (λ n. n ≤ 67108864) (sym count) (omega arith)

-- a list without elements
none_in : {A : Type 0} (xs : List A) → ((x : A) → In x xs → ⊥) → xs ≡ []
none_in [] none = refl
none_in (x ∷ xs) none = absurd (none x (inl refl))

-- a dump by its parts
abbrev dump_with : List Var → List (List DumpStep) → Dump
dump_with vars stretches = record { vars = vars; stretches = stretches }

-- machines by their parts
abbrev machines_with : List StateNames → List Drawn → StateMachines
machines_with named drawn = record { named = named; drawn = drawn }

module _ (alloc : Global) (stands : StandsForSelfrun) (code : HasCode) (points : SelfrunPointsLaw) (is_text : TextLaw) (has_times : TimesLaw) (is_bound : BoundLaw) (says : SaysLaw) (is_shown : SelfrunShownLaw) (certain : CertainLaw) where
  abbrev own : Design
  own = (code alloc).0

  seen : design_view own ≡ selfrun
  seen = (code alloc).1

  accepted : AreAccepted sources [] stands.modules
  accepted = record { tokens = stands.tokens; lexed = stands.lexed; spelled = stands.spelled }

  stands_own : StandFor sources [] selfrun_name own
  stands_own = record { modules = stands.modules; accepted = accepted; flat = subst (λ d. answer stands.modules selfrun_name ≡ Ok d) (sym seen) stands.flat }

  few : HasFewPoints (design_view own) no_machines
  few =
      let lawful = lawful_design sources [] selfrun_name own stands_own in
      subst (λ d. HasFewPoints d no_machines) (sym seen) (points alloc (subst IsLawfulDesign seen lawful))

  module _ (values : SelfrunWords) (outside : Outside) (steps : AreSteps values) (has : HasTexts values.number values.steps outside) where
    abbrev text : List ℕ
    text = dump_text values.number values.steps

    told : IsSome outside.files
    told = subst (λ (files : Option Files). IsSome files) (sym has.files) refl

    source_is : IsFile outside source_name source_text
    source_is = subst (λ (files : Option Files). IfSome files (λ fs. fs source_name ≡ Some source_text)) (sym has.files) refl

    dump_is : HasText outside dump_name text
    dump_is = subst (λ (files : Option Files). IsSomeAnd files (λ fs. fs dump_name ≡ Some text)) (sym has.files) refl

    gathered : HasSources (sources_in selfrun_score) outside sources
    gathered = record {
      roots = sources;
      are_roots = (record { name_is = refl; root = refl; text = source_is }, tt);
      grow = end;
      within = record { count = omega arith; bytes = few_bytes };
      whole = λ name lacks. let e = sym stands.lexed ∙ lacks.1 in cc;
    }

    machines : AreMachinesOf selfrun_score (design_view own) no_machines
    machines = record { named = refl; drawn = λ e. (λ h. absurd h, λ h. absurd h.1); placed = λ m h. absurd h }

    has_design : HasDesign selfrun_score outside sources own
    has_design = record { gathered = gathered; stands = stands_own; machines = no_machines; are_machines = machines; few = few }

    abbrev dump : Dump
    dump = selfrun_dump values.number values.steps

    abbrev said : BoundDump
    said = bound_dump own dump selfrun_name

    said_it : SaysSelfrun values.number values.steps said
    said_it = says values.number values.steps own said.round seen

    pub good : IsGoodScore selfrun_score outside
    good =
        let run = is_shown values.number values.steps said said_it in
        record {
          text = text;
          design = own;
          dump = dump;
          texts = record { sources = sources; has_design = has_design; dump_is = dump_is };
          is_dump = is_text values.number values.steps steps.within;
          bound = is_bound values.number values.steps own seen;
          run = run.0;
          shown = subst (λ d. IsShownBy d Free said run.0) (sym seen) (record { is_run = run.1; shows = run.2 });
        }

    -- a table of the score of the two files
    module _ (table : Db) (t : IsTableIn selfrun_score outside table) where
      same_sources : sources ≡ t.sources
      same_sources = one_sources (sources_in selfrun_score) outside sources told gathered t.sources t.has_design.gathered

      stands_there : StandFor sources [] selfrun_name t.design
      stands_there = subst (λ ss. StandFor ss [] selfrun_name t.design) (sym same_sources) t.has_design.stands

      seen_there : design_view t.design ≡ selfrun
      seen_there = one_design sources [] selfrun_name t.design own stands_there stands_own ∙ seen

      same_text : t.text ≡ text
      same_text = let e : Some text ≡ Some t.text = subst (λ (files : Option Files). IfSome files (λ fs. fs dump_name ≡ Some t.text)) has.files t.dump_is in cc

      is_dump : IsDump text t.dump
      is_dump = subst (λ x. IsDump x t.dump) same_text t.is_dump

      same_dump : t.dump ≡ dump
      same_dump =
          let ours = is_text values.number values.steps steps.within in
          let body : is_dump.b ≡ ours.b = one_dump text is_dump.b ours.b is_dump.ends ours.ends in
          let vars : t.dump.vars ≡ dump.vars = is_dump.vars ∙ ap (λ (b : Body). b.vars) body ∙ sym ours.vars in
          let stretches : t.dump.stretches ≡ dump.stretches = is_dump.stretches ∙ ap (λ (b : Body). stretches_of b.items) body ∙ sym ours.stretches in
          ap (λ vs. dump_with vs t.dump.stretches) vars ∙ ap (dump_with dump.vars) stretches

      no_machines_there : t.has_design.machines ≡ no_machines
      no_machines_there =
          let ms = t.has_design.machines in
          let are = t.has_design.are_machines in
          ap (λ named. machines_with named ms.drawn) are.named ∙ ap (machines_with []) (none_in ms.drawn (λ e h. ((are.drawn e).0 h).1))

      scores : IsScoreOf (selfrun_of t.design t.dump table) (names_of t.sources)
      scores = subst (λ ms. IsScoreOf (scored_of Free t.design ms t.dump selfrun_name table) (names_of t.sources)) no_machines_there t.scores

      lawful_there : IsLawfulDesign (design_view t.design)
      lawful_there = lawful_design sources [] selfrun_name t.design stands_there

      abbrev bound_there : BoundDump
      bound_there = bound_dump t.design t.dump selfrun_name

      module _ (rounds : ℕ → ℕ) (last : AreLastRounds (design_view t.design) (read_by bound_there rounds)) where
        said_there : SaysSelfrun values.number values.steps (read_by bound_there rounds)
        said_there = subst (λ x. SaysSelfrun values.number values.steps (read_by (bound_dump t.design x selfrun_name) rounds)) (sym same_dump) (says values.number values.steps t.design rounds seen_there)

        reasoned : IsReasoned (design_view t.design) Free (read_by bound_there rounds) no_machines table
        reasoned = scores.reasoned rounds last

        verdict_definite : (x : Point) → IsPointWith (design_view t.design) no_machines x → (v : DbVerdict) → IsReasonedVerdict (design_view t.design) Free (read_by bound_there rounds) x v → IsDefinite v
        verdict_definite x is Hit why = tt
        verdict_definite x is Missed why = tt
        verdict_definite x is (Undetermined time path) why =
            let doubt = subst (λ d. IsInDoubt d Free (read_by bound_there rounds) x time why.0.thing) seen_there why.0.in_doubt in
            certain values.number values.steps (read_by bound_there rounds) said_there x (subst (λ d. IsPointWith d no_machines x) seen_there is) time why.0.thing doubt

        all_definite : All (λ row. IsDefinite row.verdict) table.points
        all_definite k d within =
            let row = get_or table.points k d in
            let place : k < length (map (λ p. p.address) table.points) = omega (arith, within, length-map table.points (λ p. p.address)) in
            let point = (scores.listed.points row.address).0 (k, place, get_or-map (λ p. p.address) table.points k d row.address within) in
            verdict_definite point.0 point.1 row.verdict (reasoned k d within point.0 point.1 point.2).reason

      definite : All (λ row. IsDefinite row.verdict) table.points
      definite = let some = last_rounds_law (design_view t.design) lawful_there bound_there in all_definite some.0 some.1

      pub is_selfrun_table : IsSelfrunTable values table
      is_selfrun_table = record {
        design = t.design;
        dump = t.dump;
        stands = stands_there;
        is_dump = is_dump;
        times = ap (λ (x : Dump). map (λ stretch. length stretch) x.stretches) same_dump ∙ has_times values.number values.steps;
        accepted = scores.accepted;
        listed = scores.listed;
        sound = scores.sound;
        reasoned = scores.reasoned;
        definite = definite;
      }
