-- The flat design of sources is written.
use Rattle.std.proofs.Common.{◌≡◌, ◌⊎◌, inl, inr, ◌+◌, ◌<◌, ◌≤◌, ◌^◌, ℕ, zero, suc, true, List, [], ◌∷◌, Ok, refl, sym, subst, length, map, arith, slice_index_or}
use Rattle.std.proofs.lemmas.Bool.{cases_lt}
use Rattle.std.proofs.lemmas.List.{length-map, get_or_past}
use Rattle.std.proofs.lemmas.List.Sums.{get_or-le-sum_by}
use Rattle.std.specs.List.{All}
use Rattle.std.specs.Prelude.{IsTrue}
use Rattle.cov_host.specs.Identifier.{is_identifier}
use Rattle.cov_host.specs.declared.place.Place.{Place}
use Rattle.coverage_db.specs.Table.{IsNumber, IsSourceLine, is_file_name}
use Rattle.design_model.specs.Design.{Design, In, no_process, process_at}
use Rattle.design_model.specs.Tree.{Process}
use Rattle.design_names.specs.Names.{HasNames}
use Rattle.design_names.proofs.Named.{answered_names}
use Rattle.design_model.specs.declared.design.Memory.{Memory}
use Rattle.design_model.specs.declared.design.Signal.{Signal}
use Rattle.flat_design.specs.Faults.{answer}
use Rattle.flat_design.specs.Flat.{elaborated, module_of}
use Rattle.flat_design.specs.Scope.{Scope}
use Rattle.design_names.proofs.flat_laws.LawfulLimits.{answered_design, base_of}
use Rattle.design_names.proofs.flat_laws.LawfulPaths.{nth_in}
use Rattle.grammar_rules.proofs.Holds.{AllOf}
use Rattle.design_names.specs.parsed_modules.Spelled.{AreModules}
use Rattle.design_names.proofs.parsed_modules.Modules.{named_modules}
use Rattle.table_laws.specs.point_table.Addresses.{source_line}
use Rattle.source_places.specs.Lines.{AreCounted, AreOnLines, IsOnLine}
use Rattle.source_places.proofs.TokenPlaces.{turns_on}
use Rattle.table_laws.specs.Written.{IsWritten}
use Rattle.token_counts.proofs.FewTokens.{few_tokens}
use Rattle.tree_places.proofs.Expressions.{IsAt}
use Rattle.tree_places.proofs.Modules.{counted_module, placed_modules}
use Rattle.tree_places.specs.Counted.{module_lines, module_nodes}
use Rattle.tree_places.specs.Placed.{ArePlacedModules}
use Rattle.verilog_lexer.specs.Defines.{DefineText}
use Rattle.verilog_lexer.specs.Reading.{tokens_of}
use Rattle.verilog_lexer.specs.Sources.{AreWithinLimits, SourceText}
use Rattle.verilog_lexer.specs.Tokens.{Lexeme}
use Rattle.verilog_lexer.proofs.KeptTokens.{tokens_are_sound}
use Rattle.verilog_lexer.proofs.ReadFiles.{tokens_stand}
use Rattle.verilog_tree.specs.Tree.{Module}
use Rattle.written_designs.proofs.Elaborated.{elaborated_parts}
use Rattle.written_designs.proofs.Processes.{HasParts, nothing_parts}

-- the lines of each source can be counted
counted_sources : (sources : List SourceText) → AreWithinLimits sources → AreCounted sources
counted_sources sources within k d less =
    let one = get_or-le-sum_by (λ (source : SourceText). length source.bytes) sources k d less in
    omega (arith, one, within.bytes)

-- each element, one after the other
all_of : {A : Type 0} (Q : A → Type 0) (xs : List A) → All Q xs → AllOf Q xs
all_of Q [] h = tt
all_of Q (x ∷ xs) h = (h zero x (omega arith), all_of Q xs (λ k d l. h (suc k) d (omega (arith, l))))

-- each process, also in the place of one that the design does not have
process_parts : (P : Place → Type 0) (most : ℕ) (xs : List Process) → ((x : Process) → In x xs → HasParts P most x) → (p : ℕ) → HasParts P most (slice_index_or xs p no_process)
process_parts P most xs h p = by_length (cases_lt p (length xs))
  where
    by_length : (p < length xs) ⊎ (length xs ≤ p) → HasParts P most (slice_index_or xs p no_process)
    by_length (inl less) = h _ (nth_in xs p no_process less)
    by_length (inr past) = subst (HasParts P most) (sym (get_or_past xs p no_process past)) (nothing_parts P most)

module _ (sources : List SourceText) (defines : List DefineText) (tokens : List Lexeme) (ms : List Module) (top : List ℕ) (d : Design)
    (within : AreWithinLimits sources) (names : All (λ name. IsTrue (is_file_name name)) (map (λ source. source.name) sources)) (some : 1 ≤ length sources) (lexed : tokens_of sources defines ≡ Ok tokens) (spelled : AreModules tokens ms) (e : answer ms top ≡ Ok d) where
  abbrev count : ℕ
  count = length sources

  has_names : HasNames d
  has_names = answered_names ms top d (named_modules tokens ms (tokens_are_sound sources defines tokens lexed) spelled) e

  is_design : (elaborated ms top).design ≡ d
  is_design = answered_design ms top d e

  placed : ArePlacedModules (IsOnLine count) ms
  placed =
      let counted : AreCounted sources = counted_sources sources within in
      let on_lines : AreOnLines count tokens = turns_on sources counted 1 tokens (tokens_stand sources defines tokens lexed) in
      placed_modules (IsOnLine count) tokens ms (all_of (IsAt (IsOnLine count)) tokens on_lines) spelled

  few : (m : Module) (g : Scope) → In m ms → module_lines m + module_nodes g m ≤ 4194304
  few m g k = omega (arith, counted_module tokens ms m g spelled k, few_tokens sources defines tokens lexed)

  parts : (p : ℕ) → HasParts (IsOnLine count) 4194304 (process_at d p)
  parts p =
      let elaborated_has = elaborated_parts (IsOnLine count) 4194304 (base_of ms top) ms placed few top (module_of ms top) refl in
      process_parts (IsOnLine count) 4194304 d.processes (subst (λ z. (x : Process) → In x z.processes → HasParts (IsOnLine count) 4194304 x) is_design elaborated_has) p

  same_count : length (map (λ (source : SourceText). source.name) sources) ≡ count
  same_count = length-map sources (λ source. source.name)

  on_line : (n : ℕ) (p : Place) → 1 ≤ n → n ≤ 4194304 → IsOnLine count p → IsNumber n × IsSourceLine (length (map (λ (source : SourceText). source.name) sources)) (source_line p)
  on_line n p from to at = ((from, omega (arith, to)), subst (λ k. IsSourceLine k (source_line p)) (sym same_count) at)

  signal_written : (s : Signal) → In s d.signals → (is_identifier s.name ≡ true) × (s.high < 2 ^ 32) × (s.low < 2 ^ 32)
  signal_written s k = let h = has_names.signals s k in (h.0, omega (arith, h.1.0), omega (arith, h.1.1))

  memory_written : (m : Memory) → In m d.memories → (is_identifier m.name ≡ true) × (m.first < 2 ^ 32) × (m.last < 2 ^ 32)
  memory_written m k = let h = has_names.memories m k in (h.0, omega (arith, h.1.0), omega (arith, h.1.1))

  pub design_written : IsWritten (map (λ source. source.name) sources) d
  design_written = record {
    top = has_names.top;
    files = names;
    some_file = omega (arith, same_count, some);
    few_files = omega (arith, same_count, within.count);
    some_instance = has_names.some_instance;
    instances = has_names.instances;
    signals = signal_written;
    memories = memory_written;
    lines = λ p x k. let h = (parts p).lines x k in on_line x.line x.place h.from h.to h.place;
    nodes = λ p x k. let h = (parts p).nodes x k in on_line x.node x.place h.from h.to h.place;
  }
