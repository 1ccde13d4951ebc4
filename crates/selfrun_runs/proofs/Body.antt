-- What one evaluation of the block writes and visits, on any values of the signals and words.
use Rattle.std.proofs.Common.{◌≡◌, ℕ, zero, suc, ◌<◌, false, List, [], ◌∷◌, ◌++◌, Some, refl, ap, ◌∙◌, arith}
use Rattle.event_machine.specs.Cell.{Values, Write}
use Rattle.four_state.specs.Arithmetic.{low_bits}
use Rattle.four_state.specs.Parts.{index}
use Rattle.four_state.specs.Vector.{extend, truth}
use Rattle.four_state.specs.declared.bit.Bit.{Bit}
use Rattle.four_state.specs.declared.bit.Bit.TheVariants.{One, Zero}
use Rattle.design_model.specs.Tree.{Term, a_stmt, no_stmts, signal}
use Rattle.design_model.specs.Design.{a_signal, a_word, body_at, memory_at, signal_bits, signal_cells, word_bits, word_cells}
use Rattle.design_model.specs.Value.{named_word, option_word, word_named}
use Rattle.design_model.specs.Assignment.{word_writes, writes_to}
use Rattle.design_model.specs.Execution.{Execution, ValueFalse, ValueTrue, Visit, at_line, at_node, choose, evaluate, execute, execute_all, execution, execution_start, if_false, if_true, is_inner, node_visits, reads, with_visits, word_read, word_written, writes_word}
use Rattle.selfrun_design.specs.Selfrun.{at, keep_d, plain, read_word, selfrun, write_word}

-- the test of the block
abbrev test : Term
test = signal (record { place = at 6 9; width = 1; signed = false; node = Some 1 }) 1

-- the execution up to the test, and with it
abbrev tested : Values Bit → Execution
tested v = evaluate selfrun test (with_visits (execute selfrun keep_d (execution_start v)) (at_line 2 ∷ []))

-- the index of the word
abbrev pub index_term : Term
index_term = signal (plain 6 15 4) 2

-- four bits name the word with their number
named_index : (a : ℕ) → a < 16 → named_word (memory_at selfrun 6) (index false (extend 4 false (low_bits 4 a))) ≡ Some a
named_index zero h = refl
named_index (suc zero) h = refl
named_index (suc (suc zero)) h = refl
named_index (suc (suc (suc zero))) h = refl
named_index (suc (suc (suc (suc zero)))) h = refl
named_index (suc (suc (suc (suc (suc zero))))) h = refl
named_index (suc (suc (suc (suc (suc (suc zero)))))) h = refl
named_index (suc (suc (suc (suc (suc (suc (suc zero))))))) h = refl
named_index (suc (suc (suc (suc (suc (suc (suc (suc zero)))))))) h = refl
named_index (suc (suc (suc (suc (suc (suc (suc (suc (suc zero))))))))) h = refl
named_index (suc (suc (suc (suc (suc (suc (suc (suc (suc (suc zero)))))))))) h = refl
named_index (suc (suc (suc (suc (suc (suc (suc (suc (suc (suc (suc zero))))))))))) h = refl
named_index (suc (suc (suc (suc (suc (suc (suc (suc (suc (suc (suc (suc zero)))))))))))) h = refl
named_index (suc (suc (suc (suc (suc (suc (suc (suc (suc (suc (suc (suc (suc zero))))))))))))) h = refl
named_index (suc (suc (suc (suc (suc (suc (suc (suc (suc (suc (suc (suc (suc (suc zero)))))))))))))) h = refl
named_index (suc (suc (suc (suc (suc (suc (suc (suc (suc (suc (suc (suc (suc (suc (suc zero))))))))))))))) h = refl
named_index (suc (suc (suc (suc (suc (suc (suc (suc (suc (suc (suc (suc (suc (suc (suc (suc a)))))))))))))))) h = absurd (omega (arith, h))

-- the visits up to the test, and then these
abbrev shown : List Visit → List Visit
shown later = at_line 1 ∷ reads (a_signal 3) false ∷ at_line 2 ∷ reads (a_signal 1) false ∷ later

-- the case of the test on this value
abbrev node_cases : List Bit → List Visit
node_cases bs = node_visits (Some 1) (if_false (truth (extend 1 false bs)) ValueFalse ++ if_true (truth (extend 1 false bs)) ValueTrue)

-- the updates and the visits of an evaluation
pub record Evaluation (v : Values Bit) (updates : List (List (Write Bit))) (visits : List Visit) : Type 0 where
  pub blocking : (execution selfrun (body_at selfrun 0) v).blocking ≡ []
  pub nonblocking : (execution selfrun (body_at selfrun 0) v).nonblocking ≡ updates
  pub visited : (execution selfrun (body_at selfrun 0) v).visits ≡ visits

-- p is what d was
abbrev pub p_update : Values Bit → List (Write Bit)
p_update v = writes_to (signal_cells selfrun 5) (signal_bits selfrun v 3)

-- the word a is what p was
abbrev pub word_update : Values Bit → ℕ → List (Write Bit)
word_update v a = writes_to (word_cells selfrun 6 a) (signal_bits selfrun v 5)

-- q is what the word a was
abbrev pub q_update : Values Bit → ℕ → List (Write Bit)
q_update v a = writes_to (signal_cells selfrun 4) (word_bits selfrun v 6 a)

-- what is visited where the word is written
abbrev pub write_visits : ℕ → List Visit
write_visits a =
    at_line 1 ∷ reads (a_signal 3) false ∷ at_line 2 ∷ reads (a_signal 1) false ∷ at_node 1 ValueTrue
    ∷ at_line 3 ∷ reads (a_signal 2) false ∷ reads (a_signal 5) false ∷ writes_word 6 a ∷ []

-- what is visited where it is read
abbrev pub read_visits : ℕ → List Visit
read_visits a =
    at_line 1 ∷ reads (a_signal 3) false ∷ at_line 2 ∷ reads (a_signal 1) false ∷ at_node 1 ValueFalse
    ∷ at_line 4 ∷ reads (a_signal 2) false ∷ reads (a_word 6 a) false ∷ []

module _ (v : Values Bit) (a : ℕ) (is_a : signal_bits selfrun v 2 ≡ low_bits 4 a) (below : a < 16) where
  named : word_named selfrun v 6 index_term ≡ Some a
  named = ap (λ bs. named_word (memory_at selfrun 6) (index false (extend 4 false bs))) is_a ∙ named_index a below

  pub when_writing : signal_bits selfrun v 1 ≡ One ∷ [] → Evaluation v (p_update v ∷ word_update v a ∷ []) (write_visits a)
  when_writing is_we = record {
    blocking = ap (λ r. r.blocking) runs;
    nonblocking = ap (λ r. r.nonblocking) runs ∙ ap (λ o. p_update v ∷ word_writes selfrun 6 o (signal_bits selfrun v 5) ∷ []) named;
    visited = ap (λ r. r.visits) runs ∙ ap (λ bs. shown (node_cases bs ++ (at_line 3 ∷ reads (a_signal 2) false ∷ reads (a_signal 5) false ∷ word_written 6 (word_named selfrun v 6 index_term)))) is_we
        ∙ ap (λ o. shown (at_node 1 ValueTrue ∷ at_line 3 ∷ reads (a_signal 2) false ∷ reads (a_signal 5) false ∷ word_written 6 o)) named;
  }
    where
      runs : execution selfrun (body_at selfrun 0) v ≡ execute selfrun write_word (tested v)
      runs = ap (λ bs. choose (truth (extend 1 false bs)) (execute selfrun write_word (tested v)) (execute_all selfrun (a_stmt read_word no_stmts) (tested v))) is_we

  pub when_reading : signal_bits selfrun v 1 ≡ Zero ∷ [] → Evaluation v (p_update v ∷ q_update v a ∷ []) (read_visits a)
  when_reading is_we = record {
    blocking = ap (λ r. r.blocking) runs;
    nonblocking = ap (λ r. r.nonblocking) runs ∙ ap (λ o. p_update v ∷ writes_to (signal_cells selfrun 4) (extend 8 false (extend 8 false (option_word selfrun v 6 o))) ∷ []) named;
    visited = ap (λ r. r.visits) runs ∙ ap (λ bs. shown (node_cases bs ++ (at_line 4 ∷ reads (a_signal 2) false ∷ ((word_read (is_inner selfrun (tested v)) 6 (word_named selfrun v 6 index_term) ++ []) ++ [])))) is_we
        ∙ ap (λ o. shown (at_node 1 ValueFalse ∷ at_line 4 ∷ reads (a_signal 2) false ∷ ((word_read (is_inner selfrun (tested v)) 6 o ++ []) ++ []))) named;
  }
    where
      runs : execution selfrun (body_at selfrun 0) v ≡ execute_all selfrun (a_stmt read_word no_stmts) (tested v)
      runs = ap (λ bs. choose (truth (extend 1 false bs)) (execute selfrun write_word (tested v)) (execute_all selfrun (a_stmt read_word no_stmts) (tested v))) is_we
