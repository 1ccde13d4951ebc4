-- A design of the code that is seen as the design.
use Rattle.std.proofs.Common.{◌≡◌, ◌∙◌, ℕ, Bool, false, [], ◌∷◌, Some, map, refl, ap, arith}
use Rattle.std.specs.Global.{Box, Global, Vec}
use denote.RawPtr.{null_ptr}
use Rattle.cov_host.specs.declared.place.Place.{Place}
use Rattle.four_state.specs.declared.edge.Edge.TheVariants.{Pos}
use Rattle.design_model.specs.Design as d
use Rattle.design_model.specs.Tree as t
use Rattle.design_model.specs.Tree.{Head}
use Rattle.design_model.specs.View.{design_view, stmt_view, stmts_of, target_view, term_view}
use Rattle.design_model.specs.declared.design.Design.{Design}
use Rattle.design_model.specs.declared.tree.Form as form
use Rattle.design_model.specs.declared.tree.Form.{Form}
use Rattle.design_model.specs.declared.tree.Form.TheFolds.{fold_out-Term, fold-roll-Form}
use Rattle.design_model.specs.declared.tree.Form.TheVariants.{rolls-Signal, rolls-Word}
use Rattle.design_model.specs.declared.tree.Process.TheVariants.{Clocked}
use Rattle.design_model.specs.declared.tree.Stmt.{Stmt}
use Rattle.design_model.specs.declared.tree.StmtForm as stmt_form
use Rattle.design_model.specs.declared.tree.StmtForm.{StmtForm}
use Rattle.design_model.specs.declared.tree.StmtForm.TheFolds.{fold_out-Stmt, fold-roll-StmtForm}
use Rattle.design_model.specs.declared.tree.StmtForm.TheVariants.{rolls-Block, rolls-If, rolls-Set}
use Rattle.design_model.specs.declared.tree.Target as target
use Rattle.design_model.specs.declared.tree.Target.{Target}
use Rattle.design_model.specs.declared.tree.Target.TheFolds.{fold-roll-Target}
use Rattle.design_model.specs.declared.tree.Target.TheVariants.{rolls-Whole, rolls-Word as target-rolls-Word}
use Rattle.design_model.specs.declared.tree.Term.{Term}
use Rattle.selfrun_design.specs.Selfrun.{at, body, keep_d, plain, read_word, selfrun, write_or_read, write_word}

-- how a term, a target and a statement are seen, by their forms
module _ (x : Term) where
  abbrev head : Head
  head = record { place = x.place; width = x.width; signed = x.signed; node = x.node }

  signal_view : (s : ℕ) → x.form.value ≡ form.Signal s → term_view x ≡ t.signal head s
  signal_view s is = rw (fold_out-Term, is, ← rolls-Signal s, fold-roll-Form) refl

  word_view : (m : ℕ) (i : Term) → x.form.value ≡ form.Word m i → term_view x ≡ t.word head m (term_view i)
  word_view m i is = rw (fold_out-Term, is, ← rolls-Word m i, fold-roll-Form) refl

whole_view : (s : ℕ) → target_view (target.Whole s) ≡ t.all_of s
whole_view s = rw (← rolls-Whole s, fold-roll-Target) refl

target_word_view : (m : ℕ) (i : Term) → target_view (target.Word m i) ≡ t.word_of m (term_view i)
target_word_view m i = rw (← target-rolls-Word m i, fold-roll-Target) refl

module _ (x : Stmt) where
  block_view : (v : Vec Stmt) → x.form.value ≡ stmt_form.Block v → stmt_view x ≡ t.block x.place (stmts_of (map stmt_view v.items))
  block_view v is = rw (fold_out-Stmt, is, ← rolls-Block v, fold-roll-StmtForm) refl

  if_view : (n : ℕ) (c : Term) (y z : Stmt) → x.form.value ≡ stmt_form.If n c y (Some z) → stmt_view x ≡ t.branch x.place n (term_view c) (stmt_view y) (t.a_stmt (stmt_view z) t.no_stmts)
  if_view n c y z is = rw (fold_out-Stmt, is, ← rolls-If n c y (Some z), fold-roll-StmtForm) refl

  set_view : (n : ℕ) (b : Bool) (y : Target) (z : Term) → x.form.value ≡ stmt_form.Set n b y z → stmt_view x ≡ t.set x.place n b (target_view y) (term_view z)
  set_view n b y z is = rw (fold_out-Stmt, is, ← rolls-Set n b y z, fold-roll-StmtForm) refl

module _ (alloc : Global) where
  abbrev box : {X : Type 0} → X → Box X
  box x = record { ptr = null_ptr; alloc = alloc; value = x }

  abbrev two : {X : Type 0} → X → X → Vec X
  two x y = record { ptr = null_ptr; len = 2; cap = 2; alloc = alloc; items = x ∷ y ∷ []; ok = (refl, omega arith); small = omega arith }

  abbrev term : Head → Form → Term
  term h f = record { place = h.place; width = h.width; signed = h.signed; node = h.node; form = box f }

  abbrev statement : Place → StmtForm → Stmt
  statement p f = record { place = p; form = box f }

  -- the terms
  abbrev signal : Head → ℕ → Term
  signal h s = term h (form.Signal s)

  signal_is : (h : Head) (s : ℕ) → term_view (signal h s) ≡ t.signal h s
  signal_is h s = signal_view (signal h s) s refl

  abbrev word : Head → ℕ → Term → Term
  word h m i = term h (form.Word m i)

  word_is : (h : Head) (m : ℕ) (i : Term) → term_view (word h m i) ≡ t.word h m (term_view i)
  word_is h m i = word_view (word h m i) m i refl

  abbrev a_at : ℕ → ℕ → Term
  a_at line column = signal (plain line column 4) 2

  -- the statements
  abbrev keep : Stmt
  keep = statement (at 5 5) (stmt_form.Set 1 false (target.Whole 5) (signal (plain 5 10 8) 3))

  keep_is : stmt_view keep ≡ keep_d
  keep_is = set_view keep 1 false _ _ refl ∙ rw (whole_view 5, signal_is (plain 5 10 8) 3) refl

  abbrev write : Stmt
  write = statement (at 6 13) (stmt_form.Set 3 false (target.Word 6 (a_at 6 15)) (signal (plain 6 21 8) 5))

  write_is : stmt_view write ≡ write_word
  write_is = set_view write 3 false _ _ refl ∙ rw (target_word_view 6 (a_at 6 15), signal_is (plain 6 15 4) 2, signal_is (plain 6 21 8) 5) refl

  abbrev read : Stmt
  read = statement (at 6 29) (stmt_form.Set 4 false (target.Whole 4) (word (plain 6 34 8) 6 (a_at 6 36)))

  read_is : stmt_view read ≡ read_word
  read_is = set_view read 4 false _ _ refl ∙ rw (whole_view 4, word_is (plain 6 34 8) 6 (a_at 6 36), signal_is (plain 6 36 4) 2) refl

  abbrev test : Head
  test = record { place = at 6 9; width = 1; signed = false; node = Some 1 }

  abbrev choose : Stmt
  choose = statement (at 6 5) (stmt_form.If 2 (signal test 1) write (Some read))

  choose_is : stmt_view choose ≡ write_or_read
  choose_is = if_view choose 2 _ _ _ refl ∙ rw (signal_is test 1, write_is, read_is) refl

  abbrev block : Stmt
  block = statement (at 4 25) (stmt_form.Block (two keep choose))

  block_is : stmt_view block ≡ body
  block_is = block_view block (two keep choose) refl ∙ rw (keep_is, choose_is) refl

  -- the design
  pub code : Design
  code = record {
    top = selfrun.top;
    instances = selfrun.instances;
    signals = selfrun.signals;
    memories = selfrun.memories;
    processes = Clocked 0 ((Pos, 0) ∷ []) block ∷ [];
    constants = [];
    aliases = [];
  }

  abbrev with_body : t.Stmt → d.Design
  with_body s = record selfrun { processes = t.clocked 0 ((Pos, 0) ∷ []) s ∷ [] }

  pub code_is : design_view code ≡ selfrun
  unfolding code
  code_is = ap with_body block_is
