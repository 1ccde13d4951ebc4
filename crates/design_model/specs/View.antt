-- The plain trees of the trees of the code, and the plain design of a design of the code.
use Rattle.std.specs.Prelude.{List, [], ◌∷◌, map, Option, Some, None}
use Rattle.cov_host.specs.declared.place.Place.{Place}
use Rattle.design_model.specs.Tree as t
use Rattle.design_model.specs.Design as d
use Rattle.design_model.specs.declared.design.Design.{Design}
use Rattle.design_model.specs.declared.tree.Term.{Term, Term-F, fold-Term}
use Rattle.design_model.specs.declared.tree.Form.TheOpen.{Form-F}
use Rattle.design_model.specs.declared.tree.Target.{Target, fold-Target}
use Rattle.design_model.specs.declared.tree.Target.TheOpen.{Target-F}
use Rattle.design_model.specs.declared.tree.CaseArm.{CaseArm-F}
use Rattle.design_model.specs.declared.tree.Stmt.{Stmt, Stmt-F, fold-Stmt}
use Rattle.design_model.specs.declared.tree.StmtForm.TheOpen.{StmtForm-F}
use Rattle.design_model.specs.declared.tree.Process.{Process}
use Rattle.design_model.specs.declared.tree.Process.TheVariants.{Assign, Comb, Clocked}

-- a list of terms
abbrev pub terms_of : List t.Term → t.Terms
terms_of [] = t.no_terms
terms_of (x ∷ xs) = t.a_term x (terms_of xs)

-- a list of targets
abbrev pub targets_of : List t.Target → t.Targets
targets_of [] = t.no_targets
targets_of (x ∷ xs) = t.a_target x (targets_of xs)

-- a list of statements
abbrev pub stmts_of : List t.Stmt → t.Stmts
stmts_of [] = t.no_stmts
stmts_of (x ∷ xs) = t.a_stmt x (stmts_of xs)

-- one level of a term, which waits for its head
abbrev pub form_step : Form-F (t.Head → t.Term) t.Term → t.Head → t.Term
form_step (Form-F.Number n) h = t.number h n
form_step (Form-F.Signal s) h = t.signal h s
form_step (Form-F.Word m i) h = t.word h m i
form_step (Form-F.Bit x i) h = t.bit h x i
form_step (Form-F.Part x i j) h = t.part h x i j
form_step (Form-F.Slide x b k up) h = t.slide h x b k up
form_step (Form-F.Unary op x) h = t.unary h op x
form_step (Form-F.Binary op x y) h = t.binary h op x y
form_step (Form-F.Choice c x y) h = t.choice h c x y
form_step (Form-F.Concat v) h = t.concat h (terms_of v.items)
form_step (Form-F.Repeat n v) h = t.repeat h n (terms_of v.items)
form_step (Form-F.Sign s x) h = t.sign h s x

-- one level of a term
abbrev pub term_step : Term-F (t.Head → t.Term) t.Term → t.Term
term_step x = x.form.value (record { place = x.place; width = x.width; signed = x.signed; node = x.node })

-- the plain tree of a term
abbrev pub term_view : Term → t.Term
term_view = fold-Term (t.Head → t.Term) t.Term form_step term_step

-- one level of a target
abbrev pub target_step : Target-F t.Target → t.Target
target_step (Target-F.Whole s) = t.all_of s
target_step (Target-F.Part s low w) = t.bits_of s (term_view low) w
target_step (Target-F.Word m i) = t.word_of m (term_view i)
target_step (Target-F.Several v) = t.several (targets_of v.items)

-- the plain tree of a target
abbrev pub target_view : Target → t.Target
target_view = fold-Target t.Target target_step

-- an arm: its labels and its body
abbrev pub Arm : Type 0
Arm = t.Terms × t.Stmt

-- a list of arms
abbrev pub arms_of : List Arm → t.Arms
arms_of [] = t.no_arms
arms_of (x ∷ xs) = t.arm x.0 x.1 (arms_of xs)

-- the else branch, if there is one
abbrev pub else_of : Option t.Stmt → t.Stmts
else_of None = t.no_stmts
else_of (Some s) = t.a_stmt s t.no_stmts

-- one level of a statement, which waits for its place
abbrev pub stmt_form_step : StmtForm-F (Place → t.Stmt) Arm t.Stmt → Place → t.Stmt
stmt_form_step (StmtForm-F.Block v) p = t.block p (stmts_of v.items)
stmt_form_step (StmtForm-F.If n x s other) p = t.branch p n (term_view x) s (else_of other)
stmt_form_step (StmtForm-F.Case n k x v) p = t.select p n k (term_view x) (arms_of v.items)
stmt_form_step (StmtForm-F.Turns n v) p = t.turns p n (stmts_of v.items)
stmt_form_step (StmtForm-F.Set n b x y) p = t.set p n b (target_view x) (term_view y)
stmt_form_step StmtForm-F.Empty p = t.empty p

-- one level of a statement
abbrev pub stmt_step : Stmt-F (Place → t.Stmt) Arm t.Stmt → t.Stmt
stmt_step s = s.form.value s.place

-- one level of an arm
abbrev pub arm_step : CaseArm-F (Place → t.Stmt) Arm t.Stmt → Arm
arm_step a = (terms_of (map term_view a.labels.items), a.body)

-- the plain tree of a statement
abbrev pub stmt_view : Stmt → t.Stmt
stmt_view = fold-Stmt (Place → t.Stmt) Arm t.Stmt stmt_form_step arm_step stmt_step

-- the process with plain trees
abbrev pub process_view : Process → t.Process
process_view (Assign i x v counted) = t.assign i (target_view x) (term_view v) counted
process_view (Comb i wakes s) = t.comb i wakes (stmt_view s)
process_view (Clocked i events s) = t.clocked i events (stmt_view s)

-- the design with plain trees
abbrev pub design_view : Design → d.Design
design_view x =
    record {
      top = x.top;
      instances = x.instances;
      signals = x.signals;
      memories = x.memories;
      processes = map process_view x.processes;
      constants = x.constants;
      aliases = x.aliases;
    }
