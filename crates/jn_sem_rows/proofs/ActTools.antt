-- What the forms of MainAlone have to do.
use Rattle.std.proofs.Common.{◌≡◌, ℕ, suc, List, [], ◌∷◌, Some, None, Bool, true, false, refl, sym, ap, ◌∙◌}
use Rattle.std.specs.Prelude.{pos, length, codes, take, ◌++◌}
use Rattle.std.specs.Fmt.{digits}
use Rattle.jn_steps.specs.Numbers.{number_line}
use Rattle.jn_steps.specs.Steps.{Goes}
use Rattle.jn_steps.specs.Runs.{Report, On, report}
use Rattle.jn_steps.specs.Reports.{Reports}
use Rattle.jn_base.specs.declared.tree.Program.{Program}
use Rattle.jn_base.specs.declared.tree.Name.{Name}
use Rattle.jn_base.specs.declared.tree.Named.{Named}
use Rattle.jn_base.specs.declared.tree.TypeTerm.{TypeTerm}
use Rattle.jn_base.specs.declared.tree.Link.{Link}
use Rattle.jn_base.specs.declared.tree.Level.{Level}
use Rattle.jn_base.specs.declared.tree.Expr.{Expr}
use Rattle.jn_base.specs.declared.tree.Suffix.{out-roll-Suffix}
use Rattle.jn_base.specs.declared.tree.Stmt.{Stmt}
use Rattle.jn_base.specs.declared.tree.Stmt.TheVariants as stmt
use Rattle.jn_base.specs.Parts.{suffix, named}
use Rattle.jn_base.specs.ExampleTrees.{line}
use Rattle.jn_sem.specs.Values.{Value, Number, Truth, Null}
use Rattle.jn_sem.specs.State.{Heap, Frame}
use Rattle.jn_sem.specs.Does.{Ending}
use Rattle.jn_sem.specs.Run.{Running, Then, running, shown, settled, Charge}
use Rattle.jn_sem.specs.Acts.{Push, Read, This, Call, Bind, Choose, Return, Print, Todo, todo, expr_does, acts, stmts_acts, path_behind}
use Rattle.jn_sem.specs.LawsOfActs.{args_acts, links_acts, part_acts, suffix_acts}
use Rattle.jn_sem.proofs.ActLaws.{acts_are}
use Rattle.jn_sem_rows.specs.MainAlone.{this, null, number, truth, variable, call, chain, print}

pub this_is : (keeps : Bool) (n : ℕ) (k : List Todo) → expr_does this keeps n k ≡ todo n This ∷ k
this_is keeps n k = (acts_are.exprs (line 1) keeps n k).this

pub null_is : (keeps : Bool) (n : ℕ) (k : List Todo) → expr_does null keeps n k ≡ todo n (Push Null) ∷ k
null_is keeps n k = (acts_are.exprs (line 1) keeps n k).null

pub number_is : (z : ℕ) (keeps : Bool) (n : ℕ) (k : List Todo) → expr_does (number z) keeps n k ≡ todo n (Push (Number (pos z))) ∷ k
number_is z keeps n k = (acts_are.exprs (line 1) keeps n k).number (pos z)

pub truth_is : (b : Bool) (keeps : Bool) (n : ℕ) (k : List Todo) → expr_does (truth b) keeps n k ≡ todo n (Push (Truth b)) ∷ k
truth_is b keeps n k = (acts_are.exprs (line 1) keeps n k).truth b

pub variable_is : (x : Name) (keeps : Bool) (n : ℕ) (k : List Todo) → expr_does (variable x) keeps n k ≡ todo n (Read x) ∷ k
variable_is x keeps n k = (acts_are.exprs (line 1) keeps n k).var x

part_is : (m : Name) (es : List Expr) (keeps : Bool) (n : ℕ) (k : List Todo)
    → suffix_acts (suffix m (line 1) (Some es)) keeps n k ≡ part_acts m (Some es) keeps n k
part_is m es keeps n k = ap (λ s. part_acts s.name.name s.args keeps n k) (out-roll-Suffix (record { name = named m (line 1); args = Some es }))

pub call_is : (r : Expr) (m : Name) (es : List Expr) (keeps : Bool) (n : ℕ) (k : List Todo)
    → expr_does (call r m es) keeps n k ≡ expr_does r true n (args_acts n es (todo n (Call m (length es) keeps) ∷ k))
call_is r m es keeps n k =
    (acts_are.exprs (line 1) keeps n k).post r (suffix m (line 1) (Some es) ∷ []) ∙ ap (acts n r) (part_is m es keeps n k)

pub chain_is : (level : Level) (e : Expr) (ls : List Link) (keeps : Bool) (n : ℕ) (k : List Todo)
    → expr_does (chain level e ls) keeps n k ≡ expr_does e true n (links_acts n ls k)
chain_is level e ls keeps n k = (acts_are.exprs (line 1) keeps n k).chain level e ls

-- ---- statements

pub do_is : (e : Expr) (n path : ℕ) (ss : List Stmt) (k : List Todo)
    → stmts_acts n path (stmt.Do e ∷ ss) k ≡ expr_does e false n (stmts_acts n path ss k)
do_is e n path ss k = (acts_are.stmts n path ss k).call e

pub print_is : (e : Expr) (n path : ℕ) (ss : List Stmt) (k : List Todo)
    → stmts_acts n path (print e ∷ ss) k ≡ expr_does e true n (todo n Print ∷ stmts_acts n path ss k)
print_is e n path ss k = (acts_are.stmts n path ss k).prints e (line 1)

pub local_is : (fixed : Bool) (t : TypeTerm) (x : Named) (e : Expr) (n path : ℕ) (ss : List Stmt) (k : List Todo)
    → stmts_acts n path (stmt.Local fixed t x e ∷ ss) k ≡ expr_does e true n (todo n (Bind fixed t x.name path) ∷ stmts_acts (suc n) (suc path) ss k)
local_is fixed t x e n path ss k = (acts_are.stmts n path ss k).local fixed t x e

pub if_is : (e : Expr) (one other : List Stmt) (n path : ℕ) (ss : List Stmt) (k : List Todo)
    → stmts_acts n path (stmt.If e one other (line 1) ∷ ss) k
    ≡ expr_does e true n (todo n (Choose path one other) ∷ stmts_acts n (path_behind other (path_behind one path)) ss k)
if_is e one other n path ss k = (acts_are.stmts n path ss k).choice e one other (line 1)

pub return_is : (n path : ℕ) (ss : List Stmt) (k : List Todo)
    → stmts_acts n path (stmt.Return None (line 1) ∷ ss) k ≡ todo n (Return false) ∷ stmts_acts n path ss k
return_is n path ss k = (acts_are.stmts n path ss k).returns_none (line 1)

pub result_is : (e : Expr) (n path : ℕ) (ss : List Stmt) (k : List Todo)
    → stmts_acts n path (stmt.Return (Some e) (line 1) ∷ ss) k ≡ expr_does e true n (todo n (Return true) ∷ stmts_acts n path ss k)
result_is e n path ss k = (acts_are.stmts n path ss k).returns e (line 1)

-- ---- what is printed

pub one_line : number_line (pos 1) ≡ codes "1\n"
unfolding digits
one_line = refl

-- a `print` of 1
pub shows_one : (p : Program) (a d : ℕ) (f : Frame) (n : ℕ) (vs : List Value) (k : List Todo) (fs : List Frame) (h : Heap) (out : List ℕ)
    → Charge p a d (running (record f { vals = Number (pos 1) ∷ vs; todo = todo n Print ∷ k } ∷ fs) h out)
    (settled (record f { vars = take n f.vars; vals = vs; todo = k } ∷ fs) h (out ++ codes "1\n"))
shows_one p a d f n vs k fs h out = record {
  did = Goes (record f { vars = take n f.vars; vals = vs; todo = k }) h (codes "1\n");
  does = ap (λ (bytes : List ℕ). Goes (record f { vars = take n f.vars; vals = vs; todo = k }) h bytes) (sym one_line);
  proceeds = refl;
}

-- a run, charge by charge
pub data ByCharges (p : Program) (a d : ℕ) : ℕ → Then → Report Ending → Type 0 where
  stop : {x : Then} {r : Report Ending} → r ≡ report shown x → ByCharges p a d 0 x r
  charge : {n : ℕ} {s : Running} {y : Then} {r : Report Ending} → Charge p a d s y → ByCharges p a d n y r → ByCharges p a d (suc n) (On s) r

pub by_charges : (p : Program) (a d : ℕ) {n : ℕ} {x : Then} {r : Report Ending} → ByCharges p a d n x r → Reports (Charge p a d) shown n x r
by_charges p a d (stop e) = e
by_charges p a d (charge c k) = (_, c, by_charges p a d k)
