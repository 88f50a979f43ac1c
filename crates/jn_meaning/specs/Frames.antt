-- Frames of the runner, and what an act of one did, as the meaning has them.
use Rattle.std.specs.Prelude.{ℕ, List, [], ◌∷◌, Option, Some, None, Bool, true, false}
use Rattle.std.specs.Option.{option_map}
use Rattle.jn_steps.specs.Steps.{Goes, Enters, Leaves, Faults}
use Rattle.jn_steps.specs.Numbers.{line_of, number_line, truth_line}
use Rattle.jn_base.specs.declared.path.Path.{Path as ShownPath}
use Rattle.jn_base.specs.declared.tree.Program.{Program}
use Rattle.jn_base.specs.Paths.{Path}
use Rattle.jn_table.specs.declared.class.ClassId.{ClassId}
use Rattle.jn_base.specs.declared.tree.Expr.{Expr}
use Rattle.jn_base.specs.declared.tree.Stmt.{Stmt}
use Rattle.jn_sem.specs.Acts as acts
use Rattle.jn_sem.specs.Acts.{Todo, todo, stmts_acts, path_behind}
use Rattle.jn_sem.specs.State.{Heap, Variable, with_values}
use Rattle.jn_sem.specs.State as sem
use Rattle.jn_sem.specs.Does as does
use Rattle.jn_meaning.specs.declared.locals.Locals.{Locals}
use Rattle.jn_meaning.specs.declared.frame.Frame.{Frame}
use Rattle.jn_meaning.specs.declared.did.Ending.{Ending}
use Rattle.jn_meaning.specs.declared.did.Ending.TheVariants as ending
use Rattle.jn_meaning.specs.declared.did.Line.{Line}
use Rattle.jn_meaning.specs.declared.did.Line.TheVariants as line
use Rattle.jn_meaning.specs.declared.did.Callee.{Callee}
use Rattle.jn_meaning.specs.declared.did.Did.{Did}
use Rattle.jn_meaning.specs.declared.did.Did.TheVariants as did
use Rattle.jn_meaning.specs.Values.{path_at, value_of, values_of}
use Rattle.jn_meaning.specs.Work.{todo_in}

abbrev pub variables_of : List ShownPath → Locals → List Variable
variables_of known l = with_values l.vars.list (values_of known l.values.items)

-- the frame that starts the program has the empty path
abbrev pub class_in : List ShownPath → Option ClassId → Path
class_in known None = []
class_in known (Some id) = path_at known id

abbrev pub frame_of : List ShownPath → Frame → sem.Frame
frame_of known f = record {
  class = class_in known f.class;
  method = f.method.now;
  this = value_of known f.this;
  vars = variables_of known f.locals;
  vals = values_of known f.vals;
  todo = todo_in f.todo;
  keeps = f.keeps;
}

abbrev pub ending_of : Ending → does.Ending
ending_of ending.Ends = does.Ends
ending_of ending.AtNull = does.AtNull
ending_of ending.Zero = does.Zero
ending_of ending.Arena = does.Arena
ending_of ending.Depth = does.Depth
ending_of (ending.Stuck w) = does.Stuck w

abbrev pub bytes_of : Line → List ℕ
bytes_of (line.Number z) = number_line z
bytes_of (line.Truth b) = truth_line b
bytes_of (line.Text t) = line_of t.now

abbrev pub entry_of : List ShownPath → Callee → does.Entry
entry_of known c = record { class = path_at known c.class; method = c.method.now; vars = c.vars.list }

-- what was done, where the frame and the heap are now these
abbrev pub did_of : List ShownPath → Did → sem.Frame → Heap → does.Did
did_of known did.Went f h = Goes f h []
did_of known (did.Printed l) f h = Goes f h (bytes_of l)
did_of known (did.Entered c) f h = Enters (entry_of known c.callee) (values_of known c.args.items) f h
did_of known (did.Left v) f h = Leaves (option_map (value_of known) v) h
did_of known (did.Ended o) f h = Faults (ending_of o)

-- what an `if` and a `while` have to do after their conditions, with n variables in scope, and then k
abbrev pub side_chosen : (n path : ℕ) (one other : List Stmt) (k : List Todo) → Bool → List Todo
side_chosen n path one other k true = stmts_acts n path one k
side_chosen n path one other k false = stmts_acts n (path_behind one path) other k

abbrev pub loop_chosen : (n path : ℕ) → Expr → List Stmt → List Todo → Bool → List Todo
loop_chosen n path e body k true = stmts_acts n path body (acts.acts n e (todo n (acts.Repeat path e body) ∷ k))
loop_chosen n path e body k false = k

-- The act was done in the frame f, which is now g, whatever the program, the arena, the classes by their numbers, and the heap.
abbrev pub Plainly : acts.Act → Frame → Did → Frame → Type 0
Plainly x f d g = (p : Program) (m : ℕ) (known : List ShownPath) (h : Heap) → does.Does p m x (frame_of known f) h (did_of known d (frame_of known g) h)
