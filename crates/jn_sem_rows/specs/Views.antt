-- What two views of one object do: which body a call runs, view changes, fields, and new objects.
use Rattle.std.specs.Prelude.{ℕ, pos, List, [], ◌∷◌, true, false, Option, Some, codes}
use Rattle.jn_steps.specs.Runs.{On}
use Rattle.jn_steps.specs.Reports.{Reports}
use Rattle.jn_base.specs.declared.tree.Name.{Name}
use Rattle.jn_base.specs.declared.tree.Head.TheVariants as head
use Rattle.jn_base.specs.declared.tree.Term.{Term}
use Rattle.jn_base.specs.declared.tree.ViewTerm.{ViewTerm}
use Rattle.jn_base.specs.declared.tree.TypeTerm.TheVariants as type
use Rattle.jn_base.specs.declared.tree.Method.{Method}
use Rattle.jn_base.specs.declared.tree.Member.TheVariants as member
use Rattle.jn_base.specs.declared.tree.Op.TheVariants as op
use Rattle.jn_base.specs.declared.tree.Stmt.TheVariants as stmt
use Rattle.jn_base.specs.declared.tree.Program.{Program}
use Rattle.jn_base.specs.Paths.{Path}
use Rattle.jn_base.specs.ExampleTrees.{line, class_in}
use Rattle.jn_sem.specs.declared.outcome.Why.TheVariants as why
use Rattle.jn_sem.specs.Values.{Value, Number, Null, Reference}
use Rattle.jn_sem.specs.Acts.{Push, Operate, Get, Call, Make, View, Put, Print, Todo, todo}
use Rattle.jn_sem.specs.State.{Stored, Object, Heap, Frame}
use Rattle.jn_sem.specs.Does.{Ending, Ends, AtNull, Arena, Stuck}
use Rattle.jn_sem.specs.Run.{running, shown, no_method, Charge}
use Rattle.jn_sem_rows.specs.MainAlone.{method, number}
use Rattle.jn_sem_rows.specs.SlotsExample.{disp, Lit, v, tag, next, eval, adapting, in_base, in_disp, slot, tagged, linked}

-- Each row begins in the midst of a body of base.Lit without a result, whose `this` is at the view V: it has these
-- operands (the latest first), these acts are left, and no other frame waits.
abbrev pub working : Path → List Value → List Todo → Frame
working V vs k = record {
  class = in_base Lit;
  method = no_method;
  this = Reference 0 V;
  vars = [];
  vals = vs;
  todo = k;
  keeps = false;
}

-- with n charges the run comes to this outcome, and puts these bytes
abbrev pub ComesTo : Program → (arena : ℕ) → Heap → Frame → (n : ℕ) → Option Ending → List ℕ → Type 0
ComesTo p a h f n o bytes =
    Reports (Charge p a 2) shown n (On (running (f ∷ []) h [])) (record { outcome = o; output = bytes })

-- one object, seen at the class V
abbrev pub seen : Path → Value
seen V = Reference 0 V

-- ---- calls

-- int eval() { return z; }
abbrev pub evaluating : ℕ → Method
evaluating z = method (Some type.Int) eval [] (stmt.Return (Some (number z)) (line 1) ∷ [])

-- package base { class Lit { int eval() { return 1; } } }
-- package disp extends base adapts base { class Lit { int eval() { return 2; } } }
abbrev pub dispatch : Program
dispatch = adapting
    (class_in Lit [] (member.Body (evaluating 1) ∷ []) ∷ [])
    (class_in Lit [] (member.Body (evaluating 2) ∷ []) ∷ [])

-- disp!.Lit
abbrev pub to_disp_lit : ViewTerm
to_disp_lit = record {
  term = record { head = head.Plain; exact = disp ∷ []; names = Lit ∷ []; at = line 1 };
  masks = [];
}

-- an object that was made as a base.Lit
abbrev pub one_lit : Heap
one_lit = record { objects = record { made = in_base Lit; stored = [] } ∷ []; used = 1 }

abbrev pub eval_and_print : List Todo
eval_and_print = todo 0 (Call eval 0 true) ∷ todo 0 Print ∷ []

-- in a body at work whose `this` is at base.Lit
abbrev pub Evaluates : List Value → List Todo → ℕ → Option Ending → List ℕ → Type 0
Evaluates vs k n o bytes = ComesTo dispatch 1 one_lit (working (in_base Lit) vs k) n o bytes

pub record Dispatch : Type 0 where
  -- a call runs the body at the view, whatever the class as which the object was made
  pub at_base : Evaluates (seen (in_base Lit) ∷ []) eval_and_print 4 (Some Ends) (codes "1\n")
  pub at_disp : Evaluates (seen (in_disp Lit) ∷ []) eval_and_print 4 (Some Ends) (codes "2\n")
  -- a view change makes the one view of the other; null stays null
  pub viewed : Evaluates (seen (in_base Lit) ∷ []) (todo 0 (View to_disp_lit) ∷ eval_and_print) 5 (Some Ends) (codes "2\n")
  pub null_viewed : Evaluates (Null ∷ []) (todo 0 (View to_disp_lit) ∷ eval_and_print) 2 (Some AtNull) []
  -- and both are the same object
  pub equal : Evaluates (seen (in_disp Lit) ∷ seen (in_base Lit) ∷ []) (todo 0 (Operate op.Eq) ∷ todo 0 Print ∷ []) 2
      (Some Ends) (codes "true\n")

-- ---- fields, in the families of one class where `tag` is a field of disp.Lit alone

-- an object that was made as a base.Lit, with 5 in v; it takes 3 cells
abbrev pub base_lit : List Stored → Object
base_lit values = record { made = in_base Lit; stored = values }

abbrev pub five_in_v : Heap
five_in_v = record {
  objects = base_lit (record { slot = slot (in_base Lit) v; value = Number (pos 5) } ∷ []) ∷ [];
  used = 3;
}

abbrev pub get_and_print : Name → List Todo
get_and_print f = todo 0 (Get f) ∷ todo 0 Print ∷ []

-- in a body at work whose `this` is at base.Lit
abbrev pub Fields : List Value → List Todo → ℕ → Option Ending → List ℕ → Type 0
Fields vs k n o bytes = ComesTo tagged 3 five_in_v (working (in_base Lit) vs k) n o bytes

pub record FieldViews : Type 0 where
  -- v is one slot, which is read through both views
  pub at_base : Fields (seen (in_base Lit) ∷ []) (get_and_print v) 2 (Some Ends) (codes "5\n")
  pub at_disp : Fields (seen (in_disp Lit) ∷ []) (get_and_print v) 2 (Some Ends) (codes "5\n")
  -- what is stored through the one view is read through the other
  pub stored : Fields (Number (pos 6) ∷ seen (in_disp Lit) ∷ [])
      (todo 0 (Put v) ∷ todo 0 (Push (seen (in_base Lit))) ∷ get_and_print v) 4 (Some Ends) (codes "6\n")
  -- tag has no value in a new base.Lit, until one is stored
  pub masked : Fields (seen (in_disp Lit) ∷ []) (get_and_print tag) 1 (Some (Stuck why.Masked)) []
  pub unmasked : Fields (Number (pos 7) ∷ seen (in_disp Lit) ∷ [])
      (todo 0 (Put tag) ∷ todo 0 (Push (seen (in_disp Lit))) ∷ get_and_print tag) 4 (Some Ends) (codes "7\n")

-- ---- new objects

-- the term `Lit`
abbrev pub lit_term : Term
lit_term = record { head = head.Plain; exact = []; names = Lit ∷ []; at = line 1 }

-- new Lit(), and then its field
abbrev pub new_and_print : Name → List Todo
new_and_print f = todo 0 (Make lit_term 0 true) ∷ get_and_print f

pub record NewObjects : Type 0 where
  -- a further Lit takes 3 cells, one for itself and one for each slot of its group, and v is 0
  pub fits : ComesTo tagged 6 five_in_v (working (in_base Lit) [] (new_and_print v)) 3 (Some Ends) (codes "0\n")
  pub full : ComesTo tagged 5 five_in_v (working (in_base Lit) [] (new_and_print v)) 1 (Some Arena) []
  -- where `this` is at disp.Lit, the term `Lit` stands for that class, and tag is 0
  pub of_disp : ComesTo tagged 6 five_in_v (working (in_disp Lit) [] (new_and_print tag)) 3 (Some Ends) (codes "0\n")

-- ---- a field whose type hangs on `this`

-- an object with a reference to another one in `next`, both made and seen as a base.Lit
abbrev pub two_lits : Heap
two_lits = record {
  objects = base_lit (record { slot = slot (in_base Lit) next; value = Reference 1 (in_base Lit) } ∷ [])
      ∷ base_lit (record { slot = slot (in_base Lit) next; value = Null } ∷ []) ∷ [];
  used = 4;
}

abbrev pub NextIs : Path → Path → Type 0
NextIs V W =
    Charge linked 4 2 (running (working V (seen V ∷ []) (todo 0 (Get next) ∷ todo 0 Print ∷ []) ∷ []) two_lits [])
    (On (running (working V (Reference 1 W ∷ []) (todo 0 Print ∷ []) ∷ []) two_lits []))

pub record NextViews : Type 0 where
  -- what is read is seen in the family of the view at which it is read
  pub at_base : NextIs (in_base Lit) (in_base Lit)
  pub at_disp : NextIs (in_disp Lit) (in_disp Lit)
