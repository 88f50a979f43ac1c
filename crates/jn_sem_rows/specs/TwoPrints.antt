-- A whole run, charge by charge: class Main { void main() { print(1); print(2); } }
use Rattle.std.specs.Prelude.{ℕ, ◌≤◌, pos, List, [], ◌∷◌, codes, false}
use Rattle.jn_steps.specs.Runs.{On, End}
use Rattle.jn_base.specs.declared.tree.Method.{Method}
use Rattle.jn_base.specs.declared.tree.Program.{Program}
use Rattle.jn_sem.specs.declared.outcome.Outcome.TheVariants as outcome
use Rattle.jn_sem.specs.Values.{Value, Number, Reference}
use Rattle.jn_sem.specs.Acts.{Push, Open, Print, Todo, todo}
use Rattle.jn_sem.specs.State.{Heap, Frame}
use Rattle.jn_sem.specs.Does.{Ends}
use Rattle.jn_sem.specs.Run.{Running, running, start_frame, start, Charge, Run}
use Rattle.jn_sem_rows.specs.MainAlone.{Main, main_alone, main_method, number, print as print_of}

abbrev pub the_method : Method
the_method = main_method (print_of (number 1) ∷ print_of (number 2) ∷ [])

abbrev pub two_prints : Program
two_prints = main_alone [] (the_method ∷ [])

-- an object of Main is one cell: it has no field
abbrev pub one_object : Heap
one_object = record { objects = record { made = Main ∷ []; stored = [] } ∷ []; used = 1 }

abbrev pub the_object : Value
the_object = Reference 0 (Main ∷ [])

-- what the frame that starts the program has still to do, and its operands
abbrev pub starting : List Value → List Todo → Frame
starting vs k = record start_frame { vals = vs; todo = k }

abbrev pub in_main : List Value → List Todo → Frame
in_main vs k = record {
  class = Main ∷ [];
  method = the_method;
  this = the_object;
  vars = [];
  vals = vs;
  todo = k;
  keeps = false;
}

-- behind the call of `main` the frame that starts the program has nothing to do
abbrev pub at_work : Frame → List ℕ → Running
at_work f out = running (f ∷ starting [] [] ∷ []) one_object out

abbrev pub push : ℕ → Todo
push z = todo 0 (Push (Number (pos z)))

abbrev pub print : Todo
print = todo 0 Print

-- Where at least one cell and one frame are allowed, there are six charges.
pub record TwoPrints (a d : ℕ) : Type 0 where
  -- `new Main()`, and the call of `main`
  pub first : Charge two_prints a d start
      (On (running (starting (the_object ∷ []) (todo 0 Open ∷ []) ∷ []) one_object []))
  pub second : Charge two_prints a d (running (starting (the_object ∷ []) (todo 0 Open ∷ []) ∷ []) one_object [])
      (On (at_work (in_main [] (push 1 ∷ print ∷ push 2 ∷ print ∷ [])) []))
  -- the literal 1, and the first `print`
  pub third : Charge two_prints a d (at_work (in_main [] (push 1 ∷ print ∷ push 2 ∷ print ∷ [])) [])
      (On (at_work (in_main (Number (pos 1) ∷ []) (print ∷ push 2 ∷ print ∷ [])) []))
  pub fourth : Charge two_prints a d (at_work (in_main (Number (pos 1) ∷ []) (print ∷ push 2 ∷ print ∷ [])) [])
      (On (at_work (in_main [] (push 2 ∷ print ∷ [])) (codes "1\n")))
  -- the literal 2, and the second `print`, behind which both frames are at their end
  pub fifth : Charge two_prints a d (at_work (in_main [] (push 2 ∷ print ∷ [])) (codes "1\n"))
      (On (at_work (in_main (Number (pos 2) ∷ []) (print ∷ [])) (codes "1\n")))
  pub sixth : Charge two_prints a d (at_work (in_main (Number (pos 2) ∷ []) (print ∷ [])) (codes "1\n"))
      (End Ends (codes "1\n2\n"))
  -- so the run with six charges ends, and the one with five needs a further one
  pub six : Run two_prints 6 a d outcome.Ends (codes "1\n2\n")
  pub five : Run two_prints 5 a d outcome.More (codes "1\n")

abbrev pub SixCharges : Type 0
SixCharges = (a d : ℕ) → 1 ≤ a → 1 ≤ d → TwoPrints a d
