-- Runs of the class Main alone: chains of `||`, kinds of operands and of values, null and depth at a call.
use Rattle.std.specs.Prelude.{List, [], ◌∷◌, true, false, None, codes}
use Rattle.jn_base.specs.declared.tree.Name.{Name}
use Rattle.jn_base.specs.declared.tree.TypeTerm.TheVariants as type
use Rattle.jn_base.specs.declared.tree.Op.TheVariants as op
use Rattle.jn_base.specs.declared.tree.Level.TheVariants as level
use Rattle.jn_base.specs.declared.tree.Param.{Param}
use Rattle.jn_base.specs.declared.tree.Stmt.{Stmt}
use Rattle.jn_base.specs.declared.tree.Stmt.TheVariants as stmt
use Rattle.jn_base.specs.declared.tree.Program.{Program}
use Rattle.jn_base.specs.Parts.{link}
use Rattle.jn_base.specs.ExampleTrees.{name, line, word}
use Rattle.jn_sem.specs.declared.outcome.Outcome.TheVariants as outcome
use Rattle.jn_sem.specs.declared.outcome.Why.TheVariants as why
use Rattle.jn_sem.specs.Run.{Run}
use Rattle.jn_sem_rows.specs.MainAlone.{text, main_alone, method, main_method, of_main, param, an_int, this, null, number, truth, variable, call, chain, joined, print}

-- ---- operators

-- class Main { void main() { .. } }
abbrev pub doing : List Stmt → Program
doing body = main_alone [] (main_method body ∷ [])

-- print(true || true || true);
abbrev pub or_body : List Stmt
or_body =
    print (chain level.Or (truth true) (link op.Or (line 1) (truth true) ∷ link op.Or (line 1) (truth true) ∷ [])) ∷ []

abbrev pub or_chain : Program
or_chain = doing or_body

-- print(true && 1);
abbrev pub and_body : List Stmt
and_body = print (joined level.And op.And (truth true) (number 1)) ∷ []

abbrev pub and_number : Program
and_number = doing and_body

-- print(1 + true);
abbrev pub sum_body : List Stmt
sum_body = print (joined level.Sum op.Add (number 1) (truth true)) ∷ []

abbrev pub sum_of_kinds : Program
sum_of_kinds = doing sum_body

pub record Operators : Type 0 where
  -- beside the two charges of `main` there are four: the first `true`, each of the two `||`, and `print`
  pub chain : Run or_chain 6 1 1 outcome.Ends (codes "true\n")
  pub chain_before : Run or_chain 5 1 1 outcome.More []
  -- no act tests the right operand of `&&`: it is the value, and here `print` takes it
  pub untested : Run and_number 6 1 1 outcome.Ends (codes "1\n")
  -- `+` itself needs numbers
  pub of_kinds : Run sum_of_kinds 5 1 1 (outcome.Stuck why.Kind) []
  pub of_kinds_before : Run sum_of_kinds 4 1 1 outcome.More []

-- ---- what is bound

abbrev pub x : Name
x = name 2

-- the name x is the third
abbrev pub with_x : List Stmt → Program
with_x body = main_alone (text (codes "x") ∷ []) (main_method body ∷ [])

-- int x = true;
abbrev pub int_body : List Stmt
int_body = stmt.Local false type.Int (word x) (truth true) ∷ []

abbrev pub wrong_int : Program
wrong_int = with_x int_body

-- print(1); final Main x = null; print(2);
abbrev pub path_body : List Stmt
path_body = print (number 1) ∷ stmt.Local true of_main (word x) null ∷ print (number 2) ∷ []

abbrev pub null_path : Program
null_path = with_x path_body

pub record Bindings : Type 0 where
  -- a value that is bound is only tested to be in the declared type, whatever its kind
  pub foreign : Run wrong_int 4 1 1 (outcome.Stuck why.Foreign) []
  -- null is no path
  pub path : Run null_path 6 1 1 outcome.Null (codes "1\n")
  pub path_before : Run null_path 5 1 1 outcome.More (codes "1\n")

-- ---- calls

abbrev pub f : Name
f = name 3

-- void f(..) { }, and void main() { .. }
abbrev pub with_f : List Param → List Stmt → Program
with_f params body =
    main_alone (text (codes "x") ∷ text (codes "f") ∷ []) (main_method body ∷ method None f params [] ∷ [])

-- Main x = null; x.f();
abbrev pub receiver_body : List Stmt
receiver_body = stmt.Local false of_main (word x) null ∷ stmt.Do (call (variable x) f []) ∷ []

abbrev pub null_receiver : Program
null_receiver = with_f [] receiver_body

-- this.f();
abbrev pub plain_body : List Stmt
plain_body = stmt.Do (call this f []) ∷ []

abbrev pub plain_call : Program
plain_call = with_f [] plain_body

-- this.f(null); with f(final Main x)
abbrev pub argument_body : List Stmt
argument_body = stmt.Do (call this f (null ∷ [])) ∷ []

abbrev pub null_argument : Program
null_argument = with_f (param true of_main x ∷ []) argument_body

-- With a depth of 1 there is room for `main` alone.
pub record Calls : Type 0 where
  pub deep : Run plain_call 4 1 1 outcome.Depth []
  pub room : Run plain_call 4 1 2 outcome.Ends []
  -- a null receiver comes before the depth
  pub null_first : Run null_receiver 6 1 1 outcome.Null []
  -- and the depth before a null argument for a `final` parameter
  pub depth_first : Run null_argument 5 1 1 outcome.Depth []
  pub null_then : Run null_argument 5 1 2 outcome.Null []

-- ---- the depth at its edge

-- void f(int x) { if (0 < x) { this.f(x - 1); } }
abbrev pub in_turn : List Stmt
in_turn = stmt.Do (call this f (joined level.Sum op.Sub (variable x) (number 1) ∷ [])) ∷ []

abbrev pub turns : List Stmt
turns = stmt.If (joined level.Compare op.Lt (number 0) (variable x)) in_turn [] (line 1) ∷ []

abbrev pub first_turn : List Stmt
first_turn = stmt.Do (call this f (number 2 ∷ [])) ∷ []

-- class Main { void main() { this.f(2); } .. }
abbrev pub recursion : Program
recursion = main_alone (text (codes "x") ∷ text (codes "f") ∷ [])
    (main_method first_turn ∷ method None f (an_int x ∷ []) turns ∷ [])

-- There are 5 charges until f(2) begins, 9 from f(2) to f(1), as many to f(0), and 4 in f(0), whose condition fails.
pub record Recursion : Type 0 where
  pub four : Run recursion 27 1 4 outcome.Ends []
  pub four_before : Run recursion 26 1 4 outcome.More []
  -- f(0) would be the fourth frame
  pub three : Run recursion 23 1 3 outcome.Depth []
  pub three_before : Run recursion 22 1 3 outcome.More []
