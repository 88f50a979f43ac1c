-- A call whose result is wanted, of a body that gives none.
use Rattle.std.specs.Prelude.{List, [], ◌∷◌, Some, None, codes}
use Rattle.jn_base.specs.declared.tree.Name.{Name}
use Rattle.jn_base.specs.declared.tree.Text.{Text}
use Rattle.jn_base.specs.declared.tree.TypeTerm.TheVariants as type
use Rattle.jn_base.specs.declared.tree.Method.{Method}
use Rattle.jn_base.specs.declared.tree.Stmt.{Stmt}
use Rattle.jn_base.specs.declared.tree.Stmt.TheVariants as stmt
use Rattle.jn_base.specs.declared.tree.Program.{Program}
use Rattle.jn_base.specs.ExampleTrees.{name, line}
use Rattle.jn_sem.specs.declared.outcome.Outcome.TheVariants as outcome
use Rattle.jn_sem.specs.declared.outcome.Why.TheVariants as why
use Rattle.jn_sem.specs.Run.{Run}
use Rattle.jn_sem_rows.specs.MainAlone.{text, main_alone, method, main_method, an_int, this, number, variable, call}

abbrev pub g : Name
g = name 2

abbrev pub h : Name
h = name 3

abbrev pub v : Name
v = name 4

abbrev pub a : Name
a = name 5

abbrev pub b : Name
b = name 6

abbrev pub names : List Text
names = text (codes "g") ∷ text (codes "h") ∷ text (codes "v") ∷ text (codes "a") ∷ text (codes "b") ∷ []

-- void g(int a) { }, and int h(int a, int b) { return a; }
abbrev pub g_method : Method
g_method = method None g (an_int a ∷ []) []

abbrev pub h_method : Method
h_method = method (Some type.Int) h (an_int a ∷ an_int b ∷ []) (stmt.Return (Some (variable a)) (line 1) ∷ [])

-- void main() { this.g(this.h(1, this.v())); }
abbrev pub caller : Method
caller = main_method (stmt.Do (call this g (call this h (number 1 ∷ call this v [] ∷ []) ∷ [])) ∷ [])

-- class Main { .. } with these, and void v() { .. }
abbrev pub void_operand : List Stmt → Program
void_operand body = main_alone names (caller ∷ g_method ∷ h_method ∷ method None v [] body ∷ [])

-- There are charged: `new Main()`, the call of `main`, `this` for g, `this` for h, 1, `this` for v, and the call of v.
pub record VoidOperand : Type 0 where
  -- with `void v() { }` the body of v ends at once, with the seventh charge, and h wants its result
  pub before : Run (void_operand []) 6 1 2 outcome.More []
  pub at_end : Run (void_operand []) 7 1 2 (outcome.Stuck why.Kind) []
  -- with `void v() { return; }` it ends with the eighth
  pub entered : Run (void_operand (stmt.Return None (line 1) ∷ [])) 7 1 2 outcome.More []
  pub at_return : Run (void_operand (stmt.Return None (line 1) ∷ [])) 8 1 2 (outcome.Stuck why.Kind) []
