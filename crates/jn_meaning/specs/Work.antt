-- What a body has still to do, by the parts that the runner keeps of it.
use Rattle.std.specs.Prelude.{◌≡◌, ℕ, List, [], ◌∷◌, reverse, Option, Some, None}
use Rattle.jn_sem.specs.Values as sem
use Rattle.jn_sem.specs.Acts as acts
use Rattle.jn_sem.specs.Acts.{Todo, todo, expr_does, stmts_acts}
use Rattle.jn_sem.specs.LawsOfActs.{args_acts, links_acts, parts_acts}
use Rattle.jn_meaning.specs.declared.act.Act.{Act}
use Rattle.jn_meaning.specs.declared.act.Act.TheVariants as act
use Rattle.jn_meaning.specs.declared.work.Item.{Item}
use Rattle.jn_meaning.specs.declared.work.Item.TheVariants as item
use Rattle.jn_meaning.specs.declared.work.Entry.{Entry}
use Rattle.jn_meaning.specs.declared.work.Due.{Due}
use Rattle.jn_meaning.specs.declared.work.Work.{Work}

abbrev pub act_of : Act → acts.Act
act_of (act.Number z) = acts.Push (sem.Number z)
act_of (act.Truth b) = acts.Push (sem.Truth b)
act_of act.Null = acts.Push sem.Null
act_of (act.Read x) = acts.Read x
act_of act.This = acts.This
act_of act.Invert = acts.Invert
act_of act.Negate = acts.Negate
act_of (act.Operate o) = acts.Operate o
act_of (act.Decide and e) = acts.Decide and e.now
act_of (act.Get f) = acts.Get f
act_of (act.Call m n keeps) = acts.Call m n keeps
act_of (act.Make t n keeps) = acts.Make t.now n keeps
act_of (act.Super t m n keeps) = acts.Super t.now m n keeps
act_of (act.View t) = acts.View t.now
act_of (act.Bind fixed t x path) = acts.Bind fixed t.now x path
act_of (act.Assign x) = acts.Assign x
act_of (act.Put f) = acts.Put f
act_of (act.Choose path one other) = acts.Choose path one.now other.now
act_of (act.Repeat path e body) = acts.Repeat path e.now body.now
act_of (act.Return b) = acts.Return b
act_of act.Print = acts.Print
act_of (act.PrintText t) = acts.PrintText t
act_of act.Begin = acts.Begin
act_of act.Open = acts.Open

-- what an item has to do, with n variables in scope, and then k
abbrev pub does : Item → (n : ℕ) → List Todo → List Todo
does (item.Stmts path ss) n k = stmts_acts n path ss.now k
does (item.Exprs es) n k = args_acts n es.now k
does (item.Expr keeps e) n k = expr_does e.now keeps n k
does (item.Parts keeps ss) n k = parts_acts ss.now keeps n k
does (item.Links ls) n k = links_acts n ls.now k
does (item.Act a) n k = todo n (act_of a) ∷ k

-- the first item comes first
abbrev pub work_of : List Entry → List Todo
work_of [] = []
work_of (x ∷ xs) = does x.item x.scope (work_of xs)

-- what is to be done, where the last item comes first
abbrev pub todo_in : Work → List Todo
todo_in w = work_of (reverse w.items.items)

-- `rest` is left behind the act that is due; there is none where nothing is to be done
abbrev pub IsNext : List Todo → Option Due → List Todo → Type 0
IsNext work None rest = (work ≡ []) × (rest ≡ [])
IsNext work (Some x) rest = work ≡ todo x.scope (act_of x.act) ∷ rest
