-- What an act asks of its operands, told of the runner's frame.
use Rattle.std.proofs.Common.{◌≡◌, ℕ, List, [], ◌∷◌, length, Option, Some, None, Bool, true, false, refl, sym, ap, ◌∙◌, subst}
use Rattle.std.specs.Prelude.{ℤ, slice_get}
use Rattle.jn_steps.specs.Steps.{Goes, Faults}
use Rattle.jn_base.specs.declared.path.Path.{Path as ShownPath}
use Rattle.jn_sem.specs.declared.outcome.Why.TheVariants as why
use Rattle.jn_sem.specs.Values.{Number, Truth, Null, Reference}
use Rattle.jn_sem.specs.Values as sem
use Rattle.jn_base.specs.declared.tree.Name.{Name}
use Rattle.jn_base.specs.declared.tree.Expr.{Expr}
use Rattle.jn_base.specs.declared.tree.Stmt.{Stmt}
use Rattle.jn_sem.specs.Acts as acts
use Rattle.jn_sem.specs.Acts.{Todo}
use Rattle.jn_sem.specs.State.{Heap, Variable, variable}
use Rattle.jn_sem.specs.Asks.{OnFirst, OnSome}
use Rattle.jn_sem.specs.Does.{Did, Way, Stuck, missing, goes, on_one, on_two, on_number, on_truth, decided, chosen, repeated, same_truth}
use Rattle.jn_meaning.specs.declared.value.Value.{Value}
use Rattle.jn_meaning.specs.declared.value.Value.TheVariants as value
use Rattle.jn_meaning.specs.declared.frame.Frame.{Frame}
use Rattle.jn_meaning.specs.declared.did.Did.TheVariants as did
use Rattle.jn_meaning.specs.Values.{value_of, values_of}
use Rattle.jn_meaning.specs.declared.did.Ending.TheVariants as ending
use Rattle.jn_meaning.specs.declared.work.Work.{Work}
use Rattle.jn_meaning.specs.Frames.{variables_of, frame_of, did_of, side_chosen, loop_chosen, Plainly}
use Rattle.jn_meaning.specs.Work.{todo_in}
use Rattle.jn_meaning.specs.Newest.{IsNewest}
use Rattle.jn_meaning.proofs.Variables.{values_at, newest_none, newest_some, scope_long}
use Rattle.jn_meaning.specs.Kinds.{NoNumber, NoTruth}

module _ (known : List ShownPath) where
  -- the latest operand
  pub at_first : (f : Frame) (v : Value) (rest : List Value) (go : sem.Value → List sem.Value → Way) (d : Did) → f.vals ≡ v ∷ rest
      → go (value_of known v) (values_of known rest) d → on_one (frame_of known f) go d
  at_first f v rest go d e g = subst (λ (vs : List Value). OnFirst (values_of known vs) missing go d) (sym e) g

  pub at_none : (f : Frame) (go : sem.Value → List sem.Value → Way) → f.vals ≡ [] → on_one (frame_of known f) go (Faults (Stuck why.Missing))
  at_none f go e = subst (λ (vs : List Value). OnFirst (values_of known vs) missing go (Faults (Stuck why.Missing))) (sym e) refl

  -- the two latest ones
  abbrev pair_of : List sem.Value → (sem.Value → sem.Value → List sem.Value → Way) → Way
  pair_of vs go = OnFirst vs missing (λ b rest. OnFirst rest missing (λ a vs. go a b vs))

  pub at_two : (f : Frame) (a b : Value) (one rest : List Value) (go : sem.Value → sem.Value → List sem.Value → Way) (d : Did) → f.vals ≡ b ∷ one → one ≡ a ∷ rest
      → go (value_of known a) (value_of known b) (values_of known rest) d → on_two (frame_of known f) go d
  at_two f a b one rest go d e h g =
      subst (λ (vs : List Value). pair_of (values_of known vs) go d) (sym (e ∙ ap (λ (vs : List Value). b ∷ vs) h)) g

  pub at_only : (f : Frame) (b : Value) (one : List Value) (go : sem.Value → sem.Value → List sem.Value → Way) → f.vals ≡ b ∷ one → one ≡ []
      → on_two (frame_of known f) go (Faults (Stuck why.Missing))
  at_only f b one go e h =
      subst (λ (vs : List Value). pair_of (values_of known vs) go (Faults (Stuck why.Missing))) (sym (e ∙ ap (λ (vs : List Value). b ∷ vs) h)) refl

  pub at_no_two : (f : Frame) (go : sem.Value → sem.Value → List sem.Value → Way) → f.vals ≡ [] → on_two (frame_of known f) go (Faults (Stuck why.Missing))
  at_no_two f go e = subst (λ (vs : List Value). pair_of (values_of known vs) go (Faults (Stuck why.Missing))) (sym e) refl

  -- its kind
  pub at_truth : (v : Value) (b : Bool) (go : Bool → Way) (d : Did) → v ≡ value.Truth b → go b d → on_truth (value_of known v) go d
  at_truth v b go d e g = subst (λ (w : Value). on_truth (value_of known w) go d) (sym e) g

  pub at_no_truth : (v : Value) (go : Bool → Way) → NoTruth v → on_truth (value_of known v) go (Faults (Stuck why.Kind))
  at_no_truth (value.Truth b) go n = absurd n
  at_no_truth (value.Number z) go n = refl
  at_no_truth value.Null go n = refl
  at_no_truth (value.Reference o id) go n = refl

  pub at_number : (v : Value) (z : ℤ) (go : ℤ → Way) (d : Did) → v ≡ value.Number z → go z d → on_number (value_of known v) go d
  at_number v z go d e g = subst (λ (w : Value). on_number (value_of known w) go d) (sym e) g

  pub at_no_number : (v : Value) (go : ℤ → Way) → NoNumber v → on_number (value_of known v) go (Faults (Stuck why.Kind))
  at_no_number (value.Number z) go n = absurd n
  at_no_number (value.Truth b) go n = refl
  at_no_number value.Null go n = refl
  at_no_number (value.Reference o id) go n = refl

  -- the frame goes on with these operands
  pub went : (f : Frame) (ws vs : List Value) (h : Heap) → ws ≡ vs
      → did_of known did.Went (frame_of known (record f { vals = ws })) h ≡ Goes (record (frame_of known f) { vals = values_of known vs }) h []
  went f ws vs h e = ap (λ (us : List Value). did_of known did.Went (frame_of known (record f { vals = us })) h) e

  -- what is still to be done is this now
  pub went_with : (f : Frame) (rest : List Value) (w : Work) (k : List Todo) (h : Heap) → todo_in w ≡ k
      → did_of known did.Went (frame_of known (record f { vals = rest; todo = w })) h ≡ Goes (record (frame_of known f) { vals = values_of known rest; todo = k }) h []
  went_with f rest w k h e = ap (λ (t : List Todo). Goes (record (frame_of known f) { vals = values_of known rest; todo = t }) h []) e

abbrev Paired : Frame → Type 0
Paired f = length f.locals.vars.list ≡ length f.locals.values.items

-- `&&` and `||`, which go on with their right operand
pub decides : (f : Frame) (v : Value) (rest : List Value) (w : Work) (and b : Bool) (e : Expr) → Paired f → f.vals ≡ v ∷ rest → v ≡ value.Truth b
    → same_truth and b ≡ true → todo_in w ≡ acts.acts (length f.locals.vars.list) e (todo_in f.todo)
    → Plainly (acts.Decide and e) f did.Went (record f { vals = rest; todo = w })
decides f v rest w and b e pair first is same todo p m known h =
    let F = frame_of known f in
    let d = did_of known did.Went (frame_of known (record f { vals = rest; todo = w })) h in
    let long : length f.locals.vars.list ≡ length F.vars = sym (scope_long known f.locals pair) in
    at_first known f v rest _ d first (at_truth known v b _ d is (subst (λ (t : Bool). decided F e (values_of known rest) h b t d) (sym same)
    (went_with known f rest w _ h (todo ∙ ap (λ (n : ℕ). acts.acts n e (todo_in f.todo)) long))))

pub chooses : (f : Frame) (v : Value) (rest : List Value) (w : Work) (path : ℕ) (one other : List Stmt) (b : Bool) → Paired f → f.vals ≡ v ∷ rest → v ≡ value.Truth b
    → todo_in w ≡ side_chosen (length f.locals.vars.list) path one other (todo_in f.todo) b
    → Plainly (acts.Choose path one other) f did.Went (record f { vals = rest; todo = w })
chooses f v rest w path one other b pair first is todo p m known h =
    let F = frame_of known f in
    let d = did_of known did.Went (frame_of known (record f { vals = rest; todo = w })) h in
    let long : length f.locals.vars.list ≡ length F.vars = sym (scope_long known f.locals pair) in
    at_first known f v rest _ d first (at_truth known v b _ d is
    (went_with known f rest w _ h (todo ∙ ap (λ (n : ℕ). side_chosen n path one other (todo_in f.todo) b) long ∙ same b)))
  where
    same : (t : Bool) → side_chosen (length (frame_of known f).vars) path one other (todo_in f.todo) t ≡ chosen (frame_of known f) path one other t
    same true = refl
    same false = refl

pub repeats : (f : Frame) (v : Value) (rest : List Value) (w : Work) (path : ℕ) (e : Expr) (body : List Stmt) (b : Bool) → Paired f → f.vals ≡ v ∷ rest → v ≡ value.Truth b
    → todo_in w ≡ loop_chosen (length f.locals.vars.list) path e body (todo_in f.todo) b
    → Plainly (acts.Repeat path e body) f did.Went (record f { vals = rest; todo = w })
repeats f v rest w path e body b pair first is todo p m known h =
    let F = frame_of known f in
    let d = did_of known did.Went (frame_of known (record f { vals = rest; todo = w })) h in
    let long : length f.locals.vars.list ≡ length F.vars = sym (scope_long known f.locals pair) in
    at_first known f v rest _ d first (at_truth known v b _ d is
    (went_with known f rest w _ h (todo ∙ ap (λ (n : ℕ). loop_chosen n path e body (todo_in f.todo) b) long ∙ same b)))
  where
    same : (t : Bool) → loop_chosen (length (frame_of known f).vars) path e body (todo_in f.todo) t ≡ repeated (frame_of known f) path e body t
    same true = refl
    same false = refl

-- a variable that isn't there, and one that is
pub reads_none : (f : Frame) (x : Name) → IsNewest f.locals.vars.list x None → Plainly (acts.Read x) f (did.Ended (ending.Stuck why.Missing)) f
reads_none f x n p m known h =
    let none : variable (variables_of known f.locals) x ≡ None = newest_none f.locals.vars.list (values_of known f.locals.values.items) x n in
    subst (λ (o : Option Variable). OnSome o missing (λ y. goes (frame_of known f) (y.value ∷ (frame_of known f).vals) h) (Faults (Stuck why.Missing))) (sym none) refl

pub reads : (f : Frame) (x : Name) (i : ℕ) (v : Value) (ws : List Value) → IsNewest f.locals.vars.list x (Some i) → slice_get f.locals.values.items i ≡ Some v → ws ≡ v ∷ f.vals
    → Plainly (acts.Read x) f did.Went (record f { vals = ws })
reads f x i v ws n at e p m known h =
    let r = newest_some f.locals.vars.list (values_of known f.locals.values.items) x i (value_of known v) n.0 n.1 (values_at known f.locals.values.items i v at) in
    let d = did_of known did.Went (frame_of known (record f { vals = ws })) h in
    subst (λ (o : Option Variable). OnSome o missing (λ y. goes (frame_of known f) (y.value ∷ (frame_of known f).vals) h) d) (sym r.2) (went known f ws (v ∷ f.vals) h e)

pub chooses_as : (f g : Frame) (v : Value) (rest : List Value) (path : ℕ) (one other : List Stmt) (b : Bool) → Paired f → f.vals ≡ v ∷ rest → v ≡ value.Truth b
    → g ≡ record f { vals = rest; todo = g.todo } → todo_in g.todo ≡ side_chosen (length f.locals.vars.list) path one other (todo_in f.todo) b
    → Plainly (acts.Choose path one other) f did.Went g
chooses_as f g v rest path one other b pair first is e todo =
    subst (Plainly (acts.Choose path one other) f did.Went) (sym e) (chooses f v rest g.todo path one other b pair first is todo)

pub repeats_as : (f g : Frame) (v : Value) (rest : List Value) (path : ℕ) (e : Expr) (body : List Stmt) (b : Bool) → Paired f → f.vals ≡ v ∷ rest → v ≡ value.Truth b
    → g ≡ record f { vals = rest; todo = g.todo } → todo_in g.todo ≡ loop_chosen (length f.locals.vars.list) path e body (todo_in f.todo) b
    → Plainly (acts.Repeat path e body) f did.Went g
repeats_as f g v rest path e body b pair first is h todo =
    subst (Plainly (acts.Repeat path e body) f did.Went) (sym h) (repeats f v rest g.todo path e body b pair first is todo)
