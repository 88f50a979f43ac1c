-- What fits acts safely: the recursion over the typing of what is still to do.
use Rattle.std.proofs.Common.{◌≡◌, ℕ, List, [], ◌∷◌, length, Option, Some, None, Bool, true, false, refl}
use Rattle.jn_base.specs.declared.tree.Expr.{Expr}
use Rattle.jn_base.specs.declared.tree.Program.{Program}
use Rattle.jn_base.specs.declared.tree.TypeTerm.{TypeTerm}
use Rattle.jn_base.specs.declared.types.Ty.TheVariants as ty
use Rattle.jn_base.specs.declared.names.Var.{Var}
use Rattle.jn_base.specs.Scopes.{Scope}
use Rattle.jn_steps.specs.Steps.{Leaves}
use Rattle.jn_sem.specs.Sets.{Views}
use Rattle.jn_sem.specs.Values.{Value, Truth}
use Rattle.jn_sem.specs.Acts.{Decide, Choose, Repeat, Return, Todo, todo, acts as acts_of}
use Rattle.jn_sem.specs.State.{Heap, Frame, Variable}
use Rattle.jn_sem.specs.Does.{returns_none, same_truth}
use Rattle.jn_sem.proofs.HeapLaws.{heap_laws}
use Rattle.jn_rules.specs.Headers.{Header}
use Rattle.jn_rules.specs.Stmts.{body_in, is_void}
use Rattle.jn_sound.specs.Takes.{Opd, opd}
use Rattle.jn_sound.specs.Fit.{Fits, acts, moves, narrows, settles, decide, choose, repeat, return, leave}
use Rattle.jn_sound.specs.Sound.{HeapFits, OperandsFit, one, body_of, Left, Stands}
use Rattle.jn_sound.proofs.Laws.{Laws}
use Rattle.jn_sound.proofs.Ways.{surely, Safe, safe_it}
use Rattle.jn_sound.proofs.Acts.{ActFits, at_scope}
use Rattle.jn_sound.proofs.Frames.{no_void}
use Rattle.jn_sound.proofs.Fitted.{fitted, did_fits}
use Rattle.jn_sound.proofs.Decides.{todo_decided, typing_decided, decide_did}
use Rattle.jn_sound.proofs.Returns.{TruthIs, truth_is, truth_value, return_fits, choose_fits, again_fits}
use Rattle.jn_sound.proofs.Known.{stands_narrow, stands_settle}
use Rattle.jn_sound.proofs.Steps.{moves_stand, takes_did}

-- the latest operand is a truth value
record TruthFirst (vals : List Value) : Type 0 where
  pub truth : Bool
  pub others : List Value
  pub is : vals ≡ Truth truth ∷ others

truth_first : {p : Program} {xs : List Variable} {h : Heap} {s : Scope} {v : Views} {q : Option ℕ} {ops : List Opd}
    (vals : List Value) →
    OperandsFit p xs h s v (opd ty.Bool q ∷ ops) vals → TruthFirst vals
truth_first {p} {h = h} {v = v} _ (one {x = z} {vs = us} j others) = by z us (truth_value p h v z j.is_in) where
  by : (z : Value) (us : List Value) → TruthIs z → TruthFirst (z ∷ us)
  by _ us (truth_is {b = b}) = record { truth = b; others = us; is = refl }

decide_fits : {p : Program} {h : Heap} {f : Frame} {x : Header} {vs : List Var} {s : Scope} {ops : List Opd}
    {w : Views} → Laws p → HeapFits p h → (m : ℕ) (k : List Todo)
    (and : Bool) (e : Expr) (q : Option ℕ) → Fits p (body_in (body_of f) x) (acts_of (length vs) e k) vs s ops →
    Fits p (body_in (body_of f) x) k vs s (opd ty.Bool None ∷ ops)
    → Stands p h f x vs s (opd ty.Bool q ∷ ops) w → ActFits p m h f (todo (length vs) (Decide and e)) k
decide_fits {p} {h} {f} {x} {vs} {s} {ops} {w} n hf m k and e q r l a = record {
  each =
      λ d does. surely (did_fits p h f x vs (todo_decided (length vs) e k (same_truth and top.truth))
      (typing_decided s ops (same_truth and top.truth)) n
      (fit (same_truth and top.truth)) d
      (decide_did m and e k q hf (record { fresh = w; stands = a }) top.truth top.others top.is d does));
} where
  top : TruthFirst f.vals
  top = truth_first f.vals a.operands

  fit : (b : Bool)
      → Fits p (body_in (body_of f) x) (todo_decided (length vs) e k b) vs (typing_decided s ops b).scope
      (typing_decided s ops b).ops
  fit true = r
  fit false = l

-- `return;` leaves a body without a result
leave_fits : {p : Program} {h : Heap} {f : Frame} {x : Header} {vs : List Var} {s : Scope} {ops : List Opd}
    {w : Views} → Laws p → HeapFits p h → (m : ℕ) (k : List Todo)
    → is_void x.result ≡ true → Stands p h f x vs s ops w → ActFits p m h f (todo (length vs) (Return false)) k
leave_fits {p} {h} {f} {x} {vs} n hf m k v a =
    at f.method.result (no_void p n (body_of f) x a.is_header v) where
      left : Left p h f None h
      left = record { later = (heap_laws.heaps p).itself h; heap = hf; header = x; is_header = a.is_header; gives = v }

      at : (t : Option TypeTerm) → t ≡ None → Safe p h f (returns_none t h)
      at None e = safe_it (Leaves None h) (surely left)
      at (Some t) e = cc

pub acts_fit : (p : Program) → Laws p
    → (m : ℕ) (h : Heap) (f : Frame) (x : Header) (t : Todo) (k : List Todo) (vs : List Var) (s : Scope)
    (ops : List Opd) (w : Views) → HeapFits p h
    → Fits p (body_in (body_of f) x) (t ∷ k) vs s ops → Stands p h f x vs s ops w → ActFits p m h f t k
acts_fit p n m h f x _ k vs s ops w hf (acts {a = act} e t r) a =
    at_scope p m h f act k _ (length vs) e (fitted n r (takes_did n m k t hf (record { fresh = w; stands = a })))
acts_fit p n m h f x t k vs s ops w hf (moves {z = z} c r) a =
    let y =
    moves_stand c (record { fresh = w; stands = a }) in
    acts_fit p n m h f x t k vs z.scope z.ops y.fresh hf r y.stands
acts_fit p n m h f x t k vs s ops w hf (narrows e l i b c r) a =
    acts_fit p n m h f x t k _ _ [] _ hf r (stands_narrow e l i b c a)
acts_fit p n m h f x t k vs s _ w hf (settles u q l i b c fits r) a =
    acts_fit p n m h f x t k _ _ _ _ hf r (stands_settle u q l i b c fits a)
acts_fit p n m h f x _ k vs s _ w hf (decide and c q e r l) a =
    at_scope p m h f (Decide and c) k _ (length vs) e (decide_fits n hf m k and c q r l a)
acts_fit p n m h f x _ k vs s _ w hf (choose path u o q e r t) a =
    at_scope p m h f (Choose path u o) k _ (length vs) e (choose_fits hf m k path u o q r t a)
acts_fit p n m h f x _ k vs s _ w hf (repeat path c u q e l i j r) a =
    at_scope p m h f (Repeat path c u) k _ (length vs) e (again_fits n hf m k path c u q l i j r a)
acts_fit p n m h f x _ k vs s _ w hf (return q e i) a =
    at_scope p m h f (Return true) k _ (length vs) e (return_fits n hf m k q i a)
acts_fit p n m h f x _ k vs s ops w hf (leave e i) a =
    at_scope p m h f (Return false) k _ (length vs) e (leave_fits n hf m k i a)
