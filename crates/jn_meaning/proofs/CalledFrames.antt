-- How a body that is called begins.
use Rattle.std.proofs.Common.{◌≡◌, ◌↔◌, ◌<◌, ◌≤◌, ◌+◌, ◌⊎◌, inl, inr, ℕ, zero, suc, List, [], ◌∷◌, ◌++◌, length, reverse, take, drop, get_or, slice_get, Option, Some, None, Bool, true, false, IsTrue, refl, sym, ap, ◌∙◌, subst, arith}
use Rattle.std.specs.Prelude.{not, nat_lt, map, ◌||◌}
use Rattle.std.specs.List.{list_any}
use Rattle.std.proofs.lemmas.Bool.{cases_lt, lt-ltb, le-ltb}
use Rattle.std.proofs.lemmas.List.{length-reverse}
use Rattle.std.proofs.lemmas.Option.{slice_get_within}
use Rattle.jn_reach.proofs.Searches.{not_when, iff_true, iff_false}
use Rattle.jn_steps.specs.Runs.{On}
use Rattle.jn_base.specs.declared.names.Var.{Var}
use Rattle.jn_base.specs.declared.path.Path.{Path as ShownPath}
use Rattle.jn_base.specs.declared.tree.Program.{Program}
use Rattle.jn_base.specs.declared.types.Ty.{Ty}
use Rattle.jn_base.specs.Atoms.{Among, first, later}
use Rattle.jn_sem.specs.declared.outcome.Why.TheVariants as why
use Rattle.jn_sem.specs.Acts.{Todo, stmts_acts}
use Rattle.jn_sem.specs.Values as sem
use Rattle.jn_sem.specs.State as state
use Rattle.jn_sem.specs.State.{Variable, with_values, is_null_path, has_null_path, frame_views, IsIn}
use Rattle.jn_sem.specs.Asks.{OnIf, OnTest, It, holds, fails}
use Rattle.jn_sem.specs.Does as does
use Rattle.jn_sem.specs.Does.{bound_to, AtNull, Stuck}
use Rattle.jn_sem.specs.Run as run
use Rattle.jn_sem.specs.Run.{Then, over, enters, begins, AreIn}
use Rattle.jn_meaning.specs.declared.did.Called.{Called}
use Rattle.jn_meaning.specs.declared.did.Callee.{Callee}
use Rattle.jn_meaning.specs.declared.did.Ending.{Ending}
use Rattle.jn_meaning.specs.declared.did.Ending.TheVariants as ending
use Rattle.jn_meaning.specs.declared.frame.Frame.{Frame}
use Rattle.jn_meaning.specs.declared.heap.Heap.{Heap}
use Rattle.jn_meaning.specs.declared.locals.Locals.{Locals}
use Rattle.jn_meaning.specs.declared.value.Value.{Value}
use Rattle.jn_meaning.specs.declared.work.Work.{Work}
use Rattle.jn_meaning.specs.Values.{path_at, value_of, values_of}
use Rattle.jn_meaning.specs.Heaps.{heap_of}
use Rattle.jn_meaning.specs.Frames.{frame_of, variables_of, entry_of}
use Rattle.jn_meaning.specs.Work.{todo_in}
use Rattle.jn_meaning.specs.Doing.{FitsFrame}
use Rattle.jn_meaning.specs.Running.{waiting_of, frames_of, then_of, Settles, HasBoth, IsFrameOf, BeginsAs, EntersAs}
use Rattle.jn_meaning.proofs.Ends.{waiting_more}

-- ---- the frame

pub frame_is : (c : Callee) (r : Value) (args : List Value) (l : Locals) (vals : List Value) (w : Work) → HasBoth l c.vars.list args → vals ≡ []
    → todo_in w ≡ stmts_acts (length c.vars.list) (suc (length c.vars.list)) c.method.now.body []
    → IsFrameOf c r args (record { class = Some c.class; method = c.method; this = r; locals = l; vals = vals; todo = w; keeps = false })
frame_is c r args l vals w both none todo known =
    ap (λ (xs : List Var). made (with_values xs (values_of known l.values.items)) (values_of known vals) (todo_in w)) both.vars
    ∙ ap (λ (vs : List Value). made (with_values c.vars.list (values_of known vs)) (values_of known vals) (todo_in w)) both.values
    ∙ ap (λ (vs : List Value). made (with_values c.vars.list (values_of known args)) (values_of known vs) (todo_in w)) none
    ∙ ap (λ (k : List Todo). made (with_values c.vars.list (values_of known args)) [] k) todo
  where
    made : List Variable → List sem.Value → List Todo → state.Frame
    made vars vals k = record { class = path_at known c.class; method = c.method.now; this = value_of known r; vars = vars; vals = vals; todo = k; keeps = false }

-- ---- null paths

-- none of the first i variables is a `final` one of class type that is null
pub record NoneNull (l : Locals) (i : ℕ) : Type 0 where
  pub none : (k : ℕ) (x : Var) (v : Value) (known : List ShownPath) → k < i → slice_get l.vars.list k ≡ Some x → slice_get l.values.items k ≡ Some v
      → is_null_path (bound_to x (value_of known v)) ≡ false

pub none_null : (l : Locals) → NoneNull l 0
none_null l = record { none = λ k x v known b. absurd (omega (arith, b)) }

pub next_null : (l : Locals) (i : ℕ) (x : Var) (v : Value) (told : Bool) → slice_get l.vars.list i ≡ Some x → slice_get l.values.items i ≡ Some v → told ≡ false
    → ((known : List ShownPath) → told ≡ is_null_path (bound_to x (value_of known v))) → NoneNull l i → NoneNull l (i + 1)
next_null l i x v told at has other is so = record { none = λ k y u known b a h. by_place k y u known a h (cases_lt k i) b }
  where
    by_place : (k : ℕ) (y : Var) (u : Value) (known : List ShownPath) → slice_get l.vars.list k ≡ Some y → slice_get l.values.items k ≡ Some u → (k < i) ⊎ (i ≤ k) → k < i + 1
        → is_null_path (bound_to y (value_of known u)) ≡ false
    by_place k y u known a h (inl b) m = so.none k y u known b a h
    by_place k y u known a h (inr b) m =
        let e : k ≡ i = omega (arith, m, b) in
        let one : y ≡ x = let s : Some y ≡ Some x = sym a ∙ ap (slice_get l.vars.list) e ∙ at in cc in
        let two : u ≡ v = let s : Some u ≡ Some v = sym h ∙ ap (slice_get l.values.items) e ∙ has in cc in
        ap (λ (z : Var). is_null_path (bound_to z (value_of known u))) one ∙ ap (λ (z : Value). is_null_path (bound_to x (value_of known z))) two ∙ sym (is known) ∙ other

module _ (known : List ShownPath) where
  abbrev any_null : List Var → List Value → Bool
  any_null xs vs = list_any is_null_path (with_values xs (values_of known vs))

  none_any : (xs : List Var) (vs : List Value)
      → ((k : ℕ) (x : Var) (v : Value) → slice_get xs k ≡ Some x → slice_get vs k ≡ Some v → is_null_path (bound_to x (value_of known v)) ≡ false) → any_null xs vs ≡ false
  none_any [] vs so = refl
  none_any (x ∷ xs) [] so = refl
  none_any (x ∷ xs) (v ∷ vs) so = ap (λ (b : Bool). b || any_null xs vs) (so 0 x v refl refl) ∙ none_any xs vs (λ k y u. so (suc k) y u)

  or_true : (b : Bool) → b || true ≡ true
  or_true true = refl
  or_true false = refl

  one_any : (xs : List Var) (vs : List Value) (k : ℕ) (x : Var) (v : Value) → slice_get xs k ≡ Some x → slice_get vs k ≡ Some v
      → is_null_path (bound_to x (value_of known v)) ≡ true → any_null xs vs ≡ true
  one_any [] vs k x v a h e = absurd (cc)
  one_any (y ∷ xs) [] k x v a h e = absurd (cc)
  one_any (y ∷ xs) (u ∷ vs) zero x v a h e =
      let one : y ≡ x = cc in
      let two : u ≡ v = cc in
      ap (λ (b : Bool). b || any_null xs vs)
      (ap (λ (z : Var). is_null_path (bound_to z (value_of known u))) one ∙ ap (λ (z : Value). is_null_path (bound_to x (value_of known z))) two ∙ e)
  one_any (y ∷ xs) (u ∷ vs) (suc k) x v a h e =
      ap (λ (b : Bool). is_null_path (bound_to y (value_of known u)) || b) (one_any xs vs k x v a h e) ∙ or_true (is_null_path (bound_to y (value_of known u)))

pub is_null_at : (l : Locals) (i : ℕ) (x : Var) (v : Value) (told : Bool) → slice_get l.vars.list i ≡ Some x → slice_get l.values.items i ≡ Some v → told ≡ true
    → ((known : List ShownPath) → told ≡ is_null_path (bound_to x (value_of known v))) → (known : List ShownPath) → true ≡ has_null_path (variables_of known l)
is_null_at l i x v told at has one is known = sym (one_any known l.vars.list l.values.items i x v at has (sym (is known) ∙ one))

pub is_null_none : (l : Locals) (i : ℕ) → length l.values.items ≤ i → NoneNull l i → (known : List ShownPath) → false ≡ has_null_path (variables_of known l)
is_null_none l i past so known =
    sym (none_any known l.vars.list l.values.items (λ k x v a h. so.none k x v known (omega (arith, past, slice_get_within l.values.items k v h)) a h))

-- ---- values of their types

-- the first i variables have values of their types
pub record FirstFit (p : Program) (known : List ShownPath) (h : Heap) (f : Frame) (i : ℕ) : Type 0 where
  pub each : (k : ℕ) (x : Var) (v : Value) → k < i → slice_get f.locals.vars.list k ≡ Some x → slice_get f.locals.values.items k ≡ Some v → FitsFrame p known h f x.ty v

module _ (p : Program) (known : List ShownPath) (h : Heap) (f : Frame) where
  pub none_fit : FirstFit p known h f 0
  none_fit = record { each = λ k x v b. absurd (omega (arith, b)) }

  pub next_fit : (i : ℕ) (v : Value) (told : Bool) → slice_get f.locals.values.items i ≡ Some v → told ≡ true
      → ((x : Var) → slice_get f.locals.vars.list i ≡ Some x → IsTrue told ↔ FitsFrame p known h f x.ty v) → FirstFit p known h f i → FirstFit p known h f (i + 1)
  next_fit i v told has fits is so = record { each = λ k x u b a w. by_place k x u a w (cases_lt k i) b }
    where
      by_place : (k : ℕ) (x : Var) (u : Value) → slice_get f.locals.vars.list k ≡ Some x → slice_get f.locals.values.items k ≡ Some u → (k < i) ⊎ (i ≤ k) → k < i + 1
          → FitsFrame p known h f x.ty u
      by_place k x u a w (inl b) m = so.each k x u b a w
      by_place k x u a w (inr b) m =
          let e : k ≡ i = omega (arith, m, b) in
          let same : v ≡ u = let s : Some v ≡ Some u = sym has ∙ ap (slice_get f.locals.values.items) (sym e) ∙ w in cc in
          subst (λ (z : Value). FitsFrame p known h f x.ty z) same ((is x (sym (ap (slice_get f.locals.vars.list) e) ∙ a)).0 fits)

  at_within : (xs : List Var) (i : ℕ) → i < length xs → (x : Var) × (slice_get xs i ≡ Some x)
  at_within [] i l = absurd (omega (arith, l))
  at_within (x ∷ xs) zero l = (x, refl)
  at_within (x ∷ xs) (suc i) l = at_within xs i (omega (arith, l))

  abbrev Fit : Variable → Type 0
  Fit x = IsIn p (frame_views (frame_of known f)) (heap_of known h) x.var.ty x.value

  -- at each place, and of each variable
  at_each : (xs : List Var) (vs : List Value) → ((k : ℕ) (x : Var) (v : Value) → slice_get xs k ≡ Some x → slice_get vs k ≡ Some v → FitsFrame p known h f x.ty v)
      → (y : Variable) → Among (with_values xs (values_of known vs)) y → Fit y
  at_each [] vs so y a = elim a [ ]
  at_each (x ∷ xs) [] so y a = elim a [ ]
  at_each (x ∷ xs) (v ∷ vs) so y first = so 0 x v refl refl
  at_each (x ∷ xs) (v ∷ vs) so y (later a) = at_each xs vs (λ k z u. so (suc k) z u) y a

  there : (xs : List Var) (vs : List Value) (k : ℕ) (x : Var) (v : Value) → slice_get xs k ≡ Some x → slice_get vs k ≡ Some v
      → Among (with_values xs (values_of known vs)) (bound_to x (value_of known v))
  there [] vs k x v a b = absurd (cc)
  there (y ∷ xs) [] k x v a b = absurd (cc)
  there (y ∷ xs) (u ∷ vs) zero x v a b =
      let one : y ≡ x = cc in
      let two : u ≡ v = cc in
      subst (λ (z : Var). Among (with_values (y ∷ xs) (values_of known (u ∷ vs))) (bound_to z (value_of known v))) one
      (subst (λ (z : Value). Among (with_values (y ∷ xs) (values_of known (u ∷ vs))) (bound_to y (value_of known z))) two first)
  there (y ∷ xs) (u ∷ vs) (suc k) x v a b = later (there xs vs k x v a b)

  pub all_in : (i : ℕ) → length f.locals.values.items ≤ i → FirstFit p known h f i → IsTrue true ↔ AreIn p (frame_of known f) (heap_of known h)
  all_in i past so =
      iff_true (at_each f.locals.vars.list f.locals.values.items (λ k x v a b. so.each k x v (omega (arith, past, slice_get_within f.locals.values.items k v b)) a b))

  pub one_out : (i : ℕ) (v : Value) (told : Bool) → slice_get f.locals.values.items i ≡ Some v → told ≡ false
      → ((x : Var) → slice_get f.locals.vars.list i ≡ Some x → IsTrue told ↔ FitsFrame p known h f x.ty v) → IsTrue false ↔ AreIn p (frame_of known f) (heap_of known h)
  one_out i v told has out is =
      let l = slice_get_within f.locals.values.items i v has in
      let y = at_within f.locals.vars.list i (omega (arith, l, f.locals.paired)) in
      iff_false (λ all. not_when out (is y.0 y.1) (all (bound_to y.0 (value_of known v)) (there f.locals.vars.list f.locals.values.items i y.0 v y.1 has)))

-- ---- the body begins

module _ (p : Program) (known : List ShownPath) (x f : Frame) (fs : List Frame) (h : Heap) (null : Bool) (is : null ≡ has_null_path (variables_of known x.locals)) where
  abbrev Below : List ℕ → Then → Type 0
  Below out = OnTest (AreIn p (frame_of known x) (heap_of known h)) (It (over (Stuck why.Foreign) out)) (It (run.settled (frame_of known x ∷ frames_of known f fs) (heap_of known h) out))

  by_null : (b : Bool) → null ≡ b → (out : List ℕ) (y : Then) → OnIf (not b) (It (over AtNull out)) (Below out) y
      → begins p (frame_of known x) (frames_of known f fs) (heap_of known h) out y
  by_null b e out y k = subst (λ (t : Bool). OnIf (not t) (It (over AtNull out)) (Below out) y) (sym e ∙ is) k

  pub begins_null : null ≡ true → (g : Frame) (gs : List Frame) → BeginsAs p known x f fs h (Some ending.AtNull) g gs
  begins_null e g gs out = by_null true e out _ refl

  module _ (e : null ≡ false) (told : Bool) (fit : IsTrue told ↔ AreIn p (frame_of known x) (heap_of known h)) where
    pub begins_foreign : told ≡ false → (g : Frame) (gs : List Frame) → BeginsAs p known x f fs h (Some (ending.Stuck why.Foreign)) g gs
    begins_foreign n g gs out = by_null false e out _ (fails (not_when n fit) refl)

    pub begins_there : told ≡ true → (hs : List Frame) → hs ≡ fs ++ f ∷ [] → (o : Option Ending) (g : Frame) (gs : List Frame) → Settles x hs o g gs → BeginsAs p known x f fs h o g gs
    begins_there n hs has o g gs k out =
        by_null false e out _ (holds (fit.0 n)
        (sym (k known (heap_of known h) out) ∙ ap (λ (xs : List state.Frame). run.settled (frame_of known x ∷ xs) (heap_of known h) out) (waiting_more known hs fs f has)))

-- ---- a call

module _ (p : Program) (known : List ShownPath) (depth : ℕ) (c : Called) (f : Frame) (fs : List Frame) (h : Heap) where
  abbrev Way : List Value → List ℕ → Then → Type 0
  Way vs out = enters p (entry_of known c.callee) (values_of known vs) (frames_of known f fs) (heap_of known h) out

  long : (xs : List Frame) → length (waiting_of known xs) ≡ length xs
  long xs = mapped (reverse xs) ∙ length-reverse xs
    where
      mapped : (ys : List Frame) → length (map (frame_of known) ys) ≡ length ys
      mapped [] = refl
      mapped (y ∷ ys) = ap suc (mapped ys)

  deep : (b : Bool) → nat_lt (length fs) depth ≡ b → (out : List ℕ) (y : Then) → OnIf b (It (over does.Depth out)) (Way c.args.items out) y
      → OnIf (nat_lt (length (waiting_of known fs)) depth) (It (over does.Depth out)) (Way c.args.items out) y
  deep b e out y k = subst (λ (t : Bool). OnIf t (It (over does.Depth out)) (Way c.args.items out) y) (sym e ∙ ap (λ (n : ℕ). nat_lt n depth) (sym (long fs))) k

  pub enters_deep : depth ≤ length fs → (g : Frame) (gs : List Frame) → EntersAs p known depth c f fs h (Some ending.Depth) g gs
  enters_deep l g gs out = deep false (le-ltb (length fs) depth l) out _ refl

  module _ (l : length fs < depth) where
    pub enters_alone : c.args.items ≡ [] → (g : Frame) (gs : List Frame) → EntersAs p known depth c f fs h (Some (ending.Stuck why.Missing)) g gs
    enters_alone e g gs out = deep true (lt-ltb (length fs) depth l) out _ (subst (λ (vs : List Value). Way vs out (over (Stuck why.Missing) out)) (sym e) refl)

    pub enters_body : (r : Value) (args : List Value) → c.args.items ≡ r ∷ args → (x : Frame) → IsFrameOf c.callee r args x → (o : Option Ending) (g : Frame) (gs : List Frame)
        → BeginsAs p known x f fs h o g gs → EntersAs p known depth c f fs h o g gs
    enters_body r args e x is o g gs k out =
        deep true (lt-ltb (length fs) depth l) out _ (subst (λ (vs : List Value). Way vs out (then_of o (frames_of known g gs) (heap_of known h) out)) (sym e)
        (subst (λ (y : state.Frame). begins p y (frames_of known f fs) (heap_of known h) out (then_of o (frames_of known g gs) (heap_of known h) out)) (is known) (k out)))

-- the first of the values is taken
pub first_taken : (all rest : List Value) (r : Value) → 0 < length all → r ≡ get_or all 0 r → rest ≡ take 0 all ++ drop (0 + 1) all → all ≡ r ∷ rest
first_taken [] rest r l e k = absurd (omega (arith, l))
first_taken (x ∷ xs) rest r l e k = ap (λ (z : Value). z ∷ xs) (sym e) ∙ ap (λ (zs : List Value). r ∷ zs) (sym k)
