-- A run only adds.
use Rattle.std.proofs.Common.{◌≡◌, ℕ, zero, suc, ◌+◌, List, [], ◌∷◌, ◌++◌, length, Option, Some, None, Bool, true, false, refl, sym, ◌∙◌, subst, arith}
use Rattle.std.specs.Prelude.{ℤ, cond, not, nat_eq, nat_le, nat_lt, slice_get, slice_set, IsSome}
use Rattle.std.specs.Option.{option_and_then}
use Rattle.jn_steps.specs.Steps.{Goes, Enters, Leaves, Falls, Faults}
use Rattle.jn_base.specs.declared.tree.Name.{Name}
use Rattle.jn_base.specs.declared.tree.Expr.{Expr}
use Rattle.jn_base.specs.declared.tree.TypeTerm.{TypeTerm}
use Rattle.jn_base.specs.declared.tree.Program.{Program}
use Rattle.jn_base.specs.declared.types.Ty.{Ty}
use Rattle.jn_base.specs.declared.names.Var.{Var}
use Rattle.jn_base.specs.Paths.{Path}
use Rattle.jn_sem.specs.Sharing.{family_of}
use Rattle.jn_sem.specs.Sets.{Views}
use Rattle.jn_sem.specs.Values.{Value, Number, Truth, Null, Reference, number, truth, null, no_object, object}
use Rattle.jn_sem.specs.Slots.{Slot}
use Rattle.jn_sem.specs.Asks.{OnOnly, found, not_found, OnTest, holds, fails, OnSome, OnIf, OnFirst, It}
use Rattle.jn_sem.specs.Acts.{Act, Push, Read, This, Invert, Negate, Operate, Decide, Get, Call, Make, Super, View, Bind, Assign, Put, Choose, Repeat, Return, Print, PrintText, Begin, Open, Todo}
use Rattle.jn_sem.specs.State.{Stored, Object, Heap, stored_value, with_stored, slot_value, with_object, with_slot, HasValue, IsIn, Frame, variable, is_null_path, has_null_path}
use Rattle.jn_sem.specs.Does.{Ending, Entry, Did, Body, Way, Made, Gives, Fails, kept, waiting, on_one, on_two, args_of, on_args, on_number, on_truth, on_object, on_made, result_of, on_entry, calls, on_cells, constructs, makes, on_viewed, on_read, decided, bound_to, binds, returns, returns_none, prints_value, Does}
use Rattle.jn_sem.specs.Run.{Then, over, ended, resumed, settled_at, settled, given_first, frame_of, enters, proceeds, acting, charged, frames_charged}
use Rattle.jn_sem.specs.LawsOfHeaps.{Grows, GrownAt, Later, LaterThen, HeapLaws}
use Rattle.jn_sem.proofs.StoredValues.{one_stored, same_slots, stored_with, size_kept}

-- ---- heaps

pub later_itself : (h : Heap) → Later h h
later_itself h = record {
  objects = λ o x e. record { object = x; at = e; grows = record { made = refl; values = λ s v. v } };
  used = omega arith;
}

pub later_joined : (h i j : Heap) → Later h i → Later i j → Later h j
later_joined h i j f g = record {
  objects = λ o x e.
      let one = f.objects o x e in
      let two = g.objects o one.object one.at in
      record {
        object = two.object;
        at = two.at;
        grows = record { made = two.grows.made ∙ one.grows.made; values = λ s v. two.grows.values s (one.grows.values s v) };
      };
  used = omega (arith, f.used, g.used);
}

got_append : (xs : List Object) (y : Object) (o : ℕ) (x : Object) → slice_get xs o ≡ Some x → slice_get (xs ++ y ∷ []) o ≡ Some x
got_append [] y o x e = absurd (nothing o x e) where
  nothing : (k : ℕ) (z : Object) → slice_get [] k ≡ Some z → ⊥
  nothing zero z i = cc
  nothing (suc k) z i = cc
got_append (z ∷ xs) y zero x e = e
got_append (z ∷ xs) y (suc o) x e = got_append xs y o x e

pub later_object : (h : Heap) (size : ℕ) (y : Object) → Later h (with_object h size y)
later_object h size y = record {
  objects = λ o x e. record { object = x; at = got_append h.objects y o x e; grows = record { made = refl; values = λ s v. v } };
  used = omega arith;
}

-- one more value
some_object : (x y : Object) → Some x ≡ Some y → x ≡ y
some_object x y e = cc

none_object : (x : Object) → None ≡ Some x → ⊥
none_object x e = cc

-- where the object at i grows, each one has grown
set_grows : (xs : List Object) (i : ℕ) (y z : Object) → slice_get xs i ≡ Some y → Grows y z → (o : ℕ) (x : Object) → slice_get xs o ≡ Some x
    → (w : Object) × (slice_get (slice_set xs i z) o ≡ Some w) × Grows x w
set_grows [] zero y z e g o x h = absurd (none_object y e)
set_grows [] (suc i) y z e g o x h = absurd (none_object y e)
set_grows (u ∷ xs) zero y z e g zero x h = (z, refl, subst (λ (w : Object). Grows w z) (some_object y x (sym e ∙ h)) g)
set_grows (u ∷ xs) zero y z e g (suc o) x h = (x, h, record { made = refl; values = λ s v. v })
set_grows (u ∷ xs) (suc i) y z e g zero x h = (x, h, record { made = refl; values = λ s v. v })
set_grows (u ∷ xs) (suc i) y z e g (suc o) x h = set_grows xs i y z e g o x h

pub later_slot : (h : Heap) (i : ℕ) (y : Object) (s : Slot) (v : Value) → slice_get h.objects i ≡ Some y → Later h (with_slot h i y s v)
later_slot h i y s v e = record {
  objects = λ o x k.
      let r = set_grows h.objects i y (record y { stored = with_stored y.stored s v }) e
      (record { made = refl; values = λ t w. one_stored s t v y.stored w }) o x k in
      record { object = r.0; at = r.1; grows = r.2 };
  used = omega arith;
}

-- ---- acts

abbrev LaterDid : Heap → Did → Type 0
LaterDid h (Goes f i bytes) = Later h i
LaterDid h (Enters e args f i) = Later h i
LaterDid h (Leaves v i) = Later h i
LaterDid h Falls = Unit {0}
LaterDid h (Faults o) = Unit {0}

-- whatever the way allows keeps the heap
record Keeps (h : Heap) (W : Way) : Type 0 where
  each : (d : Did) → W d → LaterDid h d

keeps_it : (h : Heap) (x : Did) → LaterDid h x → Keeps h (It x)
keeps_it h x l = record { each = λ d e. subst (LaterDid h) (sym e) l }

keeps_only : {h : Heap} {A : Type 0} {Is : A → Type 0} {Else : Way} {Go : A → Way} → Keeps h Else → ((a : A) → Keeps h (Go a)) → Keeps h (OnOnly Is Else Go)
keeps_only {h} {A} {Is} {Else} {Go} s t = record { each = at } where
  at : (d : Did) → OnOnly Is Else Go d → LaterDid h d
  at d (found a x g) = (t a).each d g
  at d (not_found n e) = s.each d e

keeps_test : {h : Heap} {Is : Type 0} {Else Go : Way} → Keeps h Else → Keeps h Go → Keeps h (OnTest Is Else Go)
keeps_test {h} {Is} {Else} {Go} s t = record { each = at } where
  at : (d : Did) → OnTest Is Else Go d → LaterDid h d
  at d (holds x g) = t.each d g
  at d (fails n e) = s.each d e

keeps_some : {h : Heap} {A : Type 0} (o : Option A) (Else : Way) (Go : A → Way) → Keeps h Else → ((a : A) → o ≡ Some a → Keeps h (Go a)) → Keeps h (OnSome o Else Go)
keeps_some None Else Go s t = s
keeps_some (Some a) Else Go s t = t a refl

keeps_if : {h : Heap} (b : Bool) (Else Go : Way) → Keeps h Else → Keeps h Go → Keeps h (OnIf b Else Go)
keeps_if true Else Go s t = t
keeps_if false Else Go s t = s

keeps_first : {h : Heap} {A : Type 0} (xs : List A) (Else : Way) (Go : A → List A → Way) → Keeps h Else → ((a : A) (rest : List A) → Keeps h (Go a rest))
    → Keeps h (OnFirst xs Else Go)
keeps_first [] Else Go s t = s
keeps_first (a ∷ rest) Else Go s t = t a rest

module _ (h : Heap) where
  fault : (o : Ending) → Keeps h (It (Faults o))
  fault o = keeps_it h (Faults o) tt

  going : (f : Frame) (bytes : List ℕ) → Keeps h (It (Goes f h bytes))
  going f bytes = keeps_it h (Goes f h bytes) (later_itself h)

  on_one_keeps : (f : Frame) (go : Value → List Value → Way) → ((v : Value) (vs : List Value) → Keeps h (go v vs)) → Keeps h (on_one f go)
  on_one_keeps f go s = keeps_first f.vals _ _ (fault _) s

  on_two_keeps : (f : Frame) (go : Value → Value → List Value → Way) → ((a b : Value) (vs : List Value) → Keeps h (go a b vs)) → Keeps h (on_two f go)
  on_two_keeps f go s = keeps_first f.vals _ _ (fault _) (λ b rest. keeps_first rest _ _ (fault _) (λ a vs. s a b vs))

  on_args_keeps : (n : ℕ) (f : Frame) (go : List Value → List Value → Way) → ((args rest : List Value) → Keeps h (go args rest)) → Keeps h (on_args n f go)
  on_args_keeps n f go s = keeps_some (args_of n [] f.vals) _ _ (fault _) (λ x e. s x.0 x.1)

  number_keeps : (v : Value) (go : ℤ → Way) → ((z : ℤ) → Keeps h (go z)) → Keeps h (on_number v go)
  number_keeps (Number z) go s = s z
  number_keeps (Truth b) go s = fault _
  number_keeps Null go s = fault _
  number_keeps (Reference o V) go s = fault _

  truth_keeps : (v : Value) (go : Bool → Way) → ((b : Bool) → Keeps h (go b)) → Keeps h (on_truth v go)
  truth_keeps (Truth b) go s = s b
  truth_keeps (Number z) go s = fault _
  truth_keeps Null go s = fault _
  truth_keeps (Reference o V) go s = fault _

  object_keeps : (v : Value) (go : ℕ → Path → Way) → ((o : ℕ) (V : Path) → Keeps h (go o V)) → Keeps h (on_object v go)
  object_keeps (Reference o V) go s = s o V
  object_keeps Null go s = fault _
  object_keeps (Number z) go s = fault _
  object_keeps (Truth b) go s = fault _

  made_keeps : (x : Made) (go : Value → Way) → ((v : Value) → Keeps h (go v)) → Keeps h (on_made x go)
  made_keeps (Gives v) go s = s v
  made_keeps (Fails o) go s = fault _

  entry_keeps : (p : Program) (b : Body) (args : List Value) (go : Entry → Way) → ((e : Entry) → Keeps h (go e)) → Keeps h (on_entry p b args go)
  entry_keeps p b args go s = keeps_if (nat_eq (length args) (length b.method.params)) _ _ (fault _) (keeps_only (fault _) (λ vars. s _))

  calls_keep : (p : Program) (B : Path) (m : Name) (r : Value) (args : List Value) (f : Frame) → Keeps h (calls p B m r args f h)
  calls_keep p B m r args f =
      keeps_only (fault _) (λ b. entry_keeps p b args _ (λ e. keeps_it h (Enters e (r ∷ args) f h) (later_itself h)))

  cells_keep : (m size : ℕ) (go : Way) → Keeps h go → Keeps h (on_cells m h size go)
  cells_keep m size go s = keeps_if (nat_le (h.used + size) m) _ _ (fault _) s

  constructs_keep : (p : Program) (m : ℕ) (V : Path) (args : List Value) (keeps : Bool) (f : Frame) (vs : List Value) (size : ℕ) (fresh : List Stored)
      → Keeps h (constructs p m V args keeps f vs h size fresh)
  constructs_keep p m V args keeps f vs size fresh =
      let r = Reference (length h.objects) V in
      let x : Object = record { made = V; stored = fresh } in
      let made = with_object h size x in
      keeps_only
      (keeps_first args _ _ (cells_keep m size _ (keeps_it h (Goes (record f { vals = kept keeps r vs }) made []) (later_object h size x))) (λ a rest. fault _))
      (λ b. entry_keeps p b args _ (λ e. cells_keep m size _ (keeps_it h (Enters e (r ∷ args) (waiting false f (kept keeps r vs)) made) (later_object h size x))))

  makes_keep : (p : Program) (m : ℕ) (V : Path) (args : List Value) (keeps : Bool) (f : Frame) (vs : List Value) → Keeps h (makes p m V args keeps f vs h)
  makes_keep p m V args keeps f vs =
      keeps_test (fault _) (keeps_only (fault _) (λ size. keeps_only (fault _) (λ fresh. constructs_keep p m V args keeps f vs size fresh)))

  viewed_keeps : (p : Program) (Y : Name) (v : Value) (go : Value → Way) → ((w : Value) → Keeps h (go w)) → Keeps h (on_viewed p Y v go)
  viewed_keeps p Y (Reference o V) go s = keeps_only (fault _) (λ W. s _)
  viewed_keeps p Y Null go s = s _
  viewed_keeps p Y (Number z) go s = fault _
  viewed_keeps p Y (Truth b) go s = fault _

  read_keeps : (p : Program) (V : Path) (t : Ty) (v : Value) (go : Value → Way) → ((w : Value) → Keeps h (go w)) → Keeps h (on_read p V t v go)
  read_keeps p V t (Reference o W) go s =
      keeps_test (s _) (keeps_some (family_of V) _ _ (fault _) (λ Y e. viewed_keeps p Y (Reference o W) go s))
  read_keeps p V t (Number z) go s = s _
  read_keeps p V t (Truth b) go s = s _
  read_keeps p V t Null go s = s _

  decided_keeps : (f : Frame) (e : Expr) (vs : List Value) (b goes_on : Bool) → Keeps h (decided f e vs h b goes_on)
  decided_keeps f e vs b true = going _ _
  decided_keeps f e vs b false = going _ _

  binds_keep : (p : Program) (f : Frame) (x : Var) (v : Value) (vs : List Value) → Keeps h (binds p f h x v vs)
  binds_keep p f x v vs = keeps_if (not (is_null_path (bound_to x v))) _ _ (fault _) (keeps_test (fault _) (going _ _))

  leaves : (v : Option Value) → Keeps h (It (Leaves v h))
  leaves v = keeps_it h (Leaves v h) (later_itself h)

  returns_keep : (p : Program) (f : Frame) (t : Option TypeTerm) (v : Value) → Keeps h (returns p f h t v)
  returns_keep p f None v = fault _
  returns_keep p f (Some t) v = keeps_only (fault _) (λ t. keeps_test (fault _) (leaves (Some v)))

  returns_none_keeps : (t : Option TypeTerm) → Keeps h (returns_none t h)
  returns_none_keeps None = leaves None
  returns_none_keeps (Some t) = fault _

  prints_keep : (f : Frame) (v : Value) (vs : List Value) → Keeps h (prints_value f v vs h)
  prints_keep f (Number z) vs = going _ _
  prints_keep f (Truth b) vs = going _ _
  prints_keep f Null vs = fault _
  prints_keep f (Reference o V) vs = fault _

  does_keep : (p : Program) (m : ℕ) (x : Act) (f : Frame) → Keeps h (Does p m x f h)
  does_keep p m (Push v) f = going _ _
  does_keep p m (Read x) f = keeps_some (variable f.vars x) _ _ (fault _) (λ y e. going _ _)
  does_keep p m This f = going _ _
  does_keep p m Invert f = on_one_keeps f _ (λ v vs. truth_keeps v _ (λ b. going _ _))
  does_keep p m Negate f = on_one_keeps f _ (λ v vs. number_keeps v _ (λ z. going _ _))
  does_keep p m (Operate o) f = on_two_keeps f _ (λ a b vs. made_keeps (result_of o a b) _ (λ v. going _ _))
  does_keep p m (Decide and e) f = on_one_keeps f _ (λ v vs. truth_keeps v _ (λ b. decided_keeps f e vs b _))
  does_keep p m (Get field) f =
      on_one_keeps f _ (λ r vs. object_keeps r _ (λ o V. keeps_only (fault _) (λ t. keeps_only (fault _) (λ s. keeps_some (slot_value h o s) _ _ (fault _) (λ v e. read_keeps p V t v _ (λ w. going _ _))))))
  does_keep p m (Call name n keeps) f =
      on_args_keeps n f _ (λ args rest. keeps_first rest _ _ (fault _) (λ r vs. object_keeps r _ (λ o V. calls_keep p V name r args _)))
  does_keep p m (Make t n keeps) f = on_args_keeps n f _ (λ args vs. keeps_only (fault _) (λ V. makes_keep p m V args keeps f vs))
  does_keep p m (Super t name n keeps) f = on_args_keeps n f _ (λ args vs. keeps_only (fault _) (λ B. calls_keep p B name f.this args _))
  does_keep p m (View t) f = on_one_keeps f _ (λ v vs. keeps_only (fault _) (λ Y. viewed_keeps p Y v _ (λ w. going _ _)))
  does_keep p m (Bind fixed t x path) f = on_one_keeps f _ (λ v vs. keeps_only (fault _) (λ t. binds_keep p f _ v vs))
  does_keep p m (Assign x) f =
      on_one_keeps f _ (λ v vs. keeps_some (variable f.vars x) _ _ (fault _) (λ y e. keeps_test (fault _) (going _ _)))
  does_keep p m (Put field) f =
      on_two_keeps f _ (λ r v vs. object_keeps r _ (λ o V. keeps_only (fault _) (λ t. keeps_only (fault _) (λ s. keeps_some (slice_get h.objects o) _ _ (fault _) (λ x e.
      keeps_test (fault _) (keeps_it h (Goes (record f { vals = vs }) (with_slot h o x s v) []) (later_slot h o x s v e)))))))
  does_keep p m (Choose path one other) f = on_one_keeps f _ (λ v vs. truth_keeps v _ (λ b. going _ _))
  does_keep p m (Repeat path e body) f = on_one_keeps f _ (λ v vs. truth_keeps v _ (λ b. going _ _))
  does_keep p m (Return true) f = on_one_keeps f _ (λ v vs. returns_keep p f f.method.result v)
  does_keep p m (Return false) f = returns_none_keeps f.method.result
  does_keep p m Print f = on_one_keeps f _ (λ v vs. prints_keep f v vs)
  does_keep p m (PrintText t) f = keeps_some (slice_get p.texts t) _ _ (fault _) (λ x e. going _ _)
  does_keep p m Begin f = keeps_only (fault _) (λ n. makes_keep p m _ [] true f f.vals)
  does_keep p m Open f = on_one_keeps f _ (λ r vs. object_keeps r _ (λ o V. keeps_only (fault _) (λ n. calls_keep p V n r [] _)))

-- ---- charges

later_cond : (g : Heap) (b : Bool) (why : Ending) (out : List ℕ) (below : Then) → LaterThen g below → LaterThen g (cond b (over why out) below)
later_cond g true why out below k = tt
later_cond g false why out below k = k

later_resumed : (g : Heap) (v : Option Value) (fs : List Frame) (out : List ℕ) (below : Then) → LaterThen g below → LaterThen g (resumed v fs out below)
later_resumed g (Some v) fs out below k = k
later_resumed g None [] out below k = k
later_resumed g None (f ∷ fs) out below k = later_cond g f.keeps _ out below k

later_end : (g : Heap) (t : Option TypeTerm) (out : List ℕ) (below : Then) → LaterThen g below → LaterThen g (ended t out below)
later_end g None out below k = k
later_end g (Some t) out below k = tt

later_at : (g h : Heap) → Later g h → (todo : List Todo) (f : Frame) (fs : List Frame) (out : List ℕ) (below : Then) → LaterThen g below
    → LaterThen g (settled_at todo f fs h out below)
later_at g h l [] f fs out below k = later_end g f.method.result out below k
later_at g h l (t ∷ ts) f fs out below k = l

later_settled : (g h : Heap) → Later g h → (fs : List Frame) (out : List ℕ) → LaterThen g (settled fs h out)
later_settled g h l [] out = tt
later_settled g h l (f ∷ fs) out =
    later_at g h l f.todo f fs out (resumed None fs out (settled fs h out)) (later_resumed g None fs out (settled fs h out) (later_settled g h l fs out))

later_it : (g : Heap) (x y : Then) → LaterThen g x → y ≡ x → LaterThen g y
later_it g x y l e = subst (LaterThen g) (sym e) l

later_if : (g : Heap) (b : Bool) (Else Go : Then → Type 0) (x : Then) → ((y : Then) → Else y → LaterThen g y) → ((y : Then) → Go y → LaterThen g y)
    → OnIf b Else Go x → LaterThen g x
later_if g true Else Go x e k h = k x h
later_if g false Else Go x e k h = e x h

later_test : (g : Heap) (Is : Type 0) (Else Go : Then → Type 0) (x : Then) → ((y : Then) → Else y → LaterThen g y) → ((y : Then) → Go y → LaterThen g y)
    → OnTest Is Else Go x → LaterThen g x
later_test g Is Else Go x e k (holds is h) = k x h
later_test g Is Else Go x e k (fails n h) = e x h

later_enters : (p : Program) (g h : Heap) → Later g h → (e : Entry) (args : List Value) (fs : List Frame) (out : List ℕ) (x : Then)
    → enters p e args fs h out x → LaterThen g x
later_enters p g h l e [] fs out x k = later_it g _ x tt k
later_enters p g h l e (r ∷ args) fs out x k =
    later_if g (not (has_null_path (frame_of e r args).vars)) _ _ x (λ y. later_it g _ y tt)
    (λ y. later_test g _ _ _ y (λ z. later_it g _ z tt) (λ z. later_it g _ z (later_settled g h l (frame_of e r args ∷ fs) out))) k

later_proceeds : (p : Program) (depth : ℕ) (g : Heap) (d : Did) (fs : List Frame) (out : List ℕ) (x : Then) → LaterDid g d → proceeds p depth d fs out x → LaterThen g x
later_proceeds p depth g (Goes f h bytes) fs out x l k = later_it g _ x (later_settled g h l (f ∷ fs) (out ++ bytes)) k
later_proceeds p depth g (Enters e args f h) fs out x l k =
    later_if g (nat_lt (length fs) depth) _ _ x (λ y. later_it g _ y tt) (λ y. later_enters p g h l e args (f ∷ fs) out y) k
later_proceeds p depth g (Leaves v h) fs out x l k =
    later_it g _ x (later_resumed g v fs out (settled (given_first v fs) h out) (later_settled g h l (given_first v fs) out)) k
later_proceeds p depth g Falls fs out x l k = later_it g _ x tt k
later_proceeds p depth g (Faults o) fs out x l k = later_it g _ x tt k

later_charged : (p : Program) (m depth : ℕ) (todo : List Todo) (f : Frame) (fs : List Frame) (h : Heap) (out : List ℕ) (x : Then)
    → charged p m depth todo f fs h out x → LaterThen h x
later_charged p m depth [] f fs h out x k = later_it h _ x (later_settled h h (later_itself h) (f ∷ fs) out) k
later_charged p m depth (t ∷ ts) f fs h out x k =
    later_proceeds p depth h k.did fs out x ((does_keep h p m t.act (acting t ts f)).each k.did k.does) k.proceeds

later_frames : (p : Program) (m depth : ℕ) (fs : List Frame) (h : Heap) (out : List ℕ) (x : Then) → frames_charged p m depth fs h out x → LaterThen h x
later_frames p m depth [] h out x k = later_it h _ x tt k
later_frames p m depth (f ∷ fs) h out x k = later_charged p m depth f.todo f fs h out x k

-- ---- types

found_later : (i : Heap) (o : ℕ) (s : Slot) (x : Object) → GrownAt i o x → IsSome (stored_value x.stored s) → IsSome (slot_value i o s)
found_later i o s x g v =
    subst (λ (y : Option Object). IsSome (option_and_then (λ (z : Object). stored_value z.stored s) y)) (sym g.at) (g.grows.values s v)

pub slot_later : (h i : Heap) (o : ℕ) (s : Slot) → Later h i → IsSome (slot_value h o s) → IsSome (slot_value i o s)
slot_later h i o s l v = at (slice_get h.objects o) refl v where
  at : (y : Option Object) → slice_get h.objects o ≡ y → IsSome (option_and_then (λ (z : Object). stored_value z.stored s) y) → IsSome (slot_value i o s)
  at None e w = absurd (not_none w) where
    not_none : IsSome (let x : Option Value = None in x) → ⊥
    not_none k = cc
  at (Some x) e w = found_later i o s x (l.objects o x e) w

pub filled_later : (p : Program) (h i : Heap) (o : ℕ) (V : Path) (f : Name) → Later h i → HasValue p h o V f → HasValue p i o V f
filled_later p h i o V f l k = record { slot = k.slot; is_slot = k.is_slot; has = slot_later h i o k.slot l k.has }

pub types_later : (p : Program) (v : Views) (h i : Heap) (t : Ty) (value : Value) → Later h i → IsIn p v h t value → IsIn p v i t value
types_later p v h i _ _ l number = number
types_later p v h i _ _ l truth = truth
types_later p v h i _ _ l null = null
types_later p v h i _ _ l no_object = no_object
types_later p v h i _ _ l (object {o = o} {V = V} c f) = object c (λ g has n. filled_later p h i o V g l (f g has n))

pub heap_laws : HeapLaws
heap_laws = record {
  heaps = λ p. record {
    itself = later_itself;
    joined = later_joined;
    object = later_object;
    slot = later_slot;
    charge = λ a d s x k. later_frames p a d s.frames s.heap s.output x k;
    types = types_later p;
  };
  values = record { same = same_slots; stored = stored_with; size = size_kept };
}
