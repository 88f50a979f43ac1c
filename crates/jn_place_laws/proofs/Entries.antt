-- Who enters a body brings a receiver and an argument for each parameter; and a return neither goes on nor calls.
use Rattle.std.proofs.Common.{◌≡◌, ℕ, suc, ◌+◌, List, [], ◌∷◌, ◌++◌, length, Option, Some, None, Bool, true, false, ap, arith, eqb-true}
use Rattle.std.specs.Prelude.{nat_eq, nat_le, ℤ}
use Rattle.jn_base.specs.declared.tree.Expr.{Expr}
use Rattle.std.proofs.lemmas.List.{length-append}
use Rattle.jn_steps.specs.Steps.{Goes, Enters, Leaves, Falls, Faults}
use Rattle.jn_base.specs.declared.tree.Name.{Name}
use Rattle.jn_base.specs.declared.tree.Param.{Param}
use Rattle.jn_base.specs.declared.tree.TypeTerm.{TypeTerm}
use Rattle.jn_base.specs.declared.tree.Program.{Program}
use Rattle.jn_base.specs.declared.types.Ty.{Ty}
use Rattle.jn_base.specs.declared.names.Var.{Var}
use Rattle.jn_base.specs.Paths.{Path}
use Rattle.jn_sem.specs.declared.outcome.Why.TheVariants as why
use Rattle.jn_sem.specs.Asks.{OnSome, OnFirst, It}
use Rattle.jn_sem.specs.Values.{Value, Number, Truth, Null, Reference}
use Rattle.jn_sem.specs.Acts.{Act, Push, Read, This, Invert, Negate, Operate, Decide, Get, Call, Make, Super, View, Bind, Assign, Put, Choose, Repeat, Return, Print, PrintText, Begin, Open}
use Rattle.jn_sem.specs.State.{Heap, Frame, Stored, with_object}
use Rattle.jn_sem.specs.Does.{Ending, AtNull, Arena, Stuck, ends, goes, kept, waiting, Entry, Did, Way, Does, Body, AreParamsAfter, var, Made, Gives, Fails, on_entry, calls, on_cells, makes, on_viewed, on_read, on_object, on_truth, on_number, on_made, decided, prints_value, returns, returns_none, missing, same_truth}
use Rattle.jn_sound.proofs.Ways.{surely}
use Rattle.jn_sound.proofs.Safe.{Sure, sure_it, sure_found, sure_either, sure_if}

-- ---- as many parameters as are declared

count_after : (p : Program) (b : Body) (before : List Var) (xs : List Param) (all : List Var)
    → AreParamsAfter p b before xs all → length all ≡ length before + length xs
count_after p b before [] all h = omega (arith, ap (λ (l : List Var). length l) h)
count_after p b before (x ∷ xs) all h =
    let v = var x.name.name (suc (length before)) x.fixed h.0 in
    let r = count_after p b (before ++ v ∷ []) xs all h.2 in
    omega (arith, r, length-append before (v ∷ []))

-- ---- a receiver and the arguments

abbrev pub AsMany : Did → Type 0
AsMany (Goes f h bytes) = Unit {0}
AsMany (Enters e args f h) = length args ≡ suc (length e.vars)
AsMany (Leaves v h) = Unit {0}
AsMany Falls = Unit {0}
AsMany (Faults o) = Unit {0}

-- neither goes on nor calls
abbrev pub Over : Did → Type 0
Over (Goes f h bytes) = ⊥
Over (Enters e args f h) = ⊥
Over (Leaves v h) = Unit {0}
Over Falls = Unit {0}
Over (Faults o) = Unit {0}

module _ {Q : Did → Type 0} where
  on_list : (vs : List Value) (go : Value → List Value → Way) → Sure Q missing
      → ((v : Value) (us : List Value) → Sure Q (go v us)) → Sure Q (OnFirst vs missing go)
  on_list [] go none each = none
  on_list (v ∷ vs) go none each = each v vs

  on_option : {A : Type 0} (o : Option A) (none : Way) (go : A → Way) → Sure Q none → ((a : A) → Sure Q (go a))
      → Sure Q (OnSome o none go)
  on_option None none go s each = s
  on_option (Some a) none go s each = each a

fault : (o : Ending) → Sure AsMany (λ d. d ≡ Faults o)
fault o = sure_it (Faults o) (surely tt)

goes_on : (f : Frame) (h : Heap) (bytes : List ℕ) → Sure AsMany (λ d. d ≡ Goes f h bytes)
goes_on f h bytes = sure_it (Goes f h bytes) (surely tt)

no_member : Sure AsMany missing
no_member = fault (Stuck why.Missing)

module _ (p : Program) (m : ℕ) where
  at_object : (v : Value) (go : ℕ → Path → Way) → ((o : ℕ) (V : Path) → Sure AsMany (go o V))
      → Sure AsMany (on_object v go)
  at_object (Reference o V) go each = each o V
  at_object Null go each = fault AtNull
  at_object (Number z) go each = fault (Stuck why.Kind)
  at_object (Truth b) go each = fault (Stuck why.Kind)

  at_truth : (v : Value) (go : Bool → Way) → ((b : Bool) → Sure AsMany (go b)) → Sure AsMany (on_truth v go)
  at_truth (Truth b) go each = each b
  at_truth (Number z) go each = fault (Stuck why.Kind)
  at_truth Null go each = fault (Stuck why.Kind)
  at_truth (Reference o V) go each = fault (Stuck why.Kind)

  at_number : (v : Value) (go : ℤ → Way) → ((z : ℤ) → Sure AsMany (go z)) → Sure AsMany (on_number v go)
  at_number (Number z) go each = each z
  at_number (Truth b) go each = fault (Stuck why.Kind)
  at_number Null go each = fault (Stuck why.Kind)
  at_number (Reference o V) go each = fault (Stuck why.Kind)

  at_viewed : (Y : Name) (v : Value) (go : Value → Way) → ((w : Value) → Sure AsMany (go w))
      → Sure AsMany (on_viewed p Y v go)
  at_viewed Y (Reference o V) go each = sure_found no_member (λ W i. each (Reference o W))
  at_viewed Y Null go each = each Null
  at_viewed Y (Number z) go each = fault (Stuck why.Kind)
  at_viewed Y (Truth b) go each = fault (Stuck why.Kind)

  at_read : (V : Path) (t : Ty) (v : Value) (go : Value → Way) → ((w : Value) → Sure AsMany (go w))
      → Sure AsMany (on_read p V t v go)
  at_read V t (Reference o W) go each =
      sure_either (λ n. each (Reference o W)) (λ a. on_option _ missing _ no_member
      (λ Y. at_viewed Y (Reference o W) go each))
  at_read V t (Number z) go each = each (Number z)
  at_read V t (Truth b) go each = each (Truth b)
  at_read V t Null go each = each Null

  -- as many as there are parameters
  at_entry : (b : Body) (args : List Value) (go : Entry → Way)
      → ((e : Entry) → length args ≡ length e.vars → Sure AsMany (go e)) → Sure AsMany (on_entry p b args go)
  at_entry b args go each =
      sure_if (nat_eq (length args) (length b.method.params)) (λ no. no_member)
      (λ yes. sure_found no_member (λ vars i. each (record { class = b.class; method = b.method; vars = vars })
      (let e = eqb-true (length args) (length b.method.params) yes in
      let c = count_after p b [] b.method.params vars i in omega (arith, e, c))))

  at_call : (B : Path) (name : Name) (r : Value) (args : List Value) (f : Frame) (h : Heap)
      → Sure AsMany (calls p B name r args f h)
  at_call B name r args f h = sure_found no_member (λ b i. at_entry b args _
      (λ e l. sure_it (Enters e (r ∷ args) f h) (surely (ap suc l))))

  at_cells : (h : Heap) (size : ℕ) (go : Way) → Sure AsMany go → Sure AsMany (on_cells m h size go)
  at_cells h size go s = sure_if (nat_le (h.used + size) m) {Else = ends Arena} {Go = go} (λ no. fault Arena) (λ yes. s)

  at_make : (V : Path) (args : List Value) (keeps : Bool) (f : Frame) (vs : List Value) (h : Heap)
      → Sure AsMany (makes p m V args keeps f vs h)
  at_make V args keeps f vs h =
      sure_either (λ n. no_member) (λ class. sure_found no_member (λ size i. sure_found no_member (λ fresh j.
      sure_found (bare args size fresh) (λ b k. at_entry b args
      (λ e. on_cells m h size (It (Enters e (new ∷ args) (waiting false f (kept keeps new vs)) (made size fresh))))
      (λ e l. at_cells h size _
      (sure_it (Enters e (new ∷ args) (waiting false f (kept keeps new vs)) (made size fresh))
      (surely (ap suc l)))))))) where
        new : Value
        new = Reference (length h.objects) V

        made : ℕ → List Stored → Heap
        made size fresh = with_object h size (record { made = V; stored = fresh })

        bare : (xs : List Value) (size : ℕ) (fresh : List Stored) → Sure AsMany (OnFirst xs
            (on_cells m h size (goes f (kept keeps (Reference (length h.objects) V) vs)
            (with_object h size (record { made = V; stored = fresh })))) (λ a rest. missing))
        bare [] size fresh = at_cells h size _ (goes_on _ _ _)
        bare (x ∷ xs) size fresh = no_member

  at_made : (x : Made) (go : Value → Way) → ((v : Value) → Sure AsMany (go v)) → Sure AsMany (on_made x go)
  at_made (Gives v) go each = each v
  at_made (Fails o) go each = fault o

  at_decided : (f : Frame) (e : Expr) (vs : List Value) (h : Heap) (b right : Bool)
      → Sure AsMany (decided f e vs h b right)
  at_decided f e vs h b true = goes_on _ _ _
  at_decided f e vs h b false = goes_on _ _ _

  at_print : (f : Frame) (v : Value) (vs : List Value) (h : Heap) → Sure AsMany (prints_value f v vs h)
  at_print f (Number z) vs h = goes_on _ _ _
  at_print f (Truth b) vs h = goes_on _ _ _
  at_print f Null vs h = fault (Stuck why.Kind)
  at_print f (Reference o V) vs h = fault (Stuck why.Kind)

  at_returns : (f : Frame) (h : Heap) (t : Option TypeTerm) (v : Value) → Sure AsMany (returns p f h t v)
  at_returns f h None v = fault (Stuck why.Kind)
  at_returns f h (Some t) v = sure_found no_member (λ u i. sure_either (λ n. fault (Stuck why.Foreign))
      (λ k. sure_it (Leaves (Some v) h) (surely tt)))

  at_none : (t : Option TypeTerm) (h : Heap) → Sure AsMany (returns_none t h)
  at_none None h = sure_it (Leaves None h) (surely tt)
  at_none (Some t) h = fault (Stuck why.Kind)

  -- whatever the act is
  pub as_many : (act : Act) (f : Frame) (h : Heap) → Sure AsMany (Does p m act f h)
  as_many (Push v) f h = goes_on _ _ _
  as_many (Read x) f h = on_option _ missing _ no_member (λ y. goes_on _ _ _)
  as_many This f h = goes_on _ _ _
  as_many Invert f h = on_list f.vals _ no_member (λ v us. at_truth v _ (λ b. goes_on _ _ _))
  as_many Negate f h = on_list f.vals _ no_member (λ v us. at_number v _ (λ z. goes_on _ _ _))
  as_many (Operate o) f h = on_list f.vals _ no_member (λ v us. on_list us _ no_member
      (λ w ws. at_made _ _ (λ x. goes_on _ _ _)))
  as_many (Decide and e) f h = on_list f.vals _ no_member (λ v us. at_truth v _
      (λ b. at_decided f e us h b (same_truth and b)))
  as_many (Get field) f h = on_list f.vals _ no_member (λ r us. at_object r _ (λ o V. sure_found no_member
      (λ t i. sure_found no_member (λ s j. on_option _ _ _ (fault (Stuck why.Masked))
      (λ v. at_read V t v _ (λ w. goes_on _ _ _))))))
  as_many (Call name n keeps) f h = on_option _ missing _ no_member (λ (x : List Value × List Value). on_list x.1 _ no_member
      (λ r us. at_object r _ (λ o V. at_call V name r x.0 _ h)))
  as_many (Make t n keeps) f h = on_option _ missing _ no_member (λ (x : List Value × List Value). sure_found no_member
      (λ V i. at_make V x.0 keeps f x.1 h))
  as_many (Super t name n keeps) f h = on_option _ missing _ no_member (λ (x : List Value × List Value). sure_found no_member
      (λ B i. at_call B name f.this x.0 _ h))
  as_many (View t) f h = on_list f.vals _ no_member (λ v us. sure_found no_member
      (λ Y i. at_viewed Y v _ (λ w. goes_on _ _ _)))
  as_many (Bind fixed t x path) f h = on_list f.vals _ no_member (λ v us. sure_found no_member
      (λ u i. sure_if _ (λ no. fault AtNull) (λ yes. sure_either (λ n. fault (Stuck why.Foreign))
      (λ k. goes_on _ _ _))))
  as_many (Assign x) f h = on_list f.vals _ no_member (λ v us. on_option _ missing _ no_member
      (λ y. sure_either (λ n. fault (Stuck why.Foreign)) (λ k. goes_on _ _ _)))
  as_many (Put field) f h = on_list f.vals _ no_member (λ v us. on_list us _ no_member (λ r ws. at_object r _
      (λ o V. sure_found no_member (λ t i. sure_found no_member (λ s j. on_option _ missing _ no_member
      (λ x. sure_either (λ n. fault (Stuck why.Foreign)) (λ k. goes_on _ _ _)))))))
  as_many (Choose path one other) f h = on_list f.vals _ no_member (λ v us. at_truth v _ (λ b. goes_on _ _ _))
  as_many (Repeat path e body) f h = on_list f.vals _ no_member (λ v us. at_truth v _ (λ b. goes_on _ _ _))
  as_many (Return true) f h = on_list f.vals _ no_member (λ v us. at_returns f h f.method.result v)
  as_many (Return false) f h = at_none f.method.result h
  as_many Print f h = on_list f.vals _ no_member (λ v us. at_print f v us h)
  as_many (PrintText t) f h = on_option _ missing _ no_member (λ x. goes_on _ _ _)
  as_many Begin f h = sure_found no_member (λ n i. at_make (n ∷ []) [] true f f.vals h)
  as_many Open f h = on_list f.vals _ no_member (λ r us. at_object r _ (λ o V. sure_found no_member
      (λ n i. at_call V n r [] _ h)))

  -- ---- a return

  over_with : (f : Frame) (h : Heap) (t : Option TypeTerm) (v : Value) → Sure Over (returns p f h t v)
  over_with f h None v = sure_it _ (surely tt)
  over_with f h (Some t) v = sure_found (sure_it _ (surely tt)) (λ u i. sure_either (λ n. sure_it _ (surely tt))
      (λ k. sure_it (Leaves (Some v) h) (surely tt)))

  pub return_over : (f : Frame) (h : Heap) → Sure Over (Does p m (Return true) f h)
  return_over f h = on_list f.vals _ (sure_it _ (surely tt)) (λ v us. over_with f h f.method.result v)
