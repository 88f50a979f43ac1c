-- Each act does one thing, and one alone.
use Rattle.std.proofs.Common.{ℕ, ◌+◌, List, [], ◌∷◌, length, Option, Some, None, Bool, true, false}
use Rattle.std.specs.Prelude.{ℤ, not, nat_eq, nat_le, slice_get}
use Rattle.jn_steps.specs.Steps.{Enters}
use Rattle.jn_base.specs.declared.tree.Name.{Name}
use Rattle.jn_base.specs.declared.tree.Expr.{Expr}
use Rattle.jn_base.specs.declared.tree.TypeTerm.{TypeTerm}
use Rattle.jn_base.specs.declared.tree.Program.{Program}
use Rattle.jn_base.specs.declared.types.Ty.{Ty}
use Rattle.jn_base.specs.declared.names.Var.{Var}
use Rattle.jn_base.specs.Paths.{Path}
use Rattle.jn_sem.specs.Sharing.{family_of}
use Rattle.jn_sem.specs.Values.{Value, Number, Truth, Null, Reference}
use Rattle.jn_sem.specs.Acts.{Act, Push, Read, This, Invert, Negate, Operate, Decide, Get, Call, Make, Super, View, Bind, Assign, Put, Choose, Repeat, Return, Print, PrintText, Begin, Open}
use Rattle.jn_sem.specs.State.{Stored, Heap, Frame, with_object, slot_value, variable, is_null_path}
use Rattle.jn_sem.specs.Does.{Entry, Body, Way, Made, Gives, Fails, kept, waiting, on_one, on_two, args_of, on_args, on_number, on_truth, on_object, on_made, result_of, on_entry, calls, on_cells, constructs, makes, on_viewed, on_read, on_typed, decided, bound_to, binds, returns, returns_none, prints_value, Does}
use Rattle.jn_sem.proofs.Sure.{Sure, sure_it, sure_only, sure_test, sure_some, sure_if, sure_first}

sure_on_one : (f : Frame) (go : Value → List Value → Way) → ((v : Value) (vs : List Value) → Sure (go v vs)) → Sure (on_one f go)
sure_on_one f go s = sure_first f.vals _ _ (sure_it _) s

sure_on_two : (f : Frame) (go : Value → Value → List Value → Way) → ((a b : Value) (vs : List Value) → Sure (go a b vs)) → Sure (on_two f go)
sure_on_two f go s = sure_first f.vals _ _ (sure_it _) (λ b rest. sure_first rest _ _ (sure_it _) (λ a vs. s a b vs))

sure_on_args : (n : ℕ) (f : Frame) (go : List Value → List Value → Way) → ((args rest : List Value) → Sure (go args rest)) → Sure (on_args n f go)
sure_on_args n f go s = sure_some (args_of n [] f.vals) _ _ (sure_it _) (λ x. s x.0 x.1)

sure_number : (v : Value) (go : ℤ → Way) → ((z : ℤ) → Sure (go z)) → Sure (on_number v go)
sure_number (Number z) go s = s z
sure_number (Truth b) go s = sure_it _
sure_number Null go s = sure_it _
sure_number (Reference o V) go s = sure_it _

sure_truth : (v : Value) (go : Bool → Way) → ((b : Bool) → Sure (go b)) → Sure (on_truth v go)
sure_truth (Truth b) go s = s b
sure_truth (Number z) go s = sure_it _
sure_truth Null go s = sure_it _
sure_truth (Reference o V) go s = sure_it _

sure_object : (v : Value) (go : ℕ → Path → Way) → ((o : ℕ) (V : Path) → Sure (go o V)) → Sure (on_object v go)
sure_object (Reference o V) go s = s o V
sure_object Null go s = sure_it _
sure_object (Number z) go s = sure_it _
sure_object (Truth b) go s = sure_it _

sure_made : (x : Made) (go : Value → Way) → ((v : Value) → Sure (go v)) → Sure (on_made x go)
sure_made (Gives v) go s = s v
sure_made (Fails o) go s = sure_it _

sure_entry : (p : Program) (b : Body) (args : List Value) (go : Entry → Way) → ((e : Entry) → Sure (go e)) → Sure (on_entry p b args go)
sure_entry p b args go s =
    sure_if (nat_eq (length args) (length b.method.params)) _ _ (sure_it _) (sure_only (sure_it _) (λ vars. s _))

sure_calls : (p : Program) (B : Path) (m : Name) (r : Value) (args : List Value) (f : Frame) (h : Heap) → Sure (calls p B m r args f h)
sure_calls p B m r args f h = sure_only (sure_it _) (λ b. sure_entry p b args _ (λ e. sure_it (Enters e (r ∷ args) f h)))

sure_cells : (m : ℕ) (h : Heap) (size : ℕ) (go : Way) → Sure go → Sure (on_cells m h size go)
sure_cells m h size go s = sure_if (nat_le (h.used + size) m) _ _ (sure_it _) s

sure_constructs : (p : Program) (m : ℕ) (V : Path) (args : List Value) (keeps : Bool) (f : Frame) (vs : List Value) (h : Heap) (size : ℕ) (fresh : List Stored) → Sure (constructs p m V args keeps f vs h size fresh)
sure_constructs p m V args keeps f vs h size fresh =
    let r = Reference (length h.objects) V in
    let made = with_object h size (record { made = V; stored = fresh }) in
    sure_only (sure_first args _ _ (sure_cells m h size _ (sure_it _)) (λ a rest. sure_it _))
    (λ b. sure_entry p b args _ (λ e. sure_cells m h size _ (sure_it (Enters e (r ∷ args) (waiting false f (kept keeps r vs)) made))))

sure_makes : (p : Program) (m : ℕ) (V : Path) (args : List Value) (keeps : Bool) (f : Frame) (vs : List Value) (h : Heap) → Sure (makes p m V args keeps f vs h)
sure_makes p m V args keeps f vs h =
    sure_test (sure_it _) (sure_only (sure_it _) (λ size. sure_only (sure_it _) (λ fresh. sure_constructs p m V args keeps f vs h size fresh)))

sure_viewed : (p : Program) (Y : Name) (v : Value) (go : Value → Way) → ((w : Value) → Sure (go w)) → Sure (on_viewed p Y v go)
sure_viewed p Y (Reference o V) go s = sure_only (sure_it _) (λ W. s _)
sure_viewed p Y Null go s = s _
sure_viewed p Y (Number z) go s = sure_it _
sure_viewed p Y (Truth b) go s = sure_it _

sure_read : (p : Program) (V : Path) (t : Ty) (v : Value) (go : Value → Way) → ((w : Value) → Sure (go w)) → Sure (on_read p V t v go)
sure_read p V t (Reference o W) go s =
    sure_test (s _) (sure_some (family_of V) _ _ (sure_it _) (λ Y. sure_viewed p Y (Reference o W) go s))
sure_read p V t (Number z) go s = s _
sure_read p V t (Truth b) go s = s _
sure_read p V t Null go s = s _

sure_typed : (p : Program) (f : Frame) (h : Heap) (t : Ty) (v : Value) (go : Way) → Sure go → Sure (on_typed p f h t v go)
sure_typed p f h t v go s = sure_test (sure_it _) s

sure_decided : (f : Frame) (e : Expr) (vs : List Value) (h : Heap) (b goes_on : Bool) → Sure (decided f e vs h b goes_on)
sure_decided f e vs h b true = sure_it _
sure_decided f e vs h b false = sure_it _

sure_binds : (p : Program) (f : Frame) (h : Heap) (x : Var) (v : Value) (vs : List Value) → Sure (binds p f h x v vs)
sure_binds p f h x v vs = sure_if (not (is_null_path (bound_to x v))) _ _ (sure_it _) (sure_typed p f h x.ty v _ (sure_it _))

sure_returns : (p : Program) (f : Frame) (h : Heap) (t : Option TypeTerm) (v : Value) → Sure (returns p f h t v)
sure_returns p f h None v = sure_it _
sure_returns p f h (Some t) v = sure_only (sure_it _) (λ t. sure_typed p f h t v _ (sure_it _))

sure_returns_none : (t : Option TypeTerm) (h : Heap) → Sure (returns_none t h)
sure_returns_none None h = sure_it _
sure_returns_none (Some t) h = sure_it _

sure_prints : (f : Frame) (v : Value) (vs : List Value) (h : Heap) → Sure (prints_value f v vs h)
sure_prints f (Number z) vs h = sure_it _
sure_prints f (Truth b) vs h = sure_it _
sure_prints f Null vs h = sure_it _
sure_prints f (Reference o V) vs h = sure_it _

pub sure_does : (p : Program) (m : ℕ) (x : Act) (f : Frame) (h : Heap) → Sure (Does p m x f h)
sure_does p m (Push v) f h = sure_it _
sure_does p m (Read x) f h = sure_some (variable f.vars x) _ _ (sure_it _) (λ y. sure_it _)
sure_does p m This f h = sure_it _
sure_does p m Invert f h = sure_on_one f _ (λ v vs. sure_truth v _ (λ b. sure_it _))
sure_does p m Negate f h = sure_on_one f _ (λ v vs. sure_number v _ (λ z. sure_it _))
sure_does p m (Operate o) f h = sure_on_two f _ (λ a b vs. sure_made (result_of o a b) _ (λ v. sure_it _))
sure_does p m (Decide and e) f h = sure_on_one f _ (λ v vs. sure_truth v _ (λ b. sure_decided f e vs h b _))
sure_does p m (Get field) f h =
    sure_on_one f _ (λ r vs. sure_object r _ (λ o V. sure_only (sure_it _) (λ t. sure_only (sure_it _) (λ s. sure_some (slot_value h o s) _ _ (sure_it _) (λ v. sure_read p V t v _ (λ w. sure_it _))))))
sure_does p m (Call name n keeps) f h =
    sure_on_args n f _ (λ args rest. sure_first rest _ _ (sure_it _) (λ r vs. sure_object r _ (λ o V. sure_calls p V name r args _ h)))
sure_does p m (Make t n keeps) f h = sure_on_args n f _ (λ args vs. sure_only (sure_it _) (λ V. sure_makes p m V args keeps f vs h))
sure_does p m (Super t name n keeps) f h = sure_on_args n f _ (λ args vs. sure_only (sure_it _) (λ B. sure_calls p B name f.this args _ h))
sure_does p m (View t) f h = sure_on_one f _ (λ v vs. sure_only (sure_it _) (λ Y. sure_viewed p Y v _ (λ w. sure_it _)))
sure_does p m (Bind fixed t x path) f h = sure_on_one f _ (λ v vs. sure_only (sure_it _) (λ t. sure_binds p f h _ v vs))
sure_does p m (Assign x) f h =
    sure_on_one f _ (λ v vs. sure_some (variable f.vars x) _ _ (sure_it _) (λ y. sure_typed p f h y.var.ty v _ (sure_it _)))
sure_does p m (Put field) f h =
    sure_on_two f _ (λ r v vs. sure_object r _ (λ o V. sure_only (sure_it _) (λ t. sure_only (sure_it _) (λ s. sure_some (slice_get h.objects o) _ _ (sure_it _) (λ x. sure_test (sure_it _) (sure_it _))))))
sure_does p m (Choose path one other) f h = sure_on_one f _ (λ v vs. sure_truth v _ (λ b. sure_it _))
sure_does p m (Repeat path e body) f h = sure_on_one f _ (λ v vs. sure_truth v _ (λ b. sure_it _))
sure_does p m (Return true) f h = sure_on_one f _ (λ v vs. sure_returns p f h f.method.result v)
sure_does p m (Return false) f h = sure_returns_none f.method.result h
sure_does p m Print f h = sure_on_one f _ (λ v vs. sure_prints f v vs h)
sure_does p m (PrintText t) f h = sure_some (slice_get p.texts t) _ _ (sure_it _) (λ x. sure_it _)
sure_does p m Begin f h = sure_only (sure_it _) (λ n. sure_makes p m _ [] true f f.vals h)
sure_does p m Open f h = sure_on_one f _ (λ r vs. sure_object r _ (λ o V. sure_only (sure_it _) (λ n. sure_calls p V n r [] _ h)))
