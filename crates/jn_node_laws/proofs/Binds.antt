-- A local: CHECK where it is a path, and STORE.
use Rattle.std.proofs.Common.{◌≡◌, ◌≢◌, ℕ, suc, ◌+◌, ◌<◌, List, [], ◌∷◌, ◌++◌, length, Option, Some, Bool, true, false, refl, sym, ap, ◌∙◌, subst, arith}
use Rattle.std.specs.Prelude.{ℤ, pos, slice_get, slice_set, get_or, if◌then◌else◌}
use Rattle.std.proofs.lemmas.Bool.{lt-ltb}
use Rattle.std.proofs.lemmas.List.{map-append}
use Rattle.std.proofs.lemmas.Option.{slice_get-get_or}
use Rattle.jn_steps.specs.Steps.{Goes, Faults, on_some}
use Rattle.jn_base.specs.declared.tree.Name.{Name}
use Rattle.jn_base.specs.declared.tree.TypeTerm.{TypeTerm}
use Rattle.jn_base.specs.declared.tree.Program.{Program}
use Rattle.jn_base.specs.declared.types.Ty.{Ty}
use Rattle.jn_base.specs.declared.types.Ty.TheVariants as ty
use Rattle.jn_base.specs.declared.names.Var.{Var}
use Rattle.jn_base.specs.Atoms.{Among}
use Rattle.jn_code.specs.declared.instr.Instr.TheVariants as ins
use Rattle.jn_code.specs.declared.image.Image.{Image}
use Rattle.jn_code.specs.declared.image.Code.{Code}
use Rattle.jn_code.specs.Machine.{Ref, move, obey, ref_word, ref_in}
use Rattle.jn_code.specs.Machine as machine
use Rattle.jn_code.proofs.Words.{ref_in_word}
use Rattle.jn_code.proofs.Sound.{set_same, set_other, set_long}
use Rattle.jn_sem.specs.declared.outcome.Why.{Why}
use Rattle.jn_sem.specs.declared.outcome.Why.TheVariants as why
use Rattle.jn_sem.specs.Values.{Value, Number, Truth, Null, Reference}
use Rattle.jn_sem.specs.Terms.{Site, TypeIs}
use Rattle.jn_sem.specs.Asks.{It, holds, fails}
use Rattle.jn_sem.specs.Acts.{Bind, Todo, todo}
use Rattle.jn_sem.specs.State.{Heap, Frame, Variable, declared_var, declared_vars, site_of}
use Rattle.jn_sem.specs.Does.{AtNull, Stuck, Did, var, bound_to, binds, on_typed}
use Rattle.jn_agree.specs.Naming.{Naming, IsWord, WordsAre}
use Rattle.jn_agree.specs.Matches.{World, Matches}
use Rattle.jn_agree.specs.Follows.{Knows, blank, Comes, Follows, rate}
use Rattle.jn_agree.specs.Places.{At, Run, with_var, binding}
use Rattle.jn_match_laws.proofs.RowLaws.{block_low}
use Rattle.jn_node_laws.specs.Cont.{Placed, active, LeadsTo}
use Rattle.jn_node_laws.specs.Facts.{FreshLocal}
use Rattle.jn_node_laws.proofs.Ways.{w_first, w_only, one_word}
use Rattle.jn_node_laws.proofs.Nodes.{Go, Next, node, moved, goes_on, goes_in, stuck, faults, comes, comes_later}
use Rattle.jn_node_laws.proofs.Gets.{some_goes}
use Rattle.jn_node_laws.proofs.Simple.{no_fact}
use Rattle.jn_node_laws.proofs.Variables.{among_one, declared_among}

-- a site is its parts
pub same_site : (here : Site) (f : Frame) → f.class ≡ here.class → f.method.name.name ≡ here.method
    → declared_vars f.vars ≡ here.vars → site_of f ≡ here
same_site here f c m v =
    ap (λ (c : _). record { class = c; method = f.method.name.name; vars = declared_vars f.vars }) c
    ∙ ap (λ (m : _). record { class = here.class; method = m; vars = declared_vars f.vars }) m
    ∙ ap (λ (v : _). record { class = here.class; method = here.method; vars = v }) v

module _ (p : Program) (i : Image) (n : Naming) (m : ℕ) (K : Knows) (T : Type 0) (Stands : T → Frame → Heap → Type 0)
    (code : ℕ) (it : Code) (there : slice_get i.codes code ≡ Some it) (r : Frame) where
  -- STORE puts the word into the local
  pub stores : (s q : ℕ) (vars zs a : List ℤ) (z : ℤ) (keeps : Bool) → At it.instrs s (ins.Store q) → q < length vars
      → move i m (active code s vars (z ∷ zs) keeps) a
      ≡ Goes (active code (s + 1) (slice_set vars q z) zs keeps) a []
  stores s q vars zs a z keeps at low =
      moved p i n m K T Stands code it there r s (ins.Store q) vars (z ∷ zs) a keeps at
      ∙ ap (λ (b : Bool). if b then machine.next
      (record (active code s vars (z ∷ zs) keeps) { vars = slice_set vars q z })
      zs a else Faults machine.Stuck) (lt-ltb q (length vars) low)

  -- the frame with the new variable stands where it is in scope
  bound : (here : Site) (f : Frame) (y : World) (vars vals zs : List ℤ) (v : Value) (us : List Value) (z : ℤ) (x : Var)
      → Placed p n it r here f y vars vals → FreshLocal it here x → IsWord p n y.firsts v z →
      WordsAre p n y.firsts us zs
      → Placed p n it r (with_var here x) (record f { vals = us; vars = f.vars ++ bound_to x v ∷ [] }) y
      (slice_set vars x.path z) zs
  bound here f y vars vals zs v us z x placed new word ws = record {
    class = placed.class;
    method = placed.method;
    result = placed.result;
    scope = map-append declared_var f.vars (bound_to x v ∷ []) ∙ ap (λ (l : List Var). l ++ x ∷ []) placed.scope;
    long = set_long vars x.path z ∙ placed.long;
    this = (placed.this.0, set_other vars x.path z 0 (λ e. new.not_this (sym e)) ∙ placed.this.1, placed.this.2);
    locals = λ w among. among_one f.vars (bound_to x v) w
        ((u : ℤ) × (slice_get (slice_set vars x.path z) w.var.path ≡ Some u) × IsWord p n y.firsts w.value u) among
        (λ old. let l = placed.locals w old in
        (l.0, set_other vars x.path z w.var.path (other w old) ∙ l.1, l.2))
        (λ e. subst (λ (w : Variable).
        (u : ℤ) × (slice_get (slice_set vars x.path z) w.var.path ≡ Some u) × IsWord p n y.firsts w.value u) e
        (z, there_now, word));
    operands = record { are = ws };
  }
    where
      low : x.path < length vars
      low = let l = placed.long in let r = new.room in omega (arith, l, r)

      there_now : slice_get (slice_set vars x.path z) x.path ≡ Some z
      there_now = set_same vars x.path z (get_or vars x.path (pos 0)) (slice_get-get_or vars x.path (pos 0) low)

      other : (w : Variable) → Among f.vars w → w.var.path ≢ x.path
      other w old = new.fresh w.var (subst (λ (l : List Var). Among l w.var) placed.scope (declared_among f.vars w old))

  module _ (b : ℕ) (here : Site) (t : T) (k : List Todo) (s e w : ℕ) (x : Var) (new : FreshLocal it here x)
      (h : Go p i n m K T Stands code it there r b (with_var here x) t k e (20 + w)) where
    abbrev Q : World → (vars vals : List ℤ) → Bool → List ℤ → Did → Type 0
    Q y vars vals keeps a d = Follows p i n m blank
        (Next p i n m K T Stands code it there r (with_var here x) t b) r d y
        (active code s vars vals keeps) a w

    -- it goes on where the variable is in scope
    pub binds_to : (f : Frame) (y : World) (a vars vals zs : List ℤ) (keeps : Bool) (v : Value) (us : List Value)
        (z : ℤ)
        (d : Did) → f.todo ≡ k → Placed p n it r here f y vars vals → Matches p i n y a → IsWord p n y.firsts v z
        → WordsAre p n y.firsts us zs
        → Comes i m (active code s vars (z ∷ zs) keeps) a
        (Goes (active code e (slice_set vars x.path z) zs keeps) a []) 2
        → on_typed p f y.heap x.ty v
        (It (Goes (record f { vals = us; vars = f.vars ++ bound_to x v ∷ [] }) y.heap [])) d
        → Q y vars (z ∷ zs) keeps a d
    binds_to f y a vars vals zs keeps v us z d ft placed ma word ws on (fails not_in step) =
        stuck p i n m K T Stands code it there r b (with_var here x) t why.Foreign y
        (active code s vars (z ∷ zs) keeps) a w d step
    binds_to f y a vars vals zs keeps v us z d ft placed ma word ws on (holds is_in step) =
        goes_in p i n m K T Stands code it there r b (with_var here x) t y
        (record f { vals = us; vars = f.vars ++ bound_to x v ∷ [] }) [] (active code s vars (z ∷ zs) keeps)
        (active code e (slice_set vars x.path z) zs keeps) a 2 (20 + w) w d step on (omega arith) placed.result ma
        (goes_on p i n m K T Stands code it there r [] b (with_var here x) t k e (20 + w) h
        (record f { vals = us; vars = f.vars ++ bound_to x v ∷ [] }) y a (slice_set vars x.path z) zs keeps ft
        (bound here f y vars vals zs v us z x placed new word ws) ma)

    -- STORE alone
    stored_only : (f : Frame) (y : World) (a vars vals zs : List ℤ) (keeps : Bool) (v : Value) (us : List Value) (z : ℤ)
        (d : Did) → f.todo ≡ k → Placed p n it r here f y vars vals → Matches p i n y a → IsWord p n y.firsts v z
        → WordsAre p n y.firsts us zs → Run it.instrs (ins.Store x.path ∷ []) s e
        → on_typed p f y.heap x.ty v
        (It (Goes (record f { vals = us; vars = f.vars ++ bound_to x v ∷ [] }) y.heap [])) d
        → Q y vars (z ∷ zs) keeps a d
    stored_only f y a vars vals zs keeps v us z d ft placed ma word ws at step =
        binds_to f y a vars vals zs keeps v us z d ft placed ma word ws
        (comes p i n m K T Stands code it there r _ a _ 2
        (stores s x.path vars zs a z keeps at.0 (let l = placed.long in let r = new.room in omega (arith, l, r))
        ∙ ap (λ (e : ℕ). let d : machine.Did = Goes (active code e (slice_set vars x.path z) zs keeps) a [] in d)
        (sym at.1)) (omega arith)) step

    -- CHECK of null
    null_halts : (f : Frame) (y : World) (a vars zs : List ℤ) (keeps : Bool) (z : ℤ) (d : Did) → z ≡ pos 0
        → At it.instrs s ins.Check → d ≡ Faults AtNull → Q y vars (z ∷ zs) keeps a d
    null_halts f y a vars zs keeps z d is at step =
        faults p i n m K T Stands code it there r b (with_var here x) t AtNull machine.Null y
        (active code s vars (z ∷ zs) keeps) a w d step refl
        (comes p i n m K T Stands code it there r _ a _ (rate + w)
        (moved p i n m K T Stands code it there r s ins.Check vars (z ∷ zs) a keeps at
        ∙ ap (λ (o : Option Ref). on_some machine.Null o
        (λ (r : Ref). machine.next (active code s vars (z ∷ zs) keeps) (z ∷ zs) a)) (ap ref_in is)) (omega arith))

    -- CHECK of a reference, and STORE
    checked : (f : Frame) (y : World) (a vars vals zs : List ℤ) (keeps : Bool) (o : ℕ) (V : _) (us : List Value) (z : ℤ)
        (d : Did) → f.todo ≡ k → Placed p n it r here f y vars vals → Matches p i n y a
        → IsWord p n y.firsts (Reference o V) z
        → WordsAre p n y.firsts us zs → Run it.instrs (ins.Check ∷ ins.Store x.path ∷ []) s e
        → on_typed p f y.heap x.ty (Reference o V)
        (It (Goes (record f { vals = us; vars = f.vars ++ bound_to x (Reference o V) ∷ [] }) y.heap [])) d
        → Q y vars (z ∷ zs) keeps a d
    checked f y a vars vals zs keeps o V us z d ft placed ma word ws at step =
        let i0 = word.is in
        let low = (block_low i n y.heap.objects y.firsts 0 (length a) o i0.1 ma.blocks i0.3).3 in
        let small = ma.small in
        let ref : Ref = record { view = i0.0; cell = i0.1.cell } in
        binds_to f y a vars vals zs keeps (Reference o V) us z d ft placed ma word ws
        (comes_later p i n m K T Stands code it there r _ (active code (s + 1) vars (z ∷ zs) keeps) a a _ 1
        (moved p i n m K T Stands code it there r s ins.Check vars (z ∷ zs) a keeps at.0
        ∙ some_goes machine.Null (ref_in z) ref
        (λ (r : Ref). machine.next (active code s vars (z ∷ zs) keeps) (z ∷ zs) a)
        (ap ref_in i0.5 ∙ ref_in_word ref (omega (arith, low, small))))
        (comes p i n m K T Stands code it there r _ a _ 1
        (stores (s + 1) x.path vars zs a z keeps at.1.0 (let l = placed.long in let r = new.room in omega (arith, l, r))
        ∙ ap (λ (e : ℕ). let d : machine.Did = Goes (active code e (slice_set vars x.path z) zs keeps) a [] in d)
        (sym at.1.1)) (omega arith))) step

  abbrev Was : ℕ → Site → T → ℕ → ℕ → World → (a vars vals : List ℤ) → Bool → Did → Type 0
  Was b here t s w y a vars vals keeps d = Follows p i n m blank (Next p i n m K T Stands code it there r here t b) r d
      y (active code s vars vals keeps) a w

  -- `scratch` is of no matter here
  pub bind : (b : ℕ) (here : Site) (u t : T) (fixed : Bool) (term : TypeTerm) (name : Name) (path : ℕ) (type : Ty)
      (scratch : ℕ) (k : List Todo) (s e w : ℕ)
      → TypeIs p here term type → FreshLocal it here (var name path fixed type)
      → Run it.instrs (binding p n scratch it fixed type path) s e
      → LeadsTo p i n m K T Stands code it r here (Bind fixed term name path) k u t
      → Go p i n m K T Stands code it there r b (with_var here (var name path fixed type)) t k e (20 + w)
      → Go p i n m K T Stands code it there r (suc b) here u
      (todo (length here.vars) (Bind fixed term name path) ∷ k) s w
  bind b here u t fixed term name path type scratch k s e w typed new at leads h =
      node p i n m K T Stands code it there r [] b here u t (Bind fixed term name path) k s w leads
      (no_fact p i n m K T Stands code it there r) (λ f h st. tt)
      (λ f y a vars vals keeps ft placed ma fact d step.
      w_first (Was b here t s w y a vars vals keeps) (no_way y a vars vals keeps) f.vals _ d step (λ v us vus step.
      let rw = one_word p n y.firsts v us f.vals vals vus placed.operands.are in
      w_only (Was b here t s w y a vars vals keeps) (no_way y a vars vals keeps) (TypeIs p (site_of f) term) _ d step
      (λ found only step.
      let same : type ≡ found = only.one type
      (subst (λ (at : Site). TypeIs p at term type)
      (sym (same_site here f placed.class placed.method placed.scope)) typed) in
      subst (λ (vals : List ℤ). Was b here t s w y a vars vals keeps d) (sym rw.is)
      (at_value fixed type new at h f y a vars vals rw.rest keeps v us rw.word d ft placed ma rw.first rw.others
      (subst (λ (c : Ty). binds p f y.heap (var name path fixed c) v us d) (sym same) step)))))
    where
      no_way : (y : World) (a vars vals : List ℤ) (keeps : Bool) (d : Did) (cause : Why) → d ≡ Faults (Stuck cause)
          → Was b here t s w y a vars vals keeps d
      no_way y a vars vals keeps d why e =
          stuck p i n m K T Stands code it there r b here t why y (active code s vars vals keeps) a w d e

      at_value : (fixed : Bool) (type : Ty) → FreshLocal it here (var name path fixed type)
          → Run it.instrs (binding p n scratch it fixed type path) s e
          → Go p i n m K T Stands code it there r b (with_var here (var name path fixed type)) t k e (20 + w)
          → (f : Frame) (y : World) (a vars vals zs : List ℤ) (keeps : Bool) (v : Value) (us : List Value) (z : ℤ)
          (d : Did) → f.todo ≡ k → Placed p n it r here f y vars vals → Matches p i n y a → IsWord p n y.firsts v z
          → WordsAre p n y.firsts us zs → binds p f y.heap (var name path fixed type) v us d
          → Was b here t s w y a vars (z ∷ zs) keeps d
      at_value false type new at h f y a vars vals zs keeps v us z d ft placed ma word ws step =
          stored_only b here t k s e w (var name path false type) new h f y a vars vals zs keeps v us z d ft placed ma
          word ws at step
      at_value true ty.Int new at h f y a vars vals zs keeps v us z d ft placed ma word ws step =
          stored_only b here t k s e w (var name path true ty.Int) new h f y a vars vals zs keeps v us z d ft placed ma
          word ws at step
      at_value true ty.Bool new at h f y a vars vals zs keeps v us z d ft placed ma word ws step =
          stored_only b here t k s e w (var name path true ty.Bool) new h f y a vars vals zs keeps v us z d ft placed ma
          word ws at step
      at_value true ty.Null new at h f y a vars vals zs keeps v us z d ft placed ma word ws step =
          stored_only b here t k s e w (var name path true ty.Null) new h f y a vars vals zs keeps v us z d ft placed ma
          word ws at step
      at_value true ty.Void new at h f y a vars vals zs keeps v us z d ft placed ma word ws step =
          stored_only b here t k s e w (var name path true ty.Void) new h f y a vars vals zs keeps v us z d ft placed ma
          word ws at step
      at_value true (ty.Class xs c) new at h f y a vars vals zs keeps Null us z d ft placed ma word ws step =
          null_halts b here t k s e w (var name path true
          (ty.Class xs c)) new h f y a vars zs keeps z d word.is at.0 step
      at_value true (ty.Class xs c) new at h f y a vars vals zs keeps (Reference o V) us z d ft placed ma word ws step =
          checked b here t k s e w (var name path true (ty.Class xs c)) new h f y a vars vals zs keeps o V us z d ft
          placed ma word ws at step
      at_value true (ty.Class xs c) new at h f y a vars vals zs keeps (Number u) us z d ft placed ma word ws
          (fails not_in step) = no_way y a vars (z ∷ zs) keeps d why.Foreign step
      at_value true (ty.Class xs c) new at h f y a vars vals zs keeps (Number u) us z d ft placed ma word ws
          (holds is_in step) = elim is_in [ ]
      at_value true (ty.Class xs c) new at h f y a vars vals zs keeps (Truth u) us z d ft placed ma word ws
          (fails not_in step) = no_way y a vars (z ∷ zs) keeps d why.Foreign step
      at_value true (ty.Class xs c) new at h f y a vars vals zs keeps (Truth u) us z d ft placed ma word ws
          (holds is_in step) = elim is_in [ ]
