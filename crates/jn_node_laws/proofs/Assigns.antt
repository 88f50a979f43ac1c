-- A variable gets a value.
use Rattle.std.proofs.Common.{◌≡◌, ◌≢◌, ℕ, suc, ◌+◌, ◌<◌, List, [], ◌∷◌, ◌++◌, length, reverse, Some, Bool, true, false, refl, sym, ap, ◌∙◌, subst, arith, append_assoc}
use Rattle.std.specs.Prelude.{ℤ, pos, slice_get, slice_set, get_or, cond}
use Rattle.std.specs.List.{find}
use Rattle.std.proofs.lemmas.List.{map-append, reverse-append, reverse-reverse}
use Rattle.std.proofs.lemmas.Option.{slice_get-get_or}
use Rattle.jn_steps.specs.Steps.{Goes, Faults}
use Rattle.jn_base.specs.declared.tree.Name.{Name}
use Rattle.jn_base.specs.declared.tree.Program.{Program}
use Rattle.jn_base.specs.declared.names.Var.{Var}
use Rattle.jn_base.specs.Atoms.{Among, first, later}
use Rattle.jn_code.specs.declared.instr.Instr.TheVariants as ins
use Rattle.jn_code.specs.declared.image.Image.{Image}
use Rattle.jn_code.specs.declared.image.Code.{Code}
use Rattle.jn_code.proofs.Sound.{set_same, set_other, set_long}
use Rattle.jn_sem.specs.declared.outcome.Why.{Why}
use Rattle.jn_sem.specs.declared.outcome.Why.TheVariants as why
use Rattle.jn_sem.specs.Values.{Value}
use Rattle.jn_sem.specs.Terms.{Site}
use Rattle.jn_sem.specs.Asks.{It, holds, fails}
use Rattle.jn_sem.specs.Acts.{Assign, Todo, todo}
use Rattle.jn_sem.specs.State.{Heap, Frame, Variable, declared_var, declared_vars, is_named, variable, first_assigned, assigned}
use Rattle.jn_sem.specs.Does.{Stuck, Did, on_typed}
use Rattle.jn_agree.specs.Naming.{Naming, IsWord, WordsAre}
use Rattle.jn_agree.specs.Matches.{World, Matches}
use Rattle.jn_agree.specs.Follows.{Knows, blank, Follows}
use Rattle.jn_agree.specs.Places.{At, newest}
use Rattle.jn_node_laws.specs.Cont.{Placed, active, LeadsTo}
use Rattle.jn_node_laws.specs.Facts.{OwnLocal}
use Rattle.jn_node_laws.proofs.Ways.{w_first, w_some, one_word}
use Rattle.jn_node_laws.proofs.Nodes.{Go, Next, node, goes_on, goes_in, stuck, comes}
use Rattle.jn_node_laws.proofs.Simple.{no_fact}
use Rattle.jn_node_laws.proofs.Variables.{declared_among, same_var}
use Rattle.jn_node_laws.proofs.Binds.{stores}

-- The list with its newest variable of the name, and as it is once that has the value.
record Split (vars now : List Variable) (y : Variable) (u : Value) : Type 0 where
  pub before : List Variable
  pub behind : List Variable
  pub is : vars ≡ before ++ y ∷ behind
  pub changed : now ≡ before ++ record y { value = u } ∷ behind

split_first : (xs : List Variable) (x : Name) (u : Value) (y : Variable) → find (is_named x) xs ≡ Some y
    → Split xs (first_assigned xs x u) y u
split_first [] x u y e = cc
split_first (z ∷ xs) x u y e = at (is_named x z) refl (split_first xs x u y)
  where
    at : (b : Bool) → is_named x z ≡ b → (find (is_named x) xs ≡ Some y → Split xs (first_assigned xs x u) y u)
        → Split (z ∷ xs) (first_assigned (z ∷ xs) x u) y u
    at true is below =
        let same : z ≡ y = cc in
        record {
          before = [];
          behind = xs;
          is = ap (λ (z : Variable). z ∷ xs) same;
          changed = ap (λ (b : Bool). cond b (record z { value = u } ∷ xs) (z ∷ first_assigned xs x u)) is
              ∙ ap (λ (z : Variable). record z { value = u } ∷ xs) same;
        }
    at false is below =
        let r = below cc in
        record {
          before = z ∷ r.before;
          behind = r.behind;
          is = ap (λ (l : List Variable). z ∷ l) r.is;
          changed = ap (λ (b : Bool). cond b (record z { value = u } ∷ xs) (z ∷ first_assigned xs x u)) is
              ∙ ap (λ (l : List Variable). z ∷ l) r.changed;
        }

turned : (before behind : List Variable) (y : Variable) → reverse (before ++ y ∷ behind) ≡ reverse behind ++
    (y ∷ reverse before)
turned before behind y =
    reverse-append before (y ∷ behind)
    ∙ ap (λ (l : List Variable). l ++ reverse before) (reverse-append (y ∷ []) behind)
    ∙ append_assoc (reverse behind) (y ∷ []) (reverse before)

split : (xs : List Variable) (x : Name) (u : Value) (y : Variable) → variable xs x ≡ Some y
    → Split xs (assigned xs x u) y u
split xs x u y e =
    let r = split_first (reverse xs) x u y e in
    record {
      before = reverse r.behind;
      behind = reverse r.before;
      is = sym (reverse-reverse xs) ∙ ap (λ (l : List Variable). reverse l) r.is ∙ turned r.before r.behind y;
      changed = ap (λ (l : List Variable). reverse l) r.changed ∙ turned r.before r.behind (record y { value = u });
    }

-- one of a list, or one of the others
among_others : (xs ys : List Variable) (y w : Variable) (Q : Type 0) → Among (xs ++ y ∷ ys) w
    → (Among (xs ++ ys) w → Q) → (y ≡ w → Q) → Q
among_others [] ys y _ Q first other this = this refl
among_others [] ys y w Q (later a) other this = other a
among_others (x ∷ xs) ys y _ Q first other this = other first
among_others (x ∷ xs) ys y w Q (later a) other this = among_others xs ys y w Q a (λ b. other (later b)) this

among_more : (xs ys : List Variable) (y w : Variable) → Among (xs ++ ys) w → Among (xs ++ y ∷ ys) w
among_more [] ys y w a = later a
among_more (x ∷ xs) ys y _ first = first
among_more (x ∷ xs) ys y w (later a) = later (among_more xs ys y w a)

module _ (p : Program) (i : Image) (n : Naming) (m : ℕ) (K : Knows) (T : Type 0) (Stands : T → Frame → Heap → Type 0)
    (code : ℕ) (it : Code) (there : slice_get i.codes code ≡ Some it) (r : Frame) where
  -- the frame whose variable has the value stands where it stood
  changed : (here : Site) (f : Frame) (y : World) (vars vals zs : List ℤ) (v : Value) (us : List Value) (z : ℤ)
      (name : Name) (x : Variable) → Placed p n it r here f y vars vals → variable f.vars name ≡ Some x
      → OwnLocal it here x.var → IsWord p n y.firsts v z → WordsAre p n y.firsts us zs
      → Placed p n it r here (record f { vals = us; vars = assigned f.vars name v }) y (slice_set vars x.var.path z) zs
  changed here f y vars vals zs v us z name x placed found own word ws = record {
    class = placed.class;
    method = placed.method;
    result = placed.result;
    scope = ap declared_vars s.changed ∙ map-append declared_var s.before (record x { value = v } ∷ s.behind)
        ∙ sym parts ∙ placed.scope;
    long = set_long vars q z ∙ placed.long;
    this = (placed.this.0, set_other vars q z 0 (λ e. own.not_this (sym e)) ∙ placed.this.1, placed.this.2);
    locals = λ w among. among_others s.before s.behind (record x { value = v }) w (Local w)
        (subst (λ (l : List Variable). Among l w) s.changed among)
        (λ old. let l = placed.locals w (subst (λ (l : List Variable). Among l w) (sym s.is)
        (among_more s.before s.behind x w old)) in
        (l.0, set_other vars q z w.var.path (other w old) ∙ l.1, l.2))
        (λ e. subst Local e (z, there_now, word));
    operands = record { are = ws };
  }
    where
      s : Split f.vars (assigned f.vars name v) x v
      s = split f.vars name v x found

      q : ℕ
      q = x.var.path

      Local : Variable → Type 0
      Local w = (u : ℤ) × (slice_get (slice_set vars q z) w.var.path ≡ Some u) × IsWord p n y.firsts w.value u

      parts : declared_vars f.vars ≡ declared_vars s.before ++ x.var ∷ declared_vars s.behind
      parts = ap declared_vars s.is ∙ map-append declared_var s.before (x ∷ s.behind)

      low : q < length vars
      low = let l = placed.long in let r = own.room in omega (arith, l, r)

      there_now : slice_get (slice_set vars q z) q ≡ Some z
      there_now = set_same vars q z (get_or vars q (pos 0)) (slice_get-get_or vars q (pos 0) low)

      other : (w : Variable) → Among (s.before ++ s.behind) w → w.var.path ≢ q
      other w old = own.own (declared_vars s.before) (declared_vars s.behind) (sym placed.scope ∙ parts) w.var
          (subst (λ (l : List Var). Among l w.var) (map-append declared_var s.before s.behind)
          (declared_among (s.before ++ s.behind) w old))

  pub assign : (b : ℕ) (here : Site) (u t : T) (name : Name) (x : Var) (k : List Todo) (s w : ℕ)
      → newest here.vars name ≡ Some x → OwnLocal it here x → At it.instrs s (ins.Store x.path)
      → LeadsTo p i n m K T Stands code it r here (Assign name) k u t
      → Go p i n m K T Stands code it there r b here t k (s + 1) (20 + w)
      → Go p i n m K T Stands code it there r (suc b) here u (todo (length here.vars) (Assign name) ∷ k) s w
  assign b here u t name x k s w is own at leads h =
      node p i n m K T Stands code it there r [] b here u t (Assign name) k s w leads
      (no_fact p i n m K T Stands code it there r) (λ f h st. tt)
      (λ f y a vars vals keeps ft placed ma fact d step.
      let Q : Did → Type 0 = λ d. Follows p i n m blank (Next p i n m K T Stands code it there r here t b) r d y
      (active code s vars vals keeps) a w in
      let no_way : (d : Did) (w : Why) → d ≡ Faults (Stuck w) → Q d = λ d2 why e.
      stuck p i n m K T Stands code it there r b here t why y (active code s vars vals keeps) a w d2 e in
      w_first Q no_way f.vals _ d step (λ v us vus step.
      let rw = one_word p n y.firsts v us f.vals vals vus placed.operands.are in
      w_some Q no_way (variable f.vars name) why.Missing _ d step (λ z zis step.
      let same : x ≡ z.var = same_var p i n m K T Stands code it there r [] here f y vars vals name x z placed is zis in
      subst (λ (vals : List ℤ). Follows p i n m blank (Next p i n m K T Stands code it there r here t b) r d y
      (active code s vars vals keeps) a w) (sym rw.is)
      (assigns f y a vars vals rw.rest keeps v us rw.word z d ft placed ma zis
      (subst (λ (x : Var). OwnLocal it here x) same own)
      (subst (λ (x : Var). At it.instrs s (ins.Store x.path)) same at)
      rw.first rw.others step))))
    where
      assigns : (f : Frame) (y : World) (a vars vals zs : List ℤ) (keeps : Bool) (v : Value) (us : List Value) (z : ℤ)
          (x : Variable) (d : Did) → f.todo ≡ k → Placed p n it r here f y vars vals → Matches p i n y a
          → variable f.vars name ≡ Some x → OwnLocal it here x.var → At it.instrs s (ins.Store x.var.path)
          → IsWord p n y.firsts v z → WordsAre p n y.firsts us zs
          → on_typed p f y.heap x.var.ty v
          (It (Goes (record f { vals = us; vars = assigned f.vars name v }) y.heap [])) d
          → Follows p i n m blank (Next p i n m K T Stands code it there r here t b) r d y
          (active code s vars (z ∷ zs) keeps) a w
      assigns f y a vars vals zs keeps v us z x d ft placed ma found own at word ws (fails not_in step) =
          stuck p i n m K T Stands code it there r b here t why.Foreign y (active code s vars (z ∷ zs) keeps) a w d step
      assigns f y a vars vals zs keeps v us z x d ft placed ma found own at word ws (holds is_in step) =
          goes_in p i n m K T Stands code it there r b here t y
          (record f { vals = us; vars = assigned f.vars name v }) [] (active code s vars (z ∷ zs) keeps)
          (active code (s + 1) (slice_set vars x.var.path z) zs keeps) a 1 (20 + w) w d step
          (comes p i n m K T Stands code it there r _ a _ 1
          (stores p i n m K T Stands code it there r s x.var.path vars zs a z keeps at
          (let l = placed.long in let r = own.room in omega (arith, l, r))) (omega arith))
          (omega arith) placed.result ma
          (goes_on p i n m K T Stands code it there r [] b here t k (s + 1) (20 + w) h
          (record f { vals = us; vars = assigned f.vars name v }) y a (slice_set vars x.var.path z) zs keeps ft
          (changed here f y vars vals zs v us z name x placed found own word ws) ma)
