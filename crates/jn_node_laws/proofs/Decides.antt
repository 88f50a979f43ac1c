-- `&&` and `||`: a node with two ways.
use Rattle.std.proofs.Common.{◌≡◌, ℕ, suc, ◌+◌, List, [], ◌∷◌, length, Some, Bool, true, false, refl, sym, ap, ◌∙◌, subst, arith}
use Rattle.std.specs.Prelude.{ℤ, slice_get}
use Rattle.jn_steps.specs.Steps.{Goes, Faults}
use Rattle.jn_base.specs.declared.tree.Expr.{Expr}
use Rattle.jn_base.specs.declared.tree.Program.{Program}
use Rattle.jn_code.specs.declared.instr.Instr.{Instr}
use Rattle.jn_code.specs.declared.instr.Instr.TheVariants as ins
use Rattle.jn_code.specs.declared.image.Image.{Image}
use Rattle.jn_code.specs.declared.image.Code.{Code}
use Rattle.jn_code.specs.Machine.{move, word_of}
use Rattle.jn_code.specs.Machine as machine
use Rattle.jn_sem.specs.declared.outcome.Why.{Why}
use Rattle.jn_sem.specs.Values.{Value, Truth}
use Rattle.jn_sem.specs.Terms.{Site}
use Rattle.jn_sem.specs.Acts.{Decide, Todo, todo, acts}
use Rattle.jn_sem.specs.State.{Heap, Frame}
use Rattle.jn_sem.specs.Does.{Stuck, Did, decided, same_truth}
use Rattle.jn_sem.specs.Run.{acting}
use Rattle.jn_agree.specs.Naming.{Naming, IsWord}
use Rattle.jn_agree.specs.Matches.{World, Matches}
use Rattle.jn_agree.specs.Follows.{Knows, blank, Follows, LocalAt, Local}
use Rattle.jn_node_laws.specs.Cont.{of_frame, Layout, LaidOut, Takes, PlacedOn, trimmed, active, ContOn, LeadsByTruth, either}
use Rattle.jn_agree.specs.Places.{At, deciding, decided_by}
use Rattle.jn_node_laws.proofs.Ways.{w_first, w_truth, top_word}
use Rattle.jn_node_laws.proofs.Nodes.{none_some, typed, Next, moved, goes_on, goes_in, comes, comes_later, with_operands, wide}

module _ (p : Program) (i : Image) (n : Naming) (m : ℕ) (K : Knows) (T : Type 0) (Stands : T → Frame → Heap → Type 0)
    (code : ℕ) (it : Code) (there : slice_get i.codes code ≡ Some it) (r : Frame) where
  pub decide : (j l : Layout) → Takes j l → (b : ℕ) (here : Site) (u if_so if_not : T) (and : Bool) (e : Expr)
      (k : List Todo) (s t w : ℕ) →
      At it.instrs s (deciding and t) → At it.instrs t (decided_by and)
      → LeadsByTruth p i n m K T Stands code it r here (Decide and e) k u (λ v. either if_so if_not (same_truth and v))
      → ContOn p i n m K T Stands code it r l b here if_so (acts (length here.vars) e k) (s + 1) (20 + w) →
      ContOn p i n m K T Stands code it r (of_frame ∷ l) b here if_not k (t + 1) (20 + w)
      → ContOn p i n m K T Stands code it r j (suc b) here u (todo (length here.vars) (Decide and e) ∷ k) s w
  decide j l tk b here u0 if_so if_not and e k s t w first second leads right left = record {
    by = λ f x a vars vals keeps ft placed ma st.
        subst (λ (todo : List Todo). LocalAt p i n m K r (suc b) todo f x (active code s vars vals keeps) a w) (sym ft)
        (λ d does.
        let Q : Did → Type 0 = λ d. Follows p i n m K (Local p i n m K r b) r d x (active code s vars vals keeps) a w in
        let no_way : (d : Did) (w : Why) → d ≡ Faults (Stuck w) → Q d = λ d why e. subst Q (sym e)
        (λ h is. absurd (none_some is)) in
        let f1 : Frame = acting (todo (length here.vars) (Decide and e)) k f in
        w_first Q no_way f.vals _ d does (λ v us vus step.
        let rw = top_word p n x.firsts f.this j l tk v us f.vals vals vus placed.operands.are in
        w_truth Q no_way v _ d step (λ u is step.
        let word : IsWord p n x.firsts (Truth u) rw.word = subst
        (λ (v : Value). IsWord p n x.firsts v rw.word) is rw.first in
        typed p i n m K T Stands code it there r b here (either if_so if_not (same_truth and u)) x
        (active code s vars vals keeps) a w d
        (leads f x.heap d u us st (vus ∙ ap (λ (z : Value). z ∷ us) is) does)
        (at_truth and u refl f1 x a vars vals rw.rest keeps us d refl
        (with_operands p n it r here j j (trimmed here f) f.vals k x vars vals vals placed placed.operands) ma
        (rw.is ∙ ap (λ (z : ℤ). z ∷ rw.rest) word.is) rw.others step))));
  } where
    Raw : (right : Bool) → World → Did → (vars vals : List ℤ) → Bool → List ℤ → Type 0
    Raw right x d vars vals keeps a = Follows p i n m blank
        (Next p i n m K T Stands code it there r here (either if_so if_not right) b) r d x
        (active code s vars vals keeps) a w

    -- the right operand is still to act
    goes_right : (f : Frame) (x : World) (a vars vals zs : List ℤ) (keeps u : Bool) (vs : List Value) (d : Did) →
        f.todo ≡ k → PlacedOn p n it r here j f x vars vals → Matches p i n x a → LaidOut p n x.firsts f.this l vs zs
        → move i m (active code s vars vals keeps) a ≡ Goes (active code (s + 1) vars zs keeps) a [] →
        decided f e vs x.heap u true d → Raw true x d vars vals keeps a
    goes_right f x a vars vals zs keeps u vs d ft placed ma ws mv does =
        let f2 : Frame = record f { vals = vs; todo = acts (length f.vars) e f.todo } in
        let same : f2.todo ≡ acts (length here.vars) e k = ap (λ (l : ℕ). acts l e f.todo)
        (wide p i n m K T Stands code it there r here j f x vars vals placed) ∙ ap
        (λ (k : List Todo). acts (length here.vars) e k) ft in
        goes_in p i n m K T Stands code it there r b here if_so x f2 [] (active code s vars vals keeps)
        (active code (s + 1) vars zs keeps) a 1 (20 + w) w d does
        (comes p i n m K T Stands code it there r _ a _ 1 mv (omega arith)) (omega arith) placed.result ma
        (goes_on p i n m K T Stands code it there r l b here if_so (acts (length here.vars) e k) (s + 1)
        (20 + w) right f2 x a vars zs keeps same
        (with_operands p n it r here j l f vs f2.todo x vars vals zs placed (record { are = ws })) ma)

    -- the left one is the value
    goes_left : (f : Frame) (x : World) (a vars vals zs : List ℤ) (keeps u : Bool) (vs : List Value) (d : Did) →
        f.todo ≡ k → PlacedOn p n it r here j f x vars vals → Matches p i n x a → LaidOut p n x.firsts f.this l vs zs
        → move i m (active code s vars vals keeps) a ≡ Goes (active code t vars zs keeps) a [] → move i m
        (active code t vars zs keeps) a ≡ Goes (active code (t + 1) vars (word_of u ∷ zs) keeps) a [] →
        decided f e vs x.heap u false d → Raw false x d vars vals keeps a
    goes_left f x a vars vals zs keeps u vs d ft placed ma ws mv mv2 does =
        let f2 : Frame = record f { vals = Truth u ∷ vs } in
        goes_in p i n m K T Stands code it there r b here if_not x f2 [] (active code s vars vals keeps)
        (active code (t + 1) vars (word_of u ∷ zs) keeps) a 2 (20 + w) w d does
        (comes_later p i n m K T Stands code it there r _ _ a a _ 1 mv
        (comes p i n m K T Stands code it there r _ a _ 1 mv2 (omega arith))) (omega arith) placed.result ma
        (goes_on p i n m K T Stands code it there r (of_frame ∷ l) b here if_not k (t + 1) (20 + w) left f2 x a vars
        (word_of u ∷ zs) keeps ft
        (with_operands p n it r here j (of_frame ∷ l) f (Truth u ∷ vs) f.todo x vars vals (word_of u ∷ zs) placed
        (record { are = (record { is = refl }, ws) })) ma)

    jumped : (s0 : ℕ) (y : Instr) (vars vals zs a : List ℤ) (keeps u : Bool) (g : machine.Frame) →
        vals ≡ word_of u ∷ zs → move i m (active code s0 vars (word_of u ∷ zs) keeps) a ≡ Goes g a [] → move i m
        (active code s0 vars vals keeps) a ≡ Goes g a []
    jumped s0 y vars vals zs a keeps u g e mv = ap (λ (l : List ℤ). move i m (active code s0 vars l keeps) a) e ∙ mv

    at_truth : (a2 u : Bool) → and ≡ a2 → (f : Frame) (x : World) (a vars vals zs : List ℤ) (keeps : Bool)
        (vs : List Value) (d : Did) → f.todo ≡ k → PlacedOn p n it r here j f x vars vals → Matches p i n x a →
        vals ≡ word_of u ∷ zs → LaidOut p n x.firsts f.this l vs zs
        → decided f e vs x.heap u (same_truth a2 u) d → Raw (same_truth a2 u) x d vars vals keeps a
    at_truth true true ea f x a vars vals zs keeps vs d ft placed ma vz ws does =
        goes_right f x a vars vals zs keeps true vs d ft placed ma ws
        (jumped s (ins.Jfalse t) vars vals zs a keeps true _ vz
        (moved p i n m K T Stands code it there r s (ins.Jfalse t) vars (word_of true ∷ zs) a keeps
        (first ∙ ap (λ (b : Bool). Some (deciding b t)) ea))) does
    at_truth true false ea f x a vars vals zs keeps vs d ft placed ma vz ws does =
        goes_left f x a vars vals zs keeps false vs d ft placed ma ws
        (jumped s (ins.Jfalse t) vars vals zs a keeps false _ vz
        (moved p i n m K T Stands code it there r s (ins.Jfalse t) vars (word_of false ∷ zs) a keeps
        (first ∙ ap (λ (b : Bool). Some (deciding b t)) ea)))
        (moved p i n m K T Stands code it there r t (ins.Bool 0) vars zs a keeps
        (second ∙ ap (λ (b : Bool). Some (decided_by b)) ea)) does
    at_truth false true ea f x a vars vals zs keeps vs d ft placed ma vz ws does =
        goes_left f x a vars vals zs keeps true vs d ft placed ma ws
        (jumped s (ins.Jtrue t) vars vals zs a keeps true _ vz
        (moved p i n m K T Stands code it there r s (ins.Jtrue t) vars (word_of true ∷ zs) a keeps
        (first ∙ ap (λ (b : Bool). Some (deciding b t)) ea)))
        (moved p i n m K T Stands code it there r t (ins.Bool 1) vars zs a keeps
        (second ∙ ap (λ (b : Bool). Some (decided_by b)) ea)) does
    at_truth false false ea f x a vars vals zs keeps vs d ft placed ma vz ws does =
        goes_right f x a vars vals zs keeps false vs d ft placed ma ws
        (jumped s (ins.Jtrue t) vars vals zs a keeps false _ vz
        (moved p i n m K T Stands code it there r s (ins.Jtrue t) vars (word_of false ∷ zs) a keeps
        (first ∙ ap (λ (b : Bool). Some (deciding b t)) ea))) does
