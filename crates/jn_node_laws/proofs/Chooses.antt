-- `if`: by the truth value that is had, one or the other.
use Rattle.std.proofs.Common.{◌≡◌, ℕ, suc, ◌+◌, List, [], ◌∷◌, length, Some, Bool, true, false, refl, sym, ap, ◌∙◌, subst, arith}
use Rattle.std.specs.Prelude.{ℤ, slice_get}
use Rattle.jn_steps.specs.Steps.{Goes, Faults}
use Rattle.jn_base.specs.declared.tree.Stmt.{Stmt}
use Rattle.jn_base.specs.declared.tree.Program.{Program}
use Rattle.jn_code.specs.declared.instr.Instr.TheVariants as ins
use Rattle.jn_code.specs.declared.image.Image.{Image}
use Rattle.jn_code.specs.declared.image.Code.{Code}
use Rattle.jn_code.specs.Machine.{move, word_of}
use Rattle.jn_sem.specs.declared.outcome.Why.{Why}
use Rattle.jn_sem.specs.Values.{Value, Truth}
use Rattle.jn_sem.specs.Terms.{Site}
use Rattle.jn_sem.specs.Acts.{Choose, Todo, todo, stmts_acts, path_behind}
use Rattle.jn_sem.specs.State.{Heap, Frame}
use Rattle.jn_sem.specs.Does.{Stuck, Did, chosen, goes_with}
use Rattle.jn_sem.specs.Run.{acting}
use Rattle.jn_agree.specs.Naming.{Naming, IsWord, WordsAre}
use Rattle.jn_agree.specs.Matches.{World, Matches}
use Rattle.jn_agree.specs.Follows.{Knows, blank, Follows, LocalAt, Local}
use Rattle.jn_node_laws.specs.Cont.{Placed, trimmed, active, Cont, LeadsByTruth, either}
use Rattle.jn_agree.specs.Places.{At}
use Rattle.jn_node_laws.proofs.Ways.{w_first, w_truth, one_word}
use Rattle.jn_node_laws.proofs.Nodes.{none_some, typed, Next, moved, goes_on, goes_in, comes, with_operands, wide}

module _ (p : Program) (i : Image) (n : Naming) (m : ℕ) (K : Knows) (T : Type 0) (Stands : T → Frame → Heap → Type 0)
    (code : ℕ) (it : Code) (there : slice_get i.codes code ≡ Some it) (r : Frame) where
  pub choose : (b : ℕ) (here : Site) (u if_so if_not : T) (path : ℕ) (one other : List Stmt) (k : List Todo)
      (s t w : ℕ) → At it.instrs s (ins.Jfalse t)
      → LeadsByTruth p i n m K T Stands code it r here (Choose path one other) k u (either if_so if_not)
      → Cont p i n m K T Stands code it r b here if_so (stmts_acts (length here.vars) path one k) (s + 1) (20 + w)
      → Cont p i n m K T Stands code it r b here if_not
      (stmts_acts (length here.vars) (path_behind one path) other k) t (20 + w)
      → Cont p i n m K T Stands code it r (suc b) here u (todo (length here.vars) (Choose path one other) ∷ k) s w
  choose b here u0 if_so if_not path one other k s t w at leads so not_so = record {
    by = λ f x a vars vals keeps ft placed ma st.
        subst (λ (todo : List Todo). LocalAt p i n m K r (suc b) todo f x (active code s vars vals keeps) a w) (sym ft)
        (λ d does.
        let Q : Did → Type 0 = λ d. Follows p i n m K (Local p i n m K r b) r d x (active code s vars vals keeps) a w in
        let no_way : (d : Did) (w : Why) → d ≡ Faults (Stuck w) → Q d = λ d why e. subst Q (sym e)
        (λ h is. absurd (none_some is)) in
        let f1 : Frame = acting (todo (length here.vars) (Choose path one other)) k f in
        w_first Q no_way f.vals _ d does (λ v us vus step.
        let rw = one_word p n x.firsts v us f.vals vals vus placed.operands.are in
        w_truth Q no_way v _ d step (λ u is step.
        let word : IsWord p n x.firsts (Truth u) rw.word = subst
        (λ (v : Value). IsWord p n x.firsts v rw.word) is rw.first in
        typed p i n m K T Stands code it there r b here (either if_so if_not u) x
        (active code s vars vals keeps) a w d
        (leads f x.heap d u us st (vus ∙ ap (λ (z : Value). z ∷ us) is) does)
        (at_truth u f1 x a vars vals rw.rest keeps us d refl
        (with_operands p n it r here [] [] (trimmed here f) f.vals k x vars vals vals placed placed.operands) ma
        (rw.is ∙ ap (λ (z : ℤ). z ∷ rw.rest) word.is) rw.others step))));
  } where
    -- it goes on at one place or the other
    goes_there : (ty : T) (l : List Todo) (place : ℕ) →
        Cont p i n m K T Stands code it r b here ty l place (20 + w) → (f f2 : Frame) (x : World)
        (a vars vals zs : List ℤ) (keeps : Bool) (vs : List Value) (d : Did) →
        Placed p n it r here f x vars vals → Matches p i n x a → WordsAre p n x.firsts vs zs
        → move i m (active code s vars vals keeps) a ≡ Goes (active code place vars zs keeps) a []
        → f2 ≡ record f { vals = vs; todo = l } → d ≡ Goes f2 x.heap []
        → Follows p i n m blank (Next p i n m K T Stands code it there r here ty b) r d x
        (active code s vars vals keeps) a w
    goes_there ty l place on f f2 x a vars vals zs keeps vs d placed ma ws mv is does =
        let f3 : Frame = record f { vals = vs; todo = l } in
        goes_in p i n m K T Stands code it there r b here ty x f3 [] (active code s vars vals keeps)
        (active code place vars zs keeps) a 1 (20 + w) w d
        (does ∙ ap (λ (f : Frame). let d : Did = Goes f x.heap [] in d) is)
        (comes p i n m K T Stands code it there r _ a _ 1 mv (omega arith)) (omega arith) placed.result ma
        (goes_on p i n m K T Stands code it there r [] b here ty l place (20 + w) on f3 x a vars zs keeps refl
        (with_operands p n it r here [] [] f vs l x vars vals zs placed (record { are = ws })) ma)

    at_truth : (u : Bool) → (f : Frame) (x : World) (a vars vals zs : List ℤ) (keeps : Bool)
        (vs : List Value) (d : Did) → f.todo ≡ k → Placed p n it r here f x vars vals → Matches p i n x a →
        vals ≡ word_of u ∷ zs → WordsAre p n x.firsts vs zs
        → goes_with f vs (chosen f path one other u) x.heap d → Follows p i n m blank
        (Next p i n m K T Stands code it there r here (either if_so if_not u) b) r d x
        (active code s vars vals keeps) a w
    at_truth true f x a vars vals zs keeps vs d ft placed ma vz ws does =
        goes_there if_so (stmts_acts (length here.vars) path one k) (s + 1) so f
        (record f { vals = vs; todo = chosen f path one other true }) x a vars vals zs keeps vs d placed ma ws
        (ap (λ (l : List ℤ). move i m (active code s vars l keeps) a) vz
        ∙ moved p i n m K T Stands code it there r s (ins.Jfalse t) vars (word_of true ∷ zs) a keeps at)
        (ap (λ (l : List Todo). record f { vals = vs; todo = l })
        (ap (λ (l : ℕ). stmts_acts l path one f.todo)
        (wide p i n m K T Stands code it there r here [] f x vars vals placed)
        ∙ ap (λ (k : List Todo). stmts_acts (length here.vars) path one k) ft)) does
    at_truth false f x a vars vals zs keeps vs d ft placed ma vz ws does =
        goes_there if_not (stmts_acts (length here.vars) (path_behind one path) other k) t not_so f
        (record f { vals = vs; todo = chosen f path one other false }) x a vars vals zs keeps vs d placed ma ws
        (ap (λ (l : List ℤ). move i m (active code s vars l keeps) a) vz
        ∙ moved p i n m K T Stands code it there r s (ins.Jfalse t) vars (word_of false ∷ zs) a keeps at)
        (ap (λ (l : List Todo). record f { vals = vs; todo = l })
        (ap (λ (l : ℕ). stmts_acts l (path_behind one path) other f.todo)
        (wide p i n m K T Stands code it there r here [] f x vars vals placed)
        ∙ ap (λ (k : List Todo). stmts_acts (length here.vars) (path_behind one path) other k) ft)) does
