-- Loops, by the number of charges; jumps that were paid for.
use Rattle.std.proofs.Common.{◌≡◌, ℕ, zero, suc, ◌+◌, ◌≤◌, List, [], ◌∷◌, length, Some, refl, Bool, true, false, sym, ap, ◌∙◌, subst, arith}
use Rattle.std.specs.Prelude.{ℤ, slice_get}
use Rattle.jn_steps.specs.Steps.{Faults}
use Rattle.jn_base.specs.declared.tree.Program.{Program}
use Rattle.jn_base.specs.declared.tree.Expr.{Expr}
use Rattle.jn_base.specs.declared.tree.Stmt.{Stmt}
use Rattle.jn_code.specs.declared.instr.Instr.TheVariants as ins
use Rattle.jn_code.specs.declared.image.Image.{Image}
use Rattle.jn_code.specs.declared.image.Code.{Code}
use Rattle.jn_code.specs.Machine.{obey, word_of}
use Rattle.jn_sem.specs.declared.outcome.Why.{Why}
use Rattle.jn_sem.specs.Values.{Value, Truth}
use Rattle.jn_sem.specs.Terms.{Site}
use Rattle.jn_sem.specs.Acts.{Repeat, Todo, todo, acts, stmts_acts}
use Rattle.jn_sem.specs.State.{Heap, Frame}
use Rattle.jn_sem.specs.Run.{acting}
use Rattle.jn_sem.specs.Does.{Stuck, Did, goes_with, repeated}
use Rattle.jn_agree.specs.Naming.{Naming, IsWord, WordsAre}
use Rattle.jn_agree.specs.Matches.{World, Matches}
use Rattle.jn_agree.specs.Follows.{Knows, blank, Follows, LocalAt, Local}
use Rattle.jn_node_laws.specs.Cont.{Placed, active, trimmed, Cont, LeadsByTruth, either}
use Rattle.jn_agree.specs.Places.{At}
use Rattle.jn_link_laws.proofs.Link.{fewer}
use Rattle.jn_node_laws.proofs.Ways.{w_first, w_truth, one_word}
use Rattle.jn_node_laws.proofs.Quiet.{later, spare}
use Rattle.jn_node_laws.proofs.Nodes.{none_some, typed, Next, moved, goes_on, goes_in, comes, with_operands, wide}

module _ (p : Program) (i : Image) (n : Naming) (m : ℕ) (K : Knows) (T : Type 0) (Stands : T → Frame → Heap → Type 0)
    (code : ℕ) (it : Code) (there : slice_get i.codes code ≡ Some it) (r : Frame) where
  abbrev Go : ℕ → Site → T → List Todo → ℕ → ℕ → Type 0
  Go = Cont p i n m K T Stands code it r

  pub less : (b : ℕ) (here : Site) (t : T) (k : List Todo) (s w : ℕ) → Go (suc b) here t k s w → Go b here t k s w
  less b here t k s w h = record {
    by = λ f x a vars vals keeps e placed ma st. fewer p i n m 0 K r b f.todo f x
        (active code s vars vals keeps) a w (h.by f x a vars vals keeps e placed ma st);
  }

  pub more : (b : ℕ) (here : Site) (t : T) (k : List Todo) (s v w : ℕ) → v ≤ w → Go b here t k s v → Go b here t k s w
  more b here t k s v w le h = record {
    by = λ f x a vars vals keeps e placed ma st. spare p i n m K r b f.todo f x
        (active code s vars vals keeps) a v w le (h.by f x a vars vals keeps e placed ma st);
  }

  -- a jump that was paid for
  pub jump : (b : ℕ) (here : Site) (u : T) (k : List Todo) (s t w : ℕ) → At it.instrs s (ins.Jump t) →
      Go b here u k t w → Go b here u k s (suc w)
  jump b here u k s t w at h = record {
    by = λ f x a vars vals keeps e placed ma st.
        later p i n m K r b f.todo f x (active code s vars vals keeps) (active code t vars vals keeps) a w
        (moved p i n m K T Stands code it there r s (ins.Jump t) vars vals a keeps at)
        (h.by f x a vars vals keeps e placed ma st);
  }

  pub idle : (here : Site) (u : T) (t : Todo) (k : List Todo) (s w : ℕ) → Go 0 here u (t ∷ k) s w
  idle here u t k s w = record {
    by = λ f x a vars vals keeps e placed ma st. subst
        (λ (todo : List Todo). LocalAt p i n m K r 0 todo f x (active code s vars vals keeps) a w) (sym e) tt;
  }

  pub repeat : (b : ℕ) (here : Site) (u0 if_so if_not : T) (path : ℕ) (e : Expr) (body : List Stmt) (k : List Todo)
      (s t w : ℕ) → At it.instrs s (ins.Jfalse t)
      → LeadsByTruth p i n m K T Stands code it r here (Repeat path e body) k u0 (either if_so if_not)
      → Go b here if_so (stmts_acts (length here.vars) path body
      (acts (length here.vars) e (todo (length here.vars) (Repeat path e body) ∷ k))) (s + 1) (20 + w) →
      Go b here if_not k t (20 + w)
      → Go (suc b) here u0 (todo (length here.vars) (Repeat path e body) ∷ k) s w
  repeat b here u0 if_so if_not path e body k s t w at leads again past = record {
    by = λ f x a lv zs kp ft placed ma st.
        subst (λ (todo : List Todo). LocalAt p i n m K r (suc b) todo f x (active code s lv zs kp) a w) (sym ft)
        (λ d step0.
        let Q : Did → Type 0 = λ d. Follows p i n m K (Local p i n m K r b) r d x (active code s lv zs kp) a w in
        let no_way : (d : Did) (why : Why) → d ≡ Faults (Stuck why) → Q d = λ d2 why e. subst Q (sym e)
        (λ h is. absurd (none_some is)) in
        let f1 : Frame = acting (todo (length here.vars) (Repeat path e body)) k f in
        w_first Q no_way f.vals _ d step0 (λ v us vus step.
        let rw = one_word p n x.firsts v us f.vals zs vus placed.operands.are in
        w_truth Q no_way v _ d step (λ u is step.
        let word : IsWord p n x.firsts (Truth u) rw.word = subst
        (λ (v : Value). IsWord p n x.firsts v rw.word) is rw.first in
        typed p i n m K T Stands code it there r b here (either if_so if_not u) x (active code s lv zs kp) a w d
        (leads f x.heap d u us st (vus ∙ ap (λ (z : Value). z ∷ us) is) step0)
        (at_truth u f1 x a lv zs rw.rest kp us d refl
        (with_operands p n it r here [] [] (trimmed here f) f.vals k x lv zs zs placed placed.operands) ma
        (rw.is ∙ ap (λ (z : ℤ). z ∷ rw.rest) word.is) rw.others step))));
  }
    where
      at_truth : (u : Bool) (f : Frame) (x : World) (a lv zs below : List ℤ) (kp : Bool) (us : List Value) (d : Did) →
          f.todo ≡ k → Placed p n it r here f x lv zs → Matches p i n x a → zs ≡ word_of u ∷ below →
          WordsAre p n x.firsts us below → goes_with f us (repeated f path e body u) x.heap d
          → Follows p i n m blank (Next p i n m K T Stands code it there r here (either if_so if_not u) b) r d x
          (active code s lv zs kp) a w
      at_truth true f x a lv zs below kp us d ft placed ma zw ws step =
          let f2 : Frame = record f { vals = us; todo = repeated f path e body true } in
          let same : f2.todo ≡ stmts_acts (length here.vars) path body
          (acts (length here.vars) e (todo (length here.vars) (Repeat path e body) ∷ k)) = ap
          (λ (l : ℕ). stmts_acts l path body (acts l e (todo l (Repeat path e body) ∷ f.todo)))
          (wide p i n m K T Stands code it there r here [] f x lv zs placed) ∙ ap
          (λ (k : List Todo). stmts_acts (length here.vars) path body
          (acts (length here.vars) e (todo (length here.vars) (Repeat path e body) ∷ k))) ft in
          goes_in p i n m K T Stands code it there r b here if_so x f2 [] (active code s lv zs kp)
          (active code (s + 1) lv below kp) a 1 (20 + w) w d step
          (comes p i n m K T Stands code it there r _ a _ 1
          (moved p i n m K T Stands code it there r s (ins.Jfalse t) lv zs a kp at ∙ ap
          (λ (zs : List ℤ). obey i m (ins.Jfalse t) (active code s lv zs kp) a) zw) (omega arith))
          (omega arith) placed.result ma
          (goes_on p i n m K T Stands code it there r [] b here if_so _ (s + 1) (20 + w) again f2 x a lv below kp same
          (with_operands p n it r here [] [] f us f2.todo x lv zs below placed (record { are = ws })) ma)
      at_truth false f x a lv zs below kp us d ft placed ma zw ws step =
          let f2 : Frame = record f { vals = us } in
          goes_in p i n m K T Stands code it there r b here if_not x f2 [] (active code s lv zs kp)
          (active code t lv below kp) a 1 (20 + w) w d step
          (comes p i n m K T Stands code it there r _ a _ 1
          (moved p i n m K T Stands code it there r s (ins.Jfalse t) lv zs a kp at ∙ ap
          (λ (zs : List ℤ). obey i m (ins.Jfalse t) (active code s lv zs kp) a) zw) (omega arith))
          (omega arith) placed.result ma
          (goes_on p i n m K T Stands code it there r [] b here if_not k t (20 + w) past f2 x a lv below kp ft
          (with_operands p n it r here [] [] f us f.todo x lv zs below placed (record { are = ws })) ma)

  -- a whole loop, from what its condition and its body are
  pub loop : (here : Site) (u v if_so if_not : T) (path : ℕ) (e : Expr) (body : List Stmt) (k : List Todo)
      (s l o w : ℕ) → At it.instrs l (ins.Jfalse (o + 1)) → At it.instrs o (ins.Jump s)
      → LeadsByTruth p i n m K T Stands code it r here (Repeat path e body) k v (either if_so if_not)
      → ((b : ℕ) (k : List Todo) (w : ℕ) → Go b here v k l w → Go b here u (acts (length here.vars) e k) s w)
      → ((b : ℕ) (k : List Todo) (w : ℕ) → Go b here u k o w → Go b here if_so
      (stmts_acts (length here.vars) path body k) (l + 1) w)
      → (b : ℕ) → Go b here if_not k (o + 1) w → Go b here u
      (acts (length here.vars) e (todo (length here.vars) (Repeat path e body) ∷ k)) s w
  loop here u v if_so if_not path e body k s l o w at back leads test inner zero h = test 0 _ w
      (idle here v (todo (length here.vars) (Repeat path e body)) k l w)
  loop here u v if_so if_not path e body k s l o w at back leads test inner (suc b) h =
      let past = less b here if_not k (o + 1) w h in
      let again = loop here u v if_so if_not path e body k s l o w at back leads test inner b past in
      test (suc b) _ w (repeat b here v if_so if_not path e body k l (o + 1) w at leads
      (more b here if_so _ (l + 1) (suc w) (20 + w) (omega arith)
      (inner b _ (suc w) (jump b here u _ o s w back again)))
      (more b here if_not k (o + 1) w (20 + w) (omega arith) past))
