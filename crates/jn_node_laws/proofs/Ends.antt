-- A body returns, with a result or without.
use Rattle.std.proofs.Common.{◌≡◌, ℕ, suc, ◌+◌, ◌≤◌, List, [], ◌∷◌, length, Bool, true, false, Option, Some, None, refl, sym, ap, ◌∙◌, subst, arith}
use Rattle.std.specs.Prelude.{ℤ, slice_get}
use Rattle.jn_steps.specs.Steps.{Leaves, on_one}
use Rattle.jn_base.specs.declared.tree.TypeTerm.{TypeTerm}
use Rattle.jn_base.specs.declared.tree.Program.{Program}
use Rattle.jn_base.specs.declared.types.Ty.{Ty}
use Rattle.jn_code.specs.declared.instr.Instr.TheVariants as ins
use Rattle.jn_code.specs.declared.image.Image.{Image}
use Rattle.jn_code.specs.declared.image.Code.{Code}
use Rattle.jn_code.specs.Machine.{move}
use Rattle.jn_code.specs.Machine as machine
use Rattle.jn_sem.specs.declared.outcome.Why.TheVariants as why
use Rattle.jn_sem.specs.Values.{Value}
use Rattle.jn_sem.specs.Terms.{Site, TypeIs}
use Rattle.jn_sem.specs.Asks.{It, holds, fails}
use Rattle.jn_sem.specs.Acts.{Return, Todo, todo}
use Rattle.jn_sem.specs.State.{Heap, Frame, result_site}
use Rattle.jn_sem.specs.Does.{Did, on_typed, returns, returns_none}
use Rattle.jn_agree.specs.Naming.{Naming, IsWord}
use Rattle.jn_agree.specs.Matches.{World, Matches}
use Rattle.jn_agree.specs.Follows.{Knows, blank, HandsBack, Follows, LocalAt, rate}
use Rattle.jn_agree.specs.Places.{At}
use Rattle.jn_link_laws.proofs.Link.{onward_itself}
use Rattle.jn_node_laws.specs.Cont.{Placed, active, LeadsTo}
use Rattle.jn_node_laws.proofs.Ways.{w_first, w_only, one_word}
use Rattle.jn_node_laws.proofs.Nodes.{Go, Next, node, moved, stuck, comes}
use Rattle.jn_node_laws.proofs.Simple.{no_fact}

module _ (p : Program) (i : Image) (n : Naming) (m : ℕ) (K : Knows) (T : Type 0) (Stands : T → Frame → Heap → Type 0)
    (code : ℕ) (it : Code) (there : slice_get i.codes code ≡ Some it) (r : Frame) where
  abbrev Ends : ℕ → Site → T → ℕ → ℕ → Did → World → (vars vals : List ℤ) → Bool → List ℤ → Type 0
  Ends b here t s w d y vars vals keeps a = Follows p i n m blank
      (Next p i n m K T Stands code it there r here t b) r d y (active code s vars vals keeps) a w

  -- RETV
  pub return_value : (b : ℕ) (here : Site) (u t : T) (k : List Todo) (s w : ℕ) → At it.instrs s ins.Retv
      → LeadsTo p i n m K T Stands code it r here (Return true) k u t
      → Go p i n m K T Stands code it there r (suc b) here u (todo (length here.vars) (Return true) ∷ k) s w
  return_value b here u t k s w at leads =
      node p i n m K T Stands code it there r [] b here u t (Return true) k s w leads
      (no_fact p i n m K T Stands code it there r) (λ f h st. tt)
      (λ f y a vars vals keeps ft placed ma fact d step.
      w_first (λ d. Ends b here t s w d y vars vals keeps a)
      (λ d why e. stuck p i n m K T Stands code it there r b here t why y (active code s vars vals keeps) a w d e)
      f.vals _ d step (λ v us vus step.
      let rw = one_word p n y.firsts v us f.vals vals vus placed.operands.are in
      at_result f y a vars vals keeps rw.rest rw.word v d placed ma rw.is rw.first f.method.result refl step))
    where
      at_result : (f : Frame) (y : World) (a vars vals : List ℤ) (keeps : Bool) (zs : List ℤ) (z : ℤ) (v : Value)
          (d : Did) → Placed p n it r here f y vars vals → Matches p i n y a → vals ≡ z ∷ zs → IsWord p n y.firsts v z
          → (o : Option TypeTerm) → f.method.result ≡ o → returns p f y.heap o v d
          → Ends b here t s w d y vars vals keeps a
      at_result f y a vars vals keeps zs z v d placed ma vs is None e step =
          stuck p i n m K T Stands code it there r b here t why.Kind y (active code s vars vals keeps) a w d step
      at_result f y a vars vals keeps zs z v d placed ma vs is (Some o) e step =
          w_only (λ d. Ends b here t s w d y vars vals keeps a)
          (λ d why e. stuck p i n m K T Stands code it there r b here t why y (active code s vars vals keeps) a w d e)
          (TypeIs p (result_site f) o) _ d step (λ c only step. tested c step)
        where
          tested : (c : Ty) → on_typed p f y.heap c v (It (Leaves (Some v) y.heap)) d →
              Ends b here t s w d y vars vals keeps a
          tested c (fails not_in step) =
              stuck p i n m K T Stands code it there r b here t why.Foreign y (active code s vars vals keeps) a w d step
          tested c (holds is_in dd) =
              subst (λ (d : Did). Ends b here t s w d y vars vals keeps a) (sym dd)
              (record {
                firsts = y.firsts;
                arena = a;
                word = Some z;
                comes = comes p i n m K T Stands code it there r (active code s vars vals keeps) a _ (rate + w)
                    (moved p i n m K T Stands code it there r s ins.Retv vars vals a keeps at
                    ∙ ap (λ (l : List ℤ). on_one machine.Stuck l
                    (λ z vs. let d : machine.Did = Leaves (Some z) a in d)) vs) (omega arith);
                onward = onward_itself y;
                matches = ma;
                hands = subst (λ (o : Option TypeTerm). HandsBack p n y o (Some v) (Some z)) (sym e ∙ placed.result) is;
                gives = tt;
              })

  -- RET
  pub return_nothing : (b : ℕ) (here : Site) (u t : T) (k : List Todo) (s w : ℕ) → At it.instrs s ins.Ret
      → LeadsTo p i n m K T Stands code it r here (Return false) k u t
      → Go p i n m K T Stands code it there r (suc b) here u (todo (length here.vars) (Return false) ∷ k) s w
  return_nothing b here u t k s w at leads =
      node p i n m K T Stands code it there r [] b here u t (Return false) k s w leads
      (no_fact p i n m K T Stands code it there r) (λ f h st. tt)
      (λ f y a vars vals keeps ft placed ma fact d step.
      at_result f y a vars vals keeps d placed ma f.method.result refl step)
    where
      at_result : (f : Frame) (y : World) (a vars vals : List ℤ) (keeps : Bool) (d : Did) →
          Placed p n it r here f y vars vals → Matches p i n y a
          → (o : Option TypeTerm) → f.method.result ≡ o → returns_none o y.heap d
          → Ends b here t s w d y vars vals keeps a
      at_result f y a vars vals keeps d placed ma (Some o) e step =
          stuck p i n m K T Stands code it there r b here t why.Kind y (active code s vars vals keeps) a w d step
      at_result f y a vars vals keeps d placed ma None e step =
          subst (λ (d : Did). Ends b here t s w d y vars vals keeps a) (sym step)
          (record {
            firsts = y.firsts;
            arena = a;
            word = None;
            comes = comes p i n m K T Stands code it there r (active code s vars vals keeps) a _ (rate + w)
                (moved p i n m K T Stands code it there r s ins.Ret vars vals a keeps at) (omega arith);
            onward = onward_itself y;
            matches = ma;
            hands = subst (λ (o : Option TypeTerm). HandsBack p n y o None None) (sym e ∙ placed.result) tt;
            gives = tt;
          })

  -- RET behind the last statement
  pub end : (b : ℕ) (here : Site) (u : T) (s w : ℕ) → At it.instrs s ins.Ret → 1 ≤ w
      → ((f : Frame) (h : Heap) → Stands u f h → f.method.result ≡ None → K.gives r h None)
      → Go p i n m K T Stands code it there r b here u [] s w
  end b here u s w at le gives = record {
    by = λ f x a vars vals keeps e placed ma st.
        subst (λ (todo : List Todo). LocalAt p i n m K r b todo f x (active code s vars vals keeps) a w) (sym e)
        (λ none. record {
          comes = comes p i n m K T Stands code it there r (active code s vars vals keeps) a _ w
              (moved p i n m K T Stands code it there r s ins.Ret vars vals a keeps at) le;
          gives = gives f x.heap st none;
        });
  }
