-- Numbers and truth values are printed.
use Rattle.std.proofs.Common.{◌≡◌, ℕ, suc, ◌+◌, List, [], ◌∷◌, length, Some, Bool, sym, ap, ◌∙◌, subst}
use Rattle.std.specs.Prelude.{ℤ, slice_get}
use Rattle.jn_steps.specs.Steps.{Goes, Faults}
use Rattle.jn_steps.specs.Numbers.{number_line, truth_line}
use Rattle.jn_base.specs.declared.tree.Program.{Program}
use Rattle.jn_code.specs.declared.instr.Instr.{Instr}
use Rattle.jn_code.specs.declared.image.Image.{Image}
use Rattle.jn_code.specs.declared.image.Code.{Code}
use Rattle.jn_code.specs.Machine.{obey, word_of, truth}
use Rattle.jn_code.specs.Machine as machine
use Rattle.jn_sem.specs.declared.outcome.Why.{Why}
use Rattle.jn_sem.specs.declared.outcome.Why.TheVariants as why
use Rattle.jn_sem.specs.Values.{Value, Number, Truth, Null, Reference}
use Rattle.jn_sem.specs.Terms.{Site}
use Rattle.jn_sem.specs.Acts.{Print, Todo, todo}
use Rattle.jn_sem.specs.State.{Heap, Frame}
use Rattle.jn_sem.specs.Does.{Stuck, Did, prints_value}
use Rattle.jn_agree.specs.Naming.{Naming, IsWord, WordsAre}
use Rattle.jn_agree.specs.Matches.{World, Matches}
use Rattle.jn_agree.specs.Follows.{Knows, blank, Follows}
use Rattle.jn_agree.specs.Places.{At}
use Rattle.jn_node_laws.specs.Cont.{Placed, active, LeadsTo}
use Rattle.jn_node_laws.specs.Facts.{PrintsValue, PrintsWell}
use Rattle.jn_node_laws.proofs.Ways.{w_first, one_word}
use Rattle.jn_node_laws.proofs.Nodes.{Go, Next, node, stuck}
use Rattle.jn_node_laws.proofs.Simple.{changes, truth_word}

module _ (p : Program) (i : Image) (n : Naming) (m : ℕ) (K : Knows) (T : Type 0) (Stands : T → Frame → Heap → Type 0)
    (code : ℕ) (it : Code) (there : slice_get i.codes code ≡ Some it) (r : Frame) where
  pub print : (b : ℕ) (here : Site) (u t : T) (x : Instr) (k : List Todo) (s w : ℕ) → At it.instrs s x
      → ((f : Frame) (h : Heap) → Stands u f h → PrintsWell x h f.vals)
      → LeadsTo p i n m K T Stands code it r here Print k u t → Go p i n m K T Stands code it there r b here t k (s + 1)
      (20 + w)
      → Go p i n m K T Stands code it there r (suc b) here u (todo (length here.vars) Print ∷ k) s w
  print b here u t x k s w at facts leads h =
      node p i n m K T Stands code it there r [] b here u t Print k s w leads (PrintsWell x) facts
      (λ f y a vars vals keeps ft placed ma fact d step.
      let g = active code s vars vals keeps in
      let Q : Did → Type 0 = λ d. Follows p i n m blank
      (Next p i n m K T Stands code it there r here t b) r d y g a w in
      let no_way : (d : Did) (w : Why) → d ≡ Faults (Stuck w) → Q d = λ d2 why e.
      stuck p i n m K T Stands code it there r b here t why y g a w d2 e in
      w_first Q no_way f.vals _ d step (λ v us vus step.
      let rw = one_word p n y.firsts v us f.vals vals vus placed.operands.are in
      of_value f y a vars vals keeps d v us rw.word rw.rest ft placed ma rw.is rw.first rw.others (fact v us vus) step))
    where
      -- what is printed is the line of the value
      shows : (f : Frame) (y : World) (a vars vals : List ℤ) (keeps : Bool) (d : Did) (us : List Value) (z : ℤ)
          (zs : List ℤ) (bytes : List ℕ) → f.todo ≡ k
          → Placed p n it r here f y vars vals → Matches p i n y a → vals ≡ z ∷ zs → WordsAre p n y.firsts us zs
          → obey i m x (active code s vars (z ∷ zs) keeps) a ≡ Goes (active code (s + 1) vars zs keeps) a bytes
          → d ≡ Goes (record f { vals = us }) y.heap bytes
          → Follows p i n m blank (Next p i n m K T Stands code it there r here t b) r d y
          (active code s vars vals keeps) a w
      shows f y a vars vals keeps d us z zs bytes ft placed ma e ws obeys step =
          changes p i n m K T Stands code it there r [] [] b here t k s w x at h f y a vars vals keeps ft placed ma
          us zs
          bytes (record { are = ws })
          (subst (λ (vals : List ℤ). obey i m x (active code s vars vals keeps) a ≡ Goes
          (active code (s + 1) vars zs keeps) a bytes) (sym e) obeys) d step

      of_value : (f : Frame) (y : World) (a vars vals : List ℤ) (keeps : Bool) (d : Did) (v : Value) (us : List Value)
          (z : ℤ) (zs : List ℤ) → f.todo ≡ k
          → Placed p n it r here f y vars vals → Matches p i n y a → vals ≡ z ∷ zs → IsWord p n y.firsts v z →
          WordsAre p n y.firsts us zs
          → PrintsValue x v → prints_value f v us y.heap d
          → Follows p i n m blank (Next p i n m K T Stands code it there r here t b) r d y
          (active code s vars vals keeps) a w
      of_value f y a vars vals keeps d (Number c) us z zs ft placed ma e word ws kind step =
          shows f y a vars vals keeps d us z zs (number_line c) ft placed ma e ws
          (ap (λ (x : Instr). obey i m x (active code s vars (z ∷ zs) keeps) a) kind
          ∙ ap (λ (c : ℤ). let d : machine.Did = Goes (active code (s + 1) vars zs keeps) a (number_line c) in
          d) word.is) step
      of_value f y a vars vals keeps d (Truth c) us z zs ft placed ma e word ws kind step =
          shows f y a vars vals keeps d us z zs (truth_line c) ft placed ma e ws
          (ap (λ (x : Instr). obey i m x (active code s vars (z ∷ zs) keeps) a) kind
          ∙ ap (λ (c : Bool). let d : machine.Did = Goes (active code (s + 1) vars zs keeps) a (truth_line c) in d)
          (ap truth word.is ∙ truth_word c)) step
      of_value f y a vars vals keeps d Null us z zs ft placed ma e word ws kind step =
          stuck p i n m K T Stands code it there r b here t why.Kind y (active code s vars vals keeps) a w d step
      of_value f y a vars vals keeps d (Reference o V) us z zs ft placed ma e word ws kind step =
          stuck p i n m K T Stands code it there r b here t why.Kind y (active code s vars vals keeps) a w d step
