-- One charge.
use Rattle.std.proofs.Common.{◌≡◌, ℕ, List, [], ◌∷◌, ◌++◌, length, take, Option, Some, None, Bool, true, false, refl, sym, ap, ◌∙◌, subst}
use Rattle.std.proofs.lemmas.List.{append-nil}
use Rattle.jn_steps.specs.Runs.{On}
use Rattle.jn_base.specs.declared.path.Path.{Path as ShownPath}
use Rattle.jn_base.specs.declared.names.Var.{Var}
use Rattle.jn_base.specs.declared.tree.Program.{Program}
use Rattle.jn_sem.specs.Acts.{Todo, todo}
use Rattle.jn_sem.specs.Values as sem
use Rattle.jn_sem.specs.State as state
use Rattle.jn_sem.specs.State.{Variable, with_values}
use Rattle.jn_sem.specs.Does as does
use Rattle.jn_sem.specs.Run as run
use Rattle.jn_sem.specs.Run.{Then, acting, charged}
use Rattle.jn_meaning.specs.declared.act.Act.{Act}
use Rattle.jn_meaning.specs.declared.did.Called.{Called}
use Rattle.jn_meaning.specs.declared.did.Did.{Did}
use Rattle.jn_meaning.specs.declared.did.Did.TheVariants as did
use Rattle.jn_meaning.specs.declared.did.Ending.{Ending}
use Rattle.jn_meaning.specs.declared.did.Line.{Line}
use Rattle.jn_meaning.specs.declared.frame.Frame.{Frame}
use Rattle.jn_meaning.specs.declared.heap.Heap.{Heap}
use Rattle.jn_meaning.specs.declared.locals.Locals.{Locals}
use Rattle.jn_meaning.specs.declared.value.Value.{Value}
use Rattle.jn_meaning.specs.declared.work.Due.{Due}
use Rattle.jn_meaning.specs.declared.work.Work.{Work}
use Rattle.jn_meaning.specs.Values.{value_of, values_of}
use Rattle.jn_meaning.specs.Heaps.{heap_of}
use Rattle.jn_meaning.specs.Frames.{frame_of, did_of, bytes_of}
use Rattle.jn_meaning.specs.Work.{act_of, todo_in, IsNext}
use Rattle.jn_meaning.specs.Creating.{Acted}
use Rattle.jn_meaning.specs.Running.{waiting_of, frames_of, then_of, Settles, Leaves, EntersAs, put, Proceeds, Charges}
use Rattle.jn_meaning.proofs.Variables.{values_take, with_take}

-- ---- what becomes of the run

module _ (p : Program) (known : List ShownPath) (depth : ℕ) (d : Did) (f : Frame) (fs : List Frame) (h : Heap) (g : Frame) (gs : List Frame) where
  abbrev To : Option Line → Option Ending → Did → Type 0
  To l o e = Proceeds p known depth e f fs h l o g gs

  pub goes_silent : (o : Option Ending) → d ≡ did.Went → Settles f fs o g gs → To None o d
  goes_silent o e k =
      subst (To None o) (sym e)
      (λ out. sym (k known (heap_of known h) out) ∙ ap (λ (bytes : List ℕ). run.settled (frames_of known f fs) (heap_of known h) bytes) (sym (append-nil out)))

  pub goes_printing : (l : Line) (o : Option Ending) → d ≡ did.Printed l → Settles f fs o g gs → To (Some l) o d
  goes_printing l o e k = subst (To (Some l) o) (sym e) (λ out. sym (k known (heap_of known h) (out ++ bytes_of l)))

  pub goes_in : (c : Called) (o : Option Ending) → d ≡ did.Entered c → EntersAs p known depth c f fs h o g gs → To None o d
  goes_in c o e k = subst (To None o) (sym e) k

  pub goes_out : (v : Option Value) (o : Option Ending) → d ≡ did.Left v → Leaves fs v o g gs → To None o d
  goes_out v o e k = subst (To None o) (sym e) (λ out. sym (k known (heap_of known h) out))

  pub goes_over : (o : Ending) → d ≡ did.Ended o → To None (Some o) d
  goes_over o e = subst (To None (Some o)) (sym e) (λ out. refl)

-- ---- the act

module _ (p : Program) (known : List ShownPath) (arena depth : ℕ) (f : Frame) (fs : List Frame) (h : Heap) where
  -- nothing is to be done
  pub charges_none : (w : Work) → (todo_in f.todo ≡ []) × (todo_in w ≡ []) → (o : Option Ending) (g : Frame) (gs : List Frame) → Settles (record f { todo = w }) fs o g gs
      → Charges p known arena depth f fs h None o g gs h
  charges_none w none o g gs k out =
      subst (λ (t : List Todo). charged p arena depth t (frame_of known f) (waiting_of known fs) (heap_of known h) out (then_of o (frames_of known g gs) (heap_of known h) out)) (sym none.0)
      (sym (k known (heap_of known h) out)
      ∙ ap (λ (t : List Todo). run.settled (record (frame_of known f) { todo = t } ∷ waiting_of known fs) (heap_of known h) out) (none.1 ∙ sym none.0))

  -- the frame without its next act
  without : (w : Work) (n : ℕ) (l : Locals) → l.vars.list ≡ take n f.locals.vars.list → l.values.items ≡ take n f.locals.values.items
      → with_values l.vars.list (values_of known l.values.items) ≡ take n (with_values f.locals.vars.list (values_of known f.locals.values.items))
  without w n l vars values =
      ap (λ (xs : List Var). with_values xs (values_of known l.values.items)) vars
      ∙ ap (λ (vs : List Value). with_values (take n f.locals.vars.list) (values_of known vs)) values
      ∙ ap (with_values (take n f.locals.vars.list)) (values_take known n f.locals.values.items)
      ∙ with_take n f.locals.vars.list (values_of known f.locals.values.items)

  pub charges_act : (w : Work) (due : Due) (l : Locals) → IsNext (todo_in f.todo) (Some due) (todo_in w) → l.vars.list ≡ take due.scope f.locals.vars.list
      → l.values.items ≡ take due.scope f.locals.values.items
      → (d : Did) (x : Frame) (i : Heap) → Acted p known arena (act_of due.act) (record f { todo = w; locals = l }) h d x i
      → (n : Option Line) (o : Option Ending) (g : Frame) (gs : List Frame) → Proceeds p known depth d x fs i n o g gs → Charges p known arena depth f fs h n o g gs i
  charges_act w due l next vars values d x i acted n o g gs k out =
      let t : Todo = todo due.scope (act_of due.act) in
      let rest : List Todo = todo_in w in
      let y : Then = then_of o (frames_of known g gs) (heap_of known i) (put out n) in
      subst (λ (work : List Todo). charged p arena depth work (frame_of known f) (waiting_of known fs) (heap_of known h) out y) (sym next)
      (record {
        did = did_of known d (frame_of known x) (heap_of known i);
        does = subst (λ (vs : List Variable). does.Does p arena (act_of due.act) (record (frame_of known f) { vars = vs; todo = rest }) (heap_of known h) (did_of known d (frame_of known x) (heap_of known i)))
            (without w due.scope l vars values) acted;
        proceeds = k out;
      })
