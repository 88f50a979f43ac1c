-- An act, by what it is.
use Rattle.std.proofs.Common.{◌≡◌, ℕ, List, sym, subst}
use Rattle.jn_base.specs.declared.path.Path.{Path as ShownPath}
use Rattle.jn_base.specs.declared.tree.Program.{Program}
use Rattle.jn_sem.specs.Acts as acts
use Rattle.jn_sem.specs.State as state
use Rattle.jn_sem.specs.Does as does
use Rattle.jn_table.specs.declared.table.Table.{Table}
use Rattle.jn_meaning.specs.declared.act.Act.{Act}
use Rattle.jn_meaning.specs.declared.did.Did.{Did}
use Rattle.jn_meaning.specs.declared.frame.Frame.{Frame}
use Rattle.jn_meaning.specs.declared.heap.Heap.{Heap}
use Rattle.jn_meaning.specs.declared.world.World.{World}
use Rattle.jn_meaning.specs.Heaps.{heap_of}
use Rattle.jn_meaning.specs.Frames.{frame_of, did_of, Plainly}
use Rattle.jn_meaning.specs.Work.{act_of}
use Rattle.jn_meaning.specs.Doing.{Done, Changed}
use Rattle.jn_meaning.specs.Creating.{Acted}

module _ (w : World) (t : Table) (arena : ℕ) (f : Frame) (h : Heap) (a : Act) (d : Did) (g : Frame) where
  abbrev p : Program
  p = w.program.now

  abbrev known : List ShownPath
  known = t.known.items

  abbrev Does : acts.Act → Heap → Type 0
  Does x i = Acted p known arena x f h d g i

  pub acted : (x : Act) (i : Heap) → a ≡ x → Does (act_of x) i → Does (act_of a) i
  acted x i e k = subst (λ (z : Act). Does (act_of z) i) (sym e) k

  pub acted_plainly : (x : Act) → a ≡ x → Plainly (act_of x) f d g → Does (act_of a) h
  acted_plainly x e k = acted x h e (k p arena known (heap_of known h))

  pub acted_done : (x : Act) → a ≡ x → Done w t h (act_of x) f d g → Does (act_of a) h
  acted_done x e k = acted x h e (k arena)

  pub acted_changed : (x : Act) (i : Heap) → a ≡ x → Changed w t (act_of x) f h d g i → Does (act_of a) i
  acted_changed x i e k = acted x i e (k arena)
