-- An accepted program is never Stuck, where its bodies and loops fit.
use Rattle.std.proofs.Common.{List}
use Rattle.jn_base.specs.declared.tree.Program.{Program}
use Rattle.jn_sem.specs.Acts.{Todo}
use Rattle.jn_sem.specs.State.{Heap, Frame}
use Rattle.jn_sound.specs.Sound.{Works}
use Rattle.jn_sound.specs.Needs.{SoundFrom, ChargesKeepSound, ActsLeadOn}
use Rattle.jn_laws.proofs.PlacesAside.{programs_within_limits}
use Rattle.jn_sound.proofs.Laws.{Laws}
use Rattle.jn_sound.proofs.Accepted.{laws}
use Rattle.jn_sound.proofs.Start.{start_fits}
use Rattle.jn_sound.specs.Sound.{Stands}
use Rattle.jn_sound.proofs.Frames.{ActsFit, never_stuck, start_sound, charge_sound}
use Rattle.jn_sound.proofs.Steps.{takes_did}
use Rattle.jn_sound.proofs.AllActs.{acts_fit}

stands_of : (p : Program) (h : Heap) (f : Frame) (k : List Todo) (w : Works p h f k)
    → Stands p h f w.header w.vars w.scope w.ops w.fresh
stands_of p h f k w =
    record {
      is_header = w.is_header;
      params = w.params;
      all_params = w.all_params;
      in_scope = w.in_scope;
      operands =
          w.operands;
    }

pub all_acts : (p : Program) → Laws p → ActsFit p
all_acts p n m h f t k d hf w g =
    (acts_fit p n m h f w.header t k w.vars w.scope w.ops w.fresh hf w.fits (stands_of p h f _ w)).each d g

pub sound : SoundFrom
sound p i ok n = let l = laws p (programs_within_limits p i) ok n in never_stuck p l (all_acts p l) (start_fits p l)

pub charges_keep : ChargesKeepSound
charges_keep p i ok n =
    let l = laws p (programs_within_limits p i) ok n in
    record { first = start_sound p; next = charge_sound p l (all_acts p l) (start_fits p l) }

pub lead_on : ActsLeadOn
lead_on p i ok n m h f x vs us a k t z c hf at d =
    (takes_did (laws p (programs_within_limits p i) ok n) m k c hf at).each d
