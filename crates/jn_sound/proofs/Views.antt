-- Views that agree on a type's paths.
use Rattle.jn_base.specs.declared.types.Ty.{Ty}
use Rattle.jn_base.specs.Atoms.{Atom, atoms_in, Among}
use Rattle.jn_sem.specs.Sets.{Views}
use Rattle.jn_laws.specs.LawsOfViews.{Agree, AgreeIn}

pub agree_in : (v w : Views) (t : Ty) → ((x : Atom) → Among (atoms_in t) x → Agree v w x.anchor) → AgreeIn v w t
agree_in v w t h = record { each = h }
