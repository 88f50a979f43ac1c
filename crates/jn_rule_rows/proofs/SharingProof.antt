-- A view change that is refused for a class without a counterpart.
use Rattle.std.proofs.Common.{◌≡◌, List, [], ◌∷◌, Option, Some, None, refl, sym, ◌∙◌, subst}
use Rattle.jn_base.specs.declared.tree.Name.{Name}
use Rattle.jn_base.specs.declared.types.Anchor.TheVariants.{Root}
use Rattle.jn_base.specs.Paths.{Path}
use Rattle.jn_base.specs.Universe.{InUniverse}
use Rattle.jn_base.specs.Atoms.{Atom, atom, atoms_in, Among, first, later, no_masks}
use Rattle.jn_base.specs.Scopes.{Scope}
use Rattle.jn_base.specs.ResolveTypes.{mask_names}
use Rattle.jn_base.proofs.FormEquations.{at_inner, at_decl}
use Rattle.jn_sem.specs.RootClosure.{Opens, closed, through, InClosure}
use Rattle.jn_sem.specs.Holds.{with_this, RefutedBy, no_counterpart, unshared}
use Rattle.jn_sem_rows.specs.SlotsExample.{base, disp, Exp, Add, in_base, in_disp}
use Rattle.jn_sem_rows.specs.SlotRows.{plain_heir, to_own_exp, AtAnHeir}
use Rattle.jn_rules.specs.Plans.{Refuted}
use Rattle.jn_rules.specs.Questions.{IsClosure}
use Rattle.jn_rule_rows.specs.SharingRows.{exact_exp, SharingRows}

no_mask_names : mask_names plain_heir ≡ []
no_mask_names = simp (at_inner, at_decl)

abbrev exp_atom : Atom
exp_atom = atom Root (base ∷ []) (Exp ∷ [])

exp_there : RefutedBy plain_heir (with_this (in_disp Add) to_own_exp) (in_base Exp) None → InUniverse plain_heir (in_base Exp)
exp_there r = at (in_base Exp) None refl refl r where
  at : (P : Path) (f : Option Name) → P ≡ in_base Exp → f ≡ None → RefutedBy plain_heir (with_this (in_disp Add) to_own_exp) P f → InUniverse plain_heir (in_base Exp)
  at P f e g (no_counterpart U i n h j) = subst (InUniverse plain_heir) (sym h ∙ e) i.holds.class.universe
  at P f e g (unshared U W x i t b h j) = absurd (not_none x (sym j ∙ g)) where
    not_none : (x : Name) → Some x ≡ None → ⊥
    not_none x e = cc e

opened : (s : Scope) (x z : Atom) → x.anchor ≡ Root → Opens plain_heir s x z → z ≡ x
opened s x _ e (closed r u) = refl
opened s x z e (through b k w u m a n o) = absurd (cc (e, a))

closure : (s : Scope) → InUniverse plain_heir (in_base Exp) → IsClosure plain_heir s exact_exp (exp_atom ∷ [])
closure s u = record { exact = λ z. (in_it z, only z) } where
  in_it : (z : Atom) → Among (exp_atom ∷ []) z → InClosure plain_heir s (atoms_in exact_exp) z
  in_it _ first = record { from = exp_atom; among = first; opens = closed refl u }
  in_it z (later m) = elim m [ ]

  from_exp : (x z : Atom) → Among (exp_atom ∷ []) x → Opens plain_heir s x z → Among (exp_atom ∷ []) z
  from_exp _ z first o = subst (Among (exp_atom ∷ [])) (sym (opened s exp_atom z refl o)) first
  from_exp x z (later m) o = elim m [ ]

  only : (z : Atom) → InClosure plain_heir s (atoms_in exact_exp) z → Among (exp_atom ∷ []) z
  only z c = from_exp c.from z c.among c.opens

pub sharing_rows : AtAnHeir → SharingRows
sharing_rows rows = record {
  no_counterpart = λ s at y. (
    Refuted (in_base Exp) None,
    record {
      closure = exp_atom ∷ [];
      closes = closure s (exp_there rows.plain_refuted);
      gives = subst (λ (ns : List Name). RefutedBy plain_heir (record { names = ns; from = exp_atom ∷ []; from_masks = no_masks; to = atom Root (disp ∷ []) (Exp ∷ []); to_masks = no_masks }) (in_base Exp) None)
          (sym no_mask_names) rows.plain_refuted;
    },
    refl,
  );
}
