-- What the terms of `new` and `super` stand for, and what a `new` makes.
use Rattle.std.proofs.Common.{◌≡◌, ◌++◌, List, [], ◌∷◌, reverse, Result, Ok, Err, refl, sym, ap, ◌∙◌, subst}
use Rattle.std.proofs.lemmas.List.{reverse-append, reverse-reverse}
use Rattle.jn_base.specs.declared.tree.Name.{Name}
use Rattle.jn_base.specs.declared.tree.Term.{Term}
use Rattle.jn_base.specs.declared.tree.Program.{Program}
use Rattle.jn_base.specs.declared.refusal.Refusal.{Refusal}
use Rattle.jn_base.specs.declared.types.Atom.{Atom as ShownAtom}
use Rattle.jn_base.specs.declared.types.Ty.TheVariants as ty
use Rattle.jn_base.specs.declared.names.Role.{Role}
use Rattle.jn_base.specs.declared.names.Spot.{Spot}
use Rattle.jn_base.specs.declared.names.Resolved.{Resolved}
use Rattle.jn_base.specs.Atoms.{atom_of, no_masks}
use Rattle.jn_base.specs.Resolve.{Resolve}
use Rattle.jn_names.specs.Answers.{Told as NameTold}
use Rattle.jn_names.specs.declared.fault.NameFault.{NameFault}
use Rattle.jn_names.specs.declared.fault.NameFault.TheVariants as names
use Rattle.jn_sem.specs.Terms.{spot_at, vars_at}
use Rattle.jn_heads.specs.declared.fault.CheckFault.{CheckFault}
use Rattle.jn_heads.specs.declared.fault.CheckFault.TheVariants.{Refused, Memory}
use Rattle.jn_heads.specs.Told.{Told, of_names, itself}
use Rattle.jn_rules.specs.Plans.{AtomMark, OfTerm, Plan, note, ask, taken}
use Rattle.jn_rules.specs.Questions.{Means}
use Rattle.jn_rules.specs.Exprs.{Here, Typed, site_here, made_exact}
use Rattle.jn_expr.specs.Told.{Adds}
use Rattle.jn_expr.specs.Steps.{Leads, LeadsTold}
use Rattle.jn_expr.proofs.Leading.{leads_here, leads_ask, leads_note}

-- ---- terms

module _ (p : Program) (h : Here) (r : Role) (t : Term) (sp : Spot) (i : sp ≡ spot_at (site_here h) r) where
  term_is : (o : Result ShownAtom Refusal) → Resolve p sp (vars_at (site_here h)) t o → Means p (OfTerm r (site_here h) t) o
  term_is o g = subst (λ (s : Spot). Resolve p s (vars_at (site_here h)) t o) i g

  pub term_there : (x : ShownAtom) → Resolve p sp (vars_at (site_here h)) t (Ok x) → Means p (OfTerm r (site_here h) t) (Ok x)
  term_there x g = term_is (Ok x) g

  pub term_refused : (fault : NameFault) (f : CheckFault) → f ≡ of_names fault → NameTold (Resolve p sp (vars_at (site_here h)) t) (Err fault)
      → (let o : Result ShownAtom CheckFault = Err f in Told (Means p (OfTerm r (site_here h) t)) itself o)
  term_refused fault f n g = subst (λ (c : CheckFault). let o : Result ShownAtom CheckFault = Err c in Told (Means p (OfTerm r (site_here h) t)) itself o) (sym n) (of fault g) where
    of : (x : NameFault) → NameTold (Resolve p sp (vars_at (site_here h)) t) (Err x)
        → (let o : Result ShownAtom CheckFault = Err (of_names x) in Told (Means p (OfTerm r (site_here h) t)) itself o)
    of (names.Refused s) k = term_is (Err s) k
    of names.Memory k = tt

module _ (p : Program) (h : Here) (r : Role) (t : Term) (go : ShownAtom → Plan Typed) (before : Resolved) where
  abbrev term_asked : Plan Typed
  term_asked = ask (OfTerm r (site_here h) t) (taken (λ a. note (AtomMark a) (go a)))

  pub term_fault : (after : Resolved) (f : CheckFault) → (let o : Result ShownAtom CheckFault = Err f in Told (Means p (OfTerm r (site_here h) t)) itself o)
      → LeadsTold p term_asked go before after (Err f)
  term_fault after (Refused s) g = (Err s, g, refl)
  term_fault after Memory g = tt

  pub term_begun : (after : Resolved) (x : ShownAtom) → Means p (OfTerm r (site_here h) t) (Ok x) → Adds (AtomMark x ∷ []) before after
      → Leads p term_asked (go x) before after
  term_begun after x g d = leads_note (leads_ask (leads_here term_asked before) (Ok x) g) d

-- ---- the type that is made

pub made_is : (x y : ShownAtom) (exact : List Name) → exact ≡ x.exact ++ x.names → (let z : ShownAtom = record { anchor = x.anchor; exact = exact; names = [] } in y ≡ z)
    → ty.Class (y ∷ []) no_masks ≡ made_exact (atom_of x)
made_is x y exact e f =
    ap (λ (z : ShownAtom). ty.Class (z ∷ []) no_masks) f
    ∙ ap (λ (es : List Name). let z : ShownAtom = record { anchor = x.anchor; exact = es; names = [] } in ty.Class (z ∷ []) no_masks)
    (e ∙ sym (reverse-append (reverse x.names) (reverse x.exact) ∙ (ap (λ (l : List Name). l ++ reverse (reverse x.names)) (reverse-reverse x.exact)
    ∙ ap (λ (l : List Name). x.exact ++ l) (reverse-reverse x.names))))
