-- The written types of locals.
use Rattle.std.proofs.Common.{◌≡◌, ◌<◌, ◌≤◌, ◌+◌, ℕ, List, [], ◌∷◌, ◌++◌, length, take, map, get_or, Ok, Err, refl, sym, ap, ◌∙◌, subst, append_assoc}
use Rattle.std.proofs.lemmas.List.{take_more, take_all, map-append}
use Rattle.jn_base.specs.declared.tree.TypeTerm.{TypeTerm}
use Rattle.jn_base.specs.declared.tree.Program.{Program}
use Rattle.jn_base.specs.declared.types.Atom.{Atom as ShownAtom}
use Rattle.jn_base.specs.declared.types.Ty.{Ty}
use Rattle.jn_base.specs.declared.names.Resolved.{Resolved}
use Rattle.jn_base.specs.declared.names.Role.TheVariants as role
use Rattle.jn_base.specs.declared.refusal.Refusal.{Refusal}
use Rattle.jn_base.specs.Scopes.{Scope}
use Rattle.jn_base.specs.Fits.{TypeFits}
use Rattle.jn_base.specs.ResolveTypes.{mask_names}
use Rattle.jn_sem.specs.Normal.{same_path}
use Rattle.jn_sem.specs.Terms.{Site}
use Rattle.jn_sem.proofs.NormalTypes.{type_subst_is}
use Rattle.jn_laws.specs.LawsOfWritten.{Shallow, TypeWellFormed, scope_of, SiteFits, TypeThere}
use Rattle.jn_laws.proofs.WrittenTypes.{of_role, of_value}
use Rattle.jn_heads.specs.declared.fault.CheckFault.{CheckFault}
use Rattle.jn_heads.specs.declared.fault.CheckFault.TheVariants.{Refused, Memory}
use Rattle.jn_heads.specs.Told.{Told, itself}
use Rattle.jn_rules.specs.Plans.{Mark, AtomMark, OfType, Plan, ask, taken, note_all}
use Rattle.jn_rules.specs.Questions.{Means, Gives, Notes}
use Rattle.jn_rules.specs.Headers.{declared_type}
use Rattle.jn_rules.specs.Stmts.{atom_marks}
use Rattle.jn_expr.specs.Told.{Adds}
use Rattle.jn_expr.specs.Steps.{Leads, LeadsTold}
use Rattle.jn_expr.proofs.Leading.{adds_none, adds_more, leads_here, leads_ask}

-- ---- the atoms of a type

pub noted_start : (xs : List ShownAtom) (m : Resolved) → Adds (map AtomMark (take 0 xs)) m m
noted_start xs m = adds_none m

pub noted_more : (xs : List ShownAtom) (i : ℕ) (x : ShownAtom) (a b c : Resolved) → i < length xs → x ≡ get_or xs i x → Adds (map AtomMark (take i xs)) a b → Adds (AtomMark x ∷ []) b c
    → Adds (map AtomMark (take (i + 1) xs)) a c
noted_more xs i x a b c l e g h =
    subst (λ (ms : List Mark). Adds ms a c)
    (sym (ap (map AtomMark) (take_more xs i x l ∙ ap (λ (y : ShownAtom). take i xs ++ y ∷ []) (sym e)) ∙ map-append AtomMark (take i xs) (x ∷ [])))
    (adds_more g h)

pub noted_all : (xs : List ShownAtom) (i : ℕ) (a b : Resolved) → length xs ≤ i → Adds (map AtomMark (take i xs)) a b → Adds (map AtomMark xs) a b
noted_all xs i a b l h = subst (λ (ys : List ShownAtom). Adds (map AtomMark ys) a b) (take_all i xs l) h

pub none_noted : (t u : Ty) (m : Resolved) → t ≡ u → atom_marks u ≡ [] → Adds (atom_marks t) m m
none_noted t u m e f = subst (λ (ms : List Mark). Adds ms m m) (sym (ap atom_marks e ∙ f)) (adds_none m)

-- ---- marks of a plan

all_noted : {A : Type 0} (p : Program) (ms : List Mark) (rest : Plan A) (ns : List Mark) (x : A) → Notes p rest ns x → Notes p (note_all ms rest) (ms ++ ns) x
all_noted p [] rest ns x n = n
all_noted p (m ∷ ms) rest ns x n = (ms ++ ns, refl, all_noted p ms rest ns x n)

all_gives : {A : Type 0} (p : Program) (ms : List Mark) (rest : Plan A) (r : Refusal) → Gives p rest (Err r) → Gives p (note_all ms rest) (Err r)
all_gives p [] rest r g = g
all_gives p (m ∷ ms) rest r g = all_gives p ms rest r g

pub leads_noted : {A : Type 0} {p : Program} {whole : Plan A} {a b c : Resolved} (ms : List Mark) (rest : Plan A) → Leads p whole (note_all ms rest) a b → Adds ms b c → Leads p whole rest a c
leads_noted {A} {p} {whole} ms rest l d = record {
  marks = l.marks ++ ms;
  added = adds_more l.added d;
  notes = λ ns x n. subst (λ (ks : List Mark). Notes p whole ks x) (sym (append_assoc l.marks ms ns)) (l.notes (ms ++ ns) x (all_noted p ms rest ns x n));
  gives = λ r g. l.gives r (all_gives p ms rest r g);
}

-- ---- a local's type

module _ (p : Program) (at : Site) (written : TypeTerm) where
  pub type_fault : {A B : Type 0} (go : Ty → Plan A) (left : B → Plan A) (a b : Resolved) (f : CheckFault) → Told {B = Ty} (Means p (OfType at written)) itself (Err f)
      → LeadsTold p (ask (OfType at written) (taken (λ t. note_all (atom_marks t) (go (declared_type at t))))) left a b (Err f)
  type_fault go left a b (Refused r) m = (Err r, m, refl)
  type_fault go left a b Memory m = tt

  module _ (given : Ty) (m : Means p (OfType at written) (Ok given)) where
    pub type_leads : {A : Type 0} (go : Ty → Plan A) (a b : Resolved) (t : Ty) → Adds (atom_marks given) a b → t ≡ declared_type at given
        → Leads p (ask (OfType at written) (taken (λ t. note_all (atom_marks t) (go (declared_type at t))))) (go t) a b
    type_leads {A} go a b t d e =
        subst (λ (u : Ty). Leads p whole (go u) a b) (sym e)
        (leads_noted (atom_marks given) (go (declared_type at given)) (leads_ask (leads_here whole a) (Ok given) m) d)
      where
        whole : Plan A
        whole = ask (OfType at written) (taken (λ t. note_all (atom_marks t) (go (declared_type at t))))

    module _ (deep : Shallow p) (f : SiteFits p at) (w : TypeWellFormed written) where
      pub given_fits : (s : Scope) → s ≡ scope_of at → TypeFits s given
      given_fits s e = subst (λ (c : Scope). TypeFits c given) (sym e) (of_role p deep role.Value at tt f (mask_names p) written given w m).fits

      pub type_there : (t : Ty) → t ≡ declared_type at given → TypeThere at t
      type_there t e =
          of_value p deep at written t f w (record { given = given; resolved = m; normal = (type_subst_is (scope_of at) same_path given t).1 e })
