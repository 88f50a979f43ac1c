-- How a plan leads on, step by step.
use Rattle.std.proofs.Common.{◌≡◌, List, [], ◌∷◌, ◌++◌, Bool, true, false, Option, Some, None, Result, Ok, Err, refl, sym, ap, ◌∙◌, subst, append-nil, append_assoc}
use Rattle.jn_base.specs.declared.tree.Program.{Program}
use Rattle.jn_base.specs.declared.names.Resolved.{Resolved}
use Rattle.jn_base.specs.declared.refusal.Refusal.{Refusal}
use Rattle.jn_base.specs.declared.path.Path.{Path as ShownPath}
use Rattle.jn_base.specs.declared.types.Atom.{Atom as ShownAtom}
use Rattle.jn_base.specs.declared.types.ValKind.{ValKind}
use Rattle.jn_base.specs.Paths.{shown}
use Rattle.std.specs.Prelude.{ℕ}
use Rattle.jn_heads.specs.declared.fault.CheckFault.{CheckFault}
use Rattle.jn_heads.specs.declared.fault.CheckFault.TheVariants.{Refused, Memory}
use Rattle.jn_rules.specs.Plans.{Query, Reply, Mark, AtomMark, VarMark, MemberMark, KindMark, Plan, done, refuse, note, ask, then_do, wants}
use Rattle.jn_rules.specs.Questions.{Means, Notes}
use Rattle.jn_rules.specs.Resolved.{atom_marked, var_marked, member_marked, kind_marked}
use Rattle.jn_rules.specs.Exprs.{Typed, kind_of, note_kind, gives}
use Rattle.jn_rules.proofs.PlanLaws.{then_gives, then_refuses, then_notes, notes_give}
use Rattle.jn_expr.specs.Told.{Adds, Went, PlanTold, QuietTold, FaultIs}
use Rattle.jn_expr.specs.Values.{kind_marks}
use Rattle.jn_expr.specs.Steps.{Leads, LeadsTold}

-- ---- marks

atoms_more : (ms ns : List Mark) → atom_marked (ms ++ ns) ≡ atom_marked ms ++ atom_marked ns
atoms_more [] ns = refl
atoms_more (AtomMark a ∷ ms) ns = ap (λ (l : List ShownAtom). a ∷ l) (atoms_more ms ns)
atoms_more (VarMark n ∷ ms) ns = atoms_more ms ns
atoms_more (MemberMark R ∷ ms) ns = atoms_more ms ns
atoms_more (KindMark k ∷ ms) ns = atoms_more ms ns

vars_more : (ms ns : List Mark) → var_marked (ms ++ ns) ≡ var_marked ms ++ var_marked ns
vars_more [] ns = refl
vars_more (AtomMark a ∷ ms) ns = vars_more ms ns
vars_more (VarMark n ∷ ms) ns = ap (λ (l : List ℕ). n ∷ l) (vars_more ms ns)
vars_more (MemberMark R ∷ ms) ns = vars_more ms ns
vars_more (KindMark k ∷ ms) ns = vars_more ms ns

members_more : (ms ns : List Mark) → member_marked (ms ++ ns) ≡ member_marked ms ++ member_marked ns
members_more [] ns = refl
members_more (AtomMark a ∷ ms) ns = members_more ms ns
members_more (VarMark n ∷ ms) ns = members_more ms ns
members_more (MemberMark R ∷ ms) ns = ap (λ (l : List ShownPath). shown R ∷ l) (members_more ms ns)
members_more (KindMark k ∷ ms) ns = members_more ms ns

kinds_more : (ms ns : List Mark) → kind_marked (ms ++ ns) ≡ kind_marked ms ++ kind_marked ns
kinds_more [] ns = refl
kinds_more (AtomMark a ∷ ms) ns = kinds_more ms ns
kinds_more (VarMark n ∷ ms) ns = kinds_more ms ns
kinds_more (MemberMark R ∷ ms) ns = kinds_more ms ns
kinds_more (KindMark k ∷ ms) ns = ap (λ (l : List ValKind). k ∷ l) (kinds_more ms ns)

behind : {A : Type 0} (a b c x y z : List A) → b ≡ a ++ x → c ≡ b ++ y → z ≡ x ++ y → c ≡ a ++ z
behind {A} a b c x y z e f g = f ∙ (ap (λ (l : List A). l ++ y) e ∙ (append_assoc a x y ∙ ap (λ (l : List A). a ++ l) (sym g)))

pub adds_none : (m : Resolved) → Adds [] m m
adds_none m = record {
  class = refl;
  method = refl;
  terms = sym (append-nil m.terms);
  vars = sym (append-nil m.vars);
  members = sym (append-nil m.members);
  kinds = sym (append-nil m.kinds);
}

pub adds_more : {ms ns : List Mark} {a b c : Resolved} → Adds ms a b → Adds ns b c → Adds (ms ++ ns) a c
adds_more {ms} {ns} {a} {b} {c} g h = record {
  class = h.class ∙ g.class;
  method = h.method ∙ g.method;
  terms = behind a.terms b.terms c.terms (atom_marked ms) (atom_marked ns) (atom_marked (ms ++ ns)) g.terms h.terms (atoms_more ms ns);
  vars = behind a.vars b.vars c.vars (var_marked ms) (var_marked ns) (var_marked (ms ++ ns)) g.vars h.vars (vars_more ms ns);
  members = behind a.members b.members c.members (member_marked ms) (member_marked ns) (member_marked (ms ++ ns)) g.members h.members (members_more ms ns);
  kinds = behind a.kinds b.kinds c.kinds (kind_marked ms) (kind_marked ns) (kind_marked (ms ++ ns)) g.kinds h.kinds (kinds_more ms ns);
}

-- ---- steps

module _ {A : Type 0} {p : Program} {whole : Plan A} {before now : Resolved} where
  -- nothing was done yet
  pub leads_ask : {q : Query} {go : Reply q → Plan A} → Leads p whole (ask q go) before now → (x : Reply q) → Means p q x
      → Leads p whole (go x) before now
  leads_ask l x m = record { marks = l.marks; added = l.added; notes = λ ms a n. l.notes ms a (x, m, n); gives = λ r g. l.gives r (x, m, g) }

  pub leads_is : {rest other : Plan A} → rest ≡ other → Leads p whole rest before now → Leads p whole other before now
  leads_is e l = subst (λ (x : Plan A). Leads p whole x before now) e l

  -- a mark more
  pub leads_note : {m : Mark} {rest : Plan A} {after : Resolved} → Leads p whole (note m rest) before now → Adds (m ∷ []) now after
      → Leads p whole rest before after
  leads_note {m} {rest} l d = record {
    marks = l.marks ++ m ∷ [];
    added = adds_more l.added d;
    notes = λ ms a n. subst (λ (x : List Mark). Notes p whole x a) (sym (append_assoc l.marks (m ∷ []) ms)) (l.notes (m ∷ ms) a (ms, refl, n));
    gives = λ r g. l.gives r g;
  }

  -- a plan before another one
  pub leads_then : {B : Type 0} (x : Plan B) (go : B → Plan A) {b : B} {after : Resolved} → Leads p whole (then_do x go) before now
      → Went p x b now after → Leads p whole (go b) before after
  leads_then x go {b} l w = record {
    marks = l.marks ++ w.marks;
    added = adds_more l.added w.added;
    notes = λ ms a n. subst (λ (y : List Mark). Notes p whole y a) (sym (append_assoc l.marks w.marks ms))
        (l.notes (w.marks ++ ms) a (then_notes p x go w.marks ms b a w.notes n));
    gives = λ r g. l.gives r (then_gives p x go b (Err r) (notes_give p x w.marks b w.notes) g);
  }

  pub leads_quiet : {B : Type 0} (x : Plan B) (go : B → Plan A) (b : B) → Leads p whole (then_do x go) before now → Notes p x [] b
      → Leads p whole (go b) before now
  leads_quiet x go b l n = leads_then x go (let w : Leads p whole (then_do x go) before now = l in w) (quiet_went x b n) where
    quiet_went : {B : Type 0} (y : Plan B) (c : B) → Notes p y [] c → Went p y c now now
    quiet_went y c m = record { marks = []; notes = m; added = adds_none now }

  -- a test that held
  pub leads_want : (t : Bool) (r : Refusal) {rest : Plan A} → t ≡ true → Leads p whole (wants t r rest) before now → Leads p whole rest before now
  leads_want true r e l = l
  leads_want false r e l = cc

  -- the end
  pub leads_done : {a : A} → Leads p whole (done a) before now → Went p whole a before now
  leads_done {a} l = record {
    marks = l.marks;
    notes = subst (λ (x : List Mark). Notes p whole x a) (append-nil l.marks) (l.notes [] a (refl, refl));
    added = l.added;
  }

  -- a call that does the rest
  pub leads_told : {B : Type 0} {rest : Plan A} (show : B → A) (after : Resolved) → Leads p whole rest before now → (o : Result B CheckFault)
      → PlanTold p rest show now after o → PlanTold p whole show before after o
  leads_told show after l (Ok x) w = record { marks = l.marks ++ w.marks; notes = l.notes w.marks _ w.notes; added = adds_more l.added w.added }
  leads_told show after l (Err (Refused r)) g = l.gives r g
  leads_told show after l (Err Memory) g = tt

  -- and one that leads on
  pub leads_leads : {B : Type 0} {rest : Plan A} (left : B → Plan A) (after : Resolved) → Leads p whole rest before now → (o : Result B CheckFault)
      → LeadsTold p rest left now after o → LeadsTold p whole left before after o
  leads_leads left after l (Ok x) w = record {
    marks = l.marks ++ w.marks;
    added = adds_more l.added w.added;
    notes = λ ms a n. subst (λ (y : List Mark). Notes p whole y a) (sym (append_assoc l.marks w.marks ms)) (l.notes (w.marks ++ ms) a (w.notes ms a n));
    gives = λ r g. l.gives r (w.gives r g);
  }
  leads_leads left after l (Err (Refused r)) g = l.gives r g
  leads_leads left after l (Err Memory) g = tt

  -- a refusal
  pub leads_refused : {B : Type 0} (show : B → A) (after : Resolved) (r : Refusal) → Leads p whole (refuse r) before now → (f : CheckFault) → FaultIs f r
      → PlanTold p whole show before after (Err f)
  leads_refused show after r l (Refused q) e = l.gives q (ap Err e)
  leads_refused show after r l Memory e = tt

  pub leads_unwanted : {B : Type 0} (show : B → A) (after : Resolved) (t : Bool) (r : Refusal) (rest : Plan A) → t ≡ false
      → Leads p whole (wants t r rest) before now → (f : CheckFault) → FaultIs f r → PlanTold p whole show before after (Err f)
  leads_unwanted show after true r rest e l f h = cc
  leads_unwanted show after false r rest e l f h = leads_refused show after r l f h

  -- a plan before another one was refused
  pub leads_fault : {B C X : Type 0} (given : B → X) (show : C → A) (x : Plan X) (go : X → Plan A) (after later : Resolved)
      → Leads p whole (then_do x go) before now → (f : CheckFault) → PlanTold p x given now after (Err f)
      → PlanTold p whole show before later (Err f)
  leads_fault given show x go after later l (Refused r) g = l.gives r (then_refuses p x go r g)
  leads_fault given show x go after later l Memory g = tt

  pub leads_quiet_fault : {B C X : Type 0} (given : B → X) (show : C → A) (x : Plan X) (go : X → Plan A) (later : Resolved)
      → Leads p whole (then_do x go) before now → (f : CheckFault) → QuietTold p x given (Err f)
      → PlanTold p whole show before later (Err f)
  leads_quiet_fault given show x go later l (Refused r) g = l.gives r (then_refuses p x go r g)
  leads_quiet_fault given show x go later l Memory g = tt

-- what is told of a part that leads on, where it is refused
module _ {A : Type 0} (p : Program) (whole : Plan A) (before : Resolved) where
  pub told_of_fault : {B C : Type 0} (left : B → Plan A) (show : C → A) (after later : Resolved) (f : CheckFault)
      → LeadsTold p whole left before after (Err f) → PlanTold p whole show before later (Err f)
  told_of_fault left show after later (Refused r) g = g
  told_of_fault left show after later Memory g = tt

  pub leads_of_fault : {B C : Type 0} (left : B → Plan A) (other : C → Plan A) (after later : Resolved) (f : CheckFault)
      → LeadsTold p whole left before after (Err f) → LeadsTold p whole other before later (Err f)
  leads_of_fault left other after later (Refused r) g = g
  leads_of_fault left other after later Memory g = tt

  pub leads_from_told : {B C : Type 0} (show : C → A) (other : B → Plan A) (after later : Resolved) (f : CheckFault)
      → PlanTold p whole show before after (Err f) → LeadsTold p whole other before later (Err f)
  leads_from_told show other after later (Refused r) g = g
  leads_from_told show other after later Memory g = tt

-- nothing was done yet
pub leads_here : {A : Type 0} {p : Program} (x : Plan A) (m : Resolved) → Leads p x x m m
leads_here x m = record { marks = []; added = adds_none m; notes = λ ms a n. n; gives = λ r g. g }

-- ---- the kind of a value

pub kind_noted : {A : Type 0} (p : Program) (k : Option ValKind) (x : Plan A) (ms : List Mark) (a : A) → Notes p x ms a
    → Notes p (note_kind k x) (kind_marks k ++ ms) a
kind_noted p None x ms a n = n
kind_noted p (Some k) x ms a n = (ms, refl, n)

pub gives_went : (p : Program) (x : Typed) (before after : Resolved) → Adds (kind_marks (kind_of x.ty)) before after → Went p (gives x) x before after
gives_went p x before after d = record {
  marks = kind_marks (kind_of x.ty);
  notes = subst (λ (ms : List Mark). Notes p (gives x) ms x) (append-nil (kind_marks (kind_of x.ty)))
      (kind_noted p (kind_of x.ty) (done x) [] x (refl, refl));
  added = d;
}
