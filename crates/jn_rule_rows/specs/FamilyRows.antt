-- Rows of families and masks: a listed name that is no family, a masked field, and a constraint that fails at an heir.
use Rattle.std.specs.Prelude.{◌≡◌, List, [], ◌∷◌, false, None, Err}
use Rattle.jn_base.specs.declared.tree.Name.{Name}
use Rattle.jn_base.specs.declared.tree.Named.{Named}
use Rattle.jn_base.specs.declared.tree.Place.{Place}
use Rattle.jn_base.specs.declared.tree.Head.TheVariants as head
use Rattle.jn_base.specs.declared.tree.Term.{Term}
use Rattle.jn_base.specs.declared.tree.TypeTerm.TheVariants as type
use Rattle.jn_base.specs.declared.tree.Kind.TheVariants as kind
use Rattle.jn_base.specs.declared.tree.Constraint.{Constraint}
use Rattle.jn_base.specs.declared.tree.Method.{Method}
use Rattle.jn_base.specs.declared.tree.Member.{Member}
use Rattle.jn_base.specs.declared.tree.Member.TheVariants as member
use Rattle.jn_base.specs.declared.tree.Program.{Program}
use Rattle.jn_base.specs.declared.types.Anchor.TheVariants.{Root}
use Rattle.jn_base.specs.declared.types.Ty.{Ty}
use Rattle.jn_base.specs.declared.types.Ty.TheVariants as ty
use Rattle.jn_base.specs.declared.refusal.Rule.TheVariants as rule
use Rattle.jn_base.specs.Scopes.{Scope}
use Rattle.jn_base.specs.ExampleTrees.{name, line, word, declaration, package_at, class_in, field, program}
use Rattle.jn_sem.specs.NotFamily.{Listed, adapting, not_family}
use Rattle.jn_sem.specs.Does.{Body}
use Rattle.jn_sem_rows.specs.SlotsExample.{base, disp, Exp, Add, adapting as adapting_base, in_base, in_disp}
use Rattle.jn_rules.specs.Plans.{Plan}
use Rattle.jn_rules.specs.Questions.{Gives}
use Rattle.jn_rules.specs.Exprs.{Here, Typed, of_name, of_class, plain, suffix_typed, constraints_granted}
use Rattle.jn_rules.specs.Members.{SharingFails}
use Rattle.jn_rules.specs.Verdict.{TreeRefuses}

-- ---- a list

-- package base { }
-- package disp adapts base { }
abbrev pub listing : Program
listing = record (adapting_base [] []) {
  decls = package_at 1 base [] [] ∷ record (package_at 2 disp [] []) { adapts = word base ∷ [] } ∷ [];
}

abbrev pub base_listed : Listed
base_listed = record { at = disp ∷ []; listing = adapting; name = word base }

-- ---- a mask

abbrev pub A : Name
A = name 0

abbrev pub f : Name
f = name 1

abbrev pub m : Name
m = name 2

abbrev pub x : Name
x = name 3

abbrev pub at_name : Name → Term
at_name C = record { head = head.Plain; exact = []; names = C ∷ []; at = line 1 }

-- void m(A\f x) { }
abbrev pub with_mask : Method
with_mask = record {
  result = None;
  name = word m;
  params = record { fixed = false; ty = type.Class (at_name A ∷ []) (word f ∷ []); name = word x } ∷ [];
  sharing = [];
  body = [];
}

-- class A { int f; void m(A\f x) { } }
abbrev pub masking : Program
masking = program (declaration kind.Class 1 A [] (field f ∷ member.Body with_mask ∷ []) ∷ [])

-- A\f: the mask f has the number 0
abbrev pub masked_a : Ty
masked_a = ty.Class (record { anchor = Root; exact = []; names = A ∷ [] } ∷ []) (record { 0 = 1 ∷ 0 ∷ 0 ∷ 0 ∷ [] })

-- ---- a constraint

abbrev pub lift : Name
lift = name 4

-- base!.Exp -> Exp
abbrev pub to_own : Constraint
to_own = record {
  from = record {
    term = record { head = head.Plain; exact = base ∷ []; names = Exp ∷ []; at = line 1 };
    masks = [];
  };
  to = record { term = at_name Exp; masks = [] };
}

-- void lift() sharing base!.Exp -> Exp { }
abbrev pub lift_method : Method
lift_method = record { result = None; name = word lift; params = []; sharing = to_own ∷ []; body = [] }

abbrev pub lift_members : List Member
lift_members = class_in Exp [] [] ∷ class_in Add [] (member.Body lift_method ∷ []) ∷ []

-- package base { class Exp { } class Add { void lift() sharing base!.Exp -> Exp { } } }
-- package disp extends base { }
abbrev pub lifting : Program
lifting = program (package_at 1 base [] lift_members ∷ package_at 2 disp (base ∷ []) [] ∷ [])

abbrev pub lift_body : Body
lift_body = record { class = in_base Add; method = lift_method }

pub record FamilyRows : Type 0 where
  -- disp adapts base and doesn't extend it
  pub no_family : TreeRefuses listing (not_family base_listed)
  -- x.f, where x has the type A\f
  pub masked : (h : Here) (at : Place) (s : Scope)
      → Gives masking (suffix_typed h (word f) None at (plain masked_a s)) (Err (of_class rule.E19 (A ∷ []) (word f) f))
  -- at disp.Add the constraint says base!.Exp -> disp!.Exp, and base.Exp has no counterpart in `disp`
  pub fails_at_heir : SharingFails lifting (in_disp Add) lift lift_body
  -- super[base.Add].lift(), from a method without constraints
  pub not_granted : (h : Here) (n : Named) (s : Scope) (go : Plan Typed) → h.method.sharing ≡ []
      → Gives lifting (constraints_granted h lift_body n s lift_method.sharing go)
      (Err (of_name rule.E25 h n.at n.name))
