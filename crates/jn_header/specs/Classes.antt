-- What is refused of the members of classes.
use Rattle.std.specs.Prelude.{◌≡◌, ◌∷◌, Option, Some, None, Result, Ok, Err}
use Rattle.jn_base.specs.declared.tree.Name.{Name}
use Rattle.jn_base.specs.declared.tree.Place.{Place}
use Rattle.jn_base.specs.declared.tree.Program.{Program}
use Rattle.jn_base.specs.declared.refusal.Refusal.{Refusal}
use Rattle.jn_base.specs.Paths.{Path}
use Rattle.jn_base.specs.ClassOrder.{IsFirst}
use Rattle.jn_base.specs.Members.{IsHome}
use Rattle.jn_base.specs.TableRules.{NoneIs}
use Rattle.jn_sem.specs.Does.{Body, IsBody}
use Rattle.jn_heads.specs.declared.fault.CheckFault.{CheckFault}
use Rattle.jn_heads.specs.declared.fault.CheckFault.TheVariants.{Refused, Memory}
use Rattle.jn_rules.specs.Members.{of_member, ConstructorPasses, ConstructorRefused, HasBad, BadClass, ClassRefused}
use Rattle.jn_rules.specs.Verdict.{HeadersRefuse}
use Rattle.jn_header.specs.declared.classes.ClassFault.{ClassFault}

-- the refusal of the fault of a class, which is shown
abbrev pub of_fault : Path → ClassFault → Refusal
of_fault R f = of_member f.rule R f.at f.member

-- at the least body's name, or at Home of R where m has no least body
pub data IsPlaceOf (p : Program) (R : Path) (m : Name) (at : Place) : Type 0 where
  of_body : (b : Body) → IsBody p R m b → at ≡ b.method.name.at → IsPlaceOf p R m at
  of_home : ((b : Body) → IsBody p R m b → ⊥) → IsHome p R at → IsPlaceOf p R m at

-- the constructor passes, or is refused
abbrev pub ConstructorTold : Program → Path → Option ClassFault → Type 0
ConstructorTold p R None = (C : Name) (P : Path) → R ≡ C ∷ P → ConstructorPasses p C P
ConstructorTold p R (Some f) =
    (C : Name) (P : Path) → R ≡ C ∷ P → (ConstructorPasses p C P → ⊥) × ConstructorRefused p C P (of_fault R f)

-- nothing of R is bad, or what is answered of it
abbrev pub MembersTold : Program → Path → Option ClassFault → Type 0
MembersTold p R None = HasBad p R → ⊥
MembersTold p R (Some f) = HasBad p R × ClassRefused p R (of_fault R f)

-- R is no bad class, or what is answered of it
abbrev pub ClassTold : Program → Path → Option ClassFault → Type 0
ClassTold p R None = BadClass p R → ⊥
ClassTold p R (Some f) = BadClass p R × ClassRefused p R (of_fault R f)

-- r is answered of the first bad class
pub record IsFirstRefused (p : Program) (r : Refusal) : Type 0 where
  pub R : Path
  pub first : IsFirst p (BadClass p) R
  pub refused : ClassRefused p R r

abbrev pub FirstRefusedIs : Program → Option Refusal → Type 0
FirstRefusedIs p None = NoneIs (BadClass p)
FirstRefusedIs p (Some r) = IsFirstRefused p r

-- the answer is one of which T holds, or the headers are refused so; of want of memory nothing is said
abbrev pub OrRefused : {B : Type 0} → Program → (B → Type 0) → Result B CheckFault → Type 0
OrRefused p T (Ok x) = T x
OrRefused p T (Err (Refused r)) = HeadersRefuse p r
OrRefused p T (Err Memory) = Unit {0}
