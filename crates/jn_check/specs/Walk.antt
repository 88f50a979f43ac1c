-- The bodies of a program in source order: what is asked of them, and what they are known by.
use Rattle.std.specs.Prelude.{◌≡◌, List, [], ◌∷◌, ◌++◌, Result, Ok, Err}
use Rattle.jn_reach.specs.Each.{Each}
use Rattle.jn_base.specs.declared.tree.Decl.{Decl}
use Rattle.jn_base.specs.declared.tree.Member.{Member, out-Member}
use Rattle.jn_base.specs.declared.tree.Member.TheOpen.{Member-F}
use Rattle.jn_base.specs.declared.tree.Program.{Program}
use Rattle.jn_base.specs.declared.names.Resolved.{Resolved}
use Rattle.jn_base.specs.Paths.{Path}
use Rattle.jn_sem.specs.Does.{Body}
use Rattle.jn_agree.specs.Rows.{of_decl}
use Rattle.jn_rules.specs.Plans.{Plan, Nothing}
use Rattle.jn_rules.specs.Questions.{Gives}
use Rattle.jn_rules.specs.Stmts.{decl_bodies}
use Rattle.jn_rules.specs.Forms.{member_body}
use Rattle.jn_rules.specs.Resolved.{IsResolved}
use Rattle.jn_heads.specs.declared.fault.CheckFault.{CheckFault}
use Rattle.jn_heads.specs.declared.fault.CheckFault.TheVariants.{Refused, Memory}

-- what is asked of the bodies of a member of the declaration at R, and of a declaration in the namespace P
abbrev pub plan_of_member : Path → Member → Plan Nothing
plan_of_member R m = member_body R (out-Member m)

abbrev pub plan_of_decl : Path → Decl → Plan Nothing
plan_of_decl P d = decl_bodies d P

-- these bodies, in source order
abbrev pub bodies_at : Path → Member-F Member Decl → List Body
bodies_at R (Member-F.Inner d) = of_decl d R
bodies_at R (Member-F.Slot f) = []
bodies_at R (Member-F.Body m) = record { class = R; method = m } ∷ []

abbrev pub bodies_of_member : Path → Member → List Body
bodies_of_member R m = bodies_at R (out-Member m)

abbrev pub bodies_of_decl : Path → Decl → List Body
bodies_of_decl P d = of_decl d P

-- those of each thing of a list, one list behind the other
abbrev pub gathered : {A : Type 0} → (A → List Body) → List A → List Body
gathered f [] = []
gathered f (x ∷ xs) = f x ++ gathered f xs

-- The bodies pass, and what they are known by stands behind what was there.
pub record Known (p : Program) (plan : Plan Nothing) (bodies : List Body) (before after : List Resolved)
    : Type 0 where
  pub gives : Gives p plan (Ok tt)
  pub more : List Resolved
  pub is : after ≡ before ++ more
  pub each : Each (IsResolved p) bodies more

-- That, or their first refusal. Of want of memory nothing is said.
abbrev pub KnownOr : Program → Plan Nothing → List Body → List Resolved → List Resolved → Result Nothing CheckFault
    → Type 0
KnownOr p plan bodies before after (Ok u) = Known p plan bodies before after
KnownOr p plan bodies before after (Err (Refused r)) = Gives p plan (Err r)
KnownOr p plan bodies before after (Err Memory) = Unit {0}
