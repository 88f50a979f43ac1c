-- The names in the lists of declarations, one by one.
use Rattle.std.specs.Prelude.{◌≡◌, ◌∷◌, Option, Some, None}
use Rattle.jn_base.specs.declared.tree.Name.{Name}
use Rattle.jn_base.specs.declared.tree.Named.{Named}
use Rattle.jn_base.specs.declared.refusal.Refusal.{Refusal}
use Rattle.jn_base.specs.declared.refusal.Rule.{Rule}
use Rattle.jn_base.specs.Paths.{Path, shown}
use Rattle.jn_sem.specs.NotFamily.{Listing, in_list}
use Rattle.jn_rules.specs.Plans.{Plan, Nothing}
use Rattle.jn_rules.specs.Headers.{listed_asked}
use Rattle.jn_heads.specs.declared.fault.CheckFault.{CheckFault}
use Rattle.jn_heads.specs.declared.fault.CheckFault.TheVariants.{Refused, Memory}

-- the path is one of a declaration
pub record HasName (R : Path) : Type 0 where
  pub name : Name
  pub space : Path
  pub is : R ≡ name ∷ space

-- what is asked of a name in this list of the declaration at the path
abbrev pub of_list : Path → Listing → Named → Plan Nothing
of_list R list name = listed_asked (in_list R list name)

-- at the place of the listed name, with the path of the declaration
abbrev pub at_listed : Path → Named → Rule → Option Name → Refusal
at_listed R name rule member = record { rule = rule; at = name.at; class = Some (shown R); member = member; limit = None }

abbrev pub IsListedFault : Path → Named → Rule → Option Name → CheckFault → Type 0
IsListedFault R name rule member (Refused r) = r ≡ at_listed R name rule member
IsListedFault R name rule member Memory = Unit {0}
