-- The signatures of constructors.
use Rattle.std.specs.Prelude.{◌≡◌, [], ◌∷◌, Option, Some, None}
use Rattle.jn_base.specs.declared.tree.Name.{Name}
use Rattle.jn_base.specs.declared.tree.Program.{Program}
use Rattle.jn_base.specs.Paths.{Path}
use Rattle.jn_base.specs.Supers.{Sup}
use Rattle.jn_rules.specs.Members.{Signature, empty_signature, ConstructorSignature}
use Rattle.jn_header.specs.declared.bodies.BodyHead.{BodyHead}
use Rattle.jn_header.specs.Bodies.{head_signature}

-- the signature by the head of a constructor; a missing one has no parameters and no result
abbrev pub constructor_signature : Option BodyHead → Signature
constructor_signature None = empty_signature
constructor_signature (Some x) = head_signature x

-- the last name of a path; the program itself has none
abbrev pub last_of : Path → Option Name
last_of [] = None
last_of (C ∷ P) = Some C

-- where the last name of S is C, its constructor has this signature
abbrev pub PassesAt : Program → Signature → Name → Path → Type 0
PassesAt p s C S = (Q : Path) → S ≡ C ∷ Q → ConstructorSignature p (C ∷ Q) s

-- so it is of each path in Sup(R)
abbrev pub SupersPass : Program → Signature → Name → Path → Type 0
SupersPass p s C R = (Q : Path) → Sup p R (C ∷ Q) → ConstructorSignature p (C ∷ Q) s
