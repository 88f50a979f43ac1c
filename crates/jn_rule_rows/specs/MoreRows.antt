-- Rows of members and of sources.
use Rattle.std.specs.Prelude.{◌<◌, ℕ, List, [], ◌∷◌, length, Some, None}
use Rattle.jn_base.specs.declared.tree.Name.{Name}
use Rattle.jn_base.specs.declared.tree.Kind.TheVariants as kind
use Rattle.jn_base.specs.declared.tree.TypeTerm.{TypeTerm}
use Rattle.jn_base.specs.declared.tree.TypeTerm.TheVariants as type
use Rattle.jn_base.specs.declared.tree.Method.{Method}
use Rattle.jn_base.specs.declared.tree.Member.TheVariants as member
use Rattle.jn_base.specs.declared.tree.Program.{Program}
use Rattle.jn_base.specs.declared.refusal.Rule.TheVariants as rule
use Rattle.jn_base.specs.ExampleTrees.{name, line, declaration, field, program}
use Rattle.jn_base.specs.Spelling.{refusal, greatest_source}
use Rattle.jn_rules.specs.Members.{of_member, MethodRefused, ClassRefused}
use Rattle.jn_rules.specs.Verdict.{start_of_file, IsRefused}

abbrev pub A : Name
A = name 0

abbrev pub B : Name
B = name 1

abbrev pub C : Name
C = name 2

abbrev pub m : Name
m = name 3

-- T m() { }, on a line
abbrev pub giving : TypeTerm → ℕ → Method
giving t k = record { result = Some t; name = record { name = m; at = line k }; params = []; sharing = []; body = [] }

-- class A { int m() { } }
-- class B extends A { boolean m() { } }
abbrev pub overridden : Program
overridden = program (
    declaration kind.Class 1 A [] (member.Body (giving type.Int 1) ∷ [])
    ∷ declaration kind.Class 2 B (A ∷ []) (member.Body (giving type.Bool 2) ∷ []) ∷ [])

-- class A { int m; }
-- class B { int m; }
-- class C extends A & B { }
abbrev pub clashing : Program
clashing = program (
    declaration kind.Class 1 A [] (field m ∷ [])
    ∷ declaration kind.Class 2 B [] (field m ∷ [])
    ∷ declaration kind.Class 3 C (A ∷ B ∷ []) [] ∷ [])

pub record MoreMemberRows : Type 0 where
  pub override : MethodRefused overridden (B ∷ []) m (of_member rule.E11 (B ∷ []) (line 2) m)
  pub clash : ClassRefused clashing (C ∷ []) (of_member rule.E10 (C ∷ []) (line 3) m)

pub record SourceRows : Type 0 where
  -- a source of more than 1,048,576 bytes, whatever they are, and the byte ff alone
  pub too_long : (bytes : List ℕ) → greatest_source < length bytes
      → IsRefused bytes (refusal rule.E02 start_of_file None)
  pub not_utf8 : IsRefused (255 ∷ []) (refusal rule.E03 start_of_file None)
