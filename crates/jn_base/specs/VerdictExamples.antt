-- Small programs, and what their class tables answer.
use Rattle.std.specs.Prelude.{ℕ, List, [], ◌∷◌, codes}
use Rattle.jn_base.specs.declared.tree.Text.{Text}
use Rattle.jn_base.specs.declared.tree.Kind.TheVariants as kind
use Rattle.jn_base.specs.declared.tree.Name.{Name}
use Rattle.jn_base.specs.declared.tree.Decl.{Decl}
use Rattle.jn_base.specs.declared.tree.Program.{Program}
use Rattle.jn_base.specs.declared.refusal.Rule.TheVariants as rule
use Rattle.jn_base.specs.TableRules.{at_home, unknown_at, TableRefuses, TablePasses}
use Rattle.jn_base.specs.ExampleTrees.{name, line, word, inner, package_at, class_in}

-- the names by their numbers: A, B, AB, C, D
abbrev pub A : Name
A = name 0

abbrev pub B : Name
B = name 1

abbrev pub AB : Name
AB = name 2

abbrev pub C : Name
C = name 3

abbrev pub D : Name
D = name 4

abbrev pub text : List ℕ → Text
text bytes = record { bytes = bytes }

abbrev pub of : List Decl → Program
of decls = record {
  names = text (codes "A") ∷ text (codes "B") ∷ text (codes "AB") ∷ text (codes "C") ∷ text (codes "D") ∷ [];
  texts = [];
  decls = decls;
}

-- package A { class C extends D { } class D { } }
-- package B { class C { } class D extends C { } }
abbrev pub apart : Program
apart = of (
    package_at 1 A [] (class_in C (D ∷ []) [] ∷ class_in D [] [] ∷ [])
    ∷ package_at 2 B [] (class_in C [] [] ∷ class_in D (C ∷ []) [] ∷ []) ∷ [])

-- the same, and package AB extends A & B { }
abbrev pub circular : Program
circular = of (
    package_at 1 A [] (class_in C (D ∷ []) [] ∷ class_in D [] [] ∷ [])
    ∷ package_at 2 B [] (class_in C [] [] ∷ class_in D (C ∷ []) [] ∷ [])
    ∷ package_at 3 AB (A ∷ B ∷ []) [] ∷ [])

-- package A { class C { } }
-- package B extends A { package C { } }
abbrev pub mixed : Program
mixed = of (
    package_at 1 A [] (class_in C [] [] ∷ [])
    ∷ package_at 2 B (A ∷ []) (inner kind.Package 3 C [] [] ∷ []) ∷ [])

-- package A { class C extends D { } }
abbrev pub missing : Program
missing = of (package_at 1 A [] (class_in C (D ∷ []) [] ∷ []) ∷ [])

pub record VerdictExamples : Type 0 where
  pub passes : TablePasses apart
  -- AB.C is the first of the two paths of the cycle, and has its home at AB
  pub cycle : TableRefuses circular (at_home rule.E08 (C ∷ AB ∷ []) (line 3))
  pub kinds : TableRefuses mixed (at_home rule.E07 (C ∷ B ∷ []) (line 3))
  pub unknown_name : TableRefuses missing (unknown_at (C ∷ A ∷ []) (word D))
