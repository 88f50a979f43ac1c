-- A row of a program with more than 4,096 paths.
use Rattle.std.specs.Prelude.{ℕ, zero, suc, List, [], ◌∷◌, map, codes}
use Rattle.std.specs.List.{range_with_len}
use Rattle.jn_base.specs.declared.tree.Text.{Text}
use Rattle.jn_base.specs.declared.tree.Decl.{Decl}
use Rattle.jn_base.specs.declared.tree.Program.{Program}
use Rattle.jn_base.specs.declared.refusal.Rule.TheVariants as rule
use Rattle.jn_base.specs.TableRules.{at_home}
use Rattle.jn_base.specs.ExampleTrees.{name, line, package_at}
use Rattle.jn_rules.specs.Verdict.{TreeRefuses}

-- the bytes of the k-th name: a, aa, aaa, ..
unfoldable pub spelled : ℕ → List ℕ
spelled zero = codes "a"
spelled (suc k) = 97 ∷ spelled k

abbrev pub spelled_name : ℕ → Text
spelled_name k = record { bytes = spelled k }

-- the package of the k-th name, on a line of its own
abbrev pub kth_package : ℕ → Decl
kth_package k = package_at (suc k) (name k) [] []

-- package a { }
-- package aa { }
-- package aaa { }, and so on: n packages. This is a tree; a source with 4,097 such names is too long.
unfoldable pub many : ℕ → Program
many n = record {
  names = map spelled_name (range_with_len 0 n);
  texts = [];
  decls = map kth_package (range_with_len 0 n);
}

pub record ManyRows : Type 0 where
  -- of 4,097 packages the last one is the 4,097th path
  pub too_many : TreeRefuses (many 4097) (at_home rule.E13 (name 4096 ∷ []) (line 4097))
