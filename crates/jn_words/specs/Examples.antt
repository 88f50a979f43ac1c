-- Lines worked out.
use Rattle.std.specs.Prelude.{ℕ, ◌≡◌, List, [], ◌∷◌, codes, Option, Some, None}
use Rattle.jn_base.specs.declared.tree.Name.{Name}
use Rattle.jn_base.specs.declared.tree.Text.{Text}
use Rattle.jn_base.specs.declared.tree.Program.{Program}
use Rattle.jn_base.specs.declared.path.Path.{Path}
use Rattle.jn_base.specs.declared.refusal.Rule.{Rule}
use Rattle.jn_base.specs.declared.refusal.Rule.TheVariants as rule
use Rattle.jn_base.specs.declared.refusal.Limit.{Limit}
use Rattle.jn_base.specs.declared.refusal.Limit.TheVariants as limit
use Rattle.jn_words.specs.Line.{line_of}

abbrev pub text : List ℕ → Text
text w = record { bytes = w }

-- A program with the names d, E and n by their numbers.
abbrev pub program : Program
program = record { names = text (codes "d") ∷ text (codes "E") ∷ text (codes "n") ∷ []; texts = []; decls = [] }

abbrev pub called : ℕ → Name
called n = record { 0 = n }

-- d.E
abbrev pub inner : Path
inner = record { names = called 0 ∷ called 1 ∷ [] }

abbrev pub line : Option Program → Rule → (l c : ℕ) → Option Path → Option Name → Option Limit → List ℕ
line p why l c shown name most = line_of p (record { rule = why; at = record { line = l; column = c }; class = shown; member = name; limit = most })

pub record LineExamples : Type 0 where
  pub no_main : line None rule.E26 1 1 None None None ≡ codes "1:1: E26 NoMain\n"
  pub conflict : line (Some program) rule.E09 4 9 (Some inner) (Some (called 2)) None ≡ codes "4:9: E09 Conflict d.E n\n"
  pub cycle : line (Some program) rule.E08 3 9 (Some inner) None None ≡ codes "3:9: E08 Cycle d.E\n"
  pub nesting : line None rule.E04 1 231 None None (Some limit.Nesting) ≡ codes "1:231: E04 Limit nesting\n"
  pub duplicate : line (Some program) rule.E05 1 25 None (Some (called 2)) None ≡ codes "1:25: E05 Duplicate n\n"
