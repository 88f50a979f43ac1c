-- What the form of a written type tells.
use Rattle.std.specs.Prelude.{ℕ, suc, List, [], ◌∷◌, ◌++◌, length, Bool, true, false, ◌&&◌, Option, Some, None}
use Rattle.jn_base.specs.declared.tree.Param.{Param}
use Rattle.jn_base.specs.declared.tree.TypeTerm.{TypeTerm}
use Rattle.jn_base.specs.declared.tree.TypeTerm.TheVariants as type
use Rattle.jn_code.specs.declared.instr.Instr.{Instr}
use Rattle.jn_agree.specs.Places.{testing}

-- the kind of its values
abbrev pub written_kind : TypeTerm → ℕ
written_kind type.Int = 1
written_kind type.Bool = 2
written_kind (type.Class ts ms) = 3

abbrev pub is_reference : TypeTerm → Bool
is_reference type.Int = false
is_reference type.Bool = false
is_reference (type.Class ts ms) = true

-- how many terms it has
abbrev pub written_terms : TypeTerm → ℕ
written_terms type.Int = 0
written_terms type.Bool = 0
written_terms (type.Class ts ms) = length ts

-- of a parameter
abbrev pub param_kind : Param → ℕ
param_kind x = written_kind x.ty

-- 0 of `void`
abbrev pub written_result : Option TypeTerm → ℕ
written_result None = 0
written_result (Some t) = written_kind t

-- the tests of the final parameters of class type, which are numbered from n on
abbrev pub param_tests : ℕ → List Param → List Instr
param_tests n [] = []
param_tests n (x ∷ xs) = testing (x.fixed && is_reference x.ty) n ++ param_tests (suc n) xs

-- Example: `base.Exp & base.Shown` is a reference, with two terms.
