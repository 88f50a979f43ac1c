-- That each source has one verdict.
use Rattle.std.specs.Prelude.{ℕ, List}
use Rattle.jn_rules.specs.Verdict.{Verdict}
use Rattle.jn_rule_laws.specs.LawsOfRules.{HasOneVerdict}

-- A source is accepted or has one refusal, never both, and surely one of these is so.
abbrev pub SourcesHaveOneVerdict : Type 0
SourcesHaveOneVerdict = (bytes : List ℕ) → HasOneVerdict (Verdict bytes)
