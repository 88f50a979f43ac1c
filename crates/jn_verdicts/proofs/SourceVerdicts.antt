-- A source has one verdict.
use Rattle.std.proofs.Common.{◌≡◌, ◌⊎◌, inl, inr, ℕ, List, refl, sym, ap, ◌∙◌, subst}
use Rattle.std.specs.Prelude.{Result, Ok, Err}
use Rattle.jn_base.specs.declared.tree.Program.{Program}
use Rattle.jn_base.specs.declared.refusal.Refusal.{Refusal}
use Rattle.jn_base.specs.ProgramNames.{IsNamed}
use Rattle.jn_base.specs.Spelling.{IsTextRefused, IsTextOf}
use Rattle.jn_base.proofs.SpelledNames.{spelled_is_named}
use Rattle.jn_sources.specs.OneVerdict.{IsAnswered, OneTextVerdict}
use Rattle.jn_sources.proofs.Answered.{one_verdict}
use Rattle.jn_rules.specs.Plans.{Nothing}
use Rattle.jn_rules.specs.Verdict.{TreeVerdict, Verdict, of_text, of_tree}
use Rattle.jn_laws.specs.Surely.{Surely}
use Rattle.jn_rule_laws.specs.LawsOfRules.{HasOneVerdict}
use Rattle.jn_rule_laws.proofs.Verdicts.{one_tree}

abbrev Answer : Type 0
Answer = Result Nothing Refusal

abbrev refusing : Refusal → Answer
refusing r = Err r

module _ (bytes : List ℕ) where
  text : OneTextVerdict bytes
  text = one_verdict bytes

  named : (p : Program) → IsTextOf p bytes → IsNamed p
  named p t = spelled_is_named p bytes t.spelled

  source_once : (a b : Answer) → Verdict bytes a → Verdict bytes b → a ≡ b
  source_once a b (of_text r h e) (of_text s k f) = e ∙ ap refusing (text.refusal r s h k) ∙ sym f
  source_once a b (of_text r h e) (of_tree p t v) = absurd (text.not_both p r t h)
  source_once a b (of_tree p t v) (of_text r h e) = absurd (text.not_both p r t h)
  source_once a b (of_tree p t v) (of_tree q u w) =
      (one_tree q (named q u)).one a b (subst (λ (x : Program). TreeVerdict x a) (text.program p q t u) v) w

  by_text : IsAnswered bytes → Surely ((a : Answer) × Verdict bytes a)
  by_text (inl p) deny = (one_tree p.0 (named p.0 p.1)).there (λ a. deny (a.0, of_tree p.0 p.1 a.1))
  by_text (inr r) deny = deny (Err r.0, of_text r.0 r.1 refl)

  pub one_source : HasOneVerdict (Verdict bytes)
  one_source = record { one = source_once; there = λ deny. by_text text.answered deny }
