-- That each question has one reply, each plan one answer, and each program one verdict.
use Rattle.std.specs.Prelude.{◌≡◌, List, [], Result}
use Rattle.jn_base.specs.declared.tree.Program.{Program}
use Rattle.jn_base.specs.declared.refusal.Refusal.{Refusal}
use Rattle.jn_base.specs.Duplicates.{duplicates}
use Rattle.jn_base.specs.TableRules.{DeclarationsPass}
use Rattle.jn_rules.specs.Plans.{Query, Reply, Mark, Plan, Nothing}
use Rattle.jn_rules.specs.Questions.{Means, Gives, Notes}
use Rattle.jn_rules.specs.Verdict.{HeadersVerdict, TreeVerdict}
use Rattle.jn_laws.specs.Surely.{Surely}
use Rattle.jn_base.specs.ProgramNames.{IsNamed}

-- Each question surely has a reply: it can't be that there is none.
abbrev pub QuestionsHaveReplies : Type 0
QuestionsHaveReplies = (p : Program) (q : Query) → Surely ((a : Reply q) × Means p q a)

-- And it has one at most, where no name stands twice and the class table passes.
abbrev pub QuestionsHaveOneReply : Type 0
QuestionsHaveOneReply =
    (p : Program) → DeclarationsPass p → IsNamed p → (q : Query) (a b : Reply q) → Means p q a → Means p q b → a ≡ b

-- So a plan surely gives an answer or a refusal,
abbrev pub PlansGive : Type 0 → Type 0
PlansGive A = (p : Program) (x : Plan A) → Surely ((o : Result A Refusal) × Gives p x o)

-- and there one of these at most, never both. The marks on the way to an answer are one list.
pub record OneOutcome {A : Type 0} (p : Program) (x : Plan A) : Type 0 where
  pub one : (a b : Result A Refusal) → Gives p x a → Gives p x b → a ≡ b
  pub marks : (ms ns : List Mark) (a b : A) → Notes p x ms a → Notes p x ns b → ms ≡ ns

abbrev pub PlansHaveOneOutcome : Type 0 → Type 0
PlansHaveOneOutcome A = (p : Program) → DeclarationsPass p → IsNamed p → (x : Plan A) → OneOutcome p x

-- Of verdicts there is one at most, which is Ok or a refusal, and surely one.
pub record HasOneVerdict (Is : Result Nothing Refusal → Type 0) : Type 0 where
  pub one : (a b : Result Nothing Refusal) → Is a → Is b → a ≡ b
  pub there : Surely ((a : Result Nothing Refusal) × Is a)

-- of the headers of a program, where no name stands twice
abbrev pub HeadersHaveOneVerdict : Type 0
HeadersHaveOneVerdict = (p : Program) → duplicates p ≡ [] → IsNamed p → HasOneVerdict (HeadersVerdict p)

-- of a program
abbrev pub TreesHaveOneVerdict : Type 0
TreesHaveOneVerdict = (p : Program) → IsNamed p → HasOneVerdict (TreeVerdict p)
