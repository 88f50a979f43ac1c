-- Soundness, and what it still takes for granted.
use Rattle.std.specs.Prelude.{◌≡◌, ℕ, suc, List, [], ◌∷◌, length, None}
use Rattle.jn_base.specs.declared.tree.Name.{Name}
use Rattle.jn_base.specs.declared.tree.Program.{Program}
use Rattle.jn_base.specs.declared.names.Var.{Var}
use Rattle.jn_base.specs.Paths.{Path}
use Rattle.jn_base.specs.Scopes.{Scope}
use Rattle.jn_sem.specs.Sharing.{IsClass}
use Rattle.jn_sem.specs.Does.{Body, IsBody}
use Rattle.jn_sem.specs.Acts.{stmts_acts}
use Rattle.jn_sem.specs.State.{Heap, Frame}
use Rattle.jn_sem.specs.Run.{Then, Run}
use Rattle.jn_rules.specs.Stmts.{body_in, at_start}
use Rattle.jn_base.specs.declared.types.Ty.TheVariants as ty
use Rattle.jn_base.specs.declared.tree.Expr.{Expr}
use Rattle.jn_base.specs.declared.tree.Stmt.{Stmt}
use Rattle.jn_sem.specs.Acts.{Todo, acts}
use Rattle.jn_rules.specs.Stmts.{In}
use Rattle.jn_sem.specs.declared.outcome.Outcome.{Outcome}
use Rattle.jn_sem.specs.declared.outcome.Outcome.TheVariants as outcome
use Rattle.jn_sem.specs.declared.outcome.Why.{Why}
use Rattle.jn_sound.specs.Takes.{opd, Typing, Takes}
use Rattle.jn_sound.specs.Steps.{DidAt}
use Rattle.jn_sem.specs.Acts.{Act, todo}
use Rattle.jn_sem.specs.Does.{Did, Does}
use Rattle.jn_sem.specs.Run.{Running, Charge, start, acting}
use Rattle.jn_sound.specs.Fit.{Narrowed, Fits, IsLoop}
use Rattle.jn_sound.specs.Sound.{HeapFits, SoundThen, Sound, StandsAt, body_of}
use Rattle.jn_rules.specs.Headers.{Header}
use Rattle.jn_rule_laws.specs.LawsOfHeaders.{IsHeader}
use Rattle.jn_laws.specs.Surely.{Surely}
use Rattle.jn_base.specs.WithinLimits.{IsWithinLimits}
use Rattle.jn_rules.specs.Verdict.{TreePasses}

-- What isn't proved, and is a premise of soundness today.
pub record Needs (p : Program) : Type 0 where
  -- a loop that is typed fits once more (by the lemmas on expressions and statements)
  pub loop_fits : (b : In) (vs : List Var) (s : Scope) (path : ℕ) (e : Expr) (body : List Stmt) (k : List Todo)
      → IsLoop p b vs s path e body
      → ((t : Scope) → Narrowed t s → Fits p b k vs t (opd ty.Bool None ∷ [])) → Fits p b
      (stmts_acts (length vs) path body (acts (length vs) e k)) vs s []
  -- each body of the program fits where it begins (by the lemma on statements)
  pub body_fits : (V : Path) (m : Name) (b : Body) (x : Header) → IsClass p V → IsBody p V m b → IsHeader p b x
      → Fits p (body_in b x) (stmts_acts (length x.vars) (suc (length x.vars)) b.method.body []) x.vars
      (at_start b x).scope []

-- A program within the limits that is accepted is never Stuck, from these premises.
abbrev pub SoundFrom : Type 0
SoundFrom =
    (p : Program) → IsWithinLimits p → TreePasses p → Needs p → (b a d : ℕ) (o : Outcome) (out : List ℕ) →
    Run p b a d o out → (w : Why) → o ≡ outcome.Stuck w → ⊥

-- ---- what it follows from

-- A program's first state is Sound, and each charge of a Sound state surely leads to a Sound state, or ends the run
-- and is not Stuck.
pub record StaysSound (p : Program) : Type 0 where
  pub first : Sound p start
  pub next : (capacity depth : ℕ) (s : Running) (x : Then) → Sound p s → Charge p capacity depth s x
      → Surely (SoundThen p x)

abbrev pub ChargesKeepSound : Type 0
ChargesKeepSound = (p : Program) → IsWithinLimits p → TreePasses p → Needs p → StaysSound p

-- One rule an act: where a frame stands as the act takes it, it surely does what leads to where it stands as the act
-- gives it.
abbrev pub ActsLeadOn : Type 0
ActsLeadOn =
    (p : Program) → IsWithinLimits p → TreePasses p → Needs p → (capacity : ℕ) (h : Heap) (f : Frame) (x : Header)
    (vs us : List Var)
    (a : Act) (k : List Todo) (t z : Typing) → Takes p (body_in (body_of f) x) vs a t us z → HeapFits p h →
    StandsAt p h f x vs t
    → (d : Did) → Does p capacity a (acting (todo (length vs) a) k f) h d → Surely (DidAt p h f x us k z d)
