-- What is told of whole bodies.
use Rattle.std.specs.Prelude.{◌≡◌, [], Bool, true, false, Result, Ok, Err}
use Rattle.jn_base.specs.declared.tree.Name.{Name}
use Rattle.jn_base.specs.declared.tree.Program.{Program}
use Rattle.jn_base.specs.declared.names.Resolved.{Resolved}
use Rattle.jn_base.specs.declared.refusal.Refusal.{Refusal}
use Rattle.jn_base.specs.declared.refusal.Rule.TheVariants as rule
use Rattle.jn_base.specs.Paths.{Path, shown}
use Rattle.jn_sem.specs.Does.{Body}
use Rattle.jn_heads.specs.declared.fault.CheckFault.{CheckFault}
use Rattle.jn_heads.specs.declared.fault.CheckFault.TheVariants.{Refused, Memory}
use Rattle.jn_rules.specs.Questions.{Gives}
use Rattle.jn_rules.specs.Headers.{Header, header_typed}
use Rattle.jn_rules.specs.Stmts.{at_start, body_types}
use Rattle.jn_rules.specs.Resolved.{IsResolved}
use Rattle.jn_expr.specs.declared.env.Env.{Env}
use Rattle.jn_expr.specs.Passing.{Shows}
use Rattle.jn_expr.specs.Told.{refusal_at}
use Rattle.jn_check.specs.declared.body.Begun.{Begun}
use Rattle.jn_check.specs.States.{before_at, IsBefore}

-- nothing of the method of the declaration at C was typed yet
abbrev pub nothing_typed : Path → Name → Resolved
nothing_typed C m = record { class = shown C; method = m; terms = []; vars = []; members = []; kinds = [] }

-- the header of the body is typed; its parameters are in scope, and nothing of its statements was typed
pub record Begins (p : Program) (b : Body) (env : Env) (x : Begun) : Type 0 where
  pub header : Header
  pub typed : Gives p (header_typed b) (Ok header)
  pub start : before_at env x.at ≡ at_start b header
  pub result : Shows env.pool x.gives header.result
  pub before : IsBefore p b.class b.method.name.name env.pool env.vars.list x.at
  pub marks : env.marks ≡ nothing_typed b.class b.method.name.name

-- and so it is, or the header is refused; of want of memory nothing is said
abbrev pub BeginTold : Program → Body → Env → Result Begun CheckFault → Type 0
BeginTold p b env (Ok x) = Begins p b env x
BeginTold p b env (Err (Refused r)) = Gives p (header_typed b) (Err r)
BeginTold p b env (Err Memory) = Unit {0}

-- a body whose end can be reached although it has a result
abbrev pub unreturned : Body → Refusal
unreturned b = refusal_at rule.E23 b.method.name.at b.class b.method.name.name

-- The end of a body may be reached or not: these are its marks, or it is refused so; of want of memory nothing is said.
abbrev pub EndTold : Bool → Body → Resolved → Result Resolved CheckFault → Type 0
EndTold may b marks (Ok r) = (may ≡ true) × (r ≡ marks)
EndTold may b marks (Err (Refused r)) = (may ≡ false) × (r ≡ unreturned b)
EndTold may b marks (Err Memory) = Unit {0}

-- what is known of the body, or its first refusal; of want of memory nothing is said
abbrev pub BodyTold : Program → Body → Result Resolved CheckFault → Type 0
BodyTold p b (Ok r) = IsResolved p b r
BodyTold p b (Err (Refused r)) = Gives p (body_types b) (Err r)
BodyTold p b (Err Memory) = Unit {0}
