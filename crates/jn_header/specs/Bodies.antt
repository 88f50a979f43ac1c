-- The declared bodies of a program, each with its header and with what its constraints stand for.
use Rattle.std.specs.Prelude.{◌≡◌, ℕ, nat_eq, List, [], Contains, slice_get, Option, Some, None, Result, Ok, Err}
use Rattle.indexmap.specs.IndexMap.{get}
use Rattle.jn_reach.specs.Each.{Each}
use Rattle.jn_base.specs.declared.tree.Name.{Name}
use Rattle.jn_base.specs.declared.tree.Method.{Method}
use Rattle.jn_base.specs.declared.tree.Program.{Program}
use Rattle.jn_base.specs.declared.path.Path.{Path as ShownPath}
use Rattle.jn_base.specs.Paths.{Path}
use Rattle.jn_base.specs.Duplicates.{duplicates}
use Rattle.jn_base.specs.Members.{MethodAt}
use Rattle.jn_base.specs.TableRules.{DeclarationsPass}
use Rattle.jn_table.specs.declared.class.ClassId.{ClassId}
use Rattle.jn_table.specs.declared.table.Table.{Table}
use Rattle.jn_table.specs.Rows.{IsNumber}
use Rattle.jn_names.specs.Members.{IsMembersOf}
use Rattle.jn_sem.specs.Does.{Body, IsBody}
use Rattle.jn_heads.specs.declared.fault.CheckFault.{CheckFault}
use Rattle.jn_heads.specs.declared.fault.CheckFault.TheVariants.{Refused, Memory}
use Rattle.jn_heads.specs.Places.{IsReady}
use Rattle.jn_heads.specs.Sides.{IsPledge}
use Rattle.jn_rules.specs.Questions.{Gives}
use Rattle.jn_rules.specs.Headers.{Header, header_typed}
use Rattle.jn_rules.specs.Members.{Signature, signature}
use Rattle.jn_rules.specs.Verdict.{TypesPass}
use Rattle.jn_header.specs.declared.bodies.BodyHead.{BodyHead}
use Rattle.jn_header.specs.declared.bodies.HeadRow.{HeadRow}
use Rattle.jn_header.specs.declared.bodies.Bodies.{Bodies}

-- ---- what is judged before

-- No name of p stands twice, its universe is filled in the table, and its class table and its headers pass.
pub record IsJudged (p : Program) (t : Table) (names : List Name) : Type 0 where
  pub ready : IsReady p t names
  pub once : duplicates p ≡ []
  pub types : TypesPass p

-- the answer is one of which T holds, or memory ran out
abbrev pub OrMemory : {B : Type 0} → (B → Type 0) → Result B CheckFault → Type 0
OrMemory T (Ok x) = T x
OrMemory T (Err (Refused r)) = ⊥
OrMemory T (Err Memory) = Unit {0}

-- ---- the heads of bodies

abbrev pub body_at : Path → Method → Body
body_at R m = record { class = R; method = m }

abbrev pub head_header : BodyHead → Header
head_header x = record { vars = x.vars.list; result = x.result }

abbrev pub head_signature : BodyHead → Signature
head_signature x = signature (head_header x)

-- x is the head of the body: its name with the place, its header, and what each of its constraints stands for, in order
pub record IsHeadOf (p : Program) (b : Body) (x : BodyHead) : Type 0 where
  pub name : x.name ≡ b.method.name
  pub header : Gives p (header_typed b) (Ok (head_header x))
  pub pledges : Each (IsPledge p b.class b.method.name.name) b.method.sharing x.pledges.items

abbrev pub HeadAt : Program → Path → Method → BodyHead → Type 0
HeadAt p R m x = IsHeadOf p (body_at R m) x

-- the heads of all methods that the declaration at R has, and no others
pub record AreHeads (p : Program) (R : Path) (row : List BodyHead) : Type 0 where
  pub each : (x : BodyHead) → Contains row x → (m : Method) × MethodAt p R m.name.name m × HeadAt p R m x
  pub all : (n : Name) (m : Method) → MethodAt p R n m → (x : BodyHead) × Contains row x × HeadAt p R m x

-- by a number a place is found where a head has the name of this number, and by that of each head's name one is found
pub record ArePlaced (heads : List BodyHead) (find : ℕ → Option ℕ) : Type 0 where
  pub sound : (n k : ℕ) → find n ≡ Some k → (x : BodyHead) × (slice_get heads k ≡ Some x) × (x.name.name.0 ≡ n)
  pub complete : (x : BodyHead) → Contains heads x → (k : ℕ) × (find x.name.name.0 ≡ Some k)

pub record HeadRowAt (p : Program) (rows : List HeadRow) (id : ClassId) (R : Path) : Type 0 where
  pub row : HeadRow
  pub at : slice_get rows id.0 ≡ Some row
  pub are : AreHeads p R row.heads.items
  pub placed : ArePlaced row.heads.items (get nat_eq row.places)

-- the row of each number has the heads of its path
abbrev pub AreHeadRows : Program → List ShownPath → List HeadRow → Type 0
AreHeadRows p known rows = (id : ClassId) (R : Path) → IsNumber known id R → HeadRowAt p rows id R

-- the least declarations and the heads of p, whose declarations pass and whose universe is filled in the table
pub record AreBodies (p : Program) (t : Table) (b : Bodies) : Type 0 where
  pub declarations : DeclarationsPass p
  pub members : IsMembersOf p t b.members
  pub rows : AreHeadRows p t.known.items b.rows.items

-- ---- what is found

-- a head with this name, or none where there is none
abbrev pub FindsHead : List BodyHead → Name → Option BodyHead → Type 0
FindsHead row n (Some x) = Contains row x × (x.name.name ≡ n)
FindsHead row n None = (x : BodyHead) → Contains row x → x.name.name ≡ n → ⊥

-- the head of the method n that the declaration at R has
abbrev pub HeadIs : Program → Path → Name → Option BodyHead → Type 0
HeadIs p R n (Some x) = (m : Method) × MethodAt p R n m × HeadAt p R m x
HeadIs p R n None = (m : Method) → MethodAt p R n m → ⊥

-- the head of the least body of n at R
abbrev pub LeastHeadIs : Program → Path → Name → Option BodyHead → Type 0
LeastHeadIs p R n (Some x) = (b : Body) × IsBody p R n b × IsHeadOf p b x
LeastHeadIs p R n None = (b : Body) → IsBody p R n b → ⊥

-- of whatever program the bodies are, this is so of the path of the number
abbrev pub SaysOf : Bodies → ClassId → (Program → Path → Type 0) → Type 0
SaysOf b id T = (p : Program) (t : Table) (R : Path) → AreBodies p t b → IsNumber t.known.items id R → T p R

-- Example: of `class C { int m(final A p) { .. } int n() { .. } }` the row has two heads, that of m with the type of p as path 1.
