-- How calls, fields behind a receiver and new objects stand, where their parts were emitted one behind another.
use Rattle.std.specs.Prelude.{◌≡◌, ◌++◌, ℕ, List, [], ◌∷◌, length, Bool, true, Option, Some, None, Ok, slice_get}
use Rattle.jn_base.specs.declared.tree.Name.{Name}
use Rattle.jn_base.specs.declared.tree.Named.{Named}
use Rattle.jn_base.specs.declared.tree.Place.{Place}
use Rattle.jn_base.specs.declared.tree.Term.{Term}
use Rattle.jn_base.specs.declared.tree.Node.TheVariants as node
use Rattle.jn_base.specs.declared.tree.Expr.{Expr}
use Rattle.jn_base.specs.declared.tree.Suffix.{Suffix, out-Suffix}
use Rattle.jn_base.specs.declared.tree.Program.{Program}
use Rattle.jn_base.specs.declared.names.Var.{Var}
use Rattle.jn_base.specs.declared.names.Role.TheVariants as role
use Rattle.jn_base.specs.Parts.{expr}
use Rattle.jn_base.specs.Paths.{Path}
use Rattle.jn_base.specs.Atoms.{Atom}
use Rattle.jn_base.specs.Scopes.{Scope, bound}
use Rattle.jn_code.specs.declared.instr.Instr.{Instr}
use Rattle.jn_code.specs.declared.instr.Instr.TheVariants as ins
use Rattle.jn_code.specs.declared.image.Shape.{Shape}
use Rattle.jn_code.specs.declared.image.Code.{Code}
use Rattle.jn_sem.specs.NormalFunction.{normal_type}
use Rattle.jn_sem.specs.Terms.{TermIs, SuperBound}
use Rattle.jn_sem.specs.Does.{Body, IsBody, IsConstructorBody}
use Rattle.jn_rules.specs.Plans.{FoundField}
use Rattle.jn_rules.specs.Questions.{Gives, IsFoundField, IsMethodOf}
use Rattle.jn_rules.specs.Headers.{Header, header_typed}
use Rattle.jn_rules.specs.Exprs.{Here, site_here, Typed, path_of, arg_passed, replaced_paths, made_exact, fresh_with, expr_types}
use Rattle.jn_rules.specs.Forms.{part_types}
use Rattle.jn_agree.specs.Naming.{Naming}
use Rattle.jn_agree.specs.Rows.{FieldKind, IsShape}
use Rattle.jn_agree.specs.Places.{dropping, tuck, ClassCode, CtorCode, FieldOf, MethodOf}
use Rattle.jn_places.specs.ExprPlaces.{ArgsAt, PartsAt, PartAt}
use Rattle.jn_lower.specs.declared.emitter.Emitter.{Emitter}
use Rattle.jn_lower.specs.Emitted.{Emitted, Adds, IsSpare}
use Rattle.jn_lower.specs.Forms.{Value}

-- ---- arguments

-- arguments for these parameters
abbrev pub Args : Program → Naming → ℕ → Here → List ℕ → List Var → List Expr → List ℕ → Scope → Code → ℕ → ℕ → Type 0
Args p n scratch h from xs es to sc c s t = ArgsAt p n scratch c h from xs es to sc s t

-- the arguments behind an argument
abbrev pub ArgsBehind : Program → Naming → ℕ → Here → List ℕ → Var → List Var → Expr → List Expr → List ℕ → Scope
    → Code → ℕ → ℕ → Type 0
ArgsBehind p n scratch h from x xs e es to sc c s t =
    (y : Typed) → Gives p (expr_types h e sc) (Ok y)
    → ArgsAt p n scratch c h from xs es (to ++ (arg_passed from to x y).path ∷ []) (arg_passed from to x y).scope s t

abbrev pub NoArgsStand : Type 0
NoArgsStand =
    (p : Program) (n : Naming) (scratch : ℕ) (h : Here) (from to : List ℕ) (sc : Scope) (c0 : Emitter)
    → Emitted (Args p n scratch h from [] [] to sc) c0 c0

abbrev pub OneArgStands : Type 0
OneArgStands =
    (p : Program) (n : Naming) (scratch : ℕ) (h : Here) (from : List ℕ) (x : Var) (xs : List Var) (e : Expr)
    (es : List Expr) (to : List ℕ) (sc : Scope) (c0 c1 new : Emitter)
    → Emitted (Value p n scratch h sc true e) c0 c1
    → Emitted (ArgsBehind p n scratch h from x xs e es to sc) c1 new
    → Emitted (Args p n scratch h from (x ∷ xs) (e ∷ es) to sc) c0 new

-- ---- what stands behind a receiver

abbrev pub Parts : Program → Naming → ℕ → Here → Typed → Bool → List Suffix → Code → ℕ → ℕ → Type 0
Parts p n scratch h x keeps zs c s t = PartsAt p n scratch c h x keeps zs s t

abbrev pub Part : Program → Naming → ℕ → Here → Typed → Bool → Name → Option (List Expr) → Code → ℕ → ℕ → Type 0
Part p n scratch h x keeps f args c s t = PartAt p n scratch c h x keeps f args s t

-- behind this receiver
abbrev pub PartsBehind : Program → Naming → ℕ → Here → Scope → Expr → Bool → List Suffix → Code → ℕ → ℕ → Type 0
PartsBehind p n scratch h sc e keeps zs c s t =
    (x : Typed) → Gives p (expr_types h e sc) (Ok x) → PartsAt p n scratch c h x keeps zs s t

-- behind this part
abbrev pub PartsBehindPart : Program → Naming → ℕ → Here → Typed → Bool → Suffix → List Suffix → Code → ℕ → ℕ → Type 0
PartsBehindPart p n scratch h x keeps z zs c s t =
    (at : Place) (y : Typed) → Gives p (part_types h z at x) (Ok y) → PartsAt p n scratch c h y keeps zs s t

abbrev pub PostStands : Type 0
PostStands =
    (p : Program) (n : Naming) (scratch : ℕ) (h : Here) (sc : Scope) (keeps : Bool) (pl : Place) (e : Expr)
    (zs : List Suffix) (c0 c1 new : Emitter) → Emitted (Value p n scratch h sc true e) c0 c1
    → Emitted (PartsBehind p n scratch h sc e keeps zs) c1 new
    → Emitted (Value p n scratch h sc keeps (expr pl (node.Post e zs))) c0 new

abbrev pub NoPartsStand : Type 0
NoPartsStand =
    (p : Program) (n : Naming) (scratch : ℕ) (h : Here) (x : Typed) (c0 : Emitter)
    → Emitted (Parts p n scratch h x true []) c0 c0

abbrev pub LastPartStands : Type 0
LastPartStands =
    (p : Program) (n : Naming) (scratch : ℕ) (h : Here) (x : Typed) (keeps : Bool) (z : Suffix) (c0 new : Emitter)
    → Emitted (Part p n scratch h x keeps (out-Suffix z).name.name (out-Suffix z).args) c0 new
    → Emitted (Parts p n scratch h x keeps (z ∷ [])) c0 new

abbrev pub OnePartStands : Type 0
OnePartStands =
    (p : Program) (n : Naming) (scratch : ℕ) (h : Here) (x : Typed) (keeps : Bool) (z w : Suffix) (ws : List Suffix)
    (c0 c1 new : Emitter)
    → Emitted (Part p n scratch h x true (out-Suffix z).name.name (out-Suffix z).args) c0 c1
    → Emitted (PartsBehindPart p n scratch h x keeps z (w ∷ ws)) c1 new
    → Emitted (Parts p n scratch h x keeps (z ∷ (w ∷ ws))) c0 new

-- a field is GET of the selector that has its kind
abbrev pub FieldStands : Type 0
FieldStands =
    (p : Program) (n : Naming) (scratch : ℕ) (h : Here) (x : Typed) (f : Name) (j kind : ℕ) (c0 new : Emitter)
    → FieldOf n f j kind → ((k : FoundField) → IsFoundField p x.scope x.ty f k → FieldKind k.ty kind)
    → Adds (ins.Get j ∷ []) c0 new → Emitted (Part p n scratch h x true f None) c0 new

-- the arguments of a call, by the header of the body that typing finds
abbrev pub CallArgs : Program → Naming → ℕ → Here → Typed → Name → List Expr → Code → ℕ → ℕ → Type 0
CallArgs p n scratch h x f es c s t =
    (b : Body) (k : Header) → IsMethodOf p x.scope x.ty f b → Gives p (header_typed b) (Ok k)
    → ArgsAt p n scratch c h (replaced_paths k.vars) k.vars es ((path_of x.ty x).path ∷ []) (path_of x.ty x).scope s t

-- a call is its arguments, and CALL of the selector that has the shape
abbrev pub CallStands : Type 0
CallStands =
    (p : Program) (n : Naming) (scratch : ℕ) (h : Here) (x : Typed) (keeps : Bool) (f : Name) (es : List Expr) (j : ℕ)
    (shape : Shape) (c0 c1 new : Emitter) → Emitted (CallArgs p n scratch h x f es) c0 c1
    → ((b : Body) (k : Header) → IsMethodOf p x.scope x.ty f b → Gives p (header_typed b) (Ok k)
    → IsShape k.vars k.result shape) → MethodOf n f j shape → length shape.params ≡ length es
    → Adds (ins.Call j ∷ dropping keeps shape.result) c1 new
    → Emitted (Part p n scratch h x keeps f (Some es)) c0 new

-- ---- new objects

-- the arguments of the constructor, by its header, with the object's fresh path for `this`; none where there is none
pub record NewArgs (p : Program) (n : Naming) (scratch : ℕ) (h : Here) (sc : Scope) (x : Atom) (es : List Expr)
    (c : Code) (s t : ℕ) : Type 0 where
  pub by : (b : Body) (k : Header) → IsConstructorBody p (bound sc x) b → Gives p (header_typed b) (Ok k)
      → ArgsAt p n scratch c h (replaced_paths k.vars) k.vars es
      ((fresh_with (normal_type sc (made_exact x)) sc).path ∷ []) (fresh_with (normal_type sc (made_exact x)) sc).scope
      s t
  pub without : ((b : Body) → IsConstructorBody p (bound sc x) b → ⊥) → (es ≡ []) × (t ≡ s)

-- a new object is the arguments, the class, NEW, and CTOR of the constructor's selector where there is one
abbrev pub NewStands : Type 0
NewStands =
    (p : Program) (n : Naming) (scratch : ℕ) (h : Here) (sc : Scope) (keeps : Bool) (pl : Place) (t : Term)
    (es : List Expr) (x : Atom) (cls ctor : List Instr) (c0 c1 new : Emitter)
    → Emitted (NewArgs p n scratch h sc x es) c0 c1 → TermIs p role.New (site_here h) t x
    → ((b : Body) (k : Header) (C : Name) (P : Path) (j : ℕ) (shape : Shape) → IsConstructorBody p (bound sc x) b
    → Gives p (header_typed b) (Ok k) → x.names ++ x.exact ≡ C ∷ P → MethodOf n C j shape
    → ctor ≡ ins.Ctor j ∷ [] → IsShape k.vars k.result shape)
    → ClassCode n x cls → CtorCode n x (length es) ctor
    → Adds (cls ++ ins.New ∷ (ctor ++ dropping keeps 3)) c1 new
    → Emitted (Value p n scratch h sc keeps (expr pl (node.New t es))) c0 new

-- ---- super

-- `this` is brought below the value on top, by way of the scratch local of that kind
pub record Tucks (kind : ℕ) (old new : Emitter) : Type 0 where
  pub mid : Emitter
  pub number : ℕ
  pub spare : IsSpare kind old mid number
  pub added : Adds (tuck number) mid new

-- the further arguments of a `super` call, behind the first one
abbrev pub SuperArgs : Program → Naming → ℕ → Here → Scope → Name → Path → Expr → List Expr → Code → ℕ → ℕ → Type 0
SuperArgs p n scratch h sc f B e es c s t =
    (b : Body) (k : Header) (x : Var) (xs : List Var) (y : Typed) → IsBody p B f b
    → Gives p (header_typed b) (Ok k) → k.vars ≡ x ∷ xs → Gives p (expr_types h e sc) (Ok y)
    → ArgsAt p n scratch c h (replaced_paths k.vars) xs es
    (0 ∷ (arg_passed (replaced_paths k.vars) (0 ∷ []) x y).path ∷ [])
    (arg_passed (replaced_paths k.vars) (0 ∷ []) x y).scope s t

-- `super` with arguments: the first one, `this` brought below it, the others, and CALLAT at the class of the term
abbrev pub SuperStands : Type 0
SuperStands =
    (p : Program) (n : Naming) (scratch : ℕ) (h : Here) (sc : Scope) (keeps : Bool) (pl : Place) (t : Term) (f : Named)
    (e : Expr) (es : List Expr) (B : Path) (kind k j : ℕ) (kinds : List ℕ) (shape : Shape) (c0 c1 c2 c3 new : Emitter)
    → Emitted (Value p n scratch h sc true e) c0 c1 → c1.locals.scratch ≡ scratch → Tucks kind c1 c2
    → SuperBound p (site_here h) t B → Emitted (SuperArgs p n scratch h sc f.name B e es) c2 c3
    → ((b : Body) (k : Header) → IsBody p B f.name b → Gives p (header_typed b) (Ok k)
    → IsShape k.vars k.result shape)
    → slice_get n.classes k ≡ Some B → MethodOf n f.name j shape → shape.params ≡ kind ∷ kinds
    → length kinds ≡ length es → Adds (ins.Cls k ∷ ins.Callat j ∷ dropping keeps shape.result) c3 new
    → Emitted (Value p n scratch h sc keeps (expr pl (node.Super t f (e ∷ es)))) c0 new

-- `super` without arguments
abbrev pub BareSuperStands : Type 0
BareSuperStands =
    (p : Program) (n : Naming) (scratch : ℕ) (h : Here) (sc : Scope) (keeps : Bool) (pl : Place) (t : Term) (f : Named)
    (B : Path) (k j : ℕ) (shape : Shape) (c0 new : Emitter) → SuperBound p (site_here h) t B
    → ((b : Body) (k : Header) → IsBody p B f.name b → Gives p (header_typed b) (Ok k)
    → IsShape k.vars k.result shape)
    → slice_get n.classes k ≡ Some B → MethodOf n f.name j shape → length shape.params ≡ 0
    → Adds (ins.Load 0 ∷ ins.Cls k ∷ ins.Callat j ∷ dropping keeps shape.result) c0 new
    → Emitted (Value p n scratch h sc keeps (expr pl (node.Super t f []))) c0 new

-- Example: `a.m(1)` is `a`, INT 1 and CALL of the selector with the name m and the kinds of the method that the rules
-- find at a's type.
