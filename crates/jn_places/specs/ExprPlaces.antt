-- Which instructions are those of an expression, with the typing beside. They stand from one place of a code up to
-- another. Where the code depends on types, each part is asked for whatever the rules give to what stands before it
-- (there is one answer), and that says which selector, kind or operator it is.
use Rattle.std.specs.Prelude.{◌≡◌, ◌≤◌, ℕ, ◌+◌, ℤ, List, [], ◌∷◌, ◌++◌, length, Bool, true, Option, Some, None, Ok, slice_get}
use Rattle.jn_base.specs.declared.tree.Name.{Name}
use Rattle.jn_base.specs.declared.tree.Named.{Named}
use Rattle.jn_base.specs.declared.tree.Place.{Place}
use Rattle.jn_base.specs.declared.tree.Term.{Term}
use Rattle.jn_base.specs.declared.tree.ViewTerm.{ViewTerm}
use Rattle.jn_base.specs.declared.tree.Level.{Level}
use Rattle.jn_base.specs.declared.tree.Node.TheVariants as node
use Rattle.jn_base.specs.declared.tree.Expr.{Expr}
use Rattle.jn_base.specs.declared.tree.Link.{Link}
use Rattle.jn_base.specs.declared.tree.Suffix.{Suffix, out-Suffix}
use Rattle.jn_base.specs.declared.tree.Program.{Program}
use Rattle.jn_base.specs.declared.types.Ty.TheVariants as ty
use Rattle.jn_base.specs.declared.names.Var.{Var}
use Rattle.jn_base.specs.declared.names.Role.TheVariants as role
use Rattle.jn_base.specs.Parts.{expr}
use Rattle.jn_base.specs.Paths.{Path}
use Rattle.jn_base.specs.Atoms.{Atom}
use Rattle.jn_base.specs.Scopes.{Scope, bound}
use Rattle.jn_code.specs.declared.instr.Instr.{Instr}
use Rattle.jn_code.specs.declared.instr.Instr.TheVariants as ins
use Rattle.jn_code.specs.declared.image.Shape.{Shape}
use Rattle.jn_code.specs.declared.image.Code.{Code}
use Rattle.jn_sem.specs.NormalFunction.{normal_type}
use Rattle.jn_sem.specs.Terms.{TermIs, SuperBound, ViewIs}
use Rattle.jn_sem.specs.Does.{Body, IsBody, IsConstructorBody}
use Rattle.jn_rules.specs.Plans.{FoundField}
use Rattle.jn_rules.specs.Questions.{Gives, IsFoundField, IsMethodOf}
use Rattle.jn_rules.specs.Headers.{Header, header_typed}
use Rattle.jn_rules.specs.Exprs.{Here, site_here, Typed, plain, path_of, arg_passed, replaced_paths, operator_type, made_exact, fresh_with, expr_types}
use Rattle.jn_rules.specs.Forms.{part_types}
use Rattle.jn_agree.specs.Naming.{Naming}
use Rattle.jn_agree.specs.Rows.{FieldKind, IsShape, kind_of_type}
use Rattle.jn_agree.specs.Places.{At, Run, bit, newest, dropping, tuck, ClassCode, CtorCode, FieldOf, MethodOf, operator, Strict, IsDecide, deciding, decided_by, HasKind}

-- In a code of a body, where the expression stands at `h`; `scratch` is the first local above those of the method's own
-- variables.
module _ (p : Program) (n : Naming) (scratch : ℕ) (code : Code) (h : Here) where
  abbrev c : List Instr
  c = code.instrs

  mutual
    -- an expression in that scope, whose value is kept or not
    pub data ExprAt : Scope → (keeps : Bool) → Expr → ℕ → ℕ → Type 0 where
      at_number : (sc : Scope) (pl : Place) (z : ℤ) (s t : ℕ) → Run c (ins.Int z ∷ []) s t
          → ExprAt sc true (expr pl (node.Int z)) s t
      at_truth : (sc : Scope) (pl : Place) (b : Bool) (s t : ℕ) → Run c (ins.Bool (bit b) ∷ []) s t
          → ExprAt sc true (expr pl (node.Bool b)) s t
      at_null : (sc : Scope) (pl : Place) (s t : ℕ) → Run c (ins.Null ∷ []) s t → ExprAt sc true (expr pl node.Null) s t
      at_this : (sc : Scope) (pl : Place) (s t : ℕ) → Run c (ins.Load 0 ∷ []) s t
          → ExprAt sc true (expr pl node.This) s t
      at_var : (sc : Scope) (pl : Place) (x : Name) (y : Var) (s t : ℕ) → newest h.vars x ≡ Some y
          → Run c (ins.Load y.path ∷ []) s t → ExprAt sc true (expr pl (node.Var x)) s t
      -- the constructor is that of the bound, where it has one: then the arguments are typed by its header, with the
      -- object's fresh path for `this`, and the selector has its kinds; else there are none
      at_new : (sc : Scope) (keeps : Bool) (pl : Place) (t : Term) (es : List Expr) (x : Atom) (cls ctor : List Instr)
          (s m e : ℕ) → TermIs p role.New (site_here h) t x
          → ((b : Body) (k : Header) → IsConstructorBody p (bound sc x) b → Gives p (header_typed b) (Ok k)
          → ArgsAt (replaced_paths k.vars) k.vars es
          ((fresh_with (normal_type sc (made_exact x)) sc).path ∷ [])
          (fresh_with (normal_type sc (made_exact x)) sc).scope s m)
          → (((b : Body) → IsConstructorBody p (bound sc x) b → ⊥) → (es ≡ []) × (m ≡ s))
          -- its selector is of the shape of the constructor that typing finds
          → ((b : Body) (k : Header) (C : Name) (P : Path) (j : ℕ) (shape : Shape) → IsConstructorBody p (bound sc x) b
          → Gives p (header_typed b) (Ok k) → x.names ++ x.exact ≡ C ∷ P → MethodOf n C j shape
          → ctor ≡ ins.Ctor j ∷ [] → IsShape k.vars k.result shape)
          → ClassCode n x cls → CtorCode n x (length es) ctor
          → Run c (cls ++ ins.New ∷ (ctor ++ dropping keeps 3)) m e → ExprAt sc keeps (expr pl (node.New t es)) s e
      -- the first argument goes through a local of its kind, so that `this` comes below it
      at_super : (sc : Scope) (keeps : Bool) (pl : Place) (t : Term) (f : Named) (e : Expr) (es : List Expr)
          (B : Path) (q kind k j : ℕ) (kinds : List ℕ) (shape : Shape) (s l o m u : ℕ)
          → ExprAt sc true e s l → scratch ≤ q → HasKind code q kind → Run c (tuck q) l o
          → SuperBound p (site_here h) t B
          → ((b : Body) (k : Header) (x : Var) (xs : List Var) (y : Typed) → IsBody p B f.name b
          → Gives p (header_typed b) (Ok k) → k.vars ≡ x ∷ xs → Gives p (expr_types h e sc) (Ok y)
          → ArgsAt (replaced_paths k.vars) xs es
          (0 ∷ (arg_passed (replaced_paths k.vars) (0 ∷ []) x y).path ∷ [])
          (arg_passed (replaced_paths k.vars) (0 ∷ []) x y).scope o m)
          → ((b : Body) (k : Header) → IsBody p B f.name b → Gives p (header_typed b) (Ok k)
          → IsShape k.vars k.result shape)
          → slice_get n.classes k ≡ Some B → MethodOf n f.name j shape → shape.params ≡ kind ∷ kinds
          → length kinds ≡ length es → Run c (ins.Cls k ∷ ins.Callat j ∷ dropping keeps shape.result) m u
          → ExprAt sc keeps (expr pl (node.Super t f (e ∷ es))) s u
      at_bare_super : (sc : Scope) (keeps : Bool) (pl : Place) (t : Term) (f : Named) (B : Path) (k j : ℕ)
          (shape : Shape) (s u : ℕ) → SuperBound p (site_here h) t B
          → ((b : Body) (k : Header) → IsBody p B f.name b → Gives p (header_typed b) (Ok k)
          → IsShape k.vars k.result shape)
          → slice_get n.classes k ≡ Some B → MethodOf n f.name j shape → length shape.params ≡ 0
          → Run c (ins.Load 0 ∷ ins.Cls k ∷ ins.Callat j ∷ dropping keeps shape.result) s u
          → ExprAt sc keeps (expr pl (node.Super t f [])) s u
      at_post : (sc : Scope) (keeps : Bool) (pl : Place) (e : Expr) (xs : List Suffix) (s m t : ℕ)
          → ExprAt sc true e s m → ((x : Typed) → Gives p (expr_types h e sc) (Ok x) → PartsAt x keeps xs m t)
          → ExprAt sc keeps (expr pl (node.Post e xs)) s t
      at_not : (sc : Scope) (pl : Place) (e : Expr) (s m t : ℕ) → ExprAt sc true e s m → Run c (ins.Not ∷ []) m t
          → ExprAt sc true (expr pl (node.Not e)) s t
      at_neg : (sc : Scope) (pl : Place) (e : Expr) (s m t : ℕ) → ExprAt sc true e s m → Run c (ins.Neg ∷ []) m t
          → ExprAt sc true (expr pl (node.Neg e)) s t
      -- a view change is the class of its target and CONV
      at_view : (sc : Scope) (pl : Place) (v : ViewTerm) (e : Expr) (x : Atom) (cls : List Instr) (s m t : ℕ)
          → ExprAt sc true e s m → ViewIs p (site_here h) v x → ClassCode n x cls → Run c (cls ++ ins.Conv ∷ []) m t
          → ExprAt sc true (expr pl (node.View v e)) s t
      at_chain : (sc : Scope) (pl : Place) (level : Level) (e : Expr) (ls : List Link) (s m t : ℕ)
          → ExprAt sc true e s m → ((x : Typed) → Gives p (expr_types h e sc) (Ok x) → LinksAt x ls m t)
          → ExprAt sc true (expr pl (node.Chain level e ls)) s t

    -- arguments for these parameters: `from` are `this` and all parameters, `to` the paths that are known
    pub data ArgsAt : (from : List ℕ) → List Var → List Expr → (to : List ℕ) → Scope → ℕ → ℕ → Type 0 where
      no_args : (from to : List ℕ) (sc : Scope) (s t : ℕ) → t ≡ s → ArgsAt from [] [] to sc s t
      one_arg : (from : List ℕ) (x : Var) (xs : List Var) (e : Expr) (es : List Expr) (to : List ℕ) (sc : Scope)
          (s m t : ℕ) → ExprAt sc true e s m
          → ((y : Typed) → Gives p (expr_types h e sc) (Ok y) → ArgsAt from xs es
          (to ++ (arg_passed from to x y).path ∷ []) (arg_passed from to x y).scope m t)
          → ArgsAt from (x ∷ xs) (e ∷ es) to sc s t

    -- what stands behind a receiver that is typed so
    pub data PartsAt : Typed → (keeps : Bool) → List Suffix → ℕ → ℕ → Type 0 where
      no_parts : (x : Typed) (s t : ℕ) → t ≡ s → PartsAt x true [] s t
      last_part : (x : Typed) (keeps : Bool) (z : Suffix) (s t : ℕ)
          → PartAt x keeps (out-Suffix z).name.name (out-Suffix z).args s t → PartsAt x keeps (z ∷ []) s t
      one_part : (x : Typed) (keeps : Bool) (z w : Suffix) (ws : List Suffix) (s m t : ℕ)
          → PartAt x true (out-Suffix z).name.name (out-Suffix z).args s m
          → ((at : Place) (y : Typed) → Gives p (part_types h z at x) (Ok y) → PartsAt y keeps (w ∷ ws) m t)
          → PartsAt x keeps (z ∷ (w ∷ ws)) s t

    pub data PartAt : Typed → (keeps : Bool) → Name → Option (List Expr) → ℕ → ℕ → Type 0 where
      -- a masked field costs no instruction; kind 4 has the view that the receiver's family asks for
      at_field : (x : Typed) (f : Name) (j kind : ℕ) (s t : ℕ) → FieldOf n f j kind
          → ((k : FoundField) → IsFoundField p x.scope x.ty f k → FieldKind k.ty kind)
          → Run c (ins.Get j ∷ []) s t → PartAt x true f None s t
      at_call : (x : Typed) (keeps : Bool) (f : Name) (es : List Expr) (j : ℕ) (shape : Shape) (s m t : ℕ)
          → ((b : Body) (k : Header) → IsMethodOf p x.scope x.ty f b → Gives p (header_typed b) (Ok k)
          → ArgsAt (replaced_paths k.vars) k.vars es ((path_of x.ty x).path ∷ []) (path_of x.ty x).scope s m)
          → ((b : Body) (k : Header) → IsMethodOf p x.scope x.ty f b → Gives p (header_typed b) (Ok k)
          → IsShape k.vars k.result shape)
          → MethodOf n f j shape → length shape.params ≡ length es
          → Run c (ins.Call j ∷ dropping keeps shape.result) m t → PartAt x keeps f (Some es) s t

    -- the operators of a chain, behind a left operand that is typed so
    pub data LinksAt : Typed → List Link → ℕ → ℕ → Type 0 where
      no_links : (x : Typed) (s t : ℕ) → t ≡ s → LinksAt x [] s t
      -- `==` and `!=` by the kind of the right operand
      one_link : (x : Typed) (l : Link) (ls : List Link) (kind : ℕ) (s m o t : ℕ) → Strict l.op
          → ExprAt x.scope true l.right s m
          → ((y : Typed) → Gives p (expr_types h l.right x.scope) (Ok y) → kind ≡ kind_of_type y.ty)
          → Run c (operator l.op kind) m o
          → ((y : Typed) → Gives p (expr_types h l.right x.scope) (Ok y) → LinksAt
          (plain (operator_type l.op) y.scope) ls o t)
          → LinksAt x (l ∷ ls) s t
      one_deciding : (x : Typed) (l : Link) (ls : List Link) (and : Bool) (s m u t : ℕ) → IsDecide l.op and
          → At c s (deciding and (m + 1)) → ExprAt x.scope true l.right (s + 1) m → At c m (ins.Jump u)
          → Run c (decided_by and ∷ []) (m + 1) u
          → ((y : Typed) → Gives p (expr_types h l.right x.scope) (Ok y) → LinksAt (plain ty.Bool y.scope) ls u t)
          → LinksAt x (l ∷ ls) s t

-- Example: `a.f` with a final parameter a of class type, number 1, is LOAD 1 and GET of the selector that has the name f
-- and the kind of the field that the rules find at a's type.
