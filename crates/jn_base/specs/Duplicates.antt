-- The names that stand twice where they may stand once.
use Rattle.std.specs.Prelude.{◌≡◌, List, [], ◌∷◌, ◌++◌, map, Bool, true, false, ◌&&◌, nat_eq, Option, Some, None}
use Rattle.std.specs.List.{list_any}
use Rattle.jn_base.specs.declared.tree.Name.{Name}
use Rattle.jn_base.specs.declared.tree.Named.{Named}
use Rattle.jn_base.specs.declared.tree.Program.{Program}
use Rattle.jn_base.specs.declared.tree.Param.{Param}
use Rattle.jn_base.specs.declared.tree.Method.{Method}
use Rattle.jn_base.specs.declared.tree.Stmt.{Stmt, fold-Stmt}
use Rattle.jn_base.specs.declared.tree.Stmt.TheOpen.{Stmt-F}
use Rattle.jn_base.specs.declared.tree.Member.{Member, fold-Member}
use Rattle.jn_base.specs.declared.tree.Member.TheOpen.{Member-F, Decl-F}
use Rattle.jn_base.specs.declared.tree.Decl.{Decl, fold-Decl}
use Rattle.jn_base.specs.declared.path.Path.{Path as ShownPath}
use Rattle.jn_base.specs.declared.refusal.Refusal.{Refusal}
use Rattle.jn_base.specs.declared.refusal.Rule.TheVariants as rule
use Rattle.jn_base.specs.Paths.{Path, shown}

-- all of the list, or none of it
abbrev pub only_if : {A : Type 0} → Bool → List A → List A
only_if true xs = xs
only_if false xs = []

abbrev pub has_name : List Name → Name → Bool
has_name names x = list_any (λ y. nat_eq y.0 x.0) names

-- the names of a list that stand before in it, or in `seen`
abbrev pub seconds : List Name → List Named → List Named
seconds seen [] = []
seconds seen (n ∷ ns) = only_if (has_name seen n.name) (n ∷ []) ++ seconds (n.name ∷ seen) ns

-- ---- in a method: a second parameter of one name, a local with the name of a parameter or local in scope

-- What a statement has of this, by the names in scope before it, and the names that it brings into scope behind it.
pub record InStmt : Type 0 where
  pub found : List Name → List Named
  pub binds : List Name

-- in a block what a statement binds is in scope in those behind it
abbrev pub in_block : List InStmt → List Name → List Named
in_block [] scope = []
in_block (s ∷ ss) scope = s.found scope ++ in_block ss (s.binds ++ scope)

abbrev pub nothing : InStmt
nothing = record { found = λ scope. []; binds = [] }

abbrev pub stmt_step : Stmt-F InStmt → InStmt
stmt_step (Stmt-F.Block body) = record { found = in_block body; binds = [] }
stmt_step (Stmt-F.Local fixed ty name e) = record {
  found = λ scope. only_if (has_name scope name.name) (name ∷ []);
  binds = name.name ∷ [];
}
stmt_step (Stmt-F.Assign name e) = nothing
stmt_step (Stmt-F.Set of name e) = nothing
stmt_step (Stmt-F.Do e) = nothing
stmt_step (Stmt-F.If e body other at) = record { found = λ scope. in_block body scope ++ in_block other scope; binds = [] }
stmt_step (Stmt-F.While e body at) = record { found = in_block body; binds = [] }
stmt_step (Stmt-F.Return e at) = nothing
stmt_step (Stmt-F.Print e at) = nothing
stmt_step (Stmt-F.PrintText text at) = nothing

abbrev pub in_stmt : Stmt → InStmt
in_stmt = fold-Stmt InStmt stmt_step

abbrev pub param_name : Param → Named
param_name p = p.name

abbrev pub param_scope : List Param → List Name
param_scope [] = []
param_scope (p ∷ ps) = p.name.name ∷ param_scope ps

abbrev pub in_method : Method → List Named
in_method m = seconds [] (map param_name m.params) ++ in_block (map in_stmt m.body) (param_scope m.params)

-- ---- in a body: a second declaration, field or method of one name; each of the three has a name space of its own

pub data Space : Type 0 where
  of_decls : Space
  of_fields : Space
  of_methods : Space

abbrev pub same_space : Space → Space → Bool
same_space of_decls of_decls = true
same_space of_fields of_fields = true
same_space of_methods of_methods = true
same_space _ _ = false

pub record Given : Type 0 where
  pub space : Space
  pub name : Named

abbrev pub same_given : Given → Given → Bool
same_given a b = same_space a.space b.space && nat_eq a.name.name.0 b.name.name.0

abbrev pub refusal : Option ShownPath → Named → Refusal
refusal class n = record { rule = rule.E05; at = n.at; class = class; member = Some n.name; limit = None }

-- in the class R, which is shown
abbrev pub duplicate : Path → Named → Refusal
duplicate R n = refusal (Some (shown R)) n

-- What a member of a body gives, and what is found inside it, by the path of the body.
pub record InMember : Type 0 where
  pub given : Given
  pub inside : Path → List Refusal

-- the members of the body of R in order, behind those that give `before`
abbrev pub in_members : Path → List Given → List InMember → List Refusal
in_members R before [] = []
in_members R before (m ∷ ms) =
    only_if (list_any (same_given m.given) before) (duplicate R m.given.name ∷ [])
    ++ (m.inside R ++ in_members R (m.given ∷ before) ms)

-- The name of a declaration, and what is found inside it, by the path of its namespace.
pub record InDecl : Type 0 where
  pub name : Named
  pub inside : Path → List Refusal

abbrev pub member_step : Member-F InMember InDecl → InMember
member_step (Member-F.Inner d) = record { given = record { space = of_decls; name = d.name }; inside = d.inside }
member_step (Member-F.Slot f) = record { given = record { space = of_fields; name = f.name }; inside = λ R. [] }
member_step (Member-F.Body m) = record {
  given = record { space = of_methods; name = m.name };
  inside = λ R. map (duplicate R) (in_method m);
}

-- a second name in one list, then the body
abbrev pub in_lists : Path → List Named → List Named → List Named → List Refusal
in_lists R extends shares adapts = map (duplicate R) (seconds [] extends ++ (seconds [] shares ++ seconds [] adapts))

abbrev pub decl_step : Decl-F InMember InDecl → InDecl
decl_step d = record {
  name = d.name;
  inside = λ P. in_lists (d.name.name ∷ P) d.extends d.shares d.adapts ++ in_members (d.name.name ∷ P) [] d.members;
}

abbrev pub in_member : Member → InMember
in_member = fold-Member InMember InDecl member_step decl_step

abbrev pub in_decl : Decl → InDecl
in_decl = fold-Decl InMember InDecl member_step decl_step

-- the top-level declarations in order, behind those of the names `before`; a second one shows no class
abbrev pub in_decls : List Name → List InDecl → List Refusal
in_decls before [] = []
in_decls before (d ∷ ds) =
    only_if (has_name before d.name.name) (refusal None d.name ∷ [])
    ++ (d.inside [] ++ in_decls (d.name.name ∷ before) ds)

-- All the duplicates of a program in source order, each as its refusal: the place of the second name, the class of the
-- body, list or method in which both stand, the name. The first one is answered.
abbrev pub duplicates : Program → List Refusal
duplicates p = in_decls [] (map in_decl p.decls)

-- r is the first one
pub record IsFirstDuplicate (p : Program) (r : Refusal) : Type 0 where
  pub others : List Refusal
  pub is : duplicates p ≡ r ∷ others
