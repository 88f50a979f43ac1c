-- Declarations and programs as they are written: each without its indentation and the line feed at its end.
use Rattle.std.specs.Prelude.{ℕ, false, List, [], ◌∷◌, ◌++◌, map, Option, Some, None, codes}
use Rattle.jn_base.specs.declared.tree.Text.{Text}
use Rattle.jn_base.specs.declared.tree.Named.{Named}
use Rattle.jn_base.specs.declared.tree.Kind.{Kind}
use Rattle.jn_base.specs.declared.tree.Kind.TheVariants as kind
use Rattle.jn_base.specs.declared.tree.TypeTerm.{TypeTerm}
use Rattle.jn_base.specs.declared.tree.Param.{Param}
use Rattle.jn_base.specs.declared.tree.Constraint.{Constraint}
use Rattle.jn_base.specs.declared.tree.Field.{Field}
use Rattle.jn_base.specs.declared.tree.Method.{Method}
use Rattle.jn_base.specs.declared.tree.Program.{Program}
use Rattle.jn_base.specs.declared.tree.Decl.{Decl, fold-Decl}
use Rattle.jn_base.specs.declared.tree.Member.{Member, fold-Member}
use Rattle.jn_base.specs.declared.tree.Member.TheOpen.{Member-F, Decl-F}
use Rattle.jn_printer.specs.Pieces.{text_if, joined, name_text, names_text, type_text, view_text}
use Rattle.jn_printer.specs.StmtText.{Indented, lines, braced, body_text}

abbrev pub kind_text : Kind → List ℕ
kind_text kind.Class = codes "class "
kind_text kind.Package = codes "package "

-- a list of names behind its word; left out where there are none
abbrev pub list_text : List Text → List ℕ → List Named → List ℕ
list_text ns word [] = []
list_text ns word (x ∷ xs) = word ++ names_text ns (x ∷ xs)

-- T f;
abbrev pub field_text : List Text → Field → List ℕ
field_text ns f = type_text ns f.ty ++ (codes " " ++ (name_text ns f.name.name ++ codes ";"))

abbrev pub result_text : List Text → Option TypeTerm → List ℕ
result_text ns None = codes "void"
result_text ns (Some ty) = type_text ns ty

-- final T a
abbrev pub param_text : List Text → Param → List ℕ
param_text ns p = text_if p.fixed (codes "final ") ++ (type_text ns p.ty ++ (codes " " ++ name_text ns p.name.name))

-- S -> T
abbrev pub constraint_text : List Text → Constraint → List ℕ
constraint_text ns c = view_text ns c.from ++ (codes " -> " ++ view_text ns c.to)

abbrev pub sharing_text : List Text → List Constraint → List ℕ
sharing_text ns [] = []
sharing_text ns (c ∷ cs) = codes " sharing " ++ joined (constraint_text ns) (codes ", ") false (c ∷ cs)

-- (final T a, T b)
unfoldable pub params_text : List Text → List Param → List ℕ
params_text ns ps = codes "(" ++ (joined (param_text ns) (codes ", ") false ps ++ codes ")")

-- R m(final T a, T b) sharing S -> T, S -> T
unfoldable pub signature_text : List Text → Method → List ℕ
signature_text ns m =
    result_text ns m.result ++ (codes " " ++ (name_text ns m.name.name ++ (params_text ns m.params ++ sharing_text ns m.sharing)))

abbrev pub method_text : (names texts : List Text) → Method → Indented
method_text ns ts m indent = signature_text ns m ++ (codes " " ++ body_text ns ts m.body indent)

-- class N extends A & B shares X adapts Y
unfoldable pub heading_text : List Text → Kind → Named → (extended shared adapted : List Named) → List ℕ
heading_text ns k x extended shared adapted =
    kind_text k ++ (name_text ns x.name ++ (list_text ns (codes " extends ") extended
    ++ (list_text ns (codes " shares ") shared ++ list_text ns (codes " adapts ") adapted)))

abbrev pub member_step : (names texts : List Text) → Member-F Indented Indented → Indented
member_step ns ts (Member-F.Inner d) indent = d indent
member_step ns ts (Member-F.Slot f) indent = field_text ns f
member_step ns ts (Member-F.Body m) indent = method_text ns ts m indent

abbrev pub decl_step : (names texts : List Text) → Decl-F Indented Indented → Indented
decl_step ns ts d indent =
    heading_text ns d.kind d.name d.extends d.shares d.adapts ++ (codes " " ++ braced indent d.members)

unfoldable pub member_text : (names texts : List Text) → Member → Indented
member_text ns ts = fold-Member Indented Indented (member_step ns ts) (decl_step ns ts)

unfoldable pub decl_text : (names texts : List Text) → Decl → Indented
decl_text ns ts = fold-Decl Indented Indented (member_step ns ts) (decl_step ns ts)

-- The canonical text of a program: its declarations, each on lines of its own.
abbrev pub program_text : Program → List ℕ
program_text p = lines [] (map (decl_text p.names p.texts) p.decls)
