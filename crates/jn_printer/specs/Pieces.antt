-- Names, terms, views and types as they are written. A name or a text that the program has not prints nothing.
use Rattle.std.specs.Prelude.{ℕ, Bool, true, false, List, [], ◌∷◌, ◌++◌, codes}
pub use Rattle.jn_base.specs.NameTexts.{bytes_of, name_text, text_if, joined, dotted}
use Rattle.jn_base.specs.declared.tree.Text.{Text}
use Rattle.jn_base.specs.declared.tree.Name.{Name}
use Rattle.jn_base.specs.declared.tree.Named.{Named}
use Rattle.jn_base.specs.declared.tree.Ref.{Ref}
use Rattle.jn_base.specs.declared.tree.Ref.TheVariants as ref
use Rattle.jn_base.specs.declared.tree.Head.{Head}
use Rattle.jn_base.specs.declared.tree.Head.TheVariants as head
use Rattle.jn_base.specs.declared.tree.Term.{Term}
use Rattle.jn_base.specs.declared.tree.ViewTerm.{ViewTerm}
use Rattle.jn_base.specs.declared.tree.TypeTerm.{TypeTerm}
use Rattle.jn_base.specs.declared.tree.TypeTerm.TheVariants as type

abbrev pub named_text : List Text → Named → List ℕ
named_text ns x = name_text ns x.name

-- \f\g
abbrev pub masks_text : List Text → List Named → List ℕ
masks_text ns masks = joined (named_text ns) (codes "\\") true masks

-- A & B
abbrev pub names_text : List Text → List Named → List ℕ
names_text ns xs = joined (named_text ns) (codes " & ") false xs

abbrev pub ref_text : List Text → Ref → List ℕ
ref_text ns ref.This = codes "this"
ref_text ns (ref.Var x) = name_text ns x

-- nothing, or `p.class`, or `P[p.class]`
abbrev pub head_text : List Text → Head → List ℕ
head_text ns head.Plain = []
head_text ns (head.Own r) = ref_text ns r ++ codes ".class"
head_text ns (head.Prefix path r) = dotted ns false path ++ (codes "[" ++ (ref_text ns r ++ codes ".class]"))

abbrev pub has_head : Head → Bool
has_head head.Plain = false
has_head (head.Own r) = true
has_head (head.Prefix path r) = true

-- the exact names with the `!` behind them, where there are any, and the others
abbrev pub ends_text : List Text → Bool → (exact names : List Name) → List ℕ
ends_text ns later [] names = dotted ns later names
ends_text ns later (x ∷ xs) names = dotted ns later (x ∷ xs) ++ (codes "!" ++ dotted ns true names)

unfoldable pub term_text : List Text → Term → List ℕ
term_text ns t = head_text ns t.head ++ ends_text ns (has_head t.head) t.exact t.names

unfoldable pub view_text : List Text → ViewTerm → List ℕ
view_text ns v = term_text ns v.term ++ masks_text ns v.masks

unfoldable pub type_text : List Text → TypeTerm → List ℕ
type_text ns type.Int = codes "int"
type_text ns type.Bool = codes "boolean"
type_text ns (type.Class terms masks) = joined (term_text ns) (codes " & ") false terms ++ masks_text ns masks
