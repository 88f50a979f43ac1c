-- What the parts of an image take in a file.
use Rattle.std.specs.Prelude.{ℕ, ◌+◌, length, map}
use Rattle.jn_base.specs.declared.tree.Program.{Program}
use Rattle.jn_base.specs.declared.tree.Decl.{Decl, fold-Decl}
use Rattle.jn_base.specs.declared.tree.Member.TheOpen.{Member-F, Decl-F}
use Rattle.jn_sem.specs.Does.{Body}
use Rattle.jn_code.specs.declared.image.Text.{Text}
use Rattle.jn_code.specs.declared.image.Shape.{Shape}
use Rattle.jn_code.specs.declared.image.Image.{Image}
use Rattle.jn_code.specs.declared.image.ClassRow.{ClassRow}
use Rattle.jn_size_laws.specs.Sizes.{total}

-- a text stands behind its length
abbrev pub text_bytes : Text → ℕ
text_bytes t = 4 + length t.bytes

-- the kinds of a selector's parameters stand between their count and that of the result
abbrev pub shape_bytes : Shape → ℕ
shape_bytes s = 2 + length s.params

abbrev pub entries : ClassRow → ℕ
entries r = length r.members + (length r.methods + (length r.fields + length r.others))

abbrev pub texts_take : Image → ℕ
texts_take i = total (map text_bytes i.texts)

-- (a field selector takes a byte, its kind)
abbrev pub selectors_take : Image → ℕ
selectors_take i = total (map shape_bytes i.methods) + length i.fields

-- the entries of all classes
abbrev pub all_entries : Image → ℕ
all_entries i = total (map entries i.classes)

-- ---- what a program declares

-- what a selector of the body takes
abbrev pub head_bytes : Body → ℕ
head_bytes b = 2 + length b.method.params

abbrev pub member_fields : Member-F ℕ ℕ → ℕ
member_fields (Member-F.Inner n) = n
member_fields (Member-F.Slot f) = 1
member_fields (Member-F.Body m) = 0

abbrev pub decl_fields : Decl-F ℕ ℕ → ℕ
decl_fields d = total d.members

-- how many fields are declared within
unfoldable pub fields_in : Decl → ℕ
fields_in = fold-Decl ℕ ℕ member_fields decl_fields

abbrev pub fields_of : Program → ℕ
fields_of p = total (map fields_in p.decls)

-- Example: `class A { int x; void m(int y) { } }` declares one field; and its method's selector takes three bytes, with
-- the kinds of y and of no result behind the count of one parameter.
