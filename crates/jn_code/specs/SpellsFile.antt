-- The file of an image, field after field. Numbers have their lowest byte first.
use Rattle.std.specs.Prelude.{ℕ, ◌-◌, ◌==◌, List, length}
use Rattle.std.specs.Int.{w16, w32}
use Rattle.jn_code.specs.declared.image.Text.{Text}
use Rattle.jn_code.specs.declared.image.Image.{Image}
use Rattle.jn_code.specs.declared.image.Shape.{Shape}
use Rattle.jn_code.specs.declared.image.Group.{Group}
use Rattle.jn_code.specs.declared.image.ClassRow.{ClassRow}
use Rattle.jn_code.specs.declared.image.MemberEntry.{MemberEntry}
use Rattle.jn_code.specs.declared.image.MethodEntry.{MethodEntry}
use Rattle.jn_code.specs.declared.image.FieldEntry.{FieldEntry}
use Rattle.jn_code.specs.declared.image.OtherEntry.{OtherEntry}
use Rattle.jn_code.specs.declared.image.Code.{Code}
use Rattle.jn_code.specs.SpellsFields.{Field, Magic, byte, raw, number, passing, kind_byte, at_most, at_least, part, last, listed, ascending, counted}
use Rattle.jn_code.specs.SpellsInstr.{instr}

-- The four bytes 4a 4e 44 31, as a number.
abbrev pub magic : ℕ
magic = 0x31444e4a

abbrev pub magic_number : Field ℕ
magic_number = passing (λ n. n == magic) (λ left. Magic) (number w32)

-- Kinds: of parameters, locals and slots 1 to 3, of results 0 to 3, of field selectors 1 to 4.
abbrev pub kinds : ℕ → Field (List ℕ)
kinds = listed (kind_byte 1 3)

abbrev pub result_kind : Field ℕ
result_kind = kind_byte 0 3

-- A text: its length in four bytes, and its bytes.
unfoldable pub text : Field Text
text =
    last (λ t. t.bytes) (counted (number w32) raw) λ bytes.
    record { bytes = bytes }

-- A method selector: the count of its parameters in a byte, at most 15, their kinds, and the result's kind.
unfoldable pub shape : Field Shape
shape =
    part (λ s. s.params) (counted (at_most 15 byte) kinds) λ params.
    last (λ s. s.result) result_kind λ result.
    record { params = params; result = result }

-- A group: the count of its slots in a byte, at most 250, and their kinds.
unfoldable pub group : Field Group
group =
    last (λ g. g.slots) (counted (at_most 250 byte) kinds) λ slots.
    record { slots = slots }

-- The entries of a class, the first number of each at least that. A member: a name and a class, in two bytes each.
unfoldable pub member : ℕ → Field MemberEntry
member least =
    part (λ e. e.name) (at_least least (number w16)) λ name.
    last (λ e. e.class) (number w16) λ class.
    record { name = name; class = class }

-- A method: a selector and a code, in four bytes each.
unfoldable pub method : ℕ → Field MethodEntry
method least =
    part (λ e. e.selector) (at_least least (number w32)) λ selector.
    last (λ e. e.code) (number w32) λ code.
    record { selector = selector; code = code }

-- A field: a selector in four bytes, and a slot in one.
unfoldable pub field : ℕ → Field FieldEntry
field least =
    part (λ e. e.selector) (at_least least (number w32)) λ selector.
    last (λ e. e.slot) byte λ slot.
    record { selector = selector; slot = slot }

-- A counterpart: a family and a class, in two bytes each.
unfoldable pub other : ℕ → Field OtherEntry
other least =
    part (λ e. e.family) (at_least least (number w16)) λ family.
    last (λ e. e.class) (number w16) λ class.
    record { family = family; class = class }

-- A class: three numbers of two bytes, and four lists of entries in ascending order, each behind its count; the count of
-- methods has four bytes, the other three have two.
unfoldable pub row : Field ClassRow
row =
    part (λ r. r.up) (number w16) λ up.
    part (λ r. r.family) (number w16) λ family.
    part (λ r. r.group) (number w16) λ group.
    part (λ r. r.members) (counted (number w16) (ascending (λ e. e.name) member)) λ members.
    part (λ r. r.methods) (counted (number w32) (ascending (λ e. e.selector) method)) λ methods.
    part (λ r. r.fields) (counted (number w16) (ascending (λ e. e.selector) field)) λ fields.
    last (λ r. r.others) (counted (number w16) (ascending (λ e. e.family) other)) λ others.
    record { up = up; family = family; group = group; members = members; methods = methods; fields = fields; others = others }

-- A code: its parameters, at most 16, the result's kind, the further locals, at most 255 with the parameters, how many
-- operands it has at most, in two bytes and at most 4,096, and the instructions behind their count in four bytes.
unfoldable pub code : Field Code
code =
    part (λ c. c.params) (counted (at_most 16 byte) kinds) λ params.
    part (λ c. c.result) result_kind λ result.
    part (λ c. c.locals) (counted (at_most (255 - length params) byte) kinds) λ locals.
    part (λ c. c.stack) (at_most 4096 (number w16)) λ stack.
    last (λ c. c.instrs) (counted (number w32) (listed instr)) λ instrs.
    record { params = params; result = result; locals = locals; stack = stack; instrs = instrs }

-- The file: the four bytes in front, then texts, method selectors, field selectors, groups, classes, codes, each list behind
-- its count, and the code with which a run begins. Groups and classes are counted in two bytes, the others in four; there are
-- at most 4,096 classes.
unfoldable pub file : Field Image
file =
    part (λ i. magic) magic_number λ _.
    part (λ i. i.texts) (counted (number w32) (listed text)) λ texts.
    part (λ i. i.methods) (counted (number w32) (listed shape)) λ methods.
    part (λ i. i.fields) (counted (number w32) (listed (kind_byte 1 4))) λ fields.
    part (λ i. i.groups) (counted (number w16) (listed group)) λ groups.
    part (λ i. i.classes) (counted (at_most 4096 (number w16)) (listed row)) λ classes.
    part (λ i. i.codes) (counted (number w32) (listed code)) λ codes.
    last (λ i. i.start) (number w32) λ start.
    record { texts = texts; methods = methods; fields = fields; groups = groups; classes = classes; codes = codes; start = start }
