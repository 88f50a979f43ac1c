-- The line that tells why bytes are no valid image: `image: `, the fault's name, its numbers and its word.
use Rattle.std.specs.Prelude.{ℕ, List, ◌++◌, codes, decimal}
use Rattle.jn_code.specs.declared.fault.ImageFault.{ImageFault}
use Rattle.jn_code.specs.declared.fault.ImageFault.TheVariants as fault
use Rattle.jn_code.specs.declared.fault.FieldKind.{FieldKind}
use Rattle.jn_code.specs.declared.fault.FieldKind.TheVariants as field
use Rattle.jn_code.specs.declared.fault.CodeWhy.{CodeWhy}
use Rattle.jn_code.specs.declared.fault.CodeWhy.TheVariants as code
use Rattle.jn_code.specs.declared.fault.RowWhy.{RowWhy}
use Rattle.jn_code.specs.declared.fault.RowWhy.TheVariants as row

abbrev pub field_word : FieldKind → List ℕ
field_word field.Kind = codes "kind"
field_word field.Count = codes "count"
field_word field.Order = codes "order"
field_word field.Opcode = codes "opcode"
field_word field.Bool = codes "bool"

abbrev pub code_word : CodeWhy → List ℕ
code_word code.Number = codes "Number"
code_word code.Local = codes "Local"
code_word code.Target = codes "Target"
code_word code.Stack = codes "Stack"
code_word code.Kind = codes "Kind"
code_word code.Join = codes "Join"
code_word code.End = codes "End"
code_word code.Start = codes "Start"

abbrev pub row_word : RowWhy → List ℕ
row_word row.Up = codes "Up"
row_word row.Group = codes "Group"
row_word row.Member = codes "Member"
row_word row.Method = codes "Method"
row_word row.Field = codes "Field"
row_word row.Other = codes "Other"

-- a number behind a space
abbrev pub number : ℕ → List ℕ
number n = codes " " ++ decimal n

-- a word behind a space
abbrev pub word : List ℕ → List ℕ
word w = codes " " ++ w

-- `BadField 25 kind`, `BadCode 0 1 Kind`
abbrev pub fault_text : ImageFault → List ℕ
fault_text fault.BadMagic = codes "BadMagic"
fault_text (fault.Short at) = codes "Short" ++ number at
fault_text (fault.BadField at kind) = codes "BadField" ++ (number at ++ word (field_word kind))
fault_text (fault.Trailing at) = codes "Trailing" ++ number at
fault_text fault.TooLong = codes "TooLong"
fault_text (fault.BadCode k n why) = codes "BadCode" ++ (number k ++ (number n ++ word (code_word why)))
fault_text (fault.BadRow k why) = codes "BadRow" ++ (number k ++ word (row_word why))
fault_text fault.Memory = codes "Memory"

-- `image: Short 34`, with a line feed
unfoldable pub fault_line : ImageFault → List ℕ
fault_line f = codes "image: " ++ (fault_text f ++ codes "\n")
