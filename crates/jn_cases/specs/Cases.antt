-- What stands in a file of cases, by the data of its TOML.
use Rattle.std.specs.Prelude.{◌≡◌, ◌++◌, ◌+◌, ℕ, decimal, zero, suc, ℤ, pos, not, List, [], ◌∷◌, ◌≢◌, All, unwrap_or, codes, Option, None, Some, map, String, string_bytes, option_map, option_and_then, filter}
use Rattle.std.specs.Borrow.{Bor}
use Rattle.std.specs.Option.{option_or}
use Rattle.std.specs.declared.alloc.Global.{Global}
use Rattle.std.specs.Char.{is_ascii_whitespace}
use Rattle.std.specs.Result.{result_ok}
use Rattle.hex.specs.Hex.{decode_of}
use Rattle.toml.specs.Data.{Data, string, integer, array, as_str, as_integer, as_array, as_table, get, Items, no_items, item, Members, no_members, member, get_member}
use Rattle.toml.specs.View.{view, items_of}
use Rattle.jn_cases.specs.declared.case.Case.{Case}

-- what stands under a key of a case: anything, a text, a number, a list
abbrev pub under : Case → List ℕ → Option Data
under c key = get key (view c.entries)

abbrev pub text_of : Case → List ℕ → Option (List ℕ)
text_of c key = option_and_then as_str (under c key)

abbrev pub number_of : Case → List ℕ → Option ℤ
number_of c key = option_and_then as_integer (under c key)

abbrev pub list_of : Case → List ℕ → Option Items
list_of c key = option_and_then as_array (under c key)

-- some texts as a list of data
abbrev pub text_items : List (String Global) → Items
text_items texts = items_of (map (λ text. string (string_bytes text)) texts)

-- some numbers as a list of data
abbrev pub number_items : List ℕ → Items
number_items numbers = items_of (map (λ n. integer (pos n)) numbers)

-- the keys of some members, and of a case
abbrev pub keys_in : Members → List (List ℕ)
keys_in no_members = []
keys_in (member key d ms) = key ∷ keys_in ms

abbrev pub keys_of : Case → List (List ℕ)
keys_of c = unwrap_or (option_map keys_in (as_table (view c.entries))) []

-- a key that is neither a case's name nor one of those that are known
abbrev pub IsUnknown : List (Bor (List ℕ)) → List ℕ → Type 0
IsUnknown known key = (key ≢ codes "name") × All (λ text. text.now ≢ key) known

-- the list under the key `case` of a file
abbrev pub listed_cases : Members → Option Items
listed_cases file = option_and_then as_array (get_member (codes "case") file)

-- the tables that cases were read from, in their order
abbrev pub tables_of : List Case → Items
tables_of cases = items_of (map (λ c. view c.entries) cases)

-- the case's name is the text under its key `name`
abbrev pub IsNamed : Case → Type 0
IsNamed c = text_of c (codes "name") ≡ Some (string_bytes c.name)

-- the bytes of hex digits with white space between them, as "43 6c" for `Cl`
abbrev pub hex_bytes : List ℕ → Option (List ℕ)
hex_bytes text = result_ok (decode_of (filter (λ b. not (is_ascii_whitespace b)) text))

-- `n` copies of some bytes
abbrev pub copies : ℕ → List ℕ → List ℕ
copies zero bytes = []
copies (suc n) bytes = copies n bytes ++ bytes

-- the bytes of one part, as of ["ab", 3], where `read` gives the bytes of its text
abbrev pub part_bytes : (List ℕ → Option (List ℕ)) → Data → Option (List ℕ)
part_bytes read (array (item (string text) (item (integer (pos n)) no_items))) = option_map (copies n) (read text)
part_bytes read _ = None

-- some bytes with each of `n` numbers from `first` on between them, as "p7;p8;" for "p", 7, 2 and ";"
abbrev pub numbered : List ℕ → ℕ → ℕ → List ℕ → List ℕ
numbered before first zero behind = []
numbered before first (suc n) behind = numbered before first n behind ++ before ++ decimal (first + n) ++ behind

-- the bytes of one part in text: of copies, or of numbers, as ["p", 7, 2, ";"]
abbrev pub text_part : Data → Option (List ℕ)
text_part (array (item (string before) (item (integer (pos first)) (item (integer (pos n))
    (item (string behind) no_items))))) = Some (numbered before first n behind)
text_part d = part_bytes Some d

-- some bytes, and then those of the parts, one after the other
abbrev pub with_parts : (Data → Option (List ℕ)) → List ℕ → Items → Option (List ℕ)
with_parts part bytes no_items = Some bytes
with_parts part bytes (item d ds) = option_and_then (λ more. with_parts part (bytes ++ more) ds) (part d)

-- the bytes that a case gives under a key: those of the text under `KEY`, of hex digits under `KEY_hex`, of parts
-- under `KEY_parts`, and of parts in hex digits under `KEY_hex_parts`
abbrev pub bytes_under : Case → List ℕ → Option (List ℕ)
bytes_under c key =
    option_or (text_of c key)
    (option_or (option_and_then hex_bytes (text_of c (key ++ codes "_hex")))
    (option_or (option_and_then (with_parts text_part []) (list_of c (key ++ codes "_parts")))
    (option_and_then (with_parts (part_bytes hex_bytes) []) (list_of c (key ++ codes "_hex_parts")))))
