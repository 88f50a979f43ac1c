-- Fields: a part of a file as it is written and as it is read, in one description.
use Rattle.std.specs.Prelude.{ℕ, zero, suc, ◌&&◌, ℤ, List, [], ◌∷◌, ◌++◌, length, take, drop, Bool, Result, Ok, Err, nat_lt, nat_le, if◌then◌else◌}
use Rattle.std.specs.List.{flat_map}
use Rattle.std.specs.Int.{Width, w64, byte_len, from_le_bytes, to_le_bytes, cast_signed, cast_unsigned}
use Rattle.jn_code.specs.declared.fault.FieldKind.{FieldKind}
use Rattle.jn_code.specs.declared.fault.FieldKind.TheVariants as kind

-- Why reading stops. The number is that of the bytes from the field's first to the end of the file.
pub data Stop : Type 0 where
  Short : ℕ → Stop
  Magic : Stop
  Bad : ℕ → FieldKind → Stop

-- What reading gives: a value and the bytes behind it, or the first thing that is wrong.
abbrev pub Reading : Type 0 → Type 0
Reading A = Result (A × List ℕ) Stop

infixl 10 ◌>>=◌
abbrev pub ◌>>=◌ : {A B : Type 0} → Result A Stop → (A → Result B Stop) → Result B Stop
(Ok x) >>= f = f x
(Err e) >>= f = Err e

-- A field has the bytes of a value, and reads a value at the front of bytes.
pub record Field (A : Type 0) : Type 0 where
  pub spelled : A → List ℕ
  pub read : List ℕ → Reading A

-- ---- fields of one value

abbrev pub read_byte : List ℕ → Reading ℕ
read_byte [] = Err (Short 0)
read_byte (b ∷ bytes) = Ok (b, bytes)

abbrev pub byte : Field ℕ
byte = record { spelled = λ b. b ∷ []; read = read_byte }

-- that many bytes as they are
abbrev pub raw : ℕ → Field (List ℕ)
raw n = record {
  spelled = λ text. text;
  read = λ bytes. if nat_lt (length bytes) n then Err (Short (length bytes)) else Ok (take n bytes, drop n bytes);
}

-- a number without sign, its lowest byte first
abbrev pub number : Width → Field ℕ
number w = record {
  spelled = to_le_bytes w;
  read = λ bytes. if nat_lt (length bytes) (byte_len w) then Err (Short (length bytes)) else Ok (from_le_bytes w (take (byte_len w) bytes), drop (byte_len w) bytes);
}

-- a number of 64 bits with its sign
abbrev pub signed : Field ℤ
signed = record {
  spelled = λ z. to_le_bytes w64 (cast_unsigned w64 z);
  read = λ bytes. (number w64).read bytes >>= λ n. Ok (cast_signed w64 n.0, n.1);
}

-- ---- fields with a condition

-- a value that passes the test; where it doesn't, reading stops at the field's first byte
abbrev pub passing : {A : Type 0} → (A → Bool) → (ℕ → Stop) → Field A → Field A
passing test stop field = record {
  spelled = field.spelled;
  read = λ bytes. field.read bytes >>= λ x. if test x.0 then Ok x else Err (stop (length bytes));
}

-- a byte from least to most that names a kind
abbrev pub kind_byte : ℕ → ℕ → Field ℕ
kind_byte least most = passing (λ k. nat_le least k && nat_le k most) (λ left. Bad left kind.Kind) byte

-- a truth value
abbrev pub truth : Field ℕ
truth = passing (λ b. nat_le b 1) (λ left. Bad left kind.Bool) byte

-- a count that is at most that
abbrev pub at_most : ℕ → Field ℕ → Field ℕ
at_most most = passing (λ n. nat_le n most) (λ left. Bad left kind.Count)

-- the first number of an entry, which is at least that
abbrev pub at_least : ℕ → Field ℕ → Field ℕ
at_least least = passing (λ n. nat_le least n) (λ left. Bad left kind.Order)

-- ---- one field behind another

-- no bytes, and this value
abbrev pub done : {A : Type 0} → A → Field A
done x = record { spelled = λ _. []; read = λ bytes. Ok (x, bytes) }

-- a part of the value, and then the field that has the rest of it and may depend on that part
unfoldable pub part : {A S : Type 0} → (S → A) → Field A → (A → Field S) → Field S
part of first next = record {
  spelled = λ s. first.spelled (of s) ++ (next (of s)).spelled s;
  read = λ bytes. first.read bytes >>= λ x. (next x.0).read x.1;
}

-- the last part of the value, and the value with it
unfoldable pub last : {A S : Type 0} → (S → A) → Field A → (A → S) → Field S
last of field make = record {
  spelled = λ s. field.spelled (of s);
  read = λ bytes. field.read bytes >>= λ x. Ok (make x.0, x.1);
}

-- ---- lists

unfoldable pub read_listed : {A : Type 0} → (List ℕ → Reading A) → ℕ → List ℕ → Reading (List A)
read_listed read zero bytes = Ok ([], bytes)
read_listed read (suc n) bytes = read bytes >>= λ x. read_listed read n x.1 >>= λ xs. Ok (x.0 ∷ xs.0, xs.1)

-- that many items
abbrev pub listed : {A : Type 0} → Field A → ℕ → Field (List A)
listed item n = record { spelled = flat_map item.spelled; read = read_listed item.read n }

unfoldable pub read_ascending : {A : Type 0} → (A → ℕ) → (ℕ → List ℕ → Reading A) → ℕ → ℕ → List ℕ → Reading (List A)
read_ascending key read least zero bytes = Ok ([], bytes)
read_ascending key read least (suc n) bytes = read least bytes >>= λ x. read_ascending key read (suc (key x.0)) n x.1 >>= λ xs. Ok (x.0 ∷ xs.0, xs.1)

-- that many entries, the key of each above that of the one before it: the entry at least is the one whose key is at least that
abbrev pub ascending : {A : Type 0} → (A → ℕ) → (ℕ → Field A) → ℕ → Field (List A)
ascending key entry n = record { spelled = flat_map (entry 0).spelled; read = read_ascending key (λ least. (entry least).read) 0 n }

-- a count, and that many
abbrev pub counted : {A : Type 0} → Field ℕ → (ℕ → Field (List A)) → Field (List A)
counted count items = part length count items
