-- An instruction is read as it was written.
use Rattle.std.proofs.Common.{◌≡◌, ℕ, zero, suc, ℤ, ◌+◌, ◌<◌, ◌≤◌, List, [], ◌∷◌, ◌++◌, length, Option, Some, None, Ok, refl, sym, ap, subst, ◌∙◌, arith}
use Rattle.std.specs.Prelude.{slice_get, FitsSigned, nat_le}
use Rattle.std.specs.Int.{w16, w32, w64, to_le_bytes, cast_signed, cast_unsigned}
use Rattle.std.proofs.lemmas.Int.{of_z-to_z, to_z-of_z}
use Rattle.std.proofs.Math.Facts.{Fits-of_z, Fits-of_lt, Fits-lt-pow, sfits_to_z}
use Rattle.std.proofs.lemmas.Bool.{leb-true, le-leb}
use Rattle.jn_code.specs.declared.instr.Instr.{Instr}
use Rattle.jn_code.specs.declared.instr.Instr.TheVariants as op
use Rattle.jn_code.specs.declared.fault.FieldKind.TheVariants as kind
use Rattle.jn_code.specs.Form.{InstrInForm}
use Rattle.jn_code.specs.Spells.{OperandFits}
use Rattle.jn_code.specs.SpellsFields.{Bad, Reading, ◌>>=◌, Field, byte, number, signed, truth, last}
use Rattle.jn_code.specs.SpellsInstr.{instructions, opcode, operand, operand_of, instruction_of, read_operand, read_instr, instr}
use Rattle.jn_code.proofs.FieldLaws.{IsBytes, IsField, Takes, bind_ok, ok_is, same_field, byte_law, law16, law32, law64, passing_law}

-- ---- a signed number, a truth value

signed_takes : (bytes : List ℕ) (z : ℤ) (rest : List ℕ) → IsBytes bytes → signed.read bytes ≡ Ok (z, rest) → Takes bytes (signed.spelled z) rest × FitsSigned w64 z
signed_takes bytes z rest fits e =
    let a = bind_ok ((number w64).read bytes) (λ n. Ok (cast_signed w64 n.0, n.1)) (z, rest) e in
    let t = law64.takes bytes a.0.0 a.0.1 fits a.1 in
    let same : cast_unsigned w64 (cast_signed w64 a.0.0) ≡ a.0.0 = of_z-to_z w64 a.0.0 t.1 in
    let here : Takes bytes (to_le_bytes w64 (cast_unsigned w64 (cast_signed w64 a.0.0))) a.0.1 = subst (λ (n : ℕ). Takes bytes (to_le_bytes w64 n) a.0.1) (sym same) t.0 in
    subst (λ (y : ℤ × List ℕ). Takes bytes (to_le_bytes w64 (cast_unsigned w64 y.0)) y.1 × FitsSigned w64 y.0) (ok_is (cast_signed w64 a.0.0, a.0.1) (z, rest) a.2)
    (here, sfits_to_z {w = w64} {n = a.0.0} (Fits-of_lt {w = w64} {n = a.0.0} t.1))

pub signed_law : IsField signed (λ z. FitsSigned w64 z)
signed_law = record {
  takes = signed_takes;
  again = λ z rest h.
      ap (λ (r : Reading ℕ). r >>= λ n. Ok (cast_signed w64 n.0, n.1)) (law64.again (cast_unsigned w64 z) rest (Fits-lt-pow {w = w64} (Fits-of_z {w = w64} {z = z} h)))
      ∙ ap (λ (y : ℤ). Ok (y, rest)) (to_z-of_z w64 z h);
}

pub truth_law : IsField truth (λ b. b ≤ 1)
truth_law = same_field truth _ _ (passing_law (λ b. nat_le b 1) (λ left. Bad left kind.Bool) byte _ byte_law) (λ b h. leb-true b 1 h.1) (λ b h. (omega arith, le-leb b 1 h))

-- ---- operands

record Made {A : Type 0} (field : Field A) (make : A → Instr) (P : A → Type 0) (bytes : List ℕ) (y : Instr) (rest : List ℕ) : Type 0 where
  value : A
  is : make value ≡ y
  takes : Takes bytes (field.spelled value) rest
  fits : P value

made : {A : Type 0} (x : A) (field : Field A) (make : A → Instr) (P : A → Type 0) → IsField field P → (bytes : List ℕ) (y : Instr) (rest : List ℕ) → IsBytes bytes
    → (operand x field make).read bytes ≡ Ok (y, rest) → Made field make P bytes y rest
unfolding last
made x field make P law bytes y rest fits e =
    let a = bind_ok (field.read bytes) (λ v. Ok (make v.0, v.1)) (y, rest) e in
    let t = law.takes bytes a.0.0 a.0.1 fits a.1 in
    let pair = ok_is (make a.0.0, a.0.1) (y, rest) a.2 in
    record {
      value = a.0.0;
      is = ap (λ (p : Instr × List ℕ). p.0) pair;
      takes = subst (λ (p : Instr × List ℕ). Takes bytes (field.spelled a.0.0) p.1) pair t.0;
      fits = t.1;
    }

-- what is read behind the byte of s
record Took (s : Instr) (bytes : List ℕ) (x : Instr) (rest : List ℕ) : Type 0 where
  takes : Takes bytes ((operand_of x).spelled x) rest
  same : opcode x ≡ opcode s
  fits : OperandFits x
  form : InstrInForm x

operand_takes : (s : Instr) (bytes : List ℕ) (x : Instr) (rest : List ℕ) → IsBytes bytes → (operand_of s).read bytes ≡ Ok (x, rest) → Took s bytes x rest
unfolding last
operand_takes (op.Int z) bytes x rest fits e =
    let m = made z signed op.Int (λ z. FitsSigned w64 z) signed_law bytes x rest fits e in
    subst (λ (y : Instr). Took (op.Int z) bytes y rest) m.is (record { takes = m.takes; same = refl; fits = m.fits; form = tt })
operand_takes (op.Bool b) bytes x rest fits e =
    let m = made b truth op.Bool (λ b. b ≤ 1) truth_law bytes x rest fits e in
    subst (λ (y : Instr). Took (op.Bool b) bytes y rest) m.is (record { takes = m.takes; same = refl; fits = tt; form = m.fits })
operand_takes (op.Cls n) bytes x rest fits e =
    let m = made n (number w16) op.Cls (λ n. n < 65536) law16 bytes x rest fits e in
    subst (λ (y : Instr). Took (op.Cls n) bytes y rest) m.is (record { takes = m.takes; same = refl; fits = m.fits; form = tt })
operand_takes (op.Load n) bytes x rest fits e =
    let m = made n byte op.Load (λ n. n < 256) byte_law bytes x rest fits e in
    subst (λ (y : Instr). Took (op.Load n) bytes y rest) m.is (record { takes = m.takes; same = refl; fits = m.fits; form = tt })
operand_takes (op.Store n) bytes x rest fits e =
    let m = made n byte op.Store (λ n. n < 256) byte_law bytes x rest fits e in
    subst (λ (y : Instr). Took (op.Store n) bytes y rest) m.is (record { takes = m.takes; same = refl; fits = m.fits; form = tt })
operand_takes (op.Jump n) bytes x rest fits e =
    let m = made n (number w32) op.Jump (λ n. n < 4294967296) law32 bytes x rest fits e in
    subst (λ (y : Instr). Took (op.Jump n) bytes y rest) m.is (record { takes = m.takes; same = refl; fits = m.fits; form = tt })
operand_takes (op.Jfalse n) bytes x rest fits e =
    let m = made n (number w32) op.Jfalse (λ n. n < 4294967296) law32 bytes x rest fits e in
    subst (λ (y : Instr). Took (op.Jfalse n) bytes y rest) m.is (record { takes = m.takes; same = refl; fits = m.fits; form = tt })
operand_takes (op.Jtrue n) bytes x rest fits e =
    let m = made n (number w32) op.Jtrue (λ n. n < 4294967296) law32 bytes x rest fits e in
    subst (λ (y : Instr). Took (op.Jtrue n) bytes y rest) m.is (record { takes = m.takes; same = refl; fits = m.fits; form = tt })
operand_takes (op.Up n) bytes x rest fits e =
    let m = made n byte op.Up (λ n. n < 256) byte_law bytes x rest fits e in
    subst (λ (y : Instr). Took (op.Up n) bytes y rest) m.is (record { takes = m.takes; same = refl; fits = m.fits; form = tt })
operand_takes (op.Down n) bytes x rest fits e =
    let m = made n (number w16) op.Down (λ n. n < 65536) law16 bytes x rest fits e in
    subst (λ (y : Instr). Took (op.Down n) bytes y rest) m.is (record { takes = m.takes; same = refl; fits = m.fits; form = tt })
operand_takes (op.Ctor n) bytes x rest fits e =
    let m = made n (number w32) op.Ctor (λ n. n < 4294967296) law32 bytes x rest fits e in
    subst (λ (y : Instr). Took (op.Ctor n) bytes y rest) m.is (record { takes = m.takes; same = refl; fits = m.fits; form = tt })
operand_takes (op.Call n) bytes x rest fits e =
    let m = made n (number w32) op.Call (λ n. n < 4294967296) law32 bytes x rest fits e in
    subst (λ (y : Instr). Took (op.Call n) bytes y rest) m.is (record { takes = m.takes; same = refl; fits = m.fits; form = tt })
operand_takes (op.Callat n) bytes x rest fits e =
    let m = made n (number w32) op.Callat (λ n. n < 4294967296) law32 bytes x rest fits e in
    subst (λ (y : Instr). Took (op.Callat n) bytes y rest) m.is (record { takes = m.takes; same = refl; fits = m.fits; form = tt })
operand_takes (op.Get n) bytes x rest fits e =
    let m = made n (number w32) op.Get (λ n. n < 4294967296) law32 bytes x rest fits e in
    subst (λ (y : Instr). Took (op.Get n) bytes y rest) m.is (record { takes = m.takes; same = refl; fits = m.fits; form = tt })
operand_takes (op.Put n) bytes x rest fits e =
    let m = made n (number w32) op.Put (λ n. n < 4294967296) law32 bytes x rest fits e in
    subst (λ (y : Instr). Took (op.Put n) bytes y rest) m.is (record { takes = m.takes; same = refl; fits = m.fits; form = tt })
operand_takes (op.Printt n) bytes x rest fits e =
    let m = made n (number w32) op.Printt (λ n. n < 4294967296) law32 bytes x rest fits e in
    subst (λ (y : Instr). Took (op.Printt n) bytes y rest) m.is (record { takes = m.takes; same = refl; fits = m.fits; form = tt })
operand_takes s bytes x rest fits e =
    subst (λ (y : Instr × List ℕ). Took s bytes y.0 y.1) (ok_is (s, bytes) (x, rest) e) (record { takes = record { parts = refl; rest_fits = fits }; same = refl; fits = tt; form = tt })

-- ---- the byte in front

-- each has its byte, the first n
abbrev Coded : ℕ → List Instr → Type 0
Coded n [] = Unit {0}
Coded n (x ∷ xs) = (opcode x ≡ n) × Coded (suc n) xs

coded_at : (n : ℕ) (xs : List Instr) (k : ℕ) (s : Instr) → Coded n xs → slice_get xs k ≡ Some s → opcode s ≡ k + n
coded_at n [] k s h e = absurd cc
coded_at n (x ∷ xs) zero s h e = let same : x ≡ s = cc in rw (← same) (h.0 ∙ omega arith)
coded_at n (x ∷ xs) (suc k) s h e = coded_at (suc n) xs k s h.1 e ∙ omega arith

all_coded : Coded 1 instructions
all_coded = (refl, (refl, (refl, (refl, (refl, (refl, (refl, (refl, (refl, (refl, (refl, (refl, (refl, (refl, (refl, (refl, (refl, (refl, (refl, (refl, (refl, (refl, (refl, (refl, (refl, (refl, (refl, (refl, (refl, (refl, (refl, (refl, (refl, (refl, (refl, (refl, (refl, (refl, (refl, (refl, tt))))))))))))))))))))))))))))))))))))))))

coded : (c : ℕ) (s : Instr) → instruction_of c ≡ Some s → opcode s ≡ c
coded zero s e = absurd cc
coded (suc n) s e = coded_at 1 instructions n s all_coded e ∙ omega arith

-- ---- the instruction

abbrev pub InstrFine : Instr → Type 0
InstrFine x = OperandFits x × InstrInForm x

instr_took : (c : ℕ) (o : Option Instr) (left : ℕ) (bytes : List ℕ) (x : Instr) (rest : List ℕ) → instruction_of c ≡ o → IsBytes (c ∷ bytes)
    → read_operand left o bytes ≡ Ok (x, rest) → Takes (c ∷ bytes) (instr.spelled x) rest × InstrFine x
instr_took c None left bytes x rest is fits e = absurd cc
instr_took c (Some s) left bytes x rest is fits e =
    let t = operand_takes s bytes x rest (λ i. fits (suc i)) e in
    let same : opcode x ≡ c = t.same ∙ coded c s is in
    (record { parts = rw same (ap (λ (w : List ℕ). c ∷ w) t.takes.parts); rest_fits = t.takes.rest_fits }, (t.fits, t.form))

instr_takes : (bytes : List ℕ) (x : Instr) (rest : List ℕ) → IsBytes bytes → instr.read bytes ≡ Ok (x, rest) → Takes bytes (instr.spelled x) rest × InstrFine x
unfolding read_instr
instr_takes [] x rest fits e = absurd cc
instr_takes (c ∷ bytes) x rest fits e = instr_took c (instruction_of c) (length (c ∷ bytes)) bytes x rest refl fits e

instr_again : (x : Instr) (rest : List ℕ) → InstrFine x → instr.read (instr.spelled x ++ rest) ≡ Ok (x, rest)
unfolding read_instr last
instr_again (op.Int z) rest h = ap (λ (r : Reading ℤ). r >>= λ y. Ok (op.Int y.0, y.1)) (signed_law.again z rest h.0)
instr_again (op.Bool b) rest h = ap (λ (r : Reading ℕ). r >>= λ y. Ok (op.Bool y.0, y.1)) (truth_law.again b rest h.1)
instr_again (op.Cls n) rest h = ap (λ (r : Reading ℕ). r >>= λ y. Ok (op.Cls y.0, y.1)) (law16.again n rest h.0)
instr_again (op.Load n) rest h = ap (λ (r : Reading ℕ). r >>= λ y. Ok (op.Load y.0, y.1)) (byte_law.again n rest h.0)
instr_again (op.Store n) rest h = ap (λ (r : Reading ℕ). r >>= λ y. Ok (op.Store y.0, y.1)) (byte_law.again n rest h.0)
instr_again (op.Jump n) rest h = ap (λ (r : Reading ℕ). r >>= λ y. Ok (op.Jump y.0, y.1)) (law32.again n rest h.0)
instr_again (op.Jfalse n) rest h = ap (λ (r : Reading ℕ). r >>= λ y. Ok (op.Jfalse y.0, y.1)) (law32.again n rest h.0)
instr_again (op.Jtrue n) rest h = ap (λ (r : Reading ℕ). r >>= λ y. Ok (op.Jtrue y.0, y.1)) (law32.again n rest h.0)
instr_again (op.Up n) rest h = ap (λ (r : Reading ℕ). r >>= λ y. Ok (op.Up y.0, y.1)) (byte_law.again n rest h.0)
instr_again (op.Down n) rest h = ap (λ (r : Reading ℕ). r >>= λ y. Ok (op.Down y.0, y.1)) (law16.again n rest h.0)
instr_again (op.Ctor n) rest h = ap (λ (r : Reading ℕ). r >>= λ y. Ok (op.Ctor y.0, y.1)) (law32.again n rest h.0)
instr_again (op.Call n) rest h = ap (λ (r : Reading ℕ). r >>= λ y. Ok (op.Call y.0, y.1)) (law32.again n rest h.0)
instr_again (op.Callat n) rest h = ap (λ (r : Reading ℕ). r >>= λ y. Ok (op.Callat y.0, y.1)) (law32.again n rest h.0)
instr_again (op.Get n) rest h = ap (λ (r : Reading ℕ). r >>= λ y. Ok (op.Get y.0, y.1)) (law32.again n rest h.0)
instr_again (op.Put n) rest h = ap (λ (r : Reading ℕ). r >>= λ y. Ok (op.Put y.0, y.1)) (law32.again n rest h.0)
instr_again (op.Printt n) rest h = ap (λ (r : Reading ℕ). r >>= λ y. Ok (op.Printt y.0, y.1)) (law32.again n rest h.0)
instr_again x rest h = refl

pub instr_law : IsField instr InstrFine
instr_law = record { takes = instr_takes; again = instr_again }
