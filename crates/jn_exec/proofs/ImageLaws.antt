-- What valid bytes are, and that a front of them is enough.
use Rattle.std.proofs.Common.{◌≡◌, ◌∙◌, ℕ, ◌≤◌, ◌<◌, ◌⊎◌, inl, inr, List, length, take, sym, ap, subst, refl, Bool, true, false, nat_lt, Option, Some, None, Result, Ok, Err, arith, min}
use Rattle.std.proofs.lemmas.Bool.{ltb-true, ltb-false}
use Rattle.std.proofs.lemmas.List.{take_all, length-take}
use Rattle.jn_code.specs.declared.image.Image.{Image}
use Rattle.jn_code.specs.declared.fault.ImageFault.{ImageFault}
use Rattle.jn_code.specs.declared.fault.ImageFault.TheVariants as fault
use Rattle.jn_code.specs.Spells.{Spells, image_of, limit}
use Rattle.jn_code.proofs.FieldLaws.{IsBytes}
use Rattle.jn_code.specs.Valid.{IsValid, first_fault}
use Rattle.jn_code.proofs.SpellsLaws.{read_is_spelled, spelled_is_read}
use Rattle.jn_imagefile.specs.Answers.{Answers}
use Rattle.jn_machine.specs.Machines.{MachineState}
use Rattle.jn_verify.specs.Causes.{IsCause}
use Rattle.jn_exec.specs.Images.{valid_image_of, if_valid, unless_fault, IsFaultOf, IsMachineFor}

-- an image without a fault
unless_ok : (i j : Image) (f : Option ImageFault) → unless_fault i f ≡ Ok j → (f ≡ None) × (i ≡ j)
unless_ok i j None e = (refl, cc e)
unless_ok i j (Some f) e = absurd (cc e)

valid_ok : (r : Result Image ImageFault) (j : Image) → if_valid r ≡ Ok j → (r ≡ Ok j) × (first_fault j ≡ None)
valid_ok (Ok i) j e = let is = unless_ok i j (first_fault i) e in (ap (λ (x : Image). let r : Result Image ImageFault = Ok x in r) is.1, subst (λ (x : Image). first_fault x ≡ None) is.1 is.0)
valid_ok (Err f) j e = absurd (cc e)

pub is_valid : (bytes : List ℕ) (i : Image) → valid_image_of bytes ≡ Ok i → IsValid i
unfolding valid_image_of
is_valid bytes i e = record { none = (valid_ok (image_of bytes) i e).1 }

pub is_found : (bytes : List ℕ) (i : Image) → IsBytes bytes → valid_image_of bytes ≡ Ok i → Spells i bytes × IsValid i
unfolding valid_image_of
is_found bytes i bs e = (read_is_spelled i bytes bs (valid_ok (image_of bytes) i e).0, is_valid bytes i e)

pub is_only : (bytes : List ℕ) (i : Image) → Spells i bytes → IsValid i → valid_image_of bytes ≡ Ok i
unfolding valid_image_of
is_only bytes i s v = ap if_valid (spelled_is_read i bytes s) ∙ ap (unless_fault i) v.none

-- bytes that are too many are so with any bytes behind them
too_many : (bytes : List ℕ) → limit < length bytes → image_of bytes ≡ Err fault.TooLong
unfolding image_of
too_many bytes long = grind arith

short_or_long : (n : ℕ) → (b : Bool) → nat_lt limit n ≡ b → (n ≤ limit) ⊎ (limit < n)
short_or_long n true is = inr (ltb-true limit n is)
short_or_long n false is = inl (ltb-false limit n is)

same_front : (bytes : List ℕ) → image_of (take 134217729 bytes) ≡ image_of bytes
same_front bytes = elim (short_or_long (length bytes) (nat_lt limit (length bytes)) refl) [
  | inl short ↦ ap image_of (take_all 134217729 bytes (omega (arith, short)))
  | inr long ↦
      let size : length (take 134217729 bytes) ≡ min 134217729 (length bytes) = length-take 134217729 bytes in
      let past : limit < length (take 134217729 bytes) = omega (arith, long, size) in too_many (take 134217729 bytes) past ∙ sym (too_many bytes long)
]

pub front_enough : (bytes : List ℕ) → valid_image_of (take 134217729 bytes) ≡ valid_image_of bytes
unfolding valid_image_of
front_enough bytes = ap if_valid (same_front bytes)

-- ---- what a file is

pub read_fault : (bytes : List ℕ) (f : ImageFault) → Answers (Err f) (image_of bytes) → IsFaultOf bytes f
unfolding valid_image_of
read_fault bytes fault.Memory h = tt
read_fault bytes fault.BadMagic h = ap if_valid (sym h)
read_fault bytes (fault.Short at) h = ap if_valid (sym h)
read_fault bytes (fault.BadField at which) h = ap if_valid (sym h)
read_fault bytes (fault.Trailing at) h = ap if_valid (sym h)
read_fault bytes fault.TooLong h = ap if_valid (sym h)
read_fault bytes (fault.BadCode k n why) h = ap if_valid (sym h)
read_fault bytes (fault.BadRow k why) h = ap if_valid (sym h)

faulty : (bytes : List ℕ) (i : Image) (f : ImageFault) → Answers (Ok i) (image_of bytes) → first_fault i ≡ Some f → valid_image_of bytes ≡ Err f
unfolding valid_image_of
faulty bytes i f read is = ap if_valid (sym read) ∙ ap (unless_fault i) is

pub image_fault : (bytes : List ℕ) (i : Image) (f : ImageFault) → Answers (Ok i) (image_of bytes) → IsCause i f → IsFaultOf bytes f
image_fault bytes i fault.Memory read is = tt
image_fault bytes i fault.BadMagic read is = faulty bytes i fault.BadMagic read is
image_fault bytes i (fault.Short at) read is = faulty bytes i (fault.Short at) read is
image_fault bytes i (fault.BadField at which) read is = faulty bytes i (fault.BadField at which) read is
image_fault bytes i (fault.Trailing at) read is = faulty bytes i (fault.Trailing at) read is
image_fault bytes i fault.TooLong read is = faulty bytes i fault.TooLong read is
image_fault bytes i (fault.BadCode k n why) read is = faulty bytes i (fault.BadCode k n why) read is
image_fault bytes i (fault.BadRow k why) read is = faulty bytes i (fault.BadRow k why) read is

valid_of : (bytes : List ℕ) (i : Image) → Answers (Ok i) (image_of bytes) → IsValid i → valid_image_of bytes ≡ Ok i
unfolding valid_image_of
valid_of bytes i read valid = ap if_valid (sym read) ∙ ap (unless_fault i) valid.none

pub machine_for : (bytes : List ℕ) (i g : Image) (arena depth : ℕ) (m : MachineState) → Answers (Ok i) (image_of bytes) → (g ≡ i) × IsValid i → m ≡ record { image = g; arena = arena; depth = depth; fresh = true } → IsMachineFor bytes arena depth m
machine_for bytes i g arena depth m read good is = record {
  image = valid_of bytes i read good.1 ∙ ap (λ (x : Image). let r : Result Image ImageFault = Ok x in r) (sym good.0 ∙ sym (ap (λ (s : MachineState). s.image) is));
  arena_is = ap (λ (s : MachineState). s.arena) is;
  depth_is = ap (λ (s : MachineState). s.depth) is;
  fresh = ap (λ (s : MachineState). s.fresh) is;
}
