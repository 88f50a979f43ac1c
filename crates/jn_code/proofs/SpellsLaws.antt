-- An image has one spelling at most, a spelling is of one image and begins no other, and reading gives exactly the image that is spelled.
use Rattle.std.proofs.Common.{◌≡◌, ℕ, ◌≤◌, Bool, true, false, cond, ltb, List, [], ◌++◌, length, Result, Ok, Err, refl, sym, ap, subst, ◌∙◌}
use Rattle.std.proofs.lemmas.Bool.{ltb-false, le-ltb, eqb-true}
use Rattle.std.proofs.lemmas.List.{append-nil, nil_from_length}
use Rattle.jn_code.specs.declared.image.Image.{Image}
use Rattle.jn_code.specs.declared.fault.ImageFault.{ImageFault}
use Rattle.jn_code.specs.declared.fault.ImageFault.TheVariants as fault
use Rattle.jn_code.specs.Form.{InForm}
use Rattle.jn_code.specs.Spells.{Fits, Spells, file_of, limit, ended, image_of}
use Rattle.jn_code.specs.SpellsFields.{Reading}
use Rattle.jn_code.specs.SpellsFile.{file}
use Rattle.jn_code.proofs.FieldLaws.{IsBytes, ok_is}
use Rattle.jn_code.proofs.FileLaws.{file_law}

pub one_spelling : (i : Image) (a b : List ℕ) → Spells i a → Spells i b → a ≡ b
one_spelling i a b p q = p.same ∙ sym q.same

pub has_spelling : (i : Image) → Fits i → InForm i → length (file_of i) ≤ limit → Spells i (file_of i)
has_spelling i fits form within = record { fits = fits; form = form; same = refl; within = within }

-- What is behind a spelling is left.
reads : (i : Image) (a rest : List ℕ) → Spells i a → file.read (a ++ rest) ≡ Ok (i, rest)
reads i a rest p = rw p.same (file_law.again i rest (record { fits = p.fits; form = p.form }))

reads_all : (i : Image) (a : List ℕ) → Spells i a → file.read a ≡ Ok (i, [])
reads_all i a p = ap file.read (sym (append-nil a)) ∙ reads i a [] p

pub one_image : (i j : Image) (a : List ℕ) → Spells i a → Spells j a → i ≡ j
one_image i j a p q = ap (λ (x : Image × List ℕ). x.0) (ok_is (i, []) (j, []) (sym (reads_all i a p) ∙ reads_all j a q))

pub no_prefix : (i j : Image) (a rest : List ℕ) → Spells i a → Spells j (a ++ rest) → rest ≡ []
no_prefix i j a rest p q = ap (λ (x : Image × List ℕ). x.1) (ok_is (i, rest) (j, []) (sym (reads i a rest p) ∙ reads_all j (a ++ rest) q))

pub spelled_is_read : (i : Image) (bytes : List ℕ) → Spells i bytes → image_of bytes ≡ Ok i
unfolding image_of
spelled_is_read i bytes p =
    let short : ltb limit (length bytes) ≡ false = le-ltb _ _ p.within in
    rw (short, reads_all i bytes p) refl

size_ok : (b : Bool) (e : ImageFault) (r : Result Image ImageFault) (i : Image) → cond b (Err e) r ≡ Ok i → (b ≡ false) × (r ≡ Ok i)
size_ok true e r i h = absurd cc
size_ok false e r i h = (refl, h)

all_ok : (b : Bool) (e : ImageFault) (x i : Image) → cond b (Ok x) (Err e) ≡ Ok i → (b ≡ true) × (x ≡ i)
all_ok true e x i h = (refl, cc)
all_ok false e x i h = absurd cc

ended_is : (bytes : List ℕ) (i : Image) (r : Reading Image) → IsBytes bytes → length bytes ≤ limit → file.read bytes ≡ r → ended (length bytes) r ≡ Ok i → Spells i bytes
ended_is bytes i (Err stop) fits within is e = absurd cc
ended_is bytes i (Ok x) fits within is e =
    let all = all_ok _ _ x.0 i e in
    let t = file_law.takes bytes x.0 x.1 fits is in
    let none : x.1 ≡ [] = nil_from_length x.1 (eqb-true _ _ all.0) in
    let same : bytes ≡ file_of x.0 = t.0.parts ∙ ap (λ (w : List ℕ). file_of x.0 ++ w) none ∙ append-nil (file_of x.0) in
    subst (λ (y : Image). Spells y bytes) all.1 (record { fits = t.1.fits; form = t.1.form; same = same; within = within })

pub read_is_spelled : (i : Image) (bytes : List ℕ) → IsBytes bytes → image_of bytes ≡ Ok i → Spells i bytes
unfolding image_of
read_is_spelled i bytes fits e =
    let size = size_ok (ltb limit (length bytes)) fault.TooLong (ended (length bytes) (file.read bytes)) i e in
    ended_is bytes i (file.read bytes) fits (ltb-false _ _ size.0) refl size.1
