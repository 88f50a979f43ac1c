-- Reading one item after another, as a loop does.
use Rattle.std.proofs.Common.{◌≡◌, ℕ, zero, suc, length, ◌-◌, ◌+◌, ◌≤◌, ◌<◌, List, [], ◌∷◌, ◌++◌, Ok, Err, refl, sym, ap, ◌∙◌, append_assoc, arith}
use Rattle.std.proofs.lemmas.List.{append-nil}
use Rattle.jn_code.specs.SpellsFields.{Reading, ◌>>=◌, read_listed, read_ascending}
use Rattle.jn_code.specs.SpellsFields as spells
use Rattle.jn_code.proofs.FieldLaws.{bind_ok, ok_is}
use Rattle.jn_imagefile.specs.declared.stop.Stop.{Stop}
use Rattle.jn_imagefile.specs.declared.stop.Stop.TheVariants as stop
use Rattle.jn_imagefile.specs.Gives.{Stops}

-- what was read before, and what is still read
abbrev pub with_front : {A : Type 0} → List A → Reading (List A) → Reading (List A)
with_front front read = read >>= λ x. Ok (front ++ x.0, x.1)

regroup : {A : Type 0} (front : List A) (a : A) (read : Reading (List A)) → with_front front (read >>= λ x. Ok (a ∷ x.0, x.1)) ≡ with_front (front ++ a ∷ []) read
regroup {A} front a (Ok x) = ap (λ (xs : List A). Ok (xs, x.1)) (simp append_assoc)
regroup front a (Err f) = refl

no_front : {A : Type 0} (read : Reading (List A)) → with_front [] read ≡ read
no_front (Ok x) = refl
no_front (Err f) = refl

-- ---- items

pub begins : {A : Type 0} (read : List ℕ → Reading A) (count : ℕ) (bytes : List ℕ) → with_front [] (read_listed read (count - 0) bytes) ≡ read_listed read count bytes
begins read count bytes = no_front (read_listed read (count - 0) bytes) ∙ ap (λ (n : ℕ). read_listed read n bytes) (omega arith)

pub goes_on : {A : Type 0} (read : List ℕ → Reading A) (front : List A) (count i : ℕ) (bytes : List ℕ) (a : A) (after : List ℕ) (total : Reading (List A)) → i < count → read bytes ≡ Ok (a, after)
    → with_front front (read_listed read (count - i) bytes) ≡ total → with_front (front ++ a ∷ []) (read_listed read (count - (i + 1)) after) ≡ total
unfolding read_listed
goes_on read front count i bytes a after total lt h so_far =
    let k : count - i ≡ suc (count - (i + 1)) = omega arith in
    let one : with_front front (read_listed read (count - i) bytes) ≡ with_front (front ++ a ∷ []) (read_listed read (count - (i + 1)) after) = rw (k, h) (regroup front a (read_listed read (count - (i + 1)) after)) in
    sym one ∙ so_far

ends : {A : Type 0} (f : spells.Stop) (read : List ℕ → Reading A) (front : List A) (count i : ℕ) (bytes : List ℕ) (total : Reading (List A)) → i < count → read bytes ≡ Err f
    → with_front front (read_listed read (count - i) bytes) ≡ total → total ≡ Err f
unfolding read_listed
ends f read front count i bytes total lt h so_far =
    let k : count - i ≡ suc (count - (i + 1)) = omega arith in
    let one : with_front front (read_listed read (count - i) bytes) ≡ Err f = rw (k, h) refl in
    sym so_far ∙ one

pub stops : {A : Type 0} (e : Stop) (read : List ℕ → Reading A) (front : List A) (count i : ℕ) (bytes : List ℕ) (total : Reading (List A)) → i < count → Stops e (read bytes)
    → with_front front (read_listed read (count - i) bytes) ≡ total → Stops e total
stops stop.Memory read front count i bytes total lt h so_far = tt
stops (stop.Short left) read front count i bytes total lt h so_far = ends _ read front count i bytes total lt h so_far
stops stop.Magic read front count i bytes total lt h so_far = ends _ read front count i bytes total lt h so_far
stops (stop.Bad left why) read front count i bytes total lt h so_far = ends _ read front count i bytes total lt h so_far

pub is_done : {A : Type 0} (read : List ℕ → Reading A) (front : List A) (count i : ℕ) (bytes : List ℕ) (total : Reading (List A)) → count ≤ i → with_front front (read_listed read (count - i) bytes) ≡ total → total ≡ Ok (front, bytes)
unfolding read_listed
is_done {A} read front count i bytes total le so_far =
    let k : count - i ≡ 0 = omega arith in
    let one : with_front front (read_listed read (count - i) bytes) ≡ Ok (front, bytes) = rw k (ap (λ (xs : List A). Ok (xs, bytes)) (append-nil front)) in
    sym so_far ∙ one

-- ---- entries in order

pub begins_in_order : {A : Type 0} (key : A → ℕ) (read : ℕ → List ℕ → Reading A) (count : ℕ) (bytes : List ℕ) → with_front [] (read_ascending key read 0 (count - 0) bytes) ≡ read_ascending key read 0 count bytes
begins_in_order key read count bytes = no_front (read_ascending key read 0 (count - 0) bytes) ∙ ap (λ (n : ℕ). read_ascending key read 0 n bytes) (omega arith)

pub goes_on_in_order : {A : Type 0} (key : A → ℕ) (read : ℕ → List ℕ → Reading A) (front : List A) (count i least : ℕ) (bytes : List ℕ) (a : A) (after : List ℕ) (total : Reading (List A)) → i < count → read least bytes ≡ Ok (a, after)
    → with_front front (read_ascending key read least (count - i) bytes) ≡ total → with_front (front ++ a ∷ []) (read_ascending key read (key a + 1) (count - (i + 1)) after) ≡ total
unfolding read_ascending
goes_on_in_order key read front count i least bytes a after total lt h so_far =
    let k : count - i ≡ suc (count - (i + 1)) = omega arith in
    let next : key a + 1 ≡ suc (key a) = omega arith in
    let one : with_front front (read_ascending key read least (count - i) bytes) ≡ with_front (front ++ a ∷ []) (read_ascending key read (suc (key a)) (count - (i + 1)) after) =
    rw (k, h) (regroup front a (read_ascending key read (suc (key a)) (count - (i + 1)) after)) in
    ap (λ (l : ℕ). with_front (front ++ a ∷ []) (read_ascending key read l (count - (i + 1)) after)) next ∙ sym one ∙ so_far

ends_in_order : {A : Type 0} (f : spells.Stop) (key : A → ℕ) (read : ℕ → List ℕ → Reading A) (front : List A) (count i least : ℕ) (bytes : List ℕ) (total : Reading (List A)) → i < count → read least bytes ≡ Err f
    → with_front front (read_ascending key read least (count - i) bytes) ≡ total → total ≡ Err f
unfolding read_ascending
ends_in_order f key read front count i least bytes total lt h so_far =
    let k : count - i ≡ suc (count - (i + 1)) = omega arith in
    let one : with_front front (read_ascending key read least (count - i) bytes) ≡ Err f = rw (k, h) refl in
    sym so_far ∙ one

pub stops_in_order : {A : Type 0} (e : Stop) (key : A → ℕ) (read : ℕ → List ℕ → Reading A) (front : List A) (count i least : ℕ) (bytes : List ℕ) (total : Reading (List A)) → i < count → Stops e (read least bytes)
    → with_front front (read_ascending key read least (count - i) bytes) ≡ total → Stops e total
stops_in_order stop.Memory key read front count i least bytes total lt h so_far = tt
stops_in_order (stop.Short left) key read front count i least bytes total lt h so_far = ends_in_order _ key read front count i least bytes total lt h so_far
stops_in_order stop.Magic key read front count i least bytes total lt h so_far = ends_in_order _ key read front count i least bytes total lt h so_far
stops_in_order (stop.Bad left why) key read front count i least bytes total lt h so_far = ends_in_order _ key read front count i least bytes total lt h so_far

pub is_done_in_order : {A : Type 0} (key : A → ℕ) (read : ℕ → List ℕ → Reading A) (front : List A) (count i least : ℕ) (bytes : List ℕ) (total : Reading (List A)) → count ≤ i
    → with_front front (read_ascending key read least (count - i) bytes) ≡ total → total ≡ Ok (front, bytes)
unfolding read_ascending
is_done_in_order {A} key read front count i least bytes total le so_far =
    let k : count - i ≡ 0 = omega arith in
    let one : with_front front (read_ascending key read least (count - i) bytes) ≡ Ok (front, bytes) = rw k (ap (λ (xs : List A). Ok (xs, bytes)) (append-nil front)) in
    sym so_far ∙ one

-- as many as were asked for
pub count_of_listed : {A : Type 0} (read : List ℕ → Reading A) (n : ℕ) (bytes : List ℕ) (xs : List A) (rest : List ℕ) → read_listed read n bytes ≡ Ok (xs, rest) → length xs ≡ n
unfolding read_listed
count_of_listed {A} read zero bytes xs rest e = let same : [] ≡ xs = ap (λ (y : List A × List ℕ). y.0) (ok_is ([], bytes) (xs, rest) e) in ap length (sym same)
count_of_listed {A} read (suc n) bytes xs rest e =
    let a = bind_ok (read bytes) (λ x. read_listed read n x.1 >>= λ ys. Ok (x.0 ∷ ys.0, ys.1)) (xs, rest) e in
    let b = bind_ok (read_listed read n a.0.1) (λ ys. Ok (a.0.0 ∷ ys.0, ys.1)) (xs, rest) a.2 in
    let same : a.0.0 ∷ b.0.0 ≡ xs = ap (λ (y : List A × List ℕ). y.0) (ok_is (a.0.0 ∷ b.0.0, b.0.1) (xs, rest) b.2) in
    ap length (sym same) ∙ ap suc (count_of_listed read n a.0.1 b.0.0 b.0.1 b.1)
