-- What an image takes in a file, part by part.
use Rattle.std.proofs.Common.{◌≡◌, ℕ, suc, ◌+◌, ◌*◌, ◌≤◌, List, [], ◌∷◌, ◌++◌, length, map, refl, ap, arith}
use Rattle.std.specs.Prelude.{All}
use Rattle.std.specs.Int.{w16, w32}
use Rattle.std.specs.List.{flat_map}
use Rattle.std.proofs.lemmas.List.{length-append}
use Rattle.jn_code.specs.declared.image.Text.{Text}
use Rattle.jn_code.specs.declared.image.Shape.{Shape}
use Rattle.jn_code.specs.declared.image.Group.{Group}
use Rattle.jn_code.specs.declared.image.Image.{Image}
use Rattle.jn_code.specs.declared.image.ClassRow.{ClassRow}
use Rattle.jn_code.specs.declared.image.MemberEntry.{MemberEntry}
use Rattle.jn_code.specs.declared.image.MethodEntry.{MethodEntry}
use Rattle.jn_code.specs.declared.image.FieldEntry.{FieldEntry}
use Rattle.jn_code.specs.declared.image.OtherEntry.{OtherEntry}
use Rattle.jn_code.specs.SpellsFields.{number, part, last}
use Rattle.jn_code.specs.SpellsFile as file
use Rattle.jn_code.specs.Form.{GroupInForm}
use Rattle.jn_size_laws.specs.Sizes.{total}
use Rattle.jn_size_laws.specs.Files.{text_bytes, shape_bytes, entries, texts_take, selectors_take, all_entries}
use Rattle.jn_size_laws.proofs.Bytes.{bytes_long}

abbrev le : ℕ → List ℕ
le n = (number w32).spelled n

abbrev le2 : ℕ → List ℕ
le2 n = (number w16).spelled n

-- ---- lists

pub sums : {A : Type 0} (f : A → List ℕ) (g : A → ℕ) → ((x : A) → length (f x) ≡ g x) → (xs : List A) →
    length (flat_map f xs) ≡ total (map g xs)
sums f g e [] = refl
sums f g e (x ∷ xs) =
    let l = length-append (f x) (flat_map f xs) in
    let a = e x in
    let r = sums f g e xs in
    omega (arith, l, a, r)

few : {A : Type 0} (f : A → List ℕ) → ((x : A) → length (f x) ≤ 8) → (xs : List A) →
    length (flat_map f xs) ≤ 8 * length xs
few f e [] = omega arith
few f e (x ∷ xs) =
    let l = length-append (f x) (flat_map f xs) in
    let a = e x in
    let r = few f e xs in
    omega (arith, l, a, r)

-- ---- parts

text_spelled : (t : Text) → file.text.spelled t ≡ le (length t.bytes) ++ t.bytes
unfolding file.text part last
text_spelled t = refl

text_long : (t : Text) → length (file.text.spelled t) ≡ text_bytes t
text_long t = let e = ap (λ (bytes : List ℕ). length bytes) (text_spelled t) in omega (arith, e)

shape_spelled : (s : Shape) → file.shape.spelled s ≡
    (length s.params ∷ flat_map (λ (k : ℕ). k ∷ []) s.params) ++ s.result ∷ []
unfolding file.shape part last
shape_spelled s = refl

shape_long : (s : Shape) → length (file.shape.spelled s) ≡ shape_bytes s
shape_long s =
    let e = ap (λ (bytes : List ℕ). length bytes) (shape_spelled s) in
    let k = flat_map (λ (k : ℕ). k ∷ []) s.params in
    let l = length-append (length s.params ∷ k) (s.result ∷ []) in
    let b = bytes_long s.params in
    omega (arith, e, l, b)

group_spelled : (g : Group) → file.group.spelled g ≡ length g.slots ∷ flat_map (λ (k : ℕ). k ∷ []) g.slots
unfolding file.group part last
group_spelled g = refl

group_long : (g : Group) → length (file.group.spelled g) ≡ suc (length g.slots)
group_long g =
    let e = ap (λ (bytes : List ℕ). length bytes) (group_spelled g) in
    let b = bytes_long g.slots in
    omega (arith, e, b)

member_long : (e : MemberEntry) → length ((file.member 0).spelled e) ≤ 8
unfolding file.member part last
member_long e = omega arith

method_long : (e : MethodEntry) → length ((file.method 0).spelled e) ≤ 8
unfolding file.method part last
method_long e = omega arith

field_long : (e : FieldEntry) → length ((file.field 0).spelled e) ≤ 8
unfolding file.field part last
field_long e = omega arith

other_long : (e : OtherEntry) → length ((file.other 0).spelled e) ≤ 8
unfolding file.other part last
other_long e = omega arith

row_spelled : (r : ClassRow) → file.row.spelled r ≡ le2 r.up ++ (le2 r.family ++ (le2 r.group
    ++ ((le2 (length r.members) ++ flat_map (file.member 0).spelled r.members)
    ++ ((le (length r.methods) ++ flat_map (file.method 0).spelled r.methods)
    ++ ((le2 (length r.fields) ++ flat_map (file.field 0).spelled r.fields)
    ++ (le2 (length r.others) ++ flat_map (file.other 0).spelled r.others))))))
unfolding file.row part last
row_spelled r = refl

row_long : (r : ClassRow) → length (file.row.spelled r) ≤ 16 + 8 * entries r
row_long r =
    let e = ap (λ (bytes : List ℕ). length bytes) (row_spelled r) in
    let ms = flat_map (file.member 0).spelled r.members in
    let cs = flat_map (file.method 0).spelled r.methods in
    let fs = flat_map (file.field 0).spelled r.fields in
    let os = flat_map (file.other 0).spelled r.others in
    let a = length-append ms ((le (length r.methods) ++ cs) ++ ((le2 (length r.fields) ++ fs)
    ++ (le2 (length r.others) ++ os))) in
    let b = length-append cs ((le2 (length r.fields) ++ fs) ++ (le2 (length r.others) ++ os)) in
    let d = length-append fs (le2 (length r.others) ++ os) in
    let m = few (file.member 0).spelled member_long r.members in
    let c = few (file.method 0).spelled method_long r.methods in
    let f = few (file.field 0).spelled field_long r.fields in
    let o = few (file.other 0).spelled other_long r.others in
    omega (arith, e, a, b, d, m, c, f, o)

rows_long : (rs : List ClassRow) →
    length (flat_map file.row.spelled rs) ≤ 16 * length rs + 8 * total (map entries rs)
rows_long [] = omega arith
rows_long (r ∷ rs) =
    let l = length-append (file.row.spelled r) (flat_map file.row.spelled rs) in
    let a = row_long r in
    let b = rows_long rs in
    omega (arith, l, a, b)

groups_long : (gs : List Group) → All GroupInForm gs → length (flat_map file.group.spelled gs) ≤ 251 * length gs
groups_long [] all = omega arith
groups_long (g ∷ gs) all =
    let l = length-append (file.group.spelled g) (flat_map file.group.spelled gs) in
    let a = group_long g in
    let most = (all 0 g (omega arith)).count in
    let b = groups_long gs (λ k d lt. all (suc k) d (omega (arith, lt))) in
    omega (arith, l, a, most, b)

file_spelled : (i : Image) → file.file.spelled i ≡ le file.magic
    ++ ((le (length i.texts) ++ flat_map file.text.spelled i.texts)
    ++ ((le (length i.methods) ++ flat_map file.shape.spelled i.methods)
    ++ ((le (length i.fields) ++ flat_map (λ (k : ℕ). k ∷ []) i.fields)
    ++ ((le2 (length i.groups) ++ flat_map file.group.spelled i.groups)
    ++ ((le2 (length i.classes) ++ flat_map file.row.spelled i.classes)
    ++ ((le (length i.codes) ++ flat_map file.code.spelled i.codes) ++ le i.start))))))
unfolding file.file part last
file_spelled i = refl

-- the file is its parts and 28 bytes more
pub file_long : (i : Image) → All GroupInForm i.groups → length (file.file.spelled i) ≤
    28 + (texts_take i + (selectors_take i + (251 * length i.groups + (16 * length i.classes
    + (8 * all_entries i + length (flat_map file.code.spelled i.codes))))))
file_long i all =
    let e = ap (λ (bytes : List ℕ). length bytes) (file_spelled i) in
    let ts = flat_map file.text.spelled i.texts in
    let ms = flat_map file.shape.spelled i.methods in
    let fs = flat_map (λ (k : ℕ). k ∷ []) i.fields in
    let gs = flat_map file.group.spelled i.groups in
    let rs = flat_map file.row.spelled i.classes in
    let cs = flat_map file.code.spelled i.codes in
    let after_rows = (le (length i.codes) ++ cs) ++ le i.start in
    let after_groups = (le2 (length i.classes) ++ rs) ++ after_rows in
    let after_fields = (le2 (length i.groups) ++ gs) ++ after_groups in
    let after_methods = (le (length i.fields) ++ fs) ++ after_fields in
    let after_texts = (le (length i.methods) ++ ms) ++ after_methods in
    let a = length-append ts after_texts in
    let b = length-append ms after_methods in
    let c = length-append fs after_fields in
    let d = length-append gs after_groups in
    let f = length-append rs after_rows in
    let g = length-append cs (le i.start) in
    let tl = sums file.text.spelled text_bytes text_long i.texts in
    let ml = sums file.shape.spelled shape_bytes shape_long i.methods in
    let fl = bytes_long i.fields in
    let gl = groups_long i.groups all in
    let rl = rows_long i.classes in
    omega (arith, e, a, b, c, d, f, g, tl, ml, fl, gl, rl)
