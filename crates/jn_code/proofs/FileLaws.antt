-- The file of an image is read as it was written.
use Rattle.std.proofs.Common.{◌≡◌, ℕ, suc, ◌-◌, ◌<◌, ◌≤◌, Bool, true, false, List, [], ◌∷◌, length, map, All, refl, sym, ap, arith}
use Rattle.std.specs.Prelude.{nat_le, ◌&&◌, ◌==◌}
use Rattle.std.specs.Int.{w16, w32}
use Rattle.std.proofs.lemmas.Bool.{leb-true, le-leb, eqb-true}
use Rattle.std.proofs.lemmas.List.Elements.{All-from_recursion, recursion_from_All}
use Rattle.jn_code.specs.declared.image.Image.{Image}
use Rattle.jn_code.specs.declared.image.Shape.{Shape}
use Rattle.jn_code.specs.declared.image.ClassRow.{ClassRow}
use Rattle.jn_code.specs.declared.image.MemberEntry.{MemberEntry}
use Rattle.jn_code.specs.declared.image.MethodEntry.{MethodEntry}
use Rattle.jn_code.specs.declared.image.FieldEntry.{FieldEntry}
use Rattle.jn_code.specs.declared.image.OtherEntry.{OtherEntry}
use Rattle.jn_code.specs.declared.image.Code.{Code}
use Rattle.jn_code.specs.declared.fault.FieldKind.TheVariants as kind
use Rattle.jn_code.specs.Form.{IsKind, IsBelowFirst, Ascends, ShapeInForm, GroupInForm, RowInForm, CodeInForm, InForm}
use Rattle.jn_code.specs.Spells.{MemberFits, MethodFits, FieldFits, OtherFits, RowFits, CodeFits, Fits}
use Rattle.jn_code.specs.SpellsFields.{Field, Magic, Bad, byte, raw, number, kind_byte, at_most, at_least, part, last, listed, ascending, counted}
use Rattle.jn_code.specs.SpellsFile.{magic, magic_number, kinds, text, shape, group, member, method, field, other, row, code, file}
use Rattle.jn_code.proofs.FieldLaws.{IsField, same_field, byte_law, raw_law, law16, law32, passing_law, part_law, last_law, listed_law, ascending_law, AscendsFrom}
use Rattle.jn_code.proofs.InstrLaws.{instr_law}

-- ---- numbers with a condition

pub at_most_law : (most : ℕ) (f : Field ℕ) (P : ℕ → Type 0) → IsField f P → IsField (at_most most f) (λ n. P n × (n ≤ most))
at_most_law most f P law = same_field (at_most most f) _ (λ n. P n × (n ≤ most))
    (passing_law (λ n. nat_le n most) (λ left. Bad left kind.Count) f P law)
    (λ n h. (h.0, leb-true n most h.1)) (λ n h. (h.0, le-leb n most h.1))

pub at_least_law : (least : ℕ) (f : Field ℕ) (P : ℕ → Type 0) → IsField f P → IsField (at_least least f) (λ n. P n × (least ≤ n))
at_least_law least f P law = same_field (at_least least f) _ (λ n. P n × (least ≤ n))
    (passing_law (λ n. nat_le least n) (λ left. Bad left kind.Order) f P law)
    (λ n h. (h.0, leb-true least n h.1)) (λ n h. (h.0, le-leb least n h.1))

both_true : (a b : Bool) → (a && b) ≡ true → (a ≡ true) × (b ≡ true)
both_true true b e = (refl, e)
both_true false b e = absurd cc

pub kind_law : (least most : ℕ) → most < 256 → IsField (kind_byte least most) (λ k. (least ≤ k) × (k ≤ most))
kind_law least most lt = same_field (kind_byte least most) _ (λ k. (least ≤ k) × (k ≤ most))
    (passing_law (λ k. nat_le least k && nat_le k most) (λ left. Bad left kind.Kind) byte _ byte_law)
    (λ k h. let b = both_true (nat_le least k) (nat_le k most) h.1 in (leb-true least k b.0, leb-true k most b.1))
    (λ k h. (omega arith, rw (le-leb least k h.0, le-leb k most h.1) refl))

-- ---- lists

pub counted_law : {A : Type 0} {items : ℕ → Field (List A)} {Q : List A → Type 0} (count : Field ℕ) (P : ℕ → Type 0) → IsField count P → ((n : ℕ) → IsField (items n) (λ xs. (length xs ≡ n) × Q xs))
    → IsField (counted count items) (λ xs. P (length xs) × Q xs)
counted_law {A} {items} {Q} count P one each = same_field (counted count items) _ (λ xs. P (length xs) × Q xs)
    (part_law {first = count} {next = items} {P = P} {Q = λ n xs. (length xs ≡ n) × Q xs} one each (λ n xs p h. h.0))
    (λ xs h. (h.0, h.1.1)) (λ xs h. (h.0, (refl, h.1)))

pub items_law : {A : Type 0} {item : Field A} {P : A → Type 0} → IsField item P → (n : ℕ) → IsField (listed item n) (λ xs. (length xs ≡ n) × All P xs)
items_law {A} {item} {P} law n = same_field (listed item n) _ (λ xs. (length xs ≡ n) × All P xs) (listed_law law n)
    (λ xs h. (h.0, All-from_recursion P xs h.1)) (λ xs h. (h.0, recursion_from_All P xs h.1))

below_first : (k : ℕ) (ks : List ℕ) → AscendsFrom (suc k) ks → IsBelowFirst k ks
below_first k [] h = tt
below_first k (x ∷ ks) h = omega (arith, h.0)

ascends : (least : ℕ) (ks : List ℕ) → AscendsFrom least ks → Ascends ks
ascends least [] h = tt
ascends least (k ∷ ks) h = (below_first k ks h.1, ascends (suc k) ks h.1)

abbrev FirstFrom : ℕ → List ℕ → Type 0
FirstFrom least [] = Unit {0}
FirstFrom least (k ∷ ks) = least ≤ k

first_from : (k : ℕ) (ks : List ℕ) → IsBelowFirst k ks → FirstFrom (suc k) ks
first_from k [] h = tt
first_from k (x ∷ ks) h = omega (arith, h)

ascends_from : (least : ℕ) (ks : List ℕ) → FirstFrom least ks → Ascends ks → AscendsFrom least ks
ascends_from least [] first h = tt
ascends_from least (k ∷ ks) first h = (first, ascends_from (suc k) ks (first_from k ks h.0) h.1)

first_from_zero : (ks : List ℕ) → FirstFrom 0 ks
first_from_zero [] = tt
first_from_zero (k ∷ ks) = omega arith

pub entries_law : {A : Type 0} (key : A → ℕ) (entry : ℕ → Field A) (P : A → Type 0) → ((l : ℕ) → IsField (entry l) (λ x. P x × (l ≤ key x))) → ((l : ℕ) (x : A) → (entry l).spelled x ≡ (entry 0).spelled x)
    → (n : ℕ) → IsField (ascending key entry n) (λ xs. (length xs ≡ n) × (Ascends (map key xs) × All P xs))
entries_law key entry P law same n = same_field (ascending key entry n) _ (λ xs. (length xs ≡ n) × (Ascends (map key xs) × All P xs)) (ascending_law key entry P law same n)
    (λ xs h. (h.0, (ascends 0 (map key xs) h.1, All-from_recursion P xs h.2)))
    (λ xs h. (h.0, ascends_from 0 (map key xs) (first_from_zero (map key xs)) h.1.0, recursion_from_All P xs h.1.1))

-- ---- the parts of the file

pub kinds_law : (n : ℕ) → IsField (kinds n) (λ ks. (length ks ≡ n) × All IsKind ks)
kinds_law = items_law (kind_law 1 3 (omega arith))

pub text_law : IsField text (λ t. length t.bytes < 4294967296)
unfolding text
text_law = same_field text _ (λ t. length t.bytes < 4294967296)
    (last_law (λ bytes. record { bytes = bytes }) (counted_law {Q = λ (b : List ℕ). Unit {0}} (number w32) (λ n. n < 4294967296) law32 (λ n. same_field (raw n) _ (λ b. (length b ≡ n) × Unit {0}) (raw_law n) (λ b h. (h, tt)) (λ b h. h.0))) (λ x. refl))
    (λ t h. h.0.0) (λ t h. ((h, tt), refl))

pub shape_law : IsField shape ShapeInForm
unfolding shape
shape_law = same_field shape _ ShapeInForm
    (part_law (counted_law (at_most 15 byte) _ (at_most_law 15 byte _ byte_law) kinds_law)
    (λ params. last_law (λ result. record { params = params; result = result }) (kind_law 0 3 (omega arith)) (λ x. refl))
    (λ params s p h. ap (λ (t : Shape). t.params) h.1))
    (λ s h. record { count = h.0.0.1; params = h.0.1; result = h.1.0.1 })
    (λ s f. (((omega (arith, f.count), f.count), f.params), ((omega arith, f.result), refl)))

pub group_law : IsField group GroupInForm
unfolding group
group_law = same_field group _ GroupInForm
    (last_law (λ slots. record { slots = slots }) (counted_law (at_most 250 byte) _ (at_most_law 250 byte _ byte_law) kinds_law) (λ x. refl))
    (λ g h. record { count = h.0.0.1; slots = h.0.1 })
    (λ g f. (((omega (arith, f.count), f.count), f.slots), refl))

-- ---- entries of a class

from16 : (least : ℕ) → IsField (at_least least (number w16)) (λ n. (n < 65536) × (least ≤ n))
from16 least = at_least_law least (number w16) _ law16

from32 : (least : ℕ) → IsField (at_least least (number w32)) (λ n. (n < 4294967296) × (least ≤ n))
from32 least = at_least_law least (number w32) _ law32

member_law : (least : ℕ) → IsField (member least) (λ e. MemberFits e × (least ≤ e.name))
unfolding member
member_law least = same_field (member least) _ (λ e. MemberFits e × (least ≤ e.name))
    (part_law (from16 least) (λ name. last_law (λ class. record { name = name; class = class }) law16 (λ x. refl)) (λ name s p h. ap (λ (e : MemberEntry). e.name) h.1))
    (λ e h. ((h.0.0, h.1.0), h.0.1)) (λ e h. ((h.0.0, h.1), (h.0.1, refl)))

method_law : (least : ℕ) → IsField (method least) (λ e. MethodFits e × (least ≤ e.selector))
unfolding method
method_law least = same_field (method least) _ (λ e. MethodFits e × (least ≤ e.selector))
    (part_law (from32 least) (λ selector. last_law (λ code. record { selector = selector; code = code }) law32 (λ x. refl)) (λ selector s p h. ap (λ (e : MethodEntry). e.selector) h.1))
    (λ e h. ((h.0.0, h.1.0), h.0.1)) (λ e h. ((h.0.0, h.1), (h.0.1, refl)))

field_law : (least : ℕ) → IsField (field least) (λ e. FieldFits e × (least ≤ e.selector))
unfolding field
field_law least = same_field (field least) _ (λ e. FieldFits e × (least ≤ e.selector))
    (part_law (from32 least) (λ selector. last_law (λ slot. record { selector = selector; slot = slot }) byte_law (λ x. refl)) (λ selector s p h. ap (λ (e : FieldEntry). e.selector) h.1))
    (λ e h. ((h.0.0, h.1.0), h.0.1)) (λ e h. ((h.0.0, h.1), (h.0.1, refl)))

other_law : (least : ℕ) → IsField (other least) (λ e. OtherFits e × (least ≤ e.family))
unfolding other
other_law least = same_field (other least) _ (λ e. OtherFits e × (least ≤ e.family))
    (part_law (from16 least) (λ family. last_law (λ class. record { family = family; class = class }) law16 (λ x. refl)) (λ family s p h. ap (λ (e : OtherEntry). e.family) h.1))
    (λ e h. ((h.0.0, h.1.0), h.0.1)) (λ e h. ((h.0.0, h.1), (h.0.1, refl)))

member_same : (l : ℕ) (e : MemberEntry) → (member l).spelled e ≡ (member 0).spelled e
unfolding member part last
member_same l e = refl

method_same : (l : ℕ) (e : MethodEntry) → (method l).spelled e ≡ (method 0).spelled e
unfolding method part last
method_same l e = refl

field_same : (l : ℕ) (e : FieldEntry) → (field l).spelled e ≡ (field 0).spelled e
unfolding field part last
field_same l e = refl

other_same : (l : ℕ) (e : OtherEntry) → (other l).spelled e ≡ (other 0).spelled e
unfolding other part last
other_same l e = refl

-- ---- a class, a code, the image

members_law : IsField (counted (number w16) (ascending (λ e. e.name) member)) (λ es. (length es < 65536) × (Ascends (map (λ (e : MemberEntry). e.name) es) × All MemberFits es))
members_law = counted_law (number w16) _ law16 (entries_law (λ (e : MemberEntry). e.name) member MemberFits member_law member_same)

methods_law : IsField (counted (number w32) (ascending (λ e. e.selector) method)) (λ es. (length es < 4294967296) × (Ascends (map (λ (e : MethodEntry). e.selector) es) × All MethodFits es))
methods_law = counted_law (number w32) _ law32 (entries_law (λ (e : MethodEntry). e.selector) method MethodFits method_law method_same)

fields_law : IsField (counted (number w16) (ascending (λ e. e.selector) field)) (λ es. (length es < 65536) × (Ascends (map (λ (e : FieldEntry). e.selector) es) × All FieldFits es))
fields_law = counted_law (number w16) _ law16 (entries_law (λ (e : FieldEntry). e.selector) field FieldFits field_law field_same)

others_law : IsField (counted (number w16) (ascending (λ e. e.family) other)) (λ es. (length es < 65536) × (Ascends (map (λ (e : OtherEntry). e.family) es) × All OtherFits es))
others_law = counted_law (number w16) _ law16 (entries_law (λ (e : OtherEntry). e.family) other OtherFits other_law other_same)

pub record RowFine (r : ClassRow) : Type 0 where
  pub fits : RowFits r
  pub form : RowInForm r

pub row_law : IsField row RowFine
unfolding row
row_law = same_field row _ RowFine
    (part_law law16 (λ up.
    part_law law16 (λ family.
    part_law law16 (λ group.
    part_law members_law (λ members.
    part_law methods_law (λ methods.
    part_law fields_law (λ fields.
    last_law (λ others. record { up = up; family = family; group = group; members = members; methods = methods; fields = fields; others = others }) others_law (λ x. refl))
    (λ x s p h. ap (λ (r : ClassRow). r.fields) h.1))
    (λ x s p h. ap (λ (r : ClassRow). r.methods) h.1.1))
    (λ x s p h. ap (λ (r : ClassRow). r.members) h.1.1.1))
    (λ x s p h. ap (λ (r : ClassRow). r.group) h.1.1.1.1))
    (λ x s p h. ap (λ (r : ClassRow). r.family) h.1.1.1.1.1))
    (λ x s p h. ap (λ (r : ClassRow). r.up) h.1.1.1.1.1.1))
    (λ r h.
    let members = h.1.1.1.0 in
    let methods = h.1.1.1.1.0 in
    let fields = h.1.1.1.1.1.0 in
    let others = h.1.1.1.1.1.1.0 in
    record {
      fits = record { up = h.0; family = h.1.0; group = h.1.1.0; members = members.1.1; methods = methods.1.1; fields = fields.1.1; others = others.1.1 };
      form = record {
        members_count = members.0;
        methods_count = methods.0;
        fields_count = fields.0;
        others_count = others.0;
        members = members.1.0;
        methods = methods.1.0;
        fields = fields.1.0;
        others = others.1.0;
      };
    })
    (λ r f. (
      f.fits.up,
      (
        f.fits.family,
        (
          f.fits.group,
          (
            (f.form.members_count, (f.form.members, f.fits.members)),
            (
              (f.form.methods_count, (f.form.methods, f.fits.methods)),
              (
                (f.form.fields_count, (f.form.fields, f.fits.fields)),
                ((f.form.others_count, (f.form.others, f.fits.others)), refl),
              ),
            ),
          ),
        ),
      ),
    ))

pub record CodeFine (c : Code) : Type 0 where
  pub fits : CodeFits c
  pub form : CodeInForm c

pub code_law : IsField code CodeFine
unfolding code
code_law = same_field code _ CodeFine
    (part_law (counted_law (at_most 16 byte) _ (at_most_law 16 byte _ byte_law) kinds_law) (λ params.
    part_law (kind_law 0 3 (omega arith)) (λ result.
    part_law (counted_law (at_most (255 - length params) byte) _ (at_most_law (255 - length params) byte _ byte_law) kinds_law) (λ locals.
    part_law (at_most_law 4096 (number w16) _ law16) (λ stack.
    last_law (λ instrs. record { params = params; result = result; locals = locals; stack = stack; instrs = instrs }) (counted_law (number w32) _ law32 (items_law instr_law)) (λ x. refl))
    (λ x s p h. ap (λ (c : Code). c.stack) h.1))
    (λ x s p h. ap (λ (c : Code). c.locals) h.1.1))
    (λ x s p h. ap (λ (c : Code). c.result) h.1.1.1))
    (λ x s p h. ap (λ (c : Code). c.params) h.1.1.1.1))
    (λ c h.
    let params = h.0 in
    let result = h.1.0 in
    let locals = h.1.1.0 in
    let stack = h.1.1.1.0 in
    let instrs = h.1.1.1.1.0 in
    record {
      fits = λ i x e. (instrs.1 i x e).0;
      form = record {
        params_count = params.0.1;
        params = params.1;
        result = result.1;
        locals_count = omega (arith, params.0.1, locals.0.1);
        locals = locals.1;
        stack = stack.1;
        count = instrs.0;
        instrs = λ i x e. (instrs.1 i x e).1;
      };
    })
    (λ c f. (
      ((omega (arith, f.form.params_count), f.form.params_count), f.form.params),
      (
        (omega arith, f.form.result),
        (
          ((omega (arith, f.form.locals_count), omega (arith, f.form.locals_count)), f.form.locals),
          (
            (omega (arith, f.form.stack), f.form.stack),
            ((f.form.count, λ i x e. (f.fits i x e, f.form.instrs i x e)), refl),
          ),
        ),
      ),
    ))

pub record FileFine (i : Image) : Type 0 where
  pub fits : Fits i
  pub form : InForm i

magic_law : IsField magic_number (λ n. n ≡ magic)
magic_law = same_field magic_number _ (λ n. n ≡ magic) (passing_law (λ n. n == magic) (λ left. Magic) (number w32) _ law32)
    (λ n h. eqb-true n magic h.1) (λ n h. (rw h (omega arith), rw h refl))

pub file_law : IsField file FileFine
unfolding file
file_law = same_field file _ FileFine
    (part_law magic_law (λ m.
    part_law (counted_law (number w32) _ law32 (items_law text_law)) (λ texts.
    part_law (counted_law (number w32) _ law32 (items_law shape_law)) (λ methods.
    part_law (counted_law (number w32) _ law32 (items_law (kind_law 1 4 (omega arith)))) (λ fields.
    part_law (counted_law (number w16) _ law16 (items_law group_law)) (λ groups.
    part_law (counted_law (at_most 4096 (number w16)) _ (at_most_law 4096 (number w16) _ law16) (items_law row_law)) (λ classes.
    part_law (counted_law (number w32) _ law32 (items_law code_law)) (λ codes.
    last_law (λ start. record { texts = texts; methods = methods; fields = fields; groups = groups; classes = classes; codes = codes; start = start }) law32 (λ x. refl))
    (λ x s p h. ap (λ (i : Image). i.codes) h.1))
    (λ x s p h. ap (λ (i : Image). i.classes) h.1.1))
    (λ x s p h. ap (λ (i : Image). i.groups) h.1.1.1))
    (λ x s p h. ap (λ (i : Image). i.fields) h.1.1.1.1))
    (λ x s p h. ap (λ (i : Image). i.methods) h.1.1.1.1.1))
    (λ x s p h. ap (λ (i : Image). i.texts) h.1.1.1.1.1.1))
    (λ x s p h. sym p))
    (λ i h.
    let texts = h.1.0 in
    let methods = h.1.1.0 in
    let fields = h.1.1.1.0 in
    let groups = h.1.1.1.1.0 in
    let classes = h.1.1.1.1.1.0 in
    let codes = h.1.1.1.1.1.1.0 in
    record {
      fits = record { classes = λ k d e. (classes.1 k d e).fits; codes = λ k d e. (codes.1 k d e).fits; start = h.1.1.1.1.1.1.1.0 };
      form = record {
        texts_count = texts.0;
        texts = texts.1;
        methods_count = methods.0;
        methods = methods.1;
        fields_count = fields.0;
        fields = fields.1;
        groups_count = groups.0;
        groups = groups.1;
        classes_count = classes.0.1;
        classes = λ k d e. (classes.1 k d e).form;
        codes_count = codes.0;
        codes = λ k d e. (codes.1 k d e).form;
      };
    })
    (λ i f. (
      refl,
      (
        (f.form.texts_count, f.form.texts),
        (
          (f.form.methods_count, f.form.methods),
          (
            (f.form.fields_count, f.form.fields),
            (
              (f.form.groups_count, f.form.groups),
              (
                ((omega (arith, f.form.classes_count), f.form.classes_count), λ k d e. record { fits = f.fits.classes k d e; form = f.form.classes k d e }),
                (
                  (f.form.codes_count, λ k d e. record { fits = f.fits.codes k d e; form = f.form.codes k d e }),
                  (f.fits.start, refl),
                ),
              ),
            ),
          ),
        ),
      ),
    ))
