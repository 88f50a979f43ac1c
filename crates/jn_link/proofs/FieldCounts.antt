-- How many fields a program declares, by its list of them.
use Rattle.std.proofs.Common.{◌≡◌, ℕ, List, [], ◌∷◌, length, length-append, map, Contains, refl, sym, ap, ◌∙◌, subst, arith}
use Rattle.jn_base.specs.declared.tree.Decl.{Decl, roll-Decl}
use Rattle.jn_base.specs.declared.tree.Member.{Member, out-Member, fold-Member, roll-Member, out-roll-Member}
use Rattle.jn_base.specs.declared.tree.Member.TheOpen.{Member-F}
use Rattle.jn_base.specs.declared.tree.Member.TheFolds.{map-Member, map-Decl, ind-Decl, fold_out-Member, fold_out-Decl}
use Rattle.jn_base.specs.declared.tree.Program.{Program}
use Rattle.jn_base.specs.Paths.{Path}
use Rattle.jn_base.proofs.NameTests.{first, later}
use Rattle.jn_base.proofs.FoundTwice.{unmapped}
use Rattle.jn_names.specs.FieldTypes.{AtField, FieldsBy, all_by, member_step, decl_step, fields_of_member, fields_of_decl, declared_fields}
use Rattle.jn_names.proofs.FieldProof.{at_decl}
use Rattle.jn_size_laws.specs.Sizes.{total}
use Rattle.jn_size_laws.specs.Files.{member_fields, decl_fields, fields_in, fields_of}

one_fields : Member → ℕ
one_fields = fold-Member ℕ ℕ member_fields decl_fields

fields_are : (d : Decl) → fields_in d ≡ total (map one_fields d.members)
unfolding fields_in one_fields
fields_are d = fold_out-Decl ℕ ℕ member_fields decl_fields d

one_is : (m : Member) (o : Member-F Member Decl) → out-Member m ≡ o
    → one_fields m ≡ member_fields (map-Member Member Decl ℕ ℕ one_fields fields_in o)
unfolding fields_in one_fields
one_is m o e =
    fold_out-Member ℕ ℕ member_fields decl_fields m
    ∙ ap (λ (o : Member-F Member Decl). member_fields (map-Member Member Decl ℕ ℕ one_fields fields_in o)) e

opened : (m : Member) (f : Member-F Member Decl) → out-Member m ≡ f → (R : Path)
    → fields_of_member m R ≡ member_step (map-Member Member Decl FieldsBy FieldsBy fields_of_member fields_of_decl f) R
unfolding fields_of_decl fields_of_member
opened m f e R =
    ap (λ (g : FieldsBy). g R) (fold_out-Member FieldsBy FieldsBy member_step decl_step m)
    ∙ ap (λ (x : Member-F Member Decl). member_step
    (map-Member Member Decl FieldsBy FieldsBy fields_of_member fields_of_decl x) R) e

MemberCounted : Member → Type 0
MemberCounted m = (R : Path) → length (fields_of_member m R) ≡ one_fields m

DeclCounted : Decl → Type 0
DeclCounted d = (P : Path) → length (fields_of_decl d P) ≡ fields_in d

bare : Member-F ((m : Member) × MemberCounted m) ((d : Decl) × DeclCounted d) → Member-F Member Decl
bare = map-Member _ _ _ _ (λ e. e.0) (λ e. e.0)

member_counted : (y : Member-F ((m : Member) × MemberCounted m) ((d : Decl) × DeclCounted d))
    → MemberCounted (roll-Member (bare y))
unfolding MemberCounted DeclCounted bare
member_counted (Member-F.Inner t) R =
    let o = out-roll-Member (Member-F.Inner t.0) in
    ap (λ (xs : List AtField). length xs) (opened (roll-Member (Member-F.Inner t.0)) (Member-F.Inner t.0) o R)
    ∙ (t.1 R ∙ sym (one_is (roll-Member (Member-F.Inner t.0)) (Member-F.Inner t.0) o))
member_counted (Member-F.Slot f) R =
    let o = out-roll-Member (Member-F.Slot f) in
    ap (λ (xs : List AtField). length xs) (opened (roll-Member (Member-F.Slot f)) (Member-F.Slot f) o R)
    ∙ sym (one_is (roll-Member (Member-F.Slot f)) (Member-F.Slot f) o)
member_counted (Member-F.Body g) R =
    let o = out-roll-Member (Member-F.Body g) in
    ap (λ (xs : List AtField). length xs) (opened (roll-Member (Member-F.Body g)) (Member-F.Body g) o R)
    ∙ sym (one_is (roll-Member (Member-F.Body g)) (Member-F.Body g) o)

all_counted : {A : Type 0} (f : A → FieldsBy) (g : A → ℕ) (R : Path) (xs : List A)
    → ((x : A) → Contains xs x → length (f x R) ≡ g x) → length (all_by R (map f xs)) ≡ total (map g xs)
all_counted f g R [] h = refl
all_counted f g R (x ∷ xs) h =
    let here = h x (first x xs) in
    let rest = all_counted f g R xs (λ y c. h y (later x xs y c)) in
    let sum = length-append (f x R) (all_by R (map f xs)) in
    omega (arith, here, rest, sum)

such_member : (ts : List ((m : Member) × MemberCounted m)) (m : Member) → Contains (map (λ e. e.0) ts) m
    → MemberCounted m
such_member ts m c =
    let u = unmapped (λ (e : (m : Member) × MemberCounted m). e.0) ts m c in
    subst MemberCounted (sym u.is) u.x.1

decl_counted : (d : Decl) → ((m : Member) → Contains d.members m → MemberCounted m) → DeclCounted d
unfolding MemberCounted DeclCounted
decl_counted d k P =
    ap (λ (xs : List AtField). length xs) (at_decl d P)
    ∙ (all_counted fields_of_member one_fields (d.name.name ∷ P) d.members (λ m c. k m c (d.name.name ∷ P))
    ∙ sym (fields_are d))

each_counted : (d : Decl) → DeclCounted d
unfolding bare
each_counted = ind-Decl MemberCounted DeclCounted
    (λ x y is. subst (λ z. MemberCounted (roll-Member z)) is (member_counted y))
    (λ x y is. subst (λ z. DeclCounted (roll-Decl z)) is
    (decl_counted (roll-Decl (map-Decl _ _ _ _ (λ e. e.0) (λ e. e.0) y)) (λ m c. such_member y.members m c)))

-- the list has each field once
pub fields_counted : (p : Program) → length (declared_fields p) ≡ fields_of p
unfolding DeclCounted
fields_counted p = all_counted fields_of_decl fields_in [] p.decls (λ d c. each_counted d [])
