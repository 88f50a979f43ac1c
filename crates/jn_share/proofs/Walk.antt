-- The listed names, one level deep and list by list.
use Rattle.std.proofs.Common.{◌≡◌, ◌<◌, ◌≤◌, ◌+◌, ℕ, List, [], ◌∷◌, ◌++◌, map, take, length, get_or, reverse, arith, refl, sym, ap, ◌∙◌, subst, append_assoc}
use Rattle.std.proofs.lemmas.List.{append-nil, take_all, take_more, reverse-reverse}
use Rattle.jn_base.specs.declared.tree.Name.{Name}
use Rattle.jn_base.specs.declared.tree.Named.{Named}
use Rattle.jn_base.specs.declared.tree.Decl.{Decl}
use Rattle.jn_base.specs.declared.tree.Field.{Field}
use Rattle.jn_base.specs.declared.tree.Method.{Method}
use Rattle.jn_base.specs.declared.tree.Member.{Member, out-Member}
use Rattle.jn_base.specs.declared.tree.Member.TheOpen.{Member-F}
use Rattle.jn_base.specs.declared.tree.Member.TheFolds.{map-Member, fold_out-Member, fold_out-Decl}
use Rattle.jn_base.specs.declared.tree.Member.TheVariants as member
use Rattle.jn_base.specs.declared.tree.Member.TheVariants.{outs-Inner, outs-Slot, outs-Body}
use Rattle.jn_base.specs.declared.path.Path.{Path as ShownPath}
use Rattle.jn_base.specs.Paths.{Path, shown}
use Rattle.jn_sem.specs.NotFamily.{Listed, adapting, sharing, in_list, ListedBy, listed_by, own_listed, member_step, decl_step, listed_in_member, listed_in_decl}
use Rattle.jn_share.specs.declared.listed.ListedName.{ListedName}
use Rattle.jn_share.specs.declared.listed.InList.{InList}
use Rattle.jn_share.specs.Listing.{listing_of, listed_of, AddsListed}

-- ---- one level deep

pub at_decl : (d : Decl) (P : Path) → listed_in_decl d P ≡ own_listed d.name.name d.shares d.adapts P ++ listed_by (d.name.name ∷ P) (map listed_in_member d.members)
unfolding listed_in_decl listed_in_member
at_decl d P = ap (λ (f : ListedBy). f P) (fold_out-Decl ListedBy ListedBy member_step decl_step d)

pub opened : (m : Member) (f : Member-F Member Decl) → out-Member m ≡ f → (R : Path)
    → listed_in_member m R ≡ member_step (map-Member Member Decl ListedBy ListedBy listed_in_member listed_in_decl f) R
unfolding listed_in_decl listed_in_member
opened m f e R =
    ap (λ (g : ListedBy). g R) (fold_out-Member ListedBy ListedBy member_step decl_step m)
    ∙ ap (λ (x : Member-F Member Decl). member_step (map-Member Member Decl ListedBy ListedBy listed_in_member listed_in_decl x) R) e

pub at_inner : (d : Decl) (R : Path) → listed_in_member (member.Inner d) R ≡ listed_in_decl d R
at_inner d R = opened (member.Inner d) _ (outs-Inner d) R

pub at_slot : (f : Field) (R : Path) → listed_in_member (member.Slot f) R ≡ []
at_slot f R = opened (member.Slot f) _ (outs-Slot f) R

pub at_body : (m : Method) (R : Path) → listed_in_member (member.Body m) R ≡ []
at_body m R = opened (member.Body m) _ (outs-Body m) R

-- ---- adding

pub adds_none : (out : List ListedName) → AddsListed out out []
adds_none out = sym (append-nil (map listed_of out))

pub adds_joined : (a b c : List ListedName) (xs ys : List Listed) → AddsListed a b xs → AddsListed b c ys → AddsListed a c (xs ++ ys)
adds_joined a b c xs ys g h = h ∙ (ap (λ (o : List Listed). o ++ ys) g ∙ append_assoc (map listed_of a) xs ys)

pub take_one : {A : Type 0} (xs : List A) (i : ℕ) (x : A) → i < length xs → x ≡ get_or xs i x → take (i + 1) xs ≡ take i xs ++ x ∷ []
take_one {A} xs i x l e = take_more xs i x l ∙ ap (λ (y : A). take i xs ++ y ∷ []) (sym e)

pub map_both : {A B : Type 0} (f : A → B) (xs ys : List A) → map f (xs ++ ys) ≡ map f xs ++ map f ys
map_both f [] ys = refl
map_both f (x ∷ xs) ys = ap (λ zs. f x ∷ zs) (map_both f xs ys)

all_both : (R : Path) (fs gs : List ListedBy) → listed_by R (fs ++ gs) ≡ listed_by R fs ++ listed_by R gs
all_both R [] gs = refl
all_both R (f ∷ fs) gs = ap (λ (xs : List Listed). f R ++ xs) (all_both R fs gs) ∙ sym (append_assoc (f R) (listed_by R fs) (listed_by R gs))

-- a loop over members or declarations
module _ {A : Type 0} (f : A → ListedBy) (R : Path) (ms : List A) where
  listed_to : (i : ℕ) (m : A) → i < length ms → m ≡ get_or ms i m → listed_by R (map f (take (i + 1) ms)) ≡ listed_by R (map f (take i ms)) ++ f m R
  listed_to i m l e =
      ap (λ (xs : List A). listed_by R (map f xs)) (take_one ms i m l e)
      ∙ (ap (listed_by R) (map_both f (take i ms) (m ∷ [])) ∙ (all_both R (map f (take i ms)) (f m ∷ [])
      ∙ ap (λ (xs : List Listed). listed_by R (map f (take i ms)) ++ xs) (append-nil (f m R))))

  pub adds_more : (i : ℕ) (m : A) (a b c : List ListedName) → i < length ms → m ≡ get_or ms i m → AddsListed a b (listed_by R (map f (take i ms)))
      → AddsListed b c (f m R) → AddsListed a c (listed_by R (map f (take (i + 1) ms)))
  adds_more i m a b c l e g h =
      subst (AddsListed a c) (sym (listed_to i m l e)) (adds_joined a b c (listed_by R (map f (take i ms))) (f m R) g h)

  pub adds_all : (i : ℕ) (a b : List ListedName) → length ms ≤ i → AddsListed a b (listed_by R (map f (take i ms))) → AddsListed a b (listed_by R (map f ms))
  adds_all i a b l g = subst (λ (xs : List A). AddsListed a b (listed_by R (map f xs))) (take_all i ms l) g

-- a loop over the names of a list
module _ (R : Path) (l : InList) (ns : List Named) where
  entry_is : (n : Named) (at : ShownPath) → at ≡ shown R → listed_of (record { at = at; list = l; name = n }) ≡ in_list R (listing_of l) n
  entry_is n at e =
      ap (λ (q : ShownPath). in_list (reverse q.names) (listing_of l) n) e ∙ ap (λ (Q : Path). in_list Q (listing_of l) n) (reverse-reverse R)

  pub adds_name : (i : ℕ) (n d : Named) (at : ShownPath) (a b c : List ListedName) → i < length ns → n ≡ get_or ns i d → at ≡ shown R
      → AddsListed a b (map (in_list R (listing_of l)) (take i ns)) → c ≡ b ++ record { at = at; list = l; name = n } ∷ []
      → AddsListed a c (map (in_list R (listing_of l)) (take (i + 1) ns))
  adds_name i n d at a b c h e k g w =
      let one : AddsListed b c (in_list R (listing_of l) n ∷ []) =
      ap (map listed_of) w ∙ (map_both listed_of b (record { at = at; list = l; name = n } ∷ []) ∙ ap (λ (x : Listed). map listed_of b ++ x ∷ []) (entry_is n at k)) in
      let more : map (in_list R (listing_of l)) (take (i + 1) ns) ≡ map (in_list R (listing_of l)) (take i ns) ++ in_list R (listing_of l) n ∷ [] =
      ap (map (in_list R (listing_of l))) (take_more ns i d h ∙ ap (λ (y : Named). take i ns ++ y ∷ []) (sym e)) ∙ map_both (in_list R (listing_of l)) (take i ns) (n ∷ []) in
      subst (AddsListed a c) (sym more) (adds_joined a b c (map (in_list R (listing_of l)) (take i ns)) (in_list R (listing_of l) n ∷ []) g one)

  pub names_all : (i : ℕ) (a b : List ListedName) → length ns ≤ i → AddsListed a b (map (in_list R (listing_of l)) (take i ns)) → AddsListed a b (map (in_list R (listing_of l)) ns)
  names_all i a b h g = subst (λ (xs : List Named). AddsListed a b (map (in_list R (listing_of l)) xs)) (take_all i ns h) g

-- the own list of a declaration, by its namespace
pub own_top : (C : Name) (N R : Path) (shares adapts ns : List Named) (a b : List ListedName) → length N ≡ 0 → R ≡ C ∷ N → ns ≡ adapts
    → AddsListed a b (map (in_list R adapting) ns) → AddsListed a b (own_listed C shares adapts N)
own_top C [] R shares adapts ns a b z e h g = rw (sym e) (rw (sym h) g)
own_top C (D ∷ N) R shares adapts ns a b z e h g = absurd (omega (arith, z))

pub own_nested : (C : Name) (N R : Path) (shares adapts ns : List Named) (a b : List ListedName) → (length N ≡ 0 → ⊥) → R ≡ C ∷ N → ns ≡ shares
    → AddsListed a b (map (in_list R sharing) ns) → AddsListed a b (own_listed C shares adapts N)
own_nested C [] R shares adapts ns a b z e h g = absurd (z refl)
own_nested C (D ∷ N) R shares adapts ns a b z e h g = rw (sym e) (rw (sym h) g)

-- a declaration: its own list, then those in its body
pub adds_decl : (d : Decl) (N R : Path) (ms : List Member) (a b c : List ListedName) → R ≡ d.name.name ∷ N → ms ≡ d.members
    → AddsListed a b (own_listed d.name.name d.shares d.adapts N) → AddsListed b c (listed_by R (map listed_in_member ms)) → AddsListed a c (listed_in_decl d N)
adds_decl d N R ms a b c e h g k =
    let inside : AddsListed b c (listed_by (d.name.name ∷ N) (map listed_in_member d.members)) =
    subst (λ (xs : List Member). AddsListed b c (listed_by (d.name.name ∷ N) (map listed_in_member xs))) h
    (subst (λ (Q : Path). AddsListed b c (listed_by Q (map listed_in_member ms))) e k) in
    subst (AddsListed a c) (sym (at_decl d N))
    (adds_joined a b c (own_listed d.name.name d.shares d.adapts N) (listed_by (d.name.name ∷ N) (map listed_in_member d.members)) g inside)
