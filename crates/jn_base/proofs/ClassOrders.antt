-- The class order is a strict total order.
use Rattle.std.proofs.Common.{◌≡◌, ◌<◌, ℕ, List, [], ◌∷◌, length, refl, sym, ap, ◌∙◌, reverse, subst, ◌⊎◌, inl, inr}
use Rattle.std.specs.Prelude.{All}
use Rattle.std.specs.declared.cmp.Ordering.{Ordering}
use Rattle.std.specs.declared.cmp.Ordering.TheVariants.{Less, Equal, Greater}
use Rattle.std.specs.Ordering.{nat_cmp, ordering_then, ordering_reverse}
use Rattle.std.specs.Cmp.Lexicographic.{slice_cmp}
use Rattle.std.proofs.lemmas.Map.Lookups.{exact_bytes}
use Rattle.std.proofs.lemmas.List.{reverse-reverse, reverse-append}
use Rattle.std.proofs.lemmas.Option.{slice_get-get_or}
use Rattle.std.proofs.lemmas.List.Elements.{All-nil, All-cons, All-head, All-tail, All-append}
use Rattle.jn_base.specs.declared.tree.Name.{Name}
use Rattle.jn_base.specs.declared.tree.Text.{Text}
use Rattle.jn_base.specs.declared.tree.Program.{Program}
use Rattle.jn_base.specs.Paths.{Path}
use Rattle.jn_base.specs.NameTexts.{bytes_of}
use Rattle.jn_base.specs.ClassOrder.{name_bytes, name_cmp, class_cmp, class_total, Before, HasDistinctNames, HasItsNames}

nameless : Text
nameless = record { bytes = [] }

then_equal : (r s : Ordering) → ordering_then r s ≡ Equal → s ≡ Equal
then_equal Less s e = cc
then_equal Equal s e = e
then_equal Greater s e = cc

then_first : (r s : Ordering) → ordering_then r s ≡ Equal → r ≡ Equal
then_first Less s e = cc
then_first Equal s e = refl
then_first Greater s e = cc

-- lists that tie are equal, where their elements that tie are
ties_equal : {X : Type 0} (R : X → X → Ordering) (P : X → Type 0) → ((x y : X) → P x → P y → R x y ≡ Equal → x ≡ y)
    → (xs ys : List X) → All P xs → All P ys → slice_cmp R xs ys ≡ Equal → xs ≡ ys
ties_equal R P t [] [] a b e = refl
ties_equal R P t [] (y ∷ ys) a b e = cc
ties_equal R P t (x ∷ xs) [] a b e = cc
ties_equal R P t (x ∷ xs) (y ∷ ys) a b e =
    let h = t x y (All-head P x xs a) (All-head P y ys b) (then_first (R x y) (slice_cmp R xs ys) e) in
    let k = ties_equal R P t xs ys (All-tail P x xs a) (All-tail P y ys b) (then_equal (R x y) (slice_cmp R xs ys) e) in
    cc (h, k)

-- two names of the program of the same bytes are one name
names_equal : (p : Program) → HasDistinctNames p → (a b : Name) → a.0 < length p.names → b.0 < length p.names → name_cmp p a b ≡ Equal → a ≡ b
names_equal p u a b la lb e =
    let ga = slice_get-get_or p.names a.0 nameless la in
    let gb = slice_get-get_or p.names b.0 nameless lb in
    let t = exact_bytes (name_bytes p a) (name_bytes p b) e in
    ap (λ (n : ℕ). record { 0 = n }) (u a.0 b.0 _ _ ga gb (sym (ap bytes_of ga) ∙ t ∙ ap bytes_of gb))

All_reverse : {X : Type 0} (P : X → Type 0) → (xs : List X) → All P xs → All P (reverse xs)
All_reverse P [] a = All-nil P
All_reverse P (x ∷ xs) a =
    subst (All P) (sym (reverse-append (x ∷ []) xs))
    (All-append P (reverse xs) (x ∷ []) (All_reverse P xs (All-tail P x xs a)) (All-cons P x [] (All-head P x xs a) (All-nil P)))

paths_equal : (p : Program) → HasDistinctNames p → (P Q : Path) → HasItsNames p P → HasItsNames p Q → class_cmp p P Q ≡ Equal → P ≡ Q
paths_equal p u P Q a b e =
    let known : Name → Type 0 = λ n. n.0 < length p.names in
    let k = ties_equal (name_cmp p) known (names_equal p u) (reverse P) (reverse Q)
    (All_reverse known P a) (All_reverse known Q b) (then_equal (nat_cmp (length P) (length Q)) (slice_cmp (name_cmp p) (reverse P) (reverse Q)) e) in
    sym (reverse-reverse P) ∙ ap reverse k ∙ reverse-reverse Q

pub before_irreflexive : (p : Program) (P : Path) → Before p P P → ⊥
before_irreflexive p P e =
    let a = (class_total p).antisymm P P in
    let c : Less ≡ Greater = sym e ∙ a ∙ ap ordering_reverse e in
    cc c

-- either is first, or they are equal
by_order : (p : Program) → HasDistinctNames p → (P Q : Path) → HasItsNames p P → HasItsNames p Q → (o : Ordering) → class_cmp p P Q ≡ o
    → (P ≡ Q) ⊎ (Before p P Q ⊎ Before p Q P)
by_order p u P Q a b Less e = inr (inl e)
by_order p u P Q a b Equal e = inl (paths_equal p u P Q a b e)
by_order p u P Q a b Greater e = inr (inr ((class_total p).antisymm Q P ∙ ap ordering_reverse e))

pub before_total : (p : Program) → HasDistinctNames p → (P Q : Path) → HasItsNames p P → HasItsNames p Q
    → (P ≡ Q) ⊎ (Before p P Q ⊎ Before p Q P)
before_total p u P Q a b = by_order p u P Q a b (class_cmp p P Q) refl

pub before_chain : (p : Program) (P Q R : Path) → Before p P Q → Before p Q R → Before p P R
before_chain p P Q R a b = (class_total p).trans P Q R a b
