-- What a body gives twice is, name space by name space, what stands twice among its names.
use Rattle.std.proofs.Common.{◌≡◌, ℕ, List, [], ◌∷◌, refl, sym, ap, ◌∙◌, subst, Bool, true, false, ◌||◌, ◌&&◌, nat_eq, map, arith}
use Rattle.std.specs.List.{list_any}
use Rattle.jn_base.specs.declared.tree.Name.{Name}
use Rattle.jn_base.specs.declared.tree.Named.{Named}
use Rattle.jn_base.specs.declared.tree.Decl.{Decl}
use Rattle.jn_base.specs.declared.tree.Field.{Field}
use Rattle.jn_base.specs.declared.tree.Method.{Method}
use Rattle.jn_base.specs.declared.tree.Member.{Member, out-Member}
use Rattle.jn_base.specs.declared.tree.Member.TheOpen.{Member-F}
use Rattle.jn_base.specs.Paths.{nested, and_nested, fields, and_field, methods, and_method}
use Rattle.jn_base.specs.Duplicates.{has_name, Space, of_decls, of_fields, of_methods, same_space, Given, same_given}
use Rattle.jn_base.specs.Twice.{decl_name, field_name, method_name}
use Rattle.jn_base.proofs.Seconds.{SecondIn, hit, next}
use Rattle.jn_base.proofs.Unique.{gives, givens}

abbrev pub keep : Bool → Named → List Named → List Named
keep true n ns = n ∷ ns
keep false n ns = ns

-- the names of one name space
abbrev pub named_in : Space → List Given → List Named
named_in s [] = []
named_in s (g ∷ gs) = keep (same_space s g.space) g.name (named_in s gs)

abbrev pub plain : List Named → List Name
plain ns = map (λ n. n.name) ns

-- given twice, behind those of `before`
pub data GivenTwice : List Given → List Given → Given → Type 0 where
  given_hit : {before gs : List Given} {g : Given} → list_any (same_given g) before ≡ true → GivenTwice before (g ∷ gs) g
  given_next : {before gs : List Given} {h g : Given} → GivenTwice (h ∷ before) gs g → GivenTwice before (h ∷ gs) g

turn : (a b : ℕ) → nat_eq a b ≡ nat_eq b a
turn a b = grind arith

any_step : (t : Bool) (g b : Named) (rest : Bool) (xs : List Named) → rest ≡ has_name (plain xs) g.name
    → ((t && nat_eq g.name.0 b.name.0) || rest) ≡ has_name (plain (keep t b xs)) g.name
any_step true g b rest xs e = ap (λ (x : Bool). x || rest) (turn g.name.0 b.name.0) ∙ ap (λ (x : Bool). nat_eq b.name.0 g.name.0 || x) e
any_step false g b rest xs e = e

given_any : (g : Given) (before : List Given) → list_any (same_given g) before ≡ has_name (plain (named_in g.space before)) g.name.name
given_any g [] = refl
given_any g (b ∷ bs) = any_step (same_space g.space b.space) g.name b.name (list_any (same_given g) bs) (named_in g.space bs) (given_any g bs)

same_itself : (s : Space) → same_space s s ≡ true
same_itself of_decls = refl
same_itself of_fields = refl
same_itself of_methods = refl

space_from : (s t : Space) → same_space s t ≡ true → s ≡ t
space_from of_decls of_decls e = refl
space_from of_decls of_fields e = cc
space_from of_decls of_methods e = cc
space_from of_fields of_decls e = cc
space_from of_fields of_fields e = refl
space_from of_fields of_methods e = cc
space_from of_methods of_decls e = cc
space_from of_methods of_fields e = cc
space_from of_methods of_methods e = refl

kept : (t : Bool) (m : Named) (before after : List Named) (n : Named) → SecondIn (plain (keep t m before)) after n → SecondIn (plain before) (keep t m after) n
kept true m before after n s = next s
kept false m before after n s = s

pub twice_to : {before gs : List Given} {g : Given} → GivenTwice before gs g → SecondIn (plain (named_in g.space before)) (named_in g.space gs) g.name
twice_to (given_hit {before = before} {gs = gs} {g = g} e) =
    subst (λ (t : Bool). SecondIn (plain (named_in g.space before)) (keep t g.name (named_in g.space gs)) g.name) (sym (same_itself g.space))
    (hit (sym (given_any g before) ∙ e))
twice_to (given_next {before = before} {gs = gs} {h = h} {g = g} s) =
    kept (same_space g.space h.space) h.name (named_in g.space before) (named_in g.space gs) g.name (twice_to s)

-- the two ways
data Either2 (seen : List Name) (m : Named) (after : List Named) (n : Named) : Type 0 where
  at_first : m ≡ n → has_name seen n.name ≡ true → Either2 seen m after n
  at_later : SecondIn (m.name ∷ seen) after n → Either2 seen m after n

two_ways : {seen : List Name} {m : Named} {after : List Named} {n : Named} → SecondIn seen (m ∷ after) n → Either2 seen m after n
two_ways (hit e) = at_first refl e
two_ways (next s) = at_later s

from_first : (s : Space) (before : List Given) (h : Given) (rest : List Given) (n : Named) → same_space s h.space ≡ true
    → (SecondIn (plain (named_in s (h ∷ before))) (named_in s rest) n → GivenTwice (h ∷ before) rest (record { space = s; name = n }))
    → Either2 (plain (named_in s before)) h.name (named_in s rest) n → GivenTwice before (h ∷ rest) (record { space = s; name = n })
from_first s before h rest n e ih (at_first q k) =
    let g : Given = record { space = s; name = n } in
    let is : h ≡ g = λ i. record { space = sym (space_from s h.space e) i; name = q i } in
    subst (λ (x : Given). GivenTwice before (x ∷ rest) g) (sym is) (given_hit (given_any g before ∙ k))
from_first s before h rest n e ih (at_later t) =
    given_next (ih (subst (λ (b : Bool). SecondIn (plain (keep b h.name (named_in s before))) (named_in s rest) n) (sym e) t))

from_by : (s : Space) (before : List Given) (h : Given) (rest : List Given) (n : Named)
    → (SecondIn (plain (named_in s (h ∷ before))) (named_in s rest) n → GivenTwice (h ∷ before) rest (record { space = s; name = n }))
    → (b : Bool) → same_space s h.space ≡ b → SecondIn (plain (named_in s before)) (keep b h.name (named_in s rest)) n
    → GivenTwice before (h ∷ rest) (record { space = s; name = n })
from_by s before h rest n ih true e t = from_first s before h rest n e ih (two_ways t)
from_by s before h rest n ih false e t =
    given_next (ih (subst (λ (b : Bool). SecondIn (plain (keep b h.name (named_in s before))) (named_in s rest) n) (sym e) t))

pub twice_from : (s : Space) (before gs : List Given) (n : Named) → SecondIn (plain (named_in s before)) (named_in s gs) n
    → GivenTwice before gs (record { space = s; name = n })
twice_from s before [] n t = elim t [ ]
twice_from s before (h ∷ rest) n t =
    from_by s before h rest n (λ k. twice_from s (h ∷ before) rest n k) (same_space s h.space) refl t

-- ---- the three name spaces of a body

decl_first : (o : Member-F Member Decl) (xs : List Named) (ds : List Decl) → xs ≡ map decl_name ds
    → keep (same_space of_decls (gives o).space) (gives o).name xs ≡ map decl_name (and_nested o ds)
unfolding gives
decl_first (Member-F.Inner d) xs ds e = ap (λ (l : List Named). d.name ∷ l) e
decl_first (Member-F.Slot f) xs ds e = e
decl_first (Member-F.Body m) xs ds e = e

field_first : (o : Member-F Member Decl) (xs : List Named) (fs : List Field) → xs ≡ map field_name fs
    → keep (same_space of_fields (gives o).space) (gives o).name xs ≡ map field_name (and_field o fs)
unfolding gives
field_first (Member-F.Inner d) xs fs e = e
field_first (Member-F.Slot f) xs fs e = ap (λ (l : List Named). f.name ∷ l) e
field_first (Member-F.Body m) xs fs e = e

method_first : (o : Member-F Member Decl) (xs : List Named) (ms : List Method) → xs ≡ map method_name ms
    → keep (same_space of_methods (gives o).space) (gives o).name xs ≡ map method_name (and_method o ms)
unfolding gives
method_first (Member-F.Inner d) xs ms e = e
method_first (Member-F.Slot f) xs ms e = e
method_first (Member-F.Body m) xs ms e = ap (λ (l : List Named). m.name ∷ l) e

pub decl_names : (ms : List Member) → named_in of_decls (givens ms) ≡ map decl_name (nested ms)
unfolding givens
decl_names [] = refl
decl_names (m ∷ ms) = decl_first (out-Member m) (named_in of_decls (givens ms)) (nested ms) (decl_names ms)

pub field_names : (ms : List Member) → named_in of_fields (givens ms) ≡ map field_name (fields ms)
unfolding givens
field_names [] = refl
field_names (m ∷ ms) = field_first (out-Member m) (named_in of_fields (givens ms)) (fields ms) (field_names ms)

pub method_names : (ms : List Member) → named_in of_methods (givens ms) ≡ map method_name (methods ms)
unfolding givens
method_names [] = refl
method_names (m ∷ ms) = method_first (out-Member m) (named_in of_methods (givens ms)) (methods ms) (method_names ms)
