-- The codes of bodies, one level deep and list by list.
use Rattle.std.proofs.Common.{◌≡◌, ◌<◌, ◌≤◌, ◌+◌, ℕ, suc, List, [], ◌∷◌, ◌++◌, map, take, length, get_or, refl, sym, ap, ◌∙◌, subst, append_assoc, length-append, Some, slice_get, arith}
use Rattle.std.proofs.lemmas.List.{append-nil, take_all, take_more, map-append}
use Rattle.jn_base.specs.declared.tree.Decl.{Decl}
use Rattle.jn_base.specs.declared.tree.Field.{Field}
use Rattle.jn_base.specs.declared.tree.Method.{Method}
use Rattle.jn_base.specs.declared.tree.Member.{Member}
use Rattle.jn_base.specs.declared.tree.Member.TheVariants as member
use Rattle.jn_base.specs.declared.tree.Member.TheVariants.{outs-Inner, outs-Slot, outs-Body}
use Rattle.jn_base.specs.declared.names.Resolved.{Resolved}
use Rattle.jn_base.specs.Paths.{Path}
use Rattle.jn_code.specs.declared.image.Code.{Code}
use Rattle.jn_sem.specs.Does.{Body}
use Rattle.jn_agree.specs.Rows.{InOrder, of_decl, bodies_of}
use Rattle.jn_layout.specs.Shapes.{bodies_in, all_bodies}
use Rattle.jn_layout.proofs.Adding.{bodies_at_decl, opened}
use Rattle.jn_link.specs.declared.codes.Parts.{Parts}
use Rattle.jn_link.specs.Codes.{IsCodeFor, IsLoweredAt, AreLoweredFrom, LowersAll}

-- ---- lists of codes

from_joined : (g : Parts) (k : ℕ) (xs ys : List Body) (us vs : List Code) → AreLoweredFrom g k xs us
    → AreLoweredFrom g (k + length us) ys vs → AreLoweredFrom g k (xs ++ ys) (us ++ vs)
from_joined g k [] ys [] vs a b =
    let e : k + 0 ≡ k = omega arith in
    subst (λ (j : ℕ). AreLoweredFrom g j ys vs) e b
from_joined g k [] ys (u ∷ us) vs a b = absurd a
from_joined g k (x ∷ xs) ys [] vs a b = absurd a
from_joined g k (x ∷ xs) ys (u ∷ us) vs (one, rest) b =
    let e : k + suc (length us) ≡ suc k + length us = omega arith in
    (one, from_joined g (suc k) xs ys us vs rest (subst (λ (j : ℕ). AreLoweredFrom g j ys vs) e b))

pub all_none : (g : Parts) (out : List Code) → LowersAll g [] out out
all_none g out = record { more = []; is = sym (append-nil out); each = tt }

all_one : (g : Parts) (b : Body) (c : Code) (out after : List Code) → IsLoweredAt g (length out) b c
    → after ≡ out ++ c ∷ [] → LowersAll g (b ∷ []) out after
all_one g b c out after is e = record { more = c ∷ []; is = e; each = (is, tt) }

pub next_lowered : (g : Parts) (m : Method) (r : Resolved) (c : Code) (k : ℕ) (out after : List Code)
    → slice_get g.bodies.now k ≡ Some r → k ≡ length out → IsCodeFor g m r c → after ≡ out ++ c ∷ [] → (R : Path)
    → LowersAll g (record { class = R; method = m } ∷ []) out after
next_lowered g m r c k out after at e is added R =
    all_one g (record { class = R; method = m }) c out after
    (record { known = r; at = ap (slice_get g.bodies.now) (sym e) ∙ at; code = is }) added

all_joined : (g : Parts) (xs ys : List Body) (a b c : List Code) → LowersAll g xs a b → LowersAll g ys b c
    → LowersAll g (xs ++ ys) a c
all_joined g xs ys a b c x y =
    let long : length b ≡ length a + length x.more =
    ap (λ (cs : List Code). length cs) x.is ∙ length-append a x.more in
    record {
      more = x.more ++ y.more;
      is = y.is ∙ (ap (λ (o : List Code). o ++ y.more) x.is ∙ append_assoc a x.more y.more);
      each = from_joined g (length a) xs ys x.more y.more x.each
          (subst (λ (j : ℕ). AreLoweredFrom g j ys y.more) long y.each);
    }

-- ---- a loop over members or declarations

all_both : (R : Path) (fs gs : List InOrder) → all_bodies R (fs ++ gs) ≡ all_bodies R fs ++ all_bodies R gs
all_both R [] gs = refl
all_both R (f ∷ fs) gs =
    ap (λ (xs : List Body). f R ++ xs) (all_both R fs gs) ∙ sym (append_assoc (f R) (all_bodies R fs) (all_bodies R gs))

module _ {M : Type 0} (g : Parts) (f : M → InOrder) (ms : List M) where
  next_bodies : (i : ℕ) (m : M) → i < length ms → m ≡ get_or ms i m → (R : Path)
      → all_bodies R (map f (take (i + 1) ms)) ≡ all_bodies R (map f (take i ms)) ++ f m R
  next_bodies i m l e R =
      ap (λ (xs : List M). all_bodies R (map f xs)) (take_more ms i m l ∙ ap (λ (y : M). take i ms ++ y ∷ []) (sym e))
      ∙ (ap (all_bodies R) (map-append f (take i ms) (m ∷ [])) ∙ (all_both R (map f (take i ms)) (f m ∷ [])
      ∙ ap (λ (xs : List Body). all_bodies R (map f (take i ms)) ++ xs) (append-nil (f m R))))

  pub all_next : (i : ℕ) (m : M) (a b c : List Code) → i < length ms → m ≡ get_or ms i m
      → ((R : Path) → LowersAll g (all_bodies R (map f (take i ms))) a b) → ((R : Path) → LowersAll g (f m R) b c)
      → (R : Path) → LowersAll g (all_bodies R (map f (take (i + 1) ms))) a c
  all_next i m a b c l e x y R =
      subst (λ (bs : List Body). LowersAll g bs a c) (sym (next_bodies i m l e R))
      (all_joined g (all_bodies R (map f (take i ms))) (f m R) a b c (x R) (y R))

  pub all_all : (i : ℕ) (a b : List Code) → length ms ≤ i
      → ((R : Path) → LowersAll g (all_bodies R (map f (take i ms))) a b)
      → (R : Path) → LowersAll g (all_bodies R (map f ms)) a b
  all_all i a b l x R =
      subst (λ (xs : List M). LowersAll g (all_bodies R (map f xs)) a b) (take_all i ms l) (x R)

-- ---- a member, a declaration, and the program

module _ (g : Parts) (m : Member) (a b : List Code) where
  pub in_inner : (d : Decl) → m ≡ member.Inner d → ((R : Path) → LowersAll g (of_decl d R) a b)
      → (R : Path) → LowersAll g (bodies_in m R) a b
  in_inner d e x R =
      subst (λ (y : Member). LowersAll g (bodies_in y R) a b) (sym e)
      (subst (λ (bs : List Body). LowersAll g bs a b) (sym (opened (member.Inner d) _ (outs-Inner d) R)) (x R))

  pub in_slot : (f : Field) → m ≡ member.Slot f → a ≡ b → (R : Path) → LowersAll g (bodies_in m R) a b
  in_slot f e same R =
      subst (λ (y : Member). LowersAll g (bodies_in y R) a b) (sym e)
      (subst (λ (bs : List Body). LowersAll g bs a b) (sym (opened (member.Slot f) _ (outs-Slot f) R))
      (subst (λ (cs : List Code). LowersAll g [] a cs) same (all_none g a)))

  pub in_body : (n : Method) → m ≡ member.Body n
      → ((R : Path) → LowersAll g (record { class = R; method = n } ∷ []) a b)
      → (R : Path) → LowersAll g (bodies_in m R) a b
  in_body n e x R =
      subst (λ (y : Member). LowersAll g (bodies_in y R) a b) (sym e)
      (subst (λ (bs : List Body). LowersAll g bs a b) (sym (opened (member.Body n) _ (outs-Body n) R)) (x R))

pub in_decl : (g : Parts) (d : Decl) (ms : List Member) (a b : List Code) → ms ≡ d.members
    → ((R : Path) → LowersAll g (all_bodies R (map bodies_in ms)) a b) → (R : Path) → LowersAll g (of_decl d R) a b
in_decl g d ms a b e x R =
    subst (λ (bs : List Body). LowersAll g bs a b) (sym (bodies_at_decl d R))
    (subst (λ (xs : List Member). LowersAll g (all_bodies (d.name.name ∷ R) (map bodies_in xs)) a b) e
    (x (d.name.name ∷ R)))

pub in_program : (g : Parts) (ds : List Decl) (a b : List Code) → ds ≡ g.p.now.decls → a ≡ []
    → ((R : Path) → LowersAll g (all_bodies R (map of_decl ds)) a b) → AreLoweredFrom g 0 (bodies_of g.p.now) b
in_program g ds a b e none x =
    let y = subst (λ (o : List Code). LowersAll g (bodies_of g.p.now) o b) none
    (subst (λ (xs : List Decl). LowersAll g (all_bodies [] (map of_decl xs)) a b) e (x [])) in
    subst (AreLoweredFrom g 0 (bodies_of g.p.now)) (sym y.is) y.each
