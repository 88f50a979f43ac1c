-- Signatures of the bodies of one method.
use Rattle.std.proofs.Common.{◌≡◌, ◌<◌, ℕ, suc, List, [], ◌∷◌, ◌++◌, length, map, refl, sym, ap, ◌∙◌, subst, arith, append_assoc, Bool}
use Rattle.std.proofs.lemmas.List.{append-nil, length-append}
use Rattle.jn_base.specs.declared.tree.Name.{Name}
use Rattle.jn_base.specs.declared.tree.Param.{Param}
use Rattle.jn_base.specs.declared.tree.Program.{Program}
use Rattle.jn_base.specs.declared.types.Ty.{Ty}
use Rattle.jn_base.specs.declared.types.Ty.TheVariants as ty
use Rattle.jn_base.specs.declared.names.Var.{Var}
use Rattle.jn_base.specs.Paths.{Path}
use Rattle.jn_base.specs.Supers.{Sup, IsOwnSuper}
use Rattle.jn_base.specs.Universe.{InUniverse}
use Rattle.jn_base.specs.Atoms.{Among, first, later}
use Rattle.jn_base.specs.Duplicates.{duplicates}
use Rattle.jn_base.specs.Members.{Decls, Least, MethodAt}
use Rattle.jn_base.proofs.SuperLaws.{sup_joined}
use Rattle.jn_base.proofs.Reaching.{sup_in_universe}
use Rattle.jn_base.proofs.TableLaws.{one_least}
use Rattle.jn_base.proofs.Unique.{one_method_at}
use Rattle.jn_sem.specs.Sharing.{IsClass}
use Rattle.jn_sem.specs.Does.{Body, IsBody, IsConstructorBody, AreParamsAfter, var}
use Rattle.jn_laws.specs.Surely.{Surely}
use Rattle.jn_laws.proofs.Sures.{and_so, map_surely}
use Rattle.jn_rules.specs.Questions.{HasMethod}
use Rattle.jn_rules.specs.Headers.{Header}
use Rattle.jn_rules.specs.Members.{Signature, signature, var_fixed, var_type, HasSignature, SameSignature, no_least, other_signature, empty_signature, ConstructorSignature, declared, missing_one, ConstructorPasses, bad_method, bad_constructor}
use Rattle.jn_rules.specs.Verdict.{MembersPass}
use Rattle.jn_rule_laws.specs.LawsOfHeaders.{IsHeader}
use Rattle.jn_rule_laws.specs.LawsOfMembers.{Alike, none, one, BodyAlike, Signatures}
use Rattle.jn_rule_laws.proofs.OneHeaders.{header_once}
use Rattle.jn_rule_laws.proofs.HeaderLaws.{header_back}

-- ---- parameters are numbered

unfoldable pub Numbered : ℕ → List Var → Type 0
Numbered n [] = Unit {0}
Numbered n (x ∷ xs) = (x.path ≡ suc n) × Numbered (suc n) xs

pub numbered_all : (n : ℕ) (xs : List Var) → Numbered n xs → (y : Var) → Among xs y → n < y.path
unfolding Numbered
numbered_all n _ i y (first {xs = xs}) = omega (arith, i.0)
numbered_all n _ i y (later {xs = xs} m) = let l = numbered_all (suc n) xs i.1 y m in omega (arith, l)

pub numbered_above : (n : ℕ) (x : Var) (xs : List Var) → Numbered n (x ∷ xs) → (y : Var) → Among xs y → x.path < y.path
unfolding Numbered
numbered_above n x xs i y m = let l = numbered_all (suc n) xs i.1 y m in omega (arith, l, i.0)

record NumberedAfter (before all : List Var) : Type 0 where
  more : List Var
  is : all ≡ before ++ more
  numbered : Numbered (length before) more

numbered_after : (p : Program) (b : Body) (before : List Var) (xs : List Param) (all : List Var) → AreParamsAfter p b before xs all → NumberedAfter before all
unfolding Numbered
numbered_after p b before [] all h = record { more = []; is = h ∙ sym (append-nil before); numbered = tt }
numbered_after p b before (x ∷ xs) all h =
    let v = var x.name.name (suc (length before)) x.fixed h.0 in
    let r = numbered_after p b (before ++ v ∷ []) xs all h.2 in record {
      more = v ∷ r.more;
      is = r.is ∙ append_assoc before (v ∷ []) r.more;
      numbered = (refl, subst (λ (n : ℕ). Numbered n r.more) (omega (arith, length-append before (v ∷ []))) r.numbered);
    }

header_numbered : (p : Program) (b : Body) (x : Header) → IsHeader p b x → Numbered 0 x.vars
header_numbered p b x h =
    let r = numbered_after p b [] b.method.params x.vars h.params in
    subst (Numbered 0) (sym r.is) r.numbered

alike_at : (n : ℕ) (xs ys : List Var) → Numbered n xs → Numbered n ys → map var_type xs ≡ map var_type ys → map var_fixed xs ≡ map var_fixed ys → Alike xs ys
unfolding Numbered
alike_at n [] [] i j e f = none
alike_at n [] (y ∷ ys) i j e f = absurd (omega (arith, ap length e))
alike_at n (x ∷ xs) [] i j e f = absurd (omega (arith, ap length e))
alike_at n (x ∷ xs) (y ∷ ys) i j e f =
    let t = types x y (map var_type xs) (map var_type ys) e in
    let b = fixeds x.fixed y.fixed (map var_fixed xs) (map var_fixed ys) f in
    one t.0 b.0 (i.0 ∙ sym j.0) (alike_at (suc n) xs ys i.1 j.1 t.1 b.1) where
      types : (x y : Var) (ts us : List Ty) → x.ty ∷ ts ≡ y.ty ∷ us → (x.ty ≡ y.ty) × (ts ≡ us)
      types x y ts us e = (cc, cc)

      fixeds : (a b : Bool) (ts us : List Bool) → a ∷ ts ≡ b ∷ us → (a ≡ b) × (ts ≡ us)
      fixeds a b ts us e = (cc, cc)

-- ---- stable equations

void_stable : (t : Ty) → ((t ≡ ty.Void → ⊥) → ⊥) → t ≡ ty.Void
void_stable ty.Void h = refl
void_stable ty.Int h = absurd (h (λ e. cc e))
void_stable ty.Bool h = absurd (h (λ e. cc e))
void_stable ty.Null h = absurd (h (λ e. cc e))
void_stable (ty.Class xs m) h = absurd (h (λ e. cc e))

none_stable : (vs : List Var) → ((vs ≡ [] → ⊥) → ⊥) → vs ≡ []
none_stable [] h = refl
none_stable (v ∷ vs) h = absurd (h (λ e. cc e))

no_types : (vs : List Var) → map var_type vs ≡ [] → vs ≡ []
no_types [] e = refl
no_types (v ∷ vs) e = absurd (omega (arith, ap length e))

module _ (p : Program) (once : duplicates p ≡ []) (ok : MembersPass p) where
  same_body : (a b : Body) → a.class ≡ b.class → a.method ≡ b.method → a ≡ b
  same_body a b e f i = record { class = e i; method = f i }

  body_once : (V : Path) (m : Name) (a b : Body) → InUniverse p V → IsBody p V m a → IsBody p V m b → a ≡ b
  body_once V m a b u h k =
      let own : IsOwnSuper p a.class → ⊥ = λ o. ok.types.table.no_cycle a.class (sup_in_universe h.least.among.super u, o) in
      let e = one_least p V m a.class b.class h.least k.least own in
      same_body a b e (one_method_at p once b.class m a.method b.method (subst (λ (Q : Path). MethodAt p Q m a.method) e h.at) k.at)

  least : (V : Path) (m : Name) → IsClass p V → HasMethod p m V → Surely ((b : Body) × IsBody p V m b)
  least V m c h = map_surely there (λ l. (record { class = l.0; method = l.1.among.method }, record { least = l.1; at = l.1.among.at })) where
    there : Surely ((Q : Path) × Least p V m Q)
    there deny = ok.members V (record { class = c; bad = bad_method m (no_least h (λ Q l. deny (Q, l))) })

  -- the signature of a header is what the plan gives
  signed : (b : Body) (c : Header) (s : Signature) → IsHeader p b c → HasSignature p b s → s ≡ signature c
  signed b c s h g = g.signature ∙ ap signature (header_once p b g.header c (header_back p b g.header g.is) h)

  method : (V B : Path) (m : Name) (b : Body) (c : Header) → IsClass p V → Sup p V B → IsBody p B m b → IsHeader p b c → Surely (BodyAlike p V m c)
  method V B m b c v s i h = and_so (least V m v (b.class, decls)) (λ a. map_surely (signatures a.0 a.1) (alike a.0 a.1)) where
    decls : Decls p V m b.class
    decls = record { super = sup_joined s i.least.among.super; method = b.method; at = i.at }

    signatures : (a : Body) → IsBody p V m a → Surely (SameSignature p a b)
    signatures a k deny = ok.members V (record { class = v; bad = bad_method m (other_signature a b k (record { super = decls.super; at = i.at }) deny) })

    alike : (a : Body) → IsBody p V m a → SameSignature p a b → BodyAlike p V m c
    alike a k g =
        let x = g.one.header in
        let is = header_back p a x g.one.is in
        let e : signature c ≡ signature x = sym (signed b c g.signature h g.other) ∙ g.one.signature in record {
          body = a;
          header = x;
          is_body = k;
          is_header = is;
          same = alike_at 0 c.vars x.vars (header_numbered p b c h) (header_numbered p a x is) (ap (λ (z : Signature). z.types) e) (ap (λ (z : Signature). z.fixed) e);
          result = sym (ap (λ (z : Signature). z.result) e);
        }

  -- ---- constructors

  passes : (C : Name) (P : Path) → IsClass p (C ∷ P) → Surely (ConstructorPasses p C P)
  passes C P c deny = ok.members (C ∷ P) (record { class = c; bad = bad_constructor deny })

  own_signature : (C : Name) (P : Path) (b : Body) (c : Header) (s : Signature) → IsClass p (C ∷ P) → IsBody p (C ∷ P) C b → IsHeader p b c
      → ConstructorSignature p (C ∷ P) s → s ≡ signature c
  own_signature C P b c s v i h (declared a k g) =
      let e = body_once (C ∷ P) C a b v.universe k i in
      signed b c s h (subst (λ (x : Body). HasSignature p x s) e g)
  own_signature C P b c s v i h (missing_one free e) = absurd (free b i)

  void : (V : Path) (b : Body) (c : Header) → IsClass p V → IsConstructorBody p V b → IsHeader p b c → c.result ≡ ty.Void
  void [] b c v i h = absurd i
  void (C ∷ P) b c v i h = void_stable c.result (map_surely (passes C P v) (λ k.
      sym (ap (λ (z : Signature). z.result) (own_signature C P b c k.signature v i h k.is)) ∙ k.void))

  missing_is : (R : Path) (s : Signature) → ((d : Body) → IsConstructorBody p R d → ⊥) → ConstructorSignature p R s → s ≡ empty_signature
  missing_is R s free (declared a k g) = absurd (free a k)
  missing_is R s free (missing_one n e) = e

  bare : (C : Name) (P Q : Path) (b : Body) (c : Header) → IsClass p (C ∷ P) → Sup p (C ∷ P) (C ∷ Q)
      → ((d : Body) → IsConstructorBody p (C ∷ Q) d → ⊥) → IsConstructorBody p (C ∷ P) b → IsHeader p b c → c.vars ≡ []
  bare C P Q b c v s free i h = none_stable c.vars (map_surely (passes C P v) (λ k.
      no_types c.vars (ap (λ (z : Signature). z.types) (sym (own_signature C P b c k.signature v i h k.is) ∙ missing_is (C ∷ Q) k.signature free (k.supers Q s)))))

pub signatures : Signatures
signatures p once ok = record { method = method p once ok; least = least p once ok; void = void p once ok; bare = bare p once ok }
