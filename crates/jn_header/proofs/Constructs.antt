-- The signatures of constructors, and which constructors pass.
use Rattle.std.proofs.Common.{◌≡◌, ◌↔◌, [], ◌∷◌, Bool, true, false, IsTrue, Option, Some, None, refl, sym, ap, ◌∙◌, subst}
use Rattle.jn_base.specs.declared.tree.Name.{Name}
use Rattle.jn_base.specs.declared.tree.Program.{Program}
use Rattle.jn_base.specs.declared.types.Ty.TheVariants as ty
use Rattle.jn_base.specs.Paths.{Path}
use Rattle.jn_base.specs.Supers.{Sup}
use Rattle.jn_base.specs.ProgramNames.{IsNamed}
use Rattle.jn_base.specs.TableRules.{DeclarationsPass}
use Rattle.jn_sem.specs.Does.{Body}
use Rattle.jn_rules.specs.Questions.{Answers}
use Rattle.jn_rules.specs.Members.{Signature, HasSignature, ConstructorSignature, declared, missing_one, ConstructorPasses}
use Rattle.jn_rule_laws.proofs.RepliesOne.{constructor_once}
use Rattle.jn_header.specs.declared.bodies.BodyHead.{BodyHead}
use Rattle.jn_header.specs.Bodies.{LeastHeadIs}
use Rattle.jn_header.specs.Constructors.{constructor_signature, last_of, PassesAt, SupersPass}
use Rattle.jn_header.proofs.Finding.{has_signature, signature_is}

clash : IsTrue false → ⊥
clash e = cc e

pub last_is : (S : Path) (C : Name) (o : Option Name) → o ≡ last_of S → o ≡ Some C → (Q : Path) × (S ≡ C ∷ Q)
last_is [] C o e f = absurd (none f) where
  none : o ≡ Some C → ⊥
  none g = let k : (let n : Option Name = None in n ≡ Some C) = sym e ∙ g in cc k
last_is (D ∷ Q) C o e f = (Q, (let k : (let n : Option Name = Some D in n ≡ Some C) = sym e ∙ f in let same : D ≡ C = cc k in ap (λ (N : Name). N ∷ Q) same))

pub other_last : (p : Program) (s : Signature) (S : Path) (C : Name) (o : Option Name) → o ≡ last_of S → (o ≡ Some C → ⊥) → PassesAt p s C S
other_last p s S C o e n = λ Q f. absurd (n (e ∙ ap last_of f))

module _ (p : Program) (ok : DeclarationsPass p) (named : IsNamed p) (C : Name) (P : Path) where
  pub constructor_is : (o : Option BodyHead) → LeastHeadIs p (C ∷ P) C o → ConstructorSignature p (C ∷ P) (constructor_signature o)
  constructor_is None n = missing_one n refl
  constructor_is (Some x) h = declared h.0 h.1 (has_signature p ok named h.0 x h.2)

  pub signature_once : (o : Option BodyHead) → LeastHeadIs p (C ∷ P) C o → (s : Signature) → ConstructorSignature p (C ∷ P) s → s ≡ constructor_signature o
  signature_once None n s (declared b i h) = absurd (n b i)
  signature_once None n s (missing_one m e) = e
  signature_once (Some x) h s (declared b i k) =
      signature_is p ok named h.0 x s h.2 (subst (λ (c : Body). HasSignature p c s) (constructor_once p ok named (C ∷ P) b h.0 i h.1) k)
  signature_once (Some x) h s (missing_one m e) = absurd (m h.0 h.1)

  -- ---- a super

  pub super_told : (s : Signature) (o : Option BodyHead) → LeastHeadIs p (C ∷ P) C o → (r : Bool) → IsTrue r ↔ (s ≡ constructor_signature o) → Answers (PassesAt p s C (C ∷ P)) r
  super_told s o h true f = λ Q e. subst (λ (S : Path). Holds S) e (subst (λ (x : Signature). ConstructorSignature p (C ∷ P) x) (sym (f.0 refl)) (constructor_is o h)) where
    Holds : Path → Type 0
    Holds S = ConstructorSignature p S s
  super_told s o h false f = λ passes. clash (f.1 (signature_once o h s (passes P refl)))

  -- ---- the whole

  passes_with : (o : Option BodyHead) → LeastHeadIs p (C ∷ P) C o → (constructor_signature o).result ≡ ty.Void → SupersPass p (constructor_signature o) C (C ∷ P) → ConstructorPasses p C P
  passes_with o h v s = record { signature = constructor_signature o; is = constructor_is o h; void = v; supers = s }

  pub no_void : (o : Option BodyHead) → LeastHeadIs p (C ∷ P) C o → ((constructor_signature o).result ≡ ty.Void → ⊥) → ConstructorPasses p C P → ⊥
  no_void o h n k = n (sym (ap (λ (s : Signature). s.result) (signature_once o h k.signature k.is)) ∙ k.void)

  pub whole_told : (o : Option BodyHead) → LeastHeadIs p (C ∷ P) C o → (constructor_signature o).result ≡ ty.Void → (r : Bool)
      → Answers (SupersPass p (constructor_signature o) C (C ∷ P)) r → Answers (ConstructorPasses p C P) r
  whole_told o h v true s = passes_with o h v s
  whole_told o h v false n = λ k. n (subst (λ (s : Signature). SupersPass p s C (C ∷ P)) (signature_once o h k.signature k.is) k.supers)

-- the same of a path whose last name is C
pub at_last : (p : Program) → DeclarationsPass p → IsNamed p → (C : Name) (S Q : Path) → S ≡ C ∷ Q → (s : Signature) (o : Option BodyHead) → LeastHeadIs p S C o → (r : Bool)
    → IsTrue r ↔ (s ≡ constructor_signature o) → Answers (PassesAt p s C S) r
at_last p ok named C S Q e s o h r f =
    subst (λ (T : Path). Answers (PassesAt p s C T) r) (sym e) (super_told p ok named C Q s o (subst (λ (T : Path). LeastHeadIs p T C o) e h) r f)

pub fails_at : (p : Program) (s : Signature) (C : Name) (R S : Path) → Sup p R S → (PassesAt p s C S → ⊥) → SupersPass p s C R → ⊥
fails_at p s C R S up n all = n (λ Q e. all Q (subst (λ (T : Path). Sup p R T) e up))
