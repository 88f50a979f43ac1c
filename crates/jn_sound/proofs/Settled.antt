-- Substituted types that stay the same where the scope grows.
use Rattle.std.proofs.Common.{◌≡◌, ℕ, List, [], ◌∷◌, length, map, refl, sym, ap, ◌∙◌, subst}
use Rattle.std.proofs.lemmas.List.{reverse-reverse}
use Rattle.jn_base.specs.declared.tree.Name.{Name}
use Rattle.jn_base.specs.declared.tree.Program.{Program}
use Rattle.jn_base.specs.declared.types.Ty.{Ty}
use Rattle.jn_base.specs.declared.types.Ty.TheVariants as ty
use Rattle.jn_base.specs.declared.names.Role.TheVariants as role
use Rattle.jn_base.specs.Paths.{Path}
use Rattle.jn_base.specs.Universe.{InUniverse}
use Rattle.jn_base.specs.Atoms.{Atom, atoms_in, shown_atom, Among, first, later}
use Rattle.jn_base.specs.Scopes.{Scope, bound_of}
use Rattle.jn_base.specs.Fits.{Anchored, TypeFits, BindsFit}
use Rattle.jn_base.proofs.SuperLaws.{sup_level}
use Rattle.jn_base.proofs.Reaching.{declared_in_universe}
use Rattle.jn_sem.specs.Normal.{normal, moved, same_path, swapped}
use Rattle.jn_sem.specs.NormalFunction.{subst_type, normal_type, in_order, moved_normal}
use Rattle.jn_sem.specs.Terms.{Site}
use Rattle.jn_sem.proofs.Growth.{normal_later}
use Rattle.jn_sem.proofs.NormalTypes.{moved_same}
use Rattle.jn_sem.proofs.Under.{type_anchored, anchored_later}
use Rattle.jn_laws.specs.LawsOfWritten.{Shallow, HeaderPath, of_this, of_param, site_with, scope_of, TypeThere}
use Rattle.jn_laws.specs.LawsOfSources.{WellFormed}
use Rattle.jn_laws.specs.LawsOfFits.{AsDeep}
use Rattle.jn_laws.proofs.MovedTypes.{moved_anchored}
use Rattle.jn_laws.proofs.Terms.{this_bound}
use Rattle.jn_laws.proofs.WrittenTypes.{written_types, no_variable}
use Rattle.jn_rules.specs.Plans.{FoundField}
use Rattle.jn_rules.specs.Questions.{IsFoundField, HasFieldAt}
use Rattle.jn_rules.specs.Exprs.{put_in}
use Rattle.jn_rule_laws.specs.LawsOfForms.{Grown, none, more, PathKnown}
use Rattle.jn_rule_laws.proofs.FoundMembers.{FoundAt, found_at}

-- ---- types that are the same where their atoms are

same_map : (f g : Atom → Atom) (xs : List Atom) → ((x : Atom) → Among xs x → f x ≡ g x) → map f xs ≡ map g xs
same_map f g [] h = refl
same_map f g (x ∷ xs) h =
    ap (λ (y : Atom). y ∷ map f xs) (h x first)
    ∙ ap (λ (ys : List Atom). g x ∷ ys) (same_map f g xs (λ y m. h y (later m)))

same_subst : (s t : Scope) (f : ℕ → ℕ) (u : Ty)
    → ((x : Atom) → Among (atoms_in u) x → normal t (moved f x) ≡ normal s (moved f x))
    → subst_type t f u ≡ subst_type s f u
same_subst s t f (ty.Class xs m) h =
    ap (λ (zs : List Atom). ty.Class (map shown_atom (in_order zs)) m)
    (same_map (moved_normal t f) (moved_normal s f) (atoms_in (ty.Class xs m)) h)
same_subst s t f ty.Int h = refl
same_subst s t f ty.Bool h = refl
same_subst s t f ty.Null h = refl
same_subst s t f ty.Void h = refl

pub grown_normal : {s t : Scope} → Grown s t → BindsFit t → (x : Atom) → Anchored s x.anchor → Anchored t x.anchor ×
    (normal t x ≡ normal s x)
grown_normal none f x a = (a, refl)
grown_normal (more g) f x a =
    let r = grown_normal g f.0 x a in
    (anchored_later f x.anchor r.0, normal_later f x r.0 ∙ r.1)

pub subst_settled : (s t : Scope) (f : ℕ → ℕ) (u : Ty) → Grown s t → BindsFit t
    → ((x : Atom) → Among (atoms_in u) x → Anchored s (moved f x).anchor) → subst_type t f u ≡ subst_type s f u
subst_settled s t f u g k anchored =
    same_subst s t f u (λ x m. (grown_normal g k (moved f x) (anchored x m)).1)

-- ---- normal forms

same_anchored : (s : Scope) (x : Atom) → Anchored s x.anchor → Anchored s (moved same_path x).anchor
same_anchored s x a = subst (λ (y : Atom). Anchored s y.anchor) (sym (moved_same x)) a

pub normal_settled : (s t : Scope) (u : Ty) → Grown s t → BindsFit t → TypeFits s u → normal_type t u ≡ normal_type s u
normal_settled s t u g k f =
    subst_settled s t same_path u g k (λ x m. same_anchored s x (type_anchored f x m))

-- ---- the type of a field, with the receiver's path for `this`

pub field_settled : (p : Program) (s t : Scope) (u : Ty) (f : Name) (c : FoundField) (q : ℕ) → Shallow p → WellFormed p
    → IsFoundField p s u f c → PathKnown s q u → Grown s t → BindsFit t
    → put_in t (0 ∷ []) (q ∷ []) c.ty ≡ put_in s (0 ∷ []) (q ∷ []) c.ty
field_settled p s t u f c q deep w i k g b =
    subst_settled s t (swapped (0 ∷ []) (q ∷ [])) c.ty g b
    (λ x m. moved_anchored (scope_of at) s (swapped (0 ∷ []) (q ∷ [])) x.anchor x.exact x.names
    (type_anchored there.fits x m) (λ r j e. no_param r (there.paths x r j m e))) where
      Q : Path
      Q = i.type.class

      at : Site
      at = site_with Q f []

      in_it : InUniverse p Q
      in_it = declared_in_universe p Q i.type.at.decl i.type.at.stands

      there : TypeThere at c.ty
      there = (written_types p deep).of_field Q f i.type.field.ty c.ty in_it (w.fields Q f i.type.field i.type.at)
          i.type.type

      found : FoundAt s (HasFieldAt p f) (atoms_in u) i.bound
      found = found_at (atoms_in u) i.at

      own_depth : length (bound_of (scope_of at) 0) ≡ length Q
      own_depth = ap length (this_bound p at role.Value (no_variable p deep Q f in_it))
          ∙ ap length (reverse-reverse Q)

      deep_enough : AsDeep (scope_of at) s 0 q
      deep_enough = record {
        bound_in = k.bound_in;
        depth = k.depth found.atom found.among ∙ ap length (sym found.is)
            ∙ sym (sup_level i.type.is_field.declares.super) ∙ sym own_depth;
      }

      no_param : (r : ℕ) → HeaderPath [] r → AsDeep (scope_of at) s r (swapped (0 ∷ []) (q ∷ []) r)
      no_param r (of_this e) =
          subst (λ (z : ℕ). AsDeep (scope_of at) s z (swapped (0 ∷ []) (q ∷ []) z)) (sym e) deep_enough
      no_param r (of_param x m e a b) = elim m [ ]
