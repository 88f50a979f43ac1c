-- What the type of a field takes off its class is less than all its names.
use Rattle.std.proofs.Common.{◌≡◌, ◌<◌, ◌≤◌, ◌-◌, ℕ, List, [], ◌∷◌, ◌++◌, length, map, drop, Option, Some, None, Bool, true, false, refl, sym, ap, ◌∙◌, subst, ◌⊎◌, inl, inr, arith}
use Rattle.std.specs.Prelude.{Result, Ok, Err, reverse, cond, nat_lt, nat_le}
use Rattle.std.proofs.lemmas.List.{append-nil, reverse-reverse, length-append, length-reverse}
use Rattle.jn_base.specs.declared.tree.Name.{Name}
use Rattle.jn_base.specs.declared.tree.Named.{Named}
use Rattle.jn_base.specs.declared.tree.Field.{Field}
use Rattle.jn_base.specs.declared.tree.Head.{Head}
use Rattle.jn_base.specs.declared.tree.Head.TheVariants as head
use Rattle.jn_base.specs.declared.tree.Ref.{Ref}
use Rattle.jn_base.specs.declared.tree.Ref.TheVariants as ref
use Rattle.jn_base.specs.declared.tree.Term.{Term}
use Rattle.jn_base.specs.declared.tree.TypeTerm.{TypeTerm}
use Rattle.jn_base.specs.declared.tree.TypeTerm.TheVariants as type
use Rattle.jn_base.specs.declared.tree.Program.{Program}
use Rattle.jn_base.specs.declared.types.Anchor.{Anchor}
use Rattle.jn_base.specs.declared.types.Anchor.TheVariants.{Root, Up}
use Rattle.jn_base.specs.declared.types.Atom.{Atom as ShownAtom}
use Rattle.jn_base.specs.declared.types.Masks.{Masks}
use Rattle.jn_base.specs.declared.types.Ty.{Ty}
use Rattle.jn_base.specs.declared.types.Ty.TheVariants as ty
use Rattle.jn_base.specs.declared.names.Role.TheVariants as role
use Rattle.jn_base.specs.declared.names.Spot.{Spot}
use Rattle.jn_base.specs.declared.names.Vars.{Vars}
use Rattle.jn_base.specs.declared.refusal.Refusal.{Refusal}
use Rattle.jn_base.specs.Paths.{Path}
use Rattle.jn_base.specs.Members.{FieldAt}
use Rattle.jn_base.specs.Atoms.{Atom, atoms_in, atom_of, Among, first, later}
use Rattle.jn_base.specs.Scopes.{bound_of}
use Rattle.jn_base.specs.Resolve.{class_of, scope_at, anchor_out, Behind, unknown_name, not_above, above, BoundGives, PathGives, path_before, PrefixGives, AnchorGiven, AtomGives, SuitGives, ClassGives, no_class, in_class, plain_gives, suits, atom_with}
use Rattle.jn_base.specs.ResolveTypes.{mask_names, ResolveAll, none, refused, first as first_term, DepthsGive, many, one, UnmaskedGives, AtomsGive, bounds_at}
use Rattle.jn_sem.specs.Terms.{spot, FieldTypeIs}
use Rattle.jn_sem.specs.LawsOfSlots.{HeadNamed, TypeNamed, FieldsPassThere}

-- ---- results

not_both : {A : Type 0} (a : A) (r : Refusal) → ◌≡◌ {A = Result A Refusal} (Ok a) (Err r) → ⊥
not_both a r e = cc

same_ok : {A : Type 0} (a b : A) → ◌≡◌ {A = Result A Refusal} (Ok a) (Ok b) → a ≡ b
same_ok a b e = cc

same_up : (j k : ℕ) → Up 0 j ≡ Up 0 k → j ≡ k
same_up j k e = cc

root_not_up : (k : ℕ) → Root ≡ Up 0 k → ⊥
root_not_up k e = cc

lt_of : (j n : ℕ) → nat_lt j n ≡ true → j < n
lt_of j n e = grind arith

le_of : (j n : ℕ) → nat_le j n ≡ true → j ≤ n
le_of j n e = grind arith

split : {A : Type 0} (x : A) (ys : List A) (z : A) → Among (x ∷ ys) z → (z ≡ x) ⊎ Among ys z
split x ys _ first = inl refl
split x ys z (later m) = inr m

either : {A B C : Type 0} → A ⊎ B → (A → C) → (B → C) → C
either (inl a) f g = f a
either (inr b) f g = g b

-- ---- one term of a field's type, in the class Q

module _ (p : Program) (Q : Path) (f : Name) (some : 0 < length Q) where
  abbrev here : Spot
  here = spot Q f role.Field

  abbrev no_vars : Vars
  no_vars = record { list = [] }

  class_is : class_of here ≡ Q
  class_is = reverse-reverse Q

  this_bound : bound_of (scope_at here no_vars) 0 ≡ Q
  this_bound = append-nil _ ∙ (reverse-reverse (class_of here) ∙ class_is)

  plain_anchor : (j k : ℕ) (b : Bool) (a : Anchor) → nat_lt j (length (class_of here)) ≡ b → a ≡ cond b (Up 0 j) Root → a ≡ Up 0 k → k < length Q
  plain_anchor j k true a e i h =
      let l = lt_of j (length (class_of here)) e in
      omega (arith, l, same_up j k (sym i ∙ h), ap (λ (P : Path). length P) class_is)
  plain_anchor j k false a e i h = absurd (root_not_up k (sym i ∙ h))

  plain_given : (t : Term) (x : Result ℕ Name) (a : Anchor) (k : ℕ) → Ok a ≡ plain_gives here t x → a ≡ Up 0 k → k < length Q
  plain_given t (Ok j) a k e h = plain_anchor j k (nat_lt j (length (class_of here))) a refl (same_ok a (anchor_out (class_of here) j) e) h
  plain_given t (Err N) a k e h = absurd (not_both a _ e)

  behind_given : (t : Term) (front : Option Path) (V : Path) (b a : Anchor) → Behind p here t front V b (Ok a) → a ≡ b
  behind_given t front V b a (unknown_name N u e) = absurd (not_both a _ e)
  behind_given t front V b a (not_above u n e) = absurd (not_both a _ e)
  behind_given t front V b a (above u i e) = same_ok a b e

  own_given : (t : Term) (r : Ref) (a : Anchor) (k : ℕ) → PathGives p here (scope_at here no_vars) t None (path_before role.Field no_vars r) (Ok a) → a ≡ Up 0 k → k < length Q
  own_given t ref.This a k g h = omega (arith, some, same_up 0 k (sym (behind_given t None _ (Up 0 0) a g) ∙ h))
  own_given t (ref.Var x) a k g h = absurd (not_both a _ g)

  bracket_at : (t : Term) (B : Path) (m : Bool) (a : Anchor) (k : ℕ) → 0 < length B → nat_le (length B) (length (bound_of (scope_at here no_vars) 0)) ≡ m
      → BoundGives p here t (Some B) 0 (bound_of (scope_at here no_vars) 0) (cond m (Some (length (bound_of (scope_at here no_vars) 0) - length B)) None) (Ok a)
      → a ≡ Up 0 k → k < length Q
  bracket_at t B true a k l e g h =
      let V = bound_of (scope_at here no_vars) 0 in
      let i = same_up (length V - length B) k (sym (behind_given t (Some B) _ (Up 0 (length V - length B)) a g) ∙ h) in
      let long : length V ≡ length Q = ap (λ (P : Path). length P) this_bound in
      omega (arith, l, le_of (length B) (length V) e, i, long, some)
  bracket_at t B false a k l e g h = absurd (not_both a _ g)

  bracket_given : (t : Term) (B : Path) (r : Ref) (a : Anchor) (k : ℕ) → 0 < length B
      → PathGives p here (scope_at here no_vars) t (Some B) (path_before role.Field no_vars r) (Ok a) → a ≡ Up 0 k → k < length Q
  bracket_given t B ref.This a k l g h = bracket_at t B (nat_le (length B) (length (bound_of (scope_at here no_vars) 0))) a k l refl g h
  bracket_given t B (ref.Var x) a k l g h = absurd (not_both a _ g)

  prefix_given : (t : Term) (P : List Name) (r : Ref) (x : Result ℕ Name) (a : Anchor) (k : ℕ) → 0 < length P
      → PrefixGives p here no_vars t P r x (Ok a) → a ≡ Up 0 k → k < length Q
  prefix_given t P r (Ok j) a k l g h =
      bracket_given t (reverse P ++ drop j (class_of here)) r a k
      (omega (arith, l, length-append (reverse P) (drop j (class_of here)), length-reverse P)) g h
  prefix_given t P r (Err N) a k l g h = absurd (not_both a _ g)

  anchor_given : (t : Term) (d : Head) (a : Anchor) (k : ℕ) → HeadNamed d → AnchorGiven p here no_vars t d (Ok a) → a ≡ Up 0 k → k < length Q
  anchor_given t head.Plain a k n g h = plain_given t g.found a k g.gives h
  anchor_given t (head.Own r) a k n g h = own_given t r a k g h
  anchor_given t (head.Prefix P r) a k n g h = prefix_given t P r g.found a k n g.gives h

  class_given : (t : Term) (B : Path) (x y : ShownAtom) → ClassGives p here t B x (Ok y) → y ≡ x
  class_given t B x y (no_class n e) = absurd (not_both y _ e)
  class_given t B x y (in_class n e) = same_ok y x e

  suit_given : (t : Term) (b : Bool) (x y : ShownAtom) → SuitGives p here no_vars t x b (Ok y) → y ≡ x
  suit_given t true x y g = class_given t _ x y g
  suit_given t false x y g = absurd (not_both y _ g)

  atom_given : (t : Term) (r : Result Anchor Refusal) (y : ShownAtom) (k : ℕ) → HeadNamed t.head → AnchorGiven p here no_vars t t.head r
      → AtomGives p here no_vars t r (Ok y) → y.anchor ≡ Up 0 k → k < length Q
  atom_given t (Ok a) y k n g e h = anchor_given t t.head a k n g (sym (ap (λ (x : ShownAtom). x.anchor) (suit_given t (suits here.role (atom_with a t)) (atom_with a t) y e)) ∙ h)
  atom_given t (Err r) y k n g e h = absurd (not_both y r e)

  all_given : (ts : List Term) (o : Result (List ShownAtom) Refusal) (xs : List ShownAtom) → ResolveAll p here no_vars ts o → o ≡ Ok xs
      → ((t : Term) → Among ts t → HeadNamed t.head) → (y : ShownAtom) (k : ℕ) → Among xs y → y.anchor ≡ Up 0 k → k < length Q
  all_given [] o xs (none e) i n y k m h = absurd (in_nothing xs (same_ok xs [] (sym i ∙ e)) m) where
    in_nothing : (zs : List ShownAtom) → zs ≡ [] → Among zs y → ⊥
    in_nothing zs j a = elim (subst (λ (us : List ShownAtom). Among us y) j a) [ ]
  all_given (t ∷ ts) o xs (refused r g e) i n y k m h = absurd (not_both xs r (sym i ∙ e))
  all_given (t ∷ ts) o xs (first_term x (Err r) g gs e) i n y k m h = absurd (not_both xs r (sym i ∙ e))
  all_given (t ∷ ts) o xs (first_term x (Ok ys) g gs e) i n y k m h =
      either (split x ys y (subst (λ (us : List ShownAtom). Among us y) (same_ok xs (x ∷ ys) (sym i ∙ e)) m))
      (λ j. atom_given t g.anchor x k (n t first) g.given g.gives (ap (λ (z : ShownAtom). z.anchor) (sym j) ∙ h))
      (λ w. all_given ts (Ok ys) ys gs refl (λ u v. n u (later v)) y k w h)

  -- ---- the whole type

  unmasked : (names : List Name) (xs : List ShownAtom) (ms : List Named) (t : Ty) → UnmaskedGives names here xs ms (Ok t) → (m : Masks) × (t ≡ ty.Class xs m)
  unmasked names xs [] t g = (g.masks, same_ok t (ty.Class xs g.masks) g.gives)
  unmasked names xs (m ∷ ms) t g = absurd (not_both t _ g)

  depths : (names : List Name) (ts : List Term) (ms : List Named) (bounds : List Path) (xs : List ShownAtom) (t : Ty)
      → DepthsGive p names here ts ms bounds xs (Ok t) → (m : Masks) × (t ≡ ty.Class xs m)
  depths names ts ms bounds xs t (many u w us n e g) = absurd (not_both t _ g)
  depths names ts ms bounds xs t (one n g) = unmasked names xs ms t g

  of_atom_in : (xs : List ShownAtom) (a : Atom) → Among (map atom_of xs) a → (y : ShownAtom) × Among xs y × (a ≡ atom_of y)
  of_atom_in [] a m = elim m [ ]
  of_atom_in (x ∷ xs) _ first = (x, first, refl)
  of_atom_in (x ∷ xs) a (later m) = let r = of_atom_in xs a m in (r.0, later r.1, r.2)

  class_type : (ts : List Term) (ms : List Named) (r : Result (List ShownAtom) Refusal) (t : Ty) → ((u : Term) → Among ts u → HeadNamed u.head)
      → ResolveAll p here no_vars ts r → AtomsGive p (mask_names p) here no_vars ts ms r (Ok t)
      → (a : Atom) (k : ℕ) → Among (atoms_in t) a → a.anchor ≡ Up 0 k → k < length Q
  class_type ts ms (Err r) t n all g a k m h = absurd (not_both t r g)
  class_type ts ms (Ok xs) t n all g a k m h =
      let c = depths (mask_names p) ts ms (bounds_at here no_vars xs) xs t g in
      let y = of_atom_in xs a (subst (λ (u : Ty). Among (atoms_in u) a) c.1 m) in
      all_given ts (Ok xs) xs all refl n y.0 k y.1 (sym (ap (λ (b : Atom). b.anchor) y.2) ∙ h)

  pub type_within : (x : TypeTerm) (t : Ty) → TypeNamed x → FieldTypeIs p Q f x t → (a : Atom) (k : ℕ) → Among (atoms_in t) a → a.anchor ≡ Up 0 k → k < length Q
  type_within type.Int t n g a k m h = elim (subst (λ (u : Ty). Among (atoms_in u) a) (same_ok t ty.Int g) m) [ ]
  type_within type.Bool t n g a k m h = elim (subst (λ (u : Ty). Among (atoms_in u) a) (same_ok t ty.Bool g) m) [ ]
  type_within (type.Class ts ms) t n g a k m h = class_type ts ms g.atoms t n g.all g.gives a k m h

has_names : (p : Program) (Q : Path) (f : Name) (x : Field) → FieldAt p Q f x → 0 < length Q
has_names p [] f x h = absurd h.stands
has_names p (C ∷ Q) f x h = omega arith

pub fields_pass : FieldsPassThere
fields_pass p once named = record {
  one_place = once;
  within = λ Q f x t a k at type m h. type_within p Q f (has_names p Q f x at) x.ty t (named Q f x at) type a k m h;
}
