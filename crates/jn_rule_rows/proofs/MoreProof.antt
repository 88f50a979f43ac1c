-- The rows of members and of sources.
use Rattle.std.proofs.Common.{◌≡◌, ◌<◌, ℕ, zero, suc, List, [], ◌∷◌, take, Contains, refl, sym, ap, ◌∙◌, subst, inl, inr, arith}
use Rattle.std.specs.Prelude.{Result, Ok, Err}
use Rattle.std.specs.Str.{IsUtf8, is_utf8, chars}
use Rattle.std.specs.Str.Lossy.{utf8_valid_len}
use Rattle.std.proofs.lemmas.Str.{IsUtf8-nil, utf8_valid_len-IsUtf8}
use Rattle.jn_base.specs.declared.tree.Name.{Name}
use Rattle.jn_base.specs.declared.tree.Kind.TheVariants as kind
use Rattle.jn_base.specs.declared.tree.TypeTerm.{TypeTerm}
use Rattle.jn_base.specs.declared.tree.TypeTerm.TheVariants as type
use Rattle.jn_base.specs.declared.tree.Field.{Field}
use Rattle.jn_base.specs.declared.tree.Method.{Method}
use Rattle.jn_base.specs.declared.tree.Member.TheVariants as member
use Rattle.jn_base.specs.declared.tree.Member.TheVariants.{outs-Body, outs-Slot}
use Rattle.jn_base.specs.declared.tree.Decl.{Decl}
use Rattle.jn_base.specs.declared.types.Ty.{Ty}
use Rattle.jn_base.specs.declared.types.Ty.TheVariants as ty
use Rattle.jn_base.specs.declared.refusal.Refusal.{Refusal}
use Rattle.jn_base.specs.Paths.{Path, nested, fields, methods, StandsIn, StandsAt}
use Rattle.std.specs.declared.cmp.Ordering.TheVariants.{Less}
use Rattle.jn_base.specs.ClassOrder.{name_cmp}
use Rattle.jn_base.specs.Supers.{Sup, itself}
use Rattle.jn_base.specs.Members.{MethodAt, FieldAt}
use Rattle.jn_base.specs.ExampleTrees.{line, word, declaration, field}
use Rattle.jn_base.specs.Spelling.{too_long, not_utf8}
use Rattle.jn_base.proofs.NameTests.{in_cons, in_none, first as at_first, later as behind}
use Rattle.jn_base.proofs.ExampleTools.{top_above}
use Rattle.jn_sem.specs.Does.{Body}
use Rattle.jn_rules.specs.Plans.{taken, then_do, done}
use Rattle.jn_rules.specs.Questions.{Gives}
use Rattle.jn_rules.specs.Headers.{Header, header_typed, declared_type, site_in}
use Rattle.jn_rules.specs.Members.{SameSignature, BadMethod, no_least, other_signature, BadField, override, field as clash_of}
use Rattle.jn_rules.specs.Verdict.{of_text}
use Rattle.jn_rule_rows.specs.MoreRows.{A, B, C, m, giving, overridden, clashing, MoreMemberRows, SourceRows}

-- ---- a method with another result

abbrev decl_a : Decl
decl_a = declaration kind.Class 1 A [] (member.Body (giving type.Int 1) ∷ [])

abbrev decl_b : Decl
decl_b = declaration kind.Class 2 B (A ∷ []) (member.Body (giving type.Bool 2) ∷ [])

one_of_a : methods decl_a.members ≡ giving type.Int 1 ∷ []
one_of_a = simp (outs-Body)

one_of_b : methods decl_b.members ≡ giving type.Bool 2 ∷ []
one_of_b = simp (outs-Body)

m_of_a : MethodAt overridden (A ∷ []) m (giving type.Int 1)
m_of_a = record {
  decl = decl_a;
  stands = (at_first decl_a (decl_b ∷ []), refl);
  has = subst (λ (ms : List Method). Contains ms (giving type.Int 1)) (sym one_of_a) (at_first (giving type.Int 1) []);
  name = refl;
}

m_of_b : MethodAt overridden (B ∷ []) m (giving type.Bool 2)
m_of_b = record {
  decl = decl_b;
  stands = (behind decl_a (decl_b ∷ []) decl_b (at_first decl_b []), refl);
  has = subst (λ (ms : List Method). Contains ms (giving type.Bool 2)) (sym one_of_b) (at_first (giving type.Bool 2) []);
  name = refl;
}

abbrev body : Name → TypeTerm → ℕ → Body
body N t k = record { class = N ∷ []; method = giving t k }

same_result : (x y : Header) → ◌≡◌ {A = Result Header Refusal} (Ok x) (Ok y) → x.result ≡ y.result
same_result x y e = cc

ok_type : (t u : Ty) → ◌≡◌ {A = Result Ty Refusal} (Ok t) (Ok u) → t ≡ u
ok_type t u e = cc

-- a header whose result is int or boolean
result_int : (h : Header) → Gives overridden (header_typed (body A type.Int 1)) (Ok h) → h.result ≡ ty.Int
result_int h g = at g.0 g.1 g.2 where
  at : (x : Result Ty Refusal) → x ≡ Ok ty.Int
      → Gives overridden (then_do (taken (λ u. done (declared_type (site_in (body A type.Int 1) []) u)) x) (λ t. done (record { vars = []; result = t }))) (Ok h) → h.result ≡ ty.Int
  at (Ok t) e k = same_result h (record { vars = []; result = declared_type (site_in (body A type.Int 1) []) t }) k ∙ ap (declared_type (site_in (body A type.Int 1) [])) (ok_type t ty.Int e)
  at (Err r) e k = absurd (cc e)

result_bool : (h : Header) → Gives overridden (header_typed (body B type.Bool 2)) (Ok h) → h.result ≡ ty.Bool
result_bool h g = at g.0 g.1 g.2 where
  at : (x : Result Ty Refusal) → x ≡ Ok ty.Bool
      → Gives overridden (then_do (taken (λ u. done (declared_type (site_in (body B type.Bool 2) []) u)) x) (λ t. done (record { vars = []; result = t }))) (Ok h) → h.result ≡ ty.Bool
  at (Ok t) e k = same_result h (record { vars = []; result = declared_type (site_in (body B type.Bool 2) []) t }) k ∙ ap (declared_type (site_in (body B type.Bool 2) [])) (ok_type t ty.Bool e)
  at (Err r) e k = absurd (cc e)

another : SameSignature overridden (body B type.Bool 2) (body A type.Int 1) → ⊥
another s = clash (sym (result_bool s.one.header s.one.is) ∙ sym (ap (λ x. x.result) s.one.signature) ∙ ap (λ x. x.result) s.other.signature ∙ result_int s.other.header s.other.is) where
  clash : ty.Bool ≡ ty.Int → ⊥
  clash e = cc e

-- ---- two fields of one name

abbrev one_a : Decl
one_a = declaration kind.Class 1 A [] (field m ∷ [])

abbrev one_b : Decl
one_b = declaration kind.Class 2 B [] (field m ∷ [])

abbrev one_c : Decl
one_c = declaration kind.Class 3 C (A ∷ B ∷ []) []

-- what holds of the three declarations holds of each
each_decl : (T : Decl → Type 0) → T one_a → T one_b → T one_c → (d : Decl) → Contains clashing.decls d → T d
each_decl T a b c d k = elim (in_cons one_a (one_b ∷ one_c ∷ []) d k) [
  | inl e ↦ subst T e a
  | inr l ↦ elim (in_cons one_b (one_c ∷ []) d l) [
    | inl e ↦ subst T e b
    | inr n ↦ elim (in_cons one_c [] d n) [ inl e ↦ subst T e c | inr o ↦ absurd (in_none d o) ]
  ]
]

abbrev Bare : Decl → Type 0
Bare d = (nested d.members ≡ []) × (methods d.members ≡ [])

bare_a : Bare one_a
bare_a = (simp (outs-Slot), simp (outs-Slot))

bare_b : Bare one_b
bare_b = (simp (outs-Slot), simp (outs-Slot))

bare : (d : Decl) → Contains clashing.decls d → Bare d
bare = each_decl Bare bare_a bare_b (refl, refl)

-- each declaration stands at the top
at_top : (R : Path) (d : Decl) → StandsAt clashing R d → Contains clashing.decls d
at_top [] d s = absurd s
at_top (N ∷ P) d s = in_space P d s.0 where
  in_space : (P : Path) (d : Decl) → StandsIn clashing P d → Contains clashing.decls d
  in_space [] d c = c
  in_space (N ∷ P) d t = absurd (in_none d (subst (λ (ds : List Decl). Contains ds d) (bare t.0 (in_space P t.0 t.1)).0 t.3))

no_method : (R : Path) (n : Name) (x : Method) → MethodAt clashing R n x → ⊥
no_method R n x h = in_none x (subst (λ (ms : List Method). Contains ms x) (bare h.decl (at_top R h.decl h.stands)).1 h.has)

no_bad_method : (n : Name) → BadMethod clashing (C ∷ []) n → ⊥
no_bad_method n (no_least h k) = no_method h.0 n h.1.method h.1.at
no_bad_method n (other_signature b c h k s) = no_method b.class n b.method h.at

abbrev the_field : Field
the_field = record { ty = type.Int; name = word m }

fields_a : fields one_a.members ≡ the_field ∷ []
fields_a = simp (outs-Slot)

fields_b : fields one_b.members ≡ the_field ∷ []
fields_b = simp (outs-Slot)

field_of_a : FieldAt clashing (A ∷ []) m the_field
field_of_a = record {
  decl = one_a;
  stands = (at_first one_a (one_b ∷ one_c ∷ []), refl);
  has = subst (λ (xs : List Field). Contains xs the_field) (sym fields_a) (at_first the_field []);
  name = refl;
}

field_of_b : FieldAt clashing (B ∷ []) m the_field
field_of_b = record {
  decl = one_b;
  stands = (behind one_a (one_b ∷ one_c ∷ []) one_b (at_first one_b (one_c ∷ [])), refl);
  has = subst (λ (xs : List Field). Contains xs the_field) (sym fields_b) (at_first the_field []);
  name = refl;
}

-- the fields of each declaration have that name
abbrev Names : Decl → Type 0
Names d = (x : Field) → Contains (fields d.members) x → x.name.name ≡ m

from_one : (d : Decl) → fields d.members ≡ the_field ∷ [] → Names d
from_one d e x c = elim (in_cons the_field [] x (subst (λ (xs : List Field). Contains xs x) e c)) [
  | inl q ↦ ap (λ (y : Field). y.name.name) (sym q)
  | inr n ↦ absurd (in_none x n)
]

field_name_is : (R : Path) (g : Name) (x : Field) → FieldAt clashing R g x → g ≡ m
field_name_is R g x h =
    sym h.name ∙ each_decl Names (from_one one_a fields_a) (from_one one_b fields_b) (λ y c. absurd (in_none y c)) h.decl (at_top R h.decl h.stands) x h.has

abbrev super_a : Sup clashing (C ∷ []) (A ∷ [])
super_a = top_above clashing C A refl refl

abbrev super_b : Sup clashing (C ∷ []) (B ∷ [])
super_b = top_above clashing C B refl refl

clash_of_m : BadField clashing (C ∷ []) m
clash_of_m = record {
  one = A ∷ [];
  other = B ∷ [];
  at_one = record { super = super_a; field = the_field; at = field_of_a };
  at_other = record { super = super_b; field = the_field; at = field_of_b };
  apart = different;
} where
  head_number : Path → ℕ
  head_number [] = 0
  head_number (N ∷ P) = N.0

  different : A ∷ [] ≡ B ∷ [] → ⊥
  different e = absurd (omega (arith, ap head_number e))

not_before : (g : Name) → g ≡ m → name_cmp clashing g m ≡ Less → ⊥
not_before g e l = cc (subst (λ (n : Name). name_cmp clashing n m ≡ Less) e l)

pub more_member_rows : MoreMemberRows
more_member_rows = record {
  override = override (body B type.Bool 2) (body A type.Int 1)
      (record { least = record { among = record { super = itself; method = giving type.Bool 2; at = m_of_b }; below = λ S d. d.super }; at = m_of_b })
      (record { super = top_above overridden B A refl refl; at = m_of_a }) another refl;
  clash = clash_of m (line 3) no_bad_method
      (record { holds = clash_of_m; first = λ g b. not_before g (field_name_is b.one g b.at_one.field b.at_one.at) })
      (record {
        off = 0;
        decl = one_c;
        stands = (behind one_a (one_b ∷ one_c ∷ []) one_c (behind one_b (one_c ∷ []) one_c (at_first one_c [])), refl);
        longest = λ k l. absurd (omega (arith, l));
        is = refl;
      });
}

-- ---- sources

no_byte : IsUtf8 (255 ∷ []) → ⊥
unfolding utf8_valid_len is_utf8 chars
no_byte h = let e : utf8_valid_len (255 ∷ []) ≡ 1 = utf8_valid_len-IsUtf8 (255 ∷ []) h in let z : utf8_valid_len (255 ∷ []) ≡ 0 = refl in omega (arith, e, z)

only_byte : (k : ℕ) → 0 < k → IsUtf8 (take k (255 ∷ [])) → ⊥
only_byte zero l h = omega (arith, l)
only_byte (suc zero) l h = no_byte h
only_byte (suc (suc k)) l h = no_byte h

pub source_rows : SourceRows
source_rows = record {
  too_long = λ bytes l. of_text _ (too_long l) refl;
  not_utf8 = of_text _ (not_utf8 (omega arith) (record { short = omega arith; front = IsUtf8-nil; longest = only_byte })) refl;
}
