-- Method names that are bad: those without a least body, and those with a body of another signature.
use Rattle.std.proofs.Common.{◌≡◌, ◌<◌, ◌≤◌, ◌+◌, ◌↔◌, ℕ, List, Bool, true, false, not, IsTrue, Some, None}
use Rattle.std.proofs.Common.{length, get_or, refl, sym, subst, arith}
use Rattle.std.proofs.lemmas.Option.{slice_get_within}
use Rattle.jn_base.specs.declared.tree.Name.{Name}
use Rattle.jn_base.specs.declared.tree.Program.{Program}
use Rattle.jn_base.specs.declared.path.Path.{Path as ShownPath}
use Rattle.jn_base.specs.Paths.{Path}
use Rattle.jn_base.specs.Supers.{Sup}
use Rattle.jn_base.specs.Members.{MethodAt, Least}
use Rattle.jn_base.specs.ProgramNames.{IsNamed}
use Rattle.jn_base.specs.TableRules.{DeclarationsPass}
use Rattle.jn_base.proofs.Unique.{one_method_at}
use Rattle.jn_table.specs.declared.class.ClassId.{ClassId}
use Rattle.jn_table.specs.declared.table.Table.{Table}
use Rattle.jn_table.specs.Rows.{IsNumber, HasMethod as RowHasMethod}
use Rattle.jn_names.specs.declared.members.Members.{Members}
use Rattle.jn_names.specs.declared.members.Least.TheVariants as least
use Rattle.jn_names.specs.Members.{IsMembersOf, LeastIs, SaysDeclaring}
use Rattle.jn_sem.specs.Does.{Body, IsBody}
use Rattle.jn_rules.specs.Questions.{Answers}
use Rattle.jn_rules.specs.Members.{BadMethod, no_least, other_signature, SameSignature}
use Rattle.jn_rule_laws.proofs.RepliesOne.{body_once}
use Rattle.jn_header.specs.declared.bodies.BodyHead.{BodyHead}
use Rattle.jn_header.specs.Bodies.{body_at, head_signature, IsHeadOf, HeadIs, LeastHeadIs}
use Rattle.jn_header.specs.Methods.{IsOtherAt, IsOtherIn, IsOtherSuper}
use Rattle.jn_header.proofs.Finding.{same_signatures, signatures_same}
use Rattle.jn_header.proofs.Numbers.{in_list, EachTo, each_more, number_of}

same_body : (b c : Body) → b.class ≡ c.class → b.method ≡ c.method → b ≡ c
same_body b c e f i = record { class = e i; method = f i }

-- ---- one declaration

pub none_other : (p : Program) (b : Body) (m : Name) (S : Path) → HeadIs p S m None → IsOtherAt p b m S → ⊥
none_other p b m S h o = h o.body.method o.at

module _ (p : Program) (ok : DeclarationsPass p) (named : IsNamed p) (b : Body) (m : Name) (S : Path) (own x : BodyHead)
    (is : IsHeadOf p b own) (h : HeadIs p S m (Some x)) where
  its : (o : IsOtherAt p b m S) → o.body ≡ body_at S h.0
  its o = same_body o.body (body_at S h.0) o.class (one_method_at p ok.once S m o.body.method h.0 o.at h.1)

  pub other_told : (r : Bool) → IsTrue r ↔ (head_signature own ≡ head_signature x) → Answers (IsOtherAt p b m S) (not r)
  other_told true f =
      λ o. o.other (subst (λ (c : Body). SameSignature p b c) (sym (its o))
      (signatures_same p ok named b (body_at S h.0) own x is h.2 (f.0 refl)))
  other_told false f = record {
    body = body_at S h.0;
    class = refl;
    at = h.1;
    other = λ s. clash (f.1 (same_signatures p ok named b (body_at S h.0) own x is h.2 s));
  } where
    clash : IsTrue false → ⊥
    clash e = cc e

-- ---- all supers

pub other_in : (p : Program) (b : Body) (m : Name) (R S : Path) → Sup p R S → IsOtherAt p b m S → IsOtherIn p b m R
other_in p b m R S s o = record {
  body = o.body;
  is =
      record {
        super = subst (λ (Q : Path). Sup p R Q) (sym o.class) s;
        at = subst (λ (Q : Path). MethodAt p Q m o.body.method) (sym o.class) o.at;
      };
  other = o.other;
}

pub none_in : (p : Program) (b : Body) (m : Name) (R : Path) → ((S : Path) → Sup p R S → IsOtherAt p b m S → ⊥)
    → IsOtherIn p b m R → ⊥
none_in p b m R none o = none o.body.class o.is.super (record { body = o.body; class = refl; at = o.is.at; other = o.other })

-- ---- all that declare the method

-- of the first i of the numbers none is that of a super whose declaration has another body
abbrev pub NoOtherTo : Program → List ShownPath → Body → Name → Path → List ClassId → ℕ → Type 0
NoOtherTo p known b m R ids i = EachTo (λ (S : Path). Sup p R S → IsOtherAt p b m S → ⊥) known ids i

pub no_other_more : (p : Program) (known : List ShownPath) (b : Body) (m : Name) (R : Path) (ids : List ClassId) (i : ℕ)
    (d : ClassId) → i < length ids → NoOtherTo p known b m R ids i
    → (IsOtherSuper p known b m R (get_or ids i d) → ⊥) → NoOtherTo p known b m R ids (i + 1)
no_other_more p known b m R ids i d l h none =
    each_more (λ (S : Path). Sup p R S → IsOtherAt p b m S → ⊥) known ids i d l h (λ S n s o. none (S, n, s, o))

-- a super that has another body declares the method, so its number is among these
pub no_other_declared : (p : Program) (t : Table) (ms : Members) → IsMembersOf p t ms → (b : Body) (m : Name) (R : Path)
    (ids : List ClassId) → SaysDeclaring ms m ids → (id : ClassId) → IsNumber t.known.items id R
    → (i : ℕ) → length ids ≤ i → NoOtherTo p t.known.items b m R ids i → IsOtherIn p b m R → ⊥
no_other_declared p t ms g b m R ids says id n i l h = none_in p b m R at_super where
  at_super : (S : Path) → Sup p R S → IsOtherAt p b m S → ⊥
  at_super S s o =
      let row = g.rows id R n in
      let its = number_of p t.known.items (Sup p R) row.row.sups.items row.is.sups S s in
      let place = in_list ids its.0 ((says p t its.0 S g its.1).1 (o.body.method, o.at)) in
      let within = slice_get_within ids place.0 its.0 place.1 in
      h place.0 its.0 S (omega (arith, within, l)) place.1 its.1 s o

-- ---- a name

module _ (p : Program) (known : List ShownPath) (R : Path) (m : Name) where
  pub none_bad : LeastIs p known R m least.None → BadMethod p R m → ⊥
  none_bad h (no_least has n) = h has.0 has.1
  none_bad h (other_signature b c i k n) = h b.class i.least.among

  pub many_bad : (a c : ClassId) → LeastIs p known R m (least.Many a c) → BadMethod p R m
  many_bad a c h = no_least (h.0.one, h.0.one_first.holds.declares) h.1

pub has_least : (p : Program) (R Q : Path) (m : Name) → Least p R m Q → LeastHeadIs p R m None → ⊥
has_least p R Q m l none = none (body_at Q l.among.method) (record { least = l; at = l.among.at })

module _ (p : Program) (ok : DeclarationsPass p) (named : IsNamed p) (R : Path) (m : Name) (b : Body) (is : IsBody p R m b) where
  to_bad : IsOtherIn p b m R → BadMethod p R m
  to_bad o = other_signature b o.body is o.is o.other

  from_bad : BadMethod p R m → IsOtherIn p b m R
  from_bad (no_least has n) = absurd (n b.class is.least)
  from_bad (other_signature c d i k n) =
      record { body = d; is = k; other = subst (λ (e : Body). SameSignature p e d → ⊥) (body_once p ok named R m c b i is) n }

  pub bad_told : (r : Bool) → Answers (IsOtherIn p b m R) r → Answers (BadMethod p R m) r
  bad_told true h = to_bad h
  bad_told false h = λ d. h (from_bad d)

pub bad_has : (p : Program) (R : Path) (m : Name) → BadMethod p R m → RowHasMethod p R m
bad_has p R m (no_least has n) = has
bad_has p R m (other_signature b c i k n) = (b.class, i.least.among)
