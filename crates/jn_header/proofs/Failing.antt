-- The first class where a constraint fails, and its first such method.
use Rattle.std.proofs.Common.{◌≡◌, ◌<◌, ℕ, List, length, slice_get, Bool, true, false, Option, Some, None, ap, ◌∙◌, subst}
use Rattle.jn_base.specs.declared.tree.Name.{Name}
use Rattle.jn_base.specs.declared.tree.Place.{Place}
use Rattle.jn_base.specs.declared.tree.Kind.TheVariants as kind
use Rattle.jn_base.specs.declared.tree.Program.{Program}
use Rattle.jn_base.specs.declared.refusal.Refusal.{Refusal}
use Rattle.jn_base.specs.declared.refusal.Rule.TheVariants as rule
use Rattle.jn_base.specs.Paths.{Path, shown}
use Rattle.jn_base.specs.ProgramNames.{IsNamed}
use Rattle.jn_base.specs.TableRules.{DeclarationsPass}
use Rattle.jn_table.specs.declared.class.ClassId.{ClassId}
use Rattle.jn_table.specs.declared.class.Row.{Row}
use Rattle.jn_table.specs.declared.table.Table.{Table}
use Rattle.jn_table.specs.Rows.{IsNumber, HasMethod}
use Rattle.jn_table.specs.Tables.{IsFilled, SaysRow}
use Rattle.jn_sem.specs.Sharing.{IsClass}
use Rattle.jn_sem.specs.Does.{Body}
use Rattle.jn_rules.specs.Questions.{Answers}
use Rattle.jn_rules.specs.Members.{of_member, NoName, FailsFor, FailsAt}
use Rattle.jn_rule_laws.proofs.RepliesOne.{body_once}
use Rattle.jn_header.specs.declared.bodies.BodyHead.{BodyHead}
use Rattle.jn_header.specs.Bodies.{LeastHeadIs}
use Rattle.jn_header.specs.Members.{FirstBad, FirstOf}
use Rattle.jn_header.specs.Classes.{of_fault, IsPlaceOf}
use Rattle.jn_header.specs.Constraints.{SomeFails, IsFirstFailing}
use Rattle.jn_header.proofs.ClassFaults.{place_is}
use Rattle.jn_header.proofs.Numbers.{NoneAt, first_of_table, number_there}

-- ---- a method

pub none_fails : (p : Program) (R : Path) (m : Name) → LeastHeadIs p R m None → FailsFor p R m → ⊥
none_fails p R m none (b, s) = none b s.body

module _ (p : Program) (ok : DeclarationsPass p) (named : IsNamed p) (R : Path) (class : IsClass p R) (m : Name) (x : BodyHead) (h : LeastHeadIs p R m (Some x)) where
  pub fails_told : (r : Bool) → Answers (SomeFails p R h.0 h.0.method.sharing) r → Answers (FailsFor p R m) r
  fails_told true f = (h.0, record { class = class; body = h.1; constraint = f.constraint; among = f.among; pledge = f.pledge; is = f.is; fails = f.fails })
  fails_told false n = λ w. n (subst (λ (b : Body). SomeFails p R b b.method.sharing) (body_once p ok named R m w.0 h.0 w.1.body h.1)
      (record { constraint = w.1.constraint; among = w.1.among; pledge = w.1.pledge; is = w.1.is; fails = w.1.fails }))

pub has_method : (p : Program) (R : Path) (m : Name) → FailsFor p R m → HasMethod p R m
has_method p R m (b, s) = (b.class, s.body.least.among)

-- ---- a class

pub package_passes : (p : Program) (t : Table) → IsFilled p t → (id : ClassId) (row : Row) → SaysRow t id row → (R : Path) → IsNumber t.known.items id R → row.kind ≡ kind.Package
    → NoName (FailsFor p R)
package_passes p t filled id row says R n e m (b, s) = clash (((says p R filled.table n).kind kind.Class).0 s.class.kind ∙ e) where
  clash : kind.Class ≡ kind.Package → ⊥
  clash k = cc k

pub none_at_all : (p : Program) (R : Path) → NoName (FailsFor p R) → FailsAt p R → ⊥
none_at_all p R none (m, f) = none m f

-- ---- the first class

module _ (p : Program) (t : Table) (ok : DeclarationsPass p) (filled : IsFilled p t) (i : ℕ) (none : NoneAt (FailsAt p) t.known.items i) where
  pub failing_first : i < length t.known.items → (o : Option Name) (m : Name) → o ≡ Some m → ((R : Path) → slice_get t.known.items i ≡ Some (shown R) → FirstBad p (FailsFor p R) o)
      → (at : Place) → ((R : Path) → slice_get t.known.items i ≡ Some (shown R) → IsPlaceOf p R m at)
      → (r : Refusal) → ((R : Path) → slice_get t.known.items i ≡ Some (shown R) → r ≡ of_fault R (record { rule = rule.E21; at = at; member = m })) → IsFirstFailing p r
  failing_first l o m e told at place r is =
      let w = number_there p t filled i l in
      let h : FirstBad p (FailsFor p w.0) (Some m) = subst (λ (x : Option Name). FirstBad p (FailsFor p w.0) x) e (told w.0 w.1) in
      let s = h.holds.1 in
      record {
        R = w.0;
        method = m;
        body = h.holds.0;
        first = first_of_table p t filled (FailsAt p) (λ R f. f.1.1.class.universe) i w.0 w.1 none (m, h.holds);
        first_method = h;
        fails = s;
        is = is w.0 w.1 ∙ ap (λ (a : Place). of_member rule.E21 w.0 a m) (place_is p ok filled.table.named w.0 m at (place w.0 w.1) h.holds.0 s.body);
      }

-- ---- the same class

pub failing_as : (p : Program) (C R : Path) (names others : List Name) (o : Option Name) → C ≡ R → names ≡ others → FirstOf (FailsFor p C) names o → FirstOf (FailsFor p R) others o
failing_as p C R names others o e f h = subst (λ (S : Path). FirstOf (FailsFor p S) others o) e (subst (λ (ns : List Name). FirstOf (FailsFor p C) ns o) f h)
