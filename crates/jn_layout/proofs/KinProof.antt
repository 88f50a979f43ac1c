-- Which classes are related, and the first ones of their groups.
use Rattle.std.proofs.Common.{◌≡◌, ◌<◌, ◌≤◌, ◌↔◌, ◌⊎◌, inl, inr, ℕ, zero, suc, List, [], ◌∷◌, ◌++◌, length, map, take, Contains, Option, Some, None, IfNone, slice_get, Bool, true, false, not, IsTrue, refl, sym, subst, ap, ◌∙◌, arith}
use Rattle.std.proofs.lemmas.List.{take_all}
use Rattle.std.proofs.lemmas.List.Elements.{Contains-push_cases}
use Rattle.jn_base.proofs.NameTests.{in_none}
use Rattle.jn_base.specs.declared.tree.Program.{Program}
use Rattle.jn_base.specs.declared.path.Path.{Path as ShownPath}
use Rattle.jn_base.specs.Paths.{Path, shown}
use Rattle.jn_base.specs.ClassOrder.{class_cmp, Before}
use Rattle.jn_table.specs.declared.table.Table.{Table}
use Rattle.jn_table.specs.Tables.{IsFilled}
use Rattle.jn_table.proofs.Shown.{numbers_before}
use Rattle.jn_table.proofs.Sorted.{in_order}
use Rattle.jn_sem.specs.Sharing.{IsClass, Related}
use Rattle.jn_sem.proofs.SharedLaws.{sharing_laws}
use Rattle.jn_share.specs.declared.groups.Groups.{Groups}
use Rattle.jn_share.specs.Groups.{AreGroups}
use Rattle.jn_share.specs.Members.{MembersAre}
use Rattle.jn_share.specs.Pairing.{IsAt}
use Rattle.jn_share.proofs.Grouped.{members_related}
use Rattle.jn_layout.specs.declared.kin.Kin.{Kin}
use Rattle.jn_layout.specs.Kin.{members_of, AreKin, HasEarlier, FirstAt, FirstOf}

-- each number stands for a path
there : (paths : List Path) (k : ℕ) → k < length (map shown paths) → (R : Path) × (slice_get (map shown paths) k ≡ Some (shown R))
there [] k l = absurd (omega arith)
there (P ∷ ps) zero l = (P, refl)
there (P ∷ ps) (suc k) l = there ps k (omega (arith, l))

pub path_there : (p : Program) (t : Table) → IsFilled p t → (k : ℕ) → k < length t.known.items → (R : Path) × IsAt t.known.items k R
path_there p t f k l =
    let e = f.table.rows.shown_are in
    let r = there f.table.rows.paths k (subst (λ (xs : List ShownPath). k < length xs) e l) in
    (r.0, ap (λ (xs : List ShownPath). slice_get xs k) e ∙ r.1)

-- ---- one that is earlier

pub earlier_found : (p : Program) (t : Table) → IsFilled p t → (numbers : List ℕ) (j k : ℕ) → Contains numbers j → j < length t.known.items
    → ((R : Path) → IsAt t.known.items j R → (j < k) × IsClass p R) → HasEarlier p t.known.items numbers k
earlier_found p t f numbers j k c l h =
    let r = path_there p t f j l in
    let x = h r.0 r.1 in
    record { number = j; among = c; lower = x.0; class = r.0; at = r.1; is_class = x.1 }

pub earlier_none : (p : Program) (known : List ShownPath) (k : ℕ) → HasEarlier p known [] k → ⊥
earlier_none p known k h = in_none h.number h.among

pub earlier_more : (p : Program) (known : List ShownPath) (seen now : List ℕ) (j k : ℕ) → now ≡ seen ++ j ∷ []
    → ((R : Path) → IsAt known j R → (j < k) × IsClass p R → ⊥) → (HasEarlier p known seen k → ⊥) → HasEarlier p known now k → ⊥
earlier_more p known seen now j k e none before h = by_place (Contains-push_cases seen j h.number (subst (λ (xs : List ℕ). Contains xs h.number) e h.among)) where
  by_place : Contains seen h.number ⊎ (j ≡ h.number) → ⊥
  by_place (inl c) = before (record { number = h.number; among = c; lower = h.lower; class = h.class; at = h.at; is_class = h.is_class })
  by_place (inr q) = none h.class (subst (λ (i : ℕ). IsAt known i h.class) (sym q) h.at) (subst (λ (i : ℕ). i < k) (sym q) h.lower, h.is_class)

pub earlier_all : (p : Program) (known : List ShownPath) (numbers : List ℕ) (i k : ℕ) → length numbers ≤ i → (HasEarlier p known (take i numbers) k → ⊥)
    → HasEarlier p known numbers k → ⊥
earlier_all p known numbers i k l n h = n (subst (λ (xs : List ℕ). HasEarlier p known xs k) (sym (take_all i numbers l)) h)

-- ---- first classes

module _ (p : Program) (t : Table) (g : Groups) (f : IsFilled p t) (groups : AreGroups p t.known.items g) (kin : Kin) (are : AreKin g kin) where
  before_at : (j k : ℕ) (Q R : Path) → IsAt t.known.items j Q → IsAt t.known.items k R → (j < k) ↔ Before p Q R
  before_at j k Q R a b =
      let r = f.table.rows in
      numbers_before p r.paths t.known.items r.shown_are (in_order (class_cmp p) r.paths r.in_order) (record { 0 = j }) (record { 0 = k }) Q R a b

  pub related_at : (k : ℕ) (V : Path) → IsAt t.known.items k V → IsClass p V → (among : List ℕ) → MembersAre (members_of kin) k among → (r : ℕ) (R : Path)
      → IsAt t.known.items r R → IsClass p R → Contains among r ↔ Related p R V
  related_at k V a c among m = members_related p t g groups (members_of kin) are k V a c among m

  -- a class none of whose group is earlier is the first
  pub first_at : (k : ℕ) (V : Path) → IsAt t.known.items k V → IsClass p V → (among : List ℕ) → MembersAre (members_of kin) k among
      → (HasEarlier p t.known.items among k → ⊥) → FirstAt p t.known.items k
  first_at k V a c among m none = record {
    class = V;
    at = a;
    first = record {
      holds = (sharing_laws p).itself V c;
      first = λ Q r b.
          let n = f.whole.whole Q r.other.universe in
          none (record {
            number = n.0.0;
            among = (related_at k V a c among m n.0.0 Q n.1 r.other).1 ((sharing_laws p).turned V Q r);
            lower = (before_at n.0.0 k Q V n.1 a).1 b;
            class = Q;
            at = n.1;
            is_class = r.other;
          });
    };
  }

  pub none_earlier : (k : ℕ) → FirstAt p t.known.items k → (among : List ℕ) → MembersAre (members_of kin) k among → HasEarlier p t.known.items among k → ⊥
  none_earlier k x among m h =
      let r = (related_at k x.class x.at x.first.holds.one among m h.number h.class h.at h.is_class).0 h.among in
      x.first.first h.class ((sharing_laws p).turned h.class x.class r) ((before_at h.number k h.class x.class h.at x.at).0 h.lower)

  -- the first of the group of V is that of each of its classes
  pub first_for : (k j : ℕ) (V : Path) → IsAt t.known.items k V → IsClass p V → (among : List ℕ) → MembersAre (members_of kin) k among → Contains among j
      → FirstAt p t.known.items j → FirstOf p t.known.items V j
  first_for k j V a c among m i x =
      let r = (related_at k V a c among m j x.class x.at x.first.holds.one).0 i in
      let back = (sharing_laws p).turned x.class V r in
      record { class = x.class; at = x.at; first = record { holds = back; first = λ Q q. x.first.first Q ((sharing_laws p).joined x.class V Q r q) } }

  -- each group has a first class
  none_first : (k : ℕ) (V : Path) → IsAt t.known.items k V → IsClass p V → (among : List ℕ) → MembersAre (members_of kin) k among
      → ((j : ℕ) → Contains among j → FirstAt p t.known.items j → ⊥) → (n j : ℕ) (W : Path) → j < n → IsAt t.known.items j W → Related p W V → ⊥
  none_first k V a c among m none zero j W l b r = absurd (omega (arith, l))
  none_first k V a c among m none (suc n) j W l b r =
      none j ((related_at k V a c among m j W b r.one).1 r) (record {
        class = W;
        at = b;
        first = record {
          holds = (sharing_laws p).itself W r.one;
          first = λ Q q d.
              let i = f.whole.whole Q q.other.universe in
              let low = (before_at i.0.0 j Q W i.1 b).1 d in
              none_first k V a c among m none n i.0.0 Q (omega (arith, low, l)) i.1 ((sharing_laws p).joined Q W V ((sharing_laws p).turned W Q q) r);
        };
      })

  pub some_first : (k : ℕ) (V : Path) → IsAt t.known.items k V → IsClass p V → (among : List ℕ) → MembersAre (members_of kin) k among
      → ((j : ℕ) → Contains among j → FirstAt p t.known.items j → ⊥) → ⊥
  some_first k V a c among m none = none_first k V a c among m none (suc k) k V (omega arith) a ((sharing_laws p).itself V c)

-- ---- none of them

pub none_of : (T : ℕ → Type 0) (seen now : List ℕ) (x : ℕ) → now ≡ seen ++ x ∷ [] → (T x → ⊥) → ((f : ℕ) → Contains seen f → T f → ⊥) → (f : ℕ) → Contains now f → T f → ⊥
none_of T seen now x e n before f c h = by_place (Contains-push_cases seen x f (subst (λ (xs : List ℕ). Contains xs f) e c)) where
  by_place : Contains seen f ⊎ (x ≡ f) → ⊥
  by_place (inl d) = before f d h
  by_place (inr q) = n (subst T (sym q) h)

pub none_then : {X : Type 0} (r : Option X) {P Q : Type 0} → IfNone r P → (P → Q) → IfNone r Q
none_then None h k = k h
none_then (Some x) h k = tt

-- an answer that is turned
pub turned_first : {b : Bool} {P Q : Type 0} → IsTrue b ↔ P → ((P → ⊥) → Q) → (Q → P → ⊥) → IsTrue (not b) ↔ Q
turned_first {b = true} i to from = (λ h. cc h, λ q. absurd (from q (i.0 refl)))
turned_first {b = false} i to from = (λ h. to (λ x. cc (i.1 x)), λ q. refl)
