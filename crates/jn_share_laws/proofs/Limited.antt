-- The entries and slots that are counted are those of the verdict.
use Rattle.std.proofs.Common.{◌≡◌, ℕ, zero, suc, List, [], ◌∷◌, map, length, Contains, Some, slice_get, refl, sym, ap, ◌∙◌, subst, arith}
use Rattle.jn_base.specs.declared.tree.Program.{Program}
use Rattle.jn_base.specs.declared.refusal.Refusal.{Refusal}
use Rattle.jn_base.specs.Paths.{Path}
use Rattle.jn_base.proofs.FoundTwice.{unmapped}
use Rattle.jn_sem.specs.Slots.{Slot, SlotOfGroup}
use Rattle.jn_rules.specs.Members as rules
use Rattle.jn_rules.specs.Verdict as verdict
use Rattle.jn_rules.specs.Verdict.{MembersPass, HeadersRefuse}
use Rattle.jn_share.specs.Limits as share
use Rattle.jn_share.specs.Limits.{LimitRefused, LimitsPass, entries, slots}
use Rattle.jn_share_laws.specs.LawsOfShare.{LimitsAgree}

-- ---- lists of different things

long : {A B : Type 0} (f : A → B) (xs : List A) → length (map f xs) ≡ length xs
long f [] = refl
long f (x ∷ xs) = ap (λ n. suc n) (long f xs)

back_at : {A B : Type 0} (f : A → B) (g : B → A) → ((a : A) → g (f a) ≡ a) → (xs : List A) (i : ℕ) (b : B) → slice_get (map f xs) i ≡ Some b → slice_get xs i ≡ Some (g b)
back_at f g e [] i b h = absurd (cc h)
back_at f g e (x ∷ xs) zero b h = let s : f x ≡ b = cc h in ap (λ y. Some y) (sym (e x) ∙ ap g s)
back_at f g e (x ∷ xs) (suc i) b h = back_at f g e xs i b h

module _ {A B : Type 0} (f : A → B) (g : B → A) (e : (a : A) → g (f a) ≡ a) (P : A → Type 0) (Q : B → Type 0) (h : (a : A) → P a → Q (f a)) (n : ℕ) where
  each_mapped : (xs : List A) → ((a : A) → Contains xs a → P a) → (b : B) → Contains (map f xs) b → Q b
  each_mapped xs k b c = let u = unmapped f xs b c in subst Q (sym u.is) (h u.x (k u.x u.among))

  pub more_rules : share.MoreThan n P → rules.MoreThan n Q
  more_rules m = record {
    list = map f m.list;
    each = each_mapped m.list m.each;
    once = λ i j b x y. m.once i j (g b) (back_at f g e m.list i b x) (back_at f g e m.list j b y);
    more = let l = m.more in omega (arith, l, long f m.list);
  }

  pub more_share : rules.MoreThan n P → share.MoreThan n Q
  more_share m = record {
    list = map f m.list;
    each = each_mapped m.list m.each;
    once = λ i j b x y. m.once i j (g b) (back_at f g e m.list i b x) (back_at f g e m.list j b y);
    more = let l = m.more in omega (arith, l, long f m.list);
  }

-- ---- entries

abbrev to : share.Entry → rules.Entry
to (share.of_member R C) = rules.of_member_name R C
to (share.of_method R m) = rules.of_method_name R m
to (share.of_field R f) = rules.of_field_name R f
to (share.of_counterpart R S) = rules.of_counterpart R S

abbrev from : rules.Entry → share.Entry
from (rules.of_member_name R C) = share.of_member R C
from (rules.of_method_name R m) = share.of_method R m
from (rules.of_field_name R f) = share.of_field R f
from (rules.of_counterpart R S) = share.of_counterpart R S

to_from : (e : rules.Entry) → to (from e) ≡ e
to_from (rules.of_member_name R C) = refl
to_from (rules.of_method_name R m) = refl
to_from (rules.of_field_name R f) = refl
to_from (rules.of_counterpart R S) = refl

from_to : (e : share.Entry) → from (to e) ≡ e
from_to (share.of_member R C) = refl
from_to (share.of_method R m) = refl
from_to (share.of_field R f) = refl
from_to (share.of_counterpart R S) = refl

entry_to : (p : Program) (e : share.Entry) → share.IsEntry p e → rules.IsEntry p (to e)
entry_to p _ (share.member R C u m) = rules.member R C u m
entry_to p _ (share.method R m u h) = rules.method R m u h
entry_to p _ (share.field R f u h) = rules.field R f u h
entry_to p _ (share.counterpart R S r n) = rules.counterpart R S r n

entry_from : (p : Program) (e : rules.Entry) → rules.IsEntry p e → share.IsEntry p (from e)
entry_from p _ (rules.member R C u m) = share.member R C u m
entry_from p _ (rules.method R m u h) = share.method R m u h
entry_from p _ (rules.field R f u h) = share.field R f u h
entry_from p _ (rules.counterpart R S r n) = share.counterpart R S r n

-- ---- what is passed

module _ (p : Program) where
  entries_to : share.TooManyEntries p → rules.TooManyEntries p
  entries_to m = more_rules to from from_to (share.IsEntry p) (rules.IsEntry p) (entry_to p) rules.MOST_ENTRIES m

  entries_from : rules.TooManyEntries p → share.TooManyEntries p
  entries_from m = more_share from to to_from (rules.IsEntry p) (share.IsEntry p) (entry_from p) rules.MOST_ENTRIES m

  slots_to : (V : Path) → share.TooManySlots p V → rules.TooManySlots p V
  slots_to V m = record {
    class = m.class;
    more = more_rules (λ (s : Slot). s) (λ (s : Slot). s) (λ s. refl) (SlotOfGroup p V) (SlotOfGroup p V) (λ s h. h) rules.MOST_SLOTS m.more;
  }

  slots_from : (V : Path) → rules.TooManySlots p V → share.TooManySlots p V
  slots_from V m = record {
    class = m.class;
    more = more_share (λ (s : Slot). s) (λ (s : Slot). s) (λ s. refl) (SlotOfGroup p V) (SlotOfGroup p V) (λ s h. h) rules.MOST_SLOTS m.more;
  }

  refused_by : MembersPass p → (r : Refusal) → LimitRefused p r → HeadersRefuse p r
  refused_by m r (entries n e) = verdict.entries m (entries_to n) e
  refused_by m r (slots R at n s h e) =
      verdict.slots R at m (λ k. n (entries_from k))
      (record { holds = slots_to R s.holds; first = λ Q k b. s.first Q (slots_from Q k) b }) h e

  pub limits_agree : MembersPass p → LimitsAgree p
  limits_agree m = record {
    passes = λ k. record { members = m; entries = λ n. k.entries (entries_from n); slots = λ R n. k.slots R (slots_from R n) };
    refused = refused_by m;
  }
