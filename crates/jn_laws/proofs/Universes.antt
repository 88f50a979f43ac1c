-- The universe and what belongs to a class, listed.
use Rattle.std.proofs.Common.{◌≡◌, suc, List, [], ◌∷◌, ◌++◌, length, refl, sym, subst, arith}
use Rattle.jn_base.specs.declared.tree.Name.{Name}
use Rattle.jn_base.specs.declared.tree.Program.{Program}
use Rattle.jn_base.specs.Paths.{Path}
use Rattle.jn_base.specs.Supers.{Sup, Member}
use Rattle.jn_base.specs.Universe.{IsNamespace, InUniverse}
use Rattle.jn_base.specs.ClassOrder.{class_cmp, class_total, name_cmp, name_total, IsFirst}
use Rattle.jn_base.specs.Atoms.{Among, first, later}
use Rattle.jn_base.proofs.SuperLaws.{sup_level}
use Rattle.jn_base.proofs.Reaching.{sup_in_universe}
use Rattle.jn_sem.specs.Values.{HasField}
use Rattle.jn_sem.specs.Sharing.{IsClass, Related}
use Rattle.jn_sem.specs.Slots.{Slot, IsSlot, SlotOfGroup, OneSlot}
use Rattle.jn_sem.proofs.FindingLaws.{among_of, contains_of}
use Rattle.jn_sem.proofs.SlotLaws.{slot_laws}
use Rattle.jn_sem.specs.Holds.{IsFirstName}
use Rattle.jn_laws.specs.Surely.{Surely}
use Rattle.jn_laws.specs.LawsOfUniverse.{HasMethod, UniverseListed, FirstsThere, SlotsThere, SizesThere}
use Rattle.jn_laws.proofs.Sures.{map_surely}
use Rattle.jn_laws.proofs.Lists.{listed, Chosen, chosen, among_left, among_right}
use Rattle.jn_laws.proofs.Words.{words, all_words}
use Rattle.jn_laws.proofs.Firsts.{first_by}
use Rattle.jn_laws.proofs.Declarations.{total, decl_names, field_names, method_names, declared_short, declared_name, field_named, method_named}

-- all words of declared names, no longer than there are declarations
pub candidates : Program → List Path
candidates p = words (decl_names p) (total p)

namespace_named : (p : Program) (R : Path) → IsNamespace p R → (C : Name) → Among R C → Among (decl_names p) C
namespace_named p [] u C m = elim m [ ]
namespace_named p (D ∷ P) u _ first = declared_name p D u.1.at u.1.declared
namespace_named p (D ∷ P) u C (later m) = namespace_named p P u.0 C m

pub namespace_candidate : (p : Program) (R : Path) → IsNamespace p R → Among (candidates p) R
unfolding candidates
namespace_candidate p [] u = all_words (decl_names p) (total p) [] (omega arith) (λ x m. elim m [ ])
namespace_candidate p (C ∷ P) u =
    all_words (decl_names p) (total p) (C ∷ P)
    (omega (arith, declared_short p (C ∷ u.1.at) u.1.declared, sup_level u.1.super)) (namespace_named p (C ∷ P) u)

pub universe_candidate : (p : Program) (R : Path) → InUniverse p R → Among (candidates p) R
universe_candidate p [] u = absurd u
universe_candidate p (C ∷ P) u = namespace_candidate p (C ∷ P) u

pub has_field_name : (p : Program) (R : Path) (f : Name) → HasField p R f → Among (field_names p) f
has_field_name p R f h = field_named p h.at f h.declares.field h.declares.at

has_method_name : (p : Program) (R : Path) (m : Name) → HasMethod p R m → Among (method_names p) m
has_method_name p R m h = method_named p h.0 m h.1.method h.1.at

-- ---- slots

-- a field with each of these classes
slots_at : List Path → Name → List Slot
slots_at [] f = []
slots_at (R ∷ Rs) f = record { class = R; field = f } ∷ slots_at Rs f

all_slots : List Path → List Name → List Slot
all_slots Rs [] = []
all_slots Rs (f ∷ fs) = slots_at Rs f ++ all_slots Rs fs

slot_at_there : (Rs : List Path) (R : Path) (f : Name) → Among Rs R → Among (slots_at Rs f) (record { class = R; field = f })
unfolding slots_at
slot_at_there _ R f first = first
slot_at_there _ R f (later m) = later (slot_at_there _ R f m)

slot_there : (Rs : List Path) (fs : List Name) (R : Path) (f : Name) → Among Rs R → Among fs f → Among (all_slots Rs fs) (record { class = R; field = f })
unfolding all_slots
slot_there Rs _ R f m (first {xs = fs}) = among_left (slots_at Rs f) (all_slots Rs fs) (slot_at_there Rs R f m)
slot_there Rs _ R f m (later {y = y} {xs = fs} n) = among_right (slots_at Rs y) (all_slots Rs fs) (slot_there Rs fs R f m n)

slot_candidates : Program → List Slot
slot_candidates p = all_slots (candidates p) (field_names p)

slot_candidate : (p : Program) (V : Path) (f : Name) (s : Slot) → IsSlot p V f s → Among (slot_candidates p) s
unfolding slot_candidates
slot_candidate p V f s i =
    slot_there (candidates p) (field_names p) s.class s.field (universe_candidate p s.class i.first.holds.both.related.one.universe)
    (subst (Among (field_names p)) (sym i.field) (has_field_name p s.class f i.first.holds.both.in_one))

-- ---- the laws

pub universe_listed : UniverseListed
universe_listed p = record {
  universe = listed (InUniverse p) (candidates p) (universe_candidate p);
  classes = listed (IsClass p) (candidates p) (λ R c. universe_candidate p R c.universe);
  supers = λ R u. listed (Sup p R) (candidates p) (λ S s. universe_candidate p S (sup_in_universe s u));
  members = λ R. listed (Member p R) (decl_names p) (λ C m. declared_name p C m.at m.declared);
  methods = λ R. listed (HasMethod p R) (method_names p) (has_method_name p R);
  fields = λ R. listed (HasField p R) (field_names p) (has_field_name p R);
  group = λ R. listed (Related p R) (candidates p) (λ S r. universe_candidate p S r.other.universe);
  slots = λ R. listed (SlotOfGroup p R) (slot_candidates p) (λ s g. slot_candidate p g.view g.field s g.slot);
}

pub firsts_there : FirstsThere
firsts_there p = record {
  path = λ R Rs. let r = first_by (class_cmp p) (class_total p) R Rs in
      (r.0, record { among = contains_of (R ∷ Rs) r.0 r.1.among; first = λ S c. r.1.none S (among_of (R ∷ Rs) S c) });
  name = λ m ms. let r = first_by (name_cmp p) (name_total p) m ms in
      (r.0, record { among = contains_of (m ∷ ms) r.0 r.1.among; first = λ n c. r.1.none n (among_of (m ∷ ms) n c) });
}

-- of what is so for a path of the universe there surely is a first one
pub first_path : (p : Program) (T : Path → Type 0) → ((R : Path) → T R → InUniverse p R) → (R : Path) → T R → Surely ((Q : Path) × IsFirst p T Q)
first_path p T in_it R t = map_surely (chosen T (candidates p)) (λ c. at c c.items refl (c.all R (universe_candidate p R (in_it R t)) t)) where
  at : (c : Chosen T (candidates p)) (Rs : List Path) → c.items ≡ Rs → Among Rs R → (Q : Path) × IsFirst p T Q
  at c [] e m = elim m [ ]
  at c (S ∷ Rs) e m =
      let r = first_by (class_cmp p) (class_total p) S Rs in (
        r.0,
        record {
          holds = c.holds r.0 (subst (λ (Xs : List Path). Among Xs r.0) (sym e) r.1.among);
          first = λ Q q b. r.1.none Q (subst (λ (Xs : List Path). Among Xs Q) e (c.all Q (universe_candidate p Q (in_it Q q)) q)) b;
        },
      )

-- and for a name of a list
pub first_name : (p : Program) (T : Name → Type 0) (ns : List Name) → ((n : Name) → T n → Among ns n) → (n : Name) → T n → Surely ((f : Name) × IsFirstName p T f)
first_name p T ns in_it n t = map_surely (chosen T ns) (λ c. at c c.items refl (c.all n (in_it n t) t)) where
  at : (c : Chosen T ns) (ms : List Name) → c.items ≡ ms → Among ms n → (f : Name) × IsFirstName p T f
  at c [] e m = elim m [ ]
  at c (k ∷ ms) e m =
      let r = first_by (name_cmp p) (name_total p) k ms in (
        r.0,
        record {
          holds = c.holds r.0 (subst (λ (xs : List Name). Among xs r.0) (sym e) r.1.among);
          first = λ g q b. r.1.none g (subst (λ (xs : List Name). Among xs g) e (c.all g (in_it g q) q)) b;
        },
      )

pub slots_there : SlotsThere
slots_there p ok V f c h =
    map_surely (first_path p (λ W. OneSlot p W V f) (λ W o. o.both.related.one.universe) V ((slot_laws p ok f).itself V c h))
    (λ r. (record { class = r.0; field = f }, record { field = refl; first = r.1 }))

pub sizes_there : SizesThere
sizes_there p V c =
    map_surely ((universe_listed p).slots V)
    (λ l. (suc (length l.items), record { class = c; slots = l.items; exact = l.exact; once = l.once; is = refl }))
