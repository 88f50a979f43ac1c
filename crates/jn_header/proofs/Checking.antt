-- What is refused of a program's declarations, from what the passes found.
use Rattle.std.proofs.Common.{◌≡◌, ◌∙◌, ℕ, List, [], ◌∷◌, reverse, refl, sym, ap, subst, Option, Some, None, Result, Ok, Err, IsSome}
use Rattle.std.proofs.lemmas.List.{reverse-reverse}
use Rattle.jn_base.specs.declared.tree.Place.{Place}
use Rattle.jn_base.specs.declared.tree.Program.{Program}
use Rattle.jn_base.specs.declared.path.Path.{Path as ShownPath}
use Rattle.jn_base.specs.declared.refusal.Refusal.{Refusal}
use Rattle.jn_base.specs.declared.refusal.Rule.TheVariants as rule
use Rattle.jn_base.specs.Paths.{Path, shown}
use Rattle.jn_base.specs.Universe.{InUniverse}
use Rattle.jn_base.specs.ClassOrder.{IsFirst}
use Rattle.jn_base.specs.Duplicates.{duplicates, IsFirstDuplicate}
use Rattle.jn_base.specs.TableRules.{IsOver, IsCycle, IsMixed, NoneIs, TablePasses, TableRefuses, DeclarationsRefuse}
use Rattle.jn_base.proofs.Homes.{home_of}
use Rattle.jn_base.proofs.TableLaws.{declarations_refused_or_passed, one_declarations_refusal}
use Rattle.jn_base.specs.ProgramNames.{IsNamed}
use Rattle.jn_table.specs.Answers.{UniversePasses, UniverseRefused}
use Rattle.jn_table.specs.declared.fault.TableFault.{TableFault}
use Rattle.jn_table.specs.declared.fault.TableFault.TheVariants as fault
use Rattle.jn_header.specs.First.{first}
use Rattle.jn_homes.specs.Homes.{HomeIs}
use Rattle.jn_header.specs.Unknown.{IsFirstUnknown, FirstUnknownIs}
use Rattle.jn_rules.specs.Plans.{Nothing}
use Rattle.jn_heads.specs.Told.{Told, itself}
use Rattle.jn_header.specs.Check.{IsAtHome, NamesVerdict, TableVerdict, IsTableFault}
use Rattle.jn_heads.specs.declared.fault.CheckFault.{CheckFault}
use Rattle.jn_heads.specs.declared.fault.CheckFault.TheVariants.{Refused, Memory}

-- ---- names that stand twice

first_is : (rs : List Refusal) (r : Refusal) → Some r ≡ first rs → (others : List Refusal) × (rs ≡ r ∷ others)
first_is [] r e = absurd (cc e)
first_is (s ∷ rs) r e = let same : r ≡ s = cc e in (rs, ap (λ (x : Refusal). x ∷ rs) (sym same))

pub refused_twice : (p : Program) (r : Refusal) (o : Option Refusal) → o ≡ Some r → o ≡ first (duplicates p) → IsFirstDuplicate p r
refused_twice p r o is e = let f = first_is (duplicates p) r (sym is ∙ e) in record { others = f.0; is = f.1 }

none_is : (rs : List Refusal) → None ≡ first rs → rs ≡ []
none_is [] e = refl
none_is (s ∷ rs) e = absurd (cc e)

pub nothing_twice : (p : Program) (o : Option Refusal) → o ≡ None → o ≡ first (duplicates p) → duplicates p ≡ []
nothing_twice p o is e = none_is (duplicates p) (sym is ∙ e)

-- ---- homes

pub home_there : (p : Program) (R : Path) → InUniverse p R → (o : Option Place) → HomeIs p R o → IsSome o
home_there p R u (Some at) is = refl
home_there p R u None none = let h = home_of p R u in absurd (none h.at h.home)

-- ---- a refused universe

back : (path : ShownPath) (R : Path) → shown R ≡ path → R ≡ reverse path.names
back path R e = sym (reverse-reverse R) ∙ ap (λ (q : ShownPath). reverse q.names) e

pub over : (p : Program) (f : TableFault) (path : ShownPath) → UniverseRefused p f → f ≡ fault.TooMany path → IsOver p (reverse path.names)
over p _ path (UniverseRefused.too_many {R = R} o) e = let same : shown R ≡ path = cc e in subst (λ (Q : Path). IsOver p Q) (back path R same) o
over p _ path (UniverseRefused.cycle n f) e = absurd (cc e)
over p _ path (UniverseRefused.two_kinds n m f) e = absurd (cc e)
over p _ path UniverseRefused.memory e = absurd (cc e)

pub cyclic : (p : Program) (f : TableFault) (path : ShownPath) → UniverseRefused p f → f ≡ fault.Cycle path
    → NoneIs (IsOver p) × IsFirst p (IsCycle p) (reverse path.names)
cyclic p _ path (UniverseRefused.too_many o) e = absurd (cc e)
cyclic p _ path (UniverseRefused.cycle {R = R} n f) e = let same : shown R ≡ path = cc e in (n, subst (λ (Q : Path). IsFirst p (IsCycle p) Q) (back path R same) f)
cyclic p _ path (UniverseRefused.two_kinds n m f) e = absurd (cc e)
cyclic p _ path UniverseRefused.memory e = absurd (cc e)

pub mixed : (p : Program) (f : TableFault) (path : ShownPath) → UniverseRefused p f → f ≡ fault.Kind path
    → NoneIs (IsOver p) × NoneIs (IsCycle p) × IsFirst p (IsMixed p) (reverse path.names)
mixed p _ path (UniverseRefused.too_many o) e = absurd (cc e)
mixed p _ path (UniverseRefused.cycle n f) e = absurd (cc e)
mixed p _ path (UniverseRefused.two_kinds {R = R} n m f) e = let same : shown R ≡ path = cc e in (n, m, subst (λ (Q : Path). IsFirst p (IsMixed p) Q) (back path R same) f)
mixed p _ path UniverseRefused.memory e = absurd (cc e)

pub no_class : (p : Program) (f : TableFault) (i : ℕ) → UniverseRefused p f → f ≡ fault.NoClass i → ⊥
no_class p _ i (UniverseRefused.too_many o) e = cc e
no_class p _ i (UniverseRefused.cycle n f) e = cc e
no_class p _ i (UniverseRefused.two_kinds n m f) e = cc e
no_class p _ i UniverseRefused.memory e = cc e

module _ (p : Program) (once : duplicates p ≡ []) (f : TableFault) (path : ShownPath) (is : UniverseRefused p f) where
  pub over_in : f ≡ fault.TooMany path → InUniverse p (reverse path.names)
  over_in e = (over p f path is e).universe

  pub cyclic_in : f ≡ fault.Cycle path → InUniverse p (reverse path.names)
  cyclic_in e = (cyclic p f path is e).1.holds.0

  pub mixed_in : f ≡ fault.Kind path → InUniverse p (reverse path.names)
  mixed_in e = (mixed p f path is e).2.holds.0

  pub refused_over : f ≡ fault.TooMany path → (r : Refusal) → IsAtHome p rule.E13 (reverse path.names) r → TableRefuses p r
  refused_over e r h = TableRefuses.too_many (reverse path.names) h.at (over p f path is e) h.home h.is

  pub refused_cyclic : f ≡ fault.Cycle path → (r : Refusal) → IsAtHome p rule.E08 (reverse path.names) r → TableRefuses p r
  refused_cyclic e r h = let c = cyclic p f path is e in TableRefuses.cycle (reverse path.names) h.at c.0 c.1 h.home h.is

  pub refused_mixed : f ≡ fault.Kind path → (r : Refusal) → IsAtHome p rule.E07 (reverse path.names) r → TableRefuses p r
  refused_mixed e r h = let m = mixed p f path is e in TableRefuses.two_kinds (reverse path.names) h.at m.0 m.1 m.2 h.home h.is

-- ---- names that are extended

pub refused_unknown : (p : Program) → UniversePasses p → (o : Option Refusal) (r : Refusal) → o ≡ Some r → FirstUnknownIs p o → TableRefuses p r
refused_unknown p u o r e is =
    let f : IsFirstUnknown p r = subst (λ (x : Option Refusal). FirstUnknownIs p x) e is in
    TableRefuses.unknown f.R f.named u.within u.no_cycle u.one_kind f.first f.extends f.is

pub all_passed : (p : Program) → UniversePasses p → (o : Option Refusal) → o ≡ None → FirstUnknownIs p o → TablePasses p
all_passed p u o e is = record { within = u.within; no_cycle = u.no_cycle; one_kind = u.one_kind; all_known = subst (λ (x : Option Refusal). FirstUnknownIs p x) e is }

-- ---- the steps, each with its verdict

clash : {r : Refusal} {rs : List Refusal} → r ∷ rs ≡ [] → ⊥
clash e = cc e

same_first : {r s : Refusal} {rs ss : List Refusal} → r ∷ rs ≡ s ∷ ss → r ≡ s
same_first e = cc e

refusing : {r s : Refusal} → r ≡ s → (let o : Result Nothing Refusal = Err r in o ≡ Err s)
refusing e = ap (λ (x : Refusal). let o : Result Nothing Refusal = Err x in o) e

names_once : (p : Program) (a b : Result Nothing Refusal) → NamesVerdict p a → NamesVerdict p b → a ≡ b
names_once p (Ok u) (Ok v) g h = refl
names_once p (Ok u) (Err r) g h = absurd (clash (sym h.is ∙ g))
names_once p (Err r) (Ok u) g h = absurd (clash (sym g.is ∙ h))
names_once p (Err r) (Err s) g h = refusing (same_first (sym g.is ∙ h.is))

table_once : (p : Program) → IsNamed p → duplicates p ≡ [] → (a b : Result Nothing Refusal) → TableVerdict p a → TableVerdict p b → a ≡ b
table_once p named once (Ok u) (Ok v) g h = refl
table_once p named once (Ok u) (Err r) g h = absurd (declarations_refused_or_passed p r (DeclarationsRefuse.table once h) (record { once = once; table = g }))
table_once p named once (Err r) (Ok u) g h = absurd (declarations_refused_or_passed p r (DeclarationsRefuse.table once g) (record { once = once; table = h }))
table_once p named once (Err r) (Err s) g h =
    refusing (one_declarations_refusal p named.distinct named.paths r s (DeclarationsRefuse.table once g) (DeclarationsRefuse.table once h))

-- what is told is the only verdict
only_this : (T : Result Nothing Refusal → Type 0) → ((a b : Result Nothing Refusal) → T a → T b → a ≡ b) → (r : Result Nothing CheckFault) → Told T itself r
    → (o : Result Nothing Refusal) → T o → Told (λ (a : Result Nothing Refusal). a ≡ o) itself r
only_this T one (Ok u) g o h = one (Ok u) o g h
only_this T one (Err (Refused r)) g o h = one (Err r) o g h
only_this T one (Err Memory) g o h = tt

pub only_names : (p : Program) (r : Result Nothing CheckFault) → Told (NamesVerdict p) itself r → (o : Result Nothing Refusal) → NamesVerdict p o
    → Told (λ (a : Result Nothing Refusal). a ≡ o) itself r
only_names p r = only_this (NamesVerdict p) (names_once p) r

pub only_table : (p : Program) → IsNamed p → duplicates p ≡ [] → (r : Result Nothing CheckFault) → Told (TableVerdict p) itself r → (o : Result Nothing Refusal) → TableVerdict p o
    → Told (λ (a : Result Nothing Refusal). a ≡ o) itself r
only_table p named once r = only_this (TableVerdict p) (table_once p named once) r

pub table_told : (p : Program) (f : CheckFault) → IsTableFault p f → Told {B = Nothing} (TableVerdict p) itself (Err f)
table_told p (Refused r) g = g
table_told p Memory g = tt
