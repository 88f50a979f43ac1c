-- The headers of a program, and a program, have one verdict.
use Rattle.std.proofs.Common.{◌≡◌, List, [], ◌∷◌, refl, sym, ap, ◌∙◌, subst}
use Rattle.std.specs.Prelude.{Result, Ok, Err}
use Rattle.jn_base.specs.declared.tree.Name.{Name}
use Rattle.jn_base.specs.declared.tree.Place.{Place}
use Rattle.jn_base.specs.declared.tree.Program.{Program}
use Rattle.jn_base.specs.declared.refusal.Refusal.{Refusal}
use Rattle.jn_base.specs.declared.refusal.Rule.TheVariants as rule
use Rattle.jn_base.specs.declared.refusal.Limit.TheVariants as limit
use Rattle.jn_base.specs.Paths.{Path}
use Rattle.jn_base.specs.Universe.{InUniverse}
use Rattle.jn_base.specs.Atoms.{Among}
use Rattle.jn_base.specs.ClassOrder.{IsFirst}
use Rattle.jn_base.specs.Members.{IsHome}
use Rattle.jn_base.specs.Duplicates.{duplicates, IsFirstDuplicate}
use Rattle.jn_base.specs.TableRules.{NoneIs, IsOver, IsCycle, IsMixed, HasUnknown, TableRefuses, too_many, cycle, two_kinds, unknown, TablePasses, DeclarationsPass, DeclarationsRefuse, twice as declared_twice, table as declared}
use Rattle.jn_base.proofs.TableLaws.{one_home, universe_named, refused_or_passed, one_declarations_refusal}
use Rattle.jn_base.proofs.Homes.{home_of}
use Rattle.jn_base.proofs.Reaching.{declared_in_universe}
use Rattle.jn_sem.specs.Holds.{IsFirstName}
use Rattle.jn_sem.specs.Does.{Body, IsBody, IsConstructorBody}
use Rattle.jn_rules.specs.Plans.{Nothing}
use Rattle.jn_rules.specs.Questions.{Gives, HasMethod}
use Rattle.jn_rules.specs.Headers.{header_plan}
use Rattle.jn_rules.specs.Stmts.{body_plan}
use Rattle.jn_rules.specs.Members.{of_member, BadMethod, no_least, other_signature, MethodRefused, conflict, override, BadField, ConstructorPasses, ConstructorRefused, at_body, at_home, NoName, HasBad, bad_method, bad_field, bad_constructor, BadClass, ClassRefused, method, field, constructor, TooManyEntries, TooManySlots, over_limit, SharingFails, FailsFor, FailsAt}
use Rattle.jn_rules.specs.Verdict.{TypesPass, MembersPass, LimitsPass, HeadersPass, HeadersRefuse, table, headers, members, entries, slots, constraints, HeadersVerdict, HasMain, BodiesPass, TreePasses, TreeRefuses, twice, headers as of_headers, bodies, main, TreeVerdict}
use Rattle.jn_rules.proofs.PlanLaws.{plan_one, plan_there}
use Rattle.jn_laws.specs.Surely.{Surely}
use Rattle.jn_laws.proofs.Declarations.{field_names, method_names, method_named, field_named}
use Rattle.jn_laws.proofs.Universes.{first_path, first_name}
use Rattle.jn_base.specs.ProgramNames.{IsNamed}
use Rattle.jn_rule_laws.specs.LawsOfRules.{HasOneVerdict}
use Rattle.jn_rule_laws.proofs.Firsts.{IsKnown, first_name_once, first_path_once}
use Rattle.jn_rule_laws.proofs.RepliesOne.{body_once, constructor_once, replies_one}
use Rattle.jn_rule_laws.proofs.ResolveThere.{by_cases}
use Rattle.jn_rule_laws.proofs.Replies.{replies_there}

abbrev Answer : Type 0
Answer = Result Nothing Refusal

abbrev passing : Answer
passing = Ok tt

abbrev refusing : Refusal → Answer
refusing r = Err r

same_refusal : (r s : Refusal) → refusing r ≡ refusing s → r ≡ s
same_refusal r s e = cc

not_both_answers : (r : Refusal) → refusing r ≡ passing → ⊥
not_both_answers r e = cc e

module _ (p : Program) (once : duplicates p ≡ []) (its : IsNamed p) where
  declares : TablePasses p → DeclarationsPass p
  declares t = record { once = once; table = t }

  known_paths : (T : Path → Type 0) → ((R : Path) → T R → InUniverse p R) → (R S : Path) → IsFirst p T R → IsFirst p T S → R ≡ S
  known_paths T in_it = first_path_once p its.distinct T (λ R t. universe_named p its.paths R (in_it R t))

  -- ---- members

  has_known : (R : Path) (m : Name) → HasMethod p m R → IsKnown p m
  has_known R m h = its.methods h.0 m h.1.method h.1.at

  bad_known : (R : Path) (m : Name) → BadMethod p R m → IsKnown p m
  bad_known R m (no_least h n) = has_known R m h
  bad_known R m (other_signature b c h k n) = its.methods b.class m b.method h.at

  first_bad : (R : Path) (m n : Name) → IsFirstName p (BadMethod p R) m → IsFirstName p (BadMethod p R) n → m ≡ n
  first_bad R = first_name_once p its.distinct (BadMethod p R) (bad_known R)

  first_field : (R : Path) (f g : Name) → IsFirstName p (BadField p R) f → IsFirstName p (BadField p R) g → f ≡ g
  first_field R = first_name_once p its.distinct (BadField p R) (λ f b. its.fields b.one f b.at_one.field b.at_one.at)

  method_refused_once : DeclarationsPass p → (R : Path) (m : Name) (r s : Refusal) → MethodRefused p R m r → MethodRefused p R m s → r ≡ s
  method_refused_once ok R m r s (conflict at h n k e) (conflict to i o l f) =
      e ∙ ap (λ (x : Place). of_member rule.E09 R x m) (one_home p once R at to k l) ∙ sym f
  method_refused_once ok R m r s (conflict at h n k e) (override b c i l d f) = absurd (n b.class i.least)
  method_refused_once ok R m r s (override b c i l d f) (conflict at h n k e) = absurd (n b.class i.least)
  method_refused_once ok R m r s (override b c i l d f) (override b' c' i' l' d' f') =
      f ∙ ap (λ (x : Body). of_member rule.E11 R x.method.name.at m) (body_once p ok its R m b b' i i') ∙ sym f'

  constructor_refused_once : DeclarationsPass p → (C : Name) (P : Path) (r s : Refusal) → ConstructorRefused p C P r → ConstructorRefused p C P s → r ≡ s
  constructor_refused_once ok C P r s (at_body b n h e) (at_body c o k f) =
      e ∙ ap (λ (x : Body). of_member rule.E11 (C ∷ P) x.method.name.at C) (constructor_once p ok its (C ∷ P) b c h k) ∙ sym f
  constructor_refused_once ok C P r s (at_body b n h e) (at_home at o m k f) = absurd (m b h)
  constructor_refused_once ok C P r s (at_home at o m k f) (at_body b n h e) = absurd (m b h)
  constructor_refused_once ok C P r s (at_home at o m k f) (at_home to o' m' k' f') =
      f ∙ ap (λ (x : Place). of_member rule.E11 (C ∷ P) x C) (one_home p once (C ∷ P) at to k k') ∙ sym f'

  class_refused_once : DeclarationsPass p → (R : Path) (r s : Refusal) → ClassRefused p R r → ClassRefused p R s → r ≡ s
  class_refused_once ok R r s (method m f h) (method n g k) =
      method_refused_once ok R m r s h (subst (λ (x : Name). MethodRefused p R x s) (sym (first_bad R m n f g)) k)
  class_refused_once ok R r _ (method m f h) (field g at n k i) = absurd (n m f.holds)
  class_refused_once ok _ r s (method m f h) (constructor n o k) = absurd (n m f.holds)
  class_refused_once ok R _ s (field g at n k i) (method m f h) = absurd (n m f.holds)
  class_refused_once ok R _ _ (field f at n k i) (field g to o l j) =
      ap (λ (x : Place). of_member rule.E10 R x f) (one_home p once R at to i j) ∙ ap (of_member rule.E10 R to) (first_field R f g k l)
  class_refused_once ok _ _ s (field f at n k i) (constructor m o l) = absurd (o f k.holds)
  class_refused_once ok _ r s (constructor n o k) (method m f h) = absurd (n m f.holds)
  class_refused_once ok _ r _ (constructor m o l) (field f at n k i) = absurd (o f k.holds)
  class_refused_once ok _ r s (constructor {C = C} {P = P} n o k) (constructor m q l) = constructor_refused_once ok C P r s k l

  -- ---- the first of some classes

  first_class : (R S : Path) → IsFirst p (BadClass p) R → IsFirst p (BadClass p) S → R ≡ S
  first_class = known_paths (BadClass p) (λ R b. b.class.universe)

  first_slots : (R S : Path) → IsFirst p (TooManySlots p) R → IsFirst p (TooManySlots p) S → R ≡ S
  first_slots = known_paths (TooManySlots p) (λ R b. b.class.universe)

  class_at : DeclarationsPass p → (R S : Path) → R ≡ S → (r s : Refusal) → ClassRefused p R r → ClassRefused p S s → r ≡ s
  class_at ok R S e r s h k = class_refused_once ok S r s (subst (λ (T : Path). ClassRefused p T r) e h) k

  first_fail : (R S : Path) → IsFirst p (FailsAt p) R → IsFirst p (FailsAt p) S → R ≡ S
  first_fail = known_paths (FailsAt p) (λ R b. b.1.1.class.universe)

  fail_known : (R : Path) (m : Name) → FailsFor p R m → IsKnown p m
  fail_known R m f = its.methods f.0.class m f.0.method f.1.body.at

  sharing_refusal : Path → Name → Body → Refusal
  sharing_refusal R m b = of_member rule.E21 R b.method.name.at m

  at_constraint : DeclarationsPass p → (R S : Path) (m n : Name) (b c : Body) → IsFirst p (FailsAt p) R → IsFirst p (FailsAt p) S
      → IsFirstName p (FailsFor p R) m → IsFirstName p (FailsFor p S) n → SharingFails p R m b → SharingFails p S n c
      → sharing_refusal R m b ≡ sharing_refusal S n c
  at_constraint ok R S m n b c f g i j x y = same_class (first_fail R S f g) where
    same_class : R ≡ S → sharing_refusal R m b ≡ sharing_refusal S n c
    same_class e =
        let k : m ≡ n = first_name_once p its.distinct (FailsFor p S) (fail_known S) m n (subst (λ (T : Path). IsFirstName p (FailsFor p T) m) e i) j in
        let h : IsBody p S n b = subst (λ (z : Name). IsBody p S z b) k (subst (λ (T : Path). IsBody p T m b) e x.body) in
        ap (λ (T : Path). sharing_refusal T m b) e ∙ ap (λ (z : Name). sharing_refusal S z b) k ∙ ap (sharing_refusal S n) (body_once p ok its S n b c h y.body)

  -- ---- one refusal

  not_both_headers : DeclarationsPass p → (r : Refusal) → Gives p (header_plan p) (Err r) → Gives p (header_plan p) (Ok tt) → ⊥
  not_both_headers ok r g h = not_both_answers r (plan_one (replies_one p ok its) (header_plan p) (Err r) (Ok tt) g h)

  headers_refused_once : (r s : Refusal) → HeadersRefuse p r → HeadersRefuse p s → r ≡ s
  unfolding sharing_refusal
  headers_refused_once r s (table t) (table t') = one_declarations_refusal p its.distinct its.paths r s (declared once t) (declared once t')
  headers_refused_once r s (table t) (headers t' g') = absurd (refused_or_passed p r t t')
  headers_refused_once r s (table t) (members R' t' f' c') = absurd (refused_or_passed p r t t'.table)
  headers_refused_once r s (table t) (entries t' m' e') = absurd (refused_or_passed p r t t'.types.table)
  headers_refused_once r s (table t) (slots R' at' t' n' f' h' e') = absurd (refused_or_passed p r t t'.types.table)
  headers_refused_once r s (table t) (constraints R' m' b' t' f' n' x' e') = absurd (refused_or_passed p r t t'.members.types.table)
  headers_refused_once r s (headers t g) (table t') = absurd (refused_or_passed p s t' t)
  headers_refused_once r s (headers t g) (headers t' g') = same_refusal r s (plan_one (replies_one p (record { once = once; table = t }) its) (header_plan p) (Err r) (Err s) g g')
  headers_refused_once r s (headers t g) (members R' t' f' c') = absurd (not_both_headers (declares t) r g t'.headers)
  headers_refused_once r s (headers t g) (entries t' m' e') = absurd (not_both_headers (declares t) r g t'.types.headers)
  headers_refused_once r s (headers t g) (slots R' at' t' n' f' h' e') = absurd (not_both_headers (declares t) r g t'.types.headers)
  headers_refused_once r s (headers t g) (constraints R' m' b' t' f' n' x' e') = absurd (not_both_headers (declares t) r g t'.members.types.headers)
  headers_refused_once r s (members R t f c) (table t') = absurd (refused_or_passed p s t' t.table)
  headers_refused_once r s (members R t f c) (headers t' g') = absurd (not_both_headers (declares t') s g' t.headers)
  headers_refused_once r s (members R t f c) (members R' t' f' c') = class_at (declares t.table) R R' (first_class R R' f f') r s c c'
  headers_refused_once r s (members R t f c) (entries t' m' e') = absurd (t'.members R f.holds)
  headers_refused_once r s (members R t f c) (slots R' at' t' n' f' h' e') = absurd (t'.members R f.holds)
  headers_refused_once r s (members R t f c) (constraints R' m' b' t' f' n' x' e') = absurd (t'.members.members R f.holds)
  headers_refused_once r s (entries t m e) (table t') = absurd (refused_or_passed p s t' t.types.table)
  headers_refused_once r s (entries t m e) (headers t' g') = absurd (not_both_headers (declares t') s g' t.types.headers)
  headers_refused_once r s (entries t m e) (members R' t' f' c') = absurd (t.members R' f'.holds)
  headers_refused_once r s (entries t m e) (entries t' m' e') = e ∙ sym e'
  headers_refused_once r s (entries t m e) (slots R' at' t' n' f' h' e') = absurd (n' m)
  headers_refused_once r s (entries t m e) (constraints R' m' b' t' f' n' x' e') = absurd (t'.entries m)
  headers_refused_once r s (slots R at t n f h e) (table t') = absurd (refused_or_passed p s t' t.types.table)
  headers_refused_once r s (slots R at t n f h e) (headers t' g') = absurd (not_both_headers (declares t') s g' t.types.headers)
  headers_refused_once r s (slots R at t n f h e) (members R' t' f' c') = absurd (t.members R' f'.holds)
  headers_refused_once r s (slots R at t n f h e) (entries t' m' e') = absurd (n m')
  headers_refused_once r s (slots R at t n f h e) (slots R' at' t' n' f' h' e') = e ∙ ap (over_limit limit.Slots) (one_home p once R at at' h (subst (λ (S : Path). IsHome p S at') (sym (first_slots R R' f f')) h')) ∙ sym e'
  headers_refused_once r s (slots R at t n f h e) (constraints R' m' b' t' f' n' x' e') = absurd (t'.slots R f.holds)
  headers_refused_once r s (constraints R m b t f n x e) (table t') = absurd (refused_or_passed p s t' t.members.types.table)
  headers_refused_once r s (constraints R m b t f n x e) (headers t' g') = absurd (not_both_headers (declares t') s g' t.members.types.headers)
  headers_refused_once r s (constraints R m b t f n x e) (members R' t' f' c') = absurd (t.members.members R' f'.holds)
  headers_refused_once r s (constraints R m b t f n x e) (entries t' m' e') = absurd (t.entries m')
  headers_refused_once r s (constraints R m b t f n x e) (slots R' at' t' n' f' h' e') = absurd (t.slots R' f'.holds)
  headers_refused_once r s (constraints R m b t f n x e) (constraints R' m' b' t' f' n' x' e') = e ∙ at_constraint (declares t.members.types.table) R R' m m' b b' f f' n n' x x' ∙ sym e'

  headers_not_both : (r : Refusal) → HeadersRefuse p r → HeadersPass p → ⊥
  headers_not_both r (table t) h = refused_or_passed p r t h.limits.members.types.table
  headers_not_both r (headers t g) h = not_both_headers (declares t) r g h.limits.members.types.headers
  headers_not_both r (members R t f c) h = h.limits.members.members R f.holds
  headers_not_both r (entries t m e) h = h.limits.entries m
  headers_not_both r (slots R at t n f k e) h = h.limits.slots R f.holds
  headers_not_both r (constraints R m b t f n x e) h = h.constraints R f.holds

  headers_once : (a b : Answer) → HeadersVerdict p a → HeadersVerdict p b → a ≡ b
  headers_once (Ok x) (Ok y) h k = refl
  headers_once (Ok x) (Err s) h k = absurd (headers_not_both s k h)
  headers_once (Err r) (Ok y) h k = absurd (headers_not_both r h k)
  headers_once (Err r) (Err s) h k = ap refusing (headers_refused_once r s h k)

  -- ---- surely one

  -- each path of the universe has a home
  at_home_of : (R : Path) → InUniverse p R → ((at : Place) → IsHome p R at → ⊥) → ⊥
  at_home_of R u deny = let h = home_of p R u in deny h.at h.home

  named_method : (R : Path) (m : Name) → BadMethod p R m → Among (method_names p) m
  named_method R m (no_least h n) = method_named p h.0 m h.1.method h.1.at
  named_method R m (other_signature b c h k n) = method_named p b.class m b.method h.at

  method_there : (R : Path) → InUniverse p R → (m : Name) → BadMethod p R m → Surely ((r : Refusal) × MethodRefused p R m r)
  method_there R u m (no_least h n) deny = at_home_of R u (λ at k. deny (_, conflict at h n k refl))
  method_there R u m (other_signature b c h k n) deny = deny (_, override b c h k n refl)

  constructor_there : (C : Name) (P : Path) → InUniverse p (C ∷ P) → (ConstructorPasses p C P → ⊥) → Surely ((r : Refusal) × ConstructorRefused p C P r)
  constructor_there C P u n deny =
      by_cases (λ (b : (b : Body) × IsConstructorBody p (C ∷ P) b). deny (_, at_body b.0 n b.1 refl))
      (λ o. at_home_of (C ∷ P) u (λ at k. deny (_, at_home at n (λ b h. o (b, h)) k refl)))

  -- what is neither a bad method nor a bad field is the constructor
  last_bad : (R : Path) → InUniverse p R → HasBad p R → NoName (BadMethod p R) → NoName (BadField p R) → Surely ((r : Refusal) × ClassRefused p R r)
  last_bad R u (bad_method m b) n o deny = n m b
  last_bad R u (bad_field f b) n o deny = o f b
  last_bad _ u (bad_constructor {C = C} {P = P} b) n o deny = constructor_there C P u b (λ r. deny (r.0, constructor n o r.1))

  named_field : (R : Path) (f : Name) → BadField p R f → Among (field_names p) f
  named_field R f b = field_named p b.one f b.at_one.field b.at_one.at

  field_there : (R : Path) → InUniverse p R → NoName (BadMethod p R) → (f : Name) → BadField p R f → Surely ((r : Refusal) × ClassRefused p R r)
  field_there R u n f b deny =
      first_name p (BadField p R) (field_names p) (named_field R) f b (λ g.
      at_home_of R u (λ at k. deny (_, field g.0 at n g.1 k)))

  first_method_there : (R : Path) → InUniverse p R → (m : Name) → BadMethod p R m → Surely ((r : Refusal) × ClassRefused p R r)
  first_method_there R u m b deny =
      first_name p (BadMethod p R) (method_names p) (named_method R) m b (λ n.
      method_there R u n.0 n.1.holds (λ r. deny (r.0, method n.0 n.1 r.1)))

  class_refused_there : (R : Path) → BadClass p R → Surely ((r : Refusal) × ClassRefused p R r)
  class_refused_there R bad deny =
      let u = bad.class.universe in
      by_cases (λ (b : (m : Name) × BadMethod p R m). first_method_there R u b.0 b.1 deny)
      (λ n. by_cases (λ (b : (f : Name) × BadField p R f). field_there R u (λ m c. n (m, c)) b.0 b.1 deny)
      (λ o. last_bad R u bad.bad (λ m c. n (m, c)) (λ f c. o (f, c)) deny))

  -- the class table
  refused : Type 0
  refused = (r : Refusal) × TableRefuses p r

  many_there : (refused → ⊥) → NoneIs (IsOver p)
  unfolding refused
  many_there deny R o = at_home_of R o.universe (λ at h. deny (_, too_many R at o h refl))

  cycle_there : (refused → ⊥) → NoneIs (IsCycle p)
  unfolding refused
  cycle_there deny R c =
      first_path p (IsCycle p) (λ Q x. x.0) R c (λ f. at_home_of f.0 f.1.holds.0 (λ at h. deny (_, cycle f.0 at (many_there deny) f.1 h refl)))

  mixed_there : (refused → ⊥) → NoneIs (IsMixed p)
  unfolding refused
  mixed_there deny R c =
      first_path p (IsMixed p) (λ Q x. x.0) R c (λ f. at_home_of f.0 f.1.holds.0 (λ at h.
      deny (_, two_kinds f.0 at (many_there deny) (cycle_there deny) f.1 h refl)))

  unknown_there : (refused → ⊥) → NoneIs (HasUnknown p)
  unfolding refused
  unknown_there deny R u =
      first_path p (HasUnknown p) (λ Q x. declared_in_universe p Q x.1.decl x.1.stands) R u (λ f.
      deny (_, unknown f.0 f.1.holds.0 (many_there deny) (cycle_there deny) (mixed_there deny) f.1 f.1.holds.1 refl))

  table_passes : (refused → ⊥) → TablePasses p
  table_passes deny =
      record { within = many_there deny; no_cycle = cycle_there deny; one_kind = mixed_there deny; all_known = unknown_there deny }

  -- ---- step by step

  slots_refuse : MembersPass p → (TooManyEntries p → ⊥) → (R : Path) → TooManySlots p R → Surely ((r : Refusal) × HeadersRefuse p r)
  slots_refuse m n R t deny =
      first_path p (TooManySlots p) (λ Q x. x.class.universe) R t (λ f.
      at_home_of f.0 f.1.holds.class.universe (λ at h. deny (_, slots f.0 at m n f.1 h refl)))

  named_fail : (R : Path) (m : Name) → FailsFor p R m → Among (method_names p) m
  named_fail R m x = method_named p x.0.class m x.0.method x.1.body.at

  constraints_refuse : LimitsPass p → (R : Path) → FailsAt p R → Surely ((r : Refusal) × HeadersRefuse p r)
  constraints_refuse l R x deny =
      first_path p (FailsAt p) (λ Q y. y.1.1.class.universe) R x (λ f.
      first_name p (FailsFor p f.0) (method_names p) (named_fail f.0) f.1.holds.0 f.1.holds.1 (λ m.
      deny (_, constraints f.0 m.0 m.1.holds.0 l f.1 m.1 m.1.holds.1 refl)))

  headers_there : Surely ((a : Answer) × HeadersVerdict p a)
  unfolding refused
  headers_there deny = by_types (table_passes (λ r. deny (Err r.0, table r.1))) where
    refuse : (r : Refusal) × HeadersRefuse p r → ⊥
    refuse r = deny (Err r.0, r.1)

    by_constraints : LimitsPass p → ⊥
    by_constraints l =
        by_cases (λ (x : (R : Path) × FailsAt p R). constraints_refuse l x.0 x.1 refuse)
        (λ n. deny (Ok tt, record { limits = l; constraints = λ R x. n (R, x) }))

    by_limits : MembersPass p → ⊥
    by_limits m =
        by_cases (λ (e : TooManyEntries p). refuse (_, entries m e refl))
        (λ n. by_cases (λ (x : (R : Path) × TooManySlots p R). slots_refuse m n x.0 x.1 refuse)
        (λ o. by_constraints (record { members = m; entries = n; slots = λ R x. o (R, x) })))

    by_members : TypesPass p → ⊥
    by_members t =
        by_cases (λ (x : (R : Path) × BadClass p R). first_path p (BadClass p) (λ Q b. b.class.universe) x.0 x.1 (λ f.
        class_refused_there f.0 f.1.holds (λ r. refuse (_, members f.0 t f.1 r.1))))
        (λ n. by_limits (record { types = t; members = λ R b. n (R, b) }))

    by_types : TablePasses p → ⊥
    by_types t = plan_there (replies_there p) (header_plan p) at where
      at : (a : Answer) → Gives p (header_plan p) a → ⊥
      at (Err r) g = refuse (r, headers t g)
      at (Ok x) g = by_members (record { table = t; headers = g })

  pub one_headers : HasOneVerdict (HeadersVerdict p)
  one_headers = record { one = headers_once; there = headers_there }

-- ---- a program

module _ (p : Program) (its : IsNamed p) where
  same_declarations : (r s : Refusal) → DeclarationsRefuse p r → DeclarationsRefuse p s → r ≡ s
  same_declarations = one_declarations_refusal p its.distinct its.paths

  not_once : (r : Refusal) → IsFirstDuplicate p r → duplicates p ≡ [] → ⊥
  not_once r d e = clash (sym d.is ∙ e) where
    clash : r ∷ d.others ≡ [] → ⊥
    clash h = cc h

  -- the bodies, where the headers pass
  body_outcome : duplicates p ≡ [] → HeadersPass p → (a b : Answer) → Gives p (body_plan p) a → Gives p (body_plan p) b → a ≡ b
  body_outcome e h = plan_one (replies_one p (record { once = e; table = h.limits.members.types.table }) its) (body_plan p)

  not_both_bodies : duplicates p ≡ [] → HeadersPass p → (r : Refusal) → Gives p (body_plan p) (Err r) → Gives p (body_plan p) (Ok tt) → ⊥
  not_both_bodies e h r g k = not_both_answers r (body_outcome e h (Err r) (Ok tt) g k)

  not_both_of_headers : duplicates p ≡ [] → (r : Refusal) → HeadersRefuse p r → HeadersPass p → ⊥
  not_both_of_headers e r h k = not_both_answers r ((one_headers p e its).one (Err r) (Ok tt) h k)

  tree_refused_once : (r s : Refusal) → TreeRefuses p r → TreeRefuses p s → r ≡ s
  tree_refused_once r s (twice d) (twice c) = same_declarations r s (declared_twice d) (declared_twice c)
  tree_refused_once r s (twice d) (of_headers e h) = absurd (not_once r d e)
  tree_refused_once r s (twice d) (bodies e h g) = absurd (not_once r d e)
  tree_refused_once r s (twice d) (main b n e) = absurd (not_once r d b.once)
  tree_refused_once r s (of_headers e h) (twice d) = absurd (not_once s d e)
  tree_refused_once r s (of_headers e h) (of_headers f k) = same_refusal r s ((one_headers p e its).one (Err r) (Err s) h k)
  tree_refused_once r s (of_headers e h) (bodies f k g) = absurd (not_both_of_headers e r h k)
  tree_refused_once r s (of_headers e h) (main b n f) = absurd (not_both_of_headers e r h b.headers)
  tree_refused_once r s (bodies e h g) (twice d) = absurd (not_once s d e)
  tree_refused_once r s (bodies e h g) (of_headers f k) = absurd (not_both_of_headers f s k h)
  tree_refused_once r s (bodies e h g) (bodies f k i) = same_refusal r s (body_outcome e h (Err r) (Err s) g i)
  tree_refused_once r s (bodies e h g) (main b n f) = absurd (not_both_bodies e h r g b.bodies)
  tree_refused_once r s (main b n f) (twice d) = absurd (not_once s d b.once)
  tree_refused_once r s (main b n f) (of_headers e h) = absurd (not_both_of_headers e s h b.headers)
  tree_refused_once r s (main b n f) (bodies e h g) = absurd (not_both_bodies e h s g b.bodies)
  tree_refused_once r s (main b n f) (main c m e) = f ∙ sym e

  tree_not_both : (r : Refusal) → TreeRefuses p r → TreePasses p → ⊥
  tree_not_both r (twice d) t = not_once r d t.bodies.once
  tree_not_both r (of_headers e h) t = not_both_of_headers e r h t.bodies.headers
  tree_not_both r (bodies e h g) t = not_both_bodies e h r g t.bodies.bodies
  tree_not_both r (main b n f) t = n t.main

  tree_once : (a b : Answer) → TreeVerdict p a → TreeVerdict p b → a ≡ b
  tree_once (Ok x) (Ok y) h k = refl
  tree_once (Ok x) (Err s) h k = absurd (tree_not_both s k h)
  tree_once (Err r) (Ok y) h k = absurd (tree_not_both r h k)
  tree_once (Err r) (Err s) h k = ap refusing (tree_refused_once r s h k)

  main_there : BodiesPass p → Surely ((a : Answer) × TreeVerdict p a)
  main_there b deny =
      by_cases (λ (m : HasMain p). deny (Ok tt, record { bodies = b; main = m })) (λ n. deny (Err _, main b n refl))

  bodies_there : duplicates p ≡ [] → HeadersPass p → (a : Answer) → Gives p (body_plan p) a → Surely ((o : Answer) × TreeVerdict p o)
  bodies_there e h (Err r) g deny = deny (Err r, bodies e h g)
  bodies_there e h (Ok x) g deny = main_there (record { once = e; headers = h; bodies = g }) deny

  by_headers : duplicates p ≡ [] → (a : Answer) → HeadersVerdict p a → Surely ((o : Answer) × TreeVerdict p o)
  by_headers e (Err r) h deny = deny (Err r, of_headers e h)
  by_headers e (Ok x) h deny = plan_there (replies_there p) (body_plan p) (λ a g. bodies_there e h a g deny)

  by_duplicates : (rs : List Refusal) → duplicates p ≡ rs → Surely ((o : Answer) × TreeVerdict p o)
  by_duplicates [] e deny = (one_headers p e its).there (λ h. by_headers e h.0 h.1 deny)
  by_duplicates (r ∷ rs) e deny = deny (Err r, twice (record { others = rs; is = e }))

  pub one_tree : HasOneVerdict (TreeVerdict p)
  one_tree = record { one = tree_once; there = by_duplicates (duplicates p) refl }
